-- What each optimiser promises of a plan without a fault.
use Rattle.std.proofs.Common.{◌≡◌, ◌+◌, ◌<◌, ℕ, suc, zero, Bool, true, false, List, [], ◌∷◌, ◌++◌, length, Option, Some, None, refl, ap, sym, ◌∙◌, subst, arith}
use Rattle.std.specs.Prelude.{◌&&◌, ◌||◌, slice_get, is_some, IfOk, Result, Ok, Err}
use Rattle.std.specs.List.{list_all}
use Rattle.std.specs.Option.{option_map_or}
use Rattle.std.specs.Cmp.{first_so, second_so}
use Rattle.std.proofs.lemmas.Option.{slice_get_within}
use Rattle.std.proofs.lemmas.Bool.Decides.{Decides-eqb}
use Rattle.cell_core.specs.Forms.{may_overflow}
use Rattle.cell_core.specs.declared.operator.Arg.{Arg}
use Rattle.cell_core.specs.declared.operator.Arg.TheVariants.{Const, Var}
use Rattle.cell_core.specs.declared.operator.Instr.{Instr}
use Rattle.cell_core.specs.declared.table.Db.{Db}
use Rattle.cell_core.specs.Kinds.{ValueType}
use Rattle.mal_meaning.specs.declared.plan.Out.{Out}
use Rattle.mal_meaning.specs.declared.plan.Plan.{Plan}
use Rattle.mal_check.specs.Checked.{is_known, passes, plan_fault}
use Rattle.mal_check.specs.Runnable.{FitsDb}
use Rattle.mal_emit.specs.Machines.{typing}
use Rattle.mal_opt.specs.Live.{is_result, uses, is_shown, is_alive, Leads, Shown, Overflows, Over}
use Rattle.mal_opt.specs.Laws.{MeanTheSame, FitsWhere}
use Rattle.mal_opt.specs.Optimisers.{drop_dead}
use Rattle.mal_opt.specs.Passes.{Step, keeping, folding, sharing, dropping, through}
use Rattle.mal_opt.proofs.Runs.{ran_long}
use Rattle.mal_opt.proofs.Checks.{IsFine, IsTyped, typed_from, checked_from, backward}
use Rattle.mal_opt.proofs.Follows.{from_none}
use Rattle.mal_opt.proofs.Lives.{alive_leads, leads_alive}
use Rattle.mal_opt.proofs.Meanings.{IsClosed, all_closed, Keeps, keeping_keeps, folding_keeps, sharing_keeps, meaning_kept}
use Rattle.mal_opt.proofs.Types.{IsTypeSound, keeping_typed, folding_typed, sharing_typed, still_typed, still_fits, KeepsAll, keeping_all, folding_all, sharing_all, dropping_all, fits_instr}

-- what holds of the value holds of what is made
pub ok_is : {X E : Type 0} (r : Result X E) (x : X) (Q : X → Type 0) → IfOk r (λ y. y ≡ x) → Q x → IfOk r Q
ok_is (Ok y) x Q e q = subst Q (sym e) q
ok_is (Err error) x Q e q = tt

-- ## The output names results that are there

or_split : {P : Type 0} (a b : Bool) → (a || b) ≡ true → (a ≡ true → P) → (b ≡ true → P) → P
or_split true b e f g = f refl
or_split false b e f g = g e

false_true : false ≡ true → ⊥
false_true e = cc

module _ (types : List ValueType) where
  known_below : (arg : Arg) (n : ℕ) → is_known types arg ≡ true → is_result n arg ≡ true → n < length types
  known_below (Const cell) n k e = absurd (false_true e)
  known_below (Var m) n k e = subst (λ j. j < length types) (sym ((Decides-eqb n m).0 e)) (by_type (slice_get types m) refl k)
    where
      by_type : (o : Option ValueType) → slice_get types m ≡ o → is_some o ≡ true → m < length types
      by_type None f g = absurd (false_true g)
      by_type (Some t) f g = slice_get_within types m t f

  all_below : (args : List Arg) (n : ℕ) → list_all (is_known types) args ≡ true → uses n args ≡ true → n < length types
  all_below [] n k e = absurd (false_true e)
  all_below (arg ∷ args) n k e =
      or_split (is_result n arg) (uses n args) e (λ h. known_below arg n (first_so (is_known types arg) (list_all (is_known types) args) k) h)
      (λ h. all_below args n (second_so (is_known types arg) (list_all (is_known types) args) k) h)

  keep_below : (keep : Option Arg) (n : ℕ) → passes (is_known types) keep ≡ true → option_map_or (is_result n) keep false ≡ true → n < length types
  keep_below None n k e = absurd (false_true e)
  keep_below (Some arg) n k e = known_below arg n k e

pub shown_within : (plan : Plan) → IsTyped plan → (n : ℕ) → is_shown n plan.out ≡ true → n < length plan.instrs
shown_within plan typed n s =
    let low : n < length typed.types =
    or_split (uses n plan.out.cols) (option_map_or (is_result n) plan.out.keep false) s (λ h. all_below typed.types plan.out.cols n typed.fine.known h) (λ h. keep_below typed.types plan.out.keep n typed.fine.keep_known h) in
    subst (λ k. n < k) (ran_long typing plan.instrs typed.types typed.ran_types) low

-- ## What is alive is closed

pub alive_closed : (plan : Plan) → IsTyped plan → IsClosed plan (is_alive plan)
alive_closed plan typed = record {
  faulting = λ n instr at e. leads_alive plan n (Overflows n instr at e);
  shown = λ n low s. leads_alive plan n (Shown n low s);
  used = λ m instr at a n u.
      let low : n < m = subst (λ k. n < k) (from_none m) (backward typing [] plan.instrs typed.types m instr n typed.ran_types at u) in
      leads_alive plan n (Over n m instr low at u (alive_leads plan m a));
}

-- ## Passes over a plan without a fault

-- a step that keeps values, types and columns
pub record IsKind (step : Step) : Type 0 where
  pub keeps : (db : Db) → Keeps db step
  pub typed : IsTypeSound step
  pub fits : (db : Db) → KeepsAll (fits_instr db) (fits_instr db) step

pub keeping_kind : IsKind keeping
keeping_kind = record { keeps = λ db. keeping_keeps db; typed = keeping_typed; fits = λ db. keeping_all (fits_instr db) }

pub folding_kind : (step : Step) → IsKind step → IsKind (folding step)
folding_kind step h = record {
  keeps = λ db. folding_keeps db step (h.keeps db);
  typed = folding_typed step h.typed;
  fits = λ db. folding_all (fits_instr db) (fits_instr db) step (h.fits db);
}

pub sharing_kind : (step : Step) → IsKind step → IsKind (sharing step)
sharing_kind step h = record {
  keeps = λ db. sharing_keeps db step (h.keeps db);
  typed = sharing_typed step h.typed;
  fits = λ db. sharing_all (fits_instr db) (fits_instr db) step (h.fits db);
}

module _ (plan : Plan) (none : plan_fault plan ≡ None) where
  pub means : (step : Step) → IsKind step → MeanTheSame plan (through step plan)
  means step h db = meaning_kept db plan (λ n. true) step (h.keeps db) (typed_from plan none) (all_closed plan) (shown_within plan (typed_from plan none))

  pub checks : (step : Step) → IsKind step → plan_fault (through step plan) ≡ None
  checks step h = checked_from (through step plan) (still_typed plan (λ n. true) step h.typed (typed_from plan none) (all_closed plan) (shown_within plan (typed_from plan none)))

  pub fits : (step : Step) → IsKind step → FitsWhere plan (through step plan)
  fits step h db fit = still_fits plan db step (h.fits db) fit

  pub drop_means : MeanTheSame plan (drop_dead plan)
  drop_means db = meaning_kept db plan (is_alive plan) keeping (keeping_keeps db) (typed_from plan none) (alive_closed plan (typed_from plan none)) (shown_within plan (typed_from plan none))

  pub drop_checks : plan_fault (drop_dead plan) ≡ None
  drop_checks = checked_from (drop_dead plan) (still_typed plan (is_alive plan) keeping keeping_typed (typed_from plan none) (alive_closed plan (typed_from plan none)) (shown_within plan (typed_from plan none)))

  pub drop_fits : FitsWhere plan (drop_dead plan)
  drop_fits db fit = still_fits plan db (dropping (is_alive plan) keeping) (dropping_all (fits_instr db) (fits_instr db) (is_alive plan) keeping (keeping_all (fits_instr db))) fit
