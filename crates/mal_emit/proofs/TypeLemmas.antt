-- The machine that finds types runs as the check does; and the types of the shared phrases.
use Rattle.std.proofs.Common.{◌≡◌, Bool, true, false, cond, ℕ, List, [], ◌∷◌, ◌++◌, length, map, Option, Some, None, Ok, refl, ap, sym, ◌∙◌, subst}
use Rattle.std.specs.Prelude.{◌==◌, ◌&&◌, not, is_some, slice_get, Result, Err, ok_or}
use Rattle.std.specs.List.{AllByRecursion, list_all}
use Rattle.std.specs.Option.{option_map, option_and_then}
use Rattle.std.proofs.lemmas.Bool.{and_from}
use Rattle.std.proofs.lemmas.Option.{same_Some}
use Rattle.std.specs.Result.{result_ok}
use Rattle.cell_core.specs.declared.cell.Cell.TheVariants.{Bit, Oid}
use Rattle.cell_core.specs.declared.cell.Kind.{Kind}
use Rattle.cell_core.specs.declared.cell.Kind.TheVariants as kind
use Rattle.cell_core.specs.declared.operator.Instr.{Instr}
use Rattle.cell_core.specs.declared.operator.Op.{Op}
use Rattle.cell_core.specs.declared.operator.Op.TheVariants as op
use Rattle.cell_core.specs.declared.operator.Arg.{Arg}
use Rattle.cell_core.specs.declared.operator.Arg.TheVariants.{Const, Var}
use Rattle.cell_core.specs.Calc.{all_or_none}
use Rattle.cell_core.specs.Forms.{argument_count}
use Rattle.cell_core.specs.Kinds.{ValueType, OneOf, BatOf, kind_of}
use Rattle.cell_core.specs.declared.table.Db.{Db}
use Rattle.mal_meaning.specs.declared.plan.Out.{Out}
use Rattle.mal_check.specs.declared.error.PlanError.{PlanError}
use Rattle.mal_check.specs.declared.error.PlanError.TheVariants.{KindsDiffer, WrongCount, UnknownVar, NoOutput}
use Rattle.mal_check.specs.Checked.{arg_type, arg_types, type_over, type_at, instr_type, types_from, fault_or_else, is_known, is_empty, are_below, fault_with, plan_fault}
use Rattle.mal_check.specs.Runnable.{FitsDb, fits_columns_of}
use Rattle.mal_emit.specs.Machines.{typing, checking, fitted_type, arg_in, args_in, counted_type, result, ran, Holds, Gives, GivesAll}
use Rattle.mal_emit.specs.Phrases.{gather, counted, keep}
use Rattle.mal_emit.proofs.MachineLemmas.{Ref, At, Lit, pick, picked, rest_holds, first_holds}
use Rattle.mal_emit.proofs.GatherLemmas.{Joins, gather_holds}
use Rattle.mal_emit.proofs.GivesLemmas.{emits_gives, then_some, then_all}
use Rattle.mal_emit.proofs.PlanLemmas.{showing}

-- ## The check

arg_is : (types : List ValueType) (arg : Arg) → arg_in typing types arg ≡ arg_type types arg
arg_is types (Const cell) = refl
arg_is types (Var n) = refl

args_are : (types : List ValueType) (args : List Arg) → map (arg_in typing types) args ≡ map (arg_type types) args
args_are types [] = refl
args_are types (arg ∷ args) = ap (λ o. o ∷ map (arg_in typing types) args) (arg_is types arg) ∙ ap (λ r. arg_type types arg ∷ r) (args_are types args)

type_is : (n : ℕ) (operator : Op) (args : List Arg) (o : Option (List ValueType)) → option_and_then (counted_type operator args) o ≡ result_ok (type_at n operator args o)
type_is n operator args None = refl
type_is n operator args (Some types) = again (length args == argument_count operator) (type_over operator args types)
  where
    again : (b : Bool) (o : Option ValueType) → cond b o None ≡ result_ok (cond b (ok_or o (KindsDiffer n)) (Err (WrongCount n)))
    again true None = refl
    again true (Some t) = refl
    again false o = refl

result_is : (types : List ValueType) (instr : Instr) → result typing types instr ≡ result_ok (instr_type types instr)
unfolding instr_type
result_is types instr =
    ap (λ os. option_and_then (counted_type instr.op instr.args) (all_or_none os)) (args_are types instr.args)
    ∙ type_is (length types) instr.op instr.args (arg_types types instr.args)

-- the machine that finds types runs as the check does
pub ran_is_checked : (types : List ValueType) (instrs : List Instr) → ran typing types instrs ≡ result_ok (types_from types instrs)
ran_is_checked types [] = refl
ran_is_checked types (i ∷ is) =
    ap (option_and_then (λ t. ran typing (types ++ t ∷ []) is)) (result_is types i) ∙ again (instr_type types i) (λ t. ran_is_checked (types ++ t ∷ []) is)
  where
    again : (r : Result ValueType PlanError) → ((t : ValueType) → ran typing (types ++ t ∷ []) is ≡ result_ok (types_from (types ++ t ∷ []) is))
        → option_and_then (λ t. ran typing (types ++ t ∷ []) is) (result_ok r) ≡ result_ok (fault_or_else (λ t. types_from (types ++ t ∷ []) is) r)
    again (Ok t) h = h t
    again (Err e) h = refl

-- ## Plans that fit

module _ (db : Db) where
  fits_step : (operator : Op) (args : List Arg) (o : Option (List ValueType)) (t : ValueType) → option_and_then (fitted_type db operator args) o ≡ Some t
      → (fits_columns_of db operator args ≡ true) × (option_and_then (counted_type operator args) o ≡ Some t)
  fits_step operator args None t e = cc
  fits_step operator args (Some types) t e = by_case (fits_columns_of db operator args) refl e
    where
      by_case : (b : Bool) → fits_columns_of db operator args ≡ b → cond b (counted_type operator args types) None ≡ Some t → (fits_columns_of db operator args ≡ true) × (counted_type operator args types ≡ Some t)
      by_case true f g = (f, g)
      by_case false f g = cc

  same_args : (types : List ValueType) (args : List Arg) → args_in (checking db) types args ≡ args_in typing types args
  same_args types [] = refl
  same_args types (Const cell ∷ args) = ap (λ o. option_and_then (λ y. option_map (λ ys. y ∷ ys) o) (Some (OneOf (kind_of cell)))) (same_args types args)
  same_args types (Var n ∷ args) = ap (λ o. option_and_then (λ y. option_map (λ ys. y ∷ ys) o) (slice_get types n)) (same_args types args)

  -- a plan that fits has types, and its binds fit
  pub checking_types : (types : List ValueType) (instrs : List Instr) (found : List ValueType) → ran (checking db) types instrs ≡ Some found
      → (ran typing types instrs ≡ Some found) × (list_all (λ (i : Instr). fits_columns_of db i.op i.args) instrs ≡ true)
  checking_types types [] found e = (e, refl)
  checking_types types (i ∷ is) found e = by_result (result (checking db) types i) refl e (λ t h. checking_types (types ++ t ∷ []) is found h)
    where
      by_result : (o : Option ValueType) → result (checking db) types i ≡ o → option_and_then (λ t. ran (checking db) (types ++ t ∷ []) is) o ≡ Some found
          → ((t : ValueType) → ran (checking db) (types ++ t ∷ []) is ≡ Some found → (ran typing (types ++ t ∷ []) is ≡ Some found) × (list_all (λ (i : Instr). fits_columns_of db i.op i.args) is ≡ true))
          → (ran typing types (i ∷ is) ≡ Some found) × (list_all (λ (i : Instr). fits_columns_of db i.op i.args) (i ∷ is) ≡ true)
      by_result None f g again = cc
      by_result (Some t) f g again =
          let parts = fits_step i.op i.args (args_in typing types i.args) t (ap (option_and_then (fitted_type db i.op i.args)) (sym (same_args types i.args)) ∙ f) in
          let rest = again t g in
          (ap (option_and_then (λ t. ran typing (types ++ t ∷ []) is)) parts.1 ∙ rest.0, and_from (fits_columns_of db i.op i.args) _ parts.0 rest.1)

  ok_from : (r : Result (List ValueType) PlanError) (found : List ValueType) → result_ok r ≡ Some found → r ≡ Ok found
  ok_from (Ok types) found e = ap Ok (same_Some types found e)
  ok_from (Err error) found e = cc

  all_known : (types : List ValueType) (args : List Arg) (are : List ValueType) → args_in typing types args ≡ Some are → list_all (is_known types) args ≡ true
  all_known types [] are e = refl
  all_known types (arg ∷ args) are e = by_parts (arg_in typing types arg) (args_in typing types args) refl (λ ys g. all_known types args ys g) e
    where
      by_parts : (o : Option ValueType) (p : Option (List ValueType)) → arg_in typing types arg ≡ o → ((ys : List ValueType) → p ≡ Some ys → list_all (is_known types) args ≡ true)
          → option_and_then (λ y. option_map (λ ys. y ∷ ys) p) o ≡ Some are → is_known types arg && list_all (is_known types) args ≡ true
      by_parts None p f again g = cc
      by_parts (Some t) None f again g = cc
      by_parts (Some t) (Some ts) f again g = ap (λ o. is_some o && list_all (is_known types) args) (sym (arg_is types arg) ∙ f) ∙ again ts refl

  -- a plan whose output shows arguments of these types, and which fits a database, has no fault
  pub fits_and_checked : (instrs : List Instr) (cols : List Arg) (are : List ValueType) (order : List (ℕ × Bool)) (limit : Option ℕ) → Holds (checking db) instrs cols are
      → is_empty cols ≡ false → are_below (length cols) order ≡ true
      → (plan_fault (showing db instrs cols order limit) ≡ None) × FitsDb (showing db instrs cols order limit) db
  fits_and_checked instrs cols are order limit h some below =
      let parts = checking_types [] instrs h.found h.done in (
        ap (fault_with out) (ok_from (types_from [] instrs) h.found (sym (ran_is_checked [] instrs) ∙ parts.0))
            ∙ ap (λ b. cond b (Some NoOutput) (after (not (list_all (is_known h.found) cols && true)) (not (are_below (length cols) order)))) some
            ∙ ap (λ b. after (not (b && true)) (not (are_below (length cols) order))) (all_known h.found cols are (sym (same_args h.found cols) ∙ h.known))
            ∙ ap (λ b. after false (not b)) below,
        parts.1,
      )
    where
      out : Out
      out = (showing db instrs cols order limit).out

      after : Bool → Bool → Option PlanError
      after unknown above = cond unknown (Some (UnknownVar (length h.found))) (cond above (Some (WrongCount (length h.found))) None)

-- ## Phrases

-- a BAT of oids beside oids
abbrev pub oids_type : ValueType
oids_type = BatOf (Some kind.Oid) (Some kind.Oid)

abbrev pub bits_type : ValueType
bits_type = BatOf (Some kind.Oid) (Some kind.Bit)

-- as many of them as there are elements
abbrev pub oid_bats : {X : Type 0} → List X → List ValueType
oid_bats xs = map (λ x. oids_type) xs

module _ (db : Db) where
  pub counted_typed : {args : List Arg} {types : List ValueType} (ref : Ref) (k : Option Kind) → picked (checking db) types ref ≡ BatOf (Some kind.Oid) k → Gives (checking db) args types (counted (pick args ref)) (Some oids_type)
  counted_typed {args} {types} ref k e =
      then_some (emits_gives op.MarkT (ref ∷ Lit (Oid 0) ∷ []) (ap (λ t. (checking db).apply op.MarkT (pick args ref ∷ Const (Oid 0) ∷ []) (t ∷ OneOf (Some kind.Oid) ∷ [])) e)) (λ m. emits_gives op.Reverse (At 0 ∷ []) refl)

  -- oids gathered by oids are oids
  all_join : {X : Type 0} (xs : List X) → AllByRecursion (Joins (checking db) oids_type (λ t. oids_type)) (oid_bats xs)
  all_join [] = tt
  all_join (x ∷ xs) = (λ n r. refl, all_join xs)

  still_oids : {X : Type 0} (xs : List X) → map (λ t. oids_type) (oid_bats xs) ≡ oid_bats xs
  still_oids [] = refl
  still_oids (x ∷ xs) = ap (λ r. oids_type ∷ r) (still_oids xs)

  pub gather_typed : {n : Arg} {rs : List Arg} {X : Type 0} (xs : List X) (before : List Instr) → Holds (checking db) before (n ∷ []) (oids_type ∷ []) → Holds (checking db) before rs (oid_bats xs)
      → Holds (checking db) ((gather n rs).run before).0 ((gather n rs).run before).1 (oid_bats xs)
  gather_typed {n} {rs} {X} xs before h k =
      subst (λ ts. Holds (checking db) ((gather n rs).run before).0 ((gather n rs).run before).1 ts) (still_oids xs) (gather_holds (checking db) oids_type (λ t. oids_type) n rs (oid_bats xs) (all_join xs) before h k)

  pub keep_typed : {v : Arg} {rs : List Arg} {X : Type 0} (xs : List X) → GivesAll (checking db) (v ∷ rs) (bits_type ∷ oid_bats xs) (keep v rs) (Some (oid_bats xs))
  keep_typed {v} {rs} {X} xs =
      then_all (emits_gives op.Select (At 0 ∷ Lit (Bit true) ∷ Lit (Bit true) ∷ Lit (Bit true) ∷ Lit (Bit true) ∷ []) refl)
      (λ s. then_all (counted_typed (At 0) (Some kind.Bit) refl) (λ n. last n s))
    where
      last : (n s : Arg) → GivesAll (checking db) (n ∷ s ∷ v ∷ rs) (oids_type ∷ bits_type ∷ bits_type ∷ oid_bats xs) (gather n rs) (Some (oid_bats xs))
      last n s = record { told = λ before h. gather_typed xs before (first_holds (checking db) h) (rest_holds (checking db) (rest_holds (checking db) (rest_holds (checking db) h))) }
