-- The result of a pass follows the given plan: after the instructions that stay, each place has the value of the result that it replaces.
use Rattle.std.proofs.Common.{◌≡◌, ◌+◌, ℕ, suc, zero, List, [], ◌∷◌, ◌++◌, length, map, Bool, true, false, cond, Option, Some, None, refl, ap, sym, ◌∙◌, subst, append-nil, append_assoc, arith}
use Rattle.std.specs.Prelude.{slice_get, get_or, position, ◌<◌, ◌||◌}
use Rattle.std.specs.Option.{option_map, option_map_or, option_and_then}
use Rattle.std.proofs.lemmas.Option.{same_Some, slice_get_within}
use Rattle.std.proofs.lemmas.List.{get_or_append_left}
use Rattle.std.proofs.Math.Seq.{get_or-append_seam}
use Rattle.std.proofs.lemmas.Bool.Decides.{Decides-eqb}
use Rattle.cell_core.proofs.ListLemmas.{both_found, both_from, slice_get-append_found, slice_get-append_last}
use Rattle.cell_core.specs.declared.cell.Cell.{Cell}
use Rattle.cell_core.specs.declared.cell.Cell.TheVariants.{Nil}
use Rattle.cell_core.specs.declared.operator.Op.{Op}
use Rattle.cell_core.specs.declared.operator.Arg.{Arg}
use Rattle.cell_core.specs.declared.operator.Arg.TheVariants.{Const, Var}
use Rattle.cell_core.specs.declared.operator.Instr.{Instr}
use Rattle.cell_core.specs.SameInstr.{same_instr, same_instr_decides}
use Rattle.mal_emit.specs.Emitters.{Grown, grown_twice}
use Rattle.mal_emit.specs.Machines.{Machine, arg_in, args_in, result, ran}
use Rattle.mal_opt.specs.Live.{is_result, uses}
use Rattle.mal_opt.specs.Passes.{Passed, Step, renamed, renamed_instr, keeping, replaced, constant_value, folding, sharing, dropping, passed, behind}
use Rattle.mal_opt.proofs.Runs.{was_given, get_either, position_is, arg_more, args_more, result_from, result_more, ran_one_more, first_ran, ran_long, ran_at, with_none, long_snoc}

-- ## Steps add instructions at the end

abbrev pub StepGrows : Step → Type 0
StepGrows step = (so : Passed) (instr : Instr) → Grown so.instrs (step so instr).instrs

pub keeping_grows : StepGrows keeping
keeping_grows so instr = record { more = instr ∷ []; is = refl }

same_grows : (instrs : List Instr) → Grown instrs instrs
same_grows instrs = record { more = []; is = sym (append-nil instrs) }

pub folding_grows : (otherwise : Step) → StepGrows otherwise → StepGrows (folding otherwise)
folding_grows otherwise h so instr = elim (constant_value instr) as (λ o. Grown so.instrs (option_map_or (λ cell. replaced so (Const cell)) o (otherwise so instr)).instrs) [
  | None ↦ h so instr
  | Some cell ↦ same_grows so.instrs
]

pub sharing_grows : (otherwise : Step) → StepGrows otherwise → StepGrows (sharing otherwise)
sharing_grows otherwise h so instr = elim (position (same_instr instr) so.instrs) as (λ o. Grown so.instrs (option_map_or (λ n. replaced so (Var n)) o (otherwise so instr)).instrs) [
  | None ↦ h so instr
  | Some n ↦ same_grows so.instrs
]

pub dropping_grows : (alive : ℕ → Bool) (otherwise : Step) → StepGrows otherwise → StepGrows (dropping alive otherwise)
dropping_grows alive otherwise h so instr = elim (alive (length so.places)) as (λ b. Grown so.instrs (cond b (otherwise so instr) (replaced so (Const Nil))).instrs) [
  | true ↦ h so instr
  | false ↦ same_grows so.instrs
]

pub passed_grows : (step : Step) → StepGrows step → (so : Passed) (is : List Instr) → Grown so.instrs (passed step so is).instrs
passed_grows step h so [] = same_grows so.instrs
passed_grows step h so (i ∷ is) = grown_twice (h so (renamed_instr so.places i)) (passed_grows step h (step so (renamed_instr so.places i)) is)

pub passed_append : (step : Step) (so : Passed) (is more : List Instr) → passed step so (is ++ more) ≡ passed step (passed step so is) more
passed_append step so [] more = refl
passed_append step so (i ∷ is) more = passed_append step (step so (renamed_instr so.places i)) is more

pub from_none : (n : ℕ) → 0 + n ≡ n
from_none n = omega arith

false_true : false ≡ true → ⊥
false_true e = cc

-- ## Machines

module _ {V : Type 0} (m : Machine V) (R : V → V → Type 0) (itself : (v : V) → R v v) (along : (u v w : V) → R u v → R v w → R u w) where
  -- where one more instruction has the value w after those that stay, its replacement has that value
  pub record Lands (ws : List V) (w : V) (so after : Passed) : Type 0 where
    pub more : List V
    pub done : ran m [] after.instrs ≡ Some (ws ++ more)
    pub place : Arg
    pub placed : after.places ≡ so.places ++ place ∷ []
    pub value : V
    pub known : arg_in m (ws ++ more) place ≡ Some value
    pub fits : R value w

  abbrev pub IsSound : Step → Type 0
  IsSound step = (so : Passed) (ws : List V) (w : V) (instr : Instr) → ran m [] so.instrs ≡ Some ws → result m ws instr ≡ Some w → Lands ws w so (step so instr)

  pub keeping_sound : IsSound keeping
  keeping_sound so ws w instr e f = record {
    more = w ∷ [];
    done = ran_one_more m so.instrs instr ws w e f;
    place = Var (length so.instrs);
    placed = refl;
    value = w;
    known = slice_get-append_last ws w (length so.instrs) (sym (ran_long m so.instrs ws e));
    fits = itself w;
  }

  replaced_lands : (so : Passed) (ws : List V) (w value : V) (place : Arg) → ran m [] so.instrs ≡ Some ws → arg_in m ws place ≡ Some value → R value w → Lands ws w so (replaced so place)
  replaced_lands so ws w value place e known fits = record {
    more = [];
    done = e ∙ ap Some (sym (append-nil ws));
    place = place;
    placed = refl;
    value = value;
    known = arg_more m ws [] place value known;
    fits = fits;
  }

  pub folding_sound : ((ws : List V) (instr : Instr) (cell : Cell) (w : V) → constant_value instr ≡ Some cell → result m ws instr ≡ Some w → R (m.constant cell) w)
      → (otherwise : Step) → IsSound otherwise → IsSound (folding otherwise)
  folding_sound folds otherwise h so ws w instr e f = by_value (constant_value instr) refl
    where
      by_value : (o : Option Cell) → constant_value instr ≡ o → Lands ws w so (option_map_or (λ cell. replaced so (Const cell)) o (otherwise so instr))
      by_value None g = h so ws w instr e f
      by_value (Some cell) g = replaced_lands so ws w (m.constant cell) (Const cell) e refl (folds ws instr cell w g f)

  -- an equal instruction that stays has the same value
  pub equal_gives : (instrs : List Instr) (ws : List V) (instr : Instr) (n : ℕ) → ran m [] instrs ≡ Some ws → position (same_instr instr) instrs ≡ Some n
      → (v : V) × (slice_get ws n ≡ Some v) × (result m ws instr ≡ Some v)
  equal_gives instrs ws instr n e g =
      let found = position_is (same_instr instr) instrs n g in
      let same : instr ≡ found.0 = (same_instr_decides instr found.0).0 found.2 in
      let there = ran_at m [] instrs ws n found.0 e found.1 in
      (there.0, ap (slice_get ws) (sym (from_none n)) ∙ there.1, ap (result m ws) same ∙ there.2)

  pub sharing_sound : (otherwise : Step) → IsSound otherwise → IsSound (sharing otherwise)
  sharing_sound otherwise h so ws w instr e f = by_place (position (same_instr instr) so.instrs) refl
    where
      by_place : (o : Option ℕ) → position (same_instr instr) so.instrs ≡ o → Lands ws w so (option_map_or (λ n. replaced so (Var n)) o (otherwise so instr))
      by_place None g = h so ws w instr e f
      by_place (Some n) g =
          let there = equal_gives so.instrs ws instr n e g in
          let same : there.0 ≡ w = same_Some there.0 w (sym there.2 ∙ f) in
          replaced_lands so ws w w (Var n) e (there.1 ∙ ap Some same) (itself w)

  -- ## A pass so far

  pub record Follows (alive : ℕ → Bool) (vs : List V) (so : Passed) : Type 0 where
    pub values : List V
    pub done : ran m [] so.instrs ≡ Some values
    pub long : length so.places ≡ length vs
    pub tracked : (n : ℕ) (v : V) → slice_get vs n ≡ Some v → alive n ≡ true → (w : V) × (arg_in m values (get_or so.places n (Var n)) ≡ Some w) × R w v

  pub starts : (alive : ℕ → Bool) → Follows alive [] (behind [] [])
  starts alive = record { values = []; done = refl; long = refl; tracked = λ n v e a. nothing n v e }
    where
      nothing : (n : ℕ) (v : V) → slice_get [] n ≡ Some v → (w : V) × (arg_in m [] (get_or [] n (Var n)) ≡ Some w) × R w v
      nothing n v e = absurd (let low : n < 0 = slice_get_within [] n v e in omega (arith, low))

  grown_follows : (alive : ℕ → Bool) (vs : List V) (v : V) (so after : Passed) (h : Follows alive vs so) (more : List V) (place : Arg) → ran m [] after.instrs ≡ Some (h.values ++ more)
      → after.places ≡ so.places ++ place ∷ []
      → (alive (length vs) ≡ true → (w : V) × (arg_in m (h.values ++ more) place ≡ Some w) × R w v) → Follows alive (vs ++ v ∷ []) after
  grown_follows alive vs v so after h more place done placed new = record {
    values = h.values ++ more;
    done = done;
    long = ap length placed ∙ one_longer so.places place ∙ ap suc h.long ∙ sym (one_longer vs v);
    tracked = track;
  }
    where
      one_longer : {X : Type 0} (xs : List X) (x : X) → length (xs ++ x ∷ []) ≡ suc (length xs)
      one_longer [] x = refl
      one_longer (y ∷ xs) x = ap suc (one_longer xs x)

      track : (n : ℕ) (x : V) → slice_get (vs ++ v ∷ []) n ≡ Some x → alive n ≡ true → (w : V) × (arg_in m (h.values ++ more) (get_or after.places n (Var n)) ≡ Some w) × R w x
      track n x e a = get_either vs v n x e
          (λ old.
          let low : n < length vs = slice_get_within vs n x old in
          let there = h.tracked n x old a in
          let same : get_or after.places n (Var n) ≡ get_or so.places n (Var n) = ap (λ ps. get_or ps n (Var n)) placed ∙ get_or_append_left so.places (place ∷ []) (Var n) n (omega (arith, low, h.long)) in
          (there.0, ap (arg_in m (h.values ++ more)) same ∙ arg_more m h.values more (get_or so.places n (Var n)) there.0 there.1, there.2))
          (λ last is.
          let there = new (ap alive (sym last) ∙ a) in
          let same : get_or after.places n (Var n) ≡ place = ap (λ ps. get_or ps n (Var n)) placed ∙ ap (λ k. get_or (so.places ++ place ∷ []) k (Var n)) (last ∙ sym h.long) ∙ get_or-append_seam so.places place [] (Var n) in
          (there.0, ap (arg_in m (h.values ++ more)) same ∙ there.1, subst (λ y. R there.0 y) is there.2))

  -- ## Arguments

  abbrev pub AreFine : List V → List V → Type 0
  AreFine [] [] = Unit {0}
  AreFine (w ∷ ws) (v ∷ vs) = R w v × AreFine ws vs
  AreFine [] (v ∷ vs) = ⊥
  AreFine (w ∷ ws) [] = ⊥

  pub arg_follows : (alive : ℕ → Bool) (vs : List V) (so : Passed) (h : Follows alive vs so) (arg : Arg) (v : V) → arg_in m vs arg ≡ Some v
      → ((n : ℕ) → is_result n arg ≡ true → alive n ≡ true) → (w : V) × (arg_in m h.values (renamed so.places arg) ≡ Some w) × R w v
  arg_follows alive vs so h (Const cell) v e a = (m.constant cell, refl, subst (λ y. R (m.constant cell) y) (same_Some (m.constant cell) v e) (itself (m.constant cell)))
  arg_follows alive vs so h (Var n) v e a = h.tracked n v e (a n (itself_is n))
    where
      itself_is : (n : ℕ) → is_result n (Var n) ≡ true
      itself_is n = (Decides-eqb n n).1 refl

  pub args_follow : (alive : ℕ → Bool) (vs : List V) (so : Passed) (h : Follows alive vs so) (args : List Arg) (are : List V) → args_in m vs args ≡ Some are
      → ((n : ℕ) → uses n args ≡ true → alive n ≡ true) → (those : List V) × (args_in m h.values (map (renamed so.places) args) ≡ Some those) × AreFine those are
  args_follow alive vs so h [] [] e a = ([], refl, tt)
  args_follow alive vs so h [] (v ∷ vs') e a = absurd (none_some (same_Some [] (v ∷ vs') e))
    where
      none_some : [] ≡ v ∷ vs' → ⊥
      none_some e = cc
  args_follow alive vs so h (arg ∷ args) are e a =
      let parts = both_found (arg_in m vs arg) (args_in m vs args) are e in
      let first = arg_follows alive vs so h arg parts.0 parts.2 (λ n u. a n (ap (λ b. b || uses n args) u)) in
      let rest = args_follow alive vs so h args parts.1 parts.3 (λ n u. a n (or_right (is_result n arg) (uses n args) u)) in
      (first.0 ∷ rest.0, both_from first.0 rest.0 first.1 rest.1, subst (λ zs. AreFine (first.0 ∷ rest.0) zs) parts.4 (first.2, rest.2))
    where
      or_right : (a b : Bool) → b ≡ true → (a || b) ≡ true
      or_right true b e = refl
      or_right false b e = e

  -- ## Passes

  -- an operator on finer arguments, renamed, has a finer result
  abbrev pub IsMonotone : Type 0
  IsMonotone = (operator : Op) (args : List Arg) (places : List Arg) (are those : List V) (v : V) → AreFine those are → m.apply operator args are ≡ Some v
      → (w : V) × (m.apply operator (map (renamed places) args) those ≡ Some w) × R w v

  module _ (monotone : IsMonotone) (alive : ℕ → Bool) (step : Step) (sound : IsSound step) where
    pub result_follows : (vs : List V) (so : Passed) (h : Follows alive vs so) (instr : Instr) (v : V) → result m vs instr ≡ Some v → ((n : ℕ) → uses n instr.args ≡ true → alive n ≡ true)
        → (w : V) × (result m h.values (renamed_instr so.places instr) ≡ Some w) × R w v
    result_follows vs so h instr v e a =
        let given = was_given (m.apply instr.op instr.args) (args_in m vs instr.args) v e in
        let those = args_follow alive vs so h instr.args given.0 given.1 a in
        let made = monotone instr.op instr.args so.places given.0 those.0 v those.2 given.2 in
        (made.0, result_from m h.values (renamed_instr so.places instr) those.0 those.1 ∙ made.1, made.2)

    step_follows : (vs : List V) (so : Passed) (h : Follows alive vs so) (instr : Instr) (v : V) → result m vs instr ≡ Some v
        → (alive (length vs) ≡ true → (n : ℕ) → uses n instr.args ≡ true → alive n ≡ true) → Follows alive (vs ++ v ∷ []) (dropping alive step so (renamed_instr so.places instr))
    step_follows vs so h instr v e a = by_life (alive (length so.places)) refl
      where
        new : Instr
        new = renamed_instr so.places instr

        by_life : (b : Bool) → alive (length so.places) ≡ b → Follows alive (vs ++ v ∷ []) (cond b (step so new) (replaced so (Const Nil)))
        by_life true is =
            let made = result_follows vs so h instr v e (a (ap alive (sym h.long) ∙ is)) in
            let lands = sound so h.values made.0 new h.done made.1 in
            grown_follows alive vs v so (step so new) h lands.more lands.place lands.done lands.placed (λ b. (lands.value, lands.known, along lands.value made.0 v lands.fits made.2))
        by_life false is = grown_follows alive vs v so (replaced so (Const Nil)) h [] (Const Nil) (h.done ∙ ap Some (sym (append-nil h.values))) refl (λ b. absurd (false_true (sym (ap alive (sym h.long) ∙ is) ∙ b)))

    -- the instructions that are alive use results that are alive, the first of these having the number k
    abbrev pub UseLive : ℕ → List Instr → Type 0
    UseLive k is = (j : ℕ) (instr : Instr) → slice_get is j ≡ Some instr → alive (k + j) ≡ true → (n : ℕ) → uses n instr.args ≡ true → alive n ≡ true

    pub all_follow : (vs : List V) (so : Passed) (h : Follows alive vs so) (is : List Instr) (all : List V) → ran m vs is ≡ Some all → UseLive (length vs) is
        → Follows alive all (passed (dropping alive step) so is)
    all_follow vs so h [] all e a = subst (λ xs. Follows alive xs so) (same_Some vs all e) h
    all_follow vs so h (i ∷ is) all e a =
        let first = first_ran m vs i is all e in
        all_follow (vs ++ first.0 ∷ []) (dropping alive step so (renamed_instr so.places i))
        (step_follows vs so h i first.0 first.1 (λ b. a 0 i refl (ap alive (with_none (length vs)) ∙ b)))
        is all first.2 (λ j instr at b. a (suc j) instr at (ap alive (sym (long_snoc vs first.0 j)) ∙ b))
