-- A pass keeps the meaning of a plan without a fault, over every database.
use Rattle.std.proofs.Common.{◌≡◌, ◌+◌, ℕ, suc, zero, List, [], ◌∷◌, ◌++◌, length, map, Bool, true, false, cond, Option, Some, None, refl, ap, sym, ◌∙◌, subst, arith}
use Rattle.std.specs.Prelude.{◌&&◌, ◌||◌, ◌<◌, slice_get, get_or, is_some, position, slice_index_or, unwrap_or}
use Rattle.std.specs.List.{list_all}
use Rattle.std.specs.Option.{option_map, option_map_or, option_and_then}
use Rattle.std.specs.Cmp.{first_so, second_so}
use Rattle.std.proofs.lemmas.Option.{same_Some, slice_get_within, slice_get-get_or, get_or_from_slice_get, slice_get-map}
use Rattle.cell_core.specs.Forms.{may_overflow}
use Rattle.cell_core.proofs.ListLemmas.{both_found, both_from, slice_get-append_found, slice_get-append_middle}
use Rattle.cell_core.specs.declared.cell.Cell.{Cell}
use Rattle.cell_core.specs.declared.cell.Cell.TheVariants.{Nil}
use Rattle.cell_core.specs.declared.operator.Op.{Op}
use Rattle.cell_core.specs.declared.operator.Op.TheVariants as op
use Rattle.cell_core.specs.declared.operator.Arg.{Arg}
use Rattle.cell_core.specs.declared.operator.Arg.TheVariants.{Const, Var}
use Rattle.cell_core.specs.declared.operator.Instr.{Instr}
use Rattle.cell_core.specs.declared.operator.Value.{Value}
use Rattle.cell_core.specs.declared.operator.Value.TheVariants.{Bat, One}
use Rattle.cell_core.specs.declared.table.Db.{Db}
use Rattle.cell_core.specs.SameInstr.{same_instr}
use Rattle.cell_core.specs.Kinds.{ValueType}
use Rattle.cell_core.specs.Calc.{all_or_none}
use Rattle.cell_core.specs.Operators.{operate}
use Rattle.mal_meaning.specs.declared.plan.Out.{Out}
use Rattle.mal_meaning.specs.declared.plan.Plan.{Plan}
use Rattle.mal_meaning.specs.Meaning.{arg_value, arg_values, value_over, instr_value, plan_rows}
use Rattle.mal_meaning.specs.Output.{value_in, is_yes, is_shown as is_row_shown, unordered, arranged, output_rows}
use Rattle.mal_meaning.specs.Runs.{run_from, rows_of_run}
use Rattle.mal_check.specs.Checked.{is_known, passes, plan_fault}
use Rattle.mal_emit.specs.Emitters.{Grown}
use Rattle.mal_emit.specs.Machines.{Machine, over, typing, arg_in, args_in, result, ran}
use Rattle.mal_emit.proofs.MachineLemmas.{none_after}
use Rattle.mal_emit.proofs.PlanLemmas.{ran_is}
use Rattle.mal_opt.specs.Live.{is_result, uses, is_shown}
use Rattle.mal_opt.specs.Passes.{Passed, Step, renamed, renamed_instr, renamed_out, keeping, replaced, as_cell, constant_value, folding, sharing, dropping, passed, nothing, plan_of, through}
use Rattle.mal_opt.proofs.Runs.{was_given, ran_no_more, ran_long, result_from}
use Rattle.mal_opt.proofs.ConstantLemmas.{no_value}
use Rattle.mal_opt.proofs.Checks.{IsFine, IsTyped, typed_from}
use Rattle.mal_opt.proofs.Faults.{Fails, first_fault}
use Rattle.mal_opt.proofs.Follows.{from_none, StepGrows, keeping_grows, folding_grows, sharing_grows, dropping_grows, passed_grows, passed_append, IsSound, keeping_sound, folding_sound, sharing_sound, equal_gives, Follows, starts, AreFine, arg_follows, args_follow, all_follow, UseLive}

-- ## Constants

is_one : (v : Value) (cell : Cell) → as_cell v ≡ Some cell → v ≡ One cell
is_one (One c) cell e = ap One (same_Some c cell e)
is_one (Bat b) cell e = cc

-- the constants of a calculation, and its value
pub constant_parts : (instr : Instr) (cell : Cell) → constant_value instr ≡ Some cell → (values : List Value) × (arg_values [] instr.args ≡ Some values) × (operate instr.op values ≡ Some (One cell))
unfolding constant_value
constant_parts instr cell e =
    let made = was_given as_cell (option_and_then (operate instr.op) (arg_values [] instr.args)) cell e in
    let given = was_given (operate instr.op) (arg_values [] instr.args) made.0 made.1 in
    (given.0, given.1, given.2 ∙ ap Some (is_one made.0 cell made.2))

-- which results an output needs, and which instructions
pub record IsClosed (plan : Plan) (alive : ℕ → Bool) : Type 0 where
  pub faulting : (n : ℕ) (instr : Instr) → slice_get plan.instrs n ≡ Some instr → may_overflow instr.op ≡ true → alive n ≡ true
  pub shown : (n : ℕ) → n < length plan.instrs → is_shown n plan.out ≡ true → alive n ≡ true
  pub used : (m : ℕ) (instr : Instr) → slice_get plan.instrs m ≡ Some instr → alive m ≡ true → (n : ℕ) → uses n instr.args ≡ true → alive n ≡ true

pub all_closed : (plan : Plan) → IsClosed plan (λ n. true)
all_closed plan = record { faulting = λ n instr e f. refl; shown = λ n low e. refl; used = λ m instr e a n u. refl }

module _ (db : Db) where
  abbrev pub Same : Value → Value → Type 0
  Same w v = w ≡ v

  abbrev pub itself : (v : Value) → Same v v
  itself v = refl

  abbrev pub along : (u v w : Value) → Same u v → Same v w → Same u w
  along u v w e f = e ∙ f

  constants_known : (ws : List Value) (args : List Arg) (values : List Value) → arg_values [] args ≡ Some values → args_in (over db) ws args ≡ Some values
  constants_known ws [] values e = e
  constants_known ws (Const c ∷ args) values e =
      let parts = both_found (Some (One c)) (arg_values [] args) values e in
      both_from parts.0 parts.1 parts.2 (constants_known ws args parts.1 parts.3) ∙ ap Some parts.4
  constants_known ws (Var n ∷ args) values e =
      let parts = both_found (arg_value [] (Var n)) (arg_values [] args) values e in
      absurd (clash parts.0 (sym (no_value n) ∙ parts.2))
    where
      clash : (v : Value) → None ≡ Some v → ⊥
      clash v e = cc

  over_is : (operator : Op) (values : List Value) (v : Value) → operate operator values ≡ Some v → value_over db operator values ≡ Some v
  over_is op.Bind values v e = cc
  over_is operator values v e = e

  folded_result : (ws : List Value) (instr : Instr) (cell : Cell) → constant_value instr ≡ Some cell → result (over db) ws instr ≡ Some (One cell)
  folded_result ws instr cell e =
      let parts = constant_parts instr cell e in
      result_from (over db) ws instr parts.0 (constants_known ws instr.args parts.0 parts.1) ∙ over_is instr.op parts.0 (One cell) parts.2

  folds : (ws : List Value) (instr : Instr) (cell : Cell) (w : Value) → constant_value instr ≡ Some cell → result (over db) ws instr ≡ Some w → Same (One cell) w
  folds ws instr cell w e f = same_Some (One cell) w (sym (folded_result ws instr cell e) ∙ f)

  same_list : (those are : List Value) → AreFine (over db) Same itself along those are → those ≡ are
  same_list [] [] h = refl
  same_list (w ∷ ws) (v ∷ vs) h = ap (λ x. x ∷ ws) h.0 ∙ ap (λ xs. v ∷ xs) (same_list ws vs h.1)
  same_list [] (v ∷ vs) h = absurd h
  same_list (w ∷ ws) [] h = absurd h

  monotone : (operator : Op) (args : List Arg) (places : List Arg) (are those : List Value) (v : Value) → AreFine (over db) Same itself along those are → value_over db operator are ≡ Some v
      → (w : Value) × (value_over db operator those ≡ Some w) × Same w v
  monotone operator args places are those v h e = (v, ap (value_over db operator) (same_list those are h) ∙ e, refl)

  -- ## Where an instruction has no value

  abbrev pub IsExact : Step → Type 0
  IsExact step = (so : Passed) (ws : List Value) (instr : Instr) → ran (over db) [] so.instrs ≡ Some ws → result (over db) ws instr ≡ None → ran (over db) [] (step so instr).instrs ≡ None

  pub keeping_exact : IsExact keeping
  keeping_exact so ws instr e f = ran_no_more (over db) so.instrs instr ws e f

  none_some : {P : Type 0} (o : Option Value) (v : Value) → o ≡ None → o ≡ Some v → P
  none_some None v e f = cc
  none_some (Some w) v e f = cc

  pub folding_exact : (otherwise : Step) → IsExact otherwise → IsExact (folding otherwise)
  folding_exact otherwise h so ws instr e f = by_value (constant_value instr) refl
    where
      by_value : (o : Option Cell) → constant_value instr ≡ o → ran (over db) [] (option_map_or (λ cell. replaced so (Const cell)) o (otherwise so instr)).instrs ≡ None
      by_value None g = h so ws instr e f
      by_value (Some cell) g = none_some (result (over db) ws instr) (One cell) f (folded_result ws instr cell g)

  pub sharing_exact : (otherwise : Step) → IsExact otherwise → IsExact (sharing otherwise)
  sharing_exact otherwise h so ws instr e f = by_place (position (same_instr instr) so.instrs) refl
    where
      by_place : (o : Option ℕ) → position (same_instr instr) so.instrs ≡ o → ran (over db) [] (option_map_or (λ n. replaced so (Var n)) o (otherwise so instr)).instrs ≡ None
      by_place None g = h so ws instr e f
      by_place (Some n) g =
          let there = equal_gives (over db) Same itself along so.instrs ws instr n e g in
          none_some (result (over db) ws instr) there.0 f there.2

  -- ## Steps that keep the meaning

  pub record Keeps (step : Step) : Type 0 where
    pub sound : IsSound (over db) Same itself along step
    pub exact : IsExact step
    pub grows : StepGrows step

  -- ## Rows

  pub rows_are : (plan : Plan) → plan_rows plan db ≡ option_map (output_rows plan.out) (ran (over db) [] plan.instrs)
  rows_are plan = sym (rows_of_run plan db) ∙ sym (ap (option_map (output_rows plan.out)) (ran_is db [] plan.instrs))

  value_found : (values : List Value) (arg : Arg) (v : Value) → arg_in (over db) values arg ≡ Some v → value_in values arg ≡ v
  value_found values (Const cell) v e = same_Some (One cell) v e
  value_found values (Var n) v e = get_or_from_slice_get values n v (One Nil) e

  in_scope : (values : List Value) (types : List ValueType) (arg : Arg) → length values ≡ length types → is_known types arg ≡ true → (v : Value) × (arg_in (over db) values arg ≡ Some v)
  in_scope values types (Const cell) long e = (One cell, refl)
  in_scope values types (Var n) long e = by_type (slice_get types n) refl e
    where
      by_type : (o : Option ValueType) → slice_get types n ≡ o → is_some o ≡ true → (v : Value) × (slice_get values n ≡ Some v)
      by_type None f g = absurd (clash g)
        where
          clash : false ≡ true → ⊥
          clash g = cc
      by_type (Some t) f g =
          let low : n < length types = slice_get_within types n t f in
          (get_or values n (One Nil), slice_get-get_or values n (One Nil) (omega (arith, low, long)))

  module _ (alive : ℕ → Bool) (values : List Value) (types : List ValueType) (so : Passed) (h : Follows (over db) Same itself along alive values so) (long : length values ≡ length types) where
    arg_kept : (arg : Arg) → is_known types arg ≡ true → ((n : ℕ) → is_result n arg ≡ true → alive n ≡ true) → value_in h.values (renamed so.places arg) ≡ value_in values arg
    arg_kept arg known a =
        let v = in_scope values types arg long known in
        let w = arg_follows (over db) Same itself along alive values so h arg v.0 v.1 a in
        value_found h.values (renamed so.places arg) w.0 w.1 ∙ w.2 ∙ sym (value_found values arg v.0 v.1)

    or_right : (a b : Bool) → b ≡ true → (a || b) ≡ true
    or_right true b e = refl
    or_right false b e = e

    args_kept : (args : List Arg) → list_all (is_known types) args ≡ true → ((n : ℕ) → uses n args ≡ true → alive n ≡ true) → map (value_in h.values) (map (renamed so.places) args) ≡ map (value_in values) args
    args_kept [] known a = refl
    args_kept (arg ∷ args) known a =
        ap (λ v. v ∷ map (value_in h.values) (map (renamed so.places) args)) (arg_kept arg (first_so (is_known types arg) (list_all (is_known types) args) known) (λ n u. a n (ap (λ b. b || uses n args) u)))
        ∙ ap (λ vs. value_in values arg ∷ vs) (args_kept args (second_so (is_known types arg) (list_all (is_known types) args) known) (λ n u. a n (or_right (is_result n arg) (uses n args) u)))

    keep_kept : (keep : Option Arg) → passes (is_known types) keep ≡ true → ((n : ℕ) → option_map_or (is_result n) keep false ≡ true → alive n ≡ true)
        → is_row_shown h.values (option_map (renamed so.places) keep) ≡ is_row_shown values keep
    keep_kept None known a = refl
    keep_kept (Some arg) known a = ap is_yes (arg_kept arg known a)

    out_kept : (out : Out) → IsFine types out → ((n : ℕ) → is_shown n out ≡ true → alive n ≡ true) → output_rows (renamed_out so.places out) h.values ≡ output_rows out values
    out_kept out fine a =
        ap (λ b. cond b (arranged out (unordered (map (value_in h.values) (map (renamed so.places) out.cols)))) []) (keep_kept out.keep fine.keep_known (λ n u. a n (or_right (uses n out.cols) (option_map_or (is_result n) out.keep false) u)))
        ∙ ap (λ vs. cond (is_row_shown values out.keep) (arranged out (unordered vs)) []) (args_kept out.cols fine.known (λ n u. a n (ap (λ b. b || option_map_or (is_result n) out.keep false) u)))

  -- ## The theorem

  module _ (plan : Plan) (alive : ℕ → Bool) (step : Step) (keeps : Keeps step) (typed : IsTyped plan) (closed : IsClosed plan alive)
      (within : (n : ℕ) → is_shown n plan.out ≡ true → n < length plan.instrs) where
    abbrev walk : Step
    walk = dropping alive step

    some_kept : (values : List Value) → ran (over db) [] plan.instrs ≡ Some values → plan_rows (through walk plan) db ≡ plan_rows plan db
    some_kept values e =
        let h = all_follow (over db) Same itself along monotone alive step keeps.sound [] nothing (starts (over db) Same itself along alive) plan.instrs values e (λ j instr at b. closed.used j instr at (ap alive (sym (from_none j)) ∙ b)) in
        let long : length values ≡ length typed.types = ran_long (over db) plan.instrs values e ∙ sym (ran_long typing plan.instrs typed.types typed.ran_types) in
        rows_are (through walk plan) ∙ ap (option_map (output_rows (renamed_out (passed walk nothing plan.instrs).places plan.out))) h.done
        ∙ ap Some (out_kept alive values typed.types (passed walk nothing plan.instrs) h long plan.out typed.fine (λ n u. closed.shown n (within n u) u))
        ∙ sym (ap (option_map (output_rows plan.out)) e) ∙ sym (rows_are plan)

    none_kept : ran (over db) [] plan.instrs ≡ None → plan_rows (through walk plan) db ≡ plan_rows plan db
    none_kept e =
        let f = first_fault db [] [] plan.instrs typed.types refl typed.ran_types e in
        let so : Passed = passed walk nothing f.before in
        let there : (j : ℕ) (instr : Instr) → slice_get f.before j ≡ Some instr → slice_get plan.instrs j ≡ Some instr = λ j instr at. ap (λ is. slice_get is j) f.is_all ∙ slice_get-append_found f.before (f.instr ∷ f.after) j instr at in
        let at : slice_get plan.instrs (length f.before) ≡ Some f.instr = ap (λ is. slice_get is (length f.before)) f.is_all ∙ slice_get-append_middle f.before f.instr f.after in
        let h = all_follow (over db) Same itself along monotone alive step keeps.sound [] nothing (starts (over db) Same itself along alive) f.before f.found f.done (λ j instr e b. closed.used j instr (there j instr e) (ap alive (sym (from_none j)) ∙ b)) in
        let live : alive (length f.before) ≡ true = closed.faulting (length f.before) f.instr at f.overflows in
        let those = args_follow (over db) Same itself along alive f.found so h f.instr.args f.args f.given (closed.used (length f.before) f.instr at live) in
        let gives : result (over db) h.values (renamed_instr so.places f.instr) ≡ None =
        result_from (over db) h.values (renamed_instr so.places f.instr) those.0 those.1 ∙ ap (value_over db f.instr.op) (same_list those.0 f.args those.2) ∙ f.none in
        let stepped : ran (over db) [] (step so (renamed_instr so.places f.instr)).instrs ≡ None = keeps.exact so h.values (renamed_instr so.places f.instr) h.done gives in
        let long : length so.places ≡ length f.before = h.long ∙ ran_long (over db) f.before f.found f.done in
        let walked : ran (over db) [] (walk so (renamed_instr so.places f.instr)).instrs ≡ None =
        ap (λ b. ran (over db) [] (cond b (step so (renamed_instr so.places f.instr)) (replaced so (Const Nil))).instrs) (ap alive long ∙ live) ∙ stepped in
        let whole : passed walk nothing plan.instrs ≡ passed walk (walk so (renamed_instr so.places f.instr)) f.after = ap (passed walk nothing) f.is_all ∙ passed_append walk nothing f.before (f.instr ∷ f.after) in
        let ended : ran (over db) [] (passed walk nothing plan.instrs).instrs ≡ None =
        ap (λ s. ran (over db) [] s.instrs) whole ∙ none_after (over db) (passed_grows walk (dropping_grows alive step keeps.grows) (walk so (renamed_instr so.places f.instr)) f.after) walked in
        rows_are (through walk plan) ∙ ap (option_map (output_rows (renamed_out (passed walk nothing plan.instrs).places plan.out))) ended
        ∙ sym (ap (option_map (output_rows plan.out)) e) ∙ sym (rows_are plan)

    pub meaning_kept : plan_rows (through walk plan) db ≡ plan_rows plan db
    meaning_kept = by_run (ran (over db) [] plan.instrs) refl
      where
        by_run : (o : Option (List Value)) → ran (over db) [] plan.instrs ≡ o → plan_rows (through walk plan) db ≡ plan_rows plan db
        by_run (Some values) e = some_kept values e
        by_run None e = none_kept e

  pub keeping_keeps : Keeps keeping
  keeping_keeps = record { sound = keeping_sound (over db) Same itself along; exact = keeping_exact; grows = keeping_grows }

  pub folding_keeps : (otherwise : Step) → Keeps otherwise → Keeps (folding otherwise)
  folding_keeps otherwise h = record { sound = folding_sound (over db) Same itself along folds otherwise h.sound; exact = folding_exact otherwise h.exact; grows = folding_grows otherwise h.grows }

  pub sharing_keeps : (otherwise : Step) → Keeps otherwise → Keeps (sharing otherwise)
  sharing_keeps otherwise h = record { sound = sharing_sound (over db) Same itself along otherwise h.sound; exact = sharing_exact otherwise h.exact; grows = sharing_grows otherwise h.grows }
