-- What a pass makes of a plan without a fault has none, and fits where the plan fits.
use Rattle.std.proofs.Common.{◌≡◌, ◌+◌, ℕ, suc, zero, List, [], ◌∷◌, ◌++◌, length, map, Bool, true, false, cond, Option, Some, None, refl, ap, sym, ◌∙◌, subst, arith}
use Rattle.std.specs.Prelude.{◌&&◌, ◌||◌, ◌==◌, ◌<◌, slice_get, is_some, position}
use Rattle.std.specs.List.{list_all}
use Rattle.std.specs.Option.{option_map, option_map_or, option_and_then}
use Rattle.std.specs.Cmp.{first_so, second_so}
use Rattle.std.proofs.lemmas.Option.{same_Some}
use Rattle.std.proofs.lemmas.Bool.{and_from}
use Rattle.cell_core.proofs.ListLemmas.{both_found}
use Rattle.cell_core.specs.declared.cell.Cell.{Cell}
use Rattle.cell_core.specs.declared.cell.Cell.TheVariants.{Text, Nil}
use Rattle.cell_core.specs.declared.cell.Kind.TheVariants as kind
use Rattle.cell_core.specs.declared.operator.Op.{Op}
use Rattle.cell_core.specs.declared.operator.Op.TheVariants as op
use Rattle.cell_core.specs.declared.operator.Arg.{Arg}
use Rattle.cell_core.specs.declared.operator.Arg.TheVariants.{Const, Var}
use Rattle.cell_core.specs.declared.operator.Instr.{Instr}
use Rattle.cell_core.specs.declared.operator.Value.{Value}
use Rattle.cell_core.specs.declared.operator.Value.TheVariants.{Bat, One}
use Rattle.cell_core.specs.declared.table.Db.{Db}
use Rattle.cell_core.specs.Forms.{argument_count}
use Rattle.cell_core.specs.SameInstr.{same_instr}
use Rattle.cell_core.specs.Operators.{operate}
use Rattle.cell_core.specs.Kinds.{ValueType, OneOf, BatOf, kind_of, agrees, is_of_kind, is_of_type, are_of_types, bind_type, result_type}
use Rattle.mal_meaning.specs.declared.plan.Out.{Out}
use Rattle.mal_meaning.specs.declared.plan.Plan.{Plan}
use Rattle.mal_meaning.specs.Meaning.{arg_value, arg_values}
use Rattle.mal_check.specs.Checked.{type_over, arg_type, is_known, is_bit, is_bit_type, is_empty, are_below, passes}
use Rattle.mal_check.specs.Runnable.{fits_column, fits_columns_of, FitsDb}
use Rattle.mal_check.proofs.RunLemmas.{constant_is}
use Rattle.mal_check.proofs.TypedResults.{typed_result}
use Rattle.mal_emit.specs.Machines.{typing, counted_type, arg_in, args_in, result, ran}
use Rattle.mal_opt.specs.Live.{is_result, uses, is_shown}
use Rattle.mal_opt.specs.Passes.{Passed, Step, renamed, renamed_instr, renamed_out, keeping, replaced, constant_value, folding, sharing, dropping, passed, nothing, through}
use Rattle.mal_opt.proofs.Runs.{was_given}
use Rattle.mal_opt.proofs.ConstantLemmas.{no_value}
use Rattle.mal_opt.proofs.Checks.{IsFine, IsTyped}
use Rattle.mal_opt.proofs.Finer.{IsFiner, finer, type_itself, type_along, AllFiner, result_finer, cell_finer_kind, finer_cases}
use Rattle.mal_opt.proofs.Follows.{from_none, IsSound, keeping_sound, folding_sound, sharing_sound, Follows, starts, AreFine, arg_follows, all_follow}
use Rattle.mal_opt.proofs.Meanings.{constant_parts, IsClosed}

false_true : false ≡ true → ⊥
false_true e = cc

-- ## The machine of types

all_finer : (ss ts : List ValueType) → AreFine typing IsFiner type_itself type_along ss ts → AllFiner ss ts
all_finer [] [] h = tt
all_finer (s ∷ ss) (t ∷ ts) h = (h.0, all_finer ss ts h.1)
all_finer [] (t ∷ ts) h = absurd h
all_finer (s ∷ ss) [] h = absurd h

map_long : (f : Arg → Arg) (args : List Arg) → length (map f args) ≡ length args
map_long f [] = refl
map_long f (a ∷ args) = ap suc (map_long f args)

bind_renamed : (places args : List Arg) (t : ValueType) → bind_type args ≡ Some t → bind_type (map (renamed places) args) ≡ Some t
bind_renamed places (Const (Text table) ∷ Const (Text column) ∷ Const (Text word) ∷ []) t e = e
bind_renamed places args t e = absurd (cc)

type_finer : (operator : Op) (args places : List Arg) (ts ss : List ValueType) (t : ValueType) → AllFiner ss ts → type_over operator args ts ≡ Some t
    → (s : ValueType) × (type_over operator (map (renamed places) args) ss ≡ Some s) × IsFiner s t
type_finer op.Bind args places ts ss t h e = (t, bind_renamed places args t e, type_itself t)
type_finer operator args places ts ss t h e = result_finer operator ss ts t h e

counted_is : (operator : Op) (args : List Arg) (types : List ValueType) (t : ValueType) → counted_type operator args types ≡ Some t → ((length args == argument_count operator) ≡ true) × (type_over operator args types ≡ Some t)
counted_is operator args types t e = by_count (length args == argument_count operator) refl e
  where
    by_count : (b : Bool) → (length args == argument_count operator) ≡ b → cond b (type_over operator args types) None ≡ Some t → ((length args == argument_count operator) ≡ true) × (type_over operator args types ≡ Some t)
    by_count true f g = (f, g)
    by_count false f g = absurd (cc)

monotone : (operator : Op) (args : List Arg) (places : List Arg) (ts ss : List ValueType) (t : ValueType) → AreFine typing IsFiner type_itself type_along ss ts → counted_type operator args ts ≡ Some t
    → (s : ValueType) × (counted_type operator (map (renamed places) args) ss ≡ Some s) × IsFiner s t
monotone operator args places ts ss t h e =
    let parts = counted_is operator args ts t e in
    let made = type_finer operator args places ts ss t (all_finer ss ts h) parts.1 in
    let count : (length (map (renamed places) args) == argument_count operator) ≡ true = ap (λ n. n == argument_count operator) (map_long (renamed places) args) ∙ parts.0 in
    (made.0, ap (λ b. cond b (type_over operator (map (renamed places) args) ss) None) count ∙ made.1, made.2)

constants_typed : (ts : List ValueType) (args : List Arg) (values : List Value) (types : List ValueType) → arg_values [] args ≡ Some values → args_in typing ts args ≡ Some types → are_of_types values types ≡ true
constants_typed ts [] values types e f = ap (λ vs. are_of_types vs types) (sym (same_Some [] values e)) ∙ ap (are_of_types []) (sym (same_Some [] types f))
constants_typed ts (Const c ∷ args) values types e f =
    let v = both_found (Some (One c)) (arg_values [] args) values e in
    let t = both_found (Some (OneOf (kind_of c))) (args_in typing ts args) types f in
    let first : is_of_type v.0 t.0 ≡ true = ap (λ x. is_of_type x t.0) (sym (same_Some (One c) v.0 v.2)) ∙ ap (is_of_type (One c)) (sym (same_Some (OneOf (kind_of c)) t.0 t.2)) ∙ constant_is c in
    ap (λ vs. are_of_types vs types) (sym v.4) ∙ ap (are_of_types (v.0 ∷ v.1)) (sym t.4) ∙ and_from (is_of_type v.0 t.0) (are_of_types v.1 t.1) first (constants_typed ts args v.1 t.1 v.3 t.3)
constants_typed ts (Var n ∷ args) values types e f =
    let v = both_found (arg_value [] (Var n)) (arg_values [] args) values e in
    absurd (clash v.0 (sym (no_value n) ∙ v.2))
  where
    clash : (v : Value) → None ≡ Some v → ⊥
    clash v e = cc

value_typed : (operator : Op) (args : List Arg) (values : List Value) (types : List ValueType) (v : Value) (t : ValueType) → are_of_types values types ≡ true → type_over operator args types ≡ Some t → operate operator values ≡ Some v → is_of_type v t ≡ true
value_typed op.Bind args values types v t ok fit e = cc
value_typed operator args values types v t ok fit e = typed_result operator values types v t ok fit e

folds : (ts : List ValueType) (instr : Instr) (cell : Cell) (t : ValueType) → constant_value instr ≡ Some cell → result typing ts instr ≡ Some t → IsFiner (OneOf (kind_of cell)) t
folds ts instr cell t e f =
    let parts = constant_parts instr cell e in
    let given = was_given (typing.apply instr.op instr.args) (args_in typing ts instr.args) t f in
    let fit = counted_is instr.op instr.args given.0 t given.2 in
    cell_finer_kind cell t (value_typed instr.op instr.args parts.0 given.0 (One cell) t (constants_typed ts instr.args parts.0 given.0 parts.1 given.1) fit.1 parts.2)

abbrev pub IsTypeSound : Step → Type 0
IsTypeSound step = IsSound typing IsFiner type_itself type_along step

pub keeping_typed : IsTypeSound keeping
keeping_typed = keeping_sound typing IsFiner type_itself type_along

pub folding_typed : (otherwise : Step) → IsTypeSound otherwise → IsTypeSound (folding otherwise)
folding_typed otherwise h = folding_sound typing IsFiner type_itself type_along folds otherwise h

pub sharing_typed : (otherwise : Step) → IsTypeSound otherwise → IsTypeSound (sharing otherwise)
sharing_typed otherwise h = sharing_sound typing IsFiner type_itself type_along otherwise h

-- ## The output

type_is : (types : List ValueType) (arg : Arg) → arg_in typing types arg ≡ arg_type types arg
type_is types (Const cell) = refl
type_is types (Var n) = refl

bit_finer : (s t : ValueType) → IsFiner s t → is_bit_type t ≡ true → is_bit_type s ≡ true
bit_finer (OneOf a) (OneOf b) h e = finer_cases (λ x. agrees x (Some kind.Bit) ≡ true) a b h refl e
bit_finer (OneOf a) (BatOf b c) h e = absurd h
bit_finer (BatOf a b) t h e = absurd (no_bat t h e)
  where
    no_bat : (t : ValueType) → IsFiner (BatOf a b) t → is_bit_type t ≡ true → ⊥
    no_bat (OneOf k) h e = h
    no_bat (BatOf c d) h e = false_true e

is_found : (o : Option ValueType) → is_some o ≡ true → (t : ValueType) × (o ≡ Some t)
is_found None e = absurd (false_true e)
is_found (Some t) e = (t, refl)

module _ (alive : ℕ → Bool) (types : List ValueType) (so : Passed) (h : Follows typing IsFiner type_itself type_along alive types so) where
  arg_typed : (arg : Arg) → is_known types arg ≡ true → ((n : ℕ) → is_result n arg ≡ true → alive n ≡ true)
      → (t : ValueType) × (s : ValueType) × (arg_type types arg ≡ Some t) × (arg_type h.values (renamed so.places arg) ≡ Some s) × IsFiner s t
  arg_typed arg known a =
      let t = is_found (arg_type types arg) known in
      let s = arg_follows typing IsFiner type_itself type_along alive types so h arg t.0 (type_is types arg ∙ t.1) a in
      (t.0, s.0, t.1, sym (type_is h.values (renamed so.places arg)) ∙ s.1, s.2)

  known_kept : (arg : Arg) → is_known types arg ≡ true → ((n : ℕ) → is_result n arg ≡ true → alive n ≡ true) → is_known h.values (renamed so.places arg) ≡ true
  known_kept arg known a = ap is_some (arg_typed arg known a).3

  or_right : (a b : Bool) → b ≡ true → (a || b) ≡ true
  or_right true b e = refl
  or_right false b e = e

  all_known : (args : List Arg) → list_all (is_known types) args ≡ true → ((n : ℕ) → uses n args ≡ true → alive n ≡ true) → list_all (is_known h.values) (map (renamed so.places) args) ≡ true
  all_known [] known a = refl
  all_known (arg ∷ args) known a =
      and_from (is_known h.values (renamed so.places arg)) (list_all (is_known h.values) (map (renamed so.places) args))
      (known_kept arg (first_so (is_known types arg) (list_all (is_known types) args) known) (λ n u. a n (ap (λ b. b || uses n args) u)))
      (all_known args (second_so (is_known types arg) (list_all (is_known types) args) known) (λ n u. a n (or_right (is_result n arg) (uses n args) u)))

  keep_known : (keep : Option Arg) → passes (is_known types) keep ≡ true → ((n : ℕ) → option_map_or (is_result n) keep false ≡ true → alive n ≡ true) → passes (is_known h.values) (option_map (renamed so.places) keep) ≡ true
  keep_known None known a = refl
  keep_known (Some arg) known a = known_kept arg known a

  keep_bit : (keep : Option Arg) → passes (is_known types) keep ≡ true → passes (is_bit types) keep ≡ true → ((n : ℕ) → option_map_or (is_result n) keep false ≡ true → alive n ≡ true) → passes (is_bit h.values) (option_map (renamed so.places) keep) ≡ true
  keep_bit None known bit a = refl
  keep_bit (Some arg) known bit a =
      let both = arg_typed arg known a in
      ap (λ o. option_map_or is_bit_type o false) both.3 ∙ bit_finer both.1 both.0 both.4 (sym (ap (λ o. option_map_or is_bit_type o false) both.2) ∙ bit)

  same_empty : (args : List Arg) → is_empty (map (renamed so.places) args) ≡ is_empty args
  same_empty [] = refl
  same_empty (arg ∷ args) = refl

  out_fine : (out : Out) → IsFine types out → ((n : ℕ) → is_shown n out ≡ true → alive n ≡ true) → IsFine h.values (renamed_out so.places out)
  out_fine out fine a = record {
    some = same_empty out.cols ∙ fine.some;
    known = all_known out.cols fine.known (λ n u. a n (ap (λ b. b || option_map_or (is_result n) out.keep false) u));
    keep_known = keep_known out.keep fine.keep_known (λ n u. a n (or_right (uses n out.cols) (option_map_or (is_result n) out.keep false) u));
    below = ap (λ n. are_below n out.order) (map_long (renamed so.places) out.cols) ∙ fine.below;
    bit = keep_bit out.keep fine.keep_known fine.bit (λ n u. a n (or_right (uses n out.cols) (option_map_or (is_result n) out.keep false) u));
  }

pub still_typed : (plan : Plan) (alive : ℕ → Bool) (step : Step) → IsTypeSound step → IsTyped plan → IsClosed plan alive → ((n : ℕ) → is_shown n plan.out ≡ true → n < length plan.instrs)
    → IsTyped (through (dropping alive step) plan)
still_typed plan alive step sound typed closed within =
    let h = all_follow typing IsFiner type_itself type_along monotone alive step sound [] nothing (starts typing IsFiner type_itself type_along alive) plan.instrs typed.types typed.ran_types
    (λ j instr at b. closed.used j instr at (ap alive (sym (from_none j)) ∙ b)) in
    record {
      types = h.values;
      ran_types = h.done;
      fine = out_fine alive typed.types (passed (dropping alive step) nothing plan.instrs) h plan.out typed.fine (λ n u. closed.shown n (within n u) u);
    }

-- ## What all instructions that stay have in common

-- where an instruction passes the first test, all that stay pass the second
abbrev pub KeepsAll : (Instr → Bool) → (Instr → Bool) → Step → Type 0
KeepsAll given test step = (so : Passed) (instr : Instr) → given instr ≡ true → list_all test so.instrs ≡ true → list_all test (step so instr).instrs ≡ true

pub all_snoc : (test : Instr → Bool) (is : List Instr) (i : Instr) → list_all test is ≡ true → test i ≡ true → list_all test (is ++ i ∷ []) ≡ true
all_snoc test [] i e f = and_from (test i) true f refl
all_snoc test (x ∷ is) i e f = and_from (test x) (list_all test (is ++ i ∷ [])) (first_so (test x) (list_all test is) e) (all_snoc test is i (second_so (test x) (list_all test is) e) f)

pub keeping_all : (test : Instr → Bool) → KeepsAll test test keeping
keeping_all test so instr e h = all_snoc test so.instrs instr h e

pub folding_all : (given test : Instr → Bool) (otherwise : Step) → KeepsAll given test otherwise → KeepsAll given test (folding otherwise)
folding_all given test otherwise p so instr e h = elim (constant_value instr) as (λ o. list_all test (option_map_or (λ cell. replaced so (Const cell)) o (otherwise so instr)).instrs ≡ true) [
  | None ↦ p so instr e h
  | Some cell ↦ h
]

pub sharing_all : (given test : Instr → Bool) (otherwise : Step) → KeepsAll given test otherwise → KeepsAll given test (sharing otherwise)
sharing_all given test otherwise p so instr e h = elim (position (same_instr instr) so.instrs) as (λ o. list_all test (option_map_or (λ n. replaced so (Var n)) o (otherwise so instr)).instrs ≡ true) [
  | None ↦ p so instr e h
  | Some n ↦ h
]

pub dropping_all : (given test : Instr → Bool) (alive : ℕ → Bool) (otherwise : Step) → KeepsAll given test otherwise → KeepsAll given test (dropping alive otherwise)
dropping_all given test alive otherwise p so instr e h = elim (alive (length so.places)) as (λ b. list_all test (cond b (otherwise so instr) (replaced so (Const Nil))).instrs ≡ true) [
  | true ↦ p so instr e h
  | false ↦ h
]

pub passed_all : (first given test : Instr → Bool) (step : Step) → ((places : List Arg) (instr : Instr) → first instr ≡ true → given (renamed_instr places instr) ≡ true) → KeepsAll given test step
    → (so : Passed) (is : List Instr) → list_all first is ≡ true → list_all test so.instrs ≡ true → list_all test (passed step so is).instrs ≡ true
passed_all first given test step r p so [] e h = h
passed_all first given test step r p so (i ∷ is) e h =
    passed_all first given test step r p (step so (renamed_instr so.places i)) is (second_so (first i) (list_all first is) e)
    (p so (renamed_instr so.places i) (r so.places i (first_so (first i) (list_all first is) e)) h)

-- ## Databases

column_fits : (db : Db) (places args : List Arg) → fits_column db args ≡ true → fits_column db (map (renamed places) args) ≡ true
column_fits db places (Const (Text table) ∷ Const (Text column) ∷ Const (Text word) ∷ []) e = e
column_fits db places args e = absurd (cc)

pub columns_fit : (db : Db) (places : List Arg) (operator : Op) (args : List Arg) → fits_columns_of db operator args ≡ true → fits_columns_of db operator (map (renamed places) args) ≡ true
columns_fit db places op.Bind args e = column_fits db places args e
columns_fit db places operator args e = refl

abbrev pub fits_instr : Db → Instr → Bool
fits_instr db i = fits_columns_of db i.op i.args

pub still_fits : (plan : Plan) (db : Db) (step : Step) → KeepsAll (fits_instr db) (fits_instr db) step → FitsDb plan db → FitsDb (through step plan) db
still_fits plan db step p fits = passed_all (fits_instr db) (fits_instr db) (fits_instr db) step (λ places instr e. columns_fit db places instr.op instr.args e) p nothing plan.instrs fits refl
