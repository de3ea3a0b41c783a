-- The results that count as BATs are those whose type is that of a BAT.
use Rattle.std.specs.Prelude.{◌≡◌, ℕ, zero, suc, ◌||◌, List, [], ◌∷◌, ◌++◌, map, length, Bool, true, false, Option, Some, None, Result, Ok, Err, slice_get, get_or, refl}
use Rattle.std.proofs.Common.{ap, sym, ◌∙◌}
use Rattle.std.specs.Bool.{then_some}
use Rattle.std.specs.List.{list_any}
use Rattle.std.specs.Option.{option_map}
use Rattle.std.proofs.lemmas.Option.{same_Some}
use Rattle.std.proofs.lemmas.List.{map-append}
use Rattle.cell_core.proofs.ListLemmas.{both_found}
use Rattle.cell_core.specs.declared.cell.Cell.TheVariants.{Text}
use Rattle.cell_core.specs.declared.cell.Kind.{Kind}
use Rattle.cell_core.specs.declared.cell.Kind.TheVariants as kind
use Rattle.cell_core.specs.declared.operator.Op.{Op}
use Rattle.cell_core.specs.declared.operator.Op.TheVariants as op
use Rattle.cell_core.specs.declared.operator.Arg.{Arg}
use Rattle.cell_core.specs.declared.operator.Arg.TheVariants.{Const, Var}
use Rattle.cell_core.specs.declared.operator.Instr.{Instr}
use Rattle.cell_core.specs.Forms.{form_of, is_bat, gives_bat, is_bat_result}
use Rattle.cell_core.specs.Kinds.{ValueType, OneOf, BatOf, kind_of, named_kind, bind_type, result_type, from_bat, from_bats, from_bat_and_cell, from_range, from_two, from_one, from_any, both_are, are_comparable, calculated_type}
use Rattle.mal_check.specs.declared.error.PlanError.{PlanError}
use Rattle.mal_check.specs.Checked.{arg_type, arg_types, type_over, instr_type, fault_or_else, types_from}
use Rattle.mal_check.proofs.RunLemmas.{types_given}
use Rattle.recycle_mark.specs.Laws.{is_bat_type, bats_from}

-- ## Operators

abbrev Tells : Option ValueType → Bool → Type 0
Tells o b = (t : ValueType) → o ≡ Some t → is_bat_type t ≡ b

some_tells : (s : ValueType) → Tells (Some s) (is_bat_type s)
some_tells s t e = sym (ap is_bat_type (same_Some s t e))

then_tells : (test : Bool) (s : ValueType) → Tells (then_some test s) (is_bat_type s)
then_tells true s t e = some_tells s t e
then_tells false s t e = cc

from_one_bat : (f : Option Kind → Option Kind → Option ValueType) (b : Bool) → ((h k : Option Kind) → Tells (f h k) b) → (types : List ValueType) → Tells (from_bat f types) b
from_one_bat f b p (BatOf h k ∷ []) t e = p h k t e
from_one_bat f b p types t e = absurd (cc)

from_two_bats : (f : Option Kind → Option Kind → Option Kind → Option Kind → Option ValueType) (b : Bool) → ((h k i j : Option Kind) → Tells (f h k i j) b) → (types : List ValueType) → Tells (from_bats f types) b
from_two_bats f b p (BatOf h k ∷ BatOf i j ∷ []) t e = p h k i j t e
from_two_bats f b p types t e = absurd (cc)

from_a_cell : (f : Option Kind → Option Kind → Option Kind → Option ValueType) (b : Bool) → ((h k i : Option Kind) → Tells (f h k i) b) → (types : List ValueType) → Tells (from_bat_and_cell f types) b
from_a_cell f b p (BatOf h k ∷ OneOf i ∷ []) t e = p h k i t e
from_a_cell f b p types t e = absurd (cc)

from_a_range : (types : List ValueType) → Tells (from_range types) true
from_a_range (BatOf h k ∷ OneOf low ∷ OneOf high ∷ OneOf li ∷ OneOf hi ∷ []) t e = then_tells _ (BatOf h k) t e
from_a_range types t e = absurd (cc)

calculated_tells : (k : Kind) (types : List ValueType) → is_bat_type (calculated_type k types) ≡ list_any is_bat_type types
calculated_tells k [] = refl
calculated_tells k (BatOf h t ∷ types) = refl
calculated_tells k (OneOf j ∷ types) = calculated_tells k types

two_tells : (test : Option Kind → Option Kind → Bool) (k : Kind) (types : List ValueType) → Tells (from_two test k types) (list_any is_bat_type types)
two_tells test k (x ∷ y ∷ []) t e = then_tells _ (calculated_type k (x ∷ y ∷ [])) t e ∙ calculated_tells k (x ∷ y ∷ [])
two_tells test k types t e = absurd (cc)

one_tells : (taken k : Kind) (types : List ValueType) → Tells (from_one taken k types) (list_any is_bat_type types)
one_tells taken k (x ∷ []) t e = then_tells _ (calculated_type k (x ∷ [])) t e ∙ calculated_tells k (x ∷ [])
one_tells taken k types t e = absurd (cc)

any_tells : (k : Kind) (types : List ValueType) → Tells (from_any k types) (list_any is_bat_type types)
any_tells k (x ∷ []) t e = some_tells (calculated_type k (x ∷ [])) t e ∙ calculated_tells k (x ∷ [])
any_tells k types t e = absurd (cc)

result_tells : (operator : Op) (types : List ValueType) → Tells (result_type operator types) (gives_bat (form_of operator) (list_any is_bat_type types))
result_tells op.Bind types t e = absurd (cc)
result_tells op.Select types t e = from_a_range types t e
result_tells op.Reverse types t e = from_one_bat _ true (λ h k. some_tells _) types t e
result_tells op.Mirror types t e = from_one_bat _ true (λ h k. some_tells _) types t e
result_tells op.GroupNew types t e = from_one_bat _ true (λ h k. some_tells _) types t e
result_tells op.GroupHeads types t e = from_one_bat _ true (λ h k. then_tells _ _) types t e
result_tells op.Count types t e = from_one_bat _ false (λ h k. some_tells _) types t e
result_tells op.Min types t e = from_one_bat _ false (λ h k. some_tells _) types t e
result_tells op.Max types t e = from_one_bat _ false (λ h k. some_tells _) types t e
result_tells op.Sum types t e = from_one_bat _ false (λ h k. then_tells _ _) types t e
result_tells op.Cross types t e = from_two_bats _ true (λ h k i j. some_tells _) types t e
result_tells op.Semijoin types t e = from_two_bats _ true (λ h k i j. then_tells _ _) types t e
result_tells op.Kdifference types t e = from_two_bats _ true (λ h k i j. then_tells _ _) types t e
result_tells op.Kunion types t e = from_two_bats _ true (λ h k i j. then_tells _ _) types t e
result_tells op.Join types t e = from_two_bats _ true (λ h k i j. then_tells _ _) types t e
result_tells op.GroupDerive types t e = from_two_bats _ true (λ h k i j. then_tells _ _) types t e
result_tells op.Subcount types t e = from_two_bats _ true (λ h k i j. then_tells _ _) types t e
result_tells op.Subsum types t e = from_two_bats _ true (λ h k i j. then_tells _ _) types t e
result_tells op.Submin types t e = from_two_bats _ true (λ h k i j. then_tells _ _) types t e
result_tells op.Submax types t e = from_two_bats _ true (λ h k i j. then_tells _ _) types t e
result_tells op.MarkT types t e = from_a_cell _ true (λ h k i. then_tells _ _) types t e
result_tells op.Project types t e = from_a_cell _ true (λ h k i. some_tells _) types t e
result_tells op.Plus types t e = two_tells (both_are kind.Int) kind.Int types t e
result_tells op.Minus types t e = two_tells (both_are kind.Int) kind.Int types t e
result_tells op.Times types t e = two_tells (both_are kind.Int) kind.Int types t e
result_tells op.Eq types t e = two_tells are_comparable kind.Bit types t e
result_tells op.Ne types t e = two_tells are_comparable kind.Bit types t e
result_tells op.Lt types t e = two_tells are_comparable kind.Bit types t e
result_tells op.Le types t e = two_tells are_comparable kind.Bit types t e
result_tells op.Gt types t e = two_tells are_comparable kind.Bit types t e
result_tells op.Ge types t e = two_tells are_comparable kind.Bit types t e
result_tells op.And types t e = two_tells (both_are kind.Bit) kind.Bit types t e
result_tells op.Or types t e = two_tells (both_are kind.Bit) kind.Bit types t e
result_tells op.Not types t e = one_tells kind.Bit kind.Bit types t e
result_tells op.IsNil types t e = any_tells kind.Bit types t e

named_tells : (o : Option Kind) → Tells (option_map (λ k. BatOf (Some kind.Oid) (Some k)) o) true
named_tells None t e = cc
named_tells (Some k) t e = some_tells (BatOf (Some kind.Oid) (Some k)) t e

bind_tells : (args : List Arg) → Tells (bind_type args) true
bind_tells (Const (Text table) ∷ Const (Text column) ∷ Const (Text word) ∷ []) t e = named_tells (named_kind word) t e
bind_tells args t e = absurd (cc)

over_tells : (operator : Op) (args : List Arg) (types : List ValueType) → Tells (type_over operator args types) (gives_bat (form_of operator) (list_any is_bat_type types))
over_tells op.Bind args types t e = bind_tells args t e
over_tells operator args types t e = result_tells operator types t e

-- ## Arguments

at_tells : (types : List ValueType) (n : ℕ) (t : ValueType) → slice_get types n ≡ Some t → get_or (map is_bat_type types) n false ≡ is_bat_type t
at_tells [] n t e = cc
at_tells (x ∷ types) zero t e = ap is_bat_type (same_Some x t e)
at_tells (x ∷ types) (suc n) t e = at_tells types n t e

arg_tells : (types : List ValueType) (arg : Arg) (t : ValueType) → arg_type types arg ≡ Some t → is_bat (map is_bat_type types) arg ≡ is_bat_type t
arg_tells types (Const c) t e = ap is_bat_type (same_Some (OneOf (kind_of c)) t e)
arg_tells types (Var n) t e = at_tells types n t e

args_tell : (types : List ValueType) (args : List Arg) (found : List ValueType) → arg_types types args ≡ Some found → list_any (is_bat (map is_bat_type types)) args ≡ list_any is_bat_type found
args_tell types [] found e = ap (list_any is_bat_type) (same_Some [] found e)
args_tell types (arg ∷ args) found e =
    let parts = both_found (arg_type types arg) (arg_types types args) found e in
    ap (λ b. b || list_any (is_bat (map is_bat_type types)) args) (arg_tells types arg parts.0 parts.2)
    ∙ ap (λ b. is_bat_type parts.0 || b) (args_tell types args parts.1 parts.3) ∙ ap (list_any is_bat_type) parts.4

instr_tells : (types : List ValueType) (instr : Instr) (t : ValueType) → instr_type types instr ≡ Ok t → is_bat_result (map is_bat_type types) instr ≡ is_bat_type t
unfolding instr_type
instr_tells types instr t e =
    let given = types_given (length types) instr.op instr.args (arg_types types instr.args) t e in
    ap (gives_bat (form_of instr.op)) (args_tell types instr.args given.0 given.1) ∙ sym (over_tells instr.op instr.args given.0 t given.2)

-- ## Plans

ok_is : {X E : Type 0} (a b : X) (r : Result X E) → r ≡ Ok a → r ≡ Ok b → a ≡ b
ok_is a b r e f = cc

from_tells : (types : List ValueType) (instrs : List Instr) (all : List ValueType) → types_from types instrs ≡ Ok all → bats_from (map is_bat_type types) instrs ≡ map is_bat_type all
from_tells types [] all e = ap (map is_bat_type) (ok_is types all (types_from types []) refl e)
from_tells types (i ∷ is) all e =
    let first = first_of (instr_type types i) e in
    ap (λ b. bats_from (map is_bat_type types ++ b ∷ []) is) (instr_tells types i first.0 first.1)
    ∙ sym (ap (λ bs. bats_from bs is) (map-append is_bat_type types (first.0 ∷ []))) ∙ from_tells (types ++ first.0 ∷ []) is all first.2
  where
    first_of : (r : Result ValueType PlanError) → fault_or_else (λ found. types_from (types ++ found ∷ []) is) r ≡ Ok all → (t : ValueType) × (r ≡ Ok t) × (types_from (types ++ t ∷ []) is ≡ Ok all)
    first_of (Err x) e = absurd (cc)
    first_of (Ok t) e = (t, refl, e)

pub bats_typed : (instrs : List Instr) (types : List ValueType) → types_from [] instrs ≡ Ok types → bats_from [] instrs ≡ map is_bat_type types
bats_typed instrs types e = from_tells [] instrs types e
