-- Which arguments fit an operator. A kind None is that of a Nil constant, which fits every kind.
use Rattle.std.specs.Prelude.{ℕ, List, [], ◌∷◌, Bool, true, false, ◌&&◌, ◌||◌, if◌then◌else◌, bytes_eq, codes, Option, Some, None, IsSome, IsTrue}
use Rattle.std.specs.List.{list_all}
use Rattle.std.specs.Bool.{then_some}
use Rattle.std.specs.Option.{option_or, option_map}
use Rattle.cell_core.specs.declared.cell.Cell.{Cell}
use Rattle.cell_core.specs.declared.cell.Cell.TheVariants as cell
use Rattle.cell_core.specs.declared.cell.Kind.{Kind}
use Rattle.cell_core.specs.declared.cell.Kind.TheVariants as kind
use Rattle.cell_core.specs.declared.operator.Op.{Op}
use Rattle.cell_core.specs.declared.operator.Op.TheVariants as op
use Rattle.cell_core.specs.declared.operator.Arg.{Arg}
use Rattle.cell_core.specs.declared.operator.Arg.TheVariants.{Const}
use Rattle.cell_core.specs.declared.operator.Value.{Value}
use Rattle.cell_core.specs.declared.operator.Value.TheVariants.{Bat, One}

-- ## Types

-- what a variable of a plan can be: one cell of a kind, or a BAT with a kind for its heads and one for its tails
pub data ValueType : Type 0 where
  OneOf : Option Kind → ValueType
  BatOf : Option Kind → Option Kind → ValueType

-- the kind of a cell
abbrev pub kind_of : Cell → Option Kind
kind_of cell.Nil = None
kind_of (cell.Int n) = Some kind.Int
kind_of (cell.Huge n) = Some kind.Huge
kind_of (cell.Text bs) = Some kind.Text
kind_of (cell.Day n) = Some kind.Day
kind_of (cell.Bit b) = Some kind.Bit
kind_of (cell.Oid n) = Some kind.Oid

abbrev pub same_kind : Kind → Kind → Bool
same_kind kind.Int kind.Int = true
same_kind kind.Huge kind.Huge = true
same_kind kind.Text kind.Text = true
same_kind kind.Day kind.Day = true
same_kind kind.Bit kind.Bit = true
same_kind kind.Oid kind.Oid = true
same_kind _ _ = false

-- the two kinds are equal, or one of them is that of Nil
abbrev pub agrees : Option Kind → Option Kind → Bool
agrees None b = true
agrees (Some a) None = true
agrees (Some a) (Some b) = same_kind a b

-- the cell is Nil or of the kind
abbrev pub is_of_kind : Option Kind → Cell → Bool
is_of_kind k cell.Nil = true
is_of_kind None c = false
is_of_kind (Some k) c = agrees (Some k) (kind_of c)

-- each head and each tail is Nil or of its kind
abbrev pub is_of_type : Value → ValueType → Bool
is_of_type (One c) (OneOf k) = is_of_kind k c
is_of_type (Bat b) (BatOf head tail) = list_all (λ p. is_of_kind head p.0 && is_of_kind tail p.1) b
is_of_type (One c) (BatOf head tail) = false
is_of_type (Bat b) (OneOf k) = false

-- each value is of the type at its place
abbrev pub are_of_types : List Value → List ValueType → Bool
are_of_types [] [] = true
are_of_types (v ∷ vs) (t ∷ ts) = is_of_type v t && are_of_types vs ts
are_of_types [] (t ∷ ts) = false
are_of_types (v ∷ vs) [] = false

-- ## Arguments

-- one BAT
abbrev pub from_bat : (Option Kind → Option Kind → Option ValueType) → List ValueType → Option ValueType
from_bat f (BatOf head tail ∷ []) = f head tail
from_bat f _ = None

-- two BATs
abbrev pub from_bats : (Option Kind → Option Kind → Option Kind → Option Kind → Option ValueType) → List ValueType → Option ValueType
from_bats f (BatOf head tail ∷ BatOf head' tail' ∷ []) = f head tail head' tail'
from_bats f _ = None

-- a BAT and a scalar
abbrev pub from_bat_and_cell : (Option Kind → Option Kind → Option Kind → Option ValueType) → List ValueType → Option ValueType
from_bat_and_cell f (BatOf head tail ∷ OneOf k ∷ []) = f head tail k
from_bat_and_cell f _ = None

-- a BAT, two bounds of its tails' kind, and two bits
abbrev pub from_range : List ValueType → Option ValueType
from_range (BatOf head tail ∷ OneOf low ∷ OneOf high ∷ OneOf li ∷ OneOf hi ∷ []) =
    then_some (agrees low tail && agrees high tail && agrees li (Some kind.Bit) && agrees hi (Some kind.Bit)) (BatOf head tail)
from_range _ = None

-- the kind of the cells that a function of cells takes from a value
abbrev pub cells_kind : ValueType → Option Kind
cells_kind (OneOf k) = k
cells_kind (BatOf head tail) = tail

-- the type of what a function of cells returns: a scalar, or a BAT with the head kind of the first BAT
abbrev pub calculated_type : Kind → List ValueType → ValueType
calculated_type k [] = OneOf (Some k)
calculated_type k (BatOf head tail ∷ types) = BatOf head (Some k)
calculated_type k (OneOf _ ∷ types) = calculated_type k types

-- two arguments whose cells pass a test
abbrev pub from_two : (Option Kind → Option Kind → Bool) → Kind → List ValueType → Option ValueType
from_two test k (x ∷ y ∷ []) = then_some (test (cells_kind x) (cells_kind y)) (calculated_type k (x ∷ y ∷ []))
from_two test k _ = None

-- one argument whose cells are of a kind
abbrev pub from_one : Kind → Kind → List ValueType → Option ValueType
from_one taken k (x ∷ []) = then_some (agrees (cells_kind x) (Some taken)) (calculated_type k (x ∷ []))
from_one taken k _ = None

-- one argument whose cells are of any kind
abbrev pub from_any : Kind → List ValueType → Option ValueType
from_any k (x ∷ []) = Some (calculated_type k (x ∷ []))
from_any k _ = None

-- both are of the kind
abbrev pub both_are : Kind → Option Kind → Option Kind → Bool
both_are k a b = agrees a (Some k) && agrees b (Some k)

-- a number, of which Nil may be one
abbrev pub is_numeric : Option Kind → Bool
is_numeric k = agrees k (Some kind.Int) || agrees k (Some kind.Huge)

-- numbers compare with numbers, other cells with those of their kind
abbrev pub are_comparable : Option Kind → Option Kind → Bool
are_comparable a b = agrees a b || (is_numeric a && is_numeric b)

-- ## The table

-- the type of an operator's result, where None says that the arguments don't fit. Bind has its own rule
abbrev pub result_type : Op → List ValueType → Option ValueType
result_type op.Bind = λ types. None
result_type op.Select = from_range
result_type op.Semijoin = from_bats (λ h t h' t'. then_some (agrees h h') (BatOf h t))
result_type op.Kdifference = from_bats (λ h t h' t'. then_some (agrees h h') (BatOf h t))
result_type op.Kunion = from_bats (λ h t h' t'. then_some (agrees h h' && agrees t t') (BatOf (option_or h h') (option_or t t')))
result_type op.Reverse = from_bat (λ h t. Some (BatOf t h))
result_type op.Mirror = from_bat (λ h t. Some (BatOf h h))
result_type op.MarkT = from_bat_and_cell (λ h t base. then_some (agrees base (Some kind.Oid)) (BatOf h (Some kind.Oid)))
result_type op.Project = from_bat_and_cell (λ h t k. Some (BatOf h k))
result_type op.Cross = from_bats (λ h t h' t'. Some (BatOf h h'))
result_type op.Join = from_bats (λ h t h' t'. then_some (agrees t h') (BatOf h t'))
result_type op.GroupNew = from_bat (λ h t. Some (BatOf h (Some kind.Oid)))
result_type op.GroupDerive = from_bats (λ h g h' t. then_some (agrees g (Some kind.Oid)) (BatOf h (Some kind.Oid)))
result_type op.GroupHeads = from_bat (λ h g. then_some (agrees g (Some kind.Oid)) (BatOf (Some kind.Oid) h))
result_type op.Count = from_bat (λ h t. Some (OneOf (Some kind.Int)))
result_type op.Sum = from_bat (λ h t. then_some (agrees t (Some kind.Int)) (OneOf (Some kind.Huge)))
result_type op.Min = from_bat (λ h t. Some (OneOf t))
result_type op.Max = from_bat (λ h t. Some (OneOf t))
result_type op.Subcount = from_bats (λ h t h' g. then_some (agrees g (Some kind.Oid)) (BatOf (Some kind.Oid) (Some kind.Int)))
result_type op.Subsum = from_bats (λ h t h' g. then_some (agrees g (Some kind.Oid) && agrees t (Some kind.Int)) (BatOf (Some kind.Oid) (Some kind.Huge)))
result_type op.Submin = from_bats (λ h t h' g. then_some (agrees g (Some kind.Oid)) (BatOf (Some kind.Oid) t))
result_type op.Submax = from_bats (λ h t h' g. then_some (agrees g (Some kind.Oid)) (BatOf (Some kind.Oid) t))
result_type op.Plus = from_two (both_are kind.Int) kind.Int
result_type op.Minus = from_two (both_are kind.Int) kind.Int
result_type op.Times = from_two (both_are kind.Int) kind.Int
result_type op.Eq = from_two are_comparable kind.Bit
result_type op.Ne = from_two are_comparable kind.Bit
result_type op.Lt = from_two are_comparable kind.Bit
result_type op.Le = from_two are_comparable kind.Bit
result_type op.Gt = from_two are_comparable kind.Bit
result_type op.Ge = from_two are_comparable kind.Bit
result_type op.And = from_two (both_are kind.Bit) kind.Bit
result_type op.Or = from_two (both_are kind.Bit) kind.Bit
result_type op.Not = from_one kind.Bit kind.Bit
result_type op.IsNil = from_any kind.Bit

-- the kind that a bind names
abbrev pub named_kind : List ℕ → Option Kind
named_kind word =
    if bytes_eq word (codes "int") then Some kind.Int else if bytes_eq word (codes "str") then Some kind.Text
    else if bytes_eq word (codes "date") then Some kind.Day else None

-- the type of a bind: its arguments are the texts of a table, a column and a kind
abbrev pub bind_type : List Arg → Option ValueType
bind_type (Const (cell.Text table) ∷ Const (cell.Text column) ∷ Const (cell.Text word) ∷ []) =
    option_map (λ k. BatOf (Some kind.Oid) (Some k)) (named_kind word)
bind_type _ = None

-- the arguments are of types that fit the operator
pub record Fits (operator : Op) (args : List Value) : Type 0 where
  pub types : List ValueType
  pub are_typed : IsTrue (are_of_types args types)
  pub fit : IsSome (result_type operator types)
