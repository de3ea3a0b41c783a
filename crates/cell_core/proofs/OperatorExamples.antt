-- What the table of operators says of small cases.
use Rattle.std.proofs.Common.{◌≡◌, ℕ, List, [], ◌∷◌, true, false, Some, None, pos, negsuc, codes, refl}
use Rattle.cell_core.specs.declared.cell.Cell.{Cell}
use Rattle.cell_core.specs.declared.cell.Cell.TheVariants.{Nil, Int, Huge, Text, Bit, Oid}
use Rattle.cell_core.specs.declared.cell.Kind.{Kind}
use Rattle.cell_core.specs.declared.cell.Kind.TheVariants as kind
use Rattle.cell_core.specs.declared.operator.Op.TheVariants as op
use Rattle.cell_core.specs.declared.operator.Value.{Value}
use Rattle.cell_core.specs.declared.operator.Value.TheVariants.{Bat, One}
use Rattle.cell_core.specs.declared.operator.Arg.TheVariants.{Const, Var}
use Rattle.cell_core.specs.declared.table.Column.{Column}
use Rattle.cell_core.specs.declared.table.Db.{Db}
use Rattle.cell_core.specs.Pairs.{numbered}
use Rattle.cell_core.specs.Relations.{bound}
use Rattle.cell_core.specs.Operators.{operate, work_of}
use Rattle.cell_core.specs.Kinds.{ValueType, OneOf, BatOf, result_type, bind_type}

abbrev int : ℕ → Cell
int n = Int (pos n)

-- a BAT with these tails
abbrev tails : List Cell → Value
tails cells = Bat (numbered cells)

-- the table 3, 1, 2, and the same with a Nil at the end
abbrev three : Value
three = tails (int 3 ∷ int 1 ∷ int 2 ∷ [])

abbrev four : Value
four = tails (int 3 ∷ int 1 ∷ int 2 ∷ Nil ∷ [])

-- ## bind

abbrev column : List ℕ → Column
column name = record { name = name; kind = kind.Int; width = 0; not_null = false; default = Nil }

abbrev database : Db
database = record {
  tables = record {
    name = codes "t";
    columns = column (codes "a") ∷ column (codes "b") ∷ [];
    rows = (int 3 ∷ Nil ∷ []) ∷ (int 1 ∷ int 7 ∷ []) ∷ [];
  } ∷ [];
}

bind : (bound (codes "t") (codes "b") database ≡ Some ((Oid 0, Nil) ∷ (Oid 1, int 7) ∷ []))
    × (bound (codes "t") (codes "c") database ≡ None) × (bound (codes "u") (codes "a") database ≡ None)
bind = (refl, refl, refl)

-- ## Operators on pairs

abbrev range : Value → Cell → Cell → Cell → Cell → List Value
range b low high li hi = b ∷ One low ∷ One high ∷ One li ∷ One hi ∷ []

-- both bounds included; both left out; no bound at all; a Nil for true counts as false
select : (operate op.Select (range four (int 2) (int 3) (Bit true) (Bit true)) ≡ Some (Bat ((Oid 0, int 3) ∷ (Oid 2, int 2) ∷ [])))
    × (operate op.Select (range four (int 1) (int 3) (Bit false) (Bit false)) ≡ Some (Bat ((Oid 2, int 2) ∷ [])))
    × (operate op.Select (range four Nil Nil (Bit true) (Bit true)) ≡ Some three)
    × (operate op.Select (range four (int 2) Nil Nil Nil) ≡ Some (Bat ((Oid 0, int 3) ∷ [])))
    × (operate op.Select (range (tails []) Nil Nil (Bit true) (Bit true)) ≡ Some (Bat []))
select = (refl, refl, refl, refl, refl)

-- heads 1 and Nil
abbrev some_heads : Value
some_heads = Bat ((Oid 1, int 9) ∷ (Nil, int 8) ∷ [])

abbrev other_heads : Value
other_heads = Bat ((Nil, int 5) ∷ (Oid 2, int 6) ∷ [])

semijoin : (operate op.Semijoin (three ∷ some_heads ∷ []) ≡ Some (Bat ((Oid 1, int 1) ∷ [])))
    × (operate op.Semijoin (some_heads ∷ other_heads ∷ []) ≡ Some (Bat ((Nil, int 8) ∷ [])))
    × (operate op.Semijoin (three ∷ tails [] ∷ []) ≡ Some (Bat []))
semijoin = (refl, refl, refl)

kdifference : (operate op.Kdifference (three ∷ some_heads ∷ []) ≡ Some (Bat ((Oid 0, int 3) ∷ (Oid 2, int 2) ∷ [])))
    × (operate op.Kdifference (some_heads ∷ other_heads ∷ []) ≡ Some (Bat ((Oid 1, int 9) ∷ [])))
    × (operate op.Kdifference (three ∷ tails [] ∷ []) ≡ Some three)
kdifference = (refl, refl, refl)

kunion : (operate op.Kunion (some_heads ∷ other_heads ∷ []) ≡ Some (Bat ((Oid 1, int 9) ∷ (Nil, int 8) ∷ (Oid 2, int 6) ∷ [])))
    × (operate op.Kunion (tails [] ∷ three ∷ []) ≡ Some three)
kunion = (refl, refl)

reverse_mirror : (operate op.Reverse (some_heads ∷ []) ≡ Some (Bat ((int 9, Oid 1) ∷ (int 8, Nil) ∷ [])))
    × (operate op.Reverse (tails [] ∷ []) ≡ Some (Bat []))
    × (operate op.Mirror (some_heads ∷ []) ≡ Some (Bat ((Oid 1, Oid 1) ∷ (Nil, Nil) ∷ [])))
    × (operate op.Mirror (tails [] ∷ []) ≡ Some (Bat []))
reverse_mirror = (refl, refl, refl, refl)

-- from 0, from the last oid, from Nil
mark : (operate op.MarkT (some_heads ∷ One (Oid 0) ∷ []) ≡ Some (Bat ((Oid 1, Oid 0) ∷ (Nil, Oid 1) ∷ [])))
    × (operate op.MarkT (some_heads ∷ One (Oid 18_446_744_073_709_551_615) ∷ []) ≡ Some (Bat ((Oid 1, Oid 18_446_744_073_709_551_615) ∷ (Nil, Oid 0) ∷ [])))
    × (operate op.MarkT (some_heads ∷ One Nil ∷ []) ≡ Some (Bat ((Oid 1, Nil) ∷ (Nil, Nil) ∷ [])))
    × (operate op.MarkT (tails [] ∷ One (Oid 0) ∷ []) ≡ Some (Bat []))
mark = (refl, refl, refl, refl)

project_cross : (operate op.Project (some_heads ∷ One Nil ∷ []) ≡ Some (Bat ((Oid 1, Nil) ∷ (Nil, Nil) ∷ [])))
    × (operate op.Project (tails [] ∷ One (int 1) ∷ []) ≡ Some (Bat []))
    × (operate op.Cross (some_heads ∷ other_heads ∷ []) ≡ Some (Bat ((Oid 1, Nil) ∷ (Oid 1, Oid 2) ∷ (Nil, Nil) ∷ (Nil, Oid 2) ∷ [])))
    × (operate op.Cross (some_heads ∷ tails [] ∷ []) ≡ Some (Bat []))
project_cross = (refl, refl, refl, refl)

abbrev left : Value
left = Bat ((int 7, Oid 1) ∷ (int 8, Oid 0) ∷ (int 9, Nil) ∷ [])

abbrev right : Value
right = Bat ((Oid 0, int 1) ∷ (Oid 1, int 2) ∷ (Oid 1, int 3) ∷ (Nil, int 4) ∷ [])

-- by the left side, then the right one; Nil matches nothing, nor does a Huge match an Int
join : (operate op.Join (left ∷ right ∷ []) ≡ Some (Bat ((int 7, int 2) ∷ (int 7, int 3) ∷ (int 8, int 1) ∷ [])))
    × (operate op.Join (Bat ((int 7, int 1) ∷ []) ∷ Bat ((Huge (pos 1), int 1) ∷ []) ∷ []) ≡ Some (Bat []))
    × (operate op.Join (tails [] ∷ three ∷ []) ≡ Some (Bat []))
join = (refl, refl, refl)

-- ## Groups

-- the tails 5, Nil, 5, Nil, 6 fall into the groups 0, 1, 0, 1, 2
abbrev repeated : Value
repeated = tails (int 5 ∷ Nil ∷ int 5 ∷ Nil ∷ int 6 ∷ [])

abbrev groups : Value
groups = tails (Oid 0 ∷ Oid 1 ∷ Oid 0 ∷ Oid 1 ∷ Oid 2 ∷ [])

group_new : (operate op.GroupNew (repeated ∷ []) ≡ Some groups) × (operate op.GroupNew (tails [] ∷ []) ≡ Some (tails []))
group_new = (refl, refl)

abbrev ones : Value
ones = tails (int 1 ∷ int 1 ∷ int 2 ∷ int 1 ∷ [])

group_derive : (operate op.GroupDerive (groups ∷ ones ∷ []) ≡ Some (tails (Oid 0 ∷ Oid 1 ∷ Oid 2 ∷ Oid 1 ∷ [])))
    × (operate op.GroupDerive (groups ∷ tails [] ∷ []) ≡ Some (tails []))
group_derive = (refl, refl)

-- heads are those of the first pairs, whatever the groups are called
group_heads : (operate op.GroupHeads (groups ∷ []) ≡ Some (tails (Oid 0 ∷ Oid 1 ∷ Oid 4 ∷ [])))
    × (operate op.GroupHeads (Bat ((int 7, Oid 5) ∷ (int 8, Nil) ∷ (int 9, Oid 5) ∷ []) ∷ []) ≡ Some (tails (int 7 ∷ int 8 ∷ [])))
    × (operate op.GroupHeads (tails [] ∷ []) ≡ Some (tails []))
group_heads = (refl, refl, refl)

aggregates : (operate op.Count (four ∷ []) ≡ Some (One (int 3))) × (operate op.Count (tails [] ∷ []) ≡ Some (One (int 0)))
    × (operate op.Sum (four ∷ []) ≡ Some (One (Huge (pos 6)))) × (operate op.Sum (tails (Nil ∷ []) ∷ []) ≡ Some (One Nil))
    × (operate op.Min (four ∷ []) ≡ Some (One (int 1))) × (operate op.Min (tails [] ∷ []) ≡ Some (One Nil))
    × (operate op.Max (four ∷ []) ≡ Some (One (int 3))) × (operate op.Max (tails (Nil ∷ []) ∷ []) ≡ Some (One Nil))
aggregates = (refl, refl, refl, refl, refl, refl, refl, refl)

-- each group of g counts, also where b is shorter
by_group : (operate op.Subcount (four ∷ groups ∷ []) ≡ Some (tails (int 2 ∷ int 1 ∷ int 0 ∷ [])))
    × (operate op.Subsum (four ∷ groups ∷ []) ≡ Some (tails (Huge (pos 5) ∷ Huge (pos 1) ∷ Nil ∷ [])))
    × (operate op.Submin (four ∷ groups ∷ []) ≡ Some (tails (int 2 ∷ int 1 ∷ Nil ∷ [])))
    × (operate op.Submax (four ∷ groups ∷ []) ≡ Some (tails (int 3 ∷ int 1 ∷ Nil ∷ [])))
    × (operate op.Subcount (tails [] ∷ tails [] ∷ []) ≡ Some (tails []))
by_group = (refl, refl, refl, refl, refl)

-- ## Functions of cells

abbrev greatest : Cell
greatest = int 9_223_372_036_854_775_807

abbrev least : Cell
least = Int (negsuc 9_223_372_036_854_775_807)

-- of scalars, at both ends of the range, and of Nil
arithmetic : (operate op.Plus (One greatest ∷ One (Int (negsuc 0)) ∷ []) ≡ Some (One (int 9_223_372_036_854_775_806)))
    × (operate op.Plus (One greatest ∷ One (int 1) ∷ []) ≡ None)
    × (operate op.Minus (One least ∷ One (int 0) ∷ []) ≡ Some (One least))
    × (operate op.Minus (One least ∷ One (int 1) ∷ []) ≡ None)
    × (operate op.Times (One least ∷ One (int 1) ∷ []) ≡ Some (One least))
    × (operate op.Times (One least ∷ One (Int (negsuc 0)) ∷ []) ≡ None)
    × (operate op.Plus (One Nil ∷ One greatest ∷ []) ≡ Some (One Nil))
arithmetic = (refl, refl, refl, refl, refl, refl, refl)

-- by position up to the shortest BAT, with the heads of the first one; a fault anywhere is a fault
arithmetic_of_bats : (operate op.Plus (four ∷ some_heads ∷ []) ≡ Some (Bat ((Oid 0, int 12) ∷ (Oid 1, int 9) ∷ [])))
    × (operate op.Times (One (int 2) ∷ four ∷ []) ≡ Some (tails (int 6 ∷ int 2 ∷ int 4 ∷ Nil ∷ [])))
    × (operate op.Times (One greatest ∷ four ∷ []) ≡ None)
    × (operate op.Minus (tails [] ∷ One (int 1) ∷ []) ≡ Some (tails []))
arithmetic_of_bats = (refl, refl, refl, refl)

comparisons : (operate op.Eq (One (int 1) ∷ One (Huge (pos 1)) ∷ []) ≡ Some (One (Bit true)))
    × (operate op.Ne (One (int 1) ∷ One (int 1) ∷ []) ≡ Some (One (Bit false)))
    × (operate op.Eq (One Nil ∷ One Nil ∷ []) ≡ Some (One Nil))
    × (operate op.Lt (four ∷ One (int 2) ∷ []) ≡ Some (tails (Bit false ∷ Bit true ∷ Bit false ∷ Nil ∷ [])))
    × (operate op.Le (four ∷ One (int 2) ∷ []) ≡ Some (tails (Bit false ∷ Bit true ∷ Bit true ∷ Nil ∷ [])))
    × (operate op.Gt (four ∷ One (int 2) ∷ []) ≡ Some (tails (Bit true ∷ Bit false ∷ Bit false ∷ Nil ∷ [])))
    × (operate op.Ge (four ∷ One (int 2) ∷ []) ≡ Some (tails (Bit true ∷ Bit false ∷ Bit true ∷ Nil ∷ [])))
    × (operate op.Ge (tails [] ∷ One (int 2) ∷ []) ≡ Some (tails []))
comparisons = (refl, refl, refl, refl, refl, refl, refl, refl)

abbrev bits : Value
bits = tails (Bit true ∷ Bit false ∷ Nil ∷ [])

three_valued : (operate op.And (bits ∷ One (Bit true) ∷ []) ≡ Some bits)
    × (operate op.And (bits ∷ One (Bit false) ∷ []) ≡ Some (tails (Bit false ∷ Bit false ∷ Bit false ∷ [])))
    × (operate op.And (bits ∷ One Nil ∷ []) ≡ Some (tails (Nil ∷ Bit false ∷ Nil ∷ [])))
    × (operate op.Or (bits ∷ One (Bit true) ∷ []) ≡ Some (tails (Bit true ∷ Bit true ∷ Bit true ∷ [])))
    × (operate op.Or (bits ∷ One (Bit false) ∷ []) ≡ Some bits)
    × (operate op.Or (bits ∷ One Nil ∷ []) ≡ Some (tails (Bit true ∷ Nil ∷ Nil ∷ [])))
    × (operate op.Not (bits ∷ []) ≡ Some (tails (Bit false ∷ Bit true ∷ Nil ∷ [])))
    × (operate op.Not (One Nil ∷ []) ≡ Some (One Nil))
three_valued = (refl, refl, refl, refl, refl, refl, refl, refl)

-- never unknown
nil_tests : (operate op.IsNil (One Nil ∷ []) ≡ Some (One (Bit true))) × (operate op.IsNil (One (int 0) ∷ []) ≡ Some (One (Bit false)))
    × (operate op.IsNil (four ∷ []) ≡ Some (tails (Bit false ∷ Bit false ∷ Bit false ∷ Bit true ∷ [])))
    × (operate op.IsNil (tails [] ∷ []) ≡ Some (tails []))
nil_tests = (refl, refl, refl, refl)

-- ## Work and kinds

-- the arguments' pairs and the result's; a scalar counts 0; an overflow counts the shortest BAT in place of a result
work : (work_of op.Select (range four (int 2) (int 3) (Bit true) (Bit true)) ≡ 6) × (work_of op.Join (three ∷ three ∷ []) ≡ 6)
    × (work_of op.Count (four ∷ []) ≡ 4) × (work_of op.Plus (One (int 1) ∷ One (int 1) ∷ []) ≡ 0)
    × (work_of op.Plus (four ∷ three ∷ []) ≡ 10) × (work_of op.Times (four ∷ tails (greatest ∷ greatest ∷ []) ∷ []) ≡ 8)
    × (work_of op.Plus (One greatest ∷ One greatest ∷ []) ≡ 0)
work = (refl, refl, refl, refl, refl, refl, refl)

-- a BAT of oids and a kind
abbrev column_of : Kind → ValueType
column_of k = BatOf (Some kind.Oid) (Some k)

abbrev scalar : Kind → ValueType
scalar k = OneOf (Some k)

-- Nil fits every kind
kinds : (result_type op.Select (column_of kind.Int ∷ OneOf None ∷ scalar kind.Int ∷ scalar kind.Bit ∷ OneOf None ∷ []) ≡ Some (column_of kind.Int))
    × (result_type op.Select (column_of kind.Int ∷ scalar kind.Text ∷ OneOf None ∷ scalar kind.Bit ∷ scalar kind.Bit ∷ []) ≡ None)
    × (result_type op.Join (column_of kind.Oid ∷ column_of kind.Text ∷ []) ≡ Some (column_of kind.Text))
    × (result_type op.Join (column_of kind.Int ∷ column_of kind.Text ∷ []) ≡ None)
    × (result_type op.Join (column_of kind.Oid ∷ scalar kind.Oid ∷ []) ≡ None)
    × (result_type op.Project (column_of kind.Oid ∷ OneOf None ∷ []) ≡ Some (BatOf (Some kind.Oid) None))
    × (result_type op.Kunion (BatOf None None ∷ column_of kind.Text ∷ []) ≡ Some (column_of kind.Text))
    × (result_type op.Plus (OneOf None ∷ OneOf None ∷ []) ≡ Some (scalar kind.Int))
    × (result_type op.Plus (scalar kind.Int ∷ column_of kind.Int ∷ []) ≡ Some (column_of kind.Int))
    × (result_type op.Plus (scalar kind.Huge ∷ scalar kind.Int ∷ []) ≡ None)
    × (result_type op.Lt (scalar kind.Huge ∷ scalar kind.Int ∷ []) ≡ Some (scalar kind.Bit))
    × (result_type op.Lt (scalar kind.Text ∷ scalar kind.Int ∷ []) ≡ None)
    × (result_type op.Subsum (column_of kind.Int ∷ column_of kind.Oid ∷ []) ≡ Some (column_of kind.Huge))
kinds = (refl, refl, refl, refl, refl, refl, refl, refl, refl, refl, refl, refl, refl)

bind_kinds : (bind_type (Const (Text (codes "t")) ∷ Const (Text (codes "a")) ∷ Const (Text (codes "str")) ∷ []) ≡ Some (column_of kind.Text))
    × (bind_type (Const (Text (codes "t")) ∷ Const (Text (codes "a")) ∷ Const (Text (codes "text")) ∷ []) ≡ None)
    × (bind_type (Const (Text (codes "t")) ∷ Const Nil ∷ Const (Text (codes "int")) ∷ []) ≡ None)
    × (bind_type (Const (Text (codes "t")) ∷ Var 0 ∷ Const (Text (codes "int")) ∷ []) ≡ None)
bind_kinds = (refl, refl, refl, refl)
