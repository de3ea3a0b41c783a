-- What may be wrong with a value; only private contracts cite it.
use Rattle.std.specs.Prelude.{ℕ, List, ◌++◌, Bool, false, ◌&&◌, if◌then◌else◌, bytes_eq, Option, Some, None}
use Rattle.std.specs.List.{list_any}
use Rattle.std.specs.Option.{option_map_or}
use Rattle.cell_core.specs.declared.cell.Cell.{Cell}
use Rattle.cell_core.specs.declared.table.Column.{Column}
use Rattle.cell_core.specs.declared.table.Table.{Table}
use Rattle.sql_tree.specs.Tree.{ExprTree}
use Rattle.sql_definitions.specs.declared.refusal.Refusal.{Refusal}
use Rattle.sql_definitions.specs.Check.{refused_if}
use Rattle.sql_definitions.specs.Effect.{is_null_refused, is_too_long_set, is_null_set, overflows_in}
use Rattle.sql_changes.specs.declared.fault.ValueFault.{ValueFault}
use Rattle.sql_changes.specs.declared.fault.ValueFault.TheVariants as fault

-- the value for a row has the fault
abbrev pub has_fault : ValueFault → Table → List Cell → List ℕ × ExprTree → Bool
has_fault fault.TooLong = is_too_long_set
has_fault fault.Null = is_null_set
has_fault fault.Overflow = overflows_in

-- a column with this name refuses the value
abbrev pub is_refused_there : List ℕ → Option Cell → List Column → Bool
is_refused_there name value columns = list_any (λ (column : Column). bytes_eq column.name name && option_map_or (is_null_refused column) value false) columns

-- three refusals in their order, each where its cause holds
abbrev pub in_turn : Bool → Refusal → Bool → Refusal → Bool → Refusal → List Refusal
in_turn a r b s c t = refused_if a r ++ refused_if b s ++ refused_if c t

-- the first of them
abbrev pub first_of : Bool → Refusal → Bool → Refusal → Bool → Refusal → Option Refusal
first_of a r b s c t = if a then Some r else (if b then Some s else (if c then Some t else None))
