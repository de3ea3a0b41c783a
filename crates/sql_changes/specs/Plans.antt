-- What a change is to do to a table; only private contracts cite it.
use Rattle.std.specs.Prelude.{ℕ, suc, List, [], ◌∷◌, ◌++◌, length, map, count_by, Bool, if◌then◌else◌, bytes_eq, Option, Some, None, Ok, Err}
use Rattle.std.specs.List.{list_any}
use Rattle.std.specs.Option.{option_map}
use Rattle.cell_core.specs.declared.cell.Cell.{Cell}
use Rattle.cell_core.specs.declared.table.Table.{Table}
use Rattle.cell_core.specs.Tables.{with_new_rows}
use Rattle.sql_definitions.specs.Effect.{Change}
use Rattle.sql_changes.specs.declared.plan.Work.{Work}
use Rattle.sql_changes.specs.declared.plan.Work.TheVariants.{Adds, Settles}
use Rattle.sql_changes.specs.declared.plan.PlannedChange.{PlannedChange}
use Rattle.sql_changes.specs.declared.plan.PlannedChange.TheVariants.{Refused, Accepted}
use Rattle.sql_changes.specs.Fates.{is_touched, settled}

-- these rows after the work
abbrev pub rows_after : Work → List (List Cell) → List (List Cell)
rows_after (Adds more) rows = rows ++ more
rows_after (Settles fates) rows = settled fates rows

-- how many rows it touches
abbrev pub touched_by : Work → ℕ
touched_by (Adds more) = length more
touched_by (Settles fates) = count_by is_touched fates

-- a plan as a change of these rows
abbrev pub change_of : PlannedChange → List (List Cell) → Change
change_of (Refused refusal) rows = Err refusal
change_of (Accepted work) rows = Ok (rows_after work rows, touched_by work)

-- the table has this name
abbrev pub is_named : List ℕ → Table → Bool
is_named name table = bytes_eq table.name name

-- the place of the table with this name, where only one has it
abbrev pub place_once : List ℕ → List Table → Option ℕ
place_once name [] = None
place_once name (table ∷ tables) =
    if bytes_eq table.name name then (if list_any (is_named name) tables then None else Some 0)
    else option_map (λ n. suc n) (place_once name tables)

-- each table with the name gets the rows of the first of them after the work
abbrev pub reworked : List ℕ → Work → Option Table → List Table → List Table
reworked name work None tables = tables
reworked name work (Some table) tables = map (with_new_rows name (rows_after work table.rows)) tables
