-- A plan without a fault can be run over every database whose columns are of the kinds that it binds.
use Rattle.std.specs.Prelude.{◌≡◌, List, [], ◌∷◌, Bool, true, false, Some, None, IsTrue}
use Rattle.std.specs.List.{list_all}
use Rattle.std.specs.Option.{option_map_or}
use Rattle.cell_core.specs.declared.cell.Cell.TheVariants.{Text}
use Rattle.cell_core.specs.declared.cell.Kind.TheVariants as kind
use Rattle.cell_core.specs.declared.operator.Op.{Op}
use Rattle.cell_core.specs.declared.operator.Op.TheVariants as op
use Rattle.cell_core.specs.declared.operator.Arg.{Arg}
use Rattle.cell_core.specs.declared.operator.Arg.TheVariants.{Const}
use Rattle.cell_core.specs.declared.operator.Instr.{Instr}
use Rattle.cell_core.specs.declared.operator.Value.TheVariants.{Bat}
use Rattle.cell_core.specs.declared.table.Db.{Db}
use Rattle.cell_core.specs.Kinds.{BatOf, is_of_type, named_kind}
use Rattle.cell_core.specs.Relations.{bound}
use Rattle.mal_meaning.specs.declared.plan.Plan.{Plan}
use Rattle.mal_meaning.specs.Runs.{Runs}
use Rattle.mal_check.specs.Checked.{plan_fault}

-- where the column that a bind names exists, its cells are Nil or of the kind that it names
abbrev pub fits_column : Db → List Arg → Bool
fits_column db (Const (Text table) ∷ Const (Text column) ∷ Const (Text word) ∷ []) =
    option_map_or (λ b. is_of_type (Bat b) (BatOf (Some kind.Oid) (named_kind word))) (bound table column db) true
fits_column db _ = false

abbrev pub fits_columns_of : Db → Op → List Arg → Bool
fits_columns_of db op.Bind args = fits_column db args
fits_columns_of db operator args = true

-- the columns that the plan binds are of the kinds that it names, those that the database has
abbrev pub FitsDb : Plan → Db → Type 0
FitsDb plan db = IsTrue (list_all (λ (i : Instr). fits_columns_of db i.op i.args) plan.instrs)

-- a plan without a fault can be run over each such database
abbrev pub CheckedPlansRun : Type 0
CheckedPlansRun = (plan : Plan) (db : Db) → plan_fault plan ≡ None → FitsDb plan db → Runs plan db
