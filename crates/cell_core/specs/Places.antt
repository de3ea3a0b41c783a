-- The operators in the order of their table.
use Rattle.std.specs.Prelude.{List, [], ◌∷◌}
use Rattle.cell_core.specs.declared.operator.Op.{Op}
use Rattle.cell_core.specs.declared.operator.Op.TheVariants as op

abbrev pub operators : List Op
operators =
    op.Bind ∷ op.Select ∷ op.Semijoin ∷ op.Kdifference ∷ op.Kunion ∷ op.Reverse ∷ op.Mirror ∷ op.MarkT ∷ op.Project ∷ op.Cross ∷ op.Join
    ∷ op.GroupNew ∷ op.GroupDerive ∷ op.GroupHeads ∷ op.Count ∷ op.Sum ∷ op.Min ∷ op.Max ∷ op.Subcount ∷ op.Subsum ∷ op.Submin ∷ op.Submax
    ∷ op.Plus ∷ op.Minus ∷ op.Times ∷ op.Eq ∷ op.Ne ∷ op.Lt ∷ op.Le ∷ op.Gt ∷ op.Ge ∷ op.And ∷ op.Or ∷ op.Not ∷ op.IsNil ∷ []
