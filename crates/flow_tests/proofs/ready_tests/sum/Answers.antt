use Rattle.std.proofs.Common.{rules, ◌≡◌, List, [], ◌∷◌, subst, sym, refl}
use Rattle.cell_core.specs.declared.cell.Cell.TheVariants.{Int}
use Rattle.cell_core.specs.declared.operator.Op.TheVariants as op
use Rattle.cell_core.specs.Kinds.{Fits}
use Rattle.bat_core.specs.declared.shared.Obj.TheVariants.{One}
use Rattle.bat_core.specs.Objects.{values_of}
use Rattle.flow_tests.proofs.TwoInts.{two_ints}
use Rattle.flow_tests.proofs.ready_tests.sum.Goals as goal

pub returns : goal.returns
returns c =
    let are : c.push-2.new.self.items ≡ One (Int c.args.first) ∷ One (Int c.args.second) ∷ [] = search rules in
    subst (λ objs. Fits op.Plus (values_of objs)) (sym are) (two_ints op.Plus c.args.first c.args.second refl)
