use Rattle.std.proofs.Common.{◌∙◌, ap, map, subst}
use Rattle.recycle_pool.specs.Indexed.{IsIndexed, kin_of}
use Rattle.recycle_pool.proofs.Beside.{beside_left}
use Rattle.recycle_pool.proofs.Totals.{all_left}
use Rattle.recycle_pool.proofs.Walks.{indexed_left}
use Rattle.recycle_pool.proofs.children.take_children.Goals as goal

pub returns-then-is_empty-clause-indexed : goal.returns-then-is_empty-clause-indexed
returns-then-is_empty-clause-indexed c = λ entries is. subst (IsIndexed c.args.children.now) (all_left c.args.gone.now entries c.if-is_empty.ensures) is

pub returns-then-is_empty-clause-kin : goal.returns-then-is_empty-clause-kin
returns-then-is_empty-clause-kin c = λ entries is. is ∙ ap (map kin_of) (all_left c.args.gone.now entries c.if-is_empty.ensures)

pub returns-clause-indexed : goal.returns-clause-indexed
returns-clause-indexed c = λ entries is. indexed_left c.args.children.now c.take_out.new.self c.args.gone.now entries c.take_out.ensures.pairs is

pub returns-clause-kin : goal.returns-clause-kin
returns-clause-kin c = λ entries is. beside_left c.args.parents.now c.take_out-2.new.self c.args.gone.now entries c.take_out-2.ensures.kin is
