use Rattle.std.proofs.Common.{sym, subst, arith}
use Rattle.recycle_pool.specs.Indexed.{AreBeside, IsIndexed}
use Rattle.recycle_pool.proofs.Placing.{wide_on}
use Rattle.recycle_pool.proofs.Prints.{named_left}
use Rattle.recycle_pool.proofs.entries.Entries.give_up.Goals as goal

pub returns-clause-found : goal.returns-clause-found
returns-clause-found c = record {
  named = named_left c.args.self.now.keys c.args.gone.now c.args.self.now.all.items c.leave.new.entries.items c.leave.ensures.entries c.requires.found.named;
  indexed = subst (IsIndexed c.take_children.new.children) (sym c.leave.ensures.entries) (c.take_children.ensures.indexed c.args.self.now.all.items c.requires.found.indexed);
  beside = subst (AreBeside c.take_children.new.parents) (sym c.leave.ensures.entries) (c.take_children.ensures.kin c.args.self.now.all.items c.requires.found.beside);
}

pub returns-clause-room : goal.returns-clause-room
returns-clause-room c = λ places had. wide_on places _ _ _ _ _ _ _ _ (omega (arith, c.leave.ensures.room)) (omega arith) c.take_children.ensures.room c.take_children.ensures.kin_room had
