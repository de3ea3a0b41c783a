use Rattle.std.proofs.Common.{Some, None, ap, ◌∙◌}
use Rattle.pool_index.specs.Named.{id_under}
use Rattle.recycle_pool.proofs.Prints.{none_under, one_under, under_print}
use Rattle.recycle_pool.proofs.keys.Keys.place.Goals as goal

pub place_with-requires-clause-only : goal.place_with-requires-clause-only
place_with-requires-clause-only c =
    one_under c.args.key.now c.in-Some.id c.args.entries.now (under_print c.args.self.now.prints c.args.key.now (Some c.in-Some.id) c.args.entries.now
    (c.in-Some.ensures ∙ ap (id_under c.args.self.now.prints) c.print_of.ensures) (c.requires.named c.if-not-self.false))

pub returns-in-None-clause-found : goal.returns-in-None-clause-found
returns-in-None-clause-found c =
    none_under c.args.key.now c.args.entries.now (under_print c.args.self.now.prints c.args.key.now None c.args.entries.now
    (c.in-None.ensures ∙ ap (id_under c.args.self.now.prints) c.print_of.ensures) (c.requires.named c.if-not-self.false))
