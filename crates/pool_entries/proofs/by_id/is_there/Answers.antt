use Rattle.std.proofs.Common.{◌∙◌}
use Rattle.pool_entries.proofs.Ids.{there_is_place}
use Rattle.pool_entries.proofs.by_id.is_there.Goals as goal

pub returns : goal.returns
returns c = c.is_some.ensures ∙ there_is_place c.args.entries.now c.args.id c.place_by_id.result c.place_by_id.ensures.found c.place_by_id.ensures.within
