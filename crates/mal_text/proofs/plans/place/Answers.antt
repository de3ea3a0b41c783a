use Rattle.std.proofs.Common.{sym, ◌∙◌}
use Rattle.std.specs.Prelude.{bytes_eq}
use Rattle.mal_text.proofs.PlaceLemmas.{no_place}
use Rattle.mal_text.proofs.plans.place.Goals as goal

pub returns-in-None : goal.returns-in-None
returns-in-None c = c.len.ensures.len ∙ no_place (bytes_eq c.args.name.now) c.args.names.now.keys (sym c.in-None.ensures.index)
