use Rattle.std.specs.Option.{option_copied}
use Rattle.std.proofs.Common.{sym, ap, ◌∙◌}
use Rattle.chunk_core.specs.Facts.{dense_with_all}
use Rattle.chunk_core.specs.Filled.{oids_from}
use Rattle.chunk_core.proofs.FilledLemmas.{oids_dense}
use Rattle.chunk_core.proofs.facts.count_dense.Goals as goal

pub returns-in-None : goal.returns-in-None
returns-in-None c = sym (oids_dense c.args.count.first c.args.count.len) ∙ sym (ap (λ l. dense_with_all c.args.so_far (option_copied l) (oids_from c.args.count.first c.args.count.len)) c.in-None.is)
