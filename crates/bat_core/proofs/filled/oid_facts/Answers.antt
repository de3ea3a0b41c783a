use Rattle.std.proofs.Common.{refl, arith}
use Rattle.chunk_core.proofs.FilledLemmas.{oids_told}
use Rattle.bat_core.proofs.filled.oid_facts.Goals as goal

pub returns : goal.returns
returns c = oids_told _ c.args.from c.args.count (omega arith) (omega arith) refl refl
