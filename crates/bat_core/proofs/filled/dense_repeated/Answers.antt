use Rattle.std.proofs.Common.{sym, arith}
use Rattle.chunk_core.proofs.FilledLemmas.{same_dense}
use Rattle.bat_core.proofs.filled.dense_repeated.Goals as goal

pub returns-in_default : goal.returns-in_default
returns-in_default c = sym (same_dense c.args.count c.args.cell.now (omega arith))
