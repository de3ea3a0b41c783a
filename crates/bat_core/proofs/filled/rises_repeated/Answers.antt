use Rattle.std.proofs.Common.{sym, arith}
use Rattle.chunk_core.proofs.FilledLemmas.{same_rise}
use Rattle.bat_core.proofs.filled.rises_repeated.Goals as goal

pub returns-in_default : goal.returns-in_default
returns-in_default c = sym (same_rise c.args.count c.args.cell.now (omega arith))
