use Rattle.std.proofs.Common.{◌*◌, ap, ◌∙◌, arith}
use Rattle.chunk_core.proofs.FilledLemmas.{same_told}
use Rattle.bat_core.proofs.filled.repeated_facts.Goals as goal

pub returns : goal.returns
returns c = same_told _ c.args.count c.args.cell.now (c.in_ok-bytes.ensures.1 ∙ ap (λ n. c.args.count * n) c.stated_bytes.ensures) (omega arith) c.rises_repeated.ensures c.dense_repeated.ensures
