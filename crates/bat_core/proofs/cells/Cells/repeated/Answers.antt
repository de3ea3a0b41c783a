use Rattle.std.proofs.Common.{◌≡◌, ◌-◌, ◌*◌, ◌/◌, ◌++◌, ap, ◌∙◌, arith}
use Rattle.chunk_core.specs.Chunks.{chunk_cells}
use Rattle.std.specs.Prelude.{replicate}
use Rattle.chunk_core.proofs.FilledLemmas.{same_parts}
use Rattle.bat_core.proofs.cells.Cells.repeated.Goals as goal

pub from_parts-requires-clause-all : goal.from_parts-requires-clause-all
from_parts-requires-clause-all c =
    let same : c.in_ok-pile.pile ++ chunk_cells c.in_ok-last.last ≡ replicate c.args.count c.args.cell.now =
    ap (λ l. l ++ chunk_cells c.in_ok-last.last) c.in_ok-pile.ensures
    ∙ ap (λ l. replicate (4096 * (c.args.count / 4096)) c.args.cell.now ++ l) c.in_ok-last.ensures
    ∙ same_parts (4096 * (c.args.count / 4096)) (c.args.count - 4096 * (c.args.count / 4096)) c.args.count c.args.cell.now (omega arith) in
    rw same c.in-Some-repeated_facts.ensures

pub returns : goal.returns
returns c =
    c.in_ok-made.ensures ∙ ap (λ l. l ++ chunk_cells c.in_ok-last.last) c.in_ok-pile.ensures
    ∙ ap (λ l. replicate (4096 * (c.args.count / 4096)) c.args.cell.now ++ l) c.in_ok-last.ensures
    ∙ same_parts (4096 * (c.args.count / 4096)) (c.args.count - 4096 * (c.args.count / 4096)) c.args.count c.args.cell.now (omega arith)
