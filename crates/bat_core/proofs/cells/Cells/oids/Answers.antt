use Rattle.std.proofs.Common.{◌≡◌, ◌-◌, ◌*◌, ◌/◌, ◌++◌, ap, ◌∙◌, arith}
use Rattle.chunk_core.specs.Chunks.{chunk_cells}
use Rattle.chunk_core.specs.Filled.{oids_from}
use Rattle.chunk_core.proofs.FilledLemmas.{oids_parts}
use Rattle.bat_core.proofs.cells.Cells.oids.Goals as goal

pub from_parts-requires-clause-all : goal.from_parts-requires-clause-all
from_parts-requires-clause-all c =
    let same : c.in_ok-pile.pile ++ chunk_cells c.oid_chunk-last.result ≡ oids_from c.args.from c.args.count =
    ap (λ l. l ++ chunk_cells c.oid_chunk-last.result) c.in_ok-pile.ensures
    ∙ ap (λ l. oids_from c.args.from (4096 * (c.args.count / 4096)) ++ l) c.oid_chunk-last.ensures
    ∙ oids_parts c.args.from (4096 * (c.args.count / 4096)) (c.args.count - 4096 * (c.args.count / 4096)) c.args.count (omega arith) in
    rw same c.in-Some-oid_facts.ensures

pub returns : goal.returns
returns c =
    c.in_ok-made.ensures ∙ ap (λ l. l ++ chunk_cells c.oid_chunk-last.result) c.in_ok-pile.ensures
    ∙ ap (λ l. oids_from c.args.from (4096 * (c.args.count / 4096)) ++ l) c.oid_chunk-last.ensures
    ∙ oids_parts c.args.from (4096 * (c.args.count / 4096)) (c.args.count - 4096 * (c.args.count / 4096)) c.args.count (omega arith)
