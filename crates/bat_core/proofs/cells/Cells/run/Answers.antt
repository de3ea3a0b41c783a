use Rattle.std.proofs.Common.{arith}
use Rattle.chunk_core.specs.Parts.{part_cells}
use Rattle.bat_core.proofs.ChunkLemmas.{piece_within}
use Rattle.bat_core.proofs.cells.Cells.run.Goals as goal

pub returns-clause-within : goal.returns-clause-within
returns-clause-within c =
    piece_within c.args.self.now (part_cells c.lying_from.result) c.args.from (omega arith) c.lying_from.ensures.cells
