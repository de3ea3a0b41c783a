use Rattle.std.proofs.Common.{◌++◌, arith}
use Rattle.std.proofs.lemmas.List.{length-append}
use Rattle.bat_core.specs.Chunks.{last_cells}
use Rattle.chunk_core.proofs.FactLemmas.{length-le-bytes}
use Rattle.bat_core.proofs.cells.Cells.len.Goals as goal

pub overflow_add-result : goal.overflow_add-result
overflow_add-result c =
    omega (arith, c.len.ensures, c.last_len.ensures, c.self.invariant.1.few, length-append c.self.inside.pile (last_cells c.self.inside.last), length-le-bytes (c.self.inside.pile ++ last_cells c.self.inside.last))

pub returns-clause-small : goal.returns-clause-small
returns-clause-small c =
    omega (arith, c.len.ensures, c.last_len.ensures, c.self.invariant.1.few, length-append c.self.inside.pile (last_cells c.self.inside.last), length-le-bytes (c.self.inside.pile ++ last_cells c.self.inside.last))
