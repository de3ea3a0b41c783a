use Rattle.std.proofs.Common.{length, ap, arith}
use Rattle.bat_core.specs.Chunks.{held_cells}
use Rattle.bat_core.proofs.ChunkLemmas.{length_full}
use Rattle.bat_core.proofs.pile.Pile.len.Goals as goal

pub returns : goal.returns
returns c = omega (arith, c.self.inside.chunks.ok.0, length_full held_cells 4096 c.self.inside.chunks.items c.self.invariant.0, ap length c.self.view_is)
