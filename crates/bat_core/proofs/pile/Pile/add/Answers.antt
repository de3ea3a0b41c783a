use Rattle.std.proofs.Common.{◌≡◌, ◌∷◌, [], ◌++◌, length, ap, ◌∙◌, arith}
use Rattle.std.proofs.lemmas.List.{length_push}
use Rattle.chunk_core.specs.Chunks.{chunk_cells}
use Rattle.bat_core.specs.Chunks.{held_cells}
use Rattle.bat_core.proofs.ChunkLemmas.{full_push}
use Rattle.bat_core.proofs.pile.Pile.add.Goals as goal

pub invariant_of-self-in-Ok : goal.invariant_of-self-in-Ok
invariant_of-self-in-Ok c =
    let chunks : c.push.new.self.items ≡ c.self.inside.chunks.items ++ c.in-Ok.shared ∷ [] = c.in-Ok-push.ensures.items ∙ ap (λ l. l ++ c.in-Ok.shared ∷ []) c.reserve.ensures.items in
    rw chunks (full_push held_cells 4096 c.self.inside.chunks.items c.in-Ok.shared c.self.invariant.0 (ap (λ v. length (chunk_cells v)) c.in-Ok.ensures.ok ∙ c.requires), omega (arith, length_push c.self.inside.chunks.items c.in-Ok.shared, c.self.inside.chunks.ok.0))
