use Rattle.std.proofs.Common.{◌≡◌, ◌∷◌, [], ◌++◌, length, ap, ◌∙◌, arith}
use Rattle.std.proofs.lemmas.List.{length_push}
use Rattle.chunk_core.specs.Chunks.{chunk_cells}
use Rattle.bat_core.specs.Chunks.{held_cells}
use Rattle.bat_core.proofs.ChunkLemmas.{full_push}
use Rattle.bat_core.proofs.pile.Pile.add_shared.Goals as goal

pub invariant_of-self-2 : goal.invariant_of-self-2
invariant_of-self-2 c =
    let chunks : c.push.new.self.items ≡ c.self.inside.chunks.items ++ c.in_ok-shared.shared ∷ [] = c.in_ok-push.ensures.items in
    let long : length (held_cells c.in_ok-shared.shared) ≡ 4096 = ap (λ v. length (chunk_cells v)) c.in_ok-shared.ensures ∙ c.requires in
    rw chunks (full_push held_cells 4096 c.self.inside.chunks.items c.in_ok-shared.shared c.self.invariant.0 long, omega (arith, length_push c.self.inside.chunks.items c.in_ok-shared.shared, c.self.inside.chunks.ok.0))
