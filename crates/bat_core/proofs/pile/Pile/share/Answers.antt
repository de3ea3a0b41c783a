use Rattle.std.proofs.Common.{◌≡◌, length, map, ap, ◌∙◌, arith}
use Rattle.std.proofs.lemmas.List.{length-map}
use Rattle.bat_core.specs.Chunks.{held_cells}
use Rattle.bat_core.proofs.ChunkLemmas.{same_full, same_items}
use Rattle.bat_core.proofs.pile.Pile.share.Goals as goal

pub invariant_of-result : goal.invariant_of-result
invariant_of-result c =
    let same : map held_cells c.in_ok-chunks.chunks.items ≡ map held_cells c.self.inside.chunks.items = c.in_ok-chunks.ensures ∙ ap (map held_cells) c.deref.ensures.value in (
      same_full held_cells 4096 c.self.inside.chunks.items c.in_ok-chunks.chunks.items same c.self.invariant.0,
      omega (arith, length-map c.in_ok-chunks.chunks.items held_cells, length-map c.self.inside.chunks.items held_cells, ap length same),
    )

pub returns : goal.returns
returns c =
    let same : map held_cells c.in_ok-chunks.chunks.items ≡ map held_cells c.self.inside.chunks.items = c.in_ok-chunks.ensures ∙ ap (map held_cells) c.deref.ensures.value in
    same_items held_cells 4096 c.self.inside.chunks.items c.in_ok-chunks.chunks.items same ∙ c.self.view_is
