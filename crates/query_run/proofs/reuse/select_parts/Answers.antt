use Rattle.std.proofs.Common.{◌≡◌, List, [], ◌∷◌, map, true, sym, ◌∙◌, subst}
use Rattle.std.specs.List.{AllByRecursion}
use Rattle.cell_core.specs.Pairs.{Pairs, heads_of}
use Rattle.chunk_core.specs.Facts.{rises}
use Rattle.reuse_laws.specs.Reuse.{selected_in}
use Rattle.recycle_pool.specs.declared.found.CoverPiece.{CoverPiece}
use Rattle.query_run.proofs.reuse.select_parts.Goals as goal

pub merge_by_heads-requires : goal.merge_by_heads-requires
merge_by_heads-requires g c =
    subst (AllByRecursion (λ (part : Pairs). rises (heads_of part) ≡ true)) (sym (c.as_slice.ensures ∙ c.in_ok-pieces.ensures.values)) (each c.args.parts.now c.requires)
  where
    each : (parts : List CoverPiece) → AllByRecursion (λ (part : CoverPiece). rises (heads_of (selected_in part.span part.value)) ≡ true) parts → AllByRecursion (λ (part : Pairs). rises (heads_of part) ≡ true) (map (λ (part : CoverPiece). selected_in part.span part.value) parts)
    each [] all = tt
    each (p ∷ ps) all = (all.0, each ps all.1)
