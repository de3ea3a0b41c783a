-- Heads that rise by neighbours rise before all later ones.
use Rattle.std.proofs.Common.{◌≡◌, true, false, [], ◌∷◌, refl, sym, ◌∙◌}
use Rattle.std.specs.List.{AllByRecursion}
use Rattle.std.specs.Cmp.{first_so, second_so}
use Rattle.cell_core.specs.declared.cell.Cell.{Cell}
use Rattle.cell_core.specs.Pairs.{Pairs, heads_of}
use Rattle.chunk_core.specs.Facts.{is_below, neighbours_from, rises}
use Rattle.reuse_laws.specs.Reuse.{Rises}
use Rattle.cell_core.specs.Merged.{by_head}
use Rattle.reuse_laws.proofs.Across.{head_order}

on : (p q r : Cell × Cell) → by_head p q ≡ true → by_head q r ≡ true → by_head p r ≡ true
on p q r a b = elim (by_head p r) as (λ c. by_head p r ≡ c → c ≡ true) [
  | true ↦ λ _. refl
  | false ↦ λ e. sym (head_order.chain p r q e (head_order.one_way q r b)) ∙ a
] refl

all_behind : (p q : Cell × Cell) (rest : Pairs) → by_head p q ≡ true → AllByRecursion (λ r. by_head q r ≡ true) rest → AllByRecursion (λ r. by_head p r ≡ true) rest
all_behind p q [] low all = tt
all_behind p q (r ∷ rs) low all = (on p q r low all.0, all_behind p q rs low all.1)

from_neighbours : (p : Cell × Cell) (rest : Pairs) → neighbours_from is_below p.0 (heads_of rest) ≡ true → AllByRecursion (λ r. by_head p r ≡ true) rest × Rises rest
from_neighbours p [] e = (tt, tt)
from_neighbours p (q ∷ rest) e =
    let low = first_so (is_below p.0 q.0) (neighbours_from is_below q.0 (heads_of rest)) e in
    let more = from_neighbours q rest (second_so (is_below p.0 q.0) (neighbours_from is_below q.0 (heads_of rest)) e) in
    ((low, all_behind p q rest low more.0), (more.0, more.1))

pub rises_all : (b : Pairs) → rises (heads_of b) ≡ true → Rises b
rises_all [] e = tt
rises_all (p ∷ rest) e = from_neighbours p rest e
