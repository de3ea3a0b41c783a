use Rattle.std.proofs.Common.{◌≡◌, List, Bool, map, ◌∙◌, subst, rules, ap, take, length, arith, Bor}
use Rattle.std.specs.List.Sorted.{IsPermutation}
use Rattle.std.proofs.lemmas.List.Sorted.{IsPermutation-map}
use Rattle.std.proofs.lemmas.List.MinMax.{ranks_by}
use Rattle.std.proofs.Math.Seq.{take-length}
use Rattle.std.proofs.lemmas.Fn.{always_returns_same}
use Rattle.cell_core.specs.Cuts.{cut_cmp_total}
use Rattle.subsume.specs.Cutting.{Entry, is_lower}
use Rattle.subsume.proofs.Permuted.{sorted_map}
use Rattle.subsume.proofs.pieces.by_low.Goals as goal

abbrev all_of : List (Bor Entry) → List Entry
all_of es = map (λ (e : Bor Entry). e.now) es

pub returns-clause-permutation : goal.returns-clause-permutation
returns-clause-permutation c =
    let end : c.spans.entry-index ≡ length c.args.spans.now = omega arith in
    let same : all_of c.spans.order.items ≡ c.args.spans.now = c.spans.invariant ∙ ap (λ n. take n c.args.spans.now) end ∙ take-length c.args.spans.now in
    subst (λ xs. IsPermutation xs (all_of c.sort_unstable_by.new.self.items)) same (IsPermutation-map (λ (e : Bor Entry). e.now) c.spans.order.items c.sort_unstable_by.new.self.items c.sort_unstable_by.ensures.permutation)

abbrev below : Bor Entry → Bor Entry → Bool
below a b = is_lower a.now b.now

pub returns-clause-sorted : goal.returns-clause-sorted
returns-clause-sorted c =
    let order = ranks_by cut_cmp_total (λ (e : Bor Entry). e.now.1.low) in
    let up = c.sort_unstable_by.ensures.sorted below order (always_returns_same _ _ _ (λ a r f k. search rules)) in
    sorted_map (λ (e : Bor Entry). e.now) is_lower c.sort_unstable_by.new.self.items up
