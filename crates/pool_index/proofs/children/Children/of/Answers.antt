use Rattle.std.proofs.Common.{◌≡◌, ◌-◌, ◌≤◌, ℕ, List, ap, ◌∙◌, subst, take, drop, length, true, false}
use Rattle.std.specs.Prelude.{nat_le}
use Rattle.std.specs.List.Sorted.{IsPartitionPoint}
use Rattle.std.proofs.lemmas.List.{take_rest}
use Rattle.pool_index.specs.Under.{ChildrenView, under}
use Rattle.pool_index.proofs.Splits.{between}
use Rattle.pool_index.proofs.children.Children.of.Goals as goal

pub returns : goal.returns
returns c =
    let pairs : List (ℕ × ℕ) = c.as_slice-pairs.result.now in
    let low = c.count_below.result in
    let high = c.count_up_to.result in
    let rest : take (length pairs - low) (drop low pairs) ≡ drop low pairs = take_rest pairs low in
    ap (take high) rest
    ∙ between c.args.parent pairs low high c.count_below.ensures.within c.count_below.ensures.point
    (subst (λ (ps : List (ℕ × ℕ)). high ≤ length ps) rest c.count_up_to.ensures.within)
    (subst (λ (ps : List (ℕ × ℕ)). IsPartitionPoint (λ (p : ℕ × ℕ). nat_le p.0 c.args.parent ≡ true) (λ (p : ℕ × ℕ). nat_le p.0 c.args.parent ≡ false) ps high) rest c.count_up_to.ensures.point)
    ∙ ap (under c.args.parent) c.as_slice-pairs.ensures.value ∙ ap (λ (v : ChildrenView). under c.args.parent v.pairs) c.self.view_is
