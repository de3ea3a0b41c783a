use Rattle.std.proofs.Common.{◌≡◌, ◌++◌, ◌≤◌, ℕ, List, [], ◌∷◌, ap, ◌∙◌, subst, length, true, false}
use Rattle.std.specs.Prelude.{if◌then◌else◌, insert, nat_le}
use Rattle.std.specs.List.Sorted.{IsPartitionPoint}
use Rattle.pool_index.specs.Under.{ChildrenView, under}
use Rattle.pool_index.proofs.Splits.{added}
use Rattle.pool_index.proofs.children.Children.add.Goals as goal

pub returns-clause-pairs : goal.returns-clause-pairs
returns-clause-pairs c =
    let old : List (ℕ × ℕ) = c.self.inside.pairs.items in
    let at = c.count_up_to-at.result in
    let point = subst (λ (ps : List (ℕ × ℕ)). IsPartitionPoint (λ (p : ℕ × ℕ). nat_le p.0 c.args.parent ≡ true) (λ (p : ℕ × ℕ). nat_le p.0 c.args.parent ≡ false) ps at) c.as_slice.ensures.value c.count_up_to-at.ensures.point in
    let within = subst (λ (ps : List (ℕ × ℕ)). at ≤ length ps) c.as_slice.ensures.value c.count_up_to-at.ensures.within in
    λ other. ap (under other) (c.insert.ensures.items ∙ ap (λ b. if b then insert old at (c.args.parent, c.args.id) else old) c.if-is_err.ensures.negation)
    ∙ added other (c.args.parent, c.args.id) old at within point.1
    ∙ ap (λ (v : ChildrenView). under other (v.pairs ++ (c.args.parent, c.args.id) ∷ [])) c.self.view_is
