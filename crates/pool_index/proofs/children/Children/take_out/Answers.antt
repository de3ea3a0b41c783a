use Rattle.std.proofs.Common.{◌≡◌, ℕ, ap, sym, ◌∙◌, subst, not, rules}
use Rattle.std.specs.Prelude.{filter}
use Rattle.std.specs.List.Sorted.{IsNonDecreasingBy}
use Rattle.std.proofs.lemmas.Fn.{filter_same}
use Rattle.std.proofs.lemmas.List.Kept.{IsNonDecreasingBy-filter}
use Rattle.pool_index.specs.Under.{ChildrenView, is_in}
use Rattle.pool_index.proofs.children.Children.take_out.Goals as goal

pub invariant_of-self : goal.invariant_of-self
invariant_of-self c =
    let kept : c.retain.new.self.items ≡ filter (λ (p : ℕ × ℕ). not (is_in c.args.gone.now p.1)) c.self.inside.pairs.items =
    filter_same _ (λ (p : ℕ × ℕ). not (is_in c.args.gone.now p.1)) _ (λ x b q k. (search rules, search rules)) _ _ c.retain.ensures.filtered in
    subst (IsNonDecreasingBy (λ (p : ℕ × ℕ). p.0)) (sym kept) (IsNonDecreasingBy-filter (λ (p : ℕ × ℕ). p.0) _ c.self.inside.pairs.items c.self.invariant)

pub returns-clause-pairs : goal.returns-clause-pairs
returns-clause-pairs c =
    filter_same _ (λ (p : ℕ × ℕ). not (is_in c.args.gone.now p.1)) _ (λ x b q k. (search rules, search rules)) _ _ c.retain.ensures.filtered
    ∙ ap (λ (v : ChildrenView). filter (λ (p : ℕ × ℕ). not (is_in c.args.gone.now p.1)) v.pairs) c.self.view_is
