use Rattle.std.proofs.Common.{◌≡◌, ◌+◌, ◌*◌, ◌++◌, ◌∷◌, [], ap, sym, ◌∙◌, arith}
use Rattle.sample_scripts.specs.Scripts.{draw, queries_after, query_text}
use Rattle.sample_scripts.proofs.DrawLemmas.{draw-behind, draw-none, queries-next, queries-none}
use Rattle.sample_scripts.proofs.scripts.queries.Goals as goal

pub queries-init : goal.queries-init
queries-init c = record { statements = c.new-statements.ensures.items ∙ sym (queries-none c.args.x.now); last = sym (draw-none c.args.x.now); below = c.requires }

pub queries-preserved : goal.queries-preserved
queries-preserved c =
    let x = c.args.x.now in
    let k = c.queries._k in
    let more : 2 * k + 2 ≡ 2 * (k + 1) = omega arith in
    record {
      statements = c.in_ok-push.ensures.items ∙ ap (λ ss. ss ++ c.in_ok-query.query ∷ []) c.queries.invariant.statements
          ∙ ap (λ q. queries_after k x ++ q ∷ []) (c.in_ok-query.ensures.text ∙ ap query_text c.queries.invariant.last) ∙ queries-next k x;
      last = c.query.ensures.last ∙ ap (λ d. draw d 2) c.queries.invariant.last ∙ draw-behind x (2 * k) 2 ∙ ap (draw x) more;
      below = c.query.ensures.below;
    }
