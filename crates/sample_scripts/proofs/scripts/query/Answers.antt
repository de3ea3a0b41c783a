use Rattle.std.proofs.Common.{◌≡◌, ℕ, List, IfOk, sym, ap, ◌∙◌, subst}
use Rattle.sample_scripts.specs.Scripts.{next_draw}
use Rattle.sample_scripts.proofs.DrawLemmas.{draw-two, query-of}
use Rattle.sample_scripts.proofs.scripts.query.Goals as goal

pub returns-clause-text : goal.returns-clause-text
returns-clause-text c =
    subst (λ (text : List ℕ). IfOk c.range.result (λ word. word ≡ text))
    (query-of c.args.x.now c.next_draw-low.result c.next_draw-width.result
    (c.next_draw-low.ensures.told ∙ c.next_draw-low.ensures.next)
    (c.next_draw-width.ensures.told ∙ c.next_draw-width.ensures.next ∙ ap next_draw (sym c.next_draw-low.ensures.told))) c.range.ensures

pub returns-clause-last : goal.returns-clause-last
returns-clause-last c =
    draw-two c.args.x.now c.next_draw-low.result c.next_draw-width.new.x
    (c.next_draw-low.ensures.told ∙ c.next_draw-low.ensures.next)
    (c.next_draw-width.ensures.next ∙ ap next_draw (sym c.next_draw-low.ensures.told))
