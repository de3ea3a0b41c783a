use Rattle.std.proofs.Common.{◌≡◌, ◌+◌, ◌*◌, ◌++◌, ◌∷◌, [], ap, sym, ◌∙◌, arith, append_assoc, append-nil}
use Rattle.sample_scripts.specs.Scripts.{draw, insert_text, inserts}
use Rattle.sample_scripts.proofs.DrawLemmas.{draw-behind, draw-none, inserts-next, inserts-none, one-more}
use Rattle.sample_scripts.proofs.scripts.push_inserts.Goals as goal

pub inserts-init : goal.inserts-init
inserts-init c =
    let none : 0 ≡ c.args.rows * 0 = omega arith in
    record {
      statements = sym (append-nil c.args.statements.now.items) ∙ ap (λ ss. c.args.statements.now.items ++ ss) (sym (inserts-none c.args.rows c.args.x.now));
      last = sym (draw-none c.args.x.now) ∙ ap (draw c.args.x.now) none;
      below = c.requires;
    }

pub inserts-preserved : goal.inserts-preserved
inserts-preserved c =
    let x = c.args.x.now in
    let rows = c.args.rows in
    let k = c.inserts._k in
    let old = c.args.statements.now.items in
    record {
      statements = c.in_ok-push.ensures.items ∙ ap (λ ss. ss ++ c.in_ok-insert.insert ∷ []) c.inserts.invariant.statements
          ∙ append_assoc old (inserts k rows x) (c.in_ok-insert.insert ∷ [])
          ∙ ap (λ i. old ++ (inserts k rows x ++ i ∷ [])) (c.in_ok-insert.ensures.text ∙ ap (insert_text rows) c.inserts.invariant.last)
          ∙ ap (λ ss. old ++ ss) (inserts-next k rows x);
      last = c.in_ok-insert.ensures.last ∙ ap (λ d. draw d rows) c.inserts.invariant.last ∙ draw-behind x (rows * k) rows ∙ ap (draw x) (one-more rows k);
      below = c.in_ok-insert.ensures.below;
    }
