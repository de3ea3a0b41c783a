use Rattle.std.proofs.Common.{refl, sym, ap, ◌∙◌, ◌+◌, subst, arith}
use Rattle.std.proofs.lemmas.Bool.{and_from}
use Rattle.score_hook.specs.declared.stats.Stats.{Stats}
use Rattle.score_hook.specs.declared.stats.Score.{Score}
use Rattle.score_hook.specs.Scores.{most_bottom, score_of}
use Rattle.evict_admit.specs.declared.leading.Leader.{Leader}
use Rattle.evict_admit.specs.Boards.{row_at}
use Rattle.evict_admit.specs.Leading.{IsLeader, comes_first}
use Rattle.evict_admit.proofs.Leads.{IsPending, is_leader, leads, leads_all, none_so, stays}
use Rattle.evict_admit.proofs.leading.lead.Goals.{in-Some+in-Some-true, in-Some+in-Some-false, in_default}
use Rattle.evict_admit.proofs.leading.lead.Goals as goal

pub rows-preserved : goal.rows-preserved
rows-preserved g c =
    let score : Stats → Score = λ stats. score_of c.args.scorer.now.kind c.args.scorer.now.weights.items stats c.args.now in
    let most = most_bottom c.args.scorer.now.kind in
    let rows = c.args.rows.now in
    let row = row_at rows c.rows.place in
    let before = c.rows.invariant in
    elim c.match-challenge.branch [
      | in-Some+in-Some-true w ↦
          let free = w.in-Some.ensures.some.free in
          let first = ap (λ d. comes_first d c.rows.leader) (sym w.in-Some.ensures.some.compared) ∙ w.in-Some.ensures.some.first in
          let next : Leader = record { place = c.rows.place; contender = w.in-Some.contender } in record {
            leader = subst (IsLeader most score rows) (sym w.leader-is) (is_leader score rows most next c.rows-test.true w.in-Some.ensures.some.compared w.in-Some.ensures.some.small);
            pending = subst (λ d. IsPending score rows most d (c.rows.place + 1)) (sym w.leader-is)
                (leads score rows most c.rows.place c.rows.leader next c.rows-test.true before.leader refl (and_from _ _ free (sym w.in-Some-true.ensures ∙ w.in-Some-true.field-0-test)) first before.pending);
          }
      | in-Some+in-Some-false w ↦ record {
        leader = subst (IsLeader most score rows) (sym w.leader-is) before.leader;
        pending = subst (λ d. IsPending score rows most d (c.rows.place + 1)) (sym w.leader-is)
            (stays score rows most c.rows.place c.rows.leader c.rows-test.true before.leader (none_so row.free _ _ (sym w.in-Some-false.ensures ∙ w.in-Some-false.field-0-test)) before.pending);
      }
      | in_default w ↦ record {
        leader = subst (IsLeader most score rows) (sym w.leader-is) before.leader;
        pending = subst (λ d. IsPending score rows most d (c.rows.place + 1)) (sym w.leader-is)
            (stays score rows most c.rows.place c.rows.leader c.rows-test.true before.leader w.in_default.ensures.none before.pending);
      }
    ]

pub returns : goal.returns
returns g c =
    leads_all (λ stats. score_of c.args.scorer.now.kind c.args.scorer.now.weights.items stats c.args.now) c.args.rows.now (most_bottom c.args.scorer.now.kind) c.rows.place c.rows.leader (omega (arith, c.rows.auto.place-end)) c.rows.invariant.leader c.rows.invariant.pending
