use Rattle.std.proofs.Common.{◌≡◌, ◌+◌, ◌<◌, List, Bool, length, Some, ap, ◌∙◌, arith}
use Rattle.std.proofs.lemmas.Option.{slice_get_within}
use Rattle.query_run.proofs.ReadyLemmas.{has_mark}
use Rattle.query_run.proofs.WalkLemmas.{as_many_marks}
use Rattle.query_run.proofs.step.RunningQuery.given.Goals as goal

pub index-requires : goal.index-requires
index-requires c =
    let same = ap (λ (bs : List Bool). length bs) c.requires.under.marks in
    let many = as_many_marks c.args.self.plan in
    let inside = slice_get_within c.args.self.plan.instrs c.args.n c.requires.at.0 c.requires.at.1 in
    omega (arith, same, many, inside)

pub offer_given-requires-clause-at : goal.offer_given-requires-clause-at
offer_given-requires-clause-at c =
    let inside = slice_get_within c.args.self.plan.instrs c.args.n c.requires.at.0 c.requires.at.1 in (
      c.requires.at.0,
      record { here = c.requires.at.1; marked = has_mark c.args.self c.args.n c.index.result.now c.requires.under inside c.index.ensures ∙ ap Some c.if-index.true; open_ = c.requires.open },
      c.requires.at.2,
    )

pub take_in-requires-clause-inside : goal.take_in-requires-clause-inside
take_in-requires-clause-inside c = slice_get_within c.args.self.plan.instrs c.args.n c.requires.at.0 c.requires.at.1

pub returns : goal.returns
returns c =
    let inside = slice_get_within c.args.self.plan.instrs c.args.n c.requires.at.0 c.requires.at.1 in
    let t = c.take_in.ensures in
    record {
      instr = c.requires.at.0;
      here = c.requires.at.1;
      unmarked = has_mark c.args.self c.args.n c.index.result.now c.requires.under inside c.index.ensures ∙ ap Some c.if-index.false;
      open_ = c.requires.open;
      value = c.requires.value;
      gained = record {
        snap_is = t.snap_is;
        plan_is = t.plan_is;
        marks_are = t.marks_are;
        asked_are = t.asked_are;
        values_are = t.values_are;
        ids_are = t.ids_are;
        work_is = c.in_ok-total.ensures ∙ ap (λ k. c.args.self.work + k) (c.in_ok-load.ensures c.requires.at.0 c.requires.at.1);
      };
    }
