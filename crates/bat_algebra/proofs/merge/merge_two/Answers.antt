use Rattle.std.proofs.Common.{◌≡◌, ◌+◌, ◌++◌, true, false, ap, sym, ◌∙◌, arith, drop}
use Rattle.cell_core.specs.declared.cell.Cell.{Cell}
use Rattle.cell_core.specs.declared.cell.Cell.TheVariants.{Nil}
use Rattle.cell_core.specs.Sorted.{sorted_by}
use Rattle.std.specs.Prelude.{slice_index_or}
use Rattle.cell_core.specs.Merged.{by_head}
use Rattle.std.proofs.lemmas.Result.{IfOk-weaker}
use Rattle.bat_algebra.proofs.MergeLemmas.{all_out, first_step, none_rest, pushed, second_step, sorted_ascends}
use Rattle.bat_algebra.proofs.merge.merge_two.Goals as goal

abbrev none : Cell × Cell
none = (Nil, Nil)

pub pairs-preserved-then-is_second_next : goal.pairs-preserved-then-is_second_next
pairs-preserved-then-is_second_next c =
    let there = c.is_second_next.ensures.second c.if-is_second_next.true in
    record {
      merged = pushed c.pairs.out c.push_pair.new.out (sorted_by by_head (drop c.pairs.i c.args.a.now ++ drop c.pairs.j c.args.b.now)) (sorted_by by_head (drop c.pairs.i c.args.a.now ++ drop (c.pairs.j + 1) c.args.b.now)) (sorted_by by_head (c.args.a.now ++ c.args.b.now)) (slice_index_or c.args.b.now c.pairs.j none)
          c.pairs.invariant.merged
          (second_step c.args.a.now c.args.b.now c.pairs.i c.pairs.j none c.requires.first c.requires.second there (sym c.is_second_next.ensures.next ∙ c.if-is_second_next.true))
          (c.in_ok-push_pair.ensures none);
      first = c.pairs.invariant.first;
      second = omega (arith, there);
    }

pub pairs-preserved : goal.pairs-preserved
pairs-preserved c =
    let there = c.is_second_next.ensures.first (λ h. let wrong : true ≡ false = sym h ∙ c.if-is_second_next.false in cc) in
    record {
      merged = pushed c.pairs.out c.push_pair-else-is_second_next.new.out (sorted_by by_head (drop c.pairs.i c.args.a.now ++ drop c.pairs.j c.args.b.now)) (sorted_by by_head (drop (c.pairs.i + 1) c.args.a.now ++ drop c.pairs.j c.args.b.now)) (sorted_by by_head (c.args.a.now ++ c.args.b.now)) (slice_index_or c.args.a.now c.pairs.i none)
          c.pairs.invariant.merged
          (first_step c.args.a.now c.args.b.now c.pairs.i c.pairs.j none c.requires.first c.requires.second there (sym c.is_second_next.ensures.next ∙ c.if-is_second_next.false))
          (c.in_ok-push_pair-2.ensures none);
      first = omega (arith, there);
      second = c.pairs.invariant.second;
    }

pub returns-clause-up : goal.returns-clause-up
returns-clause-up c = IfOk-weaker c.finish.result _ _ (λ out h. sorted_ascends out (c.args.a.now ++ c.args.b.now) (h ∙ sym (all_out c.pairs.out) ∙ ap (λ rest. c.pairs.out ++ rest) (sym (none_rest c.args.a.now c.args.b.now c.pairs.i c.pairs.j (omega arith) (omega arith))) ∙ c.pairs.invariant.merged)) c.finish.ensures
