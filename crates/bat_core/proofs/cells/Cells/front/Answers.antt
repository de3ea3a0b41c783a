use Rattle.std.proofs.Common.{◌++◌, take, sym, ap, ◌∙◌, arith}
use Rattle.chunk_core.specs.Parts.{part_cells}
use Rattle.bat_core.proofs.PairLemmas.{front_more}
use Rattle.bat_core.proofs.cells.Cells.front.Goals as goal

pub loop-from-preserved : goal.loop-from-preserved
loop-from-preserved c =
    record {
      within = omega arith;
      value =
          c.in_ok-push_part.ensures
          ∙ ap (λ l. l ++ part_cells c.front.result) c.loop-from.invariant.value
          ∙ ap (λ l. take c.loop-from.from c.args.self.now ++ l) c.front.ensures
          ∙ sym (front_more c.args.self.now (part_cells c.run-run.result) c.loop-from.from c.min-many.result (omega arith) (omega arith) c.run-run.ensures.cells);
    }
