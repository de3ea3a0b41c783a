use Rattle.std.proofs.Common.{rules, ◌≡◌, take, length, ap, ◌∙◌, arith}
use Rattle.chunk_core.specs.Parts.{part_cells}
use Rattle.std.proofs.lemmas.List.{length-take-le}
use Rattle.bat_calc.specs.Functions.{applied}
use Rattle.bat_calc.proofs.RowLemmas.{applied_run_none, applied_length}
use Rattle.bat_calc.proofs.calculate.cells_of.Goals as goal

pub loop-from-preserved : goal.loop-from-preserved
loop-from-preserved c =
    let far : c.len-in-loop-from.result ≡ length (part_cells c.run.result.0) = c.len-in-loop-from.ensures in
    record {
      within = omega (arith, c.run.ensures.within, far);
      value = rw far (ap (applied c.args.function) c.run.ensures.pairs ∙ c.in_ok-add_cells.ensures.value (take c.loop-from.from c.args.rows.now) c.loop-from.invariant.value);
    }

pub returns-in_err-add_cells-clause-overflow : goal.returns-in_err-add_cells-clause-overflow
returns-in_err-add_cells-clause-overflow c =
    λ e. applied_run_none c.args.function c.args.rows.now (part_cells c.run.result.0) (part_cells c.run.result.1) c.loop-from.from c.run.ensures.pairs (c.add_cells.ensures.overflow (search rules))

pub returns-clause-len : goal.returns-clause-len
returns-clause-len c =
    ap length c.in_ok-finish.ensures
    ∙ applied_length c.args.function (take c.loop-from.from c.args.rows.now) c.loop-from.cells c.loop-from.invariant.value
    ∙ length-take-le c.loop-from.from c.args.rows.now (omega arith)
    ∙ omega arith
