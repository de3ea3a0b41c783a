use Rattle.std.proofs.Common.{◌≡◌, List, ◌+◌, ◌++◌, ◌≤◌, length, take, sym, ap, ◌∙◌, subst, arith}
use Rattle.std.specs.List.{zip}
use Rattle.cell_core.specs.Pairs.{heads_of}
use Rattle.std.proofs.lemmas.List.{length-take-le}
use Rattle.cell_core.specs.declared.cell.Cell.{Cell}
use Rattle.chunk_core.specs.Parts.{part_cells}
use Rattle.bat_core.proofs.PairLemmas.{run_more, length-heads}
use Rattle.bat_core.proofs.bat.Bat.run.Goals as goal

pub returns-clause-pairs : goal.returns-clause-pairs
returns-clause-pairs c =
    let P : List Cell → Type 0 = λ h. take (c.args.from + length h) c.args.self.now ≡ take c.args.from c.args.self.now ++ zip h (part_cells c.front-2.result) in
    let Q : List Cell → Type 0 = λ t. take (c.args.from + length (take c.min-count.result (part_cells c.run-heads.result))) c.args.self.now ≡ take c.args.from c.args.self.now ++ zip (take c.min-count.result (part_cells c.run-heads.result)) t in
    subst P (sym c.front.ensures)
    (subst Q (sym c.front-2.ensures)
    (ap (λ n. take (c.args.from + n) c.args.self.now) (length-take-le c.min-count.result (part_cells c.run-heads.result) (omega arith))
    ∙ run_more c.args.self.now (part_cells c.run-heads.result) (part_cells c.run-tails.result) c.args.from c.min-count.result (omega arith) (omega arith) (omega arith)
    (rw (← c.heads.ensures) c.run-heads.ensures.cells) (rw (← c.tails.ensures) c.run-tails.ensures.cells)))

pub returns-clause-within : goal.returns-clause-within
returns-clause-within c =
    let heads : c.args.from + length (part_cells c.run-heads.result) ≤ length (heads_of c.args.self.now) = rw (← c.heads.ensures) c.run-heads.ensures.within in
    omega (arith, heads, length-heads c.args.self.now, ap length c.front.ensures, length-take-le c.min-count.result (part_cells c.run-heads.result) (omega arith))
