use Rattle.std.proofs.Common.{◌≡◌, ◌+◌, ◌-◌, ◌++◌, take, drop, ap, ◌∙◌, arith}
use Rattle.cell_core.specs.declared.cell.Cell.TheVariants.{Nil}
use Rattle.chunk_core.specs.Parts.{part_cells}
use Rattle.chunk_core.specs.Picked.{picked}
use Rattle.chunk_core.proofs.PickLemmas.{more_picked}
use Rattle.bat_core.proofs.builder.CellsBuilder.push_places.Goals as goal

pub places-preserved : goal.places-preserved
places-preserved c =
    let k : c.places.from + c.min-count.result - c.places.from ≡ c.min-count.result = omega arith in
    record {
      within = omega arith;
      same =
          c.in_ok-add_places.ensures
          ∙ ap (λ n. c.make_room.new.self ++ picked Nil (part_cells c.args.part) (take n (drop c.places.from c.args.places.now))) k
          ∙ ap (λ s. s ++ picked Nil (part_cells c.args.part) (take c.min-count.result (drop c.places.from c.args.places.now))) (c.in_ok-room.ensures.same ∙ c.places.invariant.same)
          ∙ more_picked Nil (part_cells c.args.part) c.args.self.now c.args.places.now c.places.from c.min-count.result;
    }
