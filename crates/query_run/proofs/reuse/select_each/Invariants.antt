use Rattle.std.proofs.Common.{◌≡◌, ◌+◌, ◌++◌, map, length}
use Rattle.std.specs.List.{sum_by}
use Rattle.reuse_laws.specs.Reuse.{selected_in}
use Rattle.recycle_pool.specs.declared.found.CoverPiece.{CoverPiece}
use Rattle.query_run.specs.Queries.{part_work}
use Rattle.query_run.proofs.reuse.select_each.Given as goal

-- the selections so far and those of the rest are those of all, in values and in work; the counter has risen by the work so far
abbrev pub invariant-parts : goal.invariant-parts
invariant-parts g l = record {
  values : l.values ++ map (λ (part : CoverPiece). selected_in part.span part.value) l.rest ≡ map (λ (part : CoverPiece). selected_in part.span part.value) l.parts;
  done : l.done + sum_by part_work l.rest ≡ sum_by part_work l.parts;
  counted : l.steps ≡ l.fn.steps + l.done;
}

abbrev pub decreases-parts : goal.decreases-parts
decreases-parts g l = length l.rest
