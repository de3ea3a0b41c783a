use Rattle.std.proofs.Common.{◌≡◌, length, map}
use Rattle.subsume.specs.Cutting.{Entry}
use Rattle.evict_admit.specs.Runs.{is_one_of}
use Rattle.recycle_pool.specs.Answers.{piece_in}
use Rattle.recycle_pool.proofs.uses.is_part.Given as goal

abbrev pub invariant-parts : goal.invariant-parts
invariant-parts l = is_one_of (map (λ (p : Entry). p.0) (map piece_in l.rest)) l.id ≡ is_one_of (map (λ (p : Entry). p.0) (map piece_in l.parts)) l.id

abbrev pub decreases-parts : goal.decreases-parts
decreases-parts l = length l.rest
