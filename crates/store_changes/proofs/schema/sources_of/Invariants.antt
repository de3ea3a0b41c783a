use Rattle.std.proofs.Common.{◌≡◌, ◌++◌, length, map}
use Rattle.store_changes.specs.Schemas.{source_in}
use Rattle.store_changes.proofs.schema.sources_of.Given as goal

-- the tables so far, and those that are left
abbrev pub invariant-headings : goal.invariant-headings
invariant-headings l = l.sources ++ map source_in l.rest ≡ map source_in l.fn.headings

abbrev pub decreases-headings : goal.decreases-headings
decreases-headings l = length l.rest
