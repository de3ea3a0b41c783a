use Rattle.std.proofs.Common.{◌≡◌, bytes_eq, find, length}
use Rattle.table_store.specs.declared.heading.Heading.{Heading}
use Rattle.store_changes.proofs.headings.find_heading.Given as goal

-- what is left has the same first table of the name
abbrev pub invariant-headings : goal.invariant-headings
invariant-headings l = find (λ (heading : Heading). bytes_eq heading.name l.name) l.rest ≡ find (λ (heading : Heading). bytes_eq heading.name l.name) l.fn.headings

abbrev pub decreases-headings : goal.decreases-headings
decreases-headings l = length l.rest
