use Rattle.std.proofs.Common.{◌≡◌, length}
use Rattle.std.specs.Prelude.{map}
use Rattle.sql_grammar.specs.Refused.{first_passed}
use Rattle.audit_read.proofs.survey.first_true.Given as goal

-- the test of what is left has the result of the test of all
abbrev pub invariant-limits : goal.invariant-limits
invariant-limits l = first_passed (map (λ limit. (limit.0, limit.1.now)) l.rest) ≡ first_passed (map (λ limit. (limit.0, limit.1.now)) l.fn.limits)

abbrev pub decreases-limits : goal.decreases-limits
decreases-limits l = length l.rest
