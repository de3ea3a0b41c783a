use Rattle.std.proofs.Common.{◌≡◌, ◌<◌, ◌^◌, length}
use Rattle.std.specs.Str.Parse.{digits_value, digits_value_after}
use Rattle.audit_exprs.proofs.numbers.capped.Given as goal

-- the rest of the digits after the number so far write the whole
abbrev pub invariant-digits : goal.invariant-digits
invariant-digits l = record {
  whole : digits_value 10 l.fn.digits ≡ digits_value_after 10 l.number l.rest;
  small : l.number < 2 ^ 64;
}

abbrev pub decreases-digits : goal.decreases-digits
decreases-digits l = length l.rest
