use Rattle.std.proofs.Common.{◌≡◌, length}
use Rattle.std.specs.Str.Parse.{digits_value, digits_value_after}
use Rattle.text_bytes.proofs.numbers.number_64.Given as goal

-- the rest of the digits after the number so far write the whole
abbrev pub invariant-digits : goal.invariant-digits
invariant-digits l = digits_value 10 l.fn.digits ≡ digits_value_after 10 l.number l.rest

abbrev pub decreases-digits : goal.decreases-digits
decreases-digits l = length l.rest
