use Rattle.std.proofs.Common.{◌≡◌, take, map}
use Rattle.subsume.proofs.pieces.by_low.Given as goal

-- the spans so far
abbrev pub invariant-spans : goal.invariant-spans
invariant-spans l = map (λ e. e.now) l.order.items ≡ take l.entry-index l.spans
