use Rattle.std.proofs.Common.{◌≡◌, ◌<◌, ℕ, ◌||◌, false, get_or, length}
use Rattle.mal_opt.specs.Live.{uses}
use Rattle.mal_opt.proofs.living.mark_all.Given as goal

-- what is used so far, or by the rest, is what was used or is used by all
abbrev pub invariant-args-2 : goal.invariant-args-2
invariant-args-2 l = record {
  long : length l.used ≡ length l.initial.used;
  flags : (n : ℕ) → n < length l.used → (uses n l.rest || get_or l.used n false) ≡ (uses n l.args || get_or l.initial.used n false);
}

abbrev pub decreases-args-2 : goal.decreases-args-2
decreases-args-2 l = length l.rest
