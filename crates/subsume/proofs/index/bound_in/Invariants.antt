use Rattle.std.proofs.Common.{◌≡◌, ℕ, ◌+◌, ◌-◌, ◌*◌, ◌^◌, ◌<◌, ◌≤◌, true, false, length, slice_index_or}
use Rattle.subsume.specs.declared.item.CutItem.{CutItem}
use Rattle.subsume.specs.Index.{is_counted}
use Rattle.subsume.proofs.index.bound_in.Given as goal

-- the items before low are counted, those from high on are not, and each step halved what is between
abbrev pub invariant-halves : goal.invariant-halves
invariant-halves g l = record {
  ordered : l.low ≤ l.high;
  within : l.high ≤ length l.items;
  counted : (k : ℕ) (d : CutItem) → k < l.low → is_counted l.parent l.after (slice_index_or l.items k d) ≡ true;
  others : (k : ℕ) (d : CutItem) → l.high ≤ k → k < length l.items → is_counted l.parent l.after (slice_index_or l.items k d) ≡ false;
  halved : (s : ℕ) × (l.steps ≡ l.initial.steps + s) × (2 ^ s * (l.high - l.low) ≤ length l.items) × (2 ^ s ≤ 2 * length l.items + 1);
}

abbrev pub decreases-halves : goal.decreases-halves
decreases-halves g l = l.high - l.low
