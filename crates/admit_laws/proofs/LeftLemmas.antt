-- What an admission leaves, rule by rule.
use Rattle.std.proofs.Common.{◌≡◌, ℕ, List, Bool, true, false, ◌&&◌, cond, Option, Some, None, refl, ap, sym, subst}
use Rattle.std.specs.Prelude.{◌==◌}
use Rattle.evict_admit.specs.Runs.{Run}
use Rattle.pool_policy.specs.declared.entry.Who.{Who}
use Rattle.pool_policy.specs.declared.entry.PoolEntry.{PoolEntry}
use Rattle.pool_policy.specs.declared.options.Admitted.{Admitted}
use Rattle.pool_policy.specs.declared.options.Admitted.TheVariants.{Taken, There, Stale, Orphan, NoCredit, NoRoom}
use Rattle.pool_policy.specs.Pool.{PoolState, has_credits}
use Rattle.pool_policy.specs.Keyed.{entry_of_key}
use Rattle.pool_policy.specs.Looks.{pinned}
use Rattle.pool_policy.specs.Admits.{Offer, admit_of, by_credit, by_key, by_parents, by_room, credit_of, evictions_for, is_other_version, missing_parent, shape_number, with_shape}
use Rattle.pool_policy.specs.Keeps.{IsPool}
use Rattle.admit_laws.specs.Left.{IsAsBefore, IsHeldToo, IsLeft, at_moment, is_refusal}
use Rattle.admit_laws.specs.Laws.{RefusalsLeave}
use Rattle.admit_laws.proofs.HeldLemmas.{one_is_changed}
use Rattle.admit_laws.proofs.ShapeLemmas.{moved_only, shaped}

module _ (who : Who) (now : ℕ) (offer : Offer) (old : PoolState) where
  abbrev later : PoolState
  later = at_moment now old

  abbrev shaped_pool : PoolState
  shaped_pool = with_shape offer later

  abbrev Leaves : Admitted × PoolState → Type 0
  Leaves (answer, new) = IsLeft who now offer old answer new

  room_leaves : (shape : ℕ) (run : Run) → Leaves (by_room who now offer shape shaped_pool run)
  room_leaves shape (gone, true) = tt
  room_leaves shape (gone, false) = refl

  credit_leaves : Leaves (by_credit who now offer shaped_pool)
  credit_leaves = go (has_credits shaped_pool.options && credit_of (shape_number offer shaped_pool) shaped_pool.credit == 0)
    where
      go : (b : Bool) → Leaves (cond b (let r : Admitted × PoolState = (NoCredit (shape_number offer shaped_pool), shaped_pool) in r) (by_room who now offer (shape_number offer shaped_pool) shaped_pool (evictions_for now offer shaped_pool)))
      go true = refl
      go false = room_leaves (shape_number offer shaped_pool) (evictions_for now offer shaped_pool)

  parents_leave : (missing : Option ℕ) → Leaves (by_parents who now offer later missing)
  parents_leave (Some id) = refl
  parents_leave None = credit_leaves

  none_leaves : Leaves (by_key who now offer later None)
  none_leaves = go (is_other_version offer.key offer.present)
    where
      go : (b : Bool) → Leaves (cond b (let r : Admitted × PoolState = (Stale offer.present, later) in r) (by_parents who now offer later (missing_parent offer later)))
      go true = refl
      go false = parents_leave (missing_parent offer later)

  there_leaves : (e : PoolEntry) → IsPool old → entry_of_key offer.key old.entries ≡ Some e → IsHeldToo who now offer.key e.id old (by_key who now offer later (Some e)).1
  there_leaves e known found =
      let one = one_is_changed (pinned who) offer.key 1 old.next old.entries e known.rising found in record {
        front = one.front;
        entry = e;
        back = one.back;
        among = one.among;
        key_is = one.key_is;
        id_is = refl;
        after = ap (λ (es : List PoolEntry). let p : PoolState = record old { moment = now; entries = es } in p) one.after;
      }

  pub admission_leaves : IsPool old → Leaves (admit_of who now offer old)
  admission_leaves known = go (entry_of_key offer.key old.entries) refl
    where
      go : (found : Option PoolEntry) → entry_of_key offer.key old.entries ≡ found → Leaves (by_key who now offer later found)
      go (Some e) found = there_leaves e known found
      go None _ = none_leaves

  refusal_leaves : IsPool old → (answer : Admitted) (new : PoolState) → IsLeft who now offer old answer new → is_refusal answer ≡ true → IsAsBefore now old new
  refusal_leaves known (Taken id bytes gone) new left refused = cc
  refusal_leaves known (There id) new left refused = cc
  refusal_leaves known (Stale version) new left refused = subst (IsAsBefore now old) (sym left) (moved_only now old)
  refusal_leaves known (Orphan id) new left refused = subst (IsAsBefore now old) (sym left) (moved_only now old)
  refusal_leaves known (NoCredit shape) new left refused = subst (IsAsBefore now old) (sym left) (shaped now offer old known.shapes)
  refusal_leaves known (NoRoom bytes) new left refused = subst (IsAsBefore now old) (sym left) (shaped now offer old known.shapes)

pub refusals_leave_holds : RefusalsLeave
refusals_leave_holds = record {
  by_answer = λ who now offer pool known. admission_leaves who now offer pool known;
  as_before = λ who now offer pool known refused. refusal_leaves who now offer pool known (admit_of who now offer pool).0 (admit_of who now offer pool).1 (admission_leaves who now offer pool known) refused;
}
