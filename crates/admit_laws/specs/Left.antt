-- What is left by an admission that takes nothing.
use Rattle.std.specs.Prelude.{◌≡◌, ℕ, List, ◌∷◌, ◌++◌, Bool, true, false, Some}
use Rattle.lineage_key.specs.declared.key.Key.{Key}
use Rattle.lineage_key.specs.declared.shape.Shape.{Shape}
use Rattle.lineage_key.specs.Same.{same_key}
use Rattle.pool_policy.specs.declared.entry.Who.{Who}
use Rattle.pool_policy.specs.declared.entry.PoolEntry.{PoolEntry}
use Rattle.pool_policy.specs.declared.options.Admitted.{Admitted}
use Rattle.pool_policy.specs.declared.options.Admitted.TheVariants.{Taken, There, Stale, Orphan, NoCredit, NoRoom}
use Rattle.pool_policy.specs.Pool.{PoolState}
use Rattle.pool_policy.specs.Looks.{pinned}
use Rattle.pool_policy.specs.Admits.{Offer, credit_of, number_from, with_shape}

-- the result isn't taken in, and no entry has its key
abbrev pub is_refusal : Admitted → Bool
is_refusal (Taken id bytes gone) = false
is_refusal (There id) = false
is_refusal (Stale version) = true
is_refusal (Orphan id) = true
is_refusal (NoCredit shape) = true
is_refusal (NoRoom bytes) = true

-- the moment moves, and nothing else
abbrev pub at_moment : ℕ → PoolState → PoolState
at_moment now pool = record pool { moment = now }

-- the entry with this id has the key, and is held by the session too: nothing else of it changes, no other entry, and nothing else but the moment
pub record IsHeldToo (who : Who) (now : ℕ) (key : Key) (id : ℕ) (old new : PoolState) : Type 0 where
  pub front : List PoolEntry
  pub entry : PoolEntry
  pub back : List PoolEntry
  pub among : old.entries ≡ front ++ entry ∷ back
  pub key_is : same_key entry.key key ≡ true
  pub id_is : entry.id ≡ id
  pub after : new ≡ record old { moment = now; entries = front ++ pinned who entry ∷ back }

-- what is left, by the answer: where only the credit or the room is missing, the shape may have got its number
abbrev pub IsLeft : Who → ℕ → Offer → PoolState → Admitted → PoolState → Type 0
IsLeft who now offer old (Taken id bytes gone) new = Unit {0}
IsLeft who now offer old (There id) new = IsHeldToo who now offer.key id old new
IsLeft who now offer old (Stale version) new = new ≡ at_moment now old
IsLeft who now offer old (Orphan id) new = new ≡ at_moment now old
IsLeft who now offer old (NoCredit shape) new = new ≡ with_shape offer (at_moment now old)
IsLeft who now offer old (NoRoom bytes) new = new ≡ with_shape offer (at_moment now old)

-- every entry is as before, with its uses and who holds it, and so are the next id, and the number and the credit of each shape that had a number
pub record IsAsBefore (now : ℕ) (old new : PoolState) : Type 0 where
  pub options : new.options ≡ old.options
  pub entries : new.entries ≡ old.entries
  pub next : new.next ≡ old.next
  pub moment : new.moment ≡ now
  pub numbers : (shape : Shape) (n : ℕ) → number_from 1 shape old.shapes ≡ Some n → number_from 1 shape new.shapes ≡ Some n
  pub credits : (shape : Shape) (n : ℕ) → number_from 1 shape old.shapes ≡ Some n → credit_of n new.credit ≡ credit_of n old.credit
