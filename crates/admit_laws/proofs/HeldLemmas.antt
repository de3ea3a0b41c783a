-- Of entries whose ids rise, one alone is held.
use Rattle.std.proofs.Common.{◌≡◌, ℕ, ◌+◌, ◌≤◌, ◌<◌, List, [], ◌∷◌, ◌++◌, true, false, ◌||◌, cond, Some, refl, ap, ◌∙◌, subst, arith}
use Rattle.std.specs.Prelude.{◌==◌, if◌then◌else◌}
use Rattle.std.proofs.lemmas.Bool.Decides.{Decides-eqb}
use Rattle.lineage_key.specs.declared.key.Key.{Key}
use Rattle.lineage_key.specs.Same.{same_key}
use Rattle.evict_admit.specs.Runs.{is_one_of}
use Rattle.pool_policy.specs.declared.entry.PoolEntry.{PoolEntry}
use Rattle.pool_policy.specs.Keyed.{entry_of_key}
use Rattle.pool_policy.specs.Looks.{at_ids}
use Rattle.pool_policy.specs.Keeps.{faces, Rises}

-- an entry changes only where it has the id
one_changed : (change : PoolEntry → PoolEntry) (id : ℕ) (e : PoolEntry) → (if is_one_of (id ∷ []) e.id then change e else e) ≡ (if e.id == id then change e else e)
one_changed change id e = elim (e.id == id) as (λ b. (if b || false then change e else e) ≡ (if b then change e else e)) [ true ↦ refl | false ↦ refl ]

changed_at : (change : PoolEntry → PoolEntry) (id : ℕ) (e : PoolEntry) → e.id ≡ id → (if is_one_of (id ∷ []) e.id then change e else e) ≡ change e
changed_at change id e same = one_changed change id e ∙ ap (λ b. if b then change e else e) ((Decides-eqb e.id id).1 same)

kept_at : (change : PoolEntry → PoolEntry) (id : ℕ) (e : PoolEntry) → id < e.id → (if is_one_of (id ∷ []) e.id then change e else e) ≡ e
kept_at change id e more = one_changed change id e ∙ elim (e.id == id) as (λ b. (e.id == id) ≡ b → (if b then change e else e) ≡ e) [
  | true ↦ λ is. let same : e.id ≡ id = (Decides-eqb e.id id).0 is in absurd (omega (arith, same, more))
  | false ↦ λ _. refl
] refl

kept_below : (change : PoolEntry → PoolEntry) (id : ℕ) (e : PoolEntry) → e.id < id → (if is_one_of (id ∷ []) e.id then change e else e) ≡ e
kept_below change id e less = one_changed change id e ∙ elim (e.id == id) as (λ b. (e.id == id) ≡ b → (if b then change e else e) ≡ e) [
  | true ↦ λ is. let same : e.id ≡ id = (Decides-eqb e.id id).0 is in absurd (omega (arith, same, less))
  | false ↦ λ _. refl
] refl

-- entries with greater ids stay
greater_stay : (change : PoolEntry → PoolEntry) (id from next : ℕ) (es : List PoolEntry) → id < from → Rises from next (faces es) → at_ids (id ∷ []) change es ≡ es
greater_stay change id from next [] less rises = refl
greater_stay change id from next (e ∷ es) less rises =
    let here = kept_at change id e (omega (arith, less, rises.0)) in
    let rest = greater_stay change id (e.id + 1) next es (omega (arith, less, rises.0)) rises.1 in
    ap (λ x. x ∷ at_ids (id ∷ []) change es) here ∙ ap (λ xs. e ∷ xs) rest

found_from : (key : Key) (from next : ℕ) (es : List PoolEntry) (e : PoolEntry) → Rises from next (faces es) → entry_of_key key es ≡ Some e → from ≤ e.id
found_from key from next [] e rises found = cc
found_from key from next (x ∷ es) e rises found = elim (same_key x.key key) as (λ b. cond b (Some x) (entry_of_key key es) ≡ Some e → from ≤ e.id) [
  | true ↦ λ is. let same : x ≡ e = cc in subst (λ (y : PoolEntry). from ≤ y.id) same rises.0
  | false ↦ λ is. let rest = found_from key (x.id + 1) next es e rises.1 is in omega (arith, rest, rises.0)
] found

-- the entry that has the key, among the others, which stay
pub record IsOneChanged (change : PoolEntry → PoolEntry) (key : Key) (e : PoolEntry) (es : List PoolEntry) : Type 0 where
  pub front : List PoolEntry
  pub back : List PoolEntry
  pub among : es ≡ front ++ e ∷ back
  pub key_is : same_key e.key key ≡ true
  pub after : at_ids (e.id ∷ []) change es ≡ front ++ change e ∷ back

first_changed : (change : PoolEntry → PoolEntry) (key : Key) (next : ℕ) (es : List PoolEntry) (x : PoolEntry) → Rises (x.id + 1) next (faces es) → same_key x.key key ≡ true → IsOneChanged change key x (x ∷ es)
first_changed change key next es x rises same = record {
  front = [];
  back = es;
  among = refl;
  key_is = same;
  after = ap (λ y. y ∷ at_ids (x.id ∷ []) change es) (changed_at change x.id x refl) ∙ ap (λ ys. change x ∷ ys) (greater_stay change x.id (x.id + 1) next es (omega arith) rises);
}

later_changed : (change : PoolEntry → PoolEntry) (key : Key) (es : List PoolEntry) (x e : PoolEntry) → x.id < e.id → IsOneChanged change key e es → IsOneChanged change key e (x ∷ es)
later_changed change key es x e less rest = record {
  front = x ∷ rest.front;
  back = rest.back;
  among = ap (λ xs. x ∷ xs) rest.among;
  key_is = rest.key_is;
  after = ap (λ y. y ∷ at_ids (e.id ∷ []) change es) (kept_below change e.id x less) ∙ ap (λ ys. x ∷ ys) rest.after;
}

pub one_is_changed : (change : PoolEntry → PoolEntry) (key : Key) (from next : ℕ) (es : List PoolEntry) (e : PoolEntry) → Rises from next (faces es) → entry_of_key key es ≡ Some e → IsOneChanged change key e es
one_is_changed change key from next [] e rises found = cc
one_is_changed change key from next (x ∷ es) e rises found = elim (same_key x.key key) as (λ b. same_key x.key key ≡ b → cond b (Some x) (entry_of_key key es) ≡ Some e → IsOneChanged change key e (x ∷ es)) [
  | true ↦ λ same is. let one : x ≡ e = cc in subst (λ (y : PoolEntry). IsOneChanged change key y (x ∷ es)) one (first_changed change key next es x rises.1 same)
  | false ↦ λ _ is.
      let above : x.id + 1 ≤ e.id = found_from key (x.id + 1) next es e rises.1 is in
      later_changed change key es x e (omega (arith, above)) (one_is_changed change key (x.id + 1) next es e rises.1 is)
] refl found
