-- Entries by their ids, which rise.
use Rattle.std.proofs.Common.{◌≡◌, ℕ, zero, suc, ◌+◌, ◌≤◌, ◌<◌, List, [], ◌∷◌, Bool, true, false, ◌&&◌, ◌||◌, cond, Option, Some, None, refl, ap, sym, ◌∙◌, subst, arith, length, slice_index_or, is_some}
use Rattle.std.specs.Prelude.{filter, ◌==◌, if◌then◌else◌, slice_set, nat_lt, IfSome}
use Rattle.std.specs.List.{find, list_any, slice_get}
use Rattle.std.specs.Option.{option_and_then}
use Rattle.std.proofs.lemmas.Bool.Decides.{Decides-eqb, Decides-ltb, nat_tests}
use Rattle.std.proofs.lemmas.Option.{slice_get-get_or}
use Rattle.evict_admit.specs.Runs.{is_one_of}
use Rattle.pool_policy.specs.declared.entry.PoolEntry.{PoolEntry}
use Rattle.pool_policy.specs.Keyed.{entry_of_id, has_id, is_pooled}
use Rattle.pool_policy.specs.Looks.{at_ids, one_more, paid_back}
use Rattle.pool_policy.specs.Keeps.{faces, Rises}
use Rattle.pool_entries.specs.Usable.{HaveRisingIds}
use Rattle.pool_entries.proofs.Places.{read_any}

-- ## Numbers

itself : (n : ℕ) → (n == n) ≡ true
itself n = (Decides-eqb n n).1 refl

pub differs : (a b : ℕ) → ((a ≡ b) → ⊥) → (a == b) ≡ false
differs a b other = elim (a == b) as (λ r. (a == b) ≡ r → r ≡ false) [ true ↦ λ e. absurd (other ((Decides-eqb a b).0 e)) | false ↦ λ _. refl ] refl

before : (a b : ℕ) → a < b → (a == b) ≡ false
before a b low = differs a b (λ e. omega (arith, e, low))

-- ## Ids and places

first_up : (from next : ℕ) (es : List PoolEntry) (k : ℕ) (d : PoolEntry) → Rises from next (faces es) → k < length es → from ≤ (slice_index_or es k d).id
first_up from next [] k d up low = absurd (omega arith)
first_up from next (e ∷ es) zero d up low = up.0
first_up from next (e ∷ es) (suc k) d up low = let more = first_up (e.id + 1) next es k d up.1 (omega arith) in omega (arith, more, up.0)

-- they rise together
ids_up : (from next : ℕ) (es : List PoolEntry) (i j : ℕ) (d : PoolEntry) → Rises from next (faces es) → i ≤ j → j < length es → (slice_index_or es i d).id ≤ (slice_index_or es j d).id
ids_up from next [] i j d up le low = absurd (omega arith)
ids_up from next (e ∷ es) zero zero d up le low = omega arith
ids_up from next (e ∷ es) zero (suc j) d up le low = let more = first_up (e.id + 1) next es j d up.1 (omega arith) in omega (arith, more)
ids_up from next (e ∷ es) (suc i) zero d up le low = absurd (omega arith)
ids_up from next (e ∷ es) (suc i) (suc j) d up le low = ids_up (e.id + 1) next es i j d up.1 (omega arith) (omega arith)

module _ (next : ℕ) (es : List PoolEntry) (up : Rises 1 next (faces es)) (middle id : ℕ) (x : PoolEntry) (low : middle < length es) where
  -- where the one in the middle is below, so are all up to it
  pub below_middle : (slice_index_or es middle x).id < id → (k : ℕ) (d : PoolEntry) → k < middle + 1 → (slice_index_or es k d).id < id
  below_middle less k d up_to =
      let same = ap (λ (e : PoolEntry). e.id) (read_any es middle d x low) in
      let order = ids_up 1 next es k middle d up (omega arith) low in
      omega (arith, same, order, less)

  -- where it is above, so are all from it on
  pub above_middle : id < (slice_index_or es middle x).id → (k : ℕ) (d : PoolEntry) → middle ≤ k → k < length es → id < (slice_index_or es k d).id
  above_middle more k d from within =
      let same = ap (λ (e : PoolEntry). e.id) (read_any es middle d x low) in
      let order = ids_up 1 next es middle k d up from within in
      omega (arith, same, order, more)

-- the entry at a place is found by its id
pub found_there : (from next : ℕ) (es : List PoolEntry) (k : ℕ) (d : PoolEntry) → Rises from next (faces es) → k < length es → slice_get es k ≡ entry_of_id (slice_index_or es k d).id es
found_there from next [] k d up low = absurd (omega arith)
found_there from next (e ∷ es) zero d up low = sym (ap (λ b. cond b (Some e) (entry_of_id e.id es)) (itself e.id))
found_there from next (e ∷ es) (suc k) d up low =
    let more = first_up (e.id + 1) next es k d up.1 (omega arith) in
    found_there (e.id + 1) next es k d up.1 (omega arith)
    ∙ sym (ap (λ b. cond b (Some e) (entry_of_id (slice_index_or es k d).id es)) (before e.id (slice_index_or es k d).id (omega (arith, more))))

-- where no place has the id, no entry has
pub none_there : (es : List PoolEntry) (id : ℕ) → ((k : ℕ) (d : PoolEntry) → k < length es → ((slice_index_or es k d).id ≡ id) → ⊥) → None ≡ entry_of_id id es
none_there [] id h = refl
none_there (e ∷ es) id h =
    none_there es id (λ k d low. h (suc k) d (omega (arith, low)))
    ∙ sym (ap (λ b. cond b (Some e) (entry_of_id id es)) (differs e.id id (h 0 e (omega arith))))

-- and none has, where those before a place have lesser ids and those from it on greater ones
pub apart_all : (es : List PoolEntry) (id low high : ℕ) → high ≤ low → ((k : ℕ) (d : PoolEntry) → k < low → (slice_index_or es k d).id < id) → ((k : ℕ) (d : PoolEntry) → high ≤ k → k < length es → id < (slice_index_or es k d).id)
    → (k : ℕ) (d : PoolEntry) → k < length es → ((slice_index_or es k d).id ≡ id) → ⊥
apart_all es id low high met below above k d within is = elim (nat_lt k low) as (λ b. nat_lt k low ≡ b → ⊥) [
  | true ↦ λ e. let less = below k d ((Decides-ltb k low).0 e) in omega (arith, is, less)
  | false ↦ λ e. let more = above k d (not_less e) within in omega (arith, is, more)
] refl
  where
    not_less : nat_lt k low ≡ false → high ≤ k
    not_less e = grind (arith, nat_tests, met)

-- it has the id by which it is found
pub id_found : (id : ℕ) (es : List PoolEntry) (x : PoolEntry) → entry_of_id id es ≡ Some x → x.id ≡ id
id_found id [] x e = cc
id_found id (y ∷ ys) x e = elim (y.id == id) as (λ b. (y.id == id) ≡ b → cond b (Some y) (entry_of_id id ys) ≡ Some x → x.id ≡ id) [
  | true ↦ λ is found. let same : y ≡ x = cc in ap (λ (z : PoolEntry). z.id) (sym same) ∙ (Decides-eqb y.id id).0 is
  | false ↦ λ _ found. id_found id ys x found
] refl e

some_any : {X : Type 0} (p : X → Bool) (xs : List X) → is_some (find p xs) ≡ list_any p xs
some_any p [] = refl
some_any p (x ∷ xs) = elim (p x) as (λ b. is_some (cond b (Some x) (find p xs)) ≡ (b || list_any p xs)) [ true ↦ refl | false ↦ some_any p xs ]

-- an entry is pooled where it has a place
pub there_is_place : (es : List PoolEntry) (id : ℕ) (o : Option ℕ) → option_and_then (λ p. slice_get es p) o ≡ entry_of_id id es → IfSome o (λ k. k < length es) → is_some o ≡ is_pooled es id
there_is_place es id None found within = ap is_some found ∙ some_any (has_id id) es
there_is_place es id (Some k) found within = elim (slice_get es k) as (λ (r : Option PoolEntry). slice_get es k ≡ r → true ≡ is_some r) [
  | Some x ↦ λ _. refl
  | None ↦ λ e. absurd (let there = none_got es k within e in there)
] refl ∙ ap is_some found ∙ some_any (has_id id) es
  where
    none_got : (xs : List PoolEntry) (k : ℕ) → k < length xs → slice_get xs k ≡ None → ⊥
    none_got [] k low e = omega arith
    none_got (x ∷ xs) zero low e = cc
    none_got (x ∷ xs) (suc k) low e = none_got xs k (omega arith) e

-- ## One entry that is changed

apart : (id : ℕ) (e : PoolEntry) (es : List PoolEntry) → None ≡ entry_of_id id (e ∷ es) → ((e.id == id) ≡ false) × (None ≡ entry_of_id id es)
apart id e es none = elim (e.id == id) as (λ b. None ≡ cond b (Some e) (entry_of_id id es) → (b ≡ false) × (None ≡ entry_of_id id es)) [ true ↦ λ h. cc | false ↦ λ h. (refl, h) ] none

-- none changes where none has the id
pub at_absent : (change : PoolEntry → PoolEntry) (id : ℕ) (es : List PoolEntry) → None ≡ entry_of_id id es → es ≡ at_ids (id ∷ []) change es
at_absent change id [] none = refl
at_absent change id (e ∷ es) none =
    let other = apart id e es none in
    ap (λ xs. e ∷ xs) (at_absent change id es other.1) ∙ sym (ap (λ b. (if b || false then change e else e) ∷ at_ids (id ∷ []) change es) other.0)

-- nor is any kept
pub kept_absent : (p : PoolEntry → Bool) (id : ℕ) (es : List PoolEntry) → None ≡ entry_of_id id es → [] ≡ filter (λ (e : PoolEntry). is_one_of (id ∷ []) e.id && p e) es
kept_absent p id [] none = refl
kept_absent p id (e ∷ es) none =
    let other = apart id e es none in
    kept_absent p id es other.1
    ∙ sym (ap (λ b. cond ((b || false) && p e) (e ∷ filter (λ (e : PoolEntry). is_one_of (id ∷ []) e.id && p e) es) (filter (λ (e : PoolEntry). is_one_of (id ∷ []) e.id && p e) es)) other.0)

-- later entries have other ids
behind : (from next : ℕ) (es : List PoolEntry) (id : ℕ) → id < from → Rises from next (faces es) → None ≡ entry_of_id id es
behind from next es id low up = none_there es id (λ k d within is. let more = first_up from next es k d up within in omega (arith, more, is, low))

at_one : (change : PoolEntry → PoolEntry) (from next : ℕ) (es : List PoolEntry) (k : ℕ) (d : PoolEntry) → Rises from next (faces es) → k < length es → slice_set es k (change (slice_index_or es k d)) ≡ at_ids ((slice_index_or es k d).id ∷ []) change es
at_one change from next [] k d up low = absurd (omega arith)
at_one change from next (e ∷ es) zero d up low =
    ap (λ xs. change e ∷ xs) (at_absent change e.id es (behind (e.id + 1) next es e.id (omega arith) up.1))
    ∙ sym (ap (λ b. (if b || false then change e else e) ∷ at_ids (e.id ∷ []) change es) (itself e.id))
at_one change from next (e ∷ es) (suc k) d up low =
    let more = first_up (e.id + 1) next es k d up.1 (omega arith) in
    ap (λ xs. e ∷ xs) (at_one change (e.id + 1) next es k d up.1 (omega arith))
    ∙ sym (ap (λ b. (if b || false then change e else e) ∷ at_ids ((slice_index_or es k d).id ∷ []) change es) (before e.id (slice_index_or es k d).id (omega (arith, more))))

one_kept : (p : PoolEntry → Bool) (from next : ℕ) (es : List PoolEntry) (k : ℕ) (d : PoolEntry) → Rises from next (faces es) → k < length es
    → (if p (slice_index_or es k d) then slice_index_or es k d ∷ [] else []) ≡ filter (λ (e : PoolEntry). is_one_of ((slice_index_or es k d).id ∷ []) e.id && p e) es
one_kept p from next [] k d up low = absurd (omega arith)
one_kept p from next (e ∷ es) zero d up low =
    ap (λ xs. cond (p e) (e ∷ xs) xs) (kept_absent p e.id es (behind (e.id + 1) next es e.id (omega arith) up.1))
    ∙ sym (ap (λ b. cond ((b || false) && p e) (e ∷ filter (λ (x : PoolEntry). is_one_of (e.id ∷ []) x.id && p x) es) (filter (λ (x : PoolEntry). is_one_of (e.id ∷ []) x.id && p x) es)) (itself e.id))
one_kept p from next (e ∷ es) (suc k) d up low =
    let more = first_up (e.id + 1) next es k d up.1 (omega arith) in
    let id = (slice_index_or es k d).id in
    one_kept p (e.id + 1) next es k d up.1 (omega arith)
    ∙ sym (ap (λ b. cond ((b || false) && p e) (e ∷ filter (λ (x : PoolEntry). is_one_of (id ∷ []) x.id && p x) es) (filter (λ (x : PoolEntry). is_one_of (id ∷ []) x.id && p x) es)) (before e.id id (omega (arith, more))))

module _ (next : ℕ) (es : List PoolEntry) (id k : ℕ) (d : PoolEntry) (up : Rises 1 next (faces es)) (found : slice_get es k ≡ entry_of_id id es) (low : k < length es) where
  same_id : (slice_index_or es k d).id ≡ id
  same_id = id_found id es (slice_index_or es k d) (sym found ∙ slice_get-get_or es k d low)

  -- the entry that is found by its id alone is changed
  pub at_found : (change : PoolEntry → PoolEntry) → slice_set es k (change (slice_index_or es k d)) ≡ at_ids (id ∷ []) change es
  at_found change = at_one change 1 next es k d up low ∙ ap (λ n. at_ids (n ∷ []) change es) same_id

  -- and alone is kept
  pub kept_found : (p : PoolEntry → Bool) → (if p (slice_index_or es k d) then slice_index_or es k d ∷ [] else []) ≡ filter (λ (e : PoolEntry). is_one_of (id ∷ []) e.id && p e) es
  kept_found p = one_kept p 1 next es k d up low ∙ ap (λ n. filter (λ (e : PoolEntry). is_one_of (n ∷ []) e.id && p e) es) same_id

  -- what it pays back is paid back
  pub paid_found : (p : PoolEntry → Bool) (credit : List ℕ) → (if p (slice_index_or es k d) then one_more credit (slice_index_or es k d).shape else credit) ≡ paid_back credit (filter (λ (e : PoolEntry). is_one_of (id ∷ []) e.id && p e) es)
  paid_found p credit =
      let x : PoolEntry = slice_index_or es k d in
      elim (p x) as (λ b. (if b then one_more credit x.shape else credit) ≡ paid_back credit (if b then x ∷ [] else [])) [ true ↦ refl | false ↦ refl ] ∙ ap (paid_back credit) (kept_found p)

-- ## Where nothing is used

pub none_kept : (p : PoolEntry → Bool) (es : List PoolEntry) → [] ≡ filter (λ (e : PoolEntry). is_one_of [] e.id && p e) es
none_kept p [] = refl
none_kept p (e ∷ es) = none_kept p es

-- ids that rise still rise
pub rising_on : (es new : List PoolEntry) → faces new ≡ faces es → HaveRisingIds es → HaveRisingIds new
rising_on es new same up = (up.0, subst (Rises 1 up.0) (sym same) up.1)
