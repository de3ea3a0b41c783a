-- Looks and releases leave what was given out, and an admission adds the new entry to it.
use Rattle.std.proofs.Common.{◌≡◌, ℕ, ◌+◌, ◌≤◌, ◌<◌, List, [], ◌∷◌, ◌++◌, Bool, true, false, not, ◌&&◌, cond, Option, Some, None, ◌⊎◌, inl, inr, refl, ap, sym, ◌∙◌, subst, arith}
use Rattle.std.specs.Prelude.{filter, nat_lt, ◌==◌, if◌then◌else◌}
use Rattle.std.proofs.lemmas.Bool.Decides.{nat_tests}
use Rattle.std.proofs.lemmas.List.Elements.{filter-append}
use Rattle.std.specs.List.{AllByRecursion}
use Rattle.std.specs.Option.{option_map_or}
use Rattle.lineage_key.specs.declared.key.Key.{Key}
use Rattle.lineage_key.specs.Parents.{parents_of}
use Rattle.evict_admit.specs.Runs.{Run, is_one_of}
use Rattle.subsume.proofs.Members.{In, in_from_contains, contains_from_in, filter_in}
use Rattle.pool_policy.specs.declared.entry.Who.{Who}
use Rattle.pool_policy.specs.declared.entry.PoolEntry.{PoolEntry}
use Rattle.pool_policy.specs.declared.options.Admitted.{Admitted}
use Rattle.pool_policy.specs.declared.options.Admitted.TheVariants.{NoCredit, Stale}
use Rattle.pool_policy.specs.Pool.{PoolState, has_credits}
use Rattle.pool_policy.specs.Keyed.{entry_of_key, shape_in}
use Rattle.pool_policy.specs.Looks.{Finding, used, pinned, at_ids, look_of, ids_used, ids_pinned, after_found, after_look}
use Rattle.pool_policy.specs.Admits.{Offer, number_from, with_shape, shape_number, credit_of, evictions_for, left_without, new_entry, by_room, by_credit, by_parents, missing_parent, is_other_version, by_key, admit_of, unpinned, release_of}
use Rattle.pool_policy.specs.Keeps.{Face, face_of, faces, Rises, value_in, IsParentIn, IsRooted, IsPool, IsOffer}
use Rattle.pool_policy.specs.Worths.{IsGiven, GivesOn, faces_from}
use Rattle.pool_policy.proofs.Lists.{all_at}
use Rattle.pool_policy.proofs.Faces.{value_of_in, value_found, faces_append, map_faces, rooted_on, ids_below}
use Rattle.pool_policy.proofs.Leaving.{stays, faces_left}
use Rattle.pool_policy.proofs.NewEntry.{admit_keeps}
use Rattle.pool_policy.proofs.Given.{one_stays, given_more}
use Rattle.pool_policy.proofs.Ends.{append_none, in_last, last_or}

-- what was given out has what is left of a pool
pub given_within : (given : List Face) (pool new : PoolState) → new.next ≡ pool.next → ((f : Face) → In f (faces new.entries) → In f (faces pool.entries)) → IsGiven given pool → IsGiven given new
given_within given pool new next inside known = record {
  rising = subst (λ n. Rises 1 n given) (sym next) known.rising;
  rooted = known.rooted;
  pooled = λ f c. known.pooled f (contains_from_in (faces pool.entries) f (inside f (in_from_contains (faces new.entries) f c)));
}

given_same : (given : List Face) (pool new : PoolState) → new.next ≡ pool.next → faces new.entries ≡ faces pool.entries → IsGiven given pool → IsGiven given new
given_same given pool new next same known = given_within given pool new next (λ f i. subst (In f) same i) known

pub used_faces : (who : Who) (now : ℕ) (ids : List ℕ) (es : List PoolEntry) → faces (at_ids ids (used who now) es) ≡ faces es
used_faces who now ids es = map_faces (λ (e : PoolEntry). if is_one_of ids e.id then used who now e else e) (λ e. elim (is_one_of ids e.id) as (λ b. face_of (if b then used who now e else e) ≡ face_of e) [ true ↦ refl | false ↦ refl ]) es

pub pinned_faces : (who : Who) (ids : List ℕ) (es : List PoolEntry) → faces (at_ids ids (pinned who) es) ≡ faces es
pinned_faces who ids es = map_faces (λ (e : PoolEntry). if is_one_of ids e.id then pinned who e else e) (λ e. elim (is_one_of ids e.id) as (λ b. face_of (if b then pinned who e else e) ≡ face_of e) [ true ↦ refl | false ↦ refl ]) es

found_given : (who : Who) (now : ℕ) (found : Finding) (given : List Face) (pool : PoolState) → IsGiven given pool → IsGiven given (after_found who now found pool)
found_given who now found given pool known = given_same given pool (after_found who now found pool) refl
    (pinned_faces who (ids_pinned found) (at_ids (ids_used found) (used who now) pool.entries) ∙ used_faces who now (ids_used found) pool.entries) known

pub look_given : (who : Who) (now : ℕ) (key : Key) (given : List Face) (pool : PoolState) → IsGiven given pool → IsGiven given (after_look who now key pool)
look_given who now key given pool known = found_given who now (look_of pool key) given pool known

pub release_given : (session : ℕ) (given : List Face) (pool : PoolState) → IsGiven given pool → IsGiven given (release_of session pool)
release_given session given pool known = given_same given pool (release_of session pool) refl (map_faces (unpinned session) (λ e. refl) pool.entries) known

-- ## An admission

-- how a step changes the faces: not at all, or some leave and one new comes
pub record IsSame (old new : PoolState) : Type 0 where
  pub next : new.next ≡ old.next
  pub same : faces new.entries ≡ faces old.entries

pub record IsMore (offer : Offer) (old new : PoolState) : Type 0 where
  pub left : List Face
  pub one : Face
  pub next : new.next ≡ old.next + 1
  pub id : one.id ≡ old.next
  pub more : faces new.entries ≡ left ++ one ∷ []
  pub inside : (g : Face) → In g left → In g (faces old.entries)
  pub key : one.key ≡ offer.key
  pub value : one.value ≡ offer.value
  pub version : is_other_version offer.key offer.present ≡ false

abbrev pub IsStep : Offer → PoolState → PoolState → Type 0
IsStep offer old new = IsSame old new ⊎ IsMore offer old new

step_on : (offer : Offer) (old mid new : PoolState) → mid.entries ≡ old.entries → mid.next ≡ old.next → IsStep offer mid new → IsStep offer old new
step_on offer old mid new entries next (inl s) = inl (record { next = s.next ∙ next; same = s.same ∙ ap faces entries })
step_on offer old mid new entries next (inr m) = inr (record { left = m.left; one = m.one; next = m.next ∙ ap (λ n. n + 1) next; id = m.id ∙ next; more = m.more; inside = λ g i. subst (λ es. In g (faces es)) entries (m.inside g i); key = m.key; value = m.value; version = m.version })

pins_same : (offer : Offer) (who : Who) (ids : List ℕ) (pool : PoolState) → IsStep offer pool (record pool { entries = at_ids ids (pinned who) pool.entries })
pins_same offer who ids pool = inl (record { next = refl; same = pinned_faces who ids pool.entries })

room_step : (who : Who) (now : ℕ) (offer : Offer) (shape : ℕ) (pool : PoolState) → is_other_version offer.key offer.present ≡ false → (r : Run) → IsStep offer pool (by_room who now offer shape pool r).1
room_step who now offer shape pool fits (gone, true) = inr (record {
  left = filter (stays gone) (faces pool.entries);
  one = face_of (new_entry who now pool.next shape offer);
  next = refl;
  id = refl;
  more = faces_append (left_without gone pool.entries) (new_entry who now pool.next shape offer ∷ []) ∙ ap (λ fs. fs ++ face_of (new_entry who now pool.next shape offer) ∷ []) (faces_left gone pool.entries);
  inside = λ g i. (filter_in (stays gone) (faces pool.entries) g i).0;
  key = refl;
  value = refl;
  version = fits;
})
room_step who now offer shape pool fits (gone, false) = inl (record { next = refl; same = refl })

credit_step : (who : Who) (now : ℕ) (offer : Offer) (pool : PoolState) → is_other_version offer.key offer.present ≡ false → IsStep offer pool (by_credit who now offer pool).1
credit_step who now offer pool fits = elim (has_credits pool.options && credit_of (shape_number offer pool) pool.credit == 0) as (λ b. IsStep offer pool (if b then (let r : Admitted × PoolState = (NoCredit (shape_number offer pool), pool) in r) else by_room who now offer (shape_number offer pool) pool (evictions_for now offer pool)).1) [
  | true ↦ inl (record { next = refl; same = refl })
  | false ↦ room_step who now offer (shape_number offer pool) pool fits (evictions_for now offer pool)
]

shape_same : (offer : Offer) (pool : PoolState) → ((with_shape offer pool).entries ≡ pool.entries) × ((with_shape offer pool).next ≡ pool.next)
shape_same offer pool = elim (has_credits pool.options) as (λ b. let p : PoolState = if b then option_map_or (λ n. pool) (number_from 1 (shape_in pool.entries offer.key) pool.shapes) (record pool { shapes = pool.shapes ++ shape_in pool.entries offer.key ∷ []; credit = pool.credit ++ pool.options.credits ∷ [] }) else pool in (p.entries ≡ pool.entries) × (p.next ≡ pool.next)) [
  | true ↦ elim (number_from 1 (shape_in pool.entries offer.key) pool.shapes) as (λ o. let p : PoolState = option_map_or (λ n. pool) o (record pool { shapes = pool.shapes ++ shape_in pool.entries offer.key ∷ []; credit = pool.credit ++ pool.options.credits ∷ [] }) in (p.entries ≡ pool.entries) × (p.next ≡ pool.next)) [ Some n ↦ (refl, refl) | None ↦ (refl, refl) ]
  | false ↦ (refl, refl)
]

parents_step : (who : Who) (now : ℕ) (offer : Offer) (pool : PoolState) → is_other_version offer.key offer.present ≡ false → (o : Option ℕ) → IsStep offer pool (by_parents who now offer pool o).1
parents_step who now offer pool fits (Some id) = inl (record { next = refl; same = refl })
parents_step who now offer pool fits None = let s = shape_same offer pool in step_on offer pool (with_shape offer pool) _ s.0 s.1 (credit_step who now offer (with_shape offer pool) fits)

key_step : (who : Who) (now : ℕ) (offer : Offer) (pool : PoolState) (o : Option PoolEntry) → IsStep offer pool (by_key who now offer pool o).1
key_step who now offer pool (Some e) = pins_same offer who (e.id ∷ []) pool
key_step who now offer pool None = elim (is_other_version offer.key offer.present) as (λ b. is_other_version offer.key offer.present ≡ b → IsStep offer pool (if b then (let r : Admitted × PoolState = (Stale offer.present, pool) in r) else by_parents who now offer pool (missing_parent offer pool)).1) [
  | true ↦ λ _. inl (record { next = refl; same = refl })
  | false ↦ λ fits. parents_step who now offer pool fits (missing_parent offer pool)
] refl

pub admit_step : (who : Who) (now : ℕ) (offer : Offer) (pool : PoolState) → IsStep offer pool (admit_of who now offer pool).1
admit_step who now offer pool = step_on offer pool (record pool { moment = now }) _ refl refl (key_step who now offer (record pool { moment = now }) (entry_of_key offer.key pool.entries))

-- the face that comes is rooted in what was pooled before
one_rooted : (offer : Offer) (old new : PoolState) (m : IsMore offer old new) → IsPool old → IsPool new → IsRooted (faces old.entries) m.one
one_rooted offer old new m before after =
    let all : AllByRecursion (IsRooted (m.left ++ m.one ∷ [])) (m.left ++ m.one ∷ []) = subst (λ fs. AllByRecursion (IsRooted fs) fs) m.more after.rooted in
    let here : IsRooted (m.left ++ m.one ∷ []) m.one = all_at (IsRooted (m.left ++ m.one ∷ [])) (m.left ++ m.one ∷ []) m.one all (in_last m.left m.one) in
    rooted_on (m.left ++ m.one ∷ []) (faces old.entries) m.one (λ id i.
    let parent = all_at (IsParentIn (m.left ++ m.one ∷ []) m.one.id) (parents_of m.one.key) id here.parents i in
    let found = value_found (m.left ++ m.one ∷ []) id parent.2 in
    elim (last_or m.left m.one found.0 found.1) [
      | inl j ↦ ap (value_in (faces old.entries)) (sym found.2) ∙ value_of_in 1 old.next (faces old.entries) found.0 before.rising (m.inside found.0 j) ∙ sym found.3
      | inr e ↦ absurd (let same = ap (λ (f : Face). f.id) e in omega (arith, same, found.2, parent.1))
    ]) here

-- ## What is new

abbrev is_new : ℕ → Face → Bool
is_new next f = not (nat_lt f.id next)

below_is : (m n : ℕ) → m < n → nat_lt m n ≡ true
below_is m n e = grind (arith, nat_tests, e)

above_is : (m n : ℕ) → n ≤ m → nat_lt m n ≡ false
above_is m n e = grind (arith, nat_tests, e)

none_new : (next : ℕ) (fs : List Face) → ((f : Face) → In f fs → f.id < next) → filter (is_new next) fs ≡ []
none_new next [] below = refl
none_new next (f ∷ fs) below = ap (λ b. cond (not b) (f ∷ filter (is_new next) fs) (filter (is_new next) fs)) (below_is f.id next (below f (inl refl))) ∙ none_new next fs (λ g i. below g (inr i))

below_next : (pool : PoolState) → IsPool pool → (f : Face) → In f (faces pool.entries) → f.id < pool.next
below_next pool known f i = (all_at (λ (g : Face). (1 ≤ g.id) × (g.id < pool.next)) (faces pool.entries) f (ids_below 1 pool.next (faces pool.entries) known.rising) i).1

same_new : (old new : PoolState) → IsPool old → faces new.entries ≡ faces old.entries → faces_from old.next new ≡ []
same_new old new before same = ap (filter (is_new old.next)) same ∙ none_new old.next (faces old.entries) (below_next old before)

one_new : (offer : Offer) (old new : PoolState) → IsPool old → (m : IsMore offer old new) → faces_from old.next new ≡ m.one ∷ []
one_new offer old new before m =
    ap (filter (is_new old.next)) m.more ∙ filter-append (is_new old.next) m.left (m.one ∷ [])
    ∙ ap (λ fs. fs ++ cond (is_new old.next m.one) (m.one ∷ []) []) (none_new old.next m.left (λ f i. below_next old before f (m.inside f i)))
    ∙ ap (λ b. cond (not b) (m.one ∷ []) []) (above_is m.one.id old.next (let id = m.id in omega (arith, id)))

step_given : (offer : Offer) (given : List Face) (old new : PoolState) → IsStep offer old new → IsPool old → IsPool new → IsGiven given old → GivesOn given (faces_from old.next new) new
step_given offer given old new (inl s) before after known =
    let all = sym (append_none given) in
    let still : GivesOn given [] new = record { known = subst (λ gs. IsGiven gs new) all (given_same given old new s.next s.same known); stay = λ id some. ap (λ gs. value_in gs id) (sym all) } in
    subst (λ more. GivesOn given more new) (sym (same_new old new before s.same)) still
step_given offer given old new (inr m) before after known =
    let more : GivesOn given (m.one ∷ []) new = record {
      known = given_more given old new m.one m.id m.next (one_rooted offer old new m before after) (λ g i.
          elim (last_or m.left m.one g (subst (In g) m.more i)) [ inl j ↦ inl (m.inside g j) | inr e ↦ inr e ]) known;
      stay = one_stays given m.one;
    } in
    subst (λ fs. GivesOn given fs new) (sym (one_new offer old new before m)) more

pub admit_given : (who : Who) (now : ℕ) (offer : Offer) (given : List Face) (pool : PoolState) → pool.moment < now → IsPool pool → IsOffer pool offer → IsGiven given pool → GivesOn given (faces_from pool.next (admit_of who now offer pool).1) (admit_of who now offer pool).1
admit_given who now offer given pool later known fits all = step_given offer given pool (admit_of who now offer pool).1 (admit_step who now offer pool) known (admit_keeps who now offer pool later known fits) all
