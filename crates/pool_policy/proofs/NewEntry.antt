-- A new shape and a new entry keep what a pool keeps; so an admission does.
use Rattle.std.proofs.Common.{◌≡◌, ℕ, zero, suc, ◌+◌, ◌-◌, ◌≤◌, ◌<◌, List, [], ◌∷◌, ◌++◌, Bool, true, false, not, ◌&&◌, ◌||◌, cond, Option, Some, None, ◌⊎◌, inl, inr, refl, ap, sym, ◌∙◌, subst, arith, length, map, length-append, ltb-true, nat_lt}
use Rattle.std.specs.Prelude.{filter, ◌==◌, if◌then◌else◌, IsSome, position}
use Rattle.std.specs.List.{AllByRecursion, find, position_or_len}
use Rattle.std.specs.Option.{option_map, option_map_or, unwrap_or}
use Rattle.std.proofs.lemmas.List.Sums.{sum_by_push}
use Rattle.std.proofs.lemmas.List.{length-set}
use Rattle.cell_core.specs.declared.operator.Op.{Op}
use Rattle.cell_core.specs.Places.{operators}
use Rattle.cell_core.specs.SameInstr.{same_op}
use Rattle.cell_core.specs.declared.operator.Value.TheVariants.{Bat}
use Rattle.cell_core.specs.Operators.{operate}
use Rattle.lineage_key.specs.declared.shape.Shape.{Shape}
use Rattle.lineage_key.specs.Same.{same_key, same_shape, same_shape_decides}
use Rattle.evict_admit.specs.Runs.{Run, LeavesWhole}
use Rattle.evict_admit.proofs.Runs.{runs_are_functions_hold}
use Rattle.subsume.proofs.Members.{In}
use Rattle.pool_policy.specs.declared.entry.Who.{Who}
use Rattle.pool_policy.specs.declared.entry.PoolEntry.{PoolEntry}
use Rattle.pool_policy.specs.Pool.{PoolState, pool_bytes, has_credits, score_at}
use Rattle.lineage_key.specs.Parents.{parents_of, is_bind}
use Rattle.evict_admit.specs.Runs.{is_one_of}
use Rattle.pool_policy.specs.Keyed.{class_of, has_key, entry_of_key, is_pooled, shape_in}
use Rattle.pool_policy.specs.Admits.{Offer, offer_bytes, number_from, with_shape, shape_number, credit_of, rows_of, evictions_for, pays_at_end, after_leaving, new_entry, one_less, taken, by_room, by_credit, by_parents, missing_parent, is_other_version, by_key, admit_of}
use Rattle.pool_policy.specs.declared.options.Admitted.TheVariants.{Stale, NoCredit}
use Rattle.pool_policy.specs.Keeps.{Face, face_of, faces, Rises, HaveOwnKeys, value_in, arg_value, IsParentIn, IsRooted, IsCounted, IsPool, IsOffer}
use Rattle.pool_policy.proofs.Lists.{all_filter, all_on, all_snoc, all_at}
use Rattle.pool_policy.proofs.Faces.{value_found, faces_append, rises_snoc, ids_below, keys_snoc, value_snoc, rooted_on}
use Rattle.pool_policy.proofs.Credits.{paid_is, length_paid, funded_shape, funded_new}
use Rattle.pool_policy.proofs.Kept.{counted_later, pins_keep, same_faces}
use Rattle.pool_policy.proofs.Leaving.{stays, value_stays, leaving_keeps, faces_left, run_closed, kept_stay, room_left}
use Rattle.pool_policy.proofs.Ends.{all_from}

-- a class is in range
position_low : {X : Type 0} (p : X → Bool) (xs : List X) (k : ℕ) → position p xs ≡ Some k → k < length xs
position_low {X = X} p xs k e = go (nat_lt (position_or_len p xs) (length xs)) refl e
  where
    go : (b : Bool) → nat_lt (position_or_len p xs) (length xs) ≡ b → cond b (Some (position_or_len p xs)) None ≡ Some k → k < length xs
    go true is h = let same : position_or_len p xs ≡ k = cc in let low = ltb-true (position_or_len p xs) (length xs) is in omega (arith, low, same)
    go false is h = cc

class_low : (op : Op) → class_of op < 35
class_low op = go (position (same_op op) operators) refl
  where
    go : (o : Option ℕ) → position (same_op op) operators ≡ o → unwrap_or o 0 < 35
    go None e = omega arith
    go (Some k) e = let low = position_low (same_op op) operators k e in omega (arith, low)

find_none : {X : Type 0} (p : X → Bool) (xs : List X) → find p xs ≡ None → AllByRecursion (λ x. p x ≡ false) xs
find_none p [] e = tt
find_none p (x ∷ xs) e = elim (p x) as (λ b. p x ≡ b → cond b (Some x) (find p xs) ≡ None → AllByRecursion (λ x. p x ≡ false) (x ∷ xs)) [
  | true ↦ λ _ never. cc
  | false ↦ λ is rest. (is, find_none p xs rest)
] refl e

pub pooled_value : (es : List PoolEntry) (id : ℕ) → is_pooled es id ≡ true → IsSome (value_in (faces es) id)
pooled_value [] id e = cc
pooled_value (x ∷ xs) id e = elim (x.id == id) as (λ b. (b || is_pooled xs id) ≡ true → IsSome (option_map (λ (f : Face). f.value) (cond b (Some (face_of x)) (find (λ (f : Face). f.id == id) (faces xs))))) [
  | true ↦ λ _. refl
  | false ↦ λ more. pooled_value xs id more
] e

-- ## Shapes

number_range : (n : ℕ) (shape : Shape) (shapes : List Shape) (k : ℕ) → number_from n shape shapes ≡ Some k → (n ≤ k) × (k < n + length shapes)
number_range n shape [] k e = cc
number_range n shape (s ∷ shapes) k e = elim (same_shape s shape) as (λ b. (if b then Some n else number_from (n + 1) shape shapes) ≡ Some k → (n ≤ k) × (k < n + length (s ∷ shapes))) [
  | true ↦ λ is. let same : n ≡ k = cc in (omega arith, omega arith)
  | false ↦ λ is. let rest = number_range (n + 1) shape shapes k is in (omega (arith, rest.0), omega (arith, rest.1))
] e

number_pushed : (n : ℕ) (shape : Shape) (shapes : List Shape) → (k : ℕ) × (number_from n shape (shapes ++ shape ∷ []) ≡ Some k)
number_pushed n shape [] = (n, ap (λ b. if b then Some n else None) ((same_shape_decides shape shape).1 refl))
number_pushed n shape (s ∷ shapes) = elim (same_shape s shape) as (λ b. (k : ℕ) × ((if b then Some n else number_from (n + 1) shape (shapes ++ shape ∷ [])) ≡ Some k)) [
  | true ↦ (n, refl)
  | false ↦ number_pushed (n + 1) shape shapes
]

-- the offer's shape has a number
abbrev pub HasNumber : Offer → PoolState → Type 0
HasNumber offer pool = (0 < shape_number offer pool) × (shape_number offer pool ≤ length pool.shapes)

pub none_with : (es : List PoolEntry) → AllByRecursion (λ (e : PoolEntry). e.shape ≤ 0) es → AllByRecursion (λ (e : PoolEntry). 0 < e.shape) es → es ≡ []
none_with [] h k = refl
none_with (e ∷ es) h k = absurd (omega (arith, h.0, k.0))

length_less : (credit : List ℕ) (s : ℕ) → length (one_less credit s) ≡ length credit
length_less credit s = length-set credit (s - 1) (credit_of s credit - 1)

shape_keeps : (offer : Offer) (pool : PoolState) → IsPool pool → has_credits pool.options ≡ true → let new = with_shape offer pool in IsPool new × HasNumber offer new × (new.entries ≡ pool.entries) × (new.options ≡ pool.options) × (new.moment ≡ pool.moment)
shape_keeps offer pool known on =
    let shape : Shape = shape_in pool.entries offer.key in
    let numbered : PoolState = option_map_or (λ n. pool) (number_from 1 shape pool.shapes) (record pool { shapes = pool.shapes ++ shape ∷ []; credit = pool.credit ++ pool.options.credits ∷ [] }) in
    subst (λ (p : PoolState). IsPool p × HasNumber offer p × (p.entries ≡ pool.entries) × (p.options ≡ pool.options) × (p.moment ≡ pool.moment)) (sym (ap (λ b. if b then numbered else pool) on)) (go (number_from 1 shape pool.shapes) refl)
  where
    go : (o : Option ℕ) → number_from 1 (shape_in pool.entries offer.key) pool.shapes ≡ o
        → let new : PoolState = option_map_or (λ n. pool) o (record pool { shapes = pool.shapes ++ shape_in pool.entries offer.key ∷ []; credit = pool.credit ++ pool.options.credits ∷ [] }) in
        IsPool new × HasNumber offer new × (new.entries ≡ pool.entries) × (new.options ≡ pool.options) × (new.moment ≡ pool.moment)
    go (Some n) e =
        let range = number_range 1 (shape_in pool.entries offer.key) pool.shapes n e in
        let is : shape_number offer pool ≡ n = ap (λ o. option_map_or (λ n. n) o 0) e in
        (known, (omega (arith, range.0, is), omega (arith, range.1, is)), refl, refl, refl)
    go None e =
        let shape : Shape = shape_in pool.entries offer.key in
        let new : PoolState = record pool { shapes = pool.shapes ++ shape ∷ []; credit = pool.credit ++ pool.options.credits ∷ [] } in
        let pushed = number_pushed 1 shape pool.shapes in
        let range = number_range 1 shape (pool.shapes ++ shape ∷ []) pushed.0 pushed.1 in
        let is : shape_number offer new ≡ pushed.0 = ap (λ o. option_map_or (λ n. n) o 0) pushed.1 in
        let some_or : (0 < length pool.credit) ⊎ (pool.entries ≡ []) = elim pool.credit as (λ c. AllByRecursion (λ (e : PoolEntry). (e.shape ≤ length c) × (0 < length c → 0 < e.shape)) pool.entries → (0 < length c) ⊎ (pool.entries ≡ [])) [
          | [] ↦ λ h. inr (none_with pool.entries (all_on (λ (e : PoolEntry). (e.shape ≤ 0) × (0 < 0 → 0 < e.shape)) (λ (e : PoolEntry). e.shape ≤ 0) pool.entries (λ e _ k. k.0) h) (known.marked on))
          | (x ∷ xs) ↦ λ h. inl (omega arith)
        ] known.funded.numbered in
        let kept : IsPool new = record {
          rising = known.rising;
          own_keys = known.own_keys;
          rooted = known.rooted;
          bytes = known.bytes;
          places = known.places;
          counted = known.counted;
          funded = funded_shape pool.options pool.credit pool.entries some_or known.funded;
          shapes = let a = length-append pool.shapes (shape ∷ []) in let b = length-append pool.credit (pool.options.credits ∷ []) in omega (arith, a, b, known.shapes);
          plain = λ off. let wrong : true ≡ false = sym on ∙ off in cc;
          marked = known.marked;
        } in
        (kept, (omega (arith, range.0, is), omega (arith, range.1, is)), refl, refl, refl)

-- ## A new entry

module _ (who : Who) (now : ℕ) (offer : Offer) (pool : PoolState) (known : IsPool pool) (late : pool.moment ≤ now) (at_now : pool.moment ≡ now)
    (fits : IsOffer pool offer) (new_key : entry_of_key offer.key pool.entries ≡ None) (all_there : missing_parent offer pool ≡ None)
    (shape : ℕ) (numbered : (shape ≤ length pool.credit) × (0 < length pool.credit → 0 < shape)) (rich : 0 < length pool.credit → 0 < credit_of shape pool.credit)
    (marks : has_credits pool.options ≡ true → 0 < shape) where
  parents_pooled : AllByRecursion (λ id. is_pooled pool.entries id ≡ true) (parents_of offer.key)
  parents_pooled = all_on (λ id. not (is_pooled pool.entries id) ≡ false) (λ id. is_pooled pool.entries id ≡ true) (parents_of offer.key) (λ id _ e. back (is_pooled pool.entries id) e) (find_none (λ id. not (is_pooled pool.entries id)) (parents_of offer.key) all_there)
    where
      back : (b : Bool) → not b ≡ false → b ≡ true
      back true e = refl
      back false e = sym e

  abbrev need : ℕ
  need = pool_bytes pool.entries + offer_bytes offer - pool.options.budget

  abbrev slots : ℕ
  slots = length pool.entries + 1 - pool.options.places

  module _ (gone : List ℕ) (run : LeavesWhole (rows_of (parents_of offer.key) pool.entries) need slots gone true) where
    abbrev after : PoolState
    after = after_leaving gone pool

    abbrev entry : PoolEntry
    entry = new_entry who now pool.next shape offer

    abbrev old_faces : List Face
    old_faces = faces pool.entries

    abbrev left_faces : List Face
    left_faces = filter (stays gone) old_faces

    kept_pool : IsPool after
    kept_pool = leaving_keeps pool.options.budget gone pool (run_closed (parents_of offer.key) pool known.rooted need slots gone true run) known

    same_values : (id : ℕ) → In id (parents_of offer.key) → value_in left_faces id ≡ value_in old_faces id
    same_values id i = value_stays gone old_faces id (kept_stay (parents_of offer.key) pool known.rooted need slots gone true run id i)

    some_value : (id : ℕ) → In id (parents_of offer.key) → IsSome (value_in old_faces id)
    some_value id i = pooled_value pool.entries id (all_at (λ id. is_pooled pool.entries id ≡ true) (parents_of offer.key) id parents_pooled i)

    below_next : (id : ℕ) → IsSome (value_in old_faces id) → (0 < id) × (id < pool.next)
    below_next id some =
        let found = value_found old_faces id some in
        let range = all_at (λ (f : Face). (1 ≤ f.id) × (f.id < pool.next)) old_faces found.0 (ids_below 1 pool.next old_faces known.rising) found.1 in
        (omega (arith, range.0, found.2), omega (arith, range.1, found.2))

    -- the new face among those that are left
    rooted_old : IsRooted old_faces (face_of entry)
    rooted_old = record {
      few = fits.few;
      sole = fits.sole;
      parents = all_from (IsParentIn old_faces pool.next) (parents_of offer.key) (λ id i. let some = some_value id i in let low = below_next id some in (low.0, low.1, some));
      computed = λ plain. fits.computed plain parents_pooled;
      told = refl;
    }

    abbrev new_faces : List Face
    new_faces = left_faces ++ face_of entry ∷ []

    grown : (f : Face) → IsRooted left_faces f → IsRooted new_faces f
    grown f h = rooted_on left_faces new_faces f (λ id i. value_snoc left_faces (face_of entry) id (all_at (IsParentIn left_faces f.id) (parents_of f.key) id h.parents i).2) h

    faces_new : faces (after.entries ++ entry ∷ []) ≡ new_faces
    faces_new = faces_append after.entries (entry ∷ []) ∙ ap (λ fs. fs ++ face_of entry ∷ []) (faces_left gone pool.entries)

    others : AllByRecursion (λ (g : Face). same_key g.key offer.key ≡ false) left_faces
    others = all_filter (λ (g : Face). same_key g.key offer.key ≡ false) (stays gone) old_faces (of_faces pool.entries (find_none (has_key offer.key) pool.entries new_key))
      where
        of_faces : (es : List PoolEntry) → AllByRecursion (λ (e : PoolEntry). same_key e.key offer.key ≡ false) es → AllByRecursion (λ (g : Face). same_key g.key offer.key ≡ false) (faces es)
        of_faces [] h = tt
        of_faces (e ∷ es) h = (h.0, of_faces es h.1)

    credit_after : 0 < length after.credit → 0 < credit_of shape after.credit
    credit_after some =
        let same : length after.credit ≡ length pool.credit = length_paid pool.credit (filter (λ (e : PoolEntry). is_one_of gone e.id && pays_at_end e) pool.entries) in
        let some_before : 0 < length pool.credit = omega arith in
        let paid = paid_is shape (filter (λ (e : PoolEntry). is_one_of gone e.id && pays_at_end e) pool.entries) pool.credit (numbered.1 some_before) numbered.0
        (all_filter (λ (e : PoolEntry). (e.shape ≤ length pool.credit) × (0 < length pool.credit → 0 < e.shape)) (λ (e : PoolEntry). is_one_of gone e.id && pays_at_end e) pool.entries known.funded.numbered) in
        let before = rich some_before in
        omega (arith, paid, before)

    number_after : (shape ≤ length after.credit) × (0 < length after.credit → 0 < shape)
    number_after = let same : length after.credit ≡ length pool.credit = length_paid pool.credit (filter (λ (e : PoolEntry). is_one_of gone e.id && pays_at_end e) pool.entries) in
        (omega (arith, same, numbered.0), λ some. numbered.1 (omega arith))

    pub taken_keeps : IsPool (taken who now offer shape after)
    taken_keeps =
        let room = room_left (parents_of offer.key) pool known.rooted need slots gone true run refl in
        let bytes_new : pool_bytes (after.entries ++ entry ∷ []) ≡ pool_bytes after.entries + offer_bytes offer = sum_by_push (λ (e : PoolEntry). e.bytes) after.entries entry in
        let count_new : length (after.entries ++ entry ∷ []) ≡ length after.entries + 1 = omega (arith, length-append after.entries (entry ∷ [])) in record {
          rising = subst (Rises 1 (pool.next + 1)) (sym faces_new) (rises_snoc 1 pool.next left_faces (face_of entry) refl (subst (Rises 1 pool.next) (faces_left gone pool.entries) kept_pool.rising));
          own_keys = subst HaveOwnKeys (sym faces_new) (keys_snoc left_faces (face_of entry) others (subst HaveOwnKeys (faces_left gone pool.entries) kept_pool.own_keys));
          rooted = subst (λ fs. AllByRecursion (IsRooted fs) fs) (sym faces_new) (all_snoc (IsRooted new_faces) left_faces (face_of entry)
              (all_on (IsRooted left_faces) (IsRooted new_faces) left_faces (λ f _ h. grown f h) (subst (λ fs. AllByRecursion (IsRooted fs) fs) (faces_left gone pool.entries) kept_pool.rooted))
              (grown (face_of entry) (rooted_on old_faces left_faces (face_of entry) same_values rooted_old)));
          bytes = omega (arith, bytes_new, room.0, known.bytes);
          places = omega (arith, count_new, room.1, known.places);
          counted = all_snoc (IsCounted pool.moment) after.entries entry kept_pool.counted (record { class = class_low offer.key.op; work = fits.work; reuses = omega arith; others = omega arith; admitted = omega (arith, at_now); used = omega (arith, at_now) });
          funded = funded_new pool.options after.credit after.entries entry refl number_after credit_after kept_pool.funded;
          shapes = kept_pool.shapes ∙ sym (length_less after.credit shape);
          plain = λ off. length_less after.credit shape ∙ kept_pool.plain off;
          marked = λ on. all_snoc (λ (e : PoolEntry). 0 < e.shape) after.entries entry (kept_pool.marked on) (marks on);
        }

-- ## An admission

pub moment_keeps : (now : ℕ) (pool : PoolState) → pool.moment < now → IsPool pool → IsPool (record pool { moment = now })
moment_keeps now pool later known = same_faces pool.options.budget pool (record pool { moment = now }) refl refl refl refl refl (counted_later pool.moment now (omega arith) pool.entries known.counted) known.funded known

room_keeps : (who : Who) (now : ℕ) (offer : Offer) (pool : PoolState) → IsPool pool → pool.moment ≡ now → IsOffer pool offer → entry_of_key offer.key pool.entries ≡ None → missing_parent offer pool ≡ None
    → (shape : ℕ) → ((shape ≤ length pool.credit) × (0 < length pool.credit → 0 < shape)) → (0 < length pool.credit → 0 < credit_of shape pool.credit) → (has_credits pool.options ≡ true → 0 < shape)
    → IsPool (by_room who now offer shape pool (evictions_for now offer pool)).1
room_keeps who now offer pool known at_now fits new_key all_there shape numbered rich marks =
    go (evictions_for now offer pool) refl
  where
    go : (r : Run) → evictions_for now offer pool ≡ r → IsPool (by_room who now offer shape pool r).1
    go (gone, true) e = taken_keeps who now offer pool known (omega arith) at_now fits new_key all_there shape numbered rich marks gone
        (let law = runs_are_functions_hold (score_at pool.options now) (rows_of (parents_of offer.key) pool.entries) (pool_bytes pool.entries + offer_bytes offer - pool.options.budget) (length pool.entries + 1 - pool.options.places) gone true in law.1 (law.0.1 e))
    go (gone, false) e = known

-- without credits no shape has a number
pub no_number : (offer : Offer) (pool : PoolState) → length pool.shapes ≡ 0 → shape_number offer pool ≡ 0
no_number offer pool none = go pool.shapes none
  where
    go : (shapes : List Shape) → length shapes ≡ 0 → option_map_or (λ n. n) (number_from 1 (shape_in pool.entries offer.key) shapes) 0 ≡ 0
    go [] e = refl
    go (s ∷ ss) e = absurd (omega arith)

above : (n : ℕ) → (n == 0) ≡ false → 0 < n
above zero e = cc
above (suc n) e = omega arith

credit_keeps : (who : Who) (now : ℕ) (offer : Offer) (pool : PoolState) → IsPool pool → pool.moment ≡ now → IsOffer pool offer → entry_of_key offer.key pool.entries ≡ None → missing_parent offer pool ≡ None
    → (has_credits pool.options ≡ true → HasNumber offer pool) → IsPool (by_credit who now offer pool).1
credit_keeps who now offer pool known at_now fits new_key all_there number =
    elim (has_credits pool.options) as (λ on. has_credits pool.options ≡ on → IsPool (if on && credit_of (shape_number offer pool) pool.credit == 0 then (NoCredit (shape_number offer pool), pool) else by_room who now offer (shape_number offer pool) pool (evictions_for now offer pool)).1) [
      | true ↦ λ on. elim (credit_of (shape_number offer pool) pool.credit == 0) as (λ b. (credit_of (shape_number offer pool) pool.credit == 0) ≡ b → IsPool (if b then (NoCredit (shape_number offer pool), pool) else by_room who now offer (shape_number offer pool) pool (evictions_for now offer pool)).1) [
        | true ↦ λ _. known
        | false ↦ λ some.
            let range = number on in
            let rich : 0 < credit_of (shape_number offer pool) pool.credit = above (credit_of (shape_number offer pool) pool.credit) some in
            room_keeps who now offer pool known at_now fits new_key all_there (shape_number offer pool) (omega (arith, range.1, known.shapes), λ _. range.0) (λ _. rich) (λ _. range.0)
      ] refl
      | false ↦ λ off.
          let none = known.plain off in
          let zero_is = no_number offer pool (known.shapes ∙ none) in
          room_keeps who now offer pool known at_now fits new_key all_there (shape_number offer pool) (omega (arith, zero_is), λ some. absurd (omega arith)) (λ some. absurd (omega arith)) (λ on. let wrong : true ≡ false = sym on ∙ off in cc)
    ] refl

-- what an offer asks for depends on the entries alone
offer_on : (offer : Offer) (pool new : PoolState) → new.entries ≡ pool.entries → IsOffer pool offer → IsOffer new offer
offer_on offer pool new same fits = record {
  work = fits.work;
  few = fits.few;
  sole = fits.sole;
  computed = subst (λ (es : List PoolEntry). is_bind offer.key ≡ false → AllByRecursion (λ id. is_pooled es id ≡ true) (parents_of offer.key) → operate offer.key.op (map (arg_value (faces es)) offer.key.args) ≡ Some (Bat offer.value)) (sym same) fits.computed;
}

parents_keep : (who : Who) (now : ℕ) (offer : Offer) (pool : PoolState) → IsPool pool → pool.moment ≡ now → IsOffer pool offer → entry_of_key offer.key pool.entries ≡ None
    → (o : Option ℕ) → missing_parent offer pool ≡ o → IsPool (by_parents who now offer pool o).1
parents_keep who now offer pool known at_now fits new_key (Some id) e = known
parents_keep who now offer pool known at_now fits new_key None e =
    elim (has_credits pool.options) as (λ on. has_credits pool.options ≡ on → IsPool (by_credit who now offer (with_shape offer pool)).1) [
      | true ↦ λ on. let s = shape_keeps offer pool known on in
          credit_keeps who now offer (with_shape offer pool) s.0 (s.4 ∙ at_now) (offer_on offer pool (with_shape offer pool) s.2 fits)
          (ap (entry_of_key offer.key) s.2 ∙ new_key) (ap (λ (es : List PoolEntry). find (λ id. not (is_pooled es id)) (parents_of offer.key)) s.2 ∙ e) (λ _. s.1)
      | false ↦ λ off.
          let same : with_shape offer pool ≡ pool = ap (λ b. if b then option_map_or (λ n. pool) (number_from 1 (shape_in pool.entries offer.key) pool.shapes) (record pool { shapes = pool.shapes ++ shape_in pool.entries offer.key ∷ []; credit = pool.credit ++ pool.options.credits ∷ [] }) else pool) off in
          subst (λ (p : PoolState). IsPool (by_credit who now offer p).1) (sym same) (credit_keeps who now offer pool known at_now fits new_key e (λ on. let wrong : true ≡ false = sym on ∙ off in cc))
    ] refl

key_keeps : (who : Who) (now : ℕ) (offer : Offer) (pool : PoolState) → IsPool pool → pool.moment ≡ now → IsOffer pool offer → (o : Option PoolEntry) → entry_of_key offer.key pool.entries ≡ o → IsPool (by_key who now offer pool o).1
key_keeps who now offer pool known at_now fits (Some found) e = pins_keep who (found.id ∷ []) pool known
key_keeps who now offer pool known at_now fits None e =
    elim (is_other_version offer.key offer.present) as (λ b. IsPool (if b then (Stale offer.present, pool) else by_parents who now offer pool (missing_parent offer pool)).1) [
      | true ↦ known
      | false ↦ parents_keep who now offer pool known at_now fits e (missing_parent offer pool) refl
    ]

-- an admission keeps a pool
pub admit_keeps : (who : Who) (now : ℕ) (offer : Offer) (pool : PoolState) → pool.moment < now → IsPool pool → IsOffer pool offer → IsPool (admit_of who now offer pool).1
admit_keeps who now offer pool later known fits =
    let at : PoolState = record pool { moment = now } in
    key_keeps who now offer at (moment_keeps now pool later known) refl (offer_on offer pool at refl fits) (entry_of_key offer.key at.entries) refl
