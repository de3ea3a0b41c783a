-- The id that an admission returns is worth the value that was offered.
use Rattle.std.proofs.Common.{◌≡◌, ℕ, ◌+◌, ◌<◌, ◌≤◌, List, [], ◌∷◌, ◌++◌, Bool, true, false, not, ◌&&◌, cond, Option, Some, None, inl, inr, refl, ap, sym, ◌∙◌, subst, arith}
use Rattle.std.specs.Prelude.{◌==◌, if◌then◌else◌, nat_lt, IsSome}
use Rattle.std.specs.List.{AllByRecursion, find}
use Rattle.std.specs.Option.{option_map, option_map_or}
use Rattle.std.proofs.lemmas.Bool.Decides.{Decides-eqb, nat_tests}
use Rattle.cell_core.specs.declared.operator.Instr.{Instr}
use Rattle.cell_core.specs.declared.operator.Value.TheVariants.{Bat}
use Rattle.cell_core.specs.Pairs.{Pairs}
use Rattle.mal_meaning.specs.declared.plan.Plan.{Plan}
use Rattle.lineage_key.specs.declared.key.Key.{Key}
use Rattle.lineage_key.specs.Parents.{parents_of}
use Rattle.lineage_key.specs.Same.{same_key_decides}
use Rattle.evict_admit.specs.Runs.{Run}
use Rattle.pool_policy.specs.declared.entry.Who.{Who}
use Rattle.pool_policy.specs.declared.entry.PoolEntry.{PoolEntry}
use Rattle.pool_policy.specs.declared.options.Admitted.{Admitted}
use Rattle.pool_policy.specs.declared.options.Admitted.TheVariants.{NoCredit, Stale}
use Rattle.pool_policy.specs.Pool.{PoolState, has_credits}
use Rattle.pool_policy.specs.Keyed.{entry_of_key, has_key, is_missing, is_pooled, shape_in}
use Rattle.pool_policy.specs.Admits.{Offer, number_from, with_shape, shape_number, credit_of, evictions_for, by_room, by_credit, by_parents, missing_parent, is_other_version, by_key, admit_of}
use Rattle.pool_policy.specs.Keeps.{Face, faces, Rises, value_in}
use Rattle.pool_policy.specs.Worths.{worth, faces_from}
use Rattle.pool_policy.proofs.AdmitGiven.{IsMore, IsStep, admit_step}
use Rattle.pool_policy.proofs.Ends.{all_from, found_in}
use Rattle.pool_policy.proofs.Faces.{ids_below, value_append, value_filter, value_found}
use Rattle.pool_policy.proofs.Lists.{all_at}
use Rattle.pool_policy.proofs.NewEntry.{pooled_value}
use Rattle.pool_policy.proofs.VersionLaws.{is_present}
use Rattle.run_log.specs.Fold.{LogState, key_offer, key_value}
use Rattle.query_keys.specs.Keys.{instr_key}
use Rattle.query_keys.specs.Laws.{IsMarkedAt, GivenAreWorth, id_given, value_there}
use Rattle.query_keys.proofs.OfferLemmas.{value_of_key}
use Rattle.query_keys.proofs.ServeLemmas.{entry_serves, entry_worth}

-- ## Which ids are given

-- the offer is taken: its version is present, its parents are pooled, and it gets the next id
record IsTaken (offer : Offer) (pool : PoolState) (answer : Admitted × PoolState) : Type 0 where
  version : is_other_version offer.key offer.present ≡ false
  parents : missing_parent offer pool ≡ None
  id : id_given answer.0 ≡ pool.next
  next : answer.1.next ≡ pool.next + 1

abbrev Took : Offer → PoolState → Admitted × PoolState → Type 0
Took offer pool answer = 0 < id_given answer.0 → (id_given answer.0 ≡ pool.next) × (answer.1.next ≡ pool.next + 1)

nothing : 0 < 0 → ⊥
nothing low = omega (arith, low)

room_took : (who : Who) (now : ℕ) (offer : Offer) (shape : ℕ) (pool : PoolState) (run : Run) → Took offer pool (by_room who now offer shape pool run)
room_took who now offer shape pool (gone, true) some = (refl, refl)
room_took who now offer shape pool (gone, false) some = absurd (nothing some)

credit_took : (who : Who) (now : ℕ) (offer : Offer) (pool : PoolState) → Took offer pool (by_credit who now offer pool)
credit_took who now offer pool = elim (has_credits pool.options && credit_of (shape_number offer pool) pool.credit == 0) as (λ b. Took offer pool (if b then (let r : Admitted × PoolState = (NoCredit (shape_number offer pool), pool) in r) else by_room who now offer (shape_number offer pool) pool (evictions_for now offer pool))) [
  | true ↦ λ some. absurd (nothing some)
  | false ↦ room_took who now offer (shape_number offer pool) pool (evictions_for now offer pool)
]

shape_next : (offer : Offer) (pool : PoolState) → (with_shape offer pool).next ≡ pool.next
shape_next offer pool = elim (has_credits pool.options) as (λ b. (cond b (option_map_or (λ n. pool) (number_from 1 (shape_in pool.entries offer.key) pool.shapes) (record pool { shapes = pool.shapes ++ shape_in pool.entries offer.key ∷ []; credit = pool.credit ++ pool.options.credits ∷ [] })) pool).next ≡ pool.next) [
  | true ↦ elim (number_from 1 (shape_in pool.entries offer.key) pool.shapes) as (λ o. (option_map_or (λ n. pool) o (record pool { shapes = pool.shapes ++ shape_in pool.entries offer.key ∷ []; credit = pool.credit ++ pool.options.credits ∷ [] })).next ≡ pool.next) [ Some n ↦ refl | None ↦ refl ]
  | false ↦ refl
]

parents_took : (who : Who) (now : ℕ) (offer : Offer) (pool : PoolState) → is_other_version offer.key offer.present ≡ false → (missing : Option ℕ) → missing_parent offer pool ≡ missing
    → 0 < id_given (by_parents who now offer pool missing).0 → IsTaken offer pool (by_parents who now offer pool missing)
parents_took who now offer pool fits (Some id) e some = absurd (nothing some)
parents_took who now offer pool fits None e some =
    let both = credit_took who now offer (with_shape offer pool) some in
    let same = shape_next offer pool in
    record { version = fits; parents = e; id = both.0 ∙ same; next = both.1 ∙ ap (λ n. n + 1) same }

key_took : (who : Who) (now : ℕ) (offer : Offer) (pool : PoolState) → 0 < id_given (by_key who now offer pool None).0 → IsTaken offer pool (by_key who now offer pool None)
key_took who now offer pool = elim (is_other_version offer.key offer.present) as (λ b. is_other_version offer.key offer.present ≡ b → let r : Admitted × PoolState = if b then (let r : Admitted × PoolState = (Stale offer.present, pool) in r) else by_parents who now offer pool (missing_parent offer pool) in 0 < id_given r.0 → IsTaken offer pool r) [
  | true ↦ λ _ some. absurd (nothing some)
  | false ↦ λ fits some. parents_took who now offer pool fits (missing_parent offer pool) refl some
] refl

-- ## What the new id is worth

abbrev is_new : ℕ → Face → Bool
is_new next f = not (nat_lt f.id next)

other_id : (next n : ℕ) → n < next → (n == next) ≡ false
other_id next n low = grind (arith, nat_tests, low)

new_id : (next n : ℕ) → n ≡ next → not (nat_lt n next) ≡ true
new_id next n e = ap not (below n next (omega (arith, e)))
  where
    below : (m n : ℕ) → n ≤ m → nat_lt m n ≡ false
    below m n e = grind (arith, nat_tests, e)

-- after entries with lower ids
past : (next : ℕ) (fs gs : List Face) → AllByRecursion (λ (f : Face). f.id < next) fs → value_in (fs ++ gs) next ≡ value_in gs next
past next [] gs low = refl
past next (f ∷ fs) gs low = ap (λ b. option_map (λ (f : Face). f.value) (cond b (Some f) (find (λ (f : Face). f.id == next) (fs ++ gs)))) (other_id next f.id low.0) ∙ past next fs gs low.1

lower : (next : ℕ) (fs : List Face) → Rises 1 next fs → AllByRecursion (λ (f : Face). f.id < next) fs
lower next fs up = all_from (λ (f : Face). f.id < next) fs (λ f i. (all_at (λ (g : Face). (1 ≤ g.id) × (g.id < next)) fs f (ids_below 1 next fs up) i).1)

last_value : (next : ℕ) (f : Face) → f.id ≡ next → value_in (f ∷ []) next ≡ Some f.value
last_value next f e = ap (λ b. option_map (λ (f : Face). f.value) (cond b (Some f) None)) ((Decides-eqb f.id next).1 e)

new_worth : (offer : Offer) (given : List Face) (old new : PoolState) → Rises 1 old.next given → Rises 1 old.next (faces old.entries) → (more : IsMore offer old new) → worth (given ++ faces_from old.next new) old.next ≡ Some offer.value
new_worth offer given old new before pooled more =
    let next = old.next in
    past next given (faces_from next new) (lower next given before)
    ∙ value_filter (is_new next) (faces new.entries) next (λ f e. new_id next f.id e)
    ∙ ap (λ fs. value_in fs next) more.more
    ∙ past next more.left (more.one ∷ []) (all_from (λ (f : Face). f.id < next) more.left (λ f i. all_at (λ (g : Face). g.id < next) (faces old.entries) f (lower next (faces old.entries) pooled) (more.inside f i)))
    ∙ last_value next more.one more.id ∙ ap Some more.value

-- ## What was offered

module _ (seen s : LogState) (plan : Plan) (ids : List ℕ) (instr : Instr) (pairs : Pairs) (who : Who) (m : IsMarkedAt seen s plan ids instr) (there : value_there seen plan ids ≡ Some (Some (Bat pairs))) where
  abbrev key : Key
  key = instr_key instr seen.versions ids

  abbrev offer : Offer
  offer = key_offer key s

  abbrev at : PoolState
  at = record s.pool { moment = s.at + 1 }

  -- an entry that has the key
  entry_given : (e : PoolEntry) → entry_of_key key s.pool.entries ≡ Some e → (more : List Face) → worth (s.given ++ more) e.id ≡ Some pairs
  entry_given e is more =
      let here = found_in (has_key key) s.pool.entries e is in
      let same : e.key ≡ key = (same_key_decides e.key key).0 here.1 in
      let known = entry_worth seen s plan ids instr m e (here.0, same) in
      let value : Some (Some (Bat e.value)) ≡ Some (Some (Bat pairs)) = sym (entry_serves seen s plan ids instr m e (here.0, same)) ∙ there in
      let is_value : e.value ≡ pairs = cc in
      value_append s.given more e.id (subst (λ o. IsSome o) (sym known) refl) ∙ known ∙ ap Some is_value

  -- pooled parents have ids
  none_missing : (parents : List ℕ) → find (is_missing s.pool.entries) parents ≡ None → AllByRecursion (λ id. 0 < id) parents
  none_missing [] e = tt
  none_missing (id ∷ parents) e = go (is_pooled s.pool.entries id) refl e (none_missing parents)
    where
      above : is_pooled s.pool.entries id ≡ true → 0 < id
      above pooled =
          let found = value_found (faces s.pool.entries) id (pooled_value s.pool.entries id pooled) in
          let both = all_at (λ (g : Face). (1 ≤ g.id) × (g.id < s.pool.next)) (faces s.pool.entries) found.0 (ids_below 1 s.pool.next (faces s.pool.entries) m.sound.pool.rising) found.1 in
          omega (arith, both.0, found.2)

      go : (b : Bool) → is_pooled s.pool.entries id ≡ b → cond (not b) (Some id) (find (is_missing s.pool.entries) parents) ≡ None
          → (find (is_missing s.pool.entries) parents ≡ None → AllByRecursion (λ id. 0 < id) parents) → AllByRecursion (λ id. 0 < id) (id ∷ parents)
      go true is f rest = (above is, rest f)
      go false is f rest = cc

  taken_given : (answer : Admitted × PoolState) → answer ≡ admit_of who (s.at + 1) offer s.pool → IsTaken offer at answer → worth (s.given ++ faces_from s.pool.next answer.1) (id_given answer.0) ≡ Some pairs
  taken_given answer is taken =
      let value : key_value key s ≡ pairs = value_of_key seen s plan ids instr pairs m there (λ bind. is_present offer taken.version bind) (λ plain. none_missing (parents_of key) taken.parents) in
      elim (subst (λ (a : Admitted × PoolState). IsStep offer s.pool a.1) (sym is) (admit_step who (s.at + 1) offer s.pool)) [
        | inl same ↦ absurd (let old = same.next in let new = taken.next in omega (arith, old, new))
        | inr more ↦ ap (worth (s.given ++ faces_from s.pool.next answer.1)) taken.id ∙ new_worth offer s.given s.pool answer.1 m.sound.given.rising m.sound.pool.rising more ∙ ap Some value
      ]

  given_worth : (found : Option PoolEntry) → entry_of_key key s.pool.entries ≡ found → let answer = by_key who (s.at + 1) offer at found in
      0 < id_given answer.0 → answer ≡ admit_of who (s.at + 1) offer s.pool → worth (s.given ++ faces_from s.pool.next answer.1) (id_given answer.0) ≡ Some pairs
  given_worth (Some e) is some same = entry_given e is (faces_from s.pool.next (by_key who (s.at + 1) offer at (Some e)).1)
  given_worth None is some same = taken_given (by_key who (s.at + 1) offer at None) same (key_took who (s.at + 1) offer at some)

pub given_are_worth_all : GivenAreWorth
given_are_worth_all seen s plan ids instr pairs who m there some = given_worth seen s plan ids instr pairs who m there (entry_of_key (instr_key instr seen.versions ids) s.pool.entries) refl some refl
