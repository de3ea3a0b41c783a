-- Entries that are found by the prints of their keys.
use Rattle.std.proofs.Common.{◌≡◌, ℕ, List, [], ◌∷◌, ◌++◌, Bool, true, false, not, ◌&&◌, cond, Option, Some, None, refl, ap, sym, ◌∙◌, subst, is_some}
use Rattle.std.specs.Prelude.{◌==◌, filter, if◌then◌else◌}
use Rattle.std.specs.List.{AllByRecursion}
use Rattle.std.specs.Option.{option_map_or}
use Rattle.std.proofs.lemmas.Bool.Decides.{Decides-eqb}
use Rattle.lineage_key.specs.declared.key.Key.{Key}
use Rattle.lineage_key.specs.Same.{same_key, same_key_decides}
use Rattle.pool_index.specs.Named.{PrintsView, id_under}
use Rattle.pool_index.specs.Printed.{print_of}
use Rattle.pool_policy.specs.declared.entry.PoolEntry.{PoolEntry}
use Rattle.pool_policy.specs.Keyed.{entry_of_id, entry_of_key}
use Rattle.evict_admit.specs.Runs.{is_one_of}
use Rattle.pool_policy.specs.Admits.{left_without}
use Rattle.pool_policy.specs.Keeps.{Face, face_of, faces}
use Rattle.pool_policy.proofs.Faces.{faces_append}
use Rattle.pool_policy.proofs.Lists.{all_snoc}
use Rattle.recycle_pool.specs.declared.keys.Keys.{Keys}
use Rattle.recycle_pool.specs.Named.{IsNamed}

-- its id is under the print of its key
abbrev pub Stands : PrintsView → Face → Type 0
Stands prints f = id_under prints (print_of f.key) ≡ Some f.id

-- an entry with the key has the id that is under the key's print
pub under_print : (prints : PrintsView) (key : Key) (o : Option ℕ) (es : List PoolEntry) → o ≡ id_under prints (print_of key) → AllByRecursion (Stands prints) (faces es) → AllByRecursion (λ (e : PoolEntry). same_key e.key key ≡ true → Some e.id ≡ o) es
under_print prints key o [] is all = tt
under_print prints key o (e ∷ es) is all = (
  λ same. sym all.0 ∙ ap (λ k. id_under prints (print_of k)) ((same_key_decides e.key key).0 same) ∙ sym is,
  under_print prints key o es is all.1,
)

-- where none is there, no entry has the key
pub none_under : (key : Key) (es : List PoolEntry) → AllByRecursion (λ (e : PoolEntry). same_key e.key key ≡ true → Some e.id ≡ None) es → None ≡ entry_of_key key es
none_under key [] all = refl
none_under key (e ∷ es) all = elim (same_key e.key key) as (λ b. (b ≡ true → Some e.id ≡ None) → None ≡ cond b (Some e) (entry_of_key key es)) [
  | true ↦ λ h. absurd (some_none (h refl))
  | false ↦ λ _. none_under key es all.1
] all.0
  where
    some_none : {n : ℕ} → Some n ≡ None → ⊥
    some_none e = cc

-- where one does, the entry has its id
pub one_under : (key : Key) (id : ℕ) (es : List PoolEntry) → AllByRecursion (λ (e : PoolEntry). same_key e.key key ≡ true → Some e.id ≡ Some id) es → AllByRecursion (λ (e : PoolEntry). same_key e.key key ≡ true → e.id ≡ id) es
one_under key id [] all = tt
one_under key id (e ∷ es) all = (λ same. let is = all.0 same in cc, one_under key id es all.1)

module _ (id : ℕ) (key : Key) where
  abbrev Only : PoolEntry → Type 0
  Only e = same_key e.key key ≡ true → e.id ≡ id

  -- where none has that id, none has the key
  pub only_none : (es : List PoolEntry) → AllByRecursion Only es → None ≡ entry_of_id id es → None ≡ entry_of_key key es
  only_none [] all none = refl
  only_none (e ∷ es) all none = elim (e.id == id) as (λ b. (e.id == id) ≡ b → None ≡ cond b (Some e) (entry_of_id id es) → None ≡ entry_of_key key (e ∷ es)) [
    | true ↦ λ _ h. cc
    | false ↦ λ other h. elim (same_key e.key key) as (λ b. same_key e.key key ≡ b → None ≡ cond b (Some e) (entry_of_key key es)) [
      | true ↦ λ same. absurd (clash (sym ((Decides-eqb e.id id).1 (all.0 same)) ∙ other))
      | false ↦ λ _. only_none es all.1 h
    ] refl
  ] refl none
    where
      clash : true ≡ false → ⊥
      clash e = cc

  -- where the one with that id has the key, it is the one
  pub only_one : (es : List PoolEntry) (x : PoolEntry) → AllByRecursion Only es → Some x ≡ entry_of_id id es → same_key x.key key ≡ true → Some x ≡ entry_of_key key es
  only_one [] x all found has = cc
  only_one (e ∷ es) x all found has = elim (e.id == id) as (λ b. (e.id == id) ≡ b → Some x ≡ cond b (Some e) (entry_of_id id es) → Some x ≡ entry_of_key key (e ∷ es)) [
    | true ↦ λ _ h. let same : x ≡ e = cc in h ∙ sym (ap (λ b. cond b (Some e) (entry_of_key key es)) (subst (λ (y : PoolEntry). same_key y.key key ≡ true) same has))
    | false ↦ λ other h. elim (same_key e.key key) as (λ b. same_key e.key key ≡ b → Some x ≡ cond b (Some e) (entry_of_key key es)) [
      | true ↦ λ same. absurd (clash (sym ((Decides-eqb e.id id).1 (all.0 same)) ∙ other))
      | false ↦ λ _. only_one es x all.1 h has
    ] refl
  ] refl found
    where
      clash : true ≡ false → ⊥
      clash e = cc

-- sure still means sure before, and no clash
pub both_sure : (sure taken now : Bool) → now ≡ (sure && not taken) → now ≡ true → (sure ≡ true) × (taken ≡ false)
both_sure true true now is on = let wrong : false ≡ true = sym is ∙ on in cc
both_sure true false now is on = (refl, refl)
both_sure false taken now is on = let wrong : false ≡ true = sym is ∙ on in cc

-- ## What is kept

-- entries that leave, and changes that leave the faces
named_filter : (keys : Keys) (p : PoolEntry → Bool) (es : List PoolEntry) → IsNamed keys es → IsNamed keys (filter p es)
named_filter keys p es named sure = go es (named sure)
  where
    go : (xs : List PoolEntry) → AllByRecursion (Stands keys.prints) (faces xs) → AllByRecursion (Stands keys.prints) (faces (filter p xs))
    go [] all = tt
    go (x ∷ xs) all = elim (p x) as (λ b. AllByRecursion (Stands keys.prints) (faces (cond b (x ∷ filter p xs) (filter p xs)))) [ true ↦ (all.0, go xs all.1) | false ↦ go xs all.1 ]

pub named_left : (keys : Keys) (gone : List ℕ) (es left : List PoolEntry) → left ≡ left_without gone es → IsNamed keys es → IsNamed keys left
named_left keys gone es left is known = subst (IsNamed keys) (sym is) (named_filter keys (λ (e : PoolEntry). not (is_one_of gone e.id)) es known)

pub named_faces : (keys : Keys) (es new : List PoolEntry) → faces new ≡ faces es → IsNamed keys es → IsNamed keys new
named_faces keys es new same named sure = subst (AllByRecursion (Stands keys.prints)) (sym same) (named sure)

-- one entry more
module _ (old new : Keys) (es : List PoolEntry) (entry : PoolEntry)
    (names : (other : ℕ) → id_under new.prints other ≡ (if print_of entry.key == other then Some entry.id else id_under old.prints other)) where
  abbrev is_taken : Option ℕ → Bool
  is_taken o = option_map_or (λ id. is_some (entry_of_id id es)) o false

  pooled_here : (f : PoolEntry) (xs : List PoolEntry) → is_some (entry_of_id f.id (f ∷ xs)) ≡ true
  pooled_here f xs = ap (λ b. is_some (cond b (Some f) (entry_of_id f.id xs))) ((Decides-eqb f.id f.id).1 refl)

  pooled_behind : (id : ℕ) (f : PoolEntry) (xs : List PoolEntry) → is_some (entry_of_id id xs) ≡ true → is_some (entry_of_id id (f ∷ xs)) ≡ true
  pooled_behind id f xs h = elim (f.id == id) as (λ b. is_some (cond b (Some f) (entry_of_id id xs)) ≡ true) [ true ↦ refl | false ↦ h ]

  still : (xs : List PoolEntry) → AllByRecursion (λ (x : PoolEntry). is_some (entry_of_id x.id es) ≡ true) xs → AllByRecursion (Stands old.prints) (faces xs) → is_taken (id_under old.prints (print_of entry.key)) ≡ false → AllByRecursion (Stands new.prints) (faces xs)
  still [] pooled all free = tt
  still (x ∷ xs) pooled all free = (
    elim (print_of entry.key == print_of x.key) as (λ b. (print_of entry.key == print_of x.key) ≡ b → id_under new.prints (print_of x.key) ≡ Some x.id) [
      | true ↦ λ e. absurd (clash (sym pooled.0 ∙ sym (ap is_taken (ap (id_under old.prints) ((Decides-eqb (print_of entry.key) (print_of x.key)).0 e) ∙ all.0)) ∙ free))
      | false ↦ λ e. names (print_of x.key) ∙ ap (λ b. if b then Some entry.id else id_under old.prints (print_of x.key)) e ∙ all.0
    ] refl,
    still xs pooled.1 all.1 free,
  )
    where
      clash : true ≡ false → ⊥
      clash e = cc

  all_pooled : (xs : List PoolEntry) → ((id : ℕ) → is_some (entry_of_id id xs) ≡ true → is_some (entry_of_id id es) ≡ true) → AllByRecursion (λ (x : PoolEntry). is_some (entry_of_id x.id es) ≡ true) xs
  all_pooled [] h = tt
  all_pooled (x ∷ xs) h = (h x.id (pooled_here x xs), all_pooled xs (λ id i. h id (pooled_behind id x xs i)))

  pub named_more : (new.is_sure ≡ true → (old.is_sure ≡ true) × (is_taken (id_under old.prints (print_of entry.key)) ≡ false)) → IsNamed old es → IsNamed new (es ++ entry ∷ [])
  named_more sure named is =
      let both = sure is in
      let last : Stands new.prints (face_of entry) = names (print_of entry.key) ∙ ap (λ b. if b then Some entry.id else id_under old.prints (print_of entry.key)) ((Decides-eqb (print_of entry.key) (print_of entry.key)).1 refl) in
      subst (AllByRecursion (Stands new.prints)) (sym (faces_append es (entry ∷ [])))
      (all_snoc (Stands new.prints) (faces es) (face_of entry) (still es (all_pooled es (λ id h. h)) (named both.0) both.1) last)
