-- What is kept of the faces of entries: by changes that leave the faces, by leaving, and by a new entry.
use Rattle.std.proofs.Common.{◌≡◌, ℕ, ◌+◌, ◌≤◌, ◌<◌, List, [], ◌∷◌, ◌++◌, Bool, true, false, cond, Some, inl, inr, refl, ap, sym, ◌∙◌, subst, arith, map}
use Rattle.std.specs.Prelude.{if◌then◌else◌, filter, ◌==◌, IsSome, unwrap_or}
use Rattle.std.specs.List.{AllByRecursion, find, filter_map}
use Rattle.std.specs.Option.{option_map}
use Rattle.std.proofs.lemmas.Bool.Decides.{Decides-eqb}
use Rattle.cell_core.specs.declared.operator.Value.TheVariants.{Bat, One}
use Rattle.cell_core.specs.Operators.{operate}
use Rattle.lineage_key.specs.declared.key.KeyArg.{KeyArg}
use Rattle.lineage_key.specs.declared.key.KeyArg.TheVariants.{Const, Id}
use Rattle.lineage_key.specs.Same.{same_key}
use Rattle.subsume.proofs.Members.{in_map, In}
use Rattle.pool_policy.specs.declared.entry.PoolEntry.{PoolEntry}
use Rattle.lineage_key.specs.Parents.{id_in, parents_of}
use Rattle.pool_policy.specs.Pool.{PoolState}
use Rattle.pool_policy.specs.Keyed.{entry_of_id}
use Rattle.pool_policy.specs.Keeps.{IsPoolWithin, Face, face_of, faces, Rises, HaveOwnKeys, value_in, arg_value, IsParentIn, IsRooted}
use Rattle.pool_policy.proofs.Lists.{all_at, all_filter, all_on, all_snoc}

-- ## Changes that leave the faces

pub map_faces : (change : PoolEntry → PoolEntry) → ((e : PoolEntry) → face_of (change e) ≡ face_of e) → (entries : List PoolEntry) → faces (map change entries) ≡ faces entries
map_faces change same [] = refl
map_faces change same (e ∷ es) = ap (λ f. f ∷ faces (map change es)) (same e) ∙ ap (λ fs. face_of e ∷ fs) (map_faces change same es)

-- ## Ids

pub rises_lower : (low from next : ℕ) (fs : List Face) → low ≤ from → Rises from next fs → Rises low next fs
rises_lower low from next [] le h = omega arith
rises_lower low from next (f ∷ fs) le h = (omega (arith, h.0), h.1)

pub rises_filter : (p : Face → Bool) (from next : ℕ) (fs : List Face) → Rises from next fs → Rises from next (filter p fs)
rises_filter p from next [] h = h
rises_filter p from next (f ∷ fs) h = elim (p f) as (λ b. Rises from next (cond b (f ∷ filter p fs) (filter p fs))) [
  | true ↦ (h.0, rises_filter p (f.id + 1) next fs h.1)
  | false ↦ rises_lower from (f.id + 1) next (filter p fs) (omega (arith, h.0)) (rises_filter p (f.id + 1) next fs h.1)
]

pub rises_snoc : (from next : ℕ) (fs : List Face) (f : Face) → f.id ≡ next → Rises from next fs → Rises from (next + 1) (fs ++ f ∷ [])
rises_snoc from next [] f e h = (omega (arith, h, e), omega (arith, e))
rises_snoc from next (g ∷ fs) f e h = (h.0, rises_snoc (g.id + 1) next fs f e h.1)

pub ids_below : (from next : ℕ) (fs : List Face) → Rises from next fs → AllByRecursion (λ (f : Face). (from ≤ f.id) × (f.id < next)) fs
ids_below from next [] h = tt
ids_below from next (f ∷ fs) h =
    let rest = ids_below (f.id + 1) next fs h.1 in
    ((h.0, bound fs h.1), all_on (λ (g : Face). (f.id + 1 ≤ g.id) × (g.id < next)) (λ (g : Face). (from ≤ g.id) × (g.id < next)) fs (λ g _ k. (omega (arith, k.0, h.0), k.1)) rest)
  where
    bound_from : (from : ℕ) (gs : List Face) → Rises from next gs → from ≤ next
    bound_from from [] k = k
    bound_from from (g ∷ gs) k = let more = bound_from (g.id + 1) gs k.1 in omega (arith, more, k.0)

    bound : (gs : List Face) → Rises (f.id + 1) next gs → f.id < next
    bound gs k = let more = bound_from (f.id + 1) gs k in omega (arith, more)

-- ## Keys

pub keys_filter : (p : Face → Bool) (fs : List Face) → HaveOwnKeys fs → HaveOwnKeys (filter p fs)
keys_filter p [] h = tt
keys_filter p (f ∷ fs) h = elim (p f) as (λ b. HaveOwnKeys (cond b (f ∷ filter p fs) (filter p fs))) [
  | true ↦ (all_filter (λ (g : Face). same_key f.key g.key ≡ false) p fs h.0, keys_filter p fs h.1)
  | false ↦ keys_filter p fs h.1
]

pub keys_snoc : (fs : List Face) (f : Face) → AllByRecursion (λ (g : Face). same_key g.key f.key ≡ false) fs → HaveOwnKeys fs → HaveOwnKeys (fs ++ f ∷ [])
keys_snoc [] f new h = (tt, tt)
keys_snoc (g ∷ gs) f new h = (all_snoc (λ (k : Face). same_key g.key k.key ≡ false) gs f h.0 new.0, keys_snoc gs f new.1 h.1)

-- ## Values by ids

pub value_filter : (p : Face → Bool) (fs : List Face) (id : ℕ) → ((f : Face) → f.id ≡ id → p f ≡ true) → value_in (filter p fs) id ≡ value_in fs id
value_filter p [] id h = refl
value_filter p (f ∷ fs) id h = elim (f.id == id) as (λ b. (f.id == id) ≡ b → value_in (cond (p f) (f ∷ filter p fs) (filter p fs)) id ≡ option_map (λ (f : Face). f.value) (cond b (Some f) (find (λ (f : Face). f.id == id) fs))) [
  | true ↦ λ e. ap (λ b. value_in (cond b (f ∷ filter p fs) (filter p fs)) id) (h f ((Decides-eqb f.id id).0 e)) ∙ ap (λ b. option_map (λ (f : Face). f.value) (cond b (Some f) (find (λ (f : Face). f.id == id) (filter p fs)))) e
  | false ↦ λ e. elim (p f) as (λ b. value_in (cond b (f ∷ filter p fs) (filter p fs)) id ≡ value_in fs id) [
    | true ↦ ap (λ b. option_map (λ (f : Face). f.value) (cond b (Some f) (find (λ (f : Face). f.id == id) (filter p fs)))) e ∙ value_filter p fs id h
    | false ↦ value_filter p fs id h
  ]
] refl

pub value_snoc : (fs : List Face) (g : Face) (id : ℕ) → IsSome (value_in fs id) → value_in (fs ++ g ∷ []) id ≡ value_in fs id
value_snoc [] g id h = cc
value_snoc (f ∷ fs) g id h = elim (f.id == id) as (λ b. IsSome (option_map (λ (f : Face). f.value) (cond b (Some f) (find (λ (f : Face). f.id == id) fs))) → option_map (λ (f : Face). f.value) (cond b (Some f) (find (λ (f : Face). f.id == id) (fs ++ g ∷ []))) ≡ option_map (λ (f : Face). f.value) (cond b (Some f) (find (λ (f : Face). f.id == id) fs))) [
  | true ↦ λ _. refl
  | false ↦ λ k. value_snoc fs g id k
] h

-- ## Entries whose parents stay

pub args_on : (fs gs : List Face) (args : List KeyArg) → ((id : ℕ) → In id (filter_map id_in args) → value_in gs id ≡ value_in fs id) → map (arg_value gs) args ≡ map (arg_value fs) args
args_on fs gs [] h = refl
args_on fs gs (Const c ∷ args) h = ap (λ vs. One c ∷ vs) (args_on fs gs args h)
args_on fs gs (Id n ∷ args) h =
    ap (λ o. Bat (unwrap_or o []) ∷ map (arg_value gs) args) (h n (inl refl)) ∙ ap (λ vs. Bat (unwrap_or (value_in fs n) []) ∷ vs) (args_on fs gs args (λ id i. h id (inr i)))

pub rooted_on : (fs gs : List Face) (f : Face) → ((id : ℕ) → In id (parents_of f.key) → value_in gs id ≡ value_in fs id) → IsRooted fs f → IsRooted gs f
rooted_on fs gs f same known = record {
  few = known.few;
  sole = known.sole;
  parents = all_on (IsParentIn fs f.id) (IsParentIn gs f.id) (parents_of f.key) (λ id i k. (k.0, k.1, subst (λ o. IsSome o) (sym (same id i)) k.2)) known.parents;
  computed = λ plain. ap (operate f.key.op) (args_on fs gs f.key.args same) ∙ known.computed plain;
  told = known.told;
}

-- ## Two lists of entries, one after the other

pub faces_append : (xs ys : List PoolEntry) → faces (xs ++ ys) ≡ faces xs ++ faces ys
faces_append [] ys = refl
faces_append (x ∷ xs) ys = ap (λ fs. face_of x ∷ fs) (faces_append xs ys)

pub value_append : (fs gs : List Face) (id : ℕ) → IsSome (value_in fs id) → value_in (fs ++ gs) id ≡ value_in fs id
value_append [] gs id h = cc
value_append (f ∷ fs) gs id h = elim (f.id == id) as (λ b. IsSome (option_map (λ (f : Face). f.value) (cond b (Some f) (find (λ (f : Face). f.id == id) fs))) → option_map (λ (f : Face). f.value) (cond b (Some f) (find (λ (f : Face). f.id == id) (fs ++ gs))) ≡ option_map (λ (f : Face). f.value) (cond b (Some f) (find (λ (f : Face). f.id == id) fs))) [
  | true ↦ λ _. refl
  | false ↦ λ k. value_append fs gs id k
] h

-- ## Entries and their faces

-- the one with an id, where ids rise
pub value_of_in : (from next : ℕ) (fs : List Face) (f : Face) → Rises from next fs → In f fs → value_in fs f.id ≡ Some f.value
value_of_in from next [] f up i = absurd i
value_of_in from next (g ∷ gs) f up (inl is) =
    let here : (g.id == f.id) ≡ true = (Decides-eqb g.id f.id).1 (ap (λ (x : Face). x.id) (sym is)) in
    ap (λ b. option_map (λ (x : Face). x.value) (cond b (Some g) (find (λ (x : Face). x.id == f.id) gs))) here ∙ ap (λ (x : Face). Some x.value) (sym is)
value_of_in from next (g ∷ gs) f up (inr i) =
    let range = all_at (λ (x : Face). (g.id + 1 ≤ x.id) × (x.id < next)) gs f (ids_below (g.id + 1) next gs up.1) i in
    let other : (g.id == f.id) ≡ false = elim (g.id == f.id) as (λ b. (g.id == f.id) ≡ b → b ≡ false) [ true ↦ λ e. absurd (let same = (Decides-eqb g.id f.id).0 e in omega (arith, same, range.0)) | false ↦ λ _. refl ] refl in
    ap (λ b. option_map (λ (x : Face). x.value) (cond b (Some g) (find (λ (x : Face). x.id == f.id) gs))) other ∙ value_of_in (g.id + 1) next gs f up.1 i

pub value_found : (fs : List Face) (id : ℕ) → IsSome (value_in fs id) → (f : Face) × In f fs × (f.id ≡ id) × (value_in fs id ≡ Some f.value)
value_found [] id h = cc
value_found (f ∷ fs) id h = elim (f.id == id) as (λ b. (f.id == id) ≡ b → IsSome (option_map (λ (f : Face). f.value) (cond b (Some f) (find (λ (f : Face). f.id == id) fs))) → (g : Face) × In g (f ∷ fs) × (g.id ≡ id) × (option_map (λ (f : Face). f.value) (cond b (Some f) (find (λ (f : Face). f.id == id) fs)) ≡ Some g.value)) [
  | true ↦ λ e _. (f, inl refl, (Decides-eqb f.id id).0 e, refl)
  | false ↦ λ _ k. let more = value_found fs id k in (more.0, inr more.1, more.2, more.3)
] refl h

-- a value is found by its entry
pub value_by_id : (es : List PoolEntry) (id : ℕ) → value_in (faces es) id ≡ option_map (λ (e : PoolEntry). e.value) (entry_of_id id es)
value_by_id [] id = refl
value_by_id (e ∷ es) id = elim (e.id == id) as (λ b. option_map (λ (f : Face). f.value) (if b then Some (face_of e) else find (λ (f : Face). f.id == id) (faces es)) ≡ option_map (λ (e : PoolEntry). e.value) (if b then Some e else entry_of_id id es)) [
  | true ↦ refl
  | false ↦ value_by_id es id
]

-- what is known of an entry's face
pub entry_rooted : (budget : ℕ) (pool : PoolState) → IsPoolWithin budget pool → (e : PoolEntry) → In e pool.entries → IsRooted (faces pool.entries) (face_of e)
entry_rooted budget pool known e i = all_at (IsRooted (faces pool.entries)) (faces pool.entries) (face_of e) known.rooted (in_map face_of pool.entries e i)
