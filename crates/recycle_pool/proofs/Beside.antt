-- Parents beside the entries.
use Rattle.std.proofs.Common.{◌≡◌, ℕ, ◌++◌, List, [], ◌∷◌, true, false, not, cond, refl, ap, sym, ◌∙◌, length, map}
use Rattle.std.specs.Prelude.{filter}
use Rattle.std.proofs.lemmas.List.{length-map, map-append}
use Rattle.lineage_key.specs.Parents.{two_parents}
use Rattle.pool_index.specs.declared.parents.Kin.{Kin}
use Rattle.pool_index.specs.Beside.{ParentsView}
use Rattle.pool_index.specs.Under.{is_in}
use Rattle.evict_admit.specs.Runs.{is_one_of}
use Rattle.pool_policy.specs.declared.entry.PoolEntry.{PoolEntry}
use Rattle.pool_policy.specs.Admits.{left_without}
use Rattle.pool_policy.specs.Keeps.{Face, faces}
use Rattle.recycle_pool.specs.Indexed.{AreBeside, kin_of}
use Rattle.recycle_pool.proofs.Findings.{one_of_is}

abbrev kin_in : Face → Kin
kin_in f = record { id = f.id; parents = two_parents f.key }

kin_by_faces : (es : List PoolEntry) → map kin_of es ≡ map kin_in (faces es)
kin_by_faces [] = refl
kin_by_faces (e ∷ es) = ap (λ ks. kin_of e ∷ ks) (kin_by_faces es)

-- changes that leave the faces
pub beside_faces : (parents : ParentsView) (es new : List PoolEntry) → faces new ≡ faces es → AreBeside parents es → AreBeside parents new
beside_faces parents es new same is = is ∙ kin_by_faces es ∙ ap (map kin_in) (sym same) ∙ sym (kin_by_faces new)

kin_left : (gone : List ℕ) (es : List PoolEntry) → filter (λ (k : Kin). not (is_in gone k.id)) (map kin_of es) ≡ map kin_of (left_without gone es)
kin_left gone [] = refl
kin_left gone (e ∷ es) =
    ap (λ b. cond (not b) (kin_of e ∷ filter (λ (k : Kin). not (is_in gone k.id)) (map kin_of es)) (filter (λ (k : Kin). not (is_in gone k.id)) (map kin_of es))) (one_of_is gone e.id)
    ∙ elim (is_one_of gone e.id) as (λ b. cond (not b) (kin_of e ∷ filter (λ (k : Kin). not (is_in gone k.id)) (map kin_of es)) (filter (λ (k : Kin). not (is_in gone k.id)) (map kin_of es)) ≡ map kin_of (cond (not b) (e ∷ left_without gone es) (left_without gone es))) [
      | true ↦ kin_left gone es
      | false ↦ ap (λ ks. kin_of e ∷ ks) (kin_left gone es)
    ]

-- entries that leave
pub beside_left : (old new : ParentsView) (gone : List ℕ) (es : List PoolEntry) → new.kin ≡ filter (λ (k : Kin). not (is_in gone k.id)) old.kin → AreBeside old es → AreBeside new (left_without gone es)
beside_left old new gone es kept is = kept ∙ ap (filter (λ (k : Kin). not (is_in gone k.id))) is ∙ kin_left gone es

-- one entry more
pub beside_more : (old new : ParentsView) (es all : List PoolEntry) (entry : PoolEntry) → AreBeside old es → new.kin ≡ old.kin ++ kin_of entry ∷ [] → all ≡ es ++ entry ∷ [] → AreBeside new all
beside_more old new es all entry is more all_is = more ∙ ap (λ ks. ks ++ kin_of entry ∷ []) is ∙ sym (map-append kin_of es (entry ∷ [])) ∙ ap (map kin_of) (sym all_is)

-- as many as entries
pub as_many : (parents : ParentsView) (es : List PoolEntry) → AreBeside parents es → length parents.kin ≡ length es
as_many parents es is = ap (λ ks. length ks) is ∙ length-map es kin_of
