-- Entries by their first parents.
use Rattle.std.proofs.Common.{◌≡◌, ℕ, suc, ◌≤◌, List, [], ◌∷◌, Bool, true, false, not, ◌&&◌, cond, Some, None, refl, ap, sym, ◌∙◌, subst, arith, length, map}
use Rattle.std.specs.Prelude.{◌==◌, filter, if◌then◌else◌}
use Rattle.std.specs.List.{AllByRecursion, cons_option}
use Rattle.std.specs.Option.{option_and_then}
use Rattle.std.proofs.lemmas.Bool.Decides.{Decides-eqb}
use Rattle.std.proofs.lemmas.List.{length-map}
use Rattle.std.proofs.lemmas.List.Elements.{recursion_from_All}
use Rattle.std.proofs.lemmas.Option.{slice_get-get_or}
use Rattle.pool_index.specs.Under.{ChildrenView, is_in, under}
use Rattle.pool_index.proofs.Splits.{filter_twice}
use Rattle.evict_admit.specs.Runs.{is_one_of}
use Rattle.pool_policy.specs.declared.entry.PoolEntry.{PoolEntry}
use Rattle.pool_policy.specs.Admits.{left_without}
use Rattle.pool_policy.specs.Keyed.{entry_of_id, first_parent}
use Rattle.pool_policy.specs.Keeps.{Face, Rises, faces}
use Rattle.pool_policy.specs.Looks.{selections_from}
use Rattle.pool_entries.proofs.Ids.{found_there}
use Rattle.recycle_pool.specs.Indexed.{IsIndexed, own_selection, pair_of, selections_at}
use Rattle.recycle_pool.proofs.Findings.{one_of_is}

-- ## Upkeep

pairs_of_faces : (es : List PoolEntry) → map pair_of es ≡ map (λ (f : Face). (first_parent f.key, f.id)) (faces es)
pairs_of_faces [] = refl
pairs_of_faces (e ∷ es) = ap (λ ps. pair_of e ∷ ps) (pairs_of_faces es)

-- changes that leave the faces
pub indexed_faces : (children : ChildrenView) (es new : List PoolEntry) → faces new ≡ faces es → IsIndexed children es → IsIndexed children new
indexed_faces children es new same is parent =
    is parent ∙ ap (under parent) (pairs_of_faces es ∙ ap (map (λ (f : Face). (first_parent f.key, f.id))) (sym same) ∙ sym (pairs_of_faces new))

both : (a b : Bool) → (a && b) ≡ (b && a)
both true true = refl
both true false = refl
both false true = refl
both false false = refl

-- two tests, one after the other
exchanged : {X : Type 0} (p q : X → Bool) (xs : List X) → filter p (filter q xs) ≡ filter q (filter p xs)
exchanged p q xs = filter_twice p q xs ∙ (λ i. filter (λ x. both (q x) (p x) i) xs) ∙ sym (filter_twice q p xs)

pairs_left : (gone : List ℕ) (es : List PoolEntry) → filter (λ (p : ℕ × ℕ). not (is_in gone p.1)) (map pair_of es) ≡ map pair_of (left_without gone es)
pairs_left gone [] = refl
pairs_left gone (e ∷ es) =
    ap (λ b. cond (not b) (pair_of e ∷ filter (λ (p : ℕ × ℕ). not (is_in gone p.1)) (map pair_of es)) (filter (λ (p : ℕ × ℕ). not (is_in gone p.1)) (map pair_of es))) (one_of_is gone e.id)
    ∙ elim (is_one_of gone e.id) as (λ b. cond (not b) (pair_of e ∷ filter (λ (p : ℕ × ℕ). not (is_in gone p.1)) (map pair_of es)) (filter (λ (p : ℕ × ℕ). not (is_in gone p.1)) (map pair_of es)) ≡ map pair_of (cond (not b) (e ∷ left_without gone es) (left_without gone es))) [
      | true ↦ pairs_left gone es
      | false ↦ ap (λ ps. pair_of e ∷ ps) (pairs_left gone es)
    ]

-- entries that leave
pub indexed_left : (old new : ChildrenView) (gone : List ℕ) (es : List PoolEntry) → new.pairs ≡ filter (λ (p : ℕ × ℕ). not (is_in gone p.1)) old.pairs → IsIndexed old es → IsIndexed new (left_without gone es)
indexed_left old new gone es kept is parent =
    ap (under parent) kept
    ∙ exchanged (λ (p : ℕ × ℕ). p.0 == parent) (λ (p : ℕ × ℕ). not (is_in gone p.1)) old.pairs
    ∙ ap (filter (λ (p : ℕ × ℕ). not (is_in gone p.1))) (is parent)
    ∙ exchanged (λ (p : ℕ × ℕ). not (is_in gone p.1)) (λ (p : ℕ × ℕ). p.0 == parent) (map pair_of es)
    ∙ ap (under parent) (pairs_left gone es)

-- ## Their number

-- without the first pair of a parent
abbrev without : ℕ → List (ℕ × ℕ) → List (ℕ × ℕ)
without parent [] = []
without parent (y ∷ ys) = if y.0 == parent then ys else y ∷ without parent ys

one_less : (parent : ℕ) (ys : List (ℕ × ℕ)) (x : ℕ × ℕ) (rest : List (ℕ × ℕ)) → under parent ys ≡ x ∷ rest → (length ys ≡ suc (length (without parent ys))) × (under parent (without parent ys) ≡ rest)
one_less parent [] x rest is = cc
one_less parent (y ∷ ys) x rest is = elim (y.0 == parent) as (λ b. (y.0 == parent) ≡ b → cond b (y ∷ under parent ys) (under parent ys) ≡ x ∷ rest
    → (suc (length ys) ≡ suc (length (if b then ys else y ∷ without parent ys))) × (under parent (if b then ys else y ∷ without parent ys) ≡ rest)) [
      | true ↦ λ _ h. (refl, cc)
      | false ↦ λ e h. let more = one_less parent ys x rest h in
          (ap suc more.0, ap (λ b. cond b (y ∷ under parent (without parent ys)) (under parent (without parent ys))) e ∙ more.1)
    ] refl is

others_stay : (parent other : ℕ) (ys : List (ℕ × ℕ)) → (parent == other) ≡ false → under other (without parent ys) ≡ under other ys
others_stay parent other [] apart = refl
others_stay parent other (y ∷ ys) apart = elim (y.0 == parent) as (λ b. (y.0 == parent) ≡ b → under other (if b then ys else y ∷ without parent ys) ≡ under other (y ∷ ys)) [
  | true ↦ λ e. sym (ap (λ c. cond c (y ∷ under other ys) (under other ys)) (ap (λ n. n == other) ((Decides-eqb y.0 parent).0 e) ∙ apart))
  | false ↦ λ _. ap (λ ps. cond (y.0 == other) (y ∷ ps) ps) (others_stay parent other ys apart)
] refl

-- where the pairs of each parent are the same, there are as many
no_more : (xs ys : List (ℕ × ℕ)) → ((parent : ℕ) → under parent xs ≡ under parent ys) → length xs ≤ length ys
no_more [] ys same = omega arith
no_more (x ∷ xs) ys same =
    let here = one_less x.0 ys x (under x.0 xs) (sym (same x.0) ∙ ap (λ b. cond b (x ∷ under x.0 xs) (under x.0 xs)) ((Decides-eqb x.0 x.0).1 refl)) in
    let more = no_more xs (without x.0 ys) (λ parent. elim (x.0 == parent) as (λ b. (x.0 == parent) ≡ b → under parent xs ≡ under parent (without x.0 ys)) [
      | true ↦ λ e. subst (λ n. under n xs ≡ under n (without x.0 ys)) ((Decides-eqb x.0 parent).0 e) (sym here.1)
      | false ↦ λ e. sym (ap (λ b. cond b (x ∷ under parent xs) (under parent xs)) e) ∙ same parent ∙ sym (others_stay x.0 parent ys e)
    ] refl) in
    omega (arith, here.0, more)

-- no more pairs than entries
pub few_pairs : (children : ChildrenView) (es : List PoolEntry) → IsIndexed children es → length children.pairs ≤ length es
few_pairs children es is =
    let few = no_more children.pairs (map pair_of es) is in
    let many = length-map es pair_of in
    omega (arith, few, many)

-- ## Selections

own : (next : ℕ) (es : List PoolEntry) → Rises 1 next (faces es) → AllByRecursion (λ (e : PoolEntry). Some e ≡ entry_of_id e.id es) es
own next es up = recursion_from_All (λ (e : PoolEntry). Some e ≡ entry_of_id e.id es) es (λ k d low. sym (slice_get-get_or es k d low) ∙ found_there 1 next es k d up low)

-- the selections that the pairs of a parent name are those from it
pub walks : (parent next : ℕ) (es : List PoolEntry) → Rises 1 next (faces es) → selections_at es (under parent (map pair_of es)) ≡ selections_from parent es
walks parent next es up = go es (own next es up)
  where
    go : (xs : List PoolEntry) → AllByRecursion (λ (e : PoolEntry). Some e ≡ entry_of_id e.id es) xs → selections_at es (under parent (map pair_of xs)) ≡ selections_from parent xs
    go [] all = refl
    go (x ∷ xs) all = elim (first_parent x.key == parent) as (λ b. (first_parent x.key == parent) ≡ b
        → selections_at es (cond b (pair_of x ∷ under parent (map pair_of xs)) (under parent (map pair_of xs))) ≡ selections_from parent (x ∷ xs)) [
          | true ↦ λ e. ap (λ o. cons_option (option_and_then own_selection o) (selections_at es (under parent (map pair_of xs)))) (sym all.0)
              ∙ ap (cons_option (own_selection x)) (go xs all.1)
              ∙ sym (ap (λ b. cons_option (if b then own_selection x else None) (selections_from parent xs)) e)
          | false ↦ λ e. go xs all.1 ∙ sym (ap (λ b. cons_option (if b then own_selection x else None) (selections_from parent xs)) e)
        ] refl
