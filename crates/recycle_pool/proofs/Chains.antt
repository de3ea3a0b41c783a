-- The selections of a chain, and what is known of them.
use Rattle.std.proofs.Common.{◌≡◌, ℕ, zero, suc, ◌^◌, ◌<◌, List, [], ◌∷◌, Bool, true, false, Option, Some, None, inl, inr, refl, ap, sym, ◌∙◌, subst, arith, length, map, slice_index_or}
use Rattle.std.specs.Prelude.{All, IsSome, filter, if◌then◌else◌, ◌==◌}
use Rattle.std.specs.List.{AllByRecursion, slice_get}
use Rattle.std.specs.Option.{option_map}
use Rattle.std.specs.Cmp.{first_so}
use Rattle.std.proofs.lemmas.Bool.Decides.{Decides-eqb}
use Rattle.cell_core.specs.declared.cut.Cut.{Cut}
use Rattle.cell_core.specs.declared.cut.Span.{Span}
use Rattle.cell_core.specs.Cuts.{covers, is_cut_below}
use Rattle.cell_core.specs.Sorted.{first_by}
use Rattle.subsume.proofs.Members.{In, in_map}
use Rattle.subsume.specs.Cutting.{is_contained}
use Rattle.least_cover.specs.Covers.{Priced, IsChain, IsChosen}
use Rattle.least_cover.specs.Chosen.{Selection, chain_of, cheapest_of, pieces_from}
use Rattle.least_cover.proofs.Chosen.{chosen_is_function_holds}
use Rattle.pool_policy.specs.declared.entry.PoolEntry.{PoolEntry}
use Rattle.pool_policy.specs.Keyed.{entry_of_id}
use Rattle.pool_policy.specs.Looks.{across_found, cover_of, has_rising_heads, is_smaller, selection_from, selections_from}
use Rattle.pool_policy.specs.Looks.Finding.{Miss}
use Rattle.pool_policy.specs.Keeps.{face_of, faces, Rises}
use Rattle.pool_policy.proofs.Lists.{all_at}
use Rattle.subsume.proofs.LeastFirst.{first_in}
use Rattle.pool_policy.proofs.Ends.{all_from, filter_map_in}
use Rattle.pool_policy.proofs.Faces.{value_of_in}
use Rattle.pool_policy.proofs.Reuses.{from_entry}
use Rattle.cell_core.specs.Pairs.{Pairs}
use Rattle.pool_entries.proofs.Places.{read_any}
use Rattle.recycle_pool.specs.Answers.{IsPooledAs}
use Rattle.std.proofs.lemmas.Option.{slice_get-get_or}

-- ## Pooled selections

found_some : (es : List PoolEntry) (e : PoolEntry) (id : ℕ) → In e es → e.id ≡ id → IsSome (entry_of_id id es)
found_some [] e id i same = absurd i
found_some (x ∷ xs) e id (inl is) same = subst (λ b. IsSome (if b then Some x else entry_of_id id xs)) (sym ((Decides-eqb x.id id).1 (ap (λ (y : PoolEntry). y.id) (sym is) ∙ same))) refl
found_some (x ∷ xs) e id (inr i) same = let rest = found_some xs e id i same in elim (x.id == id) as (λ b. IsSome (if b then Some x else entry_of_id id xs)) [ true ↦ refl | false ↦ rest ]

-- the entry of each selection is there
pub selections_pooled : (parent : ℕ) (es : List PoolEntry) → AllByRecursion (λ (s : Selection). IsSome (entry_of_id s.0 es)) (selections_from parent es)
selections_pooled parent es = all_from (λ (s : Selection). IsSome (entry_of_id s.0 es)) (selections_from parent es) (λ s i.
    let from = filter_map_in (selection_from parent) es s i in
    found_some es from.0 s.0 from.1 (from_entry parent from.0 s from.2).2)

in_filtered : {X : Type 0} (p : X → Bool) (xs : List X) (x : X) → In x (filter p xs) → In x xs
in_filtered p [] x i = i
in_filtered p (y ∷ ys) x i = go (p y) (λ j. in_filtered p ys x j) i
  where
    go : (b : Bool) → (In x (filter p ys) → In x ys) → In x (if b then y ∷ filter p ys else filter p ys) → In x (y ∷ ys)
    go true rest (inl is) = inl is
    go true rest (inr j) = inr (rest j)
    go false rest j = inr (rest j)

-- the entry of the one that contains a target is there
pub container_pooled : (parent : ℕ) (target : Span) (es : List PoolEntry) (s : Selection) → first_by is_smaller (filter (λ (s : Selection). is_contained target s.1.1) (selections_from parent es)) ≡ Some s → IsSome (entry_of_id s.0 es)
container_pooled parent target es s is =
    let i = in_filtered (λ (s : Selection). is_contained target s.1.1) (selections_from parent es) s (first_in is_smaller (filter (λ (s : Selection). is_contained target s.1.1) (selections_from parent es)) s is) in
    all_at (λ (s : Selection). IsSome (entry_of_id s.0 es)) (selections_from parent es) s (selections_pooled parent es) i

-- ## The chain

pub few_rows : (selections : List Selection) → All (λ (s : Selection). s.1.0 < 2 ^ 41) selections → All (λ (e : Priced). e.0 < 2 ^ 41) (map (λ (s : Selection). s.1) selections)
few_rows [] all k d low = absurd (omega arith)
few_rows (s ∷ selections) all zero d low = all 0 s (omega arith)
few_rows (s ∷ selections) all (suc k) d low = few_rows selections (λ j x less. all (suc j) x (omega arith)) k d (omega arith)

pub as_many : (selections : List Selection) → length (map (λ (s : Selection). s.1) selections) ≡ length selections
as_many [] = refl
as_many (s ∷ selections) = ap suc (as_many selections)

pub chosen_chain : (spans : List Priced) (target : Span) (chain : List ℕ) → covers target (map (λ (e : Priced). e.1) spans) ≡ true → IsChosen spans target target.low chain → Some chain ≡ chain_of target spans
chosen_chain spans target chain all chosen =
    let some : is_cut_below target.low target.high ≡ true = first_so (is_cut_below target.low target.high) _ all in
    sym (((chosen_is_function_holds spans target).0 chain).1 (some, chosen))

pub no_chain : (spans : List Priced) (target : Span) → covers target (map (λ (e : Priced). e.1) spans) ≡ false → None ≡ chain_of target spans
no_chain spans target out = sym ((chosen_is_function_holds spans target).1.1 out)

chain_within : (spans : List Priced) (target : Span) (cut : Cut) (chain : List ℕ) → IsChain spans target cut chain → AllByRecursion (λ place. place < length spans) chain
chain_within spans target cut [] is = tt
chain_within spans target cut (place ∷ chain) is = (is.1, chain_within spans target _ chain is.3)

-- its places are those of selections
pub places_within : (selections : List Selection) (target : Span) (chain : List ℕ) → Some chain ≡ chain_of target (map (λ (s : Selection). s.1) selections) → AllByRecursion (λ place. place < length selections) chain
places_within selections target chain is =
    let chosen = ((chosen_is_function_holds (map (λ (s : Selection). s.1) selections) target).0 chain).0 (sym is) in
    subst (λ n. AllByRecursion (λ place. place < n) chain) (as_many selections) (chain_within (map (λ (s : Selection). s.1) selections) target target.low chain chosen.1.0)

-- ## An entry at a place

in_from_get : {X : Type 0} (xs : List X) (k : ℕ) (x : X) → slice_get xs k ≡ Some x → In x xs
in_from_get [] k x is = cc
in_from_get (y ∷ ys) zero x is = let same : y ≡ x = cc in inl (sym same)
in_from_get (y ∷ ys) (suc k) x is = inr (in_from_get ys k x is)

-- the value of an entry at a place is that of its id
pub pooled_there : (next : ℕ) (es : List PoolEntry) (k : ℕ) (e : PoolEntry) → Rises 1 next (faces es) → slice_get es k ≡ Some e → IsPooledAs es e.id e.value
pooled_there next es k e up is = value_of_in 1 next (faces es) (face_of e) up (in_map face_of es e (in_from_get es k e is))

-- the same, as it is read there
pub pooled_read : (next : ℕ) (es : List PoolEntry) (k : ℕ) (d e : PoolEntry) (value : Pairs) → Rises 1 next (faces es) → k < length es → value ≡ (slice_index_or es k d).value → IsPooledAs es (slice_index_or es k e).id value
pooled_read next es k d e value up low same =
    pooled_there next es k (slice_index_or es k e) up (slice_get-get_or es k e low) ∙ ap Some (ap (λ (x : PoolEntry). x.value) (read_any es k e d low) ∙ sym same)

-- ## What a cover yields

-- where the heads of the parent rise, the chain decides
pub covered : (parent : ℕ) (target : Span) (es : List PoolEntry) (selections : List Selection) (rising : Bool) (chain : Option (List ℕ)) → rising ≡ true → rising ≡ has_rising_heads parent es → selections ≡ selections_from parent es
    → chain ≡ chain_of target (map (λ (s : Selection). s.1) selections) → across_found (option_map (pieces_from target selections target.low) chain) ≡ across_found (cover_of parent target es)
covered parent target es selections rising chain true_is heads same is =
    ap (λ c. across_found (option_map (pieces_from target selections target.low) c)) is
    ∙ ap (λ (xs : List Selection). across_found (cheapest_of target xs)) same
    ∙ ap (λ b. across_found (if b then cheapest_of target (selections_from parent es) else None)) (sym true_is ∙ heads)

-- else nothing is found
pub uncovered : (parent : ℕ) (target : Span) (es : List PoolEntry) (rising : Bool) → rising ≡ false → rising ≡ has_rising_heads parent es → Miss ≡ across_found (cover_of parent target es)
uncovered parent target es rising false_is heads = ap (λ b. across_found (if b then cheapest_of target (selections_from parent es) else None)) (sym false_is ∙ heads)
