-- The steps of a merge of two lists that ascend, and merges of merges.
use Rattle.std.proofs.Common.{◌≡◌, ℕ, zero, suc, ◌+◌, ◌-◌, ◌<◌, ◌≤◌, List, [], ◌∷◌, ◌++◌, Bool, true, false, cond, refl, ap, sym, ◌∙◌, subst, arith, add-one, length, drop, take, append_assoc, length-drop}
use Rattle.std.specs.Prelude.{flat_map, slice_index_or}
use Rattle.std.specs.List.{AllByRecursion}
use Rattle.std.specs.Cmp.{IsStrictWeakOrder, first_so, second_so}
use Rattle.std.proofs.lemmas.List.MinMax.{ranks_by}
use Rattle.cell_core.specs.declared.cell.Cell.{Cell}
use Rattle.cell_core.specs.declared.cell.Cell.TheVariants.{Nil}
use Rattle.cell_core.specs.Order.{cell_cmp_total}
use Rattle.cell_core.specs.Pairs.{Pairs, heads_of}
use Rattle.cell_core.specs.Sorted.{insert_sorted, sorted_by}
use Rattle.chunk_core.specs.Facts.{neighbours_from, is_below, rises}
use Rattle.bat_algebra.specs.Ascending.{Ascends, is_second}
use Rattle.cell_core.specs.Merged.{by_head, merged}

pub head_order : IsStrictWeakOrder by_head
head_order = ranks_by cell_cmp_total (λ (p : Cell × Cell). p.0)

abbrev insert : Cell × Cell → Pairs → Pairs
insert = insert_sorted by_head

abbrev sort : Pairs → Pairs
sort = sorted_by by_head

-- no pair of these is before that one
abbrev NoneBefore : Cell × Cell → Pairs → Type 0
NoneBefore x ys = AllByRecursion (λ y. by_head y x ≡ false) ys

-- it is before all of these
abbrev IsBefore : Cell × Cell → Pairs → Type 0
IsBefore x ys = AllByRecursion (λ y. by_head x y ≡ true) ys

-- ## What comes first

none_inserted : (x y : Cell × Cell) (ys : Pairs) → by_head y x ≡ false → NoneBefore x ys → NoneBefore x (insert y ys)
none_inserted x y [] h all = (h, tt)
none_inserted x y (z ∷ zs) h all = elim (by_head z y) as (λ b. NoneBefore x (cond b (z ∷ insert y zs) (y ∷ z ∷ zs))) [ true ↦ (all.0, none_inserted x y zs h all.1) | false ↦ (h, all) ]

none_sorted : (x : Cell × Cell) (ys : Pairs) → NoneBefore x ys → NoneBefore x (sort ys)
none_sorted x [] all = tt
none_sorted x (y ∷ ys) all = none_inserted x y (sort ys) all.0 (none_sorted x ys all.1)

none_both : (x : Cell × Cell) (us ys : Pairs) → NoneBefore x us → NoneBefore x ys → NoneBefore x (us ++ ys)
none_both x [] ys a b = b
none_both x (u ∷ us) ys a b = (a.0, none_both x us ys a.1 b)

insert_first : (x : Cell × Cell) (ys : Pairs) → NoneBefore x ys → insert x ys ≡ x ∷ ys
insert_first x [] all = refl
insert_first x (y ∷ ys) all = ap (λ b. cond b (y ∷ insert x ys) (x ∷ y ∷ ys)) all.0

-- the first of the first list, before which there is none
first_out : (x : Cell × Cell) (us ys : Pairs) → NoneBefore x us → NoneBefore x ys → sort ((x ∷ us) ++ ys) ≡ x ∷ sort (us ++ ys)
first_out x us ys a b = insert_first x (sort (us ++ ys)) (none_sorted x (us ++ ys) (none_both x us ys a b))

-- the first of the second list, which is before the whole first one
second_out : (y : Cell × Cell) (us ys : Pairs) → IsBefore y us → NoneBefore y ys → sort (us ++ y ∷ ys) ≡ y ∷ sort (us ++ ys)
second_out y [] ys a b = insert_first y (sort ys) (none_sorted y ys b)
second_out y (u ∷ us) ys a b = ap (insert u) (second_out y us ys a.1 b) ∙ ap (λ c. cond c (y ∷ insert u (sort (us ++ ys))) (u ∷ y ∷ sort (us ++ ys))) a.0

-- a pair before the first is before all that ascends from there
before_all : (y x : Cell × Cell) (xs : Pairs) → by_head y x ≡ true → NoneBefore x xs → IsBefore y xs
before_all y x [] h all = tt
before_all y x (z ∷ zs) h all = (
  elim (by_head y z) as (λ b. by_head y z ≡ b → b ≡ true) [ true ↦ λ _. refl | false ↦ λ out. let wrong : true ≡ false = sym h ∙ head_order.chain y z x out all.0 in cc ] refl,
  before_all y x zs h all.1,
)

none_further : (x y : Cell × Cell) (ys : Pairs) → by_head y x ≡ false → NoneBefore y ys → NoneBefore x ys
none_further x y [] h all = tt
none_further x y (z ∷ zs) h all = (head_order.chain z y x all.0 h, none_further x y zs h all.1)

-- ## The steps

second_next : (us : Pairs) (y : Cell × Cell) (ys : Pairs) → Ascends us → Ascends (y ∷ ys) → is_second us (y ∷ ys) ≡ true → sort (us ++ y ∷ ys) ≡ y ∷ sort (us ++ ys)
second_next [] y ys up low is = second_out y [] ys tt low.0
second_next (x ∷ xs) y ys up low is = second_out y (x ∷ xs) ys (is, before_all y x xs is up.0) low.0

first_next : (x : Cell × Cell) (xs vs : Pairs) → Ascends (x ∷ xs) → Ascends vs → is_second (x ∷ xs) vs ≡ false → sort ((x ∷ xs) ++ vs) ≡ x ∷ sort (xs ++ vs)
first_next x xs [] up low is = first_out x xs [] up.0 tt
first_next x xs (y ∷ ys) up low is = first_out x xs (y ∷ ys) up.0 (is, none_further x y ys is low.0)

ascends_drop : (i : ℕ) (xs : Pairs) → Ascends xs → Ascends (drop i xs)
ascends_drop zero xs up = up
ascends_drop (suc i) [] up = tt
ascends_drop (suc i) (x ∷ xs) up = ascends_drop i xs up.1

drop_at : (xs : Pairs) (i : ℕ) (d : Cell × Cell) → i < length xs → drop i xs ≡ slice_index_or xs i d ∷ drop (suc i) xs
drop_at [] i d low = absurd (omega arith)
drop_at (x ∷ xs) zero d low = refl
drop_at (x ∷ xs) (suc i) d low = drop_at xs i d (omega arith)

pub second_step : (a b : Pairs) (i j : ℕ) (d : Cell × Cell) → Ascends a → Ascends b → j < length b → is_second (drop i a) (drop j b) ≡ true
    → sort (drop i a ++ drop j b) ≡ slice_index_or b j d ∷ sort (drop i a ++ drop (j + 1) b)
second_step a b i j d up low some is =
    let at = drop_at b j d some in
    let rest : Ascends (slice_index_or b j d ∷ drop (suc j) b) = subst Ascends at (ascends_drop j b low) in
    ap (λ ys. sort (drop i a ++ ys)) at
    ∙ second_next (drop i a) (slice_index_or b j d) (drop (suc j) b) (ascends_drop i a up) rest (ap (is_second (drop i a)) (sym at) ∙ is)
    ∙ ap (λ n. slice_index_or b j d ∷ sort (drop i a ++ drop n b)) (sym (add-one j))

pub first_step : (a b : Pairs) (i j : ℕ) (d : Cell × Cell) → Ascends a → Ascends b → i < length a → is_second (drop i a) (drop j b) ≡ false
    → sort (drop i a ++ drop j b) ≡ slice_index_or a i d ∷ sort (drop (i + 1) a ++ drop j b)
first_step a b i j d up low some is =
    let at = drop_at a i d some in
    let rest : Ascends (slice_index_or a i d ∷ drop (suc i) a) = subst Ascends at (ascends_drop i a up) in
    ap (λ xs. sort (xs ++ drop j b)) at
    ∙ first_next (slice_index_or a i d) (drop (suc i) a) (drop j b) rest (ascends_drop j b low) (ap (λ xs. is_second xs (drop j b)) (sym at) ∙ is)
    ∙ ap (λ n. slice_index_or a i d ∷ sort (drop n a ++ drop j b)) (sym (add-one i))

-- one pair more
pub pushed : (out new rest more whole : Pairs) (p : Cell × Cell) → out ++ rest ≡ whole → rest ≡ p ∷ more → new ≡ out ++ p ∷ [] → new ++ more ≡ whole
pushed out new rest more whole p so_far step is = ap (λ xs. xs ++ more) is ∙ append_assoc out (p ∷ []) more ∙ ap (λ xs. out ++ xs) (sym step) ∙ so_far

-- which comes next, at two places
pub next_is : (a b : Pairs) (i j : ℕ) (p q : Cell × Cell) → i < length a → j < length b → is_second (drop i a) (drop j b) ≡ by_head (slice_index_or b j p) (slice_index_or a i q)
next_is a b i j p q low here = (λ k. is_second (drop_at a i q low k) (drop_at b j p here k))

drop_all : (xs : Pairs) (n : ℕ) → length xs ≤ n → drop n xs ≡ []
drop_all [] zero h = refl
drop_all [] (suc n) h = refl
drop_all (x ∷ xs) zero h = absurd (omega arith)
drop_all (x ∷ xs) (suc n) h = drop_all xs n (omega arith)

pub none_left : (a b : Pairs) (i j : ℕ) → i < length a → length b ≤ j → is_second (drop i a) (drop j b) ≡ false
none_left a b i j low none = (λ k. is_second (drop_at a i (Nil, Nil) low k) (drop_all b j none k))

-- at the end nothing is left
pub none_rest : (a b : Pairs) (i j : ℕ) → length a ≤ i → length b ≤ j → sort (drop i a ++ drop j b) ≡ []
none_rest a b i j low high = (λ k. sort (drop_all a i low k ++ drop_all b j high k))

pub all_out : (out : Pairs) → out ++ [] ≡ out
all_out [] = refl
all_out (p ∷ ps) = ap (λ qs. p ∷ qs) (all_out ps)

-- ## Merges of merges

-- two insertions can be exchanged
swapped : (x u : Cell × Cell) (ys : Pairs) → by_head u x ≡ true → insert u (insert x ys) ≡ insert x (insert u ys)
swapped x u [] h = ap (λ b. cond b (x ∷ insert u []) (u ∷ x ∷ [])) (head_order.one_way u x h) ∙ sym (ap (λ b. cond b (u ∷ insert x []) (x ∷ u ∷ [])) h)
swapped x u (z ∷ zs) h = by_first (swapped x u zs h) (by_head z x) (by_head z u) refl refl
  where
    -- x comes after u
    last : insert x (u ∷ z ∷ zs) ≡ u ∷ insert x (z ∷ zs)
    last = ap (λ b. cond b (u ∷ insert x (z ∷ zs)) (x ∷ u ∷ z ∷ zs)) h

    by_first : insert u (insert x zs) ≡ insert x (insert u zs) → (b c : Bool) → by_head z x ≡ b → by_head z u ≡ c → insert u (cond (by_head z x) (z ∷ insert x zs) (x ∷ z ∷ zs)) ≡ insert x (cond (by_head z u) (z ∷ insert u zs) (u ∷ z ∷ zs))
    by_first more true true at_x at_u =
        ap (λ b. insert u (cond b (z ∷ insert x zs) (x ∷ z ∷ zs))) at_x
        ∙ ap (λ b. cond b (z ∷ insert u (insert x zs)) (u ∷ z ∷ insert x zs)) at_u
        ∙ ap (λ ys. z ∷ ys) more
        ∙ sym (ap (λ b. cond b (z ∷ insert x (insert u zs)) (x ∷ z ∷ insert u zs)) at_x)
        ∙ sym (ap (λ b. insert x (cond b (z ∷ insert u zs) (u ∷ z ∷ zs))) at_u)
    by_first more true false at_x at_u =
        ap (λ b. insert u (cond b (z ∷ insert x zs) (x ∷ z ∷ zs))) at_x
        ∙ ap (λ b. cond b (z ∷ insert u (insert x zs)) (u ∷ z ∷ insert x zs)) at_u
        ∙ sym (ap (λ b. insert x (cond b (z ∷ insert u zs) (u ∷ z ∷ zs))) at_u ∙ last ∙ ap (λ b. u ∷ cond b (z ∷ insert x zs) (x ∷ z ∷ zs)) at_x)
    by_first more false true at_x at_u = let wrong : true ≡ false = sym at_u ∙ not_below in cc
      where
        not_below : by_head z u ≡ false
        not_below = head_order.chain z x u at_x (head_order.one_way u x h)
    by_first more false false at_x at_u =
        ap (λ b. insert u (cond b (z ∷ insert x zs) (x ∷ z ∷ zs))) at_x
        ∙ ap (λ b. cond b (x ∷ insert u (z ∷ zs)) (u ∷ x ∷ z ∷ zs)) (head_order.one_way u x h)
        ∙ sym (ap (λ b. insert x (cond b (z ∷ insert u zs) (u ∷ z ∷ zs))) at_u ∙ last ∙ ap (λ b. u ∷ cond b (z ∷ insert x zs) (x ∷ z ∷ zs)) at_x)

sort_inserted : (x : Cell × Cell) (us zs : Pairs) → sort (insert x us ++ zs) ≡ insert x (sort (us ++ zs))
sort_inserted x [] zs = refl
sort_inserted x (u ∷ us) zs = by_first (sort_inserted x us zs) (by_head u x) refl
  where
    by_first : sort (insert x us ++ zs) ≡ insert x (sort (us ++ zs)) → (b : Bool) → by_head u x ≡ b → sort (cond (by_head u x) (u ∷ insert x us) (x ∷ u ∷ us) ++ zs) ≡ insert x (insert u (sort (us ++ zs)))
    by_first more true h = ap (λ b. sort (cond b (u ∷ insert x us) (x ∷ u ∷ us) ++ zs)) h ∙ ap (insert u) more ∙ swapped x u (sort (us ++ zs)) h
    by_first more false h = ap (λ b. sort (cond b (u ∷ insert x us) (x ∷ u ∷ us) ++ zs)) h

sort_front : (xs zs : Pairs) → sort (sort xs ++ zs) ≡ sort (xs ++ zs)
sort_front [] zs = refl
sort_front (x ∷ xs) zs = sort_inserted x (sort xs) zs ∙ ap (insert x) (sort_front xs zs)

sort_twice : (xs : Pairs) → sort (sort xs) ≡ sort xs
sort_twice [] = refl
sort_twice (x ∷ xs) = one ∙ ap (insert x) (sort_twice xs)
  where
    nothing : (ys : Pairs) → ys ++ [] ≡ ys
    nothing [] = refl
    nothing (y ∷ ys) = ap (λ zs. y ∷ zs) (nothing ys)

    one : sort (insert x (sort xs)) ≡ insert x (sort (sort xs))
    one = ap sort (sym (nothing (insert x (sort xs)))) ∙ sort_inserted x (sort xs) [] ∙ ap (λ ys. insert x (sort ys)) (nothing (sort xs))

sort_back : (xs ys : Pairs) → sort (xs ++ sort ys) ≡ sort (xs ++ ys)
sort_back [] ys = sort_twice ys
sort_back (x ∷ xs) ys = ap (insert x) (sort_back xs ys)

flat_both : (xs ys : List Pairs) → flat_map (λ (part : Pairs). part) (xs ++ ys) ≡ flat_map (λ (part : Pairs). part) xs ++ flat_map (λ (part : Pairs). part) ys
flat_both [] ys = refl
flat_both (x ∷ xs) ys = ap (λ zs. x ++ zs) (flat_both xs ys) ∙ sym (append_assoc x (flat_map (λ (part : Pairs). part) xs) (flat_map (λ (part : Pairs). part) ys))

-- the merge of two merges is the merge of all
merged_halves : (xs ys : List Pairs) → sort (merged xs ++ merged ys) ≡ merged (xs ++ ys)
merged_halves xs ys =
    sort_front (flat_map (λ (part : Pairs). part) xs) (merged ys)
    ∙ sort_back (flat_map (λ (part : Pairs). part) xs) (flat_map (λ (part : Pairs). part) ys)
    ∙ ap sort (sym (flat_both xs ys))

-- ## What ascends

inserted_ascends : (x : Cell × Cell) (ys : Pairs) → Ascends ys → Ascends (insert x ys)
inserted_ascends x [] up = (tt, tt)
inserted_ascends x (y ∷ ys) up = by_first (inserted_ascends x ys up.1) (by_head y x) refl
  where
    by_first : Ascends (insert x ys) → (b : Bool) → by_head y x ≡ b → Ascends (cond (by_head y x) (y ∷ insert x ys) (x ∷ y ∷ ys))
    by_first more true h = subst (λ b. Ascends (cond b (y ∷ insert x ys) (x ∷ y ∷ ys))) (sym h) (none_inserted y x ys (head_order.one_way y x h) up.0, more)
    by_first more false h = subst (λ b. Ascends (cond b (y ∷ insert x ys) (x ∷ y ∷ ys))) (sym h) ((h, none_further x y ys h up.0), up)

sort_ascends : (xs : Pairs) → Ascends (sort xs)
sort_ascends [] = tt
sort_ascends (x ∷ xs) = inserted_ascends x (sort xs) (sort_ascends xs)

pub sorted_ascends : (out xs : Pairs) → out ≡ sort xs → Ascends out
sorted_ascends out xs is = subst Ascends (sym is) (sort_ascends xs)

-- heads that rise ascend, and are in their order already
rising_sorted : (x : Cell × Cell) (xs : Pairs) → neighbours_from is_below x.0 (heads_of xs) ≡ true → (sort (x ∷ xs) ≡ x ∷ xs) × NoneBefore x xs
rising_sorted x [] e = (refl, tt)
rising_sorted x (y ∷ ys) e =
    let rest = rising_sorted y ys (second_so (is_below x.0 y.0) (neighbours_from is_below y.0 (heads_of ys)) e) in
    let here : by_head y x ≡ false = head_order.one_way x y (first_so (is_below x.0 y.0) (neighbours_from is_below y.0 (heads_of ys)) e) in
    let none : NoneBefore x (y ∷ ys) = (here, none_further x y ys here rest.1) in
    (ap (insert x) rest.0 ∙ insert_first x (y ∷ ys) none, none)

nothing_behind : (ys : Pairs) → ys ++ [] ≡ ys
nothing_behind [] = refl
nothing_behind (y ∷ ys) = ap (λ zs. y ∷ zs) (nothing_behind ys)

one_merged : (b : Pairs) → rises (heads_of b) ≡ true → b ≡ merged (b ∷ [])
one_merged [] e = refl
one_merged (x ∷ xs) e = sym (ap sort (nothing_behind (x ∷ xs)) ∙ (rising_sorted x xs e).0)

-- ## The merge of parts

take_drop : (k : ℕ) (xs : List Pairs) → take k xs ++ drop k xs ≡ xs
take_drop zero xs = refl
take_drop (suc k) [] = refl
take_drop (suc k) (x ∷ xs) = ap (λ ys. x ∷ ys) (take_drop k xs)

all_taken : (n : ℕ) (xs : List Pairs) → length xs ≤ n → take n xs ≡ xs
all_taken zero [] few = refl
all_taken zero (x ∷ xs) few = absurd (omega arith)
all_taken (suc n) [] few = refl
all_taken (suc n) (x ∷ xs) few = ap (λ ys. x ∷ ys) (all_taken n xs (omega arith))

-- of both halves
pub of_halves : (parts : List Pairs) (k : ℕ) (low high out : Pairs) → low ≡ merged (take k parts) → high ≡ merged (take (length parts - k) (drop k parts)) → out ≡ sort (low ++ high) → out ≡ merged parts
of_halves parts k low high out low_is high_is is =
    let rest = all_taken (length parts - k) (drop k parts) (let l = length-drop k parts in omega (arith, l)) in
    is ∙ (λ i. sort (low_is i ++ (high_is ∙ ap merged rest) i)) ∙ merged_halves (take k parts) (drop k parts) ∙ ap merged (take_drop k parts)

-- of one part
pub of_one : (parts : List Pairs) (only out : Pairs) → 1 ≤ length parts → length parts < 2 → only ≡ slice_index_or parts 0 only → AllByRecursion (λ part. rises (heads_of part) ≡ true) parts → out ≡ only → out ≡ merged parts
of_one [] only out some few first up is = absurd (omega arith)
of_one (p ∷ []) only out some few first up is = is ∙ first ∙ one_merged p up.0
of_one (p ∷ q ∷ parts) only out some few first up is = absurd (omega arith)

pub one_ascends : (parts : List Pairs) (only out : Pairs) → 1 ≤ length parts → length parts < 2 → only ≡ slice_index_or parts 0 only → AllByRecursion (λ part. rises (heads_of part) ≡ true) parts → out ≡ only → Ascends out
one_ascends parts only out some few first up is = sorted_ascends out (flat_map (λ (part : Pairs). part) parts) (of_one parts only out some few first up is)
