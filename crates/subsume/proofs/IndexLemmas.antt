-- Items in order: adding, taking out, and counting by halves.
use Rattle.std.proofs.Common.{◌≡◌, ℕ, zero, suc, ◌+◌, ◌*◌, ◌<◌, ◌≤◌, List, [], ◌∷◌, Bool, true, false, cond, length, slice_index_or, refl, ap, sym, ◌∙◌, subst, arith, add-one, ◌^◌}
use Rattle.std.specs.Prelude.{if◌then◌else◌, count_by, remove}
use Rattle.std.specs.List.{AllByRecursion}
use Rattle.std.specs.Prelude.{nat_le, nat_lt}
use Rattle.std.specs.Cmp.{nat_cmp_is}
use Rattle.std.proofs.lemmas.Bool.Decides.{nat_tests, Decides-ltb}
use Rattle.std.proofs.lemmas.List.{get_or_default}
use Rattle.std.proofs.Math.Nat.{mul-le-mul_left, pow-succ'}
use Rattle.std.specs.Cmp.{IsStrictWeakOrder, IsTotalOrder}
use Rattle.std.specs.Ordering.{is_lt, nat_cmp, ordering_then}
use Rattle.std.specs.declared.cmp.Ordering.{Ordering}
use Rattle.std.specs.declared.cmp.Ordering.TheVariants.{Less, Equal, Greater}
use Rattle.std.proofs.lemmas.List.MinMax.{ranks_by}
use Rattle.std.proofs.lemmas.List.Sums.{sum_by-cons}
use Rattle.std.proofs.lemmas.Cmp.{then_total, on_total, nat_cmp_total}
use Rattle.cell_core.specs.Cuts.{cut_cmp_total}
use Rattle.cell_core.specs.Sorted.{insert_sorted}
use Rattle.subsume.specs.declared.item.CutItem.{CutItem}
use Rattle.subsume.specs.Index.{item_cmp, is_item_below, Ascends, is_counted}

item_total : IsTotalOrder item_cmp
item_total = then_total (then_total (on_total (λ (i : CutItem). i.parent) nat_cmp_total) (on_total (λ (i : CutItem). i.span.low) cut_cmp_total)) (on_total (λ (i : CutItem). i.id) nat_cmp_total)

item_order : IsStrictWeakOrder is_item_below
item_order = ranks_by item_total (λ item. item)

all_insert : (P : CutItem → Type 0) (x : CutItem) (ys : List CutItem) → P x → AllByRecursion P ys → AllByRecursion P (insert_sorted is_item_below x ys)
all_insert P x [] here rest = (here, rest)
all_insert P x (y ∷ ys) here rest = elim (is_item_below y x) as (λ b. AllByRecursion P (cond b (y ∷ insert_sorted is_item_below x ys) (x ∷ y ∷ ys))) [
  | true ↦ (rest.0, all_insert P x ys here rest.1)
  | false ↦ (here, rest)
]

all_further : (y x : CutItem) (es : List CutItem) → is_item_below y x ≡ false → AllByRecursion (λ e. is_item_below e y ≡ false) es → AllByRecursion (λ e. is_item_below e x ≡ false) es
all_further y x [] h rest = rest
all_further y x (e ∷ es) h rest = (item_order.chain e y x rest.0 h, all_further y x es h rest.1)

-- an item that is added keeps the order
pub insert_ascends : (x : CutItem) (ys : List CutItem) → Ascends ys → Ascends (insert_sorted is_item_below x ys)
insert_ascends x [] up = (tt, tt)
insert_ascends x (y ∷ ys) up = elim (is_item_below y x) as (λ b. is_item_below y x ≡ b → Ascends (cond b (y ∷ insert_sorted is_item_below x ys) (x ∷ y ∷ ys))) [
  | true ↦ λ e. (all_insert (λ e. is_item_below e y ≡ false) x ys (item_order.one_way y x e) up.0, insert_ascends x ys up.1)
  | false ↦ λ e. ((e, all_further y x ys e up.0), up)
] refl

all_remove : (P : CutItem → Type 0) (ys : List CutItem) (i : ℕ) → AllByRecursion P ys → AllByRecursion P (remove ys i)
all_remove P [] zero h = h
all_remove P [] (suc i) h = h
all_remove P (y ∷ ys) zero h = h.1
all_remove P (y ∷ ys) (suc i) h = (h.0, all_remove P ys i h.1)

-- so does taking one out
pub remove_ascends : (ys : List CutItem) (i : ℕ) → Ascends ys → Ascends (remove ys i)
remove_ascends [] zero up = up
remove_ascends [] (suc i) up = up
remove_ascends (y ∷ ys) zero up = up.1
remove_ascends (y ∷ ys) (suc i) up = (all_remove (λ e. is_item_below e y ≡ false) ys i up.0, remove_ascends ys i up.1)

all_at : (P : CutItem → Type 0) (xs : List CutItem) (k : ℕ) (d : CutItem) → AllByRecursion P xs → k < length xs → P (slice_index_or xs k d)
all_at P [] k d h low = absurd (omega arith)
all_at P (x ∷ xs) zero d h low = h.0
all_at P (x ∷ xs) (suc k) d h low = all_at P xs k d h.1 (omega arith)

first_not : (r s : Ordering) → is_lt (ordering_then r s) ≡ false → is_lt r ≡ false
first_not Less s e = e
first_not Equal s e = refl
first_not Greater s e = refl

le_back : (a b p : ℕ) → a ≤ b → nat_le b p ≡ true → nat_le a p ≡ true
le_back a b p h e = grind (arith, nat_tests)

lt_back : (a b p : ℕ) → a ≤ b → nat_lt b p ≡ true → nat_lt a p ≡ true
lt_back a b p h e = grind (arith, nat_tests)

not_less : (a b : ℕ) → nat_lt a b ≡ false → b ≤ a
not_less a b e = grind (arith, nat_tests)

up_to : (a b : ℕ) → is_lt (nat_cmp a b) ≡ false → b ≤ a
up_to a b e = elim (nat_lt a b) as (λ r. nat_lt a b ≡ r → b ≤ a) [
  | true ↦ λ h. let is : Less ≡ nat_cmp a b = nat_cmp_is a b Less ((Decides-ltb a b).0 h) in let wrong : true ≡ false = ap is_lt is ∙ e in absurd (cc)
  | false ↦ λ h. not_less a b h
] refl

parents : (y x : CutItem) → is_item_below y x ≡ false → x.parent ≤ y.parent
parents y x e = up_to y.parent x.parent (first_not _ _ (first_not _ _ e))

-- an item before one that is counted is counted
counted_back : (parent : ℕ) (after : Bool) (y x : CutItem) → is_item_below y x ≡ false → is_counted parent after y ≡ true → is_counted parent after x ≡ true
counted_back parent true y x e h = le_back x.parent y.parent parent (parents y x e) h
counted_back parent false y x e h = lt_back x.parent y.parent parent (parents y x e) h

pub counted_before : (parent : ℕ) (after : Bool) (xs : List CutItem) → Ascends xs → (i j : ℕ) (d : CutItem) → i ≤ j → j < length xs → is_counted parent after (slice_index_or xs j d) ≡ true → is_counted parent after (slice_index_or xs i d) ≡ true
counted_before parent after [] up i j d h low e = absurd (omega arith)
counted_before parent after (x ∷ xs) up zero zero d h low e = e
counted_before parent after (x ∷ xs) up zero (suc j) d h low e = counted_back parent after (slice_index_or xs j d) x (all_at (λ y. is_item_below y x ≡ false) xs j d up.0 (omega arith)) e
counted_before parent after (x ∷ xs) up (suc i) zero d h low e = absurd (omega arith)
counted_before parent after (x ∷ xs) up (suc i) (suc j) d h low e = counted_before parent after xs up.1 i j d (omega arith) (omega arith) e

-- the first n are counted, and no others
pub counts_first : (p : CutItem → Bool) (xs : List CutItem) (n : ℕ) → n ≤ length xs → ((k : ℕ) (d : CutItem) → k < n → p (slice_index_or xs k d) ≡ true) → ((k : ℕ) (d : CutItem) → n ≤ k → k < length xs → p (slice_index_or xs k d) ≡ false) → count_by p xs ≡ n
counts_first p [] n low there others = omega arith
counts_first p (x ∷ xs) zero low there others =
    let more = counts_first p xs zero (omega arith) (λ k d h. absurd (omega arith)) (λ k d h r. others (suc k) d (omega arith) (omega arith)) in
    sum_by-cons (λ x. if p x then 1 else 0) x xs ∙ ap (λ b. (if b then 1 else 0) + count_by p xs) (others 0 x (omega arith) (omega arith)) ∙ omega (arith, more)
counts_first p (x ∷ xs) (suc n) low there others =
    let more = counts_first p xs n (omega arith) (λ k d h. there (suc k) d (omega arith)) (λ k d h r. others (suc k) d (omega arith) (omega arith)) in
    sum_by-cons (λ x. if p x then 1 else 0) x xs ∙ ap (λ b. (if b then 1 else 0) + count_by p xs) (there 0 x (omega arith)) ∙ omega (arith, more)

module _ (parent : ℕ) (after : Bool) (xs : List CutItem) (up : Ascends xs) (middle : ℕ) (e : CutItem) (low : middle < length xs) where
  -- where the one in the middle is counted, so are all up to it
  pub up_to_middle : is_counted parent after (slice_index_or xs middle e) ≡ true → (k : ℕ) (d : CutItem) → k < middle + 1 → is_counted parent after (slice_index_or xs k d) ≡ true
  up_to_middle h k d less = counted_before parent after xs up k middle d (omega arith) low (ap (is_counted parent after) (get_or_default xs middle d e low) ∙ h)

  -- where it isn't, none from it on is
  pub from_middle : is_counted parent after (slice_index_or xs middle e) ≡ false → (k : ℕ) (d : CutItem) → middle ≤ k → k < length xs → is_counted parent after (slice_index_or xs k d) ≡ false
  from_middle h k d more within = elim (is_counted parent after (slice_index_or xs k d)) as (λ b. is_counted parent after (slice_index_or xs k d) ≡ b → b ≡ false) [
    | true ↦ λ is. let wrong : true ≡ false = sym (counted_before parent after xs up middle k e more within (ap (is_counted parent after) (get_or_default xs k e d within) ∙ is)) ∙ h in cc
    | false ↦ λ _. refl
  ] refl

-- a step halves what is between
pub halved_once : (s m m' n : ℕ) → 0 < m → 2 * m' ≤ m → 2 ^ s * m ≤ n → (2 ^ (s + 1) * m' ≤ n) × (2 ^ (s + 1) ≤ 2 * n + 1)
halved_once s m m' n some half h =
    let two : 2 ^ (s + 1) ≡ 2 * 2 ^ s = ap (λ k. 2 ^ k) (add-one s) ∙ pow-succ' 2 s in
    let a : 2 ^ s * (2 * m') ≤ 2 ^ s * m = mul-le-mul_left (2 ^ s) half in
    let b : 2 ^ s * 1 ≤ 2 ^ s * m = mul-le-mul_left (2 ^ s) some in
    let wide : (2 * 2 ^ s) * m' ≤ n = omega (arith, a, h) in
    (subst (λ w. w * m' ≤ n) (sym two) wide, omega (arith, two, b, h))
