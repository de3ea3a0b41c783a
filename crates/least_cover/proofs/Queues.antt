-- The queue of places: none is nearer than a later one, so the last is the nearest.
use Rattle.std.proofs.Common.{◌≡◌, ◌≢◌, ℕ, zero, suc, ◌+◌, ◌-◌, ◌<◌, ◌≤◌, List, Bool, true, false, true≢false, Option, Some, None, ◌⊎◌, inl, inr, refl, ap, sym, ◌∙◌, arith, length, take, get_or-set_other}
use Rattle.std.specs.Prelude.{insert, slice_index, slice_set}
use Rattle.std.specs.Option.{option_map_or}
use Rattle.std.specs.Ordering.{is_lt}
use Rattle.std.specs.declared.cmp.Ordering.{Ordering}
use Rattle.std.specs.Cmp.{IsTotalOrder, IsStrictWeakOrder}
use Rattle.std.proofs.lemmas.Cmp.{then_total, on_total, nat_cmp_total}
use Rattle.std.proofs.lemmas.List.MinMax.{ranks_by}
use Rattle.std.proofs.lemmas.List.{get_or-take, get_or_past}
use Rattle.std.proofs.lemmas.List.Edits.{get_or-insert_at, get_or-insert_below, get_or-insert_above}
use Rattle.std.proofs.lemmas.Bool.Decides.{eqb_tells}
use Rattle.least_cover.specs.declared.best.Best.{Best}
use Rattle.least_cover.specs.Best.{HasPlace, IsQueue, IsSeat, best_at, best_cmp, is_nearer, key_at}

abbrev Ranked : Type 0
Ranked = Best × ℕ

abbrev ranked_cmp : Ranked → Ranked → Ordering
ranked_cmp p q = best_cmp p.0 p.1 q.0 q.1

ranked_total : IsTotalOrder ranked_cmp
ranked_total = then_total (on_total (λ (p : Ranked). p.0.cost) nat_cmp_total) (then_total (on_total (λ (p : Ranked). p.0.length) nat_cmp_total) (on_total (λ (p : Ranked). p.1) nat_cmp_total))

pub nearer_order : (bests : List (Option Best)) → IsStrictWeakOrder (is_nearer bests)
nearer_order bests = ranks_by ranked_total (λ (p : ℕ). (key_at bests p, p))

pub nat_less : (i at : ℕ) → (i < at) ⊎ (at ≤ i)
nat_less i zero = inr (omega arith)
nat_less zero (suc at) = inl (omega arith)
nat_less (suc i) (suc at) = elim (nat_less i at) [ inl h ↦ inl (omega (arith, h)) | inr h ↦ inr (omega (arith, h)) ]

-- what is known is of a place within the list
pub known_low : (bests : List (Option Best)) (p : ℕ) (best : Best) → best_at bests p ≡ Some best → p < length bests
known_low bests p best is = elim (nat_less p (length bests)) [
  | inl low ↦ low
  | inr past ↦ (let wrong : None ≡ Some best = sym (get_or_past bests p None past) ∙ is in absurd (cc))
]

-- one number is less, the same, or more
place_of : (i at : ℕ) → (i < at) ⊎ ((i ≡ at) ⊎ (at < i))
place_of i at = elim (eqb_tells i at) [
  | inl same ↦ inr (inl same.1)
  | inr differ ↦ elim (nat_less i at) [ inl less ↦ inl less | inr more ↦ (let no = differ.1 in inr (inr (omega (arith, no, more)))) ]
]

module _ (bests : List (Option Best)) (queue : List ℕ) (h : IsQueue bests queue) where
  abbrev at_ : ℕ → ℕ
  at_ i = slice_index queue i

  -- ## A seat is found by halves

  pub all_from : (place middle : ℕ) → is_nearer bests (at_ middle) place ≡ true → (i : ℕ) → middle ≤ i → i < length queue → is_nearer bests (at_ i) place ≡ true
  all_from place middle is i low high = elim (place_of middle i) [
    | inl less ↦ go (is_nearer bests (at_ i) place) refl (h.falls middle i less high)
    | inr (inl same) ↦ ap (λ k. is_nearer bests (at_ k) place) (sym same) ∙ is
    | inr (inr more) ↦ absurd (omega (arith, low, more))
  ]
    where
      go : (r : Bool) → is_nearer bests (at_ i) place ≡ r → is_nearer bests (at_ middle) (at_ i) ≡ false → r ≡ true
      go true e k = refl
      go false e k = absurd (true≢false (sym is ∙ (nearer_order bests).chain (at_ middle) (at_ i) place k e))

  pub none_up_to : (place middle : ℕ) → middle < length queue → is_nearer bests (at_ middle) place ≡ false → (i : ℕ) → i < middle + 1 → is_nearer bests (at_ i) place ≡ false
  none_up_to place middle under is i low = elim (place_of i middle) [
    | inl less ↦ (nearer_order bests).chain (at_ i) (at_ middle) place (h.falls i middle less under) is
    | inr (inl same) ↦ ap (λ k. is_nearer bests (at_ k) place) same ∙ is
    | inr (inr more) ↦ absurd (omega (arith, low, more))
  ]

  -- ## A place is added

  module _ (place seat : ℕ) (known : (best : Best) × (best_at bests place ≡ Some best)) (is : IsSeat bests queue place seat) where
    abbrev more : List ℕ
    more = insert queue seat place

    new_at : (k : ℕ) → k < seat → slice_index more k ≡ at_ k
    new_at k low = get_or-insert_below queue seat place 0 k low is.within

    new_seat : slice_index more seat ≡ place
    new_seat = get_or-insert_at queue seat place 0 is.within

    new_above : (k : ℕ) → seat ≤ k → slice_index more (k + 1) ≡ at_ k
    new_above k low = get_or-insert_above queue seat place 0 k low is.within

    -- the value at a place of the longer queue
    Stands : ℕ → Type 0
    Stands k = ((k < seat) × (slice_index more k ≡ at_ k)) ⊎ (((k ≡ seat) × (slice_index more k ≡ place)) ⊎ ((j : ℕ) × (k ≡ j + 1) × (seat ≤ j) × (slice_index more k ≡ at_ j)))

    stands : (k : ℕ) → Stands k
    unfolding Stands
    stands k = elim (place_of k seat) [
      | inl low ↦ inl (low, new_at k low)
      | inr (inl same) ↦ inr (inl (same, ap (slice_index more) same ∙ new_seat))
      | inr (inr high) ↦ (let back : k ≡ (k - 1) + 1 = omega (arith, high) in inr (inr (k - 1, back, omega (arith, high), ap (slice_index more) back ∙ new_above (k - 1) (omega (arith, high)))))
    ]

    abbrev near_at : ℕ → ℕ → Bool
    near_at x y = is_nearer bests x y

    pub added : (length more ≡ length queue + 1) → IsQueue bests more
    unfolding Stands
    added long = record {
      known = λ k low. elim (stands k) [
        | inl below ↦ (let old = h.known k (let w = is.within in let b = below.0 in omega (arith, w, b)) in (old.0, ap (best_at bests) below.1 ∙ old.1))
        | inr (inl same) ↦ (known.0, ap (best_at bests) same.1 ∙ known.1)
        | inr (inr above) ↦ (let old = h.known above.0 (let b = above.1 in omega (arith, low, long, b)) in (old.0, ap (best_at bests) above.3 ∙ old.1))
      ];
      falls = λ i j less low. elim (stands i) [
        | inl a ↦ elim (stands j) [
          | inl b ↦ ap (λ x. near_at x (slice_index more j)) a.1 ∙ ap (near_at (at_ i)) b.1 ∙ h.falls i j less (let w = is.within in let c = b.0 in omega (arith, w, c))
          | inr (inl b) ↦ ap (λ x. near_at x (slice_index more j)) a.1 ∙ ap (near_at (at_ i)) b.1 ∙ is.before i a.0
          | inr (inr b) ↦ ap (λ x. near_at x (slice_index more j)) a.1 ∙ ap (near_at (at_ i)) b.3 ∙ h.falls i b.0 (let c = a.0 in let d = b.2 in omega (arith, c, d)) (let d = b.1 in omega (arith, low, long, d))
        ]
        | inr (inl a) ↦ elim (stands j) [
          | inl b ↦ absurd (let c = a.0 in let d = b.0 in omega (arith, less, c, d))
          | inr (inl b) ↦ absurd (let c = a.0 in let d = b.0 in omega (arith, less, c, d))
          | inr (inr b) ↦ ap (λ x. near_at x (slice_index more j)) a.1 ∙ ap (near_at place) b.3 ∙ (nearer_order bests).one_way (at_ b.0) place (is.behind b.0 b.2 (let d = b.1 in omega (arith, low, long, d)))
        ]
        | inr (inr a) ↦ elim (stands j) [
          | inl b ↦ absurd (let c = a.1 in let d = b.0 in let e = a.2 in omega (arith, less, c, d, e))
          | inr (inl b) ↦ absurd (let c = a.1 in let d = b.0 in let e = a.2 in omega (arith, less, c, d, e))
          | inr (inr b) ↦ ap (λ x. near_at x (slice_index more j)) a.3 ∙ ap (near_at (at_ a.0)) b.3 ∙ h.falls a.0 b.0 (let c = a.1 in let d = b.1 in omega (arith, less, c, d)) (let d = b.1 in omega (arith, low, long, d))
        ]
      ];
    }

    pub added_holds : (length more ≡ length queue + 1) → (p : ℕ) → HasPlace queue p ⊎ (p ≡ place) → HasPlace more p
    added_holds long p (inl old) = elim (place_of old.0 seat) [
      | inl low ↦ (old.0, (let b = old.1 in omega (arith, long, b)), new_at old.0 low ∙ old.2)
      | inr (inl same) ↦ (old.0 + 1, (let b = old.1 in omega (arith, long, b)), new_above old.0 (omega (arith, same)) ∙ old.2)
      | inr (inr high) ↦ (old.0 + 1, (let b = old.1 in omega (arith, long, b)), new_above old.0 (omega (arith, high)) ∙ old.2)
    ]
    added_holds long p (inr same) = (seat, (let w = is.within in omega (arith, long, w)), new_seat ∙ sym same)

  -- ## Places leave at the end

  pub fewer : (count : ℕ) → count ≤ length queue → length (take count queue) ≡ count → IsQueue bests (take count queue)
  fewer count few long = record {
    known = λ i low. let old = h.known i (omega (arith, long, low, few)) in (old.0, ap (best_at bests) (get_or-take count queue i 0 (omega (arith, long, low))) ∙ old.1);
    falls = λ i j less low. ap (λ x. is_nearer bests x (slice_index (take count queue) j)) (get_or-take count queue i 0 (omega (arith, long, low, less)))
        ∙ ap (is_nearer bests (at_ i)) (get_or-take count queue j 0 (omega (arith, long, low))) ∙ h.falls i j less (omega (arith, long, low, few));
  }

  -- ## One more place is known, which isn't in the queue

  module _ (place : ℕ) (best : Best) (out : best_at bests place ≡ None) where
    differs : (i : ℕ) → i < length queue → at_ i ≢ place
    differs i low e = let known = h.known i low in let wrong : Some known.0 ≡ None = sym known.1 ∙ ap (best_at bests) e ∙ out in absurd (cc)

    same_key : (p : ℕ) → p ≢ place → key_at (slice_set bests place (Some best)) p ≡ key_at bests p
    same_key p other = ap (λ (o : Option Best). option_map_or (λ (b : Best). b) o (record { cost = 0; length = 0; next = None })) (get_or-set_other bests place p (Some best) None other)

    pub queue_set : IsQueue (slice_set bests place (Some best)) queue
    queue_set = record {
      known = λ i low. let old = h.known i low in (old.0, get_or-set_other bests place (at_ i) (Some best) None (differs i low) ∙ old.1);
      falls = λ i j less low.
          ap (λ (b : Best). is_lt (best_cmp b (at_ i) (key_at (slice_set bests place (Some best)) (at_ j)) (at_ j))) (same_key (at_ i) (differs i (omega (arith, less, low))))
          ∙ ap (λ (b : Best). is_lt (best_cmp (key_at bests (at_ i)) (at_ i) b (at_ j))) (same_key (at_ j) (differs j low))
          ∙ h.falls i j less low;
    }

-- the last of the first places, by its place among all
pub last_stands : (all queue : List ℕ) (at place : ℕ) → queue ≡ take (length queue) all → at + 1 ≡ length queue → place ≡ slice_index queue at → place ≡ slice_index all at
last_stands all queue at place left last is = is ∙ ap (λ xs. slice_index xs at) left ∙ get_or-take (length queue) all at 0 (omega arith)
