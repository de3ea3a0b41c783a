-- Each append form: what an operator computes of a BAT and what follows it.
use Rattle.std.proofs.Common.{◌≡◌, ℕ, ◌+◌, ◌%◌, ◌^◌, ◌≤◌, ◌<◌, List, [], ◌∷◌, ◌++◌, Bool, true, false, not, ◌&&◌, cond, refl, ap, sym, ◌∙◌, subst, arith, length, map, nat_lt, ltb-true}
use Rattle.std.specs.Prelude.{filter, ◌==◌, if◌then◌else◌}
use Rattle.std.specs.List.{enumerate_from}
use Rattle.std.specs.Cmp.{first_so, second_so}
use Rattle.std.specs.Ordering.{is_lt, ordering_then}
use Rattle.std.proofs.lemmas.Bool.Decides.{Decides-eqb}
use Rattle.std.specs.declared.cmp.Ordering.TheVariants.{Less, Equal, Greater}
use Rattle.std.proofs.lemmas.List.Elements.{filter-append}
use Rattle.std.proofs.lemmas.List.Concat.{flat_map-append}
use Rattle.cell_core.specs.declared.cell.Cell.{Cell}
use Rattle.cell_core.specs.declared.cell.Cell.TheVariants.{Nil, Int, Huge, Text, Day, Bit, Oid}
use Rattle.cell_core.specs.Order.{cell_cmp}
use Rattle.cell_core.specs.Pairs.{Pairs, is_nil}
use Rattle.cell_core.specs.Same.{same_cell, same_decides}
use Rattle.cell_core.specs.Relations.{is_within, selected, reversed, mirrored, counted_from, marked, projected, meets, matches, joined}
use Rattle.reuse_laws.specs.Grown.{raised, stand_below, AreFrom}

pub map_append : {X Y : Type 0} (f : X → Y) (xs ys : List X) → map f (xs ++ ys) ≡ map f xs ++ map f ys
map_append f [] ys = refl
map_append f (x ∷ xs) ys = ap (λ zs. f x ∷ zs) (map_append f xs ys)

pub selected_append : (low high : Cell) (li hi : Bool) (b d : Pairs) → selected low high li hi (b ++ d) ≡ selected low high li hi b ++ selected low high li hi d
selected_append low high li hi b d = filter-append (λ (p : Cell × Cell). is_within low high li hi p.1) b d

pub reversed_append : (b d : Pairs) → reversed (b ++ d) ≡ reversed b ++ reversed d
reversed_append b d = map_append (λ (p : Cell × Cell). (p.1, p.0)) b d

pub mirrored_append : (b d : Pairs) → mirrored (b ++ d) ≡ mirrored b ++ mirrored d
mirrored_append b d = map_append (λ (p : Cell × Cell). (p.0, p.0)) b d

pub projected_append : (cell : Cell) (b d : Pairs) → projected cell (b ++ d) ≡ projected cell b ++ projected cell d
projected_append cell b d = map_append (λ (p : Cell × Cell). (p.0, cell)) b d

pub joined_append : (l d r : Pairs) → joined (l ++ d) r ≡ joined l r ++ joined d r
joined_append l d r = flat_map-append (matches r) l d

-- ## Marks

numbered_append : {X : Type 0} (n : ℕ) (xs ys : List X) → enumerate_from n (xs ++ ys) ≡ enumerate_from n xs ++ enumerate_from (n + length xs) ys
numbered_append n [] ys = ap (λ k. enumerate_from k ys) (omega arith)
numbered_append n (x ∷ xs) ys = ap (λ zs. (n, x) ∷ zs) (numbered_append (n + 1) xs ys ∙ ap (λ k. enumerate_from (n + 1) xs ++ enumerate_from k ys) (omega arith))

-- a count goes on
counts_on : (base : Cell) (k j : ℕ) → k + j < 2 ^ 62 → counted_from base (k + j) ≡ counted_from (raised base k) j
counts_on Nil k j low = refl
counts_on (Int n) k j low = refl
counts_on (Huge n) k j low = refl
counts_on (Text bs) k j low = refl
counts_on (Day n) k j low = refl
counts_on (Bit b) k j low = refl
counts_on (Oid base) k j low = elim (base == 0) as (λ b. (base == 0) ≡ b → Oid (if b then k + j else (base + (k + j)) % 2 ^ 64) ≡ Oid (if (base + k) % 2 ^ 64 == 0 then j else ((base + k) % 2 ^ 64 + j) % 2 ^ 64)) [
  | true ↦ λ e. let is = (Decides-eqb base 0).0 e in elim ((base + k) % 2 ^ 64 == 0) as (λ b. ((base + k) % 2 ^ 64 == 0) ≡ b → Oid (k + j) ≡ Oid (if b then j else ((base + k) % 2 ^ 64 + j) % 2 ^ 64)) [
    | true ↦ λ z. let none = (Decides-eqb ((base + k) % 2 ^ 64) 0).0 z in ap Oid (omega (arith, is, none))
    | false ↦ λ z. ap Oid (omega (arith, is))
  ] refl
  | false ↦ λ e. elim ((base + k) % 2 ^ 64 == 0) as (λ b. ((base + k) % 2 ^ 64 == 0) ≡ b → Oid ((base + (k + j)) % 2 ^ 64) ≡ Oid (if b then j else ((base + k) % 2 ^ 64 + j) % 2 ^ 64)) [
    | true ↦ λ z. let none = (Decides-eqb ((base + k) % 2 ^ 64) 0).0 z in ap Oid (omega (arith, none))
    | false ↦ λ z. ap Oid (omega arith)
  ] refl
] refl

abbrev counted : Cell → ℕ × (Cell × Cell) → Cell × Cell
counted base n = (n.1.0, counted_from base n.0)

marked_on : (base : Cell) (k j : ℕ) (d : Pairs) → k + j + length d < 2 ^ 62 → map (counted base) (enumerate_from (k + j) d) ≡ map (counted (raised base k)) (enumerate_from j d)
marked_on base k j [] low = refl
marked_on base k j (p ∷ d) low =
    ap (λ c. pair_of c ∷ map (counted base) (enumerate_from (k + j + 1) d)) (counts_on base k j (omega arith))
    ∙ ap (λ n. pair_of (counted_from (raised base k) j) ∷ map (counted base) (enumerate_from n d)) (omega arith)
    ∙ ap (λ zs. pair_of (counted_from (raised base k) j) ∷ zs) (marked_on base k (j + 1) d (omega arith))
  where
    pair_of : Cell → Cell × Cell
    pair_of c = (p.0, c)

pub marked_append : (base : Cell) (b d : Pairs) → length b + length d < 2 ^ 62 → marked base (b ++ d) ≡ marked base b ++ marked (raised base (length b)) d
marked_append base b d low =
    ap (map (counted base)) (numbered_append 0 b d)
    ∙ map_append (counted base) (enumerate_from 0 b) (enumerate_from (0 + length b) d)
    ∙ ap (λ k. marked base b ++ map (counted base) (enumerate_from k d)) (omega arith)
    ∙ ap (λ zs. marked base b ++ zs) (marked_on base (length b) 0 d (omega arith))

-- ## A join whose right side grew

oid_low : (m n : ℕ) → is_lt (cell_cmp (Oid m) (Oid n)) ≡ true → m < n
oid_low m n e = elim (nat_lt m n) as (λ b. nat_lt m n ≡ b → m < n) [
  | true ↦ λ h. ltb-true m n h
  | false ↦ λ h. let wrong : true ≡ false = sym e ∙ not_low (nat_lt m n) (nat_lt n m) h in cc
] refl
  where
    not_low : (a b : Bool) → a ≡ false → is_lt (ordering_then (cond a Less (cond b Greater Equal)) Equal) ≡ false
    not_low true b h = cc
    not_low false true h = refl
    not_low false false h = refl

no_meeting : (n : ℕ) (x : Cell) (q : Cell × Cell) → is_lt (cell_cmp x (Oid n)) ≡ true → (m : ℕ) × (q.0 ≡ Oid m) × (n ≤ m) → meets x q.0 ≡ false
no_meeting n x q low h = elim (same_cell x q.0) as (λ b. same_cell x q.0 ≡ b → (not (is_nil x) && b) ≡ false) [
  | true ↦ λ e.
      let same : x ≡ Oid h.0 = (same_decides x q.0).0 e ∙ h.1 in
      let under : h.0 < n = oid_low h.0 n (subst (λ c. is_lt (cell_cmp c (Oid n)) ≡ true) same low) in
      absurd (omega (arith, under, h.2))
  | false ↦ λ _. elim (not (is_nil x)) as (λ b. (b && false) ≡ false) [ true ↦ refl | false ↦ refl ]
] refl

none_meets : (n : ℕ) (x : Cell) (e : Pairs) → is_lt (cell_cmp x (Oid n)) ≡ true → AreFrom n e → filter (λ q. meets x q.0) e ≡ []
none_meets n x [] low h = refl
none_meets n x (q ∷ e) low h = ap (λ b. cond b (q ∷ filter (λ q. meets x q.0) e) (filter (λ q. meets x q.0) e)) (no_meeting n x q low h.0) ∙ none_meets n x e low h.1

append_nil : {X : Type 0} (xs : List X) → xs ++ [] ≡ xs
append_nil [] = refl
append_nil (x ∷ xs) = ap (λ ys. x ∷ ys) (append_nil xs)

matches_grown : (n : ℕ) (p : Cell × Cell) (r e : Pairs) → is_lt (cell_cmp p.1 (Oid n)) ≡ true → AreFrom n e → matches (r ++ e) p ≡ matches r p
matches_grown n p r e low h =
    ap (map (λ (q : Cell × Cell). tail_beside p q)) (filter-append (λ (q : Cell × Cell). meets p.1 q.0) r e ∙ ap (λ zs. filter (λ (q : Cell × Cell). meets p.1 q.0) r ++ zs) (none_meets n p.1 e low h) ∙ append_nil (filter (λ (q : Cell × Cell). meets p.1 q.0) r))
  where
    tail_beside : Cell × Cell → Cell × Cell → Cell × Cell
    tail_beside p q = (p.0, q.1)

pub joined_grown : (n : ℕ) (l r e : Pairs) → stand_below n l ≡ true → AreFrom n e → joined l (r ++ e) ≡ joined l r
joined_grown n [] r e low h = refl
joined_grown n (p ∷ l) r e low h =
    let here = first_so (is_lt (cell_cmp p.1 (Oid n))) (stand_below n l) low in
    let rest = second_so (is_lt (cell_cmp p.1 (Oid n))) (stand_below n l) low in
    ap (λ zs. zs ++ joined l (r ++ e)) (matches_grown n p r e here h) ∙ ap (λ zs. matches r p ++ zs) (joined_grown n l r e rest h)

pub joined_both : (n : ℕ) (l d r e : Pairs) → stand_below n l ≡ true → AreFrom n e → joined (l ++ d) (r ++ e) ≡ joined l r ++ joined d (r ++ e)
joined_both n l d r e low h = joined_append l d (r ++ e) ∙ ap (λ zs. zs ++ joined d (r ++ e)) (joined_grown n l r e low h)
