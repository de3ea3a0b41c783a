-- BATs of groups: their columns, and the heads of the groups.
use Rattle.std.proofs.Common.{◌≡◌, ℕ, suc, zero, ◌+◌, ◌<◌, ◌≤◌, Bool, true, false, not, ◌&&◌, ◌||◌, cond, List, [], ◌∷◌, ◌++◌, length, get_or, take, map, refl, sym, ap, ◌∙◌, arith}
use Rattle.std.specs.Prelude.{filter}
use Rattle.std.specs.List.{zip, list_any, position_or_len, enumerate_from}
use Rattle.std.specs.Cmp.{IsEquivalence}
use Rattle.std.proofs.lemmas.List.{length-map, map_push, take_all}
use Rattle.std.proofs.lemmas.List.FromFn.{length-enumerate_from}
use Rattle.std.proofs.lemmas.List.Sums.{prefix_len-le-length}
use Rattle.std.proofs.lemmas.Slice.Zip.{get_or-zip}
use Rattle.cell_core.specs.declared.cell.Cell.{Cell}
use Rattle.cell_core.specs.declared.cell.Cell.TheVariants.{Oid}
use Rattle.cell_core.specs.Same.{same_cell, same_equivalence}
use Rattle.cell_core.specs.Pairs.{Pairs, heads_of, tails_of, numbered}
use Rattle.cell_core.specs.Groups.{distinct, group_heads_of, same_pair}
use Rattle.bat_group.proofs.NumberLemmas.{distinct_push, found_by_number, missed_by_number}

-- a function of the tails beside the heads
pub zip_tails : (f : Cell → Cell) (b : Pairs) → zip (heads_of b) (map f (tails_of b)) ≡ map (λ p. (p.0, f p.1)) b
zip_tails f [] = refl
zip_tails f (p ∷ b) = ap (λ rest. (p.0, f p.1) ∷ rest) (zip_tails f b)

-- only the first cells are beside others
pub zip_take : (n : ℕ) (xs ys : List Cell) → length ys ≤ n → zip (take n xs) ys ≡ zip xs ys
zip_take n [] [] short = ap (λ l. zip l []) (take_all n [] (omega arith))
zip_take n [] (y ∷ ys) short = ap (λ l. zip l (y ∷ ys)) (take_all n [] (omega arith))
zip_take zero (x ∷ xs) [] short = refl
zip_take (suc n) (x ∷ xs) [] short = refl
zip_take zero (x ∷ xs) (y ∷ ys) short = absurd (omega arith)
zip_take (suc n) (x ∷ xs) (y ∷ ys) short = ap (λ rest. (x, y) ∷ rest) (zip_take n xs ys (omega arith))

-- two pairs are the same where both cells are
pub both_first : (a b c d : Bool) → (a ≡ true → b ≡ true → c ≡ d) → (a && b) ≡ true → c ≡ d
both_first true true c d f e = f refl refl
both_first true false c d f e = cc
both_first false b c d f e = cc

pub same_pair_equivalence : IsEquivalence same_pair
same_pair_equivalence = record {
  refl = λ p. ap (λ b. b && same_cell p.1 p.1) (same_equivalence.refl p.0) ∙ same_equivalence.refl p.1;
  symm = λ p q. ap (λ b. b && same_cell p.1 q.1) (same_equivalence.symm p.0 q.0) ∙ ap (λ b. same_cell q.0 p.0 && b) (same_equivalence.symm p.1 q.1);
  congr = λ p q r e. both_first (same_cell p.0 q.0) (same_cell p.1 q.1) (same_pair p r) (same_pair q r)
      (λ a b. ap (λ x. x && same_cell p.1 r.1) (same_equivalence.congr p.0 q.0 r.0 a) ∙ ap (λ x. same_cell q.0 r.0 && x) (same_equivalence.congr p.1 q.1 r.1 b)) e;
}

-- ## The heads of the groups
abbrev same_tail : Cell × Cell → Cell × Cell → Bool
same_tail p q = same_cell p.1 q.1

same_tail_equivalence : IsEquivalence same_tail
same_tail_equivalence = record {
  refl = λ p. same_equivalence.refl p.1;
  symm = λ p q. same_equivalence.symm p.1 q.1;
  congr = λ p q r e. same_equivalence.congr p.1 q.1 r.1 e;
}

tails-filter : (p : Cell × Cell) (b : Pairs) → tails_of (filter (λ q. not (same_tail p q)) b) ≡ filter (λ y. not (same_cell p.1 y)) (tails_of b)
tails-filter p [] = refl
tails-filter p (q ∷ b) =
    elim (same_cell p.1 q.1) as (λ x. tails_of (cond (not x) (q ∷ filter (λ r. not (same_tail p r)) b) (filter (λ r. not (same_tail p r)) b)) ≡ cond (not x) (q.1 ∷ filter (λ y. not (same_cell p.1 y)) (tails_of b)) (filter (λ y. not (same_cell p.1 y)) (tails_of b))) [
      | true ↦ tails-filter p b
      | false ↦ ap (λ l. q.1 ∷ l) (tails-filter p b)
    ]

-- the tails of the first pairs are the distinct tails
tails-distinct : (b : Pairs) → tails_of (distinct same_tail b) ≡ distinct same_cell (tails_of b)
tails-distinct [] = refl
tails-distinct (p ∷ b) = ap (λ l. p.1 ∷ l) (tails-filter p (distinct same_tail b) ∙ ap (filter (λ y. not (same_cell p.1 y))) (tails-distinct b))

any-tails : (c : Cell) (b : Pairs) → list_any (λ y. same_cell y c) (tails_of b) ≡ list_any (λ q. same_cell q.1 c) b
any-tails c [] = refl
any-tails c (q ∷ b) = ap (λ x. same_cell q.1 c || x) (any-tails c b)

enumerate-push : (n : ℕ) (cells : List Cell) (c : Cell) → enumerate_from n (cells ++ c ∷ []) ≡ enumerate_from n cells ++ (n + length cells, c) ∷ []
enumerate-push n [] c = ap (λ k. (k, c) ∷ []) (omega arith)
enumerate-push n (x ∷ cells) c = let next : n + 1 + length cells ≡ n + suc (length cells) = omega arith in ap (λ l. (n, x) ∷ l) (enumerate-push (n + 1) cells c ∙ ap (λ k. enumerate_from (n + 1) cells ++ (k, c) ∷ []) next)

-- one more numbered cell
pub numbered_push : (cells : List Cell) (c : Cell) → numbered (cells ++ c ∷ []) ≡ numbered cells ++ (Oid (length cells), c) ∷ []
numbered_push cells c =
    let next : 0 + length cells ≡ length cells = omega arith in
    ap (map (λ (p : ℕ × Cell). (Oid p.0, p.1))) (enumerate-push 0 cells c) ∙ map_push (λ (p : ℕ × Cell). (Oid p.0, p.1)) (enumerate_from 0 cells) (0 + length cells, c)
    ∙ ap (λ k. numbered cells ++ (Oid k, c) ∷ []) next

pub length-numbered : (cells : List Cell) → length (numbered cells) ≡ length cells
length-numbered cells = length-map (enumerate_from 0 cells) (λ (p : ℕ × Cell). (Oid p.0, p.1)) ∙ length-enumerate_from 0 cells

pub length-group_heads : (b : Pairs) → length (group_heads_of b) ≡ length (distinct same_cell (tails_of b))
length-group_heads b =
    length-numbered (heads_of (distinct same_tail b)) ∙ length-map (distinct same_tail b) (λ p. p.0) ∙ sym (length-map (distinct same_tail b) (λ p. p.1)) ∙ ap length (tails-distinct b)

-- one pair more
module _ (g : Pairs) (p : Cell × Cell) (n : ℕ) (number : n ≡ position_or_len (λ y. same_cell y p.1) (distinct same_cell (tails_of g))) where
  number_here : n ≡ position_or_len (λ y. same_cell y p.1) (tails_of (distinct same_tail g))
  number_here = number ∙ ap (λ l. position_or_len (λ y. same_cell y p.1) l) (sym (tails-distinct g))

  long : length (group_heads_of g) ≡ length (tails_of (distinct same_tail g))
  long = length-group_heads g ∙ ap length (sym (tails-distinct g))

  heads_after : (b : Bool) → list_any (λ y. same_cell y p.1) (tails_of (distinct same_tail g)) ≡ b → group_heads_of (g ++ p ∷ []) ≡ numbered (heads_of (cond b (distinct same_tail g) (distinct same_tail g ++ p ∷ [])))
  heads_after b any =
      ap (λ l. numbered (heads_of l)) (distinct_push same_tail same_tail_equivalence g p
      ∙ ap (λ x. cond x (distinct same_tail g) (distinct same_tail g ++ p ∷ [])) (sym (any-tails p.1 (distinct same_tail g)) ∙ any))

  -- a number past all groups so far is a new group
  pub heads_next : n ≡ length (group_heads_of g) → group_heads_of (g ++ p ∷ []) ≡ group_heads_of g ++ (Oid n, p.0) ∷ []
  heads_next last =
      let place : length (heads_of (distinct same_tail g)) ≡ n = length-map (distinct same_tail g) (λ q. q.0) ∙ sym (length-map (distinct same_tail g) (λ q. q.1)) ∙ sym long ∙ sym last in
      heads_after false (missed_by_number (λ y. same_cell y p.1) (tails_of (distinct same_tail g)) (sym number_here ∙ last ∙ long))
      ∙ ap numbered (map_push (λ (q : Cell × Cell). q.0) (distinct same_tail g) p)
      ∙ numbered_push (heads_of (distinct same_tail g)) p.0
      ∙ ap (λ k. group_heads_of g ++ (Oid k, p.0) ∷ []) place

  pub heads_stay : (n ≡ length (group_heads_of g) → ⊥) → group_heads_of (g ++ p ∷ []) ≡ group_heads_of g
  heads_stay other =
      heads_after true (found_by_number (λ y. same_cell y p.1) (tails_of (distinct same_tail g))
      (omega (arith, number_here, long, other, prefix_len-le-length (λ y. not (same_cell y p.1)) (tails_of (distinct same_tail g)))))

-- the tails of one pair more
pub tails_push : (g : Pairs) (p : Cell × Cell) → tails_of (g ++ p ∷ []) ≡ tails_of g ++ p.1 ∷ []
tails_push g p = map_push (λ (q : Cell × Cell). q.1) g p

-- two cells that were read side by side
pub zip_read : (xs ys : List Cell) (i : ℕ) (a b : Cell) → i < length xs → i < length ys → a ≡ get_or xs i a → b ≡ get_or ys i b → (a, b) ≡ get_or (zip xs ys) i (a, b)
zip_read xs ys i a b x y left right = ap (λ c. (c, b)) left ∙ ap (λ c. (get_or xs i a, c)) right ∙ sym (get_or-zip xs ys i (a, b) x y)

pub length-tails : (b : Pairs) → length (tails_of b) ≡ length b
length-tails b = length-map b (λ p. p.1)
