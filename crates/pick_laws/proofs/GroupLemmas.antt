-- Numbers of groups, their first picks and their members.
use Rattle.std.proofs.Common.{◌≡◌, ℕ, suc, ◌+◌, ◌<◌, ◌==◌, List, [], ◌∷◌, ◌++◌, length, map, filter, Bool, true, false, not, ◌&&◌, ◌||◌, cond, refl, ap, sym, ◌∙◌, subst, ◌⊎◌, inl, inr, ⊎_elim, arith, append_assoc, length-append}
use Rattle.std.specs.Prelude.{get_or, zip}
use Rattle.std.specs.List.{AllByRecursion, enumerate_from, list_any, position_or_len}
use Rattle.std.specs.Cmp.{IsEquivalence}
use Rattle.std.proofs.Math.Seq.{get_or-append_seam}
use Rattle.std.proofs.lemmas.List.{map-append, length-map}
use Rattle.std.proofs.lemmas.Bool.{eq-eqb, ne_eqb, false≢true}
use Rattle.cell_core.specs.declared.cell.Cell.{Cell}
use Rattle.cell_core.specs.declared.cell.Cell.TheVariants.{Nil, Oid}
use Rattle.cell_core.specs.Same.{same_cell}
use Rattle.cell_core.specs.Pairs.{heads_of, tails_of, numbered}
use Rattle.cell_core.specs.Relations.{joined, projected}
use Rattle.cell_core.specs.Groups.{distinct, group_number, grouped, same_pair, paired_tails, derived, group_heads_of, members, by_group}
use Rattle.pick_laws.specs.Picks.{numbered_from, IsBelow}
use Rattle.pick_laws.specs.Numbers.{through, Agrees, alike, firsts, number_oids, new_number, derived_number}
use Rattle.pick_laws.proofs.ListLemmas.{longer, map_after, map_agree, filter_map_swaps, filter_agree_all, all_filter}
use Rattle.pick_laws.proofs.NumberLemmas.{gathered, tails_of_numbered}
use Rattle.pick_laws.proofs.HeadLemmas.{any_kept}
use Rattle.pick_laws.proofs.KeepLemmas.{projected_is}

-- ## Distinct elements

module _ {X Y : Type 0} (f : X → Y) (same : Y → Y → Bool) where
  pub distinct_map : (xs : List X) → distinct same (map f xs) ≡ map f (distinct (through f same) xs)
  distinct_map [] = refl
  distinct_map (x ∷ xs) =
      ap (λ ys. f x ∷ filter (λ y. not (same (f x) y)) ys) (distinct_map xs)
      ∙ ap (λ ys. f x ∷ ys) (filter_map_swaps (λ y. not (same (f x) y)) f (distinct (through f same) xs))

  position_map : (t : Y → Bool) (xs : List X) → position_or_len t (map f xs) ≡ position_or_len (λ x. t (f x)) xs
  position_map t [] = refl
  position_map t (x ∷ xs) = ap (λ n. cond (not (t (f x))) (1 + n) 0) (position_map t xs)

  pub number_map : (xs : List X) (x : X) → group_number same (map f xs) (f x) ≡ group_number (through f same) xs x
  number_map xs x = ap (position_or_len (λ y. same y (f x))) (distinct_map xs) ∙ position_map (λ y. same y (f x)) (distinct (through f same) xs)

pub all_distinct : {X : Type 0} (rel : X → X → Bool) (Q : X → Type 0) (xs : List X) → AllByRecursion Q xs → AllByRecursion Q (distinct rel xs)
all_distinct rel Q [] a = tt
all_distinct rel Q (x ∷ xs) a = (a.0, all_filter Q (λ y. not (rel x y)) (distinct rel xs) (all_distinct rel Q xs a.1))

-- ## Numbers

module _ {X : Type 0} (rel : X → X → Bool) (eq : IsEquivalence rel) where
  same_right : (y p q : X) → rel p q ≡ true → rel y p ≡ rel y q
  same_right y p q e = eq.symm y p ∙ eq.congr p q y e ∙ eq.symm q y

  any_distinct_step : (x p : X) (xs : List X) → list_any (λ y. rel y p) (distinct rel xs) ≡ list_any (λ y. rel y p) xs
      → (b : Bool) → rel x p ≡ b → list_any (λ y. rel y p) (distinct rel (x ∷ xs)) ≡ list_any (λ y. rel y p) (x ∷ xs)
  any_distinct_step x p xs again true e =
      ap (λ b. b || list_any (λ y. rel y p) (filter (λ y. not (rel x y)) (distinct rel xs))) e ∙ ap (λ b. b || list_any (λ y. rel y p) xs) (sym e)
  any_distinct_step x p xs again false e =
      ap (λ b. rel x p || b)
      (any_kept (λ y p. rel y p) (λ y. not (rel x y)) (λ p. not (rel x p)) (λ y p h. ap not (same_right x y p h)) (distinct rel xs) p
      ∙ ap (λ b. list_any (λ y. rel y p) (distinct rel xs) && not b) e ∙ and_true (list_any (λ y. rel y p) (distinct rel xs)) ∙ again)
    where
      and_true : (b : Bool) → b && true ≡ b
      and_true true = refl
      and_true false = refl

  any_distinct : (p : X) (xs : List X) → list_any (λ y. rel y p) (distinct rel xs) ≡ list_any (λ y. rel y p) xs
  any_distinct p [] = refl
  any_distinct p (x ∷ xs) = any_distinct_step x p xs (any_distinct p xs) (rel x p) refl

  -- both pass where both come first
  meet_step : (t u : X → Bool) (x : X) (m n : ℕ) (b c : Bool) → t x ≡ b → u x ≡ c → cond (not b) (1 + m) 0 ≡ cond (not c) (1 + n) 0 → ((b ≡ true) × (c ≡ true)) ⊎ ((b ≡ false) × (m ≡ n))
  meet_step t u x m n true true e f h = inl (refl, refl)
  meet_step t u x m n true false e f h = absurd (apart n h)
    where
      apart : (n : ℕ) → 0 ≡ 1 + n → ⊥
      apart n h = omega arith
  meet_step t u x m n false true e f h = absurd (apart m h)
    where
      apart : (n : ℕ) → 1 + n ≡ 0 → ⊥
      apart n h = omega arith
  meet_step t u x m n false false e f h = inr (refl, less m n h)
    where
      less : (m n : ℕ) → 1 + m ≡ 1 + n → m ≡ n
      less m n h = omega arith

  meet : (t u : X → Bool) (xs : List X) → list_any t xs ≡ true → position_or_len t xs ≡ position_or_len u xs → (y : X) × (t y ≡ true) × (u y ≡ true)
  meet t u [] a h = cc
  meet t u (x ∷ xs) a h =
      ⊎_elim (λ both. (x, both.0, both.1)) (λ behind. meet t u xs (ap (λ b. b || list_any t xs) (sym behind.0) ∙ a) behind.1)
      (meet_step t u x (position_or_len t xs) (position_or_len u xs) (t x) (u x) refl refl h)

  position_agree : (t u : X → Bool) → ((x : X) → t x ≡ u x) → (xs : List X) → position_or_len t xs ≡ position_or_len u xs
  position_agree t u f [] = refl
  position_agree t u f (x ∷ xs) = ap (λ b. cond (not b) (1 + position_or_len t xs) 0) (f x) ∙ ap (λ n. cond (not (u x)) (1 + n) 0) (position_agree t u f xs)

  -- it is related to an element of the list
  abbrev pub IsIn : List X → X → Type 0
  IsIn xs p = list_any (λ y. rel y p) xs ≡ true

  -- two elements have one number just where they are related
  pub number_same : (xs : List X) (p q : X) → IsIn xs p → (b : Bool) → rel p q ≡ b → (group_number rel xs p == group_number rel xs q) ≡ b
  number_same xs p q is_in true e = eq-eqb (group_number rel xs p) (group_number rel xs q) (position_agree (λ y. rel y p) (λ y. rel y q) (λ y. same_right y p q e) (distinct rel xs))
  number_same xs p q is_in false e =
      ne_eqb (group_number rel xs p) (group_number rel xs q)
      (λ h. let both = meet (λ y. rel y p) (λ y. rel y q) (distinct rel xs) (any_distinct p xs ∙ is_in) h in
      false≢true (sym e ∙ sym (eq.congr both.0 p q both.1) ∙ both.2))

-- ## Agreeing relations

module _ {X : Type 0} (rel other : X → X → Bool) where
  not_along : (x : X) (xs : List X) → AllByRecursion (λ q. rel x q ≡ other x q) xs → AllByRecursion (λ q. not (rel x q) ≡ not (other x q)) xs
  not_along x [] a = tt
  not_along x (y ∷ xs) a = (ap not a.0, not_along x xs a.1)

  narrower : (x : X) (xs ys : List X) → Agrees rel other (x ∷ xs) ys → Agrees rel other xs ys
  narrower x xs [] a = tt
  narrower x xs (y ∷ ys) a = (a.0.1, narrower x xs ys a.1)

  pub distinct_agree : (xs : List X) → Agrees rel other xs xs → distinct rel xs ≡ distinct other xs
  distinct_agree [] a = refl
  distinct_agree (x ∷ xs) a =
      ap (λ ys. x ∷ filter (λ y. not (rel x y)) ys) (distinct_agree xs (narrower x xs xs a.1))
      ∙ ap (λ ys. x ∷ ys) (filter_agree_all (λ y. not (rel x y)) (λ y. not (other x y)) (distinct other xs)
      (not_along x (distinct other xs) (all_distinct other (λ q. rel x q ≡ other x q) xs a.0.1)))

-- ## The operators over numbered values

grouped_from : (names : List Cell) (k : ℕ) (cells : List Cell) → map (λ p. (p.0, Oid (group_number same_cell names p.1))) (numbered_from k cells) ≡ numbered_from k (map (λ c. Oid (group_number same_cell names c)) cells)
grouped_from names k [] = refl
grouped_from names k (c ∷ cells) = ap (λ r. (Oid k, Oid (group_number same_cell names c)) ∷ r) (grouped_from names (k + 1) cells)

heads_zip : (k : ℕ) (cells others : List Cell) → length cells ≡ length others → zip (heads_of (numbered_from k cells)) others ≡ numbered_from k others
heads_zip k [] [] e = refl
heads_zip k [] (o ∷ others) e = absurd (apart (length others) e)
  where
    apart : (n : ℕ) → 0 ≡ suc n → ⊥
    apart n h = omega arith
heads_zip k (c ∷ cells) [] e = absurd (apart (length cells) e)
  where
    apart : (n : ℕ) → suc n ≡ 0 → ⊥
    apart n h = omega arith
heads_zip k (c ∷ cells) (o ∷ others) e = ap (λ r. (Oid k, o) ∷ r) (heads_zip (k + 1) cells others (less (length cells) (length others) e))
  where
    less : (m n : ℕ) → suc m ≡ suc n → m ≡ n
    less m n h = omega arith

module _ {P : Type 0} where
  zip_same : {X Y : Type 0} (f : P → X) (g : P → Y) (ps : List P) → zip (map f ps) (map g ps) ≡ map (λ p. (f p, g p)) ps
  zip_same f g [] = refl
  zip_same f g (p ∷ ps) = ap (λ r. (f p, g p) ∷ r) (zip_same f g ps)

  pub grouped_is : (v : P → Cell) (picks : List P) → grouped (numbered (map v picks)) ≡ number_oids (new_number v picks) picks
  grouped_is v picks =
      ap (λ names. map (λ (p : Cell × Cell). (p.0, Oid (group_number same_cell names p.1))) (numbered (map v picks))) (tails_of_numbered (map v picks))
      ∙ grouped_from (map v picks) 0 (map v picks)
      ∙ ap numbered (map_after (λ c. Oid (group_number same_cell (map v picks) c)) v picks
      ∙ map_agree (λ p. Oid (group_number same_cell (map v picks) (v p))) (λ p. Oid (new_number v picks p)) (λ p. ap Oid (number_map v same_cell picks p)) picks)

  pub derived_is : (n : P → ℕ) (v : P → Cell) (picks : List P) → derived (number_oids n picks) (numbered (map v picks)) ≡ number_oids (derived_number n v picks) picks
  derived_is n v picks =
      ap (λ pairs. zip (heads_of (number_oids n picks)) (map (λ p. Oid (group_number same_pair pairs p)) pairs)) paired
      ∙ ap (λ cells. zip (heads_of (number_oids n picks)) cells)
      (map_after (λ p. Oid (group_number same_pair (map pair picks) p)) pair picks ∙ map_agree (λ p. Oid (group_number same_pair (map pair picks) (pair p))) (λ p. Oid (derived_number n v picks p)) (λ p. ap Oid (number_map pair same_pair picks p)) picks)
      ∙ heads_zip 0 (map (λ p. Oid (n p)) picks) (map (λ p. Oid (derived_number n v picks p)) picks) (length-map picks (λ p. Oid (n p)) ∙ sym (length-map picks (λ p. Oid (derived_number n v picks p))))
    where
      pair : P → Cell × Cell
      pair p = (Oid (n p), v p)

      paired : paired_tails (number_oids n picks) (numbered (map v picks)) ≡ map pair picks
      paired = ap (λ a. zip a (tails_of (numbered (map v picks)))) (tails_of_numbered (map (λ p. Oid (n p)) picks)) ∙ ap (zip (map (λ p. Oid (n p)) picks)) (tails_of_numbered (map v picks)) ∙ zip_same (λ p. Oid (n p)) v picks

  -- the sub aggregates: one cell for each group, over its members
  pub by_group_is : (aggregate : List Cell → Cell) (b : P → Cell) (n : P → ℕ) (picks : List P)
      → by_group aggregate (numbered (map b picks)) (number_oids n picks) ≡ numbered (map (λ q. aggregate (map b (filter (λ p. alike n p q) picks))) (firsts n picks))
  by_group_is aggregate b n picks =
      ap (λ tails. numbered (map (λ group. aggregate (members (numbered (map b picks)) (number_oids n picks) group)) (distinct same_cell tails))) (tails_of_numbered (map (λ p. Oid (n p)) picks))
      ∙ ap (λ groups. numbered (map (λ group. aggregate (members (numbered (map b picks)) (number_oids n picks) group)) groups)) (distinct_map (λ p. Oid (n p)) same_cell picks)
      ∙ ap numbered (map_after (λ group. aggregate (members (numbered (map b picks)) (number_oids n picks) group)) (λ p. Oid (n p)) (firsts n picks)
      ∙ map_agree (λ q. aggregate (members (numbered (map b picks)) (number_oids n picks) (Oid (n q)))) (λ q. aggregate (map b (filter (λ p. alike n p q) picks))) (λ q. ap aggregate (members_are q)) (firsts n picks))
    where
      members_are : (q : P) → members (numbered (map b picks)) (number_oids n picks) (Oid (n q)) ≡ map b (filter (λ p. alike n p q) picks)
      members_are q =
          ap (λ pairs. map (λ (p : Cell × Cell). p.0) (filter (λ (p : Cell × Cell). same_cell p.1 (Oid (n q))) pairs))
          (ap (λ a. zip a (tails_of (number_oids n picks))) (tails_of_numbered (map b picks)) ∙ ap (zip (map b picks)) (tails_of_numbered (map (λ p. Oid (n p)) picks)) ∙ zip_same b (λ p. Oid (n p)) picks)
          ∙ ap (map (λ (p : Cell × Cell). p.0)) (filter_map_swaps (λ (p : Cell × Cell). same_cell p.1 (Oid (n q))) (λ p. (b p, Oid (n p))) picks)
          ∙ map_after (λ (p : Cell × Cell). p.0) (λ p. (b p, Oid (n p))) (filter (λ p. alike n p q) picks)

  -- ## The heads of groups

  -- an element is at its place
  abbrev StandsAt : List Cell → (P → Cell) → ℕ × P → Type 0
  StandsAt cells v e = (e.0 < length cells) × (get_or cells e.0 Nil ≡ v e.1)

  stand_behind : (v : P → Cell) (before ps : List P) → AllByRecursion (StandsAt (map v (before ++ ps)) v) (enumerate_from (length before) ps)
  stand_behind v before [] = tt
  stand_behind v before (p ∷ ps) = (
    (
      within (length (map v (before ++ p ∷ ps))) (length before) (length ps) (ap length (map-append v before (p ∷ ps)) ∙ length-append (map v before) (map v (p ∷ ps)) ∙ ap (λ n. n + length (map v (p ∷ ps))) (length-map before v) ∙ ap (λ n. length before + n) (length-map (p ∷ ps) v)),
      ap (λ cells. get_or cells (length before) Nil) (map-append v before (p ∷ ps)) ∙ ap (λ n. get_or (map v before ++ v p ∷ map v ps) n Nil) (sym (length-map before v)) ∙ get_or-append_seam (map v before) (v p) (map v ps) Nil,
    ),
    subst (λ k. AllByRecursion (StandsAt (map v (before ++ p ∷ ps)) v) (enumerate_from k ps)) (longer before p)
        (subst (λ all. AllByRecursion (StandsAt (map v all) v) (enumerate_from (length (before ++ p ∷ [])) ps)) (append_assoc before (p ∷ []) ps) (stand_behind v (before ++ p ∷ []) ps)),
  )
    where
      within : (m k n : ℕ) → m ≡ k + suc n → k < m
      within m k n e = omega arith

  stand_gathered : (cells : List Cell) (v : P → Cell) (es : List (ℕ × P)) → AllByRecursion (StandsAt cells v) es
      → AllByRecursion (IsBelow (length cells)) (map (λ (e : ℕ × P). e.0) es) × (map (λ i. get_or cells i Nil) (map (λ (e : ℕ × P). e.0) es) ≡ map v (map (λ (e : ℕ × P). e.1) es))
  stand_gathered cells v [] a = (tt, refl)
  stand_gathered cells v (e ∷ es) a =
      let more = stand_gathered cells v es a.1 in
      ((a.0.0, more.0), ap (λ c. c ∷ map (λ i. get_or cells i Nil) (map (λ (e : ℕ × P). e.0) es)) a.0.1 ∙ ap (λ r. v e.1 ∷ r) more.1)

  seconds : (k : ℕ) (ps : List P) → map (λ (e : ℕ × P). e.1) (enumerate_from k ps) ≡ ps
  seconds k [] = refl
  seconds k (p ∷ ps) = ap (λ r. p ∷ r) (seconds (k + 1) ps)

  oids_from : (n : P → ℕ) (k : ℕ) (ps : List P) → numbered_from k (map (λ p. Oid (n p)) ps) ≡ map (λ (e : ℕ × P). (Oid e.0, Oid (n e.1))) (enumerate_from k ps)
  oids_from n k [] = refl
  oids_from n k (p ∷ ps) = ap (λ r. (Oid k, Oid (n p)) ∷ r) (oids_from n (k + 1) ps)

  -- ### The places of first picks

  abbrev entry : (P → ℕ) → ℕ × P → Cell × Cell
  entry n e = (Oid e.0, Oid (n e.1))

  abbrev entries : (P → ℕ) → List P → List (ℕ × P)
  entries n picks = distinct (λ (a b : ℕ × P). alike n a.1 b.1) (enumerate_from 0 picks)

  heads_are : (n : P → ℕ) (picks : List P) → group_heads_of (number_oids n picks) ≡ numbered (map (λ (e : ℕ × P). Oid e.0) (entries n picks))
  heads_are n picks =
      ap (λ b. numbered (heads_of (distinct (λ (p q : Cell × Cell). same_cell p.1 q.1) b))) (oids_from n 0 picks)
      ∙ ap (λ b. numbered (heads_of b)) (distinct_map (entry n) (λ (p q : Cell × Cell). same_cell p.1 q.1) (enumerate_from 0 picks))
      ∙ ap numbered (map_after (λ (p : Cell × Cell). p.0) (entry n) (entries n picks))

  entries_are : (n : P → ℕ) (picks : List P) → map (λ (e : ℕ × P). e.1) (entries n picks) ≡ firsts n picks
  entries_are n picks = sym (distinct_map (λ (e : ℕ × P). e.1) (alike n) (enumerate_from 0 picks)) ∙ ap (distinct (alike n)) (seconds 0 picks)

  -- a value of the first pick of each group, gathered by the groups' heads
  pub heads_gathered : (n : P → ℕ) (v : P → Cell) (picks : List P) → joined (group_heads_of (number_oids n picks)) (numbered (map v picks)) ≡ numbered (map v (firsts n picks))
  heads_gathered n v picks =
      ap (λ b. joined b (numbered (map v picks))) (heads_are n picks ∙ ap numbered (sym (map_after Oid (λ (e : ℕ × P). e.0) (entries n picks))))
      ∙ gathered (map v picks) (map (λ (e : ℕ × P). e.0) (entries n picks)) found.0
      ∙ ap numbered (found.1 ∙ ap (map v) (entries_are n picks))
    where
      found : AllByRecursion (IsBelow (length (map v picks))) (map (λ (e : ℕ × P). e.0) (entries n picks)) × (map (λ i. get_or (map v picks) i Nil) (map (λ (e : ℕ × P). e.0) (entries n picks)) ≡ map v (map (λ (e : ℕ × P). e.1) (entries n picks)))
      found = stand_gathered (map v picks) v (entries n picks) (all_distinct (λ (a b : ℕ × P). alike n a.1 b.1) (StandsAt (map v picks) v) (enumerate_from 0 picks) (stand_behind v [] picks))

  -- a scalar beside each head is one beside each first pick
  pub heads_projected : (n : P → ℕ) (c : Cell) (picks : List P) → projected c (group_heads_of (number_oids n picks)) ≡ numbered (map (λ p. c) (firsts n picks))
  heads_projected n c picks =
      ap (projected c) (heads_are n picks) ∙ projected_is c (λ (e : ℕ × P). Oid e.0) (entries n picks)
      ∙ ap numbered (sym (map_after (λ p. c) (λ (e : ℕ × P). e.1) (entries n picks)) ∙ ap (map (λ p. c)) (entries_are n picks))
