-- The aggregates of groups, one group and one cell on.
use Rattle.std.proofs.Common.{◌≡◌, ℕ, suc, zero, ◌+◌, ◌<◌, ◌≤◌, ◌==◌, Bool, true, false, not, ◌||◌, cond, List, [], ◌∷◌, ◌++◌, length, get_or, take, set, map, refl, sym, ap, ◌∙◌, arith, append-nil}
use Rattle.std.specs.Prelude.{filter}
use Rattle.std.specs.List.{list_any, position_or_len, zip}
use Rattle.std.specs.Cmp.{IsEquivalence}
use Rattle.std.proofs.lemmas.Bool.{eqb-true, eqb-false}
use Rattle.std.proofs.lemmas.List.{length-map, take_all, map_push, get_or-map}
use Rattle.std.proofs.lemmas.List.Folds.{list_any-append}
use Rattle.std.proofs.lemmas.List.Sums.{prefix_len-le-length, passes_at_first}
use Rattle.cell_core.specs.declared.cell.Cell.{Cell}
use Rattle.cell_core.specs.declared.cell.Cell.TheVariants.{Nil}
use Rattle.cell_core.specs.Same.{same_cell, same_equivalence}
use Rattle.cell_core.specs.Groups.{distinct}
use Rattle.bat_group.specs.Numbers.{with_first}
use Rattle.bat_group.specs.Members.{members_of}
use Rattle.bat_group.proofs.NumberLemmas.{distinct_push, any_distinct, same_as, number_kept, found_by_number, missed_by_number}

module _ {X : Type 0} (same : X → X → Bool) (laws : IsEquivalence same) where
  -- each element differs from all that follow
  abbrev Apart : List X → Type 0
  Apart [] = Unit {0}
  Apart (x ∷ xs) = (list_any (same x) xs ≡ false) × Apart xs

  left_out : (x : X) (xs : List X) → list_any (same x) (filter (λ y. not (same x y)) xs) ≡ false
  left_out x [] = refl
  left_out x (y ∷ ys) =
      elim (same x y) as (λ b. same x y ≡ b → list_any (same x) (cond (not b) (y ∷ filter (λ z. not (same x z)) ys) (filter (λ z. not (same x z)) ys)) ≡ false) [
        | true ↦ λ e. left_out x ys
        | false ↦ λ e. ap (λ b. b || list_any (same x) (filter (λ z. not (same x z)) ys)) e ∙ left_out x ys
      ] refl

  none_of_filter : (q p : X → Bool) (xs : List X) → list_any q xs ≡ false → list_any q (filter p xs) ≡ false
  none_of_filter q p [] e = refl
  none_of_filter q p (x ∷ xs) e =
      let here : q x ≡ false = or_left (q x) (list_any q xs) e in
      let rest : list_any q xs ≡ false = or_right (q x) (list_any q xs) e in
      elim (p x) as (λ b. list_any q (cond b (x ∷ filter p xs) (filter p xs)) ≡ false) [
        | true ↦ ap (λ b. b || list_any q (filter p xs)) here ∙ none_of_filter q p xs rest
        | false ↦ none_of_filter q p xs rest
      ]
    where
      or_left : (a b : Bool) → (a || b) ≡ false → a ≡ false
      or_left true b e = e
      or_left false b e = refl

      or_right : (a b : Bool) → (a || b) ≡ false → b ≡ false
      or_right true b e = cc
      or_right false b e = e

  apart_filter : (p : X → Bool) (xs : List X) → Apart xs → Apart (filter p xs)
  apart_filter p [] a = tt
  apart_filter p (x ∷ xs) a =
      elim (p x) as (λ b. Apart (cond b (x ∷ filter p xs) (filter p xs))) [
        | true ↦ (none_of_filter (same x) p xs a.0, apart_filter p xs a.1)
        | false ↦ apart_filter p xs a.1
      ]

  distinct_apart : (xs : List X) → Apart (distinct same xs)
  distinct_apart [] = tt
  distinct_apart (x ∷ xs) = (left_out x (distinct same xs), apart_filter (λ y. not (same x y)) (distinct same xs) (distinct_apart xs))

  -- a function that changes at what is the same as k alone
  module _ {Y : Type 0} (f g : X → Y) (k : X) (others : (y : X) → same y k ≡ false → g y ≡ f y) where
    map_apart : (x : X) (xs : List X) → same x k ≡ true → list_any (same x) xs ≡ false → map g xs ≡ map f xs
    map_apart x [] e none = refl
    map_apart x (y ∷ ys) e none =
        let here : same y k ≡ false = same_as same laws x k y e ∙ laws.symm y x ∙ or_first (same x y) (list_any (same x) ys) none in
        ap (λ v. v ∷ map g ys) (others y here) ∙ ap (λ l. f y ∷ l) (map_apart x ys e (or_last (same x y) (list_any (same x) ys) none))
      where
        or_first : (a b : Bool) → (a || b) ≡ false → a ≡ false
        or_first true b h = h
        or_first false b h = refl

        or_last : (a b : Bool) → (a || b) ≡ false → b ≡ false
        or_last true b h = cc
        or_last false b h = h

    map_changed : (ds : List X) (d : X) (w : Y) → Apart ds → position_or_len (λ y. same y k) ds < length ds → w ≡ g (get_or ds (position_or_len (λ y. same y k) ds) d)
        → map g ds ≡ set (map f ds) (position_or_len (λ y. same y k) ds) w
    map_changed [] d w apart within is = absurd (omega arith)
    map_changed (x ∷ xs) d w apart within is =
        elim (same x k) as (λ b. same x k ≡ b → cond (not b) (1 + position_or_len (λ y. same y k) xs) 0 < suc (length xs) → w ≡ g (get_or (x ∷ xs) (cond (not b) (1 + position_or_len (λ y. same y k) xs) 0) d)
        → g x ∷ map g xs ≡ set (f x ∷ map f xs) (cond (not b) (1 + position_or_len (λ y. same y k) xs) 0) w) [
          | true ↦ λ e small at. ap (λ v. v ∷ map g xs) (sym at) ∙ ap (λ l. w ∷ l) (map_apart x xs e apart.0)
          | false ↦ λ e small at.
              let next : 1 + position_or_len (λ y. same y k) xs ≡ suc (position_or_len (λ y. same y k) xs) = omega arith in
              let there : w ≡ g (get_or xs (position_or_len (λ y. same y k) xs) d) = at ∙ ap (λ n. g (get_or (x ∷ xs) n d)) next in
              ap (λ v. v ∷ map g xs) (others x e) ∙ ap (λ l. f x ∷ l) (map_changed xs d w apart.1 (omega arith) there)
              ∙ ap (λ n. set (f x ∷ map f xs) n w) (sym next)
        ] refl within is

-- ## The cells beside a group
no_member : (cells groups : List Cell) (k : Cell) → list_any (λ y. same_cell y k) groups ≡ false → members_of cells groups k ≡ []
no_member [] groups k none = refl
no_member (c ∷ cells) [] k none = refl
no_member (c ∷ cells) (y ∷ groups) k none =
    elim (same_cell y k) as (λ b. (b || list_any (λ z. same_cell z k) groups) ≡ false → map (λ (p : Cell × Cell). p.0) (cond b ((c, y) ∷ filter (λ p. same_cell p.1 k) (zip cells groups)) (filter (λ p. same_cell p.1 k) (zip cells groups))) ≡ []) [
      | true ↦ λ e. cc
      | false ↦ λ e. no_member cells groups k e
    ] none

-- one group more, beside which there is no cell
member_alone : (cells groups : List Cell) (k group : Cell) → length cells ≤ length groups → members_of cells (groups ++ k ∷ []) group ≡ members_of cells groups group
member_alone [] groups k group short = refl
member_alone (c ∷ cells) [] k group short = absurd (omega arith)
member_alone (c ∷ cells) (y ∷ groups) k group short =
    elim (same_cell y group) as (λ b. map (λ (p : Cell × Cell). p.0) (cond b ((c, y) ∷ filter (λ p. same_cell p.1 group) (zip cells (groups ++ k ∷ []))) (filter (λ p. same_cell p.1 group) (zip cells (groups ++ k ∷ []))))
    ≡ map (λ (p : Cell × Cell). p.0) (cond b ((c, y) ∷ filter (λ p. same_cell p.1 group) (zip cells groups)) (filter (λ p. same_cell p.1 group) (zip cells groups)))) [
      | true ↦ ap (λ l. c ∷ l) (member_alone cells groups k group (omega arith))
      | false ↦ member_alone cells groups k group (omega arith)
    ]

-- one group more, and the cell beside it
member_pair : (cells groups : List Cell) (c k group : Cell) → length cells ≡ length groups → members_of (cells ++ c ∷ []) (groups ++ k ∷ []) group ≡ members_of cells groups group ++ cond (same_cell k group) (c ∷ []) []
member_pair [] [] c k group even = pick (same_cell k group)
  where
    pick : (b : Bool) → map (λ (p : Cell × Cell). p.0) (cond b ((c, k) ∷ []) []) ≡ cond b (c ∷ []) []
    pick true = refl
    pick false = refl
member_pair [] (y ∷ groups) c k group even = absurd (omega arith)
member_pair (x ∷ cells) [] c k group even = absurd (omega arith)
member_pair (x ∷ cells) (y ∷ groups) c k group even =
    elim (same_cell y group) as (λ b. map (λ (p : Cell × Cell). p.0) (cond b ((x, y) ∷ filter (λ p. same_cell p.1 group) (zip (cells ++ c ∷ []) (groups ++ k ∷ []))) (filter (λ p. same_cell p.1 group) (zip (cells ++ c ∷ []) (groups ++ k ∷ []))))
    ≡ map (λ (p : Cell × Cell). p.0) (cond b ((x, y) ∷ filter (λ p. same_cell p.1 group) (zip cells groups)) (filter (λ p. same_cell p.1 group) (zip cells groups))) ++ cond (same_cell k group) (c ∷ []) []) [
      | true ↦ ap (λ l. x ∷ l) (member_pair cells groups c k group (omega arith))
      | false ↦ member_pair cells groups c k group (omega arith)
    ]

-- cells past the groups are beside none
pub zip_cut : (n : ℕ) (xs ys : List Cell) → (n < length xs → n < length ys → ⊥) → zip (take n xs) ys ≡ zip xs ys
zip_cut n [] ys past = ap (λ l. zip l ys) (take_all n [] (omega arith))
zip_cut zero (x ∷ xs) [] past = refl
zip_cut (suc n) (x ∷ xs) [] past = refl
zip_cut zero (x ∷ xs) (y ∷ ys) past = absurd (past (omega arith) (omega arith))
zip_cut (suc n) (x ∷ xs) (y ∷ ys) past = ap (λ rest. (x, y) ∷ rest) (zip_cut n xs ys (λ a b. past (omega (arith, a)) (omega (arith, b))))

-- ## One step over the groups, where A is the aggregate and k the next group
module _ (A : List Cell → Cell) (cells groups : List Cell) (k : Cell) where
  abbrev so_far : Cell → Cell
  so_far group = A (members_of cells groups group)

  abbrev met_so_far : Cell → Cell
  met_so_far group = A (members_of cells (groups ++ k ∷ []) group)

  abbrev firsts : List Cell
  firsts = distinct same_cell groups

  abbrev firsts_now : List Cell
  firsts_now = distinct same_cell (groups ++ k ∷ [])

  abbrev place : List Cell → ℕ
  place l = position_or_len (λ y. same_cell y k) l

  firsts_next : firsts_now ≡ with_first same_cell firsts k
  firsts_next = distinct_push same_cell same_equivalence groups k

  at_most : (l : List Cell) → place l ≤ length l
  at_most l = prefix_len-le-length (λ y. not (same_cell y k)) l

  -- a new group has no cells so far
  begun : (n : ℕ) (old new : List Cell) → n ≡ place firsts → old ≡ map so_far firsts → new ≡ cond (n == length old) (old ++ A [] ∷ []) old → new ≡ map so_far firsts_now
  begun n old new number value next =
      let long : length old ≡ length firsts = ap length value ∙ length-map firsts so_far in
      next ∙ elim (n == length old) as (λ b. (n == length old) ≡ b → cond b (old ++ A [] ∷ []) old ≡ map so_far firsts_now) [
        | true ↦ λ e.
            let missed : list_any (λ y. same_cell y k) firsts ≡ false = missed_by_number (λ y. same_cell y k) firsts (sym number ∙ eqb-true n (length old) e ∙ long) in
            let none : so_far k ≡ A [] = ap A (no_member cells groups k (sym (any_distinct same_cell same_equivalence k groups) ∙ missed)) in
            ap (λ l. l ++ A [] ∷ []) value ∙ ap (λ c. map so_far firsts ++ c ∷ []) (sym none) ∙ sym (map_push so_far firsts k)
            ∙ ap (map so_far) (ap (λ b. cond b firsts (firsts ++ k ∷ [])) (sym missed) ∙ sym firsts_next)
        | false ↦ λ e.
            let other : n ≡ length old → ⊥ = eqb-false n (length old) e in
            let met : list_any (λ y. same_cell y k) firsts ≡ true = found_by_number (λ y. same_cell y k) firsts (omega (arith, at_most firsts, number, long, other)) in
            value ∙ ap (map so_far) (ap (λ b. cond b firsts (firsts ++ k ∷ [])) (sym met) ∙ sym firsts_next)
      ] refl

  -- the group is met, and there is no cell beside it yet
  pub met_alone : length cells ≤ length groups → (n : ℕ) (old new : List Cell) → n ≡ place firsts → old ≡ map so_far firsts → new ≡ cond (n == length old) (old ++ A [] ∷ []) old → new ≡ map met_so_far firsts_now
  met_alone short n old new number value next = begun n old new number value next ∙ ap (λ f. map f firsts_now) (λ i group. A (sym (member_alone cells groups k group short) i))

  same_place : place firsts_now ≡ place firsts
  same_place = ap place (firsts_next ∙ sym (append-nil (with_first same_cell firsts k))) ∙ number_kept same_cell same_equivalence firsts k []

  among : list_any (λ y. same_cell y k) firsts_now ≡ true
  among =
      ap (list_any (λ y. same_cell y k)) firsts_next
      ∙ elim (list_any (λ y. same_cell y k) firsts) as (λ b. list_any (λ y. same_cell y k) firsts ≡ b → list_any (λ y. same_cell y k) (cond b firsts (firsts ++ k ∷ [])) ≡ true) [
        | true ↦ λ e. e
        | false ↦ λ e.
            list_any-append (λ y. same_cell y k) firsts (k ∷ []) ∙ ap (λ b. b || (same_cell k k || false)) e ∙ ap (λ b. b || false) (same_equivalence.refl k)
      ] refl

  number_inside : place firsts_now < length firsts_now
  number_inside =
      let other : place firsts_now ≡ length firsts_now → ⊥ = λ e. true_false (sym among ∙ missed_by_number (λ y. same_cell y k) firsts_now e) in
      omega (arith, at_most firsts_now, other)
    where
      true_false : true ≡ false → ⊥
      true_false e = cc

  -- the cell beside the group is taken into its total
  module _ (c : Cell) (even : length cells ≡ length groups) where
    abbrev after : Cell → Cell
    after group = A (members_of (cells ++ c ∷ []) (groups ++ k ∷ []) group)

    step : (group : Cell) → members_of (cells ++ c ∷ []) (groups ++ k ∷ []) group ≡ members_of cells (groups ++ k ∷ []) group ++ cond (same_cell k group) (c ∷ []) []
    step group = member_pair cells groups c k group even ∙ ap (λ l. l ++ cond (same_cell k group) (c ∷ []) []) (sym (member_alone cells groups k group (omega arith)))

    pub finished : (n : ℕ) (old : List Cell) (total w : Cell) → n ≡ place firsts → old ≡ map met_so_far firsts_now → total ≡ get_or old n total → ((before : List Cell) → total ≡ A before → w ≡ A (before ++ c ∷ [])) → set old n w ≡ map after firsts_now
    finished n old total w number value read taken =
        let at : n ≡ place firsts_now = number ∙ sym same_place in
        let inside : n < length firsts_now = omega (arith, number_inside, at) in
        let group : Cell = get_or firsts_now (place firsts_now) Nil in
        let met : same_cell k group ≡ true = same_equivalence.symm k group ∙ passes_at_first (λ y. same_cell y k) firsts_now Nil number_inside in
        let found : total ≡ met_so_far group = read ∙ ap (λ l. get_or l n total) value ∙ get_or-map met_so_far firsts_now n Nil total inside ∙ ap (λ m. met_so_far (get_or firsts_now m Nil)) at in
        let changed : w ≡ after group =
        taken (members_of cells (groups ++ k ∷ []) group) found ∙ ap (λ b. A (members_of cells (groups ++ k ∷ []) group ++ cond b (c ∷ []) [])) (sym met) ∙ ap A (sym (step group)) in
        ap (λ l. set l n w) value ∙ ap (λ m. set (map met_so_far firsts_now) m w) at
        ∙ sym (map_changed same_cell same_equivalence met_so_far after k
        (λ y e. ap A (step y ∙ ap (λ b. members_of cells (groups ++ k ∷ []) y ++ cond b (c ∷ []) []) (same_equivalence.symm k y ∙ e) ∙ append-nil (members_of cells (groups ++ k ∷ []) y)))
        firsts_now Nil w (distinct_apart same_cell same_equivalence (groups ++ k ∷ [])) number_inside changed)
