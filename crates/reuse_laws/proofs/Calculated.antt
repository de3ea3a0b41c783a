-- A calculation over BATs of one length that grew by one length.
use Rattle.std.proofs.Common.{◌≡◌, ℕ, zero, suc, ◌+◌, ◌<◌, List, [], ◌∷◌, ◌++◌, Option, Some, None, refl, ap, sym, ◌∙◌, arith, length, map, get_or, ◌⊎◌, inl, inr, length-append}
use Rattle.std.specs.Prelude.{zip, min}
use Rattle.std.specs.List.{range_with_len}
use Rattle.std.specs.Option.{option_map, option_map_or}
use Rattle.std.proofs.lemmas.List.{get_or_append_left, get_or-append-add}
use Rattle.std.proofs.lemmas.List.FromFn.{length-map-range_with_len}
use Rattle.cell_core.specs.declared.cell.Cell.{Cell}
use Rattle.cell_core.specs.declared.cell.Cell.TheVariants.{Nil}
use Rattle.cell_core.specs.declared.operator.Value.{Value}
use Rattle.cell_core.specs.declared.operator.Value.TheVariants.{Bat, One}
use Rattle.cell_core.specs.Pairs.{Pairs, tails_of, bats_in, least_length, row_at, rows_of}
use Rattle.reuse_laws.proofs.Appends.{map_append}
use Rattle.reuse_laws.specs.Grown.{grown, AreGrown, HasBat}
use Rattle.cell_core.specs.Calc.{all_or_none, first_heads, calculated_at, calculated}

length_map : {X Y : Type 0} (f : X → Y) (xs : List X) → length (map f xs) ≡ length xs
length_map f [] = refl
length_map f (x ∷ xs) = ap suc (length_map f xs)

row_before : (n : ℕ) (vs ds : List Value) (i : ℕ) → AreGrown n vs ds → i < n → row_at (grown vs ds) i ≡ row_at vs i
row_before n [] [] i h low = refl
row_before n [] (d ∷ ds) i h low = absurd h
row_before n (Bat b ∷ vs) [] i h low = absurd h
row_before n (One c ∷ vs) [] i h low = absurd h
row_before n (Bat b ∷ vs) (One e ∷ ds) i h low = absurd h
row_before n (One c ∷ vs) (Bat d ∷ ds) i h low = absurd h
row_before n (Bat b ∷ vs) (Bat d ∷ ds) i h low =
    ap (λ c. c ∷ row_at (grown vs ds) i) (ap (λ ts. get_or ts i Nil) (map_append (λ (p : Cell × Cell). p.1) b d) ∙ get_or_append_left (tails_of b) (tails_of d) Nil i (let l = length_map (λ (p : Cell × Cell). p.1) b in omega (arith, l, h.0, low)))
    ∙ ap (λ cs. get_or (tails_of b) i Nil ∷ cs) (row_before n vs ds i h.1 low)
row_before n (One c ∷ vs) (One e ∷ ds) i h low = ap (λ cs. c ∷ cs) (row_before n vs ds i h.1 low)

row_behind : (n : ℕ) (vs ds : List Value) (j : ℕ) → AreGrown n vs ds → row_at (grown vs ds) (n + j) ≡ row_at ds j
row_behind n [] [] j h = refl
row_behind n [] (d ∷ ds) j h = absurd h
row_behind n (Bat b ∷ vs) [] j h = absurd h
row_behind n (One c ∷ vs) [] j h = absurd h
row_behind n (Bat b ∷ vs) (One e ∷ ds) j h = absurd h
row_behind n (One c ∷ vs) (Bat d ∷ ds) j h = absurd h
row_behind n (Bat b ∷ vs) (Bat d ∷ ds) j h =
    ap (λ c. c ∷ row_at (grown vs ds) (n + j)) (ap (λ ts. get_or ts (n + j) Nil) (map_append (λ (p : Cell × Cell). p.1) b d)
    ∙ ap (λ k. get_or (tails_of b ++ tails_of d) (k + j) Nil) (sym (length_map (λ (p : Cell × Cell). p.1) b ∙ h.0)) ∙ get_or-append-add (tails_of b) (tails_of d) j Nil)
    ∙ ap (λ cs. get_or (tails_of d) j Nil ∷ cs) (row_behind n vs ds j h.1)
row_behind n (One c ∷ vs) (One e ∷ ds) j h = ap (λ x. x ∷ row_at (grown vs ds) (n + j)) h.0 ∙ ap (λ cs. e ∷ cs) (row_behind n vs ds j h.1)

-- ## Ranges

range_same : {X : Type 0} (f g : ℕ → X) (a b n : ℕ) → ((i : ℕ) → i < n → f (a + i) ≡ g (b + i)) → map f (range_with_len a n) ≡ map g (range_with_len b n)
range_same f g a b zero h = refl
range_same f g a b (suc n) h =
    ap (λ x. x ∷ map f (range_with_len (a + 1) n)) (ap f (omega arith) ∙ h 0 (omega arith) ∙ ap g (omega arith))
    ∙ ap (λ xs. g b ∷ xs) (range_same f g (a + 1) (b + 1) n (λ i low. ap f (omega arith) ∙ h (i + 1) (omega arith) ∙ ap g (omega arith)))

range_split : (a n m : ℕ) → range_with_len a (n + m) ≡ range_with_len a n ++ range_with_len (a + n) m
range_split a zero m = let e : zero + m ≡ m = omega arith in let f : a ≡ a + zero = omega arith in ap (range_with_len a) e ∙ ap (λ k. range_with_len k m) f
range_split a (suc n) m = let e : suc n + m ≡ suc (n + m) = omega arith in ap (range_with_len a) e ∙ ap (λ xs. a ∷ xs) (range_split (a + 1) n m ∙ ap (λ k. range_with_len (a + 1) n ++ range_with_len k m) (omega arith))

rows_grown : (n m : ℕ) (vs ds : List Value) → AreGrown n vs ds → rows_of (grown vs ds) (n + m) ≡ rows_of vs n ++ rows_of ds m
rows_grown n m vs ds h =
    ap (map (row_at (grown vs ds))) (range_split 0 n m)
    ∙ map_append (row_at (grown vs ds)) (range_with_len 0 n) (range_with_len (0 + n) m)
    ∙ ap (λ xs. xs ++ map (row_at (grown vs ds)) (range_with_len (0 + n) m)) (range_same (row_at (grown vs ds)) (row_at vs) 0 0 n (λ i low. row_before n vs ds (0 + i) h (omega arith)))
    ∙ ap (λ xs. rows_of vs n ++ xs) (range_same (row_at (grown vs ds)) (row_at ds) (0 + n) 0 m (λ i low. ap (row_at (grown vs ds)) (omega arith) ∙ row_behind n vs ds i h ∙ ap (row_at ds) (omega arith)))

-- ## Cells

all_append : {X : Type 0} (xs ys : List (Option X)) (us vs : List X) → all_or_none xs ≡ Some us → all_or_none ys ≡ Some vs → all_or_none (xs ++ ys) ≡ Some (us ++ vs)
all_append [] ys us vs a b = let none : [] ≡ us = cc in b ∙ ap (λ zs. Some (zs ++ vs)) none
all_append (None ∷ xs) ys us vs a b = cc
all_append {X = X} (Some x ∷ xs) ys us vs a b = go (all_or_none xs) refl a (λ zs e. all_append xs ys zs vs e b)
  where
    go : (o : Option (List X)) → all_or_none xs ≡ o → option_map (λ zs. x ∷ zs) o ≡ Some us → ((zs : List X) → all_or_none xs ≡ Some zs → all_or_none (xs ++ ys) ≡ Some (zs ++ vs)) → option_map (λ zs. x ∷ zs) (all_or_none (xs ++ ys)) ≡ Some (us ++ vs)
    go None e h rest = cc
    go (Some zs) e h rest = let same : x ∷ zs ≡ us = cc in ap (option_map (λ zs. x ∷ zs)) (rest zs e) ∙ ap (λ ws. Some (ws ++ vs)) same

all_length : {X : Type 0} (xs : List (Option X)) (us : List X) → all_or_none xs ≡ Some us → length us ≡ length xs
all_length [] us a = let none : [] ≡ us = cc in ap (λ zs. length zs) (sym none)
all_length (None ∷ xs) us a = cc
all_length {X = X} (Some x ∷ xs) us a = go (all_or_none xs) refl a (λ zs e. all_length xs zs e)
  where
    go : (o : Option (List X)) → all_or_none xs ≡ o → option_map (λ zs. x ∷ zs) o ≡ Some us → ((zs : List X) → all_or_none xs ≡ Some zs → length zs ≡ length xs) → length us ≡ suc (length xs)
    go None e h rest = cc
    go (Some zs) e h rest = let same : x ∷ zs ≡ us = cc in ap (λ ws. length ws) (sym same) ∙ ap suc (rest zs e)

zip_append : {X Y : Type 0} (xs us : List X) (ys vs : List Y) → length xs ≡ length ys → zip (xs ++ us) (ys ++ vs) ≡ zip xs ys ++ zip us vs
zip_append [] us [] vs e = refl
zip_append [] us (y ∷ ys) vs e = absurd (omega arith)
zip_append (x ∷ xs) us [] vs e = absurd (omega arith)
zip_append (x ∷ xs) us (y ∷ ys) vs e = ap (λ zs. (x, y) ∷ zs) (zip_append xs us ys vs (omega arith))

-- ## The calculation

heads_grown : (n : ℕ) (vs ds : List Value) → AreGrown n vs ds → first_heads (bats_in (grown vs ds)) ≡ first_heads (bats_in vs) ++ first_heads (bats_in ds)
heads_grown n [] [] h = refl
heads_grown n [] (d ∷ ds) h = absurd h
heads_grown n (Bat b ∷ vs) [] h = absurd h
heads_grown n (One c ∷ vs) [] h = absurd h
heads_grown n (Bat b ∷ vs) (One e ∷ ds) h = absurd h
heads_grown n (One c ∷ vs) (Bat d ∷ ds) h = absurd h
heads_grown n (Bat b ∷ vs) (Bat d ∷ ds) h = map_append (λ (p : Cell × Cell). p.0) b d
heads_grown n (One c ∷ vs) (One e ∷ ds) h = heads_grown n vs ds h.1

heads_long : (n : ℕ) (vs ds : List Value) → AreGrown n vs ds → HasBat vs → length (first_heads (bats_in vs)) ≡ n
heads_long n [] ds h some = absurd some
heads_long n (Bat b ∷ vs) [] h some = absurd h
heads_long n (One c ∷ vs) [] h some = absurd h
heads_long n (Bat b ∷ vs) (One e ∷ ds) h some = absurd h
heads_long n (One c ∷ vs) (Bat d ∷ ds) h some = absurd h
heads_long n (Bat b ∷ vs) (Bat d ∷ ds) h some = length_map (λ (p : Cell × Cell). p.0) b ∙ h.0
heads_long n (One c ∷ vs) (One e ∷ ds) h some = heads_long n vs ds h.1 some

-- over so many places
pub placed_append : (f : List Cell → Option Cell) (n m : ℕ) (vs ds : List Value) (us ws : List Cell) → AreGrown n vs ds → HasBat vs → all_or_none (map f (rows_of vs n)) ≡ Some us → all_or_none (map f (rows_of ds m)) ≡ Some ws
    → option_map (λ cells. Bat (zip (first_heads (bats_in (grown vs ds))) cells)) (all_or_none (map f (rows_of (grown vs ds) (n + m)))) ≡ Some (Bat (zip (first_heads (bats_in vs)) us ++ zip (first_heads (bats_in ds)) ws))
placed_append f n m vs ds us ws h some a b =
    let cells : all_or_none (map f (rows_of (grown vs ds) (n + m))) ≡ Some (us ++ ws) =
    ap all_or_none (ap (map f) (rows_grown n m vs ds h) ∙ map_append f (rows_of vs n) (rows_of ds m)) ∙ all_append (map f (rows_of vs n)) (map f (rows_of ds m)) us ws a b in
    let long : length us ≡ n = all_length (map f (rows_of vs n)) us a ∙ length_map f (rows_of vs n) ∙ length-map-range_with_len (row_at vs) 0 n in
    let heads = heads_long n vs ds h some in
    ap (option_map (λ cells. Bat (zip (first_heads (bats_in (grown vs ds))) cells))) cells
    ∙ ap (λ hs. Some (Bat (zip hs (us ++ ws)))) (heads_grown n vs ds h)
    ∙ ap (λ ps. Some (Bat ps)) (zip_append (first_heads (bats_in vs)) (first_heads (bats_in ds)) us ws (omega (arith, long, heads)))

-- ## Lengths

-- without a BAT there is no shortest
none_shortest : (n : ℕ) (vs ds : List Value) → AreGrown n vs ds → (HasBat vs → ⊥) → (least_length (bats_in vs) ≡ None) × (least_length (bats_in ds) ≡ None) × (least_length (bats_in (grown vs ds)) ≡ None)
none_shortest n [] [] h without = (refl, refl, refl)
none_shortest n [] (d ∷ ds) h without = absurd h
none_shortest n (Bat b ∷ vs) ds h without = absurd (without tt)
none_shortest n (One c ∷ vs) [] h without = absurd h
none_shortest n (One c ∷ vs) (Bat d ∷ ds) h without = absurd h
none_shortest n (One c ∷ vs) (One e ∷ ds) h without = none_shortest n vs ds h.1 without

has_or_not : (vs : List Value) → HasBat vs ⊎ (HasBat vs → ⊥)
has_or_not [] = inr (λ h. h)
has_or_not (Bat b ∷ vs) = inl tt
has_or_not (One c ∷ vs) = has_or_not vs

-- the lesser of a length and the least of the others, if there are any
abbrev least_with : ℕ → Option ℕ → ℕ
least_with a o = option_map_or (λ n. min a n) o a

alone : (a k : ℕ) (o : Option ℕ) → a ≡ k → o ≡ None → Some (least_with a o) ≡ Some k
alone a k o same e = ap (λ o. Some (least_with a o)) e ∙ ap Some same

beside : (a m k : ℕ) (o : Option ℕ) → o ≡ Some m → min a m ≡ k → Some (least_with a o) ≡ Some k
beside a m k o e same = ap (λ o. Some (least_with a o)) e ∙ ap Some same

all_shortest : (n : ℕ) (vs ds : List Value) → AreGrown n vs ds → HasBat vs → (m : ℕ) × (least_length (bats_in vs) ≡ Some n) × (least_length (bats_in ds) ≡ Some m) × (least_length (bats_in (grown vs ds)) ≡ Some (n + m))
all_shortest n [] ds h some = absurd some
all_shortest n (Bat b ∷ vs) [] h some = absurd h
all_shortest n (One c ∷ vs) [] h some = absurd h
all_shortest n (Bat b ∷ vs) (One e ∷ ds) h some = absurd h
all_shortest n (One c ∷ vs) (Bat d ∷ ds) h some = absurd h
all_shortest n (One c ∷ vs) (One e ∷ ds) h some = all_shortest n vs ds h.1 some
all_shortest n (Bat b ∷ vs) (Bat d ∷ ds) h some =
    let long : length (b ++ d) ≡ n + length d = length-append b d ∙ ap (λ k. k + length d) h.0 in
    elim (has_or_not vs) [
      | inl more ↦ let r = all_shortest n vs ds h.1 more in (
        min (length d) r.0,
        beside (length b) n n (least_length (bats_in vs)) r.1 (omega (arith, h.0)),
        beside (length d) r.0 (min (length d) r.0) (least_length (bats_in ds)) r.2 refl,
        beside (length (b ++ d)) (n + r.0) (n + min (length d) r.0) (least_length (bats_in (grown vs ds))) r.3 (omega (arith, long)),
      )
      | inr without ↦ let r = none_shortest n vs ds h.1 without in (
        length d,
        alone (length b) n (least_length (bats_in vs)) h.0 r.0,
        alone (length d) (length d) (least_length (bats_in ds)) refl r.1,
        alone (length (b ++ d)) (n + length d) (least_length (bats_in (grown vs ds))) long r.2,
      )
    ]

-- what is calculated comes from cells
calculated_from : (f : List Cell → Option Cell) (k : ℕ) (vs : List Value) (b : Pairs) → calculated_at (Some k) f vs ≡ Some (Bat b) → (us : List Cell) × (all_or_none (map f (rows_of vs k)) ≡ Some us) × (zip (first_heads (bats_in vs)) us ≡ b)
calculated_from f k vs b e = go (all_or_none (map f (rows_of vs k))) refl e
  where
    go : (o : Option (List Cell)) → all_or_none (map f (rows_of vs k)) ≡ o → option_map (λ cells. Bat (zip (first_heads (bats_in vs)) cells)) o ≡ Some (Bat b) → (us : List Cell) × (all_or_none (map f (rows_of vs k)) ≡ Some us) × (zip (first_heads (bats_in vs)) us ≡ b)
    go None is h = cc
    go (Some us) is h = let same : zip (first_heads (bats_in vs)) us ≡ b = cc in (us, is, same)

pub calculated_append : (f : List Cell → Option Cell) (n : ℕ) (vs ds : List Value) (b d : Pairs) → AreGrown n vs ds → HasBat vs → calculated f vs ≡ Some (Bat b) → calculated f ds ≡ Some (Bat d) → calculated f (grown vs ds) ≡ Some (Bat (b ++ d))
calculated_append f n vs ds b d h some before behind =
    let long = all_shortest n vs ds h some in
    let old = calculated_from f n vs b (ap (λ o. calculated_at o f vs) (sym long.1) ∙ before) in
    let new = calculated_from f long.0 ds d (ap (λ o. calculated_at o f ds) (sym long.2) ∙ behind) in
    ap (λ o. calculated_at o f (grown vs ds)) long.3
    ∙ placed_append f n long.0 vs ds old.0 new.0 h some old.1 new.1
    ∙ ap (λ ps. Some (Bat (ps ++ zip (first_heads (bats_in ds)) new.0))) old.2 ∙ ap (λ ps. Some (Bat (b ++ ps))) new.2
