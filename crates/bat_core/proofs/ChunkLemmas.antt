-- Lists that are kept in full chunks, by their lengths and places.
use Rattle.std.proofs.Common.{◌≡◌, ℕ, suc, zero, ◌+◌, ◌-◌, ◌*◌, ◌/◌, ◌%◌, ◌<◌, ◌≤◌, List, [], ◌∷◌, ◌++◌, length, map, get_or, take, drop, refl, sym, ap, ◌∙◌, arith}
use Rattle.std.specs.List.{flat_map}
use Rattle.std.proofs.lemmas.List.{length-append, length-drop, drop-append-le, take_at, get_or-take, length-take, get_or-append-add, length-take-le, take_rest, append-nil}
use Rattle.std.proofs.Math.Seq.{drop-append-add, take-add}
use Rattle.std.proofs.Math.Nat.{div-add-mod}
use Rattle.bat_core.specs.Chunks.{AreFull}

-- where the rest of a list begins with a piece, the list up to its end is what comes before and the piece
pub piece_more : {X : Type 0} (xs piece rest : List X) (from : ℕ) → drop from xs ≡ piece ++ rest → take (from + length piece) xs ≡ take from xs ++ piece
piece_more xs piece rest from split =
    take-add from (length piece) xs ∙ ap (λ p. take from xs ++ p) (ap (λ r. take (length piece) r) split ∙ take_at piece rest (length piece) refl)

-- the rest of a list from a place past its front on
pub rest_more : {X : Type 0} (front back xs : List X) (from k : ℕ) → front ++ back ≡ xs → from ≡ length front + k → take (from + length (take (length back - k) (drop k back))) xs ≡ take from xs ++ take (length back - k) (drop k back)
rest_more front back xs from k same place =
    let rest : take (length back - k) (drop k back) ≡ drop k back = take_rest back k in
    let split : drop from xs ≡ drop k back ++ [] =
    ap (λ l. drop from l) (sym same) ∙ ap (λ n. drop n (front ++ back)) place ∙ drop-append-add front back k ∙ sym (append-nil (drop k back)) in
    rw rest (piece_more xs (drop k back) [] from split)

-- a piece ends within the list
pub piece_within : {X : Type 0} (xs piece : List X) (from : ℕ) → from ≤ length xs → take (from + length piece) xs ≡ take from xs ++ piece → from + length piece ≤ length xs
piece_within xs piece from within same =
    omega (arith, length-take-le from xs within, ap length same, length-append (take from xs) piece, length-take (from + length piece) xs)

-- the same of all that is left
pub back_more : {X : Type 0} (front back xs : List X) (from k : ℕ) → front ++ back ≡ xs → from ≡ length front + k → take (from + length (drop k back)) xs ≡ take from xs ++ drop k back
back_more front back xs from k same place =
    let split : drop from xs ≡ drop k back ++ [] =
    ap (λ l. drop from l) (sym same) ∙ ap (λ n. drop n (front ++ back)) place ∙ drop-append-add front back k ∙ sym (append-nil (drop k back)) in
    piece_more xs (drop k back) [] from split

-- and the first of the piece is at its place
pub piece_first : {X : Type 0} (xs piece : List X) (from : ℕ) (d : X) → from < length xs → 0 < length piece → take (from + length piece) xs ≡ take from xs ++ piece → get_or piece 0 d ≡ get_or xs from d
piece_first xs piece from d within some same =
    let long : length (take from xs) ≡ from = length-take-le from xs (omega arith) in
    let near : from < from + length piece = omega arith in
    let at : get_or (take from xs ++ piece) (length (take from xs) + 0) d ≡ get_or piece 0 d = get_or-append-add (take from xs) piece 0 d in
    let place : length (take from xs) + 0 ≡ from = omega arith in
    sym at ∙ ap (λ k. get_or (take from xs ++ piece) k d) place ∙ ap (λ l. get_or l from d) (sym same) ∙ get_or-take (from + length piece) xs from d near

module _ {C X : Type 0} (items : C → List X) (n : ℕ) where
  -- full chunks hold n elements each
  pub length_full : (chunks : List C) → AreFull items n chunks → length (flat_map items chunks) ≡ n * length chunks
  length_full [] full = grind arith
  length_full (c ∷ cs) full = grind (arith, length-append (items c) (flat_map items cs), length_full cs full.1, full.0)

  -- the chunk at a place holds n elements
  pub full_at : (chunks : List C) (q : ℕ) (d : C) → AreFull items n chunks → q < length chunks → length (items (get_or chunks q d)) ≡ n
  full_at [] q d full within = absurd (omega arith)
  full_at (c ∷ cs) zero d full within = full.0
  full_at (c ∷ cs) (suc q) d full within = full_at cs q d full.1 (omega arith)

  -- the elements from place r of chunk q on
  pub rest_at : (chunks : List C) (q r : ℕ) (d : C) → AreFull items n chunks → q < length chunks → r ≤ n → drop (n * q + r) (flat_map items chunks) ≡ drop r (items (get_or chunks q d)) ++ flat_map items (drop (suc q) chunks)
  rest_at [] q r d full within small = absurd (omega arith)
  rest_at (c ∷ cs) zero r d full within small =
      let place : n * 0 + r ≡ r = grind arith in
      let short : r ≤ length (items c) = omega (arith, full.0) in
      ap (λ k. drop k (items c ++ flat_map items cs)) place ∙ drop-append-le r (items c) (flat_map items cs) short
  rest_at (c ∷ cs) (suc q) r d full within small =
      let place : n * suc q + r ≡ length (items c) + (n * q + r) = grind (arith, full.0) in
      ap (λ k. drop k (items c ++ flat_map items cs)) place ∙ drop-append-add (items c) (flat_map items cs) (n * q + r) ∙ rest_at cs q r d full.1 (omega arith) small

  -- one more full chunk
  pub full_push : (chunks : List C) (c : C) → AreFull items n chunks → length (items c) ≡ n → AreFull items n (chunks ++ c ∷ [])
  full_push [] c full one = (one, tt)
  full_push (x ∷ xs) c full one = (full.0, full_push xs c full.1 one)

  -- chunks with the same elements are as full, and hold the same list
  pub same_full : (old new : List C) → map items new ≡ map items old → AreFull items n old → AreFull items n new
  same_full [] [] same full = tt
  same_full [] (y ∷ ys) same full = cc
  same_full (x ∷ xs) [] same full = cc
  same_full (x ∷ xs) (y ∷ ys) same full =
      let head : items y ≡ items x = cc in
      let rest : map items ys ≡ map items xs = cc in
      (ap length head ∙ full.0, same_full xs ys rest full.1)

  pub same_items : (old new : List C) → map items new ≡ map items old → flat_map items new ≡ flat_map items old
  same_items [] [] same = refl
  same_items [] (y ∷ ys) same = cc
  same_items (x ∷ xs) [] same = cc
  same_items (x ∷ xs) (y ∷ ys) same =
      let head : items y ≡ items x = cc in
      let rest : flat_map items ys ≡ flat_map items xs = same_items xs ys cc in
      cc

  -- the chunk of a place is there
  pub chunk_within : (chunks : List C) (xs : List X) (from : ℕ) → 0 < n → AreFull items n chunks → flat_map items chunks ≡ xs → from < length xs → from / n < length chunks
  chunk_within chunks xs from some full same within =
      let wide : from < n * length chunks = omega (arith, length_full chunks full, ap length same) in
      grind (arith, div-add-mod from n)

  module _ (chunks : List C) (xs : List X) (from : ℕ) (some : 0 < n) (full : AreFull items n chunks) (same : flat_map items chunks ≡ xs) (within : from < length xs) (d : C) (chunk : List X) (is : chunk ≡ items (get_or chunks (from / n) d)) where
    -- the chunk of a place holds n elements
    pub chunk_long : length chunk ≡ n
    chunk_long = ap length is ∙ full_at chunks (from / n) d full (chunk_within chunks xs from some full same within)

    -- the elements from its place on, by chunks
    chunk_split : drop from xs ≡ drop (from % n) chunk ++ flat_map items (drop (suc (from / n)) chunks)
    chunk_split =
        let place : n * (from / n) + from % n ≡ from = div-add-mod from n in
        let small : from % n ≤ n = omega arith in
        ap (λ l. drop from l) (sym same) ∙ ap (λ k. drop k (flat_map items chunks)) (sym place) ∙ rest_at chunks (from / n) (from % n) d full (chunk_within chunks xs from some full same within) small
        ∙ ap (λ l. drop (from % n) l ++ flat_map items (drop (suc (from / n)) chunks)) (sym is)

    pub chunk_some : 0 < length (drop (from % n) chunk)
    chunk_some = omega (arith, length-drop (from % n) chunk, chunk_long)

    pub chunk_more : take (from + length (drop (from % n) chunk)) xs ≡ take from xs ++ drop (from % n) chunk
    chunk_more = piece_more xs (drop (from % n) chunk) (flat_map items (drop (suc (from / n)) chunks)) from chunk_split
