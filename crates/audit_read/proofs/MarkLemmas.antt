-- What is between marks, and comments, at places.
use Rattle.std.proofs.Common.{◌≡◌, ℕ, ◌<◌, ◌+◌, List, [], ◌∷◌, ◌++◌, length, take, drop, get_or, Bool, false, ◌&&◌, cond, Option, Some, None, refl, ap, sym, ◌∙◌, arith, append_assoc, drop-drop}
use Rattle.std.specs.Prelude.{◌==◌}
use Rattle.std.proofs.lemmas.List.{drop_more}
use Rattle.audit_read.specs.Marks.{found_after}
use Rattle.read_laws.specs.TokenReader.{block_length, quoted_at}
use Rattle.sql_tree.specs.Bytes.{begins_with}

-- ## Between marks

pub found_first : (o : Option (List ℕ × ℕ)) → found_after [] 0 o ≡ o
found_first None = refl
found_first (Some found) = let same : 0 + found.1 ≡ found.1 = omega arith in ap (λ n. Some (found.0, n)) same

found_twice : (bytes more : List ℕ) (m n : ℕ) (o : Option (List ℕ × ℕ)) → found_after bytes m (found_after more n o) ≡ found_after (bytes ++ more) (m + n) o
found_twice bytes more m n None = refl
found_twice bytes more m n (Some found) =
    let sum : m + (n + found.1) ≡ (m + n) + found.1 = omega arith in
    ap (λ k. Some (bytes ++ (more ++ found.0), k)) sum ∙ ap (λ bs. Some (bs, (m + n) + found.1)) (sym (append_assoc bytes more found.0))

module _ (mark : ℕ) (bytes bs : List ℕ) (i : ℕ) (within : i < length bs) (told : found_after bytes i (quoted_at mark false (drop i bs)) ≡ quoted_at mark false bs) where
  -- so many bytes more
  pub found_more : (width : ℕ) → quoted_at mark false (drop i bs) ≡ found_after (take 1 (drop i bs)) width (quoted_at mark false (drop width (drop i bs)))
      → (new : List ℕ) → new ≡ bytes ++ get_or bs i 0 ∷ [] → found_after new (i + width) (quoted_at mark false (drop (i + width) bs)) ≡ quoted_at mark false bs
  found_more width step new added =
      let one : take 1 (drop i bs) ≡ get_or bs i 0 ∷ [] = ap (take 1) (drop_more bs i 0 within) in
      ap (λ ns. found_after ns (i + width) (quoted_at mark false (drop (i + width) bs))) added
      ∙ ap (λ ds. found_after (bytes ++ get_or bs i 0 ∷ []) (i + width) (quoted_at mark false ds)) (sym (drop-drop width i bs))
      ∙ sym (found_twice bytes (get_or bs i 0 ∷ []) i width (quoted_at mark false (drop width (drop i bs))))
      ∙ ap (λ one. found_after bytes i (found_after one width (quoted_at mark false (drop width (drop i bs))))) (sym one)
      ∙ ap (found_after bytes i) (sym step)
      ∙ told

-- ## Comments

module _ (bs : List ℕ) (i : ℕ) (within : i < length bs) (told : block_length i (drop i bs) ≡ block_length 0 bs) where
  block_front : (t : Bool) → ((get_or bs i 0 == 42) && begins_with 47 (drop (i + 1) bs)) ≡ t → cond t (Some i) (block_length (i + 1) (drop (i + 1) bs)) ≡ block_length 0 bs
  block_front t e = ap (λ t. cond t (Some i) (block_length (i + 1) (drop (i + 1) bs))) (sym e) ∙ ap (block_length i) (sym (drop_more bs i 0 within)) ∙ told

  pub block_on : ((get_or bs i 0 == 42) && begins_with 47 (drop (i + 1) bs)) ≡ false → block_length (i + 1) (drop (i + 1) bs) ≡ block_length 0 bs
  block_on e = block_front false e

  pub block_ends : (more : List ℕ) → drop i bs ≡ 42 ∷ 47 ∷ more → Some i ≡ block_length 0 bs
  block_ends more is = ap (block_length i) (sym is) ∙ told
