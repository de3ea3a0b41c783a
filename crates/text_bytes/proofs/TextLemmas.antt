-- Parts of texts.
use Rattle.std.proofs.Common.{◌≡◌, ℕ, ◌<◌, ◌+◌, List, [], ◌∷◌, ◌++◌, length, drop, get_or, sym, arith, subst, append_assoc, length-append}
use Rattle.std.specs.Str.{IsUtf8}
use Rattle.std.proofs.lemmas.Str.{IsUtf8-take, IsUtf8-drop, IsCharBoundary-before_ascii, IsCharBoundary-after_ascii}
use Rattle.std.proofs.Math.Seq.{get_or-append_seam, take-append_seam, drop-append_seam}

-- before and after an ASCII byte of a text are texts
pub around_ascii : (xs : List ℕ) (b : ℕ) (ys : List ℕ) → b < 128 → IsUtf8 (xs ++ b ∷ ys) → IsUtf8 xs × IsUtf8 ys
around_ascii xs b ys h text =
    let here : get_or (xs ++ b ∷ ys) (length xs) 0 ≡ b = get_or-append_seam xs b ys 0 in
    let size : length (xs ++ b ∷ ys) ≡ length xs + length (b ∷ ys) = length-append xs (b ∷ ys) in
    let within : length xs < length (xs ++ b ∷ ys) = omega (arith, size) in
    let ascii : get_or (xs ++ b ∷ ys) (length xs) 0 < 128 = omega (arith, here) in
    let front = IsUtf8-take (xs ++ b ∷ ys) (length xs) text (IsCharBoundary-before_ascii (xs ++ b ∷ ys) (length xs) within ascii) in
    let back = IsUtf8-drop (xs ++ b ∷ ys) (length xs + 1) text (IsCharBoundary-after_ascii (xs ++ b ∷ ys) (length xs) text within ascii) in
    (subst IsUtf8 (take-append_seam xs (b ∷ ys)) front, subst IsUtf8 (after xs b ys) back)
  where
    after : (xs : List ℕ) (b : ℕ) (ys : List ℕ) → drop (length xs + 1) (xs ++ b ∷ ys) ≡ ys
    after xs b ys =
        let size : length (xs ++ b ∷ []) ≡ length xs + 1 = length-append xs (b ∷ []) in
        let whole : (xs ++ b ∷ []) ++ ys ≡ xs ++ b ∷ ys = append_assoc xs (b ∷ []) ys in
        rw (sym size, sym whole) (drop-append_seam (xs ++ b ∷ []) ys)
