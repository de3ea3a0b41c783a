-- The tokens of a text, at its places.
use Rattle.std.proofs.Common.{◌≡◌, ℕ, suc, ◌<◌, ◌≤◌, ◌+◌, ◌-◌, List, ◌∷◌, ◌++◌, length, take, drop, get_or, Option, Some, None, ap, sym, ◌∙◌, subst, arith, length-drop, drop-drop, take-append-drop}
use Rattle.std.specs.Prelude.{IfSome}
use Rattle.std.specs.Str.{IsUtf8}
use Rattle.std.proofs.lemmas.List.{drop_more}
use Rattle.read_laws.specs.TokenReader.{part_at, placed}
use Rattle.read_laws.proofs.TokenLemmas.{Continues, tokens_step, tokens_stop}
use Rattle.sql_tree.specs.declared.token.Placed.{Placed}
use Rattle.sql_tree.specs.declared.token.Token.{Token}

module _ (text : List ℕ) (at : ℕ) (within : at < length text) where
  here : drop at text ≡ get_or text at 0 ∷ drop (at + 1) text
  here = drop_more text at 0 within

  -- a text goes on at each place
  pub scan_text : IsUtf8 text → (before : List ℕ) × IsUtf8 (before ++ get_or text at 0 ∷ drop (at + 1) text)
  scan_text utf8 = (take at text, subst IsUtf8 (sym (take-append-drop at text) ∙ ap (λ rest. take at text ++ rest) here) utf8)

  module _ (whole : Option (List Placed)) (tokens : List Placed) (told : Continues (length text) whole tokens (drop at text)) where
    told_here : Continues (length text) whole tokens (get_or text at 0 ∷ drop (at + 1) text)
    told_here = subst (λ rest. Continues (length text) whole tokens rest) here told

    pub scan_stops : part_at (get_or text at 0) (drop (at + 1) text) ≡ None → whole ≡ None
    scan_stops part = tokens_stop (length text) whole tokens (get_or text at 0) (drop (at + 1) text) told_here part

    -- a part of so many bytes more
    pub scan_more : (t : Option Token) (size : ℕ) → part_at (get_or text at 0) (drop (at + 1) text) ≡ Some (t, size) → size ≤ length (drop (at + 1) text)
        → (new : List Placed) → new ≡ tokens ++ placed at (at + 1 + size) t → Continues (length text) whole new (drop (at + 1 + size) text)
    scan_more t size part short new added =
        let bs : List ℕ = drop (at + 1) text in
        let long : length bs ≡ length text - (at + 1) = length-drop (at + 1) text in
        let left : length (drop size bs) ≡ length bs - size = length-drop size bs in
        let start_is : at ≡ length text - suc (length bs) = omega (arith, long) in
        let end_is : at + 1 + size ≡ length text - length (drop size bs) = omega (arith, long, left) in
        let places : tokens ++ placed at (at + 1 + size) t ≡ tokens ++ placed (length text - suc (length bs)) (length text - length (drop size bs)) t =
        ap (λ n. tokens ++ placed n (at + 1 + size) t) start_is ∙ ap (λ n. tokens ++ placed (length text - suc (length bs)) n t) end_is in
        subst (λ rest. Continues (length text) whole new rest) (drop-drop size (at + 1) text)
        (tokens_step (length text) whole tokens (get_or text at 0) bs told_here new size t part (added ∙ places))

    -- what was found at the place, among all that may be
    pub scan_next : (found : Option (Option Token × ℕ)) → found ≡ part_at (get_or text at 0) (drop (at + 1) text) → IfSome found (λ part. part.1 ≤ length (drop (at + 1) text))
        → (t : Option Token) (size : ℕ) → found ≡ Some (t, size) → (new : List Placed) → new ≡ tokens ++ placed at (at + 1 + size) t
        → Continues (length text) whole new (drop (at + 1 + size) text) × (at + 1 + size ≤ length text)
    scan_next found part short t size is new added =
        let few : size ≤ length (drop (at + 1) text) = subst (λ (found : Option (Option Token × ℕ)). IfSome found (λ part. part.1 ≤ length (drop (at + 1) text))) is short in
        let long : length (drop (at + 1) text) ≡ length text - (at + 1) = length-drop (at + 1) text in
        (scan_more t size (sym part ∙ is) few new added, omega (arith, few, long, within))
