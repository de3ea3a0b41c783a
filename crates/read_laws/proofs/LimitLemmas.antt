-- The end of the last token.
use Rattle.std.proofs.Common.{◌≡◌, ℕ, zero, suc, ◌+◌, ◌-◌, ◌<◌, List, [], ◌∷◌, Some, None, length, refl, ap, sym, ◌∙◌, arith}
use Rattle.std.specs.Prelude.{slice_get}
use Rattle.sql_tree.specs.declared.token.Placed.{Placed}
use Rattle.sql_grammar.specs.Reads.{last_end}

ends_at : (first : Placed) (more : List Placed) (n : ℕ) (last : Placed) → n + 1 ≡ length more → slice_get more n ≡ Some last → last_end first more ≡ last.end
ends_at first [] n last long is = absurd (omega arith)
ends_at first (x ∷ []) zero last long is = let same : x ≡ last = cc in ap (λ (p : Placed). p.end) same
ends_at first (x ∷ y ∷ more) zero last long is = absurd (omega arith)
ends_at first (x ∷ []) (suc n) last long is = absurd (omega arith)
ends_at first (x ∷ y ∷ more) (suc n) last long is = ends_at x (y ∷ more) n last (omega arith) is

pub ends_with : (first : Placed) (more : List Placed) (last : Placed) → Some last ≡ slice_get more (length more - 1) → last_end first more ≡ last.end
ends_with first [] last is = let none : slice_get {X = Placed} [] (0 - 1) ≡ None = refl in cc
ends_with first (x ∷ more) last is = ends_at first (x ∷ more) (length more) last (omega arith) (ap (slice_get (x ∷ more)) (omega arith) ∙ sym is)

pub ends_alone : (first : Placed) (more : List Placed) → None ≡ slice_get more (length more - 1) → last_end first more ≡ first.end
ends_alone first [] is = refl
ends_alone first (x ∷ more) is = let got = some_at (x ∷ more) (length more) (omega arith) in let there : slice_get (x ∷ more) (length more) ≡ None = ap (slice_get (x ∷ more)) (omega arith) ∙ sym is in let both : Some got.0 ≡ None = sym got.1 ∙ there in cc
  where
    some_at : (xs : List Placed) (n : ℕ) → n < length xs → (p : Placed) × (slice_get xs n ≡ Some p)
    some_at [] n low = absurd (omega arith)
    some_at (y ∷ ys) zero low = (y, refl)
    some_at (y ∷ ys) (suc n) low = some_at ys n (omega arith)
