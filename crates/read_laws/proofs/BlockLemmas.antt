-- The first `*/` in a text.
use Rattle.std.proofs.Common.{◌≡◌, ℕ, zero, suc, ◌+◌, List, [], ◌∷◌, ◌++◌, length, take, drop, Bool, true, false, ◌&&◌, ◌||◌, cond, Some, refl, ap, sym, ◌∙◌, arith}
use Rattle.std.specs.Prelude.{◌==◌}
use Rattle.std.proofs.lemmas.Bool.{eqb-true, and_parts}
use Rattle.sql_tree.specs.Bytes.{begins_with, holds_close}
use Rattle.read_laws.specs.TokenReader.{block_length}
use Rattle.text_bytes.proofs.FoundLemmas.{value_found}

-- the first `*/` comes after so many bytes
pub record Closes (bs : List ℕ) (k : ℕ) : Type 0 where
  pub text_is : take k bs ++ 42 ∷ 47 ∷ drop (k + 2) bs ≡ bs
  pub inside : holds_close (take k bs) ≡ false

begins_there : (byte : ℕ) (bs : List ℕ) → begins_with byte bs ≡ true → byte ∷ drop 1 bs ≡ bs
begins_there byte [] h = cc
begins_there byte (b ∷ bs) h = ap (λ c. c ∷ bs) (sym (eqb-true b byte h))

here : (b : ℕ) (bs : List ℕ) → ((b == 42) && begins_with 47 bs) ≡ true → Closes (b ∷ bs) 0
here b bs h =
    let parts = and_parts (b == 42) (begins_with 47 bs) h in
    record {
      text_is = ap (λ cs. 42 ∷ cs) (begins_there 47 bs parts.1) ∙ ap (λ c. c ∷ bs) (sym (eqb-true b 42 parts.0));
      inside = refl;
    }

-- the bytes before the place don't hold more than those before it
front_false : (b : ℕ) (k : ℕ) (bs : List ℕ) → ((b == 42) && begins_with 47 bs) ≡ false → ((b == 42) && begins_with 47 (take k bs)) ≡ false
front_false b zero bs h = elim (b == 42) as (λ t. (t && false) ≡ false) [ true ↦ refl | false ↦ refl ]
front_false b (suc k) [] h = h
front_false b (suc k) (c ∷ bs) h = h

later : (b : ℕ) (bs : List ℕ) (k : ℕ) → ((b == 42) && begins_with 47 bs) ≡ false → Closes bs k → Closes (b ∷ bs) (suc k)
later b bs k h closes =
    let more : suc k + 2 ≡ suc (k + 2) = omega arith in
    record {
      text_is = rw more (ap (λ cs. b ∷ cs) closes.text_is);
      inside = ap (λ t. t || holds_close (take k bs)) (front_false b k bs h) ∙ closes.inside;
    }

pub block_sound : (bs : List ℕ) (at n : ℕ) → block_length at bs ≡ Some n → (k : ℕ) × (n ≡ at + k) × Closes bs k
block_sound [] at n h = cc
block_sound (b ∷ bs) at n h = by_end (block_sound bs (at + 1) n) ((b == 42) && begins_with 47 bs) refl h
  where
    by_end : (block_length (at + 1) bs ≡ Some n → (k : ℕ) × (n ≡ (at + 1) + k) × Closes bs k) → (t : Bool) → ((b == 42) && begins_with 47 bs) ≡ t → cond t (Some at) (block_length (at + 1) bs) ≡ Some n → (k : ℕ) × (n ≡ at + k) × Closes (b ∷ bs) k
    by_end more true e h = let same : at ≡ n = value_found at n h in (0, omega (arith, same), here b bs e)
    by_end more false e h =
        let (k, sum, closes) = more h in
        (suc k, omega (arith, sum), later b bs k e closes)

-- the place is found again before a `*/`
pub or_parts : (p q : Bool) → (p || q) ≡ false → (p ≡ false) × (q ≡ false)
or_parts true q h = cc
or_parts false q h = (refl, h)

pub no_end : (b : ℕ) (bs rest : List ℕ) → ((b == 42) && begins_with 47 bs) ≡ false → ((b == 42) && begins_with 47 (bs ++ 42 ∷ 47 ∷ rest)) ≡ false
no_end b [] rest h = elim (b == 42) as (λ t. (t && false) ≡ false) [ true ↦ refl | false ↦ refl ]
no_end b (c ∷ bs) rest h = h

pub block_told : (bs rest : List ℕ) (at : ℕ) → holds_close bs ≡ false → block_length at (bs ++ 42 ∷ 47 ∷ rest) ≡ Some (at + length bs)
block_told [] rest at h = let same : at ≡ at + 0 = omega arith in ap Some same
block_told (b ∷ bs) rest at h =
    let parts = or_parts ((b == 42) && begins_with 47 bs) (holds_close bs) h in
    let sum : (at + 1) + length bs ≡ at + length (b ∷ bs) = omega arith in
    ap (λ t. cond t (Some at) (block_length (at + 1) (bs ++ 42 ∷ 47 ∷ rest))) (no_end b bs rest parts.0) ∙ block_told bs rest (at + 1) parts.1 ∙ ap Some sum
