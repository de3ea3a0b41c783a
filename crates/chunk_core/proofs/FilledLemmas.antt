-- What is known of columns that are made whole.
use Rattle.std.proofs.Common.{◌≡◌, ℕ, suc, zero, ◌+◌, ◌*◌, ◌^◌, ◌<◌, Bool, true, false, ◌∷◌, ◌++◌, refl, sym, ap, ◌∙◌, arith}
use Rattle.std.specs.Prelude.{◌&&◌, replicate, pos, ◌<ℤ◌}
use Rattle.std.specs.Ordering.{is_lt, int_cmp, ordering_then}
use Rattle.std.specs.declared.cmp.Ordering.TheVariants.{Less, Equal}
use Rattle.std.proofs.lemmas.List.{replicate-append-replicate}
use Rattle.std.proofs.lemmas.List.Sums.{sum_by-cons}
use Rattle.std.proofs.lemmas.List.Folds.{sum_by-replicate}
use Rattle.std.proofs.lemmas.Bool.{ne_eqb, eq-eqb}
use Rattle.std.proofs.Math.Bool.{and-false}
use Rattle.std.proofs.lemmas.Cmp.{tied_itself}
use Rattle.std.proofs.lemmas.Int.{ints}
use Rattle.std.specs.Cmp.{int_cmp_is}
use Rattle.cell_core.specs.declared.cell.Cell.{Cell}
use Rattle.cell_core.specs.declared.cell.Cell.TheVariants.{Oid}
use Rattle.cell_core.specs.Order.{cell_bytes, cell_cmp_total}
use Rattle.chunk_core.specs.Facts.{neighbours_from, rises, is_dense, is_oid, is_below, is_next_oid, cells_bytes, AreToldOf}
use Rattle.chunk_core.specs.Filled.{oids_from}
use Rattle.chunk_core.specs.declared.facts.Facts.{Facts}

-- oids are those of the first numbers and then the others
pub oids_append : (from m n : ℕ) → oids_from from (m + n) ≡ oids_from from m ++ oids_from (from + m) n
oids_append from zero n =
    let none : zero + n ≡ n = omega arith in
    let here : from ≡ from + zero = omega arith in
    ap (oids_from from) none ∙ ap (λ k. oids_from k n) here
oids_append from (suc m) n =
    let more : suc m + n ≡ suc (m + n) = omega arith in
    let there : from + 1 + m ≡ from + suc m = omega arith in
    ap (oids_from from) more ∙ ap (λ cells. Oid from ∷ cells) (oids_append (from + 1) m n ∙ ap (λ k. oids_from (from + 1) m ++ oids_from k n) there)

-- the two parts of a column that is made whole
pub oids_parts : (from m n count : ℕ) → m + n ≡ count → oids_from from m ++ oids_from (from + m) n ≡ oids_from from count
oids_parts from m n count all = sym (oids_append from m n) ∙ ap (oids_from from) all

pub same_parts : (m n count : ℕ) (c : Cell) → m + n ≡ count → replicate m c ++ replicate n c ≡ replicate count c
same_parts m n count c all = replicate-append-replicate m n c ∙ ap (λ k. replicate k c) all

pub oids_bytes : (from n : ℕ) → cells_bytes (oids_from from n) ≡ 8 * n
oids_bytes from zero = refl
oids_bytes from (suc n) = omega (arith, sum_by-cons cell_bytes (Oid from) (oids_from (from + 1) n), oids_bytes (from + 1) n)

pub next_is_below : (m : ℕ) → is_below (Oid m) (Oid (m + 1)) ≡ true
next_is_below m =
    let above : pos m <ℤ pos (m + 1) = omega (arith, ints) in
    let less : Less ≡ int_cmp (pos m) (pos (m + 1)) = int_cmp_is (pos m) (pos (m + 1)) Less above in
    ap (λ o. is_lt (ordering_then o Equal)) (sym less)

pub oids_neighbours : (p : Cell → Cell → Bool) → ((m : ℕ) → p (Oid m) (Oid (m + 1)) ≡ true) → (from n : ℕ) → neighbours_from p (Oid from) (oids_from (from + 1) n) ≡ true
oids_neighbours p next from zero = refl
oids_neighbours p next from (suc n) = ap (λ b. b && neighbours_from p (Oid (from + 1)) (oids_from (from + 1 + 1) n)) (next from) ∙ oids_neighbours p next (from + 1) n

pub oids_rise : (from n : ℕ) → rises (oids_from from n) ≡ true
oids_rise from zero = refl
oids_rise from (suc n) = oids_neighbours is_below next_is_below from n

pub oids_dense : (from n : ℕ) → is_dense (oids_from from n) ≡ true
oids_dense from zero = refl
oids_dense from (suc n) = oids_neighbours is_next_oid (λ m. eq-eqb (m + 1) (m + 1) refl) from n

pub oids_told : (facts : Facts) (from n : ℕ) → facts.bytes ≡ 8 * n → facts.bytes < 2 ^ 60 → facts.rises ≡ true → facts.dense ≡ true → AreToldOf facts (oids_from from n)
oids_told facts from n bytes few rising dense = record {
  bytes = bytes ∙ sym (oids_bytes from n);
  few = omega (arith, oids_bytes from n);
  rising = rising ∙ sym (oids_rise from n);
  dense = dense ∙ sym (oids_dense from n);
}

-- no cell is below itself, and none is the next of itself
none_below : (c : Cell) → is_below c c ≡ false
none_below c = ap is_lt (tied_itself cell_cmp_total c)

none_next : (c : Cell) → is_next_oid c c ≡ false
none_next (Oid m) = ne_eqb m (m + 1) (λ e. omega (arith, e))
none_next _ = refl

pub same_rise : (n : ℕ) (c : Cell) → 1 < n → rises (replicate n c) ≡ false
same_rise zero c many = absurd (omega arith)
same_rise (suc zero) c many = absurd (omega arith)
same_rise (suc (suc n)) c many = ap (λ b. b && neighbours_from is_below c (replicate n c)) (none_below c)

pub same_dense : (n : ℕ) (c : Cell) → 1 < n → is_dense (replicate n c) ≡ false
same_dense zero c many = absurd (omega arith)
same_dense (suc zero) c many = absurd (omega arith)
same_dense (suc (suc n)) c many =
    ap (λ b. is_oid c && (b && neighbours_from is_next_oid c (replicate n c))) (none_next c) ∙ and-false (is_oid c)

pub same_told : (facts : Facts) (n : ℕ) (c : Cell) → facts.bytes ≡ n * cell_bytes c → facts.bytes < 2 ^ 60 → facts.rises ≡ rises (replicate n c) → facts.dense ≡ is_dense (replicate n c) → AreToldOf facts (replicate n c)
same_told facts n c bytes few rising dense = record {
  bytes = bytes ∙ sym (sum_by-replicate cell_bytes n c);
  few = omega (arith, bytes, sum_by-replicate cell_bytes n c);
  rising = rising;
  dense = dense;
}
