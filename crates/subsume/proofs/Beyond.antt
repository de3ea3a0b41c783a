-- How many entries reach beyond a cut: fewer and fewer, the farther the cut.
use Rattle.std.proofs.Common.{◌≡◌, ℕ, ◌+◌, ◌≤◌, List, [], ◌∷◌, Bool, true, false, cond, inl, inr, refl, ap, sym, ◌∙◌, arith, length}
use Rattle.std.specs.Prelude.{count_by}
use Rattle.std.proofs.lemmas.List.Sums.{sum_by-cons}
use Rattle.cell_core.specs.declared.cut.Cut.{Cut}
use Rattle.cell_core.specs.Cuts.{is_cut_below}
use Rattle.subsume.specs.Cutting.{Entry}
use Rattle.subsume.proofs.Members.{In}
use Rattle.subsume.proofs.CutOrder.{cut_order, below_up_to}

abbrev one_if : Bool → ℕ
one_if b = cond b 1 0

-- how many entries reach beyond a cut
abbrev pub beyond : Cut → List Entry → ℕ
beyond cut es = count_by (λ (e : Entry). is_cut_below cut e.1.high) es

one_less : (low high : Cut) (e : Entry) → is_cut_below low high ≡ true → one_if (is_cut_below high e.1.high) ≤ one_if (is_cut_below low e.1.high)
one_less low high e up = elim (is_cut_below high e.1.high) as (λ b. is_cut_below high e.1.high ≡ b → one_if b ≤ one_if (is_cut_below low e.1.high)) [
  | true ↦ λ h. let far : is_cut_below low e.1.high ≡ true = below_up_to low high e.1.high up (cut_order.one_way high e.1.high h) in let one = ap one_if far in omega (arith, one)
  | false ↦ λ _. omega arith
] refl

no_more : (low high : Cut) (es : List Entry) → is_cut_below low high ≡ true → beyond high es ≤ beyond low es
no_more low high [] up = omega arith
no_more low high (e ∷ es) up =
    let old = sum_by-cons (λ (y : Entry). one_if (is_cut_below low y.1.high)) e es in
    let new = sum_by-cons (λ (y : Entry). one_if (is_cut_below high y.1.high)) e es in
    let one = one_less low high e up in
    let rest = no_more low high es up in
    omega (arith, old, new, one, rest)

-- fewer reach beyond the end of one of them
pub fewer : (low high : Cut) (es : List Entry) (e : Entry) → In e es → is_cut_below low high ≡ true → is_cut_below low e.1.high ≡ true → is_cut_below high e.1.high ≡ false → beyond high es + 1 ≤ beyond low es
fewer low high [] e i up has lost = absurd i
fewer low high (x ∷ xs) e (inl is) up has lost =
    let old = sum_by-cons (λ (y : Entry). one_if (is_cut_below low y.1.high)) x xs in
    let new = sum_by-cons (λ (y : Entry). one_if (is_cut_below high y.1.high)) x xs in
    let a : one_if (is_cut_below low x.1.high) ≡ 1 = ap (λ (y : Entry). one_if (is_cut_below low y.1.high)) (sym is) ∙ ap one_if has in
    let b : one_if (is_cut_below high x.1.high) ≡ 0 = ap (λ (y : Entry). one_if (is_cut_below high y.1.high)) (sym is) ∙ ap one_if lost in
    let rest = no_more low high xs up in
    omega (arith, old, new, a, b, rest)
fewer low high (x ∷ xs) e (inr i) up has lost =
    let old = sum_by-cons (λ (y : Entry). one_if (is_cut_below low y.1.high)) x xs in
    let new = sum_by-cons (λ (y : Entry). one_if (is_cut_below high y.1.high)) x xs in
    let one = one_less low high x up in
    let rest = fewer low high xs e i up has lost in
    omega (arith, old, new, one, rest)

pub counted : (cut : Cut) (es : List Entry) (e : Entry) → In e es → is_cut_below cut e.1.high ≡ true → 1 ≤ beyond cut es
counted cut [] e i has = absurd i
counted cut (x ∷ xs) e (inl is) has =
    let all = sum_by-cons (λ (y : Entry). one_if (is_cut_below cut y.1.high)) x xs in
    let one : one_if (is_cut_below cut x.1.high) ≡ 1 = ap (λ (y : Entry). one_if (is_cut_below cut y.1.high)) (sym is) ∙ ap one_if has in omega (arith, all, one)
counted cut (x ∷ xs) e (inr i) has =
    let all = sum_by-cons (λ (y : Entry). one_if (is_cut_below cut y.1.high)) x xs in
    let rest = counted cut xs e i has in omega (arith, all, rest)

pub beyond_few : (cut : Cut) (es : List Entry) → beyond cut es ≤ length es
beyond_few cut [] = omega arith
beyond_few cut (e ∷ es) =
    let all = sum_by-cons (λ (y : Entry). one_if (is_cut_below cut y.1.high)) e es in
    let rest = beyond_few cut es in
    elim (is_cut_below cut e.1.high) as (λ b. one_if (is_cut_below cut e.1.high) ≡ one_if b → beyond cut (e ∷ es) ≤ length (e ∷ es)) [ true ↦ λ h. omega (arith, all, rest, h) | false ↦ λ h. omega (arith, all, rest, h) ] refl
