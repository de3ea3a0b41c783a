-- What a pass leaves: no calculation of constants, and no two equal instructions.
use Rattle.std.proofs.Common.{◌≡◌, ◌+◌, ◌<◌, ℕ, suc, zero, Bool, true, false, cond, List, [], ◌∷◌, ◌++◌, length, Option, Some, None, refl, ap, sym, ◌∙◌, subst, arith}
use Rattle.std.specs.Prelude.{◌&&◌, ◌||◌, slice_get, position, nat_lt, is_none}
use Rattle.std.specs.List.{list_all, list_any, position_or_len}
use Rattle.std.specs.Option.{option_map_or}
use Rattle.std.specs.Cmp.{first_so, second_so}
use Rattle.std.proofs.lemmas.Option.{same_Some, slice_get_within}
use Rattle.cell_core.specs.declared.cell.Cell.{Cell}
use Rattle.cell_core.specs.declared.operator.Arg.{Arg}
use Rattle.cell_core.specs.declared.operator.Arg.TheVariants.{Const, Var}
use Rattle.cell_core.specs.declared.operator.Instr.{Instr}
use Rattle.cell_core.specs.SameInstr.{same_instr, same_instr_decides}
use Rattle.mal_meaning.specs.declared.plan.Plan.{Plan}
use Rattle.mal_opt.specs.Laws.{NoneFolds, AllDiffer}
use Rattle.mal_opt.specs.Passes.{Passed, Step, renamed_instr, keeping, replaced, constant_value, folding, sharing, passed, nothing, through}
use Rattle.mal_opt.proofs.Runs.{get_either}
use Rattle.mal_opt.proofs.PassLemmas.{found_or_not}
use Rattle.mal_opt.proofs.Types.{all_snoc, passed_all}

-- ## No calculation of constants

abbrev pub is_no_constant : Instr → Bool
is_no_constant i = is_none (constant_value i)

-- what an instruction that doesn't fold becomes
abbrev pub KeepsUnfolded : Step → Type 0
KeepsUnfolded step = (so : Passed) (instr : Instr) → constant_value instr ≡ None → list_all is_no_constant so.instrs ≡ true → list_all is_no_constant (step so instr).instrs ≡ true

pub keeping_unfolded : KeepsUnfolded keeping
keeping_unfolded so instr e h = all_snoc is_no_constant so.instrs instr h (ap is_none e)

pub sharing_unfolded : (otherwise : Step) → KeepsUnfolded otherwise → KeepsUnfolded (sharing otherwise)
sharing_unfolded otherwise p so instr e h = elim (position (same_instr instr) so.instrs) as (λ o. list_all is_no_constant (option_map_or (λ n. replaced so (Var n)) o (otherwise so instr)).instrs ≡ true) [
  | None ↦ p so instr e h
  | Some n ↦ h
]

folding_unfolded : (otherwise : Step) → KeepsUnfolded otherwise → (so : Passed) (instr : Instr) → list_all is_no_constant so.instrs ≡ true → list_all is_no_constant (folding otherwise so instr).instrs ≡ true
folding_unfolded otherwise p so instr h = by_value (constant_value instr) refl
  where
    by_value : (o : Option Cell) → constant_value instr ≡ o → list_all is_no_constant (option_map_or (λ cell. replaced so (Const cell)) o (otherwise so instr)).instrs ≡ true
    by_value None e = p so instr e h
    by_value (Some cell) e = h

all_true : (is : List Instr) → list_all (λ i. true) is ≡ true
all_true [] = refl
all_true (i ∷ is) = all_true is

at_all : (test : Instr → Bool) (is : List Instr) (n : ℕ) (i : Instr) → list_all test is ≡ true → slice_get is n ≡ Some i → test i ≡ true
at_all test [] n i h e = cc
at_all test (x ∷ is) zero i h e = sym (ap test (same_Some x i e)) ∙ first_so (test x) (list_all test is) h
at_all test (x ∷ is) (suc n) i h e = at_all test is n i (second_so (test x) (list_all test is) h) e

none_from : (o : Option Cell) → is_none o ≡ true → o ≡ None
none_from None e = refl
none_from (Some c) e = absurd (clash e)
  where
    clash : false ≡ true → ⊥
    clash e = cc

pub none_folds : (otherwise : Step) → KeepsUnfolded otherwise → (plan : Plan) → NoneFolds (through (folding otherwise) plan)
none_folds otherwise p plan n instr at =
    let all = passed_all (λ i. true) (λ i. true) is_no_constant (folding otherwise) (λ places i e. refl) (λ so i e h. folding_unfolded otherwise p so i h) nothing plan.instrs (all_true plan.instrs) refl in
    none_from (constant_value instr) (at_all is_no_constant (passed (folding otherwise) nothing plan.instrs).instrs n instr all at)

-- ## No two equal instructions

abbrev pub Differ : List Instr → Type 0
Differ is = (m n : ℕ) (i : Instr) → slice_get is m ≡ Some i → slice_get is n ≡ Some i → m ≡ n

not_any : (test : Instr → Bool) (is : List Instr) (n : ℕ) (i : Instr) → list_any test is ≡ false → slice_get is n ≡ Some i → test i ≡ true → ⊥
not_any test [] n i h e t = absurd (let low : n < 0 = slice_get_within [] n i e in omega (arith, low))
not_any test (x ∷ is) zero i h e t = clash (test x) (ap test (same_Some x i e) ∙ t) h
  where
    clash : (b : Bool) → b ≡ true → (b || list_any test is) ≡ false → ⊥
    clash true e h = cc
    clash false e h = cc
not_any test (x ∷ is) (suc n) i h e t = not_any test is n i (rest (test x) h) e t
  where
    rest : (b : Bool) → (b || list_any test is) ≡ false → list_any test is ≡ false
    rest true h = cc
    rest false h = h

snoc_differ : (is : List Instr) (x : Instr) → Differ is → list_any (same_instr x) is ≡ false → Differ (is ++ x ∷ [])
snoc_differ is x d none m n i a b =
    get_either is x m i a
    (λ old. get_either is x n i b (λ old'. d m n i old old') (λ last same. absurd (other i m old same)))
    (λ last same. get_either is x n i b (λ old'. absurd (other i n old' same)) (λ last' same'. last ∙ sym last'))
  where
    other : (i : Instr) (m : ℕ) → slice_get is m ≡ Some i → x ≡ i → ⊥
    other i m e same = not_any (same_instr x) is m i none e ((same_instr_decides x i).1 same)

pub sharing_differ : (so : Passed) (instr : Instr) → Differ so.instrs → Differ (sharing keeping so instr).instrs
sharing_differ so instr d = by_case (list_any (same_instr instr) so.instrs) refl
  where
    made : Bool → List Instr
    made b = (option_map_or (λ n. replaced so (Var n)) (cond b (Some (position_or_len (same_instr instr) so.instrs)) None) (keeping so instr)).instrs

    by_case : (b : Bool) → list_any (same_instr instr) so.instrs ≡ b → Differ (sharing keeping so instr).instrs
    by_case true e = subst (λ b. Differ (made b)) (sym e ∙ found_or_not (same_instr instr) so.instrs) d
    by_case false e = subst (λ b. Differ (made b)) (sym e ∙ found_or_not (same_instr instr) so.instrs) (snoc_differ so.instrs instr d e)

pub folding_differ : (otherwise : Step) → ((so : Passed) (instr : Instr) → Differ so.instrs → Differ (otherwise so instr).instrs) → (so : Passed) (instr : Instr) → Differ so.instrs → Differ (folding otherwise so instr).instrs
folding_differ otherwise p so instr d = elim (constant_value instr) as (λ o. Differ (option_map_or (λ cell. replaced so (Const cell)) o (otherwise so instr)).instrs) [
  | None ↦ p so instr d
  | Some cell ↦ d
]

passed_differ : (step : Step) → ((so : Passed) (instr : Instr) → Differ so.instrs → Differ (step so instr).instrs) → (so : Passed) (is : List Instr) → Differ so.instrs → Differ (passed step so is).instrs
passed_differ step p so [] d = d
passed_differ step p so (i ∷ is) d = passed_differ step p (step so (renamed_instr so.places i)) is (p so (renamed_instr so.places i) d)

none_differ : Differ []
none_differ m n i a b = absurd (let low : m < 0 = slice_get_within [] m i a in omega (arith, low))

pub all_differ : (step : Step) → ((so : Passed) (instr : Instr) → Differ so.instrs → Differ (step so instr).instrs) → (plan : Plan) → AllDiffer (through step plan)
all_differ step p plan = passed_differ step p nothing plan.instrs none_differ
