-- One step of a pass, and a pass that shares, as a set keeps its members.
use Rattle.std.proofs.Common.{◌≡◌, ℕ, suc, zero, ◌+◌, Bool, true, false, cond, ◌-◌, ◌≤◌, List, [], ◌∷◌, ◌++◌, length, take, drop, Option, Some, None, refl, ap, sym, ◌∙◌, arith}
use Rattle.std.specs.Prelude.{position, nat_lt, not, ◌||◌, get_or}
use Rattle.std.proofs.lemmas.List.{take_all}
use Rattle.std.specs.List.{list_any, position_or_len}
use Rattle.std.proofs.lemmas.Bool.{lt-ltb}
use Rattle.std.proofs.lemmas.Bool.Decides.{Decides-ltb, Decides-like, same_from_decides}
use Rattle.std.specs.Option.{option_map_or}
use Rattle.cell_core.specs.declared.operator.Arg.{Arg}
use Rattle.cell_core.specs.declared.operator.Arg.TheVariants.{Var}
use Rattle.cell_core.specs.declared.operator.Instr.{Instr}
use Rattle.cell_core.specs.SameInstr.{same_instr}
use Rattle.mal_opt.specs.Passes.{Passed, Step, behind, keeping, replaced, sharing, renamed_instr, passed}

pub one_passed : (step : Step) (so after all : Passed) (instr : Instr) (more : List Instr) → step so (renamed_instr so.places instr) ≡ after → passed step so (instr ∷ more) ≡ all → passed step after more ≡ all
one_passed step so after all instr more e h = sym (ap (λ s. passed step s more) e) ∙ h

-- a pass after one more instruction
pub pass_on : (step : Step) (instrs after rest more : List Instr) (places places' : List Arg) (item named : Instr) (place : Arg) (all : Passed)
    → rest ≡ item ∷ more → named ≡ renamed_instr places item → step (behind instrs places) named ≡ behind after (places ++ place ∷ []) → places' ≡ places ++ place ∷ []
    → passed step (behind instrs places) rest ≡ all → passed step (behind after places') more ≡ all
pass_on step instrs after rest more places places' item named place all split is made pushed e =
    ap (λ ps. passed step (behind after ps) more) pushed ∙ sym (ap (λ s. passed step s more) (sym (ap (step (behind instrs places)) is) ∙ made)) ∙ sym (ap (passed step (behind instrs places)) split) ∙ e

-- the set has a member that passes, or the place is after all
module _ {X : Type 0} (test : X → Bool) where
  one_less : (n m : ℕ) → nat_lt (1 + n) (suc m) ≡ nat_lt n m
  one_less n m = same_from_decides _ _ (Decides-ltb (1 + n) (suc m)) (Decides-like _ (λ e. omega (arith, e)) (λ e. omega (arith, e)) (Decides-ltb n m))

  pub found_or_not : (xs : List X) → list_any test xs ≡ nat_lt (position_or_len test xs) (length xs)
  found_or_not [] = refl
  found_or_not (x ∷ xs) = by_case (test x) (found_or_not xs)
    where
      by_case : (b : Bool) → list_any test xs ≡ nat_lt (position_or_len test xs) (length xs) → (b || list_any test xs) ≡ nat_lt (cond (not b) (1 + position_or_len test xs) 0) (suc (length xs))
      by_case true e = sym (lt-ltb 0 (suc (length xs)) (omega arith))
      by_case false e = e ∙ sym (one_less (position_or_len test xs) (length xs))

  not_found : (xs : List X) → list_any test xs ≡ false → position_or_len test xs ≡ length xs
  not_found [] e = refl
  not_found (x ∷ xs) e = by_case (test x) e (not_found xs)
    where
      by_case : (b : Bool) → (b || list_any test xs) ≡ false → (list_any test xs ≡ false → position_or_len test xs ≡ length xs) → cond (not b) (1 + position_or_len test xs) 0 ≡ suc (length xs)
      by_case true e h = cc
      by_case false e h = let same : position_or_len test xs ≡ length xs = h e in omega (arith, same)

-- what a set does with a new member
pub shared_is : (keys : List Instr) (places : List Arg) (instr : Instr)
    → sharing keeping (behind keys places) instr ≡ behind (cond (list_any (same_instr instr) keys) keys (keys ++ instr ∷ [])) (places ++ Var (position_or_len (same_instr instr) keys) ∷ [])
shared_is keys places instr = by_case (list_any (same_instr instr) keys) refl
  where
    place : ℕ
    place = position_or_len (same_instr instr) keys

    made : Bool → Passed
    made b = option_map_or (λ n. replaced (behind keys places) (Var n)) (cond b (Some place) None) (keeping (behind keys places) instr)

    by_case : (b : Bool) → list_any (same_instr instr) keys ≡ b → sharing keeping (behind keys places) instr ≡ behind (cond b keys (keys ++ instr ∷ [])) (places ++ Var place ∷ [])
    by_case true e = ap made (sym (found_or_not (same_instr instr) keys) ∙ e)
    by_case false e = ap made (sym (found_or_not (same_instr instr) keys) ∙ e) ∙ ap (λ n. behind (keys ++ instr ∷ []) (places ++ Var n ∷ [])) (sym (not_found (same_instr instr) keys e))
