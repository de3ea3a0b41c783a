-- What the caller keeps of a plan that is being run.
use Rattle.std.specs.Prelude.{◌≡◌, ℕ, List, [], ◌∷◌, Bool, not, nat_eq, filter, Result, Err, OnOk}
use Rattle.cell_core.specs.declared.memory.RunError.{RunError}
use Rattle.cell_core.specs.declared.memory.RunError.TheVariants.{Overflow}
use Rattle.dataflow.specs.declared.basis.Basis.{Basis}
use Rattle.dataflow.specs.declared.task.Pair.{Pair}
use Rattle.dataflow.specs.Rules.{IsTask}
use Rattle.dataflow.specs.Plans.{has, is_out, IsComplete, HasFault}

-- the list has those that are handed out and not done
abbrev pub KnowsOut : List ℕ → List ℕ → List ℕ → Type 0
KnowsOut handed finished out = (i : ℕ) → has out i ≡ is_out handed finished i

-- the list without this instruction
abbrev pub without : List ℕ → ℕ → List ℕ
without out instr = filter (λ i. not (nat_eq i instr)) out

-- two tasks, which are all that is out
pub record IsPairOf (b : Basis) (pair : Pair) (out : List ℕ) : Type 0 where
  pub first : IsTask b pair.first
  pub second : IsTask b pair.second
  pub are_out : out ≡ pair.first.instr ∷ pair.second.instr ∷ []

-- what a run of a plan leaves. What holds of the Jobs holds after Ok and after Overflow
pub record IsRun {F : Type 0} (b b' : Basis) (fixed fixed' : F) (valued needed : ℕ → Bool) (handed finished : List ℕ) (holds : Type 0) (result : Result (Unit {0}) RunError) : Type 0 where
  pub basis : b' ≡ b
  pub kept : fixed' ≡ fixed
  pub sound : OnOk result holds
  pub complete : OnOk result (IsComplete b' valued needed handed finished)
  pub overflow : result ≡ Err Overflow → HasFault b' handed
  pub sound_after_overflow : result ≡ Err Overflow → holds
