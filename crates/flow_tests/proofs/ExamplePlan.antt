-- The definitions of a run on a small plan over no tables: 2 + 3, that times 4, and that times 2^62, which leaves 64 bits.
use Rattle.std.proofs.Common.{◌≡◌, ℕ, List, [], ◌∷◌, Some, None, true, false, pos, refl}
use Rattle.cell_core.specs.declared.cell.Cell.TheVariants.{Int}
use Rattle.cell_core.specs.declared.operator.Op.{Op}
use Rattle.cell_core.specs.declared.operator.Op.TheVariants as op
use Rattle.cell_core.specs.declared.operator.Value.TheVariants.{One}
use Rattle.cell_core.specs.declared.operator.Arg.{Arg}
use Rattle.cell_core.specs.declared.operator.Arg.TheVariants.{Const, Var}
use Rattle.cell_core.specs.declared.operator.Instr.{Instr}
use Rattle.mal_meaning.specs.declared.plan.Plan.{Plan}
use Rattle.mal_meaning.specs.Meaning.{instr_value}
use Rattle.dataflow.specs.Rules.{value_at}
use Rattle.dataflow.specs.Plans.{has, has_all, is_out}
use Rattle.flow_tests.specs.Sound.{over_nothing, is_job}

abbrev int : ℕ → Arg
int n = Const (Int (pos n))

abbrev instr : Op → List Arg → Instr
instr operator args = record { op = operator; args = args }

abbrev plan : Plan
plan = record {
  instrs =
      instr op.Plus (int 2 ∷ int 3 ∷ [])
      ∷ instr op.Times (Var 0 ∷ int 4 ∷ [])
      ∷ instr op.Times (Var 0 ∷ int 4611686018427387904 ∷ [])
      ∷ [];
  out = record { cols = Var 1 ∷ []; keep = None; order = []; limit = None };
}

values : (value_at (over_nothing plan) 0 ≡ Some (One (Int (pos 5)))) × (value_at (over_nothing plan) 1 ≡ Some (One (Int (pos 20)))) × (value_at (over_nothing plan) 2 ≡ None)
unfolding instr_value
values = (refl, refl, refl)

-- after the first instruction the other two are ready; before it they aren't
ready : (has_all (has (0 ∷ [])) (Var 0 ∷ int 4 ∷ []) ≡ true) × (has_all (has []) (Var 0 ∷ int 4 ∷ []) ≡ false)
ready = (refl, refl)

-- all three are handed out and the second isn't done
out : (is_out (0 ∷ 2 ∷ 1 ∷ []) (0 ∷ 2 ∷ []) 1 ≡ true) × (is_out (0 ∷ 2 ∷ 1 ∷ []) (0 ∷ 2 ∷ []) 2 ≡ false) × (is_out (0 ∷ []) [] 1 ≡ false)
out = (refl, refl, refl)

jobs : (is_job plan.instrs 2 ≡ true) × (is_job plan.instrs 3 ≡ false)
jobs = (refl, refl)
