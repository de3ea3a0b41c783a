-- Which instructions of small plans are marked.
use Rattle.std.proofs.Common.{◌≡◌, ℕ, List, [], ◌∷◌, None, true, false, pos, codes, refl}
use Rattle.cell_core.specs.declared.cell.Cell.TheVariants.{Int, Text, Bit}
use Rattle.cell_core.specs.declared.operator.Op.{Op}
use Rattle.cell_core.specs.declared.operator.Op.TheVariants as op
use Rattle.cell_core.specs.declared.operator.Arg.{Arg}
use Rattle.cell_core.specs.declared.operator.Arg.TheVariants.{Const, Var}
use Rattle.cell_core.specs.declared.operator.Instr.{Instr}
use Rattle.mal_meaning.specs.declared.plan.Plan.{Plan}
use Rattle.recycle_mark.specs.Marks.{marks_of}

abbrev instr : Op → List Arg → Instr
instr operator args = record { op = operator; args = args }

abbrev text : List ℕ → Arg
text bytes = Const (Text bytes)

abbrev int : ℕ → Arg
int n = Const (Int (pos n))

abbrev yes : Arg
yes = Const (Bit true)

abbrev bind : Instr
bind = instr op.Bind (text (codes "t") ∷ text (codes "a") ∷ text (codes "int") ∷ [])

abbrev planned : List Instr → Plan
planned instrs = record { instrs = instrs; out = record { cols = []; keep = None; order = []; limit = None } }

-- a bind, a selection of it between constants, and its cells plus one are marked; their sum and a sum of
-- cells are no BATs; a selection from that sum on gives a BAT, and isn't marked, as it names a scalar
abbrev sums : Plan
sums = planned (
    bind
    ∷ instr op.Select (Var 0 ∷ int 2 ∷ int 3 ∷ yes ∷ yes ∷ [])
    ∷ instr op.Plus (Var 1 ∷ int 1 ∷ [])
    ∷ instr op.Sum (Var 2 ∷ [])
    ∷ instr op.Plus (Var 3 ∷ int 1 ∷ [])
    ∷ instr op.Select (Var 0 ∷ Var 3 ∷ int 9 ∷ yes ∷ yes ∷ [])
    ∷ instr op.Reverse (Var 5 ∷ [])
    ∷ [])

sums_marked : marks_of sums ≡ true ∷ true ∷ true ∷ false ∷ false ∷ false ∷ false ∷ []
sums_marked = refl

-- a result that comes later is none yet
later_marked : marks_of (planned (instr op.Reverse (Var 1 ∷ []) ∷ bind ∷ [])) ≡ false ∷ true ∷ []
later_marked = refl
