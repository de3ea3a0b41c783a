-- Which results count as BATs, by their types, and which instructions are marked, place by place.
use Rattle.std.specs.Prelude.{◌≡◌, ◌↔◌, ℕ, ◌<◌, List, [], ◌∷◌, ◌++◌, length, map, get_or, slice_get, Bool, true, false, Ok, Some}
use Rattle.cell_core.specs.declared.operator.Arg.TheVariants.{Var}
use Rattle.cell_core.specs.declared.operator.Instr.{Instr}
use Rattle.cell_core.specs.declared.operator.Op.TheVariants.{Bind}
use Rattle.cell_core.specs.Kinds.{ValueType, OneOf, BatOf}
use Rattle.mal_check.specs.Checked.{instr_types}
use Rattle.mal_meaning.specs.declared.plan.Plan.{Plan}
use Rattle.recycle_mark.specs.Marks.{is_bat_result, marks_of}

abbrev pub is_bat_type : ValueType → Bool
is_bat_type (BatOf head tail) = true
is_bat_type (OneOf kind) = false

-- whether each instruction returns a BAT, from those before it
abbrev pub bats_from : List Bool → List Instr → List Bool
bats_from bats [] = bats
bats_from bats (instr ∷ instrs) = bats_from (bats ++ is_bat_result bats instr ∷ []) instrs

-- where the instructions of a plan have types, those of BATs are the results that are reported as BATs
abbrev pub BatsAreTyped : Type 0
BatsAreTyped = (instrs : List Instr) (types : List ValueType) → instr_types instrs ≡ Ok types → bats_from [] instrs ≡ map is_bat_type types

-- ## Marks, place by place

-- the flag at a place says yes
abbrev pub IsSo : List Bool → ℕ → Type 0
IsSo flags n = get_or flags n false ≡ true

-- the arguments name this variable
abbrev pub Names : Instr → ℕ → Type 0
Names instr variable = (k : ℕ) × (slice_get instr.args k ≡ Some (Var variable))

-- each instruction has a mark. A bind that names no variable is marked. And an instruction is marked
-- exactly where it gives a BAT and each variable that it names is that of an earlier marked one
pub record AreMarkedByPlace (plan : Plan) : Type 0 where
  pub size : length (marks_of plan) ≡ length plan.instrs
  pub binds : (n : ℕ) (instr : Instr) → slice_get plan.instrs n ≡ Some instr → instr.op ≡ Bind → ((v : ℕ) → Names instr v → ⊥) → IsSo (marks_of plan) n
  pub others : (n : ℕ) (instr : Instr) → slice_get plan.instrs n ≡ Some instr
      → IsSo (marks_of plan) n ↔ (IsSo (bats_from [] plan.instrs) n × ((v : ℕ) → Names instr v → (v < n) × IsSo (marks_of plan) v))

abbrev pub MarksAreByPlace : Type 0
MarksAreByPlace = (plan : Plan) → AreMarkedByPlace plan
