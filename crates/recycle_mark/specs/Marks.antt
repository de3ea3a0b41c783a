-- Which instructions of a plan are marked: their result is a BAT, and each result among their arguments is that of a marked instruction.
use Rattle.std.specs.Prelude.{List, [], ◌∷◌, ◌++◌, get_or, Bool, true, false, ◌&&◌}
use Rattle.std.specs.List.{list_all}
use Rattle.cell_core.specs.declared.operator.Arg.{Arg}
use Rattle.cell_core.specs.declared.operator.Arg.TheVariants.{Const, Var}
use Rattle.cell_core.specs.declared.operator.Instr.{Instr}
pub use Rattle.cell_core.specs.Forms.{is_bat_result}
use Rattle.mal_meaning.specs.declared.plan.Plan.{Plan}

-- a constant, or the result of a marked instruction
abbrev pub is_marked : List Bool → Arg → Bool
is_marked marks (Const cell) = true
is_marked marks (Var n) = get_or marks n false

-- the marks of the instructions after those of which it is known whether they return a BAT and are marked
abbrev pub marks_from : List Bool → List Bool → List Instr → List Bool
marks_from bats marks [] = marks
marks_from bats marks (instr ∷ instrs) =
    marks_from (bats ++ is_bat_result bats instr ∷ []) (marks ++ (is_bat_result bats instr && list_all (is_marked marks) instr.args) ∷ []) instrs

abbrev pub marks_of : Plan → List Bool
marks_of plan = marks_from [] [] plan.instrs
