-- Which instructions of a plan are alive: a path leads from them to the output, or to one that may overflow.
use Rattle.std.specs.Prelude.{◌≡◌, ℕ, suc, ◌==◌, ◌<◌, List, [], ◌∷◌, length, get_or, slice_get, Bool, true, false, ◌&&◌, ◌||◌, Some}
use Rattle.std.specs.List.{list_any}
use Rattle.std.specs.Option.{option_map_or}
use Rattle.cell_core.specs.Forms.{may_overflow}
use Rattle.cell_core.specs.declared.operator.Arg.{Arg}
use Rattle.cell_core.specs.declared.operator.Arg.TheVariants.{Const, Var}
use Rattle.cell_core.specs.declared.operator.Instr.{Instr}
use Rattle.mal_meaning.specs.declared.plan.Out.{Out}
use Rattle.mal_meaning.specs.declared.plan.Plan.{Plan}

-- the argument is the result with this number
abbrev pub is_result : ℕ → Arg → Bool
is_result n (Const cell) = false
is_result n (Var m) = n == m

abbrev pub uses : ℕ → List Arg → Bool
uses n args = list_any (is_result n) args

-- the output or its `keep` uses the result
abbrev pub is_shown : ℕ → Out → Bool
is_shown n out = uses n out.cols || option_map_or (is_result n) out.keep false

-- one of these instructions is alive and uses the result
abbrev pub is_used : ℕ → List Instr → List Bool → Bool
is_used n (instr ∷ instrs) (alive ∷ others) = (alive && uses n instr.args) || is_used n instrs others
is_used n _ _ = false

-- whether the instruction with this number is alive, followed by whether each of those after it is
abbrev pub alive_before : Out → ℕ → Instr → List Instr → List Bool → List Bool
alive_before out n instr instrs others = (may_overflow instr.op || is_shown n out || is_used n instrs others) ∷ others

-- whether each of these instructions, which are numbered from n, is alive
abbrev pub alive_from : Out → ℕ → List Instr → List Bool
alive_from out n [] = []
alive_from out n (instr ∷ instrs) = alive_before out n instr instrs (alive_from out (suc n) instrs)

abbrev pub is_alive : Plan → ℕ → Bool
is_alive plan n = get_or (alive_from plan.out 0 plan.instrs) n false

-- a path from an instruction to one that is shown or may overflow
pub data Leads (plan : Plan) : ℕ → Type 0 where
  Shown : (n : ℕ) → n < length plan.instrs → is_shown n plan.out ≡ true → Leads plan n
  Overflows : (n : ℕ) (instr : Instr) → slice_get plan.instrs n ≡ Some instr → may_overflow instr.op ≡ true → Leads plan n
  Over : (n m : ℕ) (instr : Instr) → n < m → slice_get plan.instrs m ≡ Some instr → uses n instr.args ≡ true → Leads plan m → Leads plan n
