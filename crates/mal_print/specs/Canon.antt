-- The canonical text of a plan: each instruction and each part of the output has a line, indented by four spaces.
use Rattle.std.specs.Prelude.{ℕ, ◌+◌, List, [], ◌∷◌, ◌++◌, length, map, flat_map, Bool, ◌&&◌, if◌then◌else◌, Option, Some, None, codes, decimal}
use Rattle.std.specs.Fmt.{signed_decimal}
use Rattle.std.specs.List.{list_any}
use Rattle.cell_core.specs.Day.{day_text}
pub use Rattle.cell_core.specs.Forms.{is_bat, is_bat_result as instr_gives_bat}
use Rattle.cell_core.specs.Forms.{is_calc}
use Rattle.cell_core.specs.declared.cell.Cell.{Cell}
use Rattle.cell_core.specs.declared.cell.Cell.TheVariants as cell
use Rattle.cell_core.specs.declared.operator.Arg.{Arg}
use Rattle.cell_core.specs.declared.operator.Arg.TheVariants.{Const, Var}
use Rattle.cell_core.specs.declared.operator.Instr.{Instr}
use Rattle.cell_core.specs.declared.operator.Op.{Op}
use Rattle.mal_meaning.specs.declared.plan.Plan.{Plan}
use Rattle.mal_tokens.specs.Operators.{function_word, module_word}
use Rattle.mal_tokens.specs.Tokens.{bit_word, spelled}

-- ## Arguments

-- a text between quotes
abbrev pub quoted : List ℕ → List ℕ
quoted text = 34 ∷ flat_map spelled text ++ 34 ∷ []

abbrev pub constant_text : Cell → List ℕ
constant_text cell.Nil = codes "nil"
constant_text (cell.Int n) = signed_decimal n
constant_text (cell.Huge n) = signed_decimal n ++ codes ":hge"
constant_text (cell.Text text) = quoted text
constant_text (cell.Day day) = quoted (day_text day) ++ codes ":date"
constant_text (cell.Bit b) = bit_word b
constant_text (cell.Oid n) = decimal n ++ codes "@0"

-- the variable of the instruction with this number: X_1 is that of the first
abbrev pub variable : ℕ → List ℕ
variable n = codes "X_" ++ decimal (n + 1)

abbrev pub arg_text : Arg → List ℕ
arg_text (Const c) = constant_text c
arg_text (Var n) = variable n

-- arguments, each after a comma and a space
abbrev pub further_text : List Arg → List ℕ
further_text args = flat_map (λ more. codes ", " ++ arg_text more) args

-- arguments with a comma and a space between them
abbrev pub args_text : List Arg → List ℕ
args_text [] = []
args_text (arg ∷ args) = arg_text arg ++ further_text args

-- the end of a call and of its line
abbrev pub ending : List ℕ
ending = codes ");" ++ 10 ∷ []

-- ## Instructions

-- `batcalc` stands for `calc` where an argument is a BAT
abbrev pub module_of : Bool → Op → List ℕ
module_of taken operator = if is_calc operator && taken then codes "batcalc" else module_word operator

-- the variable of an instruction, before what it is assigned
abbrev pub start_text : ℕ → List ℕ
start_text n = codes "    " ++ variable n ++ codes " := "

-- the line of the instruction after those of which this is known
abbrev pub line_text : List Bool → Instr → List ℕ
line_text bats instr =
    start_text (length bats) ++ module_of (list_any (is_bat bats) instr.args) instr.op ++ codes "." ++ function_word instr.op ++ codes "(" ++ args_text instr.args ++ ending

abbrev pub lines_text : List Bool → List Instr → List ℕ
lines_text bats [] = []
lines_text bats (instr ∷ instrs) = line_text bats instr ++ lines_text (bats ++ instr_gives_bat bats instr ∷ []) instrs

-- ## The output

abbrev pub keep_text : Option Arg → List ℕ
keep_text None = []
keep_text (Some arg) = codes "    sql.keep(" ++ arg_text arg ++ ending

abbrev pub key_text : ℕ × Bool → List ℕ
key_text key = codes "    sql.order(" ++ decimal (key.0 + 1) ++ codes ", " ++ bit_word key.1 ++ ending

abbrev pub limit_text : Option ℕ → List ℕ
limit_text None = []
limit_text (Some n) = codes "    sql.limit(" ++ decimal n ++ ending

abbrev pub cols_text : List Arg → List ℕ
cols_text [] = []
cols_text (arg ∷ args) = codes "    sql.output(" ++ args_text (arg ∷ args) ++ ending

-- ## Plans

abbrev pub plan_text : Plan → List ℕ
plan_text plan =
    codes "function user.main():void;" ++ 10 ∷ lines_text [] plan.instrs ++ keep_text plan.out.keep ++ flat_map key_text plan.out.order ++ limit_text plan.out.limit ++ cols_text plan.out.cols
    ++ codes "end user.main;" ++ 10 ∷ []
