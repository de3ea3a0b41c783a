-- The block whose tokens the canonical text of a plan has.
use Rattle.std.specs.Prelude.{ℕ, ◌+◌, suc, List, [], ◌∷◌, ◌++◌, length, map, Bool, true, false, codes, decimal, Option, Some, None, ℤ, pos, negsuc}
use Rattle.std.specs.List.{list_any}
use Rattle.std.specs.Option.{option_map}
use Rattle.cell_core.specs.Day.{day_text}
use Rattle.cell_core.specs.declared.cell.Cell.{Cell}
use Rattle.cell_core.specs.declared.cell.Cell.TheVariants as cell
use Rattle.cell_core.specs.declared.operator.Arg.{Arg}
use Rattle.cell_core.specs.declared.operator.Arg.TheVariants.{Const, Var}
use Rattle.cell_core.specs.declared.operator.Instr.{Instr}
use Rattle.mal_meaning.specs.declared.plan.Plan.{Plan}
use Rattle.mal_print.specs.Canon.{variable, is_bat, instr_gives_bat, module_of}
use Rattle.mal_text.specs.declared.block.Block.{Block}
use Rattle.mal_text.specs.declared.block.OrderKey.{OrderKey}
use Rattle.mal_text.specs.declared.block.Line.{Line}
use Rattle.mal_text.specs.declared.block.Term.{Term}
use Rattle.mal_text.specs.declared.block.Term.TheVariants as term
use Rattle.mal_tokens.specs.Operators.{function_word}
use Rattle.mal_tokens.specs.Tokens.{bit_word}

-- a number with its sign
abbrev pub signed_term : (Bool → List ℕ → Term) → ℤ → Term
signed_term make (pos n) = make false (decimal n)
signed_term make (negsuc n) = make true (decimal (suc n))

abbrev pub constant_term : Cell → Term
constant_term cell.Nil = term.Name (codes "nil")
constant_term (cell.Int n) = signed_term term.Int n
constant_term (cell.Huge n) = signed_term term.Huge n
constant_term (cell.Text text) = term.Text text
constant_term (cell.Day day) = term.Date (day_text day)
constant_term (cell.Bit b) = term.Name (bit_word b)
constant_term (cell.Oid n) = term.Oid (decimal n)

abbrev pub term_of : Arg → Term
term_of (Const c) = constant_term c
term_of (Var n) = term.Name (variable n)

abbrev pub line_of : List Bool → Instr → Line
line_of bats instr = record {
  name = variable (length bats);
  of_module = module_of (list_any (is_bat bats) instr.args) instr.op;
  function = function_word instr.op;
  args = map term_of instr.args;
}

abbrev pub lines_of : List Bool → List Instr → List Line
lines_of bats [] = []
lines_of bats (instr ∷ instrs) = line_of bats instr ∷ lines_of (bats ++ instr_gives_bat bats instr ∷ []) instrs

abbrev pub key_rule : ℕ × Bool → OrderKey
key_rule key = record { place = decimal (key.0 + 1); ascending = key.1 }

abbrev pub output_of : List Arg → Option (List Term)
output_of [] = None
output_of (arg ∷ args) = Some (map term_of (arg ∷ args))

abbrev pub block_of : Plan → Block
block_of plan = record {
  name = codes "main";
  lines = lines_of [] plan.instrs;
  keep = option_map term_of plan.out.keep;
  order = map key_rule plan.out.order;
  limit = option_map decimal plan.out.limit;
  output = output_of plan.out.cols;
}
