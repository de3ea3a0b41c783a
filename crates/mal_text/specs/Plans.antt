-- What a block stands for.
use Rattle.std.specs.Prelude.{◌≡◌, ℕ, ◌-◌, ◌^◌, List, [], ◌∷◌, ◌++◌, map, Bool, true, false, not, ◌&&◌, nat_lt, nat_le, bytes_eq, codes, if◌then◌else◌, Option, Some, None, is_some, unwrap_or, ℤ, pos, neg_ℤ, IsTrue}
use Rattle.std.specs.Bool.{then_some}
use Rattle.std.specs.List.{list_any, position_or_len}
use Rattle.std.specs.Option.{option_map, option_map_or}
use Rattle.std.specs.Str.Parse.{digits_value}
use Rattle.cell_core.specs.Calc.{all_or_none}
use Rattle.cell_core.specs.declared.cell.Cell.{Cell}
use Rattle.cell_core.specs.declared.cell.Cell.TheVariants as cell
use Rattle.cell_core.specs.declared.operator.Arg.{Arg}
use Rattle.cell_core.specs.declared.operator.Arg.TheVariants.{Const, Var}
use Rattle.cell_core.specs.declared.operator.Instr.{Instr}
use Rattle.cell_core.specs.declared.operator.Op.{Op}
use Rattle.cell_core.specs.declared.operator.Op.TheVariants as op
use Rattle.mal_meaning.specs.declared.plan.Plan.{Plan}
use Rattle.text_bytes.specs.Days.{day_named}
use Rattle.mal_tokens.specs.Operators.{op_of}
use Rattle.mal_text.specs.declared.block.Block.{Block}
use Rattle.mal_text.specs.declared.block.OrderKey.{OrderKey}
use Rattle.mal_text.specs.declared.block.Line.{Line}
use Rattle.mal_text.specs.declared.block.Term.{Term}
use Rattle.mal_text.specs.declared.block.Term.TheVariants as term

-- ## Names

abbrev pub names_of : List Line → List (List ℕ)
names_of lines = map (λ (l : Line). l.name) lines

-- none of the names is among those before it
abbrev pub differ_from : List (List ℕ) → List (List ℕ) → Bool
differ_from before [] = true
differ_from before (name ∷ names) = not (list_any (bytes_eq name) before) && differ_from (before ++ name ∷ []) names

abbrev pub are_distinct : List (List ℕ) → Bool
are_distinct names = differ_from [] names

-- the number of the instruction that assigns the name; where none does, the number of instructions
abbrev pub place_of : List (List ℕ) → List ℕ → ℕ
place_of names name = position_or_len (bytes_eq name) names

-- ## Arguments

-- the constant that a word is
abbrev pub constant_named : List ℕ → Option Cell
constant_named word =
    if bytes_eq word (codes "true") then Some (cell.Bit true) else (if bytes_eq word (codes "false") then Some (cell.Bit false)
    else (if bytes_eq word (codes "nil") then Some cell.Nil else None))

-- the number with its sign, from the negative of a limit up to below the limit
abbrev pub signed : ℕ → Bool → ℕ → Option ℤ
signed limit true n = then_some (nat_le n limit) (neg_ℤ (pos n))
signed limit false n = then_some (nat_lt n limit) (pos n)

-- the number, below a limit
abbrev pub below : ℕ → ℕ → Option ℕ
below limit n = then_some (nat_lt n limit) n

-- the argument that a word is: a constant, or a variable
abbrev pub word_arg : List (List ℕ) → List ℕ → Arg
word_arg names word = option_map_or Const (constant_named word) (Var (place_of names word))

-- the argument that a term stands for, among instructions that assign these names
abbrev pub arg_of : List (List ℕ) → Term → Option Arg
arg_of names (term.Name word) = Some (word_arg names word)
arg_of names (term.Text text) = Some (Const (cell.Text text))
arg_of names (term.Date text) = option_map (λ n. Const (cell.Day n)) (day_named text)
arg_of names (term.Int negative digits) = option_map (λ n. Const (cell.Int n)) (signed (2 ^ 63) negative (digits_value 10 digits))
arg_of names (term.Huge negative digits) = option_map (λ n. Const (cell.Huge n)) (signed (2 ^ 127) negative (digits_value 10 digits))
arg_of names (term.Oid digits) = option_map (λ n. Const (cell.Oid n)) (below (2 ^ 64) (digits_value 10 digits))

abbrev pub args_of : List (List ℕ) → List Term → Option (List Arg)
args_of names terms = all_or_none (map (arg_of names) terms)

-- ## Instructions

-- the first function that isn't an operator's, as it is written
abbrev pub unknown_op : List Line → Option (List ℕ)
unknown_op [] = None
unknown_op (l ∷ lines) = if is_some (op_of l.of_module l.function) then unknown_op lines else Some (l.of_module ++ 46 ∷ l.function)

-- the operator of a line, and `not` in place of one that isn't known, whose block is refused
abbrev pub op_in : Line → Op
op_in l = unwrap_or (op_of l.of_module l.function) op.Not

abbrev pub instr_of : List (List ℕ) → Line → Option Instr
instr_of names l = option_map (λ args. record { op = op_in l; args = args }) (args_of names l.args)

abbrev pub instrs_of : List (List ℕ) → List Line → Option (List Instr)
instrs_of names lines = all_or_none (map (instr_of names) lines)

-- ## The output

abbrev pub keep_of : List (List ℕ) → Option Term → Option (Option Arg)
keep_of names None = Some None
keep_of names (Some t) = option_map Some (arg_of names t)

-- places are written from 1 on, and counted from 0
abbrev pub key_of : OrderKey → Option (ℕ × Bool)
key_of k =
    then_some (nat_le 1 (digits_value 10 k.place) && nat_le (digits_value 10 k.place) (2 ^ 32)) (digits_value 10 k.place - 1, k.ascending)

abbrev pub order_of : List OrderKey → Option (List (ℕ × Bool))
order_of keys = all_or_none (map key_of keys)

abbrev pub limit_of : Option (List ℕ) → Option (Option ℕ)
limit_of None = Some None
limit_of (Some digits) = option_map Some (below (2 ^ 64) (digits_value 10 digits))

-- the block stands for the plan: no name is assigned twice, each number is in its range and each date is one
pub record StandsFor (b : Block) (plan : Plan) : Type 0 where
  pub names_differ : are_distinct (names_of b.lines) ≡ true
  pub instrs_are : instrs_of (names_of b.lines) b.lines ≡ Some plan.instrs
  pub keep_is : keep_of (names_of b.lines) b.keep ≡ Some plan.out.keep
  pub order_is : order_of b.order ≡ Some plan.out.order
  pub limit_is : limit_of b.limit ≡ Some plan.out.limit
  pub cols_are : args_of (names_of b.lines) (unwrap_or b.output []) ≡ Some plan.out.cols
