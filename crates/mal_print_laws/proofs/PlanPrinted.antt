-- The canonical text of a plan has the tokens of its block.
use Rattle.std.proofs.Common.{◌≡◌, ℕ, suc, ◌+◌, ◌<◌, ◌≤◌, ◌^◌, List, [], ◌∷◌, ◌++◌, length, map, flat_map, Bool, true, false, Option, Some, None, codes, decimal, ℤ, pos, negsuc, refl, ap, sym, subst, append_assoc, length-append, arith}
use Rattle.std.specs.Prelude.{IfSome}
use Rattle.std.specs.Fmt.{signed_decimal}
use Rattle.std.specs.List.{list_any, AllByRecursion}
use Rattle.std.specs.Option.{option_map}
use Rattle.cell_core.specs.declared.cell.Cell.{Cell}
use Rattle.cell_core.specs.declared.cell.Cell.TheVariants as cell
use Rattle.cell_core.specs.Day.{day_text}
use Rattle.cell_core.specs.declared.operator.Arg.{Arg}
use Rattle.cell_core.specs.declared.operator.Arg.TheVariants.{Const, Var}
use Rattle.cell_core.specs.declared.operator.Instr.{Instr}
use Rattle.mal_meaning.specs.declared.plan.Plan.{Plan}
use Rattle.mal_print.specs.Canon.{constant_text, variable, arg_text, further_text, args_text, ending, is_bat, instr_gives_bat, module_of, start_text, line_text, lines_text, keep_text, key_text, limit_text, cols_text, plan_text}
use Rattle.mal_text.specs.Blocks.{write_each, write_term, write_further, write_terms, write_closing, write_line, write_call, write_keep, write_key, write_limit, write_output, write_named, write_void, write_block}
use Rattle.mal_text.specs.declared.block.Term.TheVariants as term
use Rattle.mal_tokens.specs.Operators.{function_word}
use Rattle.mal_tokens.specs.Tokens.{AreTokens, bit_word}
use Rattle.mal_tokens.specs.Tokens.Part.{Blank, Letters, Sign}
use Rattle.mal_tokens.specs.declared.token.Mark.TheVariants as mark
use Rattle.mal_tokens.specs.declared.token.MalToken.TheVariants.{Name, Digits, Mark}
use Rattle.mal_print_laws.proofs.CallLemmas.{is_called}
use Rattle.mal_print_laws.proofs.CanonBlocks.{signed_term, constant_term, term_of, line_of, lines_of, key_rule, output_of, block_of}
use Rattle.mal_print_laws.proofs.CutLemmas.{nothing, put, put_all, ends, Lead, Printed, no_text, from_lead, lead_lead, lead_then, then_lead, then_printed}
use Rattle.mal_print_laws.proofs.NamedLemmas.{IsWithin, HasText, IsNamed, IsNamedPlan}
use Rattle.mal_print_laws.proofs.WordLemmas.{word_printed, decimal_printed, zero_printed, minus, variable_word, text_printed}

-- ## Marks and fixed words

comma : Lead (codes ", ") (λ ts. Mark mark.Comma ∷ ts)
comma = record { lead = λ rest ts cut. put_all (Sign mark.Comma ∷ Blank 32 ∷ []) rest ts refl cut }

closing : Lead ending write_closing
closing = record { lead = λ rest ts cut. put_all (Sign mark.Close ∷ Sign mark.Semicolon ∷ Blank 10 ∷ []) rest ts refl cut }

dot : Lead (codes ".") (λ ts. Mark mark.Dot ∷ ts)
dot = record { lead = λ rest ts cut. put_all (Sign mark.Dot ∷ []) rest ts refl cut }

open_mark : Lead (codes "(") (λ ts. Mark mark.Open ∷ ts)
open_mark = record { lead = λ rest ts cut. put_all (Sign mark.Open ∷ []) rest ts refl cut }

indent : Lead (codes "    ") (λ ts. ts)
indent = record { lead = λ rest ts cut. put_all (Blank 32 ∷ Blank 32 ∷ Blank 32 ∷ Blank 32 ∷ []) rest ts refl cut }

assign : Lead (codes " := ") (λ ts. Mark mark.Assign ∷ ts)
assign = record { lead = λ rest ts cut. put_all (Blank 32 ∷ Sign mark.Assign ∷ Blank 32 ∷ []) rest ts refl cut }

-- `:` and a word, `@` and a 0
hge : Printed (codes ":hge") (λ ts. Mark mark.Colon ∷ Name (codes "hge") ∷ ts)
hge = record { printed = λ rest ts cut h. put (Sign mark.Colon) (codes "hge" ++ rest) (Name (codes "hge") ∷ ts) refl ((word_printed (codes "hge") refl).printed rest ts cut h) }

date : Printed (codes ":date") (λ ts. Mark mark.Colon ∷ Name (codes "date") ∷ ts)
date = record { printed = λ rest ts cut h. put (Sign mark.Colon) (codes "date" ++ rest) (Name (codes "date") ∷ ts) refl ((word_printed (codes "date") refl).printed rest ts cut h) }

at_zero : Printed (codes "@0") (λ ts. Mark mark.At ∷ Digits (codes "0") ∷ ts)
at_zero = record { printed = λ rest ts cut h. put (Sign mark.At) (codes "0" ++ rest) (Digits (codes "0") ∷ ts) refl (zero_printed.printed rest ts cut h) }

-- the front of a call of `sql`
keep_call : Lead (codes "    sql.keep(") (write_call (codes "keep"))
keep_call = record { lead = λ rest ts cut. put_all (Blank 32 ∷ Blank 32 ∷ Blank 32 ∷ Blank 32 ∷ Letters 115 (codes "ql") ∷ Sign mark.Dot ∷ Letters 107 (codes "eep") ∷ Sign mark.Open ∷ []) rest ts refl cut }

order_call : Lead (codes "    sql.order(") (write_call (codes "order"))
order_call = record { lead = λ rest ts cut. put_all (Blank 32 ∷ Blank 32 ∷ Blank 32 ∷ Blank 32 ∷ Letters 115 (codes "ql") ∷ Sign mark.Dot ∷ Letters 111 (codes "rder") ∷ Sign mark.Open ∷ []) rest ts refl cut }

limit_call : Lead (codes "    sql.limit(") (write_call (codes "limit"))
limit_call = record { lead = λ rest ts cut. put_all (Blank 32 ∷ Blank 32 ∷ Blank 32 ∷ Blank 32 ∷ Letters 115 (codes "ql") ∷ Sign mark.Dot ∷ Letters 108 (codes "imit") ∷ Sign mark.Open ∷ []) rest ts refl cut }

output_call : Lead (codes "    sql.output(") (write_call (codes "output"))
output_call = record { lead = λ rest ts cut. put_all (Blank 32 ∷ Blank 32 ∷ Blank 32 ∷ Blank 32 ∷ Letters 115 (codes "ql") ∷ Sign mark.Dot ∷ Letters 111 (codes "utput") ∷ Sign mark.Open ∷ []) rest ts refl cut }

header : Lead (codes "function user.main():void;" ++ 10 ∷ []) (λ ts. write_named (codes "function") (codes "main") (write_void ts))
header = record { lead = λ rest ts cut. put_all (Letters 102 (codes "unction") ∷ Blank 32 ∷ Letters 117 (codes "ser") ∷ Sign mark.Dot ∷ Letters 109 (codes "ain") ∷ Sign mark.Open ∷ Sign mark.Close ∷ Sign mark.Colon ∷ Letters 118 (codes "oid") ∷ Sign mark.Semicolon ∷ Blank 10 ∷ []) rest ts refl cut }

footer : Lead (codes "end user.main;") (λ ts. write_named (codes "end") (codes "main") (Mark mark.Semicolon ∷ ts))
footer = record { lead = λ rest ts cut. put_all (Letters 101 (codes "nd") ∷ Blank 32 ∷ Letters 117 (codes "ser") ∷ Sign mark.Dot ∷ Letters 109 (codes "ain") ∷ Sign mark.Semicolon ∷ []) rest ts refl cut }

last_line : AreTokens (10 ∷ []) []
last_line = put_all (Blank 10 ∷ []) [] [] refl nothing

-- ## Arguments

bit_printed : (b : Bool) → Printed (bit_word b) (λ ts. Name (bit_word b) ∷ ts)
bit_printed true = word_printed (codes "true") refl
bit_printed false = word_printed (codes "false") refl

-- a number with its sign
signed_printed : (limit : ℕ) (z : ℤ) → IsWithin limit z → limit < 10 ^ 64 → Printed (signed_decimal z) (write_term (signed_term term.Int z))
signed_printed limit (pos n) is low = decimal_printed n (omega (arith, is, low))
signed_printed limit (negsuc n) is low = lead_then minus (decimal_printed (suc n) (omega (arith, is, low)))

huge_printed : (z : ℤ) → IsWithin (2 ^ 127) z → Printed (signed_decimal z ++ codes ":hge") (write_term (signed_term term.Huge z))
huge_printed (pos n) is = then_printed (signed_printed (2 ^ 127) (pos n) is (omega arith)) (λ rest. refl) hge
huge_printed (negsuc n) is = then_printed (signed_printed (2 ^ 127) (negsuc n) is (omega arith)) (λ rest. refl) hge

constant_printed : (c : Cell) → HasText c → Printed (constant_text c) (write_term (constant_term c))
constant_printed cell.Nil has = word_printed (codes "nil") refl
constant_printed (cell.Int n) has = signed_printed (2 ^ 63) n has (omega arith)
constant_printed (cell.Huge n) has = huge_printed n has
constant_printed (cell.Text text) has = from_lead (text_printed text)
constant_printed (cell.Day day) has = lead_then (text_printed (day_text day)) date
constant_printed (cell.Bit b) has = bit_printed b
constant_printed (cell.Oid n) has = then_printed (decimal_printed n (omega (arith, has))) (λ rest. refl) at_zero

module _ (count : ℕ) (low : count < 2 ^ 64) where
  variable_printed : (n : ℕ) → n < count → Printed (variable n) (λ ts. Name (variable n) ∷ ts)
  variable_printed n h = word_printed (variable n) (variable_word n (omega (arith, h, low)))

  arg_printed : (arg : Arg) → IsNamed count arg → Printed (arg_text arg) (write_term (term_of arg))
  arg_printed (Const c) is = constant_printed c is
  arg_printed (Var n) is = variable_printed n is

  -- what follows an argument ends it
  further_opens : (args : List Arg) (rest : List ℕ) → ends ((further_text args ++ ending) ++ rest) ≡ true
  further_opens [] rest = refl
  further_opens (arg ∷ args) rest = refl

  -- arguments up to the end of their call
  further_closed : (args : List Arg) → AllByRecursion (IsNamed count) args → Lead (further_text args ++ ending) (λ ts. write_each write_further (map term_of args) (write_closing ts))
  further_closed [] are = closing
  further_closed (arg ∷ args) are =
      subst (λ text. Lead text (λ ts. write_each write_further (map term_of (arg ∷ args)) (write_closing ts))) (ap (λ text. 44 ∷ 32 ∷ text) (sym (append_assoc (arg_text arg) (further_text args) ending)))
      (lead_lead comma (then_lead (arg_printed arg are.0) (further_opens args) (further_closed args are.1)))

  args_closed : (args : List Arg) → AllByRecursion (IsNamed count) args → Lead (args_text args ++ ending) (λ ts. write_terms (map term_of args) (write_closing ts))
  args_closed [] are = closing
  args_closed (arg ∷ args) are =
      subst (λ text. Lead text (λ ts. write_terms (map term_of (arg ∷ args)) (write_closing ts))) (sym (append_assoc (arg_text arg) (further_text args) ending))
      (then_lead (arg_printed arg are.0) (further_opens args) (further_closed args are.1))

  -- ## Instructions

  -- a variable and `:=`
  start_printed : (n : ℕ) → n < count → Lead (start_text n) (λ ts. Name (variable n) ∷ Mark mark.Assign ∷ ts)
  start_printed n h = lead_lead indent (then_lead (variable_printed n h) (λ rest. refl) assign)

  line_printed : (bats : List Bool) (instr : Instr) → length bats < count → AllByRecursion (IsNamed count) instr.args → Lead (line_text bats instr) (write_line (line_of bats instr))
  line_printed bats instr h are =
      let taken = list_any (is_bat bats) instr.args in
      let words = is_called taken instr.op in
      let home = then_lead (lead_then (start_printed (length bats) h) (word_printed (module_of taken instr.op) words.home_is)) (λ rest. refl) dot in
      let call = then_lead (lead_then home (word_printed (function_word instr.op) words.function_is)) (λ rest. refl) open_mark in
      subst (λ text. Lead text (write_line (line_of bats instr)))
      (sym (append_assoc (start_text (length bats) ++ module_of taken instr.op ++ codes "." ++ function_word instr.op ++ codes "(") (args_text instr.args) ending))
      (lead_lead call (args_closed instr.args are))

  lines_printed : (bats : List Bool) (instrs : List Instr) → length bats + length instrs ≤ count → AllByRecursion (λ (i : Instr). AllByRecursion (IsNamed count) i.args) instrs → Lead (lines_text bats instrs) (write_each write_line (lines_of bats instrs))
  lines_printed bats [] h are = no_text
  lines_printed bats (instr ∷ instrs) h are =
      let more : List Bool = bats ++ instr_gives_bat bats instr ∷ [] in
      lead_lead (line_printed bats instr (omega (arith, h)) are.0) (lines_printed more instrs (omega (arith, h, length-append bats (instr_gives_bat bats instr ∷ []))) are.1)

  -- ## The output

  keep_printed : (keep : Option Arg) → IfSome keep (IsNamed count) → Lead (keep_text keep) (write_keep (option_map term_of keep))
  keep_printed None is = no_text
  keep_printed (Some arg) is = lead_lead keep_call (then_lead (arg_printed arg is) (λ rest. refl) closing)

  key_printed : (key : ℕ × Bool) → key.0 < 2 ^ 32 → Lead (key_text key) (write_key (key_rule key))
  key_printed key h =
      let place = then_lead (lead_then order_call (decimal_printed (key.0 + 1) (omega (arith, h)))) (λ rest. refl) comma in
      then_lead (lead_then place (bit_printed key.1)) (λ rest. refl) closing

  order_printed : (order : List (ℕ × Bool)) → AllByRecursion (λ (key : ℕ × Bool). key.0 < 2 ^ 32) order → Lead (flat_map key_text order) (write_each write_key (map key_rule order))
  order_printed [] are = no_text
  order_printed (key ∷ order) are = lead_lead (key_printed key are.0) (order_printed order are.1)

  limit_printed : (limit : Option ℕ) → IfSome limit (λ n. n < 2 ^ 64) → Lead (limit_text limit) (write_limit (option_map decimal limit))
  limit_printed None is = no_text
  limit_printed (Some n) is = lead_lead limit_call (then_lead (decimal_printed n (omega (arith, is))) (λ rest. refl) closing)

  cols_printed : (cols : List Arg) → AllByRecursion (IsNamed count) cols → Lead (cols_text cols) (write_output (output_of cols))
  cols_printed [] are = no_text
  cols_printed (arg ∷ args) are = lead_lead output_call (args_closed (arg ∷ args) are)

-- the tokens of the block are those of the text
pub plan_printed : (plan : Plan) → IsNamedPlan plan → AreTokens (plan_text plan) (write_block (block_of plan))
plan_printed plan is =
    let count = length plan.instrs in
    let lines = lines_printed count is.count_is [] plan.instrs (omega arith) is.instrs_are in
    let keep = lead_lead lines (keep_printed count is.count_is plan.out.keep is.keep_is) in
    let order = lead_lead keep (order_printed count is.count_is plan.out.order is.order_are) in
    let limit = lead_lead order (limit_printed count is.count_is plan.out.limit is.limit_is) in
    let cols = lead_lead limit (cols_printed count is.count_is plan.out.cols is.cols_are) in
    header.lead _ _ ((lead_lead cols footer).lead (10 ∷ []) [] last_line)
