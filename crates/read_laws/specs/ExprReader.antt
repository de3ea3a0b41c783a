-- A reader of expressions, on plain lists of tokens: a definition for each of its steps. What it finds is
-- what tokens derive (proofs/ExprLaws).
use Rattle.std.specs.Prelude.{ℕ, zero, suc, List, length, Bool, true, false, nat_le, nat_lt, ◌^◌, neg_ℤ, if◌then◌else◌, Option, Some, None, pos}
use Rattle.cell_core.specs.declared.cell.Cell.{Cell}
use Rattle.cell_core.specs.declared.cell.Cell.TheVariants as cell
use Rattle.sql_grammar.specs.Grammar.{number_of, negative_of}
use Rattle.read_laws.specs.Bounded.{Builder}
use Rattle.read_laws.specs.Unread.{unread_cell}
use Rattle.text_bytes.specs.Days.{day_named}
use Rattle.read_laws.specs.Chain.{Found, Parser, first_token, after_first, given, chain}
use Rattle.sql_tree.specs.Tree.{ExprTree}
use Rattle.sql_tree.specs.Tree.ExprTree.{Literal, ColumnOf}
use Rattle.sql_tree.specs.declared.token.Keyword.TheVariants as word
use Rattle.sql_tree.specs.declared.token.Symbol.TheVariants as symbol
use Rattle.sql_tree.specs.declared.token.Token.{Token}
use Rattle.sql_tree.specs.declared.token.Token.TheVariants.{Name, Quoted, Text, Digits, Key}
use Rattle.sql_tree.specs.declared.token.Token.TheVariants as token
use Rattle.sql_tree.specs.declared.tree.ArithOp.{ArithOp}
use Rattle.sql_tree.specs.declared.tree.ArithOp.TheVariants as arith
use Rattle.sql_tree.specs.declared.tree.ColRef.{ColRef}
use Rattle.text_bytes.specs.Found.{then_read}

-- ## Tokens

-- `+` or `-`
abbrev pub sign_in : Option Token → Option ArithOp
sign_in (Some (token.Symbol symbol.Plus)) = Some arith.Plus
sign_in (Some (token.Symbol symbol.Minus)) = Some arith.Minus
sign_in other = None

-- `*`
abbrev pub star_in : Option Token → Option ArithOp
star_in (Some (token.Symbol symbol.Star)) = Some arith.Times
star_in other = None

abbrev pub is_dot : Option Token → Bool
is_dot (Some (token.Symbol symbol.Dot)) = true
is_dot other = false

abbrev pub is_close : Option Token → Bool
is_close (Some (token.Symbol symbol.Close)) = true
is_close other = false

-- digits
abbrev pub digits_in : Option Token → Option (List ℕ)
digits_in (Some (Digits digits)) = Some digits
digits_in other = None

-- a string
abbrev pub text_in : Option Token → Option (List ℕ)
text_in (Some (Text text)) = Some text
text_in other = None

-- a name, bare or in quotes
abbrev pub name_in : Option Token → Option (List ℕ)
name_in (Some (Name name)) = Some name
name_in (Some (Quoted name)) = Some name
name_in other = None

-- a `)` has to follow what was found
abbrev pub closed : {X : Type 0} → X × List Token → Found X
closed found = if is_close (first_token found.1) then Some (found.0, after_first found.1) else None

-- ## Numbers

-- the cell of a number with its sign, or a Huge where it leaves the signed 64-bit range
abbrev pub signed_cell : Bool → ℕ → Cell
signed_cell true n = if nat_le n (2 ^ 63) then cell.Int (neg_ℤ (pos n)) else unread_cell
signed_cell false n = if nat_lt n (2 ^ 63) then cell.Int (pos n) else unread_cell

-- ## Expressions, as a builder keeps them

-- a column that begins with the name
unfoldable pub column : List ℕ → Parser ColRef
column name tokens =
    if is_dot (first_token tokens) then then_read (name_in (first_token (after_first tokens))) (λ column. Some (record { table = Some name; column = column }, after_first (after_first tokens)))
    else Some (record { table = None; column = name }, tokens)

-- what follows DATE
unfoldable pub date : Parser ExprTree
date tokens = then_read (text_in (first_token tokens)) (λ text. then_read (day_named text) (λ day. Some (Literal (cell.Day day), after_first tokens)))

module _ (build : Builder) where
  -- the rest of a term after its first factor
  abbrev pub term_after : Parser ExprTree → ExprTree → Parser ExprTree
  term_after factor first tokens = chain star_in build.operator factor (length tokens) first tokens

  -- term = factor {"*" factor}
  unfoldable pub term : Parser ExprTree → Parser ExprTree
  term factor tokens = then_read (factor tokens) (λ first. term_after factor first.0 first.1)

  -- the rest of an expression after its first factor
  unfoldable pub expr_after : Parser ExprTree → ExprTree → Parser ExprTree
  expr_after factor first tokens =
      then_read (term_after factor first tokens) (λ first. chain sign_in build.operator (term factor) (length first.1) first.0 first.1)

  -- expr = term {("+" | "-") term}
  unfoldable pub expr : Parser ExprTree → Parser ExprTree
  expr factor tokens = then_read (term factor tokens) (λ first. chain sign_in build.operator (term factor) (length first.1) first.0 first.1)

  -- what follows `-`
  unfoldable pub negative : Parser ExprTree → Parser ExprTree
  negative factor tokens =
      given (digits_in (first_token tokens))
      (then_read (factor tokens) (λ operand. Some (build.operator arith.Minus (Literal (build.number (pos 0))) operand.0, operand.1)))
      (λ digits. Some (Literal (build.number (negative_of digits)), after_first tokens))

  -- the factor that begins with the token
  abbrev pub factor_at : Parser ExprTree → Option Token → Parser ExprTree
  factor_at inner (Some (Digits digits)) rest = Some (Literal (build.number (pos (number_of digits))), rest)
  factor_at inner (Some (Text text)) rest = Some (Literal (cell.Text text), rest)
  factor_at inner (Some (Key word.Date)) rest = date rest
  factor_at inner (Some (Key word.Null)) rest = Some (Literal cell.Nil, rest)
  factor_at inner (Some (Name name)) rest = then_read (column name rest) (λ column. Some (ColumnOf column.0, column.1))
  factor_at inner (Some (Quoted name)) rest = then_read (column name rest) (λ column. Some (ColumnOf column.0, column.1))
  factor_at inner (Some (token.Symbol symbol.Minus)) rest = negative inner rest
  factor_at inner (Some (token.Symbol symbol.Open)) rest = then_read (expr inner rest) closed
  factor_at inner other rest = None

  -- a factor of so many levels at most
  unfoldable pub factor : ℕ → Parser ExprTree
  factor zero tokens = None
  factor (suc n) tokens = factor_at (factor n) (first_token tokens) (after_first tokens)
