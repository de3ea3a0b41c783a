-- A law about the limits of statements that were read.
use Rattle.std.specs.Prelude.{◌≡◌, ℕ, List, pos, nat_lt}
use Rattle.sql_grammar.specs.Refused.{is_out_of_range, passed_limits}
use Rattle.sql_grammar.specs.Statements.{Derives}
use Rattle.sql_tree.specs.Tree.{StmtTree}
use Rattle.sql_tree.specs.declared.token.Token.{Token}
use Rattle.read_laws.specs.Unread.{Kept, read_limits, stmt_as_read}

-- what is past a limit is kept past it, and nothing else is
pub record KeepsLimits (kept : Kept) : Type 0 where
  pub number : (n : ℕ) → is_out_of_range (pos (kept.number n)) ≡ is_out_of_range (pos n)
  pub width : (n : ℕ) → nat_lt 65535 (kept.width n) ≡ nat_lt 65535 n

-- the limits of a derived statement, whatever its numbers, are those of what is read
abbrev pub LimitsAsRead : Type 0
LimitsAsRead = (kept : Kept) → KeepsLimits kept → (bytes : ℕ) (tokens : List Token) (statement : StmtTree) → Derives tokens statement
    → read_limits bytes tokens (stmt_as_read kept statement) ≡ passed_limits bytes tokens statement
