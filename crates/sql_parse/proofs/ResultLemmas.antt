-- What the steps return, and what they are answered with.
use Rattle.std.proofs.Common.{◌≡◌, ℕ, List, Option, None, Result, Ok, Err}
use Rattle.std.specs.Prelude.{IfOk, OnOk}
use Rattle.read_laws.proofs.TextsRead.{by_statement, by_tokens}
use Rattle.read_laws.specs.Answered.{Reads}
use Rattle.read_laws.specs.AnsweredTokens.{AreAnswered}
use Rattle.read_laws.specs.DerivedStmts.{IsReadStmt}
use Rattle.read_laws.specs.LimitLaws.{LimitsAsRead}
use Rattle.read_laws.specs.Unread.{read_limits}
use Rattle.sql_grammar.specs.Reads.{ArePlain, statement_bytes, tokens_in}
use Rattle.sql_grammar.specs.Refused.{left_out, first_passed}
use Rattle.sql_parse.specs.declared.error.ParseError.{ParseError}
use Rattle.sql_tree.specs.Tokens.{AreTokens}
use Rattle.sql_tree.specs.Tree.{StmtTree, stmt_tree}
use Rattle.sql_tree.specs.declared.token.Placed.{Placed}
use Rattle.sql_tree.specs.declared.tree.Stmt.{Stmt}

module _ (as_read : LimitsAsRead) (all : List Placed) (plain : ArePlain (tokens_in all)) (t : StmtTree) (read : IsReadStmt (tokens_in all) t) (nothing_left : left_out t ≡ None) where
  pub if_within : (result : Result (Unit {0}) ParseError) → OnOk result (first_passed (read_limits (statement_bytes all) (tokens_in all) t) ≡ None) → OnOk result (AreAnswered all (Ok t))
  if_within (Ok done) none = by_statement as_read all plain t read nothing_left none
  if_within (Err e) none = tt

pub if_answered : (text : List ℕ) (all : List Placed) → AreTokens text all → (result : Result Stmt ParseError) → IfOk result (λ stmt. AreAnswered all (Ok (stmt_tree stmt))) → IfOk result (λ stmt. Reads text (Ok (stmt_tree stmt)))
if_answered text all are (Ok stmt) told = by_tokens text all are (Ok (stmt_tree stmt)) told
if_answered text all are (Err e) told = tt
