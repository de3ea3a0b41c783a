use Rattle.std.proofs.Common.{ap, sym, ◌∙◌}
use Rattle.std.proofs.lemmas.Result.{err_from_is_err_and}
use Rattle.sql_grammar.specs.Reads.{tokens_in}
use Rattle.sql_tree.specs.Tree.{stmt_tree}
use Rattle.read_laws.specs.Bounded.{bounded}
use Rattle.read_laws.proofs.ChainLemmas.{left_over, nothing_found}
use Rattle.read_laws.specs.DerivedStmts.{IsReadStmt, count_64, length_32}
use Rattle.read_laws.specs.StmtReader as reader
use Rattle.read_laws.proofs.StmtLaws.{stmt_read, read_told}
use Rattle.sql_statements.proofs.AloneLemmas.{if_alone}
use Rattle.sql_statements.proofs.stmt.read_stmt.Goals as goal
use Rattle.text_bytes.proofs.FoundLemmas.{same_err}

pub returns-clause-none : goal.returns-clause-none
returns-clause-none c = λ h s is.
    left_over _ (stmt_tree c.in_ok-read.read) (tokens_in c.stmt.new.tokens.rest.now)
    (ap (λ ts. reader.stmt bounded count_64 length_32 (tokens_in ts)) (sym c.new-rest.ensures) ∙ c.in_ok-read.ensures.found)
    (c.alone.ensures.none h) _ (read_told (tokens_in c.args.tokens.now) s is)

pub returns-clause-statement : goal.returns-clause-statement
returns-clause-statement c =
    if_alone _ (stmt_tree c.in_ok-read.read) (tokens_in c.stmt.new.tokens.rest.now)
    (ap (λ ts. reader.stmt bounded count_64 length_32 (tokens_in ts)) (sym c.new-rest.ensures) ∙ c.in_ok-read.ensures.found)
    (IsReadStmt (tokens_in c.args.tokens.now)) (stmt_read (tokens_in c.args.tokens.now)) c.alone.result c.alone.ensures.same c.alone.ensures.found

pub returns-in_err-read-clause-none : goal.returns-in_err-read-clause-none
returns-in_err-read-clause-none c =
    let p = err_from_is_err_and c.from_residual.result c.from_residual.ensures.1 in
    rw (p.1, p.2) (λ h s is. nothing_found _ (ap (λ ts. reader.stmt bounded count_64 length_32 (tokens_in ts)) (sym c.new-rest.ensures) ∙ c.in_err-read.ensures.none (same_err _ _ h)) _ (read_told (tokens_in c.args.tokens.now) s is))
