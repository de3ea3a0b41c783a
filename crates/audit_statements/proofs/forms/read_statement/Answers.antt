-- A statement with no token after it is what all tokens are read as; with one, they derive none.
use Rattle.std.proofs.Common.{◌≡◌, ◌<◌, List, [], ◌∷◌, length, Some, None, refl, arith}
use Rattle.std.proofs.lemmas.Result.{err_from_is_err_and}
use Rattle.sql_grammar.specs.Reads.{tokens_in}
use Rattle.sql_tree.specs.Tree.{stmt_tree}
use Rattle.sql_tree.specs.declared.token.Token.{Token}
use Rattle.read_laws.specs.Chain.{first_token}
use Rattle.read_laws.proofs.ChainLemmas.{all_found, left_over, nothing_found}
use Rattle.read_laws.proofs.StmtLaws.{stmt_read, read_told}
use Rattle.text_bytes.proofs.FoundLemmas.{same_err}
use Rattle.audit_statements.proofs.forms.read_statement.Goals as goal

none_left : (ts : List Token) → None ≡ first_token ts → ts ≡ []
none_left [] h = refl
none_left (t ∷ ts) h = cc

some_left : (ts : List Token) (t : Token) → Some t ≡ first_token ts → 0 < length ts
some_left [] t h = cc
some_left (u ∷ ts) t h = omega arith

pub returns-in-None-clause-statement : goal.returns-in-None-clause-statement
returns-in-None-clause-statement c =
    stmt_read (tokens_in c.args.tokens.now) (stmt_tree c.in_ok-read.read)
    (all_found _ (stmt_tree c.in_ok-read.read) (tokens_in c.statement.new.tokens.rest.now) c.in_ok-read.ensures.0 (none_left _ c.in-None.ensures))

pub returns-in-Some-clause-none : goal.returns-in-Some-clause-none
returns-in-Some-clause-none c = λ h s is.
    left_over _ (stmt_tree c.in_ok-read.read) (tokens_in c.statement.new.tokens.rest.now) c.in_ok-read.ensures.0
    (some_left _ _ c.in-Some.ensures) _ (read_told (tokens_in c.args.tokens.now) s is)

pub returns-in_err-read-clause-none : goal.returns-in_err-read-clause-none
returns-in_err-read-clause-none c =
    let p = err_from_is_err_and c.from_residual.result c.from_residual.ensures.1 in
    rw (p.1, p.2) (λ h s is. nothing_found _ (c.in_err-read.ensures.1 (same_err _ _ h)) _ (read_told (tokens_in c.args.tokens.now) s is))
