use Rattle.std.proofs.Common.{◌≡◌, length, ap, sym, ◌∙◌}
use Rattle.std.proofs.lemmas.Result.{err_from_is_err_and}
use Rattle.sql_grammar.specs.Reads.{tokens_in}
use Rattle.sql_tree.specs.Tree.{expr_tree}
use Rattle.read_laws.specs.Bounded.{bounded}
use Rattle.read_laws.specs.ExprReader as reader
use Rattle.text_bytes.proofs.FoundLemmas.{same_err}
use Rattle.read_laws.proofs.ExprLaws.{whole_found, none_found, left_found}
use Rattle.sql_reader.proofs.reading.read_expr.Goals as goal

pub returns-in_err-end-clause-none : goal.returns-in_err-end-clause-none
returns-in_err-end-clause-none c =
    let p = err_from_is_err_and c.from_residual-in_err-end.result c.from_residual-in_err-end.ensures.1 in
    let levels : c.len-levels.result ≡ length (tokens_in c.args.tokens.now) = c.len-levels.ensures ∙ ap (λ ts. length (tokens_in ts)) c.new-rest.ensures in
    rw (p.1, p.2) (λ h. left_found (tokens_in c.args.tokens.now) (expr_tree c.in_ok-read.read) (tokens_in c.expr.new.tokens.rest.now)
    (ap (λ n. reader.expr bounded (reader.factor bounded n) (tokens_in c.args.tokens.now)) (sym levels)
    ∙ ap (λ ts. reader.expr bounded (reader.factor bounded c.len-levels.result) (tokens_in ts)) (sym c.new-rest.ensures) ∙ c.in_ok-read.ensures.found)
    (c.in_err-end.ensures.none (same_err _ _ h)))

pub returns-clause-expr : goal.returns-clause-expr
returns-clause-expr c =
    whole_found (tokens_in c.args.tokens.now) c.len-levels.result (expr_tree c.in_ok-read.read) (tokens_in c.expr.new.tokens.rest.now)
    (ap (λ ts. reader.expr bounded (reader.factor bounded c.len-levels.result) (tokens_in ts)) (sym c.new-rest.ensures) ∙ c.in_ok-read.ensures.found)
    c.in_ok-end.ensures.found

pub returns-in_err-read-clause-none : goal.returns-in_err-read-clause-none
returns-in_err-read-clause-none c =
    let p = err_from_is_err_and c.from_residual.result c.from_residual.ensures.1 in
    let levels : c.len-levels.result ≡ length (tokens_in c.args.tokens.now) = c.len-levels.ensures ∙ ap (λ ts. length (tokens_in ts)) c.new-rest.ensures in
    rw (p.1, p.2) (λ h. none_found (tokens_in c.args.tokens.now)
    (ap (λ n. reader.expr bounded (reader.factor bounded n) (tokens_in c.args.tokens.now)) (sym levels)
    ∙ ap (λ ts. reader.expr bounded (reader.factor bounded c.len-levels.result) (tokens_in ts)) (sym c.new-rest.ensures) ∙ c.in_err-read.ensures.none (same_err _ _ h)))
