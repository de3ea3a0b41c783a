use Rattle.std.proofs.Common.{ap, sym, ◌∙◌}
use Rattle.std.proofs.lemmas.Result.{err_from_is_err_and}
use Rattle.sql_grammar.specs.Reads.{tokens_in}
use Rattle.sql_tree.specs.Tree.{cond_tree}
use Rattle.read_laws.specs.CondReader as reader
use Rattle.read_laws.specs.Bounded.{bounded}
use Rattle.read_laws.proofs.ChainLemmas.{left_over, nothing_found}
use Rattle.sql_reader.proofs.reading.all_cond.Goals as goal
use Rattle.text_bytes.proofs.FoundLemmas.{same_err}

pub returns-clause-none : goal.returns-clause-none
returns-clause-none c h = left_over _ (cond_tree c.in_ok-read.read) (tokens_in c.whole_cond.new.tokens.rest.now)
    (ap (λ ts. reader.whole_cond bounded (reader.operand bounded c.args.aggregates) (tokens_in ts)) (sym c.new-rest.ensures) ∙ c.in_ok-read.ensures.found)
    (c.ended.ensures.none h)

pub returns-in_err-read-clause-none : goal.returns-in_err-read-clause-none
returns-in_err-read-clause-none c =
    let p = err_from_is_err_and c.from_residual.result c.from_residual.ensures.1 in
    rw (p.1, p.2) (λ h. nothing_found _ (ap (λ ts. reader.whole_cond bounded (reader.operand bounded c.args.aggregates) (tokens_in ts)) (sym c.new-rest.ensures) ∙ c.in_err-read.ensures.none (same_err _ _ h)))
