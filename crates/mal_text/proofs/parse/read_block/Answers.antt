use Rattle.std.proofs.Common.{ap, sym, ◌∙◌}
use Rattle.std.proofs.lemmas.Result.{err_from_is_err_and}
use Rattle.mal_text.specs.Blocks.{write_block}
use Rattle.mal_text.specs.Reader as reader
use Rattle.mal_text.proofs.MalLaws.{block_read, no_block}
use Rattle.text_bytes.proofs.FoundLemmas.{same_err}
use Rattle.mal_text.proofs.parse.read_block.Goals as goal

pub returns-in-Err-Syntax-clause-none : goal.returns-in-Err-Syntax-clause-none
returns-in-Err-Syntax-clause-none c h block are =
    c.tokens.ensures.none (cc (c.in-Err-Syntax.is, c.in-Err-Syntax.field-0-is)) (write_block block) are

pub returns-in_err-found-clause-none : goal.returns-in_err-found-clause-none
returns-in_err-found-clause-none c =
    let p = err_from_is_err_and c.from_residual.result c.from_residual.ensures.1 in
    let same = c.new-rest.ensures ∙ c.as_slice.ensures in
    rw (p.1, p.2) (λ h. no_block c.args.text.now c.in-Ok.tokens c.in-Ok.ensures.tokens (ap reader.block (sym same) ∙ c.in_err-found.ensures.none (same_err _ _ h)))

pub returns-clause-found : goal.returns-clause-found
returns-clause-found c =
    let same = c.new-rest.ensures ∙ c.as_slice.ensures in
    block_read c.args.text.now c.in-Ok.tokens c.in_ok-found.found c.block.new.tokens.rest.now c.in-Ok.ensures.tokens (ap reader.block (sym same) ∙ c.in_ok-found.ensures.found)
