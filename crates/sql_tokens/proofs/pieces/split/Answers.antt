use Rattle.std.proofs.Common.{rules, sym, ◌∙◌, append-nil}
use Rattle.std.proofs.lemmas.Result.{err_from_is_err_and}
use Rattle.text_bytes.proofs.FoundLemmas.{same_err}
use Rattle.read_laws.proofs.PieceLemmas.{told_more, too_many}
use Rattle.sql_tokens.proofs.pieces.split.Goals as goal

pub runs-preserved : goal.runs-preserved
runs-preserved c = record {
  text = search rules;
  so_far = told_more c.args.script.now c.runs.pieces.items c.runs.rest.now c.runs.invariant.so_far _ _ c.in-Some.ensures.cut _ c.in_ok-add_run.ensures.added;
  at_most = c.in_ok-add_run.ensures.at_most;
}

pub returns-in_err-add_run-clause-too_many : goal.returns-in_err-add_run-clause-too_many
returns-in_err-add_run-clause-too_many c =
    let p = err_from_is_err_and c.from_residual.result c.from_residual.ensures.1 in
    rw (p.1, p.2) (λ h. too_many c.args.script.now c.runs.pieces.items c.runs.rest.now c.runs.invariant.so_far _ _ c.in-Some.ensures.cut (c.in_err-add_run.ensures.full (same_err _ _ h)) (c.in_err-add_run.ensures.kept (same_err _ _ h)))

pub returns-in_err-add_run-2-clause-too_many : goal.returns-in_err-add_run-2-clause-too_many
returns-in_err-add_run-2-clause-too_many c =
    let p = err_from_is_err_and c.from_residual-in_err-add_run-2.result c.from_residual-in_err-add_run-2.ensures.1 in
    rw (p.1, p.2) (λ h. too_many c.args.script.now c.runs.pieces.items c.runs.rest.now c.runs.invariant.so_far _ _ c.in_default.ensures.whole (c.in_err-add_run-2.ensures.full (same_err _ _ h)) (c.in_err-add_run-2.ensures.kept (same_err _ _ h)))

pub returns-clause-pieces : goal.returns-clause-pieces
returns-clause-pieces c =
    sym (append-nil c.add_run-2.new.pieces.items) ∙ told_more c.args.script.now c.runs.pieces.items c.runs.rest.now c.runs.invariant.so_far _ _ c.in_default.ensures.whole _ c.in_ok-add_run-2.ensures.added
