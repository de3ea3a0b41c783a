use Rattle.std.proofs.Common.{◌-◌, length, take, drop, ap, ◌∙◌}
use Rattle.mal_opt.specs.Passes.{passed, nothing, sharing, keeping, renamed_instr}
use Rattle.cell_core.proofs.ListLemmas.{first_and_rest}
use Rattle.mal_opt.proofs.PassLemmas.{pass_on}
use Rattle.mal_opt.proofs.optimisers.shared.Goals as goal

pub instrs-preserved : goal.instrs-preserved
instrs-preserved c =
    pass_on (sharing keeping) c.instrs.terms.keys c.share.new.terms.keys c.instrs.rest.now (take (length c.instrs.rest.now - 1) (drop 1 c.instrs.rest.now)) c.instrs.places c.push.new.self
    c.instr-item.result c.in_ok-instr.instr c.in_ok-share.field-0 (passed (sharing keeping) nothing c.args.plan.now.instrs)
    (first_and_rest c.instrs.rest.now c.instr-item.result c.in-len1-up.len_at_least c.instr-item.is)
    (c.in_ok-instr.ensures ∙ ap (λ ps. renamed_instr ps c.instr-item.result) c.as_slice.ensures)
    (c.in_ok-share.ensures c.instrs.places) c.in_ok-push.ensures.ok c.instrs.invariant
