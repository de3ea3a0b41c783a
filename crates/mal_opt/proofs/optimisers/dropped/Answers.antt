use Rattle.std.proofs.Common.{◌≡◌, ◌-◌, [], ◌∷◌, ◌++◌, false, cond, length, take, drop, get_or, refl, ap, sym, ◌∙◌, subst}
use Rattle.cell_core.specs.declared.cell.Cell.TheVariants.{Nil}
use Rattle.cell_core.specs.declared.operator.Arg.TheVariants.{Const}
use Rattle.mal_opt.specs.Live.{alive_from, is_alive}
use Rattle.mal_opt.specs.Passes.{passed, nothing, behind, dropping, keeping, replaced, renamed_instr}
use Rattle.cell_core.proofs.ListLemmas.{first_and_rest}
use Rattle.mal_opt.proofs.PassLemmas.{pass_on}
use Rattle.mal_opt.proofs.optimisers.dropped.Goals as goal

pub instrs-preserved : goal.instrs-preserved
instrs-preserved c =
    let lives : is_alive c.args.plan.now (length c.instrs.places) ≡ c.is_set-is_alive.result =
    sym (c.is_set-is_alive.ensures ∙ ap (λ fs. get_or fs c.len.result false) (c.deref.ensures.value ∙ c.in_ok-flags.ensures) ∙ ap (λ n. get_or (alive_from c.args.plan.now.out 0 c.args.plan.now.instrs) n false) c.len.ensures) in
    let kept = subst (λ ps. cond c.is_set-is_alive.result (keeping (behind c.instrs.instrs ps) (renamed_instr ps c.instr-item.result)) (replaced (behind c.instrs.instrs ps) (Const Nil)) ≡ behind c.keep_alive.new.instrs (ps ++ c.in_ok-place.place ∷ [])) c.as_slice.ensures c.in_ok-place.ensures in
    pass_on (dropping (is_alive c.args.plan.now) keeping) c.instrs.instrs c.keep_alive.new.instrs c.instrs.rest.now (take (length c.instrs.rest.now - 1) (drop 1 c.instrs.rest.now)) c.instrs.places c.push.new.self
    c.instr-item.result (renamed_instr c.instrs.places c.instr-item.result) c.in_ok-place.place (passed (dropping (is_alive c.args.plan.now) keeping) nothing c.args.plan.now.instrs)
    (first_and_rest c.instrs.rest.now c.instr-item.result c.in-len1-up.len_at_least c.instr-item.is) refl
    (ap (λ b. cond b (keeping (behind c.instrs.instrs c.instrs.places) (renamed_instr c.instrs.places c.instr-item.result)) (replaced (behind c.instrs.instrs c.instrs.places) (Const Nil))) lives ∙ kept)
    c.in_ok-push.ensures.ok c.instrs.invariant
