use Rattle.std.proofs.Common.{◌≡◌, List, Bool, ap, sym, ◌∙◌, subst, get_or, length, arith}
use Rattle.mal_opt.proofs.SettleLemmas.{IsSettled, settled_next}
use Rattle.mal_opt.proofs.living.alive.Goals as goal

pub instrs-preserved : goal.instrs-preserved
instrs-preserved c =
    subst (λ (fs : List Bool). IsSettled c.args.plan.now.out c.args.plan.now.instrs c.settle-is_alive.new.used.items fs) (sym c.in_ok-push.ensures.items)
    (settled_next c.args.plan.now.out c.args.plan.now.instrs c.instrs.used.items c.pop.new.self.items c.settle-is_alive.new.used.items c.instrs.flags.items c.in-Some.is_used c.settle-is_alive.result c.index-instrs-place.result
    c.instrs.invariant c.in-Some.ensures.items
    (c.index-instrs-place.is ∙ ap (λ xs. get_or xs c.len-place.result c.index-instrs-place.result) c.as_slice-instrs.ensures ∙ ap (λ n. get_or c.args.plan.now.instrs n c.index-instrs-place.result) (let long : c.len-place.result ≡ length c.pop.new.self.items = omega (arith, c.len-place.ensures, c.pop.new.self.ok.0) in long))
    c.settle-is_alive.ensures.alive c.settle-is_alive.ensures.len c.settle-is_alive.ensures.flags)
