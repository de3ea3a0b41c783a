use Rattle.std.proofs.Common.{refl, ap, sym, subst, arith}
use Rattle.std.specs.Prelude.{Err}
use Rattle.std.proofs.lemmas.Result.{IfOk-weaker}
use Rattle.query_run.specs.declared.step.Step.TheVariants as step
use Rattle.query_run.specs.Queries.{BecomesOf}
use Rattle.query_run.proofs.CountLemmas.{overflow_counted}
use Rattle.query_run.proofs.OfferLemmas.{offer_becomes, offer_counted}
use Rattle.query_run.proofs.WalkLemmas.{no_rows}
use Rattle.query_run.proofs.step.RunningQuery.reuse.Goals as goal

pub returns-in-Ok : goal.returns-in-Ok
returns-in-Ok g c = record {
  step = IfOk-weaker c.to_offer.result _ _ (offer_becomes c.args.self c.args.n c.args.found c.args.parts.items c.in-Ok.made.value c.in-Ok.made.done c.in-Ok.ensures.done) c.to_offer.ensures;
  counted = IfOk-weaker c.to_offer.result _ _ (offer_counted c.args.self c.args.n (step.Found c.args.self c.args.n c.args.found c.args.parts) c.in-Ok.made.value c.in-Ok.made.done c.args.steps.now c.make.new.steps refl c.in-Ok.ensures.counted) c.to_offer.ensures;
}

pub returns-in-Err-Overflow : goal.returns-in-Err-Overflow
returns-in-Err-Overflow g c =
    let overflows = ap Err c.in-Err-Overflow.field-0-is in
    let none = c.in-Err-Overflow.ensures.overflow overflows in
    record {
      step = λ instr at. subst (BecomesOf c.args.self c.args.n instr c.args.found c.args.parts.items) (sym c.overflow.ensures) (none, no_rows c.args.self c.args.n none, refl, refl);
      counted = overflow_counted c.args.self (step.Found c.args.self c.args.n c.args.found c.args.parts) c.overflow.result c.args.steps.now c.make.new.steps refl (λ s. refl) (no_rows c.args.self c.args.n none) c.overflow.ensures
          (let later = c.in-Err-Overflow.ensures.later overflows in omega (arith, later)) (c.in-Err-Overflow.ensures.within overflows);
    }
