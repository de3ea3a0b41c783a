-- What is offered, and what a counter shows of it.
use Rattle.std.proofs.Common.{◌≡◌, ℕ, ◌+◌, List, length, refl, sym, ◌∙◌, subst, arith}
use Rattle.cell_core.specs.Pairs.{Pairs}
use Rattle.cell_core.specs.declared.operator.Instr.{Instr}
use Rattle.mal_meaning.specs.Meaning.{instr_load}
use Rattle.recycle_pool.specs.declared.found.Found.{Found}
use Rattle.recycle_pool.specs.declared.found.CoverPiece.{CoverPiece}
use Rattle.query_run.specs.declared.step.Offer.{Offer}
use Rattle.query_run.specs.declared.step.RunningQuery.{RunningQuery}
use Rattle.query_run.specs.declared.step.Step.{Step}
use Rattle.query_run.specs.declared.step.Step.TheVariants as step
use Rattle.query_run.specs.Queries.{BecomesOf, IsAt, IsOffered, all_values, work_from}
use Rattle.query_run.specs.Steps.{Counted, held}
use Rattle.query_run.proofs.CountLemmas.{counted_even}

-- the step offers this value of an instruction, which took so much work
abbrev pub Offers : RunningQuery → ℕ → Pairs → ℕ → Step → Type 0
Offers q n value done next = (offer : Offer) × (next ≡ step.Offering q n offer) × (offer.value ≡ value) × (offer.done ≡ done) × ((instr : Instr) → IsAt q n instr → IsOffered q n instr offer)

-- it follows from what was found, where the work is that from what was found
pub offer_becomes : (q : RunningQuery) (n : ℕ) (what : Found) (parts : List CoverPiece) (value : Pairs) (done : ℕ) → ((instr : Instr) → IsAt q n instr → done ≡ work_from what parts (instr_load q.snap.db (all_values q) instr) (length value))
    → (next : Step) → Offers q n value done next → (instr : Instr) → IsAt q n instr → BecomesOf q n instr what parts next
offer_becomes q n what parts value done works next offers instr at =
    let offered = offers.4 instr at in
    subst (BecomesOf q n instr what parts) (sym offers.1) (refl, refl, offered, offers.3 ∙ works instr at ∙ (λ i. work_from what parts (sym offered.work i) (length (sym offers.2 i))))

-- and the counter has risen by that work
pub offer_counted : (q : RunningQuery) (n : ℕ) (from : Step) (value : Pairs) (done before after : ℕ) → held from ≡ q.work → after ≡ before + done → (next : Step) → Offers q n value done next → Counted from next before after
offer_counted q n from value done before after holds rises next offers =
    subst (λ s. Counted from s before after) (sym offers.1) (counted_even from (step.Offering q n offers.0) before after (let did = offers.3 in omega (arith, holds, rises, did)))
