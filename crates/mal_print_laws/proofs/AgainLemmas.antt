-- A text that reads as a plan is refused for no reason, and reads as no other plan.
use Rattle.std.proofs.Common.{◌≡◌, ℕ, List, Some, None, ap, sym, ◌∙◌}
use Rattle.mal_check.specs.Checked.{plan_fault}
use Rattle.mal_check.specs.declared.error.PlanError.{PlanError}
use Rattle.mal_meaning.specs.declared.plan.Plan.{Plan}
use Rattle.mal_text.specs.Laws.{OneReading}
use Rattle.mal_text.specs.Plans.{unknown_op}
use Rattle.mal_text.specs.Reads.{ReadsAs, IsRefused}
use Rattle.mal_text.specs.declared.block.Block.{Block}
use Rattle.mal_text.specs.declared.error.MalError.TheVariants.{NoBlock, UnknownOp, Plan as PlanRefused}

module _ (one : OneReading) (text : List ℕ) (plan : Plan) (reads : ReadsAs text plan) where
  pub derives : IsRefused text NoBlock → ⊥
  derives none = none reads.derived.block plan reads.derived.derived

  pub knows : (word : List ℕ) → IsRefused text (UnknownOp word) → ⊥
  knows word (other, derived) =
      let same = one text reads.derived.block derived.block plan other reads.derived.derived derived.derived in
      let both : None ≡ Some word = sym reads.derived.unknown_is ∙ ap (λ (b : Block). unknown_op b.lines) same.0 ∙ derived.unknown_is in
      cc

  pub has_no_fault : (fault : PlanError) → IsRefused text (PlanRefused fault) → ⊥
  has_no_fault fault (other, derived, found) =
      let same = one text reads.derived.block derived.block plan other reads.derived.derived derived.derived in
      let both : None ≡ Some fault = sym reads.no_fault ∙ ap plan_fault same.1 ∙ found in
      cc

  pub same_plan : (other : Plan) → ReadsAs text other → other ≡ plan
  same_plan other again = (one text again.derived.block reads.derived.block other plan again.derived.derived reads.derived.derived).1
