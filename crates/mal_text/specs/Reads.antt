-- What a text derives, what it reads as, and how it is refused.
use Rattle.std.specs.Prelude.{◌≡◌, ℕ, List, Option, Some, None}
use Rattle.mal_check.specs.Checked.{plan_fault}
use Rattle.mal_meaning.specs.declared.plan.Plan.{Plan}
use Rattle.mal_text.specs.Blocks.{write_block}
use Rattle.mal_text.specs.Plans.{StandsFor, unknown_op}
use Rattle.mal_tokens.specs.Tokens.{AreTokens}
use Rattle.mal_text.specs.declared.block.Block.{Block}
use Rattle.mal_text.specs.declared.error.MalError.{MalError}
use Rattle.mal_text.specs.declared.error.MalError.TheVariants.{NoBlock, UnknownOp, Plan as PlanRefused, Memory}

-- the grammar derives the text from the block, which stands for the plan
pub record Derives (text : List ℕ) (b : Block) (plan : Plan) : Type 0 where
  pub tokens : AreTokens text (write_block b)
  pub stands : StandsFor b plan

-- it does so of some block, whose first unknown function this is
pub record IsDerived (text : List ℕ) (unknown : Option (List ℕ)) (plan : Plan) : Type 0 where
  pub block : Block
  pub derived : Derives text block plan
  pub unknown_is : unknown_op block.lines ≡ unknown

-- the text reads as the plan: it derives it, each of its functions is known, and the plan has no fault
pub record ReadsAs (text : List ℕ) (plan : Plan) : Type 0 where
  pub derived : IsDerived text None plan
  pub no_fault : plan_fault plan ≡ None

-- why a text is refused, where memory doesn't run out: it is in no derivation; or else a function isn't
-- known, of which the first is named; or else the plan has a fault, which is named
abbrev pub IsRefused : List ℕ → MalError → Type 0
IsRefused text NoBlock = (b : Block) (plan : Plan) → Derives text b plan → ⊥
IsRefused text (UnknownOp word) = (plan : Plan) × IsDerived text (Some word) plan
IsRefused text (PlanRefused fault) = (plan : Plan) × IsDerived text None plan × (plan_fault plan ≡ Some fault)
IsRefused text Memory = Unit {0}
