-- Laws of texts and the plans that they stand for.
use Rattle.std.specs.Prelude.{◌≡◌, ℕ, List}
use Rattle.mal_meaning.specs.declared.plan.Plan.{Plan}
use Rattle.mal_text.specs.Reads.{Derives}
use Rattle.mal_text.specs.declared.block.Block.{Block}

-- the grammar derives a text from at most one block, which stands for at most one plan
abbrev pub OneReading : Type 0
OneReading = (text : List ℕ) (a b : Block) (p q : Plan) → Derives text a p → Derives text b q → (a ≡ b) × (p ≡ q)
