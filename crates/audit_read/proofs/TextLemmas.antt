-- What texts and tokens are answered with.
use Rattle.std.proofs.Common.{ℕ, List, Result}
use Rattle.std.specs.Prelude.{IfOk}
use Rattle.std.proofs.lemmas.Result.{IfOk-weaker}
use Rattle.audit_read.specs.Readings.{reading_tree}
use Rattle.cell_core.specs.declared.memory.Memory.{Memory}
use Rattle.read_laws.proofs.TextsRead.{by_tokens}
use Rattle.read_laws.specs.Answered.{Reads}
use Rattle.read_laws.specs.AnsweredTokens.{AreAnswered}
use Rattle.sql_definitions.specs.declared.refusal.Refusal.{Refusal}
use Rattle.sql_tree.specs.Tokens.{AreTokens}
use Rattle.sql_tree.specs.declared.token.Placed.{Placed}
use Rattle.sql_tree.specs.declared.tree.Stmt.{Stmt}

-- a text is answered as its tokens
pub text_answered : (text : List ℕ) (all : List Placed) → AreTokens text all → (result : Result (Result Stmt Refusal) Memory)
    → IfOk result (λ reading. AreAnswered all (reading_tree reading)) → IfOk result (λ reading. Reads text (reading_tree reading))
text_answered text all are result told =
    IfOk-weaker result (λ reading. AreAnswered all (reading_tree reading)) (λ reading. Reads text (reading_tree reading)) (λ reading told. by_tokens text all are (reading_tree reading) told) told
