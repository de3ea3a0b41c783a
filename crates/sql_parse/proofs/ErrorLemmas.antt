-- What is refused where a step ends in an error.
use Rattle.std.proofs.Common.{◌≡◌, ℕ, List, Result, Ok, Err, refl, subst}
use Rattle.std.specs.Prelude.{IsErrAnd, IsErrOf}
use Rattle.sql_grammar.specs.Reads.{ArePlain, tokens_in}
use Rattle.sql_grammar.specs.Statements.{Derives}
use Rattle.read_laws.proofs.TextsRead.{by_syntax, by_no_tokens}
use Rattle.read_laws.specs.Answered.{Reads}
use Rattle.sql_parse.specs.Errors.{error_of_tokens, error_of_reading}
use Rattle.read_laws.specs.AnsweredTokens.{AreAnswered}
use Rattle.sql_parse.specs.declared.error.ParseError.{ParseError}
use Rattle.sql_parse.specs.declared.error.ParseError.TheVariants.{Refused}
use Rattle.sql_reader.specs.declared.reading.TreeError.{TreeError}
use Rattle.sql_reader.specs.declared.reading.TreeError.TheVariants as reading
use Rattle.sql_definitions.specs.declared.refusal.Refusal.{Refusal}
use Rattle.sql_definitions.specs.declared.refusal.Refusal.TheVariants.{Syntax}
use Rattle.read_laws.specs.TokenLaws.{HasNoTokens}
use Rattle.sql_tokens.specs.declared.reading.TokensError.{TokensError}
use Rattle.sql_tokens.specs.declared.reading.TokensError.TheVariants as tokens
use Rattle.sql_tree.specs.Tree.{StmtTree}
use Rattle.sql_tree.specs.declared.token.Placed.{Placed}

-- an error that was made is the one that came
pub error_made : {X : Type 0} (result : Result X ParseError) (made came : ParseError) → IsErrAnd result (λ e. e ≡ made) → result ≡ Err came → made ≡ came
error_made (Ok x) made came is e = cc
error_made (Err y) made came is e = let same : y ≡ made = is in cc

-- tokens that derive no statement are refused as no syntax
pub refused_reading : {X : Type 0} (all : List Placed) → ArePlain (tokens_in all) → (e : TreeError) → (IsErrOf {T = X} (Err e) reading.Syntax → (s : StmtTree) → Derives (tokens_in all) s → ⊥)
    → (refusal : Refusal) → error_of_reading e ≡ Refused refusal → AreAnswered all (Err refusal)
refused_reading all plain reading.Syntax none refusal is = let same : Syntax ≡ refusal = cc in subst (λ (r : Refusal). AreAnswered all (Err r)) same (by_syntax all plain (none refl))
refused_reading all plain reading.Memory none refusal is = cc

-- a text without tokens is refused as no syntax
pub refused_tokens : {X : Type 0} (text : List ℕ) (e : TokensError) → (IsErrOf {T = X} (Err e) tokens.Syntax → HasNoTokens text) → (refusal : Refusal) → error_of_tokens e ≡ Refused refusal → Reads text (Err refusal)
refused_tokens text tokens.Syntax none refusal is = let same : Syntax ≡ refusal = cc in subst (λ (r : Refusal). Reads text (Err r)) same (by_no_tokens text (none refl))
refused_tokens text tokens.Memory none refusal is = cc
