use Rattle.std.proofs.Common.{ℕ, List, length, ap, sym, ◌∙◌, subst}
use Rattle.read_laws.proofs.TextsRead.{by_no_tokens}
use Rattle.read_laws.proofs.TokensRead.{tokens_sound, no_tokens}
use Rattle.read_laws.specs.TokenReader.{tokens_after}
use Rattle.sql_tree.specs.Tokens.{AreTokens}
use Rattle.sql_tree.specs.declared.token.Placed.{Placed}
use Rattle.audit_read.proofs.TextLemmas.{text_answered}
use Rattle.audit_read.proofs.text.read_text.Goals as goal

pub returns-in-None : goal.returns-in-None
returns-in-None c =
    by_no_tokens c.args.text.now (no_tokens c.args.text.now (ap (λ (bs : List ℕ). tokens_after (length bs) 0 bs) (sym c.text.ensures.text) ∙ sym c.in_ok-tokens.ensures ∙ c.in-None.is))

pub returns-in-Some : goal.returns-in-Some
returns-in-Some c =
    let are = tokens_sound c.args.text.now c.in-Some.tokens (ap (λ (bs : List ℕ). tokens_after (length bs) 0 bs) (sym c.text.ensures.text) ∙ sym c.in_ok-tokens.ensures ∙ c.in-Some.is) in
    text_answered c.args.text.now c.as_slice.result.now (subst (λ (tokens : List Placed). AreTokens c.args.text.now tokens) (sym c.as_slice.ensures) are) c.read_tokens.result c.read_tokens.ensures
