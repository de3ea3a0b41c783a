-- What a text is read as is what it derives, and it derives no second thing.
use Rattle.std.proofs.Common.{◌≡◌, ℕ, List, [], Option, Some, None, ap, sym, ◌∙◌, subst}
use Rattle.mal_meaning.specs.declared.plan.Out.{Out}
use Rattle.mal_meaning.specs.declared.plan.Plan.{Plan}
use Rattle.mal_text.specs.Blocks.{write_block}
use Rattle.mal_text.specs.Plans.{StandsFor}
use Rattle.mal_text.specs.Reader.{Found, block}
use Rattle.mal_text.specs.Reads.{Derives}
use Rattle.mal_tokens.specs.Tokens.{AreTokens}
use Rattle.mal_text.specs.declared.block.Block.{Block}
use Rattle.mal_tokens.specs.declared.token.MalToken.{MalToken}
use Rattle.mal_text.proofs.BlockLemmas.{block_found, block_told}
use Rattle.text_bytes.proofs.FoundLemmas.{value_found, pair_found}
use Rattle.mal_tokens.proofs.TokensRead.{one_list_of}

-- the block that is read of a text's tokens is written in them
pub block_read : (text : List ℕ) (ts : List MalToken) (b : Block) (rest : List MalToken) → AreTokens text ts → block ts ≡ Some (b, rest) → AreTokens text (write_block b)
block_read text ts b rest tokens found = subst (AreTokens text) (sym (block_found ts b rest found)) tokens

-- a text from whose tokens no block is read has none
pub no_block : (text : List ℕ) (ts : List MalToken) → AreTokens text ts → block ts ≡ None → (b : Block) → AreTokens text (write_block b) → ⊥
no_block text ts tokens none b are =
    let same : ts ≡ write_block b = one_list_of text ts (write_block b) tokens are in
    let both : ◌≡◌ {A = Found Block} None (Some (b, [])) = sym none ∙ ap block same ∙ block_told b in
    cc

one_block : (text : List ℕ) (a b : Block) → AreTokens text (write_block a) → AreTokens text (write_block b) → a ≡ b
one_block text a b first second =
    let same : write_block a ≡ write_block b = one_list_of text (write_block a) (write_block b) first second in
    let parts = pair_found a b [] [] (sym (block_told a) ∙ ap block same ∙ block_told b) in
    parts.0

-- where the block of a text stands for no plan, nothing is derived
pub no_plan : (text : List ℕ) (b : Block) → AreTokens text (write_block b) → ((plan : Plan) → StandsFor b plan → ⊥) → (c : Block) (plan : Plan) → Derives text c plan → ⊥
no_plan text b are none c plan d = none plan (subst (λ c. StandsFor c plan) (one_block text c b d.tokens are) d.stands)

one_plan : (b : Block) (p q : Plan) → StandsFor b p → StandsFor b q → p ≡ q
one_plan b p q first second =
    let instrs = value_found p.instrs q.instrs (sym first.instrs_are ∙ second.instrs_are) in
    let keep = value_found p.out.keep q.out.keep (sym first.keep_is ∙ second.keep_is) in
    let order = value_found p.out.order q.out.order (sym first.order_is ∙ second.order_is) in
    let limit = value_found p.out.limit q.out.limit (sym first.limit_is ∙ second.limit_is) in
    let cols = value_found p.out.cols q.out.cols (sym first.cols_are ∙ second.cols_are) in
    λ i. record { instrs = instrs i; out = record { cols = cols i; keep = keep i; order = order i; limit = limit i } }

-- no text is derived from two blocks, nor stands for two plans
pub one_reading_of : (text : List ℕ) (a b : Block) (p q : Plan) → Derives text a p → Derives text b q → (a ≡ b) × (p ≡ q)
one_reading_of text a b p q first second =
    let same = one_block text a b first.tokens second.tokens in
    (same, one_plan b p q (subst (λ c. StandsFor c p) same first.stands) second.stands)
