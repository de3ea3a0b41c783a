use Rattle.std.proofs.Common.{subst, ◌≡◌, ◌++◌, ◌∷◌, take}
use Rattle.std.proofs.lemmas.List.{take_rest}
use Rattle.mal_tokens.specs.Bytes as reader
use Rattle.mal_tokens.proofs.TokensRead.{Continues, tokens_step}
use Rattle.text_bytes.proofs.ByteLemmas.{part_moved}
use Rattle.mal_tokens.proofs.reading.read_tokens.Goals as goal

pub parts-preserved : goal.parts-preserved
parts-preserved c =
    let whole = reader.tokens_after 0 c.args.text.now in
    let told = subst (Continues whole c.parts.tokens) c.in-Some.ensures.cases.0 c.parts.invariant.told in
    let behind = subst (λ rest. c.parts.invariant.behind.0 ++ rest ≡ c.args.text.now) c.in-Some.ensures.cases.0 c.parts.invariant.behind.1 in
    let step = tokens_step whole c.parts.tokens c.in-Some.first.now c.in-Some.after.now told c.keep.new.tokens c.in_ok-token.length c.in_ok-token.token c.in_ok-token.ensures.part c.in_ok-keep.ensures in
    rw (take_rest c.in-Some.after.now c.in_ok-token.length) (record {
      told = step;
      behind = (c.parts.invariant.behind.0 ++ c.in-Some.first.now ∷ take c.in_ok-token.length c.in-Some.after.now, part_moved c.parts.invariant.behind.0 c.in-Some.first.now c.in_ok-token.length c.in-Some.after.now c.args.text.now behind);
    })
