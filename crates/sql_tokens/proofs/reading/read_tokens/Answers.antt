use Rattle.std.proofs.Common.{subst, ◌≡◌, ◌++◌, ◌∷◌, length, take}
use Rattle.std.proofs.lemmas.List.{take_rest}
use Rattle.read_laws.specs.TokenReader as reader
use Rattle.read_laws.proofs.TokenLemmas.{Continues, tokens_step}
use Rattle.text_bytes.proofs.ByteLemmas.{part_moved}
use Rattle.sql_tokens.proofs.reading.read_tokens.Goals as goal

pub parts-preserved : goal.parts-preserved
parts-preserved c =
    let all = length c.args.text.now in
    let whole = reader.tokens_after all 0 c.args.text.now in
    let told = subst (Continues all whole c.parts.tokens) c.in-Some.ensures.cases.0 c.parts.invariant.told in
    let behind = subst (λ rest. c.parts.invariant.behind.0 ++ rest ≡ c.args.text.now) c.in-Some.ensures.cases.0 c.parts.invariant.behind.1 in
    let added = rw (c.as_bytes-bytes.ensures.value, c.in-Some.ensures.cases.0, take_rest c.in-Some.after.now c.in_ok-token.length) at c.in_ok-keep.ensures in
    let step = tokens_step all whole c.parts.tokens c.in-Some.first.now c.in-Some.after.now told c.keep.new.tokens c.in_ok-token.length c.in_ok-token.token c.in_ok-token.ensures.part added in
    rw (take_rest c.in-Some.after.now c.in_ok-token.length) (record {
      told = step;
      behind = (c.parts.invariant.behind.0 ++ c.in-Some.first.now ∷ take c.in_ok-token.length c.in-Some.after.now, part_moved c.parts.invariant.behind.0 c.in-Some.first.now c.in_ok-token.length c.in-Some.after.now c.args.text.now behind);
    })
