use Rattle.std.proofs.Common.{◌≡◌, ◌∷◌, map, ap, sym, ◌∙◌, subst}
use Rattle.std.specs.Char.{to_ascii_lowercase}
use Rattle.std.specs.Prelude.{IsAscii}
use Rattle.std.proofs.lemmas.Result.{IfOk-weaker}
use Rattle.sql_tree.specs.Bytes as reading
use Rattle.read_laws.proofs.ByteLemmas.{ascii_low_bytes, low_all}
use Rattle.sql_tokens.proofs.part.low_word.Goals as goal

pub ascii_word-requires : goal.ascii_word-requires
ascii_word-requires c =
    let lowered : c.as_slice-2.result.now ≡ map to_ascii_lowercase (c.args.first ∷ c.args.more.now) = c.as_slice-2.ensures.value ∙ c.in_ok-bytes.ensures ∙ ap (map to_ascii_lowercase) (c.as_slice.ensures.value ∙ c.in_ok-letters.ensures) in
    subst IsAscii (sym lowered) (ascii_low_bytes (c.args.first ∷ c.args.more.now) c.requires)

pub returns : goal.returns
returns c =
    let lowered : c.as_slice-2.result.now ≡ map to_ascii_lowercase (c.args.first ∷ c.args.more.now) = c.as_slice-2.ensures.value ∙ c.in_ok-bytes.ensures ∙ ap (map to_ascii_lowercase) (c.as_slice.ensures.value ∙ c.in_ok-letters.ensures) in
    IfOk-weaker c.ascii_word.result _ (λ word. word ≡ map reading.low (c.args.first ∷ c.args.more.now)) (λ word is. is ∙ lowered ∙ low_all (c.args.first ∷ c.args.more.now)) c.ascii_word.ensures
