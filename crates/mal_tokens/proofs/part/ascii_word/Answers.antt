use Rattle.std.proofs.Common.{◌≡◌, ◌∷◌, ◌++◌, [], sym, ap, ◌∙◌, subst}
use Rattle.std.specs.Prelude.{IsAscii}
use Rattle.std.proofs.lemmas.Str.{IsUtf8-from_ascii}
use Rattle.text_bytes.proofs.ByteLemmas.{ascii_word_bytes}
use Rattle.mal_tokens.proofs.part.ascii_word.Goals as goal

pub unreachable-requires : goal.unreachable-requires
unreachable-requires c =
    let whole : c.deref.result.now ≡ c.args.first ∷ c.args.more.now =
    c.deref.ensures.value ∙ c.in_ok-extend_from_slice.ensures.items ∙ ap (λ bs. bs ++ c.args.more.now) c.in_ok-push.ensures.items
    ∙ ap (λ bs. (bs ++ c.args.first ∷ []) ++ c.args.more.now) c.in_ok-bytes.ensures.items in
    c.in-Err.ensures.cases.0 (IsUtf8-from_ascii c.deref.result.now (subst IsAscii (sym whole) (ascii_word_bytes (c.args.first ∷ c.args.more.now) c.requires)))
