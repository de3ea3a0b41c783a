use Rattle.std.proofs.Common.{◌≡◌, ◌∷◌, ◌++◌, [], sym, ap, ◌∙◌, subst, arith}
use Rattle.std.specs.Str.{IsUtf8}
use Rattle.std.proofs.lemmas.Str.{IsUtf8-append, IsUtf8-from_ascii}
use Rattle.std.proofs.lemmas.Str.Ascii.{IsAscii-nil, IsAscii-cons}
use Rattle.mal_text.proofs.parse.called.Goals as goal

pub unreachable-requires : goal.unreachable-requires
unreachable-requires c =
    let a = c.args.line.now.of_module in
    let b = c.args.line.now.function in
    let whole : c.deref.result.now ≡ (a ++ 46 ∷ []) ++ b =
    c.deref.ensures.value ∙ c.in_ok-extend_from_slice-2.ensures.items
    ∙ ap (λ bs. bs ++ c.as_bytes-2.result.now) (c.in_ok-push.ensures.items ∙ ap (λ bs. bs ++ 46 ∷ []) (c.in_ok-extend_from_slice.ensures.items ∙ ap (λ bs. bs ++ c.as_bytes.result.now) c.new-bytes.ensures.items ∙ c.as_bytes.ensures.value ∙ c.text.ensures.text))
    ∙ ap (λ bs. (a ++ 46 ∷ []) ++ bs) (c.as_bytes-2.ensures.value ∙ c.text-2.ensures.text) in
    let point = IsUtf8-from_ascii (46 ∷ []) (IsAscii-cons 46 [] (omega arith) IsAscii-nil) in
    c.in-Err.ensures.cases.0 (subst IsUtf8 (sym whole) (IsUtf8-append (a ++ 46 ∷ []) b (IsUtf8-append a (46 ∷ []) c.text.ensures.utf8 point) c.text-2.ensures.utf8))
