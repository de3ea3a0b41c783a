use Rattle.std.proofs.Common.{◌≤◌, ◌+◌, ℕ, List, length, drop, get_or, ap, sym, ◌∙◌, subst}
use Rattle.std.specs.Prelude.{IfSome}
use Rattle.std.proofs.lemmas.List.{take_rest}
use Rattle.read_laws.proofs.TokenLemmas.{Continues}
use Rattle.read_laws.specs.TokenReader.{part_at, tokens_after}
use Rattle.audit_read.proofs.ScanLemmas.{scan_text, scan_next}
use Rattle.audit_read.proofs.scan.scan.Goals as goal

pub part-requires : goal.part-requires
part-requires c =
    let bytes = c.as_bytes-bytes.result.now in
    rw (take_rest bytes (c.parts.at + 1)) (scan_text bytes c.parts.at c.parts-test.true c.as_bytes-bytes.ensures.utf8)

pub parts-preserved : goal.parts-preserved
parts-preserved c =
    let bytes = c.as_bytes-bytes.result.now in
    let text = c.args.text.now in
    let same = c.as_bytes-bytes.ensures.value in
    let at = c.parts.at in
    let size = c.in-Some.size in
    let rest = take_rest bytes (at + 1) in
    let told = subst (λ (bs : List ℕ). Continues (length bs) (tokens_after (length bs) 0 bs) c.parts.tokens (drop at bs)) (sym same) c.parts.invariant.told in
    let part = c.in_ok-token.ensures.part ∙ ap (part_at (get_or bytes at 0)) rest in
    let short = subst (λ (after : List ℕ). IfSome c.in_ok-token.field-0 (λ part. part.1 ≤ length after)) rest c.in_ok-token.ensures.within in
    let next =
    scan_next bytes at c.parts-test.true (tokens_after (length bytes) 0 bytes) c.parts.tokens told c.in_ok-token.field-0 part short c.in-Some.token size c.in-Some.is
    c.keep.new.tokens c.in_ok-keep.ensures in
    record {
      told = subst (λ (bs : List ℕ). Continues (length bs) (tokens_after (length bs) 0 bs) c.keep.new.tokens (drop (at + 1 + size) bs)) same next.0;
      within = subst (λ (bs : List ℕ). at + 1 + size ≤ length bs) same next.1;
    }
