use Rattle.std.proofs.Common.{◌≡◌, ◌∷◌, ◌++◌, [], ◌<◌, ◌+◌, List, ℕ, length, drop, get_or, true, false, ◌||◌, ap, sym, ◌∙◌, subst, arith}
use Rattle.std.specs.Prelude.{if◌then◌else◌}
use Rattle.std.proofs.lemmas.List.{take_rest}
use Rattle.std.proofs.lemmas.Str.{IsCharBoundary-start, IsCharBoundary-after_ascii}
use Rattle.sql_tree.specs.Pieces.{ends_piece, next_inside, is_told}
use Rattle.sql_tree.specs.declared.inside.Inside.TheVariants.{Outside}
use Rattle.audit_read.proofs.RunLemmas.{Stands, stands_first, ends_at, cut_at, on_at}
use Rattle.audit_read.proofs.pieces.pieces_in.Goals as goal

pub bytes-init : goal.bytes-init
bytes-init c = record {
  stands = subst (λ (found : List (List ℕ)). Stands c.args.text.now found Outside [] c.args.text.now false) (sym c.new-found.ensures.items) (stands_first c.args.text.now);
  order = omega arith;
  boundary = IsCharBoundary-start c.args.text.now c.utf8.text;
}

pub bytes-preserved-then-ends : goal.bytes-preserved-then-ends
bytes-preserved-then-ends c =
    let text = c.args.text.now in
    let at = c.bytes.at in
    let same = c.as_bytes-bytes.ensures.value in
    let long : length c.as_bytes-bytes.result.now ≡ length text = ap length same in
    let within : at < length text = omega (arith, long, c.bytes-test.true) in
    let ends : ends_piece c.bytes.place (get_or text at 0) ≡ true = ap (λ bs. ends_piece c.bytes.place (get_or bs at 0)) (sym same) ∙ sym c.ends.ensures ∙ c.if-ends.true in
    let mark : get_or text at 0 ≡ 59 = ends_at c.bytes.place (get_or text at 0) ends in
    record {
      stands =
          cut_at text c.bytes.found.items c.bytes.place c.bytes.start at c.bytes.says within c.bytes.invariant.order c.bytes.invariant.stands ends c.keep.new.found.items
          (c.in_ok-keep.ensures ∙ ap (λ run. c.bytes.found.items ++ (if c.bytes.says then run ∷ [] else [])) c.range.ensures.value);
      order = omega arith;
      boundary = IsCharBoundary-after_ascii text at c.utf8.text within (omega (arith, mark));
    }

pub bytes-preserved : goal.bytes-preserved
bytes-preserved c =
    let text = c.args.text.now in
    let at = c.bytes.at in
    let place = c.bytes.place in
    let bytes = c.as_bytes-bytes.result.now in
    let same = c.as_bytes-bytes.ensures.value in
    let rest = take_rest bytes (at + 1) in
    let long : length c.as_bytes-bytes.result.now ≡ length text = ap length same in
    let within : at < length text = omega (arith, long, c.bytes-test.true) in
    record {
      stands =
          on_at text c.bytes.found.items place c.bytes.start at c.bytes.says within c.bytes.invariant.order c.bytes.invariant.stands
          (ap (λ bs. ends_piece place (get_or bs at 0)) (sym same) ∙ sym c.ends.ensures ∙ c.if-ends.false)
          c.next-place.result (c.next-place.ensures ∙ ap (next_inside place (get_or bytes at 0)) rest ∙ ap (λ bs. next_inside place (get_or bs at 0) (drop (at + 1) bs)) same)
          c.says_more-says.result (c.says_more-says.ensures ∙ ap (λ after. c.bytes.says || is_told place (get_or bytes at 0) after) rest ∙ ap (λ bs. c.bytes.says || is_told place (get_or bs at 0) (drop (at + 1) bs)) same);
      order = omega (arith, c.bytes.invariant.order);
      boundary = c.bytes.invariant.boundary;
    }
