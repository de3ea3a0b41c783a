use Rattle.std.proofs.Common.{◌≡◌, ◌<◌, List, Bool, true, false, length, ap, sym, ◌∙◌, arith}
use Rattle.std.specs.Prelude.{◌&&◌, not, slice_index_or}
use Rattle.std.proofs.lemmas.Option.{same_Some, slice_get-get_or}
use Rattle.recycle_mark.specs.Marks.{marks_of}
use Rattle.query_run.specs.Queries.{has_result}
use Rattle.query_run.proofs.WalkLemmas.{as_many_marks}
use Rattle.query_run.proofs.step.RunningQuery.must_ask.Goals as goal

pub index-requires : goal.index-requires
index-requires c =
    let same = ap (λ (bs : List Bool). length bs) c.requires.under.marks in
    let many = as_many_marks c.args.self.now.plan in
    let inside = c.requires.inside in
    omega (arith, same, many, inside)

pub returns-then-index : goal.returns-then-index
returns-then-index c =
    let marks = c.args.self.now.marks.items in
    let same = ap (λ (bs : List Bool). length bs) c.requires.under.marks in
    let many = as_many_marks c.args.self.now.plan in
    let low = c.requires.inside in
    let inside : c.args.n < length marks = omega (arith, same, many, low) in
    let any : slice_index_or marks c.args.n false ≡ slice_index_or marks c.args.n c.index.result.now =
    same_Some (slice_index_or marks c.args.n false) (slice_index_or marks c.args.n c.index.result.now) (sym (slice_get-get_or marks c.args.n false inside) ∙ slice_get-get_or marks c.args.n c.index.result.now inside) in
    let marked : slice_index_or (marks_of c.args.self.now.plan) c.args.n false ≡ true = ap (λ (bs : List Bool). slice_index_or bs c.args.n false) (sym c.requires.under.marks) ∙ any ∙ sym c.index.ensures ∙ c.if-index.true in
    ap not c.has.ensures ∙ ap (λ b. b && not (has_result c.args.self.now c.args.n)) (sym marked)
