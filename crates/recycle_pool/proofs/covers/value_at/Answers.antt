use Rattle.std.proofs.lemmas.Result.{IfOk-weaker}
use Rattle.recycle_pool.proofs.Places.{pooled_at}
use Rattle.recycle_pool.proofs.covers.value_at.Goals as goal

pub returns : goal.returns
returns c =
    IfOk-weaker c.share.result _ _ (λ value same. pooled_at c.args.entries.now c.args.id c.in-Some.place c.index-entries-place.result value c.in-Some.ensures.found c.in-Some.ensures.within same) c.share.ensures
