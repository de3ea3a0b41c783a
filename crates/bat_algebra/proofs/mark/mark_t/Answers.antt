use Rattle.std.proofs.Common.{length, map, ap, ◌∙◌}
use Rattle.std.specs.List.{zip, range_with_len}
use Rattle.std.proofs.lemmas.List.FromFn.{length-map-range_with_len}
use Rattle.cell_core.specs.Pairs.{heads_of}
use Rattle.cell_core.specs.Relations.{counted_from}
use Rattle.bat_algebra.proofs.MarkLemmas.{marks}
use Rattle.bat_algebra.proofs.mark.mark_t.Goals as goal

pub with_tails-requires : goal.with_tails-requires
with_tails-requires g c = ap length c.in_ok-tails.ensures ∙ length-map-range_with_len (counted_from c.args.base.now) 0 c.len.result ∙ c.len.ensures.len

pub returns-clause-value : goal.returns-clause-value
returns-clause-value g c =
    c.in_ok-out.ensures
    ∙ ap (λ tails. zip (heads_of c.args.b.now) tails) (c.in_ok-tails.ensures ∙ ap (λ n. map (counted_from c.args.base.now) (range_with_len 0 n)) c.len.ensures.len)
    ∙ marks c.args.base.now c.args.b.now
