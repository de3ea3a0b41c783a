use Rattle.std.proofs.Common.{◌≡◌, length, take, refl, ap, ◌∙◌, arith}
use Rattle.std.proofs.Math.Seq.{take-length}
use Rattle.cell_core.specs.Relations.{is_within, selected}
use Rattle.cell_core.specs.Pairs.{heads_of, tails_of}
use Rattle.chunk_core.specs.Parts.{part_cells}
use Rattle.bat_core.proofs.RunLemmas.{run_within}
use Rattle.bat_algebra.specs.Places.{places_where}
use Rattle.bat_algebra.proofs.PlaceLemmas.{written_back, found_within, heads_more, tails_more, both_columns}
use Rattle.bat_algebra.proofs.range.select_pairs.Goals as goal

pub push_places-requires : goal.push_places-requires
push_places-requires c =
    found_within (is_within c.args.low.now c.args.high.now c.args.li c.args.hi) (part_cells c.run.result.1) _ (length (part_cells c.run.result.0))
    (ap (take c.find_within-count.result) c.deref.ensures.value ∙ written_back c.find_within-count.new.places _ _ c.find_within-count.result (omega (arith, c.find_within-count.ensures.within, c.find_within-count.auto.places, c.deref_mut.ensures.len, c.deref_mut.ensures.value)) c.find_within-count.ensures.within ∙ c.find_within-count.ensures.found) c.run.ensures.even

pub push_places-requires-in-runs : goal.push_places-requires-in-runs
push_places-requires-in-runs c =
    found_within (is_within c.args.low.now c.args.high.now c.args.li c.args.hi) (part_cells c.run.result.1) _ (length (part_cells c.run.result.1))
    (ap (take c.find_within-count.result) c.deref-in-runs.ensures.value ∙ written_back c.find_within-count.new.places _ _ c.find_within-count.result (omega (arith, c.find_within-count.ensures.within, c.find_within-count.auto.places, c.deref_mut.ensures.len, c.deref_mut.ensures.value)) c.find_within-count.ensures.within ∙ c.find_within-count.ensures.found) refl

pub runs-preserved : goal.runs-preserved
runs-preserved c =
    let far : c.len-in-runs-2.result ≡ length (part_cells c.run.result.0) = c.len-in-runs-2.ensures in
    let found : take c.find_within-count.result c.deref.result.now ≡ places_where (is_within c.args.low.now c.args.high.now c.args.li c.args.hi) 0 (part_cells c.run.result.1) =
    ap (take c.find_within-count.result) c.deref.ensures.value ∙ written_back c.find_within-count.new.places _ _ c.find_within-count.result (omega (arith, c.find_within-count.ensures.within, c.find_within-count.auto.places, c.deref_mut.ensures.len, c.deref_mut.ensures.value)) c.find_within-count.ensures.within ∙ c.find_within-count.ensures.found in
    let again : take c.find_within-count.result c.deref-in-runs.result.now ≡ places_where (is_within c.args.low.now c.args.high.now c.args.li c.args.hi) 0 (part_cells c.run.result.1) =
    ap (take c.find_within-count.result) c.deref-in-runs.ensures.value ∙ written_back c.find_within-count.new.places _ _ c.find_within-count.result (omega (arith, c.find_within-count.ensures.within, c.find_within-count.auto.places, c.deref_mut.ensures.len, c.deref_mut.ensures.value)) c.find_within-count.ensures.within ∙ c.find_within-count.ensures.found in
    record {
      within = omega (arith, run_within c.args.b.now (part_cells c.run.result.0) (part_cells c.run.result.1) c.runs.from (omega arith) c.run.ensures.even c.run.ensures.pairs, far);
      heads = rw far (heads_more c.args.low.now c.args.high.now c.args.li c.args.hi c.args.b.now c.runs.from (part_cells c.run.result.0) (part_cells c.run.result.1) _ found c.run.ensures.even c.run.ensures.pairs _ _ c.in_ok-push_places.ensures c.runs.invariant.heads);
      tails = rw far (tails_more c.args.low.now c.args.high.now c.args.li c.args.hi c.args.b.now c.runs.from (part_cells c.run.result.0) (part_cells c.run.result.1) _ again c.run.ensures.even c.run.ensures.pairs _ _ c.in_ok-push_places-2.ensures c.runs.invariant.tails);
    }

pub returns : goal.returns
returns c =
    let all : take c.runs.from c.args.b.now ≡ c.args.b.now = ap (λ n. take n c.args.b.now) (omega (arith, c.len.ensures.len)) ∙ take-length c.args.b.now in
    c.from_columns.ensures
    ∙ both_columns _ _ (selected c.args.low.now c.args.high.now c.args.li c.args.hi c.args.b.now)
    (c.in_ok-heads.ensures ∙ c.runs.invariant.heads ∙ ap (λ b. heads_of (selected c.args.low.now c.args.high.now c.args.li c.args.hi b)) all)
    (c.in_ok-tails.ensures ∙ c.runs.invariant.tails ∙ ap (λ b. tails_of (selected c.args.low.now c.args.high.now c.args.li c.args.hi b)) all)
