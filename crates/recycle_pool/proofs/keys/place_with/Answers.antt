use Rattle.std.proofs.Common.{sym, ◌∙◌, slice_index_or}
use Rattle.std.proofs.lemmas.Option.{slice_get-get_or}
use Rattle.recycle_pool.proofs.Prints.{only_none, only_one}
use Rattle.recycle_pool.proofs.keys.place_with.Goals as goal

pub returns-in-None-clause-found : goal.returns-in-None-clause-found
returns-in-None-clause-found c = only_none c.args.id c.args.key.now c.args.entries.now c.requires.only c.in-None.ensures.found

pub returns-then-eq-clause-found : goal.returns-then-eq-clause-found
returns-then-eq-clause-found c =
    let es = c.args.entries.now in
    let at = slice_get-get_or es c.in-Some.place c.index-entries-place.result c.in-Some.ensures.within in
    at ∙ only_one c.args.id c.args.key.now es (slice_index_or es c.in-Some.place c.index-entries-place.result) c.requires.only (sym at ∙ c.in-Some.ensures.found) (sym c.if-eq.ensures)
