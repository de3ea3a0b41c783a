use Rattle.std.proofs.Common.{◌≡◌, map, ◌++◌, Some}
use Rattle.bat_core.specs.Objects.{values_of}
use Rattle.mal_exec.specs.Results.{known_of}
use Rattle.query_run.proofs.query.all_results.Given as goal

abbrev pub invariant-results : goal.invariant-results
invariant-results l = record {
  so_far : known_of l.yielded ≡ map Some (values_of l.all);
  rest : l.yielded ++ l.found-iterator.rest.items ≡ l.fn.results.items;
}
