use Rattle.std.proofs.Common.{None, Some, ap, sym, ◌∙◌}
use Rattle.std.specs.Option.{option_map}
use Rattle.bat_core.specs.Objects.{value_of}
use Rattle.query_run.proofs.ReadLemmas.{pairs_found}
use Rattle.query_run.proofs.reuse.pairs_at.Goals as goal

pub returns-in-Some : goal.returns-in-Some
returns-in-Some c = pairs_found c.args.values.now c.args.arg.now c.in-Var.n (Some (value_of c.in-Some.value.now)) c.from.result c.in-Var.is (ap (option_map (λ found. value_of found.now)) (sym c.in-Some.is) ∙ c.known_result.ensures) (c.from.ensures ∙ c.pair_count.ensures.count)

pub returns-in-None : goal.returns-in-None
returns-in-None c = pairs_found c.args.values.now c.args.arg.now c.in-Var.n None 0 c.in-Var.is (ap (option_map (λ found. value_of found.now)) (sym c.in-None.is) ∙ c.known_result.ensures) tt
