use Rattle.std.proofs.Common.{◌≡◌, IfOk, subst}
use Rattle.mal_meaning.proofs.SlowLemmas.{function_is}
use Rattle.mal_meaning.proofs.operate.run_function.Goals as goal

pub returns : goal.returns
returns c = subst (λ v. IfOk c.calculate.result (λ out. out ≡ v)) (function_is c.args.op c.args.args.now c.requires) c.calculate.ensures
