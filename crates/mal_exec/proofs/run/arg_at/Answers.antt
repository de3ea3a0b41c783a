use Rattle.std.proofs.Common.{◌≡◌, map, Some, IfOk, subst, sym, ap, ◌∙◌}
use Rattle.std.specs.Option.{option_map}
use Rattle.bat_core.specs.Objects.{value_of, values_of}
use Rattle.mal_meaning.specs.Meaning.{arg_value}
use Rattle.mal_exec.proofs.RowLemmas.{named}
use Rattle.mal_exec.proofs.run.arg_at.Goals as goal

pub returns-in-Var : goal.returns-in-Var
returns-in-Var c =
    subst (λ v. IfOk c.value_at.result (λ found. option_map value_of found ≡ v))
    (sym (named c.args.values.now c.in-Var.n) ∙ ap (arg_value (map Some (values_of c.args.values.now))) (sym c.in-Var.is))
    c.value_at.ensures
