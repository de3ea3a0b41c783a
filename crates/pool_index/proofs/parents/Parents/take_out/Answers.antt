use Rattle.std.proofs.Common.{ap, ◌∙◌, not, rules}
use Rattle.std.specs.Prelude.{filter}
use Rattle.std.proofs.lemmas.Fn.{filter_same}
use Rattle.pool_index.specs.declared.parents.Kin.{Kin}
use Rattle.pool_index.specs.Beside.{ParentsView}
use Rattle.pool_index.specs.Under.{is_in}
use Rattle.pool_index.proofs.parents.Parents.take_out.Goals as goal

pub returns-clause-kin : goal.returns-clause-kin
returns-clause-kin c =
    filter_same _ (λ (k : Kin). not (is_in c.args.gone.now k.id)) _ (λ x b q k. (search rules, search rules)) _ _ c.retain.ensures.filtered
    ∙ ap (λ (v : ParentsView). filter (λ (k : Kin). not (is_in c.args.gone.now k.id)) v.kin) c.self.view_is
