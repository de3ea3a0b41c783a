use Rattle.std.proofs.Common.{◌≡◌, ◌∙◌, rules}
use Rattle.std.specs.Prelude.{is_some}
use Rattle.std.specs.List.{count_by}
use Rattle.run_log.specs.declared.event.Event.{Event}
use Rattle.run_log.specs.Events.{act_tree, committed}
use Rattle.answer_text.proofs.ChangeLemmas.{count_by-committed}
use Rattle.answer_text.proofs.history.count_changes.Goals as goal

pub returns : goal.returns
returns c =
    let counted : c.count.result ≡ count_by (λ (event : Event). is_some (committed (act_tree event.act))) c.args.log.now = search rules in
    counted ∙ count_by-committed c.args.log.now
