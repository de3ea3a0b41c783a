use Rattle.std.proofs.Common.{ℕ, ◌≤◌, List, [], ◌∷◌, length, ap, ap₂, sym, ◌∙◌, subst, refl, arith}
use Rattle.std.specs.List.{AllByRecursion}
use Rattle.pool_policy.specs.Scorers.{rule_of}
use Rattle.run_log.specs.declared.event.Event.{Event}
use Rattle.run_log.specs.Events.{log_tree}
use Rattle.sql_shell.specs.Generated.{IsGenerated}
use Rattle.sql_shell.proofs.GeneratedLemmas.{generated_of, two_pushed}
use Rattle.sql_shell.proofs.generate.replay_samples.Goals as goal

pub play_sessions-requires-clause-few : goal.play_sessions-requires-clause-few
play_sessions-requires-clause-few g c =
    let made = c.in_ok-changes.field-0 in
    let items = two_pushed made.changes made.queries c.new-scripts.result.items c.push.new.self.items c.push-2.new.self.items c.new-scripts.ensures.items c.in_ok-push.ensures.items c.in_ok-push-2.ensures.items in
    let two = ap length items in
    omega (arith, two)

pub play_sessions-requires-clause-short : goal.play_sessions-requires-clause-short
play_sessions-requires-clause-short g c =
    let made = c.in_ok-changes.field-0 in
    let few = c.in_ok-changes.ensures.few in
    let items = two_pushed made.changes made.queries c.new-scripts.result.items c.push.new.self.items c.push-2.new.self.items c.new-scripts.ensures.items c.in_ok-push.ensures.items c.in_ok-push-2.ensures.items in
    subst (AllByRecursion (λ (pieces : List (List ℕ)). length pieces ≤ 256)) (sym items) (few.0, (few.1, tt))

pub play_sessions-requires-clause-scorer : goal.play_sessions-requires-clause-scorer
play_sessions-requires-clause-scorer g c = c.requires.scorer ∙ ap rule_of (sym c.default_pool-pool.ensures)

pub returns : goal.returns
returns g c =
    let seed = c.args.seed in
    let run = c.in_ok-run.run' in
    let log = log_tree run.log.items in
    let played = c.in_ok-run.ensures in
    let made = c.in_ok-changes.field-0 in
    let items = two_pushed made.changes made.queries c.new-scripts.result.items c.push.new.self.items c.push-2.new.self.items c.new-scripts.ensures.items c.in_ok-push.ensures.items c.in_ok-push-2.ensures.items in
    let scripts = items ∙ ap₂ (λ (a b : List (List ℕ)). a ∷ b ∷ []) c.in_ok-changes.ensures.changes c.in_ok-changes.ensures.queries in
    subst (λ (events : List Event). IsGenerated seed c.in_ok-text.text.items (log_tree events) run.totals.work c.args.steps.now c.play_sessions.new.steps) (sym c.from_vec.ensures)
    (generated_of seed c.default_pool-pool.result c.push-2.new.self.items [] c.in_ok-text.text.items log run.totals c.args.steps.now c.play_sessions.new.steps
    c.default_pool-pool.ensures scripts refl played.scheduled played.totals played.counted c.in_ok-text.ensures played.sound c.numbers_are_short.ensures)
