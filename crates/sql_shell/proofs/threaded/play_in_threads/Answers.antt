use Rattle.std.proofs.Common.{ℕ, ◌≤◌, List, [], ◌++◌, length, ap, sym, ◌∙◌, subst, arith}
use Rattle.std.specs.Prelude.{if◌then◌else◌}
use Rattle.std.specs.List.{AllByRecursion}
use Rattle.std.proofs.lemmas.List.{length-map}
use Rattle.std.specs.declared.vec.Vec.{Vec}
use Rattle.std.specs.declared.alloc.Global.{Global}
use Rattle.pool_policy.specs.declared.options.PoolOptions.{PoolOptions}
use Rattle.pool_policy.specs.Scorers.{rule_of}
use Rattle.run_log.specs.declared.event.Event.{Event}
use Rattle.run_log.specs.Events.{EventTree, log_tree}
use Rattle.pool_sound.specs.Sound.{IsSoundAlong}
use Rattle.answer_text.specs.Layout.{history_text, log_text, totals_text}
use Rattle.session_run.specs.Work.{run_totals}
use Rattle.run_sessions.specs.Tables.{AreTexts}
use Rattle.sql_shell.specs.Ready.{IsServedBy}
use Rattle.sql_shell.specs.Scripts.{names_of, pieces_in}
use Rattle.sql_shell.specs.Served.{IsMade, texts_under}
use Rattle.sql_shell.specs.declared.scripts.CutScript.{CutScript}
use Rattle.sql_shell.proofs.PrintLemmas.{all_items, served_of, texts_many}
use Rattle.sql_shell.specs.declared.inputs.Course.TheVariants.{InThreads}
use Rattle.sql_shell.proofs.threaded.play_in_threads.Goals as goal

pub serve_sessions-requires-clause-scorer : goal.serve_sessions-requires-clause-scorer
serve_sessions-requires-clause-scorer g c κs within = c.requires.scorer ∙ ap rule_of (sym c.pool_for-pool.ensures)

pub print_run-requires-clause-each : goal.print_run-requires-clause-each
print_run-requires-clause-each g c =
    let texts = c.in_ok-run.run'.texts.items in
    let scripts = c.args.scripts.items in
    let many = texts_many (log_tree c.in_ok-run.run'.log.items) 1 c.in_ok-names.field-0.scripts.items (all_items texts) c.in_ok-run.ensures.texts in
    let items = length-map texts (λ (t : Vec ℕ Global). t.items) in
    let pieces = ap length c.in_ok-names.ensures.scripts ∙ length-map scripts (λ (s : CutScript). s.pieces) in
    let names = ap length (c.as_slice.ensures.value ∙ c.in_ok-names.ensures.names) ∙ length-map scripts (λ (s : CutScript). s.name) in
    omega (arith, many, items, pieces, names)

pub returns : goal.returns
returns g c =
    let options = c.args.options in
    let scripts = c.args.scripts.items in
    let course = InThreads c.args.workers in
    let pieces = pieces_in scripts in
    let run = c.in_ok-run.run' in
    let log = log_tree run.log.items in
    let ran = c.in_ok-run.ensures in
    let pool = c.pool_for-pool.ensures in
    let texts : AreTexts log 1 pieces (all_items run.texts.items) = subst (λ (split : List (List (List ℕ))). AreTexts log 1 split (all_items run.texts.items)) c.in_ok-names.ensures.scripts ran.texts in
    let many = texts_many log 1 pieces (all_items run.texts.items) texts in
    let names = length-map scripts (λ (s : CutScript). s.name) in
    let count = length-map scripts (λ (s : CutScript). s.pieces) in
    λ before after. subst (λ (events : List Event). IsServedBy options scripts course c.in_ok-text.text.items (log_tree events) run.totals.work before after) (sym c.from_vec.ensures) (
      served_of options (names_of scripts) pieces c.in_ok-text.text.items (all_items run.texts.items) log run.totals
          (omega (arith, many, names, count))
          (subst (λ (split : List (List (List ℕ))). AllByRecursion (λ (event : EventTree). (1 ≤ event.session) × (event.session ≤ length split)) log) c.in_ok-names.ensures.scripts ran.sessions)
          texts
          (ran.totals ∙ ap (λ o. run_totals o log) pool)
          (c.in_ok-text.ensures ∙ ap (λ (names : List (List ℕ)). ((texts_under 1 names (all_items run.texts.items) ++ history_text log) ++ totals_text run.totals) ++ (if options.events then log_text log else []))
          (c.as_slice.ensures.value ∙ c.in_ok-names.ensures.names))
          (subst (λ (o : PoolOptions). IsSoundAlong o log) pool ran.sound) c.numbers_are_short.ensures,
      subst (λ (o : PoolOptions). IsMade o pieces course log before after) pool
          (subst (λ (split : List (List (List ℕ))). IsMade c.pool_for-pool.result split course log before after) c.in_ok-names.ensures.scripts ran.played),
    )
