use Rattle.std.proofs.Common.{◌≡◌, ℕ, ◌-◌, ◌≤◌, List, length, take, Some, sym, ◌∙◌, subst}
use Rattle.std.specs.Prelude.{slice_get}
use Rattle.sql_shell.specs.Failures.{at_of, status_of}
use Rattle.sql_shell.specs.Scripts.{AreCut, CanBeRun}
use Rattle.sql_shell.proofs.InputLemmas.{failed_since, schedule_reached, schedule_wrong, script_failed, scripts_reached, wrong_before}
use Rattle.sql_shell.proofs.inputs.read_inputs.Goals as goal

pub returns-in-Err-clause-reached : goal.returns-in-Err-clause-reached
returns-in-Err-clause-reached g c two =
    let bytes = g.S.Scripts.bytes_of c.args.source.now in
    let at = at_of c.in-Err.failure in
    scripts_reached bytes c.args.command.now at
    (subst (λ (names : List (List ℕ)). at ≤ length names) c.files_of.ensures c.in-Err.ensures.within)
    (subst (λ (names : List (List ℕ)). (1 ≤ at) × CanBeRun bytes (take (at - 1) names)) c.files_of.ensures (c.in-Err.ensures.reached two))

pub returns-in-Err-read_course-clause-wrong : goal.returns-in-Err-read_course-clause-wrong
returns-in-Err-read_course-clause-wrong g c by =
    let bytes = g.S.Scripts.bytes_of c.args.source.now in
    let failure = c.in-Err-read_course.failure in
    schedule_wrong bytes c.args.command.now c.in-Ok.scripts.items (status_of failure) (at_of failure)
    (subst (λ (names : List (List ℕ)). AreCut bytes names c.in-Ok.scripts.items) c.files_of.ensures c.in-Ok.ensures.cut)
    (wrong_before bytes (g.S.Scripts.bytes_of c.read_scripts.new.source) c.in-Ok.ensures.same c.args.command.now (status_of failure) (at_of failure) (c.in-Err-read_course.ensures.wrong by))

pub returns-in-Err-read_course-clause-reached : goal.returns-in-Err-read_course-clause-reached
returns-in-Err-read_course-clause-reached g c two =
    let bytes = g.S.Scripts.bytes_of c.args.source.now in
    schedule_reached bytes c.args.command.now c.in-Ok.scripts.items (at_of c.in-Err-read_course.failure)
    (subst (λ (names : List (List ℕ)). AreCut bytes names c.in-Ok.scripts.items) c.files_of.ensures c.in-Ok.ensures.cut)
    (c.in-Err-read_course.ensures.fault two).1
    (c.in-Err-read_course.ensures.schedule (λ seven. let no_such : 2 ≡ 7 = sym two ∙ seven in cc))

pub returns-in-Err-clause-fault : goal.returns-in-Err-clause-fault
returns-in-Err-clause-fault g c two =
    let before = g.S.Scripts.faults c.args.source.now in
    let now = g.S.Scripts.faults c.read_scripts.new.source in
    let failed = g.S.Scripts.failed_at c.read_scripts.new.source in
    let at = at_of c.in-Err.failure in
    script_failed before now failed c.args.command.now at (c.in-Err.ensures.fault two) (c.in-Err.ensures.reached two).0
    (subst (λ (names : List (List ℕ)). at ≤ length names) c.files_of.ensures c.in-Err.ensures.within)
    (subst (λ (names : List (List ℕ)). (name : List ℕ) × (slice_get names (at - 1) ≡ Some name) × failed name) c.files_of.ensures (c.in-Err.ensures.failed two))

pub returns-in-Err-read_course-clause-fault : goal.returns-in-Err-read_course-clause-fault
returns-in-Err-read_course-clause-fault g c two =
    failed_since (g.S.Scripts.faults c.read_scripts.new.source) (g.S.Scripts.faults c.read_course.new.source) (g.S.Scripts.failed_at c.read_course.new.source)
    c.args.command.now (g.S.Scripts.faults c.args.source.now) (at_of c.in-Err-read_course.failure) c.in-Ok.ensures.uncounted
    (c.in-Err-read_course.ensures.schedule (λ seven. let no_such : 2 ≡ 7 = sym two ∙ seven in cc))
    (c.in-Err-read_course.ensures.fault two).0
