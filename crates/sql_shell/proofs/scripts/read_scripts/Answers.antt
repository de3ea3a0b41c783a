use Rattle.std.proofs.Common.{◌≡◌, ℕ, ◌+◌, ◌-◌, List, take, Some, sym, subst, ◌∙◌, arith}
use Rattle.std.specs.Prelude.{slice_get}
use Rattle.sql_shell.specs.Failures.{at_of}
use Rattle.sql_shell.specs.Scripts.{AreCut, CanBeRun}
use Rattle.sql_shell.specs.declared.scripts.CutScript.{CutScript}
use Rattle.sql_shell.proofs.ScriptLemmas.{unfit_here, cut_next, can_be_run, name_at, place_by, place_at_fault}
use Rattle.sql_shell.proofs.scripts.read_scripts.Goals as goal

pub returns-in-Err-clause-unfit : goal.returns-in-Err-clause-unfit
returns-in-Err-clause-unfit g c fits =
    let found = unfit_here (g.S.Scripts.bytes_of c.args.source.now) (g.S.Scripts.bytes_of c.files.source) c.files.invariant.1 c.args.names.now c.files.i c.index-names-i.result c.files-test.true c.index-names-i.is c.files.read.items c.files.invariant.0
    c.in-Err.failure fits (c.in-Err.ensures.unfit fits) (place_by c.in-Err.failure (c.files.i + 1) fits c.in-Err.ensures.place) in
    (found.texts, found.told, found.first)

pub returns-in-Err-clause-reached : goal.returns-in-Err-clause-reached
returns-in-Err-clause-reached g c two =
    let at : at_of c.in-Err.failure ≡ c.files.i + 1 = place_at_fault c.in-Err.failure (c.files.i + 1) two c.in-Err.ensures.place in
    let back : at_of c.in-Err.failure - 1 ≡ c.files.i = omega (arith, at) in
    let P : ℕ → Type 0 = λ n. CanBeRun (g.S.Scripts.bytes_of c.args.source.now) (take n c.args.names.now) in
    (omega (arith, at), subst P (sym back) (can_be_run (g.S.Scripts.bytes_of c.args.source.now) (take c.files.i c.args.names.now) c.files.read.items c.files.invariant.0))

pub returns-in-Err-clause-failed : goal.returns-in-Err-clause-failed
returns-in-Err-clause-failed g c two =
    let name = c.index-names-i.result in
    let at : at_of c.in-Err.failure ≡ c.files.i + 1 = place_at_fault c.in-Err.failure (c.files.i + 1) two c.in-Err.ensures.place in
    let back : at_of c.in-Err.failure - 1 ≡ c.files.i = omega (arith, at) in (
      name,
      subst (λ n. slice_get c.args.names.now n ≡ Some name) (sym back) (name_at c.args.names.now c.files.i name c.files-test.true c.index-names-i.is),
      c.in-Err.ensures.failed two,
    )

pub files-preserved : goal.files-preserved
files-preserved g c =
    let P : List CutScript → Type 0 = λ ss. AreCut (g.S.Scripts.bytes_of c.args.source.now) (take (c.files.i + 1) c.args.names.now) ss in (
      subst P (sym c.in_ok-push-in-Ok.ensures.items)
          (cut_next (g.S.Scripts.bytes_of c.args.source.now) (g.S.Scripts.bytes_of c.files.source) c.files.invariant.1 c.args.names.now c.files.i c.index-names-i.result c.files-test.true c.index-names-i.is c.files.read.items c.files.invariant.0 _ c.in-Ok.ensures.cut),
      (λ other. c.in-Ok.ensures.same other ∙ c.files.invariant.1 other),
      c.in-Ok.ensures.uncounted ∙ c.files.invariant.2,
    )
