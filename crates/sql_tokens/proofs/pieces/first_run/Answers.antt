use Rattle.std.proofs.Common.{◌≡◌, ◌-◌, ap, sym, ◌∙◌, arith}
use Rattle.std.proofs.lemmas.Str.{IsCharBoundary-before_ascii, IsCharBoundary-after_ascii}
use Rattle.sql_tree.specs.declared.inside.Inside.TheVariants.{Outside}
use Rattle.read_laws.specs.TokenReader.{run_length}
use Rattle.read_laws.proofs.PieceLemmas.{run_first, run_whole}
use Rattle.sql_tokens.proofs.pieces.first_run.Goals as goal

pub range-requires-clause-end_boundary : goal.range-requires-clause-end_boundary
range-requires-clause-end_boundary c =
    let run = run_first c.args.script.now c.in-Some.length (ap (run_length Outside 0) (sym c.as_bytes.ensures.value) ∙ sym c.in-Some.ensures) in
    IsCharBoundary-before_ascii c.args.script.now c.in-Some.length run.within (omega (arith, run.ended))

pub range_from-requires : goal.range_from-requires
range_from-requires c =
    let run = run_first c.args.script.now c.in-Some.length (ap (run_length Outside 0) (sym c.as_bytes.ensures.value) ∙ sym c.in-Some.ensures) in
    λ _. IsCharBoundary-after_ascii c.args.script.now c.in-Some.length c.utf8.script run.within (omega (arith, run.ended))

pub returns-in-Some-clause-cut : goal.returns-in-Some-clause-cut
returns-in-Some-clause-cut c =
    let run = run_first c.args.script.now c.in-Some.length (ap (run_length Outside 0) (sym c.as_bytes.ensures.value) ∙ sym c.in-Some.ensures) in
    let whole : c.in-Some.length - 0 ≡ c.in-Some.length = omega arith in
    rw (c.range.ensures.value, c.range_from.ensures.value, whole) run.runs

pub returns-in-None-clause-whole : goal.returns-in-None-clause-whole
returns-in-None-clause-whole c = run_whole c.args.script.now Outside 0 (ap (run_length Outside 0) (sym c.as_bytes.ensures.value) ∙ sym c.in-None.ensures)
