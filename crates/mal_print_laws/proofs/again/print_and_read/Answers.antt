use Rattle.std.proofs.Common.{◌≡◌, sym, ◌∙◌, subst, IsUtf8}
use Rattle.std.proofs.lemmas.Result.{IfOk-weaker}
use Rattle.mal_print.specs.Canon.{plan_text}
use Rattle.mal_text.specs.Reads.{ReadsAs}
use Rattle.mal_print_laws.proofs.AgainLemmas.{same_plan}
use Rattle.mal_print_laws.proofs.ReadAgain.{printed_reads_of, printed_is_text_of}
use Rattle.mal_print_laws.proofs.again.print_and_read.Goals as goal

pub read-requires : goal.read-requires
read-requires c =
    let plan = c.args.plan.now in
    let bytes : c.in-Ok.text.now ≡ plan_text plan = c.in-Ok.ensures.cases.0 ∙ c.deref.ensures.value ∙ c.in_ok-bytes.ensures in
    (plan, subst (λ text. ReadsAs text plan) (sym bytes) (printed_reads_of plan c.requires.checked c.known_values.ensures c.requires.days))

pub unreachable-requires : goal.unreachable-requires
unreachable-requires c =
    let plan = c.args.plan.now in
    let bytes : c.deref.result.now ≡ plan_text plan = c.deref.ensures.value ∙ c.in_ok-bytes.ensures in
    c.in-Err.ensures.cases.0 (subst IsUtf8 (sym bytes) (printed_is_text_of plan c.requires.checked c.known_values.ensures c.requires.days))

pub returns : goal.returns
returns c =
    let plan = c.args.plan.now in
    let bytes : c.in-Ok.text.now ≡ plan_text plan = c.in-Ok.ensures.cases.0 ∙ c.deref.ensures.value ∙ c.in_ok-bytes.ensures in
    let reads = subst (λ text. ReadsAs text plan) (sym bytes) (printed_reads_of plan c.requires.checked c.known_values.ensures c.requires.days) in
    IfOk-weaker c.read.result _ _ (λ again h. same_plan c.one_reading.ensures c.in-Ok.text.now plan reads again h) c.read.ensures
