use Rattle.std.proofs.Common.{sym, ◌∙◌}
use Rattle.std.proofs.lemmas.Bool.{and_from}
use Rattle.mal_print_laws.specs.PrintedReads as printed
use Rattle.mal_print_laws.proofs.ReadAgain.{printed_reads_of}
use Rattle.mal_print_laws.proofs.days.days_have_text.Goals as goal

pub returns-clause-reads : goal.returns-clause-reads
returns-clause-reads c dated none =
    let plan = c.args.plan.now in
    let fit = and_from (printed.each_arg printed.fits_kind plan) (printed.counts_fit plan) (c.args_of_plan_have_text.ensures.fits dated) c.known_counts.ensures in
    printed_reads_of plan none fit (sym c.args_of_plan_have_text.ensures.days ∙ dated)
