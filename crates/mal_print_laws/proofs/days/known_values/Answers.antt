use Rattle.std.proofs.Common.{◌∙◌}
use Rattle.std.proofs.lemmas.Bool.{and_from}
use Rattle.mal_print_laws.specs.PrintedReads as printed
use Rattle.mal_print_laws.proofs.days.known_values.Goals as goal

pub returns : goal.returns
returns c =
    let plan = c.args.plan.now in
    and_from (printed.each_arg printed.fits_kind plan) (printed.counts_fit plan) (c.args_of_plan_have_text.ensures.fits (c.args_of_plan_have_text.ensures.days ∙ c.requires)) c.known_counts.ensures
