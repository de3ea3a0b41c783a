-- What is printed of a plan reads as that plan.
use Rattle.std.proofs.Common.{[]}
use Rattle.mal_print_laws.specs.PrintedReads.{PrintedReads, PrintedIsText}
use Rattle.mal_print_laws.proofs.CanonBlocks.{block_of}
use Rattle.mal_print_laws.proofs.NamedLemmas.{named_plan}
use Rattle.mal_print_laws.proofs.PlanPrinted.{plan_printed}
use Rattle.mal_print_laws.proofs.StandsLemmas.{all_known, plan_stands}
use Rattle.mal_print_laws.proofs.Utf8Lemmas.{plan_utf8}

pub printed_reads_of : PrintedReads
printed_reads_of plan none fit dated =
    let named = named_plan plan none fit dated in
    record {
      derived = record {
        block = block_of plan;
        derived = record { tokens = plan_printed plan named; stands = plan_stands plan named };
        unknown_is = all_known [] plan.instrs;
      };
      no_fault = none;
    }

pub printed_is_text_of : PrintedIsText
printed_is_text_of plan none fit dated = plan_utf8 plan (named_plan plan none fit dated)
