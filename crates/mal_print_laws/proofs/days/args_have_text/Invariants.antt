use Rattle.std.proofs.Common.{◌≡◌, length}
use Rattle.std.specs.List.{list_all}
use Rattle.mal_print_laws.specs.PrintedReads as printed
use Rattle.mal_print_laws.proofs.days.args_have_text.Given as goal

-- the answer for the rest is the answer for all
abbrev pub invariant-args-2 : goal.invariant-args-2
invariant-args-2 l = record {
  days : list_all printed.is_dated l.rest ≡ list_all printed.is_dated l.args;
  fits : list_all printed.fits_kind l.rest ≡ list_all printed.fits_kind l.args;
}

abbrev pub decreases-args-2 : goal.decreases-args-2
decreases-args-2 l = length l.rest
