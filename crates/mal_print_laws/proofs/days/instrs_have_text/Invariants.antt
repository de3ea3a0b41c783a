use Rattle.std.proofs.Common.{◌≡◌, length}
use Rattle.std.specs.List.{list_all}
use Rattle.cell_core.specs.declared.operator.Instr.{Instr as InstrSeen}
use Rattle.mal_print_laws.specs.PrintedReads as printed
use Rattle.mal_print_laws.proofs.days.instrs_have_text.Given as goal

-- the answer for the rest is the answer for all
abbrev pub invariant-instrs : goal.invariant-instrs
invariant-instrs l = record {
  days : list_all (λ (i : InstrSeen). list_all printed.is_dated i.args) l.rest ≡ list_all (λ (i : InstrSeen). list_all printed.is_dated i.args) l.instrs;
  fits : list_all (λ (i : InstrSeen). list_all printed.fits_kind i.args) l.rest ≡ list_all (λ (i : InstrSeen). list_all printed.fits_kind i.args) l.instrs;
}

abbrev pub decreases-instrs : goal.decreases-instrs
decreases-instrs l = length l.rest
