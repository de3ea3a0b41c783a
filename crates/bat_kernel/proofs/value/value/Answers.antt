use Rattle.std.proofs.Common.{sym, ◌∙◌}
use Rattle.bat_core.specs.Objects.{values_of}
use Rattle.bat_kernel.proofs.FitLemmas.{two_cells_fit}
use Rattle.bat_kernel.proofs.value.value.Goals as goal

pub two_values-requires : goal.two_values-requires
two_values-requires g c = two_cells_fit (values_of c.args.args.now) c.args.op (sym c.form.ensures ∙ c.in-TwoCells.is) c.requires.fit
