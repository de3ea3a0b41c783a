use Rattle.bat_core.specs.Objects.{values_of}
use Rattle.bat_kernel.proofs.FitLemmas.{select_fits}
use Rattle.bat_kernel.proofs.value.of_range.Goals as goal

pub range-requires : goal.range-requires
range-requires g c = select_fits (values_of c.args.args.now) c.requires.fit
