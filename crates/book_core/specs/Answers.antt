-- The result of a look, as it is logged.
use Rattle.recycle_pool.specs.declared.found.Found.{Found}
use Rattle.recycle_pool.specs.declared.found.Found.TheVariants as found
use Rattle.run_log.specs.declared.event.FoundLog.{FoundLog}
use Rattle.run_log.specs.declared.event.FoundLog.TheVariants.{Exact, Within, Across, Miss}

abbrev pub looked_in : Found → FoundLog
looked_in (found.Exact id value) = Exact id
looked_in (found.Within id value) = Within id
looked_in (found.Across pieces) = Across pieces
looked_in found.Miss = Miss
