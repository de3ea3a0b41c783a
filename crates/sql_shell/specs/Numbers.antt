-- The numbers that are printed of looks, admissions and totals, and when they are short.
use Rattle.std.specs.Prelude.{ℕ, ◌<◌, ◌^◌, List, [], ◌∷◌}
use Rattle.std.specs.List.{AllByRecursion}
use Rattle.pool_policy.specs.declared.options.Admitted.{Admitted}
use Rattle.pool_policy.specs.declared.options.Admitted.TheVariants as admitted
use Rattle.run_log.specs.declared.event.FoundLog.{FoundLog}
use Rattle.run_log.specs.declared.event.FoundLog.TheVariants as looked
use Rattle.run_log.specs.declared.event.Totals.{Totals}
use Rattle.run_log.specs.Events.{ActTree, Looks, Admits, EventTree}

-- the numbers of a look's answer
abbrev pub looked_numbers : FoundLog → List ℕ
looked_numbers (looked.Exact id) = id ∷ []
looked_numbers (looked.Within id) = id ∷ []
looked_numbers (looked.Across pieces) = pieces ∷ []
looked_numbers looked.Miss = []

-- the numbers of an admission's answer
abbrev pub admitted_numbers : Admitted → List ℕ
admitted_numbers (admitted.Taken id bytes gone) = id ∷ bytes ∷ gone ∷ []
admitted_numbers (admitted.There id) = id ∷ []
admitted_numbers (admitted.Stale version) = version ∷ []
admitted_numbers (admitted.Orphan id) = id ∷ []
admitted_numbers (admitted.NoCredit shape) = shape ∷ []
admitted_numbers (admitted.NoRoom bytes) = bytes ∷ []

-- the numbers of a look or an admission; other acts have none here
abbrev pub pool_numbers : ActTree → List ℕ
pool_numbers (Looks instr key found) = instr ∷ looked_numbers found
pool_numbers (Admits instr key answer) = instr ∷ admitted_numbers answer
pool_numbers _ = []

-- the totals but for the work
abbrev pub count_numbers : Totals → List ℕ
count_numbers t = t.entries ∷ t.bytes ∷ t.peak ∷ t.looks ∷ t.exact ∷ t.within ∷ t.across ∷ t.miss ∷ t.taken ∷ t.there ∷ t.stale ∷ t.orphan ∷ t.nocredit ∷ t.noroom ∷ t.evicted ∷ t.dropped ∷ t.carried ∷ t.events ∷ []

-- each of these numbers is below 2^64
abbrev pub AreBelow : List ℕ → Type 0
AreBelow numbers = AllByRecursion (λ n. n < 2 ^ 64) numbers

-- the numbers that a log and its totals print of the pool are below 2^64, and the work is below 2^128
pub record AreShort (log : List EventTree) (totals : Totals) : Type 0 where
  pub pool : AllByRecursion (λ (event : EventTree). AreBelow (pool_numbers event.act)) log
  pub counts : AreBelow (count_numbers totals)
  pub work : totals.work < 2 ^ 128
