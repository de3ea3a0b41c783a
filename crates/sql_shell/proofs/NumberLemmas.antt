-- Logs with short numbers, and the numbers of a few acts.
use Rattle.std.proofs.Common.{◌≡◌, ℕ, List, [], ◌∷◌, None, codes, refl}
use Rattle.std.specs.Fmt.{digits}
use Rattle.std.specs.List.{AllByRecursion}
use Rattle.pool_policy.specs.declared.options.Admitted.TheVariants.{NoRoom, Taken}
use Rattle.lineage_key.specs.declared.key.Key.{Key}
use Rattle.run_log.specs.declared.event.Event.{Event}
use Rattle.run_log.specs.declared.event.FoundLog.TheVariants.{Miss, Within}
use Rattle.run_log.specs.Events.{ActTree, Admits, EventTree, Looks, Writes, event_tree, log_tree}
use Rattle.answer_text.specs.Layout.{act_text}
use Rattle.sql_shell.specs.Numbers.{AreBelow, pool_numbers}

-- an event, as the code has it, has short numbers
abbrev pub IsShortEvent : Event → Type 0
IsShortEvent event = AreBelow (pool_numbers (event_tree event).act)

pub short_log : (log : List Event) → AllByRecursion IsShortEvent log → AllByRecursion (λ (event : EventTree). AreBelow (pool_numbers event.act)) (log_tree log)
short_log [] all = tt
short_log (event ∷ log) all = (all.0, short_log log all.1)

-- ## Examples

-- what is printed of an act, and its numbers
abbrev line_and_numbers : ActTree → List ℕ × List ℕ
line_and_numbers act = (act_text act, pool_numbers act)

seen_within : (key : Key) → line_and_numbers (Looks 3 key (Within 7)) ≡ (codes "look 3 within 7", 3 ∷ 7 ∷ [])
unfolding digits
seen_within key = refl

seen_missing : (key : Key) → line_and_numbers (Looks 3 key Miss) ≡ (codes "look 3 miss", 3 ∷ [])
unfolding digits
seen_missing key = refl

seen_taken : (key : Key) → line_and_numbers (Admits 2 key (Taken 5 64 1)) ≡ (codes "admit 2 taken 5 64 1", 2 ∷ 5 ∷ 64 ∷ 1 ∷ [])
unfolding digits
seen_taken key = refl

seen_no_room : (key : Key) → line_and_numbers (Admits 2 key (NoRoom 640)) ≡ (codes "admit 2 noroom 640", 2 ∷ 640 ∷ [])
unfolding digits
seen_no_room key = refl

seen_write : line_and_numbers (Writes None 0 3) ≡ (codes "write 0 3", [])
unfolding digits
seen_write = refl
