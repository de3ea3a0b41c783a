-- The view of a pass, and how the kinds of step change it.
use Rattle.std.specs.Prelude.{◌≡◌, ℕ, ◌+◌, ◌<◌, ◌≤◌, List, [], ◌∷◌, IsSome, ◌==◌, unwrap_or, if◌then◌else◌}
use Rattle.turn_hall.specs.declared.view.PassStage.{PassStage}
use Rattle.turn_hall.specs.declared.view.PassStage.TheVariants.{Ended, Free, Waiting, Serving, Published}
use Rattle.turn_hall.specs.declared.view.View.{View}
use Rattle.turn_hall.specs.Entries.{kept_under}

-- the pass holds this ticket
abbrev pub Holds : ℕ → PassStage → Type 0
Holds t Ended = ⊥
Holds t Free = ⊥
Holds t (Waiting u) = u ≡ t
Holds t (Serving u) = u ≡ t
Holds t (Published u) = u ≡ t

-- the pass has the turn
abbrev pub IsAtTurn : PassStage → Type 0
IsAtTurn Ended = ⊥
IsAtTurn Free = ⊥
IsAtTurn (Waiting u) = ⊥
IsAtTurn (Serving u) = Unit {0}
IsAtTurn (Published u) = Unit {0}

-- the ticket that the pass holds, and 0 where it holds none
abbrev pub ticket_of : PassStage → ℕ
ticket_of Ended = 0
ticket_of Free = 0
ticket_of (Waiting u) = u
ticket_of (Serving u) = u
ticket_of (Published u) = u

-- how many tickets the pass holds
abbrev pub ticket_count : PassStage → ℕ
ticket_count Ended = 0
ticket_count Free = 0
ticket_count (Waiting u) = 1
ticket_count (Serving u) = 1
ticket_count (Published u) = 1

module _ {E : Type 0} where
  -- the view at another place in the queue
  abbrev pub at_stage : PassStage → View E → View E
  at_stage stage v = record v { stage = stage }

  -- the first pass of a hall
  abbrev pub first_view : View E
  first_view = record { number = 0; stage = Free; seen = []; own = []; splits = 0; joined = []; told = [] }

  -- the first pass, after one more was split from it
  abbrev pub one_more : View E → View E
  one_more v = record v { splits = v.splits + 1 }

  -- the pass that was split from it: it has seen as much, and owns no entry
  abbrev pub newcomer : View E → View E
  newcomer v = record { number = v.splits + 1; stage = Free; seen = v.seen; own = []; splits = 0; joined = []; told = [] }

  -- the first pass, after another was joined to it: it keeps the other's number and own entries, and its `told` has what the other had seen
  abbrev pub joined_with : View E → View E → View E
  joined_with v w = record v { joined = (w.number, w.own) ∷ v.joined; told = w.seen }

  -- a pass that was joined
  abbrev pub ended_view : View E
  ended_view = record { number = 0; stage = Ended; seen = []; own = []; splits = 0; joined = []; told = [] }

  -- each pass that was split from the first one was joined to it
  abbrev pub AllJoined : View E → Type 0
  AllJoined v = (k : ℕ) → 0 < k → k ≤ v.splits → IsSome (kept_under k v.joined)

  -- the entries that the first pass has under a number: its own, or those of the pass that was joined
  abbrev pub entries_kept : View E → ℕ → List E
  entries_kept v k = if k == 0 then v.own else unwrap_or (kept_under k v.joined) []
