-- What a pass shows: its hall, its number, what it has seen and its own entries, and for the first pass what became of the others.
use Rattle.std.specs.Prelude.{◌≡◌, ℕ, ◌%◌, ◌^◌, List, [], ◌∷◌, ◌++◌, Some, None}
use Rattle.turn_hall.specs.declared.hall.Hall.{Hall}
use Rattle.turn_hall.specs.declared.hall.Pass.{Pass}
use Rattle.turn_hall.specs.declared.view.PassStage.TheVariants.{Free, Waiting, Serving}
use Rattle.turn_hall.specs.Views.{AllJoined, entries_kept}

module _ {V E : Type 0} where
  -- the pass is of this hall
  abbrev pub IsPassOf : Hall V E → Pass V E → Type 0
  IsPassOf hall pass = pass.seat.table_id ≡ hall.table.shared.table_id

  -- the number of the pass
  abbrev pub pass_number : Pass V E → ℕ
  pass_number pass = pass.seat.me.0.number

  -- what the pass has seen of the list
  abbrev pub seen_by : Pass V E → List E
  seen_by pass = pass.seat.me.0.seen

  -- the pass's own entries, in order
  abbrev pub own_entries : Pass V E → List E
  own_entries pass = pass.seat.me.0.own

  -- how many passes were split from the first pass
  abbrev pub split_count : Pass V E → ℕ
  split_count pass = pass.seat.me.0.splits

  -- the numbers of the passes that were joined to the first pass, with their own entries, the last one first
  abbrev pub joined_passes : Pass V E → List (ℕ × List E)
  joined_passes pass = pass.seat.me.0.joined

  -- the pass has neither the turn nor a ticket
  abbrev pub IsFree : Pass V E → Type 0
  IsFree pass = (pass.seat.me.0.stage ≡ Free) × (pass.seat.me.1 ≡ [])

  -- the pass has the turn
  abbrev pub HasTurn : Pass V E → Type 0
  HasTurn pass = (t : ℕ) × (pass.seat.me.0.stage ≡ Serving t) × (pass.seat.me.1 ≡ (0, None) ∷ [])

  -- the pass has its number, its splits and its joined passes as before
  pub record KeepsPlace (before after : Pass V E) : Type 0 where
    pub number : pass_number after ≡ pass_number before
    pub splits : split_count after ≡ split_count before
    pub joined : joined_passes after ≡ joined_passes before

  -- the list has exactly one entry more than the pass has seen, which is last and names the pass
  abbrev pub AddsOne : (E → ℕ) → Pass V E → List E → Type 0
  AddsOne author pass list = (e : E) × (list ≡ seen_by pass ++ e ∷ []) × (author e ≡ pass_number pass)

  -- each pass that was split from the first pass was joined to it
  abbrev pub HasAllJoined : Pass V E → Type 0
  HasAllJoined pass = AllJoined pass.seat.me.0

  -- the entries that the first pass has under a number: its own, or those of the pass that was joined
  abbrev pub entries_under : Pass V E → ℕ → List E
  entries_under pass number = entries_kept pass.seat.me.0 number

  -- the pass waits with a ticket that is this number in the word
  abbrev pub Waits : ℕ → Pass V E → Type 0
  Waits ticket pass = (t : ℕ) × (t % 2 ^ 64 ≡ ticket) × (pass.seat.me.0.stage ≡ Waiting t) × (pass.seat.me.1 ≡ [])

  -- the pass has the slot, with a value in it that stands for what the pass has seen
  abbrev pub HasValue : (V → List E) → Pass V E → Type 0
  HasValue entries pass = (x : V) × (pass.seat.me.1 ≡ (0, Some x) ∷ []) × (entries x ≡ seen_by pass)
