-- What a pass learns by each step on a word. Its knowledge is its view, and the slot while it has the turn.
use Rattle.std.specs.Prelude.{◌≡◌, ◌≢◌, ℕ, ◌%◌, ◌^◌, List, [], ◌∷◌, ◌++◌, length, drop, Option, Some, None}
use Rattle.atomic_table.specs.Table.{Me, rest}
use Rattle.turn_hall.specs.declared.view.PassStage.TheVariants.{Free, Waiting, Serving, Published}
use Rattle.turn_hall.specs.declared.view.View.{View}
use Rattle.turn_hall.specs.Entries.{StartsWith, entries_by, longer}
use Rattle.turn_hall.specs.Views.{ticket_of, at_stage}

-- the list of the value in the slot that the pass holds
abbrev pub slot_entries : {V E : Type 0} → (V → List E) → List (ℕ × Option V) → List E
slot_entries entries [] = []
slot_entries entries ((k, None) ∷ held) = []
slot_entries entries ((k, Some x) ∷ held) = entries x

-- at its ticket a pass has the turn and the slot, with a value whose list goes on from what the pass had seen, and whose entries by the pass are its own
pub record Begins {V E : Type 0} (entries : V → List E) (author : E → ℕ) (before after : Me (Option V) (View E)) : Type 0 where
  pub value : V
  pub seen : StartsWith (entries value) before.0.seen
  pub own : entries_by author before.0.number (entries value) ≡ before.0.own
  pub becomes : after ≡ (record before.0 { stage = Serving (ticket_of before.0.stage); seen = entries value }, (0, Some value) ∷ before.1)

module _ {V E : Type 0} where
  -- it waits with the ticket that it found
  abbrev pub Draws : Me (Option V) (View E) → ℕ → Me (Option V) (View E) → Type 0
  Draws before found after = (t : ℕ) × (t % 2 ^ 64 ≡ found) × (after ≡ (at_stage (Waiting t) before.0, before.1))

  -- its turn begins where its ticket is served, and else nothing changes
  abbrev pub Watches : (V → List E) → (E → ℕ) → Me (Option V) (View E) → ℕ → Me (Option V) (View E) → Type 0
  Watches entries author before found after =
      (found ≡ ticket_of before.0.stage % 2 ^ 64 → Begins entries author before after)
      × (found ≢ ticket_of before.0.stage % 2 ^ 64 → after ≡ before)

  -- it has seen the list of the value in the slot, and owns what that has beyond what it had seen
  abbrev pub Publishes : (V → List E) → Me (Option V) (View E) → Me (Option V) (View E) → Type 0
  Publishes entries before after =
      let list = slot_entries entries before.1 in
      after ≡ (record before.0 { stage = Published (ticket_of before.0.stage); seen = list; own = before.0.own ++ drop (length before.0.seen) list }, before.1)

  -- it has no ticket, and returned the slot
  abbrev pub PassesOn : Me (Option V) (View E) → Me (Option V) (View E) → Type 0
  PassesOn before after = after ≡ (at_stage Free before.0, rest before.1)

  -- it has seen the longer of what it had seen and what its `told` has, and that begins with both
  abbrev pub Compares : Me (Option V) (View E) → Me (Option V) (View E) → Type 0
  Compares before after =
      let list = longer before.0.seen before.0.told in
      StartsWith list before.0.seen × StartsWith list before.0.told × (after ≡ (record before.0 { seen = list }, before.1))
