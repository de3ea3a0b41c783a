-- The steps at what the calls hand them: a seat's knowledge that is known by an equation.
use Rattle.std.proofs.Common.{◌≡◌, ℕ, ◌+◌, ◌%◌, List, ◌∷◌, sym, subst}
use Rattle.std.specs.Prelude.{Option, Some}
use mathlib.Core.Option.{some}
use lib.ListN.{get_elem?}
use Rattle.atomic_table.specs.Table.{Me, Allows, Final, Seen}
use Rattle.turn_hall.specs.declared.view.PassStage.TheVariants.{Free}
use Rattle.turn_hall.specs.declared.view.View.{View}
use Rattle.turn_hall.specs.Entries.{StartsWith, entries_by}
use Rattle.turn_hall.specs.Views.{IsAtTurn, AllJoined, entries_kept}
use Rattle.turn_hall.specs.Rule.{IsOrderly}
use Rattle.turn_hall.specs.Steps.{PassesOn}
use Rattle.turn_hall.proofs.Lists.{at_once}
use Rattle.turn_hall.proofs.Keeps.{passes_on}
use Rattle.turn_hall.proofs.Lifecycle.{closes}

module _ {V E : Type 0} (entries : V → List E) (author : E → ℕ) where
  -- the turn passes on, where the slot has a value that stands for what the pass has seen
  pub passes_on_at : (n id : ℕ) (m : Me (Option V) (View E)) (x : V) (held : List (ℕ × Option V)) → m.1 ≡ (0, Some x) ∷ held
      → IsAtTurn m.0.stage → n ≡ 1 → entries x ≡ m.0.seen
      → Allows (IsOrderly entries author) n id m 2 (λ y. (y + 1) % 18446744073709551616) (λ _. PassesOn m)
  passes_on_at n id m x held slot at_turn slots is =
      subst (λ (c : List (ℕ × Option V)). Allows (IsOrderly entries author) n id (m.0, c) 2 (λ y. (y + 1) % 18446744073709551616) (λ _. PassesOn (m.0, c)))
      (sym slot) (passes_on entries author n id m.0 x held at_turn slots is)

  -- the value in the slot of a hall that is closed stands for a list that begins with what the first pass has seen, and has under each number what that pass has
  pub closed_value : (id : ℕ) (v : View E) (ws : List ℕ) (xs : List (Option V)) → v.stage ≡ Free → v.number ≡ 0 → AllJoined v
      → Final (Seen (IsOrderly entries author) id v) ws xs → (r : Option V) → get_elem? xs 0 ≡ some r
      → (x : V) × (r ≡ Some x) × StartsWith (entries x) v.seen × ((k : ℕ) → entries_by author k (entries x) ≡ entries_kept v k)
  closed_value id v ws xs free first all final r at =
      let end = closes entries author id v ws xs free first all final in
      (end.value, at_once xs 0 r (Some end.value) at end.slot, end.seen, end.each)
