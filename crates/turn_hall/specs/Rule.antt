-- The rule of the hall: what holds of its words, its slot and all views, between any two steps.
use Rattle.std.specs.Prelude.{◌≡◌, ◌≢◌, ℕ, ◌+◌, ◌%◌, ◌^◌, ◌<◌, ◌≤◌, ◌⊎◌, List, [], ◌∷◌, length, sum_by, Option, Some, None}
use mathlib.Core.Option.{some}
use lib.ListN.{get_elem?}
use Rattle.atomic_table.specs.Table.{State}
use Rattle.turn_hall.specs.declared.view.PassStage.TheVariants.{Ended}
use Rattle.turn_hall.specs.declared.view.View.{View}
use Rattle.turn_hall.specs.Entries.{StartsWith, entries_by, kept_under}
use Rattle.turn_hall.specs.Views.{Holds, IsAtTurn, ticket_count}

-- a pass that isn't joined: its number is its place, and the entries that name it are its own. The first pass knows the splits and the joined passes
pub record IsLive {E : Type 0} (author : E → ℕ) (log : List E) (splits : ℕ) (joined : List (ℕ × List E)) (place : ℕ) (v : View E) : Type 0 where
  pub number : v.number ≡ place
  pub own : entries_by author place log ≡ v.own
  pub not_joined : kept_under place joined ≡ None
  pub first : place ≡ 0 → (v.splits ≡ splits) × (v.joined ≡ joined)

-- the rule
pub record IsOrderly {V E : Type 0} (entries : V → List E) (author : E → ℕ) (s : State (Option V) (View E)) : Type 0 where
  pub log : List E
  pub serving : ℕ
  pub drawn : ℕ
  pub splits : ℕ
  pub joined : List (ℕ × List E)
  -- the words are the count of entries, the next ticket, and the ticket that is served
  pub words : s.words ≡ length log ∷ drawn % 2 ^ 64 ∷ serving % 2 ^ 64 ∷ []
  pub views : length s.views ≡ splits + 1
  pub few : splits < 2 ^ 32
  -- as many tickets are out as were drawn and not yet served, each from `serving` on and below `drawn`, and no two passes hold one
  pub queue : sum_by (λ v. ticket_count v.stage) s.views + serving ≡ drawn
  pub tickets : (k : ℕ) (v : View E) → get_elem? s.views k ≡ some v → (t : ℕ) → Holds t v.stage → (serving ≤ t) × (t < drawn)
  pub apart : (j k : ℕ) (v w : View E) → get_elem? s.views j ≡ some v → get_elem? s.views k ≡ some w → (t : ℕ) → Holds t v.stage → Holds t w.stage → j ≡ k
  -- the pass that has the turn holds the ticket that is served, and has seen the whole list
  pub turn : (k : ℕ) (v : View E) → get_elem? s.views k ≡ some v → IsAtTurn v.stage → Holds serving v.stage × (v.seen ≡ log)
  -- the list begins with what each pass has seen, and with what its `told` has
  pub seen : (k : ℕ) (v : View E) → get_elem? s.views k ≡ some v → StartsWith log v.seen
  pub told : (k : ℕ) (v : View E) → get_elem? s.views k ≡ some v → StartsWith log v.told
  -- each pass is live, or its number and entries are kept with the first pass; a number above the splits has no entry
  pub live : (k : ℕ) (v : View E) → get_elem? s.views k ≡ some v → v.stage ≢ Ended → IsLive author log splits joined k v
  pub ended : (k : ℕ) (v : View E) → get_elem? s.views k ≡ some v → v.stage ≡ Ended → (kept_under k joined ≡ Some (entries_by author k log)) × (0 < k)
  pub beyond : (k : ℕ) → splits < k → (entries_by author k log ≡ []) × (kept_under k joined ≡ None)
  -- the slot has a value that stands for the list, or some pass has the turn
  pub slot : ((x : V) × (s.homes ≡ some (Some x) ∷ []) × (entries x ≡ log)) ⊎ ((k : ℕ) × (v : View E) × (get_elem? s.views k ≡ some v) × IsAtTurn v.stage)
