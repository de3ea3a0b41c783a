-- Stages and views: what follows from one of them, and no two passes with one ticket.
use Rattle.std.proofs.Common.{◌≡◌, ◌≢◌, ℕ, ◌≤◌, ◌⊎◌, List, [], ◌∷◌, ◌++◌, set, sym, refl, ap, subst, ◌∙◌, inl, inr, ⊎_elim, arith}
use mathlib.Core.Option.{some}
use lib.ListN.{get_elem?}
use Rattle.atomic_table.proofs.Lists.{at_set, set_else, at_longer}
use Rattle.turn_hall.specs.declared.view.PassStage.{PassStage}
use Rattle.turn_hall.specs.declared.view.PassStage.TheVariants.{Ended, Free, Waiting, Serving, Published}
use Rattle.turn_hall.specs.declared.view.View.{View}
use Rattle.turn_hall.specs.Views.{Holds, IsAtTurn, ticket_count}
use Rattle.turn_hall.proofs.Lists.{at_snoc, at_once}

pub ticket_count-le_one : (stage : PassStage) → ticket_count stage ≤ 1
ticket_count-le_one Ended = omega arith
ticket_count-le_one Free = omega arith
ticket_count-le_one (Waiting t) = omega arith
ticket_count-le_one (Serving t) = omega arith
ticket_count-le_one (Published t) = omega arith

-- a pass that has the turn holds a ticket
pub ticket_count-turn : (stage : PassStage) → IsAtTurn stage → ticket_count stage ≡ 1
ticket_count-turn Ended h = absurd h
ticket_count-turn Free h = absurd h
ticket_count-turn (Waiting t) h = refl
ticket_count-turn (Serving t) h = refl
ticket_count-turn (Published t) h = refl

pub ended_or_not : (stage : PassStage) → (stage ≡ Ended) ⊎ (stage ≢ Ended)
ended_or_not Ended = inl refl
ended_or_not Free = inr (λ h. cc)
ended_or_not (Waiting t) = inr (λ h. cc)
ended_or_not (Serving t) = inr (λ h. cc)
ended_or_not (Published t) = inr (λ h. cc)

pub turn_not_ended : (stage : PassStage) → IsAtTurn stage → stage ≢ Ended
turn_not_ended stage h e = let F : PassStage → Type 0 = IsAtTurn in subst F e h

pub free_not_turn : (stage : PassStage) → stage ≡ Free → IsAtTurn stage → ⊥
free_not_turn stage e h = let F : PassStage → Type 0 = IsAtTurn in subst F e h

pub free_not_ended : (stage : PassStage) → stage ≡ Free → stage ≢ Ended
free_not_ended stage e h = cc

pub waiting_not_ended : (stage : PassStage) (t : ℕ) → stage ≡ Waiting t → stage ≢ Ended
waiting_not_ended stage t e h = cc

pub waiting_not_turn : (stage : PassStage) (t : ℕ) → stage ≡ Waiting t → IsAtTurn stage → ⊥
waiting_not_turn stage t e h = let F : PassStage → Type 0 = IsAtTurn in subst F e h

pub waiting_holds : (stage : PassStage) (t : ℕ) → stage ≡ Waiting t → Holds t stage
waiting_holds stage t e = let F : PassStage → Type 0 = Holds t in subst F (sym e) refl

pub serving_at_turn : (stage : PassStage) (t : ℕ) → stage ≡ Serving t → IsAtTurn stage
serving_at_turn stage t e = let F : PassStage → Type 0 = IsAtTurn in subst F (sym e) tt

-- a pass holds one ticket
pub holds_once : (stage : PassStage) (t u : ℕ) → Holds t stage → Holds u stage → t ≡ u
holds_once Ended t u p q = absurd p
holds_once Free t u p q = absurd p
holds_once (Waiting s) t u p q = sym p ∙ q
holds_once (Serving s) t u p q = sym p ∙ q
holds_once (Published s) t u p q = sym p ∙ q

module _ {E : Type 0} where
  -- no two passes hold one ticket
  abbrev pub IsApart : List (View E) → Type 0
  IsApart views = (j k : ℕ) (v w : View E) → get_elem? views j ≡ some v → get_elem? views k ≡ some w → (t : ℕ) → Holds t v.stage → Holds t w.stage → j ≡ k

  pub apart_set : (l : List (View E)) (i : ℕ) (w : View E) → IsApart l
      → ((k : ℕ) (u : View E) → k ≢ i → get_elem? l k ≡ some u → (t : ℕ) → Holds t u.stage → Holds t w.stage → ⊥)
      → IsApart (set l i w)
  apart_set l i w old new j k a b at_j at_k t p q =
      let H : View E → Type 0 = λ v. Holds t v.stage in
      ⊎_elim
      (λ x. ⊎_elim
      (λ y. x.0 ∙ sym y.0)
      (λ y. absurd (new k b y.0 y.1 t q (subst H (sym x.1) p)))
      (at_set l i k w b at_k))
      (λ x. ⊎_elim
      (λ y. absurd (new j a x.0 x.1 t p (subst H (sym y.1) q)))
      (λ y. old j k a b x.1 y.1 t p q)
      (at_set l i k w b at_k))
      (at_set l i j w a at_j)

  -- a pass that is added holds no ticket
  pub apart_snoc : (l : List (View E)) (w : View E) → w.stage ≡ Free → IsApart l → IsApart (l ++ w ∷ [])
  apart_snoc l w free old j k a b at_j at_k t p q =
      let none : (u : View E) → w ≡ u → Holds t u.stage → ⊥ = λ u same h. (let F : PassStage → Type 0 = Holds t in subst F (ap (λ (x : View E). x.stage) (sym same) ∙ free) h) in
      ⊎_elim
      (λ x. ⊎_elim (λ y. old j k a b x y t p q) (λ y. absurd (none b y.1 q)) (at_snoc l w k b at_k))
      (λ x. absurd (none a x.1 p))
      (at_snoc l w j a at_j)

  -- a pass that has the turn still has it, where another pass steps
  pub turn_set : (l : List (View E)) (i : ℕ) (v w : View E) → get_elem? l i ≡ some v → (IsAtTurn v.stage → ⊥)
      → (k : ℕ) × (u : View E) × (get_elem? l k ≡ some u) × IsAtTurn u.stage
      → (k : ℕ) × (u : View E) × (get_elem? (set l i w) k ≡ some u) × IsAtTurn u.stage
  turn_set l i v w at none h =
      let other : h.0 ≢ i = λ e. none (let F : View E → Type 0 = λ x. IsAtTurn x.stage in subst F (at_once l i h.1 v (subst (λ j. get_elem? l j ≡ some h.1) e h.2) at) h.3) in
      (h.0, h.1, set_else l i h.0 w other ∙ h.2, h.3)

  pub turn_snoc : (l : List (View E)) (w : View E)
      → (k : ℕ) × (u : View E) × (get_elem? l k ≡ some u) × IsAtTurn u.stage
      → (k : ℕ) × (u : View E) × (get_elem? (l ++ w ∷ []) k ≡ some u) × IsAtTurn u.stage
  turn_snoc l w h = (h.0, h.1, at_longer l (w ∷ []) h.0 h.1 h.2, h.3)
