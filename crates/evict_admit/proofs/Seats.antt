-- What is kept of the rows once the state of one of them changes.
use Rattle.std.proofs.Common.{◌≡◌, ◌≢◌, ℕ, ◌+◌, ◌<◌, List, [], ◌∷◌, Bool, true, false, Option, inl, inr, length, refl, ap, sym, ◌∙◌, length-set, get_or, get_or-set_same, get_or-set_other, arith, slice_set}
use Rattle.std.specs.Prelude.{◌==◌, ◌||◌}
use Rattle.std.specs.List.{list_any}
use Rattle.std.proofs.lemmas.Bool.Decides.{Decides-eqb}
use Rattle.evict_admit.specs.declared.names.Known.{Known}
use Rattle.evict_admit.specs.declared.board.Left.{Left}
use Rattle.evict_admit.specs.Boards.{IsKnown, IsSeated, IsWhole, left_at, less_if, row_at, winner_at, may_go, seat_of}
use Rattle.evict_admit.proofs.Contests.{is_or_not}

pub reseated : (known : Known) (lefts : List Left) (winners winners' : List (Option ℕ)) (place : ℕ) (left : Left) (b : Bool) → IsKnown known → IsSeated known lefts winners → place < length known.rows.now
    → b ≡ may_go (row_at known.rows.now place) left → IsWhole known.contenders.now winners'
    → winner_at winners' (length known.contenders.now + place) ≡ seat_of b place
    → ((p : ℕ) → p ≢ place → winner_at winners' (length known.contenders.now + p) ≡ winner_at winners (length known.contenders.now + p))
    → IsSeated known (slice_set lefts place left) winners'
reseated known lefts winners winners' place left b is_known before low ready whole seat others = record {
  room = length-set lefts place left ∙ before.room;
  whole = whole;
  seats = λ p under. elim (is_or_not p place) [
    | inl here ↦ place_is p ∙ ap (λ q. winner_at winners' (length known.contenders.now + q)) here ∙ seat ∙ ap (λ r. seat_of r place) ready
        ∙ ap (λ l. seat_of (may_go (row_at known.rows.now place) l) place) (sym (get_or-set_same lefts place left _ (omega (arith, before.room))))
        ∙ ap (λ q. seat_of (may_go (row_at known.rows.now q) (left_at (slice_set lefts place left) q)) q) (sym here)
    | inr other ↦ place_is p ∙ others p other ∙ sym (ap (λ n. winner_at winners (n + p)) (sym is_known.same)) ∙ before.seats p under
        ∙ ap (λ l. seat_of (may_go (row_at known.rows.now p) l) p) (sym (get_or-set_other lefts place p left _ other))
  ];
}
  where
    place_is : (p : ℕ) → winner_at winners' (length known.rows.now + p) ≡ winner_at winners' (length known.contenders.now + p)
    place_is p = ap (λ n. winner_at winners' (n + p)) (sym is_known.same)

-- one less of two that aren't both, and then of the other
less_or : (a b : Bool) (left : Left) → (a ≡ true → b ≢ true) → less_if b (less_if a left) ≡ less_if (a || (b || false)) left
less_or true true left h = absurd (h refl refl)
less_or true false left h = ap (λ n. record left { children = n }) (omega arith)
less_or false true left h = ap (λ n. record left { children = n }) (omega arith)
less_or false false left h = ap (λ n. record left { children = n }) (omega arith)

-- the parents of a row that differ have a child less, one after the other
pub less_both : (parents : List ℕ) (id : ℕ) (left : Left) → length parents ≡ 2 → get_or parents 1 0 ≢ get_or parents 0 0
    → less_if (get_or parents 1 0 == id) (less_if (get_or parents 0 0 == id) left) ≡ less_if (list_any (λ parent. parent == id) parents) left
less_both [] id left two differ = absurd (omega arith)
less_both (a ∷ []) id left two differ = absurd (omega arith)
less_both (a ∷ b ∷ []) id left two differ = less_or (a == id) (b == id) left (λ e f. differ ((Decides-eqb b id).0 f ∙ sym ((Decides-eqb a id).0 e)))
less_both (a ∷ b ∷ c ∷ more) id left two differ = absurd (omega arith)

-- where both are the same, it has one child less
pub less_once : (parents : List ℕ) (id : ℕ) (left : Left) → length parents ≡ 2 → get_or parents 1 0 ≡ get_or parents 0 0
    → less_if (get_or parents 0 0 == id) left ≡ less_if (list_any (λ parent. parent == id) parents) left
less_once [] id left two same = absurd (omega arith)
less_once (a ∷ []) id left two same = absurd (omega arith)
less_once (a ∷ b ∷ []) id left two same = ap (λ t. less_if t left) (once (a == id) ∙ ap (λ x. (a == id) || ((x == id) || false)) (sym same))
  where
    once : (t : Bool) → t ≡ (t || (t || false))
    once true = refl
    once false = refl
less_once (a ∷ b ∷ c ∷ more) id left two same = absurd (omega arith)
