-- The rule's order of rows, and the least of them.
use Rattle.std.proofs.Common.{◌≡◌, ◌<◌, List, [], ◌∷◌, Bool, true, false, true≢false, Option, Some, None, ◌⊎◌, inl, inr, map, refl, ap, sym, ◌∙◌, nat_eq}
use Rattle.std.specs.Prelude.{if◌then◌else◌, fold, ◌↔◌}
use Rattle.std.specs.List.{IsDistinct}
use Rattle.std.specs.Option.{option_map_or}
use Rattle.score_hook.specs.declared.stats.Stats.{Stats}
use Rattle.score_hook.specs.declared.stats.Score.{Score}
use Rattle.score_hook.proofs.Bounds.{bottom_some}
use Rattle.cell_core.specs.Sorted.{first_by}
use Rattle.subsume.proofs.Members.{In, in_from_contains, contains_from_in}
use Rattle.subsume.proofs.LeastFirst.{least_first, IsLeastBeside}
use Rattle.evict_admit.specs.declared.plan.Row.{Row}
use Rattle.evict_admit.specs.Evictions.{goes_before}
use Rattle.evict_admit.specs.Boards.{contender_for, row_at, no_row}
use Rattle.evict_admit.specs.Laws.{IsLine, IsLeast, OneOrder}
use Rattle.evict_admit.proofs.Contests.{is_or_not}
use Rattle.evict_admit.proofs.Orders.{not_after, before_false, not_after_refl, not_after_trans, not_after_before, before_trans, before_total}
use Rattle.evict_admit.proofs.Plans.{in_index, apart_from_distinct, apart_by_place}

module _ (score : Stats → Score) (positive : (stats : Stats) → 0 < (score stats).bottom) where
  some : (a : Row) → 0 < (contender_for score a).score.bottom
  some a = positive a.stats

  -- what doesn't come before the second doesn't come before what the second doesn't
  late_trans : (a b c : Row) → goes_before score a b ≡ false → goes_before score b c ≡ false → goes_before score a c ≡ false
  late_trans a b c h k = before_false (contender_for score c) (contender_for score a) (not_after_trans _ _ _ (some c) (some b) (some a) (not_after _ _ k) (not_after _ _ h))

  late_before : (a b : Row) → goes_before score a b ≡ true → goes_before score b a ≡ false
  late_before a b h = before_false (contender_for score a) (contender_for score b) (not_after_before _ _ h)

  pub line : IsLine (goes_before score)
  line = record {
    itself = λ a. before_false _ _ (not_after_refl (contender_for score a));
    on = λ a b c h k. before_trans _ _ _ (some a) (some b) (some c) h k;
    apart = λ a b differ. before_total (contender_for score a) (contender_for score b) differ;
  }

  abbrev choose : Option Row → Row → Option Row
  choose best x = Some (option_map_or (λ b. if goes_before score x b then x else b) best x)

  -- none comes before what is found
  record Found (best : Option Row) (xs : List Row) (x : Row) : Type 0 where
    pub among : (best ≡ Some x) ⊎ In x xs
    pub best_late : (z : Row) → best ≡ Some z → goes_before score z x ≡ false
    pub late : (z : Row) → In z xs → goes_before score z x ≡ false

  found : (xs : List Row) (best : Option Row) (x : Row) → fold choose best xs ≡ Some x → Found best xs x
  found [] best x e = record {
    among = inl e;
    best_late = λ z is. let same : z ≡ x = cc in ap (λ (r : Row). goes_before score r x) same ∙ line.itself x;
    late = λ z never. absurd never;
  }
  found (y ∷ ys) None x e =
      let more : Found (Some y) ys x = found ys (Some y) x e in record {
        among = elim more.among [ inl is ↦ let same : x ≡ y = cc in inr (inl same) | inr there ↦ inr (inr there) ];
        best_late = λ z never. cc;
        late = λ z i. elim i [ inl is ↦ more.best_late z (ap (λ r. Some r) (sym is)) | inr there ↦ more.late z there ];
      }
  found (y ∷ ys) (Some b) x e = go (goes_before score y b) refl (found ys (Some (if goes_before score y b then y else b)) x e)
    where
      go : (r : Bool) → goes_before score y b ≡ r → Found (Some (if goes_before score y b then y else b)) ys x → Found (Some b) (y ∷ ys) x
      go true is more =
          let kept : Some (if goes_before score y b then y else b) ≡ Some y = ap (λ r. Some (if r then y else b)) is in
          let y_late : goes_before score y x ≡ false = more.best_late y kept in record {
            among = elim more.among [ inl same ↦ let here : x ≡ y = cc in inr (inl here) | inr there ↦ inr (inr there) ];
            best_late = λ z eq. let same : z ≡ b = cc in ap (λ (r : Row). goes_before score r x) same ∙ late_trans b y x (late_before y b is) y_late;
            late = λ z i. elim i [ inl same ↦ ap (λ (r : Row). goes_before score r x) same ∙ y_late | inr there ↦ more.late z there ];
          }
      go false is more =
          let kept : Some (if goes_before score y b then y else b) ≡ Some b = ap (λ r. Some (if r then y else b)) is in
          let b_late : goes_before score b x ≡ false = more.best_late b kept in record {
            among = elim more.among [ inl same ↦ inl (sym kept ∙ same) | inr there ↦ inr (inr there) ];
            best_late = λ z eq. let same : z ≡ b = cc in ap (λ (r : Row). goes_before score r x) same ∙ b_late;
            late = λ z i. elim i [ inl same ↦ ap (λ (r : Row). goes_before score r x) same ∙ late_trans y b x is b_late | inr there ↦ more.late z there ];
          }

  -- rows with one id are the same
  same_row : (rows : List Row) → IsDistinct nat_eq (map (λ (r : Row). r.id) rows) → (a b : Row) → In a rows → In b rows → a.id ≡ b.id → a ≡ b
  same_row rows distinct a b ia ib same =
      let ha = in_index rows a no_row ia in
      let hb = in_index rows b no_row ib in
      let place : ha.0 ≡ hb.0 = apart_by_place rows (apart_from_distinct rows distinct) ha.0 hb.0 ha.1 hb.1 (ap (λ (r : Row). r.id) (sym ha.2) ∙ same ∙ ap (λ (r : Row). r.id) hb.2) in
      ha.2 ∙ ap (row_at rows) place ∙ sym hb.2

  pub finds_least : (rows : List Row) (row : Row) → IsDistinct nat_eq (map (λ (r : Row). r.id) rows) → first_by (goes_before score) rows ≡ Some row ↔ IsLeast (goes_before score) rows row
  finds_least rows row distinct = (to, from)
    where
      to : first_by (goes_before score) rows ≡ Some row → IsLeast (goes_before score) rows row
      to e =
          let h : Found None rows row = found rows None row e in record {
            among = contains_from_in rows row (elim h.among [ inl never ↦ cc | inr there ↦ there ]);
            least = λ other i differ. elim (line.apart row other (λ same. differ (sym same))) [
              | inl before ↦ before
              | inr never ↦ absurd (true≢false (sym never ∙ h.late other (in_from_contains rows other i)))
            ];
          }

      from : IsLeast (goes_before score) rows row → first_by (goes_before score) rows ≡ Some row
      from h = least_first (goes_before score) row rows None (inr (in_from_contains rows row h.among)) (λ y never. cc) others
        where
          others : (y : Row) → In y rows → IsLeastBeside (goes_before score) row y
          others y i = elim (is_or_not y.id row.id) [
            | inl same ↦ inl (same_row rows distinct y row i (in_from_contains rows row h.among) same)
            | inr differ ↦ let before = h.least y (contains_from_in rows y i) differ in inr (before, late_before row y before)
          ]

pub one_order_holds : OneOrder
one_order_holds = (λ score positive. (line score positive, finds_least score positive), λ kind weights now stats. bottom_some kind weights stats now)
