-- Passes are split from the first one and joined to it again, and a hall is made and closed: each keeps the rule.
use Rattle.std.proofs.Common.{◌≡◌, ◌≢◌, ℕ, ◌+◌, ◌<◌, ◌≤◌, List, [], ◌∷◌, length, set, get_or, sym, refl, ap, subst, ◌∙◌, inl, inr, ⊎_elim, arith, ne_eqb, lt_of_not-le}
use Rattle.std.specs.Prelude.{Option, Some, None, IsSome, unwrap_or, if◌then◌else◌}
use Rattle.std.proofs.lemmas.List.{length-set, length_push}
use mathlib.Core.Option.{some}
use mathlib.Core.Logic.{dite}
use native.Mathlib.Decide.{ℕ_discrete, dec_le}
use lib.ListN.{get_elem?}
use Rattle.atomic_table.specs.Table.{Me, keeps, Allows, Splits, Joins, opening, Final, Seen}
use Rattle.atomic_table.proofs.Lists.{set_else}
use Rattle.turn_hall.specs.declared.view.PassStage.TheVariants.{Ended, Free}
use Rattle.turn_hall.specs.declared.view.View.{View}
use Rattle.turn_hall.specs.Entries.{StartsWith, entries_by, longer, kept_under}
use Rattle.turn_hall.specs.Views.{Holds, IsAtTurn, ticket_count, first_view, one_more, newcomer, joined_with, ended_view, AllJoined, entries_kept}
use Rattle.turn_hall.specs.Rule.{IsOrderly, IsLive}
use Rattle.turn_hall.specs.Steps.{Compares}
use Rattle.turn_hall.proofs.Lists.{at_below, below_at, at_once, each_set, each_snoc, sum_by-set, sum_by-snoc, longer_begins, kept_under-here, kept_under-else}
use Rattle.turn_hall.proofs.Views.{free_not_turn, free_not_ended, ended_or_not, turn_not_ended, apart_set, apart_snoc, turn_set, turn_snoc}
use Rattle.turn_hall.proofs.Keeps.{moved}

module _ {V E : Type 0} (entries : V → List E) (author : E → ℕ) where
  -- a pass that is split from the first one has the next number, has seen as much, and owns no entry
  pub splits_off : (id : ℕ) (v : View E) → v.stage ≡ Free → v.number ≡ 0 → v.splits < 4294967295
      → Splits (IsOrderly entries author) id v (one_more v) (newcomer v)
  splits_off id v free first room s o at =
      let w = one_more v in
      let new = newcomer v in
      let l = set s.views id w in
      let live = o.live id v at (free_not_ended v.stage free) in
      let zero_is : id ≡ 0 = sym live.number ∙ first in
      let count = live.first zero_is in
      let places : length l ≡ o.splits + 1 = length-set s.views id w ∙ o.views in
      let none : ticket_count v.stage ≡ 0 = ap ticket_count free in
      let fresh = o.beyond (length l) (omega arith) in
      record {
        log = o.log;
        serving = o.serving;
        drawn = o.drawn;
        splits = o.splits + 1;
        joined = o.joined;
        words = o.words;
        views = omega (arith, length_push l new, places);
        few = omega (arith, count.0, room);
        queue = omega (arith, sum_by-snoc (λ (u : View E). ticket_count u.stage) l new, sum_by-set (λ (u : View E). ticket_count u.stage) s.views id v w at, o.queue);
        tickets = (let P : ℕ → View E → Type 0 = λ k u. (t : ℕ) → Holds t u.stage → (o.serving ≤ t) × (t < o.drawn) in
            each_snoc P l new (λ t h. absurd h) (each_set P s.views id w (o.tickets id v at) (λ k u other e. o.tickets k u e)));
        apart = apart_snoc l new refl (apart_set s.views id w o.apart (λ k u other e t p q. other (o.apart k id u v e at t p q)));
        turn = (let P : ℕ → View E → Type 0 = λ k u. IsAtTurn u.stage → Holds o.serving u.stage × (u.seen ≡ o.log) in
            each_snoc P l new (λ h. absurd h) (each_set P s.views id w (o.turn id v at) (λ k u other e. o.turn k u e)));
        seen = (let P : ℕ → View E → Type 0 = λ k u. StartsWith o.log u.seen in
            each_snoc P l new (o.seen id v at) (each_set P s.views id w (o.seen id v at) (λ k u other e. o.seen k u e)));
        told = (let P : ℕ → View E → Type 0 = λ k u. StartsWith o.log u.told in
            each_snoc P l new (o.log, refl) (each_set P s.views id w (o.told id v at) (λ k u other e. o.told k u e)));
        live = (let P : ℕ → View E → Type 0 = λ k u. u.stage ≢ Ended → IsLive author o.log (o.splits + 1) o.joined k u in
            each_snoc P l new
            (λ alive. record { number = omega (arith, count.0, places); own = fresh.0; not_joined = fresh.1; first = λ z. absurd (omega arith) })
            (each_set P s.views id w
            (λ alive. record { number = live.number; own = live.own; not_joined = live.not_joined; first = λ z. (omega (arith, count.0), count.1) })
            (λ k u other e alive. let old = o.live k u e alive in record { number = old.number; own = old.own; not_joined = old.not_joined; first = λ z. absurd (other (z ∙ sym zero_is)) })));
        ended = (let P : ℕ → View E → Type 0 = λ k u. u.stage ≡ Ended → (kept_under k o.joined ≡ Some (entries_by author k o.log)) × (0 < k) in
            each_snoc P l new (λ h. cc) (each_set P s.views id w (o.ended id v at) (λ k u other e. o.ended k u e)));
        beyond = λ k h. o.beyond k (omega arith);
        slot = ⊎_elim (λ h. inl h) (λ h. inr (turn_snoc l new (turn_set s.views id v w at (free_not_turn v.stage free) h))) o.slot;
      }

  -- a pass that is joined to the first one ends, and the first one keeps its number and its own entries
  pub joins : (id : ℕ) (v : View E) (other : ℕ) (w : View E) → v.stage ≡ Free → v.number ≡ 0 → w.stage ≡ Free
      → Joins (IsOrderly entries author) id v other w (joined_with v w) ended_view
  joins id v other w free first free' s o at two at' =
      let both = joined_with v w in
      let l = set s.views id both in
      let at_other : get_elem? s.views other ≡ some w = sym (set_else s.views id other both two) ∙ at' in
      let live = o.live id v at (free_not_ended v.stage free) in
      let live' = o.live other w at_other (free_not_ended w.stage free') in
      let zero_is : id ≡ 0 = sym live.number ∙ first in
      let count = live.first zero_is in
      let none : ticket_count v.stage ≡ 0 = ap ticket_count free in
      let none' : ticket_count w.stage ≡ 0 = ap ticket_count free' in
      let joined' = (w.number, w.own) ∷ o.joined in
      let rest_as : (k : ℕ) → k ≢ other → kept_under k joined' ≡ kept_under k o.joined = λ k apart. kept_under-else k w.number w.own o.joined (λ h. apart (sym h ∙ live'.number)) in
      let place = at_below s.views other w at_other in
      let both_sets : (P : ℕ → View E → Type 0) → P other ended_view → P id both → ((k : ℕ) (u : View E) → k ≢ id → k ≢ other → get_elem? s.views k ≡ some u → P k u)
      → (k : ℕ) (u : View E) → get_elem? (set l other ended_view) k ≡ some u → P k u =
      λ P gone here others. each_set P l other ended_view gone
      (λ k u apart e. each_set (λ j y. j ≢ other → P j y) s.views id both (λ _. here) (λ j y apart' e' apart''. others j y apart' apart'' e') k u e apart) in
      record {
        log = o.log;
        serving = o.serving;
        drawn = o.drawn;
        splits = o.splits;
        joined = joined';
        words = o.words;
        views = length-set l other ended_view ∙ length-set s.views id both ∙ o.views;
        few = o.few;
        queue = omega (arith, sum_by-set (λ (u : View E). ticket_count u.stage) l other w ended_view at', sum_by-set (λ (u : View E). ticket_count u.stage) s.views id v both at, o.queue);
        tickets = both_sets (λ k u. (t : ℕ) → Holds t u.stage → (o.serving ≤ t) × (t < o.drawn)) (λ t h. absurd h) (o.tickets id v at) (λ k u a b e. o.tickets k u e);
        apart = apart_set l other ended_view (apart_set s.views id both o.apart (λ k u a e t p q. a (o.apart k id u v e at t p q))) (λ k u a e t p q. q);
        turn = both_sets (λ k u. IsAtTurn u.stage → Holds o.serving u.stage × (u.seen ≡ o.log)) (λ h. absurd h) (o.turn id v at) (λ k u a b e. o.turn k u e);
        seen = both_sets (λ k u. StartsWith o.log u.seen) (o.log, refl) (o.seen id v at) (λ k u a b e. o.seen k u e);
        told = both_sets (λ k u. StartsWith o.log u.told) (o.log, refl) (o.seen other w at_other) (λ k u a b e. o.told k u e);
        live = both_sets (λ k u. u.stage ≢ Ended → IsLive author o.log o.splits joined' k u)
            (λ alive. absurd (alive refl))
            (λ alive. record { number = live.number; own = live.own; not_joined = rest_as id (λ h. two (sym h)) ∙ live.not_joined; first = λ z. (count.0, ap (λ js. (w.number, w.own) ∷ js) count.1) })
            (λ k u a b e alive. let old = o.live k u e alive in record { number = old.number; own = old.own; not_joined = rest_as k b ∙ old.not_joined; first = λ z. absurd (a (z ∙ sym zero_is)) });
        ended = both_sets (λ k u. u.stage ≡ Ended → (kept_under k joined' ≡ Some (entries_by author k o.log)) × (0 < k))
            (λ h. (kept_under-here other w.number w.own o.joined live'.number ∙ ap Some (sym live'.own), omega arith))
            (λ h. absurd (free_not_ended v.stage free h))
            (λ k u a b e h. let old = o.ended k u e h in (rest_as k b ∙ old.0, old.1));
        beyond = λ k h. let old = o.beyond k h in (old.0, rest_as k (let views = o.views in λ same. omega arith) ∙ old.1);
        slot = ⊎_elim (λ h. inl h) (λ h. inr (turn_set l other w ended_view at' (free_not_turn w.stage free') (turn_set s.views id v both at (free_not_turn v.stage free) h))) o.slot;
      }

  -- after a join the first pass has seen the longer of what it had seen and what its `told` has, which both begin the list
  pub compares : (n id : ℕ) (m : Me (Option V) (View E)) → m.0.stage ≡ Free
      → Allows (IsOrderly entries author) n id m 0 (λ y. y) (λ _. Compares m)
  compares n id m free s o size at fits =
      let v = m.0 in
      let list = longer v.seen v.told in
      let begins = longer_begins o.log v.seen v.told (o.seen id v at) (o.told id v at) in
      let w = record v { seen = list } in (
        w,
        keeps,
        tt,
        record {
          log = o.log;
          serving = o.serving;
          drawn = o.drawn;
          splits = o.splits;
          joined = o.joined;
          words = ap (λ ws. set ws 0 (get_or ws 0 0)) o.words;
          views = length-set s.views id w ∙ o.views;
          few = o.few;
          queue = omega (arith, sum_by-set (λ (u : View E). ticket_count u.stage) s.views id v w at, o.queue);
          tickets = each_set (λ k u. (t : ℕ) → Holds t u.stage → (o.serving ≤ t) × (t < o.drawn)) s.views id w (o.tickets id v at) (λ k u other e. o.tickets k u e);
          apart = apart_set s.views id w o.apart (λ k u other e t p q. other (o.apart k id u v e at t p q));
          turn = each_set (λ k u. IsAtTurn u.stage → Holds o.serving u.stage × (u.seen ≡ o.log)) s.views id w (λ h. absurd (free_not_turn v.stage free h)) (λ k u other e. o.turn k u e);
          seen = each_set (λ k u. StartsWith o.log u.seen) s.views id w begins.2 (λ k u other e. o.seen k u e);
          told = each_set (λ k u. StartsWith o.log u.told) s.views id w (o.told id v at) (λ k u other e. o.told k u e);
          live = each_set (λ k u. u.stage ≢ Ended → IsLive author o.log o.splits o.joined k u) s.views id w
              (λ alive. moved v w refl refl refl refl (o.live id v at alive))
              (λ k u other e. o.live k u e);
          ended = each_set (λ k u. u.stage ≡ Ended → (kept_under k o.joined ≡ Some (entries_by author k o.log)) × (0 < k)) s.views id w (o.ended id v at) (λ k u other e. o.ended k u e);
          beyond = o.beyond;
          slot = ⊎_elim (λ h. inl h) (λ h. inr (turn_set s.views id v w at (free_not_turn v.stage free) h)) o.slot;
        },
        (begins.0, begins.1, refl),
      )

  -- a new hall keeps the rule, where its value stands for no entry
  pub opens : (x : V) → entries x ≡ [] → IsOrderly entries author (opening (0 ∷ 0 ∷ 0 ∷ []) (Some x ∷ []) first_view)
  opens x is =
      let only : (P : ℕ → View E → Type 0) → P 0 first_view → (k : ℕ) (u : View E) → get_elem? (first_view ∷ []) k ≡ some u → P k u =
      λ P here. each_snoc P [] first_view here (λ k u e. absurd (omega (arith, at_below [] k u e))) in
      record {
        log = [];
        serving = 0;
        drawn = 0;
        splits = 0;
        joined = [];
        words = refl;
        views = refl;
        few = omega arith;
        queue = refl;
        tickets = only (λ k u. (t : ℕ) → Holds t u.stage → (0 ≤ t) × (t < 0)) (λ t h. absurd h);
        apart = apart_snoc [] first_view refl (λ j k v w e f t p q. absurd (omega (arith, at_below [] j v e)));
        turn = only (λ k u. IsAtTurn u.stage → Holds 0 u.stage × (u.seen ≡ [])) (λ h. absurd h);
        seen = only (λ k u. StartsWith [] u.seen) ([], refl);
        told = only (λ k u. StartsWith [] u.told) ([], refl);
        live = only (λ k u. u.stage ≢ Ended → IsLive author [] 0 [] k u) (λ alive. record { number = refl; own = refl; not_joined = refl; first = λ z. (refl, refl) });
        ended = only (λ k u. u.stage ≡ Ended → (kept_under k [] ≡ Some (entries_by author k [])) × (0 < k)) (λ h. cc);
        beyond = λ k h. (refl, refl);
        slot = inl (x, refl, is);
      }

  -- once all passes are joined, the value is in the slot, and the entries of its list that name a number are those that the first pass has under it
  pub record Closes (v : View E) (xs : List (Option V)) : Type 0 where
    pub value : V
    pub slot : get_elem? xs 0 ≡ some (Some value)
    pub seen : StartsWith (entries value) v.seen
    pub each : (k : ℕ) → entries_by author k (entries value) ≡ entries_kept v k

  pub closes : (id : ℕ) (v : View E) (ws : List ℕ) (xs : List (Option V)) → v.stage ≡ Free → v.number ≡ 0 → AllJoined v
      → Final (Seen (IsOrderly entries author) id v) ws xs → Closes v xs
  closes id v ws xs free first all final =
      let s = final.0 in
      let o = final.1.0 in
      let at = final.1.1 in
      let live = o.live id v at (free_not_ended v.stage free) in
      let zero_is : id ≡ 0 = sym live.number ∙ first in
      let count = live.first zero_is in
      let back : (k : ℕ) → 0 < k → k ≤ o.splits → IsSome (kept_under k o.joined) =
      λ k low high. subst (λ js. IsSome (kept_under k js)) count.1 (all k low (omega (arith, count.0))) in
      -- a live pass is the first one
      let alone : (k : ℕ) (u : View E) → get_elem? s.views k ≡ some u → u.stage ≢ Ended → k ≡ 0 =
      λ k u e alive. dite (ℕ_discrete k 0) (λ z. z)
      (λ nz.
      let views = o.views in
      let below = at_below s.views k u e in
      let some_there : IsSome (kept_under k o.joined) = back k (omega arith) (omega arith) in
      let none_there : IsSome {T = List E} None = subst (λ (h : Option (List E)). IsSome h) (o.live k u e alive).not_joined some_there in
      absurd (cc)) in
      let kept : (k : ℕ) → k ≢ 0 → unwrap_or (kept_under k o.joined) [] ≡ entries_by author k o.log =
      λ k nz. dite (dec_le k o.splits)
      (λ low.
      let views = o.views in
      let there = below_at s.views k (omega arith) in
      ⊎_elim
      (λ h. ap (λ m. unwrap_or m []) (o.ended k there.0 there.1 h).0)
      (λ alive. absurd (nz (alone k there.0 there.1 alive)))
      (ended_or_not there.0.stage))
      (λ high. let b = o.beyond k (lt_of_not-le high) in ap (λ m. unwrap_or m []) b.1 ∙ sym b.0) in
      ⊎_elim
      (λ home. record {
        value = home.0;
        slot = final.4 0 (Some home.0) (ap (λ hs. get_elem? hs 0) home.1);
        seen = (let F : List E → Type 0 = λ l. StartsWith l v.seen in subst F (sym home.2) (o.seen id v at));
        each = λ k. ap (entries_by author k) home.2 ∙ dite (ℕ_discrete k 0)
            (λ z.
            let F : ℕ → Type 0 = λ j. entries_by author j o.log ≡ entries_kept v j in
            subst F (sym z) (ap (λ j. entries_by author j o.log) (sym zero_is) ∙ live.own))
            (λ nz. sym (kept k nz) ∙ ap (λ js. unwrap_or (kept_under k js) []) (sym count.1) ∙ sym (ap (λ b. if b then v.own else unwrap_or (kept_under k v.joined) []) (ne_eqb k 0 nz)));
      })
      (λ busy.
      let here : busy.0 ≡ id = alone busy.0 busy.1 busy.2 (turn_not_ended busy.1.stage busy.3) ∙ sym zero_is in
      let me : busy.1 ≡ v = at_once s.views id busy.1 v (subst (λ j. get_elem? s.views j ≡ some busy.1) here busy.2) at in
      absurd (free_not_turn v.stage free (let F : View E → Type 0 = λ z. IsAtTurn z.stage in subst F me busy.3)))
      o.slot
