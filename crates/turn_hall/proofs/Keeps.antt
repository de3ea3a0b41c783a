-- Each kind of step keeps the rule, whatever the other passes did before it: one lemma for each.
use Rattle.std.proofs.Common.{◌≡◌, ◌≢◌, ℕ, ◌+◌, ◌%◌, ◌^◌, ◌<◌, ◌≤◌, List, [], ◌∷◌, ◌++◌, length, set, get_or, drop, sym, refl, ap, subst, ◌∙◌, inl, inr, ⊎_elim, arith}
use Rattle.std.specs.Prelude.{Option, Some, None}
use Rattle.std.proofs.lemmas.List.{length-set}
use Rattle.std.proofs.Math.Seq.{drop-append_seam}
use mathlib.Core.Option.{some}
use mathlib.Core.Logic.{dite}
use native.Mathlib.Decide.{ℕ_discrete}
use lib.ListN.{get_elem?}
use Rattle.atomic_table.specs.Table.{State, Me, rest, keeps, takes, gives, Allows}
use Rattle.atomic_table.proofs.Lists.{set_here, set_again, one_turn}
use Rattle.turn_hall.specs.declared.view.PassStage.TheVariants.{Ended, Free, Waiting, Serving, Published}
use Rattle.turn_hall.specs.declared.view.View.{View}
use Rattle.turn_hall.specs.Entries.{StartsWith, entries_by, kept_under}
use Rattle.turn_hall.specs.Views.{Holds, IsAtTurn, ticket_of, ticket_count, at_stage}
use Rattle.turn_hall.specs.Rule.{IsOrderly, IsLive}
use Rattle.turn_hall.specs.Steps.{slot_entries, Draws, Watches, Publishes, PassesOn}
use Rattle.turn_hall.proofs.Lists.{at_below, at_once, each_set, sum_by-set, sum_by-le_length, set-only, starts_itself, starts_longer, entries_by-own, entries_by-other}
use Rattle.turn_hall.proofs.Views.{ticket_count-le_one, ticket_count-turn, turn_not_ended, free_not_turn, free_not_ended, waiting_not_ended, waiting_not_turn, waiting_holds, serving_at_turn, holds_once, apart_set, turn_set}

-- at another place in the queue a pass is live as before
pub moved : {E : Type 0} {author : E → ℕ} {log : List E} {splits : ℕ} {joined : List (ℕ × List E)} {k : ℕ} (v w : View E)
    → w.number ≡ v.number → w.own ≡ v.own → w.splits ≡ v.splits → w.joined ≡ v.joined
    → IsLive author log splits joined k v → IsLive author log splits joined k w
moved v w number own splits joined live = record {
  number = number ∙ live.number;
  own = live.own ∙ sym own;
  not_joined = live.not_joined;
  first = λ z. (splits ∙ (live.first z).0, joined ∙ (live.first z).1);
}

module _ {V E : Type 0} (entries : V → List E) (author : E → ℕ) where
  -- a pass that draws a ticket waits with the next one
  pub draws : (n id : ℕ) (m : Me (Option V) (View E)) → m.0.stage ≡ Free
      → Allows (IsOrderly entries author) n id m 1 (λ y. (y + 1) % 18446744073709551616) (Draws m)
  draws n id m free s o size at fits =
      let v = m.0 in
      let w = at_stage (Waiting o.drawn) v in
      let next : (o.drawn % 2 ^ 64 + 1) % 2 ^ 64 ≡ (o.drawn + 1) % 2 ^ 64 = omega arith in
      let none : ticket_count v.stage ≡ 0 = ap ticket_count free in (
        w,
        keeps,
        tt,
        record {
          log = o.log;
          serving = o.serving;
          drawn = o.drawn + 1;
          splits = o.splits;
          joined = o.joined;
          words = ap (λ ws. set ws 1 ((get_or ws 1 0 + 1) % 2 ^ 64)) o.words ∙ ap (λ d. length o.log ∷ d ∷ o.serving % 2 ^ 64 ∷ []) next;
          views = length-set s.views id w ∙ o.views;
          few = o.few;
          queue = omega (arith, sum_by-set (λ (u : View E). ticket_count u.stage) s.views id v w at, o.queue);
          tickets = each_set (λ k u. (t : ℕ) → Holds t u.stage → (o.serving ≤ t) × (t < o.drawn + 1)) s.views id w
              (λ t h. let q = o.queue in (omega arith, omega arith))
              (λ k u other e t h. let b = o.tickets k u e t h in (b.0, omega arith));
          apart = apart_set s.views id w o.apart (λ k u other e t p q. let b = o.tickets k u e t p in omega arith);
          turn = each_set (λ k u. IsAtTurn u.stage → Holds o.serving u.stage × (u.seen ≡ o.log)) s.views id w (λ h. absurd h) (λ k u other e. o.turn k u e);
          seen = each_set (λ k u. StartsWith o.log u.seen) s.views id w (o.seen id v at) (λ k u other e. o.seen k u e);
          told = each_set (λ k u. StartsWith o.log u.told) s.views id w (o.told id v at) (λ k u other e. o.told k u e);
          live = each_set (λ k u. u.stage ≢ Ended → IsLive author o.log o.splits o.joined k u) s.views id w
              (λ alive. moved v w refl refl refl refl (o.live id v at (free_not_ended v.stage free)))
              (λ k u other e. o.live k u e);
          ended = each_set (λ k u. u.stage ≡ Ended → (kept_under k o.joined ≡ Some (entries_by author k o.log)) × (0 < k)) s.views id w
              (λ h. cc)
              (λ k u other e. o.ended k u e);
          beyond = o.beyond;
          slot = ⊎_elim (λ h. inl h) (λ h. inr (turn_set s.views id v w at (free_not_turn v.stage free) h)) o.slot;
        },
        (o.drawn, sym (ap (λ ws. get_or ws 1 0) o.words), refl),
      )

  -- where nothing changes, the rule holds as before
  unchanged : (i id : ℕ) (v : View E) (s : State (Option V) (View E)) → IsOrderly entries author s → get_elem? s.views id ≡ some v → set s.words i (get_or s.words i 0) ≡ s.words
      → IsOrderly entries author (record { words = set s.words i (get_or s.words i 0); homes = s.homes; views = set s.views id v })
  unchanged i id v s o at same =
      subst (λ (ws : List ℕ). IsOrderly entries author (record { words = ws; homes = s.homes; views = set s.views id v })) (sym same)
      (subst (λ (vs : List (View E)). IsOrderly entries author (record { words = s.words; homes = s.homes; views = vs })) (sym (set_again s.views id v at)) o)

  -- a pass that watches has the turn once its ticket is served: it takes the slot, and its turn begins
  pub watches : (n id t : ℕ) (m : Me (Option V) (View E)) → m.0.stage ≡ Waiting t
      → Allows (IsOrderly entries author) n id m 2 (λ y. y) (Watches entries author m)
  watches n id t m waits s o size at fits =
      let v = m.0 in
      let found = get_or s.words 2 0 in
      let ticket : ticket_of v.stage ≡ t = ap ticket_of waits in
      let served : found ≡ o.serving % 2 ^ 64 = ap (λ ws. get_or ws 2 0) o.words in
      let mine : Holds t v.stage = waiting_holds v.stage t waits in
      let range = o.tickets id v at t mine in
      let live = o.live id v at (waiting_not_ended v.stage t waits) in
      let one : ticket_count v.stage ≡ 1 = ap ticket_count waits in
      let count = sum_by-le_length (λ (u : View E). ticket_count u.stage) (λ u. ticket_count-le_one u.stage) s.views in
      dite (ℕ_discrete found (ticket_of v.stage % 2 ^ 64))
      (λ hit.
      let near : t < o.serving + 2 ^ 64 = omega (arith, count, o.views, o.queue, o.few) in
      let same : o.serving ≡ t = one_turn o.serving t (2 ^ 64) range.0 near (sym served ∙ hit ∙ ap (λ z. z % 2 ^ 64) ticket) in
      ⊎_elim
      (λ home.
      let x = home.0 in
      let is = home.2 in
      let w = record v { stage = Serving (ticket_of v.stage); seen = entries x } in (
        w,
        takes 0 (Some x),
        ap (λ hs. get_elem? hs 0) home.1,
        record {
          log = o.log;
          serving = o.serving;
          drawn = o.drawn;
          splits = o.splits;
          joined = o.joined;
          words = ap (λ ws. set ws 2 (get_or ws 2 0)) o.words;
          views = length-set s.views id w ∙ o.views;
          few = o.few;
          queue = omega (arith, sum_by-set (λ (u : View E). ticket_count u.stage) s.views id v w at, o.queue);
          tickets = each_set (λ k u. (z : ℕ) → Holds z u.stage → (o.serving ≤ z) × (z < o.drawn)) s.views id w
              (λ z h. (omega arith, omega arith))
              (λ k u other e. o.tickets k u e);
          apart = apart_set s.views id w o.apart
              (λ k u other e z p q. other (o.apart k id u v e at z p (let F : ℕ → Type 0 = λ y. Holds y v.stage in subst F (sym ticket ∙ q) mine)));
          turn = each_set (λ k u. IsAtTurn u.stage → Holds o.serving u.stage × (u.seen ≡ o.log)) s.views id w
              (λ h. (ticket ∙ sym same, is))
              (λ k u other e. o.turn k u e);
          seen = each_set (λ k u. StartsWith o.log u.seen) s.views id w
              (let F : List E → Type 0 = StartsWith o.log in subst F (sym is) (starts_itself o.log))
              (λ k u other e. o.seen k u e);
          told = each_set (λ k u. StartsWith o.log u.told) s.views id w (o.told id v at) (λ k u other e. o.told k u e);
          live = each_set (λ k u. u.stage ≢ Ended → IsLive author o.log o.splits o.joined k u) s.views id w
              (λ alive. moved v w refl refl refl refl live)
              (λ k u other e. o.live k u e);
          ended = each_set (λ k u. u.stage ≡ Ended → (kept_under k o.joined ≡ Some (entries_by author k o.log)) × (0 < k)) s.views id w
              (λ h. cc)
              (λ k u other e. o.ended k u e);
          beyond = o.beyond;
          slot = inr (id, w, set_here s.views id w (at_below s.views id v at), tt);
        },
        (
          (λ again. record {
            value = x;
            seen = (let F : List E → Type 0 = λ l. StartsWith l v.seen in subst F (sym is) (o.seen id v at));
            own = ap (λ j. entries_by author j (entries x)) live.number ∙ ap (entries_by author id) is ∙ live.own;
            becomes = refl;
          }),
          (λ miss. absurd (miss hit)),
        ),
      ))
      (λ busy.
      let it = o.turn busy.0 busy.1 busy.2 busy.3 in
      let here : busy.0 ≡ id = o.apart busy.0 id busy.1 v busy.2 at t (let F : ℕ → Type 0 = λ z. Holds z busy.1.stage in subst F same it.0) mine in
      let me : busy.1 ≡ v = at_once s.views id busy.1 v (subst (λ j. get_elem? s.views j ≡ some busy.1) here busy.2) at in
      absurd (waiting_not_turn v.stage t waits (let F : View E → Type 0 = λ z. IsAtTurn z.stage in subst F me busy.3)))
      o.slot)
      (λ miss. (
        v,
        keeps,
        tt,
        unchanged 2 id v s o at (subst (λ ws. set ws 2 (get_or ws 2 0) ≡ ws) (sym o.words) refl),
        ((λ hit. absurd (miss hit)), (λ again. refl)),
      ))

  -- the pass that has the turn publishes the count of a list with one entry more, which names it
  pub publishes : (n id new t : ℕ) (m : Me (Option V) (View E)) (e : E) → m.0.stage ≡ Serving t
      → slot_entries entries m.1 ≡ m.0.seen ++ e ∷ [] → author e ≡ m.0.number → new ≡ length (slot_entries entries m.1)
      → Allows (IsOrderly entries author) n id m 0 (λ _. new) (λ _. Publishes entries m)
  publishes n id new t m e serves more by count s o size at fits =
      let v = m.0 in
      let list = slot_entries entries m.1 in
      let w = record v { stage = Published (ticket_of v.stage); seen = list; own = v.own ++ drop (length v.seen) list } in
      let ticket : ticket_of v.stage ≡ t = ap ticket_of serves in
      let one : ticket_count v.stage ≡ 1 = ap ticket_count serves in
      let mine : Holds t v.stage = (let F : _ → Type 0 = Holds t in subst F (sym serves) refl) in
      let range = o.tickets id v at t mine in
      let turn = o.turn id v at (serving_at_turn v.stage t serves) in
      let now : t ≡ o.serving = holds_once v.stage t o.serving mine turn.0 in
      let live = o.live id v at (turn_not_ended v.stage (serving_at_turn v.stage t serves)) in
      let grown : list ≡ o.log ++ e ∷ [] = more ∙ ap (λ l. l ++ e ∷ []) turn.1 in
      let tail : drop (length v.seen) list ≡ e ∷ [] = ap (drop (length v.seen)) more ∙ drop-append_seam v.seen (e ∷ []) in
      let author_is : author e ≡ id = by ∙ live.number in
      let theirs : (k : ℕ) → k ≢ id → entries_by author k list ≡ entries_by author k o.log = λ k other. ap (entries_by author k) grown ∙ entries_by-other author k o.log e (λ h. other (sym h ∙ author_is)) in
      let begins : (first : List E) → StartsWith o.log first → StartsWith list first = λ first h. (let F : List E → Type 0 = λ l. StartsWith l first in subst F (sym grown) (starts_longer o.log first (e ∷ []) h)) in
      let place = at_below s.views id v at in (
        w,
        keeps,
        tt,
        record {
          log = list;
          serving = o.serving;
          drawn = o.drawn;
          splits = o.splits;
          joined = o.joined;
          words = ap (λ ws. set ws 0 new) o.words ∙ ap (λ c. c ∷ o.drawn % 2 ^ 64 ∷ o.serving % 2 ^ 64 ∷ []) count;
          views = length-set s.views id w ∙ o.views;
          few = o.few;
          queue = omega (arith, sum_by-set (λ (u : View E). ticket_count u.stage) s.views id v w at, o.queue);
          tickets = each_set (λ k u. (z : ℕ) → Holds z u.stage → (o.serving ≤ z) × (z < o.drawn)) s.views id w
              (λ z h. (omega arith, omega arith))
              (λ k u other f. o.tickets k u f);
          apart = apart_set s.views id w o.apart
              (λ k u other f z p q. other (o.apart k id u v f at z p (let F : ℕ → Type 0 = λ y. Holds y v.stage in subst F (sym ticket ∙ q) mine)));
          turn = each_set (λ k u. IsAtTurn u.stage → Holds o.serving u.stage × (u.seen ≡ list)) s.views id w
              (λ h. (ticket ∙ now, refl))
              (λ k u other f h. absurd (other (o.apart k id u v f at o.serving (o.turn k u f h).0 turn.0)));
          seen = each_set (λ k u. StartsWith list u.seen) s.views id w (starts_itself list) (λ k u other f. begins u.seen (o.seen k u f));
          told = each_set (λ k u. StartsWith list u.told) s.views id w (begins v.told (o.told id v at)) (λ k u other f. begins u.told (o.told k u f));
          live = each_set (λ k u. u.stage ≢ Ended → IsLive author list o.splits o.joined k u) s.views id w
              (λ alive. record {
                number = live.number;
                own = ap (entries_by author id) grown ∙ entries_by-own author id o.log e author_is ∙ ap (λ l. l ++ e ∷ []) live.own ∙ ap (λ z. v.own ++ z) (sym tail);
                not_joined = live.not_joined;
                first = live.first;
              })
              (λ k u other f alive. let old = o.live k u f alive in record { number = old.number; own = theirs k other ∙ old.own; not_joined = old.not_joined; first = old.first });
          ended = each_set (λ k u. u.stage ≡ Ended → (kept_under k o.joined ≡ Some (entries_by author k list)) × (0 < k)) s.views id w
              (λ h. cc)
              (λ k u other f h. let old = o.ended k u f h in (old.0 ∙ ap Some (sym (theirs k other)), old.1));
          beyond = λ k h. let old = o.beyond k h in (theirs k (let views = o.views in λ same. omega arith) ∙ old.0, old.1);
          slot = inr (id, w, set_here s.views id w place, tt);
        },
        refl,
      )

  -- the pass that has the turn passes it on, once the value in the slot stands for the whole list: it returns the slot
  pub passes_on : (n id : ℕ) (v : View E) (x : V) (held : List (ℕ × Option V)) → IsAtTurn v.stage → n ≡ 1 → entries x ≡ v.seen
      → Allows (IsOrderly entries author) n id (v, (0, Some x) ∷ held) 2 (λ y. (y + 1) % 18446744073709551616) (λ _. PassesOn (v, (0, Some x) ∷ held))
  passes_on n id v x held at_turn slots is s o size at fits =
      let w = at_stage Free v in
      let next : (o.serving % 2 ^ 64 + 1) % 2 ^ 64 ≡ (o.serving + 1) % 2 ^ 64 = omega arith in
      let one : ticket_count v.stage ≡ 1 = ticket_count-turn v.stage at_turn in
      let turn = o.turn id v at at_turn in
      let alone : (k : ℕ) (u : View E) → k ≢ id → get_elem? s.views k ≡ some u → Holds o.serving u.stage → ⊥ = λ k u other e h. other (o.apart k id u v e at o.serving h turn.0) in (
        w,
        gives,
        tt,
        record {
          log = o.log;
          serving = o.serving + 1;
          drawn = o.drawn;
          splits = o.splits;
          joined = o.joined;
          words = ap (λ ws. set ws 2 ((get_or ws 2 0 + 1) % 2 ^ 64)) o.words ∙ ap (λ d. length o.log ∷ o.drawn % 2 ^ 64 ∷ d ∷ []) next;
          views = length-set s.views id w ∙ o.views;
          few = o.few;
          queue = omega (arith, sum_by-set (λ (u : View E). ticket_count u.stage) s.views id v w at, o.queue);
          tickets = each_set (λ k u. (t : ℕ) → Holds t u.stage → (o.serving + 1 ≤ t) × (t < o.drawn)) s.views id w
              (λ t h. absurd h)
              (λ k u other e t h.
              let old = o.tickets k u e t h in
              let later : t ≢ o.serving = λ same. alone k u other e (let F : ℕ → Type 0 = λ z. Holds z u.stage in subst F same h) in
              (omega arith, old.1));
          apart = apart_set s.views id w o.apart (λ k u other e t p q. q);
          turn = each_set (λ k u. IsAtTurn u.stage → Holds (o.serving + 1) u.stage × (u.seen ≡ o.log)) s.views id w
              (λ h. absurd h)
              (λ k u other e h. absurd (alone k u other e (o.turn k u e h).0));
          seen = each_set (λ k u. StartsWith o.log u.seen) s.views id w (o.seen id v at) (λ k u other e. o.seen k u e);
          told = each_set (λ k u. StartsWith o.log u.told) s.views id w (o.told id v at) (λ k u other e. o.told k u e);
          live = each_set (λ k u. u.stage ≢ Ended → IsLive author o.log o.splits o.joined k u) s.views id w
              (λ alive. moved v w refl refl refl refl (o.live id v at (turn_not_ended v.stage at_turn)))
              (λ k u other e. o.live k u e);
          ended = each_set (λ k u. u.stage ≡ Ended → (kept_under k o.joined ≡ Some (entries_by author k o.log)) × (0 < k)) s.views id w
              (λ h. cc)
              (λ k u other e. o.ended k u e);
          beyond = o.beyond;
          slot = inl (x, set-only s.homes (some (Some x)) (size ∙ slots), is ∙ turn.1);
        },
        refl,
      )

  -- the pass that has the turn takes the value out of the slot, which is its own until it passes on: no word and no view changes
  pub takes_value : (m : Me (Option V) (View E)) (x : V) → m.1 ≡ (0, Some x) ∷ [] → (old : Option V) × (m.1 ≡ (0, old) ∷ rest m.1)
  takes_value m x slot = (Some x, slot ∙ ap (λ (held : List (ℕ × Option V)). (0, Some x) ∷ rest held) (sym slot))

  -- a pass that took the value out puts one back into the same slot: no word and no view changes
  pub puts_back : (m : Me (Option V) (View E)) → m.1 ≡ (0, None) ∷ [] → (old : Option V) × (m.1 ≡ (0, old) ∷ rest m.1)
  puts_back m slot = (None, slot ∙ ap (λ (held : List (ℕ × Option V)). (0, None) ∷ rest held) (sym slot))
