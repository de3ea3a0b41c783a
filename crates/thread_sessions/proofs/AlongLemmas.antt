-- A session agrees with the log after its own events and after events of others.
use Rattle.std.proofs.Common.{◌≡◌, List, [], ◌∷◌, ◌++◌, take, Bool, true, false, cond, refl, ap, sym, ◌∙◌, subst, arith}
use Rattle.std.specs.Prelude.{◌==◌}
use Rattle.std.specs.List.{AllByRecursion}
use Rattle.std.proofs.lemmas.Bool.{eq-eqb}
use Rattle.std.proofs.lemmas.List.{append_assoc, append-nil, map-append, take-append-le, take_all}
use Rattle.pool_policy.specs.declared.options.PoolOptions.{PoolOptions}
use Rattle.read_laws.specs.Answered.{EachReadsAsOne}
use Rattle.run_log.specs.declared.event.Event.{Event}
use Rattle.run_log.specs.Events.{EventTree, event_tree, log_tree}
use Rattle.book_core.specs.BookView.{BookView}
use Rattle.book_core.specs.Lawful.{IsLawful}
use Rattle.turn_hall.specs.declared.hall.Pass.{Pass}
use Rattle.turn_hall.specs.Entries.{StartsWith, entries_by}
use Rattle.turn_hall.specs.Passes.{AddsOne, IsFree, KeepsPlace, own_entries, pass_number, seen_by}
use Rattle.session_run.specs.declared.session.Session.{Session}
use Rattle.session_run.specs.Kept.{Stands, order_of}
use Rattle.session_run.specs.Progress.{progress_of}
use Rattle.session_run.specs.Stages.{GoesInPlan, HasComputed, HasDone, HasMoved}
use Rattle.session_run.specs.Turns.{AsReady, InPlan, IsNext}
use Rattle.session_run.specs.Works.{IsWorked}
use Rattle.session_run.proofs.DoesLemmas.{done_log}
use Rattle.session_run.proofs.MoveLemmas.{moved_stands, moved_worked}
use Rattle.session_run.proofs.OtherLemmas.{others_stay}
use Rattle.book_core.proofs.LawfulLemmas.{lawful_front}
use Rattle.session_run.proofs.StageLemmas.{computed_stands}
use Rattle.session_run.proofs.WorkLemmas.{others_worked}
use Rattle.session_run.proofs.WorkedLemmas.{computed_worked}
use Rattle.run_sessions.specs.Ordered.{IsInOrder}
use Rattle.run_sessions.proofs.OrderLemmas.{new_ordered, ordered_as, others_ordered, own_ordered}
use Rattle.run_sessions.proofs.PlaceLemmas.{none_there}
use Rattle.thread_sessions.specs.Runners.{AddsEvent, DoesNext, HasSeen, IsAt, IsWith, session_of}
use Rattle.thread_sessions.proofs.ListLemmas.{at_more, by_append, by_own, others_behind}

abbrev Holds : Bool → Type 0
Holds true = Unit {0}
Holds false = ⊥

-- ## The next events of a session

does_other : (options : PoolOptions) (log : List EventTree) (x : Session) (event : EventTree) → (event.session == x.number) ≡ false → DoesNext options log x → DoesNext options (log ++ event ∷ []) x
does_other options log x event other does place e there own =
    at_more log event place e there
    (λ low here. subst (λ (es : List EventTree). IsNext (order_of x) options x.pieces x.number es e) (sym (take-append-le place log (event ∷ []) (omega (arith, low)))) (does place e here own))
    (λ last same. absurd (subst Holds (sym (eq-eqb event.session x.number (ap (λ (f : EventTree). f.session) same ∙ own)) ∙ other) tt))

module _ (options : PoolOptions) (x y : Session) (number : y.number ≡ x.number) (pieces : y.pieces ≡ x.pieces) (wide : y.wide ≡ x.wide) where
  next_as : (log : List EventTree) (event : EventTree) → IsNext (order_of x) options x.pieces x.number log event → IsNext (order_of y) options y.pieces y.number log event
  next_as log event next =
      subst (λ b. IsNext (cond b AsReady InPlan) options y.pieces y.number log event) (sym wide)
      (subst (λ n. IsNext (order_of x) options y.pieces n log event) (sym number) (subst (λ ps. IsNext (order_of x) options ps x.number log event) (sym pieces) next))

  does_as : (log : List EventTree) → DoesNext options log x → DoesNext options log y
  does_as log does place e there own = next_as (take place log) e (does place e there (own ∙ number))

  does_own : (log : List EventTree) (event : EventTree) → IsNext (order_of x) options x.pieces x.number log event → DoesNext options log x → DoesNext options (log ++ event ∷ []) y
  does_own log event next does place e there own =
      at_more log event place e there
      (λ low here. subst (λ (es : List EventTree). IsNext (order_of y) options y.pieces y.number es e) (sym (take-append-le place log (event ∷ []) (omega (arith, low)))) (next_as (take place log) e (does place e here (own ∙ number))))
      (λ last same.
      let front : take place (log ++ event ∷ []) ≡ log = take-append-le place log (event ∷ []) (omega (arith, last)) ∙ take_all place log (omega (arith, last)) in
      subst (λ (f : EventTree). IsNext (order_of y) options y.pieces y.number (take place (log ++ event ∷ [])) f) same
      (subst (λ (es : List EventTree). IsNext (order_of y) options y.pieces y.number es event) (sym front) (next_as log event next)))

-- ## Events of others

other_at : (options : PoolOptions) (log : List EventTree) (x : Session) (event : EventTree) → IsLawful options (log ++ event ∷ []) → (event.session == x.number) ≡ false → IsAt options log x → IsAt options (log ++ event ∷ []) x
other_at options log x event lawful other at = record {
  stands = others_stay options log x event lawful at.stands other;
  worked = others_worked options log x event other at.worked;
  ordered = others_ordered options log x at.stands event other at.ordered;
  does = does_other options log x event other at.does;
}

along : (options : PoolOptions) (x : Session) (log more : List EventTree) → IsLawful options (log ++ more) → AllByRecursion (λ (event : EventTree). (event.session == x.number) ≡ false) more → IsAt options log x → IsAt options (log ++ more) x
along options x log [] lawful others at = subst (λ (events : List EventTree). IsAt options events x) (sym (append-nil log)) at
along options x log (event ∷ more) lawful others at =
    let parts = append_assoc log (event ∷ []) more in
    let all = subst (IsLawful options) (sym parts) lawful in
    subst (λ (events : List EventTree). IsAt options events x) parts
    (along options x (log ++ event ∷ []) more all others.1 (other_at options log x event (lawful_front options (log ++ event ∷ []) more all) others.0 at))

-- a session agrees with a lawful log, of which it saw all its own events
pub seen_at : (options : PoolOptions) (log : List Event) (x : Session) → IsLawful options (log_tree log) → HasSeen options log x → IsAt options (log_tree log) x
seen_at options log x lawful s =
    let rest = s.begins.0 in
    let list : log_tree log ≡ log_tree s.seen ++ log_tree rest = ap log_tree s.begins.1 ∙ map-append event_tree s.seen rest in
    let others = others_behind x.number s.seen rest (ap (entries_by session_of x.number) (sym s.begins.1) ∙ s.own) in
    subst (λ (events : List EventTree). IsAt options events x) (sym list) (along options x (log_tree s.seen) (log_tree rest) (subst (IsLawful options) list lawful) others s.at)

-- ## Its own

-- a session that has not begun
pub new_at : (options : PoolOptions) (x : Session) → Stands options [] x → IsWorked options [] x → IsAt options [] x
new_at options x stands worked = record {
  stands = stands;
  worked = worked;
  ordered = new_ordered options x stands;
  does = λ place event there own. none_there place event there;
}

-- a session that has computed
pub computed_at : (options : PoolOptions) (log : List EventTree) (x new : Session) → GoesInPlan x x.stage → HasComputed x new → IsAt options log x → IsAt options log new
computed_at options log x new in_plan c at = record {
  stands = computed_stands options log x at.stands in_plan new c;
  worked = computed_worked options log x at.stands at.worked new c;
  ordered = ordered_as log x new (sym c.number) (sym c.pieces) (sym c.ended) at.ordered;
  does = does_as options x new c.number c.pieces c.wide log at.does;
}

-- a session whose query has moved by itself, as results are ready
pub moved_at : (options : PoolOptions) (log : List EventTree) (x new : Session) → x.wide ≡ true → HasMoved x new → IsAt options log x → IsAt options log new
moved_at options log x new wide m at = record {
  stands = moved_stands options log x new at.stands m wide;
  worked = moved_worked options log x new at.stands m at.worked;
  ordered = ordered_as log x new (ap (λ (z : Session). z.number) (sym m.is)) (ap (λ (z : Session). z.pieces) (sym m.is)) (ap (λ (z : Session). z.ended) (sym m.is)) at.ordered;
  does = does_as options x new (ap (λ (z : Session). z.number) m.is) (ap (λ (z : Session). z.pieces) m.is) (ap (λ (z : Session). z.wide) m.is) log at.does;
}

-- a session that has done its next event
pub own_at : EachReadsAsOne → (options : PoolOptions) (old new : BookView) (x y : Session) → old.options ≡ options → new.options ≡ options → y.number ≡ x.number → y.pieces ≡ x.pieces → y.wide ≡ x.wide → HasDone old new x y → IsAt options (log_tree old.log) x
    → IsAt options (log_tree new.log) y
own_at each options old new x y was is number pieces wide d at =
    let log = log_tree old.log in
    let event = event_tree d.event in
    let more = done_log old new x y d in
    let next = subst (λ (o : PoolOptions). IsNext (order_of x) o x.pieces x.number log event) was d.next in
    let ended = sym d.stands.ended ∙ (λ i. (progress_of (number i) (more i)).ended) in
    record {
      stands = subst (λ (o : PoolOptions). Stands o (log_tree new.log) y) is d.stands;
      worked = subst (λ (o : PoolOptions). IsWorked o (log_tree new.log) y) is d.worked;
      ordered = subst (λ (l : List EventTree). IsInOrder l y) (sym more)
          (own_ordered old.options log x (subst (λ (o : PoolOptions). Stands o log x) (sym was) at.stands) event each (order_of x) d.next d.ends at.ordered y number pieces ended);
      does = subst (λ (l : List EventTree). DoesNext options l y) (sym more) (does_own options x y number pieces wide log event next at.does);
    }

-- ## Its pass

module _ {V : Type 0} (options : PoolOptions) where
  -- the list at a turn begins with all that the session saw
  pub turn_seen : (old : Pass V Event) (x : Session) (list : List Event) → IsWith options old x → StartsWith list (seen_by old) → entries_by session_of (pass_number old) list ≡ own_entries old → HasSeen options list x
  turn_seen old x list w begins own = record {
    seen = seen_by old;
    begins = begins;
    own = ap (λ n. entries_by session_of n list) w.number ∙ own ∙ sym w.own ∙ ap (λ n. entries_by session_of n (seen_by old)) (sym w.number);
    at = w.at;
  }

  -- after the turn it has seen its own event
  pub left_with : (old mid new : Pass V Event) (x y : Session) (list after : List Event) → IsFree new → KeepsPlace old mid → KeepsPlace mid new → seen_by mid ≡ list → entries_by session_of (pass_number old) list ≡ own_entries old
      → own_entries mid ≡ own_entries old → seen_by new ≡ after → AddsEvent list x.number after → ((e : Event) → after ≡ seen_by mid ++ e ∷ [] → own_entries new ≡ own_entries mid ++ e ∷ []) → x.number ≡ pass_number old → y.number ≡ x.number
      → IsAt options (log_tree after) y → IsWith options new y
  left_with old mid new x y list after free first last saw own_first own_mid sees added own_last of number at =
      let place : pass_number new ≡ pass_number old = last.number ∙ first.number in
      let event = added.0 in
      record {
        free = free;
        number = number ∙ of ∙ sym place;
        own = (λ i. entries_by session_of (place i) (sees i)) ∙ ap (entries_by session_of (pass_number old)) added.1 ∙ by_append (pass_number old) list (event ∷ [])
            ∙ (λ i. own_first i ++ by_own (pass_number old) event (added.2 ∙ of) i) ∙ ap (λ l. l ++ event ∷ []) (sym own_mid) ∙ sym (own_last event (added.1 ∙ ap (λ l. l ++ event ∷ []) (sym saw)));
        at = subst (λ (l : List Event). IsAt options (log_tree l) y) (sym sees) at;
      }

  -- a session that has computed has seen as much
  pub computed_with : (pass : Pass V Event) (x new : Session) → GoesInPlan x x.stage → HasComputed x new → IsWith options pass x → IsWith options pass new
  computed_with pass x new in_plan c w = record { free = w.free; number = c.number ∙ w.number; own = w.own; at = computed_at options (log_tree (seen_by pass)) x new in_plan c w.at }

  -- likewise where its query has moved
  pub moved_with : (pass : Pass V Event) (x new : Session) → x.wide ≡ true → HasMoved x new → IsWith options pass x → IsWith options pass new
  moved_with pass x new wide m w = record { free = w.free; number = ap (λ (z : Session). z.number) m.is ∙ w.number; own = w.own; at = moved_at options (log_tree (seen_by pass)) x new wide m w.at }

  -- likewise after a turn in which it did an event
  pub added_with : (old mid new : Pass V Event) (x y : Session) (list after : List Event) → IsFree new → KeepsPlace old mid → KeepsPlace mid new → seen_by mid ≡ list → entries_by session_of (pass_number old) list ≡ own_entries old → own_entries mid ≡ own_entries old
      → seen_by new ≡ after → AddsOne session_of mid (seen_by new) → ((e : Event) → after ≡ seen_by mid ++ e ∷ [] → own_entries new ≡ own_entries mid ++ e ∷ []) → x.number ≡ pass_number old → y.number ≡ x.number → IsAt options (log_tree (seen_by new)) y
      → IsWith options new y
  added_with old mid new x y list after free first last saw own_first own_mid sees added own_last of number at =
      left_with old mid new x y list (seen_by new) free first last saw own_first own_mid refl (added.0, added.1 ∙ ap (λ l. l ++ added.0 ∷ []) saw, added.2 ∙ first.number ∙ sym of) (λ e is. own_last e (sym sees ∙ is)) of number at
