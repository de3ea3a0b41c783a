-- Many events of others, and a session that is done.
use Rattle.std.proofs.Common.{◌≡◌, ℕ, ◌≤◌, List, [], ◌∷◌, ◌++◌, length, false, ap, sym, ◌∙◌, subst, arith}
use Rattle.std.specs.Prelude.{◌==◌}
use Rattle.std.specs.List.{AllByRecursion}
use Rattle.std.proofs.lemmas.Bool.{ne_eqb}
use Rattle.std.proofs.lemmas.List.{append_assoc, append-nil, take_all}
use Rattle.pool_policy.specs.declared.options.PoolOptions.{PoolOptions}
use Rattle.run_log.specs.Events.{EventTree}
use Rattle.answer_text.specs.Layout.{replies_text}
use Rattle.answer_text.specs.Log.{Said}
use Rattle.book_core.specs.Lawful.{IsLawful}
use Rattle.book_core.proofs.LawfulLemmas.{lawful_front}
use Rattle.session_run.specs.declared.session.Session.{Session}
use Rattle.session_run.specs.declared.stage.Stage.TheVariants as stage
use Rattle.read_laws.specs.Readings.{AreReadings}
use Rattle.session_run.specs.Turns.{IsDone, IsNext, Order}
use Rattle.session_run.specs.Kept.{Stands, untold}
use Rattle.session_run.proofs.OtherLemmas.{others_stay}

-- a session agrees with the log, whatever events of others come next
pub others_along : (options : PoolOptions) (x : Session) (log more : List EventTree) → IsLawful options (log ++ more) → AllByRecursion (λ (event : EventTree). (event.session == x.number) ≡ false) more
    → Stands options log x → Stands options (log ++ more) x
others_along options x log [] lawful others s = subst (λ (events : List EventTree). Stands options events x) (sym (append-nil log)) s
others_along options x log (event ∷ more) lawful others s =
    let parts = append_assoc log (event ∷ []) more in
    let all = subst (IsLawful options) (sym parts) lawful in
    subst (λ (events : List EventTree). Stands options events x) parts
    (others_along options x (log ++ event ∷ []) more all others.1 (others_stay options log x event (lawful_front options (log ++ event ∷ []) more all) s others.0))

-- an event of one session is none of another
pub next_other : (order : Order) (options : PoolOptions) (pieces : List (List ℕ)) (session other : ℕ) (log : List EventTree) (event : EventTree) → IsNext order options pieces session log event → (session ≡ other → ⊥) → (event.session == other) ≡ false
next_other order options pieces session other log event next apart = ne_eqb event.session other (λ same. apart (sym next.own ∙ same))

-- a session is done where all its statements have ended
pub done_is : (options : PoolOptions) (log : List EventTree) (x : Session) → Stands options log x → length x.pieces ≤ x.ended → IsDone x.pieces x.number log
done_is options log x s all = let ended = s.ended in omega (arith, ended, all)

-- it has no reply to write then but the last, and its text is the replies to all its statements
pub done_text : (options : PoolOptions) (log : List EventTree) (x : Session) → Stands options log x → x.stage ≡ stage.Between → length x.pieces ≤ x.ended
    → (readings : List Said) × AreReadings x.pieces readings × (x.text.items ≡ replies_text log x.number readings)
done_text options log x s is all = (
  s.readings,
  subst (λ pieces. AreReadings pieces s.readings) (take_all x.ended x.pieces all) s.read,
  sym (append-nil x.text.items) ∙ ap (λ at. x.text.items ++ untold x.ended at) (sym is) ∙ s.text,
)
