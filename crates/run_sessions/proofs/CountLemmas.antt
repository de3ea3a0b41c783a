-- What a counter shows of turns.
use Rattle.std.proofs.Common.{◌≡◌, ℕ, ◌≤◌, List, [], ◌∷◌, refl, ap, ◌∙◌, subst, arith}
use Rattle.std.specs.Prelude.{Result}
use Rattle.sql_definitions.specs.declared.refusal.Refusal.{Refusal}
use Rattle.sql_tree.specs.declared.tree.Stmt.{Stmt}
use Rattle.book_core.specs.BookView.{BookView}
use Rattle.session_run.specs.declared.session.Session.{Session}
use Rattle.session_run.specs.declared.stage.Stage.{Stage}
use Rattle.session_run.specs.declared.stage.Stage.TheVariants as stage
use Rattle.session_run.specs.Works.{CountsAt, CountsInside, CountsOn, CountsOutside, CountsStart, done_by, lost_in, lost_next}
use Rattle.run_sessions.specs.Tables.{CountsTurns}

-- ## One turn

-- no stage loses anything where a statement is next
lost_between : (at : Stage) → lost_in at stage.Between ≡ 0
lost_between stage.Between = refl
lost_between (stage.Telling reply) = refl
lost_between (stage.Reading read) = refl
lost_between (stage.Querying from) = refl
lost_between (stage.Explaining plan) = refl

lost_reading : (at : Stage) (read : Result Stmt Refusal) → lost_in at (stage.Reading read) ≡ 0
lost_reading stage.Between read = refl
lost_reading (stage.Telling reply) read = refl
lost_reading (stage.Querying from) read = refl
lost_reading (stage.Explaining plan) read = refl
lost_reading (stage.Reading other) read = refl

module _ (old new : BookView) (x mid y : Session) (from before to : ℕ) (outside : CountsOutside x mid from before) where
  starts_counts : lost_in x.stage mid.stage ≡ 0 → done_by y ≡ done_by mid → CountsStart old new before to → CountsTurns old new (x ∷ []) (y ∷ []) from to
  starts_counts none same start =
      let least = outside.least in
      let most = outside.most in
      let more_least = start.least in
      let more_most = start.most in
      record { least = omega (arith, least, more_least, same); most = omega (arith, most, more_most, same, none) }

  goes_counts : (lost : ℕ) → lost_in x.stage mid.stage ≤ lost → done_by y ≡ done_by mid → CountsOn old new before to lost → CountsTurns old new (x ∷ []) (y ∷ []) from to
  goes_counts lost few same on =
      let least = outside.least in
      let most = outside.most in
      let steps = on.steps in
      let totals = on.totals in
      let more = on.lost in
      record { least = omega (arith, least, steps, totals, same); most = omega (arith, most, steps, totals, more, same, few) }

  -- a session computes, and does its next event
  pub event_counts : lost_in x.stage mid.stage ≤ lost_next old x.number mid.stage → mid.number ≡ x.number → CountsInside old new mid y before to → CountsTurns old new (x ∷ []) (y ∷ []) from to
  event_counts few number inside = go mid.stage refl few (subst (λ n. CountsAt old new n mid.stage before to) number inside.counts)
    where
      go : (at : Stage) → mid.stage ≡ at → lost_in x.stage mid.stage ≤ lost_next old x.number at → CountsAt old new x.number at before to → CountsTurns old new (x ∷ []) (y ∷ []) from to
      go stage.Between is low counts = starts_counts (ap (lost_in x.stage) is ∙ lost_between x.stage) inside.done counts
      go (stage.Reading read) is low counts = starts_counts (ap (lost_in x.stage) is ∙ lost_reading x.stage read) inside.done counts
      go (stage.Querying at) is low counts = goes_counts (lost_next old x.number (stage.Querying at)) low inside.done counts
      go (stage.Explaining plan) is low counts = goes_counts 0 low inside.done counts
      go (stage.Telling reply) is low counts = goes_counts 0 low inside.done counts

-- a session computes, and is over
pub over_counts : (book : BookView) (x mid : Session) (from to : ℕ) → CountsOutside x mid from to → mid.stage ≡ stage.Between → CountsTurns book book (x ∷ []) (mid ∷ []) from to
over_counts book x mid from to outside is =
    let least = outside.least in
    let most = outside.most in
    let none = ap (lost_in x.stage) is ∙ lost_between x.stage in
    record { least = omega (arith, least); most = omega (arith, most, none) }

-- ## Many turns

-- no turn
pub none_counted : (book : BookView) (sessions : List Session) (n : ℕ) → CountsTurns book book sessions sessions n n
none_counted book sessions n = record { least = omega arith; most = omega arith }

-- turns after turns
pub then_counted : (a b c : BookView) (x y z : List Session) (i j k : ℕ) → CountsTurns a b x y i j → CountsTurns b c y z j k → CountsTurns a c x z i k
then_counted a b c x y z i j k p q =
    let least = p.least in
    let most = p.most in
    let more_least = q.least in
    let more_most = q.most in
    record { least = omega (arith, least, more_least); most = omega (arith, most, more_most) }
