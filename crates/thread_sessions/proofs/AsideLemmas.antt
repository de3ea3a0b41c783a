-- Stages at which no query is under way in its plan.
use Rattle.std.proofs.Common.{◌≡◌, ℕ, List, ap, sym, ◌∙◌, subst}
use Rattle.query_run.specs.declared.step.Step.{Step}
use Rattle.query_run.specs.declared.step.Step.TheVariants as step
use Rattle.session_run.specs.declared.session.Session.{Session}
use Rattle.session_run.specs.declared.stage.Stage.{Stage}
use Rattle.session_run.specs.declared.stage.Stage.TheVariants as stage
use Rattle.session_run.specs.Stages.{ComesTo, Follows, GoesInPlan, HasComputed, IsAside, MayBegin, ReadsOn}

-- a session computes nothing of a plan there
pub aside_goes : (x : Session) (at : Stage) → IsAside at → GoesInPlan x at
aside_goes x (stage.Querying (step.Ending reply work)) aside = tt
aside_goes x (stage.Querying (step.Begun q)) aside = absurd aside
aside_goes x (stage.Querying (step.Open q)) aside = absurd aside
aside_goes x (stage.Querying (step.Asking q n key)) aside = absurd aside
aside_goes x (stage.Querying (step.Found q n what parts)) aside = absurd aside
aside_goes x (stage.Querying (step.Offering q n offer)) aside = absurd aside
aside_goes x (stage.Explaining plan) aside = tt
aside_goes x (stage.Reading read) aside = tt
aside_goes x (stage.Telling reply) aside = tt
aside_goes x stage.Between aside = tt

reads_aside : (pieces : List (List ℕ)) (ended : ℕ) (next : Stage) → ReadsOn pieces ended next → IsAside next
reads_aside pieces ended stage.Between all = tt
reads_aside pieces ended (stage.Reading read) has = tt
reads_aside pieces ended (stage.Querying at) never = absurd never
reads_aside pieces ended (stage.Explaining plan) never = absurd never
reads_aside pieces ended (stage.Telling reply) never = absurd never

-- and comes to such a stage again
comes_aside : (x : Session) (at next : Stage) (text : List ℕ) → IsAside at → ComesTo x at next text → IsAside next
comes_aside x (stage.Querying (step.Ending reply work)) next text aside c = subst IsAside (sym (c.1 ∙ ap stage.Querying c.2)) tt
comes_aside x (stage.Querying (step.Begun q)) next text aside c = absurd aside
comes_aside x (stage.Querying (step.Open q)) next text aside c = absurd aside
comes_aside x (stage.Querying (step.Asking q n key)) next text aside c = absurd aside
comes_aside x (stage.Querying (step.Found q n what parts)) next text aside c = absurd aside
comes_aside x (stage.Querying (step.Offering q n offer)) next text aside c = absurd aside
comes_aside x (stage.Explaining plan) next text aside c = subst IsAside (sym c.0) tt
comes_aside x (stage.Reading read) next text aside c = subst IsAside (sym c.0) tt
comes_aside x (stage.Telling reply) next text aside c = reads_aside x.pieces x.ended next c.0
comes_aside x stage.Between next text aside c = reads_aside x.pieces x.ended next c.0

pub computed_aside : (x new : Session) → HasComputed x new → IsAside x.stage → IsAside new.stage
computed_aside x new c aside = comes_aside x x.stage new.stage new.text.items aside c.stage

-- after an event there a query has begun at most
follows_aside : (from next : Stage) → IsAside from → Follows from next → MayBegin next
follows_aside (stage.Querying (step.Ending reply work)) next aside f = f
follows_aside (stage.Querying (step.Begun q)) next aside f = f
follows_aside (stage.Querying (step.Open q)) next aside f = f
follows_aside (stage.Querying (step.Asking q n key)) next aside f = absurd aside
follows_aside (stage.Querying (step.Found q n what parts)) next aside f = f
follows_aside (stage.Querying (step.Offering q n offer)) next aside f = absurd aside
follows_aside (stage.Explaining plan) next aside f = f
follows_aside (stage.Reading read) next aside f = f
follows_aside (stage.Telling reply) next aside f = f
follows_aside stage.Between next aside f = f

pub event_aside : (x mid y : Session) → HasComputed x mid → Follows mid.stage y.stage → IsAside x.stage → MayBegin y.stage
event_aside x mid y c f aside = follows_aside mid.stage y.stage (computed_aside x mid c aside) f

-- a query may begin where none is under way
pub may_begin : (at : Stage) → IsAside at → MayBegin at
may_begin (stage.Querying (step.Ending reply work)) aside = tt
may_begin (stage.Querying (step.Begun q)) aside = tt
may_begin (stage.Querying (step.Open q)) aside = absurd aside
may_begin (stage.Querying (step.Asking q n key)) aside = absurd aside
may_begin (stage.Querying (step.Found q n what parts)) aside = absurd aside
may_begin (stage.Querying (step.Offering q n offer)) aside = absurd aside
may_begin (stage.Explaining plan) aside = tt
may_begin (stage.Reading read) aside = tt
may_begin (stage.Telling reply) aside = tt
may_begin stage.Between aside = tt
