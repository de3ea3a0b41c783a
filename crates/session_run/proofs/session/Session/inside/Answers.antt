use Rattle.std.proofs.Common.{rules, ◌≡◌, ℕ, subst, sym, Result, Ok, Err}
use Rattle.std.specs.Result.{OnOk}
use Rattle.session_run.specs.declared.stage.Stage.{Stage}
use Rattle.session_run.specs.declared.stage.Stage.TheVariants as stage
use Rattle.session_run.specs.Stages.{Follows, HasDone, at_stage}
use Rattle.session_run.specs.Kept.{Stands}
use Rattle.session_run.specs.Works.{CountsInside, IsWorked}
use Rattle.std.proofs.lemmas.Result.{on_ok_weaker}
use Rattle.run_log.specs.Events.{log_tree}
use Rattle.session_run.proofs.CountLemmas.{started_as}
use Rattle.session_run.proofs.DoesLemmas.{done_as}
use Rattle.session_run.proofs.StageLemmas.{read_between}
use Rattle.session_run.proofs.session.Session.inside.Goals as goal

pub start-requires : goal.start-requires
start-requires g c =
    let is : c.args.self.now.stage ≡ stage.Reading c.in-Reading.read = search rules in
    let between : c.replace-stage.new.dest ≡ stage.Between = search rules in
    let both = read_between c.args.book.now.options (log_tree c.args.book.now.log) c.args.self.now c.requires.stands c.in-Reading.read is in
    let worked : IsWorked c.args.book.now.options (log_tree c.args.book.now.log) (at_stage c.args.self.now stage.Between) = record { work = c.requires.worked.work; stage = tt } in
    record {
      scorer = c.requires.scorer;
      between = between;
      stands = subst (λ (at : Stage). Stands c.args.book.now.options (log_tree c.args.book.now.log) (at_stage c.args.self.now at)) (sym between) both.0;
      worked = subst (λ (at : Stage). IsWorked c.args.book.now.options (log_tree c.args.book.now.log) (at_stage c.args.self.now at)) (sym between) worked;
      read = both.1;
    }

pub returns-in-Reading-clause-does : goal.returns-in-Reading-clause-does
returns-in-Reading-clause-does g c =
    on_ok_weaker c.start.result (λ does. done_as c.args.book.now c.start.new.book c.args.self.now c.start.new.self c.replace-stage.new.dest does) c.start.ensures.does

pub returns-in-Reading-clause-counts : goal.returns-in-Reading-clause-counts
returns-in-Reading-clause-counts g c =
    let is : c.args.self.now.stage ≡ stage.Reading c.in-Reading.read = search rules in
    let between : c.replace-stage.new.dest ≡ stage.Between = search rules in
    on_ok_weaker c.start.result (λ counts. started_as c.args.book.now c.start.new.book c.args.self.now c.start.new.self c.in-Reading.read is c.args.steps.now c.start.new.steps
    (subst (λ (at : Stage). CountsInside c.args.book.now c.start.new.book (at_stage c.args.self.now at) c.start.new.self c.args.steps.now c.start.new.steps) between counts)) c.start.ensures.counts

pub returns-in-Querying-clause-does : goal.returns-in-Querying-clause-does
returns-in-Querying-clause-does g c =
    let is : stage.Querying c.in-Querying.step ≡ c.args.self.now.stage = search rules in
    subst (λ (at : Stage). OnOk c.go_on.result (HasDone c.args.book.now c.go_on.new.book (at_stage c.args.self.now at) c.go_on.new.self)) is c.go_on.ensures.does

pub returns-in-Querying-clause-counts : goal.returns-in-Querying-clause-counts
returns-in-Querying-clause-counts g c =
    let is : stage.Querying c.in-Querying.step ≡ c.args.self.now.stage = search rules in
    subst (λ (at : Stage). OnOk c.go_on.result (CountsInside c.args.book.now c.go_on.new.book (at_stage c.args.self.now at) c.go_on.new.self c.args.steps.now c.args.steps.now)) is
    (go (λ steps. CountsInside c.args.book.now c.go_on.new.book (at_stage c.args.self.now (stage.Querying c.in-Querying.step)) c.go_on.new.self steps steps) c.go_on.result c.go_on.ensures.counts)
  where
    go : {T E : Type 0} (P : ℕ → Type 0) (r : Result T E) → OnOk r ((steps : ℕ) → P steps) → OnOk r (P c.args.steps.now)
    go P (Ok v) all = all c.args.steps.now
    go P (Err e) all = tt

pub returns-in-Reading-clause-follows : goal.returns-in-Reading-clause-follows
returns-in-Reading-clause-follows g c =
    let is : c.args.self.now.stage ≡ stage.Reading c.in-Reading.read = search rules in
    subst (λ (at : Stage). OnOk c.start.result (Follows at c.start.new.self.stage)) (sym is) c.start.ensures.begins

pub returns-in-Querying-clause-follows : goal.returns-in-Querying-clause-follows
returns-in-Querying-clause-follows g c =
    let is : stage.Querying c.in-Querying.step ≡ c.args.self.now.stage = search rules in
    subst (λ (at : Stage). OnOk c.go_on.result (Follows at c.go_on.new.self.stage)) is c.go_on.ensures.follows
