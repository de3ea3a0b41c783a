-- Workers that return their passes.
use Rattle.std.specs.Prelude.{◌≡◌, List}
use Rattle.std.specs.List.{AllByRecursion}
use Rattle.std.specs.declared.thread.PromisedHandle.{PromisedHandle}
use Rattle.dataflow.specs.declared.team.Team.{Team}
use Rattle.dataflow.specs.declared.queues.Hands.{Hands}
use Rattle.dataflow.specs.declared.run.GivesBack.{GivesBack}

-- each promised to return passes of this team's queues
abbrev pub GiveBackTo : {K : Type 0} → Team K → List (PromisedHandle Hands (GivesBack K)) → Type 0
GiveBackTo team started = AllByRecursion (λ w. w.promise.team.now ≡ team) started
