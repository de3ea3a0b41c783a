use Rattle.sql_kinds.proofs.EffectLemmas.{effect_holds, replay_holds}
use Rattle.sql_kinds.proofs.statements_keep_valid.Goals as goal

pub returns-clause-kept : goal.returns-clause-kept
returns-clause-kept c = effect_holds

pub returns-clause-replayed : goal.returns-clause-replayed
returns-clause-replayed c = replay_holds
