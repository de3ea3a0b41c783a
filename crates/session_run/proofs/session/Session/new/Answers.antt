use Rattle.std.proofs.Common.{refl, rules}
use Rattle.session_run.proofs.StageLemmas.{new_stands}
use Rattle.session_run.proofs.session.Session.new.Goals as goal

pub returns-clause-stands : goal.returns-clause-stands
returns-clause-stands c = λ options. new_stands options _ c.requires.low c.requires.high c.requires.short refl (search rules) refl
