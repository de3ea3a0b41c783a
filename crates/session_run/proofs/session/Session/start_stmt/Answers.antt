use Rattle.session_run.proofs.DoesLemmas.{change_of}
use Rattle.session_run.proofs.session.Session.start_stmt.Goals as goal

pub change-requires : goal.change-requires
change-requires g c = record {
  scorer = c.requires.scorer;
  between = c.requires.between;
  stands = c.requires.stands;
  worked = c.requires.worked;
  change = change_of c.args.stmt c.in_default.not-Query c.in_default.not-Explain;
  formed = c.requires.formed;
  read = c.requires.read;
}
