use Rattle.sql_print.proofs.MapLemmas.{sets_texts}
use Rattle.sql_print.proofs.print.write_set_list.Goals as goal

pub returns : goal.returns
returns c = rw (sets_texts c.args.sets.now) c.write_listed.ensures
