use Rattle.read_laws.proofs.TextsRead.{each_reads_as_one}
use Rattle.read_laws.proofs.laws.one_reading.Goals as goal

pub returns : goal.returns
returns c = each_reads_as_one c.one_list.ensures c.one_stmt.ensures
