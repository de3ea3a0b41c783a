use Rattle.pool_policy.proofs.ColumnLaws.{columns_hold_all}
use Rattle.pool_policy.proofs.laws.columns_hold.Goals as goal

pub returns : goal.returns
returns c = columns_hold_all
