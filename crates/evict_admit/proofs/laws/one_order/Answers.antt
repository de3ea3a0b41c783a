use Rattle.evict_admit.proofs.Lines.{one_order_holds}
use Rattle.evict_admit.proofs.laws.one_order.Goals as goal

pub returns : goal.returns
returns c = one_order_holds
