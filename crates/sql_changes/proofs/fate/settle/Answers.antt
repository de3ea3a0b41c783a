use Rattle.sql_changes.proofs.FateLemmas.{all_settled}
use Rattle.sql_changes.proofs.fate.settle.Goals as goal

pub returns : goal.returns
returns c =
    all_settled c.rows.decided.items c.rows.ahead.items _ _ _ c.in_default.ensures.items c.in_default.ensures.rest c.rows.invariant.made
