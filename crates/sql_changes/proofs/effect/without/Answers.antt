use Rattle.std.proofs.Common.{rules}
use Rattle.std.specs.Prelude.{bytes_eq, not}
use Rattle.std.proofs.lemmas.Fn.{filter_same}
use Rattle.cell_core.specs.declared.table.Table.{Table}
use Rattle.sql_changes.proofs.effect.without.Goals as goal

pub returns : goal.returns
returns c =
    filter_same _ (λ (table : Table). not (bytes_eq table.name c.args.name.now)) _ (λ x b f' t. search rules) _ _ c.retain.ensures.filtered
