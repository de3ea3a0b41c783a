use Rattle.std.proofs.Common.{◌≡◌, ap, subst, ◌∙◌, IfOk}
use Rattle.cell_core.specs.Pairs.{Pairs}
use Rattle.chunk_core.specs.Filled.{oids_from}
use Rattle.table_columns.proofs.ColumnLemmas.{oids_long, zip_numbered}
use Rattle.table_columns.proofs.parts.numbered_column.Goals as goal

pub from_columns-requires : goal.from_columns-requires
from_columns-requires c = oids_long c.in_ok-heads.heads c.args.cells (c.in_ok-heads.ensures ∙ ap (oids_from 0) c.len.ensures.len)

pub returns : goal.returns
returns c =
    subst (λ (b : Pairs). IfOk c.new.result (λ column. column ≡ b))
    (c.from_columns.ensures ∙ zip_numbered c.in_ok-heads.heads c.args.cells (c.in_ok-heads.ensures ∙ ap (oids_from 0) c.len.ensures.len)) c.new.ensures
