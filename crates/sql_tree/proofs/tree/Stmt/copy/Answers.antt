use Rattle.std.proofs.Common.{refl, ap}
use Rattle.sql_tree.specs.Tree.StmtTree.{DropTable, Select, ExplainSelect}
use Rattle.sql_tree.proofs.tree.Stmt.copy.Goals as goal

pub returns-in_ok-table-in-Create : goal.returns-in_ok-table-in-Create
returns-in_ok-table-in-Create c =
    let (table, columns) = c.in_ok-table-in-Create.ensures in
    let shared = rw table at c.share.ensures in
    let copied = rw columns at c.copy_columns.ensures in
    rw (c.in-Create.is, shared, copied, c.as_slice.ensures) refl

pub returns-in_ok-table-in-Alter : goal.returns-in_ok-table-in-Alter
returns-in_ok-table-in-Alter c =
    let (table, column) = c.in_ok-table-in-Alter.ensures in
    let shared = rw table at c.share-in-Alter.ensures in
    let column_shared = rw column at c.share-in-Alter-2.ensures in
    rw (c.in-Alter.is, shared, column_shared) refl

pub returns-in_ok-table-in-Delete : goal.returns-in_ok-table-in-Delete
returns-in_ok-table-in-Delete c =
    let (table, cond) = c.in_ok-table-in-Delete.ensures in
    let shared = rw table at c.share-in-Delete.ensures in
    let copied = rw cond at c.copy_cond.ensures in
    rw (c.in-Delete.is, shared, copied, c.as_ref.ensures.value) refl

pub returns-in-Insert : goal.returns-in-Insert
returns-in-Insert c =
    let copied = rw (c.as_slice-in-Insert.ensures, c.as_slice-in-Insert-2.ensures) at c.copy_insert.ensures in
    rw c.in-Insert.is copied

pub returns-in-Update : goal.returns-in-Update
returns-in-Update c =
    let copied = rw (c.as_slice-in-Update.ensures, c.as_ref-in-Update.ensures.value) at c.copy_update.ensures in
    rw c.in-Update.is copied

pub returns-in_ok-share-in-Drop : goal.returns-in_ok-share-in-Drop
returns-in_ok-share-in-Drop c = rw c.in-Drop.is (ap DropTable c.in_ok-share-in-Drop.ensures)

pub returns-in_ok-copy-in-Query : goal.returns-in_ok-copy-in-Query
returns-in_ok-copy-in-Query c = rw c.in-Query.is (ap Select c.in_ok-copy-in-Query.ensures)

pub returns-in_ok-copy-in-Explain : goal.returns-in_ok-copy-in-Explain
returns-in_ok-copy-in-Explain c = rw c.in-Explain.is (ap ExplainSelect c.in_ok-copy-in-Explain.ensures)
