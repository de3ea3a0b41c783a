-- Where no token is left after a statement.
use Rattle.std.proofs.Common.{◌≡◌, List, [], Some, Result, Ok, Err, ap, sym, ◌∙◌}
use Rattle.std.specs.Prelude.{IfOk, OnOk}
use Rattle.read_laws.proofs.ChainLemmas.{all_found}
use Rattle.read_laws.specs.Chain.{Found}
use Rattle.sql_reader.specs.declared.reading.TreeError.{TreeError}
use Rattle.sql_tree.specs.Tree.{StmtTree, stmt_tree}
use Rattle.sql_tree.specs.declared.token.Token.{Token}
use Rattle.sql_tree.specs.declared.tree.Stmt.{Stmt}

-- where no token is left after a statement, it is what all of them are read as
pub if_alone : (o : Found StmtTree) (t : StmtTree) (rest : List Token) → o ≡ Some (t, rest) → (P : StmtTree → Type 0) → ((x : StmtTree) → o ≡ Some (x, []) → P x)
    → (result : Result Stmt TreeError) → IfOk result (λ s. stmt_tree s ≡ t) → OnOk result (rest ≡ []) → IfOk result (λ s. P (stmt_tree s))
if_alone o t rest h P told (Ok s) same none = told (stmt_tree s) (all_found o (stmt_tree s) rest (h ∙ ap (λ (t : StmtTree). let f : Found StmtTree = Some (t, rest) in f) (sym same)) none)
if_alone o t rest h P told (Err e) same none = tt
