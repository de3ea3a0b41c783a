-- What is read as a statement, and only that, is derived.
use Rattle.std.proofs.Common.{◌≡◌, ℕ, List, [], ◌∷◌, map, Option, Some, None, refl, ap, sym, ◌∙◌, subst}
use Rattle.std.specs.Option.{option_map}
use Rattle.cell_core.specs.declared.cell.Cell.{Cell}
use Rattle.cell_core.specs.declared.table.Column.{Column}
use Rattle.sql_grammar.specs.Statements.{write_stmt, stmt_of, Derives}
use Rattle.read_laws.specs.Bounded.{Builder, as_written, bounded}
use Rattle.read_laws.specs.Chain.{Found}
use Rattle.read_laws.specs.DerivedExprs.{cond_with}
use Rattle.text_bytes.proofs.FoundLemmas.{pair_found}
use Rattle.read_laws.proofs.CondLaws.{same_cond}
use Rattle.read_laws.proofs.ExprLaws.{same_cell, same_tree}
use Rattle.sql_tree.specs.Tree.{ExprTree, CondTree, ItemTree, QueryTree, StmtTree}
use Rattle.sql_tree.specs.Tree.StmtTree.{CreateTable, DropTable, AlterTable, InsertInto, DeleteFrom, UpdateTable, Select, ExplainSelect}
use Rattle.sql_tree.specs.declared.token.Token.{Token}
use Rattle.sql_tree.specs.declared.tree.Place.{Place}
use Rattle.sql_tree.specs.declared.tree.Place.TheVariants.{Position, Named}
use Rattle.sql_tree.specs.declared.tree.SortKey.{SortKey}
use Rattle.read_laws.specs.DerivedStmts.{column_with, key_with, item_with, set_with, query_with, stmt_with, count_64, length_32, IsReadStmt}
use Rattle.read_laws.specs.StmtReader.{stmt}
use Rattle.read_laws.proofs.QuerySound.{stmt_found}
use Rattle.read_laws.proofs.QueryComplete.{stmt_told}

map_same : {X : Type 0} (f : X → X) → ((x : X) → f x ≡ x) → (xs : List X) → map f xs ≡ xs
map_same f same [] = refl
map_same f same (x ∷ xs) = ap (λ y. y ∷ map f xs) (same x) ∙ ap (λ ys. x ∷ ys) (map_same f same xs)

option_same : {X : Type 0} (f : X → X) → ((x : X) → f x ≡ x) → (o : Option X) → option_map f o ≡ o
option_same f same None = refl
option_same f same (Some x) = ap Some (same x)

abbrev own : ℕ → ℕ
own n = n

same_column : (c : Column) → column_with as_written own own c ≡ c
same_column c = ap (λ (d : Cell). let made : Column = record { name = c.name; kind = c.kind; width = c.width; not_null = c.not_null; default = d } in made) (same_cell c.default)

same_key : (k : SortKey) → key_with as_written own own k ≡ k
same_key k = at k.at
  where
    at : (p : Place) → key_with as_written own own (record { at = p; ascending = k.ascending }) ≡ record { at = p; ascending = k.ascending }
    at (Position n) = refl
    at (Named column) = refl

same_item : (i : ItemTree) → item_with as_written own own i ≡ i
same_item i = ap (λ (e : ExprTree). let j : ItemTree = record { expr = e; alias = i.alias } in j) (same_tree i.expr)

same_set : (s : List ℕ × ExprTree) → set_with as_written own own s ≡ s
same_set s = ap (λ (e : ExprTree). let t : List ℕ × ExprTree = (s.0, e) in t) (same_tree s.1)

abbrev with_parts : QueryTree → List ItemTree → Option CondTree → Option CondTree → List SortKey → Option ℕ → QueryTree
with_parts q i c h k l = record { distinct = q.distinct; items = i; froms = q.froms; cond = c; groups = q.groups; having = h; keys = k; limit = l }

same_query : (q : QueryTree) → query_with as_written own own q ≡ q
same_query q =
    ap (λ (i : List ItemTree). with_parts q i (option_map (cond_with as_written) q.cond) (option_map (cond_with as_written) q.having) (map (key_with as_written own own) q.keys) (option_map own q.limit)) (map_same _ same_item q.items)
    ∙ ap (λ (c : Option CondTree). with_parts q q.items c (option_map (cond_with as_written) q.having) (map (key_with as_written own own) q.keys) (option_map own q.limit)) (option_same _ same_cond q.cond)
    ∙ ap (λ (h : Option CondTree). with_parts q q.items q.cond h (map (key_with as_written own own) q.keys) (option_map own q.limit)) (option_same _ same_cond q.having)
    ∙ ap (λ (k : List SortKey). with_parts q q.items q.cond q.having k (option_map own q.limit)) (map_same _ same_key q.keys)
    ∙ ap (λ (l : Option ℕ). with_parts q q.items q.cond q.having q.keys l) (option_same own (λ n. refl) q.limit)

-- the numbers of a statement are its own
same_stmt : (s : StmtTree) → stmt_with as_written own own s ≡ s
same_stmt (CreateTable table columns) = ap (CreateTable table) (map_same _ same_column columns)
same_stmt (DropTable table) = refl
same_stmt (AlterTable table column) = ap (AlterTable table) (same_column column)
same_stmt (InsertInto table columns rows) = ap (InsertInto table columns) (map_same _ (map_same _ same_cell) rows)
same_stmt (DeleteFrom table cond) = ap (DeleteFrom table) (option_same _ same_cond cond)
same_stmt (UpdateTable table sets cond) = ap (λ s. UpdateTable table s (option_map (cond_with as_written) cond)) (map_same _ same_set sets) ∙ ap (UpdateTable table sets) (option_same _ same_cond cond)
same_stmt (Select query) = ap Select (same_query query)
same_stmt (ExplainSelect query) = ap ExplainSelect (same_query query)

-- what tokens derive is read from them
derived_told : (build : Builder) (count : ℕ → ℕ) (long : ℕ → ℕ) (ts : List Token) (s : StmtTree) → Derives ts s → stmt build count long ts ≡ Some (stmt_with build count long s, [])
derived_told build count long ts s is =
    let P : List Token → Type 0 = λ ts. stmt build count long ts ≡ Some (stmt_with build count long s, []) in
    let told : P (write_stmt is.rule) = stmt_told build count long is.rule ∙ ap (λ (s : StmtTree). let f : Found StmtTree = Some (stmt_with build count long s, []) in f) is.statement_is in
    subst P is.tokens_are told

pub one_stmt_of : (ts : List Token) (a b : StmtTree) → Derives ts a → Derives ts b → a ≡ b
one_stmt_of ts a b first second =
    let both = pair_found _ _ _ _ (sym (derived_told as_written own own ts a first) ∙ derived_told as_written own own ts b second) in
    sym (same_stmt a) ∙ both.0 ∙ same_stmt b

-- what is read is derived, and what is derived is read
pub stmt_read : (ts : List Token) (x : StmtTree) → stmt bounded count_64 length_32 ts ≡ Some (x, []) → IsReadStmt ts x
stmt_read ts x h =
    let form = stmt_found bounded count_64 length_32 ts x h in
    record { statement = stmt_of form.rule; derived = record { rule = form.rule; tokens_are = form.written; statement_is = refl }; tree_is = form.means }

pub read_told : (ts : List Token) (s : StmtTree) → Derives ts s → stmt bounded count_64 length_32 ts ≡ Some (stmt_with bounded count_64 length_32 s, [])
read_told ts s is = derived_told bounded count_64 length_32 ts s is
