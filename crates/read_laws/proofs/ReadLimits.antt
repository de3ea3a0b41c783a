-- Reading a statement keeps the limits that it passes.
use Rattle.std.proofs.Common.{◌≡◌, ℕ, ◌+◌, List, [], ◌∷◌, ◌++◌, Bool, true, false, ◌||◌, Option, Some, None, length, map, refl, ap, sym, ◌∙◌, nat_lt}
use Rattle.std.specs.Prelude.{if◌then◌else◌, codes}
use Rattle.std.specs.List.{list_any}
use Rattle.std.specs.Option.{option_map}
use Rattle.std.proofs.lemmas.List.{length-map, map-append}
use Rattle.cell_core.specs.declared.cell.Cell.{Cell}
use Rattle.cell_core.specs.declared.cell.Cell.TheVariants as cell
use Rattle.cell_core.specs.declared.table.Column.{Column}
use Rattle.sql_tree.specs.Exprs.{cond_exprs, exprs_of_cond}
use Rattle.sql_grammar.specs.Refused.{is_out_of_range, is_wide_cell, has_wide_literal, expr_nodes, cond_nodes, stmt_exprs, nodes_of_cond, is_wide_place, is_wide_limit, has_wide_number, has_wide_default, passes_literal, passed_limits, passes_conditions, is_long_name, columns_pass, query_passes}
use Rattle.sql_tree.specs.Tree.{ExprTree, CondTree, ItemTree, QueryTree, StmtTree}
use Rattle.sql_tree.specs.Tree.ExprTree.{Literal, ColumnOf, Operator, AggregateAll, Aggregate}
use Rattle.sql_tree.specs.Tree.CondTree.{Compare, Within, IsNull, Negation, Both, Either}
use Rattle.sql_tree.specs.Tree.StmtTree.{CreateTable, DropTable, AlterTable, InsertInto, DeleteFrom, UpdateTable, Select, ExplainSelect}
use Rattle.sql_tree.specs.declared.token.Token.{Token}
use Rattle.sql_tree.specs.declared.tree.Place.{Place}
use Rattle.sql_tree.specs.declared.tree.Place.TheVariants.{Position, Named}
use Rattle.sql_tree.specs.declared.tree.SortKey.{SortKey}
use Rattle.read_laws.specs.Unread.{unread_cell, is_unread_cell, has_literal, stmt_has_literal, passes_literal_as_read, read_limits, cell_as_read, expr_as_read, cond_as_read, item_as_read, set_as_read, Kept, column_as_read, place_as_read, key_as_read, query_as_read, stmt_as_read}
use Rattle.read_laws.specs.LimitLaws.{KeepsLimits}

-- no cell of a derived statement is a Huge
abbrev pub is_huge : Cell → Bool
is_huge (cell.Huge n) = true
is_huge other = false

pub or_left : (a b : Bool) → (a || b) ≡ false → a ≡ false
or_left true b e = cc
or_left false b e = refl

pub or_right : (a b : Bool) → (a || b) ≡ false → b ≡ false
or_right true b e = cc
or_right false b e = e

both : (a b c d : Bool) → a ≡ c → b ≡ d → (a || b) ≡ (c || d)
both a b c d e f = cc

-- ## Literals

unread_read : (c : Cell) → is_huge c ≡ false → is_unread_cell (cell_as_read c) ≡ is_wide_cell c
unread_read cell.Nil e = refl
unread_read (cell.Int n) e = go (is_out_of_range n) refl
  where
    go : (b : Bool) → is_out_of_range n ≡ b → is_unread_cell (if b then unread_cell else cell.Int n) ≡ b
    go true h = refl
    go false h = h
unread_read (cell.Huge n) e = cc
unread_read (cell.Text text) e = refl
unread_read (cell.Day day) e = refl
unread_read (cell.Bit b) e = refl
unread_read (cell.Oid n) e = refl

literal_read : (e : ExprTree) → has_literal is_huge e ≡ false → has_literal is_unread_cell (expr_as_read e) ≡ has_wide_literal e
literal_read (Literal literal) h = unread_read literal h
literal_read (ColumnOf column) h = refl
literal_read (Operator op left right) h = both _ _ _ _ (literal_read left (or_left _ _ h)) (literal_read right (or_right _ _ h))
literal_read (AggregateAll f) h = refl
literal_read (Aggregate f of) h = literal_read of h

-- what a test of all elements becomes once each is read
module _ {X Y : Type 0} (f : X → Y) (p : Y → Bool) (nil q : X → Bool) (one : (x : X) → nil x ≡ false → p (f x) ≡ q x) where
  any_read : (xs : List X) → list_any nil xs ≡ false → list_any p (map f xs) ≡ list_any q xs
  any_read [] h = refl
  any_read (x ∷ xs) h = both _ _ _ _ (one x (or_left _ _ h)) (any_read xs (or_right _ _ h))

any_same : {X Y : Type 0} (f : X → Y) (p : Y → Bool) (q : X → Bool) → ((x : X) → p (f x) ≡ q x) → (xs : List X) → list_any p (map f xs) ≡ list_any q xs
any_same f p q one [] = refl
any_same f p q one (x ∷ xs) = both _ _ _ _ (one x) (any_same f p q one xs)

-- ## Expressions

nodes_read : (e : ExprTree) → expr_nodes (expr_as_read e) ≡ expr_nodes e
nodes_read (Literal literal) = refl
nodes_read (ColumnOf column) = refl
nodes_read (Operator op left right) = let a = nodes_read left in let b = nodes_read right in cc
nodes_read (AggregateAll f) = refl
nodes_read (Aggregate f of) = nodes_read of

cond_nodes_read : (c : CondTree) → cond_nodes (cond_as_read c) ≡ cond_nodes c
cond_nodes_read (Compare op left right) = refl
cond_nodes_read (Within of low high) = refl
cond_nodes_read (IsNull of) = refl
cond_nodes_read (Negation cond) = ap (λ n. n + 1) (cond_nodes_read cond)
cond_nodes_read (Both left right) = let a = cond_nodes_read left in let b = cond_nodes_read right in cc
cond_nodes_read (Either left right) = let a = cond_nodes_read left in let b = cond_nodes_read right in cc

of_cond_read : (o : Option CondTree) → nodes_of_cond (option_map cond_as_read o) ≡ nodes_of_cond o
of_cond_read None = refl
of_cond_read (Some c) = cond_nodes_read c

exprs_read : (c : CondTree) → cond_exprs (cond_as_read c) ≡ map expr_as_read (cond_exprs c)
exprs_read (Compare op left right) = refl
exprs_read (Within of low high) = refl
exprs_read (IsNull of) = refl
exprs_read (Negation cond) = exprs_read cond
exprs_read (Both left right) = ap (λ xs. xs ++ cond_exprs (cond_as_read right)) (exprs_read left) ∙ ap (λ ys. map expr_as_read (cond_exprs left) ++ ys) (exprs_read right) ∙ sym (map-append expr_as_read (cond_exprs left) (cond_exprs right))
exprs_read (Either left right) = ap (λ xs. xs ++ cond_exprs (cond_as_read right)) (exprs_read left) ∙ ap (λ ys. map expr_as_read (cond_exprs left) ++ ys) (exprs_read right) ∙ sym (map-append expr_as_read (cond_exprs left) (cond_exprs right))

of_cond_exprs : (o : Option CondTree) → exprs_of_cond (option_map cond_as_read o) ≡ map expr_as_read (exprs_of_cond o)
of_cond_exprs None = refl
of_cond_exprs (Some c) = exprs_read c

items_read : (items : List ItemTree) → map (λ (item : ItemTree). item.expr) (map item_as_read items) ≡ map expr_as_read (map (λ (item : ItemTree). item.expr) items)
items_read [] = refl
items_read (item ∷ items) = ap (λ xs. expr_as_read item.expr ∷ xs) (items_read items)

sets_read : (sets : List (List ℕ × ExprTree)) → map (λ (set : List ℕ × ExprTree). set.1) (map set_as_read sets) ≡ map expr_as_read (map (λ (set : List ℕ × ExprTree). set.1) sets)
sets_read [] = refl
sets_read (set ∷ sets) = ap (λ xs. expr_as_read set.1 ∷ xs) (sets_read sets)

appended : (a b a' b' : List ExprTree) → a' ≡ map expr_as_read a → b' ≡ map expr_as_read b → a' ++ b' ≡ map expr_as_read (a ++ b)
appended a b a' b' e f = ap (λ xs. xs ++ b') e ∙ ap (λ ys. map expr_as_read a ++ ys) f ∙ sym (map-append expr_as_read a b)

query_exprs : (kept : Kept) (query : QueryTree) → stmt_exprs (Select (query_as_read kept query)) ≡ map expr_as_read (stmt_exprs (Select query))
query_exprs kept query =
    appended (map (λ (item : ItemTree). item.expr) query.items ++ exprs_of_cond query.cond) (exprs_of_cond query.having) _ _
    (appended (map (λ (item : ItemTree). item.expr) query.items) (exprs_of_cond query.cond) _ _ (items_read query.items) (of_cond_exprs query.cond)) (of_cond_exprs query.having)

stmt_exprs_read : (kept : Kept) (s : StmtTree) → stmt_exprs (stmt_as_read kept s) ≡ map expr_as_read (stmt_exprs s)
stmt_exprs_read kept (CreateTable table columns) = refl
stmt_exprs_read kept (DropTable table) = refl
stmt_exprs_read kept (AlterTable table column) = refl
stmt_exprs_read kept (InsertInto table columns rows) = refl
stmt_exprs_read kept (DeleteFrom table cond) = of_cond_exprs cond
stmt_exprs_read kept (UpdateTable table sets cond) = appended (map (λ (set : List ℕ × ExprTree). set.1) sets) (exprs_of_cond cond) _ _ (sets_read sets) (of_cond_exprs cond)
stmt_exprs_read kept (Select query) = query_exprs kept query
stmt_exprs_read kept (ExplainSelect query) = query_exprs kept query

-- ## The limit of literals

exprs_literal : (kept : Kept) (s : StmtTree) → list_any (has_literal is_huge) (stmt_exprs s) ≡ false → list_any (has_literal is_unread_cell) (stmt_exprs (stmt_as_read kept s)) ≡ list_any has_wide_literal (stmt_exprs s)
exprs_literal kept s h = ap (list_any (has_literal is_unread_cell)) (stmt_exprs_read kept s) ∙ any_read expr_as_read (has_literal is_unread_cell) (has_literal is_huge) has_wide_literal literal_read (stmt_exprs s) h

module _ (kept : Kept) (keeps : KeepsLimits kept) where
  place_read : (place : Place) → is_wide_place (place_as_read kept place) ≡ is_wide_place place
  place_read (Position n) = keeps.number n
  place_read (Named column) = refl

  limit_read : (limit : Option ℕ) → is_wide_limit (option_map kept.number limit) ≡ is_wide_limit limit
  limit_read None = refl
  limit_read (Some n) = keeps.number n

  number_read : (query : QueryTree) → has_wide_number (query_as_read kept query) ≡ has_wide_number query
  number_read query = both _ _ _ _ (any_same (key_as_read kept) (λ (key : SortKey). is_wide_place key.at) (λ (key : SortKey). is_wide_place key.at) (λ key. place_read key.at) query.keys) (limit_read query.limit)

  or_false : (b : Bool) → (b || false) ≡ b
  or_false true = refl
  or_false false = refl

  defaults_read : (columns : List Column) → list_any (λ (column : Column). is_huge column.default) columns ≡ false → list_any (λ (column : Column). is_unread_cell column.default) (map (column_as_read kept) columns) ≡ has_wide_default columns
  defaults_read = any_read (column_as_read kept) (λ (column : Column). is_unread_cell column.default) (λ (column : Column). is_huge column.default) (λ (column : Column). is_wide_cell column.default) (λ column h. unread_read column.default h)

  literal_limit : (s : StmtTree) → stmt_has_literal is_huge s ≡ false → passes_literal_as_read (stmt_as_read kept s) ≡ passes_literal s
  literal_limit (CreateTable table columns) h = or_false _ ∙ defaults_read columns h
  literal_limit (DropTable table) h = refl
  literal_limit (AlterTable table column) h = or_false _ ∙ defaults_read (column ∷ []) h
  literal_limit (InsertInto table columns rows) h =
      or_false _ ∙ any_read (map cell_as_read) (list_any is_unread_cell) (list_any is_huge) (list_any is_wide_cell) (any_read cell_as_read is_unread_cell is_huge is_wide_cell unread_read) rows h
  literal_limit (DeleteFrom table cond) h = or_false _ ∙ exprs_literal kept (DeleteFrom table cond) h
  literal_limit (UpdateTable table sets cond) h = or_false _ ∙ exprs_literal kept (UpdateTable table sets cond) h
  literal_limit (Select query) h = both _ _ _ _ (exprs_literal kept (Select query) h) (number_read query)
  literal_limit (ExplainSelect query) h = both _ _ _ _ (exprs_literal kept (ExplainSelect query) h) (number_read query)

-- ## The other limits

large_read : (kept : Kept) (s : StmtTree) → list_any (λ e. nat_lt 64 (expr_nodes e)) (stmt_exprs (stmt_as_read kept s)) ≡ list_any (λ e. nat_lt 64 (expr_nodes e)) (stmt_exprs s)
large_read kept s = ap (list_any (λ e. nat_lt 64 (expr_nodes e))) (stmt_exprs_read kept s) ∙ any_same expr_as_read (λ e. nat_lt 64 (expr_nodes e)) (λ e. nat_lt 64 (expr_nodes e)) (λ e. ap (nat_lt 64) (nodes_read e)) (stmt_exprs s)

conditions_read : (kept : Kept) (s : StmtTree) → passes_conditions (stmt_as_read kept s) ≡ passes_conditions s
conditions_read kept (CreateTable table columns) = refl
conditions_read kept (DropTable table) = refl
conditions_read kept (AlterTable table column) = refl
conditions_read kept (InsertInto table columns rows) = refl
conditions_read kept (DeleteFrom table cond) = ap (nat_lt 128) (of_cond_read cond)
conditions_read kept (UpdateTable table sets cond) = ap (nat_lt 128) (of_cond_read cond)
conditions_read kept (Select query) = both _ _ _ _ (ap (nat_lt 128) (of_cond_read query.cond)) (ap (nat_lt 128) (of_cond_read query.having))
conditions_read kept (ExplainSelect query) = both _ _ _ _ (ap (nat_lt 128) (of_cond_read query.cond)) (ap (nat_lt 128) (of_cond_read query.having))

columns_read : (kept : Kept) (test : List Column → Bool) → ((columns : List Column) → test (map (column_as_read kept) columns) ≡ test columns) → (s : StmtTree) → columns_pass test (stmt_as_read kept s) ≡ columns_pass test s
columns_read kept test same (CreateTable table columns) = same columns
columns_read kept test same (DropTable table) = refl
columns_read kept test same (AlterTable table column) = same (column ∷ [])
columns_read kept test same (InsertInto table columns rows) = refl
columns_read kept test same (DeleteFrom table cond) = refl
columns_read kept test same (UpdateTable table sets cond) = refl
columns_read kept test same (Select query) = refl
columns_read kept test same (ExplainSelect query) = refl

query_read : (kept : Kept) (test : QueryTree → Bool) → ((query : QueryTree) → test (query_as_read kept query) ≡ test query) → (s : StmtTree) → query_passes test (stmt_as_read kept s) ≡ query_passes test s
query_read kept test same (CreateTable table columns) = refl
query_read kept test same (DropTable table) = refl
query_read kept test same (AlterTable table column) = refl
query_read kept test same (InsertInto table columns rows) = refl
query_read kept test same (DeleteFrom table cond) = refl
query_read kept test same (UpdateTable table sets cond) = refl
query_read kept test same (Select query) = same query
query_read kept test same (ExplainSelect query) = same query

pub same_limits : (kept : Kept) → KeepsLimits kept → (bytes : ℕ) (tokens : List Token) (s : StmtTree) → stmt_has_literal is_huge s ≡ false → read_limits bytes tokens (stmt_as_read kept s) ≡ passed_limits bytes tokens s
same_limits kept keeps bytes tokens s plain = λ i.
    (nat_lt 65536 bytes, codes "statement")
    ∷ (list_any is_long_name tokens, codes "name")
    ∷ (literal_limit kept keeps s plain i, codes "literal")
    ∷ (columns_read kept (list_any (λ (column : Column). nat_lt 65535 column.width)) (any_same (column_as_read kept) (λ (column : Column). nat_lt 65535 column.width) (λ (column : Column). nat_lt 65535 column.width) (λ column. keeps.width column.width)) s i, codes "length")
    ∷ (columns_read kept (λ columns. nat_lt 64 (length columns)) (λ columns. ap (nat_lt 64) (length-map columns (column_as_read kept))) s i, codes "columns")
    ∷ (query_read kept (λ query. nat_lt 4 (length query.froms)) (λ query. refl) s i, codes "tables")
    ∷ (query_read kept (λ query. nat_lt 32 (length query.items)) (λ query. ap (nat_lt 32) (length-map query.items item_as_read)) s i, codes "items")
    ∷ (query_read kept (λ query. nat_lt 8 (length query.groups)) (λ query. refl) s i, codes "groups")
    ∷ (query_read kept (λ query. nat_lt 8 (length query.keys)) (λ query. ap (nat_lt 8) (length-map query.keys (key_as_read kept))) s i, codes "keys")
    ∷ (conditions_read kept s i, codes "conditions")
    ∷ (large_read kept s i, codes "expression")
    ∷ []
