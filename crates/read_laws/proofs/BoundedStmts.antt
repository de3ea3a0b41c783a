-- What is read of a statement determines what is left out of it, and which limit it passes first.
use Rattle.std.proofs.Common.{◌≡◌, ℕ, ◌-◌, ◌<◌, ◌^◌, List, [], ◌∷◌, ◌++◌, Bool, true, false, ◌||◌, Option, Some, None, length, map, refl, ap, sym, ◌∙◌, arith, nat_lt, nat_le}
use Rattle.std.specs.Prelude.{◌==◌, if◌then◌else◌, codes, pos}
use Rattle.std.specs.List.{list_any}
use Rattle.std.specs.Option.{option_map}
use Rattle.std.proofs.lemmas.Bool.Decides.{nat_tests}
use Rattle.std.proofs.lemmas.List.{length-map, map-append}
use Rattle.std.proofs.lemmas.List.Folds.{list_any-append}
use Rattle.cell_core.specs.declared.table.Column.{Column}
use Rattle.sql_tree.specs.Exprs.{exprs_of_cond}
use Rattle.sql_grammar.specs.Refused.{is_out_of_range, is_wide_place, is_wide_limit, expr_nodes, nodes_of_cond, stmt_exprs, passes_literal, columns_pass, query_passes, passes_conditions, passed_limits, first_passed, is_long_name, left_out, cond_left_out, query_left_out}
use Rattle.sql_grammar.specs.Statements.{Derives}
use Rattle.read_laws.proofs.BoundedExprs.{cell_kept, unread_kept, large_kept}
use Rattle.read_laws.proofs.BoundedConds.{cond_arithmetic_kept, cond_unread_kept, large_cond_kept, cond_exprs_kept}
use Rattle.read_laws.proofs.Lists.{both, or_left, or_right, any_same, any_alike}
use Rattle.read_laws.specs.Bounded.{bounded, number_cell}
use Rattle.read_laws.specs.DerivedExprs.{cell_with, expr_with, cond_with}
use Rattle.read_laws.specs.LimitLaws.{KeepsLimits, LimitsAsRead}
use Rattle.read_laws.specs.Unread.{Kept, has_literal, is_unread_cell, stmt_has_wide_number, passes_literal_as_read, read_limits, cell_as_read, cond_as_read, place_as_read, key_as_read, column_as_read, item_as_read, set_as_read, query_as_read, stmt_as_read}
use Rattle.read_laws.specs.DerivedStmts.{column_with, place_with, key_with, item_with, set_with, query_with, stmt_with, at_most, count_64, length_32}
use Rattle.sql_tree.specs.Tree.{ExprTree, CondTree, ItemTree, QueryTree, StmtTree}
use Rattle.sql_tree.specs.Tree.StmtTree.{CreateTable, DropTable, AlterTable, InsertInto, DeleteFrom, UpdateTable, Select, ExplainSelect}
use Rattle.sql_tree.specs.declared.token.Token.{Token}
use Rattle.sql_tree.specs.declared.tree.Place.{Place}
use Rattle.sql_tree.specs.declared.tree.Place.TheVariants.{Position, Named}
use Rattle.sql_tree.specs.declared.tree.SortKey.{SortKey}

-- a statement, and its parts, as they are read
abbrev pub kept_stmt : StmtTree → StmtTree
kept_stmt = stmt_with bounded count_64 length_32

abbrev pub kept_query : QueryTree → QueryTree
kept_query = query_with bounded count_64 length_32

abbrev pub kept_item : ItemTree → ItemTree
kept_item = item_with bounded count_64 length_32

abbrev pub kept_set : List ℕ × ExprTree → List ℕ × ExprTree
kept_set = set_with bounded count_64 length_32

abbrev pub kept_key : SortKey → SortKey
kept_key = key_with bounded count_64 length_32

abbrev pub kept_column : Column → Column
kept_column = column_with bounded count_64 length_32

-- ## What is left out

cond_left_out_kept : (o : Option CondTree) → cond_left_out (option_map (cond_with bounded) o) ≡ cond_left_out o
cond_left_out_kept None = refl
cond_left_out_kept (Some c) = cond_arithmetic_kept c

query_left_out_kept : (query : QueryTree) → query_left_out (kept_query query) ≡ query_left_out query
query_left_out_kept query =
    ap (λ (b : Bool). if length query.froms == 0 then Some (codes "SELECT WITHOUT FROM") else (if b then Some (codes "ARITHMETIC IN WHERE") else None))
    (both _ _ _ _ (cond_left_out_kept query.cond) (cond_left_out_kept query.having))

pub left_out_kept : (s : StmtTree) → left_out (kept_stmt s) ≡ left_out s
left_out_kept (CreateTable table columns) = refl
left_out_kept (DropTable table) = refl
left_out_kept (AlterTable table column) = refl
left_out_kept (InsertInto table columns rows) = refl
left_out_kept (DeleteFrom table cond) = ap (λ (b : Bool). if b then Some (codes "ARITHMETIC IN WHERE") else None) (cond_left_out_kept cond)
left_out_kept (UpdateTable table sets cond) = ap (λ (b : Bool). if b then Some (codes "ARITHMETIC IN WHERE") else None) (cond_left_out_kept cond)
left_out_kept (Select query) = query_left_out_kept query
left_out_kept (ExplainSelect query) = query_left_out_kept query

-- ## The limit of literals

-- counts of 64 bits and lengths of 32
kept_64 : Kept
kept_64 = record { number = count_64; width = length_32 }

past_range : (n : ℕ) → is_out_of_range (pos n) ≡ nat_lt 9223372036854775807 n
past_range n = grind (arith, nat_tests)

at_most_past : (limit most n : ℕ) → limit < most → nat_lt limit (at_most most n) ≡ nat_lt limit n
at_most_past limit most n low = go (nat_le n most) refl
  where
    go : (b : Bool) → nat_le n most ≡ b → nat_lt limit (if b then n else most) ≡ nat_lt limit n
    go true h = refl
    go false h = grind (arith, nat_tests)

pub count_past : (n : ℕ) → is_out_of_range (pos (count_64 n)) ≡ is_out_of_range (pos n)
count_past n = past_range (count_64 n) ∙ at_most_past 9223372036854775807 (2 ^ 64 - 1) n (omega arith) ∙ sym (past_range n)

pub length_past : (n : ℕ) → nat_lt 65535 (length_32 n) ≡ nat_lt 65535 n
length_past n = at_most_past 65535 (2 ^ 32 - 1) n (omega arith)

keeps_limits : KeepsLimits (record { number = count_64; width = length_32 })
keeps_limits = record { number = count_past; width = length_past }

-- some literal could not be read
abbrev any_unread : List ExprTree → Bool
any_unread es = list_any (has_literal is_unread_cell) es

of_cond_unread : (o : Option CondTree) → any_unread (exprs_of_cond (option_map (cond_with bounded) o)) ≡ any_unread (exprs_of_cond (option_map cond_as_read o))
of_cond_unread None = refl
of_cond_unread (Some c) = cond_unread_kept c

appended : (xs ys xs' ys' : List ExprTree) → any_unread xs ≡ any_unread xs' → any_unread ys ≡ any_unread ys' → any_unread (xs ++ ys) ≡ any_unread (xs' ++ ys')
appended xs ys xs' ys' e f = list_any-append (has_literal is_unread_cell) xs ys ∙ both _ _ _ _ e f ∙ sym (list_any-append (has_literal is_unread_cell) xs' ys')

items_unread : (items : List ItemTree) → any_unread (map (λ (item : ItemTree). item.expr) (map kept_item items)) ≡ any_unread (map (λ (item : ItemTree). item.expr) (map item_as_read items))
items_unread [] = refl
items_unread (item ∷ items) = both _ _ _ _ (unread_kept item.expr) (items_unread items)

sets_unread : (sets : List (List ℕ × ExprTree)) → any_unread (map (λ (set : List ℕ × ExprTree). set.1) (map kept_set sets)) ≡ any_unread (map (λ (set : List ℕ × ExprTree). set.1) (map set_as_read sets))
sets_unread [] = refl
sets_unread (set ∷ sets) = both _ _ _ _ (unread_kept set.1) (sets_unread sets)

query_unread : (query : QueryTree) → any_unread (stmt_exprs (Select (kept_query query))) ≡ any_unread (stmt_exprs (Select (query_as_read (record { number = count_64; width = length_32 }) query)))
query_unread query =
    appended (map (λ (item : ItemTree). item.expr) (map kept_item query.items) ++ exprs_of_cond (option_map (cond_with bounded) query.cond)) (exprs_of_cond (option_map (cond_with bounded) query.having))
    (map (λ (item : ItemTree). item.expr) (map item_as_read query.items) ++ exprs_of_cond (option_map cond_as_read query.cond)) (exprs_of_cond (option_map cond_as_read query.having))
    (appended (map (λ (item : ItemTree). item.expr) (map kept_item query.items)) (exprs_of_cond (option_map (cond_with bounded) query.cond))
    (map (λ (item : ItemTree). item.expr) (map item_as_read query.items)) (exprs_of_cond (option_map cond_as_read query.cond)) (items_unread query.items) (of_cond_unread query.cond)) (of_cond_unread query.having)

place_alike : (place : Place) → is_wide_place (place_with bounded count_64 length_32 place) ≡ is_wide_place (place_as_read (record { number = count_64; width = length_32 }) place)
place_alike (Position n) = refl
place_alike (Named column) = refl

wide_alike : (query : QueryTree) → stmt_has_wide_number (Select (kept_query query)) ≡ stmt_has_wide_number (Select (query_as_read (record { number = count_64; width = length_32 }) query))
wide_alike query =
    ap (λ b. b || is_wide_limit (option_map count_64 query.limit))
    (any_alike kept_key (key_as_read (record { number = count_64; width = length_32 })) (λ (key : SortKey). is_wide_place key.at) (λ (key : SortKey). is_wide_place key.at) (λ key. place_alike key.at) query.keys)

cells_unread : (row : List _) → list_any is_unread_cell (map (cell_with number_cell) row) ≡ list_any is_unread_cell (map cell_as_read row)
cells_unread row = any_alike (cell_with number_cell) cell_as_read is_unread_cell is_unread_cell (λ c. ap is_unread_cell (cell_kept c)) row

defaults_unread : (columns : List Column) → list_any (λ (column : Column). is_unread_cell column.default) (map kept_column columns) ≡ list_any (λ (column : Column). is_unread_cell column.default) (map (column_as_read (record { number = count_64; width = length_32 })) columns)
defaults_unread columns =
    any_alike kept_column (column_as_read (record { number = count_64; width = length_32 })) (λ (column : Column). is_unread_cell column.default) (λ (column : Column). is_unread_cell column.default) (λ column. ap is_unread_cell (cell_kept column.default)) columns

literal_alike : (s : StmtTree) → passes_literal_as_read (kept_stmt s) ≡ passes_literal_as_read (stmt_as_read (record { number = count_64; width = length_32 }) s)
literal_alike (CreateTable table columns) = ap (λ b. b || false) (defaults_unread columns)
literal_alike (DropTable table) = refl
literal_alike (AlterTable table column) = ap (λ b. b || false) (defaults_unread (column ∷ []))
literal_alike (InsertInto table columns rows) =
    ap (λ b. b || false) (any_alike (map (cell_with number_cell)) (map cell_as_read) (list_any is_unread_cell) (list_any is_unread_cell) cells_unread rows)
literal_alike (DeleteFrom table cond) = ap (λ b. b || false) (of_cond_unread cond)
literal_alike (UpdateTable table sets cond) =
    ap (λ b. b || false)
    (appended (map (λ (set : List ℕ × ExprTree). set.1) (map kept_set sets)) (exprs_of_cond (option_map (cond_with bounded) cond))
    (map (λ (set : List ℕ × ExprTree). set.1) (map set_as_read sets)) (exprs_of_cond (option_map cond_as_read cond)) (sets_unread sets) (of_cond_unread cond))
literal_alike (Select query) = both _ _ _ _ (query_unread query) (wide_alike query)
literal_alike (ExplainSelect query) = both _ _ _ _ (query_unread query) (wide_alike query)

-- the third of the limits, which is that of literals
third : List (Bool × List ℕ) → Bool
third (a ∷ b ∷ c ∷ more) = c.0
third other = false

literal_kept : LimitsAsRead → (bytes : ℕ) (tokens : List Token) (s : StmtTree) → Derives tokens s → passes_literal_as_read (kept_stmt s) ≡ passes_literal s
unfolding third
literal_kept as_read bytes tokens s derived = literal_alike s ∙ ap third (as_read (record { number = count_64; width = length_32 }) keeps_limits bytes tokens s derived)

-- ## The other limits

of_cond_kept : (o : Option CondTree) → nat_lt 128 (nodes_of_cond (option_map (cond_with bounded) o)) ≡ nat_lt 128 (nodes_of_cond o)
of_cond_kept None = refl
of_cond_kept (Some c) = large_cond_kept c

conditions_kept : (s : StmtTree) → passes_conditions (kept_stmt s) ≡ passes_conditions s
conditions_kept (CreateTable table columns) = refl
conditions_kept (DropTable table) = refl
conditions_kept (AlterTable table column) = refl
conditions_kept (InsertInto table columns rows) = refl
conditions_kept (DeleteFrom table cond) = of_cond_kept cond
conditions_kept (UpdateTable table sets cond) = of_cond_kept cond
conditions_kept (Select query) = both _ _ _ _ (of_cond_kept query.cond) (of_cond_kept query.having)
conditions_kept (ExplainSelect query) = both _ _ _ _ (of_cond_kept query.cond) (of_cond_kept query.having)

columns_kept : (test : List Column → Bool) → ((columns : List Column) → test (map kept_column columns) ≡ test columns) → (s : StmtTree) → columns_pass test (kept_stmt s) ≡ columns_pass test s
columns_kept test same (CreateTable table columns) = same columns
columns_kept test same (DropTable table) = refl
columns_kept test same (AlterTable table column) = same (column ∷ [])
columns_kept test same (InsertInto table columns rows) = refl
columns_kept test same (DeleteFrom table cond) = refl
columns_kept test same (UpdateTable table sets cond) = refl
columns_kept test same (Select query) = refl
columns_kept test same (ExplainSelect query) = refl

query_kept : (test : QueryTree → Bool) → ((query : QueryTree) → test (kept_query query) ≡ test query) → (s : StmtTree) → query_passes test (kept_stmt s) ≡ query_passes test s
query_kept test same (CreateTable table columns) = refl
query_kept test same (DropTable table) = refl
query_kept test same (AlterTable table column) = refl
query_kept test same (InsertInto table columns rows) = refl
query_kept test same (DeleteFrom table cond) = refl
query_kept test same (UpdateTable table sets cond) = refl
query_kept test same (Select query) = same query
query_kept test same (ExplainSelect query) = same query

-- ## The limit of expressions, where that of conditions isn't passed

of_cond_exprs : (o : Option CondTree) → nat_lt 128 (nodes_of_cond o) ≡ false → exprs_of_cond (option_map (cond_with bounded) o) ≡ map (expr_with bounded) (exprs_of_cond o)
of_cond_exprs None h = refl
of_cond_exprs (Some c) h = cond_exprs_kept c h

items_exprs : (items : List ItemTree) → map (λ (item : ItemTree). item.expr) (map kept_item items) ≡ map (expr_with bounded) (map (λ (item : ItemTree). item.expr) items)
items_exprs [] = refl
items_exprs (item ∷ items) = ap (λ xs. expr_with bounded item.expr ∷ xs) (items_exprs items)

sets_exprs : (sets : List (List ℕ × ExprTree)) → map (λ (set : List ℕ × ExprTree). set.1) (map kept_set sets) ≡ map (expr_with bounded) (map (λ (set : List ℕ × ExprTree). set.1) sets)
sets_exprs [] = refl
sets_exprs (set ∷ sets) = ap (λ xs. expr_with bounded set.1 ∷ xs) (sets_exprs sets)

joined : (a b a' b' : List ExprTree) → a' ≡ map (expr_with bounded) a → b' ≡ map (expr_with bounded) b → a' ++ b' ≡ map (expr_with bounded) (a ++ b)
joined a b a' b' e f = ap (λ xs. xs ++ b') e ∙ ap (λ ys. map (expr_with bounded) a ++ ys) f ∙ sym (map-append (expr_with bounded) a b)

query_exprs : (query : QueryTree) → (nat_lt 128 (nodes_of_cond query.cond) || nat_lt 128 (nodes_of_cond query.having)) ≡ false → stmt_exprs (Select (kept_query query)) ≡ map (expr_with bounded) (stmt_exprs (Select query))
query_exprs query h =
    joined (map (λ (item : ItemTree). item.expr) query.items ++ exprs_of_cond query.cond) (exprs_of_cond query.having) _ _
    (joined (map (λ (item : ItemTree). item.expr) query.items) (exprs_of_cond query.cond) _ _ (items_exprs query.items) (of_cond_exprs query.cond (or_left _ _ h)))
    (of_cond_exprs query.having (or_right _ _ h))

stmt_exprs_kept : (s : StmtTree) → passes_conditions s ≡ false → stmt_exprs (kept_stmt s) ≡ map (expr_with bounded) (stmt_exprs s)
stmt_exprs_kept (CreateTable table columns) h = refl
stmt_exprs_kept (DropTable table) h = refl
stmt_exprs_kept (AlterTable table column) h = refl
stmt_exprs_kept (InsertInto table columns rows) h = refl
stmt_exprs_kept (DeleteFrom table cond) h = of_cond_exprs cond h
stmt_exprs_kept (UpdateTable table sets cond) h = joined (map (λ (set : List ℕ × ExprTree). set.1) sets) (exprs_of_cond cond) _ _ (sets_exprs sets) (of_cond_exprs cond h)
stmt_exprs_kept (Select query) h = query_exprs query h
stmt_exprs_kept (ExplainSelect query) h = query_exprs query h

expressions_kept : (s : StmtTree) → passes_conditions s ≡ false → list_any (λ e. nat_lt 64 (expr_nodes e)) (stmt_exprs (kept_stmt s)) ≡ list_any (λ e. nat_lt 64 (expr_nodes e)) (stmt_exprs s)
expressions_kept s h =
    ap (list_any (λ e. nat_lt 64 (expr_nodes e))) (stmt_exprs_kept s h) ∙ any_same (expr_with bounded) (λ e. nat_lt 64 (expr_nodes e)) (λ e. nat_lt 64 (expr_nodes e)) large_kept (stmt_exprs s)

-- ## The first limit that is passed

next : (a b : Bool) (name : List ℕ) (x y : Option (List ℕ)) → a ≡ b → x ≡ y → (if a then Some name else x) ≡ (if b then Some name else y)
next a b name x y e f = ap (λ (c : Bool). if c then Some name else x) e ∙ ap (λ (z : Option (List ℕ)). if b then Some name else z) f

-- what comes after a limit that is passed doesn't matter
last : (a b : Bool) (name : List ℕ) (x y : Option (List ℕ)) → a ≡ b → (b ≡ false → x ≡ y) → (if a then Some name else x) ≡ (if b then Some name else y)
last a b name x y e f = ap (λ (c : Bool). if c then Some name else x) e ∙ go b f
  where
    go : (b : Bool) → (b ≡ false → x ≡ y) → (if b then Some name else x) ≡ (if b then Some name else y)
    go true f = refl
    go false f = f refl

pub limits_kept : LimitsAsRead → (bytes : ℕ) (tokens : List Token) (s : StmtTree) → Derives tokens s
    → first_passed (read_limits bytes tokens (kept_stmt s)) ≡ first_passed (passed_limits bytes tokens s)
limits_kept as_read bytes tokens s derived =
    ap (λ (x : Option (List ℕ)). if nat_lt 65536 bytes then Some (codes "statement") else (if list_any is_long_name tokens then Some (codes "name") else x))
    (next _ _ (codes "literal") _ _ (literal_kept as_read bytes tokens s derived)
    (next _ _ (codes "length") _ _
    (columns_kept (list_any (λ (column : Column). nat_lt 65535 column.width)) (any_same kept_column (λ (column : Column). nat_lt 65535 column.width) (λ (column : Column). nat_lt 65535 column.width) (λ column. length_past column.width)) s)
    (next _ _ (codes "columns") _ _ (columns_kept (λ columns. nat_lt 64 (length columns)) (λ columns. ap (nat_lt 64) (length-map columns kept_column)) s)
    (next _ _ (codes "tables") _ _ (query_kept (λ query. nat_lt 4 (length query.froms)) (λ query. refl) s)
    (next _ _ (codes "items") _ _ (query_kept (λ query. nat_lt 32 (length query.items)) (λ query. ap (nat_lt 32) (length-map query.items kept_item)) s)
    (next _ _ (codes "groups") _ _ (query_kept (λ query. nat_lt 8 (length query.groups)) (λ query. refl) s)
    (next _ _ (codes "keys") _ _ (query_kept (λ query. nat_lt 8 (length query.keys)) (λ query. ap (nat_lt 8) (length-map query.keys kept_key)) s)
    (last _ _ (codes "conditions") _ _ (conditions_kept s) (λ h. next _ _ (codes "expression") None None (expressions_kept s h) refl)))))))))
