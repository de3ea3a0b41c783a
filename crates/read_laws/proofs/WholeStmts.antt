-- A statement that passes no limit is read as it is written.
use Rattle.std.proofs.Common.{◌≡◌, ℕ, ◌-◌, ◌<◌, ◌^◌, List, [], ◌∷◌, ◌++◌, Bool, true, false, ◌||◌, Option, Some, None, map, refl, ap, ◌∙◌, arith, nat_lt, nat_le}
use Rattle.std.specs.Prelude.{if◌then◌else◌, pos}
use Rattle.std.specs.List.{list_any}
use Rattle.std.specs.Option.{option_map}
use Rattle.std.proofs.lemmas.Bool.Decides.{nat_tests}
use Rattle.cell_core.specs.declared.table.Column.{Column}
use Rattle.sql_tree.specs.Exprs.{exprs_of_cond}
use Rattle.sql_grammar.specs.Refused.{is_out_of_range, is_wide_cell, has_wide_literal, has_wide_number, has_wide_default, is_wide_place, is_wide_limit, expr_nodes, nodes_of_cond, stmt_exprs, passes_literal, columns_pass, passes_conditions, passed_limits, first_passed}
use Rattle.read_laws.proofs.BoundedExprs.{cell_whole, expr_whole}
use Rattle.read_laws.proofs.BoundedConds.{is_past_limits, append_left, append_right, cond_whole}
use Rattle.read_laws.proofs.BoundedStmts.{kept_stmt, kept_query, kept_item, kept_set, kept_key, kept_column}
use Rattle.read_laws.proofs.Lists.{or_left, or_right, map_same}
use Rattle.read_laws.specs.Bounded.{bounded, number_cell}
use Rattle.read_laws.specs.DerivedExprs.{cell_with, cond_with}
use Rattle.read_laws.specs.DerivedStmts.{place_with, at_most, count_64, length_32}
use Rattle.sql_tree.specs.Tree.{ExprTree, CondTree, ItemTree, QueryTree, StmtTree}
use Rattle.sql_tree.specs.Tree.StmtTree.{CreateTable, DropTable, AlterTable, InsertInto, DeleteFrom, UpdateTable, Select, ExplainSelect}
use Rattle.sql_tree.specs.declared.token.Token.{Token}
use Rattle.sql_tree.specs.declared.tree.Place.{Place}
use Rattle.sql_tree.specs.declared.tree.Place.TheVariants.{Position, Named}
use Rattle.sql_tree.specs.declared.tree.SortKey.{SortKey}

-- ## Numbers

small : (limit most n : ℕ) → limit < most → nat_lt limit n ≡ false → at_most most n ≡ n
small limit most n low h = go (nat_le n most) refl
  where
    go : (b : Bool) → nat_le n most ≡ b → (if b then n else most) ≡ n
    go true k = refl
    go false k = grind (arith, nat_tests)

in_range : (n : ℕ) → is_out_of_range (pos n) ≡ false → nat_lt 9223372036854775807 n ≡ false
in_range n h = grind (arith, nat_tests)

count_whole : (n : ℕ) → is_out_of_range (pos n) ≡ false → count_64 n ≡ n
count_whole n h = small 9223372036854775807 (2 ^ 64 - 1) n (omega arith) (in_range n h)

length_whole : (n : ℕ) → nat_lt 65535 n ≡ false → length_32 n ≡ n
length_whole n h = small 65535 (2 ^ 32 - 1) n (omega arith) h

-- ## Parts

place_whole : (place : Place) → is_wide_place place ≡ false → place_with bounded count_64 length_32 place ≡ place
place_whole (Position n) h = ap Position (count_whole n h)
place_whole (Named column) h = refl

key_whole : (key : SortKey) → is_wide_place key.at ≡ false → kept_key key ≡ key
key_whole key h = ap (λ (at : Place). let made : SortKey = record { at = at; ascending = key.ascending } in made) (place_whole key.at h)

limit_whole : (limit : Option ℕ) → is_wide_limit limit ≡ false → option_map count_64 limit ≡ limit
limit_whole None h = refl
limit_whole (Some n) h = ap Some (count_whole n h)

column_whole : (column : Column) → is_wide_cell column.default ≡ false → nat_lt 65535 column.width ≡ false → kept_column column ≡ column
column_whole column wide long =
    let width_part = length_whole column.width long in
    let default_part = cell_whole column.default wide in
    λ i. record { name = column.name; kind = column.kind; width = width_part i; not_null = column.not_null; default = default_part i }

columns_whole : (columns : List Column) → has_wide_default columns ≡ false → list_any (λ (column : Column). nat_lt 65535 column.width) columns ≡ false → map kept_column columns ≡ columns
columns_whole [] wide long = refl
columns_whole (column ∷ columns) wide long =
    ap (λ (x : Column). x ∷ map kept_column columns) (column_whole column (or_left _ _ wide) (or_left _ _ long)) ∙ ap (λ (xs : List Column). column ∷ xs) (columns_whole columns (or_right _ _ wide) (or_right _ _ long))

item_whole : (item : ItemTree) → is_past_limits item.expr ≡ false → kept_item item ≡ item
item_whole item h = ap (λ (e : ExprTree). let made : ItemTree = record { expr = e; alias = item.alias } in made) (expr_whole item.expr h)

set_whole : (set : List ℕ × ExprTree) → is_past_limits set.1 ≡ false → kept_set set ≡ set
set_whole set h = ap (λ (e : ExprTree). let made : List ℕ × ExprTree = (set.0, e) in made) (expr_whole set.1 h)

optional_whole : (o : Option CondTree) → list_any is_past_limits (exprs_of_cond o) ≡ false → nat_lt 128 (nodes_of_cond o) ≡ false → option_map (cond_with bounded) o ≡ o
optional_whole None h k = refl
optional_whole (Some c) h k = ap Some (cond_whole c h k)

items_whole : (items : List ItemTree) → list_any is_past_limits (map (λ (item : ItemTree). item.expr) items) ≡ false → map kept_item items ≡ items
items_whole [] h = refl
items_whole (item ∷ items) h = ap (λ (x : ItemTree). x ∷ map kept_item items) (item_whole item (or_left _ _ h)) ∙ ap (λ (xs : List ItemTree). item ∷ xs) (items_whole items (or_right _ _ h))

sets_whole : (sets : List (List ℕ × ExprTree)) → list_any is_past_limits (map (λ (set : List ℕ × ExprTree). set.1) sets) ≡ false → map kept_set sets ≡ sets
sets_whole [] h = refl
sets_whole (set ∷ sets) h = ap (λ (x : List ℕ × ExprTree). x ∷ map kept_set sets) (set_whole set (or_left _ _ h)) ∙ ap (λ (xs : List (List ℕ × ExprTree)). set ∷ xs) (sets_whole sets (or_right _ _ h))

-- ## Statements

query_whole : (query : QueryTree) → list_any is_past_limits (stmt_exprs (Select query)) ≡ false → has_wide_number query ≡ false
    → (nat_lt 128 (nodes_of_cond query.cond) || nat_lt 128 (nodes_of_cond query.having)) ≡ false → kept_query query ≡ query
query_whole query exprs numbers nodes =
    let items = map (λ (item : ItemTree). item.expr) query.items in
    let front = append_left (items ++ exprs_of_cond query.cond) (exprs_of_cond query.having) exprs in
    let item_part = items_whole query.items (append_left items (exprs_of_cond query.cond) front) in
    let cond_part = optional_whole query.cond (append_right items (exprs_of_cond query.cond) front) (or_left _ _ nodes) in
    let having_part = optional_whole query.having (append_right (items ++ exprs_of_cond query.cond) (exprs_of_cond query.having) exprs) (or_right _ _ nodes) in
    let key_part = map_same kept_key (λ (key : SortKey). is_wide_place key.at) key_whole query.keys (or_left _ _ numbers) in
    let limit_part = limit_whole query.limit (or_right _ _ numbers) in
    λ i. record {
      distinct = query.distinct;
      items = item_part i;
      froms = query.froms;
      cond = cond_part i;
      groups = query.groups;
      having = having_part i;
      keys = key_part i;
      limit = limit_part i;
    }

-- each expression is within the two limits of expressions
neither : (xs : List ExprTree) → list_any has_wide_literal xs ≡ false → list_any (λ e. nat_lt 64 (expr_nodes e)) xs ≡ false → list_any is_past_limits xs ≡ false
neither [] h k = refl
neither (x ∷ xs) h k = go (has_wide_literal x) (nat_lt 64 (expr_nodes x)) (or_left _ _ h) (or_left _ _ k) (neither xs (or_right _ _ h) (or_right _ _ k))
  where
    go : (a b : Bool) → a ≡ false → b ≡ false → list_any is_past_limits xs ≡ false → ((a || b) || list_any is_past_limits xs) ≡ false
    go true b e f g = cc
    go false true e f g = cc
    go false false e f g = g

rows_whole : (rows : List (List _)) → list_any (λ row. list_any is_wide_cell row) rows ≡ false → map (map (cell_with number_cell)) rows ≡ rows
rows_whole rows h = map_same (map (cell_with number_cell)) (λ row. list_any is_wide_cell row) (map_same (cell_with number_cell) is_wide_cell cell_whole) rows h

stmt_whole : (s : StmtTree) → passes_literal s ≡ false → columns_pass (list_any (λ (column : Column). nat_lt 65535 column.width)) s ≡ false → passes_conditions s ≡ false
    → list_any (λ e. nat_lt 64 (expr_nodes e)) (stmt_exprs s) ≡ false → kept_stmt s ≡ s
stmt_whole (CreateTable table columns) literal width nodes large = ap (CreateTable table) (columns_whole columns literal width)
stmt_whole (DropTable table) literal width nodes large = refl
stmt_whole (AlterTable table column) literal width nodes large = ap (AlterTable table) (column_whole column (or_left _ _ literal) (or_left _ _ width))
stmt_whole (InsertInto table columns rows) literal width nodes large = ap (InsertInto table columns) (rows_whole rows literal)
stmt_whole (DeleteFrom table cond) literal width nodes large = ap (DeleteFrom table) (optional_whole cond (neither (exprs_of_cond cond) literal large) nodes)
stmt_whole (UpdateTable table sets cond) literal width nodes large =
    let all = neither (stmt_exprs (UpdateTable table sets cond)) literal large in
    let values = map (λ (set : List ℕ × ExprTree). set.1) sets in
    ap (λ (made : List (List ℕ × ExprTree)). UpdateTable table made (option_map (cond_with bounded) cond)) (sets_whole sets (append_left values (exprs_of_cond cond) all))
    ∙ ap (UpdateTable table sets) (optional_whole cond (append_right values (exprs_of_cond cond) all) nodes)
stmt_whole (Select query) literal width nodes large = ap Select (query_whole query (neither (stmt_exprs (Select query)) (or_left _ (has_wide_number query) literal) large) (or_right (list_any has_wide_literal (stmt_exprs (Select query))) _ literal) nodes)
stmt_whole (ExplainSelect query) literal width nodes large = ap ExplainSelect (query_whole query (neither (stmt_exprs (Select query)) (or_left _ (has_wide_number query) literal) large) (or_right (list_any has_wide_literal (stmt_exprs (Select query))) _ literal) nodes)

-- where no limit is passed, a limit that is asked isn't, and no later one is
pub not_here : (a : Bool) (name : List ℕ) (x : Option (List ℕ)) → (if a then Some name else x) ≡ None → a ≡ false
not_here true name x h = cc
not_here false name x h = refl

pub not_later : (a : Bool) (name : List ℕ) (x : Option (List ℕ)) → (if a then Some name else x) ≡ None → x ≡ None
not_later true name x h = cc
not_later false name x h = h

-- none of the limits is passed
abbrev AreKept : List (Bool × List ℕ) → Type 0
AreKept [] = Unit {0}
AreKept (limit ∷ limits) = (limit.0 ≡ false) × AreKept limits

all_kept : (limits : List (Bool × List ℕ)) → first_passed limits ≡ None → AreKept limits
all_kept [] h = tt
all_kept (limit ∷ limits) h = (not_here limit.0 limit.1 (first_passed limits) h, all_kept limits (not_later limit.0 limit.1 (first_passed limits) h))

-- a statement that passes no limit is read as it is written
pub none_passed : (bytes : ℕ) (tokens : List Token) (s : StmtTree) → first_passed (passed_limits bytes tokens s) ≡ None → kept_stmt s ≡ s
none_passed bytes tokens s none =
    let from_literal = (all_kept (passed_limits bytes tokens s) none).1.1 in
    let from_conditions = from_literal.1.1.1.1.1.1.1 in
    stmt_whole s from_literal.0 from_literal.1.0 from_conditions.0 from_conditions.1.0
