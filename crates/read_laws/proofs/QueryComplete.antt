-- What a derivation of a query writes is read as what it stands for, and so for every statement.
use Rattle.std.proofs.Common.{◌≡◌, ℕ, zero, suc, ◌<◌, ◌≤◌, List, [], ◌∷◌, ◌++◌, length, map, Bool, true, false, Option, Some, None, refl, ap, sym, ◌∙◌, arith, append_assoc, append-nil}
use Rattle.std.specs.Option.{option_map}
use Rattle.sql_grammar.specs.Grammar.{write_some, write_behind, any_of, NameRule, number_of, ColumnRule, write_column, column_of, aggregate_word, ValueRule, write_value, value_of, write_cond, cond_of, WhereRule, write_where, where_of, HavingRule}
use Rattle.sql_grammar.specs.Grammar.NameRule.{BareName, QuotedName}
use Rattle.sql_grammar.specs.Grammar.ColumnRule.{PlainColumn, TableColumn}
use Rattle.sql_grammar.specs.Grammar.AggRule.{CountAll, AggregateOf}
use Rattle.sql_grammar.specs.Grammar.ValueRule.{ExprValue, AggValue}
use Rattle.sql_grammar.specs.Statements.{AliasRule, write_alias, write_item, item_of, ItemsRule, write_items, items_of, write_source, source_of, JoinRule, write_join, write_joins, joined_source, on_conds, with_where, PlaceRule, OrderRule, write_place, write_order, write_key, place_of, is_ascending, key_of, FromRule, write_digits, write_from, write_distinct, write_optional_from, QueryRule, write_query, query_from, query_of, StmtRule, write_stmt, stmt_of}
use Rattle.sql_grammar.specs.Statements.ItemsRule.{AllColumns, SomeItems}
use Rattle.sql_grammar.specs.Statements.JoinRule.{CommaSource, JoinOn}
use Rattle.sql_grammar.specs.Statements.PlaceRule.{PositionKey, ColumnKey}
use Rattle.sql_grammar.specs.Statements.OrderRule.{NoOrder, AscOrder, DescOrder}
use Rattle.sql_grammar.specs.Statements.StmtRule.{CreateRule, DropRule, AlterRule, InsertRule, DeleteRule, UpdateRule, SelectRule, ExplainRule}
use Rattle.read_laws.specs.Bounded.{Builder, as_written}
use Rattle.read_laws.specs.Chain.{first_token, after_first}
use Rattle.read_laws.specs.CondReader.{value}
use Rattle.read_laws.specs.DerivedExprs.{cond_with}
use Rattle.read_laws.specs.Parts.{is_key, is_symbol, comma_in}
use Rattle.read_laws.specs.ExprReader.{is_dot, digits_in}
use Rattle.read_laws.proofs.ChainLemmas.{then_told, given_none, branch_false}
use Rattle.read_laws.proofs.CondLaws.{having_cond_told}
use Rattle.read_laws.proofs.CondComplete.{cond_longer}
use Rattle.read_laws.proofs.ExprComplete.{name_longer, column_longer}
use Rattle.read_laws.proofs.OperandComplete.{begins_expr, expr_begins, value_told, value_operand}
use Rattle.sql_tree.specs.Tree.{CondTree, ItemTree, QueryTree}
use Rattle.sql_tree.specs.declared.token.Keyword.TheVariants as word
use Rattle.sql_tree.specs.declared.token.Symbol.TheVariants as symbol
use Rattle.sql_tree.specs.declared.token.Token.{Token}
use Rattle.sql_tree.specs.declared.token.Token.TheVariants.{Key}
use Rattle.sql_tree.specs.declared.token.Token.TheVariants as token
use Rattle.sql_tree.specs.declared.tree.AggOp.{AggOp}
use Rattle.sql_tree.specs.declared.tree.AggOp.TheVariants as aggregate
use Rattle.sql_tree.specs.declared.tree.FromItem.{FromItem}
use Rattle.read_laws.specs.declared.joint.Joint.{Joint}
use Rattle.read_laws.specs.declared.joint.Joint.TheVariants as joint
use Rattle.read_laws.specs.DerivedStmts.{place_with, key_with, item_with, query_with, stmt_with}
use Rattle.read_laws.specs.StmtReader.{column, listed_by, joint_in, also, ascending, where_cond, source_on, joined, joins, sources, item, items, having_cond, counted, place, key, from, optional_from, query, explain, stmt}
use Rattle.read_laws.proofs.EndLemmas.{IsEnd, IsPast, end_ends, end_no_asc, end_no_desc, past_end, past_no_comma, past_no_joint, past_no_where, past_no_group, past_no_having, past_no_order, past_no_limit, limit_past, order_past, having_past, group_past, where_past}
use Rattle.read_laws.proofs.JoinLemmas.{same_pair, joins_end, joins_go_on}
use Rattle.read_laws.proofs.PartSound.{same_all}
use Rattle.read_laws.proofs.PartComplete.{same_found, column_told, end_no_dot, alias_told, alias_ends, alias_longer, source_told, flag_told, listed_told, listed_by_told, optional_told}
use Rattle.read_laws.proofs.QuerySound.{on_of, on_next, with_where_is, also_with}
use Rattle.read_laws.proofs.StmtComplete.{where_told, where_longer, create_told, drop_told, alter_told, insert_told, delete_told, update_told}

-- ## The first token of an item

begins_no_star : (o : Option Token) → begins_expr o ≡ true → is_symbol symbol.Star o ≡ false
unfolding is_symbol
begins_no_star (Some (token.Symbol symbol.Star)) h = cc
begins_no_star other h = refl

begins_no_distinct : (o : Option Token) → begins_expr o ≡ true → is_key word.Distinct o ≡ false
unfolding is_key
begins_no_distinct (Some (Key word.Distinct)) h = cc
begins_no_distinct other h = refl

aggregate_no_distinct : (f : AggOp) → is_key word.Distinct (Some (Key (aggregate_word f))) ≡ false
unfolding is_key
aggregate_no_distinct aggregate.Count = refl
aggregate_no_distinct aggregate.Sum = refl
aggregate_no_distinct aggregate.Min = refl
aggregate_no_distinct aggregate.Max = refl

value_no_star : (d : ValueRule) (rest : List Token) → is_symbol symbol.Star (first_token (write_value d rest)) ≡ false
unfolding is_symbol
value_no_star (ExprValue e) rest = begins_no_star _ (expr_begins e rest)
value_no_star (AggValue CountAll) rest = refl
value_no_star (AggValue (AggregateOf f e)) rest = refl

value_no_distinct : (d : ValueRule) (rest : List Token) → is_key word.Distinct (first_token (write_value d rest)) ≡ false
unfolding is_key
value_no_distinct (ExprValue e) rest = begins_no_distinct _ (expr_begins e rest)
value_no_distinct (AggValue CountAll) rest = refl
value_no_distinct (AggValue (AggregateOf f e)) rest = aggregate_no_distinct f

items_no_distinct : (d : ItemsRule) (rest : List Token) → is_key word.Distinct (first_token (write_items d rest)) ≡ false
unfolding is_key
items_no_distinct AllColumns rest = refl
items_no_distinct (SomeItems ds) rest = value_no_distinct ds.0.0 _

-- ## Sources

source_longer : (d : NameRule × AliasRule) (rest : List Token) → length rest < length (write_source d rest)
source_longer d rest =
    let a = alias_longer d.1 rest in
    let b = name_longer d.0 (write_alias d.1 rest) in
    omega (arith, a, b)

joins_end_there : (ds : List JoinRule) (rest : List Token) → IsEnd rest → IsEnd (write_joins ds rest)
joins_end_there [] rest h = h
joins_end_there (CommaSource s ∷ ds) rest h = refl
joins_end_there (JoinOn true s on ∷ ds) rest h = refl
joins_end_there (JoinOn false s on ∷ ds) rest h = refl

-- the token that joins a source
abbrev joint_of : JoinRule → Joint
joint_of (CommaSource s) = joint.Comma
joint_of (JoinOn true s on) = joint.Inner
joint_of (JoinOn false s on) = joint.Join

joint_told : (d : JoinRule) (rest : List Token) → joint_in (first_token (write_join d rest)) ≡ Some (joint_of d)
joint_told (CommaSource s) rest = refl
joint_told (JoinOn true s on) rest = refl
joint_told (JoinOn false s on) rest = refl

module _ (build : Builder) where
  join_longer : (d : JoinRule) (rest : List Token) → length rest < length (write_join d rest)
  join_longer (CommaSource s) rest = let a = source_longer s rest in omega (arith, a)
  join_longer (JoinOn true s on) rest =
      let a = where_longer build on rest in
      let b = source_longer s (Key word.On ∷ write_where on rest) in
      omega (arith, a, b)
  join_longer (JoinOn false s on) rest =
      let a = where_longer build on rest in
      let b = source_longer s (Key word.On ∷ write_where on rest) in
      omega (arith, a, b)

  source_on_told : (s : NameRule × AliasRule) (on : WhereRule) (rest : List Token) → IsEnd rest → source_on build (write_source s (Key word.On ∷ write_where on rest)) ≡ Some ((source_of s, Some (cond_with build (where_of on))), rest)
  unfolding source_on is_key
  source_on_told s on rest h =
      then_told _ _ _ _ (source_told s (Key word.On ∷ write_where on rest) refl)
      (then_told _ _ _ _ (where_told build on rest h) refl)

  joined_told : (d : JoinRule) (rest : List Token) → IsEnd rest → joined build (joint_of d) (after_first (write_join d rest)) ≡ Some ((joined_source d, option_map (cond_with build) (on_of d)), rest)
  unfolding joined is_key
  joined_told (CommaSource s) rest h = then_told _ _ _ _ (source_told s rest h) refl
  joined_told (JoinOn true s on) rest h = source_on_told s on rest h
  joined_told (JoinOn false s on) rest h = source_on_told s on rest h

  joins_told : (ds : List JoinRule) (n : ℕ) (froms : List FromItem) (on : Option CondTree) (rest : List Token) → length (write_joins ds rest) ≤ n → IsPast 0 rest → joins build n (froms, option_map (cond_with build) on) (write_joins ds rest) ≡ Some ((froms ++ map joined_source ds, option_map (cond_with build) (on_conds on ds)), rest)
  joins_told [] n froms on rest h past =
      joins_end build n (froms, option_map (cond_with build) on) rest (past_no_joint (first_token rest) past)
      ∙ same_found _ _ rest (same_pair _ _ _ _ (sym (append-nil froms)) refl)
  joins_told (d ∷ ds) zero froms on rest h past = let a = join_longer d (write_joins ds rest) in absurd (omega (arith, a))
  joins_told (d ∷ ds) (suc n) froms on rest h past =
      let a = join_longer d (write_joins ds rest) in
      let next : FromItem × Option CondTree = (joined_source d, option_map (cond_with build) (on_of d)) in
      joins_go_on build n (froms, option_map (cond_with build) on) (write_join d (write_joins ds rest)) (joint_of d) next (write_joins ds rest) (joint_told d (write_joins ds rest)) (joined_told d (write_joins ds rest) (joins_end_there ds rest (past_end (first_token rest) past)))
      ∙ ap (λ (c : Option CondTree). joins build n (froms ++ joined_source d ∷ [], c) (write_joins ds rest)) (also_with build on (on_of d))
      ∙ joins_told ds n (froms ++ joined_source d ∷ []) (also as_written on (on_of d)) rest (omega (arith, a)) past
      ∙ same_found _ _ rest (same_pair _ _ _ _ (append_assoc froms (joined_source d ∷ []) (map joined_source ds)) (sym (ap (option_map (cond_with build)) (on_next on d ds))))

  sources_told : (s : NameRule × AliasRule) (ds : List JoinRule) (rest : List Token) → IsPast 0 rest → sources build (write_source s (write_joins ds rest)) ≡ Some ((source_of s ∷ map joined_source ds, option_map (cond_with build) (on_conds None ds)), rest)
  unfolding sources
  sources_told s ds rest past =
      then_told _ _ _ _ (source_told s (write_joins ds rest) (joins_end_there ds rest (past_end (first_token rest) past)))
      (joins_told ds (length (write_joins ds rest)) (source_of s ∷ []) None rest (omega arith) past)

  having_told : (d : HavingRule) (rest : List Token) → IsEnd rest → having_cond build (write_cond write_value d rest) ≡ Some (cond_with build (cond_of value_of d), rest)
  unfolding having_cond
  having_told d rest h = having_cond_told build d rest (end_ends rest h)

  having_longer : (d : HavingRule) (rest : List Token) → length rest < length (write_cond write_value d rest)
  having_longer d rest = cond_longer build write_value value_of (value build) (value_operand build) d rest

-- ## Keys and counts

ascending_told : (d : OrderRule) (rest : List Token) → IsEnd rest → ascending (write_order d rest) ≡ Some (is_ascending d, rest)
unfolding ascending is_key
ascending_told NoOrder rest h = branch_false _ _ _ _ (end_no_desc (first_token rest) h) (branch_false _ _ _ _ (end_no_asc (first_token rest) h) refl)
ascending_told AscOrder rest h = refl
ascending_told DescOrder rest h = refl

order_no_dot : (d : OrderRule) (rest : List Token) → IsEnd rest → is_dot (first_token (write_order d rest)) ≡ false
order_no_dot NoOrder rest h = end_no_dot rest h
order_no_dot AscOrder rest h = refl
order_no_dot DescOrder rest h = refl

column_no_digits : (d : ColumnRule) (rest : List Token) → digits_in (first_token (write_column d rest)) ≡ None
column_no_digits (PlainColumn (BareName n)) rest = refl
column_no_digits (PlainColumn (QuotedName n)) rest = refl
column_no_digits (TableColumn (BareName t) n) rest = refl
column_no_digits (TableColumn (QuotedName t) n) rest = refl

order_longer : (d : OrderRule) (rest : List Token) → length rest ≤ length (write_order d rest)
order_longer NoOrder rest = omega arith
order_longer AscOrder rest = omega arith
order_longer DescOrder rest = omega arith

place_longer : (d : PlaceRule) (rest : List Token) → length rest < length (write_place d rest)
place_longer (PositionKey digits) rest = omega arith
place_longer (ColumnKey c) rest = column_longer c rest

key_longer : (d : PlaceRule × OrderRule) (rest : List Token) → length rest < length (write_key d rest)
key_longer d rest =
    let a = order_longer d.1 rest in
    let b = place_longer d.0 (write_order d.1 rest) in
    omega (arith, a, b)

digits_longer : (d : List ℕ) (rest : List Token) → length rest < length (write_digits d rest)
digits_longer d rest = omega arith

-- ## Queries

module _ (build : Builder) (count : ℕ → ℕ) (long : ℕ → ℕ) where
  counted_told : (d : List ℕ) (rest : List Token) → IsEnd rest → counted build count (write_digits d rest) ≡ Some (count (number_of d), rest)
  unfolding counted
  counted_told d rest h = refl

  place_told : (d : PlaceRule) (rest : List Token) → is_dot (first_token rest) ≡ false → place build count (write_place d rest) ≡ Some (place_with build count long (place_of d), rest)
  unfolding place
  place_told (PositionKey digits) rest h = refl
  place_told (ColumnKey c) rest h = given_none _ _ _ _ (column_no_digits c rest) (then_told _ _ _ _ (column_told c rest h) refl)

  key_told : (d : PlaceRule × OrderRule) (rest : List Token) → IsEnd rest → key build count (write_key d rest) ≡ Some (key_with build count long (key_of d), rest)
  unfolding key
  key_told d rest h =
      then_told _ _ _ _ (place_told d.0 (write_order d.1 rest) (order_no_dot d.1 rest h))
      (then_told _ _ _ _ (ascending_told d.1 rest h) refl)

  item_told : (d : ValueRule × AliasRule) (rest : List Token) → IsEnd rest → item build (write_item d rest) ≡ Some (item_with build count long (item_of d), rest)
  unfolding item
  item_told d rest h =
      then_told _ _ _ _ (value_told build d.0 (write_alias d.1 rest) (alias_ends d.1 rest h))
      (then_told _ _ _ _ (alias_told d.1 rest h) refl)

  item_longer : (d : ValueRule × AliasRule) (rest : List Token) → length rest < length (write_item d rest)
  item_longer d rest =
      let is = value_operand build in
      let a = alias_longer d.1 rest in
      let b = is.longer d.0 (write_alias d.1 rest) in
      omega (arith, a, b)

  items_told : (d : ItemsRule) (rest : List Token) → IsEnd rest → comma_in (first_token rest) ≡ None → items build (write_items d rest) ≡ Some (map (item_with build count long) (items_of d), rest)
  unfolding items is_symbol
  items_told AllColumns rest h none = refl
  items_told (SomeItems ds) rest h none = branch_false _ _ _ _ (value_no_star ds.0.0 _) (listed_told write_item item_of (item_with build count long) (item build) item_told item_longer ds rest h none)

  groups_told : (o : Option (ColumnRule × List ColumnRule)) (rest : List Token) → IsPast 0 rest → IsPast 2 rest → listed_by word.Group column (write_behind (write_some write_column) (word.Group ∷ word.By ∷ []) o rest) ≡ Some (map column_of (any_of o), rest)
  groups_told o rest past later =
      listed_by_told write_column column_of (λ c. c) column (λ c rest end. column_told c rest (end_no_dot rest end)) column_longer word.Group o rest (past_end (first_token rest) past) (past_no_comma (first_token rest) past) (past_no_group (first_token rest) later)
      ∙ same_found _ _ rest (same_all (map column_of (any_of o)))

  -- the condition of ON and WHERE together
  same_cond : (d : FromRule) → also build (option_map (cond_with build) (on_conds None d.joins)) (option_map (cond_with build) (option_map where_of d.cond)) ≡ option_map (cond_with build) (with_where (on_conds None d.joins) d.cond)
  same_cond d = also_with build (on_conds None d.joins) (option_map where_of d.cond) ∙ sym (ap (option_map (cond_with build)) (with_where_is (on_conds None d.joins) d.cond))

  abbrev from_tree : Bool → List ItemTree → FromRule → Option CondTree → QueryTree
  from_tree distinct list d on = record {
    distinct = distinct;
    items = map (item_with build count long) list;
    froms = source_of d.source ∷ map joined_source d.joins;
    cond = on;
    groups = map column_of (any_of d.groups);
    having = option_map (cond_with build) (option_map (cond_of value_of) d.having);
    keys = map (key_with build count long) (map key_of (any_of d.keys));
    limit = option_map count (option_map number_of d.limit);
  }

  same_on : (distinct : Bool) (list : List ItemTree) (d : FromRule) → from_tree distinct list d (also build (option_map (cond_with build) (on_conds None d.joins)) (option_map (cond_with build) (option_map where_of d.cond))) ≡ query_with build count long (query_from distinct list (Some d))
  same_on distinct list d = ap (from_tree distinct list d) (same_cond d)

  from_told : (distinct : Bool) (list : List ItemTree) (d : FromRule) (rest : List Token) → IsPast 5 rest → from build count distinct (map (item_with build count long) list) (after_first (write_from d rest)) ≡ Some (query_with build count long (query_from distinct list (Some d)), rest)
  unfolding from
  from_told distinct list d rest past =
      let t5 = write_behind write_digits (word.Limit ∷ []) d.limit rest in
      let t4 = write_behind (write_some write_key) (word.Order ∷ word.By ∷ []) d.keys t5 in
      let t3 = write_behind (write_cond write_value) (word.Having ∷ []) d.having t4 in
      let t2 = write_behind (write_some write_column) (word.Group ∷ word.By ∷ []) d.groups t3 in
      let t1 = write_behind write_where (word.Where ∷ []) d.cond t2 in
      let p5 : IsPast 4 t5 = limit_past write_digits d.limit rest past in
      let p4 : IsPast 3 t4 = order_past (write_some write_key) d.keys t5 p5 in
      let p3 : IsPast 2 t3 = having_past (write_cond write_value) d.having t4 p4 in
      let p2 : IsPast 1 t2 = group_past (write_some write_column) d.groups t3 p3 in
      let p1 : IsPast 0 t1 = where_past write_where d.cond t2 p2 in
      then_told _ _ _ _ (sources_told build d.source d.joins t1 p1)
      (then_told _ _ _ _ (optional_told write_where where_of (cond_with build) (where_cond build) (where_told build) (where_longer build) word.Where d.cond t2 (past_end (first_token t2) (omega arith)) (past_no_where (first_token t2) p2))
      (then_told _ _ _ _ (groups_told d.groups t3 (omega arith) p3)
      (then_told _ _ _ _ (optional_told (write_cond write_value) (cond_of value_of) (cond_with build) (having_cond build) (having_told build) (having_longer build) word.Having d.having t4 (past_end (first_token t4) (omega arith)) (past_no_having (first_token t4) p4))
      (then_told _ _ _ _ (listed_by_told write_key key_of (key_with build count long) (key build count) key_told key_longer word.Order d.keys t5 (past_end (first_token t5) (omega arith)) (past_no_comma (first_token t5) (omega arith)) (past_no_order (first_token t5) p5))
      (then_told _ _ _ _ (optional_told write_digits number_of count (counted build count) counted_told digits_longer word.Limit d.limit rest (past_end (first_token rest) (omega arith)) (past_no_limit (first_token rest) past))
      (same_found _ _ rest (same_on distinct list d)))))))

  optional_from_told : (distinct : Bool) (list : List ItemTree) (d : Option FromRule) → optional_from build count distinct (map (item_with build count long) list) (write_optional_from d []) ≡ Some (query_with build count long (query_from distinct list d), [])
  unfolding optional_from is_key
  optional_from_told distinct list None = refl
  optional_from_told distinct list (Some d) = from_told distinct list d [] (omega arith)

  from_ends : (d : Option FromRule) → IsEnd (write_optional_from d [])
  from_ends None = refl
  from_ends (Some d) = refl

  from_no_comma : (d : Option FromRule) → comma_in (first_token (write_optional_from d [])) ≡ None
  from_no_comma None = refl
  from_no_comma (Some d) = refl

  query_told : (d : QueryRule) → query build count (after_first (write_query d [])) ≡ Some (query_with build count long (query_of d), [])
  unfolding query
  query_told d =
      let behind = write_optional_from d.from [] in
      then_told _ _ _ _ (flag_told word.Distinct write_distinct (λ rest. refl) (λ rest. refl) d.distinct (write_items d.items behind) (items_no_distinct d.items behind))
      (then_told _ _ _ _ (items_told d.items behind (from_ends d.from) (from_no_comma d.from))
      (optional_from_told d.distinct (items_of d.items) d.from))

  -- ## Statements

  pub stmt_told : (d : StmtRule) → stmt build count long (write_stmt d) ≡ Some (stmt_with build count long (stmt_of d), [])
  unfolding stmt explain is_key
  stmt_told (CreateRule table columns) = create_told build count long table columns
  stmt_told (DropRule table) = drop_told build count long table
  stmt_told (AlterRule table word_ coldef) = alter_told build count long table word_ coldef
  stmt_told (InsertRule table columns rows) = insert_told build count long table columns rows
  stmt_told (DeleteRule table cond) = delete_told build count long table cond
  stmt_told (UpdateRule table sets cond) = update_told build count long table sets cond
  stmt_told (SelectRule d) = then_told _ _ _ _ (query_told d) refl
  stmt_told (ExplainRule d) = then_told _ _ _ _ (query_told d) refl
