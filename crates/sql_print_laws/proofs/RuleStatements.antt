-- No rule of what the profile leaves out applies to the tokens of a derivation.
use Rattle.std.proofs.Common.{◌≡◌, ℕ, zero, suc, List, [], ◌∷◌, Bool, true, false, ◌&&◌, Option, Some, None, refl, ap, arith}
use Rattle.std.specs.Prelude.{slice_get}
use Rattle.sql_grammar.specs.Grammar.{sign, write_some, write_enclosed, write_behind, NameRule, write_name, LiteralRule, write_literal, ColumnRule, write_column, ExprRule, write_expr, ValueRule, write_value, WhereRule, write_where, write_cond}
use Rattle.sql_grammar.specs.Grammar.NameRule.{BareName, QuotedName}
use Rattle.sql_grammar.specs.Grammar.LiteralRule.{PlainDigits, MinusDigits, StringLiteral, DateLiteral, NullLiteral}
use Rattle.sql_grammar.specs.Refused.{has_expressions, IsFirstRule}
use Rattle.sql_grammar.specs.Statements.{AliasRule, write_alias, write_item, ItemsRule, write_items, write_source, JoinRule, write_join, write_joins, PlaceRule, OrderRule, write_place, write_order, write_key, FromRule, QueryRule, write_digits, write_from, write_distinct, write_optional_from, TypeRule, write_type, ColumnEnd, write_not_null, write_default, write_end, ColdefRule, write_coldef, write_column_word, write_set, write_column_list, write_row, StmtRule, write_stmt}
use Rattle.sql_grammar.specs.Statements.AliasRule.{NoAlias, BareAlias, AsAlias}
use Rattle.sql_grammar.specs.Statements.ItemsRule.{AllColumns, SomeItems}
use Rattle.sql_grammar.specs.Statements.JoinRule.{CommaSource, JoinOn}
use Rattle.sql_grammar.specs.Statements.PlaceRule.{PositionKey, ColumnKey}
use Rattle.sql_grammar.specs.Statements.OrderRule.{NoOrder, AscOrder, DescOrder}
use Rattle.sql_grammar.specs.Statements.TypeRule.{IntType, IntegerType, BigintType, TextType, DateType, VarcharType}
use Rattle.sql_grammar.specs.Statements.ColumnEnd.{PlainEnd, NotNullEnd, DefaultEnd, NotNullDefault, DefaultNotNull}
use Rattle.sql_grammar.specs.Statements.StmtRule.{CreateRule, DropRule, AlterRule, InsertRule, DeleteRule, UpdateRule, SelectRule, ExplainRule}
use Rattle.sql_print_laws.proofs.RuleParts.{Still, Calm, name_calm, column_calm, expr_still, value_still, some_still, enclosed_still, behind_calm, cond_still}
use Rattle.sql_print_laws.proofs.RuleWalk.{opens, quiet_rules}
use Rattle.sql_tree.specs.declared.token.Keyword.TheVariants as word
use Rattle.sql_tree.specs.declared.token.Symbol.TheVariants as symbol
use Rattle.sql_tree.specs.declared.token.Token.{Token}
use Rattle.sql_tree.specs.declared.token.Token.TheVariants.{Name, Quoted, Text, Digits, Key}

-- ## Queries

end_calm : (first : Token) → Calm first []
end_calm first = (refl, λ past. tt)

module _ (first : Token) where
  alias_calm : (a : AliasRule) (rest : List Token) → Calm first rest → Calm first (write_alias a rest)
  alias_calm NoAlias rest h = h
  alias_calm (BareAlias name) rest h = name_calm first name rest h
  alias_calm (AsAlias name) rest h = (refl, λ past. (tt, (name_calm first name rest h).1 (Key word.As ∷ past)))

  item_still : (item : ValueRule × AliasRule) (rest : List Token) → Calm first rest → Still first (write_item item rest)
  item_still item rest h = value_still first item.0 (write_alias item.1 rest) (alias_calm item.1 rest h)

  items_still : (items : ItemsRule) (rest : List Token) → Calm first rest → Still first (write_items items rest)
  items_still AllColumns rest h = λ past. (tt, h.1 (sign symbol.Star ∷ past))
  items_still (SomeItems items) rest h = some_still first write_item item_still items rest h

  source_still : (source : NameRule × AliasRule) (rest : List Token) → Calm first rest → Still first (write_source source rest)
  source_still source rest h = (name_calm first source.0 (write_alias source.1 rest) (alias_calm source.1 rest h)).1

  where_still : (cond : WhereRule) (rest : List Token) → Calm first rest → Still first (write_where cond rest)
  where_still cond rest h = cond_still first write_expr (expr_still first) cond rest h

  join_still : (source : NameRule × AliasRule) (cond : WhereRule) (rest : List Token) → Calm first rest → Still first (Key word.Join ∷ write_source source (Key word.On ∷ write_where cond rest))
  join_still source cond rest h = λ past. (tt, source_still source (Key word.On ∷ write_where cond rest) (refl, λ inside. (tt, where_still cond rest h (Key word.On ∷ inside))) (Key word.Join ∷ past))

  join_calm : (join : JoinRule) (rest : List Token) → Calm first rest → Calm first (write_join join rest)
  join_calm (CommaSource source) rest h = (refl, λ past. (tt, source_still source rest h (sign symbol.Comma ∷ past)))
  join_calm (JoinOn true source cond) rest h = (refl, λ past. (tt, join_still source cond rest h (Key word.Inner ∷ past)))
  join_calm (JoinOn false source cond) rest h = (refl, join_still source cond rest h)

  joins_calm : (joins : List JoinRule) (rest : List Token) → Calm first rest → Calm first (write_joins joins rest)
  joins_calm [] rest h = h
  joins_calm (join ∷ joins) rest h = join_calm join (write_joins joins rest) (joins_calm joins rest h)

  reference_still : (c : ColumnRule) (rest : List Token) → Calm first rest → Still first (write_column c rest)
  reference_still c rest h = (column_calm first c rest h).1

  place_still : (p : PlaceRule) (rest : List Token) → Calm first rest → Still first (write_place p rest)
  place_still (PositionKey digits) rest h = λ past. (tt, h.1 (Digits digits ∷ past))
  place_still (ColumnKey column) rest h = reference_still column rest h

  order_calm : (o : OrderRule) (rest : List Token) → Calm first rest → Calm first (write_order o rest)
  order_calm NoOrder rest h = h
  order_calm AscOrder rest h = (refl, λ past. (tt, h.1 (Key word.Asc ∷ past)))
  order_calm DescOrder rest h = (refl, λ past. (tt, h.1 (Key word.Desc ∷ past)))

  key_still : (key : PlaceRule × OrderRule) (rest : List Token) → Calm first rest → Still first (write_key key rest)
  key_still key rest h = place_still key.0 (write_order key.1 rest) (order_calm key.1 rest h)

  digits_still : (digits : List ℕ) (rest : List Token) → Calm first rest → Still first (write_digits digits rest)
  digits_still digits rest h = λ past. (tt, h.1 (Digits digits ∷ past))

  where_led : (ts : List Token) → Still first ts → Calm first (Key word.Where ∷ ts)
  where_led ts h = (refl, λ past. (tt, h (Key word.Where ∷ past)))

  from_calm : (from : FromRule) (rest : List Token) → Calm first rest → Calm first (write_from from rest)
  from_calm from rest h = (
    refl,
    λ past. (
      tt,
      source_still from.source _ (joins_calm from.joins _
          (behind_calm first write_where where_still (word.Where ∷ []) where_led from.cond _
          (behind_calm first (write_some write_column) (some_still first write_column reference_still) (word.Group ∷ word.By ∷ []) (λ ts s. (refl, λ past. (tt, (tt, s (Key word.By ∷ Key word.Group ∷ past))))) from.groups _
          (behind_calm first (write_cond write_value) (cond_still first write_value (value_still first)) (word.Having ∷ []) (λ ts s. (refl, λ past. (tt, s (Key word.Having ∷ past)))) from.having _
          (behind_calm first (write_some write_key) (some_still first write_key key_still) (word.Order ∷ word.By ∷ []) (λ ts s. (refl, λ past. (tt, (tt, s (Key word.By ∷ Key word.Order ∷ past))))) from.keys _
          (behind_calm first write_digits digits_still (word.Limit ∷ []) (λ ts s. (refl, λ past. (tt, s (Key word.Limit ∷ past)))) from.limit rest h)))))) (Key word.From ∷ past),
    ),
  )

  optional_from_calm : (from : Option FromRule) (rest : List Token) → Calm first rest → Calm first (write_optional_from from rest)
  optional_from_calm None rest h = h
  optional_from_calm (Some from) rest h = from_calm from rest h

  selected_still : (query : QueryRule) → Still first (write_items query.items (write_optional_from query.from []))
  selected_still query = items_still query.items (write_optional_from query.from []) (optional_from_calm query.from [] (end_calm first))

  -- a statement whose tokens from the first on are still
  from_first : (ts : List Token) → slice_get ts 0 ≡ Some first → Still first ts → IsFirstRule ts None
  from_first ts is h k = quiet_rules first [] ts is (h []) k k (omega arith)

-- SELECT comes first, and DISTINCT after it
select_rules : (distinct : Bool) (rest : List Token) → Still (Key word.Select) rest → IsFirstRule (Key word.Select ∷ write_distinct distinct rest) None
select_rules true rest h zero = refl
select_rules true rest h (suc zero) = refl
select_rules true rest h (suc (suc j)) = quiet_rules (Key word.Select) (Key word.Distinct ∷ Key word.Select ∷ []) rest refl (h (Key word.Distinct ∷ Key word.Select ∷ [])) j (suc (suc j)) (omega arith)
select_rules false rest h zero = refl
select_rules false rest h (suc j) = quiet_rules (Key word.Select) (Key word.Select ∷ []) rest refl (h (Key word.Select ∷ [])) j (suc j) (omega arith)

-- or both after EXPLAIN
explain_rules : (distinct : Bool) (rest : List Token) → Still (Key word.Explain) rest → IsFirstRule (Key word.Explain ∷ Key word.Select ∷ write_distinct distinct rest) None
explain_rules true rest h zero = refl
explain_rules true rest h (suc zero) = refl
explain_rules true rest h (suc (suc zero)) = refl
explain_rules true rest h (suc (suc (suc j))) = quiet_rules (Key word.Explain) (Key word.Distinct ∷ Key word.Select ∷ Key word.Explain ∷ []) rest refl (h (Key word.Distinct ∷ Key word.Select ∷ Key word.Explain ∷ [])) j (suc (suc (suc j))) (omega arith)
explain_rules false rest h zero = refl
explain_rules false rest h (suc zero) = refl
explain_rules false rest h (suc (suc j)) = quiet_rules (Key word.Explain) (Key word.Select ∷ Key word.Explain ∷ []) rest refl (h (Key word.Select ∷ Key word.Explain ∷ [])) j (suc (suc j)) (omega arith)

-- ## Statements without expressions

module _ (first : Token) (none : has_expressions (Some first) ≡ false) where
  -- a name that may come before a parenthesis
  listed_still : (n : NameRule) (rest : List Token) → Still first rest → Still first (write_name n rest)
  listed_still (BareName name) rest h = λ past. (ap (λ b. b && opens rest) none, h (Name name ∷ past))
  listed_still (QuotedName name) rest h = λ past. (ap (λ b. b && opens rest) none, h (Quoted name ∷ past))

literal_still : (first : Token) (l : LiteralRule) (rest : List Token) → Still first rest → Still first (write_literal l rest)
literal_still first (PlainDigits digits) rest h = λ past. (tt, h (Digits digits ∷ past))
literal_still first (MinusDigits digits) rest h = λ past. (tt, (tt, h (Digits digits ∷ sign symbol.Minus ∷ past)))
literal_still first (StringLiteral text) rest h = λ past. (tt, h (Text text ∷ past))
literal_still first (DateLiteral text is) rest h = λ past. (tt, (tt, h (Text text ∷ Key word.Date ∷ past)))
literal_still first NullLiteral rest h = λ past. (tt, h (Key word.Null ∷ past))

row_still : (row : LiteralRule × List LiteralRule) (rest : List Token) → Calm (Key word.Insert) rest → Still (Key word.Insert) (write_row row rest)
row_still row rest h = enclosed_still (Key word.Insert) write_literal (λ l rest h. literal_still (Key word.Insert) l rest h.1) row rest h.1

column_list_still : (columns : Option (NameRule × List NameRule)) (rest : List Token) → Still (Key word.Insert) rest → Still (Key word.Insert) (write_column_list columns rest)
column_list_still None rest h = h
column_list_still (Some names) rest h = enclosed_still (Key word.Insert) write_name (λ n rest h. listed_still (Key word.Insert) refl n rest h.1) names rest h

-- ## Columns of CREATE and ALTER

not_null_still : (first : Token) (rest : List Token) → Still first rest → Still first (write_not_null rest)
not_null_still first rest h = λ past. (tt, (tt, h (Key word.Null ∷ Key word.Not ∷ past)))

default_still : (first : Token) (l : LiteralRule) (rest : List Token) → Still first rest → Still first (write_default l rest)
default_still first l rest h = λ past. (tt, literal_still first l rest h (Key word.Default ∷ past))

end_still : (first : Token) (e : ColumnEnd) (rest : List Token) → Still first rest → Still first (write_end e rest)
end_still first PlainEnd rest h = h
end_still first NotNullEnd rest h = not_null_still first rest h
end_still first (DefaultEnd l) rest h = default_still first l rest h
end_still first (NotNullDefault l) rest h = not_null_still first (write_default l rest) (default_still first l rest h)
end_still first (DefaultNotNull l) rest h = default_still first l (write_not_null rest) (not_null_still first rest h)

type_still : (first : Token) (k : TypeRule) (rest : List Token) → Still first rest → Still first (write_type k rest)
type_still first IntType rest h = λ past. (tt, h (Key word.Int ∷ past))
type_still first IntegerType rest h = λ past. (tt, h (Key word.Integer ∷ past))
type_still first BigintType rest h = λ past. (tt, h (Key word.Bigint ∷ past))
type_still first TextType rest h = λ past. (tt, h (Key word.Text ∷ past))
type_still first DateType rest h = λ past. (tt, h (Key word.Date ∷ past))
type_still first (VarcharType digits) rest h = λ past. (tt, (tt, (tt, (tt, h (sign symbol.Close ∷ Digits digits ∷ sign symbol.Open ∷ Key word.Varchar ∷ past)))))

coldef_still : (first : Token) → has_expressions (Some first) ≡ false → (coldef : ColdefRule) (rest : List Token) → Still first rest → Still first (write_coldef coldef rest)
coldef_still first none coldef rest h = listed_still first none coldef.name (write_type coldef.kind (write_end coldef.end rest)) (type_still first coldef.kind (write_end coldef.end rest) (end_still first coldef.end rest h))

column_word_still : (first : Token) (column_word : Bool) (rest : List Token) → Still first rest → Still first (write_column_word column_word rest)
column_word_still first true rest h = λ past. (tt, h (Key word.Column ∷ past))
column_word_still first false rest h = h

-- ## Statements

set_still : (set : NameRule × ExprRule) (rest : List Token) → Calm (Key word.Update) rest → Still (Key word.Update) (write_set set rest)
set_still set rest h = (name_calm (Key word.Update) set.0 (sign symbol.Equal ∷ write_expr set.1 rest) (refl, λ past. (tt, expr_still (Key word.Update) set.1 rest h (sign symbol.Equal ∷ past)))).1

where_calm : (first : Token) (cond : Option WhereRule) → Calm first (write_behind write_where (word.Where ∷ []) cond [])
where_calm first cond = behind_calm first write_where (where_still first) (word.Where ∷ []) (where_led first) cond [] (end_calm first)

create_still : (table : NameRule) (coldefs : ColdefRule × List ColdefRule) → Still (Key word.Create) (write_stmt (CreateRule table coldefs))
create_still table coldefs = λ past. (
  tt,
  (
    tt,
    listed_still (Key word.Create) refl table (write_enclosed write_coldef coldefs [])
        (enclosed_still (Key word.Create) write_coldef (λ coldef rest h. coldef_still (Key word.Create) refl coldef rest h.1) coldefs [] (λ inside. tt)) (Key word.Table ∷ Key word.Create ∷ past),
  ),
)

drop_still : (table : NameRule) → Still (Key word.Drop) (write_stmt (DropRule table))
drop_still table = λ past. (tt, (tt, listed_still (Key word.Drop) refl table [] (λ inside. tt) (Key word.Table ∷ Key word.Drop ∷ past)))

added_still : (column_word : Bool) (coldef : ColdefRule) → Still (Key word.Alter) (Key word.Add ∷ write_column_word column_word (write_coldef coldef []))
added_still column_word coldef = λ past. (tt, column_word_still (Key word.Alter) column_word (write_coldef coldef []) (coldef_still (Key word.Alter) refl coldef [] (λ inside. tt)) (Key word.Add ∷ past))

alter_still : (table : NameRule) (column_word : Bool) (coldef : ColdefRule) → Still (Key word.Alter) (write_stmt (AlterRule table column_word coldef))
alter_still table column_word coldef = λ past. (
  tt,
  (
    tt,
    listed_still (Key word.Alter) refl table (Key word.Add ∷ write_column_word column_word (write_coldef coldef [])) (added_still column_word coldef) (Key word.Table ∷ Key word.Alter ∷ past),
  ),
)

values_still : (rows : (LiteralRule × List LiteralRule) × List (LiteralRule × List LiteralRule)) → Still (Key word.Insert) (Key word.Values ∷ write_some write_row rows [])
values_still rows = λ past. (tt, some_still (Key word.Insert) write_row row_still rows [] (end_calm (Key word.Insert)) (Key word.Values ∷ past))

insert_still : (table : NameRule) (columns : Option (NameRule × List NameRule)) (rows : (LiteralRule × List LiteralRule) × List (LiteralRule × List LiteralRule)) → Still (Key word.Insert) (write_stmt (InsertRule table columns rows))
insert_still table columns rows = λ past. (
  tt,
  (
    tt,
    listed_still (Key word.Insert) refl table (write_column_list columns (Key word.Values ∷ write_some write_row rows []))
        (column_list_still columns (Key word.Values ∷ write_some write_row rows []) (values_still rows)) (Key word.Into ∷ Key word.Insert ∷ past),
  ),
)

delete_still : (table : NameRule) (cond : Option WhereRule) → Still (Key word.Delete) (write_stmt (DeleteRule table cond))
delete_still table cond = λ past. (tt, (tt, (name_calm (Key word.Delete) table (write_behind write_where (word.Where ∷ []) cond []) (where_calm (Key word.Delete) cond)).1 (Key word.From ∷ Key word.Delete ∷ past)))

sets_still : (sets : (NameRule × ExprRule) × List (NameRule × ExprRule)) (cond : Option WhereRule) → Still (Key word.Update) (Key word.Set ∷ write_some write_set sets (write_behind write_where (word.Where ∷ []) cond []))
sets_still sets cond = λ past. (tt, some_still (Key word.Update) write_set set_still sets (write_behind write_where (word.Where ∷ []) cond []) (where_calm (Key word.Update) cond) (Key word.Set ∷ past))

update_still : (table : NameRule) (sets : (NameRule × ExprRule) × List (NameRule × ExprRule)) (cond : Option WhereRule) → Still (Key word.Update) (write_stmt (UpdateRule table sets cond))
update_still table sets cond = λ past. (tt, (name_calm (Key word.Update) table (Key word.Set ∷ write_some write_set sets (write_behind write_where (word.Where ∷ []) cond [])) (refl, sets_still sets cond)).1 (Key word.Update ∷ past))

-- no rule applies to the tokens of a derivation
pub no_rule_of : (rule : StmtRule) → IsFirstRule (write_stmt rule) None
no_rule_of (CreateRule table coldefs) = from_first (Key word.Create) (write_stmt (CreateRule table coldefs)) refl (create_still table coldefs)
no_rule_of (DropRule table) = from_first (Key word.Drop) (write_stmt (DropRule table)) refl (drop_still table)
no_rule_of (AlterRule table column_word coldef) = from_first (Key word.Alter) (write_stmt (AlterRule table column_word coldef)) refl (alter_still table column_word coldef)
no_rule_of (InsertRule table columns rows) = from_first (Key word.Insert) (write_stmt (InsertRule table columns rows)) refl (insert_still table columns rows)
no_rule_of (DeleteRule table cond) = from_first (Key word.Delete) (write_stmt (DeleteRule table cond)) refl (delete_still table cond)
no_rule_of (UpdateRule table sets cond) = from_first (Key word.Update) (write_stmt (UpdateRule table sets cond)) refl (update_still table sets cond)
no_rule_of (SelectRule query) = select_rules query.distinct (write_items query.items (write_optional_from query.from [])) (selected_still (Key word.Select) query)
no_rule_of (ExplainRule query) = explain_rules query.distinct (write_items query.items (write_optional_from query.from [])) (selected_still (Key word.Explain) query)
