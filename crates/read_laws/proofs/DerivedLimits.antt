-- No literal of a derived statement is a Huge.
use Rattle.std.proofs.Common.{◌≡◌, ℕ, List, [], ◌∷◌, ◌++◌, Bool, true, false, ◌||◌, Option, Some, None, map, refl, ◌∙◌, subst}
use Rattle.std.specs.List.{list_any}
use Rattle.std.specs.Option.{option_map}
use Rattle.std.proofs.lemmas.List.Folds.{list_any-append}
use Rattle.sql_grammar.specs.Grammar.{all_of, LiteralRule, literal_cell, ExprRule, TermsRule, TermRule, FactorsRule, FactorRule, OperandRule, expr_of, terms_of, term_of, factors_of, factor_of, operand_of, ValueRule, value_of, TestRule, CondRule, ConjsRule, ConjRule, UnitsRule, UnitRule, denied_if, members_of, test_of, cond_of, conjs_of, conj_of, units_of, unit_of, WhereRule, where_of, NameRule}
use Rattle.sql_grammar.specs.Grammar.LiteralRule.{PlainDigits, MinusDigits, StringLiteral, DateLiteral, NullLiteral}
use Rattle.sql_grammar.specs.Grammar.ExprRule.{Sum}
use Rattle.sql_grammar.specs.Grammar.TermsRule.{NoTerm, MoreTerms}
use Rattle.sql_grammar.specs.Grammar.TermRule.{Product}
use Rattle.sql_grammar.specs.Grammar.FactorsRule.{NoFactor, MoreFactors}
use Rattle.sql_grammar.specs.Grammar.FactorRule.{Number, Operand}
use Rattle.sql_grammar.specs.Grammar.OperandRule.{NegativeNumber, StringOperand, DateOperand, NullOperand, ColumnOperand, Negated, Parenthesised}
use Rattle.sql_grammar.specs.Grammar.AggRule.{CountAll, AggregateOf}
use Rattle.sql_grammar.specs.Grammar.ValueRule.{ExprValue, AggValue}
use Rattle.sql_grammar.specs.Grammar.TestRule.{Comparison, BetweenTest, InTest, NullTest}
use Rattle.sql_grammar.specs.Grammar.CondRule.{Disjunction}
use Rattle.sql_grammar.specs.Grammar.ConjsRule.{NoConj, MoreConjs}
use Rattle.sql_grammar.specs.Grammar.ConjRule.{Conjunction}
use Rattle.sql_grammar.specs.Grammar.UnitsRule.{NoUnit, MoreUnits}
use Rattle.sql_grammar.specs.Grammar.UnitRule.{NotUnit, CondUnit, TestUnit}
use Rattle.sql_grammar.specs.Statements.{AliasRule, item_of, ItemsRule, items_of, JoinRule, and_also, on_conds, with_where, FromRule, query_from, ColumnEnd, default_of, ColdefRule, coldef_of, StmtRule, stmt_of, set_of, row_of}
use Rattle.sql_grammar.specs.Statements.ColumnEnd.{PlainEnd, NotNullEnd, DefaultEnd, NotNullDefault, DefaultNotNull}
use Rattle.cell_core.specs.declared.table.Column.{Column}
use Rattle.sql_grammar.specs.Statements.ItemsRule.{AllColumns, SomeItems}
use Rattle.sql_grammar.specs.Statements.JoinRule.{CommaSource, JoinOn}
use Rattle.sql_grammar.specs.Statements.StmtRule.{CreateRule, DropRule, AlterRule, InsertRule, DeleteRule, UpdateRule, SelectRule, ExplainRule}
use Rattle.sql_tree.specs.Exprs.{cond_exprs, exprs_of_cond}
use Rattle.sql_grammar.specs.Refused.{stmt_exprs}
use Rattle.sql_tree.specs.Tree.{ExprTree, CondTree, ItemTree}
use Rattle.sql_tree.specs.Tree.CondTree.{Compare, Either}
use Rattle.sql_tree.specs.Tree.StmtTree.{Select}
use Rattle.sql_tree.specs.declared.tree.CmpOp.TheVariants as compare
use Rattle.read_laws.specs.Unread.{has_literal, stmt_has_literal}
use Rattle.read_laws.specs.LimitLaws.{LimitsAsRead}
use Rattle.read_laws.proofs.ReadLimits.{is_huge, same_limits}

or_both : (a b : Bool) → a ≡ false → b ≡ false → (a || b) ≡ false
or_both true b e f = cc
or_both false b e f = f

-- ## Expressions

abbrev IsTold : ExprTree → Type 0
IsTold e = has_literal is_huge e ≡ false

mutual
  expr_told : (rule : ExprRule) → IsTold (expr_of rule)
  expr_told (Sum term terms) = terms_told (term_of term) (term_told term) terms

  terms_told : (left : ExprTree) → IsTold left → (rule : TermsRule) → IsTold (terms_of left rule)
  terms_told left h NoTerm = h
  terms_told left h (MoreTerms s term terms) = terms_told _ (or_both _ _ h (term_told term)) terms

  term_told : (rule : TermRule) → IsTold (term_of rule)
  term_told (Product factor factors) = factors_told (factor_of factor) (factor_told factor) factors

  factors_told : (left : ExprTree) → IsTold left → (rule : FactorsRule) → IsTold (factors_of left rule)
  factors_told left h NoFactor = h
  factors_told left h (MoreFactors factor factors) = factors_told _ (or_both _ _ h (factor_told factor)) factors

  factor_told : (rule : FactorRule) → IsTold (factor_of rule)
  factor_told (Number digits) = refl
  factor_told (Operand operand) = operand_told operand

  operand_told : (rule : OperandRule) → IsTold (operand_of rule)
  operand_told (NegativeNumber digits) = refl
  operand_told (StringOperand text) = refl
  operand_told (DateOperand text is) = refl
  operand_told NullOperand = refl
  operand_told (ColumnOperand column) = refl
  operand_told (Negated operand) = operand_told operand
  operand_told (Parenthesised e) = expr_told e

value_told : (rule : ValueRule) → IsTold (value_of rule)
value_told (ExprValue e) = expr_told e
value_told (AggValue CountAll) = refl
value_told (AggValue (AggregateOf f e)) = expr_told e

-- ## Conditions

abbrev AreTold : List ExprTree → Type 0
AreTold es = list_any (has_literal is_huge) es ≡ false

abbrev IsToldCond : CondTree → Type 0
IsToldCond c = AreTold (cond_exprs c)

both_told : (xs ys : List ExprTree) → AreTold xs → AreTold ys → AreTold (xs ++ ys)
both_told xs ys h k = list_any-append (has_literal is_huge) xs ys ∙ or_both _ _ h k

denied_told : (denied : Bool) (c : CondTree) → IsToldCond c → IsToldCond (denied_if denied c)
denied_told true c h = h
denied_told false c h = h

module _ {E : Type 0} (tree : E → ExprTree) (each : (e : E) → IsTold (tree e)) where
  pair_told : (a b : ExprTree) → IsTold a → IsTold b → AreTold (a ∷ b ∷ [])
  pair_told a b h k = or_both _ _ h (or_both _ _ k refl)

  members_told : (so_far : CondTree) (of : ExprTree) → IsToldCond so_far → IsTold of → (members : List E) → IsToldCond (members_of so_far of (map tree members))
  members_told so_far of h k [] = h
  members_told so_far of h k (member ∷ members) = members_told (Either so_far (Compare compare.Eq of (tree member))) of (both_told (cond_exprs so_far) (of ∷ tree member ∷ []) h (pair_told of (tree member) k (each member))) k members

  test_told : (rule : TestRule E) → IsToldCond (test_of tree rule)
  test_told (Comparison left cmp right) = pair_told (tree left) (tree right) (each left) (each right)
  test_told (BetweenTest of denied low high) = denied_told denied _ (or_both _ _ (each of) (pair_told (tree low) (tree high) (each low) (each high)))
  test_told (InTest of denied members) = denied_told denied _ (members_told _ (tree of) (pair_told (tree of) (tree members.0) (each of) (each members.0)) (each of) members.1)
  test_told (NullTest of denied) = denied_told denied _ (or_both _ _ (each of) refl)

  mutual
    pub cond_told : (rule : CondRule E) → IsToldCond (cond_of tree rule)
    cond_told (Disjunction conj conjs) = conjs_told (conj_of tree conj) (conj_told conj) conjs

    conjs_told : (left : CondTree) → IsToldCond left → (rule : ConjsRule E) → IsToldCond (conjs_of tree left rule)
    conjs_told left h NoConj = h
    conjs_told left h (MoreConjs conj conjs) = conjs_told _ (both_told (cond_exprs left) (cond_exprs (conj_of tree conj)) h (conj_told conj)) conjs

    conj_told : (rule : ConjRule E) → IsToldCond (conj_of tree rule)
    conj_told (Conjunction unit units) = units_told (unit_of tree unit) (unit_told unit) units

    units_told : (left : CondTree) → IsToldCond left → (rule : UnitsRule E) → IsToldCond (units_of tree left rule)
    units_told left h NoUnit = h
    units_told left h (MoreUnits unit units) = units_told _ (both_told (cond_exprs left) (cond_exprs (unit_of tree unit)) h (unit_told unit)) units

    unit_told : (rule : UnitRule E) → IsToldCond (unit_of tree rule)
    unit_told (NotUnit unit) = unit_told unit
    unit_told (CondUnit cond) = cond_told cond
    unit_told (TestUnit test) = test_told test

where_told : (rule : WhereRule) → IsToldCond (where_of rule)
where_told = cond_told expr_of expr_told

optional_told : (o : Option WhereRule) → AreTold (exprs_of_cond (option_map where_of o))
optional_told None = refl
optional_told (Some cond) = where_told cond

-- ## Statements

also_told : (o : Option CondTree) (c : CondTree) → AreTold (exprs_of_cond o) → IsToldCond c → AreTold (exprs_of_cond (and_also o c))
also_told None c h k = k
also_told (Some left) c h k = both_told (cond_exprs left) (cond_exprs c) h k

joins_told : (o : Option CondTree) → AreTold (exprs_of_cond o) → (joins : List JoinRule) → AreTold (exprs_of_cond (on_conds o joins))
joins_told o h [] = h
joins_told o h (CommaSource source ∷ joins) = joins_told o h joins
joins_told o h (JoinOn inner source cond ∷ joins) = joins_told (and_also o (where_of cond)) (also_told o (where_of cond) h (where_told cond)) joins

with_told : (o : Option CondTree) → AreTold (exprs_of_cond o) → (cond : Option WhereRule) → AreTold (exprs_of_cond (with_where o cond))
with_told o h None = h
with_told o h (Some cond) = also_told o (where_of cond) h (where_told cond)

having_told : (o : Option (CondRule ValueRule)) → AreTold (exprs_of_cond (option_map (cond_of value_of) o))
having_told None = refl
having_told (Some cond) = cond_told value_of value_told cond

items_told : (items : List (ValueRule × AliasRule)) → AreTold (map (λ (item : ItemTree). item.expr) (map item_of items))
items_told [] = refl
items_told (item ∷ items) = or_both _ _ (value_told item.0) (items_told items)

all_items_told : (items : ItemsRule) → AreTold (map (λ (item : ItemTree). item.expr) (items_of items))
all_items_told AllColumns = refl
all_items_told (SomeItems items) = items_told (all_of items)

parts_told : (items : ItemsRule) (cond having : Option CondTree) → AreTold (exprs_of_cond cond) → AreTold (exprs_of_cond having)
    → AreTold (map (λ (item : ItemTree). item.expr) (items_of items) ++ exprs_of_cond cond ++ exprs_of_cond having)
parts_told items cond having h k =
    both_told (map (λ (item : ItemTree). item.expr) (items_of items) ++ exprs_of_cond cond) (exprs_of_cond having)
    (both_told (map (λ (item : ItemTree). item.expr) (items_of items)) (exprs_of_cond cond) (all_items_told items) h) k

query_told : (distinct : Bool) (items : ItemsRule) (from : Option FromRule) → AreTold (stmt_exprs (Select (query_from distinct (items_of items) from)))
query_told distinct items None = parts_told items None None refl refl
query_told distinct items (Some from) =
    parts_told items (with_where (on_conds None from.joins) from.cond) (option_map (cond_of value_of) from.having)
    (with_told (on_conds None from.joins) (joins_told None refl from.joins) from.cond) (having_told from.having)

sets_told : (sets : List (NameRule × ExprRule)) → AreTold (map (λ (set : List ℕ × ExprTree). set.1) (map set_of sets))
sets_told [] = refl
sets_told (set ∷ sets) = or_both _ _ (expr_told set.1) (sets_told sets)

literal_told : (rule : LiteralRule) → is_huge (literal_cell rule) ≡ false
literal_told (PlainDigits digits) = refl
literal_told (MinusDigits digits) = refl
literal_told (StringLiteral text) = refl
literal_told (DateLiteral text is) = refl
literal_told NullLiteral = refl

cells_told : (cells : List LiteralRule) → list_any is_huge (map literal_cell cells) ≡ false
cells_told [] = refl
cells_told (cell ∷ cells) = or_both _ _ (literal_told cell) (cells_told cells)

rows_told : (rows : List (LiteralRule × List LiteralRule)) → list_any (list_any is_huge) (map row_of rows) ≡ false
rows_told [] = refl
rows_told (row ∷ rows) = or_both _ _ (cells_told (all_of row)) (rows_told rows)

default_told : (end : ColumnEnd) → is_huge (default_of end) ≡ false
default_told PlainEnd = refl
default_told NotNullEnd = refl
default_told (DefaultEnd literal) = literal_told literal
default_told (NotNullDefault literal) = literal_told literal
default_told (DefaultNotNull literal) = literal_told literal

coldefs_told : (coldefs : List ColdefRule) → list_any (λ (column : Column). is_huge column.default) (map coldef_of coldefs) ≡ false
coldefs_told [] = refl
coldefs_told (coldef ∷ coldefs) = or_both _ _ (default_told coldef.end) (coldefs_told coldefs)

stmt_told : (rule : StmtRule) → stmt_has_literal is_huge (stmt_of rule) ≡ false
stmt_told (CreateRule table coldefs) = coldefs_told (all_of coldefs)
stmt_told (DropRule table) = refl
stmt_told (AlterRule table column_word coldef) = coldefs_told (coldef ∷ [])
stmt_told (InsertRule table columns rows) = rows_told (all_of rows)
stmt_told (DeleteRule table cond) = optional_told cond
stmt_told (UpdateRule table sets cond) = both_told (map (λ (set : List ℕ × ExprTree). set.1) (map set_of (all_of sets))) (exprs_of_cond (option_map where_of cond)) (sets_told (all_of sets)) (optional_told cond)
stmt_told (SelectRule query) = query_told query.distinct query.items query.from
stmt_told (ExplainRule query) = query_told query.distinct query.items query.from

pub limits_are_read : LimitsAsRead
limits_are_read = λ kept keeps bytes tokens statement derived.
    same_limits kept keeps bytes tokens statement (subst (λ s. stmt_has_literal is_huge s ≡ false) derived.statement_is (stmt_told derived.rule))
