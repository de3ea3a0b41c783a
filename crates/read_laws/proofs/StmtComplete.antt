-- What a derivation of CREATE, DROP, INSERT, DELETE or UPDATE writes is read as what it stands for.
use Rattle.std.proofs.Common.{◌≡◌, ℕ, ◌<◌, ◌≤◌, List, [], ◌∷◌, length, map, Bool, false, Option, Some, refl, arith}
use Rattle.sql_grammar.specs.Grammar.{sign, write_some, write_enclosed, write_behind, NameRule, write_name, LiteralRule, write_literal, literal_cell, ExprRule, write_expr, expr_of, WhereRule, write_where, where_of}
use Rattle.sql_grammar.specs.Grammar.NameRule.{BareName, QuotedName}
use Rattle.sql_grammar.specs.Grammar.LiteralRule.{PlainDigits, MinusDigits, StringLiteral, DateLiteral, NullLiteral}
use Rattle.sql_grammar.specs.Statements.{TypeRule, write_type, kind_of, width_of, ColumnEnd, write_not_null, write_end, ColdefRule, write_coldef, coldef_of, write_column_word, write_set, set_of, write_column_list, write_row, row_of, write_stmt, stmt_of}
use Rattle.sql_grammar.specs.Statements.TypeRule.{IntType, IntegerType, BigintType, TextType, DateType, VarcharType}
use Rattle.sql_grammar.specs.Statements.ColumnEnd.{PlainEnd, NotNullEnd, DefaultEnd, NotNullDefault, DefaultNotNull}
use Rattle.sql_grammar.specs.Statements.StmtRule.{CreateRule, DropRule, AlterRule, InsertRule, DeleteRule, UpdateRule}
use Rattle.read_laws.specs.Bounded.{Builder}
use Rattle.read_laws.specs.Chain.{first_token, after_first}
use Rattle.read_laws.specs.CondReader.{whole_expr}
use Rattle.read_laws.specs.DerivedExprs.{cell_with, cond_with}
use Rattle.read_laws.specs.Parts.{is_key, is_symbol}
use Rattle.read_laws.proofs.ChainLemmas.{then_told, branch_false}
use Rattle.read_laws.proofs.CondLaws.{where_cond_told}
use Rattle.read_laws.proofs.CondComplete.{cond_longer}
use Rattle.text_bytes.proofs.DayLemmas.{day_told}
use Rattle.read_laws.proofs.ExprComplete.{name_longer, expr_longer}
use Rattle.read_laws.proofs.OperandComplete.{whole_told, expr_operand}
use Rattle.sql_tree.specs.declared.token.Keyword.TheVariants as word
use Rattle.sql_tree.specs.declared.token.Symbol.TheVariants as symbol
use Rattle.sql_tree.specs.declared.token.Token.{Token}
use Rattle.sql_tree.specs.declared.token.Token.TheVariants.{Key}
use Rattle.read_laws.specs.DerivedStmts.{column_with, set_with, stmt_with}
use Rattle.read_laws.specs.StmtReader.{not_null, column_end, varchar, type_at, coldef, create, alter, drop_table, day_literal, negative_literal, literal, row, insert, where_cond, delete, set, update, stmt}
use Rattle.read_laws.proofs.EndLemmas.{IsEnd, IsPast, end_ends, end_expr, end_no_not, end_no_default, past_end, past_no_comma, where_past}
use Rattle.read_laws.proofs.PartComplete.{name_told, names_told, flag_told, listed_told, enclosed_told, enclosed_longer, optional_told}
use Rattle.read_laws.proofs.StmtSound.{ends_of}

-- ## Literals

literal_told : (build : Builder) (d : LiteralRule) (rest : List Token) → literal build (write_literal d rest) ≡ Some (cell_with build.number (literal_cell d), rest)
unfolding literal negative_literal day_literal
literal_told build (PlainDigits digits) rest = refl
literal_told build (MinusDigits digits) rest = refl
literal_told build (StringLiteral text) rest = refl
literal_told build (DateLiteral text is) rest = then_told _ _ _ _ (day_told text is) refl
literal_told build NullLiteral rest = refl

literal_longer : (d : LiteralRule) (rest : List Token) → length rest < length (write_literal d rest)
literal_longer (PlainDigits digits) rest = omega arith
literal_longer (MinusDigits digits) rest = omega arith
literal_longer (StringLiteral text) rest = omega arith
literal_longer (DateLiteral text is) rest = omega arith
literal_longer NullLiteral rest = omega arith

-- ## Column definitions

-- no NOT NULL is here
no_not_null_told : (rest : List Token) → is_key word.Not (first_token rest) ≡ false → not_null rest ≡ Some (false, rest)
unfolding not_null
no_not_null_told rest h = branch_false _ _ _ _ h refl

module _ (build : Builder) where
  column_end_told : (d : ColumnEnd) (rest : List Token) → IsEnd rest → column_end build (write_end d rest) ≡ Some (ends_of build d, rest)
  unfolding column_end not_null is_key
  column_end_told PlainEnd rest h = then_told _ _ _ _ (no_not_null_told rest (end_no_not (first_token rest) h)) (branch_false _ _ _ _ (end_no_default (first_token rest) h) refl)
  column_end_told NotNullEnd rest h = branch_false _ _ _ _ (end_no_default (first_token rest) h) refl
  column_end_told (DefaultEnd l) rest h = then_told _ _ _ _ (literal_told build l rest) (then_told _ _ _ _ (no_not_null_told rest (end_no_not (first_token rest) h)) refl)
  column_end_told (NotNullDefault l) rest h = then_told _ _ _ _ (literal_told build l rest) refl
  column_end_told (DefaultNotNull l) rest h = then_told _ _ _ _ (literal_told build l (write_not_null rest)) refl

column_end_longer : (d : ColumnEnd) (rest : List Token) → length rest ≤ length (write_end d rest)
column_end_longer PlainEnd rest = omega arith
column_end_longer NotNullEnd rest = omega arith
column_end_longer (DefaultEnd l) rest = let a = literal_longer l rest in omega (arith, a)
column_end_longer (NotNullDefault l) rest = let a = literal_longer l rest in omega (arith, a)
column_end_longer (DefaultNotNull l) rest = let a = literal_longer l (write_not_null rest) in omega (arith, a)

type_told : (long : ℕ → ℕ) (d : TypeRule) (rest : List Token) → type_at long (first_token (write_type d rest)) (after_first (write_type d rest)) ≡ Some ((kind_of d, long (width_of d)), rest)
unfolding varchar is_symbol
type_told long IntType rest = refl
type_told long IntegerType rest = refl
type_told long BigintType rest = refl
type_told long TextType rest = refl
type_told long DateType rest = refl
type_told long (VarcharType digits) rest = refl

type_longer : (d : TypeRule) (rest : List Token) → length rest ≤ length (write_type d rest)
type_longer IntType rest = omega arith
type_longer IntegerType rest = omega arith
type_longer BigintType rest = omega arith
type_longer TextType rest = omega arith
type_longer DateType rest = omega arith
type_longer (VarcharType digits) rest = omega arith

coldef_longer : (d : ColdefRule) (rest : List Token) → length rest < length (write_coldef d rest)
coldef_longer d rest =
    let a = column_end_longer d.end rest in
    let b = type_longer d.kind (write_end d.end rest) in
    let c = name_longer d.name (write_type d.kind (write_end d.end rest)) in
    omega (arith, a, b, c)

-- a column definition begins with a name, and not with COLUMN
name_no_column : (d : NameRule) (rest : List Token) → is_key word.Column (first_token (write_name d rest)) ≡ false
unfolding is_key
name_no_column (BareName n) rest = refl
name_no_column (QuotedName n) rest = refl

-- ## Rows and conditions

module _ (build : Builder) where
  listed_literal_told : (d : LiteralRule) (rest : List Token) → IsEnd rest → literal build (write_literal d rest) ≡ Some (cell_with build.number (literal_cell d), rest)
  listed_literal_told d rest h = literal_told build d rest

  row_told : (d : LiteralRule × List LiteralRule) (rest : List Token) → IsEnd rest → row build (write_row d rest) ≡ Some (map (cell_with build.number) (row_of d), rest)
  unfolding row
  row_told d rest h = enclosed_told write_literal literal_cell (cell_with build.number) (literal build) listed_literal_told literal_longer d rest

  row_longer : (d : LiteralRule × List LiteralRule) (rest : List Token) → length rest < length (write_row d rest)
  row_longer d rest = enclosed_longer write_literal literal_cell (cell_with build.number) (literal build) listed_literal_told literal_longer d rest

  pub where_told : (d : WhereRule) (rest : List Token) → IsEnd rest → where_cond build (write_where d rest) ≡ Some (cond_with build (where_of d), rest)
  unfolding where_cond
  where_told d rest h = where_cond_told build d rest (end_ends rest h)

  pub where_longer : (d : WhereRule) (rest : List Token) → length rest < length (write_where d rest)
  where_longer d rest = cond_longer build write_expr expr_of (whole_expr build) (expr_operand build) d rest

-- ## Statements

module _ (build : Builder) (count : ℕ → ℕ) (long : ℕ → ℕ) where
  coldef_told : (d : ColdefRule) (rest : List Token) → IsEnd rest → coldef long build (write_coldef d rest) ≡ Some (column_with build count long (coldef_of d), rest)
  unfolding coldef
  coldef_told d rest h =
      then_told _ _ _ _ (name_told d.name (write_type d.kind (write_end d.end rest)))
      (then_told _ _ _ _ (type_told long d.kind (write_end d.end rest))
      (then_told _ _ _ _ (column_end_told build d.end rest h) refl))

  pub create_told : (table : NameRule) (columns : ColdefRule × List ColdefRule) → stmt build count long (write_stmt (CreateRule table columns)) ≡ Some (stmt_with build count long (stmt_of (CreateRule table columns)), [])
  unfolding stmt create is_key
  create_told table columns =
      then_told _ _ _ _ (name_told table (write_enclosed write_coldef columns []))
      (then_told _ _ _ _ (enclosed_told write_coldef coldef_of (column_with build count long) (coldef long build) coldef_told coldef_longer columns []) refl)

  pub drop_told : (table : NameRule) → stmt build count long (write_stmt (DropRule table)) ≡ Some (stmt_with build count long (stmt_of (DropRule table)), [])
  unfolding stmt drop_table is_key
  drop_told table = then_told _ _ _ _ (name_told table []) refl

  pub alter_told : (table : NameRule) (column_word : Bool) (column : ColdefRule) → stmt build count long (write_stmt (AlterRule table column_word column)) ≡ Some (stmt_with build count long (stmt_of (AlterRule table column_word column)), [])
  unfolding stmt alter is_key
  alter_told table column_word column =
      let behind = write_coldef column [] in
      then_told _ _ _ _ (name_told table (Key word.Add ∷ write_column_word column_word behind))
      (then_told _ _ _ _ (flag_told word.Column write_column_word (λ rest. refl) (λ rest. refl) column_word behind (name_no_column column.name _))
      (then_told _ _ _ _ (coldef_told column [] refl) refl))

  pub insert_told : (table : NameRule) (columns : Option (NameRule × List NameRule)) (rows : (LiteralRule × List LiteralRule) × List (LiteralRule × List LiteralRule)) → stmt build count long (write_stmt (InsertRule table columns rows)) ≡ Some (stmt_with build count long (stmt_of (InsertRule table columns rows)), [])
  unfolding stmt insert is_key is_symbol
  insert_told table columns rows =
      let values = Key word.Values ∷ write_some write_row rows [] in
      then_told _ _ _ _ (name_told table (write_column_list columns values))
      (then_told _ _ _ _ (names_told columns values refl)
      (then_told _ _ _ _ (listed_told write_row row_of (map (cell_with build.number)) (row build) (row_told build) (row_longer build) rows [] refl refl) refl))

  pub delete_told : (table : NameRule) (cond : Option WhereRule) → stmt build count long (write_stmt (DeleteRule table cond)) ≡ Some (stmt_with build count long (stmt_of (DeleteRule table cond)), [])
  unfolding stmt delete is_key
  delete_told table cond =
      then_told _ _ _ _ (name_told table (write_behind write_where (word.Where ∷ []) cond []))
      (then_told _ _ _ _ (optional_told write_where where_of (cond_with build) (where_cond build) (where_told build) (where_longer build) word.Where cond [] refl refl) refl)

  set_told : (d : NameRule × ExprRule) (rest : List Token) → IsEnd rest → set build (write_set d rest) ≡ Some (set_with build count long (set_of d), rest)
  unfolding set is_symbol
  set_told d rest h =
      then_told _ _ _ _ (name_told d.0 (sign symbol.Equal ∷ write_expr d.1 rest))
      (then_told _ _ _ _ (whole_told build d.1 rest (end_expr rest h)) refl)

  set_longer : (d : NameRule × ExprRule) (rest : List Token) → length rest < length (write_set d rest)
  set_longer d rest =
      let a = expr_longer d.1 rest in
      let b = name_longer d.0 (sign symbol.Equal ∷ write_expr d.1 rest) in
      omega (arith, a, b)

  pub update_told : (table : NameRule) (sets : (NameRule × ExprRule) × List (NameRule × ExprRule)) (cond : Option WhereRule) → stmt build count long (write_stmt (UpdateRule table sets cond)) ≡ Some (stmt_with build count long (stmt_of (UpdateRule table sets cond)), [])
  unfolding stmt update is_key
  update_told table sets cond =
      let behind = write_behind write_where (word.Where ∷ []) cond [] in
      let past : IsPast 0 behind = where_past write_where cond [] (omega arith) in
      then_told _ _ _ _ (name_told table (Key word.Set ∷ write_some write_set sets behind))
      (then_told _ _ _ _ (listed_told write_set set_of (set_with build count long) (set build) set_told set_longer sets behind (past_end (first_token behind) past) (past_no_comma (first_token behind) past))
      (then_told _ _ _ _ (optional_told write_where where_of (cond_with build) (where_cond build) (where_told build) (where_longer build) word.Where cond [] refl refl) refl))
