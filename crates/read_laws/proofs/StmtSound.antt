-- What is read as CREATE, DROP, INSERT, DELETE or UPDATE is what a derivation writes.
use Rattle.std.proofs.Common.{◌≡◌, ℕ, List, [], ◌∷◌, map, Bool, true, false, cond, Some, refl, ap, sym, ◌∙◌}
use Rattle.std.specs.Option.{option_map}
use Rattle.cell_core.specs.declared.cell.Cell.{Cell}
use Rattle.cell_core.specs.declared.cell.Cell.TheVariants as cell
use Rattle.cell_core.specs.declared.cell.Kind.{Kind}
use Rattle.cell_core.specs.declared.table.Column.{Column}
use Rattle.sql_grammar.specs.Grammar.{sign, write_some, write_enclosed, write_behind, all_of, write_name, LiteralRule, write_literal, literal_cell, write_expr, expr_of, write_where, where_of}
use Rattle.sql_grammar.specs.Grammar.LiteralRule.{PlainDigits, MinusDigits, StringLiteral, DateLiteral, NullLiteral}
use Rattle.sql_grammar.specs.Statements.{TypeRule, write_type, kind_of, width_of, ColumnEnd, write_not_null, write_default, write_end, is_required, default_of, write_coldef, coldef_of, write_column_word, write_set, set_of, write_column_list, write_row, row_of, StmtRule, write_stmt, stmt_of}
use Rattle.sql_grammar.specs.Statements.TypeRule.{IntType, IntegerType, BigintType, TextType, DateType, VarcharType}
use Rattle.sql_grammar.specs.Statements.ColumnEnd.{PlainEnd, NotNullEnd, DefaultEnd, NotNullDefault, DefaultNotNull}
use Rattle.sql_grammar.specs.Statements.StmtRule.{CreateRule, DropRule, AlterRule, InsertRule, DeleteRule, UpdateRule}
use Rattle.read_laws.specs.Bounded.{Builder}
use Rattle.read_laws.specs.Chain.{Found, first_token, after_first}
use Rattle.read_laws.specs.DerivedExprs.{cell_with, expr_with, cond_with}
use Rattle.read_laws.specs.Parts.{is_key, behind_key}
use Rattle.text_bytes.specs.Found.{then_read}
use Rattle.read_laws.proofs.CondSound.{whole_found}
use Rattle.read_laws.proofs.CondLaws.{where_sound}
use Rattle.text_bytes.proofs.DayLemmas.{day_found}
use Rattle.read_laws.proofs.ExprSound.{IsWritten, IsSound}
use Rattle.read_laws.proofs.TokenTests.{key_found, symbol_found, digits_found, text_found, closed_found}
use Rattle.sql_tree.specs.Tree.{ExprTree, StmtTree}
use Rattle.sql_tree.specs.Tree.StmtTree.{CreateTable, DropTable, AlterTable, InsertInto, DeleteFrom, UpdateTable}
use Rattle.sql_tree.specs.declared.token.Keyword.TheVariants as word
use Rattle.sql_tree.specs.declared.token.Symbol.TheVariants as symbol
use Rattle.sql_tree.specs.declared.token.Token.{Token}
use Rattle.sql_tree.specs.declared.token.Token.TheVariants.{Text, Digits, Key}
use Rattle.sql_tree.specs.declared.token.Token.TheVariants as token
use Rattle.read_laws.specs.DerivedStmts.{column_with, set_with, stmt_with}
use Rattle.read_laws.specs.StmtReader.{flag, not_null, default_end, column_end, varchar, type_at, coldef, create, alter, drop_table, day_literal, negative_literal, literal, row, insert, where_cond, delete, set, update}
use Rattle.read_laws.proofs.PartSound.{name_sound, names_sound, flag_found, listed_found, enclosed_found, optional_found}
use Rattle.text_bytes.proofs.FoundLemmas.{then_found, guard_found, pair_found}

ap_three : {A B C X : Type 0} (f : A → B → C → X) (a a' : A) (b b' : B) (c c' : C) → a ≡ a' → b ≡ b' → c ≡ c' → f a b c ≡ f a' b' c'
ap_three f a a' b b' c c' p q r = cc

ap_four : {A B C D X : Type 0} (f : A → B → C → D → X) (a a' : A) (b b' : B) (c c' : C) (d d' : D) → a ≡ a' → b ≡ b' → c ≡ c' → d ≡ d' → f a b c d ≡ f a' b' c' d'
ap_four f a a' b b' c c' d d' p q r s = cc

-- ## Literals

day_literal_found : (build : Builder) (ts : List Token) (x : Cell) (rest : List Token) → day_literal ts ≡ Some (x, rest) → IsWritten write_literal (λ l. cell_with build.number (literal_cell l)) (Key word.Date ∷ ts) x rest
unfolding day_literal
day_literal_found build ts x rest h =
    let f = then_found _ _ _ h in
    let g = then_found _ _ _ f.2 in
    let day = day_found f.0 g.0 g.1 in
    let parts = pair_found _ _ _ _ g.2 in
    record { rule = DateLiteral f.0 day.0; written = ap (λ r. Key word.Date ∷ Text f.0 ∷ r) (sym parts.1) ∙ ap (λ r. Key word.Date ∷ r) (text_found ts f.0 f.1); means = ap (λ d. cell.Day d) day.1 ∙ parts.0 }

module _ (build : Builder) where
  negative_literal_found : (ts : List Token) (x : Cell) (rest : List Token) → negative_literal build ts ≡ Some (x, rest) → IsWritten write_literal (λ l. cell_with build.number (literal_cell l)) (sign symbol.Minus ∷ ts) x rest
  unfolding negative_literal
  negative_literal_found ts x rest h =
      let f = then_found _ _ _ h in
      let parts = pair_found _ _ _ _ f.2 in
      record { rule = MinusDigits f.0; written = ap (λ r. sign symbol.Minus ∷ Digits f.0 ∷ r) (sym parts.1) ∙ ap (λ r. sign symbol.Minus ∷ r) (digits_found ts f.0 f.1); means = parts.0 }

  literal_sound : IsSound write_literal (λ l. cell_with build.number (literal_cell l)) (literal build)
  unfolding literal
  literal_sound (Digits digits ∷ ts) x rest h = let parts = pair_found _ _ _ _ h in record { rule = PlainDigits digits; written = ap (λ r. Digits digits ∷ r) (sym parts.1); means = parts.0 }
  literal_sound (Text text ∷ ts) x rest h = let parts = pair_found _ _ _ _ h in record { rule = StringLiteral text; written = ap (λ r. Text text ∷ r) (sym parts.1); means = parts.0 }
  literal_sound (Key word.Null ∷ ts) x rest h = let parts = pair_found _ _ _ _ h in record { rule = NullLiteral; written = ap (λ r. Key word.Null ∷ r) (sym parts.1); means = parts.0 }
  literal_sound (Key word.Date ∷ ts) x rest h = day_literal_found build ts x rest h
  literal_sound (token.Symbol symbol.Minus ∷ ts) x rest h = negative_literal_found ts x rest h
  literal_sound other x rest h = cc

-- ## Column definitions

-- NOT NULL before tokens, or not
abbrev with_not_null : Bool → List Token → List Token
with_not_null true rest = write_not_null rest
with_not_null false rest = rest

not_null_sound : IsSound with_not_null (λ b. b) not_null
unfolding not_null
not_null_sound ts x rest h = at (is_key word.Not (first_token ts)) refl h
  where
    at : (b : Bool) → is_key word.Not (first_token ts) ≡ b → cond {A = Found Bool} b (behind_key word.Null (λ rest. Some (true, rest)) (after_first ts)) (Some (false, ts)) ≡ Some (x, rest) → IsWritten with_not_null (λ b. b) ts x rest
    at true e h =
        let null = guard_found _ _ _ h in
        let parts = pair_found _ _ _ _ null.1 in
        record { rule = true; written = ap write_not_null (sym parts.1) ∙ ap (λ r. Key word.Not ∷ r) (key_found word.Null (after_first ts) null.0) ∙ key_found word.Not ts e; means = parts.0 }
    at false e h = let parts = pair_found _ _ _ _ h in record { rule = false; written = sym parts.1; means = parts.0 }

-- the end of a column definition that is given no default, and of one whose default NOT NULL precedes or follows
abbrev plain_end : Bool → ColumnEnd
plain_end true = NotNullEnd
plain_end false = PlainEnd

abbrev default_end_rule : Bool → LiteralRule → ColumnEnd
default_end_rule true l = DefaultNotNull l
default_end_rule false l = DefaultEnd l

module _ (build : Builder) where
  -- what is read of the end of a column definition
  abbrev pub ends_of : ColumnEnd → Bool × Cell
  ends_of ends = (is_required ends, cell_with build.number (default_of ends))

  plain_written : (required : Bool) (rest : List Token) → write_end (plain_end required) rest ≡ with_not_null required rest
  plain_written true rest = refl
  plain_written false rest = refl

  plain_means : (required : Bool) → ends_of (plain_end required) ≡ (required, cell.Nil)
  plain_means true = refl
  plain_means false = refl

  default_written : (late : Bool) (l : LiteralRule) (rest : List Token) → write_end (default_end_rule late l) rest ≡ write_default l (with_not_null late rest)
  default_written true l rest = refl
  default_written false l rest = refl

  default_means : (late : Bool) (l : LiteralRule) → ends_of (default_end_rule late l) ≡ (late, cell_with build.number (literal_cell l))
  default_means true l = refl
  default_means false l = refl

  -- after NOT NULL or its absence
  abbrev IsEnded : Bool → List Token → Bool × Cell → List Token → Type 0
  IsEnded required ts x rest = IsWritten write_end ends_of (with_not_null required ts) x rest

  no_default_found : (required : Bool) (ts : List Token) (x : Bool × Cell) (rest : List Token) → ◌≡◌ {A = Found (Bool × Cell)} (Some ((required, cell.Nil), ts)) (Some (x, rest)) → IsEnded required ts x rest
  no_default_found required ts x rest h =
      let parts = pair_found _ _ _ _ h in
      record { rule = plain_end required; written = plain_written required rest ∙ ap (with_not_null required) (sym parts.1); means = plain_means required ∙ parts.0 }

  default_end_found : (required : Bool) (ts : List Token) (default : LiteralRule) (c : Cell) (behind : List Token) (x : Bool × Cell) (rest : List Token) → write_default default behind ≡ ts → cell_with build.number (literal_cell default) ≡ c → default_end required c behind ≡ Some (x, rest) → IsEnded required ts x rest
  default_end_found true ts default c behind x rest written means h =
      let parts = pair_found _ _ _ _ h in
      record {
        rule = NotNullDefault default;
        written = ap (λ r. write_not_null (write_default default r)) (sym parts.1) ∙ ap write_not_null written;
        means = ap (λ (c : Cell). let p : Bool × Cell = (true, c) in p) means ∙ parts.0;
      }
  default_end_found false ts default c behind x rest written means h =
      let f = then_found _ _ _ h in
      let parts = pair_found _ _ _ _ f.2 in
      let late = not_null_sound behind f.0.0 f.0.1 f.1 in
      record {
        rule = default_end_rule late.rule default;
        written = default_written late.rule default rest ∙ ap (λ r. write_default default (with_not_null late.rule r)) (sym parts.1) ∙ ap (write_default default) late.written ∙ written;
        means = default_means late.rule default ∙ ap (λ (b : Bool). let p : Bool × Cell = (b, cell_with build.number (literal_cell default)) in p) late.means ∙ ap (λ (c : Cell). let p : Bool × Cell = (f.0.0, c) in p) means ∙ parts.0;
      }

  column_end_sound : IsSound write_end ends_of (column_end build)
  unfolding column_end
  column_end_sound ts x rest h =
      let f = then_found _ _ _ h in
      let required = not_null_sound ts f.0.0 f.0.1 f.1 in
      let ended = at f.0.0 f.0.1 (is_key word.Default (first_token f.0.1)) refl f.2 in
      record { rule = ended.rule; written = ended.written ∙ ap (λ b. with_not_null b f.0.1) (sym required.means) ∙ required.written; means = ended.means }
    where
      at : (early : Bool) (behind : List Token) (b : Bool) → is_key word.Default (first_token behind) ≡ b
          → cond {A = Found (Bool × Cell)} b (then_read (literal build (after_first behind)) (λ default. default_end early default.0 default.1)) (Some ((early, cell.Nil), behind)) ≡ Some (x, rest) → IsEnded early behind x rest
      at early behind true e h =
          let f = then_found _ _ _ h in
          let default = literal_sound build (after_first behind) f.0.0 f.0.1 f.1 in
          default_end_found early behind default.rule f.0.0 f.0.1 x rest (ap (λ r. Key word.Default ∷ r) default.written ∙ key_found word.Default behind e) default.means f.2
      at early behind false e h = no_default_found early behind x rest h

column_word_sound : IsSound write_column_word (λ b. b) (flag word.Column)
column_word_sound ts x rest h = flag_found word.Column write_column_word (λ rest. refl) (λ rest. refl) ts x rest h

module _ (long : ℕ → ℕ) where
  abbrev type_of : TypeRule → Kind × ℕ
  type_of type = (kind_of type, long (width_of type))

  varchar_found : (ts : List Token) (x : Kind × ℕ) (rest : List Token) → varchar long ts ≡ Some (x, rest) → IsWritten write_type type_of (Key word.Varchar ∷ ts) x rest
  unfolding varchar
  varchar_found ts x rest h =
      let open_ = guard_found _ _ _ h in
      let f = then_found _ _ _ open_.1 in
      let close = closed_found _ x rest f.2 in
      record {
        rule = VarcharType f.0;
        written = ap (λ r. Key word.Varchar ∷ sign symbol.Open ∷ Digits f.0 ∷ r) close.1 ∙ ap (λ r. Key word.Varchar ∷ sign symbol.Open ∷ r) (digits_found (after_first ts) f.0 f.1) ∙ ap (λ r. Key word.Varchar ∷ r) (symbol_found symbol.Open ts open_.0);
        means = close.0;
      }

  type_found : (ts : List Token) (x : Kind × ℕ) (rest : List Token) → type_at long (first_token ts) (after_first ts) ≡ Some (x, rest) → IsWritten write_type type_of ts x rest
  type_found (Key word.Int ∷ ts) x rest h = let parts = pair_found _ _ _ _ h in record { rule = IntType; written = ap (λ r. Key word.Int ∷ r) (sym parts.1); means = parts.0 }
  type_found (Key word.Integer ∷ ts) x rest h = let parts = pair_found _ _ _ _ h in record { rule = IntegerType; written = ap (λ r. Key word.Integer ∷ r) (sym parts.1); means = parts.0 }
  type_found (Key word.Bigint ∷ ts) x rest h = let parts = pair_found _ _ _ _ h in record { rule = BigintType; written = ap (λ r. Key word.Bigint ∷ r) (sym parts.1); means = parts.0 }
  type_found (Key word.Text ∷ ts) x rest h = let parts = pair_found _ _ _ _ h in record { rule = TextType; written = ap (λ r. Key word.Text ∷ r) (sym parts.1); means = parts.0 }
  type_found (Key word.Date ∷ ts) x rest h = let parts = pair_found _ _ _ _ h in record { rule = DateType; written = ap (λ r. Key word.Date ∷ r) (sym parts.1); means = parts.0 }
  type_found (Key word.Varchar ∷ ts) x rest h = varchar_found ts x rest h
  type_found other x rest h = cc

-- ## Rows

module _ (build : Builder) where
  row_sound : IsSound write_row (λ r. map (cell_with build.number) (row_of r)) (row build)
  unfolding row
  row_sound ts x rest h = enclosed_found write_literal literal_cell (cell_with build.number) (literal build) (literal_sound build) ts x rest h

  -- ## Conditions

  pub where_cond_sound : IsSound write_where (λ d. cond_with build (where_of d)) (where_cond build)
  unfolding where_cond
  where_cond_sound ts x rest h = where_sound build ts x rest h

-- ## Statements

module _ (build : Builder) (count : ℕ → ℕ) (long : ℕ → ℕ) where
  -- a derivation of all tokens stands for the statement
  pub record IsForm (ts : List Token) (x : StmtTree) : Type 0 where
    pub rule : StmtRule
    pub written : write_stmt rule ≡ ts
    pub means : stmt_with build count long (stmt_of rule) ≡ x

  coldef_sound : IsSound write_coldef (λ d. column_with build count long (coldef_of d)) (coldef long build)
  unfolding coldef
  coldef_sound ts x rest h =
      let f = then_found _ _ _ h in
      let g = then_found _ _ _ f.2 in
      let n = then_found _ _ _ g.2 in
      let parts = pair_found _ _ _ _ n.2 in
      let name_ = name_sound ts f.0.0 f.0.1 f.1 in
      let type = type_found long f.0.1 g.0.0 g.0.1 g.1 in
      let ends = column_end_sound build g.0.1 n.0.0 n.0.1 n.1 in
      record {
        rule = record { name = name_.rule; kind = type.rule; end = ends.rule };
        written = ap (λ r. write_name name_.rule (write_type type.rule (write_end ends.rule r))) (sym parts.1) ∙ ap (λ r. write_name name_.rule (write_type type.rule r)) ends.written ∙ ap (write_name name_.rule) type.written ∙ name_.written;
        means = ap_three (λ (a : List ℕ) (b : Kind × ℕ) (c : Bool × Cell). let column : Column = record { name = a; kind = b.0; width = b.1; not_null = c.0; default = c.1 } in column) _ _ _ _ _ _ name_.means type.means ends.means ∙ parts.0;
      }

  pub create_found : (ts : List Token) (x : StmtTree) → create long build ts ≡ Some (x, []) → IsForm (Key word.Create ∷ ts) x
  unfolding create
  create_found ts x h =
      let g = guard_found _ _ _ h in
      let t = then_found _ _ _ g.1 in
      let c = then_found _ _ _ t.2 in
      let parts = pair_found _ _ _ _ c.2 in
      let table = name_sound (after_first ts) t.0.0 t.0.1 t.1 in
      let columns = enclosed_found write_coldef coldef_of (column_with build count long) (coldef long build) coldef_sound t.0.1 c.0.0 c.0.1 c.1 in
      record {
        rule = CreateRule table.rule columns.rule;
        written = ap (λ q. Key word.Create ∷ Key word.Table ∷ write_name table.rule (write_enclosed write_coldef columns.rule q)) (sym parts.1) ∙ ap (λ q. Key word.Create ∷ Key word.Table ∷ write_name table.rule q) columns.written ∙ ap (λ q. Key word.Create ∷ Key word.Table ∷ q) table.written ∙ ap (λ q. Key word.Create ∷ q) (key_found word.Table ts g.0);
        means = ap (λ n. CreateTable n (map (column_with build count long) (map coldef_of (all_of columns.rule)))) table.means ∙ ap (CreateTable t.0.0) columns.means ∙ parts.0;
      }

  pub drop_found : (ts : List Token) (x : StmtTree) → drop_table ts ≡ Some (x, []) → IsForm (Key word.Drop ∷ ts) x
  unfolding drop_table
  drop_found ts x h =
      let g = guard_found _ _ _ h in
      let t = then_found _ _ _ g.1 in
      let parts = pair_found _ _ _ _ t.2 in
      let table = name_sound (after_first ts) t.0.0 t.0.1 t.1 in
      record {
        rule = DropRule table.rule;
        written = ap (λ q. Key word.Drop ∷ Key word.Table ∷ write_name table.rule q) (sym parts.1) ∙ ap (λ q. Key word.Drop ∷ Key word.Table ∷ q) table.written ∙ ap (λ q. Key word.Drop ∷ q) (key_found word.Table ts g.0);
        means = ap DropTable table.means ∙ parts.0;
      }

  pub alter_found : (ts : List Token) (x : StmtTree) → alter long build ts ≡ Some (x, []) → IsForm (Key word.Alter ∷ ts) x
  unfolding alter
  alter_found ts x h =
      let g = guard_found _ _ _ h in
      let t = then_found _ _ _ g.1 in
      let a = guard_found _ _ _ t.2 in
      let w = then_found _ _ _ a.1 in
      let c = then_found _ _ _ w.2 in
      let parts = pair_found _ _ _ _ c.2 in
      let table = name_sound (after_first ts) t.0.0 t.0.1 t.1 in
      let word_ = column_word_sound (after_first t.0.1) w.0.0 w.0.1 w.1 in
      let column = coldef_sound w.0.1 c.0.0 c.0.1 c.1 in
      record {
        rule = AlterRule table.rule word_.rule column.rule;
        written =
            ap (λ q. Key word.Alter ∷ Key word.Table ∷ write_name table.rule (Key word.Add ∷ write_column_word word_.rule (write_coldef column.rule q))) (sym parts.1)
            ∙ ap (λ q. Key word.Alter ∷ Key word.Table ∷ write_name table.rule (Key word.Add ∷ write_column_word word_.rule q)) column.written
            ∙ ap (λ q. Key word.Alter ∷ Key word.Table ∷ write_name table.rule (Key word.Add ∷ q)) word_.written
            ∙ ap (λ q. Key word.Alter ∷ Key word.Table ∷ write_name table.rule q) (key_found word.Add t.0.1 a.0)
            ∙ ap (λ q. Key word.Alter ∷ Key word.Table ∷ q) table.written
            ∙ ap (λ q. Key word.Alter ∷ q) (key_found word.Table ts g.0);
        means = ap (λ n. AlterTable n (column_with build count long (coldef_of column.rule))) table.means ∙ ap (AlterTable t.0.0) column.means ∙ parts.0;
      }

  pub insert_found : (ts : List Token) (x : StmtTree) → insert build ts ≡ Some (x, []) → IsForm (Key word.Insert ∷ ts) x
  unfolding insert
  insert_found ts x h =
      let g = guard_found _ _ _ h in
      let t = then_found _ _ _ g.1 in
      let c = then_found _ _ _ t.2 in
      let v = guard_found _ _ _ c.2 in
      let r = then_found _ _ _ v.1 in
      let parts = pair_found _ _ _ _ r.2 in
      let table = name_sound (after_first ts) t.0.0 t.0.1 t.1 in
      let columns = names_sound t.0.1 c.0.0 c.0.1 c.1 in
      let rows = listed_found write_row row_of (map (cell_with build.number)) (row build) (row_sound build) (after_first c.0.1) r.0.0 r.0.1 r.1 in
      record {
        rule = InsertRule table.rule columns.rule rows.rule;
        written =
            ap (λ q. Key word.Insert ∷ Key word.Into ∷ write_name table.rule (write_column_list columns.rule (Key word.Values ∷ write_some write_row rows.rule q))) (sym parts.1)
            ∙ ap (λ q. Key word.Insert ∷ Key word.Into ∷ write_name table.rule (write_column_list columns.rule (Key word.Values ∷ q))) rows.written
            ∙ ap (λ q. Key word.Insert ∷ Key word.Into ∷ write_name table.rule (write_column_list columns.rule q)) (key_found word.Values c.0.1 v.0)
            ∙ ap (λ q. Key word.Insert ∷ Key word.Into ∷ write_name table.rule q) columns.written
            ∙ ap (λ q. Key word.Insert ∷ Key word.Into ∷ q) table.written
            ∙ ap (λ q. Key word.Insert ∷ q) (key_found word.Into ts g.0);
        means = ap_three InsertInto _ _ _ _ _ _ table.means columns.means rows.means ∙ parts.0;
      }

  pub delete_found : (ts : List Token) (x : StmtTree) → delete build ts ≡ Some (x, []) → IsForm (Key word.Delete ∷ ts) x
  unfolding delete
  delete_found ts x h =
      let g = guard_found _ _ _ h in
      let t = then_found _ _ _ g.1 in
      let c = then_found _ _ _ t.2 in
      let parts = pair_found _ _ _ _ c.2 in
      let table = name_sound (after_first ts) t.0.0 t.0.1 t.1 in
      let where_ = optional_found write_where where_of (cond_with build) (where_cond build) (where_cond_sound build) word.Where t.0.1 c.0.0 c.0.1 c.1 in
      record {
        rule = DeleteRule table.rule where_.rule;
        written =
            ap (λ q. Key word.Delete ∷ Key word.From ∷ write_name table.rule (write_behind write_where (word.Where ∷ []) where_.rule q)) (sym parts.1)
            ∙ ap (λ q. Key word.Delete ∷ Key word.From ∷ write_name table.rule q) where_.written
            ∙ ap (λ q. Key word.Delete ∷ Key word.From ∷ q) table.written
            ∙ ap (λ q. Key word.Delete ∷ q) (key_found word.From ts g.0);
        means = ap (λ n. DeleteFrom n (option_map (cond_with build) (option_map where_of where_.rule))) table.means ∙ ap (DeleteFrom t.0.0) where_.means ∙ parts.0;
      }

  set_sound : IsSound write_set (λ s. set_with build count long (set_of s)) (set build)
  unfolding set
  set_sound ts x rest h =
      let f = then_found _ _ _ h in
      let g = guard_found _ _ _ f.2 in
      let e = then_found _ _ _ g.1 in
      let parts = pair_found _ _ _ _ e.2 in
      let column = name_sound ts f.0.0 f.0.1 f.1 in
      let value = whole_found build (after_first f.0.1) e.0.0 e.0.1 e.1 in
      record {
        rule = (column.rule, value.rule);
        written =
            ap (λ q. write_name column.rule (sign symbol.Equal ∷ write_expr value.rule q)) (sym parts.1)
            ∙ ap (λ q. write_name column.rule (sign symbol.Equal ∷ q)) value.written
            ∙ ap (write_name column.rule) (symbol_found symbol.Equal f.0.1 g.0)
            ∙ column.written;
        means =
            ap (λ (n : List ℕ). let set : List ℕ × ExprTree = (n, expr_with build (expr_of value.rule)) in set) column.means
            ∙ ap (λ (v : ExprTree). let set : List ℕ × ExprTree = (f.0.0, v) in set) value.means
            ∙ parts.0;
      }

  pub update_found : (ts : List Token) (x : StmtTree) → update build ts ≡ Some (x, []) → IsForm (Key word.Update ∷ ts) x
  unfolding update
  update_found ts x h =
      let t = then_found _ _ _ h in
      let g = guard_found _ _ _ t.2 in
      let s = then_found _ _ _ g.1 in
      let c = then_found _ _ _ s.2 in
      let parts = pair_found _ _ _ _ c.2 in
      let table = name_sound ts t.0.0 t.0.1 t.1 in
      let sets = listed_found write_set set_of (set_with build count long) (set build) set_sound (after_first t.0.1) s.0.0 s.0.1 s.1 in
      let where_ = optional_found write_where where_of (cond_with build) (where_cond build) (where_cond_sound build) word.Where s.0.1 c.0.0 c.0.1 c.1 in
      record {
        rule = UpdateRule table.rule sets.rule where_.rule;
        written =
            ap (λ q. Key word.Update ∷ write_name table.rule (Key word.Set ∷ write_some write_set sets.rule (write_behind write_where (word.Where ∷ []) where_.rule q))) (sym parts.1)
            ∙ ap (λ q. Key word.Update ∷ write_name table.rule (Key word.Set ∷ write_some write_set sets.rule q)) where_.written
            ∙ ap (λ q. Key word.Update ∷ write_name table.rule (Key word.Set ∷ q)) sets.written
            ∙ ap (λ q. Key word.Update ∷ write_name table.rule q) (key_found word.Set t.0.1 g.0)
            ∙ ap (λ q. Key word.Update ∷ q) table.written;
        means = ap_three UpdateTable _ _ _ _ _ _ table.means sets.means where_.means ∙ parts.0;
      }
