-- Column conditions and links of a checked condition fit the kinds of their columns.
use Rattle.std.proofs.Common.{◌≡◌, ℕ, ◌==◌, List, [], ◌∷◌, Bool, true, false, not, ◌&&◌, ◌||◌, cond, Option, Some, None, refl, ap, sym, ◌∙◌, subst}
use Rattle.std.specs.Prelude.{get_or, nat_lt}
use Rattle.std.specs.List.{AllByRecursion}
use Rattle.std.specs.Option.{option_map}
use Rattle.std.proofs.lemmas.Bool.{or_parts, eqb-true}
use Rattle.std.proofs.lemmas.Option.{same_Some, slice_get-get_or}
use Rattle.cell_core.specs.declared.cell.Cell.TheVariants.{Nil, Int, Huge, Text, Day, Bit, Oid}
use Rattle.cell_core.specs.declared.cell.Kind.{Kind}
use Rattle.cell_core.specs.declared.table.Db.{Db}
use Rattle.cell_core.specs.Kinds.{agrees, same_kind, are_comparable}
use Rattle.sql_tree.specs.Tree.{ExprTree, CondTree}
use Rattle.sql_tree.specs.Tree.ExprTree.{Literal, ColumnOf, Operator, AggregateAll, Aggregate}
use Rattle.sql_tree.specs.Tree.{CondTree as tree}
use Rattle.sql_tree.specs.declared.tree.CmpOp.{CmpOp}
use Rattle.sql_tree.specs.declared.tree.CmpOp.TheVariants as cmp
use Rattle.sql_grammar.specs.Written.{IsPlainCond, IsPlain as IsWritten}
use Rattle.sql_definitions.specs.declared.source.Source.{Source}
use Rattle.rows_to_mal.specs.Candidates.{no_column, column_kind, Leaf, Least, Most, Same, Between, ColumnCond, Within, Outside}
use Rattle.rows_to_mal.specs.Conjuncts.{no_source, Scope}
use Rattle.rows_to_mal.specs.Joins.{Link}
use Rattle.rows_to_mal.specs.Parts.{Role, OfColumn, OfLink, Other, link_to, equal_role, link_role, role_or, role, column_part, conds_of, link_part, link_of}
use Rattle.rows_to_mal.specs.Reading.{is_known, left_leaf, right_leaf, both, read_compare, read_leaf, read_cond, column_of, placed, of_one_column}
use Rattle.rows_to_mal.proofs.AlikeLemmas.{comparable_same, own_kind, stored_at}
use Rattle.rows_to_mal.proofs.FitLemmas.{all_at}
use Rattle.rows_to_mal.proofs.FoundLemmas.{columns_valid, InDb}
use Rattle.rows_to_mal.proofs.PlaceLemmas.{scope_of, table_at, PlaceIn, column_in}
use Rattle.rows_to_mal.proofs.ReadLemmas.{both_parts, mapped, one_column}
use Rattle.rows_to_mal.proofs.TypedLemmas.{ConstFits, LeafFits, ColumnFits}
use Rattle.rows_to_mal.proofs.TypedValueLemmas.{column_kind_is, IsChecked}
use Rattle.sql_definitions.specs.Sources.{NamedSource}
use Rattle.sql_definitions.specs.Kinds.{kind_of_expr, is_misfit, compares, is_cond_misfit}
use Rattle.sql_definitions.specs.Valid.{is_stored}
use Rattle.sql_kinds.proofs.RowLemmas.{columns_valid as all_valid}

twice : (c : Bool) → not c ≡ false → c ≡ true
twice true e = refl
twice false e = cc

-- a kind that tables have, or that of Nil
abbrev IsStoredKind : Option Kind → Type 0
IsStoredKind None = Unit {0}
IsStoredKind (Some k) = is_stored k ≡ true

agree_left : (k : Kind) (o : Option Kind) → is_stored k ≡ true → IsStoredKind o → are_comparable (Some k) o ≡ true → agrees o (Some k) ≡ true
agree_left k None s t e = refl
agree_left k (Some j) s t e = ap (same_kind j) (comparable_same k j s t e) ∙ own_kind j

agree_right : (k : Kind) (o : Option Kind) → is_stored k ≡ true → IsStoredKind o → are_comparable o (Some k) ≡ true → agrees o (Some k) ≡ true
agree_right k None s t e = refl
agree_right k (Some j) s t e = ap (λ i. same_kind i k) (comparable_same j k t s e) ∙ own_kind k

written_kind : (called : List NamedSource) (expr : ExprTree) → IsWritten expr → is_known expr ≡ true → IsStoredKind (kind_of_expr called expr)
written_kind called (Literal Nil) plain known = tt
written_kind called (Literal (Int n)) plain known = refl
written_kind called (Literal (Huge n)) plain known = absurd plain
written_kind called (Literal (Text bs)) plain known = refl
written_kind called (Literal (Day n)) plain known = refl
written_kind called (Literal (Bit b)) plain known = absurd plain
written_kind called (Literal (Oid n)) plain known = absurd plain
written_kind called (ColumnOf ref) plain known = cc
written_kind called (Operator operator left right) plain known = refl
written_kind called (AggregateAll f) plain known = cc
written_kind called (Aggregate f of) plain known = cc

module _ (db : Db) (called : List NamedSource) (k : Kind) where
  left_fits : (operator : CmpOp) (of : ExprTree) (leaf : Leaf) → left_leaf operator of ≡ Some leaf → ConstFits db called k of → LeafFits db called k leaf
  left_fits cmp.Eq of leaf e f = subst (LeafFits db called k) (same_Some (Same of) leaf e) f
  left_fits cmp.Ne of leaf e f = cc
  left_fits cmp.Lt of leaf e f = subst (LeafFits db called k) (same_Some (Most of false) leaf e) f
  left_fits cmp.Le of leaf e f = subst (LeafFits db called k) (same_Some (Most of true) leaf e) f
  left_fits cmp.Gt of leaf e f = subst (LeafFits db called k) (same_Some (Least of false) leaf e) f
  left_fits cmp.Ge of leaf e f = subst (LeafFits db called k) (same_Some (Least of true) leaf e) f

  right_fits : (operator : CmpOp) (of : ExprTree) (leaf : Leaf) → right_leaf operator of ≡ Some leaf → ConstFits db called k of → LeafFits db called k leaf
  right_fits cmp.Eq of leaf e f = subst (LeafFits db called k) (same_Some (Same of) leaf e) f
  right_fits cmp.Ne of leaf e f = cc
  right_fits cmp.Lt of leaf e f = subst (LeafFits db called k) (same_Some (Least of false) leaf e) f
  right_fits cmp.Le of leaf e f = subst (LeafFits db called k) (same_Some (Least of true) leaf e) f
  right_fits cmp.Gt of leaf e f = subst (LeafFits db called k) (same_Some (Most of false) leaf e) f
  right_fits cmp.Ge of leaf e f = subst (LeafFits db called k) (same_Some (Most of true) leaf e) f

module _ (db : Db) (names : List (List ℕ)) (sources : List Source) (there : AllByRecursion (InDb db) sources) where
  abbrev scope : Scope
  scope = scope_of names sources

  abbrev kind_at : ℕ × ℕ → Kind
  kind_at place = column_kind (table_at names sources place.0) place.1

  stored_in : (place : ℕ × ℕ) → PlaceIn names sources place → is_stored (kind_at place) ≡ true
  stored_in place p =
      let table = table_at names sources place.0 in
      stored_at table.columns place.1 (get_or table.columns place.1 no_column)
      (all_valid table.columns (columns_valid db table (all_at (InDb db) sources place.0 no_source there p.table))) (slice_get-get_or table.columns place.1 no_column p.column)

  -- ## Leaves

  left_const : (column of : ExprTree) (place : ℕ × ℕ) → column_of scope.called column ≡ Some place → IsWritten of → is_misfit scope.called of ≡ false → compares scope.called column of ≡ true → is_known of ≡ true
      → ConstFits db scope.called (kind_at place) of
  left_const column of place e plain fit same known = record {
    known = known;
    fit = fit;
    kind = agree_left (kind_at place) (kind_of_expr scope.called of) (stored_in place (column_in names sources column place e)) (written_kind scope.called of plain known)
        (ap (λ o. are_comparable o (kind_of_expr scope.called of)) (sym (column_kind_is db names sources there column place e)) ∙ same);
  }

  right_const : (column of : ExprTree) (place : ℕ × ℕ) → column_of scope.called column ≡ Some place → IsWritten of → is_misfit scope.called of ≡ false → compares scope.called of column ≡ true → is_known of ≡ true
      → ConstFits db scope.called (kind_at place) of
  right_const column of place e plain fit same known = record {
    known = known;
    fit = fit;
    kind = agree_right (kind_at place) (kind_of_expr scope.called of) (stored_in place (column_in names sources column place e)) (written_kind scope.called of plain known)
        (ap (are_comparable (kind_of_expr scope.called of)) (sym (column_kind_is db names sources there column place e)) ∙ same);
  }

  record CompareParts (left right : ExprTree) : Type 0 where
    left_fit : is_misfit scope.called left ≡ false
    right_fit : is_misfit scope.called right ≡ false
    same : compares scope.called left right ≡ true

  compare_parts : (left right : ExprTree) → is_misfit scope.called left || is_misfit scope.called right || not (compares scope.called left right) ≡ false → CompareParts left right
  compare_parts left right fit =
      let last = or_parts (is_misfit scope.called left || is_misfit scope.called right) (not (compares scope.called left right)) fit in
      let first = or_parts (is_misfit scope.called left) (is_misfit scope.called right) last.0 in
      record { left_fit = first.0; right_fit = first.1; same = twice (compares scope.called left right) last.1 }

  compare_fits : (operator : CmpOp) (left right : ExprTree) → IsWritten left → IsWritten right → CompareParts left right → (place : ℕ × ℕ) (leaf : Leaf) (b c : Bool) → is_known right ≡ b → is_known left ≡ c
      → cond b (both (column_of scope.called left) (left_leaf operator right)) (cond c (both (column_of scope.called right) (right_leaf operator left)) None) ≡ Some (place, leaf) → LeafFits db scope.called (kind_at place) leaf
  compare_fits operator left right p q parts place leaf true c f g e =
      let found = both_parts (column_of scope.called left) (left_leaf operator right) place leaf e in
      left_fits db scope.called (kind_at place) operator right leaf found.1 (left_const left right place found.0 q parts.right_fit parts.same f)
  compare_fits operator left right p q parts place leaf false true f g e =
      let found = both_parts (column_of scope.called right) (right_leaf operator left) place leaf e in
      right_fits db scope.called (kind_at place) operator left leaf found.1 (right_const right left place found.0 p parts.left_fit parts.same g)
  compare_fits operator left right p q parts place leaf false false f g e = cc

  between_fits : (of low high : ExprTree) → IsWritten low → IsWritten high → is_cond_misfit scope.called (tree.Within of low high) ≡ false → (place : ℕ × ℕ) (leaf : Leaf) (b c : Bool) → is_known low ≡ b → is_known high ≡ c
      → cond (b && c) (both (column_of scope.called of) (Some (Between low high))) None ≡ Some (place, leaf) → LeafFits db scope.called (kind_at place) leaf
  between_fits of low high p q fit place leaf true true f g e =
      let last = or_parts (is_misfit scope.called of || is_misfit scope.called low || is_misfit scope.called high || not (compares scope.called of low)) (not (compares scope.called of high)) fit in
      let lower = or_parts (is_misfit scope.called of || is_misfit scope.called low || is_misfit scope.called high) (not (compares scope.called of low)) last.0 in
      let third = or_parts (is_misfit scope.called of || is_misfit scope.called low) (is_misfit scope.called high) lower.0 in
      let first = or_parts (is_misfit scope.called of) (is_misfit scope.called low) third.0 in
      let found = both_parts (column_of scope.called of) (Some (Between low high)) place leaf e in
      subst (LeafFits db scope.called (kind_at place)) (same_Some (Between low high) leaf found.1)
      (left_const of low place found.0 p first.1 (twice (compares scope.called of low) lower.1) f, left_const of high place found.0 q third.1 (twice (compares scope.called of high) last.1) g)
  between_fits of low high p q fit place leaf true false f g e = cc
  between_fits of low high p q fit place leaf false c f g e = cc

  leaf_fits : (c : CondTree) → IsPlainCond c → is_cond_misfit scope.called c ≡ false → (place : ℕ × ℕ) (leaf : Leaf) → read_leaf scope.called c ≡ Some (place, leaf) → LeafFits db scope.called (kind_at place) leaf
  leaf_fits (tree.Compare operator left right) plain fit place leaf e = compare_fits operator left right plain.0 plain.1 (compare_parts left right fit) place leaf (is_known right) (is_known left) refl refl e
  leaf_fits (tree.Within of low high) plain fit place leaf e = between_fits of low high plain.1 plain.2 fit place leaf (is_known low) (is_known high) refl refl e
  leaf_fits (tree.IsNull of) plain fit place leaf e = cc
  leaf_fits (tree.Negation c) plain fit place leaf e = cc
  leaf_fits (tree.Both a b) plain fit place leaf e = cc
  leaf_fits (tree.Either a b) plain fit place leaf e = cc

  -- ## Column conditions

  test_fits : (operator : CmpOp) (left right : ExprTree) → IsWritten left → IsWritten right → CompareParts left right → (make : Leaf → ColumnCond) → ((leaf : Leaf) → (k : Kind) → LeafFits db scope.called k leaf → ColumnFits db scope.called k (make leaf))
      → (place : ℕ × ℕ) (column : ColumnCond) → option_map (placed make) (read_compare scope.called operator left right) ≡ Some (place, column) → ColumnFits db scope.called (kind_at place) column
  test_fits operator left right p q parts make makes place column e =
      let found = mapped scope.called [] make (read_compare scope.called operator left right) place column e in
      subst (ColumnFits db scope.called (kind_at place)) found.2 (makes found.0 (kind_at place) (compare_fits operator left right p q parts place found.0 (is_known right) (is_known left) refl refl found.1))

  either_fits : (o p : Option ((ℕ × ℕ) × ColumnCond)) (place : ℕ × ℕ) (column : ColumnCond) → ((q : ℕ × ℕ) (c : ColumnCond) → o ≡ Some (q, c) → ColumnFits db scope.called (kind_at q) c)
      → ((q : ℕ × ℕ) (c : ColumnCond) → p ≡ Some (q, c) → ColumnFits db scope.called (kind_at q) c) → of_one_column o p ≡ Some (place, column) → ColumnFits db scope.called (kind_at place) column
  either_fits None p place column f g e = cc
  either_fits (Some a) None place column f g e = cc
  either_fits (Some a) (Some b) place column f g e =
      let parts = one_column scope.called [] a b place column ((a.0.0 == b.0.0) && (a.0.1 == b.0.1)) refl e in
      subst (ColumnFits db scope.called (kind_at place)) parts.2
      (subst (λ q. ColumnFits db scope.called (kind_at q) a.1) parts.0 (f a.0 a.1 refl), subst (λ q. ColumnFits db scope.called (kind_at q) b.1) parts.1 (g b.0 b.1 refl))

  column_fits : (c : CondTree) → IsPlainCond c → is_cond_misfit scope.called c ≡ false → (place : ℕ × ℕ) (column : ColumnCond) → read_cond scope.called c ≡ Some (place, column) → ColumnFits db scope.called (kind_at place) column
  column_fits (tree.Compare cmp.Ne left right) plain fit place column e = test_fits cmp.Eq left right plain.0 plain.1 (compare_parts left right fit) Outside (λ leaf k f. f) place column e
  column_fits (tree.Compare cmp.Eq left right) plain fit place column e = test_fits cmp.Eq left right plain.0 plain.1 (compare_parts left right fit) Within (λ leaf k f. f) place column e
  column_fits (tree.Compare cmp.Lt left right) plain fit place column e = test_fits cmp.Lt left right plain.0 plain.1 (compare_parts left right fit) Within (λ leaf k f. f) place column e
  column_fits (tree.Compare cmp.Le left right) plain fit place column e = test_fits cmp.Le left right plain.0 plain.1 (compare_parts left right fit) Within (λ leaf k f. f) place column e
  column_fits (tree.Compare cmp.Gt left right) plain fit place column e = test_fits cmp.Gt left right plain.0 plain.1 (compare_parts left right fit) Within (λ leaf k f. f) place column e
  column_fits (tree.Compare cmp.Ge left right) plain fit place column e = test_fits cmp.Ge left right plain.0 plain.1 (compare_parts left right fit) Within (λ leaf k f. f) place column e
  column_fits (tree.Within of low high) plain fit place column e =
      let found = mapped scope.called [] Within (read_leaf scope.called (tree.Within of low high)) place column e in
      subst (ColumnFits db scope.called (kind_at place)) found.2 (leaf_fits (tree.Within of low high) plain fit place found.0 found.1)
  column_fits (tree.IsNull of) plain fit place column e = cc
  column_fits (tree.Negation c) plain fit place column e =
      let found = mapped scope.called [] Outside (read_leaf scope.called c) place column e in subst (ColumnFits db scope.called (kind_at place)) found.2 (leaf_fits c plain fit place found.0 found.1)
  column_fits (tree.Both left right) plain fit place column e = cc
  column_fits (tree.Either left right) plain fit place column e =
      let parts = or_parts (is_cond_misfit scope.called left) (is_cond_misfit scope.called right) fit in
      either_fits (read_cond scope.called left) (read_cond scope.called right) place column (λ q c h. column_fits left plain.0 parts.0 q c h) (λ q c h. column_fits right plain.1 parts.1 q c h) e

  -- ## Parts

  abbrev RoleFits : Role → Type 0
  RoleFits (OfColumn m place column) = ColumnFits db scope.called (kind_at (m, place)) column
  RoleFits (OfLink m link) = kind_at (link.number, link.left) ≡ kind_at (m, link.right)
  RoleFits Other = Unit {0}

  same_kinds_of : (left right : ExprTree) → compares scope.called left right ≡ true → (a b : ℕ × ℕ) → column_of scope.called left ≡ Some a → column_of scope.called right ≡ Some b → kind_at a ≡ kind_at b
  same_kinds_of left right fit a b e f =
      comparable_same (kind_at a) (kind_at b) (stored_in a (column_in names sources left a e)) (stored_in b (column_in names sources right b f))
      (ap (λ o. are_comparable o (Some (kind_at b))) (sym (column_kind_is db names sources there left a e)) ∙ ap (are_comparable (kind_of_expr scope.called left)) (sym (column_kind_is db names sources there right b f)) ∙ fit)

  equal_fits : (left right : ExprTree) → compares scope.called left right ≡ true → (o p : Option (ℕ × ℕ)) → column_of scope.called left ≡ o → column_of scope.called right ≡ p → RoleFits (equal_role scope o p)
  equal_fits left right fit None p e f = tt
  equal_fits left right fit (Some a) None e f = tt
  equal_fits left right fit (Some a) (Some b) e f = by_order (nat_lt a.0 b.0) (nat_lt b.0 a.0)
    where
      by_order : (x y : Bool) → RoleFits (cond x (OfLink b.0 (link_to scope a b)) (cond y (OfLink a.0 (link_to scope b a)) Other))
      by_order true y = same_kinds_of left right fit a b e f
      by_order false true = sym (same_kinds_of left right fit a b e f)
      by_order false false = tt

  link_role_fits : (c : CondTree) → is_cond_misfit scope.called c ≡ false → RoleFits (link_role scope c)
  link_role_fits (tree.Compare cmp.Eq left right) fit = equal_fits left right (compare_parts left right fit).same (column_of scope.called left) (column_of scope.called right) refl refl
  link_role_fits (tree.Compare cmp.Ne left right) fit = tt
  link_role_fits (tree.Compare cmp.Lt left right) fit = tt
  link_role_fits (tree.Compare cmp.Le left right) fit = tt
  link_role_fits (tree.Compare cmp.Gt left right) fit = tt
  link_role_fits (tree.Compare cmp.Ge left right) fit = tt
  link_role_fits (tree.Within of low high) fit = tt
  link_role_fits (tree.IsNull of) fit = tt
  link_role_fits (tree.Negation c) fit = tt
  link_role_fits (tree.Both a b) fit = tt
  link_role_fits (tree.Either a b) fit = tt

  role_fits : (c : CondTree) → IsPlainCond c → is_cond_misfit scope.called c ≡ false → (o : Option ((ℕ × ℕ) × ColumnCond)) → read_cond scope.called c ≡ o → RoleFits (role_or (link_role scope c) o)
  role_fits c plain fit None e = link_role_fits c fit
  role_fits c plain fit (Some at) e = column_fits c plain fit at.0 at.1 e

  abbrev CondIn : ℕ → ℕ × ColumnCond → Type 0
  CondIn n at = ColumnFits db scope.called (kind_at (n, at.0)) at.1

  column_step : (n : ℕ) (more : List (ℕ × ColumnCond)) (r : Role) → RoleFits r → AllByRecursion (CondIn n) more → AllByRecursion (CondIn n) (column_part n r more)
  column_step n more (OfColumn m place column) r a = by_case (m == n) refl
    where
      by_case : (b : Bool) → (m == n) ≡ b → AllByRecursion (CondIn n) (cond b ((place, column) ∷ more) more)
      by_case true e = (subst (λ k. ColumnFits db scope.called (kind_at (k, place)) column) (eqb-true m n e) r, a)
      by_case false e = a
  column_step n more (OfLink m link) r a = a
  column_step n more Other r a = a

  -- the column conditions of table n fit its columns
  pub conds_fit : (n : ℕ) (cs : List CondTree) → AllByRecursion (IsChecked db names sources there) cs → AllByRecursion (CondIn n) (conds_of scope n cs)
  conds_fit n [] fits = tt
  conds_fit n (c ∷ cs) fits = column_step n (conds_of scope n cs) (role scope c) (role_fits c fits.0.plain fits.0.fit (read_cond scope.called c) refl) (conds_fit n cs fits.1)

  abbrev pub LinkKinds : ℕ → Option Link → Type 0
  LinkKinds n None = Unit {0}
  LinkKinds n (Some link) = kind_at (link.number, link.left) ≡ kind_at (n, link.right)

  link_step : (n : ℕ) (more : Option Link) (r : Role) → RoleFits r → LinkKinds n more → LinkKinds n (link_part n r more)
  link_step n more (OfColumn m place column) r a = a
  link_step n more (OfLink m link) r a = by_case (m == n) refl
    where
      by_case : (b : Bool) → (m == n) ≡ b → LinkKinds n (cond b (Some link) more)
      by_case true e = subst (λ k. kind_at (link.number, link.left) ≡ kind_at (k, link.right)) (eqb-true m n e) r
      by_case false e = a
  link_step n more Other r a = a

  -- the link of table n is of columns of one kind
  pub links_fit : (n : ℕ) (cs : List CondTree) → AllByRecursion (IsChecked db names sources there) cs → LinkKinds n (link_of scope n cs)
  links_fit n [] fits = tt
  links_fit n (c ∷ cs) fits = link_step n (link_of scope n cs) (role scope c) (role_fits c fits.0.plain fits.0.fit (read_cond scope.called c) refl) (links_fit n cs fits.1)
