-- Where columns are: a reference that means one place means a column of a table that is there.
use Rattle.std.proofs.Common.{◌≡◌, ℕ, suc, ◌+◌, ◌<◌, ◌==◌, List, [], ◌∷◌, ◌++◌, length, filter, Bool, true, false, ◌&&◌, cond, Option, Some, None, refl, subst, arith, append_assoc}
use Rattle.std.specs.Prelude.{flat_map, slice_get}
use Rattle.std.specs.List.{AllByRecursion, enumerate_from}
use Rattle.std.specs.Option.{option_map}
use Rattle.std.proofs.lemmas.Option.{same_Some, slice_get_within}
use Rattle.cell_core.specs.declared.table.Column.{Column}
use Rattle.sql_tree.specs.Tree.{ExprTree, CondTree}
use Rattle.sql_tree.specs.Tree.ExprTree.{Literal, ColumnOf, Operator, AggregateAll, Aggregate}
use Rattle.sql_tree.specs.Tree.{CondTree as tree}
use Rattle.sql_tree.specs.declared.tree.ColRef.{ColRef}
use Rattle.sql_tree.specs.declared.tree.CmpOp.{CmpOp}
use Rattle.sql_tree.specs.declared.tree.CmpOp.TheVariants as cmp
use Rattle.sql_definitions.specs.Sources.{NamedSource, means, places_in, places, only}
use Rattle.pick_laws.proofs.ListLemmas.{longer, all_filter, all_map, all_append, all_along}
use Rattle.rows_to_mal.specs.Candidates.{Leaf, Within, Outside, ColumnCond, Between}
use Rattle.rows_to_mal.specs.Reading.{placed, column_of, is_known, left_leaf, right_leaf, both, read_compare, read_leaf, of_one_column, read_cond}
use Rattle.rows_to_mal.proofs.ReadLemmas.{both_parts, mapped, one_column}

-- a table is there, and the column in it
pub record IsThere (sources : List NamedSource) (place : ℕ × ℕ) : Type 0 where
  pub source : NamedSource
  pub table : slice_get sources place.0 ≡ Some source
  pub column : place.1 < length source.columns

below_all : {X : Type 0} (m k : ℕ) (xs : List X) → m ≡ k + length xs → AllByRecursion (λ (at : ℕ × X). at.0 < m) (enumerate_from k xs)
below_all m k [] e = tt
below_all m k (x ∷ xs) e = (here m k (length xs) e, below_all m (k + 1) xs (next m k (length xs) e))
  where
    here : (m k l : ℕ) → m ≡ k + suc l → k < m
    here m k l e = omega arith

    next : (m k l : ℕ) → m ≡ k + suc l → m ≡ k + 1 + l
    next m k l e = omega arith

seam : {X : Type 0} (before : List X) (x : X) (behind : List X) → slice_get (before ++ x ∷ behind) (length before) ≡ Some x
seam [] x behind = refl
seam (y ∷ before) x behind = seam before x behind

zero_and : (n : ℕ) → n ≡ 0 + n
zero_and n = omega arith

places_there : (ref : ColRef) (before sources : List NamedSource) → AllByRecursion (IsThere (before ++ sources)) (flat_map (places_in ref) (enumerate_from (length before) sources))
places_there ref before [] = tt
places_there ref before (source ∷ sources) =
    all_append (IsThere (before ++ source ∷ sources)) (places_in ref (length before, source)) (flat_map (places_in ref) (enumerate_from (length before + 1) sources))
    (all_map (IsThere (before ++ source ∷ sources)) (λ (at : ℕ × Column). (length before, at.0)) (filter (λ (at : ℕ × Column). means ref source at.1) (enumerate_from 0 source.columns))
    (all_along (λ (at : ℕ × Column). at.0 < length source.columns) (λ (at : ℕ × Column). IsThere (before ++ source ∷ sources) (length before, at.0)) (λ at h. record { source = source; table = seam before source sources; column = h })
    (filter (λ (at : ℕ × Column). means ref source at.1) (enumerate_from 0 source.columns))
    (all_filter (λ (at : ℕ × Column). at.0 < length source.columns) (λ (at : ℕ × Column). means ref source at.1) (enumerate_from 0 source.columns) (below_all (length source.columns) 0 source.columns (zero_and (length source.columns))))))
    (subst (λ k. AllByRecursion (IsThere (before ++ source ∷ sources)) (flat_map (places_in ref) (enumerate_from k sources))) (longer before source)
    (subst (λ all. AllByRecursion (IsThere all) (flat_map (places_in ref) (enumerate_from (length (before ++ source ∷ [])) sources))) (append_assoc before (source ∷ []) sources) (places_there ref (before ++ source ∷ []) sources)))

only_of : (sources : List NamedSource) (found : List (ℕ × ℕ)) (place : ℕ × ℕ) → only found ≡ Some place → AllByRecursion (IsThere sources) found → IsThere sources place
only_of sources [] place e a = cc
only_of sources (p ∷ []) place e a = subst (IsThere sources) (same_Some p place e) a.0
only_of sources (p ∷ q ∷ more) place e a = cc

-- a column that an expression is
pub column_there : (sources : List NamedSource) (expr : ExprTree) (place : ℕ × ℕ) → column_of sources expr ≡ Some place → IsThere sources place
column_there sources (Literal cell) place e = cc
column_there sources (ColumnOf ref) place e = only_of sources (places sources ref) place e (places_there ref [] sources)
column_there sources (Operator operator left right) place e = cc
column_there sources (AggregateAll f) place e = cc
column_there sources (Aggregate f of) place e = cc

pub column_known : (sources : List NamedSource) (expr : ExprTree) (place : ℕ × ℕ) → column_of sources expr ≡ Some place → place.0 < length sources
column_known sources expr place e = let there = column_there sources expr place e in slice_get_within sources place.0 there.source there.table

module _ (sources : List NamedSource) where
  compare_there : (operator : CmpOp) (left right : ExprTree) (place : ℕ × ℕ) (leaf : Leaf) (b c : Bool)
      → cond b (both (column_of sources left) (left_leaf operator right)) (cond c (both (column_of sources right) (right_leaf operator left)) None) ≡ Some (place, leaf) → IsThere sources place
  compare_there operator left right place leaf true c e = column_there sources left place (both_parts (column_of sources left) (left_leaf operator right) place leaf e).0
  compare_there operator left right place leaf false true e = column_there sources right place (both_parts (column_of sources right) (right_leaf operator left) place leaf e).0
  compare_there operator left right place leaf false false e = cc

  between_there : (of low high : ExprTree) (place : ℕ × ℕ) (leaf : Leaf) (b : Bool) → cond b (both (column_of sources of) (Some (Between low high))) None ≡ Some (place, leaf) → IsThere sources place
  between_there of low high place leaf true e = column_there sources of place (both_parts (column_of sources of) (Some (Between low high)) place leaf e).0
  between_there of low high place leaf false e = cc

  leaf_there : (c : CondTree) (place : ℕ × ℕ) (leaf : Leaf) → read_leaf sources c ≡ Some (place, leaf) → IsThere sources place
  leaf_there (tree.Compare operator left right) place leaf e = compare_there operator left right place leaf (is_known right) (is_known left) e
  leaf_there (tree.Within of low high) place leaf e = between_there of low high place leaf (is_known low && is_known high) e
  leaf_there (tree.IsNull of) place leaf e = cc
  leaf_there (tree.Negation c) place leaf e = cc
  leaf_there (tree.Both a b) place leaf e = cc
  leaf_there (tree.Either a b) place leaf e = cc

  test_there : (operator : CmpOp) (left right : ExprTree) (place : ℕ × ℕ) (column : ColumnCond) → option_map (placed Within) (read_compare sources operator left right) ≡ Some (place, column) → IsThere sources place
  test_there operator left right place column e =
      let found = mapped sources [] Within (read_compare sources operator left right) place column e in compare_there operator left right place found.0 (is_known right) (is_known left) found.1

  either_there : (o p : Option ((ℕ × ℕ) × ColumnCond)) (place : ℕ × ℕ) (column : ColumnCond) → ((q : ℕ × ℕ) (c : ColumnCond) → o ≡ Some (q, c) → IsThere sources q) → of_one_column o p ≡ Some (place, column) → IsThere sources place
  either_there None p place column f e = cc
  either_there (Some a) None place column f e = cc
  either_there (Some a) (Some b) place column f e =
      let parts = one_column sources [] a b place column ((a.0.0 == b.0.0) && (a.0.1 == b.0.1)) refl e in subst (IsThere sources) parts.0 (f a.0 a.1 refl)

  -- the column of a column condition
  pub cond_there : (c : CondTree) (place : ℕ × ℕ) (column : ColumnCond) → read_cond sources c ≡ Some (place, column) → IsThere sources place
  cond_there (tree.Compare cmp.Ne left right) place column e =
      let found = mapped sources [] Outside (read_compare sources cmp.Eq left right) place column e in compare_there cmp.Eq left right place found.0 (is_known right) (is_known left) found.1
  cond_there (tree.Compare cmp.Eq left right) place column e = test_there cmp.Eq left right place column e
  cond_there (tree.Compare cmp.Lt left right) place column e = test_there cmp.Lt left right place column e
  cond_there (tree.Compare cmp.Le left right) place column e = test_there cmp.Le left right place column e
  cond_there (tree.Compare cmp.Gt left right) place column e = test_there cmp.Gt left right place column e
  cond_there (tree.Compare cmp.Ge left right) place column e = test_there cmp.Ge left right place column e
  cond_there (tree.Within of low high) place column e =
      let found = mapped sources [] Within (read_leaf sources (tree.Within of low high)) place column e in leaf_there (tree.Within of low high) place found.0 found.1
  cond_there (tree.IsNull of) place column e = cc
  cond_there (tree.Negation c) place column e = let found = mapped sources [] Outside (read_leaf sources c) place column e in leaf_there c place found.0 found.1
  cond_there (tree.Both left right) place column e = cc
  cond_there (tree.Either left right) place column e = either_there (read_cond sources left) (read_cond sources right) place column (λ q c h. cond_there left q c h) e
