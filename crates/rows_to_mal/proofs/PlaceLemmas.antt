-- The columns that a checked statement names are there: places, column conditions and links.
use Rattle.std.proofs.Common.{◌≡◌, ℕ, suc, zero, ◌+◌, ◌<◌, ◌==◌, List, [], ◌∷◌, length, Bool, true, false, cond, Option, Some, None, refl, ap, sym, subst}
use Rattle.std.specs.Prelude.{get_or, slice_get, nat_lt}
use Rattle.std.specs.List.{AllByRecursion}
use Rattle.std.proofs.lemmas.Bool.{eqb-true, ltb-true}
use Rattle.std.proofs.lemmas.Option.{same_Some, slice_get_within, get_or_from_slice_get}
use Rattle.sql_tree.specs.Tree.{ExprTree, CondTree}
use Rattle.sql_tree.specs.Tree.{CondTree as tree}
use Rattle.sql_tree.specs.declared.tree.CmpOp.TheVariants as cmp
use Rattle.sql_definitions.specs.declared.source.Source.{Source}
use Rattle.rows_to_mal.specs.Candidates.{ColumnCond}
use Rattle.rows_to_mal.specs.Conjuncts.{Scope, no_source}
use Rattle.rows_to_mal.specs.Joins.{Link}
use Rattle.rows_to_mal.specs.Parts.{Role, OfColumn, OfLink, Other, link_to, equal_role, link_role, role_or, role, column_part, conds_of, link_part, link_of, other_part, and_used, others, steps_from}
use Rattle.rows_to_mal.specs.Reading.{column_of, read_cond}
use Rattle.rows_to_mal.proofs.ChoiceLemmas.{LinkBack, LinksBack}
use Rattle.rows_to_mal.proofs.ScopeLemmas.{IsThere, column_there, cond_there}
use Rattle.sql_definitions.specs.Sources.{NamedSource, called_sources}

-- tables under the names that a statement calls them
abbrev pub scope_of : List (List ℕ) → List Source → Scope
scope_of names sources = record { called = called_sources names sources; sources = sources }

pub called_at : (names : List (List ℕ)) (sources : List Source) (n : ℕ) (named : NamedSource) → slice_get (called_sources names sources) n ≡ Some named
    → (source : Source) × (slice_get sources n ≡ Some source) × (named.columns ≡ source.columns)
called_at [] sources n named e = cc
called_at (name ∷ names) [] n named e = cc
called_at (name ∷ names) (source ∷ sources) zero named e = (source, refl, sym (ap (λ (s : NamedSource). s.columns) (same_Some (record { name = name; columns = source.columns }) named e)))
called_at (name ∷ names) (source ∷ sources) (suc n) named e = called_at names sources n named e

module _ (names : List (List ℕ)) (sources : List Source) where
  abbrev scope : Scope
  scope = scope_of names sources

  abbrev pub table_at : ℕ → Source
  table_at n = get_or sources n no_source

  -- a table of the statement, and a column of it
  pub record PlaceIn (place : ℕ × ℕ) : Type 0 where
    pub table : place.0 < length sources
    pub column : place.1 < length (table_at place.0).columns

  place_in : (place : ℕ × ℕ) → IsThere scope.called place → PlaceIn place
  place_in place there =
      let found = called_at names sources place.0 there.source there.table in
      record {
        table = slice_get_within sources place.0 found.0 found.1;
        column = subst (λ (s : Source). place.1 < length s.columns) (sym (get_or_from_slice_get sources place.0 found.0 no_source found.1))
            (subst (λ columns. place.1 < length columns) found.2 there.column);
      }

  pub column_in : (expr : ExprTree) (place : ℕ × ℕ) → column_of scope.called expr ≡ Some place → PlaceIn place
  column_in expr place e = place_in place (column_there scope.called expr place e)

  pub cond_in : (c : CondTree) (place : ℕ × ℕ) (column : ColumnCond) → read_cond scope.called c ≡ Some (place, column) → PlaceIn place
  cond_in c place column e = place_in place (cond_there scope.called c place column e)

  -- ## Roles

  -- a link of table n with an earlier one
  pub record LinkIn (n : ℕ) (link : Link) : Type 0 where
    pub back : link.number < n
    pub source : link.source ≡ table_at link.number
    pub left : PlaceIn (link.number, link.left)
    pub right : PlaceIn (n, link.right)

  abbrev RoleIn : Role → Type 0
  RoleIn (OfColumn m place column) = PlaceIn (m, place)
  RoleIn (OfLink m link) = LinkIn m link
  RoleIn Other = Unit {0}

  equal_in : (left right : ExprTree) (o p : Option (ℕ × ℕ)) → column_of scope.called left ≡ o → column_of scope.called right ≡ p → RoleIn (equal_role scope o p)
  equal_in left right None p e f = tt
  equal_in left right (Some a) None e f = tt
  equal_in left right (Some a) (Some b) e f = by_order (nat_lt a.0 b.0) (nat_lt b.0 a.0) refl refl
    where
      by_order : (x y : Bool) → nat_lt a.0 b.0 ≡ x → nat_lt b.0 a.0 ≡ y → RoleIn (cond x (OfLink b.0 (link_to scope a b)) (cond y (OfLink a.0 (link_to scope b a)) Other))
      by_order true y g h = record { back = ltb-true a.0 b.0 g; source = refl; left = column_in left a e; right = column_in right b f }
      by_order false true g h = record { back = ltb-true b.0 a.0 h; source = refl; left = column_in right b f; right = column_in left a e }
      by_order false false g h = tt

  link_in : (c : CondTree) → RoleIn (link_role scope c)
  link_in (tree.Compare cmp.Eq left right) = equal_in left right (column_of scope.called left) (column_of scope.called right) refl refl
  link_in (tree.Compare cmp.Ne left right) = tt
  link_in (tree.Compare cmp.Lt left right) = tt
  link_in (tree.Compare cmp.Le left right) = tt
  link_in (tree.Compare cmp.Gt left right) = tt
  link_in (tree.Compare cmp.Ge left right) = tt
  link_in (tree.Within of low high) = tt
  link_in (tree.IsNull of) = tt
  link_in (tree.Negation c) = tt
  link_in (tree.Both a b) = tt
  link_in (tree.Either a b) = tt

  role_in : (c : CondTree) (o : Option ((ℕ × ℕ) × ColumnCond)) → read_cond scope.called c ≡ o → RoleIn (role_or (link_role scope c) o)
  role_in c None e = link_in c
  role_in c (Some at) e = cond_in c at.0 at.1 e

  -- ## Parts

  abbrev IsIn : ℕ → ℕ × ColumnCond → Type 0
  IsIn n at = at.0 < length (table_at n).columns

  column_step : (n : ℕ) (more : List (ℕ × ColumnCond)) (r : Role) → RoleIn r → AllByRecursion (IsIn n) more → AllByRecursion (IsIn n) (column_part n r more)
  column_step n more (OfColumn m place column) r a = by_case (m == n) refl
    where
      by_case : (b : Bool) → (m == n) ≡ b → AllByRecursion (IsIn n) (cond b ((place, column) ∷ more) more)
      by_case true e = (subst (λ k. place < length (table_at k).columns) (eqb-true m n e) r.column, a)
      by_case false e = a
  column_step n more (OfLink m link) r a = a
  column_step n more Other r a = a

  -- the column conditions of table n are of its columns
  pub conds_in : (n : ℕ) (cs : List CondTree) → AllByRecursion (IsIn n) (conds_of scope n cs)
  conds_in n [] = tt
  conds_in n (c ∷ cs) = column_step n (conds_of scope n cs) (role scope c) (role_in c (read_cond scope.called c) refl) (conds_in n cs)

  abbrev pub IfLink : ℕ → Option Link → Type 0
  IfLink n None = Unit {0}
  IfLink n (Some link) = LinkIn n link

  link_step : (n : ℕ) (more : Option Link) (r : Role) → RoleIn r → IfLink n more → IfLink n (link_part n r more)
  link_step n more (OfColumn m place column) r a = a
  link_step n more (OfLink m link) r a = by_case (m == n) refl
    where
      by_case : (b : Bool) → (m == n) ≡ b → IfLink n (cond b (Some link) more)
      by_case true e = subst (λ k. LinkIn k link) (eqb-true m n e) r
      by_case false e = a
  link_step n more Other r a = a

  -- the link of table n is with an earlier one
  pub links_in : (n : ℕ) (cs : List CondTree) → IfLink n (link_of scope n cs)
  links_in n [] = tt
  links_in n (c ∷ cs) = link_step n (link_of scope n cs) (role scope c) (role_in c (read_cond scope.called c) refl) (links_in n cs)

  back_from : (n : ℕ) (o : Option Link) → IfLink n o → LinkBack n o
  back_from n None a = tt
  back_from n (Some link) a = a.back

  pub links_back : (cs : List CondTree) (n : ℕ) (tables : List Source) → LinksBack n (steps_from scope cs n tables)
  links_back cs n [] = tt
  links_back cs n (table ∷ tables) = (back_from n (link_of scope n cs) (links_in n cs), links_back cs (n + 1) tables)

  -- ## The others

  module _ (Q : CondTree → Type 0) where
    other_step : (used : ℕ → Bool) (c : CondTree) (cs : List CondTree) (r : Role) → Q c → ((u : ℕ → Bool) → AllByRecursion Q (others scope u cs)) → AllByRecursion Q (other_part used r c (λ u. others scope u cs))
    other_step used c cs (OfColumn m place column) q again = again used
    other_step used c cs (OfLink m link) q again = by_case (used m)
      where
        by_case : (b : Bool) → AllByRecursion Q (cond b (c ∷ others scope used cs) (others scope (and_used used m) cs))
        by_case true = (q, again used)
        by_case false = again (and_used used m)
    other_step used c cs Other q again = (q, again used)

    -- what holds of all conjuncts holds of the others
    pub others_keep : (used : ℕ → Bool) (cs : List CondTree) → AllByRecursion Q cs → AllByRecursion Q (others scope used cs)
    others_keep used [] a = tt
    others_keep used (c ∷ cs) a = other_step used c cs (role scope c) a.0 (λ u. others_keep u cs a.1)
