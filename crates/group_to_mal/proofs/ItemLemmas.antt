-- The columns of a plan show the rows that SQL means, where values are what SQL means over picks.
use Rattle.std.proofs.Common.{◌≡◌, suc, ◌<◌, List, [], ◌∷◌, length, map, filter, Bool, true, false, not, ◌||◌, cond, Option, Some, None, refl, ap, sym, ◌∙◌, subst, arith}
use Rattle.std.specs.List.{AllByRecursion, list_any}
use Rattle.std.specs.Option.{option_map, option_and_then}
use Rattle.std.proofs.lemmas.Bool.{or_from, or_left, or_right}
use Rattle.cell_core.specs.declared.cell.Cell.{Cell}
use Rattle.cell_core.specs.declared.operator.Instr.{Instr}
use Rattle.cell_core.specs.declared.operator.Arg.{Arg}
use Rattle.cell_core.specs.declared.operator.Value.{Value}
use Rattle.cell_core.specs.declared.operator.Value.TheVariants.{Bat}
use Rattle.cell_core.specs.declared.table.Db.{Db}
use Rattle.cell_core.specs.Pairs.{Pairs, numbered, is_true}
use Rattle.cell_core.specs.Calc.{all_or_none}
use Rattle.sql_tree.specs.Tree.{ExprTree, CondTree}
use Rattle.sql_tree.specs.Exprs.{cond_exprs, exprs_of_cond}
use Rattle.sql_definitions.specs.Truth.{truth, holds}
use Rattle.mal_emit.specs.Emitters.{Emitter, followed}
use Rattle.mal_emit.specs.Machines.{over, Holds, Told, Gives, GivesAll}
use Rattle.mal_emit.proofs.MachineLemmas.{stays, and_holds, none_after}
use Rattle.mal_emit.proofs.GivesLemmas.{gives_all_same}
use Rattle.pick_laws.specs.Shapes.{Shape, Alone, Each, at, is_each, any_each, as_value, cells_at}
use Rattle.pick_laws.proofs.ListLemmas.{all_both, all_any, filter_agree_all, filter_all}
use Rattle.pick_laws.proofs.KeepLemmas.{is_kept}
use Rattle.group_to_mal.specs.Columns.{values_by, spread_by, any_bat, with_bat, keep_bats}
use Rattle.group_to_mal.specs.Values.{test_by, test_bat}
use Rattle.group_to_mal.specs.QueryPlan.{kept_columns}
use Rattle.group_to_mal.proofs.ColumnLemmas.{Wide, values_give, kinds, spread_gives, each_first, keep_gives}
use Rattle.group_to_mal.proofs.TestLemmas.{Means, IsKind, test_shape, test_gives, test_means, test_kind, MeansCells, KindIs}

-- ## The first column

module _ {P : Type 0} where
  pub first_kinds : (shapes : List (Shape P)) → kinds (each_first shapes) ≡ with_bat (kinds shapes)
  first_kinds [] = refl
  first_kinds (s ∷ shapes) = ap (λ b. b ∷ kinds shapes) (by_case s (any_bat (kinds shapes)))
    where
      by_case : (s : Shape P) (b : Bool) → is_each (cond (is_each s || b) s (Each (at s))) ≡ (is_each s || not b)
      by_case (Each f) b = refl
      by_case (Alone c) true = refl
      by_case (Alone c) false = refl

  any_kinds : (shapes : List (Shape P)) → any_bat (kinds shapes) ≡ any_each shapes
  any_kinds [] = refl
  any_kinds (s ∷ shapes) = ap (λ b. is_each s || b) (any_kinds shapes)

  pub first_each : (shapes : List (Shape P)) → 0 < length shapes → any_each (each_first shapes) ≡ true
  first_each [] some = absurd (none some)
    where
      none : 0 < 0 → ⊥
      none h = omega arith
  first_each (s ∷ shapes) some = by_case s (any_bat (kinds shapes)) (any_kinds shapes)
    where
      by_case : (s : Shape P) (b : Bool) → b ≡ any_each shapes → is_each (cond (is_each s || b) s (Each (at s))) || any_each shapes ≡ true
      by_case (Each f) b e = refl
      by_case (Alone c) true e = sym e
      by_case (Alone c) false e = refl

  pub first_cells : (shapes : List (Shape P)) (p : P) → cells_at (each_first shapes) p ≡ cells_at shapes p
  first_cells [] p = refl
  first_cells (s ∷ shapes) p = ap (λ c. c ∷ cells_at shapes p) (by_case (is_each s || any_bat (kinds shapes)))
    where
      by_case : (b : Bool) → at (cond b s (Each (at s))) p ≡ at s p
      by_case true = refl
      by_case false = refl

pub map_all : {X Y Z : Type 0} (f : Y → Z) (o : X → Option Y) (xs : List X) → all_or_none (map (λ x. option_map f (o x)) xs) ≡ option_map (map f) (all_or_none (map o xs))
map_all f o [] = refl
map_all {X} {Y} {Z} f o (x ∷ xs) = ap (λ p. option_and_then (λ y. option_map (λ ys. y ∷ ys) p) (option_map f (o x))) (map_all f o xs) ∙ by_case (o x) (all_or_none (map o xs))
  where
    by_case : (p : Option Y) (q : Option (List Y)) → option_and_then (λ y. option_map (λ ys. y ∷ ys) (option_map (map f) q)) (option_map f p) ≡ option_map (map f) (option_and_then (λ y. option_map (λ ys. y ∷ ys) q) p)
    by_case None q = refl
    by_case (Some y) None = refl
    by_case (Some y) (Some ys) = refl

module _ {P : Type 0} (picks : List P) (shape : ExprTree → Option (Shape P)) (overflows : ExprTree → Bool) (cell : P → ExprTree → Cell) (is_bat : ExprTree → Bool) where
  -- the values of expressions are what SQL means of them, and of this kind
  pub record IsMeant (e : ExprTree) : Type 0 where
    pub means : MeansCells picks shape overflows cell e
    pub kind : KindIs picks shape is_bat e

  abbrev pub shapes_of : List ExprTree → Option (List (Shape P))
  shapes_of items = all_or_none (map shape items)

  -- the row that SQL means for a pick
  abbrev pub row_for : List ExprTree → P → List Cell
  row_for items p = map (cell p) items

  pub record ShapesMean (items : List ExprTree) (shapes : List (Shape P)) : Type 0 where
    pub fine : list_any overflows items ≡ false
    pub cells : AllByRecursion (λ p. cells_at shapes p ≡ row_for items p) picks
    pub bats : kinds shapes ≡ map is_bat items
    pub long : length shapes ≡ length items

  abbrev pub AllMean : List ExprTree → Option (List (Shape P)) → Type 0
  AllMean items None = list_any overflows items ≡ true
  AllMean items (Some shapes) = ShapesMean items shapes

  cons_mean : (item : ExprTree) (items : List ExprTree) (o : Option (Shape P)) (q : Option (List (Shape P))) → Means picks o (overflows item) (λ p. cell p item) → IsKind o (is_bat item) → AllMean items q
      → AllMean (item ∷ items) (option_and_then (λ s. option_map (λ ss. s ∷ ss) q) o)
  cons_mean item items None q m k a = or_left (overflows item) (list_any overflows items) m
  cons_mean item items (Some s) None m k a = or_right (overflows item) (list_any overflows items) a
  cons_mean item items (Some s) (Some ss) m k a = record {
    fine = or_from (overflows item) (list_any overflows items) m.0 a.fine;
    cells = all_both (λ p. at s p ≡ cell p item) (λ p. cells_at ss p ≡ row_for items p) (λ p. cells_at (s ∷ ss) p ≡ row_for (item ∷ items) p)
        (λ p e f. ap (λ c. c ∷ cells_at ss p) e ∙ ap (λ r. cell p item ∷ r) f) picks m.1 a.cells;
    bats = ap (λ b. b ∷ kinds ss) k ∙ ap (λ r. is_bat item ∷ r) a.bats;
    long = ap (λ n. suc n) a.long;
  }

  pub items_mean : (items : List ExprTree) → AllByRecursion IsMeant items → AllMean items (shapes_of items)
  items_mean [] a = record { fine = refl; cells = all_any (λ p. [] ≡ row_for [] p) (λ p. refl) picks; bats = refl; long = refl }
  items_mean (item ∷ items) a = cons_mean item items (shape item) (shapes_of items) a.0.means a.0.kind (items_mean items a.1)

  -- ## HAVING

  abbrev pub passes : Option CondTree → P → Bool
  passes having p = holds (cell p) having

  abbrev pub kept_on : Option CondTree → Option (List P)
  kept_on None = Some picks
  kept_on (Some c) = option_map (λ s. filter (is_kept (at s)) picks) (test_shape picks shape c)

  abbrev pub KeptMeans : Option CondTree → Option (List P) → Type 0
  KeptMeans having None = list_any overflows (exprs_of_cond having) ≡ true
  KeptMeans having (Some ps) = (list_any overflows (exprs_of_cond having) ≡ false) × (ps ≡ filter (passes having) picks)

  pub mean_all : (es : List ExprTree) → AllByRecursion IsMeant es → AllByRecursion (MeansCells picks shape overflows cell) es
  mean_all [] a = tt
  mean_all (e ∷ es) a = (a.0.means, mean_all es a.1)

  pub kind_all : (es : List ExprTree) → AllByRecursion IsMeant es → AllByRecursion (KindIs picks shape is_bat) es
  kind_all [] a = tt
  kind_all (e ∷ es) a = (a.0.kind, kind_all es a.1)

  pub kept_means : (having : Option CondTree) → AllByRecursion IsMeant (exprs_of_cond having) → KeptMeans having (kept_on having)
  kept_means None a = (refl, sym (filter_all picks))
  kept_means (Some c) a = by_case (test_shape picks shape c) (test_means picks shape overflows cell c (mean_all (cond_exprs c) a))
    where
      by_case : (o : Option (Shape P)) → Means picks o (list_any overflows (cond_exprs c)) (λ p. truth (cell p) c) → KeptMeans (Some c) (option_map (λ s. filter (is_kept (at s)) picks) o)
      by_case None m = m
      by_case (Some s) m = (
        m.0,
        filter_agree_all (is_kept (at s)) (passes (Some c)) picks
            (all_both (λ p. at s p ≡ truth (cell p) c) (λ p. at s p ≡ truth (cell p) c) (λ p. is_kept (at s) p ≡ passes (Some c) p) (λ p e f. ap is_true e) picks m.1 m.1),
      )

  -- ## What the instructions compute

  module _ (db : Db) (value : ExprTree → Emitter Arg) (args : List Arg) (are : List Value) (h : Arg) (b : Pairs) (wide : Wide b picks) where
    abbrev pub Given : ExprTree → Type 0
    Given e = Gives (over db) args are (value e) (option_map (as_value picks) (shape e))

    pub values_are : (items : List ExprTree) → AllByRecursion Given items → GivesAll (over db) args are (values_by value items) (option_map (map (as_value picks)) (shapes_of items))
    values_are items a = gives_all_same (map_all (as_value picks) shape items) (values_give value (λ e. option_map (as_value picks) (shape e)) items a)

    -- where the values are known, and the heads beside which scalars go
    pub record Known (before : List Instr) : Type 0 where
      pub values : Holds (over db) before args are
      pub heads : Holds (over db) before (h ∷ []) (Bat b ∷ [])

    pub kept_told : (having : Option CondTree) → AllByRecursion Given (exprs_of_cond having) → AllByRecursion IsMeant (exprs_of_cond having) → (ws : List Arg) (shapes : List (Shape P)) (before : List Instr) → Known before
        → Holds (over db) before ws (map (as_value picks) shapes)
        → Told (over db) ((kept_columns value is_bat h having (kinds shapes) ws).run before).0 ((kept_columns value is_bat h having (kinds shapes) ws).run before).1 (option_map (λ ps. map (as_value ps) shapes) (kept_on having))
    kept_told None a m ws shapes before k j = j
    kept_told (Some c) a m ws shapes before k j =
        by_case (test_shape picks shape c) ((test_gives picks shape db value args are c a).told before k.values) (test_kind picks shape is_bat c (kind_all (cond_exprs c) m))
      where
        test : Emitter Arg
        test = test_by value c

        by_case : (o : Option (Shape P)) → Told (over db) (test.run before).0 ((test.run before).1 ∷ args) (option_map (λ v. v ∷ are) (option_map (as_value picks) o)) → IsKind o (test_bat is_bat c)
            → Told (over db) ((kept_columns value is_bat h (Some c) (kinds shapes) ws).run before).0 ((kept_columns value is_bat h (Some c) (kinds shapes) ws).run before).1
            (option_map (λ ps. map (as_value ps) shapes) (option_map (λ s. filter (is_kept (at s)) picks) o))
        by_case None none kind =
            none_after (over db) ((followed (spread_by h (test_bat is_bat c) (test.run before).1) (λ v. keep_bats v (kinds shapes) ws)).grows (test.run before).0) none
        by_case (Some s) known kind = subst
            (λ bat. Holds (over db) ((followed (spread_by h bat (test.run before).1) (λ v. keep_bats v (kinds shapes) ws)).run (test.run before).0).0
            ((followed (spread_by h bat (test.run before).1) (λ v. keep_bats v (kinds shapes) ws)).run (test.run before).0).1 (map (as_value (filter (is_kept (at s)) picks)) shapes)) kind spread_known
          where
            spread : Emitter Arg
            spread = spread_by h (is_each s) (test.run before).1

            both : Holds (over db) (test.run before).0 (h ∷ (test.run before).1 ∷ args) (Bat b ∷ as_value picks s ∷ are)
            both = and_holds (over db) (stays (over db) (test.grows before) k.heads known) known

            one : Holds (over db) (spread.run (test.run before).0).0 ((spread.run (test.run before).0).1 ∷ h ∷ (test.run before).1 ∷ args) (Bat (numbered (map (at s) picks)) ∷ Bat b ∷ as_value picks s ∷ are)
            one = (spread_gives db b picks wide s).told (test.run before).0 both

            columns : Holds (over db) (spread.run (test.run before).0).0 ws (map (as_value picks) shapes)
            columns = stays (over db) (spread.grows (test.run before).0) (stays (over db) (test.grows before) j known) one

            spread_known : Holds (over db) ((keep_bats (spread.run (test.run before).0).1 (kinds shapes) ws).run (spread.run (test.run before).0).0).0
                ((keep_bats (spread.run (test.run before).0).1 (kinds shapes) ws).run (spread.run (test.run before).0).0).1 (map (as_value (filter (is_kept (at s)) picks)) shapes)
            spread_known = (keep_gives db picks (at s) (spread.run (test.run before).0).1 ws shapes).told (spread.run (test.run before).0).0 (and_holds (over db) one columns)
