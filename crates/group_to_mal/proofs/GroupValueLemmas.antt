-- The values of expressions over groups are what SQL means over them.
use Rattle.std.proofs.Common.{◌≡◌, ℕ, List, [], ◌∷◌, length, map, filter, Bool, true, false, not, ◌||◌, Option, Some, None, pos, refl, ap, sym, ◌∙◌, subst}
use Rattle.std.specs.Prelude.{get_or, is_none}
use Rattle.std.specs.List.{AllByRecursion, list_any}
use Rattle.std.specs.Option.{option_map, option_and_then}
use Rattle.std.proofs.lemmas.List.{length-map}
use Rattle.cell_core.specs.declared.cell.Cell.{Cell}
use Rattle.cell_core.specs.declared.cell.Cell.TheVariants.{Nil, Int, Oid}
use Rattle.cell_core.specs.declared.operator.Op.TheVariants as op
use Rattle.cell_core.specs.declared.operator.Arg.{Arg}
use Rattle.cell_core.specs.declared.operator.Value.{Value}
use Rattle.cell_core.specs.declared.operator.Value.TheVariants.{Bat, One}
use Rattle.cell_core.specs.declared.table.Db.{Db}
use Rattle.cell_core.specs.Pairs.{numbered}
use Rattle.cell_core.specs.Groups.{group_heads_of, known}
use Rattle.mal_meaning.specs.Meaning.{value_over}
use Rattle.sql_tree.specs.Tree.{ExprTree}
use Rattle.sql_tree.specs.Tree.ExprTree.{Literal, ColumnOf, Operator, AggregateAll, Aggregate}
use Rattle.sql_tree.specs.declared.tree.AggOp.{AggOp}
use Rattle.sql_tree.specs.declared.tree.AggOp.TheVariants as aggregate
use Rattle.sql_definitions.specs.Values.{Choice, value, cell_over, group_cell, first_choice, aggregated, constant_overflows, over_choices}
use Rattle.mal_emit.specs.Emitters.{Emitter, emits, followed}
use Rattle.mal_emit.specs.Machines.{over, Gives}
use Rattle.mal_emit.proofs.MachineLemmas.{At}
use Rattle.mal_emit.proofs.GivesLemmas.{emits_gives, known_gives, then_found, behind_one, gives_same}
use Rattle.pick_laws.specs.Shapes.{Shape, Alone, Each, at, is_each, as_value}
use Rattle.pick_laws.specs.Numbers.{alike, firsts, number_oids}
use Rattle.pick_laws.proofs.ListLemmas.{all_both, all_filter, map_after, map_agree_all, all_any}
use Rattle.pick_laws.proofs.KeepLemmas.{projected_is}
use Rattle.pick_laws.proofs.GroupLemmas.{heads_gathered, by_group_is, all_distinct}
use Rattle.pick_laws.proofs.GroupNumbers.{alike_equivalence, firsts_first}
use Rattle.rows_to_mal.specs.Conjuncts.{Scope, expr_value, is_alone}
use Rattle.group_to_mal.specs.Columns.{spread_by}
use Rattle.group_to_mal.specs.Values.{sub_of, first_of, argument, of_first, group_value, is_grouped}
use Rattle.group_to_mal.proofs.ColumnLemmas.{each, numbers}
use Rattle.group_to_mal.proofs.TestLemmas.{Means, IsKind}

-- ## Values over single rows

module _ (db : Db) (scope : Scope) (rows : List Arg) {P : Type 0} (picks : List P) (are : List Value) (shape : ExprTree → Option (Shape P)) (choice : P → Choice) where
  -- an operator without a column overflows, or the expression does for a pick
  abbrev pub row_overflows : ExprTree → Bool
  row_overflows e = constant_overflows e || list_any (λ p. is_none (value scope.called (choice p) e)) picks

  abbrev pub row_cell : P → ExprTree → Cell
  row_cell p e = cell_over scope.called (choice p) e

  -- the value of an expression over each pick is what SQL means over its choice
  pub record RowFits (e : ExprTree) : Type 0 where
    pub given : Gives (over db) rows are (expr_value scope rows e) (option_map (as_value picks) (shape e))
    pub means : Means picks (shape e) (row_overflows e) (λ p. row_cell p e)
    pub kind : IsKind (shape e) (not (is_alone e))

  -- the first table's rows are known
  pub record FirstKnown : Type 0 where
    pub number : P → ℕ
    pub first : get_or are 0 (One Nil) ≡ Bat (numbered (map (λ p. Oid (number p)) picks))

  -- ## An aggregate's argument

  argument_ends : (f : FirstKnown) {v : Arg} (s : Shape P) (alone : Bool) → is_each s ≡ not alone
      → Gives (over db) (v ∷ rows) (as_value picks s ∷ are) (spread_by (first_of rows) (not alone) v) (Some (Bat (numbered (map (at s) picks))))
  argument_ends f (Alone c) true e =
      emits_gives op.Project (At 1 ∷ At 0 ∷ []) (ap (λ v. value_over db op.Project (v ∷ One c ∷ [])) f.first ∙ ap (λ b. Some (Bat b)) (projected_is c (λ p. Oid (f.number p)) picks))
  argument_ends f (Alone c) false e = cc
  argument_ends f (Each g) true e = cc
  argument_ends f (Each g) false e = known_gives

  -- an aggregate's argument has a cell for each pick
  pub argument_gives : FirstKnown → (of : ExprTree) → RowFits of → Gives (over db) rows are (argument scope rows of) (option_map (λ s. Bat (numbered (map (at s) picks))) (shape of))
  argument_gives f of fits =
      gives_same (again (shape of))
      (then_found (as_value picks) (shape of) fits.given (λ v s e. argument_ends f s (is_alone of) (subst (λ o. IsKind o (not (is_alone of))) e fits.kind)))
    where
      again : (o : Option (Shape P)) → option_and_then (λ s. Some (Bat (numbered (map (at s) picks)))) o ≡ option_map (λ s. Bat (numbered (map (at s) picks))) o
      again None = refl
      again (Some s) = refl

  -- ## Over groups

  module _ (n : P → ℕ) where
    -- the picks of the group of a pick
    abbrev pub members_of : P → List P
    members_of q = filter (λ p. alike n p q) picks

    abbrev pub group_of : P → List Choice
    group_of q = map choice (members_of q)

    abbrev pub over_group : AggOp → (P → Cell) → P → Cell
    over_group f w q = aggregated f (map w (members_of q))

    abbrev pub group_shape : (P → ℕ) → ExprTree → Option (Shape P)
    group_shape r (AggregateAll f) = Some (Each (over_group aggregate.Count (λ p. Oid (r p))))
    group_shape r (Aggregate f of) = option_map (λ s. Each (over_group f (at s))) (shape of)
    group_shape r (Literal c) = shape (Literal c)
    group_shape r (ColumnOf ref) = shape (ColumnOf ref)
    group_shape r (Operator operator left right) = shape (Operator operator left right)

    -- the row values that an expression over groups takes
    abbrev pub GroupFits : ExprTree → Type 0
    GroupFits (AggregateAll f) = Unit {0}
    GroupFits (Aggregate f of) = RowFits of
    GroupFits (Literal c) = RowFits (Literal c)
    GroupFits (ColumnOf ref) = RowFits (ColumnOf ref)
    GroupFits (Operator operator left right) = RowFits (Operator operator left right)

    abbrev pub group_heads : Value
    group_heads = Bat (group_heads_of (number_oids n picks))

    module _ (g h : Arg) (first : FirstKnown) where
      -- after the rows: the groups' numbers and their first rows
      abbrev GroupGives : Emitter Arg → Option (Shape P) → Type 0
      GroupGives emitter o = Gives (over db) (h ∷ g ∷ rows) (group_heads ∷ numbers picks n ∷ are) emitter (option_map (as_value (firsts n picks)) o)

      first_ends : {v : Arg} (s : Shape P) (alone : Bool) → is_each s ≡ not alone
          → Gives (over db) (v ∷ h ∷ g ∷ rows) (as_value picks s ∷ group_heads ∷ numbers picks n ∷ are) (of_first h alone v) (Some (as_value (firsts n picks) s))
      first_ends (Alone c) true e = known_gives
      first_ends (Alone c) false e = cc
      first_ends (Each w) true e = cc
      first_ends (Each w) false e = emits_gives op.Join (At 1 ∷ At 0 ∷ []) (ap (λ b. Some (Bat b)) (heads_gathered n w picks))

      firsts_give : (e : ExprTree) → RowFits e → GroupGives (followed (expr_value scope rows e) (λ v. of_first h (is_alone e) v)) (shape e)
      firsts_give e fits =
          gives_same (again (shape e))
          (then_found (as_value picks) (shape e) (behind_one (behind_one fits.given)) (λ v s f. first_ends s (is_alone e) (subst (λ o. IsKind o (not (is_alone e))) f fits.kind)))
        where
          again : (o : Option (Shape P)) → option_and_then (λ s. Some (as_value (firsts n picks) s)) o ≡ option_map (as_value (firsts n picks)) o
          again None = refl
          again (Some s) = refl

      sub_gives : {v : Arg} (f : AggOp) (w : P → Cell)
          → Gives (over db) (v ∷ h ∷ g ∷ rows) (each picks w ∷ group_heads ∷ numbers picks n ∷ are) (emits (sub_of f) (v ∷ g ∷ [])) (Some (Bat (numbered (map (over_group f w) (firsts n picks)))))
      sub_gives aggregate.Count w = emits_gives op.Subcount (At 0 ∷ At 2 ∷ []) (ap (λ b. Some (Bat b)) (by_group_is (aggregated aggregate.Count) w n picks))
      sub_gives aggregate.Sum w = emits_gives op.Subsum (At 0 ∷ At 2 ∷ []) (ap (λ b. Some (Bat b)) (by_group_is (aggregated aggregate.Sum) w n picks))
      sub_gives aggregate.Min w = emits_gives op.Submin (At 0 ∷ At 2 ∷ []) (ap (λ b. Some (Bat b)) (by_group_is (aggregated aggregate.Min) w n picks))
      sub_gives aggregate.Max w = emits_gives op.Submax (At 0 ∷ At 2 ∷ []) (ap (λ b. Some (Bat b)) (by_group_is (aggregated aggregate.Max) w n picks))

      total_gives : (f : AggOp) (of : ExprTree) → RowFits of → GroupGives (group_value scope rows g h (Aggregate f of)) (option_map (λ s. Each (over_group f (at s))) (shape of))
      total_gives f of fits =
          gives_same (again (shape of))
          (then_found (λ s. each picks (at s)) (shape of) (behind_one (behind_one (argument_gives first of fits))) (λ v s e. sub_gives f (at s)))
        where
          again : (o : Option (Shape P)) → option_and_then (λ s. Some (Bat (numbered (map (over_group f (at s)) (firsts n picks))))) o ≡ option_map (as_value (firsts n picks)) (option_map (λ s. Each (over_group f (at s))) o)
          again None = refl
          again (Some s) = refl

      count_gives : (f : AggOp) → GroupGives (group_value scope rows g h (AggregateAll f)) (Some (Each (over_group aggregate.Count (λ p. Oid (first.number p)))))
      count_gives f =
          emits_gives op.Subcount (At 2 ∷ At 1 ∷ [])
          (ap (λ v. value_over db op.Subcount (v ∷ numbers picks n ∷ [])) first.first ∙ ap (λ b. Some (Bat b)) (by_group_is (aggregated aggregate.Count) (λ p. Oid (first.number p)) n picks))

      pub group_gives : (e : ExprTree) → GroupFits e → GroupGives (group_value scope rows g h e) (group_shape first.number e)
      group_gives (AggregateAll f) fits = count_gives f
      group_gives (Aggregate f of) fits = total_gives f of fits
      group_gives (Literal c) fits = firsts_give (Literal c) fits
      group_gives (ColumnOf ref) fits = firsts_give (ColumnOf ref) fits
      group_gives (Operator operator left right) fits = firsts_give (Operator operator left right) fits

    -- ## What SQL means

    abbrev pub group_overflows : ExprTree → Bool
    group_overflows e = constant_overflows e || list_any (λ x. list_any (λ p. is_none (value scope.called (choice p) x)) picks) (over_choices e)

    abbrev pub cell_of_group : P → ExprTree → Cell
    cell_of_group q e = group_cell scope.called (group_of q) e

    or_alone : (a b : Bool) → a || b ≡ a || (b || false)
    or_alone true b = refl
    or_alone false true = refl
    or_alone false false = refl

    along_firsts : (Q : P → Type 0) → AllByRecursion Q picks → AllByRecursion Q (firsts n picks)
    along_firsts Q a = all_distinct (alike n) Q picks a

    -- the first choice of a group is that of the pick which stands for it
    first_choices : AllByRecursion (λ q. first_choice (group_of q) ≡ choice q) (firsts n picks)
    first_choices = firsts_first (alike n) (alike_equivalence n) choice [] picks

    single_means : (e : ExprTree) → RowFits e → (q : P → Cell) → ((p : P) → first_choice (group_of p) ≡ choice p → row_cell p e ≡ q p)
        → Means (firsts n picks) (shape e) (constant_overflows e || (list_any (λ p. is_none (value scope.called (choice p) e)) picks || false)) q
    single_means e fits q same =
        subst (λ b. Means (firsts n picks) (shape e) b q) (or_alone (constant_overflows e) (list_any (λ p. is_none (value scope.called (choice p) e)) picks)) (by_shape (shape e) fits.means)
      where
        by_shape : (o : Option (Shape P)) → Means picks o (row_overflows e) (λ p. row_cell p e) → Means (firsts n picks) o (row_overflows e) q
        by_shape None m = m
        by_shape (Some s) m = (m.0, all_both (λ p. at s p ≡ row_cell p e) (λ p. first_choice (group_of p) ≡ choice p) (λ p. at s p ≡ q p) (λ p a b. a ∙ same p b) (firsts n picks) (along_firsts (λ p. at s p ≡ row_cell p e) m.1) first_choices)

    total_means : (f : AggOp) (of : ExprTree) → RowFits of
        → Means (firsts n picks) (option_map (λ s. Each (over_group f (at s))) (shape of)) (group_overflows (Aggregate f of)) (λ q. cell_of_group q (Aggregate f of))
    total_means f of fits =
        subst (λ b. Means (firsts n picks) (option_map (λ s. Each (over_group f (at s))) (shape of)) b (λ q. cell_of_group q (Aggregate f of)))
        (or_alone (constant_overflows of) (list_any (λ p. is_none (value scope.called (choice p) of)) picks)) (by_shape (shape of) fits.means)
      where
        same : (s : Shape P) → AllByRecursion (λ p. at s p ≡ row_cell p of) picks → (q : P) → over_group f (at s) q ≡ cell_of_group q (Aggregate f of)
        same s a q = ap (aggregated f)
            (map_agree_all (at s) (λ p. row_cell p of) (members_of q) (all_filter (λ p. at s p ≡ row_cell p of) (λ p. alike n p q) picks a)
            ∙ sym (map_after (λ c. cell_over scope.called c of) choice (members_of q)))

        by_shape : (o : Option (Shape P)) → Means picks o (row_overflows of) (λ p. row_cell p of)
            → Means (firsts n picks) (option_map (λ s. Each (over_group f (at s))) o) (row_overflows of) (λ q. cell_of_group q (Aggregate f of))
        by_shape None m = m
        by_shape (Some s) m = (m.0, all_any (λ q. over_group f (at s) q ≡ cell_of_group q (Aggregate f of)) (λ q. same s m.1 q) (firsts n picks))

    -- oids aren't Nil
    all_known : (r : P → ℕ) (ps : List P) → known (map (λ p. Oid (r p)) ps) ≡ map (λ p. Oid (r p)) ps
    all_known r [] = refl
    all_known r (p ∷ ps) = ap (λ cells. Oid (r p) ∷ cells) (all_known r ps)

    count_is : (r : P → ℕ) (f : AggOp) (q : P) → over_group aggregate.Count (λ p. Oid (r p)) q ≡ cell_of_group q (AggregateAll f)
    count_is r f q = ap (λ m. Int (pos m)) (ap length (all_known r (members_of q)) ∙ length-map (members_of q) (λ p. Oid (r p)) ∙ sym (length-map (members_of q) choice))

    pub group_means : (r : P → ℕ) (e : ExprTree) → GroupFits e → Means (firsts n picks) (group_shape r e) (group_overflows e) (λ q. cell_of_group q e)
    group_means r (AggregateAll f) fits = (refl, all_any (λ q. over_group aggregate.Count (λ p. Oid (r p)) q ≡ cell_of_group q (AggregateAll f)) (λ q. count_is r f q) (firsts n picks))
    group_means r (Aggregate f of) fits = total_means f of fits
    group_means r (Literal c) fits = single_means (Literal c) fits (λ q. cell_of_group q (Literal c)) (λ p e. refl)
    group_means r (ColumnOf ref) fits = single_means (ColumnOf ref) fits (λ q. cell_of_group q (ColumnOf ref)) (λ p e. ap (λ c. cell_over scope.called c (ColumnOf ref)) (sym e))
    group_means r (Operator operator left right) fits =
        single_means (Operator operator left right) fits (λ q. cell_of_group q (Operator operator left right)) (λ p e. ap (λ c. cell_over scope.called c (Operator operator left right)) (sym e))

    each_kind : (f : AggOp) (o : Option (Shape P)) → IsKind (option_map (λ s. Each (over_group f (at s))) o) true
    each_kind f None = tt
    each_kind f (Some s) = refl

    pub group_kind : (r : P → ℕ) (e : ExprTree) → GroupFits e → IsKind (group_shape r e) (is_grouped e)
    group_kind r (AggregateAll f) fits = refl
    group_kind r (Aggregate f of) fits = each_kind f (shape of)
    group_kind r (Literal c) fits = fits.kind
    group_kind r (ColumnOf ref) fits = fits.kind
    group_kind r (Operator operator left right) fits = fits.kind
