-- The values of expressions and conditions over the rows so far, and the rows for which a condition is true.
use Rattle.std.specs.Prelude.{ℕ, List, [], ◌∷◌, Bool, true, false, ◌&&◌, get_or, Option, Some, None}
use Rattle.cell_core.specs.declared.cell.Cell.TheVariants.{Nil}
use Rattle.cell_core.specs.declared.operator.Op.{Op}
use Rattle.cell_core.specs.declared.operator.Op.TheVariants as op
use Rattle.cell_core.specs.declared.operator.Arg.{Arg}
use Rattle.cell_core.specs.declared.operator.Arg.TheVariants.{Const}
use Rattle.sql_tree.specs.Tree.{ExprTree, CondTree}
use Rattle.sql_tree.specs.Tree.ExprTree.{Literal, ColumnOf, Operator, AggregateAll, Aggregate}
use Rattle.sql_tree.specs.Tree.CondTree.{Compare, Within, IsNull, Negation, Both, Either}
use Rattle.sql_tree.specs.declared.tree.CmpOp.{CmpOp}
use Rattle.sql_tree.specs.declared.tree.CmpOp.TheVariants as cmp
use Rattle.sql_definitions.specs.Sources.{NamedSource, place_of}
use Rattle.sql_definitions.specs.declared.source.Source.{Source}
use Rattle.mal_emit.specs.Emitters.{Emitter, emits, gives, followed}
use Rattle.mal_emit.specs.Phrases.{keep}
use Rattle.rows_to_mal.specs.Candidates.{calc_of}
use Rattle.rows_to_mal.specs.Joins.{column_value}

-- the tables that a statement names, in its order: under the names by which it calls them, and as the database has them
pub record Scope : Type 0 where
  pub called : List NamedSource
  pub sources : List Source

abbrev pub no_source : Source
no_source = record { table = []; columns = [] }

-- ## Values

-- the column at a place
abbrev pub place_value : Scope → List Arg → Option (ℕ × ℕ) → Emitter Arg
place_value scope rs None = gives (Const Nil)
place_value scope rs (Some place) = column_value rs place.0 (get_or scope.sources place.0 no_source) place.1

abbrev pub expr_value : Scope → List Arg → ExprTree → Emitter Arg
expr_value scope rs (Literal cell) = gives (Const cell)
expr_value scope rs (ColumnOf ref) = place_value scope rs (place_of scope.called ref)
expr_value scope rs (Operator operator left right) = followed (expr_value scope rs left) (λ x. followed (expr_value scope rs right) (λ y. emits (calc_of operator) (x ∷ y ∷ [])))
expr_value scope rs (AggregateAll f) = gives (Const Nil)
expr_value scope rs (Aggregate f of) = gives (Const Nil)

abbrev pub comparison_of : CmpOp → Op
comparison_of cmp.Eq = op.Eq
comparison_of cmp.Ne = op.Ne
comparison_of cmp.Lt = op.Lt
comparison_of cmp.Le = op.Le
comparison_of cmp.Gt = op.Gt
comparison_of cmp.Ge = op.Ge

abbrev pub cond_value : Scope → List Arg → CondTree → Emitter Arg
cond_value scope rs (Compare operator left right) = followed (expr_value scope rs left) (λ x. followed (expr_value scope rs right) (λ y. emits (comparison_of operator) (x ∷ y ∷ [])))
cond_value scope rs (Within of low high) =
    followed (followed (expr_value scope rs of) (λ x. followed (expr_value scope rs low) (λ y. emits op.Ge (x ∷ y ∷ []))))
    (λ a. followed (followed (expr_value scope rs of) (λ x. followed (expr_value scope rs high) (λ y. emits op.Le (x ∷ y ∷ [])))) (λ b. emits op.And (a ∷ b ∷ [])))
cond_value scope rs (IsNull of) = followed (expr_value scope rs of) (λ x. emits op.IsNil (x ∷ []))
cond_value scope rs (Negation of) = followed (cond_value scope rs of) (λ x. emits op.Not (x ∷ []))
cond_value scope rs (Both left right) = followed (cond_value scope rs left) (λ x. followed (cond_value scope rs right) (λ y. emits op.And (x ∷ y ∷ [])))
cond_value scope rs (Either left right) = followed (cond_value scope rs left) (λ x. followed (cond_value scope rs right) (λ y. emits op.Or (x ∷ y ∷ [])))

-- ## Conjuncts

-- it has no column
abbrev pub is_alone : ExprTree → Bool
is_alone (Literal cell) = true
is_alone (ColumnOf ref) = false
is_alone (Operator operator left right) = is_alone left && is_alone right
is_alone (AggregateAll f) = true
is_alone (Aggregate f of) = true

abbrev pub is_cond_alone : CondTree → Bool
is_cond_alone (Compare operator left right) = is_alone left && is_alone right
is_cond_alone (Within of low high) = is_alone of && is_alone low && is_alone high
is_cond_alone (IsNull of) = is_alone of
is_cond_alone (Negation of) = is_cond_alone of
is_cond_alone (Both left right) = is_cond_alone left && is_cond_alone right
is_cond_alone (Either left right) = is_cond_alone left && is_cond_alone right

-- a value for each row so far
abbrev pub spread_value : List Arg → Bool → Arg → Emitter Arg
spread_value rs true v = emits op.Project (get_or rs 0 (Const Nil) ∷ v ∷ [])
spread_value rs false v = gives v

-- the rows so far for which a conjunct is true
abbrev pub keep_true : Scope → List Arg → CondTree → Emitter (List Arg)
keep_true scope rs c = followed (followed (cond_value scope rs c) (λ v. spread_value rs (is_cond_alone c) v)) (λ v. keep v rs)

abbrev pub keep_all : Scope → List Arg → List CondTree → Emitter (List Arg)
keep_all scope rs [] = gives rs
keep_all scope rs (c ∷ cs) = followed (keep_true scope rs c) (λ more. keep_all scope more cs)
