-- The first refusal of two lists, one after the other.
use Rattle.std.proofs.Common.{◌≡◌, ℕ, List, [], ◌∷◌, ◌++◌, Option, Some, None, refl, ap, sym, ◌∙◌, append-nil, map, filter, not, Bool, false, cond, nat_lt, length, arith, is_some}
use Rattle.std.proofs.lemmas.Bool.{lt-ltb}
use Rattle.std.specs.Prelude.{flat_map}
use Rattle.std.specs.Option.{option_or}
use Rattle.std.proofs.lemmas.Grind.{flat_map-append}
use Rattle.std.proofs.lemmas.List.{map-append}
use Rattle.std.proofs.lemmas.List.Elements.{filter-append}
use Rattle.sql_tree.specs.Tree.{ExprTree, ItemTree}
use Rattle.sql_tree.specs.declared.tree.ColRef.{ColRef}
use Rattle.sql_definitions.specs.declared.called.Resolved.{Resolved}
use Rattle.sql_definitions.specs.declared.refusal.Refusal.{Refusal}
use Rattle.sql_definitions.specs.Sources.{NamedSource, places}
use Rattle.sql_definitions.specs.Found.{found_of}
use Rattle.sql_definitions.specs.References.{references, outer_references}
use Rattle.sql_definitions.specs.Check.{misplaced, bad_references, bad_in_exprs, is_group_column, bad_key}
use Rattle.sql_definitions.specs.declared.refusal.Refusal.TheVariants.{NoColumn, Ambiguous, NotGrouped}
use Rattle.sql_tree.specs.declared.tree.Place.{Place}
use Rattle.sql_tree.specs.declared.tree.Place.TheVariants.{Named}
use Rattle.sql_definitions.specs.Answer.{key_place}
use Rattle.sql_tree.specs.Names.{name_text}
use Rattle.sql_check.specs.First.{first, first_by, bad_expr, ungrouped, ungrouped_expr, misplaced_found, key_refusal}

pub first_in_both : (xs ys : List Refusal) → first (xs ++ ys) ≡ option_or (first xs) (first ys)
first_in_both [] ys = refl
first_in_both (x ∷ xs) ys = refl

-- the refusal of a reference by what is found
misplaced_is : (ref : ColRef) (places : List (ℕ × ℕ)) → misplaced_found ref (found_of places) ≡ first (misplaced ref places)
misplaced_is ref [] = refl
misplaced_is ref (place ∷ []) = refl
misplaced_is ref (place ∷ other ∷ more) = refl

pub misplaced_by_found : (sources : List NamedSource) (ref : ColRef) (table : Option (List ℕ)) (found : Resolved) (refusal : Option Refusal)
    → table ≡ ref.table → found ≡ found_of (places sources (record { table = table; column = ref.column })) → refusal ≡ misplaced_found ref found
    → refusal ≡ first (misplaced ref (places sources ref))
misplaced_by_found sources ref table found refusal is_table is_found is_refusal =
    is_refusal ∙ ap (misplaced_found ref) (is_found ∙ ap (λ t. found_of (places sources (record { table = t; column = ref.column }))) is_table)
    ∙ misplaced_is ref (places sources ref)

-- the references of one column
pub bad_in_one : (sources : List NamedSource) (ref : ColRef) → first (bad_references sources (ref ∷ [])) ≡ first (misplaced ref (places sources ref))
bad_in_one sources ref = ap first (append-nil (misplaced ref (places sources ref)))

pub bad_in_both : (sources : List NamedSource) (xs ys : List ColRef) → first (bad_references sources (xs ++ ys)) ≡ option_or (first (bad_references sources xs)) (first (bad_references sources ys))
bad_in_both sources xs ys =
    ap first (flat_map-append (λ (ref : ColRef). misplaced ref (places sources ref)) xs ys) ∙ first_in_both (bad_references sources xs) (bad_references sources ys)

-- the first refusal of two lists of expressions
pub by_both : (refusal : ExprTree → Option Refusal) (xs ys : List ExprTree) → first_by refusal (xs ++ ys) ≡ option_or (first_by refusal xs) (first_by refusal ys)
by_both refusal [] ys = refl
by_both refusal (x ∷ xs) ys = ap (option_or (refusal x)) (by_both refusal xs ys) ∙ or_in_turn (refusal x) (first_by refusal xs) (first_by refusal ys)
  where
    or_in_turn : (a b c : Option Refusal) → option_or a (option_or b c) ≡ option_or (option_or a b) c
    or_in_turn None b c = refl
    or_in_turn (Some x) b c = refl

-- the first refusal, taken expression by expression, is that of the first bad reference of all
pub bad_by_exprs : (sources : List NamedSource) (exprs : List ExprTree) → first_by (bad_expr sources) exprs ≡ first (bad_in_exprs sources exprs)
unfolding bad_expr
bad_by_exprs sources [] = refl
bad_by_exprs sources (expr ∷ exprs) =
    ap (option_or (first (bad_references sources (references expr)))) (bad_by_exprs sources exprs)
    ∙ sym (bad_in_both sources (references expr) (flat_map references exprs))

-- the columns of two lists that aren't grouped by
pub ungrouped_in_both : (sources : List NamedSource) (groups xs ys : List ColRef)
    → first (ungrouped sources groups (xs ++ ys)) ≡ option_or (first (ungrouped sources groups xs)) (first (ungrouped sources groups ys))
ungrouped_in_both sources groups xs ys =
    ap (λ refs. first (map (λ (ref : ColRef). NotGrouped (name_text ref.column)) refs)) (filter-append (λ ref. not (is_group_column sources groups ref)) xs ys)
    ∙ ap first (map-append (λ (ref : ColRef). NotGrouped (name_text ref.column)) (filter (λ ref. not (is_group_column sources groups ref)) xs) (filter (λ ref. not (is_group_column sources groups ref)) ys))
    ∙ first_in_both (ungrouped sources groups xs) (ungrouped sources groups ys)

pub ungrouped_by_exprs : (sources : List NamedSource) (groups : List ColRef) (exprs : List ExprTree)
    → first_by (ungrouped_expr sources groups) exprs ≡ first (ungrouped sources groups (flat_map outer_references exprs))
unfolding ungrouped_expr
ungrouped_by_exprs sources groups [] = refl
ungrouped_by_exprs sources groups (expr ∷ exprs) =
    ap (option_or (first (ungrouped sources groups (outer_references expr)))) (ungrouped_by_exprs sources groups exprs)
    ∙ sym (ungrouped_in_both sources groups (outer_references expr) (flat_map outer_references exprs))

-- the refusal of a key by what is found
key_refusal_is : (ref : ColRef) (places : List (ℕ × ℕ))
    → Some (key_refusal ref (found_of places)) ≡ first (cond (nat_lt 1 (length places)) (Ambiguous (name_text ref.column) ∷ []) (NoColumn (name_text ref.column) ∷ []))
key_refusal_is ref [] = refl
key_refusal_is ref (place ∷ []) = refl
key_refusal_is ref (place ∷ other ∷ more) =
    ap (λ b. first (cond b (Ambiguous (name_text ref.column) ∷ []) (NoColumn (name_text ref.column) ∷ []))) (sym (lt-ltb 1 (length (place ∷ other ∷ more)) (omega arith)))

pub key_by_found : (sources : List NamedSource) (items : List ItemTree) (ref : ColRef) (table : Option (List ℕ)) (found : Resolved) (refusal : Refusal)
    → is_some (key_place sources items (Named ref)) ≡ false
    → table ≡ ref.table → found ≡ found_of (places sources (record { table = table; column = ref.column })) → refusal ≡ key_refusal ref found
    → Some refusal ≡ first (bad_key sources items (Named ref))
key_by_found sources items ref table found refusal none is_table is_found is_refusal =
    ap Some (is_refusal ∙ ap (key_refusal ref) (is_found ∙ ap (λ t. found_of (places sources (record { table = t; column = ref.column }))) is_table))
    ∙ key_refusal_is ref (places sources ref)
    ∙ ap (λ b. first (cond b [] (cond (nat_lt 1 (length (places sources ref))) (Ambiguous (name_text ref.column) ∷ []) (NoColumn (name_text ref.column) ∷ [])))) (sym none)

pub key_by_place : (sources : List NamedSource) (items : List ItemTree) (place : Place) (ref : ColRef) (table : Option (List ℕ)) (item : Option ℕ) (has_item : Bool) (found : Resolved) (refusal : Refusal)
    → place ≡ Named ref → item ≡ key_place sources items place → has_item ≡ is_some item → has_item ≡ false
    → table ≡ ref.table → found ≡ found_of (places sources (record { table = table; column = ref.column })) → refusal ≡ key_refusal ref found
    → Some refusal ≡ first (bad_key sources items place)
key_by_place sources items place ref table item has_item found refusal is_place is_item has none is_table is_found is_refusal =
    key_by_found sources items ref table found refusal
    (ap (λ p. is_some (key_place sources items p)) (sym is_place) ∙ ap (λ (i : Option ℕ). is_some i) (sym is_item) ∙ sym has ∙ none)
    is_table is_found is_refusal
    ∙ ap (λ p. first (bad_key sources items p)) (sym is_place)
