-- The refusals of changes, one part after the other.
use Rattle.std.proofs.Common.{◌≡◌, ℕ, List, ◌++◌, map, Bool, ◌||◌, Option, Some, None, refl, ap, sym, ◌∙◌}
use Rattle.std.specs.List.{list_any}
use Rattle.std.specs.Option.{option_or}
use Rattle.cell_core.specs.declared.cell.Cell.{Cell}
use Rattle.cell_core.specs.declared.table.Column.{Column}
use Rattle.sql_tree.specs.Tree.{ExprTree, CondTree}
use Rattle.sql_definitions.specs.declared.refusal.Refusal.{Refusal}
use Rattle.sql_definitions.specs.declared.refusal.Refusal.TheVariants.{WrongCount, KindsDiffer}
use Rattle.sql_definitions.specs.declared.source.Source.{Source}
use Rattle.sql_definitions.specs.Sources.{NamedSource}
use Rattle.sql_tree.specs.Exprs.{exprs_of_cond}
use Rattle.sql_definitions.specs.Check.{refused_if, unknown_names, names_twice, targets, is_wrong_count, is_misfit_row, is_misfit_set, is_misfit_cond, is_misfit_default, bad_in_exprs, insert_refusals}
use Rattle.sql_check.specs.First.{first, first_by, bad_expr, column_list, rows_first, delete_list, update_list}
use Rattle.sql_check.proofs.FirstLemmas.{by_both, bad_by_exprs}
use Rattle.sql_check.proofs.QueryLemmas.{next}

or_in_turn : (a b c : Option Refusal) → option_or a (option_or b c) ≡ option_or (option_or a b) c
or_in_turn None b c = refl
or_in_turn (Some x) b c = refl

pub insert_first : (listed : List (List ℕ)) (rows : List (List Cell)) (source : Source) (columns found lent : List Column) (unknown twice of_rows : Option Refusal)
    → columns ≡ source.columns → found ≡ targets columns listed → lent ≡ found
    → unknown ≡ first (unknown_names columns listed) → twice ≡ first (names_twice listed) → of_rows ≡ rows_first lent rows
    → option_or (option_or unknown twice) of_rows ≡ first (insert_refusals listed rows source)
insert_first listed rows source columns found lent unknown twice of_rows is_columns is_found is_lent is_unknown is_twice is_rows =
    let own : List Column = source.columns in
    let all : List Column = targets own listed in
    let e_unknown : unknown ≡ first (unknown_names own listed) = is_unknown ∙ ap (λ c. first (unknown_names c listed)) is_columns in
    let e_rows : of_rows ≡ rows_first all rows = is_rows ∙ ap (λ l. rows_first l rows) (is_lent ∙ is_found ∙ ap (λ c. targets c listed) is_columns) in
    ap (option_or (option_or unknown twice)) e_rows
    ∙ or_in_turn (option_or unknown twice) (first (refused_if (is_wrong_count all rows) WrongCount)) (first (refused_if (list_any (is_misfit_row all) rows) KindsDiffer))
    ∙ next _ _ (unknown_names own listed ++ names_twice listed ++ refused_if (is_wrong_count all rows) WrongCount) (refused_if (list_any (is_misfit_row all) rows) KindsDiffer)
    (next _ _ (unknown_names own listed ++ names_twice listed) (refused_if (is_wrong_count all rows) WrongCount)
    (next _ _ (unknown_names own listed) (names_twice listed) e_unknown is_twice) refl) refl

pub columns_first : (columns : List Column) (names lent : List (List ℕ)) (twice kinds : Option Refusal) (is_wrong : Bool)
    → names ≡ map (λ (column : Column). column.name) columns → lent ≡ names → twice ≡ first (names_twice lent)
    → is_wrong ≡ list_any is_misfit_default columns → kinds ≡ first (refused_if is_wrong KindsDiffer)
    → option_or twice kinds ≡ first (column_list columns)
columns_first columns names lent twice kinds is_wrong is_names is_lent is_twice is_so is_kinds =
    next twice kinds (names_twice (map (λ (column : Column). column.name) columns)) (refused_if (list_any is_misfit_default columns) KindsDiffer)
    (is_twice ∙ ap (λ n. first (names_twice n)) (is_lent ∙ is_names)) (is_kinds ∙ ap (λ b. first (refused_if b KindsDiffer)) is_so)

pub delete_first : (sources : List NamedSource) (c : Option CondTree) (references kinds : Option Refusal) (is_wrong : Bool)
    → references ≡ first_by (bad_expr sources) (exprs_of_cond c) → is_wrong ≡ is_misfit_cond sources c → kinds ≡ first (refused_if is_wrong KindsDiffer)
    → option_or references kinds ≡ first (delete_list sources c)
delete_first sources c references kinds is_wrong is_references is_so is_kinds =
    next references kinds (bad_in_exprs sources (exprs_of_cond c)) (refused_if (is_misfit_cond sources c) KindsDiffer)
    (is_references ∙ bad_by_exprs sources (exprs_of_cond c)) (is_kinds ∙ ap (λ b. first (refused_if b KindsDiffer)) is_so)

pub update_first : (sources : List NamedSource) (columns : List Column) (sets : List (List ℕ × ExprTree)) (c : Option CondTree) (names lent lent_again : List (List ℕ))
    (unknown in_sets in_cond twice kinds : Option Refusal) (is_wrong : Bool)
    → names ≡ map (λ (set : List ℕ × ExprTree). set.0) sets → lent ≡ names → lent_again ≡ names
    → unknown ≡ first (unknown_names columns lent) → in_sets ≡ first_by (bad_expr sources) (map (λ (set : List ℕ × ExprTree). set.1) sets)
    → in_cond ≡ first_by (bad_expr sources) (exprs_of_cond c) → twice ≡ first (names_twice lent_again)
    → is_wrong ≡ (list_any (is_misfit_set sources columns) sets || is_misfit_cond sources c) → kinds ≡ first (refused_if is_wrong KindsDiffer)
    → option_or (option_or (option_or unknown (option_or in_sets in_cond)) twice) kinds ≡ first (update_list sources columns sets c)
update_first sources columns sets c names lent lent_again unknown in_sets in_cond twice kinds is_wrong is_names is_lent is_again is_unknown is_sets is_cond is_twice is_so is_kinds =
    let listed : List (List ℕ) = map (λ (set : List ℕ × ExprTree). set.0) sets in
    let values : List ExprTree = map (λ (set : List ℕ × ExprTree). set.1) sets in
    let e_unknown : unknown ≡ first (unknown_names columns listed) = is_unknown ∙ ap (λ n. first (unknown_names columns n)) (is_lent ∙ is_names) in
    let e_twice : twice ≡ first (names_twice listed) = is_twice ∙ ap (λ n. first (names_twice n)) (is_again ∙ is_names) in
    let e_references : option_or in_sets in_cond ≡ first (bad_in_exprs sources (values ++ exprs_of_cond c)) =
    ap (λ x. option_or x in_cond) is_sets ∙ ap (option_or (first_by (bad_expr sources) values)) is_cond
    ∙ sym (by_both (bad_expr sources) values (exprs_of_cond c)) ∙ bad_by_exprs sources (values ++ exprs_of_cond c) in
    next _ kinds (unknown_names columns listed ++ bad_in_exprs sources (values ++ exprs_of_cond c) ++ names_twice listed) (refused_if (list_any (is_misfit_set sources columns) sets || is_misfit_cond sources c) KindsDiffer)
    (next _ twice (unknown_names columns listed ++ bad_in_exprs sources (values ++ exprs_of_cond c)) (names_twice listed)
    (next unknown _ (unknown_names columns listed) (bad_in_exprs sources (values ++ exprs_of_cond c)) e_unknown e_references) e_twice)
    (is_kinds ∙ ap (λ b. first (refused_if b KindsDiffer)) is_so)
