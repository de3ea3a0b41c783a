-- The plain operators return what the definitions say.
use Rattle.std.proofs.Common.{◌≡◌, ℕ, ◌+◌, ◌≤◌, List, [], ◌∷◌, ◌++◌, map, filter, length, not, Bool, true, false, cond, Option, Some, None, refl, ap, sym, subst, ◌∙◌, IsTrue, arith}
use Rattle.std.specs.Prelude.{min, get_or}
use Rattle.std.specs.List.{position_or_len, zip}
use Rattle.std.specs.Option.{option_map_or}
use Rattle.std.proofs.lemmas.List.FromFn.{map-range_with_len_more}
use Rattle.std.proofs.lemmas.List.{get_or_past, length-map}
use Rattle.cell_core.specs.declared.cell.Cell.{Cell}
use Rattle.cell_core.specs.declared.cell.Cell.TheVariants.{Nil, Oid}
use Rattle.cell_core.specs.declared.operator.Value.{Value}
use Rattle.cell_core.specs.declared.operator.Value.TheVariants.{Bat, One}
use Rattle.cell_core.specs.Same.{same_cell}
use Rattle.cell_core.specs.Pairs.{Pairs, heads_of, tails_of, numbered, shortest, row_at, rows_of}
use Rattle.cell_core.specs.Calc.{row_function, calculated}
use Rattle.cell_core.specs.Operators.{operate}
use Rattle.cell_core.specs.Forms.{is_calc}
use Rattle.cell_core.specs.declared.operator.Op.{Op}
use Rattle.cell_core.specs.declared.operator.Op.TheVariants as op
use Rattle.cell_core.specs.Groups.{distinct, group_number, grouped, derived, paired_tails, least, by_group}
use Rattle.mal_meaning.specs.declared.groups.Sameness.TheVariants as sameness
use Rattle.cell_calc.specs.declared.aggregate.Aggregate.{Aggregate}
use Rattle.cell_calc.specs.Aggregates.{aggregate_of}
use Rattle.mal_meaning.specs.Slow.{are_same, number_among, head_numbered, pair_numbered, group_folded, shorter_of}

-- tails kept by a test of tails
tails_kept : (test : Cell → Bool) (b : Pairs) → tails_of (filter (λ q. test q.1) b) ≡ filter test (tails_of b)
tails_kept test [] = refl
tails_kept test (p ∷ b) = elim (test p.1) as (λ t. tails_of (cond t (p ∷ filter (λ q. test q.1) b) (filter (λ q. test q.1) b)) ≡ cond t (p.1 ∷ filter test (tails_of b)) (filter test (tails_of b))) [
  | true ↦ ap (λ r. p.1 ∷ r) (tails_kept test b)
  | false ↦ tails_kept test b
]

-- the tails of the pairs that are distinct by their tails are the distinct tails
pub distinct_tails : (b : Pairs) → tails_of (distinct (are_same sameness.Tail) b) ≡ distinct same_cell (tails_of b)
distinct_tails [] = refl
distinct_tails (p ∷ b) =
    ap (λ r. p.1 ∷ r) (tails_kept (λ y. not (same_cell p.1 y)) (distinct (are_same sameness.Tail) b) ∙ ap (filter (λ y. not (same_cell p.1 y))) (distinct_tails b))

-- a place among pairs by their tails is the place among the tails
place_of_tail : (tail : Cell) (b : Pairs) → position_or_len (λ q. same_cell q.1 tail) b ≡ position_or_len (λ y. same_cell y tail) (tails_of b)
place_of_tail tail [] = refl
place_of_tail tail (q ∷ b) = ap (λ n. cond (not (same_cell q.1 tail)) (1 + n) 0) (place_of_tail tail b)

number_of_tail : (b : Pairs) (p : Cell × Cell) → number_among sameness.Tail (distinct (are_same sameness.Tail) b) p ≡ group_number same_cell (tails_of b) p.1
number_of_tail b p = place_of_tail p.1 (distinct (are_same sameness.Tail) b) ∙ ap (position_or_len (λ y. same_cell y p.1)) (distinct_tails b)

pairs_numbered : (b c : Pairs) → map (head_numbered (distinct (are_same sameness.Tail) b)) c ≡ map (λ p. (p.0, Oid (group_number same_cell (tails_of b) p.1))) c
pairs_numbered b [] = refl
pairs_numbered b (p ∷ c) = ap (λ n. (p.0, Oid n) ∷ map (head_numbered (distinct (are_same sameness.Tail) b)) c) (number_of_tail b p)
    ∙ ap (λ r. (p.0, Oid (group_number same_cell (tails_of b) p.1)) ∷ r) (pairs_numbered b c)

pub grouped_is : (b : Pairs) → map (head_numbered (distinct (are_same sameness.Tail) b)) b ≡ grouped b
grouped_is b = pairs_numbered b b

pub derived_is : (g b : Pairs) → zip (heads_of g) (map (pair_numbered (distinct (are_same sameness.Pair) (paired_tails g b))) (paired_tails g b)) ≡ derived g b
derived_is g b = refl

pub by_group_is : (which : Aggregate) (b g : Pairs) → numbered (map (group_folded which (paired_tails b g)) (distinct same_cell (tails_of g))) ≡ by_group (aggregate_of which) b g
by_group_is which b g = refl

-- the cell at a place past a BAT's end
pub tail_past : (b : Pairs) (place : ℕ) → length b ≤ place → get_or (tails_of b) place Nil ≡ Nil
tail_past b place h = get_or_past (tails_of b) place Nil (subst (λ n. n ≤ place) (sym (length-map b (λ p. p.1))) h)

-- a length and what the others have, together
abbrev pub least_with : Option ℕ → Option ℕ → Option ℕ
least_with None others = others
least_with (Some m) others = Some (option_map_or (λ n. min m n) others m)

least_with_none : (least : Option ℕ) → least_with least None ≡ least
least_with_none None = refl
least_with_none (Some m) = refl

pub least_at_end : (least : Option ℕ) → least_with least (shortest []) ≡ least
least_at_end least = least_with_none least

min_with : (m k : ℕ) (others : Option ℕ) → option_map_or (λ n. min (min m k) n) others (min m k) ≡ min m (option_map_or (λ n. min k n) others k)
min_with m k None = refl
min_with m k (Some n) = grind arith

pub least_step : (least : Option ℕ) (value : Value) (rest : List Value) → least_with (shorter_of least value) (shortest rest) ≡ least_with least (shortest (value ∷ rest))
least_step least (One cell) rest = refl
least_step None (Bat b) rest = refl
least_step (Some m) (Bat b) rest = ap Some (min_with m (length b) (shortest rest))

-- one row more
pub rows_more : (values : List Value) (count : ℕ) → rows_of values (count + 1) ≡ rows_of values count ++ row_at values count ∷ []
rows_more values count = map-range_with_len_more (row_at values) 0 count count (grind arith)

-- the functions of cells are what the table says
pub function_is : (operator : Op) (args : List Value) → IsTrue (is_calc operator) → calculated (row_function operator) args ≡ operate operator args
function_is op.Plus args h = refl
function_is op.Minus args h = refl
function_is op.Times args h = refl
function_is op.Eq args h = refl
function_is op.Ne args h = refl
function_is op.Lt args h = refl
function_is op.Le args h = refl
function_is op.Gt args h = refl
function_is op.Ge args h = refl
function_is op.And args h = refl
function_is op.Or args h = refl
function_is op.Not args h = refl
function_is op.IsNil args h = refl
function_is op.Bind args h = cc
function_is op.Select args h = cc
function_is op.Semijoin args h = cc
function_is op.Kdifference args h = cc
function_is op.Kunion args h = cc
function_is op.Reverse args h = cc
function_is op.Mirror args h = cc
function_is op.MarkT args h = cc
function_is op.Project args h = cc
function_is op.Cross args h = cc
function_is op.Join args h = cc
function_is op.GroupNew args h = cc
function_is op.GroupDerive args h = cc
function_is op.GroupHeads args h = cc
function_is op.Count args h = cc
function_is op.Sum args h = cc
function_is op.Min args h = cc
function_is op.Max args h = cc
function_is op.Subcount args h = cc
function_is op.Subsum args h = cc
function_is op.Submin args h = cc
function_is op.Submax args h = cc
