-- The table of operators: the value, the overflow and the work of each.
use Rattle.std.specs.Prelude.{ℕ, ◌+◌, List, [], ◌∷◌, sum_by, Option, Some, None, unwrap_or}
use Rattle.std.specs.Option.{option_map_or}
use Rattle.cell_core.specs.declared.cell.Cell.{Cell}
use Rattle.cell_core.specs.declared.operator.Op.{Op}
use Rattle.cell_core.specs.declared.operator.Op.TheVariants as op
use Rattle.cell_core.specs.declared.operator.Value.{Value}
use Rattle.cell_core.specs.declared.operator.Value.TheVariants.{Bat, One}
use Rattle.cell_core.specs.Pairs.{Pairs, tails_of, is_true, pair_count, shortest}
use Rattle.cell_core.specs.Relations.{selected, semijoined, kdifference_of, kunion_of, reversed, mirrored, marked, projected, crossed, joined}
use Rattle.cell_core.specs.Groups.{grouped, derived, group_heads_of, counted, summed, least, greatest, by_group}
use Rattle.cell_core.specs.Calc.{row_function, calculated}

-- ## Arguments

-- one BAT
abbrev pub of_bat : (Pairs → Value) → List Value → Option Value
of_bat f (Bat b ∷ []) = Some (f b)
of_bat f _ = None

-- two BATs
abbrev pub of_bats : (Pairs → Pairs → Value) → List Value → Option Value
of_bats f (Bat l ∷ Bat r ∷ []) = Some (f l r)
of_bats f _ = None

-- a BAT and a scalar
abbrev pub of_bat_and_cell : (Pairs → Cell → Value) → List Value → Option Value
of_bat_and_cell f (Bat b ∷ One cell ∷ []) = Some (f b cell)
of_bat_and_cell f _ = None

-- a BAT and the scalars of a range
abbrev pub of_range : List Value → Option Value
of_range (Bat b ∷ One low ∷ One high ∷ One li ∷ One hi ∷ []) = Some (Bat (selected low high (is_true li) (is_true hi) b))
of_range _ = None

-- ## The table

-- the value of an operator, where None is an overflow. Of arguments that don't fit it is None too, and so is that of bind, which needs a database
abbrev pub operate : Op → List Value → Option Value
operate op.Bind = λ args. None
operate op.Select = of_range
operate op.Semijoin = of_bats (λ l r. Bat (semijoined l r))
operate op.Kdifference = of_bats (λ l r. Bat (kdifference_of l r))
operate op.Kunion = of_bats (λ l r. Bat (kunion_of l r))
operate op.Reverse = of_bat (λ b. Bat (reversed b))
operate op.Mirror = of_bat (λ b. Bat (mirrored b))
operate op.MarkT = of_bat_and_cell (λ b base. Bat (marked base b))
operate op.Project = of_bat_and_cell (λ b cell. Bat (projected cell b))
operate op.Cross = of_bats (λ l r. Bat (crossed l r))
operate op.Join = of_bats (λ l r. Bat (joined l r))
operate op.GroupNew = of_bat (λ b. Bat (grouped b))
operate op.GroupDerive = of_bats (λ g b. Bat (derived g b))
operate op.GroupHeads = of_bat (λ g. Bat (group_heads_of g))
operate op.Count = of_bat (λ b. One (counted (tails_of b)))
operate op.Sum = of_bat (λ b. One (summed (tails_of b)))
operate op.Min = of_bat (λ b. One (least (tails_of b)))
operate op.Max = of_bat (λ b. One (greatest (tails_of b)))
operate op.Subcount = of_bats (λ b g. Bat (by_group counted b g))
operate op.Subsum = of_bats (λ b g. Bat (by_group summed b g))
operate op.Submin = of_bats (λ b g. Bat (by_group least b g))
operate op.Submax = of_bats (λ b g. Bat (by_group greatest b g))
operate op.Plus = calculated (row_function op.Plus)
operate op.Minus = calculated (row_function op.Minus)
operate op.Times = calculated (row_function op.Times)
operate op.Eq = calculated (row_function op.Eq)
operate op.Ne = calculated (row_function op.Ne)
operate op.Lt = calculated (row_function op.Lt)
operate op.Le = calculated (row_function op.Le)
operate op.Gt = calculated (row_function op.Gt)
operate op.Ge = calculated (row_function op.Ge)
operate op.And = calculated (row_function op.And)
operate op.Or = calculated (row_function op.Or)
operate op.Not = calculated (row_function op.Not)
operate op.IsNil = calculated (row_function op.IsNil)

-- ## Work

-- the pairs of the arguments
abbrev pub pairs_read : List Value → ℕ
pairs_read args = sum_by pair_count args

-- the pairs of the result; an overflow counts as if it had as many as the shortest BAT among the arguments
abbrev pub pairs_made : Option Value → List Value → ℕ
pairs_made result args = option_map_or pair_count result (unwrap_or (shortest args) 0)

-- the stated work of an operator: the pairs of its arguments and those of its result
abbrev pub work_of : Op → List Value → ℕ
work_of operator args = pairs_read args + pairs_made (operate operator args) args
