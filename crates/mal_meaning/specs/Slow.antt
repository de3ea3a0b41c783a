-- The parts of which the plain operators are made. Only contracts of private functions name them:
-- public contracts use `cell_core`'s definitions alone.
use Rattle.std.specs.Prelude.{ℕ, min, List, length, map, filter, Bool, Option, None, Some}
use Rattle.std.specs.List.{position_or_len}
use Rattle.cell_core.specs.declared.cell.Cell.{Cell}
use Rattle.cell_core.specs.declared.cell.Cell.TheVariants.{Oid}
use Rattle.cell_core.specs.declared.operator.Value.{Value}
use Rattle.cell_core.specs.declared.operator.Value.TheVariants.{Bat, One}
use Rattle.cell_core.specs.Same.{same_cell}
use Rattle.cell_core.specs.Pairs.{Pairs, heads_of}
use Rattle.cell_core.specs.Groups.{same_pair}
use Rattle.mal_meaning.specs.declared.groups.Sameness.{Sameness}
use Rattle.mal_meaning.specs.declared.groups.Sameness.TheVariants as sameness
use Rattle.cell_calc.specs.declared.aggregate.Aggregate.{Aggregate}
use Rattle.cell_calc.specs.Aggregates.{aggregate_of}

-- the head of a pair beside each head of r
abbrev pub beside_heads : Pairs → Cell × Cell → Pairs
beside_heads r p = map (λ q. (p.0, q.0)) r

-- two pairs with the same cells, or with the same tail
abbrev pub are_same : Sameness → Cell × Cell → Cell × Cell → Bool
are_same sameness.Pair p q = same_pair p q
are_same sameness.Tail p q = same_cell p.1 q.1

-- the number of a pair: the place of the first that is the same
abbrev pub number_among : Sameness → Pairs → Cell × Cell → ℕ
number_among by names p = position_or_len (λ q. are_same by q p) names

-- the head of a pair beside its number
abbrev pub head_numbered : Pairs → Cell × Cell → Cell × Cell
head_numbered names p = (p.0, Oid (number_among sameness.Tail names p))

-- the number of a pair as a cell
abbrev pub pair_numbered : Pairs → Cell × Cell → Cell
pair_numbered names p = Oid (number_among sameness.Pair names p)

-- an aggregate over the heads of the pairs with this tail
abbrev pub group_folded : Aggregate → Pairs → Cell → Cell
group_folded which paired tail = aggregate_of which (heads_of (filter (λ p. same_cell p.1 tail) paired))

-- the shorter of two lengths, of which the first may be missing
abbrev pub min_of : Option ℕ → ℕ → ℕ
min_of None n = n
min_of (Some m) n = min m n

-- the shorter of a length and a BAT's; a scalar has none
abbrev pub shorter_of : Option ℕ → Value → Option ℕ
shorter_of least (One cell) = least
shorter_of least (Bat b) = Some (min_of least (length b))
