-- The terms of the private calls, as the policy has them.
use Rattle.std.specs.Prelude.{ℕ, List, [], ◌∷◌, map, sum_by, Bool, true, false, Option}
use Rattle.std.specs.Option.{option_map, option_map_or}
use Rattle.cell_core.specs.declared.operator.Value.TheVariants.{Bat}
use Rattle.cell_core.specs.Pairs.{Pairs}
use Rattle.cell_core.specs.Calc.{all_or_none}
use Rattle.lineage_key.specs.declared.key.Key.{Key}
use Rattle.lineage_key.specs.declared.key.KeyArg.{KeyArg}
use Rattle.pool_policy.specs.declared.entry.PoolEntry.{PoolEntry}
use Rattle.pool_policy.specs.Writes.{Return, Source as SourceValue, Growth, come_back, growth_of, grows, source_of}
use Rattle.pool_policy.specs.Writes.Source.{Plain as PlainSource, Same as SameSource, Grown as GrownSource}
use Rattle.pool_policy.specs.Writes.Growth.{Runs as RunsOver, Nothing as NothingMore, NoForm as NoGrowth}
use Rattle.update_propagate.specs.declared.back.Back.{Back}
use Rattle.update_propagate.specs.declared.write.Write.{Write}
use Rattle.update_propagate.specs.declared.source.ArgSource.{ArgSource}
use Rattle.update_propagate.specs.declared.source.ArgSource.TheVariants.{Plain, Same, Grown}
use Rattle.update_propagate.specs.declared.delta.Delta.{Delta}
use Rattle.update_propagate.specs.declared.joining.JoinForm.{JoinForm}
use Rattle.update_propagate.specs.declared.joining.JoinForm.TheVariants.{Joins, Nothing, NoForm}

abbrev pub return_in : Back → Return
return_in back = record { old = back.old.now; new = back.new; delta = back.delta; work = back.work }

abbrev pub returns_in : List Back → List Return
returns_in backs = map return_in backs

-- the work of what came back
abbrev pub total_work : List Return → ℕ
total_work returns = sum_by (λ (r : Return). r.work) returns

abbrev pub source_in : ArgSource → SourceValue
source_in (Plain cell) = PlainSource cell.now
source_in (Same value) = SameSource value.now
source_in (Grown back) = GrownSource (return_in back.now)

abbrev pub join_growth : JoinForm → Growth
join_growth (Joins l r) = RunsOver (Bat l.now ∷ Bat r.now ∷ [])
join_growth Nothing = NothingMore
join_growth NoForm = NoGrowth

-- what follows an old value, and the work of what was run for it
abbrev pub value_in : Option Delta → Option Pairs
value_in found = option_map (λ (d : Delta). d.value) found

abbrev pub work_in : Option Delta → ℕ
work_in found = option_map_or (λ (d : Delta). d.work) found 0

-- the policy's functions at a write

abbrev pub source_at : Write → List Return → KeyArg → Option SourceValue
source_at write returns arg = source_of write.ids.now write.entries.now returns arg

abbrev pub growth_at : Write → List Return → PoolEntry → Growth
growth_at write returns e = growth_of write.touched.now write.ids.now write.entries.now returns e

-- the growth of an entry with this key that is no bind, where rows were added
abbrev pub growth_over : Write → List Return → Key → Growth
growth_over write returns key =
    option_map_or (grows write.touched.now.old_rows key.op) (all_or_none (map (source_at write returns) key.args)) NoGrowth

abbrev pub come_back_at : Write → List Return → PoolEntry → List Return
come_back_at write returns e = come_back write.touched.now write.now write.next write.ids.now write.entries.now returns e
