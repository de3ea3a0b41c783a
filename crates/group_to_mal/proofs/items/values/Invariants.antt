use Rattle.std.proofs.Common.{◌≡◌, ◌++◌, map, drop}
use Rattle.mal_emit.specs.Phrases.{variables}
use Rattle.group_to_mal.specs.Columns.{values_by}
use Rattle.group_to_mal.specs.Forms.{value_over, is_bat_over}
use Rattle.group_to_mal.specs.ItemValues.{args_of, bats_in}
use Rattle.sql_definitions.specs.Exprs.{exprs_of}
use Rattle.group_to_mal.proofs.items.values.Given as goal

abbrev pub invariant-loop-item : goal.invariant-loop-item
invariant-loop-item l =
    let rest = exprs_of (drop l.item-index l.items) in
    let more = (values_by (value_over l.tables (variables l.rows) l.form) rest).run l.instrs in
    ((values_by (value_over l.tables (variables l.rows) l.form) (exprs_of l.items)).run l.initial.instrs ≡ (more.0, args_of l.found.items ++ more.1))
    × (bats_in l.found.items ++ map (is_bat_over l.form) rest ≡ map (is_bat_over l.form) (exprs_of l.items))
