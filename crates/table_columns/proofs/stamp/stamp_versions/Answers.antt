use Rattle.std.proofs.Common.{◌+◌, sym, ◌∙◌, arith, ap, slice_set}
use Rattle.std.specs.Prelude.{bytes_eq}
use Rattle.std.specs.List.{list_any}
use Rattle.cell_core.specs.declared.table.Column.{Column}
use Rattle.table_columns.proofs.StampLemmas.{stamped_next, stamped_skip}
use Rattle.table_columns.proofs.stamp.stamp_versions.Goals.{then-has_name, else-has_name}
use Rattle.table_columns.proofs.stamp.stamp_versions.Goals as goal

pub loop-i-preserved : goal.loop-i-preserved
loop-i-preserved c =
    elim c.if-has_name.branch [
      | then-has_name w ↦ w.versions-is ∙ ap (λ vs. slice_set vs c.loop-i.i c.args.version) c.loop-i.invariant
          ∙ sym (stamped_next c.args.names.now c.args.version c.args.columns.now c.args.versions.now c.loop-i.i (c.loop-i.i + 1) c.index-columns-i.result
          (omega arith) c.loop-i-test.true c.requires c.index-columns-i.is (ap (λ (x : Column). list_any (bytes_eq x.name) c.args.names.now) c.index-columns-i.is ∙ sym c.has_name.ensures ∙ w.if-has_name.true))
      | else-has_name w ↦ w.versions-is ∙ c.loop-i.invariant
          ∙ sym (stamped_skip c.args.names.now c.args.version c.args.columns.now c.args.versions.now c.loop-i.i (c.loop-i.i + 1) c.index-columns-i.result
          (omega arith) c.loop-i-test.true c.requires c.index-columns-i.is (ap (λ (x : Column). list_any (bytes_eq x.name) c.args.names.now) c.index-columns-i.is ∙ sym c.has_name.ensures ∙ w.if-has_name.false))
    ]
