use Rattle.std.proofs.Common.{◌≡◌, ℕ, true, false, Some, ◌++◌, take, Vec, Global}
use Rattle.std.specs.Prelude.{flat_map}
use Rattle.csv.specs.Writing.{default_writer, with_flexible, writer_setup, fields_written, has_written, text_written}
use Rattle.reply_layout.specs.Layout.{row_record}
use Rattle.answer_text.proofs.records.with_records.Given as goal

abbrev pub invariant-loop-row : goal.invariant-loop-row
invariant-loop-row l = record {
  setup : writer_setup l.writer ≡ with_flexible default_writer true;
  no_field : fields_written l.writer ≡ 0;
  no_byte : has_written l.writer ≡ false;
  so_far : text_written (λ (v : Vec ℕ Global). Some v.items) l.writer ≡ Some (l.fn.text.items ++ flat_map row_record (take l.row-index l.rows));
}
