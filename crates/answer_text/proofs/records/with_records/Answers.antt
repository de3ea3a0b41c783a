use Rattle.std.proofs.Common.{◌≡◌, ◌≢◌, ◌++◌, ◌∙◌, Some, ap, map, take}
use Rattle.std.specs.Prelude.{flat_map}
use Rattle.cell_core.specs.CellText.{cell_text}
use Rattle.csv.specs.Records.{fields_of}
use Rattle.csv.specs.Writing.{row_text, writer_setup}
use Rattle.csv.specs.declared.writer.QuoteStyle.TheVariants as style
use Rattle.reply_layout.specs.Layout.{row_record}
use Rattle.answer_text.proofs.RecordLemmas.{rows_more, row_writer}
use Rattle.answer_text.proofs.records.with_records.Goals as goal

pub loop-row-preserved : goal.loop-row-preserved
loop-row-preserved c =
    let inv = c.loop-row.invariant in
    let wrote = c.in-Ok.ensures in
    let plain : (writer_setup c.loop-row.writer).style ≢ style.NonNumeric = rw inv.setup (λ e. cc e) in
    let appended = wrote.bytes inv.no_field inv.no_byte plain in
    let cells = c.in_ok-fill_record.ensures ∙ ap (λ cells. map cell_text cells) c.as_slice.ensures in
    let before = c.loop-row.writer.wtr.inner.items ++ c.loop-row.writer.wtr.buf in
    let line = appended ∙ ap (λ cfg. before ++ row_text cfg (fields_of c.fill_record.new.fields)) inv.setup ∙ ap (λ fields. before ++ row_text row_writer fields) cells in
    let so_far : c.loop-row.writer.wtr.inner.items ++ c.loop-row.writer.wtr.buf ≡ c.args.text.items ++ flat_map row_record (take c.loop-row.row-index c.args.rows.now) = cc (inv.so_far) in
    record {
      setup = wrote.setup ∙ inv.setup;
      no_field = wrote.ended;
      no_byte = wrote.clean;
      so_far = ap (λ t. Some t) (rows_more _ _ _ c.args.rows.now c.loop-row.row-index c.row-item.result c.loop-row-test.true c.row-item.is so_far line);
    }
