use Rattle.std.proofs.Common.{◌≡◌, [], map, take}
use Rattle.cell_core.specs.CellText.{cell_text}
use Rattle.csv.specs.Records.{fields_of, partial_of}
use Rattle.answer_text.proofs.records.fill_record.Given as goal

abbrev pub invariant-loop-cell : goal.invariant-loop-cell
invariant-loop-cell l = record {
  so_far : fields_of l.fields ≡ map cell_text (take l.cell-index l.row);
  whole : partial_of l.fields ≡ [];
}
