-- The text of a cell, as output has it.
use Rattle.std.specs.Prelude.{ℕ, ◌==◌, if◌then◌else◌, List, [], ◌∷◌, ◌++◌, flat_map, codes, decimal}
use Rattle.std.specs.Fmt.{signed_decimal}
use Rattle.cell_core.specs.Day.{day_text}
use Rattle.cell_core.specs.declared.cell.Cell.{Cell}
use Rattle.cell_core.specs.declared.cell.Cell.TheVariants.{Nil, Int, Huge, Text, Day, Bit, Oid}

-- a byte of a text, a backslash (92) twice
abbrev pub escaped_byte : ℕ → List ℕ
escaped_byte byte = if byte == 92 then 92 ∷ 92 ∷ [] else byte ∷ []

-- the bytes of a text, each backslash twice
abbrev pub escaped_text : List ℕ → List ℕ
escaped_text = flat_map escaped_byte

-- the text of a cell
abbrev pub cell_text : Cell → List ℕ
cell_text Nil = 92 ∷ codes "N"
cell_text (Int number) = signed_decimal number
cell_text (Huge number) = signed_decimal number
cell_text (Text text) = escaped_text text
cell_text (Day day) = day_text day
cell_text (Bit bit) = if bit then codes "true" else codes "false"
cell_text (Oid oid) = decimal oid ++ codes "@0"
