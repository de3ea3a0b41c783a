-- The one order of cells, when two cells are the same, and the stated size of a cell.
use Rattle.std.specs.Prelude.{ℕ, ◌+◌, List, [], length, Bool, ℤ, pos, if◌then◌else◌}
use Rattle.std.specs.Ordering.{nat_cmp, int_cmp, ordering_then, is_lt}
use Rattle.std.specs.declared.cmp.Ordering.{Ordering}
use Rattle.std.specs.Cmp.Lexicographic.{slice_cmp}
use Rattle.std.specs.Cmp.{IsTotalOrder}
use Rattle.std.proofs.lemmas.Cmp.{then_total, on_total, nat_cmp_total, int_cmp_total, nat_list_cmp_total, lists_total}
use Rattle.cell_core.specs.declared.cell.Cell.{Cell}
use Rattle.cell_core.specs.declared.cell.Cell.TheVariants.{Nil, Int, Huge, Text, Day, Bit, Oid}

-- Nil first, then numbers, texts, days, bits and oids
abbrev pub rank : Cell → ℕ
rank Nil = 0
rank (Int n) = 1
rank (Huge n) = 1
rank (Text bs) = 2
rank (Day n) = 3
rank (Bit b) = 4
rank (Oid n) = 5

-- what a cell counts as among those of its rank, where false is 0 and true is 1
abbrev pub number : Cell → ℤ
number Nil = pos 0
number (Int n) = n
number (Huge n) = n
number (Text bs) = pos 0
number (Day n) = n
number (Bit b) = if b then pos 1 else pos 0
number (Oid n) = pos n

-- the bytes of a text
abbrev pub letters : Cell → List ℕ
letters (Text bs) = bs
letters _ = []

-- cells compare by rank, then by number, then by the bytes of texts
abbrev pub cell_cmp : Cell → Cell → Ordering
cell_cmp a b = ordering_then (nat_cmp (rank a) (rank b)) (ordering_then (int_cmp (number a) (number b)) (slice_cmp nat_cmp (letters a) (letters b)))

-- lists of cells compare by the first place where they differ, a shorter one first
abbrev pub cells_cmp : List Cell → List Cell → Ordering
cells_cmp = slice_cmp cell_cmp

-- the stated size of a cell in bytes
abbrev pub cell_bytes : Cell → ℕ
cell_bytes Nil = 8
cell_bytes (Int n) = 8
cell_bytes (Huge n) = 16
cell_bytes (Text bs) = 16 + length bs
cell_bytes (Day n) = 8
cell_bytes (Bit b) = 1
cell_bytes (Oid n) = 8

-- the order of cells is total, and so is that of lists of cells
pub cell_cmp_total : IsTotalOrder cell_cmp
cell_cmp_total = then_total (on_total rank nat_cmp_total) (then_total (on_total number int_cmp_total) (on_total letters nat_list_cmp_total))

pub cells_cmp_total : IsTotalOrder cells_cmp
cells_cmp_total = lists_total cell_cmp_total

-- a row comes before another
abbrev pub is_row_below : List Cell → List Cell → Bool
is_row_below a b = is_lt (cells_cmp a b)
