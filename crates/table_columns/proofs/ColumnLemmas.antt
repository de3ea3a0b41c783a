-- Cells beside their numbers.
use Rattle.std.proofs.Common.{◌≡◌, ℕ, ◌+◌, List, [], ◌∷◌, length, map, refl, ap, sym, ◌∙◌}
use Rattle.std.specs.List.{zip, enumerate_from}
use Rattle.std.proofs.lemmas.List.{length-map}
use Rattle.std.proofs.lemmas.List.FromFn.{length-enumerate_from, length-map-range_with_len}
use Rattle.cell_core.specs.declared.cell.Cell.{Cell}
use Rattle.cell_core.specs.declared.cell.Cell.TheVariants.{Oid}
use Rattle.cell_core.specs.Pairs.{tails_of, numbered}
use Rattle.chunk_core.specs.Filled.{oids_from}
use Rattle.table_columns.specs.Rows.{IsColumn}

abbrev beside_oid : ℕ × Cell → Cell × Cell
beside_oid c = (Oid c.0, c.1)

zip_counted : (n : ℕ) (cells : List Cell) → zip (oids_from n (length cells)) cells ≡ map beside_oid (enumerate_from n cells)
zip_counted n [] = refl
zip_counted n (c ∷ cells) = ap (λ more. (Oid n, c) ∷ more) (zip_counted (n + 1) cells)

pub zip_numbered : (heads cells : List Cell) → heads ≡ oids_from 0 (length cells) → zip heads cells ≡ numbered cells
zip_numbered heads cells e = ap (λ hs. zip hs cells) e ∙ zip_counted 0 cells

pub oids_long : (heads cells : List Cell) → heads ≡ oids_from 0 (length cells) → length cells ≡ length heads
oids_long heads cells e = sym (ap length e ∙ length-map-range_with_len Oid 0 (length cells))

tails_counted : (n : ℕ) (cells : List Cell) → tails_of (map beside_oid (enumerate_from n cells)) ≡ cells
tails_counted n [] = refl
tails_counted n (c ∷ cells) = ap (λ more. c ∷ more) (tails_counted (n + 1) cells)

pub tails_numbered : (cells : List Cell) → tails_of (numbered cells) ≡ cells
tails_numbered cells = tails_counted 0 cells

length_numbered : (cells : List Cell) → length (numbered cells) ≡ length cells
length_numbered cells = length-map (enumerate_from 0 cells) beside_oid ∙ length-enumerate_from 0 cells

-- so many cells beside their numbers
pub numbered_is_column : (n : ℕ) (cells : List Cell) → length cells ≡ n → IsColumn n (numbered cells)
numbered_is_column n cells e = record { cells = length_numbered cells ∙ e; heads = ap numbered (sym (tails_numbered cells)) }
