-- The two scripts of a number, made from its draws.
use Rattle.std.specs.Prelude.{ℕ, zero, suc, ◌+◌, ◌*◌, ◌%◌, List, ◌∷◌, ◌++◌, map, codes, decimal, flat_map}
use Rattle.std.specs.List.{range_with_len}
use Rattle.sql_print.specs.Canon.{enclosed, listed}

-- ## Draws

-- the draw after x
abbrev pub next_draw : ℕ → ℕ
next_draw x = (x * 1103515245 + 12345) % 2147483648

-- the i-th draw after x, where x itself counts as the 0th
unfoldable pub draw : ℕ → ℕ → ℕ
draw x zero = x
draw x (suc i) = next_draw (draw x i)

-- ## Changes

-- a row that holds a draw, of which the last four digits are kept
abbrev pub row_text : ℕ → List ℕ
row_text drawn = enclosed (decimal (drawn % 10000))

-- an INSERT of this many rows, which hold the draws after x
unfoldable pub insert_text : ℕ → ℕ → List ℕ
insert_text rows x = codes "INSERT INTO g VALUES " ++ listed (map (λ i. row_text (draw x i)) (range_with_len 1 rows))

-- `count` INSERTs of this many rows each, which hold the draws after x
unfoldable pub inserts : ℕ → ℕ → ℕ → List (List ℕ)
inserts count rows x = map (λ k. insert_text rows (draw x (rows * k))) (range_with_len 0 count)

-- the statements of the first script: a table, and 20 INSERTs of 500 rows each
unfoldable pub changes : ℕ → List (List ℕ)
changes seed = codes "CREATE TABLE g (a INT)" ∷ inserts 20 500 seed

-- ## Queries

-- a query for the range from a low end on, of this width
abbrev pub range_text : ℕ → ℕ → List ℕ
range_text low width = codes "SELECT COUNT(*), SUM(a) FROM g WHERE a BETWEEN " ++ decimal low ++ codes " AND " ++ decimal (low + width)

-- a query whose range begins by the first draw after x, with a width by the second
unfoldable pub query_text : ℕ → List ℕ
query_text x = range_text (draw x 1 % 9000) (draw x 2 % 1000)

-- `count` queries by the draws after x, two for each
unfoldable pub queries_after : ℕ → ℕ → List (List ℕ)
queries_after count x = map (λ k. query_text (draw x (2 * k))) (range_with_len 0 count)

-- the statements of the second script: 100 queries, by the draws after those of the first
unfoldable pub queries : ℕ → List (List ℕ)
queries seed = queries_after 100 (draw seed (500 * 20))

-- ## Texts

-- the text of a script: each statement, followed by `;`
abbrev pub script_text : List (List ℕ) → List ℕ
script_text statements = flat_map (λ statement. statement ++ codes ";") statements
