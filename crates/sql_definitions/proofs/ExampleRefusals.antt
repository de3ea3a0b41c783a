-- Which small statements are refused, and why.
use Rattle.std.proofs.Common.{◌≡◌, ℕ, List, [], ◌∷◌, true, false, Some, None, codes, refl}
use Rattle.std.specs.Str.{chars}
use Rattle.std.specs.Fmt.{digits}
use Rattle.cell_core.specs.declared.cell.Cell.{Cell}
use Rattle.cell_core.specs.declared.cell.Cell.TheVariants as cell
use Rattle.cell_core.specs.declared.cell.Kind.TheVariants as kind
use Rattle.sql_tree.specs.Words.{keywords, keyword_of, unsupported_words, is_unsupported_word}
use Rattle.sql_tree.specs.Tree.{QueryTree, StmtTree}
use Rattle.sql_tree.specs.Tree.ExprTree.{Operator, AggregateAll, Aggregate}
use Rattle.sql_tree.specs.Tree.CondTree.{Compare}
use Rattle.sql_tree.specs.Tree.StmtTree.{CreateTable, DropTable, InsertInto, UpdateTable, Select}
use Rattle.sql_tree.specs.declared.tree.AggOp.TheVariants as aggregate
use Rattle.sql_tree.specs.declared.tree.ArithOp.TheVariants as op
use Rattle.sql_tree.specs.declared.tree.CmpOp.TheVariants as cmp
use Rattle.sql_tree.specs.declared.tree.Place.TheVariants.{Position, Named}
use Rattle.sql_definitions.specs.declared.refusal.Refusal.TheVariants.{NoTable, TableExists, NoColumn, Ambiguous, KindsDiffer, WrongCount, TextTooLong, Overflow, NameTwice, NotGrouped}
use Rattle.sql_definitions.specs.declared.refusal.Reply.{Reply}
use Rattle.sql_definitions.specs.declared.refusal.Reply.TheVariants.{Rows, Refused}
use Rattle.sql_definitions.specs.Effect.{effect, replay}
use Rattle.sql_definitions.proofs.ExampleTrees.{int, column, number, col, item, from, select, insert}

-- the reply of a statement over what the others lead to
abbrev reply : List StmtTree → StmtTree → Reply
reply before stmt = (effect stmt (replay before)).1

-- ## A table of texts of two characters

abbrev p : List ℕ
p = codes "p"

abbrev create_p : StmtTree
create_p = CreateTable p (record { name = codes "s"; kind = kind.Text; width = 2; not_null = false; default = cell.Nil } ∷ [])

abbrev text : List ℕ → List Cell
text bytes = cell.Text bytes ∷ []

-- two characters of three bytes
two_characters : reply (create_p ∷ []) (insert p (text (195 ∷ 164 ∷ codes "b") ∷ [])) ≡ Rows 1
unfolding chars
two_characters = refl

too_long : reply (create_p ∷ []) (insert p (text (codes "abc") ∷ [])) ≡ Refused TextTooLong
unfolding chars
too_long = refl

no_column : reply (create_p ∷ []) (Select (select (item (col (codes "x")) ∷ []) (from p ∷ []) None)) ≡ Refused (NoColumn (codes "x"))
unfolding keyword_of keywords is_unsupported_word unsupported_words
no_column = refl

no_table : reply (create_p ∷ []) (DropTable (codes "q")) ≡ Refused (NoTable (codes "q"))
unfolding keyword_of keywords is_unsupported_word unsupported_words
no_table = refl

exists : reply (create_p ∷ []) (CreateTable p (column (codes "s") kind.Text ∷ [])) ≡ Refused (TableExists p)
unfolding keyword_of keywords is_unsupported_word unsupported_words
exists = refl

other_kind : reply (create_p ∷ []) (insert p ((int 1 ∷ []) ∷ [])) ≡ Refused KindsDiffer
other_kind = refl

other_count : reply (create_p ∷ []) (insert p ((cell.Text (codes "a") ∷ cell.Text (codes "b") ∷ []) ∷ [])) ≡ Refused WrongCount
other_count = refl

-- ## Two tables with a column of one name

abbrev pairs : List StmtTree
pairs =
    CreateTable (codes "u") (column (codes "k") kind.Int ∷ column (codes "v") kind.Int ∷ [])
    ∷ CreateTable (codes "w") (column (codes "k") kind.Int ∷ column (codes "n") kind.Text ∷ [])
    ∷ []

-- SELECT k FROM u, w
ambiguous : reply pairs (Select (select (item (col (codes "k")) ∷ []) (from (codes "u") ∷ from (codes "w") ∷ []) None)) ≡ Refused (Ambiguous (codes "k"))
unfolding keyword_of keywords is_unsupported_word unsupported_words
ambiguous = refl

-- SELECT v, COUNT(*) FROM u GROUP BY k
not_grouped : reply pairs (Select (record (select (item (col (codes "v")) ∷ item (AggregateAll aggregate.Count) ∷ []) (from (codes "u") ∷ []) None) { groups = record { table = None; column = codes "k" } ∷ [] }))
    ≡ Refused (NotGrouped (codes "v"))
unfolding keyword_of keywords is_unsupported_word unsupported_words
not_grouped = refl

-- SELECT k FROM u, u
from_twice : reply pairs (Select (select (item (col (codes "k")) ∷ []) (from (codes "u") ∷ from (codes "u") ∷ []) None)) ≡ Refused (NameTwice (codes "u"))
unfolding keyword_of keywords is_unsupported_word unsupported_words
from_twice = refl

-- SELECT k FROM u ORDER BY 2; SELECT k FROM u ORDER BY v
abbrev k_of_u : QueryTree
k_of_u = select (item (col (codes "k")) ∷ []) (from (codes "u") ∷ []) None

no_position : reply pairs (Select (record k_of_u { keys = record { at = Position 2; ascending = true } ∷ [] })) ≡ Refused (NoColumn (codes "2"))
unfolding digits
no_position = refl

no_item : reply pairs (Select (record k_of_u { keys = record { at = Named (record { table = None; column = codes "v" }); ascending = true } ∷ [] })) ≡ Refused (NoColumn (codes "v"))
unfolding keyword_of keywords is_unsupported_word unsupported_words
no_item = refl

-- SELECT SUM(n) FROM w: a missing column would come first, kinds come last
text_sum : reply pairs (Select (select (item (Aggregate aggregate.Sum (col (codes "n"))) ∷ []) (from (codes "w") ∷ []) None)) ≡ Refused KindsDiffer
text_sum = refl

missing_first : reply pairs (Select (select (item (Aggregate aggregate.Sum (col (codes "n"))) ∷ []) (from (codes "w") ∷ []) (Some (Compare cmp.Eq (col (codes "z")) (number 1))))) ≡ Refused (NoColumn (codes "z"))
unfolding keyword_of keywords is_unsupported_word unsupported_words
missing_first = refl

-- ## INSERT and UPDATE

-- INSERT INTO u (v, k) VALUES (1, 2): each value in its column's place
abbrev turned : StmtTree
turned = InsertInto (codes "u") (codes "v" ∷ codes "k" ∷ []) ((int 1 ∷ int 2 ∷ []) ∷ [])

in_place : effect turned (replay (CreateTable (codes "u") (column (codes "k") kind.Int ∷ column (codes "v") kind.Int ∷ []) ∷ []))
    ≡ (record { tables = record { name = codes "u"; columns = column (codes "k") kind.Int ∷ column (codes "v") kind.Int ∷ []; rows = (int 2 ∷ int 1 ∷ []) ∷ [] } ∷ [] }, Rows 1)
in_place = refl

-- INSERT INTO u (k, k) VALUES (1, 2)
listed_twice : reply pairs (InsertInto (codes "u") (codes "k" ∷ codes "k" ∷ []) ((int 1 ∷ int 2 ∷ []) ∷ [])) ≡ Refused (NameTwice (codes "k"))
unfolding keyword_of keywords is_unsupported_word unsupported_words
listed_twice = refl

-- UPDATE u SET v = k * 9223372036854775807, over an empty table and over one with k = 2
abbrev grow : StmtTree
grow = UpdateTable (codes "u") ((codes "v", Operator op.Times (col (codes "k")) (number 9223372036854775807)) ∷ []) None

no_row : reply pairs grow ≡ Rows 0
no_row = refl

abbrev filled : List StmtTree
filled =
    CreateTable (codes "u") (column (codes "k") kind.Int ∷ column (codes "v") kind.Int ∷ [])
    ∷ insert (codes "u") ((int 2 ∷ int 1 ∷ []) ∷ [])
    ∷ []

overflow : effect grow (replay filled) ≡ (replay filled, Refused Overflow)
overflow = refl

-- UPDATE u SET k = v, v = k: both from the old row
swapped : (effect (UpdateTable (codes "u") ((codes "k", col (codes "v")) ∷ (codes "v", col (codes "k")) ∷ []) None) (replay filled)).0
    ≡ record { tables = record { name = codes "u"; columns = column (codes "k") kind.Int ∷ column (codes "v") kind.Int ∷ []; rows = (int 1 ∷ int 2 ∷ []) ∷ [] } ∷ [] }
swapped = refl
