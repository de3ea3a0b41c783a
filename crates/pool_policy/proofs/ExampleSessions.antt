-- Worked sessions, computed from the definitions. Their numbers come from an independent implementation.
use Rattle.std.proofs.Common.{◌≡◌, ℕ, ◌+◌, List, [], ◌∷◌, ◌++◌, length, true, false, refl, map}
use Rattle.std.specs.Prelude.{pos, Some, None, if◌then◌else◌, replicate, fold}
use Rattle.std.specs.List.{range_with_len}
use Rattle.std.specs.Str.{bytes_eq}
use Rattle.cell_core.specs.declared.cell.Cell.{Cell}
use Rattle.cell_core.specs.declared.cell.Cell.TheVariants.{Nil, Int, Text}
use Rattle.cell_core.specs.declared.operator.Instr.{Instr}
use Rattle.cell_core.specs.Pairs.{numbered}
use Rattle.score_hook.specs.declared.stats.Evict.{Evict}
use Rattle.score_hook.specs.declared.stats.Evict.TheVariants.{Lru, Benefit, History, Weighted}
use Rattle.pool_policy.specs.declared.entry.PoolEntry.{PoolEntry}
use Rattle.pool_policy.specs.declared.options.Admit.TheVariants.{All, Credit}
use Rattle.pool_policy.specs.declared.options.PoolOptions.{PoolOptions}
use Rattle.pool_policy.specs.declared.touched.Touched.{Touched}
use Rattle.pool_policy.specs.Pool.{pool_bytes}
use Rattle.pool_policy.proofs.Play.{Tally, no_tally, Run, Asking, Content, start, wrote, begun, looked, missed, stepped, ended, asked, behind, range_plan, two_columns_plan, comparison_plan, count_plan, a, b, c, t, u, v, w}

abbrev ample : PoolOptions
ample = record { places = 1024; budget = 1000000; evict = Lru; weights = []; admit = All; credits = 3 }

-- the tally, with the entries and the bytes at the end, and the ids of the entries
abbrev told : Run → Tally × ℕ × ℕ × List ℕ
told run = (run.tally, length run.pool.entries, pool_bytes run.pool.entries, map (λ (e : PoolEntry). e.id) run.pool.entries)

abbrev found : ℕ → ℕ → ℕ → ℕ → Tally
found exact within across miss = record no_tally { exact = exact; within = within; across = across; miss = miss }

-- a write that touches all columns of a table, and one that adds rows to it
abbrev all_of : List ℕ → Touched
all_of table = record { table = table; columns = a ∷ b ∷ c ∷ []; old_rows = 0; added = None }

abbrev adds_to_a : List ℕ → ℕ → List Cell → Touched
adds_to_a table old_rows cells = record { table = table; columns = a ∷ []; old_rows = old_rows; added = Some ((a, numbered cells) ∷ []) }

-- so many writes before anything is pooled, after which all columns have this version
abbrev writes : ℕ → PoolOptions → Run
writes n options = record (start options) { at = n; statement = n; versions = λ t c. n }

abbrev cells : List ℕ → List Cell
cells ns = map (λ n. Int (pos n)) ns

abbrev of_a : List ℕ → Content
of_a ns table column = cells ns

-- ## Ranges

abbrev below : ℕ → List ℕ → Run → Run
below n ns run = asked 1 (of_a ns) (range_plan Nil (Int (pos n)) true false) run

abbrev above : ℕ → List ℕ → Run → Run
above n ns run = asked 1 (of_a ns) (range_plan (Int (pos n)) Nil false true) run

abbrev between : ℕ → ℕ → List Instr
between low high = range_plan (Int (pos low)) (Int (pos high)) true true

abbrev from_to : ℕ → ℕ → List ℕ → Run → Run
from_to low high ns run = asked 1 (of_a ns) (between low high) run

-- below 5 and above 5 don't cover 4 to 6
below_and_above : told (from_to 4 6 (4 ∷ 5 ∷ 6 ∷ []) (above 5 (4 ∷ 5 ∷ 6 ∷ []) (below 5 (4 ∷ 5 ∷ 6 ∷ []) (writes 2 ample))))
    ≡ (record (found 2 0 0 16) { taken = 16; peak = 1224; work = 66 }, 16, 1224, range_with_len 1 16)
below_and_above = refl

-- 1 to 6 and 4 to 9 cover 2 to 8, whose selection is merged from two pieces
two_pieces : told (from_to 2 8 (5 ∷ 1 ∷ 8 ∷ 5 ∷ 9 ∷ 3 ∷ []) (from_to 4 9 (5 ∷ 1 ∷ 8 ∷ 5 ∷ 9 ∷ 3 ∷ []) (from_to 1 6 (5 ∷ 1 ∷ 8 ∷ 5 ∷ 9 ∷ 3 ∷ []) (writes 2 ample))))
    ≡ (record (found 2 0 1 15) { taken = 16; peak = 1792; work = 156 }, 16, 1792, range_with_len 1 16)
two_pieces = refl

-- below 3 lies in below 5
below_within : told (below 3 (1 ∷ 4 ∷ 6 ∷ []) (below 5 (1 ∷ 4 ∷ 6 ∷ []) (writes 2 ample)))
    ≡ (record (found 1 1 0 10) { taken = 11; peak = 824; work = 41 }, 11, 824, range_with_len 1 11)
below_within = refl

-- of the covers of 2 to 8 the one by 1 to 5 and 5 to 8 has 3 rows, and the greedy one by 1 to 5 and 4 to 9 has 5
cheapest_cover : told (from_to 2 8 (3 ∷ 4 ∷ 6 ∷ 9 ∷ []) (from_to 4 9 (3 ∷ 4 ∷ 6 ∷ 9 ∷ []) (from_to 1 5 (3 ∷ 4 ∷ 6 ∷ 9 ∷ []) (from_to 5 8 (3 ∷ 4 ∷ 6 ∷ 9 ∷ []) (writes 2 ample)))))
    ≡ (record (found 3 0 1 20) { taken = 21; peak = 1704; work = 119 }, 21, 1704, range_with_len 1 21)
cheapest_cover = refl

-- ## Two sessions

abbrev three : List ℕ
three = 3 ∷ 1 ∷ 2 ∷ []

-- the second finds every result
found_by_another : told (asked 2 (of_a three) (between 2 3) (from_to 2 3 three (writes 2 ample)))
    ≡ (record (found 6 0 0 6) { taken = 6; peak = 512; work = 27 }, 6, 512, range_with_len 1 6)
found_by_another = refl

-- a query whose first look was a miss goes on from there
abbrev rest_of : Content → List Instr → Asking → Asking
rest_of content [] q = q
rest_of content (first ∷ plan) q = fold (stepped content) (missed content first q) plan

abbrev first_look : List Instr → Asking → Asking
first_look [] q = q
first_look (first ∷ plan) q = looked first q

-- both look for the first result before either admits it: the second admission finds its key there
abbrev both_look : Asking × Asking
both_look =
    let first = first_look (between 2 3) (begun 1 (writes 2 ample)) in
    (first, first_look (between 2 3) (begun 2 first.run))

key_is_there : told (ended (rest_of (of_a three) (between 2 3) (behind (ended (rest_of (of_a three) (between 2 3) (behind both_look.1.run both_look.0))) both_look.1)))
    ≡ (record (found 5 0 0 7) { taken = 6; there = 1; peak = 512; work = 30 }, 6, 512, range_with_len 1 6)
key_is_there = refl

-- ## Room

abbrev tight : Evict → List ℕ → PoolOptions
tight evict weights = record { places = 1024; budget = 584; evict = evict; weights = weights; admit = All; credits = 3 }

-- three tables, of two rows, one and one
abbrev three_tables : PoolOptions → Run
three_tables options = record (writes 6 options) { versions = λ table column. if bytes_eq table u then 4 else (if bytes_eq table v then 5 else 6) }

abbrev counts : Content
counts table column = if bytes_eq table u then cells (1 ∷ 2 ∷ []) else cells (1 ∷ [])

abbrev four_counts : PoolOptions → Run
four_counts options = asked 1 counts (count_plan u) (asked 1 counts (count_plan w) (asked 1 counts (count_plan v) (asked 1 counts (count_plan u) (three_tables options))))

-- the least recently used go
least_recent : told (four_counts (tight Lru [])) ≡ (record (found 0 0 0 16) { taken = 16; evicted = 8; peak = 584; work = 42 }, 8, 584, range_with_len 9 8)
least_recent = refl

-- the least beneficial for their age go
least_for_its_age : told (four_counts (tight History [])) ≡ (record (found 0 0 0 16) { taken = 16; evicted = 8; peak = 584; work = 42 }, 8, 584, range_with_len 9 8)
least_for_its_age = refl

-- the least beneficial go
least_beneficial : told (four_counts (tight Benefit [])) ≡ (record (found 4 0 0 12) { taken = 12; evicted = 4; peak = 584; work = 28 }, 8, 584, range_with_len 1 4 ++ range_with_len 9 4)
least_beneficial = refl

-- a mark weighs a hundred
abbrev heavy_mark : List ℕ
heavy_mark = replicate 7 1 ++ 100 ∷ replicate 27 1

weighted : told (four_counts (tight Weighted heavy_mark)) ≡ (record (found 3 0 0 13) { taken = 13; evicted = 5; peak = 584; work = 32 }, 8, 584, range_with_len 1 3 ++ range_with_len 9 5)
weighted = refl

-- weights of 1 are the benefit
evenly_weighted : told (four_counts (tight Weighted (replicate 35 1))) ≡ told (four_counts (tight Benefit []))
evenly_weighted = refl

abbrev budget_of : ℕ → PoolOptions
budget_of n = record { places = 1024; budget = n; evict = Lru; weights = []; admit = All; credits = 3 }

-- no budget, and a budget for the bind alone
no_budget : told (from_to 2 3 three (writes 2 (budget_of 0))) ≡ (record (found 0 0 0 6) { orphan = 5; noroom = 1; work = 27 }, 0, 0, [])
no_budget = refl

bind_alone : told (from_to 2 3 three (writes 2 (budget_of 64))) ≡ (record (found 0 0 0 6) { taken = 1; orphan = 4; noroom = 1; peak = 64; work = 27 }, 1, 64, 1 ∷ [])
bind_alone = refl

-- ## Credits

-- one credit for each shape
abbrev one_credit : PoolOptions
one_credit = record { places = 1024; budget = 1000000; evict = Lru; weights = []; admit = Credit; credits = 1 }

abbrev four_ranges : Run
four_ranges = above 5 (4 ∷ 6 ∷ []) (below 5 (4 ∷ 6 ∷ []) (above 5 (4 ∷ 6 ∷ []) (below 5 (4 ∷ 6 ∷ []) (writes 2 one_credit))))

-- the bind's credit is paid back by the second query, the first selection's by the third
by_credits : told four_ranges ≡ (record (found 8 0 0 16) { taken = 11; orphan = 4; nocredit = 1; peak = 784; work = 41 }, 11, 784, range_with_len 1 11)
by_credits = refl

credits_left : four_ranges.pool.credit ≡ 1 ∷ replicate 5 0
credits_left = refl

-- the second session uses what the first made of u, and the third what the second made of v: so these pay their credits back where they leave, and are taken again
abbrev counted_by : ℕ → List ℕ → Run → Run
counted_by session table run = asked session counts (count_plan table) run

abbrev foreign_uses : Run
foreign_uses =
    let first = counted_by 1 u (three_tables (record (tight Lru []) { admit = Credit; credits = 1 })) in
    let second = counted_by 2 w (counted_by 2 v (counted_by 2 u first)) in
    counted_by 3 v (counted_by 3 u (counted_by 3 v second))

foreign_credits : told foreign_uses ≡ (record (found 12 0 0 16) { taken = 16; evicted = 8; peak = 584; work = 42 }, 8, 584, range_with_len 5 4 ++ range_with_len 13 4)
foreign_credits = refl

-- nobody else used what was made of w: its credits are gone
own_credits : told (counted_by 4 w foreign_uses) ≡ (record (found 12 0 0 20) { taken = 16; orphan = 3; nocredit = 1; evicted = 8; peak = 584; work = 49 }, 8, 584, range_with_len 5 4 ++ range_with_len 13 4)
own_credits = refl

-- ## Writes

abbrev first_two : List ℕ
first_two = 1 ∷ 2 ∷ []

abbrev below_five : List Instr
below_five = range_plan Nil (Int (pos 5)) true false

abbrev behind_write : Asking → Touched → ℕ → Asking
behind_write q touched version = behind (wrote touched (λ table column. version) 0 q.run) q

-- a row is added while a query runs, after its first admission: the bind comes back under a fresh id, and what names the old one is an orphan
abbrev bind_carried : Run
bind_carried = ended (rest_of_plan below_five)
  where
    rest_of_plan : List Instr → Asking
    rest_of_plan [] = begun 1 (writes 2 ample)
    rest_of_plan (bind ∷ plan) = fold (stepped (of_a first_two)) (behind_write (missed (of_a first_two) bind (looked bind (begun 1 (writes 2 ample)))) (adds_to_a t 2 (cells (1 ∷ 2 ∷ 3 ∷ []))) 6) plan

bind_comes_back : told bind_carried ≡ (record (found 0 0 0 6) { taken = 1; orphan = 5; carried = 1; peak = 64; work = 24 }, 1, 64, 2 ∷ [])
bind_comes_back = refl

-- a row is added before its first look: the bind is stale
stale_bind : told (ended (fold (stepped (of_a first_two)) (behind_write (begun 1 (writes 2 ample)) (adds_to_a t 2 (cells (1 ∷ 2 ∷ 3 ∷ []))) 4) below_five))
    ≡ (record (found 0 0 0 6) { stale = 1; orphan = 5; work = 24 }, 0, 0, [])
stale_bind = refl

-- a table that is dropped and made again is another one
abbrev dropped_and_made : Run
dropped_and_made =
    let first = asked 1 (of_a (1 ∷ [])) below_five (writes 2 ample) in
    let dropped = wrote (all_of t) (λ table column. 0) 0 first in
    let made = wrote (all_of t) (λ table column. dropped.at + 1) 0 dropped in
    asked 1 (of_a (2 ∷ [])) below_five (wrote (adds_to_a t 0 (cells (2 ∷ []))) (λ table column. made.at + 1) 0 made)

all_dropped : told dropped_and_made ≡ (record (found 0 0 0 12) { taken = 12; dropped = 6; peak = 424; work = 24 }, 6, 424, range_with_len 7 6)
all_dropped = refl

-- all that a query made comes back after a new row, and is found again
abbrev made_longer_in : PoolOptions → Run
made_longer_in options =
    let first = from_to 2 3 three (writes 2 options) in
    let longer = wrote (adds_to_a t 3 (cells (3 ∷ 1 ∷ 2 ∷ 2 ∷ []))) (λ table column. first.at + 1) 0 first in
    from_to 2 3 (3 ∷ 1 ∷ 2 ∷ 2 ∷ []) longer

all_come_back : told (made_longer_in ample) ≡ (record (found 6 0 0 6) { taken = 6; carried = 6; peak = 576; work = 41 }, 6, 576, range_with_len 7 6)
all_come_back = refl

-- an UPDATE of b and a new column c leave what was made of a
abbrev two_columns : Content
two_columns table column = if bytes_eq column a then cells (1 ∷ 2 ∷ []) else (if bytes_eq column b then cells (11 ∷ 21 ∷ []) else Text (120 ∷ []) ∷ Text (120 ∷ []) ∷ [])

abbrev touches : List ℕ → Touched
touches column = record { table = t; columns = column ∷ []; old_rows = 2; added = None }

abbrev by_columns : Run
by_columns =
    let first = asked 1 two_columns below_five (writes 2 ample) in
    let updated = wrote (touches b) (λ table column. if bytes_eq column b then 17 else 2) 26 first in
    let again = asked 1 two_columns below_five updated in
    let altered = wrote (touches c) (λ table column. if bytes_eq column c then 26 else (if bytes_eq column b then 17 else 2)) 0 again in
    asked 1 two_columns (two_columns_plan Nil (Int (pos 5)) true false) (asked 1 two_columns below_five altered)

other_columns_stay : told by_columns ≡ (record (found 17 0 0 10) { taken = 10; peak = 770; work = 66 }, 10, 770, range_with_len 1 10)
other_columns_stay = refl

-- what comes back passes the budget: the last result is given up, and is not admitted again
past_the_budget : told (made_longer_in (record ample { budget = 512 })) ≡ (record (found 5 0 0 7) { taken = 6; noroom = 1; evicted = 1; carried = 6; peak = 512; work = 51 }, 5, 488, range_with_len 7 5)
past_the_budget = refl

-- a comparison of two columns, after which two rows are added: marks go on counting, joins meet the new rows, and the comparison goes on; but the places of the rows that were kept are joined with a result that grew, and so they and their results are dropped
abbrev compared : List ℕ → List ℕ → Content
compared of_column_a of_column_b table column = if bytes_eq column a then cells of_column_a else cells of_column_b

abbrev comparing : Run
comparing =
    let before = compared (1 ∷ 4 ∷ 5 ∷ []) (2 ∷ 3 ∷ 9 ∷ []) in
    let behind_rows = compared (1 ∷ 4 ∷ 5 ∷ 7 ∷ 9 ∷ []) (2 ∷ 3 ∷ 9 ∷ 8 ∷ 1 ∷ []) in
    let first = asked 1 before comparison_plan (writes 2 ample) in
    let rows : Touched = record { table = t; columns = a ∷ b ∷ []; old_rows = 3; added = Some ((a, numbered (behind_rows t a)) ∷ (b, numbered (behind_rows t b)) ∷ []) } in
    asked 1 behind_rows comparison_plan (wrote rows (λ table column. first.at + 1) 0 first)

comparison_goes_on : told comparing ≡ (record (found 11 0 0 15) { taken = 15; dropped = 2; carried = 11; peak = 1184; work = 143 }, 13, 1184, range_with_len 14 13)
comparison_goes_on = refl
