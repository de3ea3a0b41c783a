-- What the definitions say of single lines, of a whole printed run, and of two sessions.
use Rattle.std.proofs.Common.{◌≡◌, ℕ, zero, suc, ◌+◌, ◌≤◌, List, [], ◌∷◌, ◌++◌, map, length, replicate, Bool, true, false, Some, None, Result, Ok, Err, pos, codes, refl, subst, sym, lit<, lit≤}
use Rattle.std.specs.Prelude.{slice_get, ◌&&◌}
use Rattle.std.specs.List.{AllByRecursion, list_all}
use Rattle.std.specs.Fmt.{digits}
use Rattle.cell_core.specs.declared.cell.Cell.{Cell}
use Rattle.cell_core.specs.declared.cell.Cell.TheVariants as cell
use Rattle.cell_core.specs.declared.cell.Kind.TheVariants as kind
use Rattle.sql_tree.specs.Pieces.{pieces_of}
use Rattle.sql_tree.specs.Words.{keywords, keyword_of, unsupported_words, is_unsupported_word}
use Rattle.sql_tree.specs.Tree.{ExprTree, QueryTree, StmtTree}
use Rattle.sql_tree.specs.Tree.ExprTree.{Literal, ColumnOf, Operator}
use Rattle.sql_tree.specs.Tree.CondTree.{Within}
use Rattle.sql_tree.specs.Tree.StmtTree.{CreateTable, InsertInto, Select}
use Rattle.sql_tree.specs.declared.tree.ArithOp.TheVariants.{Plus}
use Rattle.sql_definitions.specs.Effect.{replay}
use Rattle.sql_definitions.specs.declared.refusal.Refusal.{Refusal}
use Rattle.sql_definitions.specs.declared.refusal.Refusal.TheVariants.{Syntax}
use Rattle.read_laws.specs.Readings.{AreAllRead}
use Rattle.reply_layout.specs.Layout.{history_of, sessions_by}
use Rattle.audit_definitions.specs.Lines.{form_of, is_number, Line, LineAct, Begins, Pools, Writes, Ends, IsPool, act_text, log_part}
use Rattle.audit_definitions.specs.Places.{changes_in, tables_before}
use Rattle.audit_definitions.specs.Honest.{AreOrdered, AreStatements, IsHonest, own_acts, plain_doing, pool_names, pool_text, shown_by_lines, told_of, with_between}

-- ## Free numbers

-- digits of any length, also those of 10 to the 64; without a 0 in front, and without a sign
free_numbers : map is_number (codes "0" ∷ codes "27" ∷ (49 ∷ replicate 64 48) ∷ []) ≡ true ∷ true ∷ true ∷ []
free_numbers = refl

no_numbers : map is_number ([] ∷ codes "027" ∷ codes "00" ∷ codes "+27" ∷ codes "2 7" ∷ replicate 64 48 ∷ []) ≡ false ∷ false ∷ false ∷ false ∷ false ∷ false ∷ []
no_numbers = refl

-- ## Lines of the pool

abbrev taken : LineAct
taken = Pools (form_of (codes "admit") (codes "taken") 3) (codes "1") (codes "1" ∷ codes "64" ∷ codes "0" ∷ [])

taken_text : act_text taken ≡ codes "admit 1 taken 1 64 0"
taken_text = refl

taken_is : IsPool taken
taken_is = ((4, lit< tt, refl), refl, refl)

abbrev missed : LineAct
missed = Pools (form_of (codes "look") (codes "miss") 0) (codes "0") []

missed_text : act_text missed ≡ codes "look 0 miss"
missed_text = refl

missed_is : IsPool missed
missed_is = ((3, lit< tt, refl), refl, refl)

-- a number too few, and an instruction with a 0 in front
too_few : IsPool (Pools (form_of (codes "admit") (codes "taken") 3) (codes "1") (codes "1" ∷ codes "64" ∷ [])) → ⊥
too_few is = let count = is.2 in cc

zero_in_front : IsPool (Pools (form_of (codes "look") (codes "miss") 0) (codes "01") []) → ⊥
zero_in_front is = let free = is.1 in cc

-- ## A whole run

abbrev row : ℕ → List Cell
row n = cell.Int (pos n) ∷ []

-- CREATE TABLE t (a INT)
abbrev create_t : StmtTree
create_t = CreateTable (codes "t") (record { name = codes "a"; kind = kind.Int; width = 0; not_null = false; default = cell.Nil } ∷ [])

-- INSERT INTO t VALUES (3), (1), (2)
abbrev insert_t : StmtTree
insert_t = InsertInto (codes "t") [] (row 3 ∷ row 1 ∷ row 2 ∷ [])

abbrev expr_a : ExprTree
expr_a = ColumnOf (record { table = None; column = codes "a" })

-- SELECT a FROM t WHERE a BETWEEN 2 AND 3
abbrev query_a : QueryTree
query_a = record {
  distinct = false;
  items = record { expr = expr_a; alias = None } ∷ [];
  froms = record { table = codes "t"; alias = None } ∷ [];
  cond = Some (Within expr_a (Literal (cell.Int (pos 2))) (Literal (cell.Int (pos 3))));
  groups = [];
  having = None;
  keys = [];
  limit = None;
}

abbrev script : List (Result StmtTree Refusal)
script = Ok create_t ∷ Ok insert_t ∷ Ok (Select query_a) ∷ []

abbrev line_at : ℕ → ℕ → LineAct → Line
line_at session statement act = record { session = session; statement = statement; act = act }

abbrev look : List ℕ → LineAct
look instr = Pools (form_of (codes "look") (codes "miss") 0) instr []

abbrev admit : List ℕ → List ℕ → LineAct
admit instr bytes = Pools (form_of (codes "admit") (codes "taken") 3) instr (instr ∷ bytes ∷ codes "0" ∷ [])

abbrev pool_acts : List LineAct
pool_acts =
    look (codes "1") ∷ admit (codes "1") (codes "64") ∷ look (codes "2") ∷ admit (codes "2") (codes "96") ∷ look (codes "3") ∷ admit (codes "3") (codes "96")
    ∷ look (codes "4") ∷ admit (codes "4") (codes "96") ∷ look (codes "5") ∷ admit (codes "5") (codes "80") ∷ look (codes "6") ∷ admit (codes "6") (codes "80") ∷ []

abbrev run_lines : List Line
run_lines = line_at 1 1 (Writes (Some create_t) 0 0) ∷ line_at 1 2 (Writes (Some insert_t) 0 3) ∷ map (line_at 1 3) (Begins 0 ∷ (pool_acts ++ Ends 0 ∷ []))

abbrev run_totals : List (List ℕ)
run_totals =
    codes "6" ∷ codes "512" ∷ codes "512" ∷ codes "6" ∷ codes "0" ∷ codes "0" ∷ codes "0" ∷ codes "6" ∷ codes "6" ∷ codes "0"
    ∷ codes "0" ∷ codes "0" ∷ codes "0" ∷ codes "0" ∷ codes "0" ∷ codes "0" ∷ codes "0" ∷ codes "27" ∷ codes "16" ∷ []

-- what an independent implementation prints of the run, with its log
abbrev printed_text : List ℕ
printed_text = codes "session 1 a.sql\n1 ok\n2 ok 3\n3 rows 2\n2\n3\nhistory 2\n1 1 1 CREATE TABLE t (a INT);\n2 1 2 INSERT INTO t VALUES (3), (1), (2);\npool\nentries 6\nbytes 512\npeak 512\nlooks 6\nexact 0\nwithin 0\nacross 0\nmiss 6\ntaken 6\nthere 0\nstale 0\norphan 0\nnocredit 0\nnoroom 0\nevicted 0\ndropped 0\ncarried 0\nwork 27\nevents 16\nlog 16\n1 1 1 write 0 0\n2 1 2 write 0 3\n3 1 3 begin 0\n4 1 3 look 1 miss\n5 1 3 admit 1 taken 1 64 0\n6 1 3 look 2 miss\n7 1 3 admit 2 taken 2 96 0\n8 1 3 look 3 miss\n9 1 3 admit 3 taken 3 96 0\n10 1 3 look 4 miss\n11 1 3 admit 4 taken 4 96 0\n12 1 3 look 5 miss\n13 1 3 admit 5 taken 5 80 0\n14 1 3 look 6 miss\n15 1 3 admit 6 taken 6 80 0\n16 1 3 end 0\n"

output : sessions_by (shown_by_lines run_lines) (codes "a.sql" ∷ []) (script ∷ []) ++ history_of (changes_in run_lines) ++ pool_text run_totals ++ log_part run_lines
    ≡ printed_text
unfolding keyword_of keywords is_unsupported_word unsupported_words digits
output = refl

counted : length run_totals ≡ length pool_names
counted = refl

are_numbers : list_all is_number run_totals ≡ true
are_numbers = refl

-- the acts of a session's statements from k on, each with its statement's number and with these looks and admissions between
abbrev acts_from : List Line → ℕ → ℕ → List (Result StmtTree Refusal × List LineAct) → List (ℕ × LineAct)
acts_from lines session k [] = []
acts_from lines session k ((reading, between) ∷ readings) =
    map {B = ℕ × LineAct} (λ act. (k, act)) (with_between between (own_acts (plain_doing (tables_before lines session k) reading))) ++ acts_from lines session (k + 1) readings

abbrev AreOfPool : Result StmtTree Refusal × List LineAct → Type 0
AreOfPool entry = AllByRecursion IsPool entry.1

are_statements : (lines : List Line) (session k : ℕ) (entries : List (Result StmtTree Refusal × List LineAct)) → AllByRecursion AreOfPool entries
    → AreStatements lines session k (map (λ entry. entry.0) entries) (acts_from lines session k entries)
are_statements lines session k [] all = refl
are_statements lines session k ((reading, between) ∷ entries) all = (
  with_between between (own_acts (plain_doing (tables_before lines session k) reading)),
  acts_from lines session (k + 1) entries,
  refl,
  (between, all.0, refl),
  are_statements lines session (k + 1) entries all.1,
)

abbrev run_entries : List (Result StmtTree Refusal × List LineAct)
run_entries = (Ok create_t, []) ∷ (Ok insert_t, []) ∷ (Ok (Select query_a), pool_acts) ∷ []

look_is : (instr : List ℕ) → is_number instr ≡ true → IsPool (look instr)
look_is instr free = ((3, lit< tt, refl), and_true (is_number instr) free, refl)
  where
    and_true : (b : Bool) → b ≡ true → (b && true) ≡ true
    and_true true is = refl
    and_true false is = is

admit_is : (instr bytes : List ℕ) → (is_number instr && list_all is_number (instr ∷ bytes ∷ codes "0" ∷ [])) ≡ true → IsPool (admit instr bytes)
admit_is instr bytes free = ((4, lit< tt, refl), free, refl)

pool_is : AllByRecursion IsPool pool_acts
pool_is = (
  look_is (codes "1") refl,
  (
    admit_is (codes "1") (codes "64") refl,
    (
      look_is (codes "2") refl,
      (
        admit_is (codes "2") (codes "96") refl,
        (
          look_is (codes "3") refl,
          (
            admit_is (codes "3") (codes "96") refl,
            (look_is (codes "4") refl, (admit_is (codes "4") (codes "96") refl, (look_is (codes "5") refl, (admit_is (codes "5") (codes "80") refl, (look_is (codes "6") refl, (admit_is (codes "6") (codes "80") refl, tt)))))),
          ),
        ),
      ),
    ),
  ),
)

run_acts : acts_from run_lines 1 1 run_entries ≡ told_of 1 run_lines
unfolding keyword_of keywords is_unsupported_word unsupported_words
run_acts = refl

are_of_run : (i : ℕ) (readings : List (Result StmtTree Refusal)) → slice_get (script ∷ []) i ≡ Some readings → AreStatements run_lines (i + 1) 1 readings (told_of (i + 1) run_lines)
are_of_run zero readings e =
    let here : script ≡ readings = cc in
    let P : List (Result StmtTree Refusal) → Type 0 = λ rs. AreStatements run_lines 1 1 rs (told_of 1 run_lines) in
    let Q : List (ℕ × LineAct) → Type 0 = λ told. AreStatements run_lines 1 1 script told in
    subst P here (subst Q run_acts (are_statements run_lines 1 1 run_entries (tt, (tt, (pool_is, tt)))))
are_of_run (suc i) readings e = cc

abbrev IsOfOne : Line → Type 0
IsOfOne line = (1 ≤ line.session) × (line.session ≤ 1)

of_one : (acts : List LineAct) → AllByRecursion IsOfOne (map (line_at 1 3) acts)
of_one [] = tt
of_one (act ∷ acts) = ((lit≤ tt, lit≤ tt), of_one acts)

are_ordered : AreOrdered (script ∷ []) run_lines
are_ordered = record {
  sessions = ((lit≤ tt, lit≤ tt), ((lit≤ tt, lit≤ tt), of_one (Begins 0 ∷ (pool_acts ++ Ends 0 ∷ []))));
  statements = are_of_run;
}

abbrev script_text : List ℕ
script_text = codes "CREATE TABLE t (a INT); INSERT INTO t VALUES (3), (1), (2); SELECT a FROM t WHERE a BETWEEN 2 AND 3;"

pieces : pieces_of script_text ≡ codes "CREATE TABLE t (a INT)" ∷ codes " INSERT INTO t VALUES (3), (1), (2)" ∷ codes " SELECT a FROM t WHERE a BETWEEN 2 AND 3" ∷ []
pieces = refl

-- so the printed text is honest where the pieces read as these statements
honest : AreAllRead (pieces_of script_text ∷ []) (script ∷ []) → IsHonest ((codes "a.sql", script_text) ∷ []) printed_text
honest read = record {
  readings = script ∷ [];
  read = read;
  plain = ((tt, (tt, (tt, tt))), tt);
  lines = run_lines;
  ordered = are_ordered;
  totals = run_totals;
  count = counted;
  numbers = are_numbers;
  text_is = sym output;
}

-- ## What statements say of themselves

-- SELECT a + 9223372036854775807 FROM t
abbrev overflowing : QueryTree
overflowing = record query_a {
  items = record { expr = Operator Plus expr_a (Literal (cell.Int (pos 9223372036854775807))); alias = None } ∷ [];
  cond = None;
}

-- a query that is accepted and leaves the range begins with 0 and ends with 10; one that the check refuses begins and ends with its number
overflow : own_acts (plain_doing (replay (create_t ∷ insert_t ∷ [])) (Ok (Select overflowing))) ≡ Begins 0 ∷ Ends 10 ∷ []
unfolding keyword_of keywords is_unsupported_word unsupported_words
overflow = refl

no_table : own_acts (plain_doing (replay []) (Ok (Select overflowing))) ≡ Begins 3 ∷ Ends 3 ∷ []
unfolding keyword_of keywords is_unsupported_word unsupported_words
no_table = refl

-- a text that is refused is a write, whatever it begins with
refused_text : own_acts (plain_doing (replay []) (Err Syntax)) ≡ Writes None 1 0 ∷ []
refused_text = refl

-- ## Two sessions

-- the second session's insert comes before the table exists and is refused; a text that is no statement is refused, and a query that the check refuses begins and ends with its number
abbrev two_lines : List Line
two_lines =
    line_at 2 1 (Writes (Some insert_t) 3 0) ∷ line_at 2 2 (Begins 3) ∷ line_at 1 1 (Writes (Some create_t) 0 0) ∷ line_at 2 2 missed ∷ line_at 2 2 (Ends 3)
    ∷ line_at 2 3 (Writes None 1 0) ∷ line_at 2 4 (Writes (Some insert_t) 0 3) ∷ []

abbrev second_entries : List (Result StmtTree Refusal × List LineAct)
second_entries = (Ok insert_t, []) ∷ (Ok (Select query_a), missed ∷ []) ∷ (Err Syntax, []) ∷ (Ok insert_t, []) ∷ []

first_acts : acts_from two_lines 1 1 ((Ok create_t, []) ∷ []) ≡ told_of 1 two_lines
unfolding keyword_of keywords is_unsupported_word unsupported_words
first_acts = refl

second_acts : acts_from two_lines 2 1 second_entries ≡ told_of 2 two_lines
unfolding keyword_of keywords is_unsupported_word unsupported_words
second_acts = refl

-- the same lines in another order, in which the query begins after the table was made, are not those of its statements: it would begin with 0
abbrev late_lines : List Line
late_lines =
    line_at 2 1 (Writes (Some insert_t) 3 0) ∷ line_at 1 1 (Writes (Some create_t) 0 0) ∷ line_at 2 2 (Begins 3) ∷ line_at 2 2 missed ∷ line_at 2 2 (Ends 3)
    ∷ line_at 2 3 (Writes None 1 0) ∷ line_at 2 4 (Writes (Some insert_t) 0 3) ∷ []

late_query : own_acts (plain_doing (tables_before late_lines 2 2) (Ok (Select query_a))) ≡ Begins 0 ∷ Ends 0 ∷ []
unfolding keyword_of keywords is_unsupported_word unsupported_words
late_query = refl
