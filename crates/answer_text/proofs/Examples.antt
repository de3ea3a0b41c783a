-- What the definitions say of small cases, and of a whole run.
use Rattle.std.proofs.Common.{◌≡◌, ℕ, zero, suc, ◌+◌, List, [], ◌∷◌, ◌++◌, map, true, false, Some, None, Ok, Err, Result, pos, codes, refl, subst, lit≤}
use Rattle.std.specs.Prelude.{slice_get}
use Rattle.std.specs.Fmt.{digits}
use Rattle.cell_core.specs.declared.cell.Cell.{Cell}
use Rattle.cell_core.specs.declared.cell.Cell.TheVariants as cell
use Rattle.cell_core.specs.declared.cell.Kind.TheVariants as kind
use Rattle.sql_tree.specs.Words.{keywords, keyword_of, unsupported_words, is_unsupported_word}
use Rattle.sql_tree.specs.Tree.{ExprTree, QueryTree, StmtTree}
use Rattle.sql_tree.specs.Tree.ExprTree.{Literal, ColumnOf}
use Rattle.sql_tree.specs.Tree.CondTree.{Within}
use Rattle.sql_tree.specs.Tree.StmtTree.{CreateTable, DropTable, InsertInto, Select, ExplainSelect}
use Rattle.sql_definitions.specs.declared.refusal.Refusal.{Refusal}
use Rattle.sql_definitions.specs.declared.refusal.Refusal.TheVariants.{Syntax, NoTable}
use Rattle.mal_opt.specs.Passes.{constant_value}
use Rattle.reply_layout.specs.declared.shown.Shown.TheVariants as shown
use Rattle.answer_text.specs.Log.{acts_over, tables_met, AreStatements, logged_of, IsOrdered, with_between}
use Rattle.run_log.specs.Events.{EventTree, ActTree, Begins, Writes, Ends}
use Rattle.run_log.specs.Totals.{no_totals}
use Rattle.mal_meaning.specs.declared.plan.Plan.{Plan}
use Rattle.plan_queries.specs.Plans.{optimised_plan, plan_over}
use Rattle.sql_definitions.specs.Effect.{replay}
use Rattle.reply_layout.specs.Layout.{record_text, reply_text}
use Rattle.answer_text.specs.Layout.{printed}

-- ## Records and replies

-- no value, an empty text, a comma and quotes
fields : record_text ((92 ∷ codes "N") ∷ [] ∷ codes "a,b" ∷ codes "say \"x\"" ∷ []) ≡ 92 ∷ codes "N,,\"a,b\",\"say \"\"x\"\"\"\n"
fields = refl

one_empty_field : record_text ([] ∷ []) ≡ codes "\"\"\n"
one_empty_field = refl

two_empty_fields : record_text ([] ∷ [] ∷ []) ≡ codes ",\n"
two_empty_fields = refl

abbrev pub row : ℕ → List Cell
row n = cell.Int (pos n) ∷ []

rows_reply : reply_text 3 (shown.Rows (row 2 ∷ row 3 ∷ [])) ≡ codes "3 rows 2\n2\n3\n"
unfolding digits
rows_reply = refl

no_rows_reply : reply_text 3 (shown.Rows []) ≡ codes "3 rows 0\n"
unfolding digits
no_rows_reply = refl

count_reply : reply_text 12 (shown.Count 100) ≡ codes "12 ok 100\n"
unfolding digits
count_reply = refl

refused_reply : reply_text 1 (shown.Refused (NoTable (codes "u"))) ≡ codes "1 refused 3 no such table u\n"
unfolding digits
refused_reply = refl

-- ## A whole run

-- CREATE TABLE t (a INT)
abbrev pub create_t : StmtTree
create_t = CreateTable (codes "t") (record { name = codes "a"; kind = kind.Int; width = 0; not_null = false; default = cell.Nil } ∷ [])

-- INSERT INTO t VALUES (3), (1), (2)
abbrev pub insert_t : StmtTree
insert_t = InsertInto (codes "t") [] (row 3 ∷ row 1 ∷ row 2 ∷ [])

abbrev pub expr_a : ExprTree
expr_a = ColumnOf (record { table = None; column = codes "a" })

-- SELECT a FROM t WHERE a BETWEEN 2 AND 3
abbrev pub query_a : QueryTree
query_a = record {
  distinct = false;
  items = record { expr = expr_a; alias = None } ∷ [];
  froms = record { table = codes "t"; alias = None } ∷ [];
  cond = Some (Within expr_a (Literal (cell.Int (pos 2))) (Literal (cell.Int (pos 3))));
  groups = [];
  having = None;
  keys = [];
  limit = None;
}

abbrev pub select_a : StmtTree
select_a = Select query_a

abbrev pub script : List (Result StmtTree Refusal)
script = Ok create_t ∷ Ok insert_t ∷ Ok select_a ∷ []

abbrev pub event : ℕ → ℕ → ActTree → EventTree
event session statement act = record { session = session; statement = statement; act = act }

-- the plan of the query over the table
abbrev pub plan_a : Plan
plan_a = plan_over (replay (create_t ∷ insert_t ∷ [])) query_a

abbrev pub log : List EventTree
log =
    event 1 1 (Writes (Some create_t) 0 0) ∷ event 1 2 (Writes (Some insert_t) 0 3)
    ∷ event 1 3 (Begins 0 (Some plan_a)) ∷ event 1 3 (Ends 0) ∷ []

-- the acts of a session's statements from k on, each with its statement's number
abbrev acts_from : List EventTree → ℕ → ℕ → List (Result StmtTree Refusal) → List (ℕ × ActTree)
acts_from log session k [] = []
acts_from log session k (reading ∷ readings) = map {B = ℕ × ActTree} (λ act. (k, act)) (acts_over (tables_met log session k) reading) ++ acts_from log session (k + 1) readings

-- there is nothing between
with_none : (acts : List ActTree) → acts ≡ with_between [] acts
with_none [] = refl
with_none (act ∷ []) = refl
with_none (first ∷ last ∷ []) = refl
with_none (first ∷ second ∷ third ∷ acts) = refl

are_statements : (log : List EventTree) (session k : ℕ) (readings : List (Result StmtTree Refusal)) → AreStatements log session k readings (acts_from log session k readings)
are_statements log session k [] = refl
are_statements log session k (reading ∷ readings) =
    (acts_over (tables_met log session k) reading, acts_from log session (k + 1) readings, refl, ([], tt, (λ none. refl), with_none (acts_over (tables_met log session k) reading)), are_statements log session (k + 1) readings)

acts : acts_from log 1 1 script ≡ logged_of 1 log
unfolding keyword_of keywords is_unsupported_word unsupported_words
acts = refl

statements : (i : ℕ) (readings : List (Result StmtTree Refusal)) → slice_get (script ∷ []) i ≡ Some readings → AreStatements log (i + 1) 1 readings (logged_of (i + 1) log)
statements zero readings e =
    let here : script ≡ readings = cc in
    let P : List (Result StmtTree Refusal) → Type 0 = λ rs. AreStatements log 1 1 rs (logged_of 1 log) in
    let Q : List (ℕ × ActTree) → Type 0 = λ logged. AreStatements log 1 1 script logged in
    subst P here (subst Q acts (are_statements log 1 1 script))
statements (suc i) readings e = cc

-- the log is one of this run
ordered : IsOrdered (script ∷ []) log
ordered = record {
  sessions = ((lit≤ tt, lit≤ tt), ((lit≤ tt, lit≤ tt), ((lit≤ tt, lit≤ tt), ((lit≤ tt, lit≤ tt), tt))));
  statements = statements;
}

output : printed true (codes "a.sql" ∷ []) (script ∷ []) log no_totals ≡ codes "session 1 a.sql\n1 ok\n2 ok 3\n3 rows 2\n2\n3\nhistory 2\n1 1 1 CREATE TABLE t (a INT);\n2 1 2 INSERT INTO t VALUES (3), (1), (2);\npool\nentries 0\nbytes 0\npeak 0\nlooks 0\nexact 0\nwithin 0\nacross 0\nmiss 0\ntaken 0\nthere 0\nstale 0\norphan 0\nnocredit 0\nnoroom 0\nevicted 0\ndropped 0\ncarried 0\nwork 0\nevents 0\nlog 4\n1 1 1 write 0 0\n2 1 2 write 0 3\n3 1 3 begin 0\n4 1 3 end 0\n"
unfolding keyword_of keywords is_unsupported_word unsupported_words digits
output = refl

-- ## Two sessions

-- the second session's insert comes before the table exists and is refused, like a text that is no statement
abbrev pub two_log : List EventTree
two_log =
    event 2 1 (Writes (Some insert_t) 3 0) ∷ event 1 1 (Writes (Some create_t) 0 0)
    ∷ event 2 2 (Writes None 1 0) ∷ event 2 3 (Writes (Some insert_t) 0 3) ∷ []

abbrev pub second_script : List (Result StmtTree Refusal)
second_script = Ok insert_t ∷ Err Syntax ∷ Ok insert_t ∷ []

first_acts : acts_from two_log 1 1 (Ok create_t ∷ []) ≡ logged_of 1 two_log
unfolding keyword_of keywords is_unsupported_word unsupported_words
first_acts = refl

second_acts : acts_from two_log 2 1 second_script ≡ logged_of 2 two_log
unfolding keyword_of keywords is_unsupported_word unsupported_words
second_acts = refl

two_output : printed false (codes "a.sql" ∷ codes "b.sql" ∷ []) ((Ok create_t ∷ []) ∷ second_script ∷ []) two_log no_totals ≡ codes "session 1 a.sql\n1 ok\nsession 2 b.sql\n1 refused 3 no such table t\n2 refused 1 syntax\n3 ok 3\nhistory 2\n1 1 1 CREATE TABLE t (a INT);\n2 2 3 INSERT INTO t VALUES (3), (1), (2);\npool\nentries 0\nbytes 0\npeak 0\nlooks 0\nexact 0\nwithin 0\nacross 0\nmiss 0\ntaken 0\nthere 0\nstale 0\norphan 0\nnocredit 0\nnoroom 0\nevicted 0\ndropped 0\ncarried 0\nwork 0\nevents 0\n"
unfolding keyword_of keywords is_unsupported_word unsupported_words digits
two_output = refl

-- ## EXPLAIN and DROP

-- an accepted EXPLAIN shows the optimised plan of its query, as an independent implementation prints it; another is refused like its query
abbrev pub explain_log : List EventTree
explain_log =
    event 1 1 (Begins 3 None) ∷ event 1 1 (Ends 3) ∷ event 1 2 (Writes (Some create_t) 0 0)
    ∷ event 1 3 (Begins 0 None) ∷ event 1 3 (Ends 0) ∷ event 1 4 (Writes (Some (DropTable (codes "t"))) 0 0) ∷ []

abbrev pub explain_script : List (Result StmtTree Refusal)
explain_script = Ok (ExplainSelect query_a) ∷ Ok create_t ∷ Ok (ExplainSelect query_a) ∷ Ok (DropTable (codes "t")) ∷ []

explain_acts : acts_from explain_log 1 1 explain_script ≡ logged_of 1 explain_log
unfolding keyword_of keywords is_unsupported_word unsupported_words constant_value optimised_plan
explain_acts = refl

explain_output : printed false (codes "a.sql" ∷ []) (explain_script ∷ []) explain_log no_totals ≡ codes "session 1 a.sql\n1 refused 3 no such table t\n2 ok\n3 plan 9\nfunction user.main():void;\n    X_1 := sql.bind(\"t\", \"a\", \"int\");\n    X_2 := algebra.select(X_1, 2, 3, true, true);\n    X_3 := algebra.mirror(X_2);\n    X_4 := algebra.markT(X_3, 0@0);\n    X_5 := algebra.reverse(X_4);\n    X_6 := algebra.join(X_5, X_1);\n    sql.output(X_6);\nend user.main;\n4 ok\nhistory 2\n1 1 2 CREATE TABLE t (a INT);\n2 1 4 DROP TABLE t;\npool\nentries 0\nbytes 0\npeak 0\nlooks 0\nexact 0\nwithin 0\nacross 0\nmiss 0\ntaken 0\nthere 0\nstale 0\norphan 0\nnocredit 0\nnoroom 0\nevicted 0\ndropped 0\ncarried 0\nwork 0\nevents 0\n"
unfolding keyword_of keywords is_unsupported_word unsupported_words digits constant_value optimised_plan
explain_output = refl
