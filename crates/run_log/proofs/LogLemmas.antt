-- What a log says of its tables and versions.
use Rattle.std.proofs.Common.{◌≡◌, ℕ, ◌+◌, ◌≤◌, List, [], ◌∷◌, ◌++◌, length, Bool, true, false, cond, Option, Some, None, refl, ap, sym, ◌∙◌, subst, arith, length-append}
use Rattle.std.specs.Prelude.{fold, take, ◌==◌}
use Rattle.std.specs.List.{AllByRecursion, filter_map}
use Rattle.std.proofs.lemmas.List.{append_assoc, append-nil, take-append-le}
use Rattle.std.proofs.lemmas.List.Elements.{filter_map-append}
use Rattle.std.proofs.lemmas.Bool.{eqb-true}
use Rattle.std.proofs.Math.Seq.{take-length}
use Rattle.cell_core.specs.declared.table.Db.{Db}
use Rattle.cell_core.specs.Tables.{has_column}
use Rattle.mal_meaning.specs.Meaning.{column_pairs}
use Rattle.sql_grammar.specs.Formed.{IsFormed}
use Rattle.sql_tree.specs.Tree.{StmtTree}
use Rattle.sql_definitions.specs.Effect.{effect, replay, replay_from}
use Rattle.sql_definitions.specs.Valid.{IsValid}
use Rattle.sql_kinds.proofs.EffectLemmas.{effect_holds}
use Rattle.pool_policy.specs.declared.entry.Who.{Who}
use Rattle.pool_policy.specs.declared.options.PoolOptions.{PoolOptions}
use Rattle.pool_policy.specs.Versions.{is_of}
use Rattle.run_log.specs.Events.{ActTree, Begins, Looks, Admits, Writes, Ends, EventTree, commits, committed, who_of}
use Rattle.run_log.specs.Fold.{LogState, after, after_act, after_commit, after_write, log_start, moved, run_of, write_load}
use Rattle.run_log.specs.Laws.{IsFormedAct, LogsTell}
use Rattle.run_log.specs.Totals.{with_work}
use Rattle.run_log.specs.Touches.{touched_by}
use Rattle.run_log.proofs.ColumnLemmas.{absent_column, untouched}

-- ## One event more

pub run_more : (options : PoolOptions) (log : List EventTree) (event : EventTree) → run_of options (log ++ event ∷ []) ≡ after (run_of options log) event
run_more options log event = go (log_start options) log
  where
    go : (s : LogState) (es : List EventTree) → fold after s (es ++ event ∷ []) ≡ after (fold after s es) event
    go s [] = refl
    go s (e ∷ es) = go (after s e) es

-- what holds of the empty log and goes on with each event holds of each log
module _ (P : List EventTree → Type 0) (start : P []) (more : (log : List EventTree) (event : EventTree) → P log → P (log ++ event ∷ [])) where
  behind : (done rest : List EventTree) → P done → P (done ++ rest)
  behind done [] h = subst P (sym (append-nil done)) h
  behind done (event ∷ rest) h = subst P (append_assoc done (event ∷ []) rest) (behind (done ++ event ∷ []) rest (more done event h))

  pub each_log : (log : List EventTree) → P log
  each_log log = behind [] log start

log_long : (log : List EventTree) (event : EventTree) → length (log ++ event ∷ []) ≡ length log + 1
log_long log event = let long = length-append log (event ∷ []) in omega (arith, long)

-- ## Positions

at_is : (options : PoolOptions) (log : List EventTree) → (run_of options log).at ≡ length log
at_is options = each_log (λ log. (run_of options log).at ≡ length log) refl (λ log event h.
    ap (λ (s : LogState). s.at) (run_more options log event) ∙ ap (λ n. n + 1) h ∙ sym (log_long log event))

-- ## Tables

abbrev leads_on : ActTree → Db → Db
leads_on act db = replay_from db (filter_map (λ o. o) (committed act ∷ []))

replay_more : (db : Db) (xs ys : List StmtTree) → replay_from db (xs ++ ys) ≡ replay_from (replay_from db xs) ys
replay_more db [] ys = refl
replay_more db (x ∷ xs) ys = replay_more (effect x db).0 xs ys

write_db : (stmt : StmtTree) (code count now : ℕ) (s : LogState) → (after_write stmt code now s).db ≡ leads_on (Writes (Some stmt) code count) s.db
write_db stmt code count now s = go (code == 0)
  where
    counted : LogState
    counted = record s { totals = with_work (write_load stmt s.db) s.totals }

    go : (b : Bool) → (cond b (after_commit (touched_by stmt s.db) (effect stmt s.db).0 now counted) counted).db ≡ replay_from s.db (filter_map (λ o. o) (cond b (Some stmt) None ∷ []))
    go true = refl
    go false = refl

none_db : (code count : ℕ) (db : Db) → db ≡ leads_on (Writes None code count) db
none_db code count db = go (code == 0)
  where
    nothing : Option StmtTree
    nothing = None

    go : (b : Bool) → db ≡ replay_from db (filter_map (λ o. o) (cond b nothing nothing ∷ []))
    go true = refl
    go false = refl

act_db : (who : Who) (act : ActTree) (now : ℕ) (s : LogState) → (after_act who act now s).db ≡ leads_on act s.db
act_db who (Begins code plan) now s = refl
act_db who (Looks instr key found) now s = refl
act_db who (Admits instr key result) now s = refl
act_db who (Writes None code count) now s = none_db code count s.db
act_db who (Writes (Some stmt) code count) now s = write_db stmt code count now s
act_db who (Ends code) now s = refl

tables_are : (options : PoolOptions) (log : List EventTree) → (run_of options log).db ≡ replay (commits log)
tables_are options = each_log (λ log. (run_of options log).db ≡ replay (commits log)) refl (λ log event h.
    ap (λ (s : LogState). s.db) (run_more options log event)
    ∙ act_db (who_of event) event.act ((run_of options log).at + 1) (run_of options log)
    ∙ ap (leads_on event.act) h
    ∙ sym (ap replay (filter_map-append (λ (e : EventTree). committed e.act) log (event ∷ [])) ∙ replay_more (record { tables = [] }) (commits log) (commits (event ∷ []))))

-- ## Versions

-- a version is the position of an event, at which the column had the cells that it has
pub record Tells (options : PoolOptions) (log : List EventTree) : Type 0 where
  pub valid : IsValid (run_of options log).db
  pub within : (table column : List ℕ) → (run_of options log).versions table column ≤ length log
  pub tell : (table column : List ℕ) → column_pairs table column (run_of options log).db ≡ column_pairs table column (run_of options (take ((run_of options log).versions table column) log)).db

-- how an event moves the version of a column: not at all, to its own position, or to 0 where the column is there no more
data Move (s next : LogState) (now : ℕ) (table column : List ℕ) : Type 0 where
  Stays : next.versions table column ≡ s.versions table column → column_pairs table column next.db ≡ column_pairs table column s.db → Move s next now table column
  Comes : next.versions table column ≡ now → Move s next now table column
  Goes : next.versions table column ≡ 0 → column_pairs table column next.db ≡ [] → Move s next now table column

-- a state after an event
record Behind (s next : LogState) (now : ℕ) : Type 0 where
  valid : IsValid next.db
  move : (table column : List ℕ) → Move s next now table column

still : (s next : LogState) (now : ℕ) → next.db ≡ s.db → next.versions ≡ s.versions → IsValid s.db → Behind s next now
still s next now db versions valid = record {
  valid = subst IsValid (sym db) valid;
  move = λ table column. Stays (λ i. versions i table column) (ap (column_pairs table column) db);
}

commit_move : (s : LogState) (stmt : StmtTree) (now : ℕ) → IsValid s.db → (table column : List ℕ)
    → Move s (after_commit (touched_by stmt s.db) (effect stmt s.db).0 now (record s { totals = with_work (write_load stmt s.db) s.totals })) now table column
commit_move s stmt now valid table column = by_touch (is_of (touched_by stmt s.db) table column) refl
  where
    new : Db
    new = (effect stmt s.db).0

    next : LogState
    next = after_commit (touched_by stmt s.db) new now (record s { totals = with_work (write_load stmt s.db) s.totals })

    by_there : is_of (touched_by stmt s.db) table column ≡ true → (b : Bool) → has_column table column new ≡ b → Move s next now table column
    by_there of true there = Comes (ap (λ b. cond b (cond (has_column table column new) now 0) (s.versions table column)) of ∙ ap (λ b. cond b now 0) there)
    by_there of false gone = Goes (ap (λ b. cond b (cond (has_column table column new) now 0) (s.versions table column)) of ∙ ap (λ b. cond b now 0) gone) (absent_column table column new gone)

    by_touch : (b : Bool) → is_of (touched_by stmt s.db) table column ≡ b → Move s next now table column
    by_touch false out = Stays (ap (λ b. cond b (cond (has_column table column new) now 0) (s.versions table column)) out) (untouched s.db valid stmt table column out)
    by_touch true of = by_there of (has_column table column new) refl

write_behind : (s : LogState) (stmt : StmtTree) (code now : ℕ) → IsFormed stmt → IsValid s.db → Behind s (after_write stmt code now s) now
write_behind s stmt code now formed valid = go (code == 0)
  where
    counted : LogState
    counted = record s { totals = with_work (write_load stmt s.db) s.totals }

    go : (b : Bool) → Behind s (cond b (after_commit (touched_by stmt s.db) (effect stmt s.db).0 now counted) counted) now
    go true = record { valid = effect_holds stmt s.db formed valid; move = commit_move s stmt now valid }
    go false = still s counted now refl refl valid

act_behind : (s : LogState) (who : Who) (act : ActTree) (now : ℕ) → IsFormedAct act → IsValid s.db → Behind s (after_act who act now s) now
act_behind s who (Begins code plan) now formed valid = still s s now refl refl valid
act_behind s who (Looks instr key found) now formed valid = still s (after_act who (Looks instr key found) now s) now refl refl valid
act_behind s who (Admits instr key result) now formed valid = still s (after_act who (Admits instr key result) now s) now refl refl valid
act_behind s who (Writes None code count) now formed valid = still s s now refl refl valid
act_behind s who (Writes (Some stmt) code count) now formed valid = write_behind s stmt code now formed valid
act_behind s who (Ends code) now formed valid = still s (after_act who (Ends code) now s) now refl refl valid

module _ (options : PoolOptions) where
  abbrev run : List EventTree → LogState
  run log = run_of options log

  more_tells : (log : List EventTree) (event : EventTree) → IsFormedAct event.act → Tells options log → Tells options (log ++ event ∷ [])
  more_tells log event formed h = record {
    valid = subst (λ (s : LogState). IsValid s.db) (sym (run_more options log event)) told.valid;
    within = λ table column. subst (λ (s : LogState). s.versions table column ≤ length (log ++ event ∷ [])) (sym (run_more options log event)) (low table column (told.move table column));
    tell = λ table column. subst (λ (s : LogState). column_pairs table column s.db ≡ column_pairs table column (run (take (s.versions table column) (log ++ event ∷ []))).db) (sym (run_more options log event)) (tells table column (told.move table column));
  }
    where
      next : LogState
      next = after (run log) event

      told : Behind (run log) next ((run log).at + 1)
      told = let b = act_behind (run log) (who_of event) event.act ((run log).at + 1) formed h.valid in record { valid = b.valid; move = λ table column. again table column (b.move table column) }
        where
          again : (table column : List ℕ) → Move (run log) (after_act (who_of event) event.act ((run log).at + 1) (run log)) ((run log).at + 1) table column → Move (run log) next ((run log).at + 1) table column
          again table column (Stays v c) = Stays v c
          again table column (Comes v) = Comes v
          again table column (Goes v c) = Goes v c

      low : (table column : List ℕ) → Move (run log) next ((run log).at + 1) table column → next.versions table column ≤ length (log ++ event ∷ [])
      low table column (Stays v c) = let long = log_long log event in let before = h.within table column in omega (arith, v, long, before)
      low table column (Comes v) = let long = log_long log event in let at = at_is options log in omega (arith, v, long, at)
      low table column (Goes v c) = omega (arith, v)

      tells : (table column : List ℕ) → Move (run log) next ((run log).at + 1) table column
          → column_pairs table column next.db ≡ column_pairs table column (run (take (next.versions table column) (log ++ event ∷ []))).db
      tells table column (Stays v c) =
          c ∙ h.tell table column
          ∙ ap (λ (es : List EventTree). column_pairs table column (run es).db) (sym (take-append-le ((run log).versions table column) log (event ∷ []) (h.within table column)))
          ∙ ap (λ n. column_pairs table column (run (take n (log ++ event ∷ []))).db) (sym v)
      tells table column (Comes v) =
          let whole : next.versions table column ≡ length (log ++ event ∷ []) = (let long = log_long log event in let at = at_is options log in omega (arith, v, long, at)) in
          ap (λ (s : LogState). column_pairs table column s.db) (sym (run_more options log event))
          ∙ ap (λ (es : List EventTree). column_pairs table column (run es).db) (sym (take-length (log ++ event ∷ [])))
          ∙ ap (λ n. column_pairs table column (run (take n (log ++ event ∷ []))).db) (sym whole)
      tells table column (Goes v c) = c ∙ ap (λ n. column_pairs table column (run (take n (log ++ event ∷ []))).db) (sym v)

  formed_parts : (log : List EventTree) (event : EventTree) → AllByRecursion (λ (e : EventTree). IsFormedAct e.act) (log ++ event ∷ []) → AllByRecursion (λ (e : EventTree). IsFormedAct e.act) log × IsFormedAct event.act
  formed_parts [] event h = (tt, h.0)
  formed_parts (e ∷ log) event h = let more = formed_parts log event h.1 in ((h.0, more.0), more.1)

  pub tells_all : (log : List EventTree) → AllByRecursion (λ (e : EventTree). IsFormedAct e.act) log → Tells options log
  tells_all = each_log (λ log. AllByRecursion (λ (e : EventTree). IsFormedAct e.act) log → Tells options log)
      (λ formed. record { valid = record { names = refl; tables = refl }; within = λ table column. omega arith; tell = λ table column. refl })
      (λ log event h formed. let parts = formed_parts log event formed in more_tells log event parts.1 (h parts.0))

pub logs_tell_holds : LogsTell
logs_tell_holds = record {
  at = at_is;
  tables = tables_are;
  versions = λ options log table column formed. (tells_all options log formed).tell table column;
}
