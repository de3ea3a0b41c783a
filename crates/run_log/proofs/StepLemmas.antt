-- Each event that may follow leaves a sound state.
use Rattle.std.proofs.Common.{◌≡◌, ℕ, ◌+◌, ◌≤◌, ◌<◌, List, [], ◌∷◌, ◌++◌, map, Bool, true, false, ◌&&◌, cond, Option, Some, None, refl, ap, sym, ◌∙◌, subst, arith}
use Rattle.std.specs.Prelude.{unwrap_or, ◌==◌}
use Rattle.std.specs.List.{list_any}
use Rattle.std.specs.Option.{option_and_then}
use Rattle.std.proofs.lemmas.Bool.{eqb-true}
use Rattle.cell_core.specs.declared.table.Column.{Column}
use Rattle.cell_core.specs.declared.table.Table.{Table}
use Rattle.cell_core.specs.declared.table.Db.{Db}
use Rattle.cell_core.specs.Operators.{operate}
use Rattle.cell_core.specs.Pairs.{as_bat}
use Rattle.cell_core.specs.Tables.{named_table}
use Rattle.mal_meaning.specs.Meaning.{column_pairs}
use Rattle.lineage_key.specs.declared.key.Key.{Key}
use Rattle.lineage_key.specs.Parents.{is_bind, table_of, column_of}
use Rattle.subsume.proofs.Members.{In, in_from_contains, map_in}
use Rattle.reuse_laws.specs.Grown.{AreFrom}
use Rattle.sql_grammar.specs.Formed.{IsFormed}
use Rattle.sql_tree.specs.Tree.{StmtTree}
use Rattle.sql_tree.specs.Tree.StmtTree.{CreateTable, DropTable, AlterTable, InsertInto, DeleteFrom, UpdateTable, Select, ExplainSelect}
use Rattle.sql_definitions.specs.Effect.{effect}
use Rattle.sql_kinds.proofs.EffectLemmas.{effect_holds}
use Rattle.sql_definitions.specs.Valid.{IsValid}
use Rattle.pool_policy.specs.declared.entry.Who.{Who}
use Rattle.pool_policy.specs.declared.options.PoolOptions.{PoolOptions}
use Rattle.pool_policy.specs.declared.touched.Touched.{Touched}
use Rattle.pool_policy.specs.Admits.{admit_of, release_of}
use Rattle.pool_policy.specs.Columns.{AreColumns, Changes, Columns}
use Rattle.pool_policy.specs.Keeps.{Face, IsPool, arg_value}
use Rattle.pool_policy.specs.Looks.{after_look}
use Rattle.pool_policy.specs.Versions.{AreCurrent, Moves, Versions, is_of}
use Rattle.pool_policy.specs.WriteLaws.{IsWrite}
use Rattle.pool_policy.specs.Worths.{IsGiven, WorthsStay}
use Rattle.pool_policy.proofs.AdmitGiven.{look_given, release_given}
use Rattle.pool_policy.proofs.ColumnLaws.{columns_hold_all}
use Rattle.pool_policy.proofs.Empty.{empty_given, empty_is}
use Rattle.pool_policy.proofs.Kept.{look_keeps, release_keeps}
use Rattle.pool_policy.proofs.NewEntry.{admit_keeps}
use Rattle.pool_policy.proofs.VersionLaws.{versions_hold_all}
use Rattle.pool_policy.proofs.WriteEnds.{write_given, write_keeps}
use Rattle.run_log.specs.declared.event.FoundLog.{FoundLog}
use Rattle.run_log.specs.Events.{ActTree, Begins, Looks, Admits, Writes, Ends, EventTree, who_of}
use Rattle.run_log.specs.Fold.{LogState, after, after_act, after_admission, after_commit, after_write, key_offer, key_present, key_value, log_start, moved, write_load}
use Rattle.run_log.specs.Laws.{IsCommit, IsOffered, IsSound, MayFollow, StepsKeep, columns_of}
use Rattle.run_log.specs.Totals.{with_look, with_work}
use Rattle.run_log.specs.Touches.{touched_by, whole_columns}
use Rattle.run_log.proofs.ColumnLemmas.{untouched}
use Rattle.run_log.proofs.GivenLemmas.{admit_goes, admit_moment, offered_fits}
use Rattle.run_log.proofs.TouchLemmas.{touched_adds, touched_moves}

-- what follows a sound state
pub record Follows (s next : LogState) : Type 0 where
  pub valid : IsValid next.db
  pub moment : next.pool.moment ≤ s.at + 1
  pub pool : IsPool next.pool
  pub given : IsGiven next.given next.pool
  pub versions : AreCurrent next.versions next.pool
  pub columns : AreColumns (columns_of next.db) next.pool
  pub stay : WorthsStay s.given next.given

stays : (given : List Face) → WorthsStay given given
stays given id some = refl

-- ## Looks, admissions and ends

module _ (s : LogState) (sound : IsSound s) where
  abbrev now : ℕ
  now = s.at + 1

  later : s.pool.moment < now
  later = let early = sound.moment in omega (arith, early)

  same_follows : Follows s s
  same_follows = record {
    valid = sound.valid;
    moment = (let early = sound.moment in omega (arith, early));
    pool = sound.pool;
    given = sound.given;
    versions = sound.versions;
    columns = sound.columns;
    stay = stays s.given;
  }

  look_follows : (who : Who) (key : Key) (found : FoundLog) → Follows s (record s { pool = after_look who now key s.pool; totals = with_look found s.totals })
  look_follows who key found = record {
    valid = sound.valid;
    moment = omega arith;
    pool = look_keeps who now key s.pool later sound.pool;
    given = look_given who now key s.given s.pool sound.given;
    versions = versions_hold_all.look who now key s.versions s.pool sound.versions;
    columns = columns_hold_all.look who now key (columns_of s.db) s.pool sound.columns;
    stay = stays s.given;
  }

  end_follows : (session : ℕ) → Follows s (record s { pool = release_of session s.pool })
  end_follows session = record {
    valid = sound.valid;
    moment = (let early = sound.moment in omega (arith, early));
    pool = release_keeps session s.pool sound.pool;
    given = release_given session s.given s.pool sound.given;
    versions = versions_hold_all.release session s.versions s.pool sound.versions;
    columns = columns_hold_all.release session (columns_of s.db) s.pool sound.columns;
    stay = stays s.given;
  }

  -- the value that is offered for a bind is its column
  bind_value : (key : Key) → is_bind key ≡ true → key_value key s ≡ columns_of s.db (table_of key) (column_of key)
  bind_value key bind =
      ap (λ b. cond b (column_pairs (table_of key) (column_of key) s.db) (unwrap_or (option_and_then as_bat (operate key.op (map (arg_value s.given) key.args))) [])) bind

  -- and its version is the present one
  bind_present : (key : Key) → is_bind key ≡ true → key_present key s ≡ s.versions (table_of key) (column_of key)
  bind_present key bind = ap (λ b. cond b (s.versions (table_of key) (column_of key)) 0) bind

  admit_follows : (who : Who) (key : Key) → IsOffered key s → Follows s (after_admission (admit_of who now (key_offer key s) s.pool) s)
  admit_follows who key offered =
      let fits = offered_fits s sound key offered in
      let goes = admit_goes s sound who key offered in
      let moment = admit_moment who now (key_offer key s) s.pool in record {
        valid = sound.valid;
        moment = omega (arith, moment);
        pool = admit_keeps who now (key_offer key s) s.pool later sound.pool fits;
        given = goes.known;
        versions = versions_hold_all.admit who now (key_offer key s) s.versions s.pool (bind_present key) sound.versions;
        columns = columns_hold_all.admit who now (key_offer key s) (columns_of s.db) s.pool (bind_value key) sound.columns;
        stay = goes.stay;
      }

-- ## Writes

module _ (s : LogState) (sound : IsSound s) (stmt : StmtTree) (formed : IsFormed stmt) where
  abbrev counted : LogState
  counted = record s { totals = with_work (write_load stmt s.db) s.totals }

  commit_follows : IsCommit stmt s → Follows s (after_commit (touched_by stmt s.db) (effect stmt s.db).0 (s.at + 1) counted)
  commit_follows commit =
      let adds = touched_adds stmt s.db commit.accepted in
      let moves = touched_moves stmt s.db (s.at + 1) s.versions commit.accepted in
      let fits : IsWrite (touched_by stmt s.db) (s.at + 1) s.pool = record {
        rows = λ added is column c. (adds added is column c).from;
        one_version = versions_hold_all.one s.versions s.pool sound.versions;
        short = commit.short;
      } in
      let changes : Changes (touched_by stmt s.db) (columns_of s.db) (columns_of (effect stmt s.db).0) = record {
        others = untouched s.db sound.valid stmt;
        added = λ added is column c. ((adds added is column c).is, (adds added is column c).whole);
      } in
      let on = write_given (touched_by stmt s.db) (s.at + 1) s.pool (later s sound) sound.pool fits s.given sound.given in record {
        valid = effect_holds stmt s.db formed sound.valid;
        moment = omega arith;
        pool = write_keeps (touched_by stmt s.db) (s.at + 1) s.pool (later s sound) sound.pool fits;
        given = on.known;
        versions = versions_hold_all.write (touched_by stmt s.db) (s.at + 1) s.versions (moved (touched_by stmt s.db) (effect stmt s.db).0 (s.at + 1) s.versions) s.pool (later s sound) sound.pool fits moves sound.versions;
        columns = columns_hold_all.write (touched_by stmt s.db) (s.at + 1) (columns_of s.db) (columns_of (effect stmt s.db).0) s.pool (later s sound) sound.pool fits changes sound.columns;
        stay = on.stay;
      }

  counted_follows : Follows s counted
  counted_follows = record {
    valid = sound.valid;
    moment = (let early = sound.moment in omega (arith, early));
    pool = sound.pool;
    given = sound.given;
    versions = sound.versions;
    columns = sound.columns;
    stay = stays s.given;
  }

  write_follows : (code : ℕ) → (code ≡ 0 → IsCommit stmt s) → Follows s (after_write stmt code (s.at + 1) s)
  write_follows code accepted = go (code == 0) refl
    where
      go : (b : Bool) → (code == 0) ≡ b → Follows s (cond b (after_commit (touched_by stmt s.db) (effect stmt s.db).0 (s.at + 1) counted) counted)
      go true is = commit_follows (accepted (eqb-true code 0 is))
      go false is = counted_follows

-- ## Events

act_follows : (s : LogState) → IsSound s → (who : Who) (act : ActTree) → MayFollow s act → Follows s (after_act who act (s.at + 1) s)
act_follows s sound who (Begins code plan) may = same_follows s sound
act_follows s sound who (Looks instr key found) may = look_follows s sound who key found
act_follows s sound who (Admits instr key result) may = admit_follows s sound who key may
act_follows s sound who (Writes None code count) may = same_follows s sound
act_follows s sound who (Writes (Some stmt) code count) may = write_follows s sound stmt may.0 code may.1
act_follows s sound who (Ends code) may = end_follows s sound who.session

pub event_follows : (s : LogState) (event : EventTree) → IsSound s → MayFollow s event.act → Follows s (after_act (who_of event) event.act (s.at + 1) s)
event_follows s event sound may = act_follows s sound (who_of event) event.act may

start_is : (options : PoolOptions) → IsSound (log_start options)
start_is options = record {
  valid = record { names = refl; tables = refl };
  moment = omega arith;
  pool = empty_is options;
  given = empty_given options;
  versions = tt;
  columns = tt;
}

pub steps_keep_holds : StepsKeep
steps_keep_holds = record {
  start = start_is;
  sound = λ s event sound may. let next = event_follows s event sound may in record {
    valid = next.valid;
    moment = next.moment;
    pool = next.pool;
    given = next.given;
    versions = next.versions;
    columns = next.columns;
  };
  stay = λ s event sound may. (event_follows s event sound may).stay;
}
