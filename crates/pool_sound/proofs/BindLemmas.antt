-- Each bind that is given out has its column in the tables after the event at its version.
use Rattle.std.proofs.Common.{◌≡◌, ℕ, ◌+◌, ◌<◌, List, [], ◌∷◌, ◌++◌, map, Bool, true, false, not, cond, Some, None, ◌⊎◌, inl, inr, refl, ap, sym, ◌∙◌, subst, arith, length-append}
use Rattle.std.specs.Prelude.{nat_lt, ◌==◌, take}
use Rattle.std.proofs.lemmas.Bool.{eqb-true}
use Rattle.std.proofs.lemmas.List.{take-append-le}
use Rattle.mal_meaning.specs.Meaning.{column_pairs}
use Rattle.lineage_key.specs.Parents.{is_bind, table_of, column_of}
use Rattle.subsume.proofs.Members.{In, filter_in, map_in}
use Rattle.sql_tree.specs.Tree.{StmtTree}
use Rattle.sql_definitions.specs.Effect.{effect, replay}
use Rattle.pool_policy.specs.declared.entry.Who.{Who}
use Rattle.pool_policy.specs.declared.options.PoolOptions.{PoolOptions}
use Rattle.pool_policy.specs.Admits.{admit_of}
use Rattle.pool_policy.specs.Columns.{Changes, IsColumn}
use Rattle.pool_policy.specs.Keeps.{Face, face_of, faces}
use Rattle.pool_policy.specs.Versions.{IsCurrent}
use Rattle.pool_policy.specs.WriteLaws.{IsWrite}
use Rattle.pool_policy.specs.Worths.{faces_from}
use Rattle.pool_policy.specs.Writes.{Return, backs_of}
use Rattle.pool_policy.proofs.Ends.{in_one_of}
use Rattle.pool_policy.proofs.Lists.{all_at}
use Rattle.pool_policy.proofs.ColumnLaws.{back_column}
use Rattle.pool_policy.proofs.VersionLaws.{back_current, versions_hold_all}
use Rattle.run_log.specs.Events.{ActTree, Begins, Looks, Admits, Writes, Ends, EventTree, commits, who_of}
use Rattle.run_log.specs.Fold.{LogState, after, after_act, after_commit, after_write, key_offer, moved, run_of, write_load}
use Rattle.run_log.specs.Laws.{IsCommit, IsSound, MayFollow, columns_of}
use Rattle.run_log.specs.Totals.{with_work}
use Rattle.run_log.specs.Touches.{touched_by}
use Rattle.run_log.proofs.ColumnLemmas.{untouched}
use Rattle.run_log.proofs.LogLemmas.{each_log, logs_tell_holds, run_more, tells_all}
use Rattle.run_log.proofs.TouchLemmas.{touched_adds, touched_moves}
use Rattle.book_core.specs.Lawful.{IsLawful}
use Rattle.pool_sound.specs.Laws.{IsColumnOf}
use Rattle.book_core.proofs.LawfulLemmas.{lawful_before, lawful_formed, lawful_next, lawful_sound}

-- ## The entries that an event adds

-- a bind has the present version of its column, and its cells
pub record IsPresent (s : LogState) (f : Face) : Type 0 where
  pub version : IsCurrent s.versions f.key
  pub column : IsColumn (columns_of s.db) f.key f.value

-- what was given out after a step was given out before it, or is present
abbrev GivesPresent : LogState → LogState → Type 0
GivesPresent s next = (f : Face) → In f next.given → In f s.given ⊎ IsPresent next f

-- what is pooled in a sound state is present
pooled_present : (s : LogState) → IsSound s → (f : Face) → In f (faces s.pool.entries) → IsPresent s f
pooled_present s sound f i = record {
  version = all_at (λ (g : Face). IsCurrent s.versions g.key) (faces s.pool.entries) f sound.versions i;
  column = all_at (λ (g : Face). IsColumn (columns_of s.db) g.key g.value) (faces s.pool.entries) f sound.columns i;
}

module _ (s : LogState) (sound : IsSound s) (stmt : StmtTree) where
  abbrev counted : LogState
  counted = record s { totals = with_work (write_load stmt s.db) s.totals }

  abbrev committed : LogState
  committed = after_commit (touched_by stmt s.db) (effect stmt s.db).0 (s.at + 1) counted

  back_present : IsCommit stmt s → (r : Return) → In r (backs_of (touched_by stmt s.db) (s.at + 1) s.pool) → IsPresent committed (face_of r.new)
  back_present commit r i =
      let adds = touched_adds stmt s.db commit.accepted in
      let later : s.pool.moment < s.at + 1 = (let early = sound.moment in omega (arith, early)) in
      let fits : IsWrite (touched_by stmt s.db) (s.at + 1) s.pool = record {
        rows = λ added is column c. (adds added is column c).from;
        one_version = versions_hold_all.one s.versions s.pool sound.versions;
        short = commit.short;
      } in
      let changes : Changes (touched_by stmt s.db) (columns_of s.db) (columns_of (effect stmt s.db).0) = record {
        others = untouched s.db sound.valid stmt;
        added = λ added is column c. ((adds added is column c).is, (adds added is column c).whole);
      } in record {
        version = back_current (touched_by stmt s.db) (s.at + 1) s.pool later sound.pool fits s.versions (moved (touched_by stmt s.db) (effect stmt s.db).0 (s.at + 1) s.versions) (touched_moves stmt s.db (s.at + 1) s.versions commit.accepted) r i;
        column = back_column (touched_by stmt s.db) (s.at + 1) s.pool later sound.pool fits (columns_of s.db) (columns_of (effect stmt s.db).0) changes sound.columns r i;
      }

  commit_gives : IsCommit stmt s → GivesPresent s committed
  commit_gives commit f i = elim (in_one_of s.given (faces (map (λ (r : Return). r.new) (backs_of (touched_by stmt s.db) (s.at + 1) s.pool))) f i) [
    | inl j ↦ inl j
    | inr j ↦ inr (
        let e = map_in face_of (map (λ (r : Return). r.new) (backs_of (touched_by stmt s.db) (s.at + 1) s.pool)) f j in
        let r = map_in (λ (r : Return). r.new) (backs_of (touched_by stmt s.db) (s.at + 1) s.pool) e.0 e.1 in
        subst (IsPresent committed) (ap face_of (sym r.2) ∙ sym e.2) (back_present commit r.0 r.1))
  ]

  write_gives : (code : ℕ) → (code ≡ 0 → IsCommit stmt s) → GivesPresent s (after_write stmt code (s.at + 1) s)
  write_gives code accepted = go (code == 0) refl
    where
      go : (b : Bool) → (code == 0) ≡ b → GivesPresent s (cond b committed counted)
      go true is = commit_gives (accepted (eqb-true code 0 is))
      go false is = λ f i. inl i

act_gives : (s : LogState) → IsSound s → (who : Who) (act : ActTree) → MayFollow s act
    → ((f : Face) → In f (faces (after_act who act (s.at + 1) s).pool.entries) → IsPresent (after_act who act (s.at + 1) s) f) → GivesPresent s (after_act who act (s.at + 1) s)
act_gives s sound who (Begins code plan) may pooled f i = inl i
act_gives s sound who (Looks instr key found) may pooled f i = inl i
act_gives s sound who (Admits instr key result) may pooled f i =
    let next = (admit_of who (s.at + 1) (key_offer key s) s.pool).1 in
    elim (in_one_of s.given (faces_from s.pool.next next) f i) [
      | inl j ↦ inl j
      | inr j ↦ inr (pooled f (filter_in (λ (f : Face). not (nat_lt f.id s.pool.next)) (faces next.entries) f j).0)
    ]
act_gives s sound who (Writes None code count) may pooled f i = inl i
act_gives s sound who (Writes (Some stmt) code count) may pooled f i = write_gives s sound stmt code may.1 f i
act_gives s sound who (Ends code) may pooled f i = inl i

event_gives : (s : LogState) (event : EventTree) → IsSound s → MayFollow s event.act → IsSound (after s event) → GivesPresent s (after s event)
event_gives s event sound may next f i = elim (act_gives s sound (who_of event) event.act may (λ g j. let p = pooled_present (after s event) next g j in record { version = p.version; column = p.column }) f i) [
  | inl j ↦ inl j
  | inr p ↦ inr (record { version = p.version; column = p.column })
]

-- ## Along a log

abbrev AreColumnsOf : PoolOptions → List EventTree → Type 0
AreColumnsOf options log = (f : Face) → In f (run_of options log).given → is_bind f.key ≡ true → IsColumnOf log f

module _ (options : PoolOptions) where
  -- a bind with the present version has its column in the log
  present_told : (log : List EventTree) → IsLawful options log → (f : Face) → IsPresent (run_of options log) f → is_bind f.key ≡ true → IsColumnOf log f
  present_told log lawful f present bind =
      let tells = tells_all options log (lawful_formed options log lawful) in
      let version = present.version bind in
      let low = tells.within (table_of f.key) (column_of f.key) in record {
        within = omega (arith, version, low);
        column = present.column bind ∙ tells.tell (table_of f.key) (column_of f.key)
            ∙ ap (λ n. column_pairs (table_of f.key) (column_of f.key) (run_of options (take n log)).db) (sym version)
            ∙ ap (column_pairs (table_of f.key) (column_of f.key)) (logs_tell_holds.tables options (take f.key.version log));
      }

  -- and stays so over a longer log
  told_later : (log : List EventTree) (event : EventTree) (f : Face) → IsColumnOf log f → IsColumnOf (log ++ event ∷ []) f
  told_later log event f told =
      let long = length-append log (event ∷ []) in
      let low = told.within in record {
        within = omega (arith, long, low);
        column = told.column ∙ ap (λ (es : List EventTree). column_pairs (table_of f.key) (column_of f.key) (replay (commits es))) (sym (take-append-le f.key.version log (event ∷ []) low));
      }

  more_told : (log : List EventTree) (event : EventTree) → (IsLawful options log → AreColumnsOf options log) → IsLawful options (log ++ event ∷ []) → AreColumnsOf options (log ++ event ∷ [])
  more_told log event before lawful f i bind =
      let old = lawful_before options log event lawful in
      let s = run_of options log in
      let sound = lawful_sound options log old in
      let next = subst IsSound (run_more options log event) (lawful_sound options (log ++ event ∷ []) lawful) in
      elim (event_gives s event sound (lawful_next options log event lawful) next f (subst (λ (t : LogState). In f t.given) (run_more options log event) i)) [
        | inl j ↦ told_later log event f (before old f j bind)
        | inr p ↦ present_told (log ++ event ∷ []) lawful f (subst (λ (t : LogState). IsPresent t f) (sym (run_more options log event)) p) bind
      ]

  pub binds_told : (log : List EventTree) → IsLawful options log → AreColumnsOf options log
  binds_told = each_log (λ log. IsLawful options log → AreColumnsOf options log) (λ lawful f i. absurd i) more_told
