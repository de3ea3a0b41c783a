-- A write leaves a book.
use Rattle.std.proofs.Common.{◌≡◌, ℕ, ◌+◌, ◌≤◌, ◌<◌, ◌^◌, List, ◌∷◌, ◌++◌, [], map, Bool, true, false, cond, refl, ap, sym, ◌∙◌, subst, arith, length}
use Rattle.std.specs.Prelude.{◌==◌, None, Some, Result, Ok, Err, IfOk}
use Rattle.std.specs.List.{AllByRecursion}
use Rattle.std.specs.Vec.{vec_capacity}
use Rattle.std.proofs.lemmas.Bool.{eq-eqb}
use Rattle.std.proofs.lemmas.List.{length-map, map-append}
use Rattle.cell_core.specs.declared.table.Db.{Db}
use Rattle.cell_core.specs.Tables.{has_column}
use Rattle.sql_tree.specs.declared.tree.Stmt.{Stmt}
use Rattle.sql_tree.specs.Tree.{StmtTree, stmt_tree}
use Rattle.sql_grammar.specs.Formed.{IsFormed}
use Rattle.sql_definitions.specs.Effect.{effect}
use Rattle.sql_definitions.specs.declared.refusal.Refusal.{Refusal}
use Rattle.sql_definitions.specs.declared.refusal.Reply.{Reply}
use Rattle.sql_definitions.specs.declared.refusal.Reply.TheVariants.{Refused}
use Rattle.sql_definitions.specs.Refusals.{refusal_number}
use Rattle.pool_policy.specs.declared.entry.PoolEntry.{PoolEntry}
use Rattle.pool_policy.specs.declared.entry.Who.{Who}
use Rattle.pool_policy.specs.declared.options.PoolOptions.{PoolOptions}
use Rattle.pool_policy.specs.declared.touched.Touched.{Touched}
use Rattle.pool_policy.specs.Pool.{PoolState}
use Rattle.pool_policy.specs.Versions.{is_of}
use Rattle.pool_policy.specs.WriteLaws.{IsWrite}
use Rattle.pool_policy.specs.Writes.{Return, Written, backs_of, write_of}
use Rattle.recycle_pool.specs.declared.carried.Carried.{Carried}
use Rattle.recycle_pool.specs.Carries.{IsCarried}
use Rattle.table_store.specs.Changes.{IsPrepared}
use Rattle.table_store.specs.Content.{Content, version_of}
use Rattle.run_log.specs.declared.event.Event.{Event}
use Rattle.run_log.specs.declared.event.Act.TheVariants as act
use Rattle.run_log.specs.declared.event.Totals.{Totals}
use Rattle.run_log.specs.Events.{event_tree, log_tree}
use Rattle.run_log.specs.Fold.{LogState, after, after_commit, moved, run_of, write_load}
use Rattle.run_log.specs.Laws.{IsCommit}
use Rattle.run_log.specs.Totals.{AreSmall, with_pool, with_work, with_write, with_written}
use Rattle.run_log.specs.Touches.{touched_by}
use Rattle.run_log.proofs.LogLemmas.{run_more}
use Rattle.store_changes.specs.Outcomes.{outcome_over}
use Rattle.store_changes.specs.Work.{Counts, write_lost}
use Rattle.store_changes.specs.declared.outcome.Ready.{Ready}
use Rattle.book_core.specs.declared.book.Book.TheInside.{Inside}
use Rattle.book_core.specs.BookView.{BookView, event_of, state_of}
use Rattle.book_core.specs.Kept.{IsBook, book_shown}
use Rattle.reply_layout.specs.Doings.{code_of, shown_reply}
use Rattle.book_core.specs.Writes.{IsOutcome, IsUntouched, return_work, write_work, written_by}
use Rattle.book_core.proofs.BookLemmas.{IsQuiet, at_of, later_of, next_state, plain_state, quiet_book, still_book}
use Rattle.book_core.proofs.WriteLemmas.{absent_version, commit_fits, few_written, never_refused, refused_code, short_back}

-- the outcome that is prepared over a store is that over the state of its book
pub outcome_of : (b : Inside) → IsBook b → {seen : BookView} → book_shown b ≡ seen → (stmt : StmtTree) (ready : Result Ready Refusal) (load : ℕ) → IsFormed stmt → effect stmt b.store.db ≡ outcome_over ready b.store.db
    → IfOk ready (λ (r : Ready). IsPrepared r.change b.store) → IfOk ready (λ (r : Ready). r.change.touched ≡ touched_by stmt b.store.db) → load ≡ write_load stmt b.store.db → IsOutcome stmt ready load (state_of seen)
outcome_of b known is stmt ready load formed done prepared touched counted =
    subst (λ (v : BookView). IsOutcome stmt ready load (state_of v)) is (record {
      formed = formed;
      effect = subst (λ (d : Db). effect stmt d ≡ outcome_over ready d) db done;
      touched = subst (λ (d : Db). IfOk ready (λ (r : Ready). r.change.touched ≡ touched_by stmt d)) db touched;
      others = others_of ready prepared;
      work = counted ∙ ap (write_load stmt) db;
    })
  where
    s : LogState
    s = state_of (book_shown b)

    db : b.store.db ≡ s.db
    db = sym known.state.db

    others_of : (ready : Result Ready Refusal) → IfOk ready (λ (r : Ready). IsPrepared r.change b.store)
        → IfOk ready (λ (r : Ready). (table column : List ℕ) → is_of r.change.touched table column ≡ false → version_of table column r.change.content ≡ s.versions table column)
    others_of (Ok r) prepared = λ table column out. prepared.others table column out ∙ known.state.versions table column
    others_of (Err refusal) prepared = tt

-- the outcome of a statement over the view of a book is that over the book
pub outcome_inside : (b : Inside) {seen : BookView} (stmt : StmtTree) (ready : Result Ready Refusal) (load : ℕ) → book_shown b ≡ seen → IsOutcome stmt ready load (state_of seen) → IsOutcome stmt ready load (state_of (book_shown b))
outcome_inside b stmt ready load is outcome = subst (λ (v : BookView). IsOutcome stmt ready load (state_of v)) (sym is) outcome

-- ## A change that is refused

module _ (b : Inside) (known : IsBook b) (stmt : Stmt) (load : ℕ) (load_is : load ≡ write_load (stmt_tree stmt) (state_of (book_shown b)).db) where
  abbrev before : LogState
  before = state_of (book_shown b)

  abbrev counted : LogState
  counted = record before { totals = with_work (write_load (stmt_tree stmt) before.db) before.totals }

  abbrev commit : LogState
  commit = after_commit (touched_by (stmt_tree stmt) before.db) (effect (stmt_tree stmt) before.db).0 (before.at + 1) counted

  pub refused_book : (new : Inside) (who : Who) (code count : ℕ) → IsQuiet b new (event_of who (act.Write (Some stmt) code count)) → IsFormed (stmt_tree stmt)
      → (code == 0) ≡ false → new.pool ≡ b.pool → new.totals ≡ with_pool new.pool (with_work load b.totals) → IsBook new
  refused_book new who code count quiet formed refused pool totals =
      let event : Event = event_of who (act.Write (Some stmt) code count) in
      quiet_book b new event known quiet (λ up. refl) (plain_state b new event (with_work load) known (record {
        log = quiet.log;
        options = quiet.options;
        store = quiet.store;
        may = (formed, λ zero. absurd (let wrong : true ≡ false = sym (eq-eqb code 0 zero) ∙ refused in cc));
        db = ap (λ b. (cond b commit counted).db) refused;
        versions = ap (λ b. (cond b commit counted).versions) refused;
        pool = ap (λ b. (cond b commit counted).pool) refused ∙ known.state.pool ∙ sym pool;
        counts = ap (λ b. with_pool (cond (code == 0) commit counted).pool (cond b commit counted).totals) refused ∙ ap (λ n. with_pool (cond (code == 0) commit counted).pool (with_work n before.totals)) (sym load_is);
        totals = totals;
        few = omega arith;
      }))

-- ## A change that is done

-- as many come back as are carried
pub back_is : (touched : Touched) (now : ℕ) (pool : PoolState) (carried : Carried) → IsCarried touched now pool carried → length carried.ids.items ≡ (write_of touched now pool).carried
back_is touched now pool carried brings = ap (λ (ids : List ℕ). length ids) brings.ids ∙ length-map (backs_of touched now pool) (λ (r : Return). r.old.id)

module _ (b : Inside) (known : IsBook b) (stmt : Stmt) (ready : Ready) (load : ℕ) (is : IsOutcome (stmt_tree stmt) (Ok ready) load (state_of (book_shown b))) (now : ℕ) (now_is : now ≡ length b.log.items + 1) where
  abbrev pub s : LogState
  s = state_of (book_shown b)

  abbrev pub tree : StmtTree
  tree = stmt_tree stmt

  abbrev pub touched : Touched
  touched = touched_by tree s.db

  moment : s.at + 1 ≡ now
  moment = ap (λ n. n + 1) (at_of b) ∙ sym now_is

  -- what the code has is what the state has
  to_state : (P : Touched → ℕ → PoolState → Type 0) → P ready.change.touched now b.pool → P touched (s.at + 1) s.pool
  to_state P p =
      subst (λ (pool : PoolState). P touched (s.at + 1) pool) (sym known.state.pool)
      (subst (λ n. P touched n b.pool) (sym moment) (subst (λ (t : Touched). P t now b.pool) is.touched p))

  from_state : (P : Touched → ℕ → PoolState → Type 0) → P touched (s.at + 1) s.pool → P ready.change.touched now b.pool
  from_state P p =
      subst (λ (t : Touched). P t now b.pool) (sym is.touched)
      (subst (λ n. P touched n b.pool) moment (subst (λ (pool : PoolState). P touched (s.at + 1) pool) known.state.pool p))

  pub change_prepared : IsPrepared ready.change b.store
  change_prepared = record { others = λ table column out. is.others table column out ∙ sym (known.state.versions table column) }

  pub change_later : b.pool.moment < now
  change_later = let later = later_of b known in omega (arith, later, now_is)

  pub change_early : now < 2 ^ 30
  change_early = let few = known.few in omega (arith, few, now_is)

  -- what the write does to the pool, by the code and by the state
  pub written_is : write_of ready.change.touched now b.pool ≡ write_of touched (s.at + 1) s.pool
  written_is = to_state (λ t n pool. write_of ready.change.touched now b.pool ≡ write_of t n pool) refl

  -- the tables after it
  pub change_db : (effect tree s.db).0 ≡ ready.change.content.db
  change_db = ap (λ (o : Db × Reply). o.0) is.effect

  pub few_change : length b.pool.entries ≤ 1024 → ((write_of ready.change.touched now b.pool).dropped + (write_of ready.change.touched now b.pool).carried) + (write_of ready.change.touched now b.pool).evicted ≤ 3072
  few_change few = few_written ready.change.touched now b.pool few

  module _ (carried : Carried) (brings : IsCarried ready.change.touched now b.pool carried) (short : AllByRecursion (λ (e : PoolEntry). length e.value < 2 ^ 62) carried.entries.items) where
    commits : IsCommit tree s
    commits = record {
      accepted = λ refusal refused. never_refused ready.rows refusal (sym (ap (λ (o : Db × Reply). o.1) is.effect) ∙ refused);
      short = short_back (backs_of touched (s.at + 1) s.pool) (to_state (λ t n pool. AllByRecursion (λ (e : PoolEntry). length e.value < 2 ^ 62) (map (λ (r : Return). r.new) (backs_of t n pool)))
          (subst (AllByRecursion (λ (e : PoolEntry). length e.value < 2 ^ 62)) brings.entries short));
    }

    pub change_fits : IsWrite ready.change.touched now b.pool
    change_fits = from_state IsWrite (commit_fits s tree known.state.sound commits)

    -- ## The versions after it

    module _ (new : Content) (db : new.db ≡ ready.change.content.db)
        (stamped : (table column : List ℕ) → is_of ready.change.touched table column ≡ true → has_column table column new.db ≡ true → version_of table column new ≡ now)
        (others : (table column : List ℕ) → is_of ready.change.touched table column ≡ false → version_of table column new ≡ version_of table column b.store) (table column : List ℕ) where
      abbrev there : Bool
      there = has_column table column (effect tree s.db).0

      same_db : (effect tree s.db).0 ≡ new.db
      same_db = change_db ∙ sym db

      as_touched : is_of ready.change.touched table column ≡ is_of touched table column
      as_touched = ap (λ (t : Touched). is_of t table column) is.touched

      as_there : has_column table column new.db ≡ there
      as_there = ap (has_column table column) (sym same_db)

      by_there : is_of touched table column ≡ true → (h : Bool) → there ≡ h → version_of table column new ≡ cond there (s.at + 1) 0
      by_there of true has = stamped table column (as_touched ∙ of) (as_there ∙ has) ∙ sym moment ∙ sym (ap (λ h. cond h (s.at + 1) 0) has)
      by_there of false none = absent_version table column new (as_there ∙ none) ∙ sym (ap (λ h. cond h (s.at + 1) 0) none)

      by_touch : (t : Bool) → is_of touched table column ≡ t → version_of table column new ≡ moved touched (effect tree s.db).0 (s.at + 1) s.versions table column
      by_touch true of = by_there of there refl ∙ sym (ap (λ t. cond t (cond there (s.at + 1) 0) (s.versions table column)) of)
      by_touch false out = others table column (as_touched ∙ out) ∙ known.state.versions table column ∙ sym (ap (λ t. cond t (cond there (s.at + 1) 0) (s.versions table column)) out)

      version_is : version_of table column new ≡ moved touched (effect tree s.db).0 (s.at + 1) s.versions table column
      version_is = by_touch (is_of touched table column) refl

    -- ## The book after it

    -- what it counts
    abbrev count : Totals → Totals
    count t = with_write (write_of touched (s.at + 1) s.pool) (with_work (write_load tree s.db) t)

    abbrev uncounted : LogState
    uncounted = record s { totals = with_work (write_load tree s.db) s.totals }

    abbrev done : LogState
    done = after_commit touched (effect tree s.db).0 (s.at + 1) uncounted

    counts_are : (dropped back evicted : ℕ) → dropped ≡ (write_of ready.change.touched now b.pool).dropped → back ≡ (write_of ready.change.touched now b.pool).carried → evicted ≡ (write_of ready.change.touched now b.pool).evicted
        → with_work carried.work (with_written dropped back evicted (with_work load b.totals)) ≡ count b.totals
    counts_are dropped back evicted dropped_is back_is evicted_is =
        (λ i. with_work (brings.work i) (with_written (dropped_is i) (back_is i) (evicted_is i) (with_work (is.work i) b.totals)))
        ∙ ap (λ (w : Written). with_write w (with_work (write_load tree s.db) b.totals)) written_is

    pub commit_book : (new : Inside) (who : Who) (code rows dropped back evicted : ℕ) → code ≡ 0 → new.log.items ≡ b.log.items ++ event_of who (act.Write (Some stmt) code rows) ∷ [] → new.pool.options ≡ b.pool.options → new.begun ≡ b.begun
        → length b.log.items + 18 ≤ vec_capacity new.log → length b.log.items < 2 ^ 29 → length b.pool.entries ≤ 1024
        → new.pool ≡ (write_of ready.change.touched now b.pool).pool → new.store.db ≡ ready.change.content.db
        → ((table column : List ℕ) → is_of ready.change.touched table column ≡ true → has_column table column new.store.db ≡ true → version_of table column new.store ≡ now)
        → ((table column : List ℕ) → is_of ready.change.touched table column ≡ false → version_of table column new.store ≡ version_of table column b.store)
        → dropped ≡ (write_of ready.change.touched now b.pool).dropped → back ≡ (write_of ready.change.touched now b.pool).carried → evicted ≡ (write_of ready.change.touched now b.pool).evicted
        → new.totals ≡ with_pool new.pool (with_work carried.work (with_written dropped back evicted (with_work load b.totals))) → IsBook new
    commit_book new who code rows dropped back evicted zero log options begun room few entries pool db stamped others dropped_is back_is evicted_is totals =
        let event : Event = event_of who (act.Write (Some stmt) code rows) in
        let accepted : (code == 0) ≡ true = ap (λ n. n == 0) zero in
        let moved_few = few_written touched (s.at + 1) s.pool (subst (λ (p : PoolState). length p.entries ≤ 1024) (sym known.state.pool) entries) in
        still_book b new event known log begun room few (λ up. refl) (next_state b new event count known (record {
          log = log;
          options = options;
          may = (is.formed, λ zero. commits);
          db = ap (λ b. (cond b done uncounted).db) accepted ∙ change_db ∙ sym db;
          versions = λ table column. version_is new.store db stamped others table column ∙ sym (ap (λ b. (cond b done uncounted).versions table column) accepted);
          pool = ap (λ b. (cond b done uncounted).pool) accepted ∙ ap (λ (w : Written). w.pool) (sym written_is) ∙ sym pool;
          counts = ap (λ b. with_pool (cond (code == 0) done uncounted).pool (cond b done uncounted).totals) accepted;
          totals = totals ∙ ap (λ (t : Totals). with_pool new.pool t) (counts_are dropped back evicted dropped_is back_is evicted_is);
          few = omega (arith, moved_few);
        }))

    -- the counter goes on with the work of the entries that come back
    pub carried_work : {seen : BookView} → book_shown b ≡ seen → (before after : ℕ) → after ≡ before + carried.work
        → after ≡ before + (write_of (touched_by tree (state_of seen).db) ((state_of seen).at + 1) (state_of seen).pool).work
    carried_work shown before after counted =
        counted ∙ ap (λ n. before + n) (brings.work ∙ ap (λ (w : Written). w.work) written_is)
        ∙ ap (λ (v : BookView). before + (write_of (touched_by tree (state_of v).db) ((state_of v).at + 1) (state_of v).pool).work) shown

    pub small_change : (dropped back evicted : ℕ) → length b.pool.entries ≤ 1024 → dropped ≡ (write_of ready.change.touched now b.pool).dropped → back ≡ (write_of ready.change.touched now b.pool).carried → evicted ≡ (write_of ready.change.touched now b.pool).evicted
        → AreSmall (with_work carried.work (with_written dropped back evicted (with_work load b.totals)))
    small_change dropped back evicted entries dropped_is back_is evicted_is =
        let at = at_of b in
        let few = known.few in
        let within = known.state.within in
        let moved_few = few_change entries in
        omega (arith, at, few, within, moved_few, dropped_is, back_is, evicted_is)

-- ## What the counter shows

-- the counter goes on from the load of the plan with the work of the entries that come back
pub write_counted : (b : Inside) → IsBook b → {seen : BookView} → book_shown b ≡ seen → (stmt : StmtTree) (load before between end_ : ℕ) → load ≡ write_load stmt b.store.db → Counts before between load (write_lost stmt b.store.db)
    → end_ ≡ between + return_work stmt (state_of seen) → Counts before end_ (write_work stmt (state_of seen)) (write_lost stmt (state_of seen).db)
write_counted b known is stmt load before between end_ load_is counts =
    subst (λ (v : BookView). end_ ≡ between + return_work stmt (state_of v) → Counts before end_ (write_work stmt (state_of v)) (write_lost stmt (state_of v).db)) is (λ more.
    let least = counts.least in
    let most = counts.most in
    let here : load ≡ write_load stmt (state_of (book_shown b)).db = load_is ∙ ap (write_load stmt) (sym known.state.db) in
    let lost : write_lost stmt b.store.db ≡ write_lost stmt (state_of (book_shown b)).db = ap (write_lost stmt) (sym known.state.db) in
    record { least = omega (arith, least, here, more); most = omega (arith, most, here, lost, more) })

-- ## What is logged

-- one event more of a log, as plain data
pub logged_tree : (old new : List Event) (event : Event) → new ≡ old ++ event ∷ [] → log_tree new ≡ log_tree old ++ event_tree event ∷ []
logged_tree old new event is = ap log_tree is ∙ map-append event_tree old (event ∷ [])

-- ## The work that is added

pub both_ok : {T E : Type 0} (r : Result T E) (P Q : T → Type 0) (R : Type 0) → ((x : T) → P x → Q x → R) → IfOk r P → IfOk r Q → IfOk r (λ x. R)
both_ok (Ok x) P Q R f p q = f x p q
both_ok (Err e) P Q R f p q = tt

module _ (s : LogState) (stmt : StmtTree) where
  abbrev loaded : LogState
  loaded = record s { totals = with_work (write_load stmt s.db) s.totals }

  abbrev committed : LogState
  committed = after_commit (touched_by stmt s.db) (effect stmt s.db).0 (s.at + 1) loaded

  work_by : (b : Bool) → (cond b committed loaded).totals.work ≡ s.totals.work + (write_load stmt s.db + cond b (write_of (touched_by stmt s.db) (s.at + 1) s.pool).work 0)
  work_by true = omega arith
  work_by false = omega arith

  work_after : (reply : Reply) → reply ≡ (effect stmt s.db).1 → (cond (code_of (shown_reply reply) == 0) committed loaded).totals.work ≡ s.totals.work + write_work stmt s
  work_after reply is =
      work_by (code_of (shown_reply reply) == 0)
      ∙ ap (λ (r : Reply). s.totals.work + (write_load stmt s.db + cond (code_of (shown_reply r) == 0) (write_of (touched_by stmt s.db) (s.at + 1) s.pool).work 0)) is

-- the state after one more event
state_behind : (old new : BookView) (event : Event) → new.options ≡ old.options → new.log ≡ old.log ++ event ∷ [] → state_of new ≡ after (state_of old) (event_tree event)
state_behind old new event options log =
    ap (λ (o : PoolOptions). run_of o (log_tree new.log)) options ∙ ap (run_of old.options) (logged_tree old.log new.log event log) ∙ run_more old.options (log_tree old.log) (event_tree event)

-- the state after a refused text
pub text_keeps : (old new : BookView) (who : Who) (code : ℕ) → new.options ≡ old.options → new.log ≡ old.log ++ event_of who (act.Write None code 0) ∷ [] → IsUntouched (state_of old) (state_of new)
text_keeps old new who code options log =
    subst (λ (s : LogState). IsUntouched (state_of old) s) (sym (state_behind old new (event_of who (act.Write None code 0)) options log)) (record { db = refl; versions = refl; pool = refl })

-- a write adds its work to the totals
pub work_added : (old new : BookView) (who : Who) (stmt : Stmt) (reply : Reply) → new.options ≡ old.options → new.log ≡ old.log ++ written_by who stmt reply ∷ [] → reply ≡ (effect (stmt_tree stmt) (state_of old).db).1
    → (state_of new).totals.work ≡ (state_of old).totals.work + write_work (stmt_tree stmt) (state_of old)
work_added old new who stmt reply options log is =
    ap (λ (s : LogState). s.totals.work) (state_behind old new (written_by who stmt reply) options log) ∙ work_after (state_of old) (stmt_tree stmt) reply is

-- ## What a refused write leaves

module _ (s : LogState) (stmt : StmtTree) where
  untouched_by : (b : Bool) → b ≡ false → IsUntouched s (cond b (committed s stmt) (loaded s stmt))
  untouched_by true accepted = cc
  untouched_by false refused = record { db = refl; versions = refl; pool = refl }

pub refused_keeps : (old new : BookView) (who : Who) (stmt : Stmt) (refusal : Refusal) → new.options ≡ old.options → new.log ≡ old.log ++ written_by who stmt (Refused refusal) ∷ []
    → IsUntouched (state_of old) (state_of new)
refused_keeps old new who stmt refusal options log =
    let kept = untouched_by (state_of old) (stmt_tree stmt) (refusal_number refusal == 0) (refused_code refusal) in
    subst (λ (s : LogState). IsUntouched (state_of old) s) (sym (state_behind old new (written_by who stmt (Refused refusal)) options log)) (record { db = kept.db; versions = kept.versions; pool = kept.pool })
