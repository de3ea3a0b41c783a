-- One more event.
use Rattle.std.proofs.Common.{◌≡◌, ℕ, ◌+◌, ◌≤◌, ◌<◌, List, [], ◌∷◌, ◌++◌, length, Bool, true, false, cond, refl, ap, sym, ◌∙◌, subst, arith, length-append}
use Rattle.std.specs.Prelude.{fold, get_or, slice_set, ◌==◌, ◌^◌, Option, None}
use Rattle.std.proofs.lemmas.List.{map-append, length-map, length-set}
use Rattle.std.specs.Vec.{vec_capacity}
use Rattle.mal_meaning.specs.declared.plan.Plan.{Plan}
use Rattle.lineage_key.specs.declared.key.Key.{Key}
use Rattle.pool_policy.specs.declared.entry.Who.{Who}
use Rattle.pool_policy.specs.declared.options.PoolOptions.{PoolOptions}
use Rattle.pool_policy.specs.Pool.{PoolState}
use Rattle.pool_policy.specs.Looks.{after_look}
use Rattle.pool_policy.specs.Admits.{release_of}
use Rattle.pool_policy.specs.Versions.{Versions}
use Rattle.table_store.specs.Content.{Content, version_of}
use Rattle.run_log.specs.declared.event.Event.{Event}
use Rattle.run_log.specs.declared.event.Act.TheVariants as act
use Rattle.run_log.specs.declared.event.FoundLog.{FoundLog}
use Rattle.run_log.specs.declared.event.Totals.{Totals}
use Rattle.run_log.specs.Events.{EventTree, act_tree, event_tree, log_tree}
use Rattle.run_log.specs.Fold.{LogState, after, log_start, run_of}
use Rattle.run_log.specs.Laws.{MayFollow}
use Rattle.run_log.specs.Totals.{AreSmall, AreWithin, count_sum, with_look, with_pool}
use Rattle.run_log.proofs.LogLemmas.{logs_tell_holds, run_more}
use Rattle.run_log.proofs.WithinLemmas.{event_within, look_sum, small_within}
use Rattle.run_log.proofs.StepLemmas.{steps_keep_holds}
use Rattle.book_core.specs.declared.book.Book.TheInside.{Inside}
use Rattle.book_core.specs.BookView.{and_opened, event_of, is_open, opened_by, state_of}
use Rattle.book_core.specs.Kept.{IsBook, IsStateOf, book_shown, open_count}
use Rattle.book_core.specs.Lawful.{FollowAll, IsLawful}
use Rattle.book_core.specs.Versions.{HasVersions}
use Rattle.book_core.proofs.OpenLemmas.{few_up, flag_set, one_down}

-- the state after one more event
pub state_more : (old new : Inside) (event : Event) → new.log.items ≡ old.log.items ++ event ∷ [] → new.pool.options ≡ old.pool.options
    → state_of (book_shown new) ≡ after (state_of (book_shown old)) (event_tree event)
state_more old new event log options =
    ap (λ (o : PoolOptions). run_of o (log_tree new.log.items)) options
    ∙ ap (λ (es : List Event). run_of old.pool.options (log_tree es)) log
    ∙ ap (run_of old.pool.options) (map-append event_tree old.log.items (event ∷ []))
    ∙ run_more old.pool.options (log_tree old.log.items) (event_tree event)

-- what a session has opened after one more event
pub open_more : (old new : Inside) (event : Event) (session : ℕ) → new.log.items ≡ old.log.items ++ event ∷ []
    → is_open session (book_shown new) ≡ and_opened session (is_open session (book_shown old)) (event_tree event)
open_more old new event session log =
    ap (λ (es : List Event). fold (and_opened session) false (log_tree es)) log
    ∙ ap (fold (and_opened session) false) (map-append event_tree old.log.items (event ∷ []))
    ∙ fold_more false (log_tree old.log.items)
  where
    fold_more : (b : Bool) (es : List EventTree) → fold (and_opened session) b (es ++ event_tree event ∷ []) ≡ and_opened session (fold (and_opened session) b es) (event_tree event)
    fold_more b [] = refl
    fold_more b (e ∷ es) = fold_more (and_opened session b e) es

-- the parts of the state after an event are those of the new book, and it counts little
pub record IsNext (old new : Inside) (event : Event) (count : Totals → Totals) : Type 0 where
  pub log : new.log.items ≡ old.log.items ++ event ∷ []
  pub options : new.pool.options ≡ old.pool.options
  pub may : MayFollow (state_of (book_shown old)) (act_tree event.act)
  pub db : (after (state_of (book_shown old)) (event_tree event)).db ≡ new.store.db
  pub versions : HasVersions (after (state_of (book_shown old)) (event_tree event)).versions new.store
  pub pool : (after (state_of (book_shown old)) (event_tree event)).pool ≡ new.pool
  pub counts : (after (state_of (book_shown old)) (event_tree event)).totals ≡ with_pool (after (state_of (book_shown old)) (event_tree event)).pool (count (state_of (book_shown old)).totals)
  pub totals : new.totals ≡ with_pool new.pool (count old.totals)
  pub few : count_sum (count old.totals) ≤ count_sum old.totals + 4095

-- a lawful log goes on with what may follow it
lawful_more : (old new : Inside) (event : Event) → new.log.items ≡ old.log.items ++ event ∷ [] → new.pool.options ≡ old.pool.options
    → IsLawful old.pool.options (log_tree old.log.items) → MayFollow (state_of (book_shown old)) (act_tree event.act) → IsLawful new.pool.options (log_tree new.log.items)
lawful_more old new event log options lawful may =
    subst (λ (o : PoolOptions). IsLawful o (log_tree new.log.items)) (sym options)
    (subst (IsLawful old.pool.options) (sym (ap log_tree log ∙ map-append event_tree old.log.items (event ∷ []))) (go (log_start old.pool.options) (log_tree old.log.items) lawful may))
  where
    go : (s : LogState) (es : List EventTree) → FollowAll s es → MayFollow (fold after s es) (act_tree event.act) → FollowAll s (es ++ event_tree event ∷ [])
    go s [] all may = (may, tt)
    go s (e ∷ es) all may = (all.0, go (after s e) es all.1 may)

pub next_state : (old new : Inside) (event : Event) (count : Totals → Totals) → IsBook old → IsNext old new event count → IsStateOf (state_of (book_shown new)) new
next_state old new event count known next =
    let at = (state_of (book_shown old)).at in
    let within : AreWithin (at + 1) (with_pool new.pool (count old.totals)) = event_within at (count old.totals) new.pool 4095 old.totals next.few (omega arith) known.state.within in
    subst (λ (s : LogState). IsStateOf s new) (sym (state_more old new event next.log next.options)) (record {
      lawful = lawful_more old new event next.log next.options known.state.lawful next.may;
      sound = steps_keep_holds.sound (state_of (book_shown old)) (event_tree event) known.state.sound next.may;
      db = next.db;
      versions = next.versions;
      pool = next.pool;
      totals = next.counts ∙ (λ i. with_pool (next.pool i) (count (known.state.totals i))) ∙ sym next.totals;
      within = subst (AreWithin (at + 1)) (sym next.totals) within;
    })

-- an event that leaves the tables as they are
pub record IsPlain (old new : Inside) (event : Event) (count : Totals → Totals) : Type 0 where
  pub log : new.log.items ≡ old.log.items ++ event ∷ []
  pub options : new.pool.options ≡ old.pool.options
  pub store : new.store ≡ old.store
  pub may : MayFollow (state_of (book_shown old)) (act_tree event.act)
  pub db : (after (state_of (book_shown old)) (event_tree event)).db ≡ (state_of (book_shown old)).db
  pub versions : (after (state_of (book_shown old)) (event_tree event)).versions ≡ (state_of (book_shown old)).versions
  pub pool : (after (state_of (book_shown old)) (event_tree event)).pool ≡ new.pool
  pub counts : (after (state_of (book_shown old)) (event_tree event)).totals ≡ with_pool (after (state_of (book_shown old)) (event_tree event)).pool (count (state_of (book_shown old)).totals)
  pub totals : new.totals ≡ with_pool new.pool (count old.totals)
  pub few : count_sum (count old.totals) ≤ count_sum old.totals + 4095

pub plain_state : (old new : Inside) (event : Event) (count : Totals → Totals) → IsBook old → IsPlain old new event count → IsStateOf (state_of (book_shown new)) new
plain_state old new event count known plain = next_state old new event count known (record {
  log = plain.log;
  options = plain.options;
  may = plain.may;
  db = plain.db ∙ known.state.db ∙ ap (λ (c : Content). c.db) (sym plain.store);
  versions = λ table column. ap (version_of table column) plain.store ∙ known.state.versions table column ∙ ap (λ (vs : Versions). vs table column) (sym plain.versions);
  pool = plain.pool;
  counts = plain.counts;
  totals = plain.totals;
  few = plain.few;
})

-- an event of a session that opens and closes nothing
pub same_open : (old new : Inside) (event : Event) → IsBook old → new.log.items ≡ old.log.items ++ event ∷ [] → ((up : Bool) → opened_by (act_tree event.act) up ≡ up) → new.begun ≡ old.begun
    → (session : ℕ) → session < 17 → is_open session (book_shown new) ≡ get_or new.begun session false
same_open old new event known log same up session low =
    open_more old new event session log
    ∙ elim (event.session == session) as (λ b. cond b (opened_by (act_tree event.act) (is_open session (book_shown old))) (is_open session (book_shown old)) ≡ is_open session (book_shown old)) [
      | true ↦ same (is_open session (book_shown old))
      | false ↦ refl
    ]
    ∙ known.opened session low ∙ ap (λ (flags : List Bool). get_or flags session false) (sym up)

-- ## What an event that opens and closes nothing leaves

pub record IsQuiet (old new : Inside) (event : Event) : Type 0 where
  pub log : new.log.items ≡ old.log.items ++ event ∷ []
  pub options : new.pool.options ≡ old.pool.options
  pub store : new.store ≡ old.store
  pub begun : new.begun ≡ old.begun
  pub room : length old.log.items + 18 ≤ vec_capacity new.log
  pub few : length old.log.items < 2 ^ 29

pub log_long : (old new : Inside) (event : Event) → new.log.items ≡ old.log.items ++ event ∷ [] → length new.log.items ≡ length old.log.items + 1
log_long old new event log = let long = length-append old.log.items (event ∷ []) in ap (λ (es : List Event). length es) log ∙ omega (arith, long)

pub at_of : (b : Inside) → (state_of (book_shown b)).at ≡ length b.log.items
at_of b = logs_tell_holds.at b.pool.options (log_tree b.log.items) ∙ length-map b.log.items event_tree

-- there is room for it and the Ends after it
pub still_book : (old new : Inside) (event : Event) → IsBook old → new.log.items ≡ old.log.items ++ event ∷ [] → new.begun ≡ old.begun → length old.log.items + 18 ≤ vec_capacity new.log → length old.log.items < 2 ^ 29
    → ((up : Bool) → opened_by (act_tree event.act) up ≡ up) → IsStateOf (state_of (book_shown new)) new → IsBook new
still_book old new event known log begun room few same state =
    let long = log_long old new event log in
    let flags = few_up new.begun (ap (λ (xs : List Bool). length xs) begun ∙ known.sessions) in record {
      state = state;
      sessions = ap (λ (xs : List Bool). length xs) begun ∙ known.sessions;
      opened = same_open old new event known log same begun;
      room = omega (arith, long, flags, room);
      few = omega (arith, long, flags, few);
    }

pub quiet_book : (old new : Inside) (event : Event) → IsBook old → IsQuiet old new event → ((up : Bool) → opened_by (act_tree event.act) up ≡ up)
    → IsStateOf (state_of (book_shown new)) new → IsBook new
quiet_book old new event known quiet same state = still_book old new event known quiet.log quiet.begun quiet.room quiet.few same state

-- ## A look

pub look_book : (old new : Inside) (who : Who) (instr : ℕ) (key : Key) (found : FoundLog) → IsBook old → IsQuiet old new (event_of who (act.Look instr key found))
    → new.pool ≡ after_look who (length old.log.items + 1) key old.pool → new.totals ≡ with_pool new.pool (with_look found old.totals) → IsBook new
look_book old new who instr key found known quiet pool totals =
    let event : Event = event_of who (act.Look instr key found) in
    let counted = look_sum old.totals found in
    quiet_book old new event known quiet (λ up. refl) (plain_state old new event (with_look found) known (record {
      log = quiet.log;
      options = quiet.options;
      store = quiet.store;
      may = tt;
      db = refl;
      versions = refl;
      pool = (λ i. after_look who (at_of old i + 1) key (known.state.pool i)) ∙ sym pool;
      counts = refl;
      totals = totals;
      few = omega (arith, counted);
    }))

-- ## A text that is refused

pub text_book : (old new : Inside) (who : Who) (code : ℕ) → IsBook old → IsQuiet old new (event_of who (act.Write None code 0)) → new.pool ≡ old.pool → new.totals ≡ with_pool new.pool old.totals → IsBook new
text_book old new who code known quiet pool totals =
    let event : Event = event_of who (act.Write None code 0) in
    quiet_book old new event known quiet (λ up. refl) (plain_state old new event (λ t. t) known (record {
      log = quiet.log;
      options = quiet.options;
      store = quiet.store;
      may = tt;
      db = refl;
      versions = refl;
      pool = known.state.pool ∙ sym pool;
      counts = refl;
      totals = totals;
      few = omega arith;
    }))

-- ## What the calls below ask for

pub small_of : (b : Inside) → IsBook b → AreSmall b.totals
small_of b known =
    let at = at_of b in
    let few = known.few in
    small_within (state_of (book_shown b)).at b.totals (omega (arith, at, few)) known.state.within

pub later_of : (b : Inside) → IsBook b → b.pool.moment < length b.log.items + 1
later_of b known =
    let at = at_of b in
    let early : b.pool.moment ≤ (state_of (book_shown b)).at = subst (λ (p : PoolState). p.moment ≤ (state_of (book_shown b)).at) known.state.pool known.state.sound.moment in
    omega (arith, at, early)

pub small_look : (b : Inside) (found : FoundLog) → IsBook b → AreSmall (with_look found b.totals)
small_look b found known =
    let at = at_of b in
    let few = known.few in
    let within = known.state.within in
    let counted = look_sum b.totals found in
    omega (arith, at, few, within, counted)

-- ## The end of a query

pub end_book : (old new : Inside) (who : Who) (code : ℕ) → who.session < 17 → IsBook old → is_open who.session (book_shown old) ≡ true
    → new.log.items ≡ old.log.items ++ event_of who (act.End code) ∷ [] → vec_capacity old.log ≤ vec_capacity new.log
    → new.pool ≡ release_of who.session old.pool → new.store ≡ old.store → new.totals ≡ with_pool new.pool old.totals → new.begun ≡ slice_set old.begun who.session false → IsBook new
end_book old new who code low known up log room_kept pool store totals begun =
    let event : Event = event_of who (act.End code) in
    let long = log_long old new event log in
    let flag : get_or old.begun who.session false ≡ true = sym (known.opened who.session low) ∙ up in
    let sessions = known.sessions in
    let down = one_down old.begun who.session (omega (arith, low, sessions)) flag in
    let counted : open_count new.begun + 1 ≡ open_count old.begun = ap (λ (flags : List Bool). open_count flags + 1) begun ∙ down in
    let room = known.room in
    let few = known.few in record {
      state = plain_state old new event (λ t. t) known (record {
        log = log;
        options = ap (λ (p : PoolState). p.options) pool;
        store = store;
        may = tt;
        db = refl;
        versions = refl;
        pool = ap (release_of who.session) known.state.pool ∙ sym pool;
        counts = refl;
        totals = totals;
        few = omega arith;
      });
      sessions = ap (λ (flags : List Bool). length flags) begun ∙ length-set old.begun who.session false ∙ known.sessions;
      opened = λ session below. open_more old new event session log ∙ flag_set old.begun who.session session false (is_open session (book_shown old)) (omega (arith, low, sessions)) (known.opened session below) ∙ ap (λ (flags : List Bool). get_or flags session false) (sym begun);
      room = omega (arith, long, counted, room, room_kept);
      few = omega (arith, long, counted, few);
    }

-- ## The begin of a query

pub begin_book : (old new : Inside) (who : Who) (code : ℕ) (plan : Option Plan) → who.session < 17 → IsBook old
    → new.log.items ≡ old.log.items ++ event_of who (act.Begin code plan) ∷ [] → length old.log.items + 18 ≤ vec_capacity new.log → length old.log.items < 2 ^ 29
    → new.pool ≡ old.pool → new.store ≡ old.store → new.totals ≡ with_pool new.pool old.totals → new.begun ≡ slice_set old.begun who.session true → IsBook new
begin_book old new who code plan low known log room few pool store totals begun =
    let event : Event = event_of who (act.Begin code plan) in
    let long = log_long old new event log in
    let sessions = ap (λ (flags : List Bool). length flags) begun ∙ length-set old.begun who.session true ∙ known.sessions in
    let held = known.sessions in
    let flags = few_up new.begun sessions in record {
      state = plain_state old new event (λ t. t) known (record {
        log = log;
        options = ap (λ (p : PoolState). p.options) pool;
        store = store;
        may = tt;
        db = refl;
        versions = refl;
        pool = known.state.pool ∙ sym pool;
        counts = refl;
        totals = totals;
        few = omega arith;
      });
      sessions = sessions;
      opened = λ session below. open_more old new event session log ∙ flag_set old.begun who.session session true (is_open session (book_shown old)) (omega (arith, low, held)) (known.opened session below) ∙ ap (λ (flags : List Bool). get_or flags session false) (sym begun);
      room = omega (arith, long, flags, room);
      few = omega (arith, long, flags, few);
    }
