-- Passes that are split from the first one for sessions, and joined to it again.
use Rattle.std.proofs.Common.{◌≡◌, ◌≢◌, ℕ, suc, ◌+◌, ◌≤◌, ◌<◌, List, [], ◌∷◌, ◌++◌, length, map, get_or, Bool, Some, Ok, Result, refl, ap, sym, ◌∙◌, subst, arith}
use Rattle.std.specs.Prelude.{slice_get, unwrap_or, IfOk, IsSome, if◌then◌else◌}
use Rattle.std.specs.Option.{option_map}
use Rattle.std.proofs.lemmas.Bool.{ne_eqb}
use Rattle.std.proofs.lemmas.List.{get_or-map, length-map, map-append}
use Rattle.std.proofs.lemmas.Option.{get_or_from_slice_get, slice_get-get_or, slice_get-map, slice_get_within}
use Rattle.cell_core.specs.declared.memory.Memory.{Memory}
use Rattle.pool_policy.specs.declared.options.PoolOptions.{PoolOptions}
use Rattle.run_log.specs.declared.event.Event.{Event}
use Rattle.run_log.specs.Events.{log_tree}
use Rattle.turn_hall.specs.declared.hall.Hall.{Hall}
use Rattle.turn_hall.specs.declared.hall.Pass.{Pass}
use Rattle.turn_hall.specs.Entries.{StartsWith, entries_by, kept_under}
use Rattle.turn_hall.specs.Passes.{IsFree, IsPassOf, entries_under, joined_passes, own_entries, pass_number, seen_by, split_count}
use Rattle.turn_hall.proofs.Lists.{kept_under-else, kept_under-here}
use Rattle.session_run.specs.declared.session.Session.{Session}
use Rattle.session_run.specs.Stages.{MayBegin}
use Rattle.run_sessions.specs.Tables.{AreOver, IsOver, scripts_of}
use Rattle.run_sessions.proofs.PlaceLemmas.{append_all, map_there, same_or}
use Rattle.thread_sessions.specs.declared.runner.Runner.{Runner}
use Rattle.thread_sessions.specs.Runners.{IsAt, IsWith, session_of}
use Rattle.thread_sessions.specs.Runs.{AreJoined, AreRunners, AreSet, HasNoneBeside, HasRunOut, HaveSeen, IsFirst, IsJoined, IsRunner, sessions_of}
use Rattle.thread_sessions.proofs.ListLemmas.{starts_then}

-- ## A pass for each session

module _ {V : Type 0} where
  -- one more pass is split
  pub split_first : (hall : Hall V Event) (old new : Pass V Event) (n : ℕ) → IsFirst hall old n 0 → IsPassOf hall new × IsFree new → pass_number new ≡ pass_number old → split_count new ≡ split_count old + 1
      → joined_passes new ≡ joined_passes old → own_entries new ≡ own_entries old → IsFirst hall new (n + 1) 0
  split_first hall old new n f kept number counted joined own = record {
    ours = kept.0;
    free = kept.1;
    number = number ∙ f.number;
    splits_are = counted ∙ ap (λ k. k + 1) f.splits_are;
    own = own ∙ f.own;
    under = λ k low high. absurd (let no : ⊥ = omega (arith, low, high) in no);
    beyond = λ k low. ap (kept_under k) joined ∙ f.beyond k low;
  }

  -- one more session has its script
  pub scripts_more : (runners : List (Runner V Event)) (runner : Runner V Event) → scripts_of (sessions_of (runners ++ runner ∷ [])) ≡ scripts_of (sessions_of runners) ++ runner.session.pieces ∷ []
  scripts_more [] runner = refl
  scripts_more (first ∷ runners) runner = ap (λ scripts. first.session.pieces ∷ scripts) (scripts_more runners runner)

  -- and goes through its plans as the others
  pub set_more : (wide : Bool) (runners : List (Runner V Event)) (runner : Runner V Event) → (runner.session.wide ≡ wide) × MayBegin runner.session.stage → AreSet wide (sessions_of runners) → AreSet wide (sessions_of (runners ++ runner ∷ []))
  set_more wide runners runner is are =
      subst (AreSet wide) (sym (map-append (λ (r : Runner V Event). r.session) runners (runner ∷ []))) (append_all (λ place (z : Session). (z.wide ≡ wide) × MayBegin z.stage) (sessions_of runners) runner.session is are)

  -- and its number
  pub runners_more : (options : PoolOptions) (hall : Hall V Event) (runners : List (Runner V Event)) (runner : Runner V Event) → runner.session.number ≡ length runners + 1 → IsRunner options hall runner → AreRunners options hall runners
      → AreRunners options hall (runners ++ runner ∷ [])
  runners_more options hall runners runner number is are = append_all (λ place (r : Runner V Event). (r.session.number ≡ place + 1) × IsRunner options hall r) runners runner (number, is) are

  -- a session that has not begun agrees with the empty log, as its pass has seen nothing
  pub starts_with : (options : PoolOptions) (old other : Pass V Event) (x : Session) → IsFree other → x.number ≡ pass_number other → seen_by other ≡ seen_by old → seen_by old ≡ [] → own_entries other ≡ [] → IsAt options [] x → IsWith options other x
  starts_with options old other x free number seen none own at = record {
    free = free;
    number = number;
    own = ap (entries_by session_of (pass_number other)) (seen ∙ none) ∙ sym own;
    at = subst (λ (l : List Event). IsAt options (log_tree l) x) (sym (seen ∙ none)) at;
  }

  -- ## Threads

  module _ (options : PoolOptions) (hall : Hall V Event) where
    -- each of the sessions came back, at its end
    pub record HaveComeBack (before after : List (Runner V Event)) : Type 0 where
      pub long : length after ≡ length before
      pub each : (place : ℕ) (x y : Runner V Event) → slice_get before place ≡ Some x → slice_get after place ≡ Some y → HasRunOut options hall x y

    came_back : (before after : List (Runner V Event)) (results : List (Result (Runner V Event) Memory)) → length results ≡ length before
        → ((place : ℕ) (r : Result (Runner V Event) Memory) (runner : Runner V Event) → place < length before → IfOk (get_or results place r) (λ y. HasRunOut options hall (get_or before place runner) y)) → map Ok after ≡ results
        → HaveComeBack before after
    came_back before after results long each all = record {
      long = (let ok : Runner V Event → Result (Runner V Event) Memory = Ok in sym (length-map after ok) ∙ ap length all ∙ long);
      each = λ place x y was is.
          let low = slice_get_within after place y is in
          let high = slice_get_within before place x was in
          let found : get_or results place (Ok y) ≡ Ok y = ap (λ rs. get_or rs place (Ok y)) (sym all) ∙ get_or-map Ok after place y (Ok y) low ∙ ap Ok (get_or_from_slice_get after place y y is) in
          subst (λ (x : Runner V Event). HasRunOut options hall x y) (get_or_from_slice_get before place x x was) (subst (λ r. IfOk r (λ y. HasRunOut options hall (get_or before place x) y)) found (each place (Ok y) x high));
    }

    -- the runner that was at the place of this one
    before_it : {P : Type 0} (before after : List (Runner V Event)) → HaveComeBack before after → (place : ℕ) (y : Runner V Event) → slice_get after place ≡ Some y → ((x : Runner V Event) → slice_get before place ≡ Some x → HasRunOut options hall x y → P) → P
    before_it before after c place y is found =
        let low = slice_get_within after place y is in
        let long = c.long in
        let was = slice_get-get_or before place y (omega (arith, low, long)) in
        found (get_or before place y) was (c.each place (get_or before place y) y was is)

    back_scripts : (before after : List (Runner V Event)) → HaveComeBack before after → scripts_of (sessions_of after) ≡ scripts_of (sessions_of before)
    back_scripts [] [] c = refl
    back_scripts [] (y ∷ after) c = absurd (let long = c.long in let no : ⊥ = omega (arith, long) in no)
    back_scripts (x ∷ before) [] c = absurd (let long = c.long in let no : ⊥ = omega (arith, long) in no)
    back_scripts (x ∷ before) (y ∷ after) c =
        let long = c.long in
        let first = (c.each 0 x y refl refl).pieces in
        let more = back_scripts before after (record { long = omega (arith, long); each = λ place w z was is. c.each (suc place) w z was is }) in
        λ i. first i ∷ more i

    pub session_there : (runners : List (Runner V Event)) (place : ℕ) (x : Runner V Event) → slice_get runners place ≡ Some x → slice_get (sessions_of runners) place ≡ Some x.session
    session_there runners place x there = slice_get-map (λ (r : Runner V Event). r.session) runners place ∙ ap (option_map (λ (r : Runner V Event). r.session)) there

    -- they are sessions with the same scripts, and are over
    pub record AreBack (wide : Bool) (before after : List (Runner V Event)) : Type 0 where
      pub long : length after ≡ length before
      pub scripts : scripts_of (sessions_of after) ≡ scripts_of (sessions_of before)
      pub runners : AreRunners options hall after
      pub set : AreSet wide (sessions_of after)
      pub over : AreOver (length after) (sessions_of after)

    pub are_back : (wide : Bool) (before after : List (Runner V Event)) (results : List (Result (Runner V Event) Memory)) → AreRunners options hall before → AreSet wide (sessions_of before) → length results ≡ length before
        → ((place : ℕ) (r : Result (Runner V Event) Memory) (runner : Runner V Event) → place < length before → IfOk (get_or results place r) (λ y. HasRunOut options hall (get_or before place runner) y)) → map Ok after ≡ results
        → AreBack wide before after
    are_back wide before after results were set length_is each all =
        let c = came_back before after results length_is each all in
        record {
          long = c.long;
          scripts = back_scripts before after c;
          runners = λ place y is. before_it before after c place y is (λ x was h. (h.number ∙ (were place x was).0, h.runner));
          set = λ place s there. map_there (λ (r : Runner V Event). r.session) after place s there
              (λ y is same. subst (λ (z : Session). (z.wide ≡ wide) × MayBegin z.stage) same (before_it before after c place y is
              (λ x was h. (h.wide ∙ (set place x.session (session_there before place x was)).0, subst MayBegin (sym h.over.between) tt))));
          over = λ place s low there. map_there (λ (r : Runner V Event). r.session) after place s there (λ y is same. subst IsOver same (before_it before after c place y is (λ x was h. h.over)));
        }

  -- ## Joining

  -- one pass is joined
  pub join_first : (hall : Hall V Event) (old new other : Pass V Event) (n m : ℕ) → IsFirst hall old n m → pass_number other ≡ m + 1 → IsPassOf hall new → IsFree new → joined_passes new ≡ (pass_number other, own_entries other) ∷ joined_passes old
      → pass_number new ≡ pass_number old → split_count new ≡ split_count old → own_entries new ≡ own_entries old → IsFirst hall new n (m + 1)
  join_first hall old new other n m f next ours free joined number splits own = record {
    ours = ours;
    free = free;
    number = number ∙ f.number;
    splits_are = splits ∙ f.splits_are;
    own = own ∙ f.own;
    under = λ k low high. subst (λ js. IsSome (kept_under k js)) (sym joined)
        (same_or k (m + 1)
        (λ same. subst IsSome (sym (kept_under-here k (pass_number other) (own_entries other) (joined_passes old) (next ∙ sym same))) refl)
        (λ apart. subst IsSome (sym (kept_under-else k (pass_number other) (own_entries other) (joined_passes old) (λ e. apart (sym e ∙ next)))) (f.under k low (omega (arith, high, apart)))));
    beyond = λ k low. ap (kept_under k) joined ∙ kept_under-else k (pass_number other) (own_entries other) (joined_passes old) (λ e. omega (arith, e, next, low)) ∙ f.beyond k (omega (arith, low));
  }

  module _ (options : PoolOptions) (old new other : Pass V Event) (joined : joined_passes new ≡ (pass_number other, own_entries other) ∷ joined_passes old) where
    joined_here : (x : Session) → IsWith options other x → StartsWith (seen_by new) (seen_by other) → IsJoined options new x
    joined_here x w begins = record {
      seen = seen_by other;
      begins = begins;
      kept = ap (kept_under x.number) joined ∙ kept_under-here x.number (pass_number other) (own_entries other) (joined_passes old) (sym w.number) ∙ ap Some (sym w.own ∙ ap (λ n. entries_by session_of n (seen_by other)) (sym w.number));
      at = w.at;
    }

    joined_before : (x : Session) → x.number ≢ pass_number other → StartsWith (seen_by new) (seen_by old) → IsJoined options old x → IsJoined options new x
    joined_before x apart begins j = record {
      seen = j.seen;
      begins = starts_then j.seen (seen_by old) (seen_by new) j.begins begins;
      kept = ap (kept_under x.number) joined ∙ kept_under-else x.number (pass_number other) (own_entries other) (joined_passes old) (λ e. apart (sym e)) ∙ j.kept;
      at = j.at;
    }

    -- one more session is joined
    pub join_more : (sessions : List Session) (x : Session) → x.number ≡ length sessions + 1 → IsWith options other x → StartsWith (seen_by new) (seen_by old) × StartsWith (seen_by new) (seen_by other)
        → AreJoined options old sessions → AreJoined options new (sessions ++ x ∷ [])
    join_more sessions x number w begins were =
        append_all (λ place z. (z.number ≡ place + 1) × IsJoined options new z) sessions x (number, joined_here x w begins.1)
        (λ place z there.
        let was = were place z there in
        let low = slice_get_within sessions place z there in
        let at = was.0 in
        let next : pass_number other ≡ length sessions + 1 = sym w.number ∙ number in
        (at, joined_before z (λ e. omega (arith, e, at, next, low)) begins.0 was.1))

  -- ## The close

  under_apart : (first : Pass V Event) (number : ℕ) → number ≢ 0 → entries_under first number ≡ unwrap_or (kept_under number (joined_passes first)) []
  under_apart first number apart = ap (λ b. if b then own_entries first else unwrap_or (kept_under number (joined_passes first)) []) (ne_eqb number 0 apart)

  module _ (hall : Hall V Event) (first : Pass V Event) (n : ℕ) (f : IsFirst hall first n n) where
    pub all_joined : (k : ℕ) → 0 < k → k ≤ split_count first → IsSome (kept_under k (joined_passes first))
    all_joined k low high = let splits = f.splits_are in f.under k low (omega (arith, high, splits))

    module _ (list : List Event) (each : (number : ℕ) → entries_by session_of number list ≡ entries_under first number) where
      -- no entry is of another number than those of the sessions
      pub none_beside : HasNoneBeside n list
      none_beside = (
        each 0 ∙ f.own,
        λ number low. each number ∙ under_apart first number (λ none. omega (arith, low, none)) ∙ ap (λ kept. unwrap_or kept []) (f.beyond number low),
      )

      -- each session has seen all that is its own
      pub have_seen : (options : PoolOptions) (sessions : List Session) → AreJoined options first sessions → StartsWith list (seen_by first) → HaveSeen options list sessions
      have_seen options sessions joined begins place x there =
          let j = (joined place x there).1 in
          let number = (joined place x there).0 in (
            number,
            record {
              seen = j.seen;
              begins = starts_then j.seen (seen_by first) list j.begins begins;
              own = each x.number ∙ under_apart first x.number (λ none. omega (arith, number, none)) ∙ ap (λ kept. unwrap_or kept []) j.kept;
              at = j.at;
            },
          )
