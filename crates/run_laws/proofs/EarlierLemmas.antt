-- Events of earlier statements of a session are before the place of a later one.
use Rattle.std.proofs.Common.{◌≡◌, ℕ, zero, suc, ◌+◌, ◌-◌, ◌≤◌, ◌<◌, List, [], ◌∷◌, ◌++◌, map, take, length, Bool, true, false, ◌&&◌, cond, Option, Some, None, refl, ap, sym, ◌∙◌, subst, arith, get_or}
use Rattle.std.specs.Prelude.{filter, slice_get, ◌==◌}
use Rattle.std.specs.List.{AllByRecursion, cons_option}
use Rattle.std.proofs.lemmas.Bool.{eq-eqb, eqb-true}
use Rattle.std.proofs.lemmas.Option.{same_Some, slice_get-get_or}
use Rattle.sql_tree.specs.Tree.{StmtTree}
use Rattle.run_log.specs.Events.{ActTree, EventTree, commits, committed}
use Rattle.answer_text.specs.Log.{AreStatements, IsOrdered, Said, is_opening, is_place, logged_of, statement_place}
use Rattle.session_run.proofs.LogLemmas.{place_above}
use Rattle.run_sessions.proofs.PlaceLemmas.{none_there}
use Rattle.run_laws.specs.Laws.{BeginsWith, HasPlace, IsEarlier, SeesOwn, commits_met}

-- ## Statements rise

abbrev IsRising : ℕ → List (ℕ × ActTree) → Type 0
IsRising low [] = Unit {0}
IsRising low (entry ∷ entries) = (low ≤ entry.0) × IsRising entry.0 entries

rising_lower : (low lower : ℕ) (entries : List (ℕ × ActTree)) → lower ≤ low → IsRising low entries → IsRising lower entries
rising_lower low lower [] under up = tt
rising_lower low lower (entry ∷ entries) under up = let first = up.0 in (omega (arith, under, first), up.1)

rising_acts : (k : ℕ) (acts : List ActTree) (later : List (ℕ × ActTree)) → IsRising k later → IsRising k (map {B = ℕ × ActTree} (λ act. (k, act)) acts ++ later)
rising_acts k [] later up = up
rising_acts k (act ∷ acts) later up = (omega arith, rising_acts k acts later up)

rising : (log : List EventTree) (session k : ℕ) (readings : List Said) (logged : List (ℕ × ActTree)) → AreStatements log session k readings logged → IsRising k logged
rising log session k [] logged none = subst (IsRising k) (sym none) tt
rising log session k (reading ∷ readings) logged are =
    subst (IsRising k) (sym are.2) (rising_acts k are.0 are.1 (rising_lower (k + 1) k are.1 (omega arith) (rising log session (k + 1) readings are.1 are.4)))

-- ## Along a log

abbrev is_own : ℕ → EventTree → Bool
is_own session event = event.session == session

abbrev entry_of : EventTree → ℕ × ActTree
entry_of event = (event.statement, event.act)

rising_own : (session low : ℕ) (event : EventTree) (log : List EventTree) → event.session ≡ session → IsRising low (logged_of session (event ∷ log)) → IsRising low (entry_of event ∷ logged_of session log)
rising_own session low event log own up =
    subst (λ b. IsRising low (map entry_of (cond b (event ∷ filter (is_own session) log) (filter (is_own session) log)))) (eq-eqb event.session session own) up

rising_rest : (session low : ℕ) (event : EventTree) (log : List EventTree) → IsRising low (logged_of session (event ∷ log)) → IsRising low (logged_of session log)
rising_rest session low event log up = go (is_own session event) up
  where
    go : (b : Bool) → IsRising low (map entry_of (cond b (event ∷ filter (is_own session) log) (filter (is_own session) log))) → IsRising low (logged_of session log)
    go true is = let first = is.0 in rising_lower event.statement low (logged_of session log) first is.1
    go false is = is

-- an event of the session is of a statement from there on
above : (session low : ℕ) (log : List EventTree) (position : ℕ) (event : EventTree) → IsRising low (logged_of session log) → slice_get log position ≡ Some event → event.session ≡ session → low ≤ event.statement
above session low [] position event up here own = none_there position event here
above session low (e ∷ log) zero event up here own =
    let same = same_Some e event here in
    let low_here = (rising_own session low e log (ap (λ (x : EventTree). x.session) same ∙ own) up).0 in
    subst (λ (x : EventTree). low ≤ x.statement) same low_here
above session low (e ∷ log) (suc position) event up here own = above session low log position event (rising_rest session low e log up) here own

-- ## Places

both : (a b : Bool) → (a && b) ≡ true → (a ≡ true) × (b ≡ true)
both true b is = (refl, is)
both false b is = let no : zero ≡ suc zero = ap (λ c. cond c (suc zero) zero) is in absurd (let none : ⊥ = omega (arith, no) in none)

placed_of : (session k : ℕ) (event : EventTree) → is_place session k event ≡ true → (event.session ≡ session) × (event.statement ≡ k)
placed_of session k event is =
    let all = both ((event.session == session) && (event.statement == k)) (is_opening event.act) is in
    let parts = both (event.session == session) (event.statement == k) all.0 in
    (eqb-true event.session session parts.0, eqb-true event.statement k parts.1)

-- a place after the first event
place_next : (session k : ℕ) (event : EventTree) (log : List EventTree) → is_place session k event ≡ false → statement_place session k (event ∷ log) ≡ suc (statement_place session k log)
place_next session k event log is = ap (λ b. cond b 1 (suc (statement_place session k log))) is

place_first : (session k : ℕ) (event : EventTree) (log : List EventTree) → is_place session k event ≡ true → statement_place session k (event ∷ log) ≡ 1
place_first session k event log is = ap (λ b. cond b 1 (suc (statement_place session k log))) is

-- an event of an earlier statement is before it
before_place : (session k low : ℕ) (log : List EventTree) (position : ℕ) (event : EventTree) → IsRising low (logged_of session log) → statement_place session k log ≤ length log
    → slice_get log position ≡ Some event → event.session ≡ session → event.statement < k → position + 1 < statement_place session k log
before_place session k low [] position event up within here own earlier = absurd (let none : ⊥ = omega (arith, within) in none)
before_place session k low (e ∷ log) zero event up within here own earlier = go (is_place session k e) refl
  where
    go : (b : Bool) → is_place session k e ≡ b → 0 + 1 < statement_place session k (e ∷ log)
    go true is =
        let same : e.statement ≡ k = (placed_of session k e is).1 in
        let other : e.statement ≡ event.statement = ap (λ (x : EventTree). x.statement) (same_Some e event here) in
        absurd (let none : ⊥ = omega (arith, same, other, earlier) in none)
    go false is = let next = place_next session k e log is in let low_place = place_above session k log in omega (arith, next, low_place)
before_place session k low (e ∷ log) (suc position) event up within here own earlier = go (before_place session k low log position event (rising_rest session low e log up)) (is_place session k e) refl
  where
    Later : Type 0
    Later = statement_place session k log ≤ length log → slice_get log position ≡ Some event → event.session ≡ session → event.statement < k → position + 1 < statement_place session k log

    go : Later → (b : Bool) → is_place session k e ≡ b → suc position + 1 < statement_place session k (e ∷ log)
    go later true is =
        let own_here = placed_of session k e is in
        let high = above session e.statement log position event (rising_own session low e log own_here.0 up).1 here own in
        let same : e.statement ≡ k = own_here.1 in
        absurd (let none : ⊥ = omega (arith, same, high, earlier) in none)
    go later false is =
        let next = place_next session k e log is in
        let long : suc (statement_place session k log) ≤ suc (length log) = subst (λ n. n ≤ suc (length log)) next within in
        let more = later (omega (arith, long)) here own earlier in
        omega (arith, next, more)

-- at its place is an event of the statement
at_place : (session k : ℕ) (log : List EventTree) (n : ℕ) → statement_place session k log ≡ suc n → n < length log → (event : EventTree) × (slice_get log n ≡ Some event) × (event.session ≡ session) × (event.statement ≡ k)
at_place session k [] n place within = absurd (let none : ⊥ = omega (arith, within) in none)
at_place session k (e ∷ log) zero place within = go (is_place session k e) refl
  where
    go : (b : Bool) → is_place session k e ≡ b → (event : EventTree) × (slice_get (e ∷ log) 0 ≡ Some event) × (event.session ≡ session) × (event.statement ≡ k)
    go true is = let own_here = placed_of session k e is in (e, refl, own_here.0, own_here.1)
    go false is = let next = place_next session k e log is in let low_place = place_above session k log in absurd (let none : ⊥ = omega (arith, next, low_place, place) in none)
at_place session k (e ∷ log) (suc n) place within = go (at_place session k log n) (is_place session k e) refl
  where
    Found : Type 0
    Found = (event : EventTree) × (slice_get log n ≡ Some event) × (event.session ≡ session) × (event.statement ≡ k)

    go : (statement_place session k log ≡ suc n → n < length log → Found) → (b : Bool) → is_place session k e ≡ b → Found
    go later true is = let first = place_first session k e log is in absurd (let none : ⊥ = omega (arith, first, place) in none)
    go later false is = let next = place_next session k e log is in later (omega (arith, next, place)) (omega (arith, within))

-- ## Commits

cons_more : (o : Option StmtTree) (xs ys : List StmtTree) → cons_option o (xs ++ ys) ≡ cons_option o xs ++ ys
cons_more None xs ys = refl
cons_more (Some x) xs ys = refl

commits_begin : (n m : ℕ) (log : List EventTree) → n ≤ m → BeginsWith (commits (take m log)) (commits (take n log))
commits_begin zero m log low = (commits (take m log), refl)
commits_begin (suc n) zero log low = absurd (let none : ⊥ = omega (arith, low) in none)
commits_begin (suc n) (suc m) [] low = ([], refl)
commits_begin (suc n) (suc m) (e ∷ log) low =
    let rest = commits_begin n m log (omega (arith, low)) in
    (rest.0, ap (cons_option (committed e.act)) rest.1 ∙ cons_more (committed e.act) (commits (take n log)) rest.0)

-- ## An ordered log

all_at : (log : List EventTree) (P : EventTree → Type 0) → AllByRecursion P log → (position : ℕ) (event : EventTree) → slice_get log position ≡ Some event → P event
all_at [] P all position event here = none_there position event here
all_at (e ∷ log) P all zero event here = subst P (same_Some e event here) all.0
all_at (e ∷ log) P all (suc position) event here = all_at log P all.1 position event here

module _ (scripts : List (List Said)) (log : List EventTree) (is : IsOrdered scripts log) where
  -- the statements of a session that has an event rise
  rising_of : (session position : ℕ) (event : EventTree) → slice_get log position ≡ Some event → event.session ≡ session → IsRising 1 (logged_of session log)
  rising_of session position event here own =
      let ends = all_at log (λ (e : EventTree). (1 ≤ e.session) × (e.session ≤ length scripts)) is.sessions position event here in
      let low = ends.0 in
      let high = ends.1 in
      let number : session - 1 + 1 ≡ session = omega (arith, own, low) in
      let readings = get_or scripts (session - 1) [] in
      let one = is.statements (session - 1) readings (slice_get-get_or scripts (session - 1) [] (omega (arith, own, low, high))) in
      subst (λ n. IsRising 1 (logged_of n log)) number (rising log (session - 1 + 1) 1 readings (logged_of (session - 1 + 1) log) one)

  before_holds : (session statement position : ℕ) → HasPlace log session statement → IsEarlier log session statement position → position < statement_place session statement log
  before_holds session statement position within e =
      let first = e.first in
      let before = before_place session statement 1 log (position - 1) e.event (rising_of session (position - 1) e.event e.here e.own) within e.here e.own e.earlier in
      omega (arith, first, before)

  committed_holds : (session statement position : ℕ) → HasPlace log session statement → IsEarlier log session statement position → BeginsWith (commits_met log session statement) (commits (take position log))
  committed_holds session statement position within e =
      let before = before_holds session statement position within e in
      commits_begin position (statement_place session statement log - 1) log (omega (arith, before))

  met_holds : (session earlier later : ℕ) → earlier < later → HasPlace log session earlier → HasPlace log session later → BeginsWith (commits_met log session later) (commits_met log session earlier)
  met_holds session earlier later less placed within =
      let place = statement_place session earlier log in
      let low = place_above session earlier log in
      let at = at_place session earlier log (place - 1) (omega (arith, low)) (omega (arith, low, placed)) in
      let statement : at.0.statement ≡ earlier = at.3 in
      let before = before_holds session later place within (record { event = at.0; first = low; here = at.1; own = at.2; earlier = omega (arith, statement, less) }) in
      commits_begin (place - 1) (statement_place session later log - 1) log (omega (arith, before, low))

pub sees_own_holds : SeesOwn
sees_own_holds = record { before = before_holds; committed = committed_holds; met = met_holds }
