-- The entries of a list that are of one session.
use Rattle.std.proofs.Common.{◌≡◌, ℕ, ◌≤◌, ◌<◌, List, [], ◌∷◌, ◌++◌, length, cond, Bool, true, false, Some, Option, refl, ap, sym, ◌∙◌, arith, ◌⊎◌, inl, inr}
use Rattle.std.specs.Prelude.{slice_get, unwrap_or, ◌==◌}
use Rattle.std.specs.List.{AllByRecursion}
use Rattle.std.proofs.lemmas.Bool.{cases_lt, eq-eqb}
use Rattle.std.proofs.lemmas.List.{append_assoc, append-nil, length-append}
use Rattle.std.proofs.lemmas.List.Elements.{filter-append}
use Rattle.std.proofs.lemmas.Option.{slice_get_within}
use Rattle.cell_core.proofs.ListLemmas.{slice_get-append_left, slice_get-append_middle}
use Rattle.run_log.specs.declared.event.Event.{Event}
use Rattle.run_log.specs.Events.{EventTree, log_tree}
use Rattle.turn_hall.specs.Entries.{StartsWith, entries_by}
use Rattle.thread_sessions.specs.Runners.{session_of}

-- ## Beginnings

pub starts_then : {X : Type 0} (xs ys zs : List X) → StartsWith ys xs → StartsWith zs ys → StartsWith zs xs
starts_then xs ys zs p q = (p.0 ++ q.0, q.1 ∙ ap (λ l. l ++ q.0) p.1 ∙ append_assoc xs p.0 q.0)

pub starts_same : {X : Type 0} (xs : List X) → StartsWith xs xs
starts_same xs = ([], sym (append-nil xs))

nothing_long : {X : Type 0} (xs : List X) → length xs ≡ 0 → xs ≡ []
nothing_long [] none = refl
nothing_long (x ∷ xs) none = absurd (let no : ⊥ = omega (arith, none) in no)

-- an appended list that changes nothing is empty
pub nothing_behind : {X : Type 0} (xs ys : List X) → xs ++ ys ≡ xs → ys ≡ []
nothing_behind xs ys same = let long = ap length same in let sum = length-append xs ys in nothing_long ys (omega (arith, long, sum))

-- ## Entries of a session

pub by_append : (session : ℕ) (xs ys : List Event) → entries_by session_of session (xs ++ ys) ≡ entries_by session_of session xs ++ entries_by session_of session ys
by_append session xs ys = filter-append (λ (e : Event). session_of e == session) xs ys

pub by_own : (session : ℕ) (event : Event) → event.session ≡ session → entries_by session_of session (event ∷ []) ≡ event ∷ []
by_own session event own = ap (λ b. cond b (event ∷ []) []) (eq-eqb event.session session own)

pub none_first : (b : Bool) (event : Event) (more : List Event) → cond b (event ∷ more) more ≡ [] → b ≡ false
none_first true event more none = absurd (let long = ap length none in let no : ⊥ = omega (arith, long) in no)
none_first false event more none = refl

pub none_more : (b : Bool) (event : Event) (more : List Event) → cond b (event ∷ more) more ≡ [] → more ≡ []
none_more true event more none = absurd (let long = ap length none in let no : ⊥ = omega (arith, long) in no)
none_more false event more none = none

-- a list without entries of a session has only events of others
pub none_by : (session : ℕ) (list : List Event) → entries_by session_of session list ≡ [] → AllByRecursion (λ (event : EventTree). (event.session == session) ≡ false) (log_tree list)
none_by session [] none = tt
none_by session (event ∷ list) none =
    let more = entries_by session_of session list in
    (none_first (event.session == session) event more none, none_by session list (none_more (event.session == session) event more none))

-- likewise what comes after a list that has all its entries
pub others_behind : (session : ℕ) (seen rest : List Event) → entries_by session_of session (seen ++ rest) ≡ entries_by session_of session seen
    → AllByRecursion (λ (event : EventTree). (event.session == session) ≡ false) (log_tree rest)
others_behind session seen rest same = none_by session rest (nothing_behind (entries_by session_of session seen) (entries_by session_of session rest) (sym (by_append session seen rest) ∙ same))

-- ## Places

module _ {X : Type 0} where
  -- an element of a list with one more is one of the list, or that one
  pub at_more : {P : Type 0} (xs : List X) (y : X) (n : ℕ) (z : X) → slice_get (xs ++ y ∷ []) n ≡ Some z → (n < length xs → slice_get xs n ≡ Some z → P) → (n ≡ length xs → y ≡ z → P) → P
  at_more {P = P} xs y n z there first last = go (cases_lt n (length xs))
    where
      go : (n < length xs) ⊎ (length xs ≤ n) → P
      go (inl low) = first low (sym (slice_get-append_left xs (y ∷ []) n low) ∙ there)
      go (inr high) =
          let within = slice_get_within (xs ++ y ∷ []) n z there in
          let long = length-append xs (y ∷ []) in
          let is : n ≡ length xs = omega (arith, high, within, long) in
          last is (ap (λ (o : Option X). unwrap_or o y) (sym (slice_get-append_middle xs y []) ∙ ap (slice_get (xs ++ y ∷ [])) (sym is) ∙ there))
