-- Lawful logs: each front of one is lawful and leads to a sound state, and worths stay.
use Rattle.std.proofs.Common.{◌≡◌, ℕ, List, [], ◌∷◌, ◌++◌, Some, None, take, drop, refl, sym, ◌∙◌, subst}
use Rattle.std.specs.Prelude.{fold, IsSome}
use Rattle.std.proofs.lemmas.List.{take-append-drop}
use Rattle.std.specs.List.{AllByRecursion}
use Rattle.pool_policy.specs.declared.options.PoolOptions.{PoolOptions}
use Rattle.pool_policy.specs.Worths.{WorthsStay}
use Rattle.run_log.specs.Events.{ActTree, Begins, Looks, Admits, Writes, Ends, EventTree}
use Rattle.run_log.specs.Fold.{LogState, after, log_start, run_of}
use Rattle.run_log.specs.Laws.{IsFormedAct, IsSound, MayFollow}
use Rattle.run_log.proofs.StepLemmas.{steps_keep_holds}
use Rattle.book_core.specs.Lawful.{FollowAll, IsLawful}

-- ## One event more

follow_parts : (s : LogState) (log : List EventTree) (event : EventTree) → FollowAll s (log ++ event ∷ []) → FollowAll s log × MayFollow (fold after s log) event.act
follow_parts s [] event all = (tt, all.0)
follow_parts s (e ∷ log) event all = let more = follow_parts (after s e) log event all.1 in ((all.0, more.0), more.1)

pub lawful_before : (options : PoolOptions) (log : List EventTree) (event : EventTree) → IsLawful options (log ++ event ∷ []) → IsLawful options log
lawful_before options log event lawful = (follow_parts (log_start options) log event lawful).0

pub lawful_next : (options : PoolOptions) (log : List EventTree) (event : EventTree) → IsLawful options (log ++ event ∷ []) → MayFollow (run_of options log) event.act
lawful_next options log event lawful = (follow_parts (log_start options) log event lawful).1

-- ## Sound states

follow_sound : (s : LogState) (log : List EventTree) → IsSound s → FollowAll s log → IsSound (fold after s log)
follow_sound s [] sound all = sound
follow_sound s (event ∷ log) sound all = follow_sound (after s event) log (steps_keep_holds.sound s event sound all.0) all.1

pub lawful_sound : (options : PoolOptions) (log : List EventTree) → IsLawful options log → IsSound (run_of options log)
lawful_sound options log lawful = follow_sound (log_start options) log (steps_keep_holds.start options) lawful

-- ## Formed statements

formed_act : (s : LogState) (act : ActTree) → MayFollow s act → IsFormedAct act
formed_act s (Begins code plan) may = tt
formed_act s (Looks instr key found) may = tt
formed_act s (Admits instr key result) may = tt
formed_act s (Writes None code count) may = tt
formed_act s (Writes (Some stmt) code count) may = may.0
formed_act s (Ends code) may = tt

follow_formed : (s : LogState) (log : List EventTree) → FollowAll s log → AllByRecursion (λ (event : EventTree). IsFormedAct event.act) log
follow_formed s [] all = tt
follow_formed s (event ∷ log) all = (formed_act s event.act all.0, follow_formed (after s event) log all.1)

pub lawful_formed : (options : PoolOptions) (log : List EventTree) → IsLawful options log → AllByRecursion (λ (event : EventTree). IsFormedAct event.act) log
lawful_formed options log = follow_formed (log_start options) log

-- ## Fronts

follow_halves : (s : LogState) (log more : List EventTree) → FollowAll s (log ++ more) → FollowAll s log × FollowAll (fold after s log) more
follow_halves s [] more all = (tt, all)
follow_halves s (event ∷ log) more all = let rest = follow_halves (after s event) log more all.1 in ((all.0, rest.0), rest.1)

fold_halves : (s : LogState) (log more : List EventTree) → fold after s (log ++ more) ≡ fold after (fold after s log) more
fold_halves s [] more = refl
fold_halves s (event ∷ log) more = fold_halves (after s event) log more

pub lawful_front : (options : PoolOptions) (log more : List EventTree) → IsLawful options (log ++ more) → IsLawful options log
lawful_front options log more lawful = (follow_halves (log_start options) log more lawful).0

pub lawful_taken : (options : PoolOptions) (log : List EventTree) (n : ℕ) → IsLawful options log → IsLawful options (take n log)
lawful_taken options log n lawful = lawful_front options (take n log) (drop n log) (subst (IsLawful options) (sym (take-append-drop n log)) lawful)

-- ## Worths

worths_along : (s : LogState) (log : List EventTree) → IsSound s → FollowAll s log → WorthsStay s.given (fold after s log).given
worths_along s [] sound all = λ id some. refl
worths_along s (event ∷ log) sound all = λ id some.
    let first = steps_keep_holds.stay s event sound all.0 id some in
    worths_along (after s event) log (steps_keep_holds.sound s event sound all.0) all.1 id (subst IsSome (sym first) some) ∙ first

pub worths_later : (options : PoolOptions) (log more : List EventTree) → IsLawful options (log ++ more) → WorthsStay (run_of options log).given (run_of options (log ++ more)).given
worths_later options log more lawful =
    let halves = follow_halves (log_start options) log more lawful in
    subst (λ (s : LogState). WorthsStay (run_of options log).given s.given) (sym (fold_halves (log_start options) log more))
    (worths_along (run_of options log) more (lawful_sound options log halves.0) halves.1)

-- the same of a log's front and the whole of it
pub worths_stay : (options : PoolOptions) (log : List EventTree) (n : ℕ) → IsLawful options log → WorthsStay (run_of options (take n log)).given (run_of options log).given
worths_stay options log n lawful =
    subst (λ (es : List EventTree). WorthsStay (run_of options (take n log)).given (run_of options es).given) (take-append-drop n log)
    (worths_later options (take n log) (drop n log) (subst (IsLawful options) (sym (take-append-drop n log)) lawful))
