-- What a query remembers of the state over which it began, in each state to which more of the log leads.
use Rattle.std.proofs.Common.{List, [], ◌∷◌, ◌++◌, ap, sym, ◌∙◌}
use Rattle.std.specs.Prelude.{take}
use Rattle.std.specs.List.{AllByRecursion}
use Rattle.std.proofs.lemmas.List.{take-append-le}
use Rattle.mal_meaning.specs.Meaning.{column_pairs}
use Rattle.pool_policy.specs.declared.options.PoolOptions.{PoolOptions}
use Rattle.run_log.specs.Events.{EventTree}
use Rattle.run_log.specs.Fold.{run_of}
use Rattle.run_log.specs.Laws.{IsFormedAct}
use Rattle.run_log.proofs.LogLemmas.{tells_all}
use Rattle.query_keys.specs.Laws.{Remembers}

all_first : {X : Type 0} (P : X → Type 0) (xs ys : List X) → AllByRecursion P (xs ++ ys) → AllByRecursion P xs
all_first P [] ys all = tt
all_first P (x ∷ xs) ys all = (all.0, all_first P xs ys all.1)

pub remembers : (options : PoolOptions) (log more : List EventTree) → AllByRecursion (λ (event : EventTree). IsFormedAct event.act) (log ++ more) → Remembers (run_of options log) (run_of options (log ++ more))
remembers options log more formed table column same =
    let before = tells_all options log (all_first (λ (event : EventTree). IsFormedAct event.act) log more formed) in
    let version = (run_of options log).versions table column in
    (tells_all options (log ++ more) formed).tell table column
    ∙ ap (λ n. column_pairs table column (run_of options (take n (log ++ more))).db) same
    ∙ ap (λ (events : List EventTree). column_pairs table column (run_of options events).db) (take-append-le version log more (before.within table column))
    ∙ sym (before.tell table column)
