-- What the grammar accepts is fit: the workers, the budget, the weights and the number of files.
use Rattle.std.proofs.Common.{◌≡◌, ◌≢◌, ◌==◌, ℕ, ◌^◌, ◌≤◌, List, [], ◌∷◌, map, length, Bool, true, false, cond, ◌&&◌, nat_le, Option, Some, None, IfSome, Result, Ok, Err, IfOk, refl, sym, subst, arith}
use Rattle.std.specs.Option.{option_map, option_and_then}
use Rattle.std.specs.List.{AllByRecursion, list_all, slice_split}
use Rattle.std.specs.Str.Parse.{digits_value}
use Rattle.std.proofs.lemmas.Bool.{and_parts, leb-true}
use Rattle.cell_core.specs.Places.{operators}
use Rattle.cell_core.specs.SameInstr.{same_op}
use Rattle.cell_core.specs.declared.operator.Op.{Op}
use Rattle.score_hook.specs.declared.stats.Evict.{Evict}
use Rattle.score_hook.specs.declared.stats.Evict.TheVariants.{Lru, Benefit, History, Weighted}
use Rattle.score_hook.specs.Scores.{AreWeights, is_weight}
use Rattle.pool_policy.specs.declared.options.Admit.TheVariants.{All}
use Rattle.command_line.specs.declared.weights.Given.{Given}
use Rattle.command_line.specs.declared.command.Command.{Command}
use Rattle.command_line.specs.declared.command.Command.TheVariants.{Run, Replay, Generate}
use Rattle.command_line.specs.declared.command.RunOptions.{RunOptions}
use Rattle.command_line.specs.Command as told
use Rattle.command_line.specs.Command.{AreFit, IsFit, are_files, default_options, ends_here, generate_in, options_in, one_or, run_by, run_in, replay_in, replay_of, weights_for, workers_in}
use Rattle.command_line.specs.Numbers.{is_number, number_in}
use Rattle.command_line.specs.Weights.{all_given, even_weights, given_in, given_of, operator_named, weight_for, weights_in, weights_of, weights_once, are_distinct}
use Rattle.command_line.specs.Words.{Text, Uses, name_and_value, uses_named}

-- ## Options of which something is known

then_known : {A B : Type 0} (P : B → Type 0) (Q : A → Type 0) (f : A → Option B) (o : Option A) → IfSome o Q → ((a : A) → Q a → IfSome (f a) P) → IfSome (option_and_then f o) P
then_known P Q f None known next = tt
then_known P Q f (Some a) known next = next a known

map_known : {A B : Type 0} (P : B → Type 0) (Q : A → Type 0) (f : A → B) (o : Option A) → IfSome o Q → ((a : A) → Q a → P (f a)) → IfSome (option_map f o) P
map_known P Q f None known next = tt
map_known P Q f (Some a) known next = next a known

then_any : {A B : Type 0} (P : B → Type 0) (f : A → Option B) (o : Option A) → ((a : A) → IfSome (f a) P) → IfSome (option_and_then f o) P
then_any P f None next = tt
then_any P f (Some a) next = next a

map_any : {A B : Type 0} (P : B → Type 0) (f : A → B) (o : Option A) → ((a : A) → P (f a)) → IfSome (option_map f o) P
map_any P f None next = tt
map_any P f (Some a) next = next a

one_known : {X : Type 0} (P : X → Type 0) (default : X) (read : Text → Option X) (values : List Text) → P default → ((value : Text) → IfSome (read value) P) → IfSome (one_or default read values) P
one_known P default read [] first each = first
one_known P default read (value ∷ []) first each = each value
one_known P default read (value ∷ more ∷ values) first each = tt

-- ## Numbers

abbrev passes : ℕ → ℕ → ℕ → Bool
passes low high n = nat_le low n && nat_le n high

number_passes : (low high : ℕ) (text : Text) → IfSome (number_in low high text) (λ n. passes low high n ≡ true)
number_passes low high text = by (is_number text) (passes low high n) refl
  where
    n : ℕ
    n = digits_value 10 text

    by : (number within : Bool) → passes low high n ≡ within → IfSome (cond (number && within) (Some n) None) (λ n. passes low high n ≡ true)
    by true true is = is
    by true false is = tt
    by false within is = tt

passed : (low high n : ℕ) → passes low high n ≡ true → (low ≤ n) × (n ≤ high)
passed low high n is = let each = and_parts (nat_le low n) (nat_le n high) is in (leb-true low n each.0, leb-true n high each.1)

-- ## Weights

abbrev IsLight : Given → Type 0
IsLight given = is_weight given.weight ≡ true

given_light : (part : Text) → IfSome (given_in part) IsLight
given_light part = by (name_and_value part)
  where
    by : (split : Text × Option Text) → IfSome (given_of split) IsLight
    by (name, None) = tt
    by (name, Some value) =
        then_any IsLight _ (operator_named name) (λ operator.
        map_known IsLight (λ weight. is_weight weight ≡ true) _ (number_in 1 1000 value) (number_passes 1 1000 value) (λ weight light. light))

abbrev AreLight : List Given → Type 0
AreLight given = AllByRecursion IsLight given

all_light : (parts : List Text) → IfSome (all_given parts) AreLight
all_light [] = tt
all_light (part ∷ parts) =
    then_known AreLight IsLight _ (given_in part) (given_light part) (λ given light. map_known AreLight AreLight _ (all_given parts) (all_light parts) (λ more lights. (light, lights)))

weight_light : (given : List Given) (operator : Op) → AreLight given → is_weight (weight_for given operator) ≡ true
weight_light [] operator light = refl
weight_light (given ∷ more) operator light = by (same_op given.operator operator) (weight_light more operator light.1)
  where
    by : (same : Bool) → is_weight (weight_for more operator) ≡ true → is_weight (cond same given.weight (weight_for more operator)) ≡ true
    by true others = light.0
    by false others = others

each_light : (given : List Given) (operators : List Op) → AreLight given → list_all is_weight (map (weight_for given) operators) ≡ true
each_light given [] light = refl
each_light given (operator ∷ operators) light = rw (weight_light given operator light, each_light given operators light)

weights_fit : (given : List Given) → AreLight given → AreWeights (weights_of given)
unfolding weights_of
weights_fit given light = record { each = refl; light = each_light given operators light }

list_fit : (text : Text) → IfSome (weights_in text) AreWeights
list_fit text = then_known AreWeights AreLight weights_once (all_given parts) (all_light parts) once
  where
    parts : List Text
    parts = slice_split (λ b. b == 44) text

    by : (distinct : Bool) (given : List Given) → AreLight given → IfSome (cond distinct (Some (weights_of given)) None) AreWeights
    by true given light = weights_fit given light
    by false given light = tt

    once : (given : List Given) → AreLight given → IfSome (weights_once given) AreWeights
    once given light = by (are_distinct given) given light

-- weights that fit a rule of eviction
abbrev FitRule : Evict → List ℕ → Type 0
FitRule evict weights = (evict ≡ Weighted → AreWeights weights) × (evict ≢ Weighted → weights ≡ [])

weighted_fit : (weights : List ℕ) → AreWeights weights → FitRule Weighted weights
weighted_fit weights fit = (λ is. fit, λ other. absurd (other refl))

rule_fit : (evict : Evict) (values : List Text) → IfSome (weights_for evict values) (FitRule evict)
rule_fit Weighted values = one_known (FitRule Weighted) even_weights weights_in values (weighted_fit _ (record { each = refl; light = refl })) each
  where
    each : (text : Text) → IfSome (weights_in text) (FitRule Weighted)
    each text = by (weights_in text) (list_fit text)
      where
        by : (weights : Option (List ℕ)) → IfSome weights AreWeights → IfSome weights (FitRule Weighted)
        by None fit = tt
        by (Some weights) fit = weighted_fit weights fit
rule_fit Lru [] = (λ is. absurd (cc), λ other. refl)
rule_fit Benefit [] = (λ is. absurd (cc), λ other. refl)
rule_fit History [] = (λ is. absurd (cc), λ other. refl)
rule_fit Lru (value ∷ values) = tt
rule_fit Benefit (value ∷ values) = tt
rule_fit History (value ∷ values) = tt

-- ## Commands

abbrev IsBudget : ℕ → Type 0
IsBudget n = n ≤ 2 ^ 40

budget_fit : (values : List Text) → IfSome (one_or 16777216 (number_in 0 (2 ^ 40)) values) IsBudget
budget_fit values = one_known IsBudget 16777216 (number_in 0 (2 ^ 40)) values (omega arith) each
  where
    each : (text : Text) → IfSome (number_in 0 (2 ^ 40) text) IsBudget
    each text = by (number_in 0 (2 ^ 40) text) (number_passes 0 (2 ^ 40) text)
      where
        by : (n : Option ℕ) → IfSome n (λ n. passes 0 (2 ^ 40) n ≡ true) → IfSome n IsBudget
        by None within = tt
        by (Some n) within = (passed 0 (2 ^ 40) n within).1

options_fit : (uses : Uses) → IfSome (options_in uses) AreFit
options_fit uses =
    then_known AreFit IsBudget _ (one_or 16777216 (number_in 0 (2 ^ 40)) uses.budget) (budget_fit uses.budget) (λ budget small.
    then_any AreFit _ (one_or Lru told.evict_in uses.evict) (λ evict.
    then_any AreFit _ (one_or All told.admit_in uses.admit) (λ admit.
    then_any AreFit _ (one_or 3 (number_in 1 1000000) uses.credits) (λ credits.
    then_known AreFit (FitRule evict) _ (weights_for evict uses.weights) (rule_fit evict uses.weights) (λ weights fit.
    map_any AreFit _ (told.flag_in uses.events) (λ events. record { budget = small; weighted = fit.0; plain = fit.1 }))))))

-- the command that `make` makes of options, where there are files enough and not too many
with_files : (files : List Text) (uses : Uses) (make : RunOptions → Command) → ((options : RunOptions) → AreFit options → (1 ≤ length files) × (length files ≤ 16) → IsFit (make options))
    → IfSome (cond (are_files files) (option_map make (options_in uses)) None) IsFit
with_files files uses make made = by (are_files files) refl
  where
    by : (some : Bool) → are_files files ≡ some → IfSome (cond some (option_map make (options_in uses)) None) IsFit
    by false is = tt
    by true is = map_known IsFit AreFit make (options_in uses) (options_fit uses) (λ options fit. made options fit (passed 1 16 (length files) is))

-- 1 to 16 workers
abbrev AreWorkers : ℕ → Type 0
AreWorkers n = passes 1 16 n ≡ true

workers_fit : (uses : Uses) → IfSome (workers_in uses) AreWorkers
workers_fit uses = one_known AreWorkers 4 (number_in 1 16) uses.workers refl (number_passes 1 16)

run_by_fit : (uses : Uses) (workers : ℕ) → AreWorkers workers → IfSome (run_by uses workers) IsFit
run_by_fit uses workers is =
    with_files uses.files uses (λ options. Run workers options uses.files) (λ options fit many. record { options = fit; workers = passed 1 16 workers is; given = many.0; few = many.1 })

run_fit : (uses : Uses) → IfSome (run_in uses) IsFit
run_fit uses = then_known IsFit AreWorkers (run_by uses) (workers_in uses) (workers_fit uses) (run_by_fit uses)

replay_fit : (uses : Uses) → IfSome (replay_in uses) IsFit
replay_fit uses = by (length uses.workers == 0)
  where
    of_files : (files : List Text) → IfSome (replay_of uses files) IsFit
    of_files [] = tt
    of_files (schedule ∷ files) =
        with_files files uses (λ options. Replay options schedule files) (λ options fit many. record { options = fit; workers = tt; given = many.0; few = many.1 })

    by : (none : Bool) → IfSome (cond none (replay_of uses uses.files) None) IsFit
    by true = of_files uses.files
    by false = tt

default_fit : AreFit default_options
default_fit = record { budget = omega arith; weighted = λ is. absurd (cc); plain = λ other. refl }

-- a command that words after `generate` name is fit
pub generated_fit : (words : List Text) → IfSome (generate_in words) IsFit
generated_fit [] = tt
generated_fit (word ∷ words) = by (ends_here words)
  where
    by : (ends : Bool) → IfSome (cond ends (option_map Generate (number_in 1 1000000 word)) None) IsFit
    by false = tt
    by true = map_known IsFit (λ n. passes 1 1000000 n ≡ true) Generate (number_in 1 1000000 word) (number_passes 1 1000000 word)
        (λ seed within. record { options = default_fit; workers = tt; given = passed 1 1000000 seed within; few = omega arith })

-- a result that is one of these commands is fit
pub fit_from : {E : Type 0} (result : Result (Option Command) E) (command : Option Command) → IfOk result (λ got. got ≡ command) → IfSome command IsFit → IfOk result (λ got. IfSome got IsFit)
fit_from (Ok got) command is fit = subst (λ (o : Option Command). IfSome o IsFit) (sym is) fit
fit_from (Err e) command is fit = tt

-- a command that words after `run` name is fit
pub runs_fit : (words : List Text) → IfSome (option_and_then run_in (uses_named words)) IsFit
runs_fit words = then_any IsFit run_in (uses_named words) run_fit

-- a command that words after `replay` name is fit
pub replays_fit : (words : List Text) → IfSome (option_and_then replay_in (uses_named words)) IsFit
replays_fit words = then_any IsFit replay_in (uses_named words) replay_fit
