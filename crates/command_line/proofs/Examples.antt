-- Worked cases of the grammar.
use Rattle.std.proofs.Common.{◌≡◌, [], ◌∷◌, ◌++◌, replicate, true, Some, None, refl, codes}
use Rattle.score_hook.specs.declared.stats.Evict.TheVariants.{Weighted}
use Rattle.pool_policy.specs.declared.options.Admit.TheVariants.{Credit}
use Rattle.command_line.specs.declared.command.Command.TheVariants.{Run, Replay, Generate}
use Rattle.command_line.specs.Command.{command_named, default_options, options_in}
use Rattle.command_line.specs.Weights.{operator_named, weights_in, weights_of}
use Rattle.command_line.specs.Words.{uses_of}

-- the default options are those of words without one
default : options_in (uses_of []) ≡ Some default_options
default = refl

-- ## Workers

by_two : command_named (codes "run" ∷ codes "--workers" ∷ codes "2" ∷ codes "a" ∷ []) ≡ Some (Run 2 default_options (codes "a" ∷ []))
by_two = refl

-- without a word 4
by_four : command_named (codes "run" ∷ codes "a" ∷ []) ≡ Some (Run 4 default_options (codes "a" ∷ []))
by_four = refl

by_sixteen : command_named (codes "run" ∷ codes "a" ∷ codes "--workers=0016" ∷ []) ≡ Some (Run 16 default_options (codes "a" ∷ []))
by_sixteen = refl

out_of_workers :
    (command_named (codes "run" ∷ codes "--workers" ∷ codes "0" ∷ codes "a" ∷ []) ≡ None) × (command_named (codes "run" ∷ codes "--workers" ∷ codes "17" ∷ codes "a" ∷ []) ≡ None)
out_of_workers = (refl, refl)

workers_twice : command_named (codes "run" ∷ codes "--workers" ∷ codes "2" ∷ codes "--workers=2" ∷ codes "a" ∷ []) ≡ None
workers_twice = refl

-- a replay has none: the option is refused there, as one that is unknown
replay_with_workers :
    (command_named (codes "replay" ∷ codes "--workers" ∷ codes "2" ∷ codes "s" ∷ codes "a" ∷ []) ≡ None)
    × (command_named (codes "replay" ∷ codes "--unknown" ∷ codes "2" ∷ codes "s" ∷ codes "a" ∷ []) ≡ None)
replay_with_workers = (refl, refl)

-- but not as a file
workers_as_file :
    command_named (codes "replay" ∷ codes "s" ∷ codes "--" ∷ codes "--workers" ∷ []) ≡ Some (Replay default_options (codes "s") (codes "--workers" ∷ []))
workers_as_file = refl

-- ## Options and files

with_events :
    command_named (codes "run" ∷ codes "--events" ∷ codes "a.sql" ∷ codes "b.sql" ∷ []) ≡ Some (Run 4 (record default_options { events = true }) (codes "a.sql" ∷ codes "b.sql" ∷ []))
with_events = refl

-- an option after a file, and its value after `=`
by_credits :
    command_named (codes "replay" ∷ codes "schedule" ∷ codes "--admit=credit" ∷ codes "a.sql" ∷ codes "--credits" ∷ codes "1" ∷ [])
    ≡ Some (Replay (record default_options { admit = Credit; credits = 1 }) (codes "schedule") (codes "a.sql" ∷ []))
by_credits = refl

-- all operators weigh 1, but for the eighth
by_weights :
    command_named
    (codes "replay"
    ∷ codes "--budget"
    ∷ codes "584"
    ∷ codes "--evict"
    ∷ codes "weighted"
    ∷ codes "--weights"
    ∷ codes "markT=100"
    ∷ codes "schedule"
    ∷ codes "a.sql"
    ∷ [])
    ≡ Some (Replay (record default_options { budget = 584; evict = Weighted; weights = replicate 7 1 ++ 100 ∷ replicate 27 1 }) (codes "schedule") (codes "a.sql" ∷ []))
unfolding operator_named weights_of
by_weights = refl

-- without a list all weigh 1
evenly :
    command_named (codes "run" ∷ codes "--evict=weighted" ∷ codes "a.sql" ∷ []) ≡ Some (Run 4 (record default_options { evict = Weighted; weights = replicate 35 1 }) (codes "a.sql" ∷ []))
evenly = refl

-- after `--` all are files
behind_the_end :
    command_named (codes "run" ∷ codes "-" ∷ codes "--" ∷ codes "--events" ∷ []) ≡ Some (Run 4 default_options (codes "-" ∷ codes "--events" ∷ []))
behind_the_end = refl

generated : command_named (codes "generate" ∷ codes "0001" ∷ []) ≡ Some (Generate 1)
generated = refl

-- an `--` with no file after it
generated_to_the_end : command_named (codes "generate" ∷ codes "1000000" ∷ codes "--" ∷ []) ≡ Some (Generate 1000000)
generated_to_the_end = refl

-- a word after `--` is a file, of which `generate` has none
generated_of_a_file : command_named (codes "generate" ∷ codes "--" ∷ codes "1" ∷ []) ≡ None
generated_of_a_file = refl

generated_with_option : command_named (codes "generate" ∷ codes "1" ∷ codes "--events" ∷ []) ≡ None
generated_with_option = refl

generated_out_of_range : (command_named (codes "generate" ∷ codes "0" ∷ []) ≡ None) × (command_named (codes "generate" ∷ codes "1000001" ∷ []) ≡ None)
generated_out_of_range = (refl, refl)

no_number : (command_named (codes "generate" ∷ []) ≡ None) × (command_named (codes "generate" ∷ codes "-" ∷ []) ≡ None)
no_number = (refl, refl)

no_file : command_named (codes "run" ∷ []) ≡ None
no_file = refl

no_script : command_named (codes "replay" ∷ codes "schedule" ∷ []) ≡ None
no_script = refl

twice : command_named (codes "run" ∷ codes "--budget=1" ∷ codes "--budget=1" ∷ codes "a.sql" ∷ []) ≡ None
twice = refl

flag_with_value : command_named (codes "run" ∷ codes "--events=on" ∷ codes "a.sql" ∷ []) ≡ None
flag_with_value = refl

no_value : command_named (codes "run" ∷ codes "a.sql" ∷ codes "--budget" ∷ []) ≡ None
no_value = refl

end_as_value : command_named (codes "run" ∷ codes "--budget" ∷ codes "--" ∷ codes "a.sql" ∷ []) ≡ None
end_as_value = refl

unweighted : command_named (codes "run" ∷ codes "--weights=markT=100" ∷ codes "a.sql" ∷ []) ≡ None
unweighted = refl

short_option : command_named (codes "run" ∷ codes "-b" ∷ codes "a.sql" ∷ []) ≡ None
short_option = refl

bad_weights : command_named (codes "run" ∷ codes "--evict=weighted" ∷ codes "--weights=" ∷ codes "a.sql" ∷ []) ≡ None
bad_weights = refl

over_budget : command_named (codes "run" ∷ codes "--budget" ∷ codes "1099511627777" ∷ codes "a.sql" ∷ []) ≡ None
over_budget = refl

-- ## Lists of weights

-- the first and the last operator, and a number with zeros in front
some_weights : weights_in (codes "isnil=1000,bind=007") ≡ Some (7 ∷ replicate 33 1 ++ 1000 ∷ [])
unfolding operator_named weights_of
some_weights = refl

no_list : weights_in [] ≡ None
no_list = refl

no_name : weights_in (codes "select=2,lookup=3") ≡ None
unfolding operator_named
no_name = refl

-- a name has no module, and is written as in MAL
with_module : weights_in (codes "algebra.select=2") ≡ None
unfolding operator_named
with_module = refl

small_letter : weights_in (codes "markt=2") ≡ None
unfolding operator_named
small_letter = refl

given_twice : weights_in (codes "plus=1,plus=2") ≡ None
unfolding operator_named
given_twice = refl

no_weight : (weights_in (codes "plus") ≡ None) × (weights_in (codes "plus=") ≡ None) × (weights_in (codes "plus=+1") ≡ None)
unfolding operator_named
no_weight = (refl, refl, refl)

out_of_range : (weights_in (codes "plus=0") ≡ None) × (weights_in (codes "plus=1001") ≡ None)
unfolding operator_named
out_of_range = (refl, refl)

empty_part : (weights_in (codes "plus=1,") ≡ None) × (weights_in (codes ",plus=1") ≡ None)
unfolding operator_named
empty_part = (refl, refl)
