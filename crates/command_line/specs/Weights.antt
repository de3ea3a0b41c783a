-- The weights of operators in a list: `name=n`, joined by commas.
use Rattle.std.specs.Prelude.{ℕ, ◌==◌, List, [], ◌∷◌, map, replicate, Bool, true, not, ◌&&◌, if◌then◌else◌, bytes_eq, Option, Some, None}
use Rattle.std.specs.List.{find, list_any, slice_split}
use Rattle.std.specs.Option.{option_map, option_and_then}
use Rattle.cell_core.specs.Places.{operators}
use Rattle.cell_core.specs.SameInstr.{same_op}
use Rattle.cell_core.specs.declared.operator.Op.{Op}
use Rattle.mal_tokens.specs.Operators.{function_word}
use Rattle.command_line.specs.declared.weights.Given.{Given}
use Rattle.command_line.specs.Numbers.{number_in}
use Rattle.command_line.specs.Words.{Text, name_and_value}

-- without a list each of the 35 operators weighs 1
abbrev pub even_weights : List ℕ
even_weights = replicate 35 1

-- ## Lists

-- the operator's function has this name, without its module
abbrev pub is_named : Text → Op → Bool
is_named name operator = bytes_eq name (function_word operator)

-- the operator with a name. No two of the 35 share one: a function of cells is one operator over scalars (`calc`)
-- and over BATs (`batcalc`), and has one weight
unfoldable pub operator_named : Text → Option Op
operator_named name = find (is_named name) operators

-- the operator with a name, with the weight from 1 to 1,000 that a value is
abbrev pub given_to : Text → Text → Option Given
given_to name value =
    option_and_then (λ operator. option_map (λ weight. record { operator = operator; weight = weight }) (number_in 1 1000 value)) (operator_named name)

-- `name=n`
abbrev pub given_of : Text × Option Text → Option Given
given_of (name, None) = None
given_of (name, Some value) = given_to name value

abbrev pub given_in : Text → Option Given
given_in part = given_of (name_and_value part)

-- the given weights of the parts of a list, if each part has one
abbrev pub all_given : List Text → Option (List Given)
all_given [] = Some []
all_given (part ∷ parts) = option_and_then (λ given. option_map (λ more. given ∷ more) (all_given parts)) (given_in part)

-- ## Weights

-- the operator has a weight among these
abbrev pub is_given : Op → List Given → Bool
is_given operator given = list_any (λ one. same_op one.operator operator) given

-- no operator has two
abbrev pub are_distinct : List Given → Bool
are_distinct [] = true
are_distinct (given ∷ more) = not (is_given given.operator more) && are_distinct more

-- the weight of an operator; 1 where none is given
abbrev pub weight_for : List Given → Op → ℕ
weight_for [] operator = 1
weight_for (given ∷ more) operator = if same_op given.operator operator then given.weight else weight_for more operator

-- the weights of all operators, in the order of their table
unfoldable pub weights_of : List Given → List ℕ
weights_of given = map (weight_for given) operators

abbrev pub weights_once : List Given → Option (List ℕ)
weights_once given = if are_distinct given then Some (weights_of given) else None

-- the weights that a text names, if it is a list that names each operator at most once
abbrev pub weights_in : Text → Option (List ℕ)
weights_in text = option_and_then weights_once (all_given (slice_split (λ b. b == 44) text))
