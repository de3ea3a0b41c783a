-- The shapes of arguments.
use Rattle.std.specs.Prelude.{List, [], ◌∷◌, Bool, true, false}
use Rattle.cell_core.specs.declared.operator.Value.{Value}
use Rattle.cell_core.specs.declared.operator.Value.TheVariants.{Bat, One}

-- one BAT
abbrev pub is_bat : List Value → Bool
is_bat (Bat b ∷ []) = true
is_bat _ = false

-- two BATs
abbrev pub is_two_bats : List Value → Bool
is_two_bats (Bat l ∷ Bat r ∷ []) = true
is_two_bats _ = false

-- a BAT and a scalar
abbrev pub is_bat_and_cell : List Value → Bool
is_bat_and_cell (Bat b ∷ One cell ∷ []) = true
is_bat_and_cell _ = false

-- a BAT and the scalars of a range
abbrev pub is_range : List Value → Bool
is_range (Bat b ∷ One low ∷ One high ∷ One li ∷ One hi ∷ []) = true
is_range _ = false

-- one value
abbrev pub is_one : List Value → Bool
is_one (x ∷ []) = true
is_one _ = false

-- two values
abbrev pub is_two : List Value → Bool
is_two (x ∷ y ∷ []) = true
is_two _ = false
