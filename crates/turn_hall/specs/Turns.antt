-- What a turn shows and lends.
use Rattle.std.specs.Prelude.{[]}
use Rattle.std.specs.Borrow.{Lends, MutBor, Fml}
use denote.RattleType.{RattleType}
use mir.Syntax.{named}
use Rattle.turn_hall.specs.declared.turn.Turn.{Turn}
use Rattle.turn_hall.specs.contracts.turn.Turn.{the_row}

-- the value that the turn lends
abbrev pub turn_value : {V : Type 0} → Turn V → V
turn_value turn = turn.value

-- the turn, with another value
abbrev pub with_value : {V : Type 0} → Turn V → V → Turn V
with_value turn x = record turn { value = x }

-- the turn ends with the last value of the reference
abbrev pub LendsValue : (R : RattleType) → MutBor (Turn R.Denot) → MutBor R.Denot → Fml
LendsValue R turn x = Lends (the_row (record { mir = named 1; lft = [] }) R) R turn x (with_value turn.now)
