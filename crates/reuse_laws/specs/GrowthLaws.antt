-- What operators compute of BATs that have grown.
use Rattle.std.specs.Prelude.{◌≡◌, ℕ, ◌+◌, ◌^◌, ◌<◌, List, ◌++◌, Bool, true, Option, Some, length}
use Rattle.cell_core.specs.declared.cell.Cell.{Cell}
use Rattle.cell_core.specs.declared.operator.Value.{Value}
use Rattle.cell_core.specs.declared.operator.Value.TheVariants.{Bat}
use Rattle.cell_core.specs.Pairs.{Pairs}
use Rattle.cell_core.specs.Relations.{selected, reversed, mirrored, marked, projected, joined}
use Rattle.cell_core.specs.Calc.{calculated}
use Rattle.reuse_laws.specs.Grown.{raised, stand_below, AreFrom, grown, AreGrown, HasBat}

-- of a BAT and what follows it each of these returns its old result, followed by that of what follows; a mark goes on counting
pub record BatsGrow : Type 0 where
  pub select : (low high : Cell) (li hi : Bool) (b d : Pairs) → selected low high li hi (b ++ d) ≡ selected low high li hi b ++ selected low high li hi d
  pub reverse : (b d : Pairs) → reversed (b ++ d) ≡ reversed b ++ reversed d
  pub mirror : (b d : Pairs) → mirrored (b ++ d) ≡ mirrored b ++ mirrored d
  pub project : (cell : Cell) (b d : Pairs) → projected cell (b ++ d) ≡ projected cell b ++ projected cell d
  pub mark : (base : Cell) (b d : Pairs) → length b + length d < 2 ^ 62 → marked base (b ++ d) ≡ marked base b ++ marked (raised base (length b)) d

-- what follows on the left joins what is on the right; what follows on the right meets nothing old on the left, where all tails there are below it
pub record JoinsGrow : Type 0 where
  pub left : (l d r : Pairs) → joined (l ++ d) r ≡ joined l r ++ joined d r
  pub right : (n : ℕ) (l r e : Pairs) → stand_below n l ≡ true → AreFrom n e → joined l (r ++ e) ≡ joined l r
  pub both : (n : ℕ) (l d r e : Pairs) → stand_below n l ≡ true → AreFrom n e → joined (l ++ d) (r ++ e) ≡ joined l r ++ joined d (r ++ e)

-- a calculation by position goes on where its BATs had one length, whatever follows each of them
abbrev pub CalculationsGrow : Type 0
CalculationsGrow = (f : List Cell → Option Cell) (n : ℕ) (values deltas : List Value) (b d : Pairs) → AreGrown n values deltas → HasBat values
    → calculated f values ≡ Some (Bat b) → calculated f deltas ≡ Some (Bat d) → calculated f (grown values deltas) ≡ Some (Bat (b ++ d))
