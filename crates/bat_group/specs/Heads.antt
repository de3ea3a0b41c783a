-- The first heads of the groups met so far.
use Rattle.std.specs.Prelude.{◌≡◌}
use Rattle.cell_core.specs.Same.{same_cell}
use Rattle.cell_core.specs.Pairs.{Pairs, tails_of}
use Rattle.cell_core.specs.Groups.{distinct, group_heads_of}
use Rattle.bat_group.specs.declared.heads.Heads.{Heads}
use Rattle.bat_group.specs.Numbers.{AreFirsts}

-- the groups of these pairs are numbered, and each has its first head
pub record AreHeads (met : Heads) (pairs : Pairs) : Type 0 where
  pub known : AreFirsts met.firsts met.count (distinct same_cell (tails_of pairs))
  pub heads : met.out ≡ group_heads_of pairs
