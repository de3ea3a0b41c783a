-- A mark, a join and a comparison, each over a BAT that has grown.
use Rattle.std.proofs.Common.{◌≡◌, [], ◌∷◌, ◌++◌, true, false, pos, refl}
use Rattle.std.specs.Prelude.{Some}
use Rattle.cell_core.specs.declared.cell.Cell.TheVariants.{Int, Oid, Bit}
use Rattle.cell_core.specs.declared.operator.Op.TheVariants.{Lt}
use Rattle.cell_core.specs.declared.operator.Value.TheVariants.{Bat, One}
use Rattle.cell_core.specs.Pairs.{Pairs}
use Rattle.cell_core.specs.Relations.{marked, joined}
use Rattle.cell_core.specs.Operators.{operate}
use Rattle.reuse_laws.specs.Grown.{raised, stand_below}

abbrev old : Pairs
old = (Oid 0, Int (pos 7)) ∷ (Oid 1, Int (pos 5)) ∷ []

abbrev new : Pairs
new = (Oid 2, Int (pos 9)) ∷ []

-- from 4 on the old pairs are counted 4 and 5, and the new one 6
goes_on : (marked (Oid 4) (old ++ new) ≡ (Oid 0, Oid 4) ∷ (Oid 1, Oid 5) ∷ (Oid 2, Oid 6) ∷ []) × (marked (raised (Oid 4) 2) new ≡ (Oid 2, Oid 6) ∷ [])
goes_on = (refl, refl)

-- after 2^64 - 1 comes 0
wraps : raised (Oid 18446744073709551615) 1 ≡ Oid 0
wraps = refl

-- places of old rows alone meet no new row; a place of a new row does
abbrev places : Pairs
places = (Oid 0, Oid 1) ∷ (Oid 1, Oid 0) ∷ []

meets_no_new : (stand_below 2 places ≡ true) × (joined places (old ++ new) ≡ joined places old)
meets_no_new = (refl, refl)

meets_new : (stand_below 2 ((Oid 0, Oid 2) ∷ []) ≡ false) × (joined ((Oid 0, Oid 2) ∷ []) (old ++ new) ≡ (Oid 0, Int (pos 9)) ∷ []) × (joined ((Oid 0, Oid 2) ∷ []) old ≡ [])
meets_new = (refl, refl, refl)

-- which are below 8
compared : (operate Lt (Bat (old ++ new) ∷ One (Int (pos 8)) ∷ []) ≡ Some (Bat ((Oid 0, Bit true) ∷ (Oid 1, Bit true) ∷ (Oid 2, Bit false) ∷ [])))
    × (operate Lt (Bat new ∷ One (Int (pos 8)) ∷ []) ≡ Some (Bat ((Oid 2, Bit false) ∷ [])))
compared = (refl, refl)
