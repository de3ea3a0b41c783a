-- Keys that are numbered by their first occurrence, and elements that are made of keys.
use Rattle.std.specs.Prelude.{◌≡◌, ℕ, List, map, Bool, ◌&&◌, nat_eq}
use Rattle.cell_core.specs.declared.cell.Cell.{Cell}
use Rattle.cell_core.specs.declared.cell.Cell.TheVariants.{Oid}
use Rattle.cell_core.specs.Groups.{distinct, group_number}
use Rattle.bat_group.specs.declared.numbered.Numbered.{Numbered}
use Rattle.bat_group.specs.Numbers.{AreNumbered}

module _ {K : Type 0} (same : K → K → Bool) where
  -- those of the keys that differ are numbered, and each key has its number
  pub record AreKeys (met : Numbered K) (keys : List K) : Type 0 where
    pub known : AreNumbered same met.numbers met.count (distinct same keys)
    pub out : met.out ≡ map (λ k. Oid (group_number same keys k)) keys

  -- the elements are made of keys that were met
  pub record AreMade {X : Type 0} (made : K → X) (met : Numbered K) (elements : List X) : Type 0 where
    pub keys : List K
    pub are : elements ≡ map made keys
    pub numbered : AreKeys met keys

-- two pairs with the same oid and the same key
abbrev pub same_both : {K : Type 0} → (K → K → Bool) → ℕ × K → ℕ × K → Bool
same_both same p q = nat_eq p.0 q.0 && same p.1 q.1

-- the cells of an oid and a key
abbrev pub cells_of_both : {K : Type 0} → (K → Cell) → ℕ × K → Cell × Cell
cells_of_both cell_of k = (Oid k.0, cell_of k.1)
