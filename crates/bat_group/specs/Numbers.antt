-- Elements numbered by their first occurrence.
use Rattle.std.specs.Prelude.{◌≡◌, ℕ, List, [], ◌∷◌, ◌++◌, length, Bool, if◌then◌else◌}
use Rattle.std.specs.List.{list_any, position_from}
use Rattle.std.specs.HashMap.{HashMap, get}
use Rattle.cell_core.specs.declared.cell.Cell.{Cell}
use Rattle.cell_core.specs.Same.{same_cell}
use Rattle.chunk_core.specs.Filled.{oids_from}
use Rattle.bat_group.specs.declared.firsts.Firsts.{Firsts}
use Rattle.bat_group.specs.declared.firsts.Firsts.TheVariants as firsts

module _ {X : Type 0} (same : X → X → Bool) where
  -- the elements, and one more unless the same is among them
  abbrev pub with_first : List X → X → List X
  with_first firsts x = if list_any (λ y. same y x) firsts then firsts else firsts ++ x ∷ []

  -- each of these elements has its place as its number, and count is the next
  pub record AreNumbered {S : Type 0} (numbers : HashMap X ℕ S) (count : ℕ) (firsts : List X) : Type 0 where
    pub found : (x : X) → get same numbers x ≡ position_from (λ y. same y x) 0 firsts
    pub counted : count ≡ length firsts

-- these are the cells met so far, in the order of their numbers, and count is the next number
abbrev pub AreFirsts : Firsts → ℕ → List Cell → Type 0
AreFirsts firsts.Oids count met = met ≡ oids_from 0 count
AreFirsts (firsts.Cells numbers) count met = AreNumbered same_cell numbers count met
