-- BATs and values that have grown.
use Rattle.std.specs.Prelude.{◌≡◌, ℕ, ◌+◌, ◌%◌, ◌^◌, ◌≤◌, List, [], ◌∷◌, ◌++◌, Bool, length}
use Rattle.std.specs.List.{AllByRecursion, list_all}
use Rattle.std.specs.Ordering.{is_lt}
use Rattle.cell_core.specs.declared.cell.Cell.{Cell}
use Rattle.cell_core.specs.declared.cell.Cell.TheVariants.{Oid}
use Rattle.cell_core.specs.declared.operator.Value.{Value}
use Rattle.cell_core.specs.declared.operator.Value.TheVariants.{Bat, One}
use Rattle.cell_core.specs.Order.{cell_cmp}
use Rattle.cell_core.specs.Pairs.{Pairs}

-- the base of a mark that goes on after so many pairs; a Nil base stays Nil
abbrev pub raised : Cell → ℕ → Cell
raised (Oid base) n = Oid ((base + n) % 2 ^ 64)
raised c n = c

-- all tails are below an oid
abbrev pub stand_below : ℕ → Pairs → Bool
stand_below n b = list_all (λ (p : Cell × Cell). is_lt (cell_cmp p.1 (Oid n))) b

-- the heads are oids from a number on
abbrev pub AreFrom : ℕ → Pairs → Type 0
AreFrom n b = AllByRecursion (λ (q : Cell × Cell). (m : ℕ) × (q.0 ≡ Oid m) × (n ≤ m)) b

-- values, and what follows each BAT among them
abbrev pub grown : List Value → List Value → List Value
grown (Bat b ∷ vs) (Bat d ∷ ds) = Bat (b ++ d) ∷ grown vs ds
grown (One c ∷ vs) (One e ∷ ds) = One c ∷ grown vs ds
grown _ _ = []

-- each BAT has n pairs and something follows it, and each scalar stays
abbrev pub AreGrown : ℕ → List Value → List Value → Type 0
AreGrown n [] [] = Unit {0}
AreGrown n (Bat b ∷ vs) (Bat d ∷ ds) = (length b ≡ n) × AreGrown n vs ds
AreGrown n (One c ∷ vs) (One e ∷ ds) = (c ≡ e) × AreGrown n vs ds
AreGrown n _ _ = ⊥

-- there is a BAT among them
abbrev pub HasBat : List Value → Type 0
HasBat [] = ⊥
HasBat (Bat b ∷ vs) = Unit {0}
HasBat (One c ∷ vs) = HasBat vs
