-- Phrases that many translations share: counting the heads of a BAT, gathering BATs by one, and keeping where a value is true.
use Rattle.std.specs.Prelude.{ℕ, List, [], ◌∷◌, map, Bool, true}
use Rattle.cell_core.specs.declared.cell.Cell.TheVariants.{Bit, Oid}
use Rattle.cell_core.specs.declared.operator.Op.TheVariants as op
use Rattle.cell_core.specs.declared.operator.Arg.{Arg}
use Rattle.cell_core.specs.declared.operator.Arg.TheVariants.{Const, Var}
use Rattle.mal_emit.specs.Emitters.{Emitter, emits, gives, followed}

-- the results of the instructions with these numbers
abbrev pub variables : List ℕ → List Arg
variables numbers = map Var numbers

-- the heads of a BAT beside a count from 0
abbrev pub counted : Arg → Emitter Arg
counted b = followed (emits op.MarkT (b ∷ Const (Oid 0) ∷ [])) (λ m. emits op.Reverse (m ∷ []))

-- each of these BATs by the places that the tails of n name
abbrev pub gather : Arg → List Arg → Emitter (List Arg)
gather n [] = gives []
gather n (r ∷ rs) = followed (emits op.Join (n ∷ r ∷ [])) (λ x. followed (gather n rs) (λ xs. gives (x ∷ xs)))

-- the pairs of a BAT whose tail lies in a range
abbrev pub selects : Arg → Arg → Arg → Bool → Bool → Emitter Arg
selects b low high li hi = emits op.Select (b ∷ low ∷ high ∷ Const (Bit li) ∷ Const (Bit hi) ∷ [])

-- these BATs at the places where v is true, counted from 0
abbrev pub keep : Arg → List Arg → Emitter (List Arg)
keep v rs = followed (selects v (Const (Bit true)) (Const (Bit true)) true true) (λ s. followed (counted s) (λ n. gather n rs))
