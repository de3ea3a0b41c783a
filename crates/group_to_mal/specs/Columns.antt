-- The columns of an output, of which some are BATs and others are scalars.
use Rattle.std.specs.Prelude.{List, [], ◌∷◌, Bool, true, false, not, ◌||◌}
use Rattle.std.specs.List.{list_any}
use Rattle.cell_core.specs.declared.cell.Cell.TheVariants.{Nil, Bit}
use Rattle.cell_core.specs.declared.operator.Op.TheVariants as op
use Rattle.cell_core.specs.declared.operator.Arg.{Arg}
use Rattle.cell_core.specs.declared.operator.Arg.TheVariants.{Const}
use Rattle.mal_emit.specs.Emitters.{Emitter, emits, gives, followed}
use Rattle.mal_emit.specs.Phrases.{counted, selects}

-- one value after the other
abbrev pub values_by : {X : Type 0} → (X → Emitter Arg) → List X → Emitter (List Arg)
values_by value [] = gives []
values_by value (x ∷ xs) = followed (value x) (λ v. followed (values_by value xs) (λ vs. gives (v ∷ vs)))

-- ## BATs among the columns

-- a scalar beside each head of a BAT; a BAT stays
abbrev pub spread_by : Arg → Bool → Arg → Emitter Arg
spread_by heads true v = gives v
spread_by heads false v = emits op.Project (heads ∷ v ∷ [])

abbrev pub any_bat : List Bool → Bool
any_bat bats = list_any (λ bat. bat) bats

-- which columns are BATs once the first has become one where none was
abbrev pub with_bat : List Bool → List Bool
with_bat [] = []
with_bat (bat ∷ bats) = (bat || not (any_bat bats)) ∷ bats

-- where no column is a BAT, the first becomes one, with these heads
abbrev pub spread_first : Arg → List Bool → List Arg → Emitter (List Arg)
spread_first heads (bat ∷ bats) (v ∷ vs) = followed (spread_by heads (bat || any_bat bats) v) (λ w. gives (w ∷ vs))
spread_first heads _ vs = gives vs

-- those columns that are BATs
abbrev pub bats_of : List Bool → List Arg → List Arg
bats_of (true ∷ bats) (v ∷ vs) = v ∷ bats_of bats vs
bats_of (false ∷ bats) (v ∷ vs) = bats_of bats vs
bats_of _ _ = []

-- a BAT at the places in the tails of n; a scalar stays
abbrev pub gather_one : Arg → Bool → Arg → Emitter Arg
gather_one n true v = emits op.Join (n ∷ v ∷ [])
gather_one n false v = gives v

-- each BAT at the places in the tails of n; scalars stay
abbrev pub gather_bats : Arg → List Bool → List Arg → Emitter (List Arg)
gather_bats n (true ∷ bats) (v ∷ vs) = followed (emits op.Join (n ∷ v ∷ [])) (λ x. followed (gather_bats n bats vs) (λ xs. gives (x ∷ xs)))
gather_bats n (false ∷ bats) (v ∷ vs) = followed (gather_bats n bats vs) (λ xs. gives (v ∷ xs))
gather_bats n _ _ = gives []

-- the columns at the places where a test is true
abbrev pub keep_bats : Arg → List Bool → List Arg → Emitter (List Arg)
keep_bats v bats vs = followed (selects v (Const (Bit true)) (Const (Bit true)) true true) (λ s. followed (counted s) (λ n. gather_bats n bats vs))

-- ## Groups

-- finer groups, by one column after another
abbrev pub finer : Arg → List Arg → Emitter Arg
finer g [] = gives g
finer g (v ∷ vs) = followed (emits op.GroupDerive (g ∷ v ∷ [])) (λ h. finer h vs)

-- the groups of these columns, which are one at least
abbrev pub groups : List Arg → Emitter Arg
groups [] = gives (Const Nil)
groups (v ∷ vs) = followed (emits op.GroupNew (v ∷ [])) (λ g. finer g vs)

-- the first row of each group
abbrev pub heads : Arg → Emitter Arg
heads g = emits op.GroupHeads (g ∷ [])

-- the columns without doubled rows, where that is asked for
abbrev pub undoubled : Bool → List Bool → List Arg → Emitter (List Arg)
undoubled false bats vs = gives vs
undoubled true bats vs = followed (groups (bats_of bats vs)) (λ g. followed (heads g) (λ h. gather_bats h bats vs))
