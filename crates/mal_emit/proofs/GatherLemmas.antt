-- What BATs gathered by one are, over any machine.
use Rattle.std.proofs.Common.{◌≡◌, List, [], ◌∷◌, map, Some}
use Rattle.std.specs.List.{AllByRecursion}
use Rattle.cell_core.specs.declared.operator.Instr.{Instr}
use Rattle.cell_core.specs.declared.operator.Op.TheVariants as op
use Rattle.cell_core.specs.declared.operator.Arg.{Arg}
use Rattle.mal_emit.specs.Emitters.{emits}
use Rattle.mal_emit.specs.Machines.{Machine, Holds}
use Rattle.mal_emit.specs.Phrases.{gather}
use Rattle.mal_emit.proofs.MachineLemmas.{At, step_to, rest_holds, first_holds, and_holds, stays, none_known, some_known}

module _ {V : Type 0} (m : Machine V) (b : V) (f : V → V) where
  -- a join of the one with this has a result
  abbrev pub Joins : V → Type 0
  Joins v = (n r : Arg) → m.apply op.Join (n ∷ r ∷ []) (b ∷ v ∷ []) ≡ Some (f v)

  pub gather_holds : (n : Arg) (rs : List Arg) (vs : List V) → AllByRecursion Joins vs → (before : List Instr) → Holds m before (n ∷ []) (b ∷ []) → Holds m before rs vs
      → Holds m ((gather n rs).run before).0 ((gather n rs).run before).1 (map f vs)
  gather_holds n [] [] joins before h k = k
  gather_holds n [] (v ∷ vs) joins before h k = absurd (none_known m k)
  gather_holds n (arg ∷ rs) [] joins before h k = absurd (some_known m k)
  gather_holds n (arg ∷ rs) (v ∷ vs) joins before h k =
      let one = step_to m (and_holds m h k) op.Join (At 0 ∷ At 1 ∷ []) (Some (f v)) (joins.0 n arg) in
      let grown = (emits op.Join (n ∷ arg ∷ [])).grows before in
      let others = gather_holds n rs vs joins.1 ((emits op.Join (n ∷ arg ∷ [])).run before).0 (stays m grown h one) (stays m grown (rest_holds m k) one) in
      and_holds m (stays m ((gather n rs).grows ((emits op.Join (n ∷ arg ∷ [])).run before).0) (first_holds m one) others) others
