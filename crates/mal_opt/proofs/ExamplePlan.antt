-- A plan before and after each optimiser. Its second instruction folds, its fifth overflows and its sixth is dead; the fourth equals the first.
use Rattle.std.specs.Prelude.{◌≡◌, ◌-◌, ◌^◌, ℕ, List, [], ◌∷◌, Bool, true, false, Option, Some, None, ℤ, pos, codes, refl}
use Rattle.cell_core.specs.declared.cell.Cell.TheVariants.{Nil, Int, Text, Bit}
use Rattle.cell_core.specs.declared.operator.Op.TheVariants as op
use Rattle.cell_core.specs.declared.operator.Arg.{Arg}
use Rattle.cell_core.specs.declared.operator.Arg.TheVariants.{Const, Var}
use Rattle.cell_core.specs.declared.operator.Instr.{Instr}
use Rattle.mal_meaning.specs.declared.plan.Plan.{Plan}
use Rattle.mal_emit.specs.Emitters.{instruction}
use Rattle.mal_opt.specs.Optimisers.{fold_constants, share_terms, drop_dead, optimise}
use Rattle.mal_opt.specs.Passes.{constant_value}

abbrev bind : Instr
bind = instruction op.Bind (Const (Text (codes "t")) ∷ Const (Text (codes "a")) ∷ Const (Text (codes "int")) ∷ [])

abbrev above : Arg → Arg → Instr
above b low = instruction op.Select (b ∷ low ∷ Const Nil ∷ Const (Bit false) ∷ Const (Bit true) ∷ [])

abbrev plus : Instr
plus = instruction op.Plus (Const (Int (pos 1)) ∷ Const (Int (pos 1)) ∷ [])

abbrev times : Instr
times = instruction op.Times (Const (Int (pos (2 ^ 63 - 1))) ∷ Const (Int (pos 2)) ∷ [])

abbrev two : Arg
two = Const (Int (pos 2))

abbrev plan : Plan
plan = record {
  instrs = bind ∷ plus ∷ above (Var 0) (Var 1) ∷ bind ∷ times ∷ instruction op.Mirror (Var 3 ∷ []) ∷ instruction op.Count (Var 2 ∷ []) ∷ instruction op.Gt (Var 6 ∷ Var 1 ∷ []) ∷ [];
  out = record { cols = Var 2 ∷ Var 3 ∷ []; keep = Some (Var 7); order = []; limit = None };
}

folded : fold_constants plan ≡ record {
  instrs = bind ∷ above (Var 0) two ∷ bind ∷ times ∷ instruction op.Mirror (Var 2 ∷ []) ∷ instruction op.Count (Var 1 ∷ []) ∷ instruction op.Gt (Var 5 ∷ two ∷ []) ∷ [];
  out = record { cols = Var 1 ∷ Var 2 ∷ []; keep = Some (Var 6); order = []; limit = None };
}
unfolding constant_value
folded = refl

shared : share_terms plan ≡ record {
  instrs = bind ∷ plus ∷ above (Var 0) (Var 1) ∷ times ∷ instruction op.Mirror (Var 0 ∷ []) ∷ instruction op.Count (Var 2 ∷ []) ∷ instruction op.Gt (Var 5 ∷ Var 1 ∷ []) ∷ [];
  out = record { cols = Var 2 ∷ Var 0 ∷ []; keep = Some (Var 6); order = []; limit = None };
}
shared = refl

dropped : drop_dead plan ≡ record {
  instrs = bind ∷ plus ∷ above (Var 0) (Var 1) ∷ bind ∷ times ∷ instruction op.Count (Var 2 ∷ []) ∷ instruction op.Gt (Var 5 ∷ Var 1 ∷ []) ∷ [];
  out = record { cols = Var 2 ∷ Var 3 ∷ []; keep = Some (Var 6); order = []; limit = None };
}
dropped = refl

optimised : optimise plan ≡ record {
  instrs = bind ∷ above (Var 0) two ∷ times ∷ instruction op.Count (Var 1 ∷ []) ∷ instruction op.Gt (Var 3 ∷ two ∷ []) ∷ [];
  out = record { cols = Var 1 ∷ Var 0 ∷ []; keep = Some (Var 4); order = []; limit = None };
}
unfolding constant_value
optimised = refl
