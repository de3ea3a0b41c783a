-- What the meaning of plans says of small plans.
use Rattle.std.proofs.Common.{◌≡◌, ℕ, List, [], ◌∷◌, Some, None, true, false, pos, codes, refl}
use Rattle.cell_core.specs.declared.cell.Cell.{Cell}
use Rattle.cell_core.specs.declared.cell.Cell.TheVariants.{Nil, Int, Text, Bit, Oid}
use Rattle.cell_core.specs.declared.cell.Kind.TheVariants as kind
use Rattle.cell_core.specs.declared.operator.Op.{Op}
use Rattle.cell_core.specs.declared.operator.Op.TheVariants as op
use Rattle.cell_core.specs.declared.operator.Arg.{Arg}
use Rattle.cell_core.specs.declared.operator.Arg.TheVariants.{Const, Var}
use Rattle.cell_core.specs.declared.operator.Instr.{Instr}
use Rattle.cell_core.specs.declared.table.Db.{Db}
use Rattle.mal_meaning.specs.declared.plan.Plan.{Plan}
use Rattle.mal_meaning.specs.declared.plan.Out.{Out}
use Rattle.mal_meaning.specs.Meaning.{instr_value, plan_rows, plan_load}

abbrev int : ℕ → Cell
int n = Int (pos n)

-- t with the column a: 3, 1, 2
abbrev database : Db
database = record {
  tables = record {
    name = codes "t";
    columns = record { name = codes "a"; kind = kind.Int; width = 0; not_null = false; default = Nil } ∷ [];
    rows = (int 3 ∷ []) ∷ (int 1 ∷ []) ∷ (int 2 ∷ []) ∷ [];
  } ∷ [];
}

abbrev instr : Op → List Arg → Instr
instr operator args = record { op = operator; args = args }

abbrev text : List ℕ → Arg
text bytes = Const (Text bytes)

abbrev bind : Instr
bind = instr op.Bind (text (codes "t") ∷ text (codes "a") ∷ text (codes "int") ∷ [])

abbrev plain : List Arg → Out
plain cols = record { cols = cols; keep = None; order = []; limit = None }

-- the rows of t with a between 2 and 3
abbrev between : Plan
between = record {
  instrs =
      bind
      ∷ instr op.Select (Var 0 ∷ Const (int 2) ∷ Const (int 3) ∷ Const (Bit true) ∷ Const (Bit true) ∷ [])
      ∷ instr op.Mirror (Var 1 ∷ [])
      ∷ instr op.MarkT (Var 2 ∷ Const (Oid 0) ∷ [])
      ∷ instr op.Reverse (Var 3 ∷ [])
      ∷ instr op.Join (Var 4 ∷ Var 0 ∷ [])
      ∷ [];
  out = plain (Var 5 ∷ []);
}

between_rows : (plan_rows between database ≡ Some ((int 2 ∷ []) ∷ (int 3 ∷ []) ∷ [])) × (plan_load between database ≡ 27)
unfolding instr_value
between_rows = (refl, refl)

-- all of t, in descending order, the first two; a scalar in every row; no row where `keep` is false
abbrev with_out : Out → Plan
with_out out = record { instrs = bind ∷ []; out = out }

outputs : (plan_rows (with_out (record { cols = Var 0 ∷ []; keep = None; order = (0, false) ∷ []; limit = Some 2 })) database ≡ Some ((int 3 ∷ []) ∷ (int 2 ∷ []) ∷ []))
    × (plan_rows (with_out (plain (Const (int 7) ∷ Var 0 ∷ []))) database ≡ Some ((int 7 ∷ int 1 ∷ []) ∷ (int 7 ∷ int 2 ∷ []) ∷ (int 7 ∷ int 3 ∷ []) ∷ []))
    × (plan_rows (with_out (plain (Const Nil ∷ []))) database ≡ Some ((Nil ∷ []) ∷ []))
    × (plan_rows (with_out (record { cols = Var 0 ∷ []; keep = Some (Const (Bit false)); order = []; limit = None })) database ≡ Some [])
unfolding instr_value
outputs = (refl, refl, refl, refl)

-- 3 * (2^63 - 1) overflows; its work counts, and so does that of what doesn't need it
abbrev overflowing : Plan
overflowing = record {
  instrs = bind ∷ instr op.Times (Var 0 ∷ Const (int 9_223_372_036_854_775_807) ∷ []) ∷ instr op.Mirror (Var 1 ∷ []) ∷ instr op.Mirror (Var 0 ∷ []) ∷ [];
  out = plain (Var 1 ∷ []);
}

overflow : (plan_rows overflowing database ≡ None) × (plan_load overflowing database ≡ 15)
unfolding instr_value
overflow = (refl, refl)
