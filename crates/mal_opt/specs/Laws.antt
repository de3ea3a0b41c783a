-- What optimisers promise, without saying how they work.
use Rattle.std.specs.Prelude.{◌≡◌, ◌↔◌, ℕ, ◌<◌, length, slice_get, true, Some, None}
use Rattle.cell_core.specs.declared.operator.Instr.{Instr}
use Rattle.cell_core.specs.declared.table.Db.{Db}
use Rattle.mal_meaning.specs.declared.plan.Plan.{Plan}
use Rattle.mal_meaning.specs.Meaning.{plan_rows}
use Rattle.mal_check.specs.Runnable.{FitsDb}
use Rattle.mal_opt.specs.Live.{Leads, is_alive}
use Rattle.mal_opt.specs.Passes.{constant_value}

-- both have the same rows over every database, or both overflow
abbrev pub MeanTheSame : Plan → Plan → Type 0
MeanTheSame plan made = (db : Db) → plan_rows made db ≡ plan_rows plan db

-- the second fits every database that the first fits
abbrev pub FitsWhere : Plan → Plan → Type 0
FitsWhere plan made = (db : Db) → FitsDb plan db → FitsDb made db

-- no instruction is a calculation of constants that has a value
abbrev pub NoneFolds : Plan → Type 0
NoneFolds plan = (n : ℕ) (instr : Instr) → slice_get plan.instrs n ≡ Some instr → constant_value instr ≡ None

-- no two instructions are equal
abbrev pub AllDiffer : Plan → Type 0
AllDiffer plan = (m n : ℕ) (instr : Instr) → slice_get plan.instrs m ≡ Some instr → slice_get plan.instrs n ≡ Some instr → m ≡ n

-- from each instruction a path leads to one that is shown or may overflow
abbrev pub AllLead : Plan → Type 0
AllLead plan = (n : ℕ) → n < length plan.instrs → Leads plan n

-- the live instructions are exactly those from which a path leads there
abbrev pub AliveLead : Type 0
AliveLead = (plan : Plan) (n : ℕ) → (is_alive plan n ≡ true) ↔ Leads plan n
