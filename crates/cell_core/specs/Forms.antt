-- What each operator takes and returns.
use Rattle.std.specs.Prelude.{ℕ, List, Bool, true, false, get_or}
use Rattle.std.specs.List.{list_any}
use Rattle.cell_core.specs.declared.operator.Arg.{Arg}
use Rattle.cell_core.specs.declared.operator.Arg.TheVariants.{Const, Var}
use Rattle.cell_core.specs.declared.operator.Instr.{Instr}
use Rattle.cell_core.specs.declared.operator.Op.{Op}
use Rattle.cell_core.specs.declared.operator.Op.TheVariants as op
use Rattle.cell_core.specs.declared.form.Form.{Form}
use Rattle.cell_core.specs.declared.form.Form.TheVariants as form

abbrev pub form_of : Op → Form
form_of op.Bind = form.Bind
form_of op.Select = form.Range
form_of op.Semijoin = form.TwoBats
form_of op.Kdifference = form.TwoBats
form_of op.Kunion = form.TwoBats
form_of op.Reverse = form.OneBat
form_of op.Mirror = form.OneBat
form_of op.MarkT = form.BatAndCell
form_of op.Project = form.BatAndCell
form_of op.Cross = form.TwoBats
form_of op.Join = form.TwoBats
form_of op.GroupNew = form.OneBat
form_of op.GroupDerive = form.TwoBats
form_of op.GroupHeads = form.OneBat
form_of op.Count = form.Total
form_of op.Sum = form.Total
form_of op.Min = form.Total
form_of op.Max = form.Total
form_of op.Subcount = form.TwoBats
form_of op.Subsum = form.TwoBats
form_of op.Submin = form.TwoBats
form_of op.Submax = form.TwoBats
form_of op.Plus = form.TwoCells
form_of op.Minus = form.TwoCells
form_of op.Times = form.TwoCells
form_of op.Eq = form.TwoCells
form_of op.Ne = form.TwoCells
form_of op.Lt = form.TwoCells
form_of op.Le = form.TwoCells
form_of op.Gt = form.TwoCells
form_of op.Ge = form.TwoCells
form_of op.And = form.TwoCells
form_of op.Or = form.TwoCells
form_of op.Not = form.OneCell
form_of op.IsNil = form.OneCell

-- how many arguments it takes
abbrev pub count_taken : Form → ℕ
count_taken form.Bind = 3
count_taken form.Range = 5
count_taken form.OneBat = 1
count_taken form.Total = 1
count_taken form.TwoBats = 2
count_taken form.BatAndCell = 2
count_taken form.TwoCells = 2
count_taken form.OneCell = 1

abbrev pub argument_count : Op → ℕ
argument_count operator = count_taken (form_of operator)

-- a function of cells, which takes scalars as well as BATs
abbrev pub is_calc_form : Form → Bool
is_calc_form form.TwoCells = true
is_calc_form form.OneCell = true
is_calc_form _ = false

abbrev pub is_calc : Op → Bool
is_calc operator = is_calc_form (form_of operator)

-- the operators that may overflow
abbrev pub may_overflow : Op → Bool
may_overflow op.Plus = true
may_overflow op.Minus = true
may_overflow op.Times = true
may_overflow _ = false

-- ## Which results are BATs

-- the argument is the result of an instruction whose result is a BAT
abbrev pub is_bat : List Bool → Arg → Bool
is_bat bats (Const cell) = false
is_bat bats (Var n) = get_or bats n false

-- an operator of this form gives a BAT: aggregates of all tails give scalars, and functions of cells
-- give a BAT where an argument is one
abbrev pub gives_bat : Form → Bool → Bool
gives_bat form.Total taken = false
gives_bat form.TwoCells taken = taken
gives_bat form.OneCell taken = taken
gives_bat _ taken = true

-- the result of the instruction is a BAT, where this is known of the results before it
abbrev pub is_bat_result : List Bool → Instr → Bool
is_bat_result bats instr = gives_bat (form_of instr.op) (list_any (is_bat bats) instr.args)
