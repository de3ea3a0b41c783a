-- What is printed of a plan reads as that plan again.
use Rattle.std.specs.Prelude.{◌≡◌, ℕ, ◌^◌, length, Bool, true, ◌&&◌, nat_lt, None, ℤ, pos, negsuc, IsUtf8}
use Rattle.std.specs.List.{list_all}
use Rattle.std.specs.Option.{option_map_or}
use Rattle.std.specs.Str.{is_utf8}
use Rattle.cell_core.specs.Calc.{fits_int}
use Rattle.cell_core.specs.Day.{is_printed_day}
use Rattle.cell_core.specs.declared.cell.Cell.TheVariants as cell
use Rattle.cell_core.specs.declared.operator.Arg.{Arg}
use Rattle.cell_core.specs.declared.operator.Arg.TheVariants.{Const}
use Rattle.cell_core.specs.declared.operator.Instr.{Instr}
use Rattle.mal_meaning.specs.declared.plan.Plan.{Plan}
use Rattle.mal_check.specs.Checked.{plan_fault}
use Rattle.mal_print.specs.Canon.{plan_text}
use Rattle.mal_text.specs.Reads.{ReadsAs}

-- each argument of the plan passes a test
abbrev pub each_arg : (Arg → Bool) → Plan → Bool
each_arg test plan = list_all (λ (i : Instr). list_all test i.args) plan.instrs && option_map_or test plan.out.keep true && list_all test plan.out.cols

-- ## Days

-- a day from 0001-01-01 to 9999-12-31, or no day
abbrev pub is_dated : Arg → Bool
is_dated (Const (cell.Day day)) = is_printed_day day
is_dated other = true

-- each day of the plan has a text
abbrev pub days_have_text : Plan → Bool
days_have_text plan = each_arg is_dated plan

-- ## Values that the program can hold

-- a number from the negative of the limit up to below the limit
abbrev pub is_below_limit : ℕ → ℤ → Bool
is_below_limit limit (pos n) = nat_lt n limit
is_below_limit limit (negsuc n) = nat_lt n limit

-- a number in the range of its kind, a text of characters, or another argument
abbrev pub fits_kind : Arg → Bool
fits_kind (Const (cell.Int n)) = fits_int n
fits_kind (Const (cell.Huge n)) = is_below_limit (2 ^ 127) n
fits_kind (Const (cell.Text text)) = is_utf8 text
fits_kind (Const (cell.Oid n)) = nat_lt n (2 ^ 64)
fits_kind other = true

-- the instructions can be counted, and the places of the order and the limit are of their types
abbrev pub counts_fit : Plan → Bool
counts_fit plan = nat_lt (length plan.instrs) (2 ^ 64) && list_all (λ (key : ℕ × Bool). nat_lt key.0 (2 ^ 32)) plan.out.order && option_map_or (λ n. nat_lt n (2 ^ 64)) plan.out.limit true

-- the plan's values are of their types, as those of each plan that the program holds
abbrev pub values_fit : Plan → Bool
values_fit plan = each_arg fits_kind plan && counts_fit plan

-- ## The laws

-- the canonical text of a plan without a fault reads as that plan, where its days have a text
abbrev pub PrintedReads : Type 0
PrintedReads = (plan : Plan) → plan_fault plan ≡ None → values_fit plan ≡ true → days_have_text plan ≡ true → ReadsAs (plan_text plan) plan

-- it is a text of characters
abbrev pub PrintedIsText : Type 0
PrintedIsText = (plan : Plan) → plan_fault plan ≡ None → values_fit plan ≡ true → days_have_text plan ≡ true → IsUtf8 (plan_text plan)
