-- In a plan without a fault each variable names one of its instructions.
use Rattle.std.proofs.Common.{◌≡◌, ℕ, ◌+◌, ◌<◌, ◌≤◌, ◌^◌, List, [], ◌∷◌, ◌++◌, length, Bool, true, false, not, ◌&&◌, cond, is_some, Option, Some, None, Result, Ok, Err, refl, ap, sym, ◌∙◌, arith, rules, length-append, slice_get, nat_lt, int_le, ℤ, pos, negsuc}
use Rattle.std.specs.Prelude.{IfSome, IsUtf8}
use Rattle.std.specs.List.{list_all, AllByRecursion}
use Rattle.std.specs.Option.{option_map, option_map_or, option_and_then}
use Rattle.std.proofs.lemmas.Bool.{and_parts}
use Rattle.std.proofs.lemmas.Bool.Decides.{nat_tests}
use Rattle.std.proofs.lemmas.Option.{slice_get_within}
use Rattle.std.proofs.lemmas.Str.{IsUtf8-from_is_utf8}
use Rattle.jiff_core.specs.Calendar.{days_from_civil}
use Rattle.cell_core.specs.Calc.{fits_int}
use Rattle.cell_core.specs.Day.{is_printed_day, IsPrintedDay}
use Rattle.cell_core.specs.Kinds.{ValueType}
use Rattle.cell_core.specs.declared.cell.Cell.{Cell}
use Rattle.cell_core.specs.declared.cell.Cell.TheVariants as cell
use Rattle.cell_core.specs.declared.operator.Arg.{Arg}
use Rattle.cell_core.specs.declared.operator.Arg.TheVariants.{Const, Var}
use Rattle.cell_core.specs.declared.operator.Instr.{Instr}
use Rattle.mal_meaning.specs.declared.plan.Out.{Out}
use Rattle.mal_meaning.specs.declared.plan.Plan.{Plan}
use Rattle.mal_check.proofs.RunLemmas.{types_given}
use Rattle.mal_check.specs.Checked.{arg_type, arg_types, instr_type, fault_or_else, types_from, instr_types, passes, is_known, is_bit, are_below, is_empty, out_fault, fault_with, plan_fault}
use Rattle.mal_check.specs.declared.error.PlanError.{PlanError}
use Rattle.mal_check.specs.declared.error.PlanError.TheVariants.{UnknownVar, KindsDiffer, WrongCount, NoOutput}
use Rattle.mal_print_laws.specs.PrintedReads.{each_arg, is_dated, days_have_text, is_below_limit, fits_kind, counts_fit, values_fit}

-- ## Tests and what they say

-- a number from the negative of the limit up to below the limit
abbrev pub IsWithin : ℕ → ℤ → Type 0
IsWithin limit (pos n) = n < limit
IsWithin limit (negsuc n) = n < limit

-- a number in the range of its kind, a text of characters, a day from 0001-01-01 to 9999-12-31, or another constant
abbrev pub HasText : Cell → Type 0
HasText (cell.Int n) = IsWithin (2 ^ 63) n
HasText (cell.Huge n) = IsWithin (2 ^ 127) n
HasText (cell.Day day) = IsPrintedDay day
HasText (cell.Text text) = IsUtf8 text
HasText (cell.Oid n) = n < 2 ^ 64
HasText other = Unit {0}

-- a constant that has a text, or the result of one of so many instructions
abbrev pub IsNamed : ℕ → Arg → Type 0
IsNamed count (Const c) = HasText c
IsNamed count (Var n) = n < count

-- each argument of the plan is such a one, and its counts are those of the machine
pub record IsNamedPlan (plan : Plan) : Type 0 where
  pub instrs_are : AllByRecursion (λ (i : Instr). AllByRecursion (IsNamed (length plan.instrs)) i.args) plan.instrs
  pub count_is : length plan.instrs < 2 ^ 64
  pub keep_is : IfSome plan.out.keep (IsNamed (length plan.instrs))
  pub order_are : AllByRecursion (λ (key : ℕ × Bool). key.0 < 2 ^ 32) plan.out.order
  pub limit_is : IfSome plan.out.limit (λ n. n < 2 ^ 64)
  pub cols_are : AllByRecursion (IsNamed (length plan.instrs)) plan.out.cols

below_limit : (n limit : ℕ) → nat_lt n limit ≡ true → n < limit
below_limit n limit h = grind (arith, nat_tests)

within_limit : (limit : ℕ) (z : ℤ) → is_below_limit limit z ≡ true → IsWithin limit z
within_limit limit (pos n) h = below_limit n limit h
within_limit limit (negsuc n) h = below_limit n limit h

within_int : (z : ℤ) → fits_int z ≡ true → IsWithin (2 ^ 63) z
within_int (pos n) h = grind (arith, nat_tests)
within_int (negsuc n) h = grind (arith, nat_tests)

printed_day : (day : ℤ) → is_printed_day day ≡ true → IsPrintedDay day
printed_day day h =
    let both = and_parts (int_le (days_from_civil (pos 1) 1 1) day) (int_le day (days_from_civil (pos 9999) 12 31)) h in
    (search rules, search rules)

-- ## Arguments

constant_has : (c : Cell) → fits_kind (Const c) ≡ true → is_dated (Const c) ≡ true → HasText c
constant_has cell.Nil fits dated = tt
constant_has (cell.Int n) fits dated = within_int n fits
constant_has (cell.Huge n) fits dated = within_limit (2 ^ 127) n fits
constant_has (cell.Text text) fits dated = IsUtf8-from_is_utf8 text fits
constant_has (cell.Day day) fits dated = printed_day day dated
constant_has (cell.Bit b) fits dated = tt
constant_has (cell.Oid n) fits dated = below_limit n (2 ^ 64) fits

module _ (types : List ValueType) (count : ℕ) (within : length types ≤ count) where
  known_named : (arg : Arg) → is_known types arg ≡ true → fits_kind arg ≡ true → is_dated arg ≡ true → IsNamed count arg
  known_named (Const c) known fits dated = constant_has c fits dated
  known_named (Var n) known fits dated = at (slice_get types n) refl known
    where
      at : (o : Option ValueType) → slice_get types n ≡ o → is_some o ≡ true → n < count
      at None e h = cc
      at (Some t) e h = let low = slice_get_within types n t e in omega (arith, within, low)

  knowns_named : (args : List Arg) → list_all (is_known types) args ≡ true → list_all fits_kind args ≡ true → list_all is_dated args ≡ true → AllByRecursion (IsNamed count) args
  knowns_named [] known fits dated = tt
  knowns_named (arg ∷ args) known fits dated =
      let (k, ks) = and_parts (is_known types arg) (list_all (is_known types) args) known in
      let (f, fs) = and_parts (fits_kind arg) (list_all fits_kind args) fits in
      let (d, ds) = and_parts (is_dated arg) (list_all is_dated args) dated in
      (known_named arg k f d, knowns_named args ks fs ds)

  kept_named : (keep : Option Arg) → passes (is_known types) keep ≡ true → option_map_or fits_kind keep true ≡ true → option_map_or is_dated keep true ≡ true → IfSome keep (IsNamed count)
  kept_named None known fits dated = tt
  kept_named (Some arg) known fits dated = known_named arg known fits dated

-- arguments that have types are known
types_known : (types : List ValueType) (args : List Arg) (found : List ValueType) → arg_types types args ≡ Some found → list_all (is_known types) args ≡ true
types_known types [] found e = refl
types_known types (arg ∷ args) found e = at (arg_type types arg) (arg_types types args) refl (λ more h. types_known types args more h) e
  where
    at : (o : Option ValueType) (os : Option (List ValueType)) → arg_type types arg ≡ o → ((more : List ValueType) → os ≡ Some more → list_all (is_known types) args ≡ true)
        → option_and_then (λ y. option_map (λ ys. y ∷ ys) os) o ≡ Some found → (is_known types arg && list_all (is_known types) args) ≡ true
    at None os e rest h = cc
    at (Some t) None e rest h = cc
    at (Some t) (Some more) e rest h = ap (λ o. is_some o && list_all (is_known types) args) e ∙ rest more refl

-- ## Instructions

instr_known : (types : List ValueType) (instr : Instr) (t : ValueType) → instr_type types instr ≡ Ok t → list_all (is_known types) instr.args ≡ true
unfolding instr_type
instr_known types instr t e =
    let given = types_given (length types) instr.op instr.args (arg_types types instr.args) t e in
    types_known types instr.args given.0 given.1

-- how many types there are in the end
types_count : (types : List ValueType) (instrs : List Instr) (all : List ValueType) → types_from types instrs ≡ Ok all → length all ≡ length types + length instrs
types_count types [] all e = at e
  where
    at : ◌≡◌ {A = Result (List ValueType) PlanError} (Ok types) (Ok all) → length all ≡ length types + 0
    at e = let same : types ≡ all = cc in sym (ap length same) ∙ omega arith
types_count types (instr ∷ instrs) all e = at (instr_type types instr) e (λ t. types_count (types ++ t ∷ []) instrs all)
  where
    at : (r : Result ValueType PlanError) → fault_or_else (λ found. types_from (types ++ found ∷ []) instrs) r ≡ Ok all → ((t : ValueType) → types_from (types ++ t ∷ []) instrs ≡ Ok all → length all ≡ length (types ++ t ∷ []) + length instrs) → length all ≡ length types + length (instr ∷ instrs)
    at (Err x) e more = absurd (cc)
    at (Ok t) e more = let whole = more t e in omega (arith, whole, length-append types (t ∷ []))

abbrev instrs_pass : (Arg → Bool) → List Instr → Bool
instrs_pass test instrs = list_all (λ (i : Instr). list_all test i.args) instrs

abbrev AreNamed : ℕ → List Instr → Type 0
AreNamed count instrs = AllByRecursion (λ (i : Instr). AllByRecursion (IsNamed count) i.args) instrs

instrs_named : (count : ℕ) (types : List ValueType) (instrs : List Instr) (all : List ValueType) → types_from types instrs ≡ Ok all → length all ≤ count → instrs_pass fits_kind instrs ≡ true → instrs_pass is_dated instrs ≡ true → AreNamed count instrs
instrs_named count types [] all e within fits dated = tt
instrs_named count types (instr ∷ instrs) all e within fits dated =
    let (f, fs) = and_parts (list_all fits_kind instr.args) (instrs_pass fits_kind instrs) fits in
    let (d, ds) = and_parts (list_all is_dated instr.args) (instrs_pass is_dated instrs) dated in
    at (instr_type types instr) refl e f d (λ t h. instrs_named count (types ++ t ∷ []) instrs all h within fs ds)
  where
    at : (r : Result ValueType PlanError) → instr_type types instr ≡ r → fault_or_else (λ found. types_from (types ++ found ∷ []) instrs) r ≡ Ok all → list_all fits_kind instr.args ≡ true → list_all is_dated instr.args ≡ true
        → ((t : ValueType) → types_from (types ++ t ∷ []) instrs ≡ Ok all → AreNamed count instrs) → AllByRecursion (IsNamed count) instr.args × AreNamed count instrs
    at (Err x) e h f d more = absurd (cc)
    at (Ok t) e h f d more =
        let few = types_count types (instr ∷ instrs) all (ap (fault_or_else (λ found. types_from (types ++ found ∷ []) instrs)) e ∙ h) in
        (knowns_named types count (omega (arith, few, within)) instr.args (instr_known types instr t e) f d, more t h)

-- ## Plans

out_known : (types : List ValueType) (out : Out) → out_fault types out ≡ None → (list_all (is_known types) out.cols && passes (is_known types) out.keep) ≡ true
out_known types out none = at (is_empty out.cols) (list_all (is_known types) out.cols && passes (is_known types) out.keep) (are_below (length out.cols) out.order) (passes (is_bit types) out.keep) none
  where
    at : (empty known below bit : Bool) → cond empty (Some NoOutput) (cond (not known) (Some (UnknownVar (length types))) (cond (not below) (Some (WrongCount (length types))) (cond (not bit) (Some (KindsDiffer (length types))) None))) ≡ None → known ≡ true
    at true known below bit h = absurd (cc)
    at false false below bit h = absurd (cc)
    at false true below bit h = refl

places_below : (order : List (ℕ × Bool)) → list_all (λ (key : ℕ × Bool). nat_lt key.0 (2 ^ 32)) order ≡ true → AllByRecursion (λ (key : ℕ × Bool). key.0 < 2 ^ 32) order
places_below [] h = tt
places_below (key ∷ order) h =
    let both = and_parts (nat_lt key.0 (2 ^ 32)) (list_all (λ (key : ℕ × Bool). nat_lt key.0 (2 ^ 32)) order) h in
    (below_limit key.0 (2 ^ 32) both.0, places_below order both.1)

limit_below : (limit : Option ℕ) → option_map_or (λ n. nat_lt n (2 ^ 64)) limit true ≡ true → IfSome limit (λ n. n < 2 ^ 64)
limit_below None h = tt
limit_below (Some n) h = below_limit n (2 ^ 64) h

-- what a test of each argument says
pub record Passes (test : Arg → Bool) (plan : Plan) : Type 0 where
  pub instrs_pass : list_all (λ (i : Instr). list_all test i.args) plan.instrs ≡ true
  pub keep_passes : option_map_or test plan.out.keep true ≡ true
  pub cols_pass : list_all test plan.out.cols ≡ true

passes_from : (test : Arg → Bool) (plan : Plan) → each_arg test plan ≡ true → Passes test plan
passes_from test plan h =
    let (front, cols) = and_parts (list_all (λ (i : Instr). list_all test i.args) plan.instrs && option_map_or test plan.out.keep true) (list_all test plan.out.cols) h in
    let (instrs, keep) = and_parts (list_all (λ (i : Instr). list_all test i.args) plan.instrs) (option_map_or test plan.out.keep true) front in
    record { instrs_pass = instrs; keep_passes = keep; cols_pass = cols }

-- a plan without a fault, whose values fit and whose days have a text
pub named_plan : (plan : Plan) → plan_fault plan ≡ None → values_fit plan ≡ true → days_have_text plan ≡ true → IsNamedPlan plan
named_plan plan none fit dated =
    let (kinds, counts) = and_parts (each_arg fits_kind plan) (counts_fit plan) fit in
    let (front, limit) = and_parts (nat_lt (length plan.instrs) (2 ^ 64) && list_all (λ (key : ℕ × Bool). nat_lt key.0 (2 ^ 32)) plan.out.order) (option_map_or (λ n. nat_lt n (2 ^ 64)) plan.out.limit true) counts in
    let (count, order) = and_parts (nat_lt (length plan.instrs) (2 ^ 64)) (list_all (λ (key : ℕ × Bool). nat_lt key.0 (2 ^ 32)) plan.out.order) front in
    at (instr_types plan.instrs) refl none (passes_from fits_kind plan kinds) (passes_from is_dated plan dated) count order limit
  where
    at : (r : Result (List ValueType) PlanError) → instr_types plan.instrs ≡ r → fault_with plan.out r ≡ None → Passes fits_kind plan → Passes is_dated plan → nat_lt (length plan.instrs) (2 ^ 64) ≡ true
        → list_all (λ (key : ℕ × Bool). nat_lt key.0 (2 ^ 32)) plan.out.order ≡ true → option_map_or (λ n. nat_lt n (2 ^ 64)) plan.out.limit true ≡ true → IsNamedPlan plan
    at (Err x) e h f d count order limit = absurd (cc)
    at (Ok types) e h f d count order limit =
        let few = types_count [] plan.instrs types e in
        let known = and_parts (list_all (is_known types) plan.out.cols) (passes (is_known types) plan.out.keep) (out_known types plan.out h) in
        record {
          instrs_are = instrs_named (length plan.instrs) [] plan.instrs types e (omega (arith, few)) f.instrs_pass d.instrs_pass;
          count_is = below_limit (length plan.instrs) (2 ^ 64) count;
          keep_is = kept_named types (length plan.instrs) (omega (arith, few)) plan.out.keep known.1 f.keep_passes d.keep_passes;
          order_are = places_below plan.out.order order;
          limit_is = limit_below plan.out.limit limit;
          cols_are = knowns_named types (length plan.instrs) (omega (arith, few)) plan.out.cols known.0 f.cols_pass d.cols_pass;
        }
