-- The block of a plan stands for that plan.
use Rattle.std.proofs.Common.{◌≡◌, ℕ, zero, suc, ◌+◌, ◌-◌, ◌<◌, ◌≤◌, ◌^◌, List, [], ◌∷◌, ◌++◌, length, map, drop, Bool, true, false, not, ◌&&◌, ◌||◌, cond, is_some, Option, Some, None, decimal, bytes_eq, nat_lt, nat_le, ℤ, pos, negsuc, ◌≢◌, unwrap_or, refl, ap, ◌∙◌, arith, length-append}
use Rattle.std.specs.Prelude.{IfSome}
use Rattle.std.specs.Bool.{then_some}
use Rattle.std.specs.List.{list_any, AllByRecursion}
use Rattle.std.specs.Option.{option_map, option_and_then}
use Rattle.std.specs.Str.Parse.{digits_value}
use Rattle.std.proofs.lemmas.Bool.Decides.{nat_tests, not_from_Decides}
use Rattle.std.proofs.lemmas.Fmt.{decimal_injective}
use Rattle.std.proofs.lemmas.List.Folds.{list_any-append}
use Rattle.std.proofs.lemmas.Slice.Eq.{bytes_eq-Decides}
use Rattle.cell_text.proofs.DayLemmas.{IsDayText-day_text, day_in-day_text}
use Rattle.cell_core.specs.Day.{day_text}
use Rattle.cell_core.specs.declared.cell.Cell.{Cell}
use Rattle.cell_core.specs.declared.cell.Cell.TheVariants as cell
use Rattle.cell_core.specs.declared.operator.Arg.{Arg}
use Rattle.cell_core.specs.declared.operator.Arg.TheVariants.{Const, Var}
use Rattle.cell_core.specs.declared.operator.Instr.{Instr}
use Rattle.cell_core.specs.declared.operator.Op.TheVariants as op
use Rattle.mal_meaning.specs.declared.plan.Plan.{Plan}
use Rattle.mal_print.specs.Canon.{variable, is_bat, instr_gives_bat}
use Rattle.mal_text.specs.Plans.{names_of, differ_from, are_distinct, place_of, signed, below, arg_of, args_of, unknown_op, op_in, instr_of, instrs_of, keep_of, key_of, order_of, limit_of, StandsFor}
use Rattle.mal_text.specs.declared.block.Term.TheVariants as term
use Rattle.mal_tokens.specs.Tokens.{bit_word}
use Rattle.text_bytes.proofs.DayLemmas.{day_told}
use Rattle.mal_print_laws.proofs.CallLemmas.{is_called}
use Rattle.mal_print_laws.proofs.CanonBlocks.{signed_term, constant_term, term_of, line_of, lines_of, key_rule, output_of, block_of}
use Rattle.mal_print_laws.proofs.NamedLemmas.{IsWithin, HasText, IsNamed, IsNamedPlan}
use Rattle.mal_print_laws.proofs.WordLemmas.{decimal_value}

-- ## Variables

-- one variable is another's only where their numbers are the same
same_number : (m n : ℕ) → m + 1 < 2 ^ 64 → n + 1 < 2 ^ 64 → bytes_eq (variable m) (variable n) ≡ true → m ≡ n
same_number m n low high same =
    let texts : variable m ≡ variable n = (bytes_eq-Decides (variable m) (variable n)).0 same in
    let numbers = decimal_injective (m + 1) (n + 1) low high (ap (drop 2) texts) in
    omega (arith, numbers)

other_name : (m n : ℕ) → m < n → n + 1 < 2 ^ 64 → bytes_eq (variable n) (variable m) ≡ false
other_name m n less high = at (bytes_eq (variable n) (variable m)) refl
  where
    at : (b : Bool) → bytes_eq (variable n) (variable m) ≡ b → b ≡ false
    at true e = let same = same_number n m high (omega (arith, less, high)) e in absurd (omega (arith, less, same))
    at false e = refl

-- the variables of so many instructions, from one on
abbrev variables : ℕ → ℕ → List (List ℕ)
variables n zero = []
variables n (suc count) = variable n ∷ variables (suc n) count

names_are : (bats : List Bool) (instrs : List Instr) → names_of (lines_of bats instrs) ≡ variables (length bats) (length instrs)
names_are bats [] = refl
names_are bats (instr ∷ instrs) =
    let gives = instr_gives_bat bats instr in
    let more : length (bats ++ gives ∷ []) ≡ suc (length bats) = length-append bats (gives ∷ []) ∙ omega arith in
    ap (λ names. variable (length bats) ∷ names) (names_are (bats ++ gives ∷ []) instrs ∙ ap (λ n. variables n (length instrs)) more)

later_number : (m n : ℕ) → m ≤ n → bytes_eq (variable n) (variable m) ≡ false → suc m ≤ n
later_number m n low other =
    let names = not_from_Decides (bytes_eq (variable n) (variable m)) (bytes_eq-Decides (variable n) (variable m)) other in
    let numbers : n ≢ m = λ e. names (ap variable e) in
    omega (arith, low, numbers)

-- the place of a variable is its number
place_is : (first count n : ℕ) → first ≤ n → n < first + count → first + count < 2 ^ 64 → first + place_of (variables first count) (variable n) ≡ n
place_is first zero n low high fits = absurd (omega (arith, low, high))
place_is first (suc count) n low high fits = at (bytes_eq (variable n) (variable first)) (place_of (variables (suc first) count) (variable n)) refl (λ less. place_is (suc first) count n less (omega (arith, high)) (omega (arith, fits)))
  where
    at : (b : Bool) (place : ℕ) → bytes_eq (variable n) (variable first) ≡ b → (suc first ≤ n → suc first + place ≡ n) → first + cond (not (bytes_eq (variable n) (variable first))) (1 + place) 0 ≡ n
    at true place e more = let same = same_number n first (omega (arith, high, fits)) (omega (arith, low, high, fits)) e in ap (λ b. first + cond (not b) (1 + place) 0) e ∙ omega (arith, same)
    at false place e more = let later = more (later_number first n low e) in ap (λ b. first + cond (not b) (1 + place) 0) e ∙ omega (arith, later)

-- no variable from a number on is among the names
abbrev AreBefore : ℕ → List (List ℕ) → Type 0
AreBefore first before = (n : ℕ) → first ≤ n → n + 1 < 2 ^ 64 → list_any (bytes_eq (variable n)) before ≡ false

variables_differ : (first count : ℕ) (before : List (List ℕ)) → AreBefore first before → first + count < 2 ^ 64 → differ_from before (variables first count) ≡ true
variables_differ first zero before new fits = refl
variables_differ first (suc count) before new fits =
    let here = new first (omega arith) (omega (arith, fits)) in
    ap (λ b. not b && differ_from (before ++ variable first ∷ []) (variables (suc first) count)) here ∙ variables_differ (suc first) count (before ++ variable first ∷ []) more (omega (arith, fits))
  where
    more : AreBefore (suc first) (before ++ variable first ∷ [])
    more n low high =
        list_any-append (bytes_eq (variable n)) before (variable first ∷ [])
        ∙ ap (λ b. b || (bytes_eq (variable n) (variable first) || false)) (new n (omega (arith, low)) high)
        ∙ ap (λ b. b || false) (other_name first n (omega (arith, low)) high)

-- ## Constants

within_range : (n limit : ℕ) → n < limit → nat_lt n limit ≡ true
within_range n limit h = grind (arith, nat_tests)

up_to : (n limit : ℕ) → n ≤ limit → nat_le n limit ≡ true
up_to n limit h = grind (arith, nat_tests)

-- the number that is printed is in its range, and read
below_printed : (limit n : ℕ) → n < limit → limit < 10 ^ 64 → below limit (digits_value 10 (decimal n)) ≡ Some n
below_printed limit n h low =
    ap (below limit) (decimal_value n (omega (arith, h, low))) ∙ ap (λ b. then_some b n) (within_range n limit h)

-- whether a number is negative, and its digits
abbrev is_negative : ℤ → Bool
is_negative (pos n) = false
is_negative (negsuc n) = true

abbrev size_of : ℤ → ℕ
size_of (pos n) = n
size_of (negsuc n) = suc n

signed_printed : (limit : ℕ) (z : ℤ) → IsWithin limit z → limit < 10 ^ 63 → signed limit (is_negative z) (digits_value 10 (decimal (size_of z))) ≡ Some z
signed_printed limit (pos n) is low = ap (signed limit false) (decimal_value n (omega (arith, is, low))) ∙ ap (λ b. then_some b (pos n)) (within_range n limit is)
signed_printed limit (negsuc n) is low = ap (signed limit true) (decimal_value (suc n) (omega (arith, is, low))) ∙ ap (λ b. then_some b (negsuc n)) (up_to (suc n) limit (omega (arith, is)))

module _ (names : List (List ℕ)) where
  int_stands : (z : ℤ) → IsWithin (2 ^ 63) z → arg_of names (signed_term term.Int z) ≡ Some (Const (cell.Int z))
  int_stands (pos n) is = ap (option_map (λ n. Const (cell.Int n))) (signed_printed (2 ^ 63) (pos n) is (omega arith))
  int_stands (negsuc n) is = ap (option_map (λ n. Const (cell.Int n))) (signed_printed (2 ^ 63) (negsuc n) is (omega arith))

  huge_stands : (z : ℤ) → IsWithin (2 ^ 127) z → arg_of names (signed_term term.Huge z) ≡ Some (Const (cell.Huge z))
  huge_stands (pos n) is = ap (option_map (λ n. Const (cell.Huge n))) (signed_printed (2 ^ 127) (pos n) is (omega arith))
  huge_stands (negsuc n) is = ap (option_map (λ n. Const (cell.Huge n))) (signed_printed (2 ^ 127) (negsuc n) is (omega arith))

  bit_stands : (b : Bool) → arg_of names (term.Name (bit_word b)) ≡ Some (Const (cell.Bit b))
  bit_stands true = refl
  bit_stands false = refl

  constant_stands : (c : Cell) → HasText c → arg_of names (constant_term c) ≡ Some (Const c)
  constant_stands cell.Nil has = refl
  constant_stands (cell.Int n) has = int_stands n has
  constant_stands (cell.Huge n) has = huge_stands n has
  constant_stands (cell.Text text) has = refl
  constant_stands (cell.Day day) has = ap (option_map (λ n. Const (cell.Day n))) (day_told (day_text day) (IsDayText-day_text day has) ∙ ap Some (day_in-day_text day has))
  constant_stands (cell.Bit b) has = bit_stands b
  constant_stands (cell.Oid n) has = ap (option_map (λ n. Const (cell.Oid n))) (below_printed (2 ^ 64) n has (omega arith))

-- ## Instructions

-- the first of a list and the others
joined_all : {X : Type 0} (o : Option X) (os : Option (List X)) (x : X) (xs : List X) → o ≡ Some x → os ≡ Some xs → option_and_then (λ y. option_map (λ ys. y ∷ ys) os) o ≡ Some (x ∷ xs)
joined_all o os x xs first others = ap (option_and_then (λ y. option_map (λ ys. y ∷ ys) os)) first ∙ ap (option_map (λ ys. x ∷ ys)) others

module _ (count : ℕ) (low : count < 2 ^ 64) where
  abbrev names : List (List ℕ)
  names = variables 0 count

  arg_stands : (arg : Arg) → IsNamed count arg → arg_of names (term_of arg) ≡ Some arg
  arg_stands (Const c) is = constant_stands names c is
  arg_stands (Var n) is = let place = place_is 0 count n (omega arith) (omega (arith, is)) (omega (arith, low)) in ap (λ n. Some (Var n)) (omega (arith, place))

  args_stand : (args : List Arg) → AllByRecursion (IsNamed count) args → args_of names (map term_of args) ≡ Some args
  args_stand [] are = refl
  args_stand (arg ∷ args) are = joined_all (arg_of names (term_of arg)) (args_of names (map term_of args)) arg args (arg_stands arg are.0) (args_stand args are.1)

  instr_stands : (bats : List Bool) (instr : Instr) → AllByRecursion (IsNamed count) instr.args → instr_of names (line_of bats instr) ≡ Some instr
  instr_stands bats instr are =
      ap (option_map (λ args. record { op = op_in (line_of bats instr); args = args })) (args_stand instr.args are)
      ∙ ap (λ o. Some (record { op = unwrap_or o op.Not; args = instr.args })) (is_called (list_any (is_bat bats) instr.args) instr.op).called

  instrs_stand : (bats : List Bool) (instrs : List Instr) → AllByRecursion (λ (i : Instr). AllByRecursion (IsNamed count) i.args) instrs → instrs_of names (lines_of bats instrs) ≡ Some instrs
  instrs_stand bats [] are = refl
  instrs_stand bats (instr ∷ instrs) are =
      let more : List Bool = bats ++ instr_gives_bat bats instr ∷ [] in
      joined_all (instr_of names (line_of bats instr)) (instrs_of names (lines_of more instrs)) instr instrs (instr_stands bats instr are.0) (instrs_stand more instrs are.1)

  -- ## The output

  keep_stands : (keep : Option Arg) → IfSome keep (IsNamed count) → keep_of names (option_map term_of keep) ≡ Some keep
  keep_stands None is = refl
  keep_stands (Some arg) is = ap (option_map Some) (arg_stands arg is)

  cols_stand : (cols : List Arg) → AllByRecursion (IsNamed count) cols → args_of names (unwrap_or (output_of cols) []) ≡ Some cols
  cols_stand [] are = refl
  cols_stand (arg ∷ args) are = args_stand (arg ∷ args) are

key_stands : (key : ℕ × Bool) → key.0 < 2 ^ 32 → key_of (key_rule key) ≡ Some key
key_stands key h =
    ap (λ n. then_some (nat_le 1 n && nat_le n (2 ^ 32)) (n - 1, key.1)) (decimal_value (key.0 + 1) (omega (arith, h)))
    ∙ ap (λ b. then_some (b && nat_le (key.0 + 1) (2 ^ 32)) (key.0 + 1 - 1, key.1)) (up_to 1 (key.0 + 1) (omega arith))
    ∙ ap (λ b. then_some b (key.0 + 1 - 1, key.1)) (up_to (key.0 + 1) (2 ^ 32) (omega (arith, h)))
    ∙ ap (λ n. Some (n, key.1)) (omega arith)

order_stands : (order : List (ℕ × Bool)) → AllByRecursion (λ (key : ℕ × Bool). key.0 < 2 ^ 32) order → order_of (map key_rule order) ≡ Some order
order_stands [] are = refl
order_stands (key ∷ order) are = joined_all (key_of (key_rule key)) (order_of (map key_rule order)) key order (key_stands key are.0) (order_stands order are.1)

limit_stands : (limit : Option ℕ) → IfSome limit (λ n. n < 2 ^ 64) → limit_of (option_map decimal limit) ≡ Some limit
limit_stands None is = refl
limit_stands (Some n) is = ap (option_map Some) (below_printed (2 ^ 64) n is (omega arith))

-- ## Plans

-- each function is known
pub all_known : (bats : List Bool) (instrs : List Instr) → unknown_op (lines_of bats instrs) ≡ None
all_known bats [] = refl
all_known bats (instr ∷ instrs) =
    let more : List Bool = bats ++ instr_gives_bat bats instr ∷ [] in
    ap (λ o. cond (is_some o) (unknown_op (lines_of more instrs)) (Some ((line_of bats instr).of_module ++ 46 ∷ (line_of bats instr).function))) (is_called (list_any (is_bat bats) instr.args) instr.op).called
    ∙ all_known more instrs

pub plan_stands : (plan : Plan) → IsNamedPlan plan → StandsFor (block_of plan) plan
plan_stands plan is =
    let count = length plan.instrs in
    let names : names_of (block_of plan).lines ≡ variables 0 count = names_are [] plan.instrs in
    record {
      names_differ = ap are_distinct names ∙ variables_differ 0 count [] (λ n low high. refl) (omega (arith, is.count_is));
      instrs_are = ap (λ names. instrs_of names (block_of plan).lines) names ∙ instrs_stand count is.count_is [] plan.instrs is.instrs_are;
      keep_is = ap (λ names. keep_of names (block_of plan).keep) names ∙ keep_stands count is.count_is plan.out.keep is.keep_is;
      order_is = order_stands plan.out.order is.order_are;
      limit_is = limit_stands plan.out.limit is.limit_is;
      cols_are = ap (λ names. args_of names (unwrap_or (block_of plan).output [])) names ∙ cols_stand count is.count_is plan.out.cols is.cols_are;
    }
