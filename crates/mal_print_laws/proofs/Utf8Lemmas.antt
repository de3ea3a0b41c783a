-- The canonical text of a plan is a text of characters, where its texts are.
use Rattle.std.proofs.Common.{◌≡◌, inl, inr, ℕ, suc, ◌+◌, ◌<◌, ◌≤◌, ◌^◌, List, [], ◌∷◌, ◌++◌, length, flat_map, Bool, true, false, ◌&&◌, ◌==◌, cond, Option, Some, None, codes, decimal, ℤ, pos, negsuc, nat_lt, refl, ap, sym, ◌∙◌, subst, arith, append_assoc, length-append}
use Rattle.std.specs.Prelude.{IfSome, IsUtf8, IsAscii}
use Rattle.std.specs.Char.{IsAsciiDigit}
use Rattle.std.specs.Fmt.{signed_decimal}
use Rattle.std.specs.List.{list_all, list_any, AllByRecursion}
use Rattle.std.proofs.lemmas.Bool.{and_parts, cases_lt, and_from}
use Rattle.std.proofs.lemmas.Bool.Decides.{nat_tests}
use Rattle.std.proofs.lemmas.Fmt.{IsAscii-decimal_wide}
use Rattle.std.proofs.lemmas.Str.{IsUtf8-append, IsUtf8-from_ascii, IsUtf8-nil}
use Rattle.std.proofs.lemmas.Str.Ascii.{IsAscii-nil, IsAscii-cons}
use Rattle.cell_core.specs.Day.{day_text, IsDayText}
use Rattle.cell_text.proofs.DayLemmas.{IsDayText-day_text}
use Rattle.cell_core.specs.declared.cell.Cell.{Cell}
use Rattle.cell_core.specs.declared.cell.Cell.TheVariants as cell
use Rattle.cell_core.specs.declared.operator.Arg.{Arg}
use Rattle.cell_core.specs.declared.operator.Arg.TheVariants.{Const, Var}
use Rattle.cell_core.specs.declared.operator.Instr.{Instr}
use Rattle.mal_meaning.specs.declared.plan.Plan.{Plan}
use Rattle.mal_print.specs.Canon.{quoted, constant_text, variable, arg_text, further_text, args_text, ending, is_bat, instr_gives_bat, module_of, start_text, line_text, lines_text, keep_text, key_text, limit_text, cols_text, plan_text}
use Rattle.mal_tokens.specs.Operators.{function_word}
use Rattle.mal_tokens.specs.Tokens.{spelled, bit_word}
use Rattle.text_bytes.specs.Classes.{is_letter, is_word_byte}
use Rattle.text_bytes.proofs.ByteLemmas.{ascii_word_bytes, letter_word_byte}
use Rattle.text_bytes.proofs.TextLemmas.{around_ascii}
use Rattle.mal_print_laws.proofs.CallLemmas.{is_called}
use Rattle.mal_print_laws.proofs.NamedLemmas.{IsWithin, HasText, IsNamed, IsNamedPlan}
use Rattle.mal_print_laws.proofs.WordLemmas.{is_word}

-- ## Bytes of ASCII

abbrev are_small : List ℕ → Bool
are_small bs = list_all (λ b. nat_lt b 128) bs

small_ascii : (bs : List ℕ) → are_small bs ≡ true → IsAscii bs
small_ascii [] h = IsAscii-nil
small_ascii (b ∷ bs) h =
    let small = and_parts (nat_lt b 128) (are_small bs) h in
    IsAscii-cons b bs (below b small.0) (small_ascii bs small.1)
  where
    below : (b : ℕ) → nat_lt b 128 ≡ true → b < 128
    below b h = grind (arith, nat_tests)

fixed : (bs : List ℕ) → are_small bs ≡ true → IsUtf8 bs
fixed bs h = IsUtf8-from_ascii bs (small_ascii bs h)

word : (bs : List ℕ) → is_word bs ≡ true → IsUtf8 bs
word [] h = cc
word (b ∷ bs) h =
    let parts = and_parts (is_letter b) (list_all is_word_byte bs) h in
    IsUtf8-from_ascii (b ∷ bs) (ascii_word_bytes (b ∷ bs) (and_from (is_word_byte b) (list_all is_word_byte bs) (letter_word_byte b parts.0) parts.1))

number : (n : ℕ) → n < 10 ^ 64 → IsUtf8 (decimal n)
number n h = IsUtf8-from_ascii (decimal n) (IsAscii-decimal_wide n h)

bit : (b : Bool) → IsUtf8 (bit_word b)
bit true = fixed (codes "true") refl
bit false = fixed (codes "false") refl

-- ## Texts in quotes

spelled_small : (b : ℕ) → b < 128 → are_small (spelled b) ≡ true
spelled_small b h = at (b == 92) (b == 34) (b == 10)
  where
    small : nat_lt b 128 ≡ true
    small = grind (arith, nat_tests)

    at : (p q r : Bool) → are_small (cond p (92 ∷ 92 ∷ []) (cond q (92 ∷ 34 ∷ []) (cond r (92 ∷ 110 ∷ []) (b ∷ [])))) ≡ true
    at true q r = refl
    at false true r = refl
    at false false true = refl
    at false false false = ap (λ t. t && true) small

spelled_great : (b : ℕ) → 128 ≤ b → spelled b ≡ b ∷ []
spelled_great b h =
    ap (λ t. cond t (92 ∷ 92 ∷ []) (cond (b == 34) (92 ∷ 34 ∷ []) (cond (b == 10) (92 ∷ 110 ∷ []) (b ∷ [])))) (other 92 (omega arith))
    ∙ ap (λ t. cond t (92 ∷ 34 ∷ []) (cond (b == 10) (92 ∷ 110 ∷ []) (b ∷ []))) (other 34 (omega arith))
    ∙ ap (λ t. cond t (92 ∷ 110 ∷ []) (b ∷ [])) (other 10 (omega arith))
  where
    other : (c : ℕ) → c < 128 → (b == c) ≡ false
    other c small = grind (arith, nat_tests)

-- after what precedes it
spelled_text : (text before : List ℕ) → IsUtf8 (before ++ text) → IsUtf8 (before ++ flat_map spelled text)
spelled_text [] before utf8 = utf8
spelled_text (b ∷ text) before utf8 = next (spelled_text text (before ++ spelled b)) utf8
  where
    kept : (b : ℕ) → IsUtf8 (before ++ b ∷ text) → IsUtf8 ((before ++ spelled b) ++ text)
    kept b utf8 = elim (cases_lt b 128) [
      | inl small ↦ let around = around_ascii before b text small utf8 in IsUtf8-append (before ++ spelled b) text (IsUtf8-append before (spelled b) around.0 (fixed (spelled b) (spelled_small b small))) around.1
      | inr great ↦ subst IsUtf8 (sym (append_assoc before (b ∷ []) text) ∙ ap (λ bs. (before ++ bs) ++ text) (sym (spelled_great b great))) utf8
    ]

    next : (IsUtf8 ((before ++ spelled b) ++ text) → IsUtf8 ((before ++ spelled b) ++ flat_map spelled text)) → IsUtf8 (before ++ b ∷ text) → IsUtf8 (before ++ (spelled b ++ flat_map spelled text))
    next more utf8 = subst IsUtf8 (append_assoc before (spelled b) (flat_map spelled text)) (more (kept b utf8))

quoted_utf8 : (text : List ℕ) → IsUtf8 text → IsUtf8 (quoted text)
quoted_utf8 text utf8 = IsUtf8-append (codes "\"" ++ flat_map spelled text) (codes "\"") (IsUtf8-append (codes "\"") (flat_map spelled text) (fixed (codes "\"") refl) (spelled_text text [] utf8)) (fixed (codes "\"") refl)

-- its bytes are digits and dashes
day_small : (text : List ℕ) → IsDayText text → are_small text ≡ true
day_small [] is = absurd (omega (arith, is.long))
day_small (a ∷ []) is = absurd (omega (arith, is.long))
day_small (a ∷ b ∷ []) is = absurd (omega (arith, is.long))
day_small (a ∷ b ∷ c ∷ []) is = absurd (omega (arith, is.long))
day_small (a ∷ b ∷ c ∷ d ∷ []) is = absurd (omega (arith, is.long))
day_small (a ∷ b ∷ c ∷ d ∷ e ∷ []) is = absurd (omega (arith, is.long))
day_small (a ∷ b ∷ c ∷ d ∷ e ∷ f ∷ []) is = absurd (omega (arith, is.long))
day_small (a ∷ b ∷ c ∷ d ∷ e ∷ f ∷ g ∷ []) is = absurd (omega (arith, is.long))
day_small (a ∷ b ∷ c ∷ d ∷ e ∷ f ∷ g ∷ h ∷ []) is = absurd (omega (arith, is.long))
day_small (a ∷ b ∷ c ∷ d ∷ e ∷ f ∷ g ∷ h ∷ i ∷ []) is = absurd (omega (arith, is.long))
day_small (a ∷ b ∷ c ∷ d ∷ e ∷ f ∷ g ∷ h ∷ i ∷ j ∷ []) is =
    small a (b ∷ c ∷ d ∷ e ∷ f ∷ g ∷ h ∷ i ∷ j ∷ []) (digit a is.century_digits.0) (small b (c ∷ d ∷ e ∷ f ∷ g ∷ h ∷ i ∷ j ∷ []) (digit b is.century_digits.1) (small c (d ∷ e ∷ f ∷ g ∷ h ∷ i ∷ j ∷ []) (digit c is.year_digits.0) (small d (e ∷ f ∷ g ∷ h ∷ i ∷ j ∷ []) (digit d is.year_digits.1)
    (small e (f ∷ g ∷ h ∷ i ∷ j ∷ []) (dash e is.dash_before_month) (small f (g ∷ h ∷ i ∷ j ∷ []) (digit f is.month_digits.0) (small g (h ∷ i ∷ j ∷ []) (digit g is.month_digits.1)
    (small h (i ∷ j ∷ []) (dash h is.dash_before_day) (small i (j ∷ []) (digit i is.day_digits.0) (small j [] (digit j is.day_digits.1) refl)))))))))
  where
    small : (b : ℕ) (bs : List ℕ) → nat_lt b 128 ≡ true → are_small bs ≡ true → are_small (b ∷ bs) ≡ true
    small b bs h more = and_from (nat_lt b 128) (are_small bs) h more

    digit : (b : ℕ) → IsAsciiDigit b → nat_lt b 128 ≡ true
    digit b h = grind (arith, nat_tests)

    dash : (b : ℕ) → b ≡ 45 → nat_lt b 128 ≡ true
    dash b h = ap (λ b. nat_lt b 128) h
day_small (a ∷ b ∷ c ∷ d ∷ e ∷ f ∷ g ∷ h ∷ i ∷ j ∷ k ∷ text) is = absurd (omega (arith, is.long))

-- a text of a day is one
day_utf8 : (text : List ℕ) → IsDayText text → IsUtf8 text
day_utf8 text is = fixed text (day_small text is)

-- ## Arguments

signed : (limit : ℕ) (z : ℤ) → IsWithin limit z → limit < 10 ^ 63 → IsUtf8 (signed_decimal z)
signed limit (pos n) is low = number n (omega (arith, is, low))
signed limit (negsuc n) is low = IsUtf8-append (codes "-") (decimal (suc n)) (fixed (codes "-") refl) (number (suc n) (omega (arith, is, low)))

constant : (c : Cell) → HasText c → IsUtf8 (constant_text c)
constant cell.Nil has = fixed (codes "nil") refl
constant (cell.Int n) has = signed (2 ^ 63) n has (omega arith)
constant (cell.Huge n) has = IsUtf8-append (signed_decimal n) (codes ":hge") (signed (2 ^ 127) n has (omega arith)) (fixed (codes ":hge") refl)
constant (cell.Text text) has = quoted_utf8 text has
constant (cell.Day day) has = IsUtf8-append (quoted (day_text day)) (codes ":date") (quoted_utf8 (day_text day) (day_utf8 (day_text day) (IsDayText-day_text day has))) (fixed (codes ":date") refl)
constant (cell.Bit b) has = bit b
constant (cell.Oid n) has = IsUtf8-append (decimal n) (codes "@0") (number n (omega (arith, has))) (fixed (codes "@0") refl)

module _ (count : ℕ) (low : count < 2 ^ 64) where
  variable_utf8 : (n : ℕ) → n < count → IsUtf8 (variable n)
  variable_utf8 n h = IsUtf8-append (codes "X_") (decimal (n + 1)) (fixed (codes "X_") refl) (number (n + 1) (omega (arith, h, low)))

  argument : (arg : Arg) → IsNamed count arg → IsUtf8 (arg_text arg)
  argument (Const c) is = constant c is
  argument (Var n) is = variable_utf8 n is

  further : (args : List Arg) → AllByRecursion (IsNamed count) args → IsUtf8 (further_text args)
  further [] are = IsUtf8-nil
  further (arg ∷ args) are = IsUtf8-append (codes ", " ++ arg_text arg) (further_text args) (IsUtf8-append (codes ", ") (arg_text arg) (fixed (codes ", ") refl) (argument arg are.0)) (further args are.1)

  arguments : (args : List Arg) → AllByRecursion (IsNamed count) args → IsUtf8 (args_text args)
  arguments [] are = IsUtf8-nil
  arguments (arg ∷ args) are = IsUtf8-append (arg_text arg) (further_text args) (argument arg are.0) (further args are.1)

  -- ## Lines

  start : (n : ℕ) → n < count → IsUtf8 (start_text n)
  start n h = IsUtf8-append (codes "    " ++ variable n) (codes " := ") (IsUtf8-append (codes "    ") (variable n) (fixed (codes "    ") refl) (variable_utf8 n h)) (fixed (codes " := ") refl)

  line : (bats : List Bool) (instr : Instr) → length bats < count → AllByRecursion (IsNamed count) instr.args → IsUtf8 (line_text bats instr)
  line bats instr h are =
      let taken = list_any (is_bat bats) instr.args in
      let words = is_called taken instr.op in
      let home = IsUtf8-append _ _ (IsUtf8-append _ _ (start (length bats) h) (word (module_of taken instr.op) words.home_is)) (fixed (codes ".") refl) in
      let call = IsUtf8-append _ _ (IsUtf8-append _ _ home (word (function_word instr.op) words.function_is)) (fixed (codes "(") refl) in
      IsUtf8-append _ _ (IsUtf8-append _ _ call (arguments instr.args are)) (fixed ending refl)

  lines : (bats : List Bool) (instrs : List Instr) → length bats + length instrs ≤ count → AllByRecursion (λ (i : Instr). AllByRecursion (IsNamed count) i.args) instrs → IsUtf8 (lines_text bats instrs)
  lines bats [] h are = IsUtf8-nil
  lines bats (instr ∷ instrs) h are =
      let more : List Bool = bats ++ instr_gives_bat bats instr ∷ [] in
      IsUtf8-append (line_text bats instr) (lines_text more instrs) (line bats instr (omega (arith, h)) are.0)
      (lines more instrs (omega (arith, h, length-append bats (instr_gives_bat bats instr ∷ []))) are.1)

  -- a call of `sql` with one part
  call_of : (front part : List ℕ) → are_small front ≡ true → IsUtf8 part → IsUtf8 (front ++ part ++ ending)
  call_of front part small utf8 = IsUtf8-append (front ++ part) ending (IsUtf8-append front part (fixed front small) utf8) (fixed ending refl)

  keep : (o : Option Arg) → IfSome o (IsNamed count) → IsUtf8 (keep_text o)
  keep None is = IsUtf8-nil
  keep (Some arg) is = call_of (codes "    sql.keep(") (arg_text arg) refl (argument arg is)

  key : (k : ℕ × Bool) → k.0 < 2 ^ 32 → IsUtf8 (key_text k)
  key k h =
      let place = IsUtf8-append _ _ (IsUtf8-append _ _ (fixed (codes "    sql.order(") refl) (number (k.0 + 1) (omega (arith, h)))) (fixed (codes ", ") refl) in
      IsUtf8-append _ _ (IsUtf8-append _ _ place (bit k.1)) (fixed ending refl)

  order : (ks : List (ℕ × Bool)) → AllByRecursion (λ (k : ℕ × Bool). k.0 < 2 ^ 32) ks → IsUtf8 (flat_map key_text ks)
  order [] are = IsUtf8-nil
  order (k ∷ ks) are = IsUtf8-append (key_text k) (flat_map key_text ks) (key k are.0) (order ks are.1)

  limit : (o : Option ℕ) → IfSome o (λ n. n < 2 ^ 64) → IsUtf8 (limit_text o)
  limit None is = IsUtf8-nil
  limit (Some n) is = call_of (codes "    sql.limit(") (decimal n) refl (number n (omega (arith, is)))

  cols : (args : List Arg) → AllByRecursion (IsNamed count) args → IsUtf8 (cols_text args)
  cols [] are = IsUtf8-nil
  cols (arg ∷ args) are = call_of (codes "    sql.output(") (args_text (arg ∷ args)) refl (arguments (arg ∷ args) are)

pub plan_utf8 : (plan : Plan) → IsNamedPlan plan → IsUtf8 (plan_text plan)
plan_utf8 plan is =
    let count = length plan.instrs in
    let to_lines = lines count is.count_is [] plan.instrs (omega arith) is.instrs_are in
    let to_keep = IsUtf8-append _ _ to_lines (keep count is.count_is plan.out.keep is.keep_is) in
    let to_order = IsUtf8-append _ _ to_keep (order count is.count_is plan.out.order is.order_are) in
    let to_limit = IsUtf8-append _ _ to_order (limit count is.count_is plan.out.limit is.limit_is) in
    let to_cols = IsUtf8-append _ _ to_limit (cols count is.count_is plan.out.cols is.cols_are) in
    let to_end = IsUtf8-append _ _ (IsUtf8-append _ _ to_cols (fixed (codes "end user.main;") refl)) (fixed (10 ∷ []) refl) in
    IsUtf8-append (codes "function user.main():void;" ++ 10 ∷ []) _ (fixed (codes "function user.main():void;" ++ 10 ∷ []) refl) to_end
