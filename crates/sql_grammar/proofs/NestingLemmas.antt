-- What the step of refusal keeps while it goes through tokens is what is open after them.
use Rattle.std.proofs.Common.{◌≡◌, ℕ, zero, suc, ◌+◌, ◌-◌, ◌<◌, List, [], ◌∷◌, ◌++◌, length, take, sum, Bool, true, false, cond, refl, ap, sym, ◌∙◌, subst, arith}
use Rattle.std.specs.Prelude.{◌==◌, ◌||◌, not, nat_lt}
use Rattle.std.proofs.lemmas.Bool.Decides.{nat_tests}
use Rattle.std.proofs.lemmas.List.{take_all, take-take, take-append-le, length-append, length-take-le}
use Rattle.std.proofs.lemmas.List.Sums.{sum_by_push}
use Rattle.sql_grammar.specs.Nesting.{is_closed, is_leading, open_after, DeepIsOpen}
use Rattle.sql_grammar.specs.Refused.{next_run, open_behind, is_too_deep}
use Rattle.sql_tree.specs.declared.token.Keyword.TheVariants as word
use Rattle.sql_tree.specs.declared.token.Symbol.TheVariants as symbol
use Rattle.sql_tree.specs.declared.token.Token.{Token}
use Rattle.sql_tree.specs.declared.token.Token.TheVariants.{Key}
use Rattle.sql_tree.specs.declared.token.Token.TheVariants as token

-- ## Parentheses that are closed

-- how many parentheses before these tokens they close
abbrev closed_before : List Token → ℕ
closed_before [] = 0
closed_before (token.Symbol symbol.Open ∷ ts) = closed_before ts - 1
closed_before (token.Symbol symbol.Close ∷ ts) = closed_before ts + 1
closed_before (t ∷ ts) = closed_before ts

less_more : (n m : ℕ) → nat_lt (n + 1) m ≡ nat_lt n (m - 1)
less_more n m = grind (arith, nat_tests)

none_less : (n : ℕ) → false ≡ nat_lt n 0
none_less n = grind (arith, nat_tests)

closed_or : (n m : ℕ) (b : Bool) → b ≡ nat_lt (n - 1) m → ((n == 0) || b) ≡ nat_lt n (m + 1)
closed_or n m b e = ap (λ c. (n == 0) || c) e ∙ same
  where
    same : ((n == 0) || nat_lt (n - 1) m) ≡ nat_lt n (m + 1)
    same = grind (arith, nat_tests)

is_closed_by : (inner : ℕ) (ts : List Token) → is_closed inner ts ≡ nat_lt inner (closed_before ts)
is_closed_by inner [] = none_less inner
is_closed_by inner (token.Symbol symbol.Open ∷ ts) = is_closed_by (inner + 1) ts ∙ less_more inner (closed_before ts)
is_closed_by inner (token.Symbol symbol.Close ∷ ts) = closed_or inner (closed_before ts) (is_closed (inner - 1) ts) (is_closed_by (inner - 1) ts)
is_closed_by inner (t ∷ ts) = is_closed_by inner ts

-- ## What is kept

-- the levels that the step of refusal counts after tokens
abbrev after : List ℕ → ℕ → List Token → ℕ
after outer run [] = sum outer + run
after outer run (t ∷ ts) = after (open_behind outer run t) (next_run run t) ts

-- what is left of levels and of a run, and what is open of these tokens
abbrev left : List ℕ → Bool → ℕ → ℕ → ℕ → ℕ
left outer leads run closed more = (sum (take (length outer - closed) outer) + cond leads run 0) + more

neither : (b : Bool) → cond {A = ℕ} b 0 0 ≡ 0
neither true = refl
neither false = refl

opened : (outer : List ℕ) (run : ℕ) (leads c : Bool) (closed more : ℕ) → c ≡ nat_lt 0 closed
    → left (outer ++ (run + 1) ∷ []) leads 0 closed more ≡ left outer (not c) run (closed - 1) (cond (not c) (more + 1) more)
opened outer run leads c zero more is =
    let inside : List ℕ = outer ++ (run + 1) ∷ [] in
    let whole : sum (take (length inside - 0) inside) ≡ sum outer + (run + 1) = ap sum (take_all (length inside - 0) inside (omega arith)) ∙ sum_by_push (λ (x : ℕ). x) outer (run + 1) in
    let all : sum (take (length outer - (zero - 1)) outer) ≡ sum outer = ap sum (take_all (length outer - (zero - 1)) outer (omega arith)) in
    let no : c ≡ false = is in
    let none = neither leads in
    omega (arith, whole, all, none) ∙ ap (λ b. left outer (not b) run (zero - 1) (cond (not b) (more + 1) more)) (sym no)
opened outer run leads c (suc closed) more is =
    let inside : List ℕ = outer ++ (run + 1) ∷ [] in
    let long : length inside ≡ length outer + 1 = length-append outer ((run + 1) ∷ []) in
    let count : length inside - suc closed ≡ length outer - closed = omega (arith, long) in
    let front : take (length inside - suc closed) inside ≡ take (length outer - closed) outer =
    ap (λ n. take n inside) count ∙ take-append-le (length outer - closed) outer ((run + 1) ∷ []) (omega arith) in
    let same : sum (take (length inside - suc closed) inside) ≡ sum (take (length outer - closed) outer) = ap sum front in
    let some : nat_lt 0 (suc closed) ≡ true = grind (arith, nat_tests) in
    let yes : c ≡ true = is ∙ some in
    let less : suc closed - 1 ≡ closed = omega arith in
    let none = neither leads in
    omega (arith, same, none) ∙ ap (λ b. left outer (not b) run closed (cond (not b) (more + 1) more)) (sym yes)
    ∙ ap (λ n. left outer (not c) run n (cond (not c) (more + 1) more)) (sym less)

shut : (outer : List ℕ) (leads : Bool) (run closed more : ℕ) → left (take (length outer - 1) outer) leads 0 closed more ≡ left outer false run (closed + 1) more
shut outer leads run closed more =
    let front : List ℕ = take (length outer - 1) outer in
    let long : length front ≡ length outer - 1 = length-take-le (length outer - 1) outer (omega arith) in
    let count : length front - closed ≡ length outer - (closed + 1) = omega (arith, long) in
    let same : sum (take (length front - closed) front) ≡ sum (take (length outer - (closed + 1)) outer) =
    ap (λ n. sum (take n front)) count ∙ ap sum (take-take (length outer - (closed + 1)) (length outer - 1) outer (omega arith)) in
    let none = neither leads in
    omega (arith, same, none)

led : (outer : List ℕ) (leads : Bool) (run closed more : ℕ) → left outer leads (run + 1) closed more ≡ left outer leads run closed (cond leads (more + 1) more)
led outer true run closed more = omega arith
led outer false run closed more = refl

ended : (outer : List ℕ) (leads : Bool) (run closed more : ℕ) → left outer leads 0 closed more ≡ left outer false run closed more
ended outer leads run closed more = ap (λ n. (sum (take (length outer - closed) outer) + n) + more) (neither leads)

kept_is_left : (outer : List ℕ) (run : ℕ) (ts : List Token) → after outer run ts ≡ left outer (is_leading ts) run (closed_before ts) (open_after ts)
kept_is_left outer run [] =
    let all : sum (take (length outer - 0) outer) ≡ sum outer = ap sum (take_all (length outer - 0) outer (omega arith)) in
    omega (arith, all)
kept_is_left outer run (token.Symbol symbol.Open ∷ ts) =
    kept_is_left (outer ++ (run + 1) ∷ []) 0 ts ∙ opened outer run (is_leading ts) (is_closed 0 ts) (closed_before ts) (open_after ts) (is_closed_by 0 ts)
kept_is_left outer run (token.Symbol symbol.Close ∷ ts) = kept_is_left (take (length outer - 1) outer) 0 ts ∙ shut outer (is_leading ts) run (closed_before ts) (open_after ts)
kept_is_left outer run (token.Symbol symbol.Minus ∷ ts) = kept_is_left outer (run + 1) ts ∙ led outer (is_leading ts) run (closed_before ts) (open_after ts)
kept_is_left outer run (Key word.Not ∷ ts) = kept_is_left outer (run + 1) ts ∙ led outer (is_leading ts) run (closed_before ts) (open_after ts)
kept_is_left outer run (t ∷ ts) = kept_is_left outer 0 ts ∙ ended outer (is_leading ts) run (closed_before ts) (open_after ts)

none_kept : (ts : List Token) → after [] 0 ts ≡ open_after ts
none_kept ts = kept_is_left [] 0 ts ∙ none (is_leading ts) (closed_before ts)
  where
    nothing : (n : ℕ) → sum (take n []) ≡ 0
    nothing zero = refl
    nothing (suc n) = refl

    none : (leads : Bool) (closed : ℕ) → left [] leads 0 closed (open_after ts) ≡ open_after ts
    none leads closed =
        let no_sum = nothing (length {A = ℕ} [] - closed) in
        let no_run = neither leads in
        omega (arith, no_sum, no_run)

-- ## Where tokens are too deep

abbrev DeepAt : List ℕ → ℕ → List Token → Type 0
DeepAt outer run ts = (i : ℕ) × (i < length ts) × (512 < after outer run (take i ts))

more_than : (n : ℕ) → nat_lt 512 n ≡ true → 512 < n
more_than n h = grind (arith, nat_tests)

deep_at : (outer : List ℕ) (run : ℕ) (ts : List Token) → is_too_deep outer run ts ≡ true → DeepAt outer run ts
deep_at outer run [] e = cc
deep_at outer run (t ∷ ts) e = by_test (deep_at (open_behind outer run t) (next_run run t) ts) (nat_lt 512 (sum outer + run)) refl e
  where
    by_test : (is_too_deep (open_behind outer run t) (next_run run t) ts ≡ true → DeepAt (open_behind outer run t) (next_run run t) ts) → (b : Bool) → nat_lt 512 (sum outer + run) ≡ b
        → (b || is_too_deep (open_behind outer run t) (next_run run t) ts) ≡ true → DeepAt outer run (t ∷ ts)
    by_test later true h e = (0, omega arith, more_than (sum outer + run) h)
    by_test later false h e =
        let (i, low, deep) = later e in
        (suc i, omega (arith, low), deep)

first_deep : (n : ℕ) (b : Bool) → 512 < n → (nat_lt 512 n || b) ≡ true
first_deep n b h =
    let more : nat_lt 512 n ≡ true = grind (arith, nat_tests) in
    ap (λ c. c || b) more

later_deep : (a b : Bool) → b ≡ true → (a || b) ≡ true
later_deep true b h = refl
later_deep false b h = h

too_deep : (outer : List ℕ) (run : ℕ) (ts : List Token) (i : ℕ) → i < length ts → 512 < after outer run (take i ts) → is_too_deep outer run ts ≡ true
too_deep outer run [] i low deep = absurd (omega (arith, low))
too_deep outer run (t ∷ ts) zero low deep = first_deep (sum outer + run) (is_too_deep (open_behind outer run t) (next_run run t) ts) deep
too_deep outer run (t ∷ ts) (suc i) low deep =
    later_deep (nat_lt 512 (sum outer + run)) (is_too_deep (open_behind outer run t) (next_run run t) ts)
    (too_deep (open_behind outer run t) (next_run run t) ts i (omega (arith, low)) deep)

pub deep_is_open_for : DeepIsOpen
deep_is_open_for tokens = (
  λ e. let (i, low, deep) = deep_at [] 0 tokens e in (i, low, subst (λ n. 512 < n) (none_kept (take i tokens)) deep),
  λ found. too_deep [] 0 tokens found.0 found.1 (subst (λ n. 512 < n) (sym (none_kept (take found.0 tokens))) found.2),
)
