-- Tokens that are written part by part, and the levels that are open at them.
use Rattle.std.proofs.Common.{◌≡◌, ℕ, zero, suc, ◌+◌, ◌-◌, ◌≤◌, List, [], ◌∷◌, ◌++◌, length, map, sum, take, Bool, false, ◌||◌, refl, sym, ap, subst, arith}
use Rattle.std.specs.Prelude.{nat_lt}
use Rattle.std.specs.List.{AllByRecursion}
use Rattle.std.proofs.lemmas.Bool.Decides.{nat_tests}
use Rattle.std.proofs.lemmas.List.Sums.{sum_by_push}
use Rattle.sql_grammar.specs.Grammar.{sign, write_more, write_some, write_behind}
use Rattle.sql_grammar.specs.Refused.{next_run, open_behind, is_too_deep}
use Rattle.sql_print_laws.specs.CanonRules.{canon_all, canon_some, canon_any}
use Rattle.sql_print_laws.specs.Printable.{EachOfSome}
use Rattle.sql_tree.specs.declared.token.Keyword.{Keyword}
use Rattle.sql_tree.specs.declared.token.Keyword.TheVariants as word
use Rattle.sql_tree.specs.declared.token.Symbol.TheVariants as symbol
use Rattle.sql_tree.specs.declared.token.Token.{Token}
use Rattle.sql_tree.specs.declared.token.Token.TheVariants.{Key}

-- no token is too deep
abbrev pub Shallow : List ℕ → ℕ → List Token → Type 0
Shallow outer run ts = is_too_deep outer run ts ≡ false

-- what is written opens no more levels than these at a token, and comes before what closes none of them
pub record Deep (d : ℕ) (w : List Token → List Token) : Type 0 where
  pub deep : (outer : List ℕ) (run : ℕ) (rest : List Token) → (sum outer + run) + d ≤ 512 → Shallow outer 0 rest → Shallow outer run (w rest)

-- the same of what may be empty, and follows a token that is no NOT and no `-`
pub record Level (d : ℕ) (w : List Token → List Token) : Type 0 where
  pub level : (outer : List ℕ) (rest : List Token) → sum outer + d ≤ 512 → Shallow outer 0 rest → Shallow outer 0 (w rest)

-- ## Tokens

or_false : (a b : Bool) → a ≡ false → b ≡ false → (a || b) ≡ false
or_false a b x y = grind (arith, nat_tests)

not_less : (a b : ℕ) → b ≤ a → nat_lt a b ≡ false
not_less a b h = grind (arith, nat_tests)

step : (outer : List ℕ) (run : ℕ) (t : Token) (ts : List Token) → sum outer + run ≤ 512 → Shallow (open_behind outer run t) (next_run run t) ts → Shallow outer run (t ∷ ts)
step outer run t ts h more = or_false (nat_lt 512 (sum outer + run)) (is_too_deep (open_behind outer run t) (next_run run t) ts) (not_less 512 (sum outer + run) h) more

-- a token that opens and closes nothing, and ends a run
abbrev pub IsFlat : Token → Type 0
IsFlat t = (outer : List ℕ) (run : ℕ) (rest : List Token) → Shallow outer 0 rest → Shallow (open_behind outer run t) (next_run run t) rest

pub flat : {d : ℕ} (t : Token) → IsFlat t → Deep d (λ ts. t ∷ ts)
flat t is = record { deep = λ outer run rest h more. step outer run t rest (omega arith) (is outer run rest more) }

pub minus : {d : ℕ} {w : List Token → List Token} → Deep d w → Deep (d + 1) (λ ts. sign symbol.Minus ∷ w ts)
minus x = record { deep = λ outer run rest h more. step outer run (sign symbol.Minus) _ (omega arith) (x.deep outer (run + 1) rest (omega arith) more) }

pub denial : {d : ℕ} {w : List Token → List Token} → Deep d w → Deep (d + 1) (λ ts. Key word.Not ∷ w ts)
denial x = record { deep = λ outer run rest h more. step outer run (Key word.Not) _ (omega arith) (x.deep outer (run + 1) rest (omega arith) more) }

-- ## Parentheses

sum_open : (outer : List ℕ) (n : ℕ) → sum (outer ++ n ∷ []) ≡ sum outer + n
sum_open outer n = sum_by_push (λ (x : ℕ). x) outer n

close_again : (outer : List ℕ) (n : ℕ) → take (length (outer ++ n ∷ []) - 1) (outer ++ n ∷ []) ≡ outer
close_again outer n = closed (length (outer ++ n ∷ []) - 1) outer n (length_open outer n)
  where
    length_open : (outer : List ℕ) (n : ℕ) → length (outer ++ n ∷ []) - 1 ≡ length outer
    length_open [] n = refl
    length_open (x ∷ []) n = refl
    length_open (x ∷ y ∷ outer) n = omega (arith, length_open (y ∷ outer) n)

    closed : (k : ℕ) (outer : List ℕ) (n : ℕ) → k ≡ length outer → take k (outer ++ n ∷ []) ≡ outer
    closed zero [] n is = refl
    closed zero (x ∷ outer) n is = absurd (omega arith)
    closed (suc k) [] n is = absurd (omega arith)
    closed (suc k) (x ∷ outer) n is = ap (λ more. x ∷ more) (closed k outer n (omega arith))

pub enclosed : {d : ℕ} {w : List Token → List Token} → Deep d w → Deep (d + 1) (λ ts. sign symbol.Open ∷ w (sign symbol.Close ∷ ts))
enclosed {w = w} x = record {
  deep = λ outer run rest h more.
      let inside : List ℕ = outer ++ (run + 1) ∷ [] in
      let total : sum inside ≡ sum outer + (run + 1) = sum_open outer (run + 1) in
      let behind : Shallow (take (length inside - 1) inside) 0 rest = subst (λ o. Shallow o 0 rest) (sym (close_again outer (run + 1))) more in
      let closed : Shallow inside 0 (sign symbol.Close ∷ rest) = step inside 0 (sign symbol.Close) rest (omega arith) behind in
      step outer run (sign symbol.Open) (w (sign symbol.Close ∷ rest)) (omega arith) (x.deep inside 0 (sign symbol.Close ∷ rest) (omega arith) closed);
}

-- ## Parts together

pub deeper : {d e : ℕ} {w : List Token → List Token} → Deep d w → d ≤ e → Deep e w
deeper x at_most = record { deep = λ outer run rest h more. x.deep outer run rest (omega arith) more }

pub levelled : {d : ℕ} {w : List Token → List Token} → Deep d w → Level d w
levelled x = record { level = λ outer rest h more. x.deep outer 0 rest (omega arith) more }

pub then : {d : ℕ} {w v : List Token → List Token} → Deep d w → Level d v → Deep d (λ ts. w (v ts))
then {v = v} x y = record { deep = λ outer run rest h more. x.deep outer run (v rest) h (y.level outer rest (omega arith) more) }

pub levels : {d : ℕ} {w v : List Token → List Token} → Level d w → Level d v → Level d (λ ts. w (v ts))
levels {v = v} x y = record { level = λ outer rest h more. x.level outer (v rest) h (y.level outer rest h more) }

pub both : {d : ℕ} {w v : List Token → List Token} → Deep d w → Deep d v → Deep d (λ ts. w (v ts))
both x y = then x (levelled y)

pub no_more : {d : ℕ} → Level d (λ ts. ts)
no_more = record { level = λ outer rest h more. more }

-- all tokens of a statement
pub shallow : {d : ℕ} {w : List Token → List Token} → Deep d w → d ≤ 512 → Shallow [] 0 (w [])
shallow x h = x.deep [] 0 [] (omega arith) refl

-- ## Lists

module _ {X R : Type 0} (P : X → Type 0) (canon : (x : X) → P x → R) (write : R → List Token → List Token) (Q : X → Type 0) (d : ℕ) (deep : (x : X) (is : P x) → Q x → Deep d (write (canon x is))) where
  pub more_level : (xs : List X) (each : AllByRecursion P xs) → AllByRecursion Q xs → Level d (write_more write (canon_all P canon xs each))
  more_level [] each small = no_more
  more_level (x ∷ xs) each small = levelled (both (flat (sign symbol.Comma) (λ o r s h. h)) (then (deep x each.0 small.0) (more_level xs each.1 small.1)))

  pub some_deep : (xs : List X) (each : EachOfSome P xs) → AllByRecursion Q xs → Deep d (write_some write (canon_some P canon xs each))
  some_deep [] each small = absurd each
  some_deep (x ∷ xs) each small = then (deep x each.0 small.0) (more_level xs each.1 small.1)

  pub any_level : (words : List Keyword) → Deep d (λ ts. map Key words ++ ts) → (xs : List X) (each : AllByRecursion P xs) → AllByRecursion Q xs → Level d (write_behind (write_some write) words (canon_any P canon xs each))
  any_level words led [] each small = no_more
  any_level words led (x ∷ xs) each small = levelled (both led (then (deep x each.0 small.0) (more_level xs each.1 small.1)))

pub all_true : {X : Type 0} (xs : List X) → AllByRecursion (λ x. Unit {0}) xs
all_true [] = tt
all_true (x ∷ xs) = (tt, all_true xs)
