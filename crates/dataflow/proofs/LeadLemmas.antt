-- What is out, after a step of the caller.
use Rattle.std.proofs.Common.{◌≡◌, ℕ, List, [], ◌∷◌, ◌++◌, Bool, true, false, refl, ap, sym, ◌∙◌, arith}
use Rattle.std.specs.Prelude.{◌&&◌, ◌||◌, not, nat_eq, filter, if◌then◌else◌}
use Rattle.std.proofs.lemmas.Bool.{eqb-true}
use Rattle.std.proofs.lemmas.Bool.Decides.{nat_tests}
use Rattle.std.proofs.lemmas.Map.Views.{any-filter_same}
use Rattle.dataflow.specs.Plans.{has, is_out, NoneOut}
use Rattle.dataflow.specs.Leads.{KnowsOut, without}

swaps : (a b : ℕ) → nat_eq a b ≡ nat_eq b a
swaps a b = grind (arith, nat_tests)

has_filter : (out : List ℕ) (k i : ℕ) → has (filter (λ j. not (nat_eq j k)) out) i ≡ (not (nat_eq i k) && has out i)
has_filter out k i = any-filter_same (λ j. nat_eq j i) (λ j. not (nat_eq j k)) (not (nat_eq i k)) (λ j same. ap (λ n. not (nat_eq n k)) (eqb-true j i same)) out

has_push : (out : List ℕ) (k i : ℕ) → has (out ++ k ∷ []) i ≡ (nat_eq k i || has out i)
has_push [] k i = refl
has_push (j ∷ js) k i = ap (λ b. nat_eq j i || b) (has_push js k i) ∙ turns (nat_eq j i) (nat_eq k i) (has js i)
  where
    turns : (a b c : Bool) → (a || (b || c)) ≡ (b || (a || c))
    turns true true c = refl
    turns true false c = refl
    turns false b c = refl

done_bits : (same handed finished : Bool) → (not same && (handed && not finished)) ≡ (handed && not (same || finished))
done_bits true true f = refl
done_bits true false f = refl
done_bits false h f = refl

-- an instruction is done
out_done : (handed finished out : List ℕ) (k : ℕ) → KnowsOut handed finished out → KnowsOut handed (finished ++ k ∷ []) (filter (λ j. not (nat_eq j k)) out)
out_done handed finished out k known i =
    has_filter out k i ∙ ap (λ b. not (nat_eq i k) && b) (known i) ∙ ap (λ b. not b && is_out handed finished i) (swaps i k)
    ∙ done_bits (nat_eq k i) (has handed i) (has finished i) ∙ ap (λ b. has handed i && not b) (sym (has_push finished k i))

pub out_finished : (handed finished out handed' finished' out' : List ℕ) (k : ℕ) → KnowsOut handed finished out
    → handed' ≡ handed → finished' ≡ finished ++ k ∷ [] → out' ≡ filter (λ j. not (nat_eq j k)) out → KnowsOut handed' finished' out'
out_finished handed finished out handed' finished' out' k known h f o i =
    ap (λ l. has l i) o ∙ out_done handed finished out k known i ∙ ap (λ l. is_out handed l i) (sym f) ∙ ap (λ l. is_out l finished' i) (sym h)

-- an instruction is handed out and not done
pub out_bits : (handed finished : Bool) → (handed && not finished) ≡ true → handed ≡ true
out_bits true f e = refl
out_bits false f e = cc

pub due_bits : (handed finished : Bool) → (handed && not finished) ≡ true → finished ≡ false
due_bits true true e = cc
due_bits true false e = refl
due_bits false f e = cc

pub out_is_handed : (handed finished out : List ℕ) (k : ℕ) → KnowsOut handed finished out → has out k ≡ true → has handed k ≡ true
out_is_handed handed finished out k known is = out_bits (has handed k) (has finished k) (sym (known k) ∙ is)

pub out_is_due : (handed finished out : List ℕ) (k : ℕ) → KnowsOut handed finished out → has out k ≡ true → has finished k ≡ false
out_is_due handed finished out k known is = due_bits (has handed k) (has finished k) (sym (known k) ∙ is)

-- one more is handed out
more_bits : (same handed finished : Bool) → (same ≡ true → finished ≡ false) → (same || (handed && not finished)) ≡ ((same || handed) && not finished)
more_bits true h true due = let e : true ≡ false = due refl in cc
more_bits true h false due = refl
more_bits false h f due = refl

out_more : (handed finished out : List ℕ) (k : ℕ) → KnowsOut handed finished out → has finished k ≡ false → KnowsOut (handed ++ k ∷ []) finished (out ++ k ∷ [])
out_more handed finished out k known due i =
    has_push out k i ∙ ap (λ b. nat_eq k i || b) (known i) ∙ more_bits (nat_eq k i) (has handed i) (has finished i) (λ same. ap (has finished) (sym (eqb-true k i same)) ∙ due)
    ∙ ap (λ b. b && not (has finished i)) (sym (has_push handed k i))

pub out_handed : (handed finished out handed' finished' out' : List ℕ) (k : ℕ) → KnowsOut handed finished out → has finished' k ≡ false
    → handed' ≡ handed ++ k ∷ [] → finished' ≡ finished → out' ≡ out ++ k ∷ [] → KnowsOut handed' finished' out'
out_handed handed finished out handed' finished' out' k known due h f o i =
    ap (λ l. has l i) o ∙ out_more handed finished out k known (ap (λ l. has l k) (sym f) ∙ due) i ∙ ap (λ l. is_out (handed ++ k ∷ []) l i) (sym f) ∙ ap (λ l. is_out l finished' i) (sym h)

-- nothing is out
pub none_left : (handed finished out : List ℕ) → KnowsOut handed finished out → out ≡ [] → NoneOut handed finished
none_left handed finished out known empty i = sym (known i) ∙ ap (λ l. has l i) empty

pub none_yet : (handed finished : List ℕ) → NoneOut handed finished → KnowsOut handed finished []
none_yet handed finished none i = sym (none i)

-- ## What is left

-- where it isn't in the list, nothing is taken out
without_at : (j : ℕ) (js rest : List ℕ) (absent same : Bool) → (same || absent) ≡ false → (absent ≡ false → js ≡ rest) → (j ∷ js) ≡ (if not same then j ∷ rest else rest)
without_at j js rest absent true e same = cc
without_at j js rest absent false e same = ap (λ l. j ∷ l) (same e)

pub without_none : (out : List ℕ) (k : ℕ) → has out k ≡ false → out ≡ without out k
without_none [] k absent = refl
without_none (j ∷ js) k absent = without_at j js (without js k) (has js k) (nat_eq j k) absent (without_none js k)

nat_eq_same : (k : ℕ) → nat_eq k k ≡ true
nat_eq_same k = grind (arith, nat_tests)

without_first : (k : ℕ) (more : List ℕ) → without (k ∷ more) k ≡ without more k
without_first k more = ap (λ b. if not b then k ∷ without more k else without more k) (nat_eq_same k)

-- a list of one is empty without it
pub without_one : (k : ℕ) (out out' : List ℕ) → out ≡ [] → out' ≡ without (out ++ k ∷ []) k → out' ≡ []
without_one k out out' none is = is ∙ ap (λ l. without (l ++ k ∷ []) k) none ∙ without_first k []

-- a list of two is empty without both
pub without_two : (j k : ℕ) (out out' out'' : List ℕ) → out ≡ j ∷ k ∷ [] → out' ≡ without out j → out'' ≡ without out' k → out'' ≡ []
without_two j k out out' out'' are is is' =
    is' ∙ ap (λ l. without l k) (is ∙ ap (λ l. without l j) are ∙ without_first j (k ∷ [])) ∙ rest (nat_eq k j)
  where
    rest : (b : Bool) → without (if not b then k ∷ [] else []) k ≡ []
    rest true = refl
    rest false = without_first k []
