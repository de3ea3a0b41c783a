-- No more instructions are ready.
use Rattle.std.proofs.Common.{◌≡◌, ◌≢◌, ℕ, ◌+◌, ◌≤◌, List, [], ◌∷◌, ◌++◌, length, Bool, false, true, Option, Some, None, refl, ap, sym, ◌∙◌, subst, arith, ⊎_elim}
use Rattle.std.specs.Prelude.{slice_get, nat_eq, ◌||◌}
use Rattle.std.proofs.lemmas.Option.{slice_get_within}
use Rattle.std.proofs.lemmas.Bool.Decides.{eqb_tells}
use Rattle.cell_core.specs.declared.operator.Instr.{Instr}
use Rattle.cell_core.specs.declared.operator.Value.{Value}
use Rattle.mal_meaning.specs.Meaning.{arg_values}
use Rattle.mal_check.proofs.ListTests.{some_is}
use Rattle.dataflow.specs.Plans.{has}
use Rattle.flow_tests.specs.Sound.{is_bind}
use Rattle.flow_tests.specs.Ready.{NoneReady, ArePassed}

abbrev pub NotReady : List (Option Value) → List ℕ → ℕ → Instr → Type 0
NotReady known handed i instr = is_bind instr.op ≡ false → has handed i ≡ false → arg_values known instr.args ≡ None

pub none_more : (instrs : List Instr) (known : List (Option Value)) (handed : List ℕ) (count : ℕ) (x : Instr) → slice_get instrs count ≡ Some x
    → NoneReady instrs known handed count → NotReady known handed count x → NoneReady instrs known handed (count + 1)
none_more instrs known handed count x here none not_here i instr below is = ⊎_elim
    (λ (h : (nat_eq i count ≡ true) × (i ≡ count)).
    let same : x ≡ instr = some_is x instr (sym here ∙ ap (slice_get instrs) (sym h.1) ∙ is) in
    subst (λ k. NotReady known handed k instr) (sym h.1) (subst (NotReady known handed count) same not_here))
    (λ (h : (nat_eq i count ≡ false) × (i ≢ count)). none i instr (let apart = h.1 in omega arith) is) (eqb_tells i count)

-- ## What is passed

pub none_passed : (instrs : List Instr) (handed : List ℕ) → ArePassed instrs handed 0
none_passed instrs handed i instr below is bind = absurd (grind arith)

pub passed_is_none : (instrs : List Instr) (known : List (Option Value)) (handed : List ℕ) (count : ℕ) → ArePassed instrs handed count → NoneReady instrs known handed count
passed_is_none instrs known handed count passed i instr below is bind out = absurd (let f : true ≡ false = sym (passed i instr below is bind) ∙ out in cc)

abbrev pub IsPassed : List ℕ → ℕ → Instr → Type 0
IsPassed handed i instr = is_bind instr.op ≡ false → has handed i ≡ true

pub passed_here : (handed : List ℕ) (i : ℕ) (instr : Instr) → (is_bind instr.op || has handed i) ≡ true → IsPassed handed i instr
passed_here handed i instr either bind = ap (λ b. b || has handed i) (sym bind) ∙ either

pub passed_more : (instrs : List Instr) (handed : List ℕ) (count : ℕ) (x : Instr) → slice_get instrs count ≡ Some x
    → ArePassed instrs handed count → IsPassed handed count x → ArePassed instrs handed (count + 1)
passed_more instrs handed count x here passed is_passed i instr below is = ⊎_elim
    (λ (h : (nat_eq i count ≡ true) × (i ≡ count)).
    let same : x ≡ instr = some_is x instr (sym here ∙ ap (slice_get instrs) (sym h.1) ∙ is) in
    subst (λ k. IsPassed handed k instr) (sym h.1) (subst (IsPassed handed count) same is_passed))
    (λ (h : (nat_eq i count ≡ false) × (i ≢ count)). passed i instr (let apart = h.1 in omega arith) is) (eqb_tells i count)

pub passed_all : (instrs : List Instr) (handed : List ℕ) (from to : ℕ) → length instrs ≤ from → ArePassed instrs handed from → ArePassed instrs handed to
passed_all instrs handed from to past passed i instr below is bind = passed i instr (let within = slice_get_within instrs i instr is in omega arith) is bind

any_more : (xs : List ℕ) (x i : ℕ) → has xs i ≡ true → has (xs ++ x ∷ []) i ≡ true
any_more [] x i h = absurd (let f : false ≡ true = h in cc)
any_more (y ∷ ys) x i h = by_case (nat_eq y i) (any_more ys x i) h
  where
    by_case : (b : Bool) → (has ys i ≡ true → has (ys ++ x ∷ []) i ≡ true) → (b || has ys i) ≡ true → (b || has (ys ++ x ∷ []) i) ≡ true
    by_case true more e = refl
    by_case false more e = more e

pub passed_still : (instrs : List Instr) (handed : List ℕ) (x count : ℕ) → ArePassed instrs handed count → ArePassed instrs (handed ++ x ∷ []) count
passed_still instrs handed x count passed i instr below is bind = any_more handed x i (passed i instr below is bind)
