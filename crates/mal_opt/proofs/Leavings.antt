-- What dropping leaves of a plan: everything that stays leads on, and what held of all instructions holds still.
use Rattle.std.proofs.Common.{◌≡◌, ◌+◌, ◌<◌, ℕ, suc, zero, Bool, true, false, cond, List, [], ◌∷◌, ◌++◌, length, map, Option, Some, None, refl, ap, sym, ◌∙◌, subst, arith}
use Rattle.std.specs.Prelude.{◌||◌, slice_get, get_or, nat_lt}
use Rattle.std.specs.Option.{option_map, option_map_or, option_and_then}
use Rattle.std.proofs.lemmas.Option.{slice_get_within, slice_get-get_or, same_Some}
use Rattle.std.proofs.lemmas.Bool.Decides.{Decides-eqb}
use Rattle.std.proofs.lemmas.Bool.{ltb-true, ltb-false}
use Rattle.cell_core.specs.declared.cell.Cell.{Cell}
use Rattle.cell_core.specs.declared.cell.Cell.TheVariants.{Nil}
use Rattle.cell_core.specs.declared.operator.Op.TheVariants as op
use Rattle.cell_core.specs.declared.operator.Arg.{Arg}
use Rattle.cell_core.specs.declared.operator.Arg.TheVariants.{Const, Var}
use Rattle.cell_core.specs.declared.operator.Instr.{Instr}
use Rattle.cell_core.specs.declared.operator.Value.{Value}
use Rattle.cell_core.specs.Operators.{operate}
use Rattle.mal_meaning.specs.declared.plan.Out.{Out}
use Rattle.mal_meaning.specs.declared.plan.Plan.{Plan}
use Rattle.mal_meaning.specs.Meaning.{arg_value, arg_values}
use Rattle.mal_emit.specs.Machines.{typing}
use Rattle.mal_opt.specs.Laws.{NoneFolds, AllDiffer, AllLead}
use Rattle.mal_opt.specs.Live.{is_result, uses, is_shown, is_alive, Leads, Shown, Overflows, Over}
use Rattle.mal_opt.specs.Optimisers.{drop_dead}
use Rattle.mal_opt.specs.Passes.{Passed, renamed, renamed_instr, renamed_out, keeping, dropping, passed, nothing, as_cell, constant_value}
use Rattle.mal_opt.proofs.Checks.{IsTyped, backward}
use Rattle.mal_opt.proofs.ConstantLemmas.{no_value}
use Rattle.mal_opt.proofs.Drops.{IsScoped, Kept, none_kept, all_kept}
use Rattle.mal_opt.proofs.Follows.{from_none}
use Rattle.mal_opt.proofs.Lives.{alive_leads, leads_alive}
use Rattle.mal_opt.proofs.Meanings.{IsClosed}

or_left : (a b : Bool) → a ≡ true → (a || b) ≡ true
or_left a b e = ap (λ x. x || b) e

or_right : (a b : Bool) → b ≡ true → (a || b) ≡ true
or_right true b e = refl
or_right false b e = e

or_split : {P : Type 0} (a b : Bool) → (a || b) ≡ true → (a ≡ true → P) → (b ≡ true → P) → P
or_split true b e f g = f refl
or_split false b e f g = g e

false_true : false ≡ true → ⊥
false_true e = cc

-- what uses a result uses its replacement
arg_mapped : (places : List Arg) (n k : ℕ) → get_or places n (Var n) ≡ Var k → (arg : Arg) → is_result n arg ≡ true → is_result k (renamed places arg) ≡ true
arg_mapped places n k e (Const cell) u = absurd (false_true u)
arg_mapped places n k e (Var m) u = ap (is_result k) (ap (λ j. get_or places j (Var j)) (sym ((Decides-eqb n m).0 u)) ∙ e) ∙ (Decides-eqb k k).1 refl

args_mapped : (places : List Arg) (n k : ℕ) → get_or places n (Var n) ≡ Var k → (args : List Arg) → uses n args ≡ true → uses k (map (renamed places) args) ≡ true
args_mapped places n k e [] u = absurd (false_true u)
args_mapped places n k e (arg ∷ args) u =
    or_split (is_result n arg) (uses n args) u (λ h. or_left (is_result k (renamed places arg)) (uses k (map (renamed places) args)) (arg_mapped places n k e arg h))
    (λ h. or_right (is_result k (renamed places arg)) (uses k (map (renamed places) args)) (args_mapped places n k e args h))

keep_mapped : (places : List Arg) (n k : ℕ) → get_or places n (Var n) ≡ Var k → (keep : Option Arg) → option_map_or (is_result n) keep false ≡ true → option_map_or (is_result k) (option_map (renamed places) keep) false ≡ true
keep_mapped places n k e None u = absurd (false_true u)
keep_mapped places n k e (Some arg) u = arg_mapped places n k e arg u

out_mapped : (places : List Arg) (n k : ℕ) → get_or places n (Var n) ≡ Var k → (out : Out) → is_shown n out ≡ true → is_shown k (renamed_out places out) ≡ true
out_mapped places n k e out u =
    or_split (uses n out.cols) (option_map_or (is_result n) out.keep false) u
    (λ h. or_left (uses k (map (renamed places) out.cols)) (option_map_or (is_result k) (option_map (renamed places) out.keep) false) (args_mapped places n k e out.cols h))
    (λ h. or_right (uses k (map (renamed places) out.cols)) (option_map_or (is_result k) (option_map (renamed places) out.keep) false) (keep_mapped places n k e out.keep h))

module _ (plan : Plan) (typed : IsTyped plan) (closed : IsClosed plan (is_alive plan)) where
  abbrev so : Passed
  so = passed (dropping (is_alive plan) keeping) nothing plan.instrs

  scoped : IsScoped (is_alive plan) plan.instrs
  scoped n instr at m u = subst (λ k. m < k) (from_none n) (backward typing [] plan.instrs typed.types n instr m typed.ran_types at u)

  kept : Kept (is_alive plan) plan.instrs so
  kept = all_kept (is_alive plan) [] nothing plan.instrs (none_kept (is_alive plan)) scoped

  leads_mapped : (n : ℕ) → Leads plan n → (k : ℕ) → get_or so.places n (Var n) ≡ Var k → Leads (drop_dead plan) k
  leads_mapped _ (Shown n low s) k e =
      let x : Instr = get_or plan.instrs n (record { op = op.Bind; args = [] }) in
      let at = kept.target n x k (slice_get-get_or plan.instrs n (record { op = op.Bind; args = [] }) low) (leads_alive plan n (Shown n low s)) e in
      Shown k (slice_get_within so.instrs k (renamed_instr so.places x) at) (out_mapped so.places n k e plan.out s)
  leads_mapped _ (Overflows n x at f) k e = Overflows k (renamed_instr so.places x) (kept.target n x k at (leads_alive plan n (Overflows n x at f)) e) f
  leads_mapped _ (Over n m x less at u rest) k e =
      let lives = leads_alive plan m rest in
      let low : m < length plan.instrs = slice_get_within plan.instrs m x at in
      let there = kept.stays m low lives in
      Over k there.0 (renamed_instr so.places x) (kept.rising n m k there.0 less low (leads_alive plan n (Over n m x less at u rest)) lives e there.1) (kept.target m x there.0 at lives there.1)
      (args_mapped so.places n k e x.args u) (leads_mapped m rest there.0 there.1)

  pub all_lead : AllLead (drop_dead plan)
  all_lead n low =
      let none : Instr = record { op = op.Bind; args = [] } in
      let s = kept.source n (get_or so.instrs n none) (slice_get-get_or so.instrs n none low) in
      leads_mapped s.number (alive_leads plan s.number s.lives) n s.place

  -- ## Nothing folds

  const_kept : (args : List Arg) → ((n : ℕ) → uses n args ≡ true → (k : ℕ) × (get_or so.places n (Var n) ≡ Var k)) → arg_values [] (map (renamed so.places) args) ≡ arg_values [] args
  const_kept [] there = refl
  const_kept (arg ∷ args) there =
      ap (λ v. option_and_then (λ y. option_map (λ ys. y ∷ ys) (arg_values [] (map (renamed so.places) args))) v) (first arg (λ n u. there n (or_left (is_result n arg) (uses n args) u)))
      ∙ ap (λ vs. option_and_then (λ y. option_map (λ ys. y ∷ ys) vs) (arg_value [] arg)) (const_kept args (λ n u. there n (or_right (is_result n arg) (uses n args) u)))
    where
      first : (arg : Arg) → ((n : ℕ) → is_result n arg ≡ true → (k : ℕ) × (get_or so.places n (Var n) ≡ Var k)) → arg_value [] (renamed so.places arg) ≡ arg_value [] arg
      first (Const cell) h = refl
      first (Var n) h = let k = h n ((Decides-eqb n n).1 refl) in ap (arg_value []) k.1 ∙ no_value k.0 ∙ sym (no_value n)

  value_kept : (instr : Instr) → arg_values [] (map (renamed so.places) instr.args) ≡ arg_values [] instr.args → constant_value (renamed_instr so.places instr) ≡ constant_value instr
  unfolding constant_value
  value_kept instr e = ap (λ vs. option_and_then as_cell (option_and_then (operate instr.op) vs)) e

  used_stay : (m : ℕ) (instr : Instr) → slice_get plan.instrs m ≡ Some instr → is_alive plan m ≡ true → (n : ℕ) → uses n instr.args ≡ true → (k : ℕ) × (get_or so.places n (Var n) ≡ Var k)
  used_stay m instr at a n u =
      let less : n < m = scoped m instr at n u in
      let low : m < length plan.instrs = slice_get_within plan.instrs m instr at in
      kept.stays n (omega (arith, less, low)) (closed.used m instr at a n u)

  pub folds_left : NoneFolds plan → NoneFolds (drop_dead plan)
  folds_left none k x at =
      let s = kept.source k x at in
      ap constant_value s.is ∙ value_kept s.instr (const_kept s.instr.args (used_stay s.number s.instr s.at s.lives)) ∙ none s.number s.instr s.at

  -- ## No two are equal

  places_differ : (n m k : ℕ) → n < length plan.instrs → m < length plan.instrs → is_alive plan n ≡ true → is_alive plan m ≡ true → get_or so.places n (Var n) ≡ Var k → get_or so.places m (Var m) ≡ Var k → n ≡ m
  places_differ n m k low low' a b e f = by_order (nat_lt n m) refl (nat_lt m n) refl
    where
      by_order : (x : Bool) → nat_lt n m ≡ x → (y : Bool) → nat_lt m n ≡ y → n ≡ m
      by_order true g y h = absurd (let bad : k < k = kept.rising n m k k (ltb-true n m g) low' a b e f in omega (arith, bad))
      by_order false g true h = absurd (let bad : k < k = kept.rising m n k k (ltb-true m n h) low b a f e in omega (arith, bad))
      by_order false g false h = omega (arith, ltb-false n m g, ltb-false m n h)

  -- where results are used that stay, equal new arguments come of equal ones
  abbrev Stays : (ℕ → Type 0) → Type 0
  Stays used = (n : ℕ) → used n → (k : ℕ) × (n < length plan.instrs) × (is_alive plan n ≡ true) × (get_or so.places n (Var n) ≡ Var k)

  arg_same : (a b : Arg) → Stays (λ n. is_result n a ≡ true) → Stays (λ n. is_result n b ≡ true) → renamed so.places a ≡ renamed so.places b → a ≡ b
  arg_same (Const c) (Const d) h g e = e
  arg_same (Const c) (Var m) h g e = absurd (clash (g m ((Decides-eqb m m).1 refl)).0 (e ∙ (g m ((Decides-eqb m m).1 refl)).3))
    where
      clash : (k : ℕ) → Const c ≡ Var k → ⊥
      clash k e = cc
  arg_same (Var n) (Const d) h g e = absurd (clash (h n ((Decides-eqb n n).1 refl)).0 (sym e ∙ (h n ((Decides-eqb n n).1 refl)).3))
    where
      clash : (k : ℕ) → Const d ≡ Var k → ⊥
      clash k e = cc
  arg_same (Var n) (Var m) h g e =
      let x = h n ((Decides-eqb n n).1 refl) in
      let y = g m ((Decides-eqb m m).1 refl) in
      ap Var (places_differ n m x.0 x.1 y.1 x.2 y.2 x.3 (sym e ∙ x.3))

  first_same : (a b : Arg) (xs bs : List Arg) → a ∷ xs ≡ b ∷ bs → a ≡ b
  first_same a b xs bs e = cc

  rest_same : (a b : Arg) (xs bs : List Arg) → a ∷ xs ≡ b ∷ bs → xs ≡ bs
  rest_same a b xs bs e = cc

  args_same : (xs bs : List Arg) → Stays (λ n. uses n xs ≡ true) → Stays (λ n. uses n bs ≡ true) → map (renamed so.places) xs ≡ map (renamed so.places) bs → xs ≡ bs
  args_same [] [] h g e = refl
  args_same [] (b ∷ bs) h g e = absurd (clash e)
    where
      clash : [] ≡ renamed so.places b ∷ map (renamed so.places) bs → ⊥
      clash e = cc
  args_same (a ∷ xs) [] h g e = absurd (clash e)
    where
      clash : renamed so.places a ∷ map (renamed so.places) xs ≡ [] → ⊥
      clash e = cc
  args_same (a ∷ xs) (b ∷ bs) h g e =
      ap (λ x. x ∷ xs) (arg_same a b (λ n u. h n (or_left (is_result n a) (uses n xs) u)) (λ n u. g n (or_left (is_result n b) (uses n bs) u)) (first_same (renamed so.places a) (renamed so.places b) (map (renamed so.places) xs) (map (renamed so.places) bs) e))
      ∙ ap (λ ys. b ∷ ys) (args_same xs bs (λ n u. h n (or_right (is_result n a) (uses n xs) u)) (λ n u. g n (or_right (is_result n b) (uses n bs) u)) (rest_same (renamed so.places a) (renamed so.places b) (map (renamed so.places) xs) (map (renamed so.places) bs) e))

  stay_of : (m : ℕ) (instr : Instr) → slice_get plan.instrs m ≡ Some instr → is_alive plan m ≡ true → Stays (λ n. uses n instr.args ≡ true)
  stay_of m instr at a n u =
      let less : n < m = scoped m instr at n u in
      let low : m < length plan.instrs = slice_get_within plan.instrs m instr at in
      let there = used_stay m instr at a n u in
      (there.0, omega (arith, less, low), closed.used m instr at a n u, there.1)

  same_parts : (a b : Instr) → a.op ≡ b.op → a.args ≡ b.args → a ≡ b
  same_parts a b e f = λ i. record { op = e i; args = f i }

  var_is : (k j : ℕ) → Var k ≡ Var j → k ≡ j
  var_is k j e = cc

  pub differ_left : AllDiffer plan → AllDiffer (drop_dead plan)
  differ_left d k j x at at' =
      let s = kept.source k x at in
      let t = kept.source j x at' in
      let same : renamed_instr so.places s.instr ≡ renamed_instr so.places t.instr = sym s.is ∙ t.is in
      let one : s.instr ≡ t.instr = same_parts s.instr t.instr (ap (λ (y : Instr). y.op) same)
      (args_same s.instr.args t.instr.args (stay_of s.number s.instr s.at s.lives) (stay_of t.number t.instr t.at t.lives) (ap (λ (y : Instr). y.args) same)) in
      let number : s.number ≡ t.number = d s.number t.number s.instr s.at (t.at ∙ ap Some (sym one)) in
      var_is k j (sym s.place ∙ ap (λ n. get_or so.places n (Var n)) number ∙ t.place)
