-- What is alive: exactly that from which a path leads to what is shown, or to what may overflow.
use Rattle.std.proofs.Common.{◌≡◌, ◌+◌, ◌-◌, ◌<◌, ◌≤◌, ℕ, suc, zero, Bool, true, false, List, [], ◌∷◌, ◌++◌, length, Some, None, refl, ap, sym, ◌∙◌, subst, arith}
use Rattle.std.specs.Prelude.{◌||◌, ◌&&◌, get_or, slice_get}
use Rattle.std.specs.Option.{option_map_or}
use Rattle.std.proofs.lemmas.Bool.{and_parts, and_from}
use Rattle.std.proofs.lemmas.Option.{same_Some, slice_get_within}
use Rattle.cell_core.specs.Forms.{may_overflow}
use Rattle.cell_core.specs.declared.operator.Instr.{Instr}
use Rattle.cell_core.specs.declared.operator.Arg.{Arg}
use Rattle.mal_meaning.specs.declared.plan.Out.{Out}
use Rattle.mal_meaning.specs.declared.plan.Plan.{Plan}
use Rattle.mal_opt.specs.Live.{uses, is_shown, is_used, alive_from, is_alive, Leads, Shown, Overflows, Over}
use Rattle.mal_opt.proofs.Runs.{with_none}

or_split : {P : Type 0} (a b : Bool) → (a || b) ≡ true → (a ≡ true → P) → (b ≡ true → P) → P
or_split true b e f g = f refl
or_split false b e f g = g e

or_right : (a b : Bool) → b ≡ true → (a || b) ≡ true
or_right true b e = refl
or_right false b e = e

or_left : (a b : Bool) → a ≡ true → (a || b) ≡ true
or_left a b e = ap (λ x. x || b) e

next_number : (k i : ℕ) → suc k + i ≡ k + suc i
next_number k i = omega arith

-- one that is alive uses the result
used_to : (n : ℕ) (is : List Instr) (bs : List Bool) (j : ℕ) (x : Instr) → slice_get is j ≡ Some x → get_or bs j false ≡ true → uses n x.args ≡ true → is_used n is bs ≡ true
used_to n [] bs j x at a u = cc
used_to n (i ∷ is) [] j x at a u = cc
used_to n (i ∷ is) (b ∷ bs) zero x at a u = or_left (b && uses n i.args) (is_used n is bs) (and_from b (uses n i.args) a (ap (λ (y : Instr). uses n y.args) (same_Some i x at) ∙ u))
used_to n (i ∷ is) (b ∷ bs) (suc j) x at a u = or_right (b && uses n i.args) (is_used n is bs) (used_to n is bs j x at a u)

-- the instruction that is alive and uses the result
record User (n : ℕ) (is : List Instr) (bs : List Bool) : Type 0 where
  place : ℕ
  instr : Instr
  at : slice_get is place ≡ Some instr
  lives : get_or bs place false ≡ true
  uses_it : uses n instr.args ≡ true

later_user : (n : ℕ) (i : Instr) (is : List Instr) (b : Bool) (bs : List Bool) → User n is bs → User n (i ∷ is) (b ∷ bs)
later_user n i is b bs u = record { place = suc u.place; instr = u.instr; at = u.at; lives = u.lives; uses_it = u.uses_it }

user_of : (n : ℕ) (is : List Instr) (bs : List Bool) → is_used n is bs ≡ true → User n is bs
user_of n [] bs e = absurd (cc)
user_of n (i ∷ is) [] e = absurd (cc)
user_of n (i ∷ is) (b ∷ bs) e =
    or_split (b && uses n i.args) (is_used n is bs) e
    (λ h. record { place = 0; instr = i; at = refl; lives = (and_parts b (uses n i.args) h).0; uses_it = (and_parts b (uses n i.args) h).1 })
    (λ h. later_user n i is b bs (user_of n is bs h))

module _ (out : Out) where
  overflow_lives : (k : ℕ) (is : List Instr) (i : ℕ) (x : Instr) → slice_get is i ≡ Some x → may_overflow x.op ≡ true → get_or (alive_from out k is) i false ≡ true
  overflow_lives k [] i x at e = cc
  overflow_lives k (y ∷ is) zero x at e =
      or_left (may_overflow y.op || is_shown k out) (is_used k is (alive_from out (suc k) is)) (or_left (may_overflow y.op) (is_shown k out) (ap (λ (z : Instr). may_overflow z.op) (same_Some y x at) ∙ e))
  overflow_lives k (y ∷ is) (suc i) x at e = overflow_lives (suc k) is i x at e

  shown_lives : (k : ℕ) (is : List Instr) (i : ℕ) → i < length is → is_shown (k + i) out ≡ true → get_or (alive_from out k is) i false ≡ true
  shown_lives k [] i low e = absurd (omega (arith, low))
  shown_lives k (y ∷ is) zero low e =
      or_left (may_overflow y.op || is_shown k out) (is_used k is (alive_from out (suc k) is)) (or_right (may_overflow y.op) (is_shown k out) (ap (λ n. is_shown n out) (sym (with_none k)) ∙ e))
  shown_lives k (y ∷ is) (suc i) low e = shown_lives (suc k) is i (omega (arith, low)) (ap (λ n. is_shown n out) (next_number k i) ∙ e)

  used_lives : (k : ℕ) (is : List Instr) (i j : ℕ) (x : Instr) → i < j → slice_get is j ≡ Some x → uses (k + i) x.args ≡ true → get_or (alive_from out k is) j false ≡ true → get_or (alive_from out k is) i false ≡ true
  used_lives k [] i j x low at u e = cc
  used_lives k (y ∷ is) i zero x low at u e = absurd (omega (arith, low))
  used_lives k (y ∷ is) zero (suc j) x low at u e =
      or_right (may_overflow y.op || is_shown k out) (is_used k is (alive_from out (suc k) is)) (used_to k is (alive_from out (suc k) is) j x at e (ap (λ n. uses n x.args) (sym (with_none k)) ∙ u))
  used_lives k (y ∷ is) (suc i) (suc j) x low at u e = used_lives (suc k) is i j x (omega (arith, low)) at (ap (λ n. uses n x.args) (next_number k i) ∙ u) e

  -- why an instruction is alive
  why_alive : {P : Type 0} (k : ℕ) (is : List Instr) (i : ℕ) → get_or (alive_from out k is) i false ≡ true
      → ((x : Instr) → slice_get is i ≡ Some x → may_overflow x.op ≡ true → P) → (i < length is → is_shown (k + i) out ≡ true → P)
      → ((j : ℕ) (x : Instr) → i < j → slice_get is j ≡ Some x → get_or (alive_from out k is) j false ≡ true → uses (k + i) x.args ≡ true → P) → P
  why_alive k [] i e f g h = absurd (none i e)
    where
      none : (i : ℕ) → get_or [] i false ≡ true → ⊥
      none i e = cc
  why_alive k (y ∷ is) zero e f g h =
      or_split (may_overflow y.op || is_shown k out) (is_used k is (alive_from out (suc k) is)) e
      (λ a. or_split (may_overflow y.op) (is_shown k out) a (λ b. f y refl b) (λ b. g (omega arith) (ap (λ n. is_shown n out) (with_none k) ∙ b)))
      (λ a. let u = user_of k is (alive_from out (suc k) is) a in h (suc u.place) u.instr (omega arith) u.at u.lives (ap (λ n. uses n u.instr.args) (with_none k) ∙ u.uses_it))
  why_alive k (y ∷ is) (suc i) e f g h =
      why_alive (suc k) is i e f (λ low s. g (omega (arith, low)) (ap (λ n. is_shown n out) (sym (next_number k i)) ∙ s))
      (λ j x low at a u. h (suc j) x (omega (arith, low)) at a (ap (λ n. uses n x.args) (sym (next_number k i)) ∙ u))

module _ (plan : Plan) where
  zero_plus : (n : ℕ) → 0 + n ≡ n
  zero_plus n = omega arith

  -- with as many steps as there are instructions after it
  leads_within : (fuel n : ℕ) → length plan.instrs - n ≤ fuel → is_alive plan n ≡ true → Leads plan n
  leads_within zero n most a =
      why_alive plan.out 0 plan.instrs n a (λ x at e. Overflows n x at e) (λ low s. Shown n low (ap (λ k. is_shown k plan.out) (sym (zero_plus n)) ∙ s))
      (λ j x low at b u. absurd (let within : j < length plan.instrs = slice_get_within plan.instrs j x at in omega (arith, most, low, within)))
  leads_within (suc fuel) n most a =
      why_alive plan.out 0 plan.instrs n a (λ x at e. Overflows n x at e) (λ low s. Shown n low (ap (λ k. is_shown k plan.out) (sym (zero_plus n)) ∙ s))
      (λ j x low at b u.
      let within : j < length plan.instrs = slice_get_within plan.instrs j x at in
      Over n j x low at (ap (λ k. uses k x.args) (sym (zero_plus n)) ∙ u) (leads_within fuel j (omega (arith, most, low, within)) b))

  pub alive_leads : (n : ℕ) → is_alive plan n ≡ true → Leads plan n
  alive_leads n a = leads_within (length plan.instrs) n (omega arith) a

  pub leads_alive : (n : ℕ) → Leads plan n → is_alive plan n ≡ true
  leads_alive _ (Shown n low s) = shown_lives plan.out 0 plan.instrs n low (ap (λ k. is_shown k plan.out) (zero_plus n) ∙ s)
  leads_alive _ (Overflows n x at e) = overflow_lives plan.out 0 plan.instrs n x at e
  leads_alive _ (Over n m x low at u rest) = used_lives plan.out 0 plan.instrs n m x low at (ap (λ k. uses k x.args) (zero_plus n) ∙ u) (leads_alive m rest)

pub alive_lead : (plan : Plan) (n : ℕ) → (is_alive plan n ≡ true → Leads plan n) × (Leads plan n → is_alive plan n ≡ true)
alive_lead plan n = (alive_leads plan n, leads_alive plan n)
