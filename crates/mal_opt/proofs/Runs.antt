-- Machines that run instructions: what stays known, and what a run of all says of one.
use Rattle.std.proofs.Common.{◌≡◌, ◌+◌, ℕ, suc, zero, List, [], ◌∷◌, ◌++◌, length, map, Bool, true, false, cond, Option, Some, None, refl, ap, sym, ◌∙◌, append-nil, append_assoc, arith, ltb-true}
use Rattle.std.specs.Prelude.{slice_get, position, ◌<◌, not, nat_lt}
use Rattle.std.specs.List.{position_or_len}
use Rattle.std.specs.Option.{option_map, option_and_then}
use Rattle.std.proofs.lemmas.Option.{same_Some}
use Rattle.cell_core.proofs.ListLemmas.{both_found, both_from, slice_get-append_found, slice_get-append_middle}
use Rattle.cell_core.specs.declared.operator.Arg.{Arg}
use Rattle.cell_core.specs.declared.operator.Arg.TheVariants.{Const, Var}
use Rattle.cell_core.specs.declared.operator.Instr.{Instr}
use Rattle.mal_emit.specs.Machines.{Machine, arg_in, args_in, result, ran}

-- ## Options and lists

-- what a function that may fail was given
pub was_given : {X Y : Type 0} (f : X → Option Y) (o : Option X) (y : Y) → option_and_then f o ≡ Some y → (x : X) × (o ≡ Some x) × (f x ≡ Some y)
was_given f None y e = cc
was_given f (Some x) y e = (x, refl, e)

-- an element of a longer list is one of before, or the last
pub get_either : {X : Type 0} {P : Type 0} (xs : List X) (y : X) (n : ℕ) (x : X) → slice_get (xs ++ y ∷ []) n ≡ Some x
    → (slice_get xs n ≡ Some x → P) → (n ≡ length xs → y ≡ x → P) → P
get_either [] y zero x e f g = g refl (same_Some y x e)
get_either [] y (suc n) x e f g = cc
get_either (z ∷ xs) y zero x e f g = f e
get_either (z ∷ xs) y (suc n) x e f g = get_either xs y n x e f (λ h k. g (ap suc h) k)

pub long_snoc : {X : Type 0} (xs : List X) (x : X) (k : ℕ) → length (xs ++ x ∷ []) + k ≡ length xs + suc k
long_snoc [] x k = omega arith
long_snoc (y ∷ xs) x k = let rest : length (xs ++ x ∷ []) + k ≡ length xs + suc k = long_snoc xs x k in omega arith

pub with_none : (n : ℕ) → n + 0 ≡ n
with_none n = omega arith

one_more : (n : ℕ) → 1 + n ≡ suc n
one_more n = omega arith

-- the element at the first place that passes the test
first_is : {X : Type 0} (test : X → Bool) (xs : List X) → position_or_len test xs < length xs → (x : X) × (slice_get xs (position_or_len test xs) ≡ Some x) × (test x ≡ true)
first_is test [] low = absurd (omega arith)
first_is {X} test (x ∷ xs) low = by_case (test x) refl low (λ less. first_is test xs less)
  where
    place : Bool → ℕ
    place b = cond (not b) (1 + position_or_len test xs) 0

    by_case : (b : Bool) → test x ≡ b → place b < suc (length xs)
        → (position_or_len test xs < length xs → (y : X) × (slice_get xs (position_or_len test xs) ≡ Some y) × (test y ≡ true)) → (y : X) × (slice_get (x ∷ xs) (place b) ≡ Some y) × (test y ≡ true)
    by_case true e low again = (x, refl, e)
    by_case false e low again =
        let rest = again (omega arith) in
        (rest.0, ap (slice_get (x ∷ xs)) (one_more (position_or_len test xs)) ∙ rest.1, rest.2)

pub position_is : {X : Type 0} (test : X → Bool) (xs : List X) (n : ℕ) → position test xs ≡ Some n → (x : X) × (slice_get xs n ≡ Some x) × (test x ≡ true)
position_is {X} test xs n e = by_case (nat_lt (position_or_len test xs) (length xs)) refl e
  where
    by_case : (b : Bool) → nat_lt (position_or_len test xs) (length xs) ≡ b → cond b (Some (position_or_len test xs)) None ≡ Some n → (x : X) × (slice_get xs n ≡ Some x) × (test x ≡ true)
    by_case true f g =
        let found = first_is test xs (ltb-true (position_or_len test xs) (length xs) f) in
        (found.0, ap (slice_get xs) (sym (same_Some (position_or_len test xs) n g)) ∙ found.1, found.2)
    by_case false f g = cc

-- ## Machines

module _ {V : Type 0} (m : Machine V) where
  pub arg_more : (found more : List V) (arg : Arg) (v : V) → arg_in m found arg ≡ Some v → arg_in m (found ++ more) arg ≡ Some v
  arg_more found more (Const cell) v e = e
  arg_more found more (Var n) v e = slice_get-append_found found more n v e

  pub args_more : (found more : List V) (args : List Arg) (are : List V) → args_in m found args ≡ Some are → args_in m (found ++ more) args ≡ Some are
  args_more found more [] are e = e
  args_more found more (arg ∷ args) are e =
      let parts = both_found (arg_in m found arg) (args_in m found args) are e in
      both_from parts.0 parts.1 (arg_more found more arg parts.0 parts.2) (args_more found more args parts.1 parts.3) ∙ ap Some parts.4

  pub result_from : (found : List V) (instr : Instr) (are : List V) → args_in m found instr.args ≡ Some are → result m found instr ≡ m.apply instr.op instr.args are
  result_from found instr are e = ap (option_and_then (m.apply instr.op instr.args)) e

  pub result_more : (found more : List V) (instr : Instr) (v : V) → result m found instr ≡ Some v → result m (found ++ more) instr ≡ Some v
  result_more found more instr v e =
      let given = was_given (m.apply instr.op instr.args) (args_in m found instr.args) v e in
      result_from (found ++ more) instr given.0 (args_more found more instr.args given.0 given.1) ∙ given.2

  -- one more instruction
  pub ran_snoc : (found : List V) (instrs : List Instr) (instr : Instr)
      → ran m found (instrs ++ instr ∷ []) ≡ option_and_then (λ vs. option_map (λ v. vs ++ v ∷ []) (result m vs instr)) (ran m found instrs)
  ran_snoc found [] instr = again (result m found instr)
    where
      again : (o : Option V) → option_and_then (λ v. Some (found ++ v ∷ [])) o ≡ option_map (λ v. found ++ v ∷ []) o
      again None = refl
      again (Some v) = refl
  ran_snoc found (i ∷ is) instr = again (result m found i) (λ v. ran_snoc (found ++ v ∷ []) is instr)
    where
      again : (o : Option V) → ((v : V) → ran m (found ++ v ∷ []) (is ++ instr ∷ []) ≡ option_and_then (λ vs. option_map (λ v. vs ++ v ∷ []) (result m vs instr)) (ran m (found ++ v ∷ []) is))
          → option_and_then (λ v. ran m (found ++ v ∷ []) (is ++ instr ∷ [])) o ≡ option_and_then (λ vs. option_map (λ v. vs ++ v ∷ []) (result m vs instr)) (option_and_then (λ v. ran m (found ++ v ∷ []) is) o)
      again None h = refl
      again (Some v) h = h v

  pub ran_one_more : (instrs : List Instr) (instr : Instr) (vs : List V) (v : V) → ran m [] instrs ≡ Some vs → result m vs instr ≡ Some v → ran m [] (instrs ++ instr ∷ []) ≡ Some (vs ++ v ∷ [])
  ran_one_more instrs instr vs v e f =
      ran_snoc [] instrs instr ∙ ap (option_and_then (λ vs. option_map (λ v. vs ++ v ∷ []) (result m vs instr))) e ∙ ap (option_map (λ v. vs ++ v ∷ [])) f

  pub ran_no_more : (instrs : List Instr) (instr : Instr) (vs : List V) → ran m [] instrs ≡ Some vs → result m vs instr ≡ None → ran m [] (instrs ++ instr ∷ []) ≡ None
  ran_no_more instrs instr vs e f =
      ran_snoc [] instrs instr ∙ ap (option_and_then (λ vs. option_map (λ v. vs ++ v ∷ []) (result m vs instr))) e ∙ ap (option_map (λ v. vs ++ v ∷ [])) f

  pub ran_append : (found : List V) (instrs more : List Instr) → ran m found (instrs ++ more) ≡ option_and_then (λ vs. ran m vs more) (ran m found instrs)
  ran_append found [] more = refl
  ran_append found (i ∷ is) more = again (result m found i) (λ v. ran_append (found ++ v ∷ []) is more)
    where
      again : (o : Option V) → ((v : V) → ran m (found ++ v ∷ []) (is ++ more) ≡ option_and_then (λ vs. ran m vs more) (ran m (found ++ v ∷ []) is))
          → option_and_then (λ v. ran m (found ++ v ∷ []) (is ++ more)) o ≡ option_and_then (λ vs. ran m vs more) (option_and_then (λ v. ran m (found ++ v ∷ []) is) o)
      again None h = refl
      again (Some v) h = h v

  -- the run of a first and others
  pub first_ran : (found : List V) (i : Instr) (is : List Instr) (all : List V) → ran m found (i ∷ is) ≡ Some all
      → (v : V) × (result m found i ≡ Some v) × (ran m (found ++ v ∷ []) is ≡ Some all)
  first_ran found i is all e = was_given (λ v. ran m (found ++ v ∷ []) is) (result m found i) all e

  -- as many as there are instructions, after those found before
  pub ran_grows : (found : List V) (instrs : List Instr) (all : List V) → ran m found instrs ≡ Some all → (new : List V) × (all ≡ found ++ new) × (length new ≡ length instrs)
  ran_grows found [] all e = ([], same_Some all found (sym e) ∙ sym (append-nil found), refl)
  ran_grows found (i ∷ is) all e =
      let first = first_ran found i is all e in
      let rest = ran_grows (found ++ first.0 ∷ []) is all first.2 in
      (first.0 ∷ rest.0, rest.1 ∙ append_assoc found (first.0 ∷ []) rest.0, ap (λ n. suc n) rest.2)

  pub ran_long : (instrs : List Instr) (all : List V) → ran m [] instrs ≡ Some all → length all ≡ length instrs
  ran_long instrs all e = let r = ran_grows [] instrs all e in ap length r.1 ∙ r.2

  -- the result of one of the instructions
  pub ran_at : (found : List V) (instrs : List Instr) (all : List V) (k : ℕ) (instr : Instr) → ran m found instrs ≡ Some all → slice_get instrs k ≡ Some instr
      → (v : V) × (slice_get all (length found + k) ≡ Some v) × (result m all instr ≡ Some v)
  ran_at found [] all k instr e at = cc
  ran_at found (i ∷ is) all zero instr e at =
      let first = first_ran found i is all e in
      let rest = ran_grows (found ++ first.0 ∷ []) is all first.2 in
      let whole : all ≡ found ++ first.0 ∷ rest.0 = rest.1 ∙ append_assoc found (first.0 ∷ []) rest.0 in
      let same : i ≡ instr = same_Some i instr at in (
        first.0,
        ap (slice_get all) (with_none (length found)) ∙ ap (λ vs. slice_get vs (length found)) whole ∙ slice_get-append_middle found first.0 rest.0,
        ap (λ vs. result m vs instr) whole ∙ result_more found (first.0 ∷ rest.0) instr first.0 (ap (result m found) (sym same) ∙ first.1),
      )
  ran_at found (i ∷ is) all (suc k) instr e at =
      let first = first_ran found i is all e in
      let there = ran_at (found ++ first.0 ∷ []) is all k instr first.2 at in
      (there.0, ap (slice_get all) (sym (long_snoc found first.0 k)) ∙ there.1, there.2)
