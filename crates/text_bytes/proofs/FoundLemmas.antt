-- Values that are found.
use Rattle.std.proofs.Common.{◌≡◌, ℕ, ◌+◌, List, [], ◌∷◌, ◌++◌, drop, Bool, true, false, cond, Option, Some, None, Err, refl, ap, ◌∙◌, arith, append_assoc}
use Rattle.std.specs.Prelude.{IsErrOf}
use Rattle.text_bytes.specs.Found.{then_read, joined}

-- what a value is found by, and what follows it
pub then_found : {X Y : Type 0} (o : Option X) (f : X → Option Y) (y : Y) → then_read o f ≡ Some y → (x : X) × (o ≡ Some x) × (f x ≡ Some y)
then_found None f y h = cc
then_found (Some x) f y h = (x, refl, h)

pub value_found : {X : Type 0} (x y : X) → Some x ≡ Some y → x ≡ y
value_found x y h = cc

-- the parts of a pair that is found
first_or : {X Y : Type 0} → X → Option (X × Y) → X
first_or x None = x
first_or x (Some pair) = pair.0

second_or : {X Y : Type 0} → Y → Option (X × Y) → Y
second_or y None = y
second_or y (Some pair) = pair.1

pub pair_found : {X Y : Type 0} (x a : X) (y b : Y) → ◌≡◌ {A = Option (X × Y)} (Some (x, y)) (Some (a, b)) → (x ≡ a) × (y ≡ b)
unfolding first_or second_or
pair_found x a y b h = (ap (first_or x) h, ap (second_or y) h)

-- where a test has to hold before a value, it holds and the value was found
pub guard_found : {X : Type 0} (b : Bool) (o : Option X) (y : X) → cond b o None ≡ Some y → (b ≡ true) × (o ≡ Some y)
guard_found true o y h = (refl, h)
guard_found false o y h = cc

-- what a test that holds, or doesn't, chooses
pub at_first : {X : Type 0} (t : Bool) (x y : X) → t ≡ true → cond t x y ≡ x
at_first t x y h = ap (λ t. cond t x y) h

pub at_second : {X : Type 0} (t : Bool) (x y : X) → t ≡ false → cond t x y ≡ y
at_second t x y h = ap (λ t. cond t x y) h

-- one error is another's, whatever the values are
pub same_err : {T U E : Type 0} (e f : E) → IsErrOf {T = T} {E = E} (Err e) f → IsErrOf {T = U} {E = E} (Err e) f
same_err e f h = let same : e ≡ f = cc in ap Err same

-- ## Bytes after others

pub joined_found : (kept : List ℕ) (o : Option (List ℕ × ℕ)) (p : List ℕ × ℕ) → joined kept o ≡ Some p → (q : List ℕ × ℕ) × (o ≡ Some q) × ((kept ++ q.0, q.1 + 1) ≡ p)
joined_found kept None p h = cc
joined_found kept (Some q) p h = (q, refl, value_found (kept ++ q.0, q.1 + 1) p h)

-- what is found after the bytes so far
abbrev pub resumed : List ℕ → ℕ → Option (List ℕ × ℕ) → Option (List ℕ × ℕ)
resumed bytes n None = None
resumed bytes n (Some found) = Some (bytes ++ found.0, n + found.1)

pub resumed_start : (o : Option (List ℕ × ℕ)) → resumed [] 0 o ≡ o
resumed_start None = refl
resumed_start (Some found) = let same : 0 + found.1 ≡ found.1 = omega arith in ap (λ n. Some (found.0, n)) same

pub resumed_step : (bytes kept new : List ℕ) (n : ℕ) (o : Option (List ℕ × ℕ)) → new ≡ bytes ++ kept → resumed new (n + 1) o ≡ resumed bytes n (joined kept o)
resumed_step bytes kept new n None added = refl
resumed_step bytes kept new n (Some found) added =
    let sum : (n + 1) + found.1 ≡ n + (found.1 + 1) = omega arith in
    ap (λ k. Some (new ++ found.0, k)) sum ∙ ap (λ bs. Some (bs ++ found.0, n + (found.1 + 1))) added ∙ ap (λ bs. Some (bs, n + (found.1 + 1))) (append_assoc bytes kept found.0)

-- ## Parts of a text

-- what is written, before the rest, is read at its front as this, and the rest is left
pub record ReadAt {T : Type 0} (reader : ℕ → List ℕ → Option (T × ℕ)) (written : List ℕ) (found : T) (rest : List ℕ) : Type 0 where
  pub first : ℕ
  pub after : List ℕ
  pub size : ℕ
  pub written_is : written ≡ first ∷ after
  pub told : reader first after ≡ Some (found, size)
  pub rest_is : drop size after ≡ rest
