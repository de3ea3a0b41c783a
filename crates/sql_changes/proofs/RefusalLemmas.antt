-- The first of refusals in their order, and what it decides.
use Rattle.std.proofs.Common.{◌≡◌, List, [], ◌∷◌, Bool, true, false, refl, ap, Option, Some, None}
use Rattle.std.specs.Prelude.{slice_get, Result, Ok, Err}
use Rattle.sql_definitions.specs.declared.refusal.Refusal.{Refusal}
use Rattle.sql_definitions.specs.Effect.{unless_refused}
use Rattle.sql_changes.specs.Faults.{in_turn, first_of}

pub first_is : (a b c : Bool) (r s t : Refusal) → first_of a r b s c t ≡ slice_get (in_turn a r b s c t) 0
first_is true b c r s t = refl
first_is false true c r s t = refl
first_is false false true r s t = refl
first_is false false false r s t = refl

-- where there is none, the third cause isn't there
pub third_not : (a b c : Bool) (r s t : Refusal) → None ≡ first_of a r b s c t → c ≡ false
third_not true b c r s t e = cc
third_not false true c r s t e = cc
third_not false false true r s t e = cc
third_not false false false r s t e = refl

pub refused_as : {X : Type 0} (refusals : List Refusal) (outcome : X) (found : Refusal) → Some found ≡ slice_get refusals 0 → unless_refused refusals outcome ≡ Err found
refused_as [] outcome found e = cc
refused_as (refusal ∷ more) outcome found e = let same : refusal ≡ found = cc in ap (λ (r : Refusal). Err r) same

pub accepted_as : {X : Type 0} (refusals : List Refusal) (outcome : X) → None ≡ slice_get refusals 0 → unless_refused refusals outcome ≡ Ok outcome
accepted_as [] outcome e = refl
accepted_as (refusal ∷ more) outcome e = cc
