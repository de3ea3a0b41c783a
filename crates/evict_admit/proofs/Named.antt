-- Names in the order of their ids.
use Rattle.std.proofs.Common.{◌≡◌, ◌≢◌, ℕ, ◌<◌, ◌≤◌, List, Option, Some, None, length, ap, subst, true, false, refl, arith, nat_lt, ltb-true, ltb-false, slice_index_or, Ordering}
use Rattle.std.specs.Prelude.{All, IfNone}
use Rattle.std.specs.List.Sorted.{IsNonDecreasingBy, IsPartitionPoint}
use Rattle.std.specs.Ordering.{nat_cmp, ordering_index, MatchOrdering}
use Rattle.std.specs.declared.cmp.Ordering.TheVariants.{Less, Equal, Greater}
use Rattle.std.specs.Cmp.{ranks}
use Rattle.std.proofs.lemmas.List.{get_or_default}
use Rattle.std.proofs.lemmas.Bool.Decides.{nat_tests}
use Rattle.evict_admit.specs.declared.names.Name.{Name}

answer : (a b : ℕ) (r : Ordering) → nat_cmp a b ≡ r → MatchOrdering r (a < b) (a ≡ b) (b < a)
answer a b r e = subst (λ o. MatchOrdering o (a < b) (a ≡ b) (b < a)) e (ranks a b)

higher : (a b x : ℕ) → a ≤ b → ordering_index (nat_cmp a x) ≤ ordering_index (nat_cmp b x)
higher a b x le = grind (arith, nat_tests)

pub found : (names : List Name) (i id : ℕ) (d e : Name) → i < length names → ((d : Name) → nat_cmp (slice_index_or names i d).id id ≡ Equal) → slice_index_or names i e ≡ record { id = id; place = (slice_index_or names i d).place }
found names i id d e low same =
    let here : (slice_index_or names i e).id ≡ id = answer _ id Equal (same e) in
    let place : (slice_index_or names i e).place ≡ (slice_index_or names i d).place = ap (λ (n : Name). n.place) (get_or_default names i e d low) in
    λ j. record { id = here j; place = place j }

pub not_found : (names : List Name) (i id : ℕ) → IsNonDecreasingBy (λ (name : Name). name.id) names
    → (IsNonDecreasingBy (λ (name : Name). ordering_index (nat_cmp name.id id)) names → IsPartitionPoint (λ (name : Name). nat_cmp name.id id ≡ Less) (λ (name : Name). nat_cmp name.id id ≡ Greater) names i)
    → All (λ (name : Name). name.id ≢ id) names
not_found names i id rises point k d low same =
    let parted = point (λ a b d le lt. higher (slice_index_or names a d).id (slice_index_or names b d).id id (rises a b d le lt)) in
    elim (nat_lt k i) as (λ r. nat_lt k i ≡ r → ⊥) [
      | true ↦ λ e. let h = answer (slice_index_or names k d).id id Less (parted.0 k d (omega arith) (ltb-true k i e)) in omega (arith, h)
      | false ↦ λ e. let h = answer (slice_index_or names k d).id id Greater (parted.1 k d (ltb-false k i e) low) in omega (arith, h)
    ] refl

-- where an id is not named, no row has it
pub unnamed : (o : Option ℕ) (P Q : Type 0) → (P → Q) → IfNone o P → IfNone o Q
unnamed None P Q f h = f h
unnamed (Some x) P Q f h = tt
