-- What was ever given out: a pooled value is its worth, and a worth stays for good.
use Rattle.std.proofs.Common.{◌≡◌, ℕ, ◌+◌, List, [], ◌∷◌, ◌++◌, true, ◌⊎◌, inl, inr, ap, sym, ◌∙◌, subst}
use Rattle.std.specs.Prelude.{IsSome}
use Rattle.cell_core.specs.Operators.{operate}
use Rattle.lineage_key.specs.Parents.{parents_of}
use Rattle.subsume.proofs.Members.{In, in_from_contains, contains_from_in}
use Rattle.pool_policy.specs.Pool.{PoolState}
use Rattle.pool_policy.specs.Keyed.{is_pooled}
use Rattle.pool_policy.specs.Admits.{Offer}
use Rattle.pool_policy.specs.Keeps.{Face, faces, Rises, value_in, IsParentIn, IsRooted, IsOffer}
use Rattle.pool_policy.specs.Worths.{worth, IsGiven, ArePooledWorths, WorthsStay, IsWorth}
use Rattle.pool_policy.proofs.Lists.{all_on, all_snoc, all_at}
use Rattle.pool_policy.proofs.Faces.{value_of_in, value_found, rises_snoc, value_snoc, args_on, rooted_on}
use Rattle.pool_policy.proofs.NewEntry.{pooled_value}
use Rattle.pool_policy.proofs.Ends.{in_first, in_last}

-- each pooled value is its worth
pub pooled_worths : (given : List Face) (pool : PoolState) → IsGiven given pool → ArePooledWorths given pool
pooled_worths given pool known f i = value_of_in 1 pool.next given f known.rising (in_from_contains given f (known.pooled f i))

-- what is pooled has its worth
pub same_worth : (given : List Face) (pool : PoolState) → IsGiven given pool → (id : ℕ) → IsSome (value_in (faces pool.entries) id) → worth given id ≡ value_in (faces pool.entries) id
same_worth given pool known id some =
    let found = value_found (faces pool.entries) id some in
    ap (worth given) (sym found.2) ∙ pooled_worths given pool known found.0 (contains_from_in (faces pool.entries) found.0 found.1) ∙ sym found.3

pub offer_from_worth : (given : List Face) (pool : PoolState) (offer : Offer) → IsGiven given pool → IsWorth given offer → IsOffer pool offer
offer_from_worth given pool offer known value = record {
  work = value.work;
  few = value.few;
  sole = value.sole;
  computed = λ plain pooled. ap (operate offer.key.op) (sym (args_on (faces pool.entries) given offer.key.args (λ id i. same_worth given pool known id (pooled_value pool.entries id (all_at (λ id. is_pooled pool.entries id ≡ true) (parents_of offer.key) id pooled i))))) ∙ value.computed plain;
}

-- worths stay where one more is given out
pub one_stays : (given : List Face) (f : Face) → WorthsStay given (given ++ f ∷ [])
one_stays given f id some = value_snoc given f id some

-- one more is given out, which is rooted in what is pooled
pub given_more : (given : List Face) (pool new : PoolState) (f : Face) → f.id ≡ pool.next → new.next ≡ pool.next + 1 → IsRooted (faces pool.entries) f
    → ((g : Face) → In g (faces new.entries) → In g (faces pool.entries) ⊎ (g ≡ f)) → IsGiven given pool → IsGiven (given ++ f ∷ []) new
given_more given pool new f is next rooted inside known = record {
  rising = subst (λ n. Rises 1 n (given ++ f ∷ [])) (sym next) (rises_snoc 1 pool.next given f is known.rising);
  rooted = all_snoc (IsRooted (given ++ f ∷ [])) given f (all_on (IsRooted given) (IsRooted (given ++ f ∷ [])) given (λ g _ h. grown g h) known.rooted)
      (grown f (rooted_on (faces pool.entries) given f (λ id i. same_worth given pool known id (all_at (IsParentIn (faces pool.entries) f.id) (parents_of f.key) id rooted.parents i).2) rooted));
  pooled = λ g c. elim (inside g (in_from_contains (faces new.entries) g c)) [
    | inl i ↦ contains_from_in (given ++ f ∷ []) g (in_first given (f ∷ []) g (in_from_contains given g (known.pooled g (contains_from_in (faces pool.entries) g i))))
    | inr e ↦ contains_from_in (given ++ f ∷ []) g (subst (λ h. In h (given ++ f ∷ [])) (sym e) (in_last given f))
  ];
}
  where
    grown : (g : Face) → IsRooted given g → IsRooted (given ++ f ∷ []) g
    grown g h = rooted_on given (given ++ f ∷ []) g (λ id i. value_snoc given f id (all_at (IsParentIn given g.id) (parents_of g.key) id h.parents i).2) h
