-- Lists that are looked at in two parts.
use Rattle.std.proofs.Common.{◌≡◌, List, ◌++◌, Bool, ◌||◌}
use Rattle.std.specs.List.{list_any}
use Rattle.std.proofs.lemmas.List.Folds.{list_any-append}

-- an element of both passes the test where one of either does
pub any_in_both : {X : Type 0} (test : X → Bool) (xs ys : List X) → list_any test (xs ++ ys) ≡ (list_any test xs || list_any test ys)
any_in_both test xs ys = list_any-append test xs ys
