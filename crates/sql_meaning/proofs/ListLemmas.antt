-- Lists that are looked at in two parts.
use Rattle.std.proofs.Common.{◌≡◌, List, [], ◌∷◌, ◌++◌, refl, ap, sym, ◌∙◌, append_assoc}
use Rattle.std.specs.Prelude.{flat_map}

-- what both lists make, one after the other
pub flat_in_both : {X Y : Type 0} (f : X → List Y) (xs ys : List X) → flat_map f (xs ++ ys) ≡ flat_map f xs ++ flat_map f ys
flat_in_both f [] ys = refl
flat_in_both f (x ∷ xs) ys = ap (λ l. f x ++ l) (flat_in_both f xs ys) ∙ sym (append_assoc (f x) (flat_map f xs) (flat_map f ys))
