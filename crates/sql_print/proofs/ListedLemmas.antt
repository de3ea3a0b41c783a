-- A list is printed by its first thing, and then the others, each after a comma and a space.
use Rattle.std.proofs.Common.{◌≡◌, ℕ, ◌-◌, ◌≤◌, List, [], ◌∷◌, ◌++◌, codes, length, map, take, drop, get_or, ap, sym, ◌∙◌, arith, append_assoc}
use Rattle.std.specs.Prelude.{flat_map}
use Rattle.std.proofs.lemmas.List.{take_all}
use Rattle.std.proofs.lemmas.List.Folds.{flat_map-map}
use Rattle.sql_print.specs.Canon.{listed}

pub listed-first : {X : Type 0} (f : X → List ℕ) (start : List ℕ) (things : List X) (first : X) (n : ℕ)
    → 1 ≤ length things → first ≡ get_or things 0 first → length (take (length things - 1) (drop 1 things)) ≤ n
    → (start ++ f first) ++ flat_map (λ thing. codes ", " ++ f thing) (take n (take (length things - 1) (drop 1 things))) ≡ start ++ listed (map f things)
listed-first f start [] first n some is e = absurd (omega arith)
listed-first f start (x ∷ xs) first n some is e =
    let all : take (length (x ∷ xs) - 1) xs ≡ xs = take_all _ xs (omega arith) in
    let done : take n xs ≡ xs = take_all n xs (omega (arith, ap length all)) in
    rw (all, done, is) (append_assoc start (f x) _ ∙ ap (λ t. start ++ (f x ++ t)) (sym (flat_map-map (λ more. codes ", " ++ more) f xs)))
