-- The place of the file with a name.
use Rattle.std.proofs.Common.{◌≡◌, ℕ, zero, suc, ◌+◌, ◌<◌, Bool, true, false, cond, not, List, [], ◌∷◌, length, map, None, Some, refl, sym, ap, ◌∙◌, arith}
use Rattle.std.specs.Prelude.{Option, option_map, find, slice_get, position, nat_lt, bytes_eq, Vec}
use Rattle.std.specs.List.{position_or_len}
use Rattle.std.proofs.lemmas.List.{length-map}
use Rattle.std.proofs.lemmas.List.Folds.{find_at}
use Rattle.std.proofs.lemmas.List.Quantifiers.{position-Some}
use Rattle.std.proofs.lemmas.List.Sums.{position_or_len_is}
use Rattle.std.proofs.lemmas.Option.{slice_get_past}
use borrow.Author.Tests.{ltb-false}
use Rattle.causes.specs.InMemory.{bytes_at, bytes_of_name, files_of, place_in}

-- a map moves no element
position_or_len-map : {X Y : Type 0} (q : Y → Bool) (g : X → Y) (xs : List X) → position_or_len q (map g xs) ≡ position_or_len (λ x. q (g x)) xs
position_or_len-map q g [] = refl
position_or_len-map q g (x ∷ xs) = ap (λ n. cond (not (q (g x))) (1 + n) 0) (position_or_len-map q g xs)

position-map : {X Y : Type 0} (q : Y → Bool) (g : X → Y) (xs : List X) → position q (map g xs) ≡ position (λ x. q (g x)) xs
position-map q g xs =
    rw (position_or_len-map q g xs, length-map xs g) refl

bytes-some : (files : List (List ℕ × List ℕ)) (i : ℕ) → i < length files → option_map (λ file. file.1) (slice_get files i) ≡ Some (bytes_at files i)
bytes-some [] i h = absurd (omega (arith, h))
bytes-some (x ∷ xs) zero h = refl
bytes-some (x ∷ xs) (suc i) h = bytes-some xs i (omega (arith, h))

-- the first that passes is at its position
find-at : (q : List ℕ × List ℕ → Bool) (files : List (List ℕ × List ℕ)) (i : ℕ) → position q files ≡ Some i → option_map (λ file. file.1) (find q files) ≡ Some (bytes_at files i)
find-at q files i e =
    let here = position-Some q files i ([], []) e in
    let at : position_or_len q files ≡ i = position_or_len_is q files i ([], []) (omega (arith, here.0)) here.2 (λ _. here.1) in
    ap (λ o. option_map (λ file. file.1) o) (find_at q files ∙ ap (slice_get files) at) ∙ bytes-some files i here.0

-- where none has a position, none passes
find-none : {X : Type 0} (q : X → Bool) (xs : List X) → position q xs ≡ None → find q xs ≡ None
find-none {X} q xs e = find_at q xs ∙ by (nat_lt (position_or_len q xs) (length xs)) refl e
  where
    by : (b : Bool) → nat_lt (position_or_len q xs) (length xs) ≡ b → cond b (Some (position_or_len q xs)) None ≡ None → slice_get xs (position_or_len q xs) ≡ None
    by true is e = cc
    by false is e = slice_get_past xs (position_or_len q xs) (ltb-false _ _ is)

pub bytes_of_name-found : {A : Type 0} (files : List (List ℕ × Vec ℕ A)) (name : List ℕ) (i : ℕ) → Some i ≡ position (λ file. bytes_eq file.0 name) files
    → bytes_of_name (files_of files) name ≡ Some (bytes_at (files_of files) i)
bytes_of_name-found files name i e =
    find-at (λ file. bytes_eq file.0 name) (files_of files) i (position-map (λ file. bytes_eq file.0 name) (λ file. (file.0, file.1.items)) files ∙ sym e)

pub bytes_of_name-absent : {A : Type 0} (files : List (List ℕ × Vec ℕ A)) (name : List ℕ) → None ≡ position (λ file. bytes_eq file.0 name) files
    → bytes_of_name (files_of files) name ≡ None
bytes_of_name-absent files name e =
    ap (λ o. option_map (λ file. file.1) o) (find-none (λ file. bytes_eq file.0 name) (files_of files) (position-map (λ file. bytes_eq file.0 name) (λ file. (file.0, file.1.items)) files ∙ sym e))

-- the same, where the bytes that are searched and the files that are shown are known by equations
pub started-bytes : {A : Type 0} (all files : List (List ℕ × Vec ℕ A)) (shown : List (List ℕ × List ℕ)) (name : List ℕ) (i : ℕ)
    → Some i ≡ position (λ file. bytes_eq file.0 name) all → all ≡ files → files_of files ≡ shown → bytes_of_name shown name ≡ Some (bytes_at (files_of files) i)
started-bytes all files shown name i e same seen =
    ap (λ fs. bytes_of_name fs name) (sym seen) ∙ bytes_of_name-found files name i (e ∙ ap (λ fs. position (λ file. bytes_eq file.0 name) fs) same)

pub absent-bytes : {A : Type 0} (all files : List (List ℕ × Vec ℕ A)) (shown : List (List ℕ × List ℕ)) (name : List ℕ)
    → None ≡ position (λ file. bytes_eq file.0 name) all → all ≡ files → files_of files ≡ shown → bytes_of_name shown name ≡ None
absent-bytes all files shown name e same seen =
    ap (λ fs. bytes_of_name fs name) (sym seen) ∙ bytes_of_name-absent files name (e ∙ ap (λ fs. position (λ file. bytes_eq file.0 name) fs) same)

-- the place of a name among the files that are searched is its place among those that are shown
pub place-shown : {A : Type 0} (all files : List (List ℕ × Vec ℕ A)) (shown : List (List ℕ × List ℕ)) (name : List ℕ) (place : Option ℕ)
    → place ≡ position (λ file. bytes_eq file.0 name) all → all ≡ files → files_of files ≡ shown → place ≡ place_in shown name
place-shown all files shown name place e same seen =
    e ∙ ap (λ fs. position (λ file. bytes_eq file.0 name) fs) same
    ∙ sym (position-map (λ file. bytes_eq file.0 name) (λ file. (file.0, file.1.items)) files)
    ∙ ap (λ fs. place_in fs name) seen
