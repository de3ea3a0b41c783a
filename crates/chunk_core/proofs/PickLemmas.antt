-- The cells at places.
use Rattle.std.proofs.Common.{take, drop, append_assoc, ◌≡◌, ℕ, suc, zero, ◌+◌, ◌<◌, List, [], ◌∷◌, ◌++◌, length, get_or, map, refl, sym, ap, ◌∙◌, arith}
use Rattle.std.specs.Prelude.{slice_index_or}
use Rattle.std.proofs.lemmas.List.{map-append, map_more}
use Rattle.std.proofs.Math.Seq.{take-add}
use Rattle.cell_core.specs.declared.cell.Cell.{Cell}
use Rattle.cell_core.specs.declared.cell.Cell.TheVariants.{Nil, Oid}
use Rattle.chunk_core.specs.Filled.{oids_from}
use Rattle.chunk_core.specs.Picked.{picked, AreWithin}
use Rattle.chunk_core.proofs.PartLemmas.{length_oids, get_oids}

rising : (first n : ℕ) (places : List ℕ) → AreWithin places n → map (λ i. Oid (first + i)) places ≡ picked Nil (oids_from first n) places
rising first n [] within = refl
rising first n (i ∷ is) within =
    let here : i < n = within 0 (omega arith) in
    ap (λ x. x ∷ map (λ j. Oid (first + j)) is) (sym (get_oids first n i Nil here))
    ∙ ap (λ l. get_or (oids_from first n) i Nil ∷ l) (rising first n is (λ k small. within (suc k) (omega arith)))

pub rising_picks : (first n : ℕ) (places : List ℕ) (cells : List Cell) → cells ≡ oids_from first n → AreWithin places (length cells) → map (λ i. Oid (first + i)) places ≡ picked Nil cells places
rising_picks first n places cells is within =
    let few : length cells ≡ n = ap length is ∙ length_oids first n in
    let inside : AreWithin places n = λ k small. omega (arith, within k small, few) in
    rising first n places inside ∙ ap (λ l. picked Nil l places) (sym is)

-- those at more places
pub more_picked : {X : Type 0} (d : X) (from before : List X) (places : List ℕ) (i k : ℕ) → (before ++ picked d from (take i places)) ++ picked d from (take k (drop i places)) ≡ before ++ picked d from (take (i + k) places)
more_picked d from before places i k =
    append_assoc before (picked d from (take i places)) (picked d from (take k (drop i places)))
    ∙ ap (λ l. before ++ l) (sym (map-append (λ j. slice_index_or from j d) (take i places) (take k (drop i places))) ∙ ap (picked d from) (sym (take-add i k places)))

-- that at one place more
pub map_picked : {X Y : Type 0} (f : X → Y) (g : ℕ → Y) (old : List Y) (new before : List X) (x : X) (places : List ℕ) (i : ℕ) → i < length places → map f new ≡ map f before ++ f x ∷ []
    → map f before ≡ old ++ map g (take i places) → f x ≡ g (get_or places i 0) → map f new ≡ old ++ map g (take (i + 1) places)
map_picked f g old new before x places i within pushed so_far is =
    pushed
    ∙ ap (λ l. l ++ f x ∷ []) so_far
    ∙ append_assoc old (map g (take i places)) (f x ∷ [])
    ∙ ap (λ y. old ++ (map g (take i places) ++ y ∷ [])) is
    ∙ ap (λ l. old ++ l) (sym (map_more g places i 0 within))

-- a read within takes any default
pub get_default : {X : Type 0} (xs : List X) (i : ℕ) (d e : X) → i < length xs → get_or xs i d ≡ get_or xs i e
get_default [] i d e within = absurd (omega arith)
get_default (x ∷ xs) zero d e within = refl
get_default (x ∷ xs) (suc i) d e within = get_default xs i d e (omega arith)
