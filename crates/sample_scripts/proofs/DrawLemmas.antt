-- Draws after draws, and lists that get one more thing.
use Rattle.std.proofs.Common.{◌≡◌, ℕ, zero, suc, ◌==◌, ◌+◌, ◌*◌, ◌%◌, ◌≤◌, List, [], ◌∷◌, ◌++◌, false, codes, length, map, if◌then◌else◌, refl, ap, ap₂, sym, ◌∙◌, arith, append_assoc, append-nil}
use Rattle.std.specs.Prelude.{flat_map}
use Rattle.std.specs.List.{range_with_len}
use Rattle.std.proofs.Math.Nat.{mul-suc}
use Rattle.std.proofs.lemmas.Bool.{ne_eqb}
use Rattle.std.proofs.lemmas.List.FromFn.{length-map-range_with_len, map-range_with_len_more}
use Rattle.sql_print.specs.Canon.{listed}
use Rattle.sample_scripts.specs.Scripts.{changes, draw, inserts, insert_text, next_draw, queries, queries_after, query_text, range_text}

-- ## Draws

pub draw-none : (x : ℕ) → draw x 0 ≡ x
unfolding draw
draw-none x = refl

draw-suc : (x i : ℕ) → draw x (suc i) ≡ next_draw (draw x i)
unfolding draw
draw-suc x i = refl

pub draw-next : (x i : ℕ) → next_draw (draw x i) ≡ draw x (i + 1)
draw-next x i = let one : i + 1 ≡ suc i = omega arith in sym (ap (draw x) one ∙ draw-suc x i)

-- the draws after a draw
pub draw-behind : (x a b : ℕ) → draw (draw x a) b ≡ draw x (a + b)
draw-behind x a zero = draw-none (draw x a) ∙ ap (draw x) (let none : a ≡ a + 0 = omega arith in none)
draw-behind x a (suc b) =
    let one : suc b ≡ b + 1 = omega arith in
    let all : (a + b) + 1 ≡ a + suc b = omega arith in
    ap (draw (draw x a)) one ∙ sym (draw-next (draw x a) b) ∙ ap next_draw (draw-behind x a b) ∙ draw-next x (a + b) ∙ ap (draw x) all

-- the draws of one more
pub one-more : (n k : ℕ) → n * k + n ≡ n * (k + 1)
one-more n k = let one : k + 1 ≡ suc k = omega arith in sym (ap (λ m. n * m) one ∙ mul-suc n k)

-- ## Lists

flat_map-more : {X : Type 0} (f : X → List ℕ) (xs : List X) (x : X) → flat_map f (xs ++ x ∷ []) ≡ flat_map f xs ++ f x
flat_map-more f [] x = append-nil (f x)
flat_map-more f (y ∷ ys) x = ap (λ t. f y ++ t) (flat_map-more f ys x) ∙ sym (append_assoc (f y) (flat_map f ys) (f x))

-- a list that has things gets one more after a comma and a space
listed-more : (first : List ℕ) (texts : List (List ℕ)) (text : List ℕ) → listed (first ∷ texts ++ text ∷ []) ≡ listed (first ∷ texts) ++ (codes ", " ++ text)
listed-more first texts text =
    ap (λ t. first ++ t) (flat_map-more (λ more. codes ", " ++ more) texts text)
    ∙ sym (append_assoc first (flat_map (λ more. codes ", " ++ more) texts) (codes ", " ++ text))

many-next : (f : ℕ → List ℕ) (i : ℕ) → listed (map f (range_with_len 1 (suc i))) ++ (codes ", " ++ f (suc i + 1)) ≡ listed (map f (range_with_len 1 (suc i + 1)))
many-next f i =
    let place : 1 + suc i ≡ suc i + 1 = omega arith in
    sym (ap listed (map-range_with_len_more f 1 (suc i) (suc i + 1) place) ∙ listed-more (f 1) (map f (range_with_len (1 + 1) i)) (f (suc i + 1)))

-- one more thing, after a comma and a space where there are others before it
pub listed-next : (f : ℕ → List ℕ) (i : ℕ) → listed (map f (range_with_len 1 i)) ++ ((if i == 0 then [] else codes ", ") ++ f (i + 1)) ≡ listed (map f (range_with_len 1 (i + 1)))
listed-next f zero = sym (append-nil (f 1))
listed-next f (suc i) =
    let some : (suc i == 0) ≡ false = ne_eqb (suc i) 0 (omega arith) in
    ap (λ b. listed (map f (range_with_len 1 (suc i))) ++ ((if b then [] else codes ", ") ++ f (suc i + 1))) some ∙ many-next f i

-- one INSERT more, and one query
pub inserts-next : (k rows x : ℕ) → inserts k rows x ++ insert_text rows (draw x (rows * k)) ∷ [] ≡ inserts (k + 1) rows x
unfolding inserts
inserts-next k rows x = sym (map-range_with_len_more (λ k. insert_text rows (draw x (rows * k))) 0 k k (omega arith))

pub queries-next : (k x : ℕ) → queries_after k x ++ query_text (draw x (2 * k)) ∷ [] ≡ queries_after (k + 1) x
unfolding queries_after
queries-next k x = sym (map-range_with_len_more (λ k. query_text (draw x (2 * k))) 0 k k (omega arith))

pub inserts-none : (rows x : ℕ) → inserts 0 rows x ≡ []
unfolding inserts
inserts-none rows x = refl

pub queries-none : (x : ℕ) → queries_after 0 x ≡ []
unfolding queries_after
queries-none x = refl

-- two draws make a query
pub query-of : (x low width : ℕ) → low ≡ next_draw x → width ≡ next_draw low → range_text (low % 9000) (width % 1000) ≡ query_text x
unfolding draw query_text
query-of x low width first second = ap₂ (λ l w. range_text (l % 9000) (w % 1000)) first (second ∙ ap next_draw first)

pub draw-two : (x low width : ℕ) → low ≡ next_draw x → width ≡ next_draw low → width ≡ draw x 2
unfolding draw
draw-two x low width first second = second ∙ ap next_draw first

-- ## How many statements there are

pub changes_few : (seed : ℕ) → length (changes seed) ≤ 256
unfolding changes inserts
changes_few seed = let long = length-map-range_with_len (λ k. insert_text 500 (draw seed (500 * k))) 0 20 in omega (arith, long)

pub queries_few : (seed : ℕ) → length (queries seed) ≤ 256
unfolding queries queries_after
queries_few seed = let long = length-map-range_with_len (λ k. query_text (draw (draw seed (500 * 20)) (2 * k))) 0 100 in omega (arith, long)
