-- The cells at the places at which a test holds.
use Rattle.std.proofs.Common.{◌≡◌, ℕ, suc, zero, ◌+◌, ◌<◌, ◌≤◌, Bool, true, false, List, [], ◌∷◌, ◌++◌, length, get_or, refl, sym, ap, ◌∙◌, arith}
use Rattle.std.specs.Prelude.{filter, slice_index, if◌then◌else◌}
use Rattle.std.specs.List.{zip}
use Rattle.std.proofs.lemmas.List.{take_more, length-take-le, map-append, take-take, take-append-le}
use Rattle.std.proofs.lemmas.List.Elements.{filter-append}
use Rattle.std.proofs.Common.{take}
use Rattle.cell_core.specs.Relations.{selected, is_within}
use Rattle.cell_core.specs.declared.cell.Cell.{Cell}
use Rattle.cell_core.specs.declared.cell.Cell.TheVariants.{Nil}
use Rattle.cell_core.specs.Pairs.{Pairs, heads_of, tails_of}
use Rattle.chunk_core.specs.Picked.{picked, AreWithin}
use Rattle.bat_algebra.specs.Places.{places_where}

kept_push : (b : Bool) (n : ℕ) (all front back : List ℕ) → all ≡ front ++ back → (if b then n ∷ all else all) ≡ (if b then n ∷ front else front) ++ back
kept_push true n all front back same = ap (λ l. n ∷ l) same
kept_push false n all front back same = same

-- one more element
pub places_push : {X : Type 0} (p : X → Bool) (n : ℕ) (xs : List X) (x : X) → places_where p n (xs ++ x ∷ []) ≡ places_where p n xs ++ (if p x then (n + length xs) ∷ [] else [])
places_push p n [] x = let here : n ≡ n + 0 = omega arith in ap (λ k. if p x then k ∷ [] else []) here
places_push p n (y ∷ ys) x =
    let there : suc n + length ys ≡ n + length (y ∷ ys) = omega arith in
    let rest : places_where p (suc n) (ys ++ x ∷ []) ≡ places_where p (suc n) ys ++ (if p x then (n + length (y ∷ ys)) ∷ [] else []) =
    places_push p (suc n) ys x ∙ ap (λ k. places_where p (suc n) ys ++ (if p x then k ∷ [] else [])) there in
    kept_push (p y) n (places_where p (suc n) (ys ++ x ∷ [])) (places_where p (suc n) ys) (if p x then (n + length (y ∷ ys)) ∷ [] else []) rest

-- one more first element, and places that are one further
shift_one : {X : Type 0} (b : Bool) (d h : X) (hs : List X) (n : ℕ) (far near : List ℕ) → picked d (h ∷ hs) far ≡ picked d hs near → picked d (h ∷ hs) (if b then suc n ∷ far else far) ≡ picked d hs (if b then n ∷ near else near)
shift_one true d h hs n far near same = ap (λ l. get_or hs n d ∷ l) same
shift_one false d h hs n far near same = same

shift : {X Y : Type 0} (p : Y → Bool) (d h : X) (hs : List X) (n : ℕ) (ts : List Y) → picked d (h ∷ hs) (places_where p (suc n) ts) ≡ picked d hs (places_where p n ts)
shift p d h hs n [] = refl
shift p d h hs n (t ∷ ts) = shift_one (p t) d h hs n (places_where p (suc (suc n)) ts) (places_where p (suc n) ts) (shift p d h hs (suc n) ts)

-- the places within
within_cons : (n m : ℕ) (places : List ℕ) → n < m → AreWithin places m → AreWithin (n ∷ places) m
within_cons n m places here rest zero small = here
within_cons n m places here rest (suc k) small = rest k (omega arith)

later : (b : Bool) (n m : ℕ) (places : List ℕ) → n < m → AreWithin places m → AreWithin (if b then n ∷ places else places) m
later true n m places here rest = within_cons n m places here rest
later false n m places here rest = rest

pub places_within : {X : Type 0} (p : X → Bool) (n : ℕ) (xs : List X) → AreWithin (places_where p n xs) (n + length xs)
places_within p n [] = λ k small. absurd (omega arith)
places_within p n (x ∷ xs) =
    let far : suc n + length xs ≡ n + length (x ∷ xs) = omega arith in
    later (p x) n (n + length (x ∷ xs)) (places_where p (suc n) xs) (omega arith) (λ k small. omega (arith, places_within p (suc n) xs k small))

-- the heads and the tails at the places where the tail passes are those of the pairs whose tail passes
head_step : (b : Bool) (h t : Cell) (hs : List Cell) (far : List ℕ) (rest : Pairs) → picked Nil (h ∷ hs) far ≡ heads_of rest → picked Nil (h ∷ hs) (if b then 0 ∷ far else far) ≡ heads_of (if b then (h, t) ∷ rest else rest)
head_step true h t hs far rest same = ap (λ l. h ∷ l) same
head_step false h t hs far rest same = same

tail_step : (b : Bool) (h t : Cell) (ts : List Cell) (far : List ℕ) (rest : Pairs) → picked Nil (t ∷ ts) far ≡ tails_of rest → picked Nil (t ∷ ts) (if b then 0 ∷ far else far) ≡ tails_of (if b then (h, t) ∷ rest else rest)
tail_step true h t ts far rest same = ap (λ l. t ∷ l) same
tail_step false h t ts far rest same = same

pub picked_heads : (p : Cell → Bool) (hs ts : List Cell) → length ts ≡ length hs → picked Nil hs (places_where p 0 ts) ≡ heads_of (filter (λ q. p q.1) (zip hs ts))
picked_heads p [] [] same = refl
picked_heads p [] (t ∷ ts) same = absurd (omega arith)
picked_heads p (h ∷ hs) [] same = refl
picked_heads p (h ∷ hs) (t ∷ ts) same =
    head_step (p t) h t hs (places_where p 1 ts) (filter (λ q. p q.1) (zip hs ts)) (shift p Nil h hs 0 ts ∙ picked_heads p hs ts (omega arith))

pub picked_tails : (p : Cell → Bool) (hs ts : List Cell) → length ts ≡ length hs → picked Nil ts (places_where p 0 ts) ≡ tails_of (filter (λ q. p q.1) (zip hs ts))
picked_tails p [] [] same = refl
picked_tails p [] (t ∷ ts) same = absurd (omega arith)
picked_tails p (h ∷ hs) [] same = refl
picked_tails p (h ∷ hs) (t ∷ ts) same =
    tail_step (p t) h t ts (places_where p 1 ts) (filter (λ q. p q.1) (zip hs ts)) (shift p Nil t ts 0 ts ∙ picked_tails p hs ts (omega arith))

-- a place is written after others
pub place_step : {X : Type 0} (p : X → Bool) (xs : List X) (i : ℕ) (x : X) (old new : List ℕ) (kept : Bool) → new ≡ old ++ (if kept then i ∷ [] else []) → old ≡ places_where p 0 (take i xs) → kept ≡ p x → x ≡ get_or xs i x → i < length xs → new ≡ places_where p 0 (take (i + 1) xs)
place_step p xs i x old new kept written before test is within =
    let long : i ≡ 0 + length (take i xs) = omega (arith, length-take-le i xs (omega arith)) in
    written ∙ ap (λ l. l ++ (if kept then i ∷ [] else [])) before ∙ ap (λ b. places_where p 0 (take i xs) ++ (if b then i ∷ [] else [])) test
    ∙ ap (λ k. places_where p 0 (take i xs) ++ (if p x then k ∷ [] else [])) long
    ∙ sym (places_push p 0 (take i xs) x)
    ∙ ap (λ y. places_where p 0 (take i xs ++ y ∷ [])) is
    ∙ ap (places_where p 0) (sym (take_more xs i x within))

pub found_within : {X : Type 0} (p : X → Bool) (xs : List X) (places : List ℕ) (m : ℕ) → places ≡ places_where p 0 xs → length xs ≡ m → AreWithin places m
found_within p xs places m found long = λ k small.
    let bound : slice_index (places_where p 0 xs) k < 0 + length xs = places_within p 0 xs k (omega (arith, ap length found)) in
    omega (arith, ap (λ l. slice_index l k) found, bound)

-- one more run of a selection
module _ (low high : Cell) (li hi : Bool) (b : Pairs) (from : ℕ) (h t : List Cell) (places : List ℕ) (found : places ≡ places_where (is_within low high li hi) 0 t) (even : length t ≡ length h) (run : take (from + length h) b ≡ take from b ++ zip h t) where
  more : selected low high li hi (take (from + length h) b) ≡ selected low high li hi (take from b) ++ selected low high li hi (zip h t)
  more = ap (selected low high li hi) run ∙ filter-append (λ q. is_within low high li hi q.1) (take from b) (zip h t)

  pub heads_more : (old new : List Cell) → new ≡ old ++ picked Nil h places → old ≡ heads_of (selected low high li hi (take from b)) → new ≡ heads_of (selected low high li hi (take (from + length h) b))
  heads_more old new pushed before =
      pushed ∙ ap (λ l. l ++ picked Nil h places) before
      ∙ ap (λ l. heads_of (selected low high li hi (take from b)) ++ l) (ap (picked Nil h) found ∙ picked_heads (is_within low high li hi) h t even)
      ∙ sym (map-append (λ q. q.0) (selected low high li hi (take from b)) (selected low high li hi (zip h t)))
      ∙ ap heads_of (sym more)

  pub tails_more : (old new : List Cell) → new ≡ old ++ picked Nil t places → old ≡ tails_of (selected low high li hi (take from b)) → new ≡ tails_of (selected low high li hi (take (from + length h) b))
  tails_more old new pushed before =
      pushed ∙ ap (λ l. l ++ picked Nil t places) before
      ∙ ap (λ l. tails_of (selected low high li hi (take from b)) ++ l) (ap (picked Nil t) found ∙ picked_tails (is_within low high li hi) h t even)
      ∙ sym (map-append (λ q. q.1) (selected low high li hi (take from b)) (selected low high li hi (zip h t)))
      ∙ ap tails_of (sym more)

columns_are : (b : Pairs) → zip (heads_of b) (tails_of b) ≡ b
columns_are [] = refl
columns_are (p ∷ ps) = ap (λ l. p ∷ l) (columns_are ps)

pub both_columns : (heads tails : List Cell) (b : Pairs) → heads ≡ heads_of b → tails ≡ tails_of b → zip heads tails ≡ b
both_columns heads tails b h t = ap (λ l. zip l tails) h ∙ ap (λ l. zip (heads_of b) l) t ∙ columns_are b

-- the front of a slice that is written back
pub written_back : (new rest : List ℕ) (len count : ℕ) → count ≤ len → count ≤ length new → take count (take len (new ++ rest)) ≡ take count new
written_back new rest len count short few = take-take count len (new ++ rest) short ∙ take-append-le count new rest few

-- the same where the head is tested
pub own_heads : (p : Cell → Bool) (hs ts : List Cell) → length ts ≡ length hs → picked Nil hs (places_where p 0 hs) ≡ heads_of (filter (λ q. p q.0) (zip hs ts))
own_heads p [] [] same = refl
own_heads p [] (t ∷ ts) same = absurd (omega arith)
own_heads p (h ∷ hs) [] same = absurd (omega arith)
own_heads p (h ∷ hs) (t ∷ ts) same =
    head_step (p h) h t hs (places_where p 1 hs) (filter (λ q. p q.0) (zip hs ts)) (shift p Nil h hs 0 hs ∙ own_heads p hs ts (omega arith))

pub own_tails : (p : Cell → Bool) (hs ts : List Cell) → length ts ≡ length hs → picked Nil ts (places_where p 0 hs) ≡ tails_of (filter (λ q. p q.0) (zip hs ts))
own_tails p [] [] same = refl
own_tails p [] (t ∷ ts) same = absurd (omega arith)
own_tails p (h ∷ hs) [] same = absurd (omega arith)
own_tails p (h ∷ hs) (t ∷ ts) same =
    tail_step (p h) h t ts (places_where p 1 hs) (filter (λ q. p q.0) (zip hs ts)) (shift p Nil t ts 0 hs ∙ own_tails p hs ts (omega arith))

-- one more run of what a test keeps
module _ (keeps : Cell × Cell → Bool) (b : Pairs) (from : ℕ) (h t : List Cell) (run : take (from + length h) b ≡ take from b ++ zip h t) where
  kept_more : filter keeps (take (from + length h) b) ≡ filter keeps (take from b) ++ filter keeps (zip h t)
  kept_more = ap (filter keeps) run ∙ filter-append keeps (take from b) (zip h t)

  pub kept_heads : (old new add : List Cell) → new ≡ old ++ add → old ≡ heads_of (filter keeps (take from b)) → add ≡ heads_of (filter keeps (zip h t)) → new ≡ heads_of (filter keeps (take (from + length h) b))
  kept_heads old new add pushed before added =
      pushed ∙ ap (λ l. l ++ add) before ∙ ap (λ l. heads_of (filter keeps (take from b)) ++ l) added
      ∙ sym (map-append (λ q. q.0) (filter keeps (take from b)) (filter keeps (zip h t))) ∙ ap heads_of (sym kept_more)

  pub kept_tails : (old new add : List Cell) → new ≡ old ++ add → old ≡ tails_of (filter keeps (take from b)) → add ≡ tails_of (filter keeps (zip h t)) → new ≡ tails_of (filter keeps (take (from + length h) b))
  kept_tails old new add pushed before added =
      pushed ∙ ap (λ l. l ++ add) before ∙ ap (λ l. tails_of (filter keeps (take from b)) ++ l) added
      ∙ sym (map-append (λ q. q.1) (filter keeps (take from b)) (filter keeps (zip h t))) ∙ ap tails_of (sym kept_more)
