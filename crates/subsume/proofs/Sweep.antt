-- One pass over spans in the order of their lows.
use Rattle.std.proofs.Common.{◌≡◌, ℕ, suc, ◌+◌, ◌<◌, ◌≤◌, List, [], ◌∷◌, ◌++◌, true, false, Option, Some, None, refl, ap, sym, ◌∙◌, length, slice_index_or, map, drop, add-one, drop-cons, append_assoc}
use Rattle.std.specs.Prelude.{if◌then◌else◌}
use Rattle.std.proofs.Math.ListN.{drop_of_length-le}
use Rattle.std.specs.Option.{option_map, option_and_then, option_map_or}
use Rattle.cell_core.specs.declared.cut.Cut.{Cut}
use Rattle.cell_core.specs.declared.cut.Span.{Span}
use Rattle.cell_core.specs.Cuts.{is_cut_below}
use Rattle.subsume.specs.Cutting.{Entry, is_better, least_cut, piece_of}

-- the best entry so far, where it reaches beyond the cut
abbrev pub reached : Cut → Option Entry → Option Entry
reached cut best = option_and_then (λ b. if is_cut_below cut b.1.high then Some b else None) best

-- the better of the best entry so far and one more
abbrev pub better_of : Option Entry → Entry → Entry
better_of best entry = option_map_or (λ b. if is_better entry b then entry else b) best entry

-- the pieces from a cut on, where the best of the entries passed is known, or None where a cut is reached that no entry holds
abbrev pub swept : Span → Cut → Option Entry → List Entry → Option (List Entry)
swept target cut best [] =
    option_and_then (λ b. if is_cut_below (least_cut b.1.high target.high) target.high then None else Some (piece_of target cut b ∷ [])) (reached cut best)
swept target cut best (e ∷ es) =
    if is_cut_below cut e.1.low
    then option_and_then (λ b. if is_cut_below (least_cut b.1.high target.high) target.high
    then (if is_cut_below (least_cut b.1.high target.high) e.1.low then None else option_map (λ ps. piece_of target cut b ∷ ps) (swept target (least_cut b.1.high target.high) (Some (better_of best e)) es))
    else Some (piece_of target cut b ∷ [])) (reached cut best)
    else swept target cut (Some (better_of best e)) es

module _ (target : Span) (cut : Cut) (best : Option Entry) where
  abbrev end_of : Entry → Cut
  end_of b = least_cut b.1.high target.high

  -- what is cut at the end of the entries, by what is known of the best
  pub swept_short : reached cut best ≡ None → swept target cut best [] ≡ None
  swept_short e = ap (option_and_then (λ b. if is_cut_below (end_of b) target.high then None else Some (piece_of target cut b ∷ []))) e

  pub swept_open : (b : Entry) → reached cut best ≡ Some b → is_cut_below (end_of b) target.high ≡ true → swept target cut best [] ≡ None
  swept_open b e more =
      ap (option_and_then (λ b. if is_cut_below (end_of b) target.high then None else Some (piece_of target cut b ∷ []))) e
      ∙ ap (λ r. if r then None else Some (piece_of target cut b ∷ [])) more

  pub swept_last : (b : Entry) → reached cut best ≡ Some b → is_cut_below (end_of b) target.high ≡ false → swept target cut best [] ≡ Some (piece_of target cut b ∷ [])
  swept_last b e whole =
      ap (option_and_then (λ b. if is_cut_below (end_of b) target.high then None else Some (piece_of target cut b ∷ []))) e
      ∙ ap (λ r. if r then None else Some (piece_of target cut b ∷ [])) whole

  -- what is cut before one more entry
  module _ (e : Entry) (es : List Entry) where
    abbrev next : Entry → Option (List Entry)
    next b = if is_cut_below (end_of b) target.high
        then (if is_cut_below (end_of b) e.1.low then None else option_map (λ ps. piece_of target cut b ∷ ps) (swept target (end_of b) (Some (better_of best e)) es))
        else Some (piece_of target cut b ∷ [])

    abbrev after : Option (List Entry)
    after = swept target cut (Some (better_of best e)) es

    pub swept_on : is_cut_below cut e.1.low ≡ false → swept target cut best (e ∷ es) ≡ after
    swept_on up = ap (λ r. if r then option_and_then next (reached cut best) else after) up

    behind : is_cut_below cut e.1.low ≡ true → swept target cut best (e ∷ es) ≡ option_and_then next (reached cut best)
    behind low = ap (λ r. if r then option_and_then next (reached cut best) else after) low

    pub swept_stuck : is_cut_below cut e.1.low ≡ true → reached cut best ≡ None → swept target cut best (e ∷ es) ≡ None
    swept_stuck low none = behind low ∙ ap (option_and_then next) none

    at : (b : Entry) → is_cut_below cut e.1.low ≡ true → reached cut best ≡ Some b → swept target cut best (e ∷ es) ≡ next b
    at b low far = behind low ∙ ap (option_and_then next) far

    pub swept_whole : (b : Entry) → is_cut_below cut e.1.low ≡ true → reached cut best ≡ Some b → is_cut_below (end_of b) target.high ≡ false → swept target cut best (e ∷ es) ≡ Some (piece_of target cut b ∷ [])
    swept_whole b low far whole = at b low far ∙ ap (λ r. if r
        then (if is_cut_below (end_of b) e.1.low then None else option_map (λ ps. piece_of target cut b ∷ ps) (swept target (end_of b) (Some (better_of best e)) es))
        else Some (piece_of target cut b ∷ [])) whole

    further : (b : Entry) → is_cut_below cut e.1.low ≡ true → reached cut best ≡ Some b → is_cut_below (end_of b) target.high ≡ true → swept target cut best (e ∷ es) ≡ (if is_cut_below (end_of b) e.1.low then None else option_map (λ ps. piece_of target cut b ∷ ps) (swept target (end_of b) (Some (better_of best e)) es))
    further b low far more = at b low far ∙ ap (λ r. if r
        then (if is_cut_below (end_of b) e.1.low then None else option_map (λ ps. piece_of target cut b ∷ ps) (swept target (end_of b) (Some (better_of best e)) es))
        else Some (piece_of target cut b ∷ [])) more

    pub swept_gap : (b : Entry) → is_cut_below cut e.1.low ≡ true → reached cut best ≡ Some b → is_cut_below (end_of b) target.high ≡ true → is_cut_below (end_of b) e.1.low ≡ true → swept target cut best (e ∷ es) ≡ None
    swept_gap b low far more gap = further b low far more ∙ ap (λ r. if r then None else option_map (λ ps. piece_of target cut b ∷ ps) (swept target (end_of b) (Some (better_of best e)) es)) gap

    pub swept_piece : (b : Entry) → is_cut_below cut e.1.low ≡ true → reached cut best ≡ Some b → is_cut_below (end_of b) target.high ≡ true → is_cut_below (end_of b) e.1.low ≡ false → swept target cut best (e ∷ es) ≡ option_map (λ ps. piece_of target cut b ∷ ps) (swept target (end_of b) (Some (better_of best e)) es)
    swept_piece b low far more near = further b low far more ∙ ap (λ r. if r then None else option_map (λ ps. piece_of target cut b ∷ ps) (swept target (end_of b) (Some (better_of best e)) es)) near

module _ (target : Span) (cut : Cut) (best : Option Entry) (out rest : List Entry) (whole : Option (List Entry)) (inv : option_map (λ ps. out ++ ps) (swept target cut best rest) ≡ whole) where
  abbrev added : Option (List Entry) → Option (List Entry)
  added pieces = option_map (λ ps. out ++ ps) pieces

  -- how the whole ends, once the rest does
  pub ends_none : swept target cut best rest ≡ None → whole ≡ None
  ends_none e = sym inv ∙ ap added e

  pub ends_some : (piece : Entry) → swept target cut best rest ≡ Some (piece ∷ []) → whole ≡ Some (out ++ piece ∷ [])
  ends_some piece e = sym inv ∙ ap added e

  -- what the whole is, where nothing is left and the best reaches farther
  pub ends_last : rest ≡ [] → (b : Entry) (end : Cut) → reached cut best ≡ Some b → end ≡ least_cut b.1.high target.high
      → whole ≡ (if is_cut_below end target.high then None else Some (out ++ piece_of target cut b ∷ []))
  ends_last nothing b end far to = elim (is_cut_below end target.high) as (λ r. is_cut_below end target.high ≡ r → whole ≡ (if r then None else Some (out ++ piece_of target cut b ∷ []))) [
    | true ↦ λ more. ends_none (ap (swept target cut best) nothing ∙ swept_open target cut best b far (ap (λ c. is_cut_below c target.high) (sym to) ∙ more))
    | false ↦ λ done. ends_some (piece_of target cut b) (ap (swept target cut best) nothing ∙ swept_last target cut best b far (ap (λ c. is_cut_below c target.high) (sym to) ∙ done))
  ] refl

  module _ (e : Entry) (es : List Entry) (at : rest ≡ e ∷ es) where
    first : added (swept target cut best (e ∷ es)) ≡ whole
    first = ap (λ r. added (swept target cut best r)) (sym at) ∙ inv

    pub goes_on : (new : Entry) → is_cut_below cut e.1.low ≡ false → new ≡ better_of best e → added (swept target cut (Some new) es) ≡ whole
    goes_on new up is = ap (λ n. added (swept target cut (Some n) es)) is ∙ ap added (sym (swept_on target cut best e es up)) ∙ first

    more_added : (piece : Entry) (pieces : Option (List Entry)) → option_map (λ ps. (out ++ piece ∷ []) ++ ps) pieces ≡ added (option_map (λ ps. piece ∷ ps) pieces)
    more_added piece None = refl
    more_added piece (Some ps) = ap Some (append_assoc out (piece ∷ []) ps)

    pub goes_on_behind : (b new : Entry) (out' : List Entry) (cut' : Cut) → is_cut_below cut e.1.low ≡ true → reached cut best ≡ Some b
        → out' ≡ out ++ piece_of target cut b ∷ [] → cut' ≡ least_cut b.1.high target.high → is_cut_below cut' target.high ≡ true → is_cut_below cut' e.1.low ≡ false
        → new ≡ better_of best e → option_map (λ ps. out' ++ ps) (swept target cut' (Some new) es) ≡ whole
    goes_on_behind b new out' cut' low far is to more near new_is =
        let more' : is_cut_below (least_cut b.1.high target.high) target.high ≡ true = ap (λ c. is_cut_below c target.high) (sym to) ∙ more in
        let near' : is_cut_below (least_cut b.1.high target.high) e.1.low ≡ false = ap (λ c. is_cut_below c e.1.low) (sym to) ∙ near in
        ap (λ o. option_map (λ ps. o ++ ps) (swept target cut' (Some new) es)) is
        ∙ ap (λ c. option_map (λ ps. (out ++ piece_of target cut b ∷ []) ++ ps) (swept target c (Some new) es)) to
        ∙ ap (λ n. option_map (λ ps. (out ++ piece_of target cut b ∷ []) ++ ps) (swept target (least_cut b.1.high target.high) (Some n) es)) new_is
        ∙ more_added (piece_of target cut b) (swept target (least_cut b.1.high target.high) (Some (better_of best e)) es)
        ∙ ap added (sym (swept_piece target cut best e es b low far more' near')) ∙ first

    pub stops_stuck : is_cut_below cut e.1.low ≡ true → reached cut best ≡ None → whole ≡ None
    stops_stuck low none = ends_none (ap (swept target cut best) at ∙ swept_stuck target cut best e es low none)

    pub stops_whole : (b : Entry) (cut' : Cut) → is_cut_below cut e.1.low ≡ true → reached cut best ≡ Some b → cut' ≡ least_cut b.1.high target.high → is_cut_below cut' target.high ≡ false → whole ≡ Some (out ++ piece_of target cut b ∷ [])
    stops_whole b cut' low far to whole = ends_some (piece_of target cut b) (ap (swept target cut best) at ∙ swept_whole target cut best e es b low far (ap (λ c. is_cut_below c target.high) (sym to) ∙ whole))

    pub stops_gap : (b : Entry) (cut' : Cut) → is_cut_below cut e.1.low ≡ true → reached cut best ≡ Some b → cut' ≡ least_cut b.1.high target.high → is_cut_below cut' target.high ≡ true → is_cut_below cut' e.1.low ≡ true → whole ≡ None
    stops_gap b cut' low far to more gap = ends_none (ap (swept target cut best) at ∙ swept_gap target cut best e es b low far (ap (λ c. is_cut_below c target.high) (sym to) ∙ more) (ap (λ c. is_cut_below c e.1.low) (sym to) ∙ gap))

-- the elements from a place on, of which the first is known
pub drop_at : {X Y : Type 0} (f : X → Y) (xs : List X) (i : ℕ) (x : X) → i < length xs → x ≡ slice_index_or xs i x → map f (drop i xs) ≡ f x ∷ map f (drop (i + 1) xs)
drop_at f xs i x low is =
    let whole : drop i xs ≡ slice_index_or xs i x ∷ drop (suc i) xs = drop-cons xs i x low in
    ap (map f) whole ∙ ap (λ y. f y ∷ map f (drop (suc i) xs)) (sym is) ∙ ap (λ n. f x ∷ map f (drop n xs)) (sym (add-one i))

-- no element is after the end
pub nothing_left : {X Y : Type 0} (f : X → Y) (xs : List X) (i : ℕ) → length xs ≤ i → map f (drop i xs) ≡ []
nothing_left f xs i low = ap (map f) (drop_of_length-le xs low)
