-- The greedy cutting is a function: of entries with different ids, a cutting is the one that the function finds, and it finds one exactly where they cover the target.
use Rattle.std.proofs.Common.{◌≡◌, ℕ, zero, suc, ◌≤◌, List, [], ◌∷◌, Bool, true, false, Option, Some, None, ◌⊎◌, inl, inr, refl, ap, sym, ◌∙◌, subst, arith, length, map}
use Rattle.std.specs.Prelude.{filter, if◌then◌else◌}
use Rattle.std.specs.Option.{option_map, option_and_then}
use Rattle.std.specs.Ordering.{is_lt, nat_cmp, ordering_reverse}
use Rattle.std.specs.declared.cmp.Ordering.{Ordering}
use Rattle.std.specs.declared.cmp.Ordering.TheVariants.{Less, Equal, Greater}
use Rattle.cell_core.specs.declared.cut.Cut.{Cut}
use Rattle.cell_core.specs.declared.cut.Span.{Span}
use Rattle.cell_core.specs.Cuts.{cut_cmp, is_cut_below, lies_in, covers}
use Rattle.subsume.specs.Cutting.{Entry, entry_cmp, is_better, piece_of, IsBest, IsCutting}
use Rattle.subsume.specs.Greedy.{AreApart, best_at, cut_from, cutting_of, CuttingsAreFunctions}
use Rattle.subsume.proofs.Beyond.{beyond, fewer, counted, beyond_few}
use Rattle.subsume.proofs.Orderings.{second_equal, same_number}
use Rattle.subsume.proofs.LeastFirst.{least_first, first_in, none_before}
use Rattle.subsume.proofs.CutOrder.{entry_order, entry_total, never, ends}
use Rattle.subsume.proofs.Members.{In, in_from_contains, contains_from_in, all_from_in, all_in, filter_in, in_filter}
use Rattle.subsume.proofs.Cuttings.{cutting_covers}

then_less : (r s : Ordering) → r ≡ ordering_reverse s → is_lt s ≡ false → (is_lt r ≡ true) ⊎ (s ≡ Equal)
then_less r Less e h = cc
then_less r Equal e h = inr refl
then_less r Greater e h = inl (ap is_lt e)

-- of two entries with different ids one is better
better_one : (a b : Entry) → is_better b a ≡ false → (is_better a b ≡ true) ⊎ (a.0 ≡ b.0)
better_one a b e = elim (then_less (entry_cmp a b) (entry_cmp b a) (entry_total.antisymm a b) e) [
  | inl low ↦ inl low
  | inr same ↦ inr (sym (same_number b.0 a.0 (second_equal (cut_cmp a.1.high b.1.high) (nat_cmp b.0 a.0) same)))
]

best_found : (entries : List Entry) (cut : Cut) (e : Entry) → AreApart entries → IsBest entries cut e → best_at entries cut ≡ Some e
best_found entries cut e apart best =
    least_first is_better e (filter (λ (e : Entry). lies_in e.1 cut) entries) None
    (inr (in_filter (λ (e : Entry). lies_in e.1 cut) entries e (in_from_contains entries e best.0) best.1))
    (λ y never. cc)
    (λ y i. against y i)
  where
    against : (y : Entry) → In y (filter (λ (e : Entry). lies_in e.1 cut) entries) → (y ≡ e) ⊎ ((is_better e y ≡ true) × (is_better y e ≡ false))
    against y i =
        let there = filter_in (λ (e : Entry). lies_in e.1 cut) entries y i in
        let no_better : is_better y e ≡ false = all_in (λ (x : Entry). lies_in x.1 cut ≡ true → is_better x e ≡ false) entries y best.2 there.0 there.1 in
        elim (better_one e y no_better) [ inl low ↦ inr (low, no_better) | inr same ↦ inl (apart y e (contains_from_in entries y there.0) best.0 (sym same)) ]

-- ## A cutting is the function's

module _ (target : Span) (entries : List Entry) where
  -- after the target no piece follows
  none_behind : (cut : Cut) (pieces : List Entry) → is_cut_below cut target.high ≡ false → IsCutting target entries cut pieces → length pieces ≤ 0
  none_behind cut [] e known = omega arith
  none_behind cut (piece ∷ pieces) e known = let wrong : true ≡ false = sym known.0 ∙ e in cc

  -- one piece takes an entry that reaches beyond the cut
  one_piece : (cut : Cut) (piece entry : Entry) (pieces : List Entry) → In entry entries → lies_in entry.1 cut ≡ true → piece ≡ piece_of target cut entry → IsCutting target entries piece.1.high pieces → length pieces ≤ beyond piece.1.high entries → suc (length pieces) ≤ beyond cut entries
  one_piece cut piece entry pieces i lies is known rest =
      let far = ends entry.1 cut lies in
      let some = counted cut entries entry i far in
      elim (is_cut_below target.high entry.1.high) as (λ b. is_cut_below target.high entry.1.high ≡ b → suc (length pieces) ≤ beyond cut entries) [
        | true ↦ λ e.
            let end : piece.1.high ≡ target.high = ap (λ (p : Entry). p.1.high) is ∙ ap (λ b. if b then target.high else entry.1.high) e in
            let none = none_behind piece.1.high pieces (ap (λ c. is_cut_below c target.high) end ∙ never target.high) known in
            omega (arith, none, some)
        | false ↦ λ e.
            let end : piece.1.high ≡ entry.1.high = ap (λ (p : Entry). p.1.high) is ∙ ap (λ b. if b then target.high else entry.1.high) e in
            let few = fewer cut entry.1.high entries entry i far far (never entry.1.high) in
            let same = ap (λ c. beyond c entries) end in
            omega (arith, rest, few, same)
      ] refl

  -- a cutting has no more pieces than entries reach beyond its beginning
  pieces_few : (cut : Cut) (pieces : List Entry) → IsCutting target entries cut pieces → length pieces ≤ beyond cut entries
  pieces_few cut [] known = omega arith
  pieces_few cut (piece ∷ pieces) known =
      one_piece cut piece known.1.0 pieces (in_from_contains entries known.1.0 known.1.1.0) known.1.1.1 known.1.2 known.2 (pieces_few piece.1.high pieces known.2)

  -- what a step of the function returns
  abbrev step : ℕ → Cut → Bool → Option Entry → Option (List Entry)
  step n cut below best = if below then option_and_then (λ (e : Entry). option_map (λ pieces. piece_of target cut e ∷ pieces) (cut_from n target entries (piece_of target cut e).1.high)) best else Some []

  module _ (apart : AreApart entries) where
    cut_is : (n : ℕ) (cut : Cut) (pieces : List Entry) → length pieces ≤ n → IsCutting target entries cut pieces → cut_from n target entries cut ≡ Some pieces
    cut_is zero cut [] few known = ap (λ b. if b then None else Some []) known
    cut_is zero cut (piece ∷ pieces) few known = absurd (omega arith)
    cut_is (suc n) cut [] few known = ap (λ b. step n cut b (best_at entries cut)) known
    cut_is (suc n) cut (piece ∷ pieces) few known =
        let entry = known.1.0 in
        let best = best_found entries cut entry apart known.1.1 in
        let rest : cut_from n target entries piece.1.high ≡ Some pieces = cut_is n piece.1.high pieces (omega arith) known.2 in
        ap (λ b. step n cut b (best_at entries cut)) known.0
        ∙ ap (step n cut true) best
        ∙ ap (λ (p : Entry). option_map (λ ps. p ∷ ps) (cut_from n target entries p.1.high)) (sym known.1.2)
        ∙ ap (option_map (λ ps. piece ∷ ps)) rest

    -- a cutting of the target is the one that the function finds
    pub cutting_is : (pieces : List Entry) → is_cut_below target.low target.high ≡ true → IsCutting target entries target.low pieces → cutting_of target entries ≡ Some pieces
    cutting_is pieces some known =
        let few = pieces_few target.low pieces known in
        let all = beyond_few target.low entries in
        ap (λ b. if b then cut_from (length entries) target entries target.low else None) some ∙ cut_is (length entries) target.low pieces (omega (arith, few, all)) known

-- ## What the function finds is a cutting

best_is : (entries : List Entry) (cut : Cut) (e : Entry) → best_at entries cut ≡ Some e → IsBest entries cut e
best_is entries cut e is =
    let held : List Entry = filter (λ (x : Entry). lies_in x.1 cut) entries in
    let i = filter_in (λ (x : Entry). lies_in x.1 cut) entries e (first_in is_better held e is) in
    let first = none_before is_better entry_order held e is in
    (contains_from_in entries e i.0, i.1, all_from_in (λ (x : Entry). lies_in x.1 cut ≡ true → is_better x e ≡ false) entries (λ x j lies. first x (in_filter (λ (x : Entry). lies_in x.1 cut) entries x j lies)))

module _ (target : Span) (entries : List Entry) where
  abbrev next : ℕ → Cut → Option Entry → Option (List Entry)
  next n cut best = option_and_then (λ (e : Entry). option_map (λ pieces. piece_of target cut e ∷ pieces) (cut_from n target entries (piece_of target cut e).1.high)) best

  -- what follows a piece
  after_piece : (cut : Cut) (e : Entry) (o : Option (List Entry)) (pieces : List Entry) → option_map (λ ps. piece_of target cut e ∷ ps) o ≡ Some pieces → (more : List Entry) × (o ≡ Some more) × (pieces ≡ piece_of target cut e ∷ more)
  after_piece cut e None pieces is = cc
  after_piece cut e (Some more) pieces is = (more, refl, cc)

  found_is : (n : ℕ) (cut : Cut) (pieces : List Entry) → cut_from n target entries cut ≡ Some pieces → IsCutting target entries cut pieces
  found_is zero cut pieces is = go (is_cut_below cut target.high) refl is
    where
      go : (b : Bool) → is_cut_below cut target.high ≡ b → (if b then None else Some []) ≡ Some pieces → IsCutting target entries cut pieces
      go true h e = cc
      go false h e = let none : [] ≡ pieces = cc in subst (IsCutting target entries cut) none h
  found_is (suc n) cut pieces is = go (λ c ps e. found_is n c ps e) (is_cut_below cut target.high) refl (best_at entries cut) refl is
    where
      go : ((c : Cut) (ps : List Entry) → cut_from n target entries c ≡ Some ps → IsCutting target entries c ps) → (b : Bool) → is_cut_below cut target.high ≡ b → (o : Option Entry) → best_at entries cut ≡ o → (if b then next n cut o else Some []) ≡ Some pieces → IsCutting target entries cut pieces
      go rest false h o best e = let none : [] ≡ pieces = cc in subst (IsCutting target entries cut) none h
      go rest true h None best e = cc
      go rest true h (Some x) best e =
          let more = after_piece cut x (cut_from n target entries (piece_of target cut x).1.high) pieces e in
          subst (IsCutting target entries cut) (sym more.2) (h, (x, best_is entries cut x best, refl), rest (piece_of target cut x).1.high more.0 more.1)

  -- where the entries don't cover the target, the function finds nothing
  pub cutting_none : covers target (map (λ (e : Entry). e.1) entries) ≡ false → cutting_of target entries ≡ None
  cutting_none out = go (is_cut_below target.low target.high) refl
    where
      none_of : (o : Option (List Entry)) → cut_from (length entries) target entries target.low ≡ o → is_cut_below target.low target.high ≡ true → o ≡ None
      none_of None e some = refl
      none_of (Some pieces) e some =
          let all : covers target (map (λ (x : Entry). x.1) entries) ≡ true = cutting_covers target entries pieces some (found_is (length entries) target.low pieces e) in
          let wrong : true ≡ false = sym all ∙ out in cc

      go : (b : Bool) → is_cut_below target.low target.high ≡ b → (if b then cut_from (length entries) target entries target.low else None) ≡ None
      go true h = none_of (cut_from (length entries) target entries target.low) refl h
      go false h = refl

  pub is_found : (pieces : List Entry) → is_cut_below target.low target.high ≡ true → cutting_of target entries ≡ Some pieces → IsCutting target entries target.low pieces
  is_found pieces some is = found_is (length entries) target.low pieces (sym (ap (λ b. if b then cut_from (length entries) target entries target.low else None) some) ∙ is)

pub cuttings_are_functions_hold : CuttingsAreFunctions
cuttings_are_functions_hold target entries apart some =
    (λ pieces. (cutting_is target entries apart pieces some, is_found target entries pieces some), cutting_none target entries)
