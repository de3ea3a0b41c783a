-- One pass over spans in the order of their lows cuts the target greedily, exactly where they cover it.
use Rattle.std.proofs.Common.{◌≡◌, suc, arith, add-one, List, [], ◌∷◌, Bool, true, false, not, ◌&&◌, Option, Some, None, ◌⊎◌, inl, inr, refl, ap, sym, ◌∙◌, subst, map}
use Rattle.std.specs.Prelude.{if◌then◌else◌}
use Rattle.std.specs.List.Sorted.{IsSortedBy}
use Rattle.std.proofs.lemmas.List.Sorted.{sorted_far}
use Rattle.std.proofs.lemmas.List.MinMax.{ranks_by}
use Rattle.std.specs.List.{AllByRecursion, list_all, list_any}
use Rattle.std.specs.Cmp.{first_so, second_so, IsStrictWeakOrder}
use Rattle.std.specs.Ordering.{is_lt, nat_cmp, ordering_then}
use Rattle.std.specs.declared.cmp.Ordering.{Ordering}
use Rattle.std.specs.declared.cmp.Ordering.TheVariants.{Less, Equal, Greater}
use Rattle.std.specs.Option.{option_map, option_and_then}
use Rattle.std.proofs.lemmas.Bool.{and_from}
use Rattle.cell_core.specs.declared.cut.Cut.{Cut}
use Rattle.cell_core.specs.declared.cut.Span.{Span}
use Rattle.cell_core.specs.Cuts.{cut_cmp, cut_cmp_total, is_cut_below, is_cut_up_to, lies_in, stops, covers}
use Rattle.subsume.specs.Cutting.{Entry, is_better, is_lower, least_cut, piece_of, IsBest, IsCutting, IsPartition, is_contained, IsCutUp, IsOfEntry}
use Rattle.subsume.proofs.Orderings.{never_itself}
use Rattle.subsume.proofs.CutOrder.{cut_order, entry_order, never, up_to_is, below_up_to, up_to_below, holds, begins, ends}
use Rattle.subsume.proofs.Members.{In, in_from_contains, contains_from_in, all_from_in, list_all_in, list_all_from_in, list_any_from_in, in_from_list_any, in_filter, filter_in, in_map, map_in}
use Rattle.subsume.proofs.Sweep.{better_of, swept}

first_not : (r s : Ordering) → is_lt (ordering_then r s) ≡ false → is_lt r ≡ false
first_not Less s e = e
first_not Equal s e = refl
first_not Greater s e = refl

-- an entry that isn't better reaches no farther
no_farther : (a b : Entry) → is_better a b ≡ false → is_cut_below b.1.high a.1.high ≡ false
no_farther a b e = first_not (cut_cmp b.1.high a.1.high) (nat_cmp a.0 b.0) e

begins_behind : (span : Span) (cut : Cut) → is_cut_below cut span.low ≡ true → lies_in span cut ≡ false
begins_behind span cut e = ap (λ b. b && is_cut_below cut span.high) (up_to_is span.low cut ∙ ap not e)

ended : (span : Span) (cut : Cut) → is_cut_below cut span.high ≡ false → lies_in span cut ≡ false
ended span cut e = elim (is_cut_up_to span.low cut) as (λ b. (b && is_cut_below cut span.high) ≡ false) [ true ↦ e | false ↦ refl ]

-- the lesser cut, where it is below the second
least_first : (a b : Cut) → is_cut_below (least_cut a b) b ≡ true → least_cut a b ≡ a
least_first a b e = elim (is_cut_below b a) as (λ r. is_cut_below (if r then b else a) b ≡ true → (if r then b else a) ≡ a) [
  | true ↦ λ h. let wrong : true ≡ false = sym h ∙ never_itself cut_order b in cc
  | false ↦ λ h. refl
] e

-- the lesser cut is above what is below both
least_above : (c a b : Cut) → is_cut_below c a ≡ true → is_cut_below c b ≡ true → is_cut_below c (least_cut a b) ≡ true
least_above c a b low high = elim (is_cut_below b a) as (λ r. is_cut_below c (if r then b else a) ≡ true) [ true ↦ high | false ↦ low ]

-- the second cut isn't below the lesser
least_up_to : (a b : Cut) → is_cut_below b (least_cut a b) ≡ false
least_up_to a b = elim (is_cut_below b a) as (λ r. is_cut_below b a ≡ r → is_cut_below b (if r then b else a) ≡ false) [ true ↦ λ _. never_itself cut_order b | false ↦ λ e. e ] refl

-- what isn't below the first but is below the second isn't below the lesser
least_not : (c a b : Cut) → is_cut_below c a ≡ false → is_cut_below c b ≡ true → is_cut_below c (least_cut a b) ≡ false
least_not c a b up low = elim (is_cut_below b a) as (λ r. is_cut_below b a ≡ r → is_cut_below c (if r then b else a) ≡ false) [
  | true ↦ λ e. let wrong : true ≡ false = sym (up_to_below c b a (not_back c b low) e) ∙ up in cc
  | false ↦ λ e. up
] refl
  where
    not_back : (c b : Cut) → is_cut_below c b ≡ true → is_cut_below b c ≡ false
    not_back c b e = cut_order.one_way c b e

-- the lesser of two cuts is up to the first
least_in : (a b : Cut) → is_cut_up_to (least_cut a b) a ≡ true
least_in a b = up_to_is (least_cut a b) a ∙ ap not (elim (is_cut_below b a) as (λ r. is_cut_below b a ≡ r → is_cut_below a (if r then b else a) ≡ false) [
  | true ↦ λ e. cut_order.one_way b a e
  | false ↦ λ _. never a
] refl)

-- the piece of an entry lies in its span
pub piece_within : (target : Span) (cut : Cut) (entry : Entry) → lies_in entry.1 cut ≡ true → is_contained (piece_of target cut entry).1 entry.1 ≡ true
piece_within target cut entry here =
    and_from (is_cut_up_to entry.1.low cut) (is_cut_up_to (least_cut entry.1.high target.high) entry.1.high)
    (first_so (is_cut_up_to entry.1.low cut) (is_cut_below cut entry.1.high) here) (least_in entry.1.high target.high)

module _ (target : Span) (entries : List Entry) where
  abbrev pub spans : List Span
  spans = map (λ (e : Entry). e.1) entries

  -- the target's low, or the high of an entry that lies in the target
  abbrev pub IsStop : Cut → Type 0
  IsStop cut = (cut ≡ target.low) ⊎ ((e : Entry) × In e entries × (cut ≡ e.1.high) × (lies_in target cut ≡ true))

  stop_in : (cut : Cut) → IsStop cut → In cut (stops target spans)
  stop_in cut (inl e) = inl e
  stop_in cut (inr h) = inr (in_filter (lies_in target) (map (λ (s : Span). s.high) spans) cut (subst (λ c. In c (map (λ (s : Span). s.high) spans)) (sym h.2) (in_map (λ (s : Span). s.high) spans h.0.1 (in_map (λ (e : Entry). e.1) entries h.0 h.1))) h.3)

  -- where the entries cover the target, one of them holds a stop
  stop_held : covers target spans ≡ true → (cut : Cut) → IsStop cut → (e : Entry) × In e entries × (lies_in e.1 cut ≡ true)
  stop_held c cut stop =
      let all = second_so (is_cut_below target.low target.high) (list_all (λ stop. list_any (λ s. lies_in s stop) spans) (stops target spans)) c in
      let any = list_all_in (λ stop. list_any (λ s. lies_in s stop) spans) (stops target spans) cut all (stop_in cut stop) in
      let found = in_from_list_any (λ s. lies_in s cut) spans any in
      let entry = map_in (λ (e : Entry). e.1) entries found.0 found.1 in
      (entry.0, entry.1, ap (λ (s : Span). lies_in s cut) (sym entry.2) ∙ found.2)

  -- a stop that no entry holds
  uncovered : (cut : Cut) → IsStop cut → ((e : Entry) → In e entries → lies_in e.1 cut ≡ false) → covers target spans ≡ false
  uncovered cut stop none = elim (covers target spans) as (λ b. covers target spans ≡ b → b ≡ false) [
    | true ↦ λ c. let held = stop_held c cut stop in let wrong : true ≡ false = sym held.2 ∙ none held.0 held.1 in cc
    | false ↦ λ _. refl
  ] refl

  -- the entry is no better than the best, if there is one
  abbrev pub IsBehind : Option Entry → Entry → Type 0
  IsBehind None e = ⊥
  IsBehind (Some best) e = is_better e best ≡ false

  -- the best entry doesn't begin after the cut
  abbrev pub IsOneOf : Cut → Option Entry → Type 0
  IsOneOf cut None = Unit {0}
  IsOneOf cut (Some best) = In best entries × (is_cut_below cut best.1.low ≡ false)

  -- no later entry begins before an earlier one
  abbrev pub Ascends : List Entry → Type 0
  Ascends [] = Unit {0}
  Ascends (e ∷ es) = ((x : Entry) → In x es → is_cut_below x.1.low e.1.low ≡ false) × Ascends es

  pub record IsSwept (cut : Cut) (best : Option Entry) (es : List Entry) : Type 0 where
    pub begun : is_cut_below cut target.low ≡ false
    pub inside : is_cut_below cut target.high ≡ true
    pub stop : IsStop cut
    pub one : IsOneOf cut best
    pub behind : (e : Entry) → In e entries → In e es ⊎ IsBehind best e
    pub ascends : Ascends es

  -- entries that begin after the cut, or are no better than the best
  abbrev pub AreBehind : Cut → Option Entry → Type 0
  AreBehind cut best = (e : Entry) → In e entries → (is_cut_below cut e.1.low ≡ true) ⊎ IsBehind best e

  -- the best entry doesn't reach beyond the cut
  none_holds : (cut : Cut) (best : Entry) → is_cut_below cut best.1.high ≡ false → AreBehind cut (Some best) → (e : Entry) → In e entries → lies_in e.1 cut ≡ false
  none_holds cut best short all e h = elim (all e h) [
    | inl low ↦ begins_behind e.1 cut low
    | inr worse ↦ ended e.1 cut (cut_order.chain cut best.1.high e.1.high short (no_farther e best worse))
  ]

  none_yet : (cut : Cut) → AreBehind cut None → (e : Entry) → In e entries → lies_in e.1 cut ≡ false
  none_yet cut all e h = elim (all e h) [ inl low ↦ begins_behind e.1 cut low | inr worse ↦ absurd worse ]

  -- the best entry reaches beyond the cut
  is_best : (cut : Cut) (best : Entry) → is_cut_below cut best.1.high ≡ true → IsOneOf cut (Some best) → AreBehind cut (Some best) → IsBest entries cut best
  is_best cut best far one all =
      (contains_from_in entries best one.0, holds best.1 cut one.1 far, all_from_in (λ e. lies_in e.1 cut ≡ true → is_better e best ≡ false) entries no_better)
    where
      no_better : (e : Entry) → In e entries → lies_in e.1 cut ≡ true → is_better e best ≡ false
      no_better e h lies = elim (all e h) [
        | inl low ↦ let wrong : true ≡ false = sym lies ∙ begins_behind e.1 cut low in cc
        | inr worse ↦ worse
      ]

  -- where the next entry begins after the cut, so do all that are left
  all_behind : (cut : Cut) (best : Option Entry) (e : Entry) (es : List Entry) → IsSwept cut best (e ∷ es) → (c : Cut) → is_cut_below c e.1.low ≡ true → AreBehind c best
  all_behind cut best e es known c low x h = elim (known.behind x h) [
    | inl left ↦ inl (elim left [
      | inl is ↦ ap (λ (y : Entry). is_cut_below c y.1.low) is ∙ low
      | inr more ↦ below_up_to c e.1.low x.1.low low (known.ascends.0 x more)
    ])
    | inr worse ↦ inr worse
  ]

  all_done : (cut : Cut) (best : Option Entry) → IsSwept cut best [] → (c : Cut) → AreBehind c best
  all_done cut best known c x h = elim (known.behind x h) [ inl left ↦ absurd left | inr worse ↦ inr worse ]

  better_one : (cut : Cut) (best : Option Entry) (e : Entry) → In e entries → is_cut_below cut e.1.low ≡ false → IsOneOf cut best → IsOneOf cut (Some (better_of best e))
  better_one cut None e h low one = (h, low)
  better_one cut (Some best) e h low one = elim (is_better e best) as (λ b. IsOneOf cut (Some (if b then e else best))) [ true ↦ (h, low) | false ↦ one ]

  better_behind : (best : Option Entry) (e x : Entry) → (x ≡ e) ⊎ IsBehind best x → is_better x (better_of best e) ≡ false
  better_behind None e x (inl is) = ap (λ y. is_better y e) is ∙ never_itself entry_order e
  better_behind None e x (inr worse) = absurd worse
  better_behind (Some best) e x h = elim (is_better e best) as (λ b. is_better e best ≡ b → is_better x (if b then e else best) ≡ false) [
    | true ↦ λ won. elim h [
      | inl is ↦ ap (λ y. is_better y e) is ∙ never_itself entry_order e
      | inr worse ↦ entry_order.chain x best e worse (entry_order.one_way e best won)
    ]
    | false ↦ λ lost. elim h [ inl is ↦ ap (λ y. is_better y best) is ∙ lost | inr worse ↦ worse ]
  ] refl

  -- one more entry is passed
  consumed : (cut : Cut) (best : Option Entry) (e : Entry) (es : List Entry) → In e entries → is_cut_below cut e.1.low ≡ false → IsSwept cut best (e ∷ es) → IsSwept cut (Some (better_of best e)) es
  consumed cut best e es here low known = record {
    begun = known.begun;
    inside = known.inside;
    stop = known.stop;
    one = better_one cut best e here low known.one;
    behind = λ x h. elim (known.behind x h) [
      | inl left ↦ elim left [ inl is ↦ inr (better_behind best e x (inl is)) | inr more ↦ inl more ]
      | inr worse ↦ inr (better_behind best e x (inr worse))
    ];
    ascends = known.ascends.1;
  }

  -- the cut has moved to the end of the best entry
  moved : (cut : Cut) (best : Entry) (es : List Entry) → is_cut_below cut best.1.high ≡ true → is_cut_below best.1.high target.high ≡ true → IsSwept cut (Some best) es → IsSwept best.1.high (Some best) es
  moved cut best es far inside known =
      let begun : is_cut_below best.1.high target.low ≡ false = later target.low known.begun in record {
        begun = begun;
        inside = inside;
        stop = inr (best, known.one.0, refl, holds target best.1.high begun inside);
        one = (known.one.0, later best.1.low known.one.1);
        behind = known.behind;
        ascends = known.ascends;
      }
    where
      later : (c : Cut) → is_cut_below cut c ≡ false → is_cut_below best.1.high c ≡ false
      later c up = cut_order.chain best.1.high cut c (cut_order.one_way cut best.1.high far) up

  -- no cutting, where the target isn't covered, or the cutting from the cut on
  abbrev pub IsOutcome : Cut → Option (List Entry) → Type 0
  IsOutcome cut None = covers target spans ≡ false
  IsOutcome cut (Some pieces) = IsCutting target entries cut pieces

  with_piece : (cut : Cut) (best : Entry) (pieces : Option (List Entry)) → is_cut_below cut target.high ≡ true → IsBest entries cut best → IsOutcome (piece_of target cut best).1.high pieces → IsOutcome cut (option_map (λ ps. piece_of target cut best ∷ ps) pieces)
  with_piece cut best None inside is out = out
  with_piece cut best (Some pieces) inside is out = (inside, (best, is, refl), out)

  abbrev pub end_of : Entry → Cut
  end_of best = least_cut best.1.high target.high

  -- the last piece
  last_right : (cut : Cut) (best : Entry) → is_cut_below cut best.1.high ≡ true → AreBehind best.1.high (Some best) → AreBehind cut (Some best) → IsSwept cut (Some best) [] → IsOutcome cut (if is_cut_below (end_of best) target.high then None else Some (piece_of target cut best ∷ []))
  last_right cut best far there here known = elim (is_cut_below (end_of best) target.high) as (λ b. is_cut_below (end_of best) target.high ≡ b → IsOutcome cut (if b then None else Some (piece_of target cut best ∷ []))) [
    | true ↦ λ low. let is : end_of best ≡ best.1.high = least_first best.1.high target.high low in
        let inside : is_cut_below best.1.high target.high ≡ true = ap (λ c. is_cut_below c target.high) (sym is) ∙ low in
        let next = moved cut best [] far inside known in
        uncovered best.1.high next.stop (none_holds best.1.high best (never_itself cut_order best.1.high) there)
    | false ↦ λ up. (known.inside, (best, is_best cut best far known.one here, refl), up)
  ] refl

  pub sweep_right : (cut : Cut) (best : Option Entry) (es : List Entry) → ((e : Entry) → In e es → In e entries) → IsSwept cut best es → IsOutcome cut (swept target cut best es)
  sweep_right cut None [] all known = uncovered cut known.stop (none_yet cut (all_done cut None known cut))
  sweep_right cut (Some best) [] all known =
      elim (is_cut_below cut best.1.high) as (λ b. is_cut_below cut best.1.high ≡ b → IsOutcome cut (option_and_then (λ b. if is_cut_below (end_of b) target.high then None else Some (piece_of target cut b ∷ [])) (if b then Some best else None))) [
        | true ↦ λ far. last_right cut best far (all_done cut (Some best) known best.1.high) (all_done cut (Some best) known cut) known
        | false ↦ λ short. uncovered cut known.stop (none_holds cut best short (all_done cut (Some best) known cut))
      ] refl
  sweep_right cut None (e ∷ es) all known =
      elim (is_cut_below cut e.1.low) as (λ r. is_cut_below cut e.1.low ≡ r → IsOutcome cut (if r then None else swept target cut (Some e) es)) [
        | true ↦ λ low. uncovered cut known.stop (none_yet cut (all_behind cut None e es known cut low))
        | false ↦ λ up. sweep_right cut (Some e) es (λ x h. all x (inr h)) (consumed cut None e es (all e (inl refl)) up known)
      ] refl
  sweep_right cut (Some best) (e ∷ es) all known =
      let next = λ (b : Entry). if is_cut_below (end_of b) target.high
      then (if is_cut_below (end_of b) e.1.low then None else option_map (λ ps. piece_of target cut b ∷ ps) (swept target (end_of b) (Some (better_of (Some best) e)) es))
      else Some (piece_of target cut b ∷ []) in
      let last = swept target cut (Some (better_of (Some best) e)) es in
      elim (is_cut_below cut e.1.low) as (λ r. is_cut_below cut e.1.low ≡ r → IsOutcome cut (if r then option_and_then next (if is_cut_below cut best.1.high then Some best else None) else last)) [
        | true ↦ λ low. elim (is_cut_below cut best.1.high) as (λ r. is_cut_below cut best.1.high ≡ r → IsOutcome cut (option_and_then next (if r then Some best else None))) [
          | true ↦ λ far. elim (is_cut_below (end_of best) target.high) as (λ r. is_cut_below (end_of best) target.high ≡ r → IsOutcome cut (if r then (if is_cut_below (end_of best) e.1.low then None else option_map (λ ps. piece_of target cut best ∷ ps) (swept target (end_of best) (Some (better_of (Some best) e)) es)) else Some (piece_of target cut best ∷ []))) [
            | true ↦ λ more.
                let is : end_of best ≡ best.1.high = least_first best.1.high target.high more in
                let at = moved cut best (e ∷ es) far (ap (λ c. is_cut_below c target.high) (sym is) ∙ more) known in
                elim (is_cut_below (end_of best) e.1.low) as (λ r. is_cut_below (end_of best) e.1.low ≡ r → IsOutcome cut (if r then None else option_map (λ ps. piece_of target cut best ∷ ps) (swept target (end_of best) (Some (better_of (Some best) e)) es))) [
                  | true ↦ λ gap. uncovered best.1.high at.stop (none_holds best.1.high best (never_itself cut_order best.1.high) (all_behind cut (Some best) e es known best.1.high (ap (λ c. is_cut_below c e.1.low) (sym is) ∙ gap)))
                  | false ↦ λ near.
                      let there : IsSwept (end_of best) (Some best) (e ∷ es) = subst (λ c. IsSwept c (Some best) (e ∷ es)) (sym is) at in
                      with_piece cut best (swept target (end_of best) (Some (better_of (Some best) e)) es) known.inside (is_best cut best far known.one (all_behind cut (Some best) e es known cut low))
                      (sweep_right (end_of best) (Some (better_of (Some best) e)) es (λ x h. all x (inr h)) (consumed (end_of best) (Some best) e es (all e (inl refl)) near there))
                ] refl
            | false ↦ λ up. (known.inside, (best, is_best cut best far known.one (all_behind cut (Some best) e es known cut low), refl), up)
          ] refl
          | false ↦ λ short. uncovered cut known.stop (none_holds cut best short (all_behind cut (Some best) e es known cut low))
        ] refl
        | false ↦ λ up. sweep_right cut (Some (better_of (Some best) e)) es (λ x h. all x (inr h)) (consumed cut (Some best) e es (all e (inl refl)) up known)
      ] refl

  -- each cut from the beginning of a cutting to the target's end lies in an entry
  cut_held : (from : Cut) (pieces : List Entry) → IsCutting target entries from pieces → (c : Cut) → is_cut_below c from ≡ false → is_cut_below c target.high ≡ true → (e : Entry) × In e entries × (lies_in e.1 c ≡ true)
  cut_held from [] done c up low = let wrong : true ≡ false = sym low ∙ cut_order.chain c from target.high up done in cc
  cut_held from (piece ∷ pieces) h c up low =
      let entry = h.1.0 in
      elim (is_cut_below c entry.1.high) as (λ b. is_cut_below c entry.1.high ≡ b → (e : Entry) × In e entries × (lies_in e.1 c ≡ true)) [
        | true ↦ λ far. (entry, in_from_contains entries entry h.1.1.0, holds entry.1 c (cut_order.chain c from entry.1.low up (begins entry.1 from h.1.1.1)) far)
        | false ↦ λ short. cut_held piece.1.high pieces h.2 c (ap (λ (p : Entry). is_cut_below c p.1.high) h.1.2 ∙ least_not c entry.1.high target.high short low) low
      ] refl

  -- a cutting shows that the entries cover the target
  pub cutting_covers : (pieces : List Entry) → is_cut_below target.low target.high ≡ true → IsCutting target entries target.low pieces → covers target spans ≡ true
  cutting_covers pieces some h = and_from (is_cut_below target.low target.high) (list_all held (stops target spans)) some (list_all_from_in held (stops target spans) each)
    where
      held : Cut → Bool
      held stop = list_any (λ s. lies_in s stop) spans

      at : (c : Cut) → is_cut_below c target.low ≡ false → is_cut_below c target.high ≡ true → held c ≡ true
      at c up low = let found = cut_held target.low pieces h c up low in list_any_from_in (λ s. lies_in s c) spans found.0.1 (in_map (λ (e : Entry). e.1) entries found.0 found.1) found.2

      each : (c : Cut) → In c (stops target spans) → held c ≡ true
      each c (inl e) = ap held e ∙ at target.low (never_itself cut_order target.low) some
      each c (inr more) = let lies = (filter_in (lies_in target) (map (λ (s : Span). s.high) spans) c more).1 in at c (begins target c lies) (ends target c lies)

  -- the pieces of a cutting follow each other
  pub cut_up : (from : Cut) (pieces : List Entry) → IsCutting target entries from pieces → IsCutUp target entries from pieces
  cut_up from [] h = h
  cut_up from (piece ∷ pieces) h = (h.0, (h.1.0, (h.1.1.0, h.1.1.1), h.1.2), cut_up piece.1.high pieces h.2)

  pub parts_follow : (from : Cut) (pieces : List Entry) → IsCutUp target entries from pieces → IsPartition from target.high pieces
  parts_follow from [] h = h
  parts_follow from (piece ∷ pieces) h =
      let entry = h.1.0 in
      let is : piece ≡ piece_of target from entry = h.1.2 in (
        ap (λ (p : Entry). p.1.low) is,
        ap (λ (p : Entry). is_cut_below from p.1.high) is ∙ least_above from entry.1.high target.high (ends entry.1 from h.1.1.1) h.0,
        ap (λ (p : Entry). is_cut_below target.high p.1.high) is ∙ least_up_to entry.1.high target.high,
        parts_follow piece.1.high pieces h.2,
      )

  pub cutting_parts : (from : Cut) (pieces : List Entry) → IsCutting target entries from pieces → IsPartition from target.high pieces
  cutting_parts from pieces h = parts_follow from pieces (cut_up from pieces h)

  pub parts_within : (from : Cut) (pieces : List Entry) → IsCutUp target entries from pieces → AllByRecursion (IsOfEntry entries) pieces
  parts_within from [] h = tt
  parts_within from (piece ∷ pieces) h =
      let entry = h.1.0 in
      let is = h.1.2 in
      ((entry, h.1.1.0, ap (λ (p : Entry). p.0) is, ap (λ (p : Entry). is_contained p.1 entry.1) is ∙ piece_within target from entry h.1.1.1), parts_within piece.1.high pieces h.2)

-- a pass over entries in the order of their lows, none of them before
module _ (target : Span) (entries : List Entry) (some : is_cut_below target.low target.high ≡ true) (ascends : Ascends target entries entries) where
  start : IsSwept target entries target.low None entries
  start = record {
    begun = never_itself cut_order target.low;
    inside = some;
    stop = inl refl;
    one = tt;
    behind = λ e h. inl h;
    ascends = ascends;
  }

  right : IsOutcome target entries target.low (swept target target.low None entries)
  right = sweep_right target entries target.low None entries (λ e h. h) start

  pub none_covers : swept target target.low None entries ≡ None → covers target (map (λ (e : Entry). e.1) entries) ≡ false
  none_covers e = subst (IsOutcome target entries target.low) e right

  pub some_cutting : (pieces : List Entry) → swept target target.low None entries ≡ Some pieces → IsCutting target entries target.low pieces
  some_cutting pieces e = subst (IsOutcome target entries target.low) e right

  pub some_covers : (pieces : List Entry) → swept target target.low None entries ≡ Some pieces → covers target (map (λ (e : Entry). e.1) entries) ≡ true
  some_covers pieces e = cutting_covers target entries pieces some (some_cutting pieces e)

  -- the last piece decides
  pub last_found : (end : Cut) (pieces : List Entry) → swept target target.low None entries ≡ (if is_cut_below end target.high then None else Some pieces) → not (is_cut_below end target.high) ≡ covers target (map (λ (e : Entry). e.1) entries)
  last_found end pieces is = elim (is_cut_below end target.high) as (λ r. swept target target.low None entries ≡ (if r then None else Some pieces) → not r ≡ covers target (map (λ (e : Entry). e.1) entries)) [
    | true ↦ λ h. sym (none_covers h)
    | false ↦ λ h. sym (some_covers pieces h)
  ] is

  pub last_cutting : (end : Cut) (pieces : List Entry) → swept target target.low None entries ≡ (if is_cut_below end target.high then None else Some pieces) → not (is_cut_below end target.high) ≡ true → IsCutting target entries target.low pieces
  last_cutting end pieces is done = elim (is_cut_below end target.high) as (λ r. swept target target.low None entries ≡ (if r then None else Some pieces) → not r ≡ true → IsCutting target entries target.low pieces) [
    | true ↦ λ h e. cc
    | false ↦ λ h e. some_cutting pieces h
  ] is done

-- entries that a sort has put in the order of their lows
pub ascends_sorted : (target : Span) (entries es : List Entry) → IsSortedBy is_lower es → Ascends target entries es
ascends_sorted target entries [] up = tt
ascends_sorted target entries (e ∷ es) up = (later, ascends_sorted target entries es (λ k d low high. rw add-one (rw add-one at (up (suc k) d (omega arith) (omega arith)))))
  where
    order : IsStrictWeakOrder is_lower
    order = ranks_by cut_cmp_total (λ (e : Entry). e.1.low)

    later : (x : Entry) → In x es → is_cut_below x.1.low e.1.low ≡ false
    later x h = let found = contains_from_in es x h in
        ap (λ (y : Entry). is_cut_below y.1.low e.1.low) (sym found.2) ∙ sorted_far is_lower order (e ∷ es) up 0 (suc found.0) x (omega arith) (omega (arith, found.1))
