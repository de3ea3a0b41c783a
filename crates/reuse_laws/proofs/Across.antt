-- The selections over pieces that follow each other, merged by heads, are the plain selection.
use Rattle.std.proofs.Common.{◌≡◌, Bool, true, false, not, ◌&&◌, List, [], ◌∷◌, ◌++◌, map, cond, ◌⊎◌, inl, inr, refl, ap, sym, ◌∙◌, subst, append_assoc}
use Rattle.std.specs.Prelude.{filter, flat_map}
use Rattle.std.specs.Cmp.{first_so, second_so, IsStrictWeakOrder}
use Rattle.std.proofs.lemmas.List.MinMax.{ranks_by}
use Rattle.cell_core.specs.declared.cell.Cell.{Cell}
use Rattle.cell_core.specs.declared.cut.Cut.{Cut}
use Rattle.cell_core.specs.declared.cut.Cut.TheVariants.{Before}
use Rattle.cell_core.specs.declared.cut.Span.{Span}
use Rattle.cell_core.specs.Order.{cell_cmp_total}
use Rattle.cell_core.specs.Cuts.{is_cut_below, is_cut_up_to, lies_in}
use Rattle.cell_core.specs.Pairs.{Pairs, is_nil}
use Rattle.cell_core.specs.Sorted.{sorted_by}
use Rattle.subsume.specs.Cutting.{Entry, IsPartition}
use Rattle.subsume.proofs.CutOrder.{cut_order, up_to_is, below_up_to, up_to_below, unnot}
use Rattle.reuse_laws.specs.Reuse.{holds, picked, Rises}
use Rattle.cell_core.specs.Merged.{by_head, merged}
use Rattle.reuse_laws.proofs.Merge.{IsFirst, first_left, first_out}

pub head_order : IsStrictWeakOrder by_head
head_order = ranks_by cell_cmp_total (λ (p : Cell × Cell). p.0)

-- the span between two cuts
abbrev pub between : Cut → Cut → Span
between from to = record { low = from; high = to }

-- between two cuts of which the second isn't after the first lies no cut
none_between : (from to cut : Cut) → is_cut_below from to ≡ false → lies_in (between from to) cut ≡ false
none_between from to cut e = elim (lies_in (between from to) cut) as (λ b. lies_in (between from to) cut ≡ b → b ≡ false) [
  | true ↦ λ h. let wrong : true ≡ false = sym (up_to_below from cut to (unnot (is_cut_below cut from) (sym (up_to_is from cut) ∙ first_so (is_cut_up_to from cut) (is_cut_below cut to) h)) (second_so (is_cut_up_to from cut) (is_cut_below cut to) h)) ∙ e in cc
  | false ↦ λ _. refl
] refl

-- a cut between two lies before a third in between, or after it
split_at : (from mid to cut : Cut) → is_cut_below from mid ≡ true → is_cut_below to mid ≡ false
    → ((lies_in (between from mid) cut ≡ lies_in (between from to) cut) × (lies_in (between mid to) cut ≡ false))
    ⊎ ((lies_in (between from mid) cut ≡ false) × (lies_in (between mid to) cut ≡ lies_in (between from to) cut))
split_at from mid to cut some inside = elim (is_cut_below cut mid) as (λ b. is_cut_below cut mid ≡ b → ((lies_in (between from mid) cut ≡ lies_in (between from to) cut) × (lies_in (between mid to) cut ≡ false)) ⊎ ((lies_in (between from mid) cut ≡ false) × (lies_in (between mid to) cut ≡ lies_in (between from to) cut))) [
  | true ↦ λ e. inl (
    ap (λ b. is_cut_up_to from cut && b) (e ∙ sym (below_up_to cut mid to e inside)),
    ap (λ b. b && is_cut_below cut to) (up_to_is mid cut ∙ ap not e),
  )
  | false ↦ λ e. inr (
    ap (λ b. is_cut_up_to from cut && b) e ∙ none_so (is_cut_up_to from cut),
    ap (λ b. b && is_cut_below cut to) (up_to_is mid cut ∙ ap not e) ∙ sym (ap (λ b. b && is_cut_below cut to) (up_to_is from cut ∙ ap not (not_before e))),
  )
] refl
  where
    none_so : (b : Bool) → (b && false) ≡ false
    none_so true = refl
    none_so false = refl

    not_before : is_cut_below cut mid ≡ false → is_cut_below cut from ≡ false
    not_before e = elim (is_cut_below cut from) as (λ b. is_cut_below cut from ≡ b → b ≡ false) [
      | true ↦ λ h. let wrong : true ≡ false = sym (below_up_to cut from mid h (cut_order.one_way from mid some)) ∙ e in cc
      | false ↦ λ _. refl
    ] refl

-- what the pieces keep, one after the other
abbrev pub parts : List Entry → Pairs → Pairs
parts pieces b = flat_map (λ (e : Entry). picked e.1 b) pieces

-- one pair more is once among the parts
pub record IsTaken (pieces : List Entry) (p : Cell × Cell) (ps : Pairs) : Type 0 where
  pub before : Pairs
  pub behind : Pairs
  pub more : parts pieces (p ∷ ps) ≡ before ++ p ∷ behind
  pub less : parts pieces ps ≡ before ++ behind

pub record IsLeft (pieces : List Entry) (p : Cell × Cell) (ps : Pairs) : Type 0 where
  pub same : parts pieces (p ∷ ps) ≡ parts pieces ps

-- a piece keeps the pair or not
kept : (span : Span) (p : Cell × Cell) (ps : Pairs) → holds span p.1 ≡ true → picked span (p ∷ ps) ≡ p ∷ picked span ps
kept span p ps e = ap (λ b. cond b (p ∷ picked span ps) (picked span ps)) e

not_picked : (span : Span) (p : Cell × Cell) (ps : Pairs) → holds span p.1 ≡ false → picked span (p ∷ ps) ≡ picked span ps
not_picked span p ps e = ap (λ b. cond b (p ∷ picked span ps) (picked span ps)) e

left_more : (e : Entry) (es : List Entry) (p : Cell × Cell) (ps : Pairs) → holds e.1 p.1 ≡ false → IsLeft es p ps → IsLeft (e ∷ es) p ps
left_more e es p ps out_ rest = record { same = ap (λ q. q ++ parts es (p ∷ ps)) (not_picked e.1 p ps out_) ∙ ap (λ q. picked e.1 ps ++ q) rest.same }

taken_here : (e : Entry) (es : List Entry) (p : Cell × Cell) (ps : Pairs) → holds e.1 p.1 ≡ true → IsLeft es p ps → IsTaken (e ∷ es) p ps
taken_here e es p ps in_ rest = record {
  before = [];
  behind = picked e.1 ps ++ parts es ps;
  more = ap (λ q. q ++ parts es (p ∷ ps)) (kept e.1 p ps in_) ∙ ap (λ q. p ∷ (picked e.1 ps ++ q)) rest.same;
  less = refl;
}

taken_later : (e : Entry) (es : List Entry) (p : Cell × Cell) (ps : Pairs) → holds e.1 p.1 ≡ false → IsTaken es p ps → IsTaken (e ∷ es) p ps
taken_later e es p ps out_ rest = record {
  before = picked e.1 ps ++ rest.before;
  behind = rest.behind;
  more = ap (λ q. q ++ parts es (p ∷ ps)) (not_picked e.1 p ps out_) ∙ ap (λ q. picked e.1 ps ++ q) rest.more ∙ sym (append_assoc (picked e.1 ps) rest.before (p ∷ rest.behind));
  less = ap (λ q. picked e.1 ps ++ q) rest.less ∙ sym (append_assoc (picked e.1 ps) rest.before rest.behind);
}

some_cell : (b c : Bool) → b ≡ true → (b && c) ≡ c
some_cell b c e = ap (λ x. x && c) e

none_of : (b c : Bool) → c ≡ false → (b && c) ≡ false
none_of true c e = e
none_of false c e = refl

-- a Nil is kept by out_ piece
nil_left : (pieces : List Entry) (p : Cell × Cell) (ps : Pairs) → is_nil p.1 ≡ true → IsLeft pieces p ps
nil_left [] p ps e = record { same = refl }
nil_left (x ∷ xs) p ps e = left_more x xs p ps (ap (λ b. not b && lies_in x.1 (Before p.1)) e) (nil_left xs p ps e)

-- a pair whose tail lies between the cuts is in one part, and another one in none
abbrev pub Placed : Cut → Cut → List Entry → Cell × Cell → Pairs → Type 0
Placed from to pieces p ps =
    (lies_in (between from to) (Before p.1) ≡ true → IsTaken pieces p ps) × (lies_in (between from to) (Before p.1) ≡ false → IsLeft pieces p ps)

span_is : (span : Span) (low : Cut) (cut : Cut) → span.low ≡ low → lies_in span cut ≡ lies_in (between low span.high) cut
span_is span low cut e = ap (λ l. is_cut_up_to l cut && is_cut_below cut span.high) e

placed_step : (from to : Cut) (piece : Entry) (pieces : List Entry) (p : Cell × Cell) (ps : Pairs) → is_nil p.1 ≡ false → IsPartition from to (piece ∷ pieces) → Placed piece.1.high to pieces p ps → Placed from to (piece ∷ pieces) p ps
placed_step from to piece pieces p ps cell known rest =
    let tail_is : holds piece.1 p.1 ≡ lies_in piece.1 (Before p.1) = some_cell (not (is_nil p.1)) (lies_in piece.1 (Before p.1)) (ap not cell) in
    let here_is : holds piece.1 p.1 ≡ lies_in (between from piece.1.high) (Before p.1) = tail_is ∙ span_is piece.1 from (Before p.1) known.0 in
    elim (split_at from piece.1.high to (Before p.1) known.1 known.2) [
      | inl h ↦ (λ in_. taken_here piece pieces p ps (here_is ∙ h.0 ∙ in_) (rest.1 h.1), λ out_. left_more piece pieces p ps (here_is ∙ h.0 ∙ out_) (rest.1 h.1))
      | inr h ↦ (λ in_. taken_later piece pieces p ps (here_is ∙ h.0) (rest.0 (h.1 ∙ in_)), λ out_. left_more piece pieces p ps (here_is ∙ h.0) (rest.1 (h.1 ∙ out_)))
    ]

placed : (from to : Cut) (pieces : List Entry) (p : Cell × Cell) (ps : Pairs) → is_nil p.1 ≡ false → IsPartition from to pieces → Placed from to pieces p ps
placed from to [] p ps cell known =
    (λ in_. let wrong : true ≡ false = sym in_ ∙ none_between from to (Before p.1) known in cc, λ out_. record { same = refl })
placed from to (piece ∷ pieces) p ps cell known = placed_step from to piece pieces p ps cell known (placed piece.1.high to pieces p ps cell known.3)

-- what is before all pairs is before all that a part keeps
first_filter : (p : Cell × Cell) (test : Cell × Cell → Bool) (qs : Pairs) → IsFirst by_head head_order p qs → IsFirst by_head head_order p (filter test qs)
first_filter p test [] all = tt
first_filter p test (q ∷ qs) all = elim (test q) as (λ b. IsFirst by_head head_order p (cond b (q ∷ filter test qs) (filter test qs))) [ true ↦ (all.0, first_filter p test qs all.1) | false ↦ first_filter p test qs all.1 ]

first_parts : (p : Cell × Cell) (pieces : List Entry) (ps : Pairs) → IsFirst by_head head_order p ps → IsFirst by_head head_order p (parts pieces ps)
first_parts p [] ps all = tt
first_parts p (e ∷ es) ps all = first_left by_head head_order p (picked e.1 ps) (parts es ps) (first_filter p (λ q. holds e.1 q.1) ps all) (first_parts p es ps all)

first_of_left : (p : Cell × Cell) (xs ys : Pairs) → IsFirst by_head head_order p (xs ++ ys) → IsFirst by_head head_order p xs
first_of_left p [] ys all = tt
first_of_left p (x ∷ xs) ys all = (all.0, first_of_left p xs ys all.1)

first_of_right : (p : Cell × Cell) (xs ys : Pairs) → IsFirst by_head head_order p (xs ++ ys) → IsFirst by_head head_order p ys
first_of_right p [] ys all = all
first_of_right p (x ∷ xs) ys all = first_of_right p xs ys all.1

-- the parts of pieces that follow each other, in the order of their heads
sorted_parts : (from to : Cut) (pieces : List Entry) (b : Pairs) → IsPartition from to pieces → Rises b → sorted_by by_head (parts pieces b) ≡ picked (between from to) b
sorted_parts from to pieces [] known up = ap (sorted_by by_head) (none pieces)
  where
    none : (es : List Entry) → parts es [] ≡ []
    none [] = refl
    none (e ∷ es) = none es
sorted_parts from to pieces (p ∷ ps) known up =
    more (sorted_parts from to pieces ps known up.1)
  where
    here : sorted_by by_head (parts pieces ps) ≡ picked (between from to) ps → is_nil p.1 ≡ false → lies_in (between from to) (Before p.1) ≡ true → IsTaken pieces p ps → sorted_by by_head (parts pieces (p ∷ ps)) ≡ picked (between from to) (p ∷ ps)
    here rest cell in_ t =
        let all : IsFirst by_head head_order p (t.before ++ t.behind) = subst (λ xs. IsFirst by_head head_order p xs) t.less (first_parts p pieces ps up.0) in
        ap (sorted_by by_head) t.more
        ∙ first_out by_head head_order p t.before t.behind (first_of_left p t.before t.behind all) (first_of_right p t.before t.behind all)
        ∙ ap (λ xs. p ∷ sorted_by by_head xs) (sym t.less)
        ∙ ap (λ xs. p ∷ xs) rest
        ∙ sym (kept (between from to) p ps (some_cell (not (is_nil p.1)) (lies_in (between from to) (Before p.1)) (ap not cell) ∙ in_))

    more : sorted_by by_head (parts pieces ps) ≡ picked (between from to) ps → sorted_by by_head (parts pieces (p ∷ ps)) ≡ picked (between from to) (p ∷ ps)
    more rest = elim (is_nil p.1) as (λ b. is_nil p.1 ≡ b → sorted_by by_head (parts pieces (p ∷ ps)) ≡ picked (between from to) (p ∷ ps)) [
      | true ↦ λ e. ap (sorted_by by_head) (nil_left pieces p ps e).same ∙ rest ∙ sym (not_picked (between from to) p ps (ap (λ b. not b && lies_in (between from to) (Before p.1)) e))
      | false ↦ λ cell. elim (lies_in (between from to) (Before p.1)) as (λ b. lies_in (between from to) (Before p.1) ≡ b → sorted_by by_head (parts pieces (p ∷ ps)) ≡ picked (between from to) (p ∷ ps)) [
        | true ↦ λ in_. here rest cell in_ ((placed from to pieces p ps cell known).0 in_)
        | false ↦ λ out_. ap (sorted_by by_head) ((placed from to pieces p ps cell known).1 out_).same ∙ rest ∙ sym (not_picked (between from to) p ps (none_of (not (is_nil p.1)) (lies_in (between from to) (Before p.1)) out_))
      ] refl
    ] refl

joined_parts : (pieces : List Entry) (b : Pairs) → flat_map (λ part. part) (map (λ (e : Entry). picked e.1 b) pieces) ≡ parts pieces b
joined_parts [] b = refl
joined_parts (e ∷ es) b = ap (λ xs. picked e.1 b ++ xs) (joined_parts es b)

pub merged_across : (target : Span) (pieces : List Entry) (b : Pairs) → IsPartition target.low target.high pieces → Rises b → merged (map (λ (e : Entry). picked e.1 b) pieces) ≡ picked target b
merged_across target pieces b known up = ap (sorted_by by_head) (joined_parts pieces b) ∙ sorted_parts target.low target.high pieces b known up
