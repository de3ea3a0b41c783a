-- What a session computes from pooled selections is the plain selection.
use Rattle.std.proofs.Common.{◌≡◌, ℕ, true, false, List, [], ◌∷◌, map, refl, ap, sym, ◌∙◌}
use Rattle.std.specs.Prelude.{Contains, if◌then◌else◌}
use Rattle.std.specs.List.{AllByRecursion}
use Rattle.std.specs.Cmp.{first_so, second_so}
use Rattle.std.proofs.lemmas.Bool.{and_from}
use Rattle.cell_core.specs.declared.cell.Cell.{Cell}
use Rattle.cell_core.specs.declared.cut.Cut.{Cut}
use Rattle.cell_core.specs.declared.cut.Cut.TheVariants.{Low, Before, After, High}
use Rattle.cell_core.specs.declared.cut.Span.{Span}
use Rattle.cell_core.specs.Cuts.{is_cut_below}
use Rattle.cell_core.specs.Pairs.{Pairs, is_true}
use Rattle.cell_core.specs.Relations.{selected}
use Rattle.subsume.specs.Cutting.{Entry, is_contained, least_cut, IsCutUp, IsOfEntry}
use Rattle.subsume.proofs.Cuttings.{cut_up, parts_follow, parts_within}
use Rattle.reuse_laws.specs.Reuse.{picked, span_for, selected_in, is_low_end, is_high_end, is_askable}
use Rattle.cell_core.specs.Merged.{merged}
use Rattle.reuse_laws.specs.Laws.{SelectionsAcross, CuttingsServe, PiecesServe}
use Rattle.reuse_laws.proofs.Bridge.{selected_is, selected_in_is}
use Rattle.reuse_laws.proofs.Within.{picked_within}
use Rattle.reuse_laws.proofs.Across.{merged_across}

-- ## Pieces

-- a cut at which a selection may end, and which is before another cut, is one at which one may begin
begins_on : (cut other : Cut) → is_high_end cut ≡ true → is_cut_below cut other ≡ true → is_low_end cut ≡ true
begins_on Low other e low = cc
begins_on (Before c) other e low = e
begins_on (After c) other e low = e
begins_on High Low e low = cc
begins_on High (Before c) e low = cc
begins_on High (After c) e low = cc
begins_on High High e low = cc

least_ends : (a b : Cut) → is_high_end a ≡ true → is_high_end b ≡ true → is_high_end (least_cut a b) ≡ true
least_ends a b x y = elim (is_cut_below b a) as (λ r. is_high_end (if r then b else a) ≡ true) [ true ↦ y | false ↦ x ]

pub pieces_ask : (target : Span) (entries : List Entry) (cut : Cut) (pieces : List Entry) → is_high_end target.high ≡ true → ((e : Entry) → Contains entries e → is_high_end e.1.high ≡ true) → (is_cut_below cut target.high ≡ true → is_low_end cut ≡ true) → IsCutUp target entries cut pieces → AllByRecursion (λ (piece : Entry). is_askable piece.1 ≡ true) pieces
pieces_ask target entries cut [] ends all begun known = tt
pieces_ask target entries cut (piece ∷ pieces) ends all begun known =
    let entry = known.1.0 in
    let high : is_high_end piece.1.high ≡ true = ap (λ (p : Entry). is_high_end p.1.high) known.1.2 ∙ least_ends entry.1.high target.high (all entry known.1.1.0) ends in (
      and_from (is_low_end piece.1.low) (is_high_end piece.1.high) (ap (λ (p : Entry). is_low_end p.1.low) known.1.2 ∙ begun known.0) high,
      pieces_ask target entries piece.1.high pieces ends all (begins_on piece.1.high target.high high) known.2,
    )

-- ## Values

-- what is computed for the pieces is what they keep of the parent
same_parts : (entries : List Entry) (value : ℕ → Pairs) (b : Pairs) (pieces : List Entry) → ((e : Entry) → Contains entries e → value e.0 ≡ picked e.1 b) → AllByRecursion (IsOfEntry entries) pieces → AllByRecursion (λ (piece : Entry). is_askable piece.1 ≡ true) pieces
    → map (λ (piece : Entry). selected_in piece.1 (value piece.0)) pieces ≡ map (λ (piece : Entry). picked piece.1 b) pieces
same_parts entries value b [] values of ask = refl
same_parts entries value b (piece ∷ pieces) values of ask =
    let entry = of.0.0 in
    let one : selected_in piece.1 (value piece.0) ≡ picked piece.1 b =
    selected_in_is piece.1 (value piece.0) ask.0
    ∙ ap (λ id. picked piece.1 (value id)) of.0.2
    ∙ ap (picked piece.1) (values entry of.0.1)
    ∙ picked_within piece.1 entry.1 b of.0.3 in
    ap (λ x. x ∷ map (λ (p : Entry). selected_in p.1 (value p.0)) pieces) one ∙ ap (λ xs. picked piece.1 b ∷ xs) (same_parts entries value b pieces values of.1 ask.1)

-- a selection from the result of a containing selection is the plain selection
pub reused_within : (low high li hi low2 high2 li2 hi2 : Cell) (b : Pairs) → is_contained (span_for low high li hi) (span_for low2 high2 li2 hi2) ≡ true
    → selected low high (is_true li) (is_true hi) (selected low2 high2 (is_true li2) (is_true hi2) b) ≡ selected low high (is_true li) (is_true hi) b
reused_within low high li hi low2 high2 li2 hi2 b inside =
    selected_is low high li hi (selected low2 high2 (is_true li2) (is_true hi2) b)
    ∙ ap (picked (span_for low high li hi)) (selected_is low2 high2 li2 hi2 b)
    ∙ picked_within (span_for low high li hi) (span_for low2 high2 li2 hi2) b inside
    ∙ sym (selected_is low high li hi b)

-- the selections of pieces that follow each other, each from the value of its entry, merged by heads, are the plain selection
pub reused_across : SelectionsAcross
reused_across target entries value b pieces values up parts of ask =
    ap merged (same_parts entries value b pieces values of ask) ∙ merged_across target pieces b parts up

-- those of a greedy cutting are such
pub pieces_serve : PiecesServe
pieces_serve target entries pieces ask all known =
    let low = first_so (is_low_end target.low) (is_high_end target.high) ask in
    let high = second_so (is_low_end target.low) (is_high_end target.high) ask in (
      parts_follow target entries target.low pieces known,
      parts_within target entries target.low pieces known,
      pieces_ask target entries target.low pieces high (λ e c. second_so (is_low_end e.1.low) (is_high_end e.1.high) (all e c)) (λ _. low) known,
    )

pub cuttings_serve : CuttingsServe
cuttings_serve target entries pieces ask all known = pieces_serve target entries pieces ask all (cut_up target entries target.low pieces known)
