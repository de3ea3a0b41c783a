-- The chosen chain as a function, and the pieces that it cuts out of a target.
use Rattle.std.specs.Prelude.{◌≡◌, ◌↔◌, ℕ, zero, suc, List, [], ◌∷◌, length, map, filter, flat_map, true, false, if◌then◌else◌, Option, Some, None, slice_index_or}
use Rattle.std.specs.List.{range_with_len}
use Rattle.std.specs.Option.{option_map}
use Rattle.cell_core.specs.declared.cut.Cut.{Cut}
use Rattle.cell_core.specs.declared.cut.Cut.TheVariants.{Low}
use Rattle.cell_core.specs.declared.cut.Span.{Span}
use Rattle.cell_core.specs.Cuts.{covers, is_cut_below, lies_in}
use Rattle.cell_core.specs.Sorted.{first_by}
use Rattle.subsume.specs.Cutting.{Entry, IsCutUp, piece_of}
use Rattle.least_cover.specs.Covers.{Priced, IsChosen, comes_before, span_at}

-- the places of the spans that hold a cut
abbrev pub holders : List Priced → Cut → List ℕ
holders spans cut = filter (λ place. lies_in (span_at spans place) cut) (range_with_len 0 (length spans))

-- all chains from a cut on that have at most so many spans
abbrev pub chains_from : ℕ → List Priced → Span → Cut → List (List ℕ)
chains_from zero spans target cut = if is_cut_below cut target.high then [] else [] ∷ []
chains_from (suc n) spans target cut =
    if is_cut_below cut target.high
    then flat_map (λ place. map (λ places. place ∷ places) (chains_from n spans target (span_at spans place).high)) (holders spans cut)
    else [] ∷ []

-- the chosen chain through a target: of all chains the one that comes first
abbrev pub chain_of : Span → List Priced → Option (List ℕ)
chain_of target spans = if is_cut_below target.low target.high then first_by (comes_before spans) (chains_from (length spans) spans target target.low) else None

-- ## Selections with ids

-- the id of a selection, its number of rows, and its span
abbrev pub Selection : Type 0
Selection = ℕ × Priced

abbrev pub entry_of : Selection → Entry
entry_of selection = (selection.0, selection.1.1)

abbrev pub entry_at : List Selection → ℕ → Entry
entry_at selections place = entry_of (slice_index_or selections place (0, (0, record { low = Low; high = Low })))

-- the pieces of a chain from a cut on: each has its selection's id, and goes on until its span ends or the target does
abbrev pub pieces_from : Span → List Selection → Cut → List ℕ → List Entry
pieces_from target selections cut [] = []
pieces_from target selections cut (place ∷ places) =
    piece_of target cut (entry_at selections place) ∷ pieces_from target selections (piece_of target cut (entry_at selections place)).1.high places

-- the pieces of the cheapest cover of a target by selections, if they cover it
abbrev pub cheapest_of : Span → List Selection → Option (List Entry)
cheapest_of target selections =
    option_map (pieces_from target selections target.low) (chain_of target (map (λ (s : Selection). s.1) selections))

-- ## Laws

-- a chain is what the function returns exactly where it is the chosen one and the target isn't empty; and it returns none where the target isn't covered, and nowhere else
abbrev pub ChosenIsFunction : Type 0
ChosenIsFunction = (spans : List Priced) (target : Span)
    → ((chain : List ℕ) → (chain_of target spans ≡ Some chain) ↔ ((is_cut_below target.low target.high ≡ true) × IsChosen spans target target.low chain))
    × ((chain_of target spans ≡ None) ↔ (covers target (map (λ (e : Priced). e.1) spans) ≡ false))

-- the pieces of the cheapest cover cut up the target, and there are none exactly where the selections don't cover it
abbrev pub CheapestCutsUp : Type 0
CheapestCutsUp = (target : Span) (selections : List Selection)
    → ((pieces : List Entry) → cheapest_of target selections ≡ Some pieces → IsCutUp target (map entry_of selections) target.low pieces)
    × ((cheapest_of target selections ≡ None) ↔ (covers target (map (λ (s : Selection). s.1.1) selections) ≡ false))
