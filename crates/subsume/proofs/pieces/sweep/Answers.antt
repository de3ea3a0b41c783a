use Rattle.std.proofs.Common.{◌+◌, List, ◌++◌, not, Some, None, map, drop, sym, ap, ◌∙◌, arith, Bor, Vec, Global}
use Rattle.std.specs.Prelude.{if◌then◌else◌}
use Rattle.std.specs.Option.{option_copied, option_map}
use Rattle.cell_core.specs.declared.cut.Cut.{Cut}
use Rattle.cell_core.specs.Cuts.{is_cut_below}
use Rattle.subsume.specs.Cutting.{Entry}
use Rattle.subsume.proofs.Cuttings.{ascends_sorted, none_covers, some_covers, some_cutting, last_found, last_cutting}
use Rattle.subsume.proofs.Sweep.{swept, drop_at, goes_on, goes_on_behind, ends_none, ends_last, stops_stuck, stops_whole, stops_gap, swept_short, nothing_left}
use Rattle.subsume.proofs.pieces.sweep.Goals as goal
use Rattle.subsume.proofs.pieces.sweep.Goals.{then-is_below+in-Some+in_ok-cut-2+else-not-is_below+else-is_below-2, else-is_below}

abbrev now_of : Bor Entry → Entry
now_of e = e.now

abbrev all_of : List (Bor Entry) → List Entry
all_of es = map now_of es

pub returns-in-None-clause-found : goal.returns-in-None-clause-found
returns-in-None-clause-found c =
    let order = c.args.order.now in
    let target = c.args.target.now in
    let at = drop_at now_of order c.spans.entry-index c.entry-item.result (omega arith) c.entry-item.is in
    let whole = stops_stuck target c.spans.cut (option_copied c.spans.best) c.spans.out.items (all_of (drop c.spans.entry-index order)) (swept target target.low None (all_of order)) c.spans.invariant
    c.entry-item.result.now (all_of (drop (c.spans.entry-index + 1) order)) at (sym c.if-is_below.ensures) (sym c.in-None.ensures) in
    sym (none_covers target (all_of order) c.requires.some (ascends_sorted target (all_of order) (all_of order) c.requires.sorted) whole)

pub returns-then-not-is_below-clause-found : goal.returns-then-not-is_below-clause-found
returns-then-not-is_below-clause-found c =
    let order = c.args.order.now in
    let target = c.args.target.now in
    let at = drop_at now_of order c.spans.entry-index c.entry-item.result (omega arith) c.entry-item.is in
    let whole = stops_whole target c.spans.cut (option_copied c.spans.best) c.spans.out.items (all_of (drop c.spans.entry-index order)) (swept target target.low None (all_of order)) c.spans.invariant
    c.entry-item.result.now (all_of (drop (c.spans.entry-index + 1) order)) at
    c.in-Some.span.now c.in_ok-cut-2.cut (sym c.if-is_below.ensures) (sym c.in-Some.ensures) c.in_ok-cut-2.ensures.end (sym c.if-not-is_below.ensures) in
    sym (some_covers target (all_of order) c.requires.some (ascends_sorted target (all_of order) (all_of order) c.requires.sorted) _ whole)

pub returns-then-not-is_below-clause-cutting : goal.returns-then-not-is_below-clause-cutting
returns-then-not-is_below-clause-cutting c found =
    let order = c.args.order.now in
    let target = c.args.target.now in
    let at = drop_at now_of order c.spans.entry-index c.entry-item.result (omega arith) c.entry-item.is in
    let whole = stops_whole target c.spans.cut (option_copied c.spans.best) c.spans.out.items (all_of (drop c.spans.entry-index order)) (swept target target.low None (all_of order)) c.spans.invariant
    c.entry-item.result.now (all_of (drop (c.spans.entry-index + 1) order)) at
    c.in-Some.span.now c.in_ok-cut-2.cut (sym c.if-is_below.ensures) (sym c.in-Some.ensures) c.in_ok-cut-2.ensures.end (sym c.if-not-is_below.ensures) in
    some_cutting target (all_of order) c.requires.some (ascends_sorted target (all_of order) (all_of order) c.requires.sorted) c.push_piece.new.out.items (whole ∙ ap Some (sym c.in_ok-cut-2.ensures.piece))

pub returns-then-is_below-2-clause-found : goal.returns-then-is_below-2-clause-found
returns-then-is_below-2-clause-found c =
    let order = c.args.order.now in
    let target = c.args.target.now in
    let at = drop_at now_of order c.spans.entry-index c.entry-item.result (omega arith) c.entry-item.is in
    let whole = stops_gap target c.spans.cut (option_copied c.spans.best) c.spans.out.items (all_of (drop c.spans.entry-index order)) (swept target target.low None (all_of order)) c.spans.invariant
    c.entry-item.result.now (all_of (drop (c.spans.entry-index + 1) order)) at
    c.in-Some.span.now c.in_ok-cut-2.cut (sym c.if-is_below.ensures) (sym c.in-Some.ensures) c.in_ok-cut-2.ensures.end (sym c.if-not-is_below.ensures) (sym c.if-is_below-2.ensures) in
    sym (none_covers target (all_of order) c.requires.some (ascends_sorted target (all_of order) (all_of order) c.requires.sorted) whole)

pub spans-preserved : goal.spans-preserved
spans-preserved c =
    let order = c.args.order.now in
    let target = c.args.target.now in
    let at = drop_at now_of order c.spans.entry-index c.entry-item.result (omega arith) c.entry-item.is in
    let new = c.better.result.now in
    elim c.if-is_below.branch [
      | then-is_below+in-Some+in_ok-cut-2+else-not-is_below+else-is_below-2 w ↦ goes_on_behind target c.spans.cut (option_copied c.spans.best) c.spans.out.items (all_of (drop c.spans.entry-index order)) (swept target target.low None (all_of order)) c.spans.invariant
          c.entry-item.result.now (all_of (drop (c.spans.entry-index + 1) order)) at
          w.in-Some.span.now new c.if-is_below.out.items c.if-is_below.cut (sym w.if-is_below.ensures) (sym w.in-Some.ensures)
          (ap (λ (v : Vec Entry Global). v.items) w.out-is ∙ w.in_ok-cut-2.ensures.piece) (w.cut-is ∙ w.in_ok-cut-2.ensures.end)
          (ap (λ (k : Cut). is_cut_below k target.high) w.cut-is ∙ sym w.if-not-is_below.ensures) (ap (λ (k : Cut). is_cut_below k c.entry-item.result.now.1.low) w.cut-is ∙ sym w.if-is_below-2.ensures) c.better.ensures
      | else-is_below w ↦
          ap (λ (v : Vec Entry Global). option_map (λ ps. v.items ++ ps) (swept target c.if-is_below.cut (Some new) (all_of (drop (c.spans.entry-index + 1) order)))) w.out-is
          ∙ ap (λ (k : Cut). option_map (λ ps. c.spans.out.items ++ ps) (swept target k (Some new) (all_of (drop (c.spans.entry-index + 1) order)))) w.cut-is
          ∙ goes_on target c.spans.cut (option_copied c.spans.best) c.spans.out.items (all_of (drop c.spans.entry-index order)) (swept target target.low None (all_of order)) c.spans.invariant
          c.entry-item.result.now (all_of (drop (c.spans.entry-index + 1) order)) at new (sym w.if-is_below.ensures) c.better.ensures
    ]

pub returns-in-None-reaching-clause-found : goal.returns-in-None-reaching-clause-found
returns-in-None-reaching-clause-found c =
    let order = c.args.order.now in
    let target = c.args.target.now in
    let nothing = nothing_left now_of order c.spans.entry-index (omega arith) in
    let whole = ends_none target c.spans.cut (option_copied c.spans.best) c.spans.out.items (all_of (drop c.spans.entry-index order)) (swept target target.low None (all_of order)) c.spans.invariant
    (ap (swept target c.spans.cut (option_copied c.spans.best)) nothing ∙ swept_short target c.spans.cut (option_copied c.spans.best) (sym c.in-None-reaching.ensures)) in
    sym (none_covers target (all_of order) c.requires.some (ascends_sorted target (all_of order) (all_of order) c.requires.sorted) whole)

pub returns-clause-found : goal.returns-clause-found
returns-clause-found c =
    let order = c.args.order.now in
    let target = c.args.target.now in
    let nothing = nothing_left now_of order c.spans.entry-index (omega arith) in
    let ends = ends_last target c.spans.cut (option_copied c.spans.best) c.spans.out.items (all_of (drop c.spans.entry-index order)) (swept target target.low None (all_of order)) c.spans.invariant
    nothing c.in-Some-reaching.span.now c.in_ok-end.end (sym c.in-Some-reaching.ensures) c.in_ok-end.ensures.end in
    ap not c.is_below-2.ensures ∙ last_found target (all_of order) c.requires.some (ascends_sorted target (all_of order) (all_of order) c.requires.sorted) c.in_ok-end.end _ ends

pub returns-clause-cutting : goal.returns-clause-cutting
returns-clause-cutting c found =
    let order = c.args.order.now in
    let target = c.args.target.now in
    let nothing = nothing_left now_of order c.spans.entry-index (omega arith) in
    let ends = ends_last target c.spans.cut (option_copied c.spans.best) c.spans.out.items (all_of (drop c.spans.entry-index order)) (swept target target.low None (all_of order)) c.spans.invariant
    nothing c.in-Some-reaching.span.now c.in_ok-end.end (sym c.in-Some-reaching.ensures) c.in_ok-end.ensures.end in
    last_cutting target (all_of order) c.requires.some (ascends_sorted target (all_of order) (all_of order) c.requires.sorted) c.in_ok-end.end c.push_piece-2.new.out.items
    (ends ∙ ap (λ (ps : List Entry). if is_cut_below c.in_ok-end.end target.high then None else Some ps) (sym c.in_ok-end.ensures.piece)) (ap not (sym c.is_below-2.ensures) ∙ found)
