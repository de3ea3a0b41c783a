use Rattle.std.proofs.Common.{◌≡◌, ap, ◌∙◌, length, arith}
use Rattle.std.specs.Prelude.{◌==◌, slice_index}
use Rattle.evict_admit.specs.Boards.{left_at, less_if, row_at}
use Rattle.evict_admit.proofs.Seats.{less_both, less_once}
use Rattle.evict_admit.proofs.board.lose_child.Goals as goal

pub returns-then-second-first-clause-each : goal.returns-then-second-first-clause-each
returns-then-second-first-clause-each c = λ p low.
    let parents = c.args.row.now.parents in
    let id = (row_at c.args.known.now.rows.now p).id in
    let two : length parents ≡ 2 = omega arith in
    c.lose-then-second-first.ensures.each p low
    ∙ ap (less_if (slice_index parents 1 == id)) (c.lose.ensures.each p low)
    ∙ less_both parents id (left_at c.args.lefts.now p) two c.if-second-first.true

pub returns-else-second-first-clause-each : goal.returns-else-second-first-clause-each
returns-else-second-first-clause-each c = λ p low.
    let parents = c.args.row.now.parents in
    let id = (row_at c.args.known.now.rows.now p).id in
    let two : length parents ≡ 2 = omega arith in
    c.lose.ensures.each p low ∙ less_once parents id (left_at c.args.lefts.now p) two c.if-second-first.false
