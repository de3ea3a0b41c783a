use Rattle.std.proofs.Common.{◌∙◌, arith, FitsSigned, w32, w64, to_z-of_z}
use Rattle.jiff.proofs.SpanFacts.{date_add-days, can_add-days}
use Rattle.jiff_core.proofs.SignedLemmas.{signed_arith}
use Rattle.cell_text.proofs.DayLemmas.{is_epoch_day, fits_span}
use Rattle.cell_text.proofs.day.date_of.Goals as goal

pub days-requires : goal.days-requires
days-requires c =
    let fits : FitsSigned w32 c.args.day = c.ranges.day in
    let wide : FitsSigned w64 c.args.day = omega (arith, signed_arith) in
    simp to_z-of_z (fits_span c.args.day (is_epoch_day c.args.day c.requires))

pub unreachable-requires : goal.unreachable-requires
unreachable-requires c =
    let fits : FitsSigned w32 c.args.day = c.ranges.day in
    let wide : FitsSigned w64 c.args.day = omega (arith, signed_arith) in
    let only = simp to_z-of_z at c.days.ensures in
    let can = can_add-days c.epoch.result c.args.day c.days.result only in
    let day = is_epoch_day c.args.day c.requires in
    cc (c.in-Err.ensures.succeeds.1 (can.1 (rw c.epoch.ensures (omega (arith, signed_arith, day)))))

pub returns : goal.returns
returns c =
    let fits : FitsSigned w32 c.args.day = c.ranges.day in
    let wide : FitsSigned w64 c.args.day = omega (arith, signed_arith) in
    let only = simp to_z-of_z at c.days.ensures in
    c.in-Ok.ensures.value ∙ date_add-days c.epoch.result c.args.day c.days.result only ∙ rw c.epoch.ensures (omega (arith, signed_arith))
