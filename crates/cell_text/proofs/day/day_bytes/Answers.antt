use Rattle.std.proofs.Common.{◌∙◌, sym, arith, FitsSigned, w32, to_z-of_z}
use Rattle.jiff_core.proofs.SignedLemmas.{signed_arith}
use Rattle.cell_text.proofs.DayLemmas.{jiff_date}
use Rattle.cell_text.proofs.day.day_bytes.Goals as goal

pub date_bytes-requires : goal.date_bytes-requires
date_bytes-requires c =
    let fits : FitsSigned w32 c.args.day = c.ranges.day in
    let day = simp to_z-of_z at c.date_of.ensures in
    let date = jiff_date c.args.day c.date_of.result day c.requires in
    omega (arith, signed_arith, date.year)

pub returns : goal.returns
returns c =
    let fits : FitsSigned w32 c.args.day = c.ranges.day in
    let day = simp to_z-of_z at c.date_of.ensures in
    c.date_bytes.ensures ∙ sym (jiff_date c.args.day c.date_of.result day c.requires).text
