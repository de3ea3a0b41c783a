use Rattle.std.proofs.Common.{◌≡◌, ◌∙◌, ap, sym, subst, arith, pos, ◌*ℤ◌, ◌-ℤ◌, int_div, FitsSigned, w32, w64, to_z, of_z, to_z-of_z}
use Rattle.jiff_core.specs.Date.{epoch_day}
use Rattle.jiff_core.proofs.DateLemmas.{epoch_day_range}
use Rattle.jiff_core.proofs.SignedLemmas.{signed_arith}
use Rattle.cell_text.proofs.DayLemmas.{hours_of_days, days_back}
use Rattle.cell_text.proofs.day.day_of.Goals as goal

hours : (c : goal.After-as_hours) → c.as_hours.result ≡ epoch_day c.args.date *ℤ pos 24
hours c =
    let days : epoch_day c.args.date -ℤ epoch_day c.epoch.result ≡ epoch_day c.args.date = omega (arith, signed_arith, c.epoch.ensures) in
    c.as_hours.ensures
    ∙ ap (λ n. int_div n (pos 3_600_000_000_000)) (c.duration_since.ensures ∙ ap (λ n. n *ℤ pos 86_400_000_000_000) days)
    ∙ hours_of_days (epoch_day c.args.date)

quotient : (c : goal.After-as_hours) → to_z w64 (of_z w64 (int_div (to_z w64 (of_z w64 c.as_hours.result)) (pos 24))) ≡ epoch_day c.args.date
quotient c = subst (λ n. to_z w64 (of_z w64 (int_div (to_z w64 (of_z w64 n)) (pos 24))) ≡ epoch_day c.args.date) (sym (hours c)) (days_back (epoch_day c.args.date) (epoch_day_range c.args.date))

pub overflow_cast-result : goal.overflow_cast-result
overflow_cast-result c = subst (FitsSigned w32) (sym (quotient c)) (omega (arith, signed_arith, epoch_day_range c.args.date))

pub returns : goal.returns
returns c =
    let fits : FitsSigned w32 (epoch_day c.args.date) = omega (arith, signed_arith, epoch_day_range c.args.date) in
    ap (λ n. to_z w32 (of_z w32 n)) (quotient c) ∙ to_z-of_z fits
