-- While it waits, the pass holds the ticket that it drew.
use Rattle.std.proofs.Common.{◌≡◌, ℕ, ◌%◌, ◌^◌, []}
use Rattle.turn_hall.specs.declared.view.PassStage.TheVariants.{Waiting}
use Rattle.turn_hall.specs.Views.{at_stage}
use Rattle.turn_hall.specs.Passes.{IsPassOf}
use Rattle.turn_hall.proofs.hall.Hall.turn.Given as goal

abbrev pub invariant-watches : goal.invariant-watches
invariant-watches g l =
    IsPassOf l.self l.pass
    × ((t : ℕ) × (t % 2 ^ 64 ≡ l.ticket) × (l.pass.seat.me ≡ (at_stage (Waiting t) l.fn.pass.seat.me.0, [])))
