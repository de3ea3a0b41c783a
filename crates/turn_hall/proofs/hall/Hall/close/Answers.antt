-- The last state of the hall has the value in its slot.
use Rattle.std.proofs.Common.{◌≡◌, sym, refl, ap, subst, ◌∙◌}
use Rattle.std.specs.Prelude.{Option, Some, IsSome}
use Rattle.turn_hall.specs.Entries.{StartsWith, entries_by}
use Rattle.turn_hall.proofs.Calls.{closed_value}
use Rattle.turn_hall.proofs.hall.Hall.close.Goals as goal

pub unwrap-value-requires : goal.unwrap-value-requires
unwrap-value-requires g c =
    let end = closed_value g.V.Logged.entries g.V.Logged.author _ _ _ _ c.requires.free.0 c.requires.first c.requires.all c.close_with-closed.ensures.values.2 c.take.result c.take.ensures.value in
    subst (λ (r : Option g.row.V.Denot). IsSome r) (sym end.1) refl

pub returns-clause-begins : goal.returns-clause-begins
returns-clause-begins g c =
    let end = closed_value g.V.Logged.entries g.V.Logged.author _ _ _ _ c.requires.free.0 c.requires.first c.requires.all c.close_with-closed.ensures.values.2 c.take.result c.take.ensures.value in
    let found : c.take.result ≡ Some c.unwrap-value.result = c.unwrap-value.ensures in
    let is : c.take.result ≡ Some end.0 = end.1 in
    let same : end.0 ≡ c.unwrap-value.result = cc in
    subst (λ (x : g.row.V.Denot). StartsWith (g.V.Logged.entries x) c.args.pass.seat.me.0.seen) same end.2

pub returns-clause-each : goal.returns-clause-each
returns-clause-each g c number =
    let end = closed_value g.V.Logged.entries g.V.Logged.author _ _ _ _ c.requires.free.0 c.requires.first c.requires.all c.close_with-closed.ensures.values.2 c.take.result c.take.ensures.value in
    let found : c.take.result ≡ Some c.unwrap-value.result = c.unwrap-value.ensures in
    let is : c.take.result ≡ Some end.0 = end.1 in
    let same : c.unwrap-value.result ≡ end.0 = cc in
    ap (λ (x : g.row.V.Denot). entries_by g.V.Logged.author number (g.V.Logged.entries x)) same ∙ end.3 number
