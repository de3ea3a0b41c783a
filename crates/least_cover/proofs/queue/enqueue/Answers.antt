use Rattle.std.proofs.Common.{◌≡◌, ◌+◌, ℕ, List, length, ap, sym, ◌∙◌, subst, rules}
use Rattle.std.specs.Prelude.{insert}
use Rattle.least_cover.specs.Best.{HasPlace, IsQueue, IsSeat}
use Rattle.least_cover.proofs.Queues.{added, added_holds}
use Rattle.least_cover.proofs.queue.enqueue.Goals as goal

pub returns-clause-queue : goal.returns-clause-queue
returns-clause-queue c =
    let items : c.insert.new.self.items ≡ insert c.args.queue.now.items c.seat_for-at.result c.args.place = search rules in
    let there : c.deref.result.now ≡ c.args.queue.now.items = search rules in
    let long : length c.insert.new.self.items ≡ length c.args.queue.now.items + 1 = search rules in
    let more : length (insert c.args.queue.now.items c.seat_for-at.result c.args.place) ≡ length c.args.queue.now.items + 1 = sym (ap (λ (xs : List ℕ). length xs) items) ∙ long in
    subst (IsQueue c.args.bests.now) (sym items) (added c.args.bests.now c.args.queue.now.items c.requires.queue c.args.place c.seat_for-at.result c.requires.known (subst (λ xs. IsSeat c.args.bests.now xs c.args.place c.seat_for-at.result) there c.seat_for-at.ensures) more)

pub returns-clause-holds : goal.returns-clause-holds
returns-clause-holds c p h =
    let items : c.insert.new.self.items ≡ insert c.args.queue.now.items c.seat_for-at.result c.args.place = search rules in
    let there : c.deref.result.now ≡ c.args.queue.now.items = search rules in
    let long : length c.insert.new.self.items ≡ length c.args.queue.now.items + 1 = search rules in
    let more : length (insert c.args.queue.now.items c.seat_for-at.result c.args.place) ≡ length c.args.queue.now.items + 1 = sym (ap (λ (xs : List ℕ). length xs) items) ∙ long in
    subst (λ xs. HasPlace xs p) (sym items) (added_holds c.args.bests.now c.args.queue.now.items c.requires.queue c.args.place c.seat_for-at.result c.requires.known (subst (λ xs. IsSeat c.args.bests.now xs c.args.place c.seat_for-at.result) there c.seat_for-at.ensures) more p h)
