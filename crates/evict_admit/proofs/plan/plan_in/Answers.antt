use Rattle.std.proofs.Common.{◌≡◌, ◌+◌, ◌-◌, ◌<◌, ◌≤◌, List, [], ◌∷◌, ◌++◌, true, false, Some, length, not, sym, ap, ◌∙◌, subst, arith, length-append}
use Rattle.evict_admit.specs.declared.plan.Row.{Row}
use Rattle.evict_admit.specs.Evictions.{next_of}
use Rattle.evict_admit.specs.Boards.{left_of, once_gone, row_at, still, is_gone}
use Rattle.subsume.proofs.Members.{In}
use Rattle.evict_admit.proofs.Plans.{still_none, still_more, IsPlanned, AreApart, begins, ends, grows, none_left, none_next, chosen_in, chosen_next, once_is, apart_known, apart_filter, shorter}
use Rattle.evict_admit.proofs.plan.plan_in.Goals as goal

pub rounds-init : goal.rounds-init
rounds-init c =
    let rows = c.args.known.now.rows.now in
    let none : [] ≡ c.args.out.now.items = sym c.requires.empty in
    let all : length (still [] rows) ≡ length rows = ap length (still_none rows) in record {
      lefts = λ p low. c.requires.fresh p low ∙ ap (λ out. left_of out rows (row_at rows p)) none;
      seated = c.requires.seated;
      planned = λ score scored. subst (λ out. IsPlanned score rows c.args.wanted.bytes c.args.wanted.places out c.args.wanted.bytes c.args.wanted.places) none (begins score rows c.args.wanted.bytes c.args.wanted.places);
      left = subst (λ out. length (still out rows) + length out ≤ length rows) none (omega (arith, all));
      rounds = ap length c.requires.empty;
      room = c.requires.room;
      kept = omega arith;
    }

pub returns-then-is_enough-clause-plan : goal.returns-then-is_enough-clause-plan
returns-then-is_enough-clause-plan c =
    λ score scored. ends score c.args.known.now.rows.now c.args.wanted.bytes c.args.wanted.places c.rounds.out.items c.rounds.bytes c.rounds.places (c.rounds.invariant.planned score scored) true c.if-is_enough.ensures (λ e. cc)

pub returns-in-None-clause-plan : goal.returns-in-None-clause-plan
returns-in-None-clause-plan c =
    λ score scored. ends score c.args.known.now.rows.now c.args.wanted.bytes c.args.wanted.places c.rounds.out.items c.rounds.bytes c.rounds.places (c.rounds.invariant.planned score scored) false c.if-is_enough.ensures
    (λ e. none_next c.args.known.now c.requires.known c.rounds.out.items c.rounds.lefts c.rounds.winners c.rounds.invariant.seated c.rounds.invariant.lefts c.in-None.is score)

pub rounds-preserved : goal.rounds-preserved
rounds-preserved c =
    let known = c.args.known.now in
    let rows = c.args.known.now.rows.now in
    let out = c.rounds.out.items in
    let row = row_at rows c.in-Some.place in
    let more : 0 < length rows = omega arith in
    let here : In row (still out rows) = chosen_in known c.requires.known out c.rounds.lefts c.rounds.winners c.rounds.invariant.seated c.rounds.invariant.lefts c.in-Some.place more c.in-Some.is in
    let apart : AreApart (still out rows) = apart_filter (λ r. not (is_gone out r)) rows (apart_known known c.requires.known) in
    let grown : c.put.new.out.items ≡ out ++ row.id ∷ [] = c.put.ensures.items in
    let long : length c.put.new.out.items ≡ length out + 1 = ap length grown ∙ length-append out (row.id ∷ []) in
    let fewer : length (still c.put.new.out.items rows) + 1 ≤ length (still out rows) =
    subst (λ (rs : List Row). length rs + 1 ≤ length (still out rows)) (sym (ap (λ o. still o rows) grown ∙ still_more out row.id rows)) (shorter (still out rows) row here) in record {
      lefts = λ p low. c.give_up.ensures.each p low ∙ ap (once_gone row (row_at rows p)) (c.rounds.invariant.lefts p low) ∙ once_is out rows row (row_at rows p) apart here ∙ ap (λ o. left_of o rows (row_at rows p)) (sym grown);
      seated = c.give_up.ensures.seated;
      planned = λ score scored.
          let next : next_of score (still out rows) ≡ Some row = chosen_next known c.requires.known out c.rounds.lefts c.rounds.winners c.rounds.invariant.seated c.rounds.invariant.lefts c.in-Some.place more c.in-Some.is score scored in
          let wanted : IsPlanned score rows c.args.wanted.bytes c.args.wanted.places c.put.new.out.items (c.rounds.bytes - row.bytes) (c.rounds.places - 1) =
          grows score rows c.args.wanted.bytes c.args.wanted.places out c.rounds.bytes c.rounds.places (c.rounds.invariant.planned score scored) row c.put.new.out.items (sym c.if-is_enough.ensures) next grown in
          subst (λ b. IsPlanned score rows c.args.wanted.bytes c.args.wanted.places c.put.new.out.items b c.saturating_sub-places.result) (sym (c.saturating_sub-bytes.ensures ∙ ap (λ n. c.rounds.bytes - n) c.from.ensures))
          (subst (λ p. IsPlanned score rows c.args.wanted.bytes c.args.wanted.places c.put.new.out.items (c.rounds.bytes - row.bytes) p) (sym c.saturating_sub-places.ensures) wanted);
      left = omega (arith, fewer, long, c.rounds.invariant.left);
      rounds = long ∙ ap (λ n. n + 1) c.rounds.invariant.rounds;
      room = omega (arith, c.rounds.invariant.room, c.put.ensures.room);
      kept = omega (arith, c.rounds.invariant.kept, c.put.ensures.room);
    }

pub returns-clause-plan : goal.returns-clause-plan
returns-clause-plan c =
    let rows = c.args.known.now.rows.now in
    let none : length (still c.rounds.out.items rows) ≤ 0 = omega (arith, c.rounds.invariant.left, c.rounds.invariant.rounds) in
    λ score scored. ends score rows c.args.wanted.bytes c.args.wanted.places c.rounds.out.items c.rounds.bytes c.rounds.places (c.rounds.invariant.planned score scored) c.is_enough-2.result c.is_enough-2.ensures
    (λ e. none_left score (still c.rounds.out.items rows) none)
