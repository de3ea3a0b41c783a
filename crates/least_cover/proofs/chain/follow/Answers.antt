use Rattle.std.proofs.Common.{◌∷◌, [], List, ℕ, Option, Some, length, ap, sym, ◌∙◌, subst, arith}
use Rattle.std.proofs.lemmas.List.{length-append}
use Rattle.least_cover.proofs.Followed.{IsFollowed, begin, ending, onward, all_listed, moved}
use Rattle.least_cover.proofs.chain.follow.Goals as goal

pub spans-init : goal.spans-init
spans-init c = record {
  followed = subst (λ (xs : List ℕ). IsFollowed c.args.spans.now c.args.target.now xs (Some c.args.first)) (sym c.requires.empty) (begin c.args.spans.now c.args.target.now c.args.bests.now c.requires.solved c.args.first c.requires.first.0 c.requires.some c.requires.first.1);
  long = ap (λ (xs : List ℕ). length xs) c.requires.empty;
  room = c.requires.room;
  kept = omega arith;
}

pub returns-in-None-clause-chosen : goal.returns-in-None-clause-chosen
returns-in-None-clause-chosen c = ending c.args.spans.now c.args.target.now c.args.bests.now c.requires.solved c.spans.chain.items (subst (λ (o : Option ℕ). IsFollowed c.args.spans.now c.args.target.now c.spans.chain.items o) c.in-None.is c.spans.invariant.followed)

pub spans-preserved : goal.spans-preserved
spans-preserved c =
    let h = onward c.args.spans.now c.args.target.now c.args.bests.now c.requires.solved c.spans.chain.items c.in-Some.place (subst (λ (o : Option ℕ). IsFollowed c.args.spans.now c.args.target.now c.spans.chain.items o) c.in-Some.is c.spans.invariant.followed) in
    let items = c.append.ensures.items in
    let kept = c.append.ensures.kept in record {
      followed = moved c.args.spans.now c.args.target.now c.append.new.numbers.items _ c.following-next.result _ items c.following-next.ensures h.more;
      long = ap (λ (xs : List ℕ). length xs) items ∙ (let long = length-append c.spans.chain.items (c.in-Some.place ∷ []) in omega (arith, long, c.spans.invariant.long));
      room = omega (arith, kept, c.spans.invariant.room);
      kept = omega (arith, kept, c.spans.invariant.kept);
    }

pub returns-clause-chosen : goal.returns-clause-chosen
returns-clause-chosen c = all_listed c.args.spans.now c.args.target.now c.args.bests.now c.requires.solved c.spans.chain.items c.spans.next c.spans.invariant.followed (let end = c.spans.auto.counter-end in omega (arith, end, c.spans.invariant.long))
