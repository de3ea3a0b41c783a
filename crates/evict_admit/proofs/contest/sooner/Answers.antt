use Rattle.evict_admit.proofs.Orders.{product_small}
use Rattle.evict_admit.proofs.contest.sooner.Goals as goal

pub goes_before-requires : goal.goes_before-requires
goes_before-requires c =
    let first = c.requires.small.1 c.in-Some-Some.first _ (c.requires.a c.in-Some-Some.first c.in-Some-Some.is-0) in
    let second = c.requires.small.1 c.in-Some-Some.second _ (c.requires.b c.in-Some-Some.second c.in-Some-Some.is-1) in record {
      left = product_small c.requires.small.0 _ _ second first;
      right = product_small c.requires.small.0 _ _ first second;
    }
