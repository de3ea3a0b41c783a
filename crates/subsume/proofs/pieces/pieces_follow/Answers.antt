use Rattle.subsume.proofs.Cuttings.{cut_up, parts_follow, parts_within}
use Rattle.subsume.proofs.pieces.pieces_follow.Goals as goal

pub returns-clause-greedy : goal.returns-clause-greedy
returns-clause-greedy c target entries pieces cut h = cut_up target entries cut pieces h

pub returns-clause-follow : goal.returns-clause-follow
returns-clause-follow c target entries pieces h = (parts_follow target entries target.low pieces h, parts_within target entries target.low pieces h)
