use Rattle.std.proofs.Common.{◌≡◌, take}
use Rattle.sql_tree.proofs.copy.share_all.Given as goal

-- what is copied so far
abbrev pub invariant-things : goal.invariant-things
invariant-things g l = l.copy.items ≡ take l.thing-index l.things
