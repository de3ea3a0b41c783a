use Rattle.std.proofs.Common.{ℕ, rules}
use Rattle.std.specs.Prelude.{nat_lt}
use Rattle.std.proofs.lemmas.List.Sorted.{IsPartitionPoint-from_clause, IsPartitionedBy-ltb}
use Rattle.pool_index.proofs.children.count_below.Goals as goal

pub returns-clause-point : goal.returns-clause-point
returns-clause-point c =
    IsPartitionPoint-from_clause (λ (p : ℕ × ℕ). nat_lt p.0 c.args.parent) _ _ c.partition_point.ensures.partitioned (IsPartitionedBy-ltb (λ (p : ℕ × ℕ). p.0) _ c.args.parent c.requires) (λ a r q k. search rules)
