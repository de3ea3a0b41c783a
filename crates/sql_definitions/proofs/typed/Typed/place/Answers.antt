use Rattle.std.proofs.Common.{◌^◌, ◌<◌, sym, ◌∙◌, arith}
use Rattle.sql_tree.specs.Tree.{stmt_tree}
use Rattle.sql_definitions.specs.Check.{called_in}
use Rattle.sql_definitions.proofs.SmallLemmas.{small_place}
use Rattle.sql_definitions.proofs.typed.Typed.place.Goals as goal

pub overflow_cast-result : goal.overflow_cast-result
overflow_cast-result c =
    let typed = c.args.self.now in
    let small : (c.in-At.source < 2 ^ 32) × (c.in-At.column < 2 ^ 32) =
    small_place _ (called_in (stmt_tree typed.stmt)) typed.sources _ _ typed.small (sym c.find.ensures ∙ c.in-At.is) in
    let fits : c.in-At.source < 2 ^ 32 = small.0 in
    omega arith

pub overflow_cast-result-in-At : goal.overflow_cast-result-in-At
overflow_cast-result-in-At c =
    let typed = c.args.self.now in
    let small : (c.in-At.source < 2 ^ 32) × (c.in-At.column < 2 ^ 32) =
    small_place _ (called_in (stmt_tree typed.stmt)) typed.sources _ _ typed.small (sym c.find.ensures ∙ c.in-At.is) in
    let fits : c.in-At.column < 2 ^ 32 = small.1 in
    omega arith
