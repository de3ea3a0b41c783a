-- A plan made of its parts is the plan of the definition.
use Rattle.std.proofs.Common.{◌≡◌, ℕ, List, Bool, Option, ap, sym, ◌∙◌}
use Rattle.std.specs.Prelude.{filter_map}
use Rattle.std.specs.Option.{option_map}
use Rattle.cell_core.specs.declared.operator.Arg.{Arg}
use Rattle.cell_core.specs.declared.operator.Instr.{Instr}
use Rattle.mal_meaning.specs.declared.plan.Plan.{Plan}
use Rattle.sql_tree.specs.Tree.{ItemTree, QueryTree}
use Rattle.sql_tree.specs.declared.tree.SortKey.{SortKey}
use Rattle.sql_definitions.specs.Sources.{NamedSource}
use Rattle.sql_definitions.specs.References.{items_of}
use Rattle.sql_definitions.specs.Answer.{key_place, key_places}
use Rattle.rows_to_mal.specs.Conjuncts.{Scope}
use Rattle.group_to_mal.specs.QueryPlan.{ShownColumns, plan_of}

-- the keys of items as places
abbrev pub places_by : List NamedSource → List ItemTree → List SortKey → List (ℕ × Bool)
places_by called items keys = filter_map (λ (key : SortKey). option_map (λ n. (n, key.ascending)) (key_place called items key.at)) keys

pub places_are : (scope : Scope) (query : QueryTree) (called : List NamedSource) (items : List ItemTree) (keys : List SortKey) → scope.called ≡ called → items ≡ items_of called query → keys ≡ query.keys
    → places_by called items keys ≡ key_places scope.called query
places_are scope query called items keys c i k =
    ap (places_by called items) k ∙ ap (λ xs. places_by called xs query.keys) i ∙ ap (λ cs. key_places cs query) (sym c)

pub plan_is : (scope : Scope) (query : QueryTree) (instrs : List Instr) (cols : List Arg) (test : Option Arg) (order : List (ℕ × Bool)) (emitted : List Instr × ShownColumns) → (instrs, (cols, test)) ≡ emitted → order ≡ key_places scope.called query
    → record { instrs = instrs; out = record { cols = cols; keep = test; order = order; limit = query.limit } } ≡ plan_of scope query emitted
plan_is scope query instrs cols test order emitted e o = ap ordered o ∙ ap (plan_of scope query) e
  where
    ordered : List (ℕ × Bool) → Plan
    ordered order = record { instrs = instrs; out = record { cols = cols; keep = test; order = order; limit = query.limit } }
