-- What is asked of a statement. Only private contracts cite this.
use Rattle.std.specs.Prelude.{List, [], ◌∷◌, length, ℕ, Bool, ◌||◌, nat_lt, if◌then◌else◌, codes, Option, Some, None}
use Rattle.sql_grammar.specs.Refused.{cond_left_out, expr_nodes, columns_pass, query_passes}
use Rattle.sql_tree.specs.Tree.{CondTree, ExprTree, StmtTree}

-- the name of arithmetic over columns, if one of two conditions has some
abbrev pub arithmetic_in : Option CondTree → Option CondTree → Option (List ℕ)
arithmetic_in first second = if cond_left_out first || cond_left_out second then Some (codes "ARITHMETIC IN WHERE") else None

-- the expression has more than 64 nodes
abbrev pub is_large : ExprTree → Bool
is_large expr = nat_lt 64 (expr_nodes expr)

-- the limits on lists: columns, tables, items, groups, keys
abbrev pub lists_past : StmtTree → List Bool
lists_past stmt =
    columns_pass (λ columns. nat_lt 64 (length columns)) stmt
    ∷ query_passes (λ query. nat_lt 4 (length query.froms)) stmt
    ∷ query_passes (λ query. nat_lt 32 (length query.items)) stmt
    ∷ query_passes (λ query. nat_lt 8 (length query.groups)) stmt
    ∷ query_passes (λ query. nat_lt 8 (length query.keys)) stmt
    ∷ []
