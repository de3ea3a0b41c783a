-- Values that arguments name, and keys.
use Rattle.std.proofs.Common.{◌≡◌, ℕ, ◌+◌, List, [], ◌∷◌, map, length, Bool, true, false, cond, Option, Some, None, refl, ap, sym, ◌∙◌, subst, arith}
use Rattle.std.specs.Prelude.{IfSome, IsSome, slice_get, unwrap_or}
use Rattle.std.specs.Option.{option_map}
use Rattle.std.proofs.lemmas.List.Sums.{sum_by-cons}
use Rattle.std.proofs.lemmas.Option.{same_Some, slice_get-map}
use Rattle.cell_core.proofs.ListLemmas.{both_found}
use Rattle.cell_core.specs.declared.cell.Cell.TheVariants.{Text}
use Rattle.cell_core.specs.declared.operator.Arg.{Arg}
use Rattle.cell_core.specs.declared.operator.Arg.TheVariants as arg
use Rattle.cell_core.specs.declared.operator.Instr.{Instr}
use Rattle.cell_core.specs.declared.operator.Op.TheVariants as op
use Rattle.cell_core.specs.declared.operator.Value.{Value}
use Rattle.cell_core.specs.declared.operator.Value.TheVariants.{Bat}
use Rattle.cell_core.specs.declared.table.Db.{Db}
use Rattle.cell_core.specs.Operators.{pairs_read}
use Rattle.cell_core.specs.Pairs.{Pairs, pair_count}
use Rattle.cell_core.specs.SameInstr.{same_op, same_op_decides}
use Rattle.bat_core.specs.declared.shared.Obj.{Obj}
use Rattle.bat_core.specs.Objects.{value_of}
use Rattle.mal_meaning.specs.declared.plan.Plan.{Plan}
use Rattle.mal_meaning.specs.Meaning.{arg_value, arg_values, instr_load, instr_value}
use Rattle.mal_exec.specs.Results.{known_of}
use Rattle.lineage_key.specs.declared.key.Key.{Key}
use Rattle.lineage_key.specs.declared.key.KeyArg.TheVariants.{Const}
use Rattle.lineage_key.specs.Keys.{arg_for, key_for}
use Rattle.lineage_key.specs.Parents.{is_bind, table_of, column_of}
use Rattle.pool_policy.specs.Versions.{Versions}
use Rattle.query_keys.specs.Keys.{with_version}
use Rattle.query_keys.specs.Laws.{InstrsRun, IsInstrOf}
use Rattle.query_keys.proofs.StepLemmas.{load_made}
use Rattle.query_run.specs.declared.step.RunningQuery.{RunningQuery}
use Rattle.query_run.specs.Queries.{HasArgs, IsUnderWay, all_values, value_at}
use Rattle.query_run.proofs.ResultLemmas.{args_known, instr_is}

-- ## How many pairs an argument has

-- a fact of the value at a place holds of the argument that names it
pub pairs_found : (results : List (Option Obj)) (a : Arg) (n : ℕ) (o : Option Value) (count : ℕ) → a ≡ arg.Var n → o ≡ arg_value (known_of results) (arg.Var n) → IfSome o (λ found. count ≡ pair_count found)
    → IfSome (arg_value (known_of results) a) (λ found. count ≡ pair_count found)
pairs_found results a n o count is there counted = subst (λ (o : Option Value). IfSome o (λ found. count ≡ pair_count found)) (there ∙ ap (arg_value (known_of results)) (sym is)) counted

-- where all arguments have values, the first and the others have
pub first_read : (values : List (Option Value)) (first : Arg) (rest : List Arg) (all : List Value) (count pairs whole : ℕ) → arg_values values (first ∷ rest) ≡ Some all → IfSome (arg_value values first) (λ found. count ≡ pair_count found)
    → pairs + pairs_read all ≡ whole → (more : List Value) × (arg_values values rest ≡ Some more) × ((pairs + count) + pairs_read more ≡ whole)
first_read values first rest all count pairs whole found counted sum =
    let parts = both_found (arg_value values first) (arg_values values rest) all found in
    let one : count ≡ pair_count parts.0 = subst (λ (o : Option Value). IfSome o (λ found. count ≡ pair_count found)) parts.2 counted in
    let read : pairs_read (parts.0 ∷ parts.1) ≡ pairs_read all = ap pairs_read parts.4 in
    let first_more : pairs_read (parts.0 ∷ parts.1) ≡ pair_count parts.0 + pairs_read parts.1 = sum_by-cons pair_count parts.0 parts.1 in
    (parts.1, parts.3, omega (arith, one, read, first_more, sum))

-- the pairs of all, by those of the rest
abbrev pub IsRest : List (Option Value) → List Arg → ℕ → List Value → Type 0
IsRest values rest pairs found = (more : List Value) × (arg_values values rest ≡ Some more) × (pairs + pairs_read more ≡ pairs_read found)

pub pairs_start : (values : List (Option Value)) (args : List Arg) → IfSome (arg_values values args) (IsRest values args 0)
pairs_start values args = go (arg_values values args) refl
  where
    go : (o : Option (List Value)) → arg_values values args ≡ o → IfSome o (IsRest values args 0)
    go None is = tt
    go (Some found) is = (found, is, omega arith)

pub pairs_step : (values : List (Option Value)) (args rest tail : List Arg) (first : Arg) (pairs count all : ℕ) → rest ≡ first ∷ tail → IfSome (arg_value values first) (λ found. count ≡ pair_count found) → all ≡ pairs + count
    → IfSome (arg_values values args) (IsRest values rest pairs) → IfSome (arg_values values args) (IsRest values tail all)
pairs_step values args rest tail first pairs count all is counted sum before = go (arg_values values args) before
  where
    go : (o : Option (List Value)) → IfSome o (IsRest values rest pairs) → IfSome o (IsRest values tail all)
    go None h = tt
    go (Some found) h =
        let more = first_read values first tail h.0 count pairs (pairs_read found) (ap (arg_values values) (sym is) ∙ h.1) counted h.2 in
        (more.0, more.1, ap (λ n. n + pairs_read more.0) sum ∙ more.2)

-- ## The stated work

pub work_stated : InstrsRun → (q : RunningQuery) (n : ℕ) (instr : Instr) (value : Value) (read work : ℕ) → IsUnderWay q → slice_get q.plan.instrs n ≡ Some instr → HasArgs q instr → value_at q n ≡ Some (Some value)
    → IfSome (arg_values (known_of q.values.items) instr.args) (λ found. read ≡ pairs_read found) → work ≡ read + pair_count value → work ≡ instr_load q.snap.db (all_values q) instr
work_stated run q n instr value read work under here has there counted sum = go (arg_values (known_of q.values.items) instr.args) refl has counted
  where
    own : IsInstrOf q.snap.db q.plan n instr
    own = instr_is run q under n instr here

    is : instr_value q.snap.db (all_values q) instr ≡ Some value
    is = same_Some (instr_value q.snap.db (all_values q) instr) (Some value) (sym own.value ∙ there)

    go : (o : Option (List Value)) → arg_values (known_of q.values.items) instr.args ≡ o → IsSome o → IfSome o (λ found. read ≡ pairs_read found) → work ≡ instr_load q.snap.db (all_values q) instr
    go None given some read_is = absurd (let no : false ≡ true = some in cc)
    go (Some args) given some read_is =
        sum ∙ ap (λ n. n + pair_count value) read_is ∙ sym (load_made q.snap.db (all_values q) instr args value (args_known q under instr.args args given) is)

-- ## Keys

-- a bind names its table, its column and the column's kind
pub bind_named : (db : Db) (plan : Plan) (n : ℕ) (instr : Instr) (ids : List ℕ) (key : Key) → IsInstrOf db plan n instr → key ≡ key_for instr ids 0
    → is_bind key ≡ true → (table column kind : List ℕ) × (key.args ≡ Const (Text table) ∷ Const (Text column) ∷ Const (Text kind) ∷ [])
bind_named db plan n instr ids key own key_is bind =
    let op_is : instr.op ≡ op.Bind = (same_op_decides instr.op op.Bind).0 (ap (λ (k : Key). same_op k.op op.Bind) (sym key_is) ∙ bind) in
    let found = own.named op_is in
    (found.0, found.1, found.2, ap (λ (k : Key). k.args) key_is ∙ ap (map (arg_for ids)) found.3)

-- a key with its version
pub with_its_version : (versions : Versions) (key : Key) (version : ℕ) → version ≡ (with_version versions key).version → ◌≡◌ {A = Key} (record { op = key.op; args = key.args; version = version }) (with_version versions key)
with_its_version versions key version is = go (is_bind key) refl
  where
    go : (b : Bool) → is_bind key ≡ b → ◌≡◌ {A = Key} (record { op = key.op; args = key.args; version = version }) (with_version versions key)
    go true bind = let seen : with_version versions key ≡ record key { version = versions (table_of key) (column_of key) } = ap (λ b. cond b (record key { version = versions (table_of key) (column_of key) }) key) bind in
        (let told : version ≡ versions (table_of key) (column_of key) = is ∙ ap (λ (k : Key). k.version) seen in λ i. record { op = key.op; args = key.args; version = told i }) ∙ sym seen
    go false plain = let seen : with_version versions key ≡ key = ap (λ b. cond b (record key { version = versions (table_of key) (column_of key) }) key) plain in
        (let told : version ≡ key.version = is ∙ ap (λ (k : Key). k.version) seen in λ i. record { op = key.op; args = key.args; version = told i }) ∙ sym seen
