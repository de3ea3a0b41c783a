-- The keys of a query's instructions, and what the results that they name are worth.
use Rattle.std.proofs.Common.{◌≡◌, ℕ, zero, suc, ◌<◌, List, [], ◌∷◌, map, length, true, false, Option, Some, None, refl, ap, sym, ◌∙◌, subst, arith}
use Rattle.std.specs.Prelude.{if◌then◌else◌, slice_get, slice_index, unwrap_or}
use Rattle.std.specs.List.{AllByRecursion, filter_map}
use Rattle.std.specs.Option.{option_map, option_map_or, option_and_then}
use Rattle.cell_core.specs.declared.cell.Cell.TheVariants.{Text}
use Rattle.cell_core.specs.declared.operator.Op.{Op}
use Rattle.cell_core.specs.declared.operator.Op.TheVariants as op
use Rattle.cell_core.specs.declared.operator.Arg.{Arg}
use Rattle.cell_core.specs.declared.operator.Arg.TheVariants as arg
use Rattle.cell_core.specs.declared.operator.Instr.{Instr}
use Rattle.cell_core.specs.declared.operator.Value.{Value}
use Rattle.cell_core.specs.declared.operator.Value.TheVariants.{Bat, One}
use Rattle.cell_core.specs.declared.table.Db.{Db}
use Rattle.cell_core.specs.Operators.{operate, work_of}
use Rattle.cell_core.specs.Pairs.{Pairs}
use Rattle.cell_core.specs.SameInstr.{same_op, same_op_decides}
use Rattle.mal_meaning.specs.Meaning.{arg_values, column_pairs, value_over, work_over, instr_value, instr_load}
use Rattle.lineage_key.specs.declared.key.Key.{Key}
use Rattle.lineage_key.specs.declared.key.KeyArg.{KeyArg}
use Rattle.lineage_key.specs.declared.key.KeyArg.TheVariants.{Const}
use Rattle.lineage_key.specs.Keys.{IsNumbered, arg_for, key_for}
use Rattle.lineage_key.specs.Parents.{id_in, is_bind, parents_of, table_of, column_of, first_text, second_text}
use Rattle.pool_policy.specs.Keeps.{Face, arg_value}
use Rattle.pool_policy.specs.Versions.{Versions}
use Rattle.pool_policy.specs.Worths.{worth}
use Rattle.query_keys.specs.Keys.{AreIdsOf, instr_key, with_version}
use Rattle.query_keys.proofs.InstrLemmas.{IsNamed}

-- ## The parts of a key

op_kept : (versions : Versions) (key : Key) → (with_version versions key).op ≡ key.op
op_kept versions key = elim (is_bind key) as (λ b. (let k : Key = if b then record key { version = versions (table_of key) (column_of key) } else key in k).op ≡ key.op) [ true ↦ refl | false ↦ refl ]

args_kept : (versions : Versions) (key : Key) → (with_version versions key).args ≡ key.args
args_kept versions key = elim (is_bind key) as (λ b. (let k : Key = if b then record key { version = versions (table_of key) (column_of key) } else key in k).args ≡ key.args) [ true ↦ refl | false ↦ refl ]

version_given : (versions : Versions) (key : Key) → is_bind key ≡ true → (with_version versions key).version ≡ versions (table_of key) (column_of key)
version_given versions key bind = ap (λ b. (let k : Key = if b then record key { version = versions (table_of key) (column_of key) } else key in k).version) bind

module _ (instr : Instr) (versions : Versions) (ids : List ℕ) where
  pub key_op : (instr_key instr versions ids).op ≡ instr.op
  key_op = op_kept versions (key_for instr ids 0)

  pub key_args : (instr_key instr versions ids).args ≡ map (arg_for ids) instr.args
  key_args = args_kept versions (key_for instr ids 0)

  pub key_is_bind : is_bind (instr_key instr versions ids) ≡ true → instr.op ≡ op.Bind
  key_is_bind bind = sym key_op ∙ (same_op_decides (instr_key instr versions ids).op op.Bind).0 bind

  pub key_is_plain : is_bind (instr_key instr versions ids) ≡ false → same_op instr.op op.Bind ≡ false
  key_is_plain plain = ap (λ o. same_op o op.Bind) (sym key_op) ∙ plain

  pub key_version : is_bind (instr_key instr versions ids) ≡ true → (instr_key instr versions ids).version ≡ versions (table_of (instr_key instr versions ids)) (column_of (instr_key instr versions ids))
  key_version bind =
      version_given versions (key_for instr ids 0) (ap (λ o. same_op o op.Bind) (sym key_op) ∙ bind)
      ∙ ap (λ (args : List KeyArg). versions (table_of (record { op = instr.op; args = args; version = 0 })) (column_of (record { op = instr.op; args = args; version = 0 }))) (sym key_args)

-- ## What ids are worth

id_worth : (given : List Face) (ids : List ℕ) (values : List (Option Value)) → AreIdsOf given ids values → (v : ℕ) → v < length ids → 0 < slice_index ids v
    → (pairs : Pairs) × (slice_get values v ≡ Some (Some (Bat pairs))) × (worth given (slice_index ids v) ≡ Some pairs)
id_worth given [] values are v low above = absurd (omega (arith, low))
id_worth given (id ∷ ids) [] are v low above = absurd are
id_worth given (id ∷ ids) (value ∷ values) are zero low above = let one = are.0 above in (one.0, ap Some one.1, one.2)
id_worth given (id ∷ ids) (value ∷ values) are (suc v) low above = id_worth given ids values are.1 v (omega (arith, low)) above

-- where each result that an instruction takes has an id, its arguments are what those are worth
pub args_worth : (given : List Face) (ids : List ℕ) (values : List (Option Value)) → AreIdsOf given ids values → (args : List Arg) → AllByRecursion (IsNumbered (length ids)) args
    → AllByRecursion (λ id. 0 < id) (filter_map id_in (map (arg_for ids) args)) → arg_values values args ≡ Some (map (arg_value given) (map (arg_for ids) args))
args_worth given ids values are [] numbered above = refl
args_worth given ids values are (arg.Const c ∷ args) numbered above = ap (λ (vs : Option (List Value)). option_map (λ ys. One c ∷ ys) vs) (args_worth given ids values are args numbered.1 above)
args_worth given ids values are (arg.Var v ∷ args) numbered above =
    let one = id_worth given ids values are v numbered.0 above.0 in
    let rest = args_worth given ids values are args numbered.1 above.1 in
    ap (λ (o : Option (Option Value)). option_and_then (λ y. option_map (λ ys. y ∷ ys) (arg_values values args)) (unwrap_or o None)) one.1
    ∙ ap (λ (vs : Option (List Value)). option_map (λ ys. Bat one.0 ∷ ys) vs) rest
    ∙ ap (λ (o : Option Pairs). Some (Bat (unwrap_or o []) ∷ map (arg_value given) (map (arg_for ids) args))) (sym one.2)

-- ## Values and work by the key

plain_value : (db : Db) (operator : Op) (args : List Value) → same_op operator op.Bind ≡ false → value_over db operator args ≡ operate operator args
plain_value db op.Bind args plain = cc
plain_value db operator args plain = refl

plain_work : (db : Db) (operator : Op) (args : List Value) → same_op operator op.Bind ≡ false → work_over db operator args ≡ work_of operator args
plain_work db op.Bind args plain = cc
plain_work db operator args plain = refl

-- an instruction that is no bind, where each result that it takes has an id
pub record IsComputed (db : Db) (values : List (Option Value)) (given : List Face) (instr : Instr) (key : Key) : Type 0 where
  pub value : instr_value db values instr ≡ operate key.op (map (arg_value given) key.args)
  pub work : instr_load db values instr ≡ work_of key.op (map (arg_value given) key.args)

module _ (db : Db) (values : List (Option Value)) (given : List Face) (instr : Instr) (versions : Versions) (ids : List ℕ) where
  abbrev key : Key
  key = instr_key instr versions ids

  pub computed_by_key : AreIdsOf given ids values → AllByRecursion (IsNumbered (length ids)) instr.args → is_bind key ≡ false → AllByRecursion (λ id. 0 < id) (parents_of key) → IsComputed db values given instr key
  unfolding instr_value
  computed_by_key are numbered plain above =
      let args = key_args instr versions ids in
      let known : arg_values values instr.args ≡ Some (map (arg_value given) key.args) =
      args_worth given ids values are instr.args numbered (subst (λ (xs : List KeyArg). AllByRecursion (λ id. 0 < id) (filter_map id_in xs)) args above)
      ∙ ap (λ (xs : List KeyArg). Some (map (arg_value given) xs)) (sym args) in
      let same = sym (key_op instr versions ids) in
      let other = key_is_plain instr versions ids plain in
      record {
        value = ap (λ vs. option_and_then (value_over db instr.op) vs) known ∙ plain_value db instr.op (map (arg_value given) key.args) other ∙ ap (λ (o : Op). operate o (map (arg_value given) key.args)) same;
        work = ap (λ (vs : Option (List Value)). option_map_or (work_over db instr.op) vs 0) known ∙ plain_work db instr.op (map (arg_value given) key.args) other ∙ ap (λ (o : Op). work_of o (map (arg_value given) key.args)) same;
      }

  -- a bind: its key names its column
  pub record IsBound : Type 0 where
    pub table : List ℕ
    pub column : List ℕ
    pub word : List ℕ
    pub args : key.args ≡ Const (Text table) ∷ Const (Text column) ∷ Const (Text word) ∷ []
    pub value : instr_value db values instr ≡ Some (Bat (column_pairs (table_of key) (column_of key) db))
    pub work : instr_load db values instr ≡ length (column_pairs (table_of key) (column_of key) db)

  pub bound_by_key : instr.op ≡ op.Bind → IsNamed instr.args → IsBound
  unfolding instr_value
  bound_by_key bind named =
      let args : key.args ≡ Const (Text named.table) ∷ Const (Text named.column) ∷ Const (Text named.word) ∷ [] = key_args instr versions ids ∙ ap (λ (xs : List Arg). map (arg_for ids) xs) named.are in
      let column : column_pairs named.table named.column db ≡ column_pairs (table_of key) (column_of key) db =
      sym (ap (λ (xs : List KeyArg). column_pairs (first_text xs) (second_text xs) db) args) in
      record {
        table = named.table;
        column = named.column;
        word = named.word;
        args = args;
        value = ap (λ (o : Op). option_and_then (value_over db o) (arg_values values instr.args)) bind ∙ ap (λ (xs : List Arg). option_and_then (value_over db op.Bind) (arg_values values xs)) named.are ∙ ap (λ (b : Pairs). Some (Bat b)) column;
        work = ap (λ (o : Op). option_map_or (work_over db o) (arg_values values instr.args) 0) bind ∙ ap (λ (xs : List Arg). option_map_or (work_over db op.Bind) (arg_values values xs) 0) named.are ∙ ap (λ (b : Pairs). length b) column;
      }
