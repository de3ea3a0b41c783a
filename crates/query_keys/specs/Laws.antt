-- What a query's instruction finds in the pool, and what it may offer.
use Rattle.std.specs.Prelude.{◌≡◌, ℕ, ◌+◌, ◌<◌, ◌≤◌, List, [], ◌∷◌, map, length, true, false, Option, Some, None, All, slice_get}
use Rattle.std.specs.List.{AllByRecursion}
use Rattle.cell_core.specs.declared.cell.Cell.{Cell}
use Rattle.cell_core.specs.declared.cell.Cell.TheVariants.{Text}
use Rattle.cell_core.specs.declared.operator.Arg.{Arg}
use Rattle.cell_core.specs.declared.operator.Arg.TheVariants as arg
use Rattle.cell_core.specs.declared.operator.Instr.{Instr}
use Rattle.cell_core.specs.declared.operator.Op.TheVariants.{Bind, Select}
use Rattle.cell_core.specs.declared.operator.Value.{Value}
use Rattle.cell_core.specs.declared.operator.Value.TheVariants.{Bat}
use Rattle.cell_core.specs.declared.table.Db.{Db}
use Rattle.cell_core.specs.Operators.{operate}
use Rattle.cell_core.specs.Pairs.{Pairs, heads_of, is_true}
use Rattle.cell_core.specs.Relations.{selected}
use Rattle.chunk_core.specs.Facts.{rises}
use Rattle.mal_meaning.specs.declared.plan.Plan.{Plan}
use Rattle.mal_meaning.specs.Meaning.{arg_values, column_pairs, instr_load, instr_value, plan_values}
use Rattle.mal_meaning.specs.Runs.{FitsHere}
use Rattle.mal_check.specs.Checked.{plan_fault}
use Rattle.mal_check.specs.Runnable.{FitsDb}
use Rattle.recycle_mark.specs.Marks.{marks_of}
use Rattle.lineage_key.specs.declared.key.KeyArg.TheVariants.{Const}
use Rattle.lineage_key.specs.Keys.{IsNumbered}
use Rattle.lineage_key.specs.Parents.{is_bind, parents_of}
use Rattle.subsume.specs.Cutting.{Entry}
use Rattle.reuse_laws.specs.Reuse.{selected_in}
use Rattle.cell_core.specs.Merged.{merged}
use Rattle.pool_policy.specs.declared.entry.Who.{Who}
use Rattle.pool_policy.specs.declared.options.Admitted.{Admitted}
use Rattle.pool_policy.specs.declared.options.Admitted.TheVariants.{Taken, There}
use Rattle.pool_policy.specs.Admits.{admit_of}
use Rattle.pool_policy.specs.Keeps.{arg_value, faces, value_in}
use Rattle.pool_policy.specs.Laws.{value_of}
use Rattle.pool_policy.specs.Looks.{look_of}
use Rattle.pool_policy.specs.Looks.Finding.{Exact, Within, Across}
use Rattle.pool_policy.specs.Worths.{worth}
use Rattle.run_log.specs.Fold.{LogState, after_admission, key_offer, key_present, key_value, key_work}
use Rattle.run_log.specs.Laws.{IsSound}
use Rattle.query_keys.specs.Keys.{AreIdsOf, instr_key}

-- ## Instructions among the values of all

-- the instruction with this number, whatever became of the others: its arguments name instructions before it, those of a bind name its column, its value is that of its operator on theirs, and where they have values these fit it
pub record IsInstrOf (db : Db) (plan : Plan) (n : ℕ) (instr : Instr) : Type 0 where
  pub numbered : All (IsNumbered n) instr.args
  pub named : instr.op ≡ Bind → (table column kind : List ℕ) × (instr.args ≡ arg.Const (Text table) ∷ arg.Const (Text column) ∷ arg.Const (Text kind) ∷ [])
  pub value : slice_get (plan_values db plan.instrs) n ≡ Some (instr_value db (plan_values db plan.instrs) instr)
  pub fits : (args : List Value) → arg_values (plan_values db plan.instrs) instr.args ≡ Some args → FitsHere db instr.op (Some args)

-- this holds in each plan without a fault, over a database that it fits
abbrev pub InstrsRun : Type 0
InstrsRun = (plan : Plan) (db : Db) (n : ℕ) (instr : Instr) → plan_fault plan ≡ None → FitsDb plan db → slice_get plan.instrs n ≡ Some instr → IsInstrOf db plan n instr

-- ## Marked instructions

-- the value of a marked instruction is a BAT
abbrev pub MarkedAreBats : Type 0
MarkedAreBats = (plan : Plan) (db : Db) (n : ℕ) (value : Value) → plan_fault plan ≡ None → FitsDb plan db
    → slice_get (marks_of plan) n ≡ Some true → slice_get (plan_values db plan.instrs) n ≡ Some (Some value) → (pairs : Pairs) × (value ≡ Bat pairs)

-- what a query remembers of the state over which it began: a column that still has its version has its cells
abbrev pub Remembers : LogState → LogState → Type 0
Remembers seen s = (table column : List ℕ) → s.versions table column ≡ seen.versions table column → column_pairs table column s.db ≡ column_pairs table column seen.db

-- a marked instruction of a query that began over a state, and the ids of the results before it, in a later state
pub record IsMarkedAt (seen s : LogState) (plan : Plan) (ids : List ℕ) (instr : Instr) : Type 0 where
  pub checked : plan_fault plan ≡ None
  pub fits : FitsDb plan seen.db
  pub here : slice_get plan.instrs (length ids) ≡ Some instr
  pub marked : slice_get (marks_of plan) (length ids) ≡ Some true
  pub sound : IsSound s
  pub remembers : Remembers seen s
  pub ids_of : AreIdsOf s.given ids (plan_values seen.db plan.instrs)

abbrev pub value_there : LogState → Plan → List ℕ → Option (Option Value)
value_there seen plan ids = slice_get (plan_values seen.db plan.instrs) (length ids)

-- the bounds of a selection, as they are in its arguments
pub record HasBounds (instr : Instr) (low high li hi : Cell) : Type 0 where
  pub from : Arg
  pub op_is : instr.op ≡ Select
  pub args_are : instr.args ≡ from ∷ arg.Const low ∷ arg.Const high ∷ arg.Const li ∷ arg.Const hi ∷ []

-- what is found for it: an equal key has its value; from a containing selection its bounds select its value; and the pieces of a cover, each selected from its entry, are its value once they are merged by their heads, which rise in each
pub record Serves (seen s : LogState) (plan : Plan) (ids : List ℕ) (instr : Instr) : Type 0 where
  pub exact : (id : ℕ) (pairs : Pairs) → look_of s.pool (instr_key instr seen.versions ids) ≡ Exact id → value_in (faces s.pool.entries) id ≡ Some pairs
      → (value_there seen plan ids ≡ Some (Some (Bat pairs))) × (worth s.given id ≡ Some pairs)
  pub within : (id : ℕ) (pairs : Pairs) → look_of s.pool (instr_key instr seen.versions ids) ≡ Within id → value_in (faces s.pool.entries) id ≡ Some pairs
      → (low high li hi : Cell) × HasBounds instr low high li hi × (value_there seen plan ids ≡ Some (Some (Bat (selected low high (is_true li) (is_true hi) pairs))))
  pub across : (pieces : List Entry) → look_of s.pool (instr_key instr seen.versions ids) ≡ Across pieces
      → (value_there seen plan ids ≡ Some (Some (Bat (merged (map (λ (piece : Entry). selected_in piece.1 (value_of s.pool piece.0)) pieces)))))
      × AllByRecursion (λ (piece : Entry). rises (heads_of (selected_in piece.1 (value_of s.pool piece.0))) ≡ true) pieces

abbrev pub FoundServes : Type 0
FoundServes = (seen s : LogState) (plan : Plan) (ids : List ℕ) (instr : Instr) → IsMarkedAt seen s plan ids instr → Serves seen s plan ids instr

-- what is computed for it may be offered: its key has at most two parents, a bind names its column, and where its parents have ids, or its version is the present one, its value and its work are those of its key
pub record MayOffer (seen s : LogState) (plan : Plan) (ids : List ℕ) (instr : Instr) (pairs : Pairs) : Type 0 where
  pub few : length (parents_of (instr_key instr seen.versions ids)) ≤ 2
  pub named : is_bind (instr_key instr seen.versions ids) ≡ true → (table column kind : List ℕ) × ((instr_key instr seen.versions ids).args ≡ Const (Text table) ∷ Const (Text column) ∷ Const (Text kind) ∷ [])
  pub bound : is_bind (instr_key instr seen.versions ids) ≡ true → (instr_key instr seen.versions ids).version ≡ key_present (instr_key instr seen.versions ids) s
      → (pairs ≡ key_value (instr_key instr seen.versions ids) s) × (instr_load seen.db (plan_values seen.db plan.instrs) instr ≡ key_work (instr_key instr seen.versions ids) s)
  pub computed : is_bind (instr_key instr seen.versions ids) ≡ false → AllByRecursion (λ id. 0 < id) (parents_of (instr_key instr seen.versions ids))
      → (operate (instr_key instr seen.versions ids).op (map (arg_value s.given) (instr_key instr seen.versions ids).args) ≡ Some (Bat pairs)) × (instr_load seen.db (plan_values seen.db plan.instrs) instr ≡ key_work (instr_key instr seen.versions ids) s)

abbrev pub OffersFit : Type 0
OffersFit = (seen s : LogState) (plan : Plan) (ids : List ℕ) (instr : Instr) (pairs : Pairs) → IsMarkedAt seen s plan ids instr → value_there seen plan ids ≡ Some (Some (Bat pairs))
    → MayOffer seen s plan ids instr pairs

-- and the id that an admission returns for it is worth its value
abbrev pub id_given : Admitted → ℕ
id_given (Taken id bytes gone) = id
id_given (There id) = id
id_given _ = 0

abbrev pub GivenAreWorth : Type 0
GivenAreWorth = (seen s : LogState) (plan : Plan) (ids : List ℕ) (instr : Instr) (pairs : Pairs) (who : Who) → IsMarkedAt seen s plan ids instr → value_there seen plan ids ≡ Some (Some (Bat pairs))
    → let answer = admit_of who (s.at + 1) (key_offer (instr_key instr seen.versions ids) s) s.pool in
    0 < id_given answer.0 → worth (after_admission answer s).given (id_given answer.0) ≡ Some pairs
