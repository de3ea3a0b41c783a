-- A query under way: what it has computed, and what it does next.
use Rattle.std.specs.Prelude.{◌≡◌, ℕ, ◌+◌, ◌<◌, ◌^◌, List, ◌∷◌, map, take, length, slice_index_or, slice_set, sum_by, Bool, true, false, Option, Some, None, IsSome, is_some, slice_get}
use Rattle.std.specs.List.{AllByRecursion}
use Rattle.cell_core.specs.declared.cell.Cell.{Cell}
use Rattle.cell_core.specs.declared.operator.Instr.{Instr}
use Rattle.cell_core.specs.declared.operator.Value.{Value}
use Rattle.cell_core.specs.declared.operator.Value.TheVariants.{Bat}
use Rattle.cell_core.specs.declared.table.Db.{Db}
use Rattle.cell_core.specs.Pairs.{Pairs, heads_of, is_true}
use Rattle.cell_core.specs.Relations.{selected}
use Rattle.chunk_core.specs.Facts.{rises}
use Rattle.bat_core.specs.declared.shared.Obj.{Obj}
use Rattle.bat_core.specs.declared.shared.Obj.TheVariants as obj
use Rattle.bat_core.specs.Objects.{value_of}
use Rattle.mal_exec.specs.Results.{known_of}
use Rattle.mal_meaning.specs.declared.plan.Plan.{Plan}
use Rattle.mal_meaning.specs.Meaning.{arg_values, instr_load, plan_rows, plan_values}
use Rattle.mal_check.specs.Checked.{plan_fault}
use Rattle.mal_check.specs.Runnable.{FitsDb}
use Rattle.recycle_mark.specs.Marks.{marks_of}
use Rattle.reuse_laws.specs.Reuse.{selected_in}
use Rattle.cell_core.specs.Merged.{merged}
use Rattle.sql_definitions.specs.declared.refusal.Refusal.TheVariants.{Overflow}
use Rattle.reply_layout.specs.declared.shown.Shown.{Shown}
use Rattle.reply_layout.specs.declared.shown.Shown.TheVariants as shown
use Rattle.lineage_key.specs.declared.key.Key.{Key}
use Rattle.pool_policy.specs.Keeps.{faces, value_in}
use Rattle.pool_policy.specs.Looks.{look_of}
use Rattle.pool_policy.specs.Looks.Finding.{Exact}
use Rattle.pool_policy.specs.Pool.{PoolState}
use Rattle.pool_policy.specs.Versions.{Versions}
use Rattle.recycle_pool.specs.Answers.{HandsOut, told}
use Rattle.recycle_pool.specs.declared.found.Found.{Found}
use Rattle.recycle_pool.specs.declared.found.Found.TheVariants as found
use Rattle.recycle_pool.specs.declared.found.CoverPiece.{CoverPiece}
use Rattle.table_store.specs.Content.{Content, version_of}
use Rattle.query_keys.specs.Keys.{instr_key}
use Rattle.query_keys.specs.Laws.{HasBounds}
use Rattle.query_run.specs.declared.step.RunningQuery.{RunningQuery}
use Rattle.query_run.specs.declared.step.Offer.{Offer}
use Rattle.query_run.specs.declared.step.Step.{Step}
use Rattle.query_run.specs.declared.step.Step.TheVariants as step

-- ## What it has computed

-- the versions of the columns that it sees
abbrev pub versions_in : Content → Versions
versions_in snap table column = version_of table column snap

-- the values of all instructions of its plan
abbrev pub all_values : RunningQuery → List (Option Value)
all_values q = plan_values q.snap.db q.plan.instrs

-- the value of an instruction, where there is one with this number
abbrev pub value_at : RunningQuery → ℕ → Option (Option Value)
value_at q n = slice_get (all_values q) n

-- the result of an instruction, where it is there
abbrev pub result_at : RunningQuery → ℕ → Option Obj
result_at q n = slice_index_or q.values.items n None

abbrev pub has_result : RunningQuery → ℕ → Bool
has_result q n = is_some (result_at q n)

-- its id, 0 for none
abbrev pub id_at : RunningQuery → ℕ → ℕ
id_at q n = slice_index_or q.ids.items n 0

-- whether the pool was asked in vain for its result
abbrev pub was_asked : RunningQuery → ℕ → Bool
was_asked q n = slice_index_or q.asked.items n false

-- an instruction is marked, or isn't
abbrev pub HasMark : RunningQuery → ℕ → Bool → Type 0
HasMark q n mark = slice_get (marks_of q.plan) n ≡ Some mark

-- the load of the unmarked instructions among some, by the values of all
abbrev pub unmarked_load : Db → List (Option Value) → List Instr → List Bool → ℕ
unmarked_load db values (instr ∷ instrs) (true ∷ marks) = unmarked_load db values instrs marks
unmarked_load db values (instr ∷ instrs) (false ∷ marks) = instr_load db values instr + unmarked_load db values instrs marks
unmarked_load db values _ _ = 0

-- the work of a plan's unmarked instructions
abbrev pub unmarked_work : Plan → Db → ℕ
unmarked_work plan db = unmarked_load db (plan_values db plan.instrs) plan.instrs (marks_of plan)

-- the load of the unmarked instructions whose results are there
abbrev pub done_load : Db → List (Option Value) → List Instr → List Bool → List (Option Obj) → ℕ
done_load db values (instr ∷ instrs) (false ∷ marks) (Some result ∷ results) = instr_load db values instr + done_load db values instrs marks results
done_load db values (instr ∷ instrs) (mark ∷ marks) (result ∷ results) = done_load db values instrs marks results
done_load db values _ _ _ = 0

-- its plan has no fault and fits its tables; each result is the value of its instruction; only the result of a marked instruction has an id; its work is that of the unmarked results
pub record IsUnderWay (q : RunningQuery) : Type 0 where
  pub checked : plan_fault q.plan ≡ None
  pub fits : FitsDb q.plan q.snap.db
  pub marks : q.marks.items ≡ marks_of q.plan
  pub few : length q.plan.instrs < 2 ^ 32
  pub values : length q.values.items ≡ length q.plan.instrs
  pub ids : length q.ids.items ≡ length q.plan.instrs
  pub asked : length q.asked.items ≡ length q.plan.instrs
  pub known : (n : ℕ) (result : Obj) → result_at q n ≡ Some result → value_at q n ≡ Some (Some (value_of result))
  pub bare : (n : ℕ) → has_result q n ≡ false → id_at q n ≡ 0
  pub plain : (n : ℕ) → HasMark q n false → id_at q n ≡ 0
  pub work : q.work ≡ done_load q.snap.db (all_values q) q.plan.instrs (marks_of q.plan) q.values.items

-- this marked instruction has no result yet
pub record IsAt (q : RunningQuery) (n : ℕ) (instr : Instr) : Type 0 where
  pub here : slice_get q.plan.instrs n ≡ Some instr
  pub marked : HasMark q n true
  pub open_ : has_result q n ≡ false

-- the arguments of an instruction have their results
abbrev pub HasArgs : RunningQuery → Instr → Type 0
HasArgs q instr = IsSome (arg_values (known_of q.values.items) instr.args)

-- all results before an instruction are there
abbrev pub HasBefore : RunningQuery → ℕ → Type 0
HasBefore q n = (m : ℕ) → m < n → has_result q m ≡ true

-- ## It goes on

-- a query gets further results, of unmarked instructions
pub record GoesOn (q to : RunningQuery) : Type 0 where
  pub snap_is : to.snap ≡ q.snap
  pub plan_is : to.plan ≡ q.plan
  pub under : IsUnderWay to
  pub ids_are : to.ids.items ≡ q.ids.items
  pub asked_are : to.asked.items ≡ q.asked.items
  pub keeps : (n : ℕ) → has_result q n ≡ true → has_result to n ≡ true
  pub marked_same : (n : ℕ) → HasMark q n true → has_result to n ≡ has_result q n

-- the key of an instruction's result, by the ids of those before it
abbrev pub key_in : RunningQuery → ℕ → Instr → Key
key_in q n instr = instr_key instr (versions_in q.snap) (take n q.ids.items)

-- it asks for the result of this instruction
pub record AsksFor (q : RunningQuery) (n : ℕ) (key : Key) : Type 0 where
  pub instr : Instr
  pub at : IsAt q n instr
  pub args : HasArgs q instr
  pub key_is : key ≡ key_in q n instr

-- the end of a query that goes through its plan in order
pub data EndsWith (q : RunningQuery) (reply : Shown) (work : ℕ) : Type 0 where
  -- an unmarked instruction has no value
  Overflows : (to : RunningQuery) (n : ℕ) → GoesOn q to → HasBefore to n → HasMark to n false → value_at to n ≡ Some None → plan_rows q.plan q.snap.db ≡ None → reply ≡ shown.Refused Overflow → work ≡ 0 → EndsWith q reply work
  -- all results are there
  HasRows : (to : RunningQuery) (rows : List (List Cell)) → GoesOn q to → HasBefore to (length q.plan.instrs) → plan_rows q.plan q.snap.db ≡ Some rows → reply ≡ shown.Rows rows → work ≡ unmarked_work q.plan q.snap.db → EndsWith q reply work

-- the step to which it comes, if it goes through its plan in order
abbrev pub ComesTo : RunningQuery → Step → Type 0
ComesTo q (step.Asking to n key) = GoesOn q to × HasBefore to n × AsksFor to n key
ComesTo q (step.Ending reply work) = EndsWith q reply work
ComesTo q _ = ⊥

-- ## Looks

-- what was found serves an instruction: its bounds select its value from a containing selection; the pieces of a cover, merged by their heads, are its value, and the heads rise in each piece
abbrev pub Serves : RunningQuery → ℕ → Instr → Found → List CoverPiece → Type 0
Serves q n instr (found.Exact id value) parts = ⊥
Serves q n instr (found.Within id value) parts = (low high li hi : Cell) × HasBounds instr low high li hi × (value_at q n ≡ Some (Some (Bat (selected low high (is_true li) (is_true hi) value))))
Serves q n instr (found.Across count) parts = (value_at q n ≡ Some (Some (Bat (merged (map (λ (part : CoverPiece). selected_in part.span part.value) parts)))))
    × AllByRecursion (λ (part : CoverPiece). rises (heads_of (selected_in part.span part.value)) ≡ true) parts
Serves q n instr found.Miss parts = Unit {0}

-- the result of an instruction is offered under its key
pub record IsOffered (q : RunningQuery) (n : ℕ) (instr : Instr) (offer : Offer) : Type 0 where
  pub key : offer.key ≡ key_in q n instr
  pub value : value_at q n ≡ Some (Some (Bat offer.value))
  pub work : offer.work ≡ instr_load q.snap.db (all_values q) instr
  pub small : offer.work < 2 ^ 62

-- the work to compute a result of this many pairs from what was found. It is that of its instruction; or the pairs that are read and selected, of a containing selection or of each piece of a cover, and those that are merged
abbrev pub part_work : CoverPiece → ℕ
part_work part = length part.value + length (selected_in part.span part.value)

abbrev pub work_from : Found → List CoverPiece → ℕ → ℕ → ℕ
work_from (found.Within id value) parts load pairs = length value + pairs
work_from (found.Across count) parts load pairs = sum_by part_work parts + pairs
work_from _ parts load pairs = load

-- the step after what was found is used: the result is offered, or there is none
abbrev pub BecomesOf : RunningQuery → ℕ → Instr → Found → List CoverPiece → Step → Type 0
BecomesOf q n instr what parts (step.Offering to at offer) = (to ≡ q) × (at ≡ n) × IsOffered q n instr offer × (offer.done ≡ work_from what parts offer.work (length offer.value))
BecomesOf q n instr what parts (step.Ending reply work) = (value_at q n ≡ Some None) × (plan_rows q.plan q.snap.db ≡ None) × (reply ≡ shown.Refused Overflow) × (work ≡ 0)
BecomesOf q n instr what parts _ = ⊥

-- ## The pool's answers

-- a query with the result of an instruction and its id, and with this work
pub record HasGained (q : RunningQuery) (n : ℕ) (result : Obj) (id work : ℕ) (to : RunningQuery) : Type 0 where
  pub snap_is : to.snap ≡ q.snap
  pub plan_is : to.plan ≡ q.plan
  pub marks_are : to.marks.items ≡ q.marks.items
  pub asked_are : to.asked.items ≡ q.asked.items
  pub values_are : to.values.items ≡ slice_set q.values.items n (Some result)
  pub ids_are : to.ids.items ≡ slice_set q.ids.items n id
  pub work_is : to.work ≡ work

-- a query that has asked for the result of an instruction in vain
pub record HasAsked (q : RunningQuery) (n : ℕ) (to : RunningQuery) : Type 0 where
  pub snap_is : to.snap ≡ q.snap
  pub plan_is : to.plan ≡ q.plan
  pub marks_are : to.marks.items ≡ q.marks.items
  pub values_are : to.values.items ≡ q.values.items
  pub ids_are : to.ids.items ≡ q.ids.items
  pub asked_are : to.asked.items ≡ slice_set q.asked.items n true
  pub work_is : to.work ≡ q.work

-- the answer to a look: the result itself, or what it can be computed from
abbrev pub IsLooked : RunningQuery → ℕ → PoolState → Key → Step → Type 0
IsLooked q n pool key (step.Open to) = (id : ℕ) × (value : Pairs) × HasGained q n (obj.Bat value) id q.work to × (look_of pool key ≡ Exact id) × (value_in (faces pool.entries) id ≡ Some value)
IsLooked q n pool key (step.Found to at what parts) = (at ≡ n) × HasAsked q n to × (told what parts.items ≡ look_of pool key) × HandsOut pool.entries what parts.items × ((id : ℕ) → look_of pool key ≡ Exact id → ⊥)
IsLooked q n pool key _ = ⊥
