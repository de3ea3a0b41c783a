-- Which task is ready.
use Rattle.std.specs.Prelude.{◌≡◌, ℕ, ◌<◌, List, true, false, Option, Some, None, slice_get}
use Rattle.cell_core.specs.declared.operator.Instr.{Instr}
use Rattle.cell_core.specs.declared.operator.Value.{Value}
use Rattle.bat_core.specs.Objects.{values_of}
use Rattle.mal_meaning.specs.Meaning.{arg_values}
use Rattle.dataflow.specs.declared.task.Task.{Task}
use Rattle.dataflow.specs.Plans.{has}
use Rattle.flow_tests.specs.Sound.{is_bind}

-- the task is an instruction that isn't handed out, on the values of its arguments
pub record IsReady (instrs : List Instr) (known : List (Option Value)) (handed : List ℕ) (task : Task) : Type 0 where
  pub instr : Instr
  pub is_there : slice_get instrs task.instr ≡ Some instr
  pub is_no_bind : is_bind instr.op ≡ false
  pub is_new : has handed task.instr ≡ false
  pub operator : task.job.op ≡ instr.op
  pub args : arg_values known instr.args ≡ Some (values_of task.job.args.items)

-- below a number, each instruction is a bind or handed out, or an argument has no value
abbrev pub NoneReady : List Instr → List (Option Value) → List ℕ → ℕ → Type 0
NoneReady instrs known handed count =
    (i : ℕ) (instr : Instr) → i < count → slice_get instrs i ≡ Some instr → is_bind instr.op ≡ false → has handed i ≡ false → arg_values known instr.args ≡ None

-- below a number, each instruction is a bind or handed out
abbrev pub ArePassed : List Instr → List ℕ → ℕ → Type 0
ArePassed instrs handed count =
    (i : ℕ) (instr : Instr) → i < count → slice_get instrs i ≡ Some instr → is_bind instr.op ≡ false → has handed i ≡ true
