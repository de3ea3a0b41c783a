-- Keys of instructions, and the spans of selections.
use Rattle.std.specs.Prelude.{ℕ, List, ◌<◌, map, slice_index}
use Rattle.cell_core.specs.declared.operator.Arg.{Arg}
use Rattle.cell_core.specs.declared.operator.Arg.TheVariants as arg
use Rattle.cell_core.specs.declared.operator.Instr.{Instr}
use Rattle.lineage_key.specs.declared.key.Key.{Key}
use Rattle.lineage_key.specs.declared.key.KeyArg.{KeyArg}
use Rattle.lineage_key.specs.declared.key.KeyArg.TheVariants.{Const, Id}

-- a variable is among the first n
abbrev pub IsNumbered : ℕ → Arg → Type 0
IsNumbered n (arg.Const c) = Unit {0}
IsNumbered n (arg.Var v) = v < n

-- an argument with the id of its result in place of a variable
abbrev pub arg_for : List ℕ → Arg → KeyArg
arg_for ids (arg.Const c) = Const c
arg_for ids (arg.Var v) = Id (slice_index ids v)

-- the key of an instruction: its operator, its arguments by ids, and the version
abbrev pub key_for : Instr → List ℕ → ℕ → Key
key_for instr ids version = record { op = instr.op; args = map (arg_for ids) instr.args; version = version }
