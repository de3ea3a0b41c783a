use Rattle.std.proofs.Common.{map, Some, subst, sym}
use Rattle.bat_core.specs.Objects.{values_of}
use Rattle.mal_meaning.specs.Meaning.{arg_values}
use Rattle.mal_meaning.specs.Runs.{FitsHere}
use Rattle.mal_exec.proofs.run.run_next.Goals as goal

pub run_instr-requires : goal.run_instr-requires
run_instr-requires g c =
    subst (λ vs. FitsHere (g.C.Columns.database c.args.columns.now) c.args.instr.now.op (arg_values (map Some (values_of vs)) c.args.instr.now.args))
    (sym c.as_slice.ensures) c.requires
