use Rattle.std.proofs.Common.{subst}
use Rattle.mal_text.specs.Reads.{IsRefused}
use Rattle.mal_print_laws.proofs.AgainLemmas.{derives, knows, has_no_fault}
use Rattle.mal_print_laws.proofs.again.read.Goals as goal

pub unreachable-requires : goal.unreachable-requires
unreachable-requires c =
    derives c.one_reading.ensures c.args.text.now c.requires.0 c.requires.1 (subst (IsRefused c.args.text.now) c.in-Err-NoBlock.field-0-is c.in-Err-NoBlock.ensures.refused)

pub unreachable-requires-in-Err-UnknownOp : goal.unreachable-requires-in-Err-UnknownOp
unreachable-requires-in-Err-UnknownOp c =
    knows c.one_reading.ensures c.args.text.now c.requires.0 c.requires.1 c.in-Err-UnknownOp.field-0-0 (subst (IsRefused c.args.text.now) c.in-Err-UnknownOp.field-0-is c.in-Err-UnknownOp.ensures.refused)

pub unreachable-requires-in-Err-Plan : goal.unreachable-requires-in-Err-Plan
unreachable-requires-in-Err-Plan c =
    has_no_fault c.one_reading.ensures c.args.text.now c.requires.0 c.requires.1 c.in-Err-Plan.field-0-0 (subst (IsRefused c.args.text.now) c.in-Err-Plan.field-0-is c.in-Err-Plan.ensures.refused)
