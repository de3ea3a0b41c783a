use Rattle.std.proofs.Common.{◌∙◌}
use Rattle.command_line.proofs.Run.{found_is, refused_is}
use Rattle.command_line.proofs.matches.found.Goals as goal

pub returns-in-Ok : goal.returns-in-Ok
returns-in-Ok c = found_is _ c.args.words.now c.in-Ok.matches c.in_ok-told.ensures c.requires.utf8 c.in-Ok.ensures.kinds c.in-Ok.ensures.matches

pub returns : goal.returns
returns c = refused_is _ c.args.words.now _ c.in_ok-told.ensures c.requires.utf8 c.in-Err.ensures.kinds
    (λ memory. c.in_default.not-OutOfMemory (c.kind.ensures ∙ memory))
