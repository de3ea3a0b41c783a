use Rattle.command_line.proofs.command.run_of.Goals as goal

pub found-requires : goal.found-requires
found-requires c = record { utf8 = rw c.as_slice.ensures.value c.in_ok-texts.ensures.utf8 }
