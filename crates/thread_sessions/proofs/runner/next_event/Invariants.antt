use Rattle.thread_sessions.proofs.runner.next_event.Given as goal

abbrev pub ghosts-counted_event : goal.ghosts-counted_event
ghosts-counted_event g a = record { name = a.blank.name; parts = a.blank.parts }
