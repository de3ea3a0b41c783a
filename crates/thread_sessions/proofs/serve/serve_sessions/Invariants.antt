use Rattle.thread_sessions.proofs.serve.serve_sessions.Given as goal

abbrev pub ghosts-serve : goal.ghosts-serve
ghosts-serve g a = record { options = a.options }
