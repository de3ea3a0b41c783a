use Rattle.sql_shell.proofs.PrintLemmas.{IsWritten}
use Rattle.sql_shell.proofs.produce.print_sessions.Given as goal

-- the first texts are written
abbrev pub invariant-sessions : goal.invariant-sessions
invariant-sessions l = IsWritten l.names l.texts l.i l.text.items
