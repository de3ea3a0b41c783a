-- The statuses of runs that end before their first statement.
use Rattle.std.specs.Prelude.{ℕ, ◌==◌, Bool, ◌||◌}
use Rattle.sql_shell.specs.declared.scripts.Failure.{Failure}
use Rattle.sql_shell.specs.declared.scripts.Failure.TheVariants.{Words, Fault, TooLong, NotText, BadLine, Memory}

abbrev pub status_of : Failure → ℕ
status_of Words = 1
status_of (Fault number) = 2
status_of (TooLong number) = 4
status_of (NotText number) = 6
status_of (BadLine number) = 7
status_of Memory = 5

-- the file that it is about, or the line of the schedule
abbrev pub at_of : Failure → ℕ
at_of Words = 0
at_of (Fault number) = number
at_of (TooLong number) = number
at_of (NotText number) = number
at_of (BadLine number) = number
at_of Memory = 0

-- a status by the bytes of a script
abbrev pub is_by_bytes : ℕ → Bool
is_by_bytes status = (status == 4) || (status == 6)

-- a status by the bytes of a script or of the schedule
abbrev pub is_by_content : ℕ → Bool
is_by_content status = is_by_bytes status || (status == 7)
