use Rattle.shell_tests.proofs.tests.faults.run_here.Given as goal

abbrev pub ghosts-run_failing : goal.ghosts-run_failing
ghosts-run_failing g a = record { name = a.blank.name; parts = a.blank.parts }
