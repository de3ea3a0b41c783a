use Rattle.shell_tests.proofs.kernels.run_by.Given as goal

abbrev pub ghosts-run_words_by : goal.ghosts-run_words_by
ghosts-run_words_by g a = record { name = a.blank.name; parts = a.blank.parts }
