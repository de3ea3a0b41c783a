use Rattle.kernel_tests.proofs.tests.plans.a_plan_without_instructions.Given as goal

abbrev pub ghosts-ran : goal.ghosts-ran
ghosts-ran g a = record { name = a.blank.name; parts = a.blank.parts }
