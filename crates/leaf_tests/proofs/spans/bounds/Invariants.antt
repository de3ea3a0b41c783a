use Rattle.leaf_tests.proofs.spans.bounds.Given as goal

abbrev pub ghosts-bounds_with : goal.ghosts-bounds_with
ghosts-bounds_with a = record { name = a.blank.name; parts = a.blank.parts }
