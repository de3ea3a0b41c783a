use Rattle.leaf_tests.proofs.writes.a_query_goes_on.Given as goal

abbrev pub ghosts-brought : goal.ghosts-brought
ghosts-brought g a = record { name = a.blank.name; parts = a.blank.parts }
