use Rattle.book_tests.proofs.tests.a_snapshot_stays_while_rows_come.Given as goal

abbrev pub ghosts-snapshot_stays : goal.ghosts-snapshot_stays
ghosts-snapshot_stays g a = record { name = a.blank.name; parts = a.blank.parts }
