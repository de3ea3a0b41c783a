use Rattle.book_tests.proofs.full_table.a_full_table_takes_no_row.Given as goal

abbrev pub ghosts-is_filled : goal.ghosts-is_filled
ghosts-is_filled g a = record { name = a.blank.name; parts = a.blank.parts }
