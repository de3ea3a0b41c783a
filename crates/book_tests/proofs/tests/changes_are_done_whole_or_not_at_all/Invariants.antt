use Rattle.book_tests.proofs.tests.changes_are_done_whole_or_not_at_all.Given as goal

abbrev pub ghosts-changes_agree : goal.ghosts-changes_agree
ghosts-changes_agree g a = record { name = a.blank.name; parts = a.blank.parts }
