use Rattle.pcc_driver.proofs.solve.answer_of.Given as goal

abbrev pub ghosts-answer_counted : goal.ghosts-answer_counted
ghosts-answer_counted a = record { name = a.blank.name; parts = 1 }
