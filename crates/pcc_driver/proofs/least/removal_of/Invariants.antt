use Rattle.pcc_driver.proofs.least.removal_of.Given as goal

abbrev pub ghosts-removal_counted : goal.ghosts-removal_counted
ghosts-removal_counted a = record { name = a.blank.name; parts = 1 }
