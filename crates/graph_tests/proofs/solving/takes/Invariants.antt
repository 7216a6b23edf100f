use Rattle.graph_tests.proofs.solving.takes.Given as goal

abbrev pub ghosts-takes_counted : goal.ghosts-takes_counted
ghosts-takes_counted g a = record { name = a.blank.name; parts = a.blank.parts }
