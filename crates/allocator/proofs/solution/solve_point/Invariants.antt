use Rattle.allocator.proofs.solution.solve_point.Given as goal

abbrev pub ghosts-solve_counted : goal.ghosts-solve_counted
ghosts-solve_counted a = record { name = a.blank.name; parts = a.blank.parts }
