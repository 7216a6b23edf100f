use Rattle.flow_graph.proofs.graph.Graph.points_in.Given as goal

abbrev pub ghosts-points_in : goal.ghosts-points_in
ghosts-points_in a = record { name = a.blank.name; parts = 1 }
