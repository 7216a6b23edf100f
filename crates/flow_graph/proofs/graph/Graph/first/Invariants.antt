use Rattle.flow_graph.proofs.graph.Graph.first.Given as goal

abbrev pub ghosts-first : goal.ghosts-first
ghosts-first a = record { name = a.blank.name; parts = 1 }
