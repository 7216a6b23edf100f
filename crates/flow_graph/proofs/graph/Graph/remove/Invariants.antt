use Rattle.flow_graph.proofs.graph.Graph.remove.Given as goal

abbrev pub ghosts-unlink : goal.ghosts-unlink
ghosts-unlink a = record { name = a.blank.name; parts = 1 }
