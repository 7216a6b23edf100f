use Rattle.flow_graph.proofs.graph.Graph.append.Given as goal

abbrev pub ghosts-push_back : goal.ghosts-push_back
ghosts-push_back a = record { name = a.blank.name; parts = 1 }
