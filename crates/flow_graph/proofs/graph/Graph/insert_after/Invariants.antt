use Rattle.flow_graph.proofs.graph.Graph.insert_after.Given as goal

abbrev pub ghosts-push_after : goal.ghosts-push_after
ghosts-push_after a = record { name = a.blank.name; parts = 1 }
