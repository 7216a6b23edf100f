use Rattle.flow_graph.proofs.graph.Graph.next.Given as goal

abbrev pub ghosts-next : goal.ghosts-next
ghosts-next a = record { name = a.blank.name; parts = 1 }
