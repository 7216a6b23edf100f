use Rattle.lower_builder.proofs.graph.follow.Goals as goal

pub append-requires-clause-in_range : goal.append-requires-clause-in_range
append-requires-clause-in_range c =
    (rw c.in-Emit.is at c.requires).0

pub append-requires-clause-not_ended : goal.append-requires-clause-not_ended
append-requires-clause-not_ended c =
    (rw c.in-Emit.is at c.requires).1

pub append-requires-clause-fits : goal.append-requires-clause-fits
append-requires-clause-fits c =
    (rw c.in-Emit.is at c.requires).2
