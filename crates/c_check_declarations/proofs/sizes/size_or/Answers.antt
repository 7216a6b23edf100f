use Rattle.c_check_declarations.proofs.sizes.size_or.Goals as goal

pub returns-in-None : goal.returns-in-None
returns-in-None c = rw c.in-None.is (c.size_elsewhere.ensures c.args.notes.now)
