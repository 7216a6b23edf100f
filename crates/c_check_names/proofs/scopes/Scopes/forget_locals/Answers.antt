use Rattle.std.proofs.Common.{refl}
use Rattle.std.proofs.lemmas.List.{take-map}
use Rattle.c_tree.specs.Erased.{local_of}
use Rattle.c_check_names.proofs.scopes.Scopes.forget_locals.Goals as goal

pub returns : goal.returns
returns c = rw (← c.self.view_is)
    (rw c.truncate.ensures.items (rw (← take-map local_of c.args.count c.self.inside.locals.items) refl))
