use Rattle.std.proofs.Common.{rules, ◌∙◌, ap, sym, w32}
use Rattle.std.proofs.lemmas.Int.{to_z-of_z}
use Rattle.c_eval_state.specs.Values.{held_of}
use Rattle.c_eval.proofs.at_once.local_number.Goals as goal

pub returns-in-Number : goal.returns-in-Number
returns-in-Number c = λ s.
    rw (to_z-of_z w32 c.in-Number.n (search rules)) (sym (c.local.ensures s) ∙ ap held_of c.in-Number.is)
