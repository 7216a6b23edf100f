use Rattle.std.proofs.Common.{map}
use Rattle.std.proofs.lemmas.Result.{IfOk-weaker}
use Rattle.c_syntax.specs.Statements.{unit_of}
use Rattle.c_tree.specs.Erased.{program_of}
use Rattle.c_check.proofs.whole_program.check.Goals as goal

pub returns-clause-typed : goal.returns-clause-typed
returns-clause-typed c = IfOk-weaker c.judged_twice.result _ _ (λ p h sources.
    c.typed_is_well_typed.ensures (map unit_of c.args.files.now) (program_of p) sources h.typed)
    c.judged_twice.ensures.accepted

pub returns-clause-declared : goal.returns-clause-declared
returns-clause-declared c = IfOk-weaker c.judged_twice.result _ _ (λ p h.
    c.arrays_are_declared.ensures (map unit_of c.args.files.now) (program_of p) h.typed)
    c.judged_twice.ensures.accepted
