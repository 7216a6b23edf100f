use Rattle.std.proofs.Common.{map}
use Rattle.std.proofs.lemmas.Result.{IfOk-weaker}
use Rattle.c_syntax.specs.Statements.{unit_of}
use Rattle.c_check.proofs.Scoped.{scoped}
use Rattle.c_check.proofs.whole_program.judged.Goals as goal

pub returns : goal.returns
returns c = IfOk-weaker c.units.result _ _ (λ j h.
    scoped (map unit_of c.args.files.now) _ _ j _ _ c.in_ok-scopes.ensures h) c.units.ensures
