use Rattle.std.proofs.Common.{subst}
use Rattle.std.proofs.lemmas.Result.{IfErr-weaker}
use Rattle.c_tree.specs.Erased.{program_of}
use Rattle.c_typing.specs.Typed.{checked}
use Rattle.c_check_expressions.specs.Parts.{Stands}
use Rattle.c_check.specs.ProgramAnswers.{AreFunctions}
use Rattle.c_check.proofs.Making.{accepted_made, both_ok, refusal_made}
use Rattle.c_check.proofs.programs.finished.Goals as goal

pub returns-in-Fits-clause-accepted : goal.returns-in-Fits-clause-accepted
returns-in-Fits-clause-accepted c =
    both_ok c.within.result _ _ _ (λ p e small units h k.
    accepted_made units c.args.outline.now c.in-Fits.functions (program_of p) h
    (subst (Stands AreFunctions (checked units)) c.in-Fits.is k) e small) c.within.ensures.program
    c.within.ensures.small

pub returns-in-Fits-clause-refused : goal.returns-in-Fits-clause-refused
returns-in-Fits-clause-refused c =
    IfErr-weaker c.within.result _ _ (λ r large units end h k.
    refusal_made units end c.args.outline.now c.in-Fits.functions r h
    (subst (Stands AreFunctions (checked units)) c.in-Fits.is k) large) c.within.ensures.refused
