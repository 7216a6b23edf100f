use Rattle.std.proofs.Common.{subst}
use Rattle.std.proofs.lemmas.Result.{IfErr-weaker, IfOk-weaker}
use Rattle.c_typing.specs.Typed.{no_numbers}
use Rattle.c_check.specs.ProgramAnswers.{AreJudged}
use Rattle.c_check.specs.Outlines.{IsOutlineOf, IsUnfinished}
use Rattle.c_check.proofs.Outlining.{outline_planned, refusal_planned}
use Rattle.c_check.proofs.outlines.planned.Goals as goal

pub returns-in-Fits-clause-outline : goal.returns-in-Fits-clause-outline
returns-in-Fits-clause-outline c =
    let notes = c.args.notes.now in
    IfOk-weaker c.outlined_or_unfinished.result _ _ (λ p h units said.
    outline_planned units c.in-Fits.functions notes p.outline
    (subst (λ a. AreJudged no_numbers units a notes) c.in-Fits.is said)
    (subst (λ ns. IsOutlineOf ns p.outline) c.as_slice.ensures h)) c.outlined_or_unfinished.ensures.outline

pub returns-in-Fits-clause-refused : goal.returns-in-Fits-clause-refused
returns-in-Fits-clause-refused c =
    let notes = c.args.notes.now in
    IfErr-weaker c.outlined_or_unfinished.result _ _ (λ r h units said.
    refusal_planned units c.in-Fits.functions notes c.args.end r
    (subst (λ a. AreJudged no_numbers units a notes) c.in-Fits.is said)
    (subst (λ ns. IsUnfinished ns c.args.end r) c.as_slice.ensures h)) c.outlined_or_unfinished.ensures.refused
