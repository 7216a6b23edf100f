use Rattle.std.proofs.Common.{ap, ◌∙◌}
use Rattle.pcc_gen.specs.Generated.{after_statements, closing, next, opening, statements}
use Rattle.pcc_gen.proofs.Putting.{put_same, put_three}
use Rattle.pcc_gen.proofs.functions.push_function.Goals as goal

pub returns-clause-text : goal.returns-clause-text
returns-clause-text c =
    let x = c.args.draws.now.x in
    let opened = c.in_ok-push_opening.ensures.next in
    let drawn = c.in_ok-push_statements.ensures.next ∙ ap (after_statements 30) opened in
    put_three (opening c.args.number x) (statements 30 (next x)) (closing (after_statements 30 (next x))) _ _ _ _
    c.in_ok-push_opening.ensures.text (put_same (statements 30) _ _ _ _ c.in_ok-push_statements.ensures.text opened)
    (put_same closing _ _ _ _ c.in_ok-push_closing.ensures.text drawn)
