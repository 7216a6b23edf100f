use Rattle.std.proofs.Common.{◌∙◌, ◌+◌, arith, rules, w32}
use Rattle.std.proofs.lemmas.List.{length-set, take-set-le, drop-set-lt}
use Rattle.std.proofs.lemmas.Int.{to_z-of_z}
use Rattle.c_eval_state.proofs.Spanned.{text-step, text-whole}
use Rattle.c_eval_state.proofs.arrays.write_piece.Goals as goal

pub loop-i-preserved : goal.loop-i-preserved
loop-i-preserved c =
    let h = c.loop-i.invariant in
    let xs = c.args.elements.now in
    let ys = c.loop-i.elements in
    let at = c.args.span.start + c.loop-i.i in
    let less = c.loop-i-test.true in
    rw (to_z-of_z w32 c.text_element.result (search rules), c.text_element.ensures) (
      length-set ys at _ ∙ h.0,
      take-set-le c.args.span.start ys at _ (omega arith) ∙ h.1,
      drop-set-lt (c.args.span.start + c.args.span.count) ys at _ (omega (arith, less)) ∙ h.2,
      text-step ys xs c.args.text.now c.args.span.start c.args.span.count c.loop-i.i h.0 c.requires less h.3,
    )

pub returns-clause-here : goal.returns-clause-here
returns-clause-here c =
    let h = c.loop-i.invariant in
    text-whole c.loop-i.elements c.args.elements.now c.args.text.now c.args.span.start c.args.span.count c.requires
    (search (rules, h.3))
