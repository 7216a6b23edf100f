use Rattle.std.proofs.Common.{arith}
use Rattle.c_lex.specs.Radixes.{base_of}
use Rattle.c_lex.proofs.NumberPieces.{value_grows, base_some}
use Rattle.c_lex.proofs.number_texts.value_in.Goals as goal

pub returns-then-value-gt-LIMIT : goal.returns-then-value-gt-LIMIT
returns-then-value-gt-LIMIT c = λ passes low.
    let base = base_of c.args.radix in
    let grows =
    value_grows base c.loop-b.value c.args.digits.now c.loop-b.b-index (base_some c.args.radix) c.loop-b-test.true
    in
    let above = rw c.base_in-base.ensures.value at c.if-value-gt-LIMIT.true in
    omega (arith, grows, above, c.loop-b.invariant.number, c.in_ok-worth.ensures.1)
