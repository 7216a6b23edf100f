-- One byte on, whether the literal is closed is seen from there.
use Rattle.std.proofs.Common.{◌≡◌, ◌+◌, get_or, arith, ◌∙◌}
use Rattle.std.proofs.lemmas.List.{get_or_past}
use Rattle.std.proofs.lemmas.Bool.Decides.{nat_tests}
use Rattle.pcc_base.specs.Ascii.{newline}
use Rattle.c_lex.proofs.Closing.{closed_at, closed_other, closed_escape}
use Rattle.c_lex.proofs.faults.is_closed.Goals as goal
use Rattle.c_lex.proofs.faults.is_closed.Goals.{then-byte-eq92+else-at-inside}
use Rattle.c_lex.proofs.faults.is_closed.Goals.{else-at-inside-via-then-at-inside+else-inside-at-eq10}
use Rattle.c_lex.proofs.faults.is_closed.Goals.{else-at-inside-via-else-at-inside, else-byte-eq92}

pub returns-then-byte-quote : goal.returns-then-byte-quote
returns-then-byte-quote c = let e = closed_at c.args.quote c.args.inside.now c.loop-at.at c.loop-at-test.true in
    grind (arith, nat_tests)

pub returns-then-byte-eq10 : goal.returns-then-byte-eq10
returns-then-byte-eq10 c = let e = closed_at c.args.quote c.args.inside.now c.loop-at.at c.loop-at-test.true in
    grind (arith, nat_tests)

pub loop-at-preserved : goal.loop-at-preserved
loop-at-preserved c =
    elim c.if-byte-eq92.branch [
      | then-byte-eq92+else-at-inside w ↦
          elim w.else-at-inside.branch [
            | else-at-inside-via-then-at-inside+else-inside-at-eq10 v ↦
                let n : get_or c.args.inside.now (c.loop-at.at + 1) 0 ≡ newline → ⊥ = v.if-inside-at-eq10.false in
                c.loop-at.invariant ∙ closed_escape c.args.quote c.args.inside.now c.loop-at.at _ c.loop-at-test.true
                c.if-byte-quote.false w.if-byte-eq92.true n (omega arith)
            | else-at-inside-via-else-at-inside v ↦
                let past = get_or_past c.args.inside.now (c.loop-at.at + 1) 0 (omega arith) in
                let n : get_or c.args.inside.now (c.loop-at.at + 1) 0 ≡ newline → ⊥ = λ e. omega arith in
                c.loop-at.invariant ∙ closed_escape c.args.quote c.args.inside.now c.loop-at.at _ c.loop-at-test.true
                c.if-byte-quote.false w.if-byte-eq92.true n (omega arith)
          ]
      | else-byte-eq92 w ↦
          c.loop-at.invariant ∙ closed_other c.args.quote c.args.inside.now c.loop-at.at _ c.loop-at-test.true
          c.if-byte-quote.false c.if-byte-eq10.false w.if-byte-eq92.false (omega arith)
    ]
