-- A write appends what it took of the rest, and one that a signal interrupted appends nothing.
use Rattle.std.proofs.lemmas.Grind.{common_steps}
use Rattle.std.proofs.Common.{◌-◌, length, take, drop, arith, subst, sym, length-drop}
use Rattle.std.proofs.lemmas.List.{length-take}
use Rattle.std.proofs.KnownBytes.{Appends-kept}
use Rattle.std.specs.Io.KnownBytes.{Appends}
use Rattle.pcc_outside.proofs.KnownMore.{appended_more}
use Rattle.pcc_outside.proofs.host.write_whole.Goals as goal
use Rattle.pcc_outside.proofs.host.write_whole.Goals.{in-Ok, in-Err+else-ne}

pub loop-preserved : goal.loop-preserved
loop-preserved g c =
    elim c.match-write.branch [
      | in-Ok w ↦ record {
        within = omega (
          arith,
          w.done-is,
          w.in-Ok.ensures.bound,
          length-take (length c.args.bytes.now - c.loop.done) (drop c.loop.done c.args.bytes.now),
          length-drop c.loop.done c.args.bytes.now,
        );
        appended =
            subst (λ k. Appends (g.W.Write.contents c.args.writer.now) (g.W.Write.contents c.write.new.self)
            (take k c.args.bytes.now)) (sym w.done-is)
            (appended_more _ (g.W.Write.contents c.loop.writer) _ c.args.bytes.now c.loop.done w.in-Ok.n
            c.loop.invariant.appended w.in-Ok.ensures.bytes);
      }
      | in-Err+else-ne w ↦ record {
        within = omega (arith, w.done-is, c.loop.invariant.within);
        appended =
            subst (λ k. Appends (g.W.Write.contents c.args.writer.now) (g.W.Write.contents c.write.new.self)
            (take k c.args.bytes.now)) (sym w.done-is)
            (Appends-kept _ (g.W.Write.contents c.loop.writer) _ _ c.loop.invariant.appended w.in-Err.ensures.bytes);
      }
    ]

pub returns-then-done-bytes-clause-whole : goal.returns-then-done-bytes-clause-whole
returns-then-done-bytes-clause-whole g c = grind (arith, common_steps)
