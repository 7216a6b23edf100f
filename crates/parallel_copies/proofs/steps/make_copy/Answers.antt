use Rattle.std.proofs.Common.{◌≡◌, true, false, rules}
use Rattle.parallel_copies.specs.Overlap.{is_same}
use Rattle.ia32_emit.specs.Locations.{distance}
use Rattle.parallel_copies.specs.Copies.{source, target}
use Rattle.parallel_copies.proofs.Doing.{copy-done, idle-done}
use Rattle.parallel_copies.proofs.steps.make_copy.Goals as goal

pub returns-then-not-is_same : goal.returns-then-not-is_same
returns-then-not-is_same c =
    let other : is_same (source c.remove-m.result) (target c.remove-m.result) ≡ false = search rules in
    copy-done (distance c.args.word) c.args.waiting.now.items c.remove-m.new.self.items c.args.i c.remove-m.result
    c.args.out.now.items c.push.new.self.items c.copy_insn.result c.requires.waiting c.requires.next
    c.remove-m.ensures.value c.remove-m.ensures.items other c.copy_insn.ensures c.push.ensures.items

pub returns-else-not-is_same : goal.returns-else-not-is_same
returns-else-not-is_same c =
    let one : is_same (source c.remove-m.result) (target c.remove-m.result) ≡ true = search rules in
    idle-done (distance c.args.word) c.args.waiting.now.items c.remove-m.new.self.items c.args.i c.remove-m.result
    c.args.out.now.items c.requires.waiting c.requires.next c.remove-m.ensures.value c.remove-m.ensures.items one
