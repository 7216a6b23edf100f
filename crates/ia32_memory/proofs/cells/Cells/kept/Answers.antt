use Rattle.std.proofs.Common.{◌≡◌, ℕ, ◌+◌, ◌-◌, List, length, take, drop, sym, ap, ◌∙◌, arith}
use Rattle.ia32_memory.proofs.KeepingCells.{among-last, laid-front, laid-back}
use Rattle.ia32_memory.proofs.cells.Cells.kept.Goals as goal

pub returns-then-offset-count-clause-value : goal.returns-then-offset-count-clause-value
returns-then-offset-count-clause-value c =
    let cells = c.args.self.now in
    let offset = c.args.offset in
    let count : offset + c.args.count - offset ≡ c.args.count = omega arith in
    ap (λ (n : ℕ). take n (drop offset c.deref.result.now)) count
    ∙ ap (λ (l : List ℕ). take c.args.count (drop offset l)) c.deref.ensures.value
    ∙ sym (laid-front cells.size offset c.args.count cells.front.items cells.back.items
    (omega (arith, c.if-offset-count.true, c.count.ensures)))

pub returns-else-offset-count-clause-value : goal.returns-else-offset-count-clause-value
returns-else-offset-count-clause-value c =
    let cells = c.args.self.now in
    let place = c.args.offset - c.border.result in
    let count : place + c.args.count - place ≡ c.args.count = omega arith in
    let past = among-last (c.args.offset + c.args.count) (length cells.front.items)
    (cells.size - length cells.back.items) c.args.offset c.requires.kept
    (omega (arith, c.if-offset-count.false, c.count.ensures)) in
    ap (λ (n : ℕ). take n (drop place c.deref-else-offset-count.result.now)) count
    ∙ ap (λ (l : List ℕ). take c.args.count (drop place l)) c.deref-else-offset-count.ensures.value
    ∙ ap (λ (border : ℕ). take c.args.count (drop (c.args.offset - border) cells.back.items)) c.border.ensures
    ∙ sym (laid-back cells.size c.args.offset c.args.count cells.front.items cells.back.items c.requires.within.0 past)
