use Rattle.std.proofs.Common.{◌≡◌, ℕ, ◌+◌, ◌-◌, ◌≤◌, List, ◌++◌, length, replicate, ap, ◌∙◌, arith, rules}
use Rattle.ia32_memory.specs.Cells.{laid}
use Rattle.ia32_memory.proofs.KeepingCells.{fresh, laid-padded}
use Rattle.ia32_memory.proofs.cells.Cells.new.Goals as goal

pub returns-clause-same : goal.returns-clause-same
returns-clause-same c =
    let bytes = c.args.bytes.now in
    let last = c.min.result in
    let front : c.extend_from_slice.new.self.items ≡ bytes =
    c.in_ok-extend_from_slice.ensures.items ∙ ap (λ (l : List ℕ). l ++ bytes) c.in_ok-front.ensures.items in
    let back : c.resize.new.self.items ≡ replicate last 0 =
    fresh last c.new-back.result.len c.new-back.result.items c.resize.new.self.items c.new-back.ensures.items
    c.new-back.ensures.len c.in_ok-resize.ensures.items in
    let room : last ≤ c.args.size - length bytes = search rules in
    ap (λ (l : List ℕ). laid c.args.size l c.resize.new.self.items) front
    ∙ ap (λ (l : List ℕ). laid c.args.size bytes l) back
    ∙ laid-padded c.args.size last bytes (omega (arith, room, c.requires))
