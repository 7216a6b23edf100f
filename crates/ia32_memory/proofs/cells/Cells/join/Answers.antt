use Rattle.std.proofs.Common.{◌≡◌, ℕ, ◌+◌, ◌≤◌, List, [], ◌++◌, length, ap, ◌∙◌, arith, vec_capacity, length-append}
use Rattle.ia32_memory.specs.Cells.{laid}
use Rattle.ia32_memory.proofs.KeepingCells.{filled, laid-joined}
use Rattle.ia32_memory.proofs.cells.Cells.join.Goals as goal

pub returns-clause-kept : goal.returns-clause-kept
returns-clause-kept c =
    let old = c.args.self.now in
    let g = c.grow.new.self in
    let kept = c.grow.ensures.kept in
    let joined = c.append.new.self in
    let left = c.append.new.other in
    let full : length g.front.items + length g.back.items ≡ g.size =
    omega (arith, c.grow.ensures.count, c.border.ensures, ap length c.grow.ensures.back, kept.size, c.requires.0) in
    let room : g.front.len + g.back.len ≤ vec_capacity g.front =
    omega (arith, full, kept.within.1, g.front.ok.0, g.back.ok.0) in
    let items = filled c.append.result joined.items (g.front.items ++ g.back.items) g.front.items
    (c.append.ensures.succeeds room) c.append.ensures.items in
    let none = filled c.append.result left.items [] g.back.items (c.append.ensures.succeeds room)
    c.append.ensures.other_items in
    let long : length joined.items ≡ length g.front.items + length g.back.items =
    ap length items ∙ length-append g.front.items g.back.items in
    record {
      same = ap (λ (l : List ℕ). laid g.size joined.items l) none
          ∙ laid-joined g.size g.front.items g.back.items joined.items items full ∙ kept.same;
      within = (
        omega (arith, long, full, ap length none),
        omega (arith, kept.within.1, c.append.ensures.capacity),
      );
      size = kept.size;
      front = omega (arith, long, kept.front);
    }
