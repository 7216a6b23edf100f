-- One entry after another, until none is left.
use Rattle.std.proofs.Common.{◌≡◌, ◌≤◌, ◌⊎◌, ◌+◌, ℕ, List, length, drop, sym, subst, arith}
use Rattle.puzzle_board.specs.Places.{Entry, entries_at}
use Rattle.ia32_select.specs.EdgeMoves.{IsMinded}
use Rattle.ia32_select.proofs.Gathering.{IsLeft, edge-points, left-first, left-last, left-more, moves-first}
use Rattle.ia32_select.proofs.edges.moves_on.Goals as goal

pub entries_before-entry-items-requires : goal.entries_before-entry-items-requires
entries_before-entry-items-requires c =
    let e = c.args.edge.now in
    (edge-points e.graph.now c.is_flow.ensures.0 e.map.now c.is_flow.ensures.1 c.requires.selects e.point e.next
    c.requires.leads).1

pub loop-entry-init : goal.loop-entry-init
loop-entry-init c =
    let e = c.args.edge.now in
    record {
      so_far = moves-first e.graph.now e.map.now e.point e.next c.new-variables.result.items c.new-moves.result.items
          c.new-variables.ensures c.new-moves.ensures;
      left = left-first e.map.now e.point e.next c.new-variables.result.items;
    }

pub loop-entry-preserved : goal.loop-entry-preserved
loop-entry-preserved c =
    let e = c.args.edge.now in
    let entries : List Entry = c.entries_before-entry-items.result.now in
    let are : entries ≡ entries_at e.map.now.before e.next = c.entries_before-entry-items.ensures in
    let i : ℕ = c.loop-entry.entry-index in
    let old : List ℕ = c.loop-entry.variables.items in
    let new : List ℕ = c.add_move.new.variables.items in
    record {
      so_far = c.add_move.ensures.so_far;
      left = λ v. subst (λ (es : List Entry). IsMinded e.map.now e.point e.next new v ⊎ IsLeft (drop (i + 1) es) v) are
          (left-more e.map.now e.point e.next old new entries i _ c.loop-entry-test.true c.add_move.ensures.minds
          (λ w. subst (λ (es : List Entry). IsMinded e.map.now e.point e.next old w ⊎ IsLeft (drop i es) w) (sym are)
          (c.loop-entry.invariant.left w)) v);
    }

pub returns : goal.returns
returns c =
    let e = c.args.edge.now in
    let entries : List Entry = c.entries_before-entry-items.result.now in
    let are : entries ≡ entries_at e.map.now.before e.next = c.entries_before-entry-items.ensures in
    let i : ℕ = c.loop-entry.entry-index in
    let vs : List ℕ = c.loop-entry.variables.items in
    let past : length entries ≤ i = omega (arith, c.loop-entry-test.false) in (
      vs,
      record {
        moves_of = c.loop-entry.invariant.so_far;
        all = left-last e.map.now e.point e.next vs entries i past
            (λ w. subst (λ (es : List Entry). IsMinded e.map.now e.point e.next vs w ⊎ IsLeft (drop i es) w) (sym are)
            (c.loop-entry.invariant.left w));
      },
    )
