-- One more variable moves.
use Rattle.std.proofs.Common.{arith}
use Rattle.ia32_select.proofs.Gathering.{minds-pushed, moves-more, room}
use Rattle.ia32_select.proofs.edges.push_move.Goals as goal

pub push-requires : goal.push-requires
push-requires c =
    let e = c.args.edge.now in (
      omega arith,
      (room e.graph.now e.map.now e.point e.next c.is_flow.ensures.0 c.is_flow.ensures.1 c.requires.is_edge.selects.legal
          c.requires.is_edge.leads c.args.variables.now.items c.args.moves.now.items c.args.variable c.args.m
          c.requires.so_far c.requires.its c.requires.other).0,
    )

pub push-requires-2 : goal.push-requires-2
push-requires-2 c =
    let e = c.args.edge.now in (
      omega arith,
      (room e.graph.now e.map.now e.point e.next c.is_flow.ensures.0 c.is_flow.ensures.1 c.requires.is_edge.selects.legal
          c.requires.is_edge.leads c.args.variables.now.items c.args.moves.now.items c.args.variable c.args.m
          c.requires.so_far c.requires.its c.requires.other).1,
    )

pub returns-clause-so_far : goal.returns-clause-so_far
returns-clause-so_far c =
    let e = c.args.edge.now in
    moves-more e.graph.now e.map.now e.point e.next c.args.variables.now.items c.push.new.self.items
    c.args.moves.now.items c.push-2.new.self.items c.args.variable c.args.m c.requires.so_far c.requires.its
    c.requires.other c.push.ensures.items c.push-2.ensures.items

pub returns-clause-minds : goal.returns-clause-minds
returns-clause-minds c =
    let e = c.args.edge.now in
    minds-pushed e.map.now e.point e.next c.args.variable c.args.variables.now.items c.push.new.self.items
    c.push.ensures.items
