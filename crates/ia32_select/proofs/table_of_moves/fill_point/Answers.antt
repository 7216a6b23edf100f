-- What leads from a point has the moves on its ways.
use Rattle.std.proofs.Common.{List, sym, subst, arith}
use Rattle.std.proofs.lemmas.Result.{on_ok_weaker}
use Rattle.ia32_insn.specs.declared.insn.Insn.{Insn}
use Rattle.flow_liveness.proofs.Placed.{placed-within}
use Rattle.ia32_select.specs.EdgeMoves.{AreBetween}
use Rattle.ia32_select.proofs.Tables.{fills-point}
use Rattle.ia32_select.proofs.table_of_moves.fill_point.Goals as goal

pub set-requires : goal.set-requires
set-requires c =
    omega (
      arith,
      c.requires.points,
      placed-within c.args.graph.now c.is_flow.ensures.0 c.is_flow.ensures.1 c.args.point c.requires.placed,
    )

pub returns : goal.returns
returns c =
    let flow = c.args.graph.now in
    let places = c.args.map.now in
    let within = placed-within flow c.is_flow.ensures.0 c.is_flow.ensures.1 c.args.point c.requires.placed in
    on_ok_weaker c.set.result
    (fills-point flow places c.args.point c.next_points-first.result.0 c.next_points-first.result.1
    c.as_slice.result.now c.as_slice-2.result.now c.args.table.now c.set.new.self c.next_points-first.ensures
    (λ to e. subst (λ (l : List Insn). AreBetween flow places c.args.point to l) (sym c.as_slice.ensures.value)
    (c.insns_to-to_first.ensures to e))
    (λ to e. subst (λ (l : List Insn). AreBetween flow places c.args.point to l) (sym c.as_slice-2.ensures.value)
    (c.insns_to-to_second.ensures to e)) (omega (arith, c.requires.points, within)))
    c.set.ensures
