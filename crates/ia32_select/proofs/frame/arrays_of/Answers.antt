-- One more array has its offset.
use Rattle.std.proofs.Common.{◌-◌, ◌++◌, ℤ, [], ◌∷◌, ap, ◌∙◌, to_z, arith}
use Rattle.std.specs.Int.{w32}
use Rattle.std.proofs.lemmas.Int.{to_z_pos}
use Rattle.ia32_select.proofs.Loops.{array-computed}
use Rattle.ia32_select.proofs.Offsets.{header-room, offsets-more}
use Rattle.ia32_select.proofs.frame.arrays_of.Goals as goal

pub array_bytes-header-requires : goal.array_bytes-header-requires
array_bytes-header-requires c =
    let room = header-room c.args.graph.now c.args.map.now c.loop-array.array c.loop-array.header c.array.result
    c.loop-array.offsets.items c.requires c.loop-array.invariant c.array.ensures in
    omega (arith, room.0, room.1, room.2)

pub overflow_sub-header-in-loop-array : goal.overflow_sub-header-in-loop-array
overflow_sub-header-in-loop-array c =
    let room = header-room c.args.graph.now c.args.map.now c.loop-array.array c.loop-array.header c.array.result
    c.loop-array.offsets.items c.requires c.loop-array.invariant c.array.ensures in
    omega (arith, room.0, room.1, room.2, c.array_bytes-header.ensures)

pub loop-array-preserved : goal.loop-array-preserved
loop-array-preserved c =
    let header = c.loop-array.header in
    let room = header-room c.args.graph.now c.args.map.now c.loop-array.array header c.array.result
    c.loop-array.offsets.items c.requires c.loop-array.invariant c.array.ensures in
    let z = array-computed header (to_z w32 header) room.0 room.2 (to_z_pos w32 header (omega (arith, room.2))) in
    offsets-more c.args.graph.now c.args.map.now c.loop-array.array header (header - c.array_bytes-header.result)
    c.array.result c.loop-array.offsets.items c.push.new.self.items c.requires c.loop-array.invariant
    c.array.ensures (c.in_ok-push.ensures.items ∙ ap (λ (y : ℤ). c.loop-array.offsets.items ++ y ∷ []) z)
    (omega (arith, room.1, c.array_bytes-header.ensures))
