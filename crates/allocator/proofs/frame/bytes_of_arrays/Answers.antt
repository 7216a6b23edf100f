use Rattle.std.proofs.Common.{arith}
use Rattle.allocator.proofs.Bytes.{bytes-fit, bytes-next}
use Rattle.allocator.proofs.frame.bytes_of_arrays.Goals as goal

pub overflow_cast-bytes : goal.overflow_cast-bytes
overflow_cast-bytes c =
    let fit = bytes-fit c.args.graph.now.arrays c.loop-array.array c.array.result c.loop-array.bytes
    c.array_bytes.result c.array.ensures c.loop-array.invariant c.array_bytes.ensures c.requires in
    omega (arith, fit)

pub overflow_add-bytes : goal.overflow_add-bytes
overflow_add-bytes c =
    let fit = bytes-fit c.args.graph.now.arrays c.loop-array.array c.array.result c.loop-array.bytes
    c.array_bytes.result c.array.ensures c.loop-array.invariant c.array_bytes.ensures c.requires in
    omega (arith, fit)

pub loop-array-preserved : goal.loop-array-preserved
loop-array-preserved c =
    bytes-next c.args.graph.now.arrays c.loop-array.array c.array.result c.loop-array.bytes
    c.array_bytes.result c.array.ensures c.loop-array.invariant c.array_bytes.ensures
