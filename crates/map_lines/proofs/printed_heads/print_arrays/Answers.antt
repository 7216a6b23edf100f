use Rattle.std.proofs.Common.{◌-◌, ◌++◌, ℕ, ap, ◌∙◌, arith}
use Rattle.c_tree.specs.declared.program.LocalArray.{LocalArray}
use Rattle.c_tree.specs.Sizes.{bytes_of}
use Rattle.allocator.specs.PointMaps.{bytes_of_arrays}
use Rattle.map_text.specs.Words.{ArrayLine, line_text}
use Rattle.ia32_placements.specs.Placed.{arrays_in}
use Rattle.map_lines.specs.Printing.{graph_of}
use Rattle.map_lines.proofs.HeadTexts.{arrays-few, arrays-put, below-next, belows-many, bytes-left, bytes-taken, own_bytes}
use Rattle.map_lines.proofs.printed_heads.print_arrays.Goals as goal

pub overflow_cast-number : goal.overflow_cast-number
overflow_cast-number c =
    let same = ap bytes_of_arrays c.requires.same in
    omega (
      arith,
      c.loop-number-test.true,
      arrays-few c.args.arrays.now,
      same,
      c.requires.room,
      c.requires.small,
    )

pub loop-number-preserved : goal.loop-number-preserved
loop-number-preserved c =
    let home = c.args.home.now in
    let els = c.args.arrays.now in
    let i = c.loop-number.number in
    let x = c.index-arrays-number.result in
    let old = c.loop-number.out.items in
    let header = c.loop-number.header in
    let h = c.loop-number-test.true in
    let belows = arrays_in (graph_of home) home.places in
    let many = belows-many (graph_of home) home.places els c.requires.same in
    let own = ap own_bytes c.index-arrays-number.is in
    let left = bytes-left els i x h in
    let taken = bytes-taken els i x h in
    record {
      lines = arrays-put line_text _ old _ els belows i (header - 4) x 0 h (omega (arith, h, many))
          (below-next (graph_of home) home.places els i 0 header c.requires.same h c.loop-number.invariant.header)
          c.loop-number.invariant.lines
          (c.in_ok-push_array.ensures
          ∙ ap (λ (n : ℕ). old ++ line_text (ArrayLine i (header - 4) x.count n)) c.bytes_of.ensures
          ∙ ap (λ (a : LocalArray). old ++ line_text (ArrayLine i (header - 4) a.count (bytes_of a.element)))
          c.index-arrays-number.is);
      header = omega (
        arith,
        c.loop-number.invariant.header,
        c.array_bytes-header.ensures,
        own,
        taken,
        left,
        c.loop-number.invariant.room,
      );
      room = omega (arith, c.loop-number.invariant.room, c.array_bytes-header.ensures, own, left);
    }
