-- The header, the elements and the padding.
use Rattle.std.proofs.Common.{ap, ℕ, arith, ◌-◌, ◌*◌, ◌+◌}
use Rattle.std.specs.Prelude.{vec_len}
use Rattle.elf_link.specs.Parts.{object_of}
use Rattle.elf_link.proofs.Placing.{object_put}
use Rattle.elf_link.proofs.data.put_object.Goals as goal

pub returns : goal.returns
returns c =
    object_put (object_of c.args.object.now) c.len-count.result
    (c.elements_size.result - c.args.object.now.width * c.len-count.result)
    (c.len.result + (c.elements_size.result - c.args.object.now.width * c.len-count.result))
    (vec_len c.put_elements.new.bytes) c.args.bytes.now.items c.extend_from_slice.new.self.items
    c.put_elements.new.bytes.items c.resize.new.self.items c.to_le_bytes.result
    (omega arith) c.to_le_bytes.ensures c.in_ok-extend_from_slice.ensures.items c.in_ok-put_elements.ensures
    (omega arith) (ap (λ (n : ℕ). n - c.args.object.now.width * c.len-count.result) c.elements_size.ensures)
    (omega arith) c.in_ok-resize.ensures.items
