-- An area and the bytes that are kept of it.
use Rattle.std.specs.Prelude.{◌≡◌, ℕ, ◌+◌, ◌-◌, ◌≤◌, true, length}
use Rattle.std.proofs.Common.{sym, ◌∙◌, ap, arith}
use Rattle.std.proofs.lemmas.Bool.{and_parts, leb-true}
use Rattle.ia32_insn.specs.State.{Area, has_bytes}
use Rattle.ia32_memory.specs.declared.cells.Cells.{Cells}
use Rattle.ia32_memory.specs.Cells.{cells_seen, AreCells}
use Rattle.ia32_memory.proofs.KeepingCells.{length-laid}

-- so many bytes from an address on are among them, where the area has these
pub room-there : (area : Area) (cells : Cells) (at address n : ℕ) → AreCells cells → at ≡ area.address
    → cells_seen cells ≡ area.bytes → has_bytes area address n ≡ true → address - at + n ≤ cells.size
room-there area cells at address n are begin same has =
    let parts = and_parts _ _ has in
    let low = leb-true area.address address parts.0 in
    let high = leb-true (address + n) (area.address + length area.bytes) parts.1 in
    let long : length area.bytes ≡ cells.size =
    ap length (sym same) ∙ length-laid cells.size cells.front.items cells.back.items are.0 in
    omega (arith, low, high, long, begin)
