-- An instruction has a spelling, and its bytes are the item's.
use Rattle.std.specs.Prelude.{◌≡◌, ℤ, Some}
use Rattle.std.specs.Int.{w32}
use Rattle.std.proofs.Common.{sym, ap, ◌∙◌, ◌++◌, List, ℕ}
use Rattle.std.proofs.lemmas.Int.{to_z-of_z}
use Rattle.ia32_asm.specs.Pieces.{instruction_in}
use Rattle.ia32_asm.proofs.Spelled.{spelled_some, piece_some, preferred_some}
use Rattle.ia32_asm.proofs.piece.put_bytes.Goals as goal

pub encode-requires : goal.encode-requires
encode-requires c =
    let e : instruction_in c.args.distance c.args.item.now ≡ Some c.in-Some.insn =
    ap (λ (z : ℤ). instruction_in z c.args.item.now) (sym (to_z-of_z w32 c.args.distance c.ranges.distance)) ∙ sym
    c.in-Some.ensures
    in
    spelled_some c.args.distance c.args.item.now c.in-Some.insn c.ranges.distance c.requires e

pub returns-in_ok-extend_from_slice-clause-bytes : goal.returns-in_ok-extend_from_slice-clause-bytes
returns-in_ok-extend_from_slice-clause-bytes c =
    let e : instruction_in c.args.distance c.args.item.now ≡ Some c.in-Some.insn =
    ap (λ (z : ℤ). instruction_in z c.args.item.now) (sym (to_z-of_z w32 c.args.distance c.ranges.distance)) ∙ sym
    c.in-Some.ensures
    in
    c.in_ok-extend_from_slice.ensures.items
    ∙ ap (λ (xs : List ℕ). c.args.bytes.now.items ++ xs)
    (c.deref.ensures.0 ∙ c.encode.ensures.bytes ∙ sym (piece_some c.args.distance c.args.item.now c.in-Some.insn e))

pub returns-in_ok-extend_from_slice-clause-spelled : goal.returns-in_ok-extend_from_slice-clause-spelled
returns-in_ok-extend_from_slice-clause-spelled c =
    let e : instruction_in c.args.distance c.args.item.now ≡ Some c.in-Some.insn =
    ap (λ (z : ℤ). instruction_in z c.args.item.now) (sym (to_z-of_z w32 c.args.distance c.ranges.distance)) ∙ sym
    c.in-Some.ensures
    in
    preferred_some c.args.distance c.args.item.now c.in-Some.insn c.encode.result.items e c.encode.ensures.spells
    c.encode.ensures.bytes
