-- The instructions of items have spellings, and their bytes are as many as is said.
use Rattle.std.specs.Prelude.{◌≡◌, ⊤, ℕ, ◌+◌, ◌∷◌, ℤ, pos, List, [], length, Some, None, IfSome, FitsSigned}
use Rattle.std.specs.Int.{w32}
use Rattle.std.proofs.Common.{refl, sym, ap, subst, inl, rules}
use Rattle.std.proofs.lemmas.Option.{MatchOption-at_some, same_Some}
use Rattle.ia32_insn.specs.Registers.{number32}
use Rattle.ia32_insn.specs.declared.insn.Insn.{Insn}
use Rattle.ia32_insn.specs.declared.item.Item.{Item}
use Rattle.ia32_insn.specs.declared.item.Item.TheVariants as item
use Rattle.ia32_insn.specs.Spelling.{HasSpelling, Spells, cond_number}
use Rattle.ia32_insn.specs.Preferred.{word_bytes, preferred}
use Rattle.ia32_asm.specs.Sections.{IsSpelled, item_size}
use Rattle.ia32_asm.specs.Pieces.{instruction_in, piece, spelling_of, IsPreferred}
use Rattle.ia32_asm.proofs.Words.{reads_signed}

no_distance : FitsSigned w32 (pos 0)
no_distance = search rules

-- the instruction of an item has a spelling
spelled_in : (z : ℤ) (i : Item) → FitsSigned w32 z → IsSpelled i → IfSome (instruction_in z i) HasSpelling
spelled_in z (item.Plain i) f h = h
spelled_in z (item.Label l) f h = tt
spelled_in z (item.Point p) f h = tt
spelled_in z (item.JumpTo l) f h = (0xe9 ∷ word_bytes z, inl (word_bytes z, refl, reads_signed z f))
spelled_in z (item.JumpIf c l) f h =
    (0x0f ∷ (0x80 + cond_number c) ∷ word_bytes z, inl (word_bytes z, refl, reads_signed z f))
spelled_in z (item.CallFunction g) f h =
    (0xe8 ∷ word_bytes (pos 0), (word_bytes (pos 0), refl, reads_signed (pos 0) no_distance))
spelled_in z (item.CallStub s) f h =
    (0xe8 ∷ word_bytes (pos 0), (word_bytes (pos 0), refl, reads_signed (pos 0) no_distance))
spelled_in z (item.JumpTrap None) f h =
    (0xe9 ∷ word_bytes (pos 0), inl (word_bytes (pos 0), refl, reads_signed (pos 0) no_distance))
spelled_in z (item.JumpTrap (Some c)) f h = (
  0x0f ∷ (0x80 + cond_number c) ∷ word_bytes (pos 0),
  inl (word_bytes (pos 0), refl, reads_signed (pos 0) no_distance),
)
spelled_in z (item.AddressOf r k) f h =
    ((0xb8 + number32 r) ∷ word_bytes (pos 0), inl (word_bytes (pos 0), refl, reads_signed (pos 0) no_distance))

pub spelled_some : (z : ℤ) (i : Item) (x : Insn) → FitsSigned w32 z → IsSpelled i → instruction_in z i ≡ Some x
    → HasSpelling x
spelled_some z i x f h e = MatchOption-at_some ⊤ HasSpelling x e (spelled_in z i f h)

-- an item has as many bytes as its size says
pub length-piece : (z : ℤ) (i : Item) → length (piece z i) ≡ item_size i
length-piece z (item.Plain i) = refl
length-piece z (item.Label l) = refl
length-piece z (item.Point p) = refl
length-piece z (item.JumpTo l) = refl
length-piece z (item.JumpIf c l) = refl
length-piece z (item.CallFunction f) = refl
length-piece z (item.CallStub s) = refl
length-piece z (item.JumpTrap None) = refl
length-piece z (item.JumpTrap (Some c)) = refl
length-piece z (item.AddressOf r k) = refl

-- the bytes of an item are those of its instruction
pub piece_some : (z : ℤ) (i : Item) (x : Insn) → instruction_in z i ≡ Some x → piece z i ≡ preferred x
piece_some z i x e = ap spelling_of e

pub piece_none : (z : ℤ) (i : Item) → instruction_in z i ≡ None → piece z i ≡ []
piece_none z i e = ap spelling_of e

-- a plain instruction whose spelling is the preferred one
pub preferred_some : (z : ℤ) (i : Item) (x : Insn) (bytes : List ℕ) → instruction_in z i ≡ Some x → Spells x bytes
    → bytes ≡ preferred x → IsPreferred i
preferred_some z (item.Plain i) x bytes e s p =
    subst (λ (y : Insn). Spells y (preferred y)) (sym (same_Some i x e)) (subst (λ (ys : List ℕ). Spells x ys) p s)
preferred_some z (item.Label l) x bytes e s p = tt
preferred_some z (item.Point n) x bytes e s p = tt
preferred_some z (item.JumpTo l) x bytes e s p = tt
preferred_some z (item.JumpIf c l) x bytes e s p = tt
preferred_some z (item.CallFunction f) x bytes e s p = tt
preferred_some z (item.CallStub n) x bytes e s p = tt
preferred_some z (item.JumpTrap c) x bytes e s p = tt
preferred_some z (item.AddressOf r k) x bytes e s p = tt
