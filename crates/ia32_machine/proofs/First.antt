-- An image has one first state.
use Rattle.std.specs.Prelude.{◌≡◌, ℕ, List}
use Rattle.std.proofs.Common.{sym, ◌∙◌, ap}
use Rattle.elf_image.specs.Segments.{Segments}
use Rattle.elf_image.proofs.Loading.{loads-one}
use Rattle.ia32_insn.specs.State.{State}
pub use Rattle.ia32_memory.proofs.First.{padded-full}
use Rattle.ia32_machine.specs.First.{First, first_state}

-- the bytes of an image have one first state with an input
pub first-one : (bytes input : List ℕ) (s t : State) → First bytes input s → First bytes input t → s ≡ t
first-one bytes input s t p q = p.2 ∙ ap (λ (g : Segments). first_state g input) (loads-one bytes p.0 q.0 p.1 q.1)
    ∙ sym q.2
