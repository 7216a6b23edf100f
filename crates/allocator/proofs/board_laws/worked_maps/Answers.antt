-- The placements are computed.
use Rattle.std.proofs.Common.{◌≡◌, ℕ, zero, suc, ℤ, negsuc, [], ◌∷◌, length, Some, inl, inr, refl, sym, ap}
use Rattle.std.proofs.Common.{◌∙◌, subst, arith}
use Rattle.std.proofs.lemmas.Option.{none-some, same_Some}
use Rattle.flow_graph.specs.Graphs.{IsIn}
use Rattle.puzzle_board.specs.declared.piece.Kind.TheVariants.{X, Y, Z}
use Rattle.puzzle_board.specs.declared.piece.Piece.{Piece}
use Rattle.allocator.specs.PointMaps.{InSlot, SpilledInSlots, slot_of}
use Rattle.allocator.specs.WorkedBoards.{in_slot, wide_piece}
use Rattle.allocator.proofs.LegalExample.{legal-map}
use Rattle.allocator.proofs.board_laws.worked_maps.Goals as goal

pub returns-clause-registers : goal.returns-clause-registers
returns-clause-registers c = record {
  lists_before = refl;
  lists_after = refl;
  operand = λ fixed e. absurd (none-some fixed e);
  result = λ fixed e. absurd (none-some fixed e);
  spilled = λ k piece at i. absurd i;
  placed = record { each = refl; legal = (refl, (refl, (refl, tt)), (refl, (refl, tt), (refl, tt, tt))) };
}

-- another variable isn't spilled
not-spilled : (v : ℕ) (piece : Piece) → v ≡ piece.var → (0 ≡ v → ⊥) → IsIn piece.var (0 ∷ []) → ⊥
not-spilled v piece e n (inl same) = n (same ∙ sym e)
not-spilled v piece e n (inr none) = none

in-its-slot : SpilledInSlots in_slot 0 (wide_piece Y 0 ∷ wide_piece X 1 ∷ wide_piece Z 2 ∷ [])
in-its-slot zero piece at i =
    subst (λ (p : Piece). (offset : ℤ) × (slot_of in_slot p.var ≡ Some offset) × InSlot in_slot 0 offset p.kind p.var)
    (same_Some (wide_piece Y 0) piece at) (negsuc 19, refl, (refl, refl))
in-its-slot (suc zero) piece at i =
    absurd (not-spilled 1 piece (ap (λ (p : Piece). p.var) (same_Some (wide_piece X 1) piece at))
    (λ e. omega (arith, e)) i)
in-its-slot (suc (suc zero)) piece at i =
    absurd (not-spilled 2 piece (ap (λ (p : Piece). p.var) (same_Some (wide_piece Z 2) piece at))
    (λ e. omega (arith, e)) i)
in-its-slot (suc (suc (suc k))) piece at i = absurd (none-some piece at)

pub returns-clause-slot : goal.returns-clause-slot
returns-clause-slot c = record {
  lists_before = refl;
  lists_after = refl;
  operand = λ fixed e. absurd (none-some fixed e);
  result = λ fixed e. absurd (none-some fixed e);
  spilled = in-its-slot;
  placed = record { each = refl; legal = (refl, (refl, tt), (refl, tt, tt)) };
}

pub returns-clause-on_top : goal.returns-clause-on_top
returns-clause-on_top c h = let e = h.placed.legal.1.1.0 in absurd (cc)

pub returns-clause-moved : goal.returns-clause-moved
returns-clause-moved c h = let e = ap length h.placed.each in absurd (omega (arith, e))

pub returns-clause-whole : goal.returns-clause-whole
returns-clause-whole c = legal-map

pub returns-clause-frame : goal.returns-clause-frame
returns-clause-frame c h = let e = h.frame.frame in absurd (omega (arith, e))
