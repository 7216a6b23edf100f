-- The map of a small graph is legal: its live sets are those of its paths, and each of its points is legal.
use Rattle.std.proofs.Common.{◌≡◌, ◌<◌, ◌↔◌, ℕ, zero, suc, ℤ, pos, [], ◌∷◌, Some}
use Rattle.std.proofs.Common.{inl, inr, refl, sym, ap, subst, arith}
use Rattle.std.specs.Prelude.{slice_get}
use Rattle.std.proofs.lemmas.Option.{none-some, same_Some}
use Rattle.flow_graph.specs.declared.op.Op.{Op}
use Rattle.flow_graph.specs.declared.op.Op.TheVariants.{Const, Return}
use Rattle.flow_graph.specs.Graphs.{IsIn, IsPlaced}
use Rattle.flow_graph.specs.Liveness.{FixedDies, IsBehind, IsDefinedAt, IsLiveAfter}
use Rattle.flow_graph.specs.Liveness.{IsLiveBefore, IsSuccessor, IsUsedAt}
use Rattle.flow_graph.specs.Liveness.{BeginsWith, LeadsTo, ReachesUse, uses}
use Rattle.flow_graph.specs.Lives.{AreLive, Lives, at_point}
use Rattle.allocator.specs.PointMaps.{IsLegalMap, IsLegalPoint, slot_of}
use Rattle.puzzle_board.specs.Places.{spilled_at}
use Rattle.allocator.specs.SplitForms.{FixedOperandsDie}
use Rattle.allocator.specs.WorkedBoards.{five_in_eax, five_returned}

lives : Lives
lives = record { before = [] ∷ (0 ∷ []) ∷ []; after = (0 ∷ []) ∷ [] ∷ [] }

-- ---- paths

first-op : (op : Op) → slice_get five_returned.ops 0 ≡ Some op → Const 0 (pos 5) ≡ op
first-op op e = same_Some (Const 0 (pos 5)) op e

second-op : (op : Op) → slice_get five_returned.ops 1 ≡ Some op → Return (Some 0) ≡ op
second-op op e = same_Some (Return (Some 0)) op e

-- point 1 uses variable 0 alone, and leads nowhere
used-second : (v : ℕ) → IsUsedAt five_returned v 1 → 0 ≡ v
used-second v (placed, op, e, used) =
    one (subst (λ (o : Op). IsIn v (uses o)) (sym (second-op op e)) used)
  where
    one : IsIn v (0 ∷ []) → 0 ≡ v
    one (inl same) = same
    one (inr none) = absurd none

leads-nowhere : (next : ℕ) → IsSuccessor five_returned 1 next → ⊥
leads-nowhere next (placed, op, e, leads) =
    subst (λ (o : Op). LeadsTo five_returned 1 next o) (sym (second-op op e)) leads

reaches-second : (v n : ℕ) → ReachesUse five_returned v n 1 → 0 ≡ v
reaches-second v zero used = used-second v used
reaches-second v (suc n) (free, next, leads, reach) = absurd (leads-nowhere next leads)

live-second : (v : ℕ) → IsLiveBefore five_returned v 1 → 0 ≡ v
live-second v (n, reach) = reaches-second v n reach

-- point 0 uses nothing, defines variable 0, and leads to point 1
pub behind-first : (next : ℕ) → IsBehind five_returned 0 next → 1 ≡ next
behind-first next (zero, e) = same_Some 1 next e
behind-first next (suc block, e) = absurd (none-some next e)

leads-second : (next : ℕ) → IsSuccessor five_returned 0 next → 1 ≡ next
leads-second next (placed, op, e, leads) =
    behind-first next (subst (λ (o : Op). LeadsTo five_returned 0 next o) (sym (first-op op e)) leads)

defined-first : (v : ℕ) → 0 ≡ v → IsDefinedAt five_returned v 0
defined-first v same = (Const 0 (pos 5), refl, ap Some same)

dead-first : (v n : ℕ) → ReachesUse five_returned v n 0 → ⊥
dead-first v zero (placed, op, e, used) = subst (λ (o : Op). IsIn v (uses o)) (sym (first-op op e)) used
dead-first v (suc n) (free, next, leads, reach) =
    free (defined-first v (reaches-second v n
    (subst (ReachesUse five_returned v n) (sym (leads-second next leads)) reach)))

second-live : (v : ℕ) → 0 ≡ v → IsLiveBefore five_returned v 1
second-live v same = (0, ((0, inr (inl refl)), Return (Some 0), refl, inl same))

first-leads : IsSuccessor five_returned 0 1
first-leads = ((0, inl refl), Const 0 (pos 5), refl, (0, refl))

one-in : (v : ℕ) → IsIn v (0 ∷ []) → 0 ≡ v
one-in v (inl same) = same
one-in v (inr none) = absurd none

are-live : AreLive five_returned lives
unfolding lives
are-live = record { befores = refl; afters = refl; before = before; after = after }
  where
    before : (point v : ℕ) → point < 2
        → IsIn v (at_point ([] ∷ (0 ∷ []) ∷ []) point) ↔ IsLiveBefore five_returned v point
    before zero v lt = ((λ i. absurd i), (λ live. dead-first v live.0 live.1))
    before (suc zero) v lt = ((λ i. second-live v (one-in v i)), (λ live. inl (live-second v live)))
    before (suc (suc point)) v lt = absurd (omega (arith, lt))

    after : (point v : ℕ) → point < 2
        → IsIn v (at_point ((0 ∷ []) ∷ [] ∷ []) point) ↔ IsLiveAfter five_returned v point
    after zero v lt = (
      (λ i. (1, first-leads, second-live v (one-in v i))),
      (λ live. inl (live-second v
          (subst (IsLiveBefore five_returned v) (sym (leads-second live.0 live.1)) live.2))),
    )
    after (suc zero) v lt = ((λ i. absurd i), (λ live. leads-nowhere live.0 live.1))
    after (suc (suc point)) v lt = absurd (omega (arith, lt))

-- ---- the map

dies : FixedOperandsDie five_returned
dies zero op placed e = subst (FixedDies five_returned 0) (first-op op e) tt
dies (suc zero) op placed e = subst (FixedDies five_returned 1) (second-op op e) tt
dies (suc (suc point)) op placed e = absurd (none-some op e)

nothing-first : (v point : ℕ) → BeginsWith five_returned 0 point → IsLiveBefore five_returned v point → ⊥
nothing-first v point begins live =
    let at = subst (IsLiveBefore five_returned v) (sym (same_Some 0 point begins)) live in dead-first v at.0 at.1

legal-points : (point : ℕ) (op : Op) → IsPlaced five_returned point → slice_get five_returned.ops point ≡ Some op
    → IsLegalPoint five_returned lives (five_in_eax 16) point op
unfolding lives
legal-points zero op placed e =
    subst (IsLegalPoint five_returned lives (five_in_eax 16) 0) (first-op op e) (record {
      lists_before = refl;
      lists_after = refl;
      operand = λ fixed f. absurd (none-some fixed f);
      result = λ fixed f. absurd (none-some fixed f);
      spilled = λ k piece at i. absurd i;
      placed = record { each = refl; legal = (refl, tt, tt) };
    })
legal-points (suc zero) op placed e =
    subst (IsLegalPoint five_returned lives (five_in_eax 16) 1) (second-op op e) (record {
      lists_before = refl;
      lists_after = refl;
      operand = λ fixed f. absurd (none-some fixed f);
      result = λ fixed f. absurd (none-some fixed f);
      spilled = λ k piece at i. absurd i;
      placed = record { each = refl; legal = (refl, tt, tt) };
    })
legal-points (suc (suc point)) op placed e = absurd (none-some op e)

no-slot : (v : ℕ) (offset : ℤ) → slot_of (five_in_eax 16) v ≡ Some offset → ⊥
no-slot zero offset e = none-some offset e
no-slot (suc v) offset e = none-some offset e

none-spilled : (v point : ℕ) → IsIn v (spilled_at (five_in_eax 16) point) → ⊥
none-spilled v zero i = i
none-spilled v (suc zero) i = i
none-spilled v (suc (suc point)) i = i

pub legal-map : IsLegalMap five_returned (five_in_eax 16)
legal-map = record {
  lives = lives;
  live = are-live;
  dies = dies;
  nothing_first = nothing-first;
  points = legal-points;
  frame = record {
    slotted = λ v.
        ((λ slot. absurd (no-slot v slot.0 slot.1)), (λ spilled. absurd (none-spilled v spilled.0 spilled.2)));
    frame = refl;
    within = λ v offset e. absurd (no-slot v offset e);
    apart = λ v w offset e f. absurd (no-slot v offset e);
  };
}
