-- What an op defines is there, and what it fixes: an operand that it reads and that dies, and what it defines.
use Rattle.std.proofs.Common.{ℕ, ◌≡◌, ◌<◌, length, inl, inr, Option, Some, None, refl, sym, ap, subst, ◌∙◌}
use Rattle.std.proofs.lemmas.Option.{none-some, same_Some, slice_get_within}
use Rattle.flow_graph.specs.declared.op.Op.{Op}
use Rattle.flow_graph.specs.declared.op.Op.TheVariants.{Div, Rem, Sar, Shl, Shr, Udiv, Urem}
use Rattle.flow_graph.specs.Graphs.{Flow, FitsOp, IsIn}
use Rattle.flow_graph.specs.Liveness.{FixedDies, IsLiveAfter, TakenDies, defined, uses}
use Rattle.flow_graph.specs.Shapes.{Takes, NoRegister, Count, Division, AcrossCall, Quotient, Remainder, shape}
use Rattle.flow_graph.proofs.Asked.{has-all}
use Rattle.puzzle_board.specs.declared.piece.Spot.{Spot}
use Rattle.allocator.specs.PointBoards.{Fixed, cl, eax, edx, fixed_at, fixed_if_any, fixed_result, fixed_use}
use Rattle.allocator.specs.PointBoards.{result_by, use_by}

-- what an op defines is a variable of the graph, where the op fits
pub defined-within :
    (flow : Flow) (op : Op) (v : ℕ) → FitsOp flow op → defined op ≡ Some v → v < length flow.widths
defined-within flow op v fits e =
    let has = (has-all flow op fits).written v e in slice_get_within flow.widths v has.0 has.1

fixed-here : (v : ℕ) (fixed found : Fixed) → v ≡ fixed.variable → Some fixed ≡ Some found → found.variable ≡ v
fixed-here v fixed found is e = sym (is ∙ ap (λ (f : Fixed). f.variable) (same_Some fixed found e))

-- the operand that is fixed is read, and not live after the op
pub fixed-used : (op : Op) (fixed : Fixed) → fixed_use op ≡ Some fixed → IsIn fixed.variable (uses op)
fixed-used (Shl d a c) fixed e = inr (inl (sym (fixed-here c (fixed_at c cl) fixed refl e)))
fixed-used (Sar d a c) fixed e = inr (inl (sym (fixed-here c (fixed_at c cl) fixed refl e)))
fixed-used (Shr d a c) fixed e = inr (inl (sym (fixed-here c (fixed_at c cl) fixed refl e)))
fixed-used (Div d a b) fixed e = inl (sym (fixed-here a (fixed_at a eax) fixed refl e))
fixed-used (Rem d a b) fixed e = inl (sym (fixed-here a (fixed_at a eax) fixed refl e))
fixed-used (Udiv d a b) fixed e = inl (sym (fixed-here a (fixed_at a eax) fixed refl e))
fixed-used (Urem d a b) fixed e = inl (sym (fixed-here a (fixed_at a eax) fixed refl e))
fixed-used _ fixed e = absurd (none-some fixed e)

taken-dies : (flow : Flow) (point : ℕ) (takes : Takes) (fixed : Fixed) → TakenDies flow point takes
    → use_by takes ≡ Some fixed → IsLiveAfter flow fixed.variable point → ⊥
taken-dies flow point NoRegister fixed dies e = absurd (none-some fixed e)
taken-dies flow point (Count c a) fixed dies e = λ live.
    dies.0 (subst (λ (v : ℕ). IsLiveAfter flow v point) (fixed-here c (fixed_at c cl) fixed refl e) live)
taken-dies flow point (Division a b gives) fixed dies e = λ live.
    dies.0 (subst (λ (v : ℕ). IsLiveAfter flow v point) (fixed-here a (fixed_at a eax) fixed refl e) live)
taken-dies flow point AcrossCall fixed dies e = absurd (none-some fixed e)

pub fixed-dies :
    (flow : Flow) (point : ℕ) (op : Op) (fixed : Fixed) → FixedDies flow point op → fixed_use op ≡ Some fixed
    → IsLiveAfter flow fixed.variable point → ⊥
fixed-dies flow point op fixed dies e = taken-dies flow point (shape op).takes fixed dies e

written-there : (written : Option ℕ) (spot : Spot) (fixed : Fixed) → fixed_if_any written spot ≡ Some fixed
    → written ≡ Some fixed.variable
written-there None spot fixed e = absurd (none-some fixed e)
written-there (Some d) spot fixed e = ap Some (sym (fixed-here d (fixed_at d spot) fixed refl e))

result-written : (takes : Takes) (written : Option ℕ) (fixed : Fixed) → result_by takes written ≡ Some fixed
    → written ≡ Some fixed.variable
result-written NoRegister written fixed e = absurd (none-some fixed e)
result-written (Count c a) written fixed e = absurd (none-some fixed e)
result-written (Division a b Quotient) written fixed e = written-there written eax fixed e
result-written (Division a b Remainder) written fixed e = written-there written edx fixed e
result-written AcrossCall written fixed e = written-there written eax fixed e

-- the result that is fixed is what the op defines
pub fixed-defined : (op : Op) (fixed : Fixed) → fixed_result op ≡ Some fixed → defined op ≡ Some fixed.variable
fixed-defined op fixed e = result-written (shape op).takes (shape op).writes fixed e
