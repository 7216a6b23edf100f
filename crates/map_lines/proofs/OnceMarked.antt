-- Where each statement is marked once in all graphs together, two marks of one statement are one point of one graph.
use Rattle.std.proofs.Common.{◌≡◌, ◌≢◌, ℕ, zero, suc, List, [], ◌∷◌, Some, refl, sym, ap, ◌∙◌, inl, inr}
use Rattle.std.specs.Prelude.{slice_get}
use Rattle.std.proofs.lemmas.Option.{none-some, same_Some}
use Rattle.flow_graph.specs.declared.op.Op.{Op}
use Rattle.flow_graph.specs.declared.op.Op.TheVariants as op
use Rattle.flow_graph.specs.Graphs.{Flow, IsDistinct, IsIn}
use Rattle.flow_graph.proofs.Points.{every-in}
use Rattle.lower_lines.specs.Lowering.{marks_in, marks_of}
use Rattle.map_lines.proofs.Blocks.{distinct-parts, in-back, in-front}

-- ---- one graph

pub mark-number : (m n : ℕ) → Some (op.Mark m) ≡ Some (op.Mark n) → m ≡ n
mark-number m n e = cc

-- a statement that an op marks is among those of all ops
pub marked-in : (ops : List Op) (p n : ℕ) → slice_get ops p ≡ Some (op.Mark n) → IsIn n (marks_in ops)
marked-in [] p n at = absurd (none-some (op.Mark n) at)
marked-in (op.Mark m ∷ ops) zero n at = inl (mark-number m n at)
marked-in (op.Mark m ∷ ops) (suc p) n at = inr (marked-in ops p n at)
marked-in (i ∷ ops) zero n at = absurd (cc)
marked-in (i ∷ ops) (suc p) n at = marked-in ops p n at

-- no two ops mark one statement
pub one-op : (ops : List Op) (p q n : ℕ) → IsDistinct (marks_in ops) → slice_get ops p ≡ Some (op.Mark n)
    → slice_get ops q ≡ Some (op.Mark n) → p ≡ q
one-op [] p q n once at other = absurd (none-some (op.Mark n) at)
one-op (op.Mark m ∷ ops) zero zero n once at other = refl
one-op (op.Mark m ∷ ops) zero (suc q) n once at other =
    absurd (every-in (λ k. k ≢ m) n (marks_in ops) once.0 (marked-in ops q n other) (sym (mark-number m n at)))
one-op (op.Mark m ∷ ops) (suc p) zero n once at other =
    absurd (every-in (λ k. k ≢ m) n (marks_in ops) once.0 (marked-in ops p n at) (sym (mark-number m n other)))
one-op (op.Mark m ∷ ops) (suc p) (suc q) n once at other = ap suc (one-op ops p q n once.1 at other)
one-op (i ∷ ops) zero q n once at other = absurd (cc)
one-op (i ∷ ops) (suc p) zero n once at other = absurd (cc)
one-op (i ∷ ops) (suc p) (suc q) n once at other = ap suc (one-op ops p q n once at other)

-- ---- all graphs

-- a statement that a graph marks is among those of all
in-marks : (flows : List Flow) (k : ℕ) (flow : Flow) (p n : ℕ) → slice_get flows k ≡ Some flow
    → slice_get flow.ops p ≡ Some (op.Mark n) → IsIn n (marks_of flows)
in-marks [] k flow p n at has = absurd (none-some flow at)
in-marks (w ∷ flows) zero flow p n at has =
    in-front n (marks_in w.ops) (marks_of flows)
    (marked-in w.ops p n (ap (λ (x : Flow). slice_get x.ops p) (same_Some w flow at) ∙ has))
in-marks (w ∷ flows) (suc k) flow p n at has =
    in-back n (marks_in w.ops) (marks_of flows) (in-marks flows k flow p n at has)

-- two marks of one statement are one point of one graph
pub one-place : (flows : List Flow) (j k : ℕ) (one other : Flow) (p q n : ℕ) → IsDistinct (marks_of flows)
    → slice_get flows j ≡ Some one → slice_get flows k ≡ Some other → slice_get one.ops p ≡ Some (op.Mark n)
    → slice_get other.ops q ≡ Some (op.Mark n) → (j ≡ k) × (p ≡ q)
one-place [] j k one other p q n once at there has too = absurd (none-some one at)
one-place (w ∷ flows) zero zero one other p q n once at there has too =
    let parts = distinct-parts (marks_in w.ops) (marks_of flows) once in (
      refl,
      one-op w.ops p q n parts.front (ap (λ (x : Flow). slice_get x.ops p) (same_Some w one at) ∙ has)
          (ap (λ (x : Flow). slice_get x.ops q) (same_Some w other there) ∙ too),
    )
one-place (w ∷ flows) zero (suc k) one other p q n once at there has too =
    absurd ((distinct-parts (marks_in w.ops) (marks_of flows) once).apart n n
    (marked-in w.ops p n (ap (λ (x : Flow). slice_get x.ops p) (same_Some w one at) ∙ has))
    (in-marks flows k other q n there too) refl)
one-place (w ∷ flows) (suc j) zero one other p q n once at there has too =
    absurd ((distinct-parts (marks_in w.ops) (marks_of flows) once).apart n n
    (marked-in w.ops q n (ap (λ (x : Flow). slice_get x.ops q) (same_Some w other there) ∙ too))
    (in-marks flows j one p n at has) refl)
one-place (w ∷ flows) (suc j) (suc k) one other p q n once at there has too =
    let same = one-place flows j k one other p q n
    (distinct-parts (marks_in w.ops) (marks_of flows) once).back at there has too in (ap suc same.0, same.1)
