-- Pieces whose variables ascend, and the span of one variable's.
use Rattle.std.proofs.lemmas.Bool.Decides.{nat_tests}
use Rattle.std.proofs.Common.{ℕ, zero, suc, ◌==◌, ◌≡◌, ◌<◌, ◌≤◌, ◌-◌, Bool}
use Rattle.std.proofs.Common.{true, false, IsTrue, List, [], ◌∷◌, ◌++◌, length, get_or}
use Rattle.std.proofs.Common.{leb, ltb, refl, ap, arith}
use Rattle.std.specs.List.Sorted.{IsPartitionPoint}
use Rattle.std.proofs.lemmas.Bool.{leb-true, leb-false, ltb-true, ltb-false}
use Rattle.std.proofs.lemmas.List.{get_or_default}
use Rattle.std.proofs.lemmas.List.Sorted.{IsNonDecreasingBy-push, IsNonDecreasingBy-short}
use Rattle.std.proofs.lemmas.Option.{slice_get_within, get_or_from_slice_get}
use Rattle.pcc_base.specs.declared.run.Width.TheVariants.{One}
use Rattle.puzzle_board.specs.declared.piece.Kind.TheVariants.{X}
use Rattle.puzzle_board.specs.declared.piece.Piece.{Piece}
use Rattle.puzzle_board.specs.Stored.{IsAscending, IsSpan}

suc-not-zero : (n : ℕ) → true ≡ (suc n == 0) → ⊥
suc-not-zero n e = grind (arith, nat_tests, e)

some-piece : Piece
some-piece = record { kind = X; width = One; var = 0 }

le-unless : (a b : ℕ) (t : Bool) → leb a b ≡ t → (b < a → ⊥) → a ≤ b
le-unless a b true e n = leb-true a b e
le-unless a b false e n = absurd (n (leb-false a b e))

lt-unless : (a b : ℕ) (t : Bool) → ltb a b ≡ t → (b ≤ a → ⊥) → a < b
lt-unless a b true e n = ltb-true a b e
lt-unless a b false e n = absurd (n (ltb-false a b e))

pub some-there : (n : ℕ) → false ≡ (n == 0) → 0 < n
some-there zero e = absurd (cc)
some-there (suc n) e = omega arith

pub none-there : (n : ℕ) → true ≡ (n == 0) → n ≡ 0
none-there zero e = refl
none-there (suc n) e = absurd (suc-not-zero n e)

-- a piece whose variable is no less than the last comes behind
pub ascending-more :
    (pieces : List Piece) (p d : Piece) → 0 < length pieces
    → IsTrue (leb (get_or pieces (length pieces - 1) d).var p.var) → IsAscending pieces
    → IsAscending (pieces ++ p ∷ [])
ascending-more pieces p d some last up =
    IsNonDecreasingBy-push (λ (q : Piece). q.var) pieces p up (λ e h.
    let same = ap (λ (q : Piece). q.var) (get_or_default pieces (length pieces - 1) e d (omega arith)) in
    let le = leb-true (get_or pieces (length pieces - 1) d).var p.var last in
    omega (arith, same, le))

-- one piece ascends
pub ascending-one : (pieces : List Piece) (p : Piece) → length pieces ≡ 0 → IsAscending (pieces ++ p ∷ [])
ascending-one [] p none = IsNonDecreasingBy-short (λ (q : Piece). q.var) (p ∷ []) (omega arith)
ascending-one (q ∷ pieces) p none = absurd (omega arith)

-- all pieces are in the span from the first to the last
pub whole-span : (pieces : List Piece) (v : ℕ) → IsSpan pieces v 0 (length pieces)
whole-span pieces v = record {
  ordered = omega arith;
  within = omega arith;
  all = λ i p e d. (omega arith, slice_get_within pieces i p e);
}

true-false : (b : Bool) → b ≡ true → b ≡ false → ⊥
true-false b e d = absurd (cc)

-- a variable's pieces are between the two points where the others end and begin
pub span-between :
    (pieces : List Piece) (v from to : ℕ) → from ≤ length pieces → to ≤ length pieces
    → IsPartitionPoint (λ p. ltb p.var v ≡ true) (λ p. ltb p.var v ≡ false) pieces from
    → IsPartitionPoint (λ p. leb p.var v ≡ true) (λ p. leb p.var v ≡ false) pieces to
    → IsSpan pieces v from to
span-between pieces v from to few fewer first last = record {
  ordered = le-unless from to (leb from to) refl (λ h.
      let d = some-piece in
      let low = ltb-true (get_or pieces to d).var v (first.0 to d (omega arith) h) in
      let high = leb-false (get_or pieces to d).var v (last.1 to d (omega arith) (omega arith)) in
      omega (arith, low, high));
  within = fewer;
  all = λ i p e is. (
    le-unless from i (leb from i) refl (λ h.
        let low = ltb-true (get_or pieces i p).var v (first.0 i p (omega arith) h) in
        let same = ap (λ (q : Piece). q.var) (get_or_from_slice_get pieces i p p e) in
        omega (arith, low, same, is)),
    lt-unless i to (ltb i to) refl (λ h.
        let high = leb-false (get_or pieces i p).var v (last.1 i p h (slice_get_within pieces i p e)) in
        let same = ap (λ (q : Piece). q.var) (get_or_from_slice_get pieces i p p e) in
        omega (arith, high, same, is)),
  );
}
