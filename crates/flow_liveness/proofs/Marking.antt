-- Marks of points.
use Rattle.std.proofs.Common.{ℕ, zero, suc, ◌≡◌, ◌≢◌, ◌<◌, ◌⊎◌, inl, inr, Bool, true, false, cond, eqb, List, []}
use Rattle.std.proofs.Common.{◌∷◌, length}
use Rattle.std.proofs.Common.{Option, Some, None, refl, sym, ap, subst, arith, ◌∙◌}
use Rattle.std.specs.List.{slice_get, slice_set}
use Rattle.std.proofs.lemmas.Bool.{cases_eq}
use Rattle.std.proofs.lemmas.Bool.Decides.{eqb_tells}
use Rattle.std.proofs.lemmas.Option.{same_Some}
use Rattle.flow_liveness.specs.Search.{AllEarlier, NoneLater, unmarked}
use Rattle.flow_liveness.specs.SearchBack.{IsMarked}

-- what is set is there
pub set-same : {X : Type 0} (xs : List X) (i : ℕ) (x : X) → i < length xs → slice_get (slice_set xs i x) i ≡ Some x
set-same [] i x h = absurd (omega arith)
set-same (y ∷ xs) zero x h = refl
set-same (y ∷ xs) (suc i) x h = set-same xs i x (omega arith)

-- and all else stays
pub set-other : {X : Type 0} (xs : List X) (i j : ℕ) (x : X) → j ≢ i → slice_get (slice_set xs i x) j ≡ slice_get xs j
set-other [] i j x n = refl
set-other (y ∷ xs) zero zero x n = absurd (n refl)
set-other (y ∷ xs) zero (suc j) x n = refl
set-other (y ∷ xs) (suc i) zero x n = refl
set-other (y ∷ xs) (suc i) (suc j) x n = set-other xs i j x (λ e. n (ap suc e))

-- a mark is of the variable, or not
marked-or-not : (o : Option (Option ℕ)) (v : ℕ) → (o ≡ Some (Some v)) ⊎ (o ≡ Some (Some v) → ⊥)
marked-or-not None v = inr (λ e. cc)
marked-or-not (Some None) v = inr (λ e. cc)
marked-or-not (Some (Some w)) v =
    elim (cases_eq w v) [
      | inl e ↦ inl (ap (λ (x : ℕ). Some (Some x)) e)
      | inr n ↦ inr (λ e. n (same_Some w v (same_Some (Some w) (Some v) e)))
    ]

-- a point is marked with the variable, or not
pub mark-decides : (marks : List (Option ℕ)) (v point : ℕ) → IsMarked marks v point ⊎ (IsMarked marks v point → ⊥)
mark-decides marks v point = marked-or-not (slice_get marks point) v

-- after a point was marked
module _ (marks : List (Option ℕ)) (v point : ℕ) (within : point < length marks) where
  -- it has the mark
  pub mark-here : IsMarked (slice_set marks point (Some v)) v point
  mark-here = set-same marks point (Some v) within

  -- and the others have the marks that they had
  pub mark-there : (w q : ℕ) → q ≢ point → IsMarked (slice_set marks point (Some v)) w q → IsMarked marks w q
  mark-there w q n e = sym (set-other marks point q (Some v) n) ∙ e

  pub mark-stays : (w q : ℕ) → q ≢ point → IsMarked marks w q → IsMarked (slice_set marks point (Some v)) w q
  mark-stays w q n e = set-other marks point q (Some v) n ∙ e

  -- no mark is of a later variable
  pub mark-later : NoneLater marks v → NoneLater (slice_set marks point (Some v)) v
  mark-later none q w e =
      elim (cases_eq q point) [
        | inl same ↦
            let here : Some (Some v) ≡ Some (Some w) =
            sym mark-here ∙ subst (λ (j : ℕ). slice_get (slice_set marks point (Some v)) j ≡ Some (Some w)) same
            e in
            let equal : v ≡ w = same_Some v w (same_Some (Some v) (Some w) here) in omega arith
        | inr n ↦ none q w (mark-there w q n e)
      ]

-- where marks are of earlier variables, no point has this one
pub none-marked : (marks : List (Option ℕ)) (v : ℕ) → AllEarlier marks v → (point : ℕ) → IsMarked marks v point → ⊥
none-marked marks v all point e = let l : v < v = all point v e in omega arith

-- one point fewer is unmarked after one was marked
pub unmarked-set : (v : ℕ) (marks : List (Option ℕ)) (point : ℕ) → point < length marks → (IsMarked marks v point → ⊥)
    → unmarked v marks ≡ suc (unmarked v (slice_set marks point (Some v)))
unmarked-set v [] point h n = absurd (omega arith)
unmarked-set v (None ∷ marks) zero h n =
    elim (eqb_tells v v) [
      | inl same ↦ ap suc (sym (ap (λ (b : Bool). cond b (unmarked v marks) (suc (unmarked v marks))) same.0))
      | inr other ↦ absurd (other.1 refl)
    ]
unmarked-set v (Some w ∷ marks) zero h n =
    elim (eqb_tells v v) [
      | inl same ↦ ap (λ (b : Bool). cond b (unmarked v marks) (suc (unmarked v marks))) (differs w n)
          ∙ ap suc (sym (ap (λ (b : Bool). cond b (unmarked v marks) (suc (unmarked v marks))) same.0))
      | inr other ↦ absurd (other.1 refl)
    ]
  where
    differs : (w : ℕ) → (Some (Some w) ≡ Some (Some v) → ⊥) → eqb w v ≡ false
    differs w n =
        elim (eqb_tells w v) [
          | inl same ↦ absurd (n (ap (λ (x : ℕ). Some (Some x)) same.1))
          | inr other ↦ other.0
        ]
unmarked-set v (None ∷ marks) (suc point) h n = ap suc (unmarked-set v marks point (omega arith) n)
unmarked-set v (Some w ∷ marks) (suc point) h n =
    elim (eqb w v) as (λ b. cond b (unmarked v marks) (suc (unmarked v marks))
    ≡ suc (cond b (unmarked v (slice_set marks point (Some v)))
    (suc (unmarked v (slice_set marks point (Some v)))))) [
      | true ↦ unmarked-set v marks point (omega arith) n
      | false ↦ ap suc (unmarked-set v marks point (omega arith) n)
    ]

-- where none is marked, all are unmarked
pub all-unmarked : (v : ℕ) (marks : List (Option ℕ)) → ((point : ℕ) → IsMarked marks v point → ⊥)
    → unmarked v marks ≡ length marks
all-unmarked v [] none = refl
all-unmarked v (None ∷ marks) none = ap suc (all-unmarked v marks (λ p. none (suc p)))
all-unmarked v (Some w ∷ marks) none =
    elim (eqb_tells w v) [
      | inl same ↦ absurd (none 0 (ap (λ (x : ℕ). Some (Some x)) same.1))
      | inr other ↦ ap (λ (b : Bool). cond b (unmarked v marks) (suc (unmarked v marks))) other.0
          ∙ ap suc (all-unmarked v marks (λ p. none (suc p)))
    ]
