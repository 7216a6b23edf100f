-- Lists of points: where a point is, what holds of each, and what an insertion and a removal leave.
use Rattle.std.proofs.Common.{ℕ, ◌≡◌, ◌≢◌, inl, inr, true, false, cond, eqb, List, []}
use Rattle.std.proofs.Common.{◌∷◌, ◌++◌, Some, refl, sym, subst, eqb-true}
use Rattle.std.specs.List.{AllByRecursion, slice_get}
use Rattle.pcc_base.proofs.Lists.{all-push}
use Rattle.flow_graph.specs.declared.op.Op.{Op}
use Rattle.flow_graph.specs.Graphs.{IsIn, IsDistinct, insert_after, without, IsEndAt, IsPlainAt}
use Rattle.flow_graph.specs.Graphs.{LastIsEnd, EndsOnlyLast, is_end}

-- what holds of each of two choices holds of the choice
pub choose : {A : Type 0} (p x : ℕ) (P : A → Type 0) (a b : A) → (p ≡ x → P a) → P b → P (cond (eqb p x) a b)
choose p x P a b t f =
    (elim (eqb p x) as (λ v. eqb p x ≡ v → P (cond v a b)) [ true ↦ λ e. t (eqb-true p x e) | false ↦ λ e. f ]) refl

-- what holds of each, and of a point that comes in
pub every-insert : (P : ℕ → Type 0) (x y : ℕ) (ps : List ℕ) → AllByRecursion P ps → P y
    → AllByRecursion P (insert_after x y ps)
every-insert P x y [] h w = tt
every-insert P x y (p ∷ ps) h w =
    choose p x (AllByRecursion P) (p ∷ y ∷ ps) (p ∷ insert_after x y ps) (λ e. (h.0, (w, h.1))) (
      h.0,
      every-insert P x y ps h.1 w,
    )

-- what holds of each holds of each that is left
pub every-without : (P : ℕ → Type 0) (x : ℕ) (ps : List ℕ) → AllByRecursion P ps → AllByRecursion P (without x ps)
every-without P x [] h = tt
every-without P x (p ∷ ps) h = choose p x (AllByRecursion P) ps (p ∷ without x ps) (λ e. h.1)
    (h.0, every-without P x ps h.1)

-- what holds of each holds of a point among them
pub every-in : (P : ℕ → Type 0) (x : ℕ) (ps : List ℕ) → AllByRecursion P ps → IsIn x ps → P x
every-in P x [] h i = absurd i
every-in P x (p ∷ ps) h (inl e) = subst P e h.0
every-in P x (p ∷ ps) h (inr i) = every-in P x ps h.1 i

-- a new point at the end leaves the points distinct
pub distinct-push : (ps : List ℕ) (y : ℕ) → IsDistinct ps → AllByRecursion (λ q. q ≢ y) ps → IsDistinct (ps ++ y ∷ [])
distinct-push [] y d f = (tt, tt)
distinct-push (p ∷ ps) y d f = (all-push (λ q. q ≢ p) ps y d.0 (λ e. f.0 (sym e)), distinct-push ps y d.1 f.1)

-- a new point leaves the points distinct
pub distinct-insert : (x y : ℕ) (ps : List ℕ) → IsDistinct ps → AllByRecursion (λ q. q ≢ y) ps
    → IsDistinct (insert_after x y ps)
distinct-insert x y [] d f = tt
distinct-insert x y (p ∷ ps) d f =
    choose p x IsDistinct (p ∷ y ∷ ps) (p ∷ insert_after x y ps)
    (λ e. ((λ s. f.0 (sym s), d.0), (f.1, d.1)))
    (every-insert (λ q. q ≢ p) x y ps d.0 (λ e. f.0 (sym e)), distinct-insert x y ps d.1 f.1)

-- the points that are left are distinct
pub distinct-without : (x : ℕ) (ps : List ℕ) → IsDistinct ps → IsDistinct (without x ps)
distinct-without x [] d = tt
distinct-without x (p ∷ ps) d =
    choose p x IsDistinct ps (p ∷ without x ps) (λ e. d.1) (
      every-without (λ q. q ≢ p) x ps d.0,
      distinct-without x ps d.1,
    )

-- a point that is no end, before points of which only the last may be one
pub ends-cons : (ops : List Op) (p : ℕ) (ps : List ℕ) → IsPlainAt ops p → EndsOnlyLast ops ps → EndsOnlyLast ops (p ∷ ps)
ends-cons ops p [] h e = tt
ends-cons ops p (q ∷ ps) h e = (h, e)

-- an op is an end or none
end_or_plain : (ops : List Op) (p : ℕ) (op : Op) → slice_get ops p ≡ Some op → (IsEndAt ops p → ⊥) → IsPlainAt ops p
end_or_plain ops p op e n =
    (elim (is_end op) as (λ b. is_end op ≡ b → IsPlainAt ops p)
    [ true ↦ λ t. absurd (n (op, e, t)) | false ↦ λ f. (op, e, f) ]) refl

-- where the last is no end, none is
pub all_plain : (ops : List Op) (ps : List ℕ) → AllByRecursion (λ p. (op : Op) × (slice_get ops p ≡ Some op)) ps
    → EndsOnlyLast ops ps → (LastIsEnd ops ps → ⊥) → AllByRecursion (IsPlainAt ops) ps
all_plain ops [] h e n = tt
all_plain ops (p ∷ []) h e n = (end_or_plain ops p h.0.0 h.0.1 n, tt)
all_plain ops (p ∷ q ∷ ps) h e n = (e.0, all_plain ops (q ∷ ps) h.1 e.1 n)

-- after points that are no ends, any may come
pub ends-push : (ops : List Op) (ps : List ℕ) (y : ℕ) → AllByRecursion (IsPlainAt ops) ps
    → EndsOnlyLast ops (ps ++ y ∷ [])
ends-push ops [] y h = tt
ends-push ops (p ∷ ps) y h = ends-cons ops p (ps ++ y ∷ []) h.0 (ends-push ops ps y h.1)

-- a new point that is no end, after one that is none
pub ends-insert : (ops : List Op) (x y : ℕ) (ps : List ℕ) → IsPlainAt ops x → IsPlainAt ops y → EndsOnlyLast ops ps
    → EndsOnlyLast ops (insert_after x y ps)
ends-insert ops x y [] h w e = tt
ends-insert ops x y (p ∷ []) h w e =
    choose p x (EndsOnlyLast ops) (p ∷ y ∷ []) (p ∷ []) (λ s. (subst (IsPlainAt ops) (sym s) h, tt)) tt
ends-insert ops x y (p ∷ q ∷ ps) h w e =
    choose p x (EndsOnlyLast ops) (p ∷ y ∷ q ∷ ps) (p ∷ insert_after x y (q ∷ ps))
    (λ s. (e.0, (w, e.1)))
    (ends-cons ops p (insert_after x y (q ∷ ps)) e.0 (ends-insert ops x y (q ∷ ps) h w e.1))

-- an end stays last where a point is removed
pub ends-without : (ops : List Op) (x : ℕ) (ps : List ℕ) → EndsOnlyLast ops ps → EndsOnlyLast ops (without x ps)
ends-without ops x [] e = tt
ends-without ops x (p ∷ []) e = choose p x (EndsOnlyLast ops) [] (p ∷ []) (λ s. tt) tt
ends-without ops x (p ∷ q ∷ ps) e =
    choose p x (EndsOnlyLast ops) (q ∷ ps) (p ∷ without x (q ∷ ps)) (λ s. e.1)
    (ends-cons ops p (without x (q ∷ ps)) e.0 (ends-without ops x (q ∷ ps) e.1))

-- what holds of each that is in a list holds of each
pub every-from : (P : ℕ → Type 0) (ps : List ℕ) → ((p : ℕ) → IsIn p ps → P p) → AllByRecursion P ps
every-from P [] h = tt
every-from P (p ∷ ps) h = (h p (inl refl), every-from P ps (λ q within. h q (inr within)))
