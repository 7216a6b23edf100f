-- Where a point of a graph stands: its block in two parts, and what is behind it, comes in there or is left without it.
use Rattle.std.proofs.Common.{ℕ, ◌≡◌, ◌≢◌, ◌<◌, inl, inr, true, false, cond, eqb, List, []}
use Rattle.std.proofs.Common.{◌∷◌}
use Rattle.std.proofs.Common.{◌++◌, length, Some, refl, sym, ap, subst, arith, ◌∙◌}
use Rattle.std.specs.List.{AllByRecursion, slice_get}
use Rattle.std.proofs.lemmas.Bool.Decides.{eqb_tells}
use Rattle.std.proofs.lemmas.Option.{slice_get-get_or, get_or_from_slice_get, slice_get_within}
use Rattle.index_lists.specs.Lists.{Lists, IsListed, StandsIn}
use Rattle.flow_graph.specs.Graphs.{Flow, IsIn, IsFlow, IsPlaced, Stands, HasFittingOp, block_of, points_of, following}
use Rattle.flow_graph.specs.Graphs.{insert_after, without, next_in}
use Rattle.flow_graph.proofs.Points.{every-in}
use Rattle.flow_graph.proofs.Keeps.{has_block}
use Rattle.flow_graph.proofs.Blocks.{block-has}

-- a list of points in two parts, with a point between them that is not in the first
pub record Parts (x : ℕ) (ps : List ℕ) : Type 0 where
  pub before : List ℕ
  pub after : List ℕ
  pub whole : ps ≡ before ++ x ∷ after
  pub first : AllByRecursion (λ p. p ≢ x) before

-- a point among others has some before it and some after it
pub parts : (x : ℕ) (ps : List ℕ) → IsIn x ps → Parts x ps
parts x [] i = absurd i
parts x (p ∷ ps) i =
    elim (eqb_tells p x) [
      | inl same ↦ record { before = []; after = ps; whole = ap (λ q. q ∷ ps) same.1; first = tt }
      | inr other ↦
          let r = parts x ps (rest i other.1) in
          record {
            before = p ∷ r.before;
            after = r.after;
            whole = ap (λ qs. p ∷ qs) r.whole;
            first = (other.1, r.first);
          }
    ]
  where
    rest : IsIn x (p ∷ ps) → (p ≡ x → ⊥) → IsIn x ps
    rest (inl e) n = absurd (n e)
    rest (inr h) n = h

-- a test of numbers that are the same, and of others
same-test : (x : ℕ) → eqb x x ≡ true
same-test x = elim (eqb_tells x x) [ inl s ↦ s.0 | inr o ↦ absurd (o.1 refl) ]

other-test : (p x : ℕ) → p ≢ x → eqb p x ≡ false
other-test p x n = elim (eqb_tells p x) [ inl s ↦ absurd (n s.1) | inr o ↦ o.0 ]

-- what is behind the point is what stands after it
pub following-parts : (x : ℕ) (before after : List ℕ) → AllByRecursion (λ p. p ≢ x) before
    → following x (before ++ x ∷ after) ≡ slice_get after 0
following-parts x [] after n = ap (λ b. cond b (slice_get after 0) (following x after)) (same-test x)
following-parts x (p ∷ before) after n =
    ap (λ b. cond b (slice_get (before ++ x ∷ after) 0) (following x (before ++ x ∷ after))) (other-test p x n.0)
    ∙ following-parts x before after n.1

-- a point that comes in stands right after it
pub insert_after-parts : (x y : ℕ) (before after : List ℕ) → AllByRecursion (λ p. p ≢ x) before
    → insert_after x y (before ++ x ∷ after) ≡ before ++ x ∷ y ∷ after
insert_after-parts x y [] after n =
    ap (λ b. cond b (x ∷ y ∷ after) (x ∷ insert_after x y after)) (same-test x)
insert_after-parts x y (p ∷ before) after n =
    let rest = before ++ x ∷ after in
    ap (λ b. cond b (p ∷ y ∷ rest) (p ∷ insert_after x y rest)) (other-test p x n.0)
    ∙ ap (λ qs. p ∷ qs) (insert_after-parts x y before after n.1)

-- without it, the two parts are left
pub without-parts : (x : ℕ) (before after : List ℕ) → AllByRecursion (λ p. p ≢ x) before
    → without x (before ++ x ∷ after) ≡ before ++ after
without-parts x [] after n = ap (λ b. cond b after (x ∷ without x after)) (same-test x)
without-parts x (p ∷ before) after n =
    let rest = before ++ x ∷ after in
    ap (λ b. cond b rest (p ∷ without x rest)) (other-test p x n.0)
    ∙ ap (λ qs. p ∷ qs) (without-parts x before after n.1)

-- where a point of a graph stands on the lists that have its order
pub record Found (f : Flow) (s : Lists) (point : ℕ) : Type 0 where
  pub before : List ℕ
  pub after : List ℕ
  pub stands : StandsIn s (block_of f point) before point after
  pub whole : points_of f (block_of f point) ≡ before ++ point ∷ after
  pub first : AllByRecursion (λ p. p ≢ point) before
  pub block : block_of f point < length f.blocks

-- a point of a graph stands there
pub found : (f : Flow) (s : Lists) (point : ℕ) → s.lists ≡ f.blocks → IsPlaced f point → Found f s point
found f s point e placed =
    let b = block_of f point in
    let stands : Stands f point b = block-has f point placed in
    let within : b < length f.blocks = has_block f.blocks b point stands in
    let r = parts point (points_of f b) stands in
    let got : slice_get s.lists b ≡ Some (points_of f b) =
    ap (λ bs. slice_get bs b) e ∙ slice_get-get_or f.blocks b [] within in
    record {
      before = r.before;
      after = r.after;
      stands = got ∙ ap Some r.whole;
      whole = r.whole;
      first = r.first;
      block = within;
    }

-- so it is listed
pub listed : (f : Flow) (s : Lists) (point : ℕ) → Found f s point → IsListed s point
listed f s point h = (block_of f point, h.before, h.after, h.stands)

-- what the lists say is behind a point is the next point
pub found-next : (f : Flow) (s : Lists) (point : ℕ) (h : Found f s point) → slice_get h.after 0 ≡ next_in f point
found-next f s point h =
    sym (ap (following point) h.whole ∙ following-parts point h.before h.after h.first)

-- a new point right behind it is what the lists have
pub found-insert : (f : Flow) (s : Lists) (point new : ℕ) (h : Found f s point)
    → insert_after point new (points_of f (block_of f point)) ≡ h.before ++ point ∷ new ∷ h.after
found-insert f s point new h =
    ap (insert_after point new) h.whole ∙ insert_after-parts point new h.before h.after h.first

-- the block without it is what the lists have
pub found-without : (f : Flow) (s : Lists) (point : ℕ) (h : Found f s point)
    → without point (points_of f (block_of f point)) ≡ h.before ++ h.after
found-without f s point h = ap (without point) h.whole ∙ without-parts point h.before h.after h.first

-- a point that wasn't made yet is listed nowhere
pub unmade : (f : Flow) (homes : List ℕ) (s : Lists) (point : ℕ) → IsFlow f homes → s.lists ≡ f.blocks
    → point ≡ length f.ops → IsListed s point → ⊥
unmade f homes s point i e new (b, before, after, stands) =
    let ps : List ℕ = points_of f b in
    let got : slice_get f.blocks b ≡ Some (before ++ point ∷ after) =
    ap (λ bs. slice_get bs b) (sym e) ∙ stands in
    let are : ps ≡ before ++ point ∷ after = get_or_from_slice_get f.blocks b _ [] got in
    let has : IsIn point ps = subst (IsIn point) (sym are) (in-parts before point after) in
    let op : HasFittingOp f point = every-in (HasFittingOp f) point ps (i.each_block b).fits has in
    let below = slice_get_within f.ops point op.0 op.1 in
    absurd (omega (arith, below, new))
  where
    in-parts : (xs : List ℕ) (x : ℕ) (ys : List ℕ) → IsIn x (xs ++ x ∷ ys)
    in-parts [] x ys = inl refl
    in-parts (z ∷ xs) x ys = inr (in-parts xs x ys)
