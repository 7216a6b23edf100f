-- The block that has a point.
use Rattle.std.proofs.Common.{ℕ, zero, suc, ◌≡◌, ◌+◌, inl, inr, Bool, true, false, cond, not, List, [], ◌∷◌, get_or}
use Rattle.std.proofs.Common.{refl, sym, ap, ◌∙◌, arith, true≢false}
use Rattle.std.specs.List.{position_or_len}
use Rattle.std.proofs.lemmas.Bool.Decides.{eqb_tells}
use Rattle.std.proofs.lemmas.Option.{same_Some}
use Rattle.flow_graph.specs.Graphs.{Flow, IsIn, IsPlaced, NextInBlock, OneBlock, Stands, block_of, following, has_point}
use Rattle.flow_graph.specs.Graphs.{points_of}
use Rattle.flow_graph.proofs.Keeps.{home}

-- the test tells whether a point is among the points
in-tells : (x : ℕ) (ps : List ℕ) → IsIn x ps → has_point x ps ≡ true
in-tells x [] i = absurd i
in-tells x (p ∷ ps) i =
    elim (eqb_tells p x) [
      | inl same ↦ ap (λ (b : Bool). cond b true (has_point x ps)) same.0
      | inr other ↦ ap (λ (b : Bool). cond b true (has_point x ps)) other.0 ∙ in-tells x ps (rest i other.1)
    ]
  where
    rest : IsIn x (p ∷ ps) → (p ≡ x → ⊥) → IsIn x ps
    rest (inl e) n = absurd (n e)
    rest (inr h) n = h

-- and the other way round
tells-in : (x : ℕ) (ps : List ℕ) → has_point x ps ≡ true → IsIn x ps
tells-in x [] e = absurd (cc)
tells-in x (p ∷ ps) e =
    elim (eqb_tells p x) [
      | inl same ↦ inl same.1
      | inr other ↦ inr (tells-in x ps (sym (ap (λ (b : Bool). cond b true (has_point x ps)) other.0) ∙ e))
    ]

-- a point that some block has is in the first one that has it
first-has : (x : ℕ) (blocks : List (List ℕ)) (b : ℕ) → IsIn x (get_or blocks b [])
    → IsIn x (get_or blocks (position_or_len (has_point x) blocks) [])
first-has x [] b h = absurd h
first-has x (ps ∷ blocks) zero h =
    (elim (has_point x ps) as (λ v. has_point x ps ≡ v
    → IsIn x (get_or (ps ∷ blocks) (cond (not v) (1 + position_or_len (has_point x) blocks) 0) [])) [
      | true ↦ λ e. tells-in x ps e
      | false ↦ λ e. absurd (true≢false (sym (in-tells x ps h) ∙ e))
    ]) refl
first-has x (ps ∷ blocks) (suc b) h =
    let step : 1 + position_or_len (has_point x) blocks ≡ suc (position_or_len (has_point x) blocks) = omega arith in
    (elim (has_point x ps) as (λ v. has_point x ps ≡ v
    → IsIn x (get_or (ps ∷ blocks) (cond (not v) (1 + position_or_len (has_point x) blocks) 0) [])) [
      | true ↦ λ e. tells-in x ps e
      | false ↦ λ e. rw step (first-has x blocks b h)
    ]) refl

-- a point of a block is in the block that has it
pub block-has : (f : Flow) (p : ℕ) → IsPlaced f p → Stands f p (block_of f p)
block-has f p s = first-has p f.blocks s.0 s.1

-- and in no other
pub one_block : OneBlock
one_block flow homes is point block stands =
    same_Some (block_of flow point) block (sym
    (home flow homes point (block_of flow point) is (block-has flow point (block, stands)))
    ∙ home flow homes point block is stands)

pub next_in_block : NextInBlock
next_in_block flow homes is point block stands =
    ap (λ (b : ℕ). following point (points_of flow b)) (one_block flow homes is point block stands)
