-- What a block keeps stays where the graph only grows.
use Rattle.std.proofs.Common.{ℕ, ◌≡◌, ◌≤◌, List, [], ◌∷◌, ◌++◌, length, Some, arith}
use Rattle.std.specs.List.{slice_get}
use Rattle.pcc_base.proofs.Lists.{get-append, all-weaker}
use Rattle.flow_graph.specs.declared.op.Op.{Op}
use Rattle.flow_graph.specs.Graphs.{Flow, IsMet, needs, FitsOp}
use Rattle.flow_graph.specs.Shapes.{Need, Variable, AnyWidth, SameWidth, FrameArray, Target}
use Rattle.flow_graph.specs.Graphs.{HasFittingOp, IsPlainAt, EndsOnlyLast, IsBlock}

-- what is in a list stays there
pub record Keeps {X : Type 0} (xs ys : List X) : Type 0 where
  pub kept : (k : ℕ) (x : X) → slice_get xs k ≡ Some x → slice_get ys k ≡ Some x

-- the variables, arrays, blocks and ops of a graph are those of another, or more
pub record Grows (f g : Flow) : Type 0 where
  pub widths : Keeps f.widths g.widths
  pub arrays : length f.arrays ≤ length g.arrays
  pub blocks : length f.blocks ≤ length g.blocks
  pub ops : Keeps f.ops g.ops

-- a list keeps what it has where elements come after it
pub keeps-append : {X : Type 0} (xs ys : List X) → Keeps xs (xs ++ ys)
keeps-append xs ys = record { kept = λ k x e. get-append xs ys k x e }

-- a list keeps what it has
pub keeps-same : {X : Type 0} (xs : List X) → Keeps xs xs
keeps-same xs = record { kept = λ k x e. e }

-- what is met stays met
met-grows : (f g : Flow) → Grows f g → (n : Need) → IsMet f n → IsMet g n
met-grows f g h (Variable v w) m = h.widths.kept v w m
met-grows f g h (AnyWidth v) m = (m.0, h.widths.kept v m.0 m.1)
met-grows f g h (SameWidth d s) m = (m.0, h.widths.kept d m.0 m.1, h.widths.kept s m.0 m.2)
met-grows f g h (FrameArray k) m = let up = h.arrays in omega arith
met-grows f g h (Target x) m = let up = h.blocks in omega arith

-- an op that fits still fits
pub fits_op-grows : (f g : Flow) → Grows f g → (op : Op) → FitsOp f op → FitsOp g op
fits_op-grows f g h op m = all-weaker (IsMet f) (IsMet g) (needs op) (met-grows f g h) m

-- a point whose op fits still has it
pub fitting-grows : (f g : Flow) → Grows f g → (p : ℕ) → HasFittingOp f p → HasFittingOp g p
fitting-grows f g h p m = (m.0, h.ops.kept p m.0 m.1, fits_op-grows f g h m.0 m.2)

-- a point that is no end stays so
pub plain-grows : (xs ys : List Op) → Keeps xs ys → (p : ℕ) → IsPlainAt xs p → IsPlainAt ys p
plain-grows xs ys h p m = (m.0, h.kept p m.0 m.1, m.2)

-- an end that stands last stays so
pub ends-grows : (xs ys : List Op) → Keeps xs ys → (ps : List ℕ) → EndsOnlyLast xs ps → EndsOnlyLast ys ps
ends-grows xs ys h [] e = tt
ends-grows xs ys h (p ∷ []) e = tt
ends-grows xs ys h (p ∷ q ∷ ps) e = (plain-grows xs ys h p e.0, ends-grows xs ys h (q ∷ ps) e.1)

-- what a block keeps
pub block-grows : (f g : Flow) (homes more : List ℕ) → Grows f g → Keeps homes more → (b : ℕ) (ps : List ℕ)
    → IsBlock f homes b ps → IsBlock g more b ps
block-grows f g homes more h k b ps i = record {
  at_home = all-weaker (λ p. slice_get homes p ≡ Some b) (λ p. slice_get more p ≡ Some b) ps
      (λ p e. k.kept p b e) i.at_home;
  fits = all-weaker (HasFittingOp f) (HasFittingOp g) ps (fitting-grows f g h) i.fits;
  once = i.once;
  ends = ends-grows f.ops g.ops h.ops ps i.ends;
}
