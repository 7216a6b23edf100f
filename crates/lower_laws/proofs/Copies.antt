-- Sets of the lines of an array that a string initialises.
use Rattle.std.proofs.Common.{◌≡◌, ℕ, suc, pos, List, [], ◌∷◌, inl, inr, refl, subst}
use Rattle.c_tree.specs.declared.types.IntegerType.{IntegerType}
use Rattle.flow_graph.specs.declared.op.Comparison.TheVariants.{Lt}
use Rattle.flow_graph.specs.declared.op.Op.TheVariants as op
use Rattle.flow_graph.specs.Graphs.{IsIn}
use Rattle.lower_lines.specs.Lines.{Line, Start, Emit}
use Rattle.lower_lines.specs.Parts.{Dropped, bits_of}
use Rattle.lower_lines.specs.Statements.{copying}
use Rattle.lower_lines.specs.Variables.{Context, ForOld, ForScratch, own, temporary}
use Rattle.lower_laws.specs.Flows.{Within}
use Rattle.lower_laws.specs.Settled.{Settled}
use Rattle.lower_laws.proofs.Sets.{F, block-is, ends, keeps, starts, two-in, way, ways, writes}

pub three-in : (S : List ℕ) (x y z : ℕ) → IsIn x S → IsIn y S → IsIn z S → Within (x ∷ y ∷ z ∷ []) S
three-in S x y z h k m v (inl e) = subst (λ (u : ℕ). IsIn u S) e h
three-in S x y z h k m v (inr is) = two-in S y z k m v is

module _ (c : Context) (D : List ℕ) (t : IntegerType) (count block : ℕ) where
  abbrev q : ℕ
  q = (own c 0).array

  abbrev y : ℕ
  y = (own c 0).number

  abbrev q' : ℕ
  q' = (own c 1).array

  abbrev y' : ℕ
  y' = (own c 1).number

  abbrev one : ℕ
  one = temporary c 0 ForScratch

  abbrev x : ℕ
  x = temporary c 0 ForOld

  -- what is there in each turn: the array and the index, the string and the number of elements, and 1
  abbrev Turns : List ℕ
  Turns = one ∷ y' ∷ y ∷ q' ∷ q ∷ D

  abbrev turn : List Line
  turn = Emit (op.Load (bits_of t) x q' y) ∷ Emit (op.Store (bits_of t) q y x) ∷ Emit (op.Add y y one)
      ∷ Emit (op.Branch Lt y y' block (suc block)) ∷ Start (suc block) ∷ []

  turn-flows : (B : ℕ → List ℕ) → B block ≡ Turns → B (suc block) ≡ D → F c B Turns turn D
  turn-flows B a a' =
      let add : List Line = Emit (op.Add y y one) ∷ Emit (op.Branch Lt y y' block (suc block)) ∷ Start (suc block)
      ∷ [] in
      let last : List Line = Emit (op.Branch Lt y y' block (suc block)) ∷ Start (suc block) ∷ [] in
      writes c B (op.Load (bits_of t) x q' y) x Turns D (Emit (op.Store (bits_of t) q y x) ∷ add) (refl, refl, refl)
      refl (two-in Turns q' y (inr (inr (inr (inl refl)))) (inr (inr (inl refl))))
      (keeps c B (op.Store (bits_of t) q y x) (x ∷ Turns) D add (refl, refl, refl)
      (three-in (x ∷ Turns) q y x (inr (inr (inr (inr (inr (inl refl)))))) (inr (inr (inr (inl refl)))) (inl refl))
      (writes c B (op.Add y y one) y (x ∷ Turns) D last (refl, refl, refl) refl
      (two-in (x ∷ Turns) y one (inr (inr (inr (inl refl)))) (inr (inl refl)))
      (ends c B (op.Branch Lt y y' block (suc block)) (y ∷ x ∷ Turns) D D (Start (suc block) ∷ []) refl refl refl
      (two-in (y ∷ x ∷ Turns) y y' (inl refl) (inr (inr (inr (inl refl)))))
      (ways c B block (suc block) (y ∷ x ∷ Turns) (λ v is. inr (inr (block-is c B block Turns a v is)))
      (λ v is. inr (inr (inr (inr (inr (inr (inr (block-is c B (suc block) D a' v is)))))))))
      (starts c B (suc block) D D D [] a' (λ v is. is)))))

  copying-flows : (B : ℕ → List ℕ) → B block ≡ Turns → B (suc block) ≡ D
      → F c B (q' ∷ q ∷ D) (copying c t count block) D
  copying-flows B a a' =
      let jump : List Line = Emit (op.Jump block) ∷ Start block ∷ turn in
      let second : List Line = Emit (op.Const one (pos 1)) ∷ jump in
      let first : List Line = Emit (op.Const y' (pos count)) ∷ second in
      writes c B (op.Const y (pos 0)) y (q' ∷ q ∷ D) D first (refl, refl, refl) refl (λ v is. absurd is)
      (writes c B (op.Const y' (pos count)) y' (y ∷ q' ∷ q ∷ D) D second (refl, refl, refl) refl (λ v is. absurd is)
      (writes c B (op.Const one (pos 1)) one (y' ∷ y ∷ q' ∷ q ∷ D) D jump (refl, refl, refl) refl (λ v is. absurd is)
      (ends c B (op.Jump block) Turns Turns D (Start block ∷ turn) refl refl refl (λ v is. absurd is)
      (way c B block Turns (block-is c B block Turns a))
      (starts c B block Turns Turns D turn a (turn-flows B a a')))))

  pub copied-settled : (k object : ℕ) → Settled c block 2 Dropped D
      (Emit (op.Clear k) ∷ Emit (op.Frame q k) ∷ Emit (op.Static q' object) ∷ copying c t count block) D
  copied-settled k object = record {
    sets = Turns ∷ D ∷ [];
    size = refl;
    flows = λ B a g.
        let lines = copying c t count block in
        let static : List Line = Emit (op.Static q' object) ∷ lines in
        keeps c B (op.Clear k) D D (Emit (op.Frame q k) ∷ static) (refl, refl, refl) (λ v is. absurd is)
        (writes c B (op.Frame q k) q D D static (refl, refl, refl) refl (λ v is. absurd is)
        (writes c B (op.Static q' object) q' (q ∷ D) D lines (refl, refl, refl) refl (λ v is. absurd is)
        (copying-flows B a.0 a.1.0)));
  }
