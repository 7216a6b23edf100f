-- What comes of parts that are answered, with the notes that they add.
use Rattle.std.proofs.Common.{◌≡◌, sym, ap, ◌∙◌, subst, List, ◌++◌, Result, Ok, Err, IfOk}
use Rattle.std.proofs.lemmas.List.{append-nil, append_assoc}
use Rattle.pcc_base.specs.declared.fault.Fault.{Fault}
use Rattle.pcc_base.specs.declared.memory.NoMemory.{NoMemory}
use Rattle.c_tree.specs.declared.types.ValueType.{ValueType}
use Rattle.c_tree.specs.Program.{Expression}
use Rattle.c_typing.specs.Checked.{Checked, Fits, Fails, Note, noted, pair, if_fits}
use Rattle.c_check_expressions.specs.declared.judged.Operand.{Operand}
use Rattle.c_check_expressions.specs.declared.judged.Judged.{Judged}
use Rattle.c_check_expressions.specs.declared.judged.Judged.TheVariants as answers
use Rattle.c_check_expressions.specs.Judged.{IsJudged, IsOperand, IsOperandOf, joined_answers}
use Rattle.c_check_expressions.specs.Parts.{Stands}
use Rattle.c_check_expressions.proofs.Together.{operand_stands, operand_judged, noted_stands, pair_stands}
use Rattle.c_check_expressions.specs.Said.{IsGrown, IsSaid, IfFits, IsQuiet, AreOperandsOf, AreCastOf}
use Rattle.c_check_expressions.specs.Said.{AreThreeOperandsOf}

-- ---- notes

grown_noted : {B : Type 0} (c : Checked B) (before ns after : List Note) → IsQuiet c → after ≡ before ++ ns
    → IsGrown (noted ns c) before after
grown_noted (Fits b ms) before ns after quiet h =
    h ∙ ap (λ xs. before ++ xs) (sym (append-nil ns) ∙ ap (λ xs. ns ++ xs) (sym quiet))
grown_noted (Fails f fs) before ns after quiet h = tt

pub grown_row : {A B : Type 0} (row : A → Checked B) (c : Checked A) (before after : List Note)
    → ((x : A) → IsQuiet (row x)) → IsGrown c before after → IsGrown (if_fits c row) before after
grown_row row (Fits x ns) before after quiet h = grown_noted (row x) before ns after (quiet x) h
grown_row row (Fails f fs) before after quiet h = tt

pub grown_pair : {A B : Type 0} (a : Checked A) (b : Checked B) (before between after : List Note)
    → IsGrown a before between → IsGrown b between after → IsGrown (pair a b) before after
grown_pair (Fits x ns) (Fits y ms) before between after h k =
    k ∙ ap (λ xs. xs ++ ms) h ∙ append_assoc before ns ms
grown_pair (Fits x ns) (Fails g gs) before between after h k = tt
grown_pair (Fails f fs) b before between after h k = tt

pub grown_quiet : {A : Type 0} (c : Checked A) (notes : List Note) → IsQuiet c → IsGrown c notes notes
grown_quiet (Fits x ns) notes quiet = sym (append-nil notes) ∙ ap (λ xs. notes ++ xs) (sym quiet)
grown_quiet (Fails f fs) notes quiet = tt

-- ---- answers

module _ {X A : Type 0} (R : X → A → Type 0) where
  -- of a row that goes on from a part that fits
  pub row_judged : (view : A → X) (row : X → Checked Expression) (c : Checked X) (a : A) (j : Judged Operand)
      → ((x : X) → R x a → view a ≡ x) → Stands R c (answers.Fits a) → IsJudged (row (view a)) j
      → IsJudged (if_fits c row) j
  row_judged view row (Fits x ns) a j same h k =
      operand_judged (noted ns (row x)) j (noted_stands IsOperandOf ns (row x) j
      (operand_stands (row x) j (subst (λ y. IsJudged (row y) j) (same x h) k)))
  row_judged view row (Fails f fs) a j same h k = absurd h

  pub fault_judged : (row : X → Checked Expression) (c : Checked X) (f : _) → Stands R c (answers.Fails f)
      → IsJudged (if_fits c row) (answers.Fails f)
  fault_judged row (Fits x ns) f h = absurd h
  fault_judged row (Fails g gs) f h = h

-- ---- rows

module _ {X A : Type 0} (R : X → A → Type 0) (view : A → X) (row : X → Checked Expression)
    (same : (x : X) (a : A) → R x a → view a ≡ x) (quiet : (x : X) → IsQuiet (row x)) where
  row_said : (a : A) (j : Judged Operand) → IsJudged (row (view a)) j
      → (c : Checked X) (before after : List Note) → IsSaid R c (answers.Fits a) before after
      → IsSaid IsOperandOf (if_fits c row) j before after
  row_said a j h c before after said = (
    operand_stands (if_fits c row) j (row_judged R view row c a j (λ x. same x a) said.0 h),
    grown_row row c before after quiet said.1,
  )

  -- a row that is judged where its parts fit
  pub row_ok : (part : Judged A) (a : A) → part ≡ answers.Fits a → (r : Result (Judged Operand) NoMemory)
      → IfOk r (λ j. IsJudged (row (view a)) j)
      → IfOk r (λ j. (c : Checked X) (before after : List Note) → IsSaid R c part before after
      → IsSaid IsOperandOf (if_fits c row) j before after)
  row_ok part a is (Ok j) h = λ c before after said.
      row_said a j h c before after (subst (λ p. IsSaid R c p before after) is said)
  row_ok part a is (Err e) h = tt

  -- and where they fail
  pub row_fails : (part : Judged A) (f : Fault) → part ≡ answers.Fails f
      → (c : Checked X) (before after : List Note) → IsSaid R c part before after
      → IsSaid IsOperandOf (if_fits c row) (answers.Fails f) before after
  row_fails part f is c before after said = (
    operand_stands (if_fits c row) (answers.Fails f)
        (fault_judged R row c f (subst (λ p. Stands R c p) is said.0)),
    grown_row row c before after quiet said.1,
  )

module _ {X A : Type 0} (R : X → A → Type 0) (P : A → Type 0) (is : (x : X) (a : A) → R x a → P a) where
  -- what a value that fits is
  pub fits_hold : (c : Checked X) (j : Judged A) → Stands R c j → IfFits j P
  fits_hold (Fits x ns) (answers.Fits a) h = is x a h
  fits_hold (Fits x ns) (answers.Fails f) h = tt
  fits_hold (Fails g gs) (answers.Fits a) h = absurd h
  fits_hold (Fails g gs) (answers.Fails f) h = tt

-- ---- parts that are the same

pub same_pair : {A B : Type 0} (a : A) (b : B) (e : A × B) → a ≡ e.0 → b ≡ e.1 → (a, b) ≡ e
same_pair a b (x, y) h k = ap (λ v. (v, b)) h ∙ ap (λ v. (x, v)) k

pub same_three : {A B C : Type 0} (a : A) (b : B) (c : C) (e : A × (B × C)) → a ≡ e.0 → b ≡ e.1.0 → c ≡ e.1.1
    → (a, (b, c)) ≡ e
same_three a b c (x, (y, z)) h k l = ap (λ v. (v, (b, c))) h ∙ ap (λ v. (x, v)) (same_pair b c (y, z) k l)

-- ---- two parts

module _ {X Y A B : Type 0} (R : X → A → Type 0) (Q : Y → B → Type 0) where
  pub pair_said : (x : Checked X) (y : Checked Y) (a : Judged A) (b : Judged B) (j : Judged (A × B))
      (before between after : List Note) → j ≡ joined_answers a b → IsSaid R x a before between
      → IsSaid Q y b between after → IsSaid (λ p q. R p.0 q.0 × Q p.1 q.1) (pair x y) j before after
  pair_said x y a b j before between after is h k = (
    subst (Stands (λ p q. R p.0 q.0 × Q p.1 q.1) (pair x y)) (sym is) (pair_stands R Q x y a b h.0 k.0),
    grown_pair x y before between after h.1 k.1,
  )

-- ---- what operands are where they fit

pub operand_holds : (c : Checked Expression) (j : Judged Operand) (before after : List Note)
    → IsSaid IsOperandOf c j before after → IfFits j IsOperand
operand_holds c j before after h = fits_hold IsOperandOf IsOperand (λ e o k. k.1) c j h.0

pub operands_hold : (c : Checked (Expression × Expression)) (j : Judged (Operand × Operand))
    (before after : List Note) → IsSaid AreOperandsOf c j before after
    → IfFits j (λ p. IsOperand p.0 × IsOperand p.1)
operands_hold c j before after h =
    fits_hold AreOperandsOf (λ p. IsOperand p.0 × IsOperand p.1) (λ e o k. (k.0.1, k.1.1)) c j h.0

pub second_holds : (c : Checked (Expression × Expression)) (j : Judged (Operand × Operand))
    (before after : List Note) → IsSaid AreOperandsOf c j before after → IfFits j (λ p. IsOperand p.1)
second_holds c j before after h = fits_hold AreOperandsOf (λ p. IsOperand p.1) (λ e o k. k.1.1) c j h.0

pub cast_holds : (c : Checked (ValueType × Expression)) (j : Judged (ValueType × Operand))
    (before after : List Note) → IsSaid AreCastOf c j before after → IfFits j (λ p. IsOperand p.1)
cast_holds c j before after h = fits_hold AreCastOf (λ p. IsOperand p.1) (λ e o k. k.1.1) c j h.0

pub three_hold : (c : Checked (Expression × (Expression × Expression))) (j : Judged (Operand × (Operand × Operand)))
    (before after : List Note) → IsSaid AreThreeOperandsOf c j before after
    → IfFits j (λ p. IsOperand p.0 × (IsOperand p.1.0 × IsOperand p.1.1))
three_hold c j before after h =
    fits_hold AreThreeOperandsOf (λ p. IsOperand p.0 × (IsOperand p.1.0 × IsOperand p.1.1))
    (λ e o k. (k.0.1, (k.1.0.1, k.1.1.1))) c j h.0
