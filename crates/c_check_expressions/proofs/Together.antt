-- Parts that are answered, put together: two of them, and one that a row goes on from.
use Rattle.std.proofs.Common.{List, ◌∷◌, Some, ap, ◌∙◌}
use Rattle.std.proofs.lemmas.List.{append-nil}
use Rattle.c_tree.specs.Program.{Expression}
use Rattle.c_typing.specs.Faults.{least, earlier}
use Rattle.c_typing.specs.Checked.{Checked, Fits, Fails, Note, noted, pair}
use Rattle.c_typing.proofs.LeastFault.{least_of_both}
use Rattle.c_check_expressions.specs.declared.judged.Operand.{Operand}
use Rattle.c_check_expressions.specs.declared.judged.Judged.{Judged}
use Rattle.c_check_expressions.specs.declared.judged.Judged.TheVariants as answers
use Rattle.c_check_expressions.specs.Judged.{IsJudged, IsOperandOf, joined_answers}
use Rattle.c_check_expressions.specs.Parts.{Stands}

pub operand_stands : (c : Checked Expression) (j : Judged Operand) → IsJudged c j → Stands IsOperandOf c j
operand_stands (Fits e notes) (answers.Fits o) h = h
operand_stands (Fits e notes) (answers.Fails f) h = h
operand_stands (Fails g gs) (answers.Fits o) h = h
operand_stands (Fails g gs) (answers.Fails f) h = h

pub operand_judged : (c : Checked Expression) (j : Judged Operand) → Stands IsOperandOf c j → IsJudged c j
operand_judged (Fits e notes) (answers.Fits o) h = h
operand_judged (Fits e notes) (answers.Fails f) h = h
operand_judged (Fails g gs) (answers.Fits o) h = h
operand_judged (Fails g gs) (answers.Fails f) h = h

module _ {X Y A B : Type 0} (R : X → A → Type 0) (Q : Y → B → Type 0) where
  -- of two parts
  pub pair_stands : (x : Checked X) (y : Checked Y) (a : Judged A) (b : Judged B) → Stands R x a → Stands Q y b
      → Stands (λ p q. R p.0 q.0 × Q p.1 q.1) (pair x y) (joined_answers a b)
  pair_stands (Fits x notes) (Fits y more) (answers.Fits a) (answers.Fits b) h k = (h, k)
  pair_stands (Fits x notes) (Fits y more) (answers.Fits a) (answers.Fails g) h k = absurd k
  pair_stands (Fits x notes) y (answers.Fails f) b h k = absurd h
  pair_stands (Fits x notes) (Fails g gs) (answers.Fits a) (answers.Fits b) h k = absurd k
  pair_stands (Fits x notes) (Fails g gs) (answers.Fits a) (answers.Fails f) h k = k
  pair_stands (Fails f fs) y (answers.Fits a) b h k = absurd h
  pair_stands (Fails f fs) (Fits y more) (answers.Fails d) (answers.Fits b) h k =
      ap least (append-nil (f ∷ fs)) ∙ h
  pair_stands (Fails f fs) (Fits y more) (answers.Fails d) (answers.Fails b) h k = absurd k
  pair_stands (Fails f fs) (Fails g gs) (answers.Fails d) (answers.Fits b) h k = absurd k
  pair_stands (Fails f fs) (Fails g gs) (answers.Fails d) (answers.Fails b) h k =
      least_of_both (f ∷ fs) (g ∷ gs) ∙ ap (λ o. earlier o (least (g ∷ gs))) h ∙ ap (earlier (Some d)) k

module _ {X A : Type 0} (R : X → A → Type 0) where
  -- notes before change nothing of it
  pub noted_stands : (notes : List Note) (x : Checked X) (a : Judged A) → Stands R x a → Stands R (noted notes x) a
  noted_stands notes (Fits x more) a h = h
  noted_stands notes (Fails f fs) a h = h
