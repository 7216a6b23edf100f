-- One statement of a part that fits.
use Rattle.std.proofs.Common.{◌≡◌, refl, sym, ap, ◌∙◌, subst, List, [], ◌∷◌, ◌++◌, length, map}
use Rattle.std.specs.Prelude.{Vec}
use Rattle.std.specs.declared.alloc.Global.{Global}
use Rattle.std.proofs.lemmas.List.{append-nil}
use Rattle.c_tree.specs.declared.statement.Statement.{Statement as Built}
use Rattle.c_tree.specs.Erased.{statement_of, statements_of}
use Rattle.c_tree.specs.Program.{Block, Done, Next, Statement, Statements}
use Rattle.c_typing.specs.Checked.{Checked, Fits, Fails, Note, fits, if_fits}
use Rattle.c_typing.specs.Statements.{as_one, one, row_before}
use Rattle.c_check_expressions.specs.declared.judged.Judged.{Judged}
use Rattle.c_check_expressions.specs.declared.judged.Judged.TheVariants as answers
use Rattle.c_check_expressions.specs.Parts.{Stands}
use Rattle.c_check_expressions.proofs.Together.{noted_stands}
use Rattle.c_check_expressions.specs.Said.{IsSaid}
use Rattle.c_check_statements.specs.Answers.{AreListed}

module _ {X A : Type 0} (R : X → A → Type 0) (f : X → Statement) where
  pub one_said : (c : Checked X) (a : A) (b : Statement) (j : Judged (Vec Built Global)) (before after : List Note)
      → ((x : X) → R x a → b ≡ f x) → ((notes : List Note) → IsSaid AreListed (one (fits b)) j notes notes)
      → IsSaid R c (answers.Fits a) before after → IsSaid AreListed (one (if_fits c (λ x. fits (f x)))) j before after
  one_said (Fits x ns) a b j before after is row said = (
    noted_stands AreListed ((ns ++ []) ++ []) (fits (f x ∷ [])) j
        (subst (λ (y : Statement). Stands AreListed (fits (y ∷ [])) j) (is x said.0)
        (plain j (row after).0)),
    said.1 ∙ ap (λ ms. before ++ ms) (sym (append-nil (ns ++ []) ∙ append-nil ns)),
  )
    where
      plain : (j : Judged (Vec Built Global)) → Stands AreListed (one (fits b)) j → Stands AreListed (fits (b ∷ [])) j
      plain (answers.Fits v) h = h
      plain (answers.Fails g) h = h
  one_said (Fails g gs) a b j before after is row said = absurd said.0

pub all_row : (vs : List Built) → statements_of vs ≡ row_before (map statement_of vs) Done
all_row [] = refl
all_row (v ∷ vs) = ap (λ (rest : Statements). Next (statement_of v) rest) (all_row vs)

-- several statements as one
pub several : (vs : List Built) → (length vs ≡ 1 → ⊥) → Block (statements_of vs) ≡ as_one (map statement_of vs)
several [] h = refl
several (v ∷ []) h = absurd (h refl)
several (v ∷ (w ∷ vs)) h = ap (λ (row : Statements). Block row) (all_row (v ∷ (w ∷ vs)))
