-- What comes of parts that are answered, one after the other, with what each says beside its tree.
use Rattle.std.proofs.Common.{◌≡◌, refl, sym, ap, subst, ◌∙◌, List, ◌++◌, Option, Some, None, option_map}
use Rattle.std.proofs.lemmas.List.{append_assoc}
use Rattle.pcc_base.specs.declared.fault.Fault.{Fault}
use Rattle.c_typing.specs.Faults.{earlier}
use Rattle.c_typing.specs.Checked.{Checked, Fits, Fails, Note, noted, if_fits, also, value_in}
use Rattle.c_check_expressions.specs.declared.judged.Judged.{Judged}
use Rattle.c_check_expressions.specs.declared.judged.Judged.TheVariants as answers
use Rattle.c_check_expressions.specs.Parts.{Stands}
use Rattle.c_check_expressions.proofs.Together.{noted_stands}
use Rattle.c_check_expressions.specs.Said.{IsGrown, IsSaid}
use Rattle.c_check_declarations.specs.DeclaratorAnswers.{value_answered}
use Rattle.c_check_declarations.specs.Together.{listed, with_fault}

grown_more : {Y : Type 0} (c : Checked Y) (ns before between after : List Note) → between ≡ before ++ ns
    → IsGrown c between after → IsGrown (noted ns c) before after
grown_more (Fits y ms) ns before between after h k = k ∙ ap (λ xs. xs ++ ms) h ∙ append_assoc before ns ms
grown_more (Fails f fs) ns before between after h k = tt

module _ {X Y A B : Type 0} (R : X → A → Type 0) (Q : Y → B → Type 0) (row : X → Checked Y) where
  -- a part fits, and what it is part of is judged behind it
  pub then_said : (c : Checked X) (a : A) (j : Judged B) (before between after : List Note)
      → IsSaid R c (answers.Fits a) before between
      → ((x : X) → R x a → IsSaid Q (row x) j between after)
      → IsSaid Q (if_fits c row) j before after
  then_said (Fits x ns) a j before between after h k = (
    noted_stands Q ns (row x) j (k x h.0).0,
    grown_more (row x) ns before between after h.1 (k x h.0).1,
  )
  then_said (Fails f fs) a j before between after h k = absurd h.0

  -- a part fails
  pub fails_said : (c : Checked X) (f : Fault) (before between after : List Note)
      → IsSaid R c (answers.Fails f) before between → IsSaid Q (if_fits c row) (answers.Fails f) before after
  fails_said (Fits x ns) f before between after h = absurd h.0
  fails_said (Fails g gs) f before between after h = (h.0, tt)

-- the value of a part, as it is answered
pub answered_is : {X A : Type 0} (view : A → X) (c : Checked X) (j : Judged A)
    → Stands (λ x a. view a ≡ x) c j → value_in c ≡ option_map view (value_answered j)
answered_is view (Fits x ns) (answers.Fits a) h = ap Some (sym h)
answered_is view (Fits x ns) (answers.Fails f) h = absurd h
answered_is view (Fails g gs) (answers.Fits a) h = absurd h
answered_is view (Fails g gs) (answers.Fails f) h = refl

-- a fault beside a part
pub also_said : {X A : Type 0} (R : X → A → Type 0) (o : Option Fault) (c : Checked X) (j : Judged A)
    (before after : List Note) → IsSaid R c j before after
    → IsSaid R (also (listed o) c) (with_fault o j) before after
also_said R None c j before after h = h
also_said R (Some f) (Fits x ns) (answers.Fits a) before after h = (refl, tt)
also_said R (Some f) (Fits x ns) (answers.Fails g) before after h = absurd h.0
also_said R (Some f) (Fails g gs) (answers.Fits a) before after h = absurd h.0
also_said R (Some f) (Fails g gs) (answers.Fails d) before after h = (ap (earlier (Some f)) h.0, tt)

pub faults_said : {X A : Type 0} (R : X → A → Type 0) (o : Option Fault) (fs : List Fault) (c : Checked X)
    (part whole : Judged A) (before after : List Note) → listed o ≡ fs → whole ≡ with_fault o part
    → IsSaid R c part before after → IsSaid R (also fs c) whole before after
faults_said R o fs c part whole before after faults both h =
    subst (λ (w : Judged _). IsSaid R (also fs c) w before after) (sym both)
    (subst (λ (xs : List Fault). IsSaid R (also xs c) (with_fault o part) before after) faults
    (also_said R o c part before after h))
