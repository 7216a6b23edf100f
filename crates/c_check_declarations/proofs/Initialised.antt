-- What initialises no array, and items of arrays.
use Rattle.std.proofs.Common.{◌≡◌, sym, ap, ◌∙◌, subst, ℕ, List, [], ◌∷◌, Option, Some, None}
use Rattle.pcc_base.specs.declared.fault.Fault.{Fault}
use Rattle.pcc_base.specs.declared.fault.FaultKind.{FaultKind}
use Rattle.pcc_base.specs.declared.span.Span.{Span}
use Rattle.c_syntax.specs.Expressions.{Expr}
use Rattle.c_syntax.specs.Declarations.{InitialiserTree, Single}
use Rattle.c_tree.specs.Program.{Expression, Initialiser, Item}
use Rattle.c_tree.specs.declared.statement.Initialiser.{Initialiser as BuiltInitialiser}
use Rattle.c_tree.specs.declared.statement.Item.{Item as BuiltItem}
use Rattle.c_tree.specs.declared.types.IntegerType.{IntegerType}
use Rattle.c_tree.specs.declared.types.ValueType.TheVariants.{Integer}
use Rattle.c_typing.specs.Checked.{Checked, Fits, Fails, Note, fits, fails, faults_in, if_fits}
use Rattle.c_typing.specs.Declarators.{ArrayValues, NoValues, array_values}
use Rattle.c_typing.specs.Expressions.{first_token, typed_expression}
use Rattle.pcc_base.specs.declared.fault.FaultKind.TheVariants as kinds
use Rattle.c_typing.specs.Faults.{least}
use Rattle.c_typing.specs.Initialisers.{no_values}
use Rattle.c_typing.specs.Names.{Scope}
use Rattle.c_check_expressions.specs.declared.judged.Judged.{Judged}
use Rattle.c_check_expressions.specs.declared.judged.Judged.TheVariants as answers
use Rattle.c_check_expressions.specs.Said.{IsSaid}
use Rattle.c_check_declarations.specs.Forms.{letters_in, values_by}
use Rattle.c_check_declarations.proofs.Strings.{no_letters}
use Rattle.c_check_declarations.specs.ItemAnswers.{AreItem, IsInitialiser}

-- an expression that initialises no array is a fault, whatever it would have been
fails_answered : {X A : Type 0} (R : X → A → Type 0) (c : Checked Expression) (kind : FaultKind) (at : Span)
    (f : Fault) (before after : List Note) → least (faults_in (if_fits c (λ x. fails {A = ℕ} kind at))) ≡ Some f
    → IsSaid R (if_fits c (λ x. fails {A = X} kind at)) (answers.Fails f) before after
fails_answered R (Fits x ns) kind at f before after h = (h, tt)
fails_answered R (Fails g gs) kind at f before after h = (h, tt)

pub no_value_said : {X A : Type 0} (R : X → A → Type 0) (row : ArrayValues → Checked X) (s : Scope)
    (element : IntegerType) (v : InitialiserTree) (e : Expr) (f : Fault) (before after : List Note)
    → v ≡ Single e → letters_in (values_by (Some (Integer element)) v) ≡ None
    → row (NoValues e) ≡ no_values s e → least (faults_in (no_values {A = ℕ} s e)) ≡ Some f
    → IsSaid R (row (array_values element v)) (answers.Fails f) before after
no_value_said R row s element v e f before after single none same h =
    let is = subst (λ (t : InitialiserTree). letters_in (values_by (Some (Integer element)) t) ≡ None) single none in
    subst (λ c. IsSaid R c (answers.Fails f) before after)
    (sym (ap (λ t. row (array_values element t)) single ∙ ap row (no_letters (Some (Integer element)) e is) ∙ same))
    (fails_answered R (typed_expression s e) kinds.Initialiser (first_token e) f before after h)

-- an item has the numbers that were taken before its initialiser was judged
pub numbers_said : (row : Scope → Checked Initialiser) (item : ℕ → ℕ → Initialiser → Item) (inside u : Scope)
    (number n place m : ℕ) (value : Judged BuiltInitialiser) (j : Judged (Option BuiltItem)) (before after : List Note)
    → u ≡ inside → number ≡ n → place ≡ m → IsSaid IsInitialiser (row u) value before after
    → ((c : Checked Initialiser) (before after : List Note) → IsSaid IsInitialiser c value before after
    → IsSaid AreItem (if_fits c (λ first. fits (item number place first ∷ []))) j before after)
    → IsSaid AreItem (if_fits (row inside) (λ first. fits (item n m first ∷ []))) j before after
numbers_said row item inside u number n place m value j before after h k l said stands =
    subst (λ (x : ℕ). IsSaid AreItem (if_fits (row inside) (λ first. fits (item x m first ∷ []))) j before after) k
    (subst (λ (y : ℕ). IsSaid AreItem (if_fits (row inside) (λ first. fits (item number y first ∷ []))) j before after)
    l
    (stands (row inside) before after
    (subst (λ (x : Scope). IsSaid IsInitialiser (row x) value before after) h said)))
