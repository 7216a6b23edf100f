-- Parameters and items, and the scope behind each.
use Rattle.std.proofs.Common.{◌≡◌, refl, sym, ap, ◌∙◌, List, [], ◌∷◌, ◌++◌, length, take, Bool, false, Option, Some}
use Rattle.std.proofs.Common.{None, ℕ}
use Rattle.std.proofs.Math.Seq.{take-append_seam}
use Rattle.std.proofs.lemmas.List.{append-nil, append_assoc}
use Rattle.c_syntax.specs.declared.expression.Identifier.{Identifier}
use Rattle.c_syntax.specs.Declarations.{ParameterTree}
use Rattle.c_tree.specs.declared.types.ValueType.{ValueType}
use Rattle.c_tree.specs.Program as tree
use Rattle.c_typing.specs.Checked.{Checked, Fits, Fails, Note, noted, if_fits, value_in}
use Rattle.c_typing.specs.Declarators.{typed_parameter, with_named, with_parameter, with_parameters}
use Rattle.c_typing.specs.Names.{Binding, Scope, entered, left}
use Rattle.c_check_expressions.specs.declared.judged.Judged.TheVariants as answers
use Rattle.c_check_expressions.specs.declared.judged.Judged.{Judged}
use Rattle.c_check_expressions.specs.Parts.{Stands}
use Rattle.c_check_declarations.specs.DeclaratorAnswers.{IsSame, value_answered}

-- a parameter with a name is judged alike in a definition and in a declaration
pub with_same : (s : Scope) (definition : Bool) (p : ParameterTree) (o : Option Identifier) → p.name ≡ o
    → with_named s p.name (value_in (typed_parameter s definition p)) ≡ with_parameter s p
with_same s definition p None h = rw h refl
with_same s definition p (Some name) h = rw h refl

-- what parameters leave of a scope
pub record Beside (s t : Scope) : Type 0 where
  pub names : List Binding
  pub locals : List tree.Local
  pub is : t ≡ record s { names = names ++ s.names; locals = s.locals ++ locals }

beside_none : (s : Scope) → Beside s s
beside_none s = record {
  names = [];
  locals = [];
  is = ap {A = List tree.Local} (λ ls. record s { locals = ls }) (sym (append-nil s.locals));
}

beside_named : (s : Scope) (name : Option Identifier) (of : Option ValueType) → Beside s (with_named s name of)
beside_named s None None = beside_none s
beside_named s None (Some of) = beside_none s
beside_named s (Some name) None = beside_none s
beside_named s (Some name) (Some of) = record {
  names = _ ∷ [];
  locals = record { name = name.name; of = of } ∷ [];
  is = refl;
}

beside_both : (s t u : Scope) → Beside s t → Beside t u → Beside s u
beside_both s t u a b = record {
  names = b.names ++ a.names;
  locals = a.locals ++ b.locals;
  is = b.is ∙ ap {A = Scope} (λ x. record x { names = b.names ++ x.names; locals = x.locals ++ b.locals }) a.is
      ∙ ap {A = List Binding} (λ ns. record s { names = ns; locals = (s.locals ++ a.locals) ++ b.locals })
      (sym (append_assoc b.names a.names s.names))
      ∙ ap {A = List tree.Local} (λ ls. record s { names = (b.names ++ a.names) ++ s.names; locals = ls })
      (append_assoc s.locals a.locals b.locals);
}

pub beside_parameters : (s : Scope) (ps : List ParameterTree) → Beside s (with_parameters s ps)
beside_parameters s [] = beside_none s
beside_parameters s (p ∷ ps) = beside_both s (with_parameter s p) (with_parameters (with_parameter s p) ps)
    (beside_named s p.name (value_in (typed_parameter s false p))) (beside_parameters (with_parameter s p) ps)

-- ---- the value of what is judged behind a part

value_noted : {Y : Type 0} (ns : List Note) (c : Checked Y) → value_in (noted ns c) ≡ value_in c
value_noted ns (Fits y ms) = refl
value_noted ns (Fails f fs) = refl

pub value_then : {X Y A : Type 0} (view : A → X) (row : X → Checked Y) (c : Checked X) (a : A)
    → Stands (λ x a. view a ≡ x) c (answers.Fits a) → value_in (if_fits c row) ≡ value_in (row (view a))
value_then view row (Fits x ns) a h = value_noted ns (row x) ∙ ap (λ y. value_in (row y)) (sym h)
value_then view row (Fails g gs) a h = absurd h

pub value_fails : {X Y A : Type 0} (R : X → A → Type 0) (row : X → Checked Y) (c : Checked X) (f : _)
    → Stands R c (answers.Fails f) → value_in (if_fits c row) ≡ None
value_fails R row (Fits x ns) f h = absurd h
value_fails R row (Fails g gs) f h = refl

-- ---- a parameter is declared

same_answered : {A : Type 0} (c : Checked A) (j : Judged A) → Stands IsSame c j → value_in c ≡ value_answered j
same_answered (Fits x ns) (answers.Fits a) h = ap Some (sym h)
same_answered (Fits x ns) (answers.Fails f) h = absurd h
same_answered (Fails g gs) (answers.Fits a) h = absurd h
same_answered (Fails g gs) (answers.Fails f) h = refl

pub scope_behind : (s t : Scope) (definition : Bool) (p : ParameterTree) (j : Judged ValueType)
    → t ≡ with_named s p.name (value_answered j) → Stands IsSame (typed_parameter s definition p) j
    → t ≡ with_parameter s p
scope_behind s t definition p j h k = h
    ∙ ap (with_named s p.name) (sym (same_answered (typed_parameter s definition p) j k))
    ∙ with_same s definition p p.name refl

-- behind a list whose names are a scope of their own all is as it was
left_same : (s : Scope) (names : List Binding) (locals : List tree.Local) (count : ℕ) (u v w : Scope)
    → u ≡ record s { names = names ++ s.names; depth = (entered s).depth; locals = s.locals ++ locals }
    → v ≡ left s u → w ≡ record v { locals = take count v.locals } → count ≡ length s.locals → w ≡ s
left_same s names locals count u v w h k m n = m
    ∙ ap {A = Scope} (λ x. record x { locals = take count x.locals }) (k ∙ ap (left s) h)
    ∙ ap {A = ℕ} (λ i. record s { locals = take i (s.locals ++ locals) }) n
    ∙ ap {A = List tree.Local} (λ ls. record s { locals = ls }) (take-append_seam s.locals locals)

pub apart_same : (s t u v w : Scope) (ps : List ParameterTree) (count : ℕ) → t ≡ entered s → u ≡ with_parameters t ps
    → ((more : List Binding) → u.names ≡ more ++ s.names → v ≡ left s u)
    → w ≡ record v { locals = take count v.locals } → count ≡ length s.locals → w ≡ s
apart_same s t u v w ps count h k close m n =
    let b = beside_parameters (entered s) ps in
    let is = k ∙ ap (λ x. with_parameters x ps) h ∙ b.is in
    left_same s b.names b.locals count u v w is (close b.names (ap (λ x. x.names) is)) m n
