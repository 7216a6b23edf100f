-- What the first look at files gives: an outline, or a fault.
use Rattle.std.proofs.Common.{◌≡◌, refl, sym, ap, subst, ◌∙◌, List, [], map}
use Rattle.std.specs.Prelude.{Vec, Some, None}
use Rattle.std.specs.List.{list_any}
use Rattle.std.specs.declared.alloc.Global.{Global}
use Rattle.pcc_base.specs.declared.span.Span.{Span}
use Rattle.pcc_base.specs.declared.fault.Fault.{Fault}
use Rattle.pcc_base.specs.declared.refusal.Refusal.{Refusal}
use Rattle.pcc_base.specs.declared.refusal.Refusal.TheVariants as refusals
use Rattle.c_syntax.specs.Statements.{ExternalTree}
use Rattle.c_tree.specs.declared.program.Function.{Function}
use Rattle.c_typing.specs.Checked.{Checked, Fits, Fails, Note, faults_in, notes_in}
use Rattle.c_typing.specs.Faults.{least}
use Rattle.c_typing.specs.Library.{number_among}
use Rattle.c_typing.specs.Names.{Numbers}
use Rattle.c_typing.specs.Numbering.{missing, numbers_of, static_objects}
use Rattle.c_typing.specs.Typed.{judged, no_numbers, numbers_in, faults_of, notes_of, missing_bodies, has_main}
use Rattle.c_typing.specs.Typed.{is_main, main, no_main, or_else, IsLeastFault}
use Rattle.c_typing.proofs.FilesAgree.{numbers_change_nothing}
use Rattle.c_check.specs.Tables.{object_described}
use Rattle.c_check_expressions.specs.declared.judged.Judged.TheVariants as answers
use Rattle.c_check_expressions.specs.Said.{IsSaid}
use Rattle.c_check.specs.ProgramAnswers.{AreFunctions, AreJudged, IsRefusal}
use Rattle.c_check.specs.Outlines.{IsOutline, IsOutlineOf, IsUnfinished, unfinished}
use Rattle.c_check.specs.declared.outlines.Outline.{Outline}
use Rattle.c_typing.proofs.OneProgram.{main_there, none_both, no_faults as none_missing}

abbrev pub Functions : Type 0
Functions = Vec Function Global

-- ---- what is answered where nothing has a number

noted_in : {X A : Type 0} (R : X → A → Type 0) (c : Checked X) (a : A) (notes : List Note)
    → IsSaid R c (answers.Fits a) [] notes → notes ≡ notes_in c
noted_in R (Fits x ns) a notes h = h.1
noted_in R (Fails f fs) a notes h = absurd h.0

no_faults_in : {X A : Type 0} (R : X → A → Type 0) (c : Checked X) (a : A) (notes : List Note)
    → IsSaid R c (answers.Fits a) [] notes → faults_in c ≡ []
no_faults_in R (Fits x ns) a notes h = refl
no_faults_in R (Fails f fs) a notes h = absurd h.0

least_in : {X A : Type 0} (R : X → A → Type 0) (c : Checked X) (f : Fault) (notes : List Note)
    → IsSaid R c (answers.Fails f) [] notes → least (faults_in c) ≡ Some f
least_in R (Fits x ns) f notes h = absurd h.0
least_in R (Fails g gs) f notes h = h.0

same_faults : (units : List (List ExternalTree)) → faults_of units ≡ faults_in (judged no_numbers units)
same_faults units = (numbers_change_nothing (numbers_in units) no_numbers units).0

pub same_notes : (units : List (List ExternalTree)) → notes_of units ≡ notes_in (judged no_numbers units)
same_notes units = (numbers_change_nothing (numbers_in units) no_numbers units).1

notes_are : (units : List (List ExternalTree)) (v : Functions) (notes : List Note)
    → AreJudged no_numbers units (answers.Fits v) notes → notes ≡ notes_of units
notes_are units v notes h = noted_in AreFunctions (judged no_numbers units) v notes h ∙ sym (same_notes units)

no_faults : (units : List (List ExternalTree)) (v : Functions) (notes : List Note)
    → AreJudged no_numbers units (answers.Fits v) notes → faults_of units ≡ []
no_faults units v notes h = same_faults units ∙ no_faults_in AreFunctions (judged no_numbers units) v notes h

-- ---- numbers and outline

-- notes by which nothing is missing give an outline
pub outlined : (notes : List Note) (end : Span) (o : Outline) → unfinished notes end ≡ None
    → o.main ≡ number_among (numbers_of notes).functions main
    → map object_described o.objects.items ≡ static_objects notes → IsOutlineOf notes o
outlined notes end o e m os =
    let h = none_both (least (missing notes)) (no_main (list_any is_main notes) end) e in
    record {
      bodies = none_missing (missing notes) h.0;
      has_main = main_there (list_any is_main notes) end h.1;
      main = m;
      objects = os;
    }

pub numbers_planned : (units : List (List ExternalTree)) (v : Functions) (notes : List Note) (numbers : Numbers)
    → AreJudged no_numbers units (answers.Fits v) notes → numbers ≡ numbers_of notes → numbers ≡ numbers_in units
numbers_planned units v notes numbers h k =
    k ∙ ap numbers_of (noted_in AreFunctions (judged no_numbers units) v notes h)

pub outline_planned : (units : List (List ExternalTree)) (v : Functions) (notes : List Note) (o : Outline)
    → AreJudged no_numbers units (answers.Fits v) notes → IsOutlineOf notes o → IsOutline units o
outline_planned units v notes o h k = record {
  no_fault = no_faults units v notes h;
  noted = subst (λ ns. IsOutlineOf ns o) (notes_are units v notes h) k;
}

-- ---- refusals

pub fault_first : (units : List (List ExternalTree)) (f : Fault) (notes : List Note) (end : Span)
    → AreJudged no_numbers units (answers.Fails f) notes → IsLeastFault units end f
fault_first units f notes end h =
    ap (λ g. or_else g (or_else (least (missing_bodies units)) (no_main (has_main units) end)))
    (ap least (same_faults units) ∙ least_in AreFunctions (judged no_numbers units) f notes h)

fault_behind : (units : List (List ExternalTree)) (f : Fault) (end : Span) → faults_of units ≡ []
    → unfinished (notes_of units) end ≡ Some f → IsLeastFault units end f
fault_behind units f end h k = ap (λ fs. or_else (least fs) (unfinished (notes_of units) end)) h ∙ k

pub refusal_planned : (units : List (List ExternalTree)) (v : Functions) (notes : List Note) (end : Span) (r : Refusal)
    → AreJudged no_numbers units (answers.Fits v) notes → IsUnfinished notes end r → IsRefusal units end r
refusal_planned units v notes end (refusals.Fault f) h k =
    fault_behind units f end (no_faults units v notes h)
    (ap (λ ns. unfinished ns end) (sym (notes_are units v notes h)) ∙ k)
refusal_planned units v notes end (refusals.Limit limit) h k = absurd k
refusal_planned units v notes end refusals.NoMemory h k = tt
