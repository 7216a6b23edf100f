-- The typed program of files, within the limits or above one.
use Rattle.std.proofs.Common.{arith, ◌≡◌, ℕ, sym, ap, subst, ◌∙◌, List, [], map}
use Rattle.std.specs.Prelude.{Some, None, Result, Ok, Err, IfOk}
use Rattle.pcc_base.specs.declared.span.Span.{Span}
use Rattle.pcc_base.specs.declared.fault.Fault.{Fault}
use Rattle.pcc_base.specs.declared.refusal.Refusal.{Refusal}
use Rattle.pcc_base.specs.declared.refusal.Refusal.TheVariants as refusals
use Rattle.c_syntax.specs.Statements.{ExternalTree}
use Rattle.c_tree.specs.Erased.{function_of}
use Rattle.c_tree.specs.Program as tree
use Rattle.c_typing.specs.Checked.{Checked, Fits, Fails, faults_in, value_in}
use Rattle.c_typing.specs.Library.{number_among}
use Rattle.c_typing.specs.Numbering.{numbers_of, static_objects}
use Rattle.c_typing.specs.Typed.{checked, limit_of, main, notes_of, numbers_in, program_with}
use Rattle.c_typing.specs.Typed.{Typed, IsAccepted}
use Rattle.c_check_expressions.specs.declared.judged.Judged.TheVariants as answers
use Rattle.c_check_expressions.specs.Parts.{Stands}
use Rattle.c_check.specs.ProgramAnswers.{AreFunctions, IsRefusal}
use Rattle.c_check.specs.Outlines.{made, IsOutline, IsTooLarge}
use Rattle.c_check.specs.declared.outlines.Outline.{Outline}
use Rattle.c_check.proofs.Outlining.{Functions, same_notes}

-- two facts of an answer give a third
pub both_ok : {T E : Type 0} (r : Result T E) (P Q R : T → Type 0) → ((x : T) → P x → Q x → R x) → IfOk r P → IfOk r Q
    → IfOk r R
both_ok (Ok x) P Q R f h k = f x h k
both_ok (Err e) P Q R f h k = tt

functions_there : (c : Checked (List tree.Function)) (v : Functions) → Stands AreFunctions c (answers.Fits v)
    → value_in c ≡ Some (map function_of v.items)
functions_there (Fits fs ns) v h = ap Some (sym h)
functions_there (Fails f fs) v h = absurd h

abbrev with_parts : List tree.StaticObject → List tree.Function → ℕ → tree.Program
with_parts objects functions main = record { objects = objects; functions = functions; main = main }

one_program : (objects others : List tree.StaticObject) (functions : List tree.Function) (m n : ℕ)
    → others ≡ objects → n ≡ m → Some (with_parts objects functions m) ≡ Some (with_parts others functions n)
one_program objects others functions m n e f =
    ap Some (ap (λ os. with_parts os functions m) (sym e) ∙ ap (with_parts others functions) (sym f))

-- the program that an outline is with the functions of the second look is the typed one
typed_made : (units : List (List ExternalTree)) (o : Outline) (v : Functions) → IsOutline units o
    → Stands AreFunctions (checked units) (answers.Fits v) → Typed units (made o (map function_of v.items))
typed_made units o v h k = record {
  no_fault = h.no_fault;
  bodies = h.noted.bodies;
  main = h.noted.has_main;
  is = ap (program_with (numbers_in units) (notes_of units)) (functions_there (checked units) v k)
      ∙ one_program (static_objects (notes_of units)) (made o []).objects (map function_of v.items)
      (number_among (numbers_in units).functions main) o.main h.noted.objects
      (h.noted.main ∙ ap (λ ns. number_among (numbers_of ns).functions main) (same_notes units));
}

pub accepted_made : (units : List (List ExternalTree)) (o : Outline) (v : Functions) (p : tree.Program)
    → IsOutline units o → Stands AreFunctions (checked units) (answers.Fits v) → p ≡ made o (map function_of v.items)
    → limit_of p ≡ None → IsAccepted units p
accepted_made units o v p h k e small =
    record { typed = subst (Typed units) (sym e) (typed_made units o v h k); small = small }

pub refusal_made : (units : List (List ExternalTree)) (end : Span) (o : Outline) (v : Functions) (r : Refusal)
    → IsOutline units o → Stands AreFunctions (checked units) (answers.Fits v)
    → IsTooLarge (made o (map function_of v.items)) r → IsRefusal units end r
refusal_made units end o v (refusals.Fault f) h k large = absurd large
refusal_made units end o v (refusals.Limit limit) h k large = record {
  program = made o (map function_of v.items);
  typed = typed_made units o v h k;
  above = large;
}
refusal_made units end o v refusals.NoMemory h k large = tt

fails_never : (c : Checked (List tree.Function)) (f : Fault) → faults_in c ≡ []
    → Stands {A = Functions} AreFunctions c (answers.Fails f) → ⊥
fails_never (Fits fs ns) f e h = h
fails_never (Fails g gs) f e h = grind arith

pub refusal_never : (units : List (List ExternalTree)) (end : Span) (o : Outline) (f : Fault) → IsOutline units o
    → Stands {A = Functions} AreFunctions (checked units) (answers.Fails f) → IsRefusal units end (refusals.Fault f)
refusal_never units end o f h k = absurd (fails_never (checked units) f h.no_fault k)
