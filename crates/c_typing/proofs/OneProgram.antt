-- One typed program, and where there is one.
use Rattle.std.proofs.Common.{arith, ◌≡◌, refl, sym, ap, subst, ◌∙◌, Bool, true, false, List, []}
use Rattle.std.specs.Prelude.{Option, Some, None, unwrap_or}
use Rattle.pcc_base.specs.declared.fault.FaultKind.TheVariants.{NoMain}
use Rattle.pcc_base.specs.declared.span.Span.{Span}
use Rattle.pcc_base.specs.declared.fault.Fault.{Fault}
use Rattle.c_syntax.specs.Statements.{ExternalTree}
use Rattle.c_tree.specs.Program.{Program}
use Rattle.c_typing.specs.Checked.{Checked, Fits, Fails, faults_in, value_in}
use Rattle.c_typing.specs.Faults.{fault, least}
use Rattle.c_typing.specs.Library.{number_among}
use Rattle.c_typing.specs.Numbering.{static_objects}
use Rattle.c_typing.specs.Typed.{fault_of, or_else, no_main, has_main, faults_of, missing_bodies, notes_of}
use Rattle.c_typing.specs.Typed.{main, program_with, numbers_in, checked, Typed}
use Rattle.c_typing.specs.Laws.{OneTypedProgram, TypedWithoutFault, IsLeastOf}
use Rattle.c_typing.proofs.LeastFault.{least_is_least}

pub one_typed_program : OneTypedProgram
one_typed_program units p q h k = ap (λ o. unwrap_or o p) (sym h.is ∙ k.is)

-- ---- no fault leads to a typed program

pub some_is_none : {A : Type 0} (x : A) → Some x ≡ None → ⊥
some_is_none x e = grind arith

pub none_both : (f g : Option Fault) → or_else f g ≡ None → (f ≡ None) × (g ≡ None)
none_both None g e = (refl, e)
none_both (Some f) g e = absurd (some_is_none f e)

pub no_faults : (fs : List Fault) → least fs ≡ None → fs ≡ []
no_faults fs e = subst (IsLeastOf fs) e (least_is_least fs)

pub main_there : (b : Bool) (end : Span) → no_main b end ≡ None → b ≡ true
main_there true end e = refl
main_there false end e = absurd (some_is_none (fault NoMain end) e)

value_there : {A : Type 0} (c : Checked A) → faults_in c ≡ [] → (v : A) × (value_in c ≡ Some v)
value_there (Fits value notes) e = (value, refl)
value_there (Fails first others) e = grind arith

typed_if : (units : List (List ExternalTree)) (end : Span) → fault_of units end ≡ None → (p : Program) × Typed units p
typed_if units end e =
    let faults = none_both (least (faults_of units)) (or_else (least (missing_bodies units))
    (no_main (has_main units) end)) e in
    let others = none_both (least (missing_bodies units)) (no_main (has_main units) end) faults.1 in
    let no_fault = no_faults (faults_of units) faults.0 in
    let there = value_there (checked units) no_fault in (
      record {
        objects = static_objects (notes_of units);
        functions = there.0;
        main = number_among (numbers_in units).functions main;
      },
      record {
        no_fault = no_fault;
        bodies = no_faults (missing_bodies units) others.0;
        main = main_there (has_main units) end others.1;
        is = ap (program_with (numbers_in units) (notes_of units)) there.1;
      },
    )

-- ---- and the other way round

without_fault : (units : List (List ExternalTree)) (end : Span) → ((p : Program) × Typed units p)
    → fault_of units end ≡ None
without_fault units end (p, t) =
    ap (λ fs. or_else (least fs) (or_else (least (missing_bodies units)) (no_main (has_main units) end))) t.no_fault
    ∙ ap (λ fs. or_else (least fs) (no_main (has_main units) end)) t.bodies
    ∙ ap (λ b. no_main b end) t.main

-- there is a typed program exactly where there is no fault
pub typed_without_fault : TypedWithoutFault
typed_without_fault units end = (typed_if units end, without_fault units end)
