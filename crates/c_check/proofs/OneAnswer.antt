-- Files have one answer.
use Rattle.std.proofs.Common.{◌≡◌, refl, inl, inr, List}
use Rattle.std.specs.Prelude.{Option, Some, None, unwrap_or}
use Rattle.std.proofs.Common.{arith, sym, ap, ◌∙◌}
use Rattle.pcc_base.specs.declared.span.Span.{Span}
use Rattle.pcc_base.specs.declared.fault.Fault.{Fault}
use Rattle.pcc_base.specs.declared.refusal.Limit.{Limit}
use Rattle.c_syntax.specs.Statements.{ExternalTree}
use Rattle.c_tree.specs.Program.{Program}
use Rattle.c_typing.specs.Typed.{fault_of, limit_of, Typed}
use Rattle.c_typing.proofs.OneProgram.{one_typed_program, typed_without_fault}
use Rattle.c_check.specs.Laws.{OneOfEach, NoTwo, SomeAnswer, OneAnswer}

same_there : {A : Type 0} (o : Option A) (x y : A) → o ≡ Some x → o ≡ Some y → x ≡ y
same_there o x y h k = ap (λ p. unwrap_or p x) (sym h ∙ k)

none_there : {A : Type 0} (o : Option A) (x : A) → o ≡ None → o ≡ Some x → ⊥
none_there o x h k = grind arith

one_of_each : (units : List (List ExternalTree)) (end : Span) → OneOfEach units end
one_of_each units end = record {
  program = λ p q h k. one_typed_program units p q h.typed k.typed;
  fault = λ f g h k. same_there (fault_of units end) f g h k;
  limit = λ l m h k. same_there (limit_of h.program) l m h.above
      (ap limit_of (one_typed_program units h.program k.program h.typed k.typed) ∙ k.above);
}

without_fault : (units : List (List ExternalTree)) (end : Span) (p : Program) → Typed units p
    → fault_of units end ≡ None
without_fault units end p h = (typed_without_fault units end).1 (p, h)

no_two : (units : List (List ExternalTree)) (end : Span) → NoTwo units end
no_two units end = record {
  fault = λ p f h k. none_there (fault_of units end) f (without_fault units end p h.typed) k;
  limit = λ p l h k. none_there (limit_of k.program) l
      (ap limit_of (one_typed_program units k.program p k.typed h.typed) ∙ h.small) k.above;
  both = λ f l h k. none_there (fault_of units end) f (without_fault units end k.program k.typed) h;
}

some_limit : (units : List (List ExternalTree)) (end : Span) (p : Program) (o : Option Limit) → Typed units p
    → limit_of p ≡ o → SomeAnswer units end
some_limit units end p None h e = inl (p, record { typed = h; small = e })
some_limit units end p (Some l) h e = inr (inr (l, record { program = p; typed = h; above = e }))

some_answer : (units : List (List ExternalTree)) (end : Span) (o : Option Fault) → fault_of units end ≡ o
    → SomeAnswer units end
some_answer units end None e =
    let there = (typed_without_fault units end).0 e in
    some_limit units end there.0 (limit_of there.0) there.1 refl
some_answer units end (Some f) e = inr (inl (f, e))

pub one_answer : OneAnswer
one_answer units end = (one_of_each units end, no_two units end, some_answer units end (fault_of units end) refl)
