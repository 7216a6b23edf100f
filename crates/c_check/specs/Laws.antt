-- Statements of laws.
use Rattle.std.specs.Prelude.{◌≡◌, ◌⊎◌, List}
use Rattle.pcc_base.specs.declared.span.Span.{Span}
use Rattle.pcc_base.specs.declared.fault.Fault.{Fault}
use Rattle.pcc_base.specs.declared.refusal.Limit.{Limit}
use Rattle.c_syntax.specs.Statements.{ExternalTree}
use Rattle.c_tree.specs.Program.{Program}
use Rattle.c_typing.specs.Typed.{IsAbove, IsAccepted, IsLeastFault}

-- one program at most is accepted, one fault is the least, and one limit is exceeded
pub record OneOfEach (units : List (List ExternalTree)) (end : Span) : Type 0 where
  pub program : (p q : Program) → IsAccepted units p → IsAccepted units q → p ≡ q
  pub fault : (f g : Fault) → IsLeastFault units end f → IsLeastFault units end g → f ≡ g
  pub limit : (l m : Limit) → IsAbove units l → IsAbove units m → l ≡ m

-- no two of them are there
pub record NoTwo (units : List (List ExternalTree)) (end : Span) : Type 0 where
  pub fault : (p : Program) (f : Fault) → IsAccepted units p → IsLeastFault units end f → ⊥
  pub limit : (p : Program) (l : Limit) → IsAccepted units p → IsAbove units l → ⊥
  pub both : (f : Fault) (l : Limit) → IsLeastFault units end f → IsAbove units l → ⊥

-- one of them is
abbrev pub SomeAnswer : List (List ExternalTree) → Span → Type 0
SomeAnswer units end =
    ((p : Program) × IsAccepted units p) ⊎ ((f : Fault) × IsLeastFault units end f) ⊎ ((l : Limit) × IsAbove units l)

-- files are accepted, or they have a least fault, or they are above a limit, and there is one such answer
abbrev pub OneAnswer : Type 0
OneAnswer = (units : List (List ExternalTree)) (end : Span)
    → OneOfEach units end × NoTwo units end × SomeAnswer units end
