-- How what is answered outside functions stands for what the definitions have.
use Rattle.std.specs.Prelude.{◌≡◌, List, []}
use Rattle.c_check_names.specs.declared.meaning.Signature.{Signature}
use Rattle.c_check_names.specs.Views.{signature_of}
use Rattle.c_typing.specs.Names as names
use Rattle.c_check_expressions.specs.declared.judged.Judged.{Judged}
use Rattle.c_check_expressions.specs.declared.judged.Judged.TheVariants as answers

abbrev pub IsSignature : names.Signature → Signature → Type 0
IsSignature x a = signature_of a ≡ x

-- what defines no function is judged for its faults, its notes and the scope behind it
abbrev pub AreNone : {X A : Type 0} → List X → A → Type 0
AreNone xs a = [] ≡ xs

-- the first value of two that fit
abbrev pub first_answered : {A B : Type 0} → Judged (A × B) → Judged A
first_answered (answers.Fits p) = answers.Fits p.0
first_answered (answers.Fails f) = answers.Fails f
