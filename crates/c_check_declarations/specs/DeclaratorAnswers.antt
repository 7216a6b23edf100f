-- How what is answered of each kind of part stands for what the definitions have.
use Rattle.std.specs.Prelude.{◌≡◌, List, Vec, Option, Some, None}
use Rattle.std.specs.declared.alloc.Global.{Global}
use Rattle.c_typing.specs.Declarators as declarators
use Rattle.c_typing.specs.Types as types
use Rattle.c_check_expressions.specs.declared.judged.Judged.{Judged}
use Rattle.c_check_expressions.specs.declared.judged.Judged.TheVariants as answers
use Rattle.c_check_names.specs.declared.meaning.Declared.{Declared}
use Rattle.c_check_names.specs.Views.{declared_of}
use Rattle.c_check_declarations.specs.declared.specifiers.Specified.{Specified}
use Rattle.c_check_declarations.specs.declared.objects.ObjectType.{ObjectType}
use Rattle.c_check_declarations.specs.Views.{specified_of, object_of}

abbrev pub IsSpecified : types.Specified → Specified → Type 0
IsSpecified x a = specified_of a ≡ x

abbrev pub IsDeclared : types.Declared → Declared → Type 0
IsDeclared x a = declared_of a ≡ x

abbrev pub IsObject : declarators.ObjectType → ObjectType → Type 0
IsObject x a = object_of a ≡ x

-- what stands for itself: a size, or a type
abbrev pub IsSame : {A : Type 0} → A → A → Type 0
IsSame x a = a ≡ x

-- a list, as a vector has it
abbrev pub AreSame : {A : Type 0} → List A → Vec A Global → Type 0
AreSame xs v = v.items ≡ xs

-- the value that is answered, where there is one
abbrev pub value_answered : {A : Type 0} → Judged A → Option A
value_answered (answers.Fits a) = Some a
value_answered (answers.Fails f) = None
