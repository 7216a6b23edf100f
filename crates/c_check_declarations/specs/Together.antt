-- What is answered of parts, put together.
use Rattle.std.specs.Prelude.{◌∷◌, [], ◌++◌, List, Vec, Option, Some, None, if◌then◌else◌}
use Rattle.std.specs.declared.alloc.Global.{Global}
use Rattle.pcc_base.specs.declared.fault.Fault.{Fault}
use Rattle.c_typing.specs.Faults.{precedes}
use Rattle.c_check_expressions.specs.declared.judged.Judged.{Judged}
use Rattle.c_check_expressions.specs.declared.judged.Judged.TheVariants as answers
use Rattle.c_check_expressions.specs.Judged.{joined_answers}

-- ---- faults

abbrev pub listed : Option Fault → List Fault
listed None = []
listed (Some f) = f ∷ []

-- a fault beside what is judged
abbrev pub with_fault : {A : Type 0} → Option Fault → Judged A → Judged A
with_fault None j = j
with_fault (Some f) (answers.Fits a) = answers.Fails f
with_fault (Some f) (answers.Fails g) = answers.Fails (if precedes g f then g else f)

-- the fault that is answered, where there is one
abbrev pub fault_answered : {A : Type 0} → Judged A → Option Fault
fault_answered (answers.Fits a) = None
fault_answered (answers.Fails f) = Some f

-- ---- lists

abbrev pub items_answered : {A : Type 0} → Judged (Vec A Global) → Judged (List A)
items_answered (answers.Fits v) = answers.Fits v.items
items_answered (answers.Fails f) = answers.Fails f

abbrev pub appended : {A : Type 0} → Judged (List A × A) → Judged (List A)
appended (answers.Fits p) = answers.Fits (p.0 ++ p.1 ∷ [])
appended (answers.Fails f) = answers.Fails f

abbrev pub maybe_listed : {A : Type 0} → Option A → List A
maybe_listed None = []
maybe_listed (Some a) = a ∷ []

abbrev pub maybe_appended : {A : Type 0} → Judged (List A × Option A) → Judged (List A)
maybe_appended (answers.Fits p) = answers.Fits (p.0 ++ maybe_listed p.1)
maybe_appended (answers.Fails f) = answers.Fails f

-- one more value behind others
abbrev pub one_behind : {A : Type 0} → Judged (List A) → Judged A → Judged (List A)
one_behind front part = appended (joined_answers front part)

-- one more behind others, or none
abbrev pub some_behind : {A : Type 0} → Judged (List A) → Judged (Option A) → Judged (List A)
some_behind front part = maybe_appended (joined_answers front part)
