-- What is answered of files.
use Rattle.std.specs.Prelude.{◌≡◌, List, [], map, Vec}
use Rattle.std.specs.declared.alloc.Global.{Global}
use Rattle.pcc_base.specs.declared.span.Span.{Span}
use Rattle.pcc_base.specs.declared.refusal.Refusal.{Refusal}
use Rattle.pcc_base.specs.declared.refusal.Refusal.TheVariants as refusals
use Rattle.c_syntax.specs.Statements.{ExternalTree}
use Rattle.c_tree.specs.declared.program.Function.{Function}
use Rattle.c_tree.specs.Erased.{function_of}
use Rattle.c_tree.specs.Program as tree
use Rattle.c_typing.specs.Checked.{Note}
use Rattle.c_typing.specs.Names.{Numbers}
use Rattle.c_typing.specs.Typed.{judged, IsAbove, IsLeastFault}
use Rattle.c_check_expressions.specs.declared.judged.Judged.{Judged}
use Rattle.c_check_expressions.specs.Said.{IsSaid}

-- the functions that are defined
abbrev pub AreFunctions : List tree.Function → Vec Function Global → Type 0
AreFunctions fs v = map function_of v.items ≡ fs

-- what is answered of files and what they note, where objects and functions have these numbers
abbrev pub AreJudged : Numbers → List (List ExternalTree) → Judged (Vec Function Global) → List Note → Type 0
AreJudged numbers units answer notes = IsSaid AreFunctions (judged numbers units) answer [] notes

-- why files are refused, where the last one ends at this place: their least fault, or the limit that their typed
-- program is above
abbrev pub IsRefusal : List (List ExternalTree) → Span → Refusal → Type 0
IsRefusal units end (refusals.Fault f) = IsLeastFault units end f
IsRefusal units end (refusals.Limit limit) = IsAbove units limit
IsRefusal units end refusals.NoMemory = Unit {0}
