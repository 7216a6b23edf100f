-- The numbers and names under which faults are printed.
use Rattle.std.specs.Prelude.{ℕ, List, codes}
use Rattle.pcc_base.specs.declared.fault.FaultKind.{FaultKind}
use Rattle.pcc_base.specs.declared.fault.FaultKind.TheVariants.{BadByte, BadNumber, Unclosed, BadEscape, Syntax}
use Rattle.pcc_base.specs.declared.fault.FaultKind.TheVariants.{Unsupported, TooDeep, Redeclared, Undeclared, TypeRule}
use Rattle.pcc_base.specs.declared.fault.FaultKind.TheVariants.{NotAssignable, ArgumentCount, ArraySize, Initialiser}
use Rattle.pcc_base.specs.declared.fault.FaultKind.TheVariants.{Jump, CaseLabel, PointerUse, NoMain, NoBody, BadBoard}

abbrev pub number_of : FaultKind → ℕ
number_of BadByte = 1
number_of BadNumber = 2
number_of Unclosed = 3
number_of BadEscape = 4
number_of Syntax = 5
number_of (Unsupported word) = 6
number_of TooDeep = 7
number_of Redeclared = 8
number_of Undeclared = 9
number_of TypeRule = 10
number_of NotAssignable = 11
number_of ArgumentCount = 12
number_of ArraySize = 13
number_of Initialiser = 14
number_of Jump = 15
number_of CaseLabel = 16
number_of PointerUse = 17
number_of NoMain = 18
number_of NoBody = 19
number_of BadBoard = 25

abbrev pub name_of : FaultKind → List ℕ
name_of BadByte = codes "BadByte"
name_of BadNumber = codes "BadNumber"
name_of Unclosed = codes "Unclosed"
name_of BadEscape = codes "BadEscape"
name_of Syntax = codes "Syntax"
name_of (Unsupported word) = codes "Unsupported"
name_of TooDeep = codes "TooDeep"
name_of Redeclared = codes "Redeclared"
name_of Undeclared = codes "Undeclared"
name_of TypeRule = codes "Type"
name_of NotAssignable = codes "NotAssignable"
name_of ArgumentCount = codes "ArgumentCount"
name_of ArraySize = codes "ArraySize"
name_of Initialiser = codes "Initialiser"
name_of Jump = codes "Jump"
name_of CaseLabel = codes "CaseLabel"
name_of PointerUse = codes "PointerUse"
name_of NoMain = codes "NoMain"
name_of NoBody = codes "NoBody"
name_of BadBoard = codes "BadBoard"
