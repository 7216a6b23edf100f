-- Strings that initialise arrays (C99 6.7.8p14).
use Rattle.std.specs.Prelude.{ℕ, List, length, nat_le, Option, Some, None, if◌then◌else◌}
use Rattle.pcc_base.specs.declared.fault.Fault.{Fault}
use Rattle.pcc_base.specs.declared.fault.FaultKind.TheVariants.{Initialiser}
use Rattle.c_syntax.specs.declared.expression.TextPiece.{TextPiece}
use Rattle.c_typing.specs.Expressions.{first_piece, text_bytes}
use Rattle.c_typing.specs.Faults.{fault}

-- the fault of a string that has more bytes than an array has elements, its zero not counted
abbrev pub letters_fault : ℕ → List TextPiece → Option Fault
letters_fault count pieces =
    if nat_le (length (text_bytes pieces)) count then None else Some (fault Initialiser (first_piece pieces))
