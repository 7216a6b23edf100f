-- What CDQ and IDIV, and DIV with 0 above the dividend, make of words.
use Rattle.std.proofs.Common.{rules}
use Rattle.ia32_laws.specs.Words.{DivisionIs, DivisionTraps, UnsignedDivisionIs, UnsignedDivisionTraps}

pub division-traps : DivisionTraps
division-traps x y f g e = search rules

pub division-is : DivisionIs
division-is x y f g e = search rules

pub unsigned-division-traps : UnsignedDivisionTraps
unsigned-division-traps x y f g e = search rules

pub unsigned-division-is : UnsignedDivisionIs
unsigned-division-is x y f g e = search rules
