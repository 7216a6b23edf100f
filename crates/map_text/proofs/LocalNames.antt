-- The bytes of names.
use Rattle.std.proofs.Common.{◌<◌, ℕ, List, arith}
use Rattle.std.specs.List.{AllByRecursion}
use Rattle.std.proofs.lemmas.List.Elements.{recursion_from_All}
use Rattle.pcc_base.specs.Ascii.{digit_zero}
use Rattle.pcc_base.specs.Names.{IsName, IsNameByte}

-- the bytes below the digits are in no name
pub no-name-byte : (c : ℕ) → c < digit_zero → IsNameByte c → ⊥
no-name-byte c low h = grind arith

pub name-bytes : (name : List ℕ) → IsName name → AllByRecursion IsNameByte name
name-bytes name ok = recursion_from_All IsNameByte name ok.bytes
