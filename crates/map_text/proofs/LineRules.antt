-- What a line's text needs to determine the line.
use Rattle.std.proofs.Common.{ℕ, Option, Some, None}
use Rattle.std.specs.Prelude.{⊤}
use Rattle.ia32_insn.specs.Places.{IsPlace}
use Rattle.map_text.specs.Maps.{IsNumber, Standing}

pub record IsStandingText (s : Standing) : Type 0 where
  pub variable : IsNumber s.variable
  pub place : IsPlace s.place

-- the number of a variable, where there is one
abbrev pub IsAnyNumber : Option ℕ → Type 0
IsAnyNumber None = ⊤
IsAnyNumber (Some v) = IsNumber v
