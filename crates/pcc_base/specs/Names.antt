-- Names of functions and variables (identifiers of C99 6.4.2.1).
use Rattle.std.specs.Prelude.{◌≡◌, ◌<◌, ◌⊎◌, ℕ, List, codes, length, slice_index}
use Rattle.std.specs.List.{All}
use Rattle.pcc_base.specs.Ascii.{underscore, IsBetween}

abbrev pub IsDigit : ℕ → Type 0
IsDigit c = IsBetween (codes "09") c

-- a byte of a name: an ASCII letter, a digit or `_`
abbrev pub IsNameByte : ℕ → Type 0
IsNameByte c = IsDigit c ⊎ (IsBetween (codes "AZ") c ⊎ ((c ≡ underscore) ⊎ IsBetween (codes "az") c))

-- a name doesn't begin with a digit
pub record IsName (name : List ℕ) : Type 0 where
  pub nonempty : 0 < length name
  pub bytes : All IsNameByte name
  pub begins : IsDigit (slice_index name 0) → ⊥
