-- Lists of bytes.
use Rattle.std.specs.Prelude.{ℕ, ◌<◌, List, replicate}
use Rattle.std.specs.List.{All}

-- each number is a byte
abbrev pub AreBytes : List ℕ → Type 0
AreBytes bytes = All (λ byte. byte < 256) bytes

-- n bytes that are 0
unfoldable pub zeros : ℕ → List ℕ
zeros n = replicate n 0
