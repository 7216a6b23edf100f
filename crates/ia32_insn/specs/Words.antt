-- The bytes of a list of words.
use Rattle.std.specs.Prelude.{ℕ, List, flat_map}
use Rattle.byteorder.specs.Endian.{little_bytes}

-- the bytes of the words, each word's lowest first
abbrev pub bytes_of_words : List ℕ → List ℕ
bytes_of_words words = flat_map (λ word. little_bytes 4 word) words
