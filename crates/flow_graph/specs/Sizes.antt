-- What the frame of a call has to have room for: argument words and frame arrays.
use Rattle.std.specs.Prelude.{ℕ, ◌+◌, ◌*◌, ◌/◌, max, List, [], ◌∷◌, length}
use Rattle.flow_graph.specs.declared.op.Op.{Op}
use Rattle.flow_graph.specs.Shapes.{Leads, Onward, IntoCall, ToBlock, ToEither, OutOfCall, OutOfProgram, shape}

abbrev pub words_passed : Leads → ℕ
words_passed Onward = 0
words_passed (IntoCall result words) = length words
words_passed (ToBlock x) = 0
words_passed (ToEither x y) = 0
words_passed OutOfCall = 0
words_passed OutOfProgram = 0

-- how many argument words an op passes
abbrev pub words_of : Op → ℕ
words_of op = words_passed (shape op).leads

-- the most argument words that one of the ops passes
abbrev pub most_words : List Op → ℕ
most_words [] = 0
most_words (op ∷ ops) = max (words_of op) (most_words ops)

-- an array has a word with its element count, and its elements, padded to words
abbrev pub array_bytes : ℕ × ℕ → ℕ
array_bytes array = 4 + (array.1 * array.0 + 3) / 4 * 4
