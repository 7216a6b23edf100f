-- Arrays that stand one behind the other in one list of elements.
use Rattle.std.specs.Prelude.{ℕ, ◌≡◌, ◌+◌, ◌<◌, ◌≤◌, ℤ, List, [], ◌∷◌, length, take, drop, slice_set, slice_index_or}
use Rattle.std.specs.Prelude.{Bool, true, false}
use Rattle.c_eval_state.specs.declared.arrays.Span.{Span}

-- the elements of the array that stands there
abbrev pub elements_of : List ℤ → Span → List ℤ
elements_of elements span = take span.count (drop span.start elements)

-- From an element on, each array begins where the one before it ends, and the last ends at the last element of so many.
abbrev pub AreSpans : ℕ → List Span → ℕ → Type 0
AreSpans from [] all = from ≡ all
AreSpans from (span ∷ spans) all = (span.start ≡ from) × AreSpans (from + span.count) spans all

-- an element has this value, or there is none and nothing is changed
abbrev pub SetsElement : List (List ℤ) → List (List ℤ) → ℕ → ℕ → ℤ → Bool → Type 0
SetsElement old new array index value true =
    (index < length (slice_index_or old array []))
    × (new ≡ slice_set old array (slice_set (slice_index_or old array []) index value))
SetsElement old new array index value false =
    (length (slice_index_or old array []) ≤ index) × (new ≡ old)
