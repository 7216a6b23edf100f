-- Arrays that stand one behind the other: where they are, and what stays when one changes or more come.
use Rattle.std.proofs.Common.{◌≡◌, ◌∙◌, ℕ, zero, suc, ◌+◌, ◌<◌, ◌≤◌, ℤ, List, [], ◌∷◌, ◌++◌, length, map, take, drop}
use Rattle.std.proofs.Common.{refl, sym, ap, ap₂}
use Rattle.std.proofs.Common.{arith, length-append, slice_set}
use Rattle.std.specs.Prelude.{slice_index_or}
use Rattle.std.proofs.lemmas.List.{take-append-le, drop-append-le, drop_at, take_all, take-set-le, drop-set-lt}
use Rattle.std.proofs.lemmas.List.{drop-set-add}
use Rattle.std.proofs.lemmas.List.{length-take-le, length-drop, drop-drop, map-append}
use Rattle.std.specs.Prelude.{◌-◌}
use Rattle.c_eval_state.specs.declared.arrays.Span.{Span}
use Rattle.std.proofs.Common.{pos, subst, replicate}
use Rattle.std.proofs.lemmas.List.{get_or_read, set_past, length-map, take_more, take_more_set}
use Rattle.c_tree.specs.Evaluation.{text_then_zeros, zeroed}
use Rattle.c_eval_state.proofs.Pieces.{piece-take, take-set}
use Rattle.c_eval_state.specs.Spans.{elements_of, AreSpans}

abbrev pub no_span : Span
no_span = record { start = 0; count = 0 }

-- the arrays begin no earlier than where they are said to, and end at the end
from-all : (from all : ℕ) (spans : List Span) → AreSpans from spans all → from ≤ all
from-all from all [] h = omega (arith, h)
from-all from all (s ∷ ss) h = let rest = from-all (from + s.count) all ss h.1 in omega (arith, rest)

-- an array stands within the elements
pub span-within : (from all : ℕ) (spans : List Span) (k : ℕ) → AreSpans from spans all → k < length spans
    → (from ≤ (slice_index_or spans k no_span).start)
    × ((slice_index_or spans k no_span).start + (slice_index_or spans k no_span).count ≤ all)
span-within from all [] k h w = absurd (omega (arith, w))
span-within from all (s ∷ ss) zero h w =
    let rest = from-all (from + s.count) all ss h.1 in (omega (arith, h.0), omega (arith, h.0, rest))
span-within from all (s ∷ ss) (suc k) h w =
    let rest = span-within (from + s.count) all ss k h.1 (omega (arith, w)) in (omega (arith, rest.0), rest.1)

-- ---- one more array

pub spans-push : (from all count : ℕ) (spans : List Span) → AreSpans from spans all
    → AreSpans from (spans ++ record { start = all; count = count } ∷ []) (all + count)
spans-push from all count [] h = (sym h, ap (λ n. n + count) h)
spans-push from all count (s ∷ ss) h = (h.0, spans-push (from + s.count) all count ss h.1)

-- the elements of an array that stands in the first ones
elements-append : (xs ys : List ℤ) (s : Span) → s.start + s.count ≤ length xs
    → elements_of (xs ++ ys) s ≡ elements_of xs s
elements-append xs ys s h =
    let less : s.start ≤ length xs = omega (arith, h) in
    let room : s.count ≤ length (drop s.start xs) = omega (arith, h, length-drop s.start xs) in
    ap (take s.count) (drop-append-le s.start xs ys less) ∙ take-append-le s.count (drop s.start xs) ys room

all-append : (from : ℕ) (xs ys : List ℤ) (spans : List Span) → AreSpans from spans (length xs)
    → map (elements_of (xs ++ ys)) spans ≡ map (elements_of xs) spans
all-append from xs ys [] h = refl
all-append from xs ys (s ∷ ss) h =
    let rest = from-all (from + s.count) (length xs) ss h.1 in
    ap₂ (λ a b. a ∷ b) (elements-append xs ys s (omega (arith, h.0, rest)))
    (all-append (from + s.count) xs ys ss h.1)

pub rows-push : (xs ys : List ℤ) (spans : List Span) → AreSpans 0 spans (length xs)
    → map (elements_of (xs ++ ys)) (spans ++ record { start = length xs; count = length ys } ∷ [])
    ≡ map (elements_of xs) spans ++ ys ∷ []
rows-push xs ys spans h =
    let last : Span = record { start = length xs; count = length ys } in
    let new : elements_of (xs ++ ys) last ≡ ys =
    ap (take (length ys)) (drop_at xs ys (length xs) refl) ∙ take_all (length ys) ys (omega arith) in
    map-append (elements_of (xs ++ ys)) spans (last ∷ [])
    ∙ ap₂ (λ a b. a ++ b ∷ []) (all-append 0 xs ys spans h) new

-- ---- the first arrays

-- the elements of an array that ends within the first ones
elements-take : (xs : List ℤ) (s : Span) (n : ℕ) → s.start + s.count ≤ n
    → elements_of (take n xs) s ≡ elements_of xs s
elements-take xs s n h = piece-take xs s.start s.count n h

-- the arrays before another one, of the elements before it
pub rows-take : (from all : ℕ) (xs : List ℤ) (spans : List Span) (k : ℕ) → AreSpans from spans all → k < length spans
    → map (elements_of (take (slice_index_or spans k no_span).start xs)) (take k spans)
    ≡ take k (map (elements_of xs) spans)
rows-take from all xs [] k h w = absurd (omega (arith, w))
rows-take from all xs (s ∷ ss) zero h w = refl
rows-take from all xs (s ∷ ss) (suc k) h w =
    let within = span-within (from + s.count) all ss k h.1 (omega (arith, w)) in
    ap₂ (λ a b. a ∷ b)
    (elements-take xs s (slice_index_or ss k no_span).start (omega (arith, h.0, within.0)))
    (rows-take (from + s.count) all xs ss k h.1 (omega (arith, w)))

pub spans-take : (from all : ℕ) (spans : List Span) (k : ℕ) → AreSpans from spans all → k < length spans
    → AreSpans from (take k spans) (slice_index_or spans k no_span).start
spans-take from all [] k h w = absurd (omega (arith, w))
spans-take from all (s ∷ ss) zero h w = sym h.0
spans-take from all (s ∷ ss) (suc k) h w = (h.0, spans-take (from + s.count) all ss k h.1 (omega (arith, w)))

-- ---- other elements in an array

-- an array that ends before the changed elements
elements-before : (xs ys : List ℤ) (s : Span) (start : ℕ) → take start ys ≡ take start xs → s.start + s.count ≤ start
    → elements_of ys s ≡ elements_of xs s
elements-before xs ys s start e h =
    sym (elements-take ys s start h) ∙ (ap (λ zs. elements_of zs s) e ∙ elements-take xs s start h)

-- an array that begins behind the changed elements
elements-behind : (xs ys : List ℤ) (s : Span) (end : ℕ) → drop end ys ≡ drop end xs → end ≤ s.start
    → elements_of ys s ≡ elements_of xs s
elements-behind xs ys s end e h =
    let apart : end + (s.start - end) ≡ s.start = omega (arith, h) in
    let of : (zs : List ℤ) → drop s.start zs ≡ drop (s.start - end) (drop end zs) =
    λ zs. ap (λ n. drop n zs) (sym apart) ∙ sym (drop-drop (s.start - end) end zs) in
    ap (take s.count) (of ys ∙ (ap (drop (s.start - end)) e ∙ sym (of xs)))

all-behind : (from all end : ℕ) (xs ys : List ℤ) (spans : List Span) → AreSpans from spans all
    → drop end ys ≡ drop end xs → end ≤ from → map (elements_of ys) spans ≡ map (elements_of xs) spans
all-behind from all end xs ys [] h e w = refl
all-behind from all end xs ys (s ∷ ss) h e w =
    ap₂ (λ a b. a ∷ b) (elements-behind xs ys s end e (omega (arith, h.0, w)))
    (all-behind (from + s.count) all end xs ys ss h.1 e (omega (arith, w)))

-- where the elements of one array change and no others, the arrays are those with this one changed
pub rows-changed : (from all : ℕ) (xs ys new : List ℤ) (spans : List Span) (k : ℕ) → AreSpans from spans all
    → k < length spans
    → take (slice_index_or spans k no_span).start ys ≡ take (slice_index_or spans k no_span).start xs
    → drop ((slice_index_or spans k no_span).start + (slice_index_or spans k no_span).count) ys
    ≡ drop ((slice_index_or spans k no_span).start + (slice_index_or spans k no_span).count) xs
    → elements_of ys (slice_index_or spans k no_span) ≡ new
    → map (elements_of ys) spans ≡ slice_set (map (elements_of xs) spans) k new
rows-changed from all xs ys new [] k h w before behind here = absurd (omega (arith, w))
rows-changed from all xs ys new (s ∷ ss) zero h w before behind here =
    ap₂ (λ a b. a ∷ b) here
    (all-behind (from + s.count) all (s.start + s.count) xs ys ss h.1 behind (omega (arith, h.0)))
rows-changed from all xs ys new (s ∷ ss) (suc k) h w before behind here =
    let within = span-within (from + s.count) all ss k h.1 (omega (arith, w)) in
    ap₂ (λ a b. a ∷ b)
    (elements-before xs ys s (slice_index_or ss k no_span).start before (omega (arith, h.0, within.0)))
    (rows-changed (from + s.count) all xs ys new ss k h.1 (omega (arith, w)) before behind here)

-- one element of an array is set
pub row-set : (from all : ℕ) (xs : List ℤ) (spans : List Span) (k i : ℕ) (v : ℤ) → AreSpans from spans all
    → k < length spans → i < (slice_index_or spans k no_span).count
    → map (elements_of (slice_set xs ((slice_index_or spans k no_span).start + i) v)) spans
    ≡ slice_set (map (elements_of xs) spans) k (slice_set (elements_of xs (slice_index_or spans k no_span)) i v)
row-set from all xs spans k i v h w less =
    let s = slice_index_or spans k no_span in
    rows-changed from all xs (slice_set xs (s.start + i) v) _ spans k h w
    (take-set-le s.start xs (s.start + i) v (omega arith))
    (drop-set-lt (s.start + s.count) xs (s.start + i) v (omega (arith, less)))
    (ap (take s.count) (drop-set-add s.start xs i v) ∙ take-set s.count (drop s.start xs) i v)

-- ---- reading

pub row-read : (xs : List ℤ) (spans : List Span) (k : ℕ) → k < length spans
    → slice_index_or (map (elements_of xs) spans) k [] ≡ elements_of xs (slice_index_or spans k no_span)
row-read xs [] k w = absurd (omega (arith, w))
row-read xs (s ∷ ss) zero w = refl
row-read xs (s ∷ ss) (suc k) w = row-read xs ss k (omega (arith, w))

pub row-none : (xs : List ℤ) (spans : List Span) (k : ℕ) → length spans ≤ k
    → slice_index_or (map (elements_of xs) spans) k [] ≡ []
row-none xs [] k w = refl
row-none xs (s ∷ ss) zero w = absurd (omega (arith, w))
row-none xs (s ∷ ss) (suc k) w = row-none xs ss k (omega (arith, w))

-- an array has as many elements as it is said to
pub row-length : (from : ℕ) (xs : List ℤ) (spans : List Span) (k : ℕ) → AreSpans from spans (length xs)
    → k < length spans
    → length (slice_index_or (map (elements_of xs) spans) k []) ≡ (slice_index_or spans k no_span).count
row-length from xs spans k h w =
    let s = slice_index_or spans k no_span in
    let within = span-within from (length xs) spans k h w in
    ap length (row-read xs spans k w)
    ∙ length-take-le s.count (drop s.start xs) (omega (arith, within.1, length-drop s.start xs))

-- the same, for a span that was read
pub span-read : (spans : List Span) (k : ℕ) (s : Span) → k < length spans → s ≡ slice_index_or spans k s
    → s ≡ slice_index_or spans k no_span
span-read spans k s w e = get_or_read spans k s w e no_span

pub read-within : (xs : List ℤ) (spans : List Span) (k : ℕ) (s : Span) → AreSpans 0 spans (length xs)
    → k < length spans → s ≡ slice_index_or spans k s → s.start + s.count ≤ length xs
read-within xs spans k s h w e =
    subst (λ (t : Span). t.start + t.count ≤ length xs) (sym (span-read spans k s w e))
    (span-within 0 (length xs) spans k h w).1

pub read-row : (xs : List ℤ) (spans : List Span) (k : ℕ) (s : Span) → k < length spans → s ≡ slice_index_or spans k s
    → slice_index_or (map (elements_of xs) spans) k [] ≡ elements_of xs s
read-row xs spans k s w e = row-read xs spans k w ∙ ap (elements_of xs) (sym (span-read spans k s w e))

-- one element is set, by the answer of the call
pub set-row : (xs : List ℤ) (spans : List Span) (k i : ℕ) (v : ℤ) (s : Span) → AreSpans 0 spans (length xs)
    → k < length spans → s ≡ slice_index_or spans k s → i < s.count
    → (i < length (slice_index_or (map (elements_of xs) spans) k []))
    × (map (elements_of (slice_set xs (s.start + i) v)) spans
    ≡ slice_set (map (elements_of xs) spans) k (slice_set (slice_index_or (map (elements_of xs) spans) k []) i v))
set-row xs spans k i v s h w e less =
    let read = span-read spans k s w e in
    let n = row-length 0 xs spans k h w in
    let here : i < (slice_index_or spans k no_span).count = subst (λ (t : Span). i < t.count) read less in (
      omega (arith, n, here),
      ap (λ (t : Span). map (elements_of (slice_set xs (t.start + i) v)) spans) read
          ∙ (row-set 0 (length xs) xs spans k i v h w here
          ∙ ap (λ row. slice_set (map (elements_of xs) spans) k (slice_set row i v)) (sym (row-read xs spans k w))),
    )

-- all elements of an array are others
pub write-row : (xs ys : List ℤ) (spans : List Span) (k : ℕ) (s : Span) (new : List ℤ) → AreSpans 0 spans (length xs)
    → k < length spans → s ≡ slice_index_or spans k s → take s.start ys ≡ take s.start xs
    → drop (s.start + s.count) ys ≡ drop (s.start + s.count) xs → elements_of ys s ≡ new
    → map (elements_of ys) spans ≡ slice_set (map (elements_of xs) spans) k new
write-row xs ys spans k s new h w e before behind here =
    let read = span-read spans k s w e in
    rows-changed 0 (length xs) xs ys new spans k h w
    (subst (λ (t : Span). take t.start ys ≡ take t.start xs) read before)
    (subst (λ (t : Span). drop (t.start + t.count) ys ≡ drop (t.start + t.count) xs) read behind)
    (subst (λ (t : Span). elements_of ys t ≡ new) read here)

-- a row that isn't there
pub rows-past : (xs : List ℤ) (spans : List Span) (k : ℕ) (new : List ℤ) → length spans ≤ k
    → slice_set (map (elements_of xs) spans) k new ≡ map (elements_of xs) spans
rows-past xs spans k new w = set_past _ k new (omega (arith, w, length-map spans (elements_of xs)))

-- a text behind whose end are zeros
pub text-at : (xs text : List ℤ) (i : ℕ) → i < length xs
    → slice_index_or (text_then_zeros xs text) i (pos 0) ≡ slice_index_or text i (pos 0)
text-at [] text i w = absurd (omega (arith, w))
text-at (x ∷ xs) [] zero w = refl
text-at (x ∷ xs) [] (suc i) w = text-at xs [] i (omega (arith, w))
text-at (x ∷ xs) (c ∷ cs) zero w = refl
text-at (x ∷ xs) (c ∷ cs) (suc i) w = text-at xs cs i (omega (arith, w))

pub text-length : (xs text : List ℤ) → length (text_then_zeros xs text) ≡ length xs
text-length [] text = refl
text-length (x ∷ xs) [] = ap suc (text-length xs [])
text-length (x ∷ xs) (c ∷ cs) = ap suc (text-length xs cs)

pub text-none : (xs : List ℤ) → text_then_zeros xs [] ≡ zeroed xs
text-none [] = refl
text-none (x ∷ xs) = ap (λ rest. pos 0 ∷ rest) (text-none xs)

-- one more element of a text is written
pub text-step : (ys xs text : List ℤ) (start count i : ℕ) → length ys ≡ length xs → start + count ≤ length xs
    → i < count
    → take i (drop start ys) ≡ take i (text_then_zeros (take count (drop start xs)) text)
    → take (i + 1) (drop start (slice_set ys (start + i) (slice_index_or text i (pos 0))))
    ≡ take (i + 1) (text_then_zeros (take count (drop start xs)) text)
text-step ys xs text start count i long room less so =
    let row = text_then_zeros (take count (drop start xs)) text in
    let size : length (take count (drop start xs)) ≡ count =
    length-take-le count (drop start xs) (omega (arith, room, length-drop start xs)) in
    let wide : i < length (drop start ys) = omega (arith, room, less, long, length-drop start ys) in
    let new : take (i + 1) (slice_set (drop start ys) i (slice_index_or text i (pos 0)))
    ≡ take i (drop start ys) ++ slice_index_or text i (pos 0) ∷ [] =
    take_more_set (drop start ys) i (slice_index_or text i (pos 0)) wide in
    let old : take (i + 1) row ≡ take i row ++ slice_index_or row i (pos 0) ∷ [] =
    take_more row i (pos 0) (omega (arith, less, size, text-length (take count (drop start xs)) text)) in
    let at = text-at (take count (drop start xs)) text i (omega (arith, less, size)) in
    ap (take (i + 1)) (drop-set-add start ys i (slice_index_or text i (pos 0)))
    ∙ (new ∙ (ap₂ (λ a b. a ++ b ∷ []) so (sym at) ∙ sym old))

pub text-whole : (ys xs text : List ℤ) (start count : ℕ) → start + count ≤ length xs
    → take count (drop start ys) ≡ take count (text_then_zeros (take count (drop start xs)) text)
    → take count (drop start ys) ≡ text_then_zeros (take count (drop start xs)) text
text-whole ys xs text start count room so =
    so ∙ take_all count _ (omega (
      arith,
      text-length (take count (drop start xs)) text,
      length-take-le count
          (drop start xs) (omega (arith, room, length-drop start xs)),
    ))

-- ---- the calls, over what a contract sees

pub set-seen : (xs ys : List ℤ) (spans : List Span) (now : List (List ℤ)) (k i : ℕ) (v : ℤ) (s : Span)
    → map (elements_of xs) spans ≡ now → AreSpans 0 spans (length xs) → k < length spans → s ≡ slice_index_or spans k s
    → i < s.count → ys ≡ slice_set xs (s.start + i) v
    → (i < length (slice_index_or now k []))
    × (map (elements_of ys) spans ≡ slice_set now k (slice_set (slice_index_or now k []) i v))
set-seen xs ys spans now k i v s seen h w e less is = rw (is, ← seen) (set-row xs spans k i v s h w e less)

pub unset-seen : (xs : List ℤ) (spans : List Span) (now : List (List ℤ)) (k i : ℕ) (s : Span)
    → map (elements_of xs) spans ≡ now → AreSpans 0 spans (length xs) → k < length spans → s ≡ slice_index_or spans k s
    → s.count ≤ i → length (slice_index_or now k []) ≤ i
unset-seen xs spans now k i s seen h w e more =
    let read = span-read spans k s w e in
    let n = row-length 0 xs spans k h w in
    let here : (slice_index_or spans k no_span).count ≤ i = subst (λ (t : Span). t.count ≤ i) read more in
    rw (← seen) (omega (arith, n, here))

pub write-seen : (xs ys : List ℤ) (spans : List Span) (now : List (List ℤ)) (k : ℕ) (text : List ℤ) (s : Span)
    → map (elements_of xs) spans ≡ now → AreSpans 0 spans (length xs) → k < length spans → s ≡ slice_index_or spans k s
    → take s.start ys ≡ take s.start xs → drop (s.start + s.count) ys ≡ drop (s.start + s.count) xs
    → elements_of ys s ≡ text_then_zeros (elements_of xs s) text
    → map (elements_of ys) spans ≡ slice_set now k (text_then_zeros (slice_index_or now k []) text)
write-seen xs ys spans now k text s seen h w e before behind here =
    rw (← seen) (write-row xs ys spans k s _ h w e before behind
    (here ∙ ap (λ row. text_then_zeros row text) (sym (read-row xs spans k s w e))))

pub push-seen : (xs ys more : List ℤ) (spans new : List Span) (now : List (List ℤ))
    → map (elements_of xs) spans ≡ now → AreSpans 0 spans (length xs) → ys ≡ xs ++ more
    → new ≡ spans ++ record { start = length xs; count = length more } ∷ []
    → AreSpans 0 new (length ys) × (map (elements_of ys) new ≡ now ++ more ∷ [])
push-seen xs ys more spans new now seen h is are =
    rw (is, are, ← seen, length-append xs more) (
      spans-push 0 (length xs)
          (length more) spans h,
      rows-push xs more spans h,
    )

pub truncate-seen : (xs ys : List ℤ) (spans new : List Span) (now : List (List ℤ)) (k : ℕ) (s : Span)
    → map (elements_of xs) spans ≡ now → AreSpans 0 spans (length xs) → k < length spans → s ≡ slice_index_or spans k s
    → ys ≡ take s.start xs → new ≡ take k spans
    → AreSpans 0 new (length ys) × (map (elements_of ys) new ≡ take k now)
truncate-seen xs ys spans new now k s seen h w e is are =
    let read = span-read spans k s w e in
    let within = span-within 0 (length xs) spans k h w in
    let short : ys ≡ take (slice_index_or spans k no_span).start xs =
    is ∙ ap (λ (t : Span). take t.start xs) read in
    let long : length (take (slice_index_or spans k no_span).start xs) ≡ (slice_index_or spans k no_span).start =
    length-take-le (slice_index_or spans k no_span).start xs (omega (arith, within.1)) in
    rw (short, are, long, ← seen) (spans-take 0 (length xs) spans k h w, rows-take 0 (length xs) xs spans k h w)

-- what a list becomes that is made longer
pub grown : (xs ys : List ℤ) (end count : ℕ) → end ≡ length xs + count
    → ys ≡ take end xs ++ replicate (end - length xs) (pos 0) → ys ≡ xs ++ replicate count (pos 0)
grown xs ys end count far is =
    let more : end - length xs ≡ count = omega (arith, far) in
    is ∙ ap₂ (λ a n. a ++ replicate n (pos 0)) (take_all end xs (omega (arith, far))) more
