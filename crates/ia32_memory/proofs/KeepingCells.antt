-- How bytes are kept: the first ones, zeros, and the last ones.
use Rattle.std.specs.Prelude.{◌≡◌, ℕ, suc, ◌+◌, ◌-◌, ◌<◌, ◌≤◌, Bool, true, false, List, [], ◌∷◌, ◌++◌, length, take}
use Rattle.std.specs.Prelude.{drop, replicate, get_or, refl, Result, IsOk, is_ok, if◌then◌else◌, ◌||◌, nat_le}
use Rattle.std.proofs.Common.{sym, ◌∙◌, ap, inl, inr, arith, length-append, length-drop, append-nil}
use Rattle.std.proofs.lemmas.Bool.{or_cases, or_parts, leb-true, leb-false}
use Rattle.std.proofs.lemmas.List.{take_all, length-replicate, replicate-append-replicate, append_assoc, take-append-le}
use Rattle.std.proofs.lemmas.List.{drop-append-le, drop-drop, drop_at, drop_more, get_or_append_left}
use Rattle.std.proofs.lemmas.List.{get_or-append_right, get_or-replicate}
use Rattle.pcc_base.specs.Bytes.{zeros}
use Rattle.pcc_base.proofs.Zeros.{length-zeros}
use Rattle.ia32_memory.specs.Cells.{padded, laid}

-- ---- what is known of a call that can't be refused

pub filled : {E : Type 0} (r : Result Unit E) (new done old : List ℕ) → IsOk r → new ≡ (if is_ok r then done else old)
    → new ≡ done
filled r new done old ok e = e ∙ ap (λ (b : Bool). if b then done else old) ok

pub resized : {E : Type 0} (r : Result Unit E) (n len : ℕ) (old new : List ℕ) → IsOk r
    → new ≡ (if is_ok r then take n old ++ replicate (n - len) 0 else old) → len ≡ length old → length old ≤ n
    → new ≡ old ++ replicate (n - length old) 0
resized r n len old new ok e is fits = filled r new (take n old ++ replicate (n - len) 0) old ok e
    ∙ ap (λ (l : List ℕ). l ++ replicate (n - len) 0) (take_all n old fits)
    ∙ ap (λ (k : ℕ). old ++ replicate (n - k) 0) is

-- an empty list that became longer
pub fresh : (n len : ℕ) (old new : List ℕ) → old ≡ [] → len ≡ 0 → new ≡ take n old ++ replicate (n - len) 0
    → new ≡ replicate n 0
fresh n len old new none zero e = e
    ∙ ap (λ (l : List ℕ). take n l ++ replicate (n - len) 0) none
    ∙ ap (λ (l : List ℕ). l ++ replicate (n - len) 0) (take_all n [] (omega arith))
    ∙ ap (λ (k : ℕ). replicate k 0) {x = n - len} {y = n} (omega (arith, zero))

-- ---- which bytes are kept

pub among-last : (a b c d : ℕ) → (nat_le a b || nat_le c d) ≡ true → b < a → c ≤ d
among-last a b c d e past =
    elim (or_cases (nat_le a b) (nat_le c d) e) [
      | inl first ↦ absurd (omega (arith, leb-true a b first, past))
      | inr last ↦ leb-true c d last
    ]

pub among-none : (a b c d : ℕ) → (nat_le a b || nat_le c d) ≡ false → (b < a) × (d < c)
among-none a b c d e = (
  leb-false a b (or_parts (nat_le a b) (nat_le c d) e).0,
  leb-false c d (or_parts (nat_le a b) (nat_le c d) e).1,
)

-- ---- how many bytes there are

-- before the last bytes
length-before : (size : ℕ) (front back : List ℕ) → length front + length back ≤ size
    → length (front ++ zeros (size - (length front + length back))) ≡ size - length back
length-before size front back fits =
    length-append front (zeros (size - (length front + length back)))
    ∙ ap (λ n. length front + n) (length-zeros (size - (length front + length back))) ∙ omega (arith, fits)

pub length-laid : (size : ℕ) (front back : List ℕ) → length front + length back ≤ size
    → length (laid size front back) ≡ size
unfolding laid
length-laid size front back fits =
    length-append (front ++ zeros (size - (length front + length back))) back
    ∙ ap (λ n. n + length back) (length-before size front back fits) ∙ omega (arith, fits)

-- ---- the same bytes, kept otherwise

-- with zeros behind the first ones
pub laid-grown : (size k : ℕ) (front back grown : List ℕ) → grown ≡ front ++ replicate k 0
    → length front + k + length back ≤ size → laid size grown back ≡ laid size front back
unfolding laid zeros
laid-grown size k front back grown e fits =
    let long : length grown ≡ length front + k =
    ap length e ∙ length-append front (replicate k 0) ∙ ap (λ n. length front + n) (length-replicate k 0) in
    let left = size - (length grown + length back) in
    let more : k + left ≡ size - (length front + length back) = omega (arith, long, fits) in
    ap (λ (l : List ℕ). l ++ back) (
    ap (λ (l : List ℕ). l ++ replicate left 0) e
    ∙ append_assoc front (replicate k 0) (replicate left 0)
    ∙ ap (λ (l : List ℕ). front ++ l)
    (replicate-append-replicate k left 0 ∙ ap (λ (n : ℕ). replicate n 0) more)
    )

-- with the last ones among the first
pub laid-joined : (size : ℕ) (front back joined : List ℕ) → joined ≡ front ++ back → length front + length back ≡ size
    → laid size joined [] ≡ laid size front back
unfolding laid zeros
laid-joined size front back joined e full =
    let long : length joined ≡ size = ap length e ∙ length-append front back ∙ full in
    let none : size - (length joined + 0) ≡ 0 = omega (arith, long) in
    let none' : size - (length front + length back) ≡ 0 = omega (arith, full) in
    append-nil (joined ++ replicate (size - (length joined + 0)) 0)
    ∙ ap (λ (n : ℕ). joined ++ replicate n 0) none
    ∙ append-nil joined ∙ e
    ∙ ap (λ (l : List ℕ). l ++ back) (sym (append-nil front))
    ∙ ap (λ (n : ℕ). front ++ replicate n 0 ++ back) (sym none')

-- first bytes that are all
pub laid-whole : (size : ℕ) (front back : List ℕ) → length front ≡ size → length front + length back ≤ size
    → laid size front back ≡ front
unfolding laid zeros
laid-whole size front [] full fits =
    let none : size - (length front + 0) ≡ 0 = omega (arith, full) in
    append-nil (front ++ replicate (size - (length front + 0)) 0)
    ∙ ap (λ (n : ℕ). front ++ replicate n 0) none ∙ append-nil front
laid-whole size front (byte ∷ back) full fits = absurd (omega (arith, full, fits))

-- bytes, and zeros as the last ones
pub laid-padded : (size k : ℕ) (bytes : List ℕ) → length bytes + k ≤ size
    → laid size bytes (replicate k 0) ≡ padded size bytes
unfolding laid padded zeros
laid-padded size k bytes fits =
    let left = size - (length bytes + length (replicate k 0)) in
    let all : left + k ≡ size - length bytes = omega (arith, fits, length-replicate {A = ℕ} k 0) in
    append_assoc bytes (replicate left 0) (replicate k 0)
    ∙ ap (λ (l : List ℕ). bytes ++ l) (replicate-append-replicate left k 0 ∙ ap (λ (n : ℕ). replicate n 0) all)

-- ---- reading

-- bytes among the first
pub laid-front : (size offset n : ℕ) (front back : List ℕ) → offset + n ≤ length front
    → take n (drop offset (laid size front back)) ≡ take n (drop offset front)
unfolding laid
laid-front size offset n front back within =
    let z = zeros (size - (length front + length back)) in
    let room : n ≤ length (drop offset front) = omega (arith, within, length-drop offset front) in
    let wide : offset ≤ length (front ++ z) = omega (arith, within, length-append front z) in
    let long : n ≤ length (drop offset front ++ z) = omega (arith, room, length-append (drop offset front) z) in
    ap (take n) (drop-append-le offset (front ++ z) back wide
    ∙ ap (λ (l : List ℕ). l ++ back) (drop-append-le offset front z (omega (arith, within))))
    ∙ take-append-le n (drop offset front ++ z) back long ∙ take-append-le n (drop offset front) z room

-- bytes behind a list
drop-behind : (offset at : ℕ) (before back : List ℕ) → length before ≡ at → at ≤ offset
    → drop offset (before ++ back) ≡ drop (offset - at) back
drop-behind offset at before back long past =
    let split : at + (offset - at) ≡ offset = omega (arith, past) in
    ap (λ (n : ℕ). drop n (before ++ back)) (sym split)
    ∙ sym (drop-drop (offset - at) at (before ++ back))
    ∙ ap (drop (offset - at)) (drop_at before back at long)

-- bytes among the last
pub laid-back : (size offset n : ℕ) (front back : List ℕ) → length front + length back ≤ size
    → size - length back ≤ offset
    → take n (drop offset (laid size front back)) ≡ take n (drop (offset - (size - length back)) back)
unfolding laid
laid-back size offset n front back fits past =
    ap (take n) (drop-behind offset (size - length back) (front ++ zeros (size - (length front + length back))) back
    (length-before size front back fits) past)

take-first : (byte : ℕ) (bytes : List ℕ) → take 1 (byte ∷ bytes) ≡ byte ∷ []
take-first byte bytes = refl

-- a byte between them
pub laid-between : (size offset : ℕ) (front back : List ℕ) → length front + length back ≤ size
    → length front ≤ offset → offset < size - length back
    → take 1 (drop offset (laid size front back)) ≡ 0 ∷ []
unfolding laid zeros
laid-between size offset front back fits past before =
    let left = size - (length front + length back) in
    let z : List ℕ = replicate left 0 in
    let all = front ++ z ++ back in
    let inner : offset < length (front ++ z) = omega (
      arith,
      length-append front z,
      length-replicate {A = ℕ} left 0,
      before,
    ) in
    let here : offset < length all = omega (arith, inner, length-append (front ++ z) back) in
    let place : offset - length front < left = omega (arith, past, before) in
    let zero : get_or all offset 0 ≡ 0 =
    get_or_append_left (front ++ z) back 0 offset inner
    ∙ get_or-append_right front z (length front) offset 0 refl past ∙ get_or-replicate left (offset - length front) 0 0
    place in
    ap (take 1) (drop_more all offset 0 here) ∙ take-first (get_or all offset 0) (drop (offset + 1) all)
    ∙ ap (λ (b : ℕ). b ∷ []) zero

-- one byte
pub byte-alone : (bytes : List ℕ) (byte d : ℕ) → length bytes ≡ 1 → byte ≡ get_or bytes 0 d → bytes ≡ byte ∷ []
byte-alone [] byte d one e = absurd (omega (arith, one))
byte-alone (b ∷ []) byte d one e = ap (λ (x : ℕ). x ∷ []) (sym e)
byte-alone (b ∷ c ∷ rest) byte d one e = absurd (omega (arith, one))

-- ---- a byte at a time

first-then : (n byte : ℕ) (bytes : List ℕ) → take 1 bytes ≡ byte ∷ [] → take (suc n) bytes ≡ byte ∷ take n
    (drop 1 bytes)
first-then n byte [] e = absurd (cc)
first-then n byte (b ∷ bytes) e = let same : b ≡ byte = cc in ap (λ (x : ℕ). x ∷ take n bytes) same

byte-then : (n offset byte : ℕ) (bytes : List ℕ) → take 1 (drop offset bytes) ≡ byte ∷ []
    → take (suc n) (drop offset bytes) ≡ byte ∷ take n (drop (offset + 1) bytes)
byte-then n offset byte bytes e = first-then n byte (drop offset bytes) e
    ∙ ap (λ (l : List ℕ). byte ∷ take n l) (drop-drop 1 offset bytes)

pub two-bytes : (offset a b : ℕ) (bytes : List ℕ) → take 1 (drop offset bytes) ≡ a ∷ []
    → take 1 (drop (offset + 1) bytes) ≡ b ∷ [] → take 2 (drop offset bytes) ≡ a ∷ b ∷ []
two-bytes offset a b bytes first second = byte-then 1 offset a bytes first ∙ ap (λ (l : List ℕ). a ∷ l) second

pub four-bytes : (offset a b c d : ℕ) (bytes : List ℕ) → take 1 (drop offset bytes) ≡ a ∷ []
    → take 1 (drop (offset + 1) bytes) ≡ b ∷ [] → take 1 (drop (offset + 2) bytes) ≡ c ∷ []
    → take 1 (drop (offset + 3) bytes) ≡ d ∷ [] → take 4 (drop offset bytes) ≡ a ∷ b ∷ c ∷ d ∷ []
four-bytes offset a b c d bytes first second third fourth =
    let two = ap (λ (n : ℕ). drop n bytes) {x = offset + 1 + 1} {y = offset + 2} (omega arith) in
    let three = ap (λ (n : ℕ). drop n bytes) {x = offset + 2 + 1} {y = offset + 3} (omega arith) in
    byte-then 3 offset a bytes first ∙ ap (λ (l : List ℕ). a ∷ l) (
    byte-then 2 (offset + 1) b bytes second ∙ ap (λ (l : List ℕ). b ∷ l) (
    ap (take 2) two ∙ byte-then 1 (offset + 2) c bytes third ∙ ap (λ (l : List ℕ). c ∷ l) (ap (take 1) three ∙ fourth)
    )
    )

-- ---- writing

-- over first bytes
pub laid-over_front : (size offset : ℕ) (front back bytes new : List ℕ) → offset + length bytes ≤ length front
    → new ≡ take offset front ++ bytes ++ drop (offset + length bytes) front → length new ≡ length front
    → laid size new back ≡ take offset (laid size front back) ++ bytes
    ++ drop (offset + length bytes) (laid size front back)
unfolding laid
laid-over_front size offset front back bytes new within e long =
    let z = zeros (size - (length front + length back)) in
    let end = offset + length bytes in
    let wide : length front ≤ length (front ++ z) = omega (arith, length-append front z) in
    let head : take offset (front ++ z ++ back) ≡ take offset front =
    take-append-le offset (front ++ z) back (omega (arith, wide, within))
    ∙ take-append-le offset front z (omega (arith, within)) in
    let tail : drop end (front ++ z ++ back) ≡ drop end front ++ z ++ back =
    drop-append-le end (front ++ z) back (omega (arith, wide, within))
    ∙ ap (λ (l : List ℕ). l ++ back) (drop-append-le end front z within) in
    let told : new ++ zeros (size - (length new + length back)) ++ back
    ≡ take offset front ++ bytes ++ drop end front ++ z ++ back =
    ap (λ (n : ℕ). new ++ zeros (size - (n + length back)) ++ back) long
    ∙ ap (λ (l : List ℕ). l ++ z ++ back) e in
    let apart : take offset front ++ bytes ++ drop end front ++ z ++ back
    ≡ take offset front ++ bytes ++ (drop end front ++ z ++ back) =
    ap (λ (l : List ℕ). l ++ back) (append_assoc (take offset front ++ bytes) (drop end front) z)
    ∙ append_assoc (take offset front ++ bytes) (drop end front ++ z) back in
    told ∙ apart
    ∙ ap (λ (l : List ℕ). l ++ bytes ++ (drop end front ++ z ++ back)) (sym head)
    ∙ ap (λ (l : List ℕ). take offset (front ++ z ++ back) ++ bytes ++ l) (sym tail)

take-past : (n : ℕ) (before back : List ℕ) → take (length before + n) (before ++ back) ≡ before ++ take n back
take-past n [] back = ap (λ (k : ℕ). take k back) {x = 0 + n} {y = n} (omega arith)
take-past n (b ∷ before) back =
    ap (λ (k : ℕ). take k (b ∷ (before ++ back))) {x = suc (length before) + n} {y = suc (length before + n)}
    (omega arith)
    ∙ ap (λ (l : List ℕ). b ∷ l) (take-past n before back)

-- over last bytes
pub laid-over_back : (size offset place : ℕ) (front back bytes new : List ℕ) → length front + length back ≤ size
    → place ≡ offset - (size - length back) → size - length back ≤ offset
    → new ≡ take place back ++ bytes ++ drop (place + length bytes) back → length new ≡ length back
    → laid size front new ≡ take offset (laid size front back) ++ bytes
    ++ drop (offset + length bytes) (laid size front back)
unfolding laid
laid-over_back size offset place front back bytes new fits where_it past e long =
    let before = front ++ zeros (size - (length front + length back)) in
    let at = length-before size front back fits in
    let end = offset + length bytes in
    let head : take offset (before ++ back) ≡ before ++ take place back =
    ap (λ (k : ℕ). take k (before ++ back)) {x = offset} {y = length before + place} (omega (arith, at, where_it, past))
    ∙ take-past place before back in
    let tail : drop end (before ++ back) ≡ drop (place + length bytes) back =
    drop-behind end (size - length back) before back at (omega (arith, past))
    ∙ ap (λ (k : ℕ). drop k back) {x = end - (size - length back)} {y = place + length bytes}
    (omega (arith, where_it, past)) in
    let told : front ++ zeros (size - (length front + length new)) ++ new ≡ before ++ new =
    ap (λ (n : ℕ). front ++ zeros (size - (length front + n)) ++ new) long in
    told ∙ ap (λ (l : List ℕ). before ++ l) e
    ∙ sym (append_assoc before (take place back ++ bytes) (drop (place + length bytes) back))
    ∙ ap (λ (l : List ℕ). l ++ drop (place + length bytes) back) (sym (append_assoc before (take place back) bytes))
    ∙ ap (λ (l : List ℕ). l ++ bytes ++ drop (place + length bytes) back) (sym head)
    ∙ ap (λ (l : List ℕ). take offset (before ++ back) ++ bytes ++ l) (sym tail)
