-- What std reads as a number is what the definition reads.
use Rattle.std.proofs.Common.{◌≡◌, ◌<◌, ◌≤◌, ℕ, zero, suc, ℤ, pos, negsuc, Bool, true, false, cond, ◌&&◌, ◌==◌}
use Rattle.std.proofs.Common.{nat_lt, if◌then◌else◌, List, [], ◌∷◌, length, drop, Some, None, w32}
use Rattle.std.proofs.Common.{FitsSigned, slice_index, ◌^◌, eqb-true, refl, sym, ap, ◌∙◌, arith}
use Rattle.std.proofs.lemmas.Bool.{and_from, and_parts, lt-ltb, ltb-true}
use Rattle.std.proofs.lemmas.Bool.Decides.{nat_tests}
use Rattle.std.proofs.lemmas.Str.{IsUtf8-from_ascii}
use Rattle.std.specs.Char.{digit_value}
use Rattle.std.specs.Str.{IsAscii, IsUtf8}
use Rattle.std.specs.Str.Parse.{AllDigits, IsNumeral, digits_value, signed_digits_value}
use Rattle.std.specs.Str.Parse.{without_leading_plus, without_leading_sign}
use Rattle.map_text.specs.Fields.{are_digits, fits_word, is_numeral, signed_in, unsigned_in}
use Rattle.map_text.proofs.Numbers.{digits-pass, numeral-passes}

-- ---- tests

digits-tested : (radix : ℕ) (ds : List ℕ) → are_digits radix ds ≡ true → AllDigits radix ds
digits-tested radix [] e = tt
digits-tested radix (c ∷ cs) e =
    let parts = and_parts _ _ e in (ltb-true (digit_value c) radix parts.0, digits-tested radix cs parts.1)

numeral-tested : (radix : ℕ) (ds : List ℕ) → is_numeral radix ds ≡ true → IsNumeral radix ds
numeral-tested radix ds e =
    let parts = and_parts _ _ e in (ltb-true 0 (length ds) parts.0, digits-tested radix ds parts.1)

-- ---- texts

-- a digit is an ASCII character
digit-ascii : (c radix : ℕ) → radix ≤ 36 → digit_value c < radix → c < 128
digit-ascii c radix low is = grind (arith, nat_tests)

digits-ascii : (radix : ℕ) (ds : List ℕ) → radix ≤ 36 → AllDigits radix ds → (i : ℕ) → slice_index ds i < 128
digits-ascii radix [] low all zero = omega arith
digits-ascii radix [] low all (suc i) = omega arith
digits-ascii radix (c ∷ cs) low all zero = digit-ascii c radix low all.0
digits-ascii radix (c ∷ cs) low all (suc i) = digits-ascii radix cs low all.1 i

-- a text whose bytes behind the first are ASCII, where the first is too
ascii-behind : (b : ℕ) (bs : List ℕ) → b < 128 → IsAscii bs → (i : ℕ) → slice_index (b ∷ bs) i < 128
ascii-behind b bs low all zero = low
ascii-behind b bs low all (suc i) = all i

plus-ascii : (radix : ℕ) (word : List ℕ) → radix ≤ 36 → IsNumeral radix (without_leading_plus word) → IsAscii word
plus-ascii radix [] low is = absurd (omega (arith, is.0))
plus-ascii radix (b ∷ bs) low is = go (b == 43) refl is
  where
    go : (t : Bool) → (b == 43) ≡ t → IsNumeral radix (drop (cond t 1 0) (b ∷ bs)) → IsAscii (b ∷ bs)
    go true e numeral =
        let same = eqb-true b 43 e in ascii-behind b bs (omega (arith, same)) (digits-ascii radix bs low numeral.1)
    go false e numeral = digits-ascii radix (b ∷ bs) low numeral.1

sign-ascii : (word : List ℕ) → IsNumeral 10 (without_leading_sign word) → IsAscii word
sign-ascii [] is = absurd (omega (arith, is.0))
sign-ascii (b ∷ bs) is = go (b == 45) refl is
  where
    go : (t : Bool) → (b == 45) ≡ t
        → IsNumeral 10 (cond t (drop 1 (b ∷ bs)) (without_leading_plus (b ∷ bs))) → IsAscii (b ∷ bs)
    go true e numeral =
        let same = eqb-true b 45 e in
        ascii-behind b bs (omega (arith, same)) (digits-ascii 10 bs (omega arith) numeral.1)
    go false e numeral = plus-ascii 10 (b ∷ bs) (omega arith) numeral

-- ---- numbers without sign

pub unsigned_ok : (radix : ℕ) (word : List ℕ) (n : ℕ)
    → IsNumeral radix (without_leading_plus word) × (digits_value radix (without_leading_plus word) < 2 ^ 32)
    → n ≡ digits_value radix (without_leading_plus word) → Some n ≡ unsigned_in radix word
unfolding unsigned_in
unsigned_ok radix word n is value =
    let ds = without_leading_plus word in
    ap Some value
    ∙ ap (λ (b : Bool). if b then Some (digits_value radix ds) else None)
    (sym (and_from _ _ (numeral-passes radix ds is.0) (lt-ltb (digits_value radix ds) (2 ^ 32) is.1)))

unsigned-by : (radix : ℕ) (ds : List ℕ) (test : Bool) → (is_numeral radix ds && nat_lt (digits_value radix ds) (2 ^ 32)) ≡ test
    → ((IsNumeral radix ds × (digits_value radix ds < 2 ^ 32)) → ⊥)
    → None ≡ (if test then Some (digits_value radix ds) else None)
unsigned-by radix ds true e isnt =
    let parts = and_parts _ _ e in
    absurd (isnt (numeral-tested radix ds parts.0, ltb-true (digits_value radix ds) (2 ^ 32) parts.1))
unsigned-by radix ds false e isnt = refl

pub unsigned_none : (radix : ℕ) (word : List ℕ)
    → ((IsNumeral radix (without_leading_plus word) × (digits_value radix (without_leading_plus word) < 2 ^ 32)) → ⊥)
    → None ≡ unsigned_in radix word
unfolding unsigned_in
unsigned_none radix word isnt = unsigned-by radix (without_leading_plus word) _ refl isnt

pub unsigned_text : (radix : ℕ) (word : List ℕ) → radix ≤ 36 → (IsUtf8 word → ⊥) → None ≡ unsigned_in radix word
unsigned_text radix word low isnt =
    unsigned_none radix word (λ h. isnt (IsUtf8-from_ascii word (plus-ascii radix word low h.0)))

-- ---- signed numbers

fits-passes : (z : ℤ) → FitsSigned w32 z → fits_word z ≡ true
fits-passes (pos n) fits = lt-ltb n (2 ^ 31) fits.sfits
fits-passes (negsuc n) fits = lt-ltb n (2 ^ 31) fits.sfits

fits-tested : (z : ℤ) → fits_word z ≡ true → FitsSigned w32 z
fits-tested (pos n) e = record { sfits = ltb-true n (2 ^ 31) e }
fits-tested (negsuc n) e = record { sfits = ltb-true n (2 ^ 31) e }

pub signed_ok : (word : List ℕ) (z : ℤ)
    → IsNumeral 10 (without_leading_sign word) × FitsSigned w32 (signed_digits_value 10 word)
    → z ≡ signed_digits_value 10 word → Some z ≡ signed_in word
unfolding signed_in
signed_ok word z is value =
    let ds = without_leading_sign word in
    ap Some value
    ∙ ap (λ (b : Bool). if b then Some (signed_digits_value 10 word) else None)
    (sym (and_from _ _ (numeral-passes 10 ds is.0) (fits-passes (signed_digits_value 10 word) is.1)))

signed-by : (ds : List ℕ) (z : ℤ) (test : Bool) → (is_numeral 10 ds && fits_word z) ≡ test
    → ((IsNumeral 10 ds × FitsSigned w32 z) → ⊥) → None ≡ (if test then Some z else None)
signed-by ds z true e isnt =
    let parts = and_parts _ _ e in absurd (isnt (numeral-tested 10 ds parts.0, fits-tested z parts.1))
signed-by ds z false e isnt = refl

pub signed_none : (word : List ℕ)
    → ((IsNumeral 10 (without_leading_sign word) × FitsSigned w32 (signed_digits_value 10 word)) → ⊥)
    → None ≡ signed_in word
unfolding signed_in
signed_none word isnt = signed-by (without_leading_sign word) (signed_digits_value 10 word) _ refl isnt

pub signed_text : (word : List ℕ) → (IsUtf8 word → ⊥) → None ≡ signed_in word
signed_text word isnt = signed_none word (λ h. isnt (IsUtf8-from_ascii word (sign-ascii word h.0)))
