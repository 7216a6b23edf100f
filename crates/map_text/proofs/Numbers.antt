-- Numbers and addresses are read as they are written.
use Rattle.std.proofs.Common.{◌≡◌, ◌<◌, ◌≤◌, ℕ, zero, suc, ◌+◌, ◌*◌, ◌/◌, ◌%◌, ◌^◌, ℤ, pos, negsuc, neg_ℤ, Bool, true}
use Rattle.std.proofs.Common.{false, cond, ◌&&◌, ◌==◌, nat_lt, if◌then◌else◌, List, [], ◌∷◌, ◌++◌, length, drop}
use Rattle.std.proofs.Common.{decimal, Option, Some, None, refl, sym, ap, subst, ◌∙◌, arith, w32, FitsSigned, slice_index}
use Rattle.std.proofs.lemmas.Bool.{lt-ltb, ne_eqb}
use Rattle.std.proofs.lemmas.Bool.Decides.{nat_tests}
use Rattle.std.proofs.lemmas.Fmt.{decimal_is_IsNumeral}
use Rattle.std.proofs.lemmas.Int.Digits.{digits_value_push}
use Rattle.std.specs.Char.{digit_value}
use Rattle.std.specs.Fmt.{signed_decimal}
use Rattle.std.specs.Str.Parse.{AllDigits, IsNumeral, digits_value, signed_digits_value, starts_with_minus}
use Rattle.std.specs.Str.Parse.{without_leading_plus, without_leading_sign}
use Rattle.ia32_insn.specs.Reading.{◌>>=◌}
use Rattle.map_text.specs.Fields.{are_digits, is_numeral, unsigned_in, number_in, address_in, signed_in, below_in}
use Rattle.map_text.specs.Fields.{fits_word, negative}
use Rattle.map_text.specs.Words.{hexadecimal, hexadecimal_digit, address_text}
use Rattle.map_text.specs.Maps.{IsNumber}
use Rattle.map_text.proofs.Fields.{hexadecimal-length, sixteenth}

-- ---- tests

pub both-true : (x y : Bool) → x ≡ true → y ≡ true → (x && y) ≡ true
both-true true y e f = f
both-true false y e f = e

pub digits-pass : (radix : ℕ) (ds : List ℕ) → AllDigits radix ds → are_digits radix ds ≡ true
digits-pass radix [] all = refl
digits-pass radix (c ∷ cs) all =
    both-true _ _ (lt-ltb (digit_value c) radix all.0) (digits-pass radix cs all.1)

pub numeral-passes : (radix : ℕ) (ds : List ℕ) → IsNumeral radix ds → is_numeral radix ds ≡ true
numeral-passes radix ds is = both-true _ _ (lt-ltb 0 (length ds) is.0) (digits-pass radix ds is.1)

-- a byte that is no digit doesn't begin a numeral
no-sign : (radix sign : ℕ) (ds : List ℕ) → radix ≤ digit_value sign → IsNumeral radix ds
    → (slice_index ds 0 == sign) ≡ false
no-sign radix sign [] low is = absurd (omega (arith, is.0))
no-sign radix sign (c ∷ cs) low is =
    ne_eqb c sign (λ e. let h : digit_value sign < radix = subst (λ x. digit_value x < radix) e is.1.0 in
    omega (arith, h, low))

no-plus : (radix : ℕ) (ds : List ℕ) → radix ≤ 36 → IsNumeral radix ds → without_leading_plus ds ≡ ds
no-plus radix ds low is = ap (λ b. drop (cond b 1 0) ds) (no-sign radix 43 ds low is)

-- ---- numbers without sign

pub unsigned-read : (radix : ℕ) (ds : List ℕ) (n : ℕ) → radix ≤ 36 → IsNumeral radix ds → digits_value radix ds ≡ n
    → IsNumber n → unsigned_in radix ds ≡ Some n
unfolding unsigned_in
unsigned-read radix ds n low is value small =
    ap
    (λ (x : List ℕ). if is_numeral radix x && nat_lt (digits_value radix x) (2 ^ 32) then Some (digits_value radix x) else None)
    (no-plus radix ds low is)
    ∙ ap (λ (b : Bool). if b then Some (digits_value radix ds) else None)
    (both-true _ _ (numeral-passes radix ds is)
    (lt-ltb (digits_value radix ds) (2 ^ 32) (subst (λ k. k < 2 ^ 32) (sym value) small)))
    ∙ ap Some value

pub number-read : (n : ℕ) → IsNumber n → number_in (decimal n) ≡ Some n
number-read n small =
    let k = decimal_is_IsNumeral n (omega arith) in
    unsigned-read 10 (decimal n) n (omega arith) k.0 k.1 small

-- ---- addresses

digits-append : (radix : ℕ) (xs ys : List ℕ) → AllDigits radix xs → AllDigits radix ys → AllDigits radix (xs ++ ys)
digits-append radix [] ys h g = g
digits-append radix (x ∷ xs) ys h g = (h.0, digits-append radix xs ys h.1 g)

-- a hexadecimal digit is read as it is written
digit-read : (d : ℕ) → d < 16 → digit_value (hexadecimal_digit d) ≡ d
digit-read d small = grind (arith, nat_tests)

hexadecimal-digits : (k n : ℕ) → AllDigits 16 (hexadecimal k n)
hexadecimal-digits zero n = tt
hexadecimal-digits (suc k) n =
    let low : n % 16 < 16 = omega arith in
    let d : digit_value (hexadecimal_digit (n % 16)) < 16 =
    subst (λ v. v < 16) (sym (digit-read (n % 16) low)) low in
    digits-append 16 (hexadecimal k (n / 16)) (hexadecimal_digit (n % 16) ∷ []) (hexadecimal-digits k (n / 16)) (d, tt)

hexadecimal-value : (k n : ℕ) → n < 16 ^ k → digits_value 16 (hexadecimal k n) ≡ n
hexadecimal-value zero n small = omega arith
hexadecimal-value (suc k) n small =
    let high : digits_value 16 (hexadecimal k (n / 16)) ≡ n / 16 = hexadecimal-value k (n / 16) (sixteenth k n small) in
    let low : digit_value (hexadecimal_digit (n % 16)) ≡ n % 16 = digit-read (n % 16) (omega arith) in
    digits_value_push 16 (hexadecimal k (n / 16)) (hexadecimal_digit (n % 16))
    ∙ ap (λ v. v * 16 + digit_value (hexadecimal_digit (n % 16))) high
    ∙ ap (λ v. n / 16 * 16 + v) low
    ∙ omega arith

pub address-read : (n : ℕ) → IsNumber n → address_in (address_text n) ≡ Some n
address-read n small =
    let long : 0 < length (hexadecimal 8 n) = omega (arith, hexadecimal-length 8 n) in
    unsigned-read 16 (hexadecimal 8 n) n (omega arith) (long, hexadecimal-digits 8 n)
    (hexadecimal-value 8 n (omega arith)) small

-- ---- signed numbers

signed-by : (test : Bool) (v z : ℤ) → test ≡ true → v ≡ z → fits_word z ≡ true
    → (if test && fits_word v then Some v else None) ≡ Some z
signed-by test v z pass is fits =
    ap (λ (w : ℤ). if test && fits_word w then Some w else None) is
    ∙ ap (λ (b : Bool). if b then Some z else None) (both-true test (fits_word z) pass fits)

pub signed-read : (z : ℤ) → FitsSigned w32 z → signed_in (signed_decimal z) ≡ Some z
unfolding signed_in
signed-read (pos n) fits =
    let k = decimal_is_IsNumeral n (omega (arith, fits.sfits)) in
    let ds = decimal n in
    let minus : starts_with_minus ds ≡ false = no-sign 10 45 ds (omega arith) k.0 in
    let bare : without_leading_sign ds ≡ ds =
    ap (λ (b : Bool). cond b (drop 1 ds) (without_leading_plus ds)) minus ∙ no-plus 10 ds (omega arith) k.0 in
    let value : signed_digits_value 10 ds ≡ pos n =
    ap
    (λ (b : Bool).
    cond b (neg_ℤ (pos (digits_value 10 (without_leading_sign ds)))) (pos (digits_value 10 (without_leading_sign ds))))
    minus
    ∙ ap (λ (x : List ℕ). pos (digits_value 10 x)) bare ∙ ap pos k.1 in
    ap
    (λ (x : List ℕ).
    if is_numeral 10 x && fits_word (signed_digits_value 10 ds) then Some (signed_digits_value 10 ds) else None)
    bare
    ∙ signed-by (is_numeral 10 ds) (signed_digits_value 10 ds) (pos n) (numeral-passes 10 ds k.0) value
    (lt-ltb n (2 ^ 31) fits.sfits)
signed-read (negsuc n) fits =
    let k = decimal_is_IsNumeral (suc n) (omega (arith, fits.sfits)) in
    let ds = decimal (suc n) in
    signed-by (is_numeral 10 ds) (neg_ℤ (pos (digits_value 10 ds))) (negsuc n) (numeral-passes 10 ds k.0)
    (ap (λ (m : ℕ). neg_ℤ (pos m)) k.1) (lt-ltb n (2 ^ 31) fits.sfits)

-- what is below 0 by so much
pub below-read : (n : ℕ) → 1 ≤ n → n ≤ 2 ^ 31 → below_in (45 ∷ decimal n) ≡ Some n
below-read zero some small = absurd (omega arith)
below-read (suc k) some small =
    let low : k < 2 ^ 31 = omega arith in
    ap (λ (o : Option ℤ). o >>= negative) (signed-read (negsuc k) (record { sfits = low }))
