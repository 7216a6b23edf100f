use Rattle.std.proofs.Common.{◌≡◌, ℕ, ◌<◌, Some, Result, Ok, Err, ℤ, pos, negsuc, unsigned_abs, int_div, int_rem}
use Rattle.std.proofs.Common.{FitsSigned, to_z, of_z, w32, w64, true, refl, sym, ap, ◌∙◌, subst, arith, rules}
use Rattle.std.specs.Prelude.{OkIff, is_ok}
use Rattle.std.specs.Result.{result_ok}
use Rattle.std.proofs.lemmas.Bool.Decides.{nat_tests}
use Rattle.std.proofs.lemmas.Int.{ints, to_z-of_z, rem_below, fits_signed_from_abs}
use Rattle.ia32_insn.specs.Arithmetic.{signed_divided, signed_quotient}
use Rattle.ia32_machine.proofs.division.divide_signed.Goals as goal

-- a quotient that fits is given
signed_quotient-fits : (a d : ℤ) → FitsSigned w32 (int_div a d) → signed_quotient a d
    ≡ Some (of_z w32 (int_div a d), of_z w32 (int_rem a d))
signed_quotient-fits a d fits = grind (arith, ints)

-- where the divisor isn't 0
signed_divided-divisor : (n m : ℕ) → (m ≡ 0 → ⊥) → signed_divided n m ≡ signed_quotient (to_z w64 n) (to_z w32 m)
signed_divided-divisor n m other = grind (arith, nat_tests)

-- a number whose bits aren't 0 isn't 0
positive : (z : ℤ) → 0 < of_z w64 z → 0 < unsigned_abs z
positive (pos n) h = omega arith
positive (negsuc n) h = omega arith

-- a remainder fits, where the divisor does
rem-fits : (a d : ℤ) → 0 < unsigned_abs d → FitsSigned w32 d → FitsSigned w32 (int_rem a d)
rem-fits a d h fits = fits_signed_from_abs w32 _ (omega (arith, ints, rem_below a d h, fits))

-- what a conversion that succeeded gave
taken : {X : Type 0} (r : Result ℤ X) (P : Type 0) (v q : ℤ) → Some q ≡ result_ok r → true ≡ is_ok r → OkIff r P v → P
    × (q ≡ v)
taken (Ok x) P v q e is told = (told.0, cc)
taken (Err x) P v q e is told = absurd (cc)

-- the same number, read again from its bits
again32 : (z : ℤ) → FitsSigned w32 z → to_z w32 (of_z w32 z) ≡ z
again32 z fits = to_z-of_z w32 z fits

again64 : (z : ℤ) → FitsSigned w64 z → to_z w64 (of_z w64 z) ≡ z
again64 z fits = to_z-of_z w64 z fits

-- what 32 bits hold, 64 bits hold
wider : (z : ℤ) → FitsSigned w32 z → FitsSigned w64 z
wider z fits = search (rules, ints)

-- the two results, where the quotient fits
given : (n m : ℕ) (a b : ℤ) → (m ≡ 0 → ⊥) → a ≡ to_z w64 n → b ≡ to_z w32 m → FitsSigned w32 (int_div a b)
    → Some (of_z w32 (int_div a b), of_z w32 (int_rem a b)) ≡ signed_divided n m
given n m a b other ha hb fits =
    let e = signed_quotient-fits a b fits in
    let all = signed_divided-divisor n m other in
    let same : signed_quotient (to_z w64 n) (to_z w32 m) ≡ signed_quotient a b = rw (← ha, ← hb) refl in
    sym (all ∙ same ∙ e)

pub returns : goal.returns
returns c =
    let dividend = c.cast_signed-dividend.result in
    let divisor = c.cast_signed.result in
    let wide = c.from-divisor.result in
    let quotient = c.in_ok-checked_div.field-0 in
    let remainder = int_rem dividend divisor in
    let a : to_z w64 (of_z w64 dividend) ≡ dividend = again64 dividend (search rules) in
    let small : FitsSigned w32 divisor = search rules in
    let same : wide ≡ divisor = c.from-divisor.ensures ∙ again32 divisor small in
    let d : to_z w64 (of_z w64 wide) ≡ divisor = again64 wide (search rules) ∙ same in
    let found =
    taken c.try_from.result _ _ c.in_ok-quotient.quotient c.in_ok-quotient.ensures.value
    c.in_ok-quotient.ensures.variant c.try_from.ensures in
    let parts : int_div (to_z w64 (of_z w64 dividend)) (to_z w64 (of_z w64 wide)) ≡ int_div dividend divisor =
    rw (a, d) refl in
    let is : to_z w64 (of_z w64 quotient) ≡ int_div dividend divisor =
    again64 quotient (search rules) ∙ c.in_ok-checked_div.ensures.1 ∙ parts in
    let fits : FitsSigned w32 (int_div dividend divisor) = subst (λ (z : ℤ). FitsSigned w32 z) is found.0 in
    let nonzero : 0 < unsigned_abs divisor =
    positive divisor (subst (λ (z : ℤ). 0 < of_z w64 z) d c.in_ok-checked_div.ensures.0.0) in
    let below : FitsSigned w32 remainder = rem-fits dividend divisor nonzero small in
    let first : c.cast_unsigned.result ≡ of_z w32 (int_div dividend divisor) =
    c.cast_unsigned.ensures ∙ ap (λ (z : ℤ). of_z w32 (to_z w32 (of_z w32 z))) (found.1 ∙ is) ∙ ap
    (λ (z : ℤ). of_z w32 z) (again32 _ fits) in
    let second : c.cast_unsigned-2.result ≡ of_z w32 remainder =
    c.cast_unsigned-2.ensures ∙ rw (a, d, again64 remainder (wider remainder below), again32 remainder below) refl in
    let all =
    given c.args.dividend c.args.divisor dividend divisor c.if-divisor-eq0.false c.cast_signed-dividend.ensures
    c.cast_signed.ensures fits in
    rw (first, second) all
