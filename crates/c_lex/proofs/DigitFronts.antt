-- The digits at the front of a list, and the number that they spell.
use Rattle.std.proofs.Common.{◌≡◌, ◌≤◌, ◌<◌, inl, inr, ℕ, ◌+◌, ◌*◌, Bool, true, false, cond, List, [], ◌∷◌, ◌++◌}
use Rattle.std.proofs.Common.{length, drop, get_or, refl, sym, ◌∙◌, ap, arith}
use Rattle.std.proofs.Math.Nat.{mul-le-mul_left}
use Rattle.std.proofs.lemmas.List.{drop_more}
use Rattle.std.proofs.lemmas.Bool.{cases_lt}
use Rattle.c_lex.specs.Bytes.{number_after, number_in, digit_worth}
use Rattle.c_lex.specs.declared.radix.Radix.{Radix}
use Rattle.c_lex.specs.declared.radix.Radix.TheVariants.{Octal, Decimal, Hexadecimal}
use Rattle.c_lex.specs.Radixes.{base_of}
use Rattle.c_lex.specs.Literals.{AllPass, StartsNot}
use Rattle.c_lex.specs.Characters.{front_of, HasFront}

-- a base is no less than one
pub base_above : (radix : Radix) → 0 < base_of radix
base_above Octal = omega arith
base_above Decimal = omega arith
base_above Hexadecimal = omega arith

-- a digit behind a number, by what the base and the digit are
pub digit_read : (number base of worth digit next : ℕ) → base ≡ of → worth ≡ digit
    → (number ≤ 255 → next ≡ number * base + worth) → number ≤ 255 → next ≡ number * of + digit
digit_read number base of worth digit next e f is small =
    is small ∙ ap (λ (b : ℕ). number * b + worth) e ∙ ap (λ (d : ℕ). number * of + d) f

-- a number grows by the digits behind it
pub number_grows : (base n : ℕ) (ds : List ℕ) → 0 < base → n ≤ number_after base n ds
number_grows base n [] h = omega arith
number_grows base n (d ∷ ds) h =
    let grows : n ≤ n * base + digit_worth d = omega (arith, mul-le-mul_left n h) in
    let rest : n * base + digit_worth d ≤ number_after base (n * base + digit_worth d) ds =
    number_grows base (n * base + digit_worth d) ds h in
    omega arith

-- i of the digits are read, which spell this number or both are above 255, and the others are ahead
pub record FrontState (base : ℕ) (full : List ℕ) (number i : ℕ) (ahead : List ℕ) : Type 0 where
  pub count : length full ≡ i + length ahead
  pub small : number ≤ 255 → number_in base full ≡ number_after base number ahead
  pub large : 255 < number → 255 < number_in base full

-- before the first digit
pub front_start : (base : ℕ) (full : List ℕ) → FrontState base full 0 0 full
front_start base full = record { count = omega arith; small = λ _. refl; large = λ h. absurd (omega arith) }

-- one digit more
pub front_next : (base : ℕ) (full : List ℕ) (number i b : ℕ) (ahead : List ℕ) (next : ℕ) → 0 < base
    → FrontState base full number i (b ∷ ahead) → (number ≤ 255 → next ≡ number * base + digit_worth b)
    → (255 < number → next ≡ number) → FrontState base full next (i + 1) ahead
front_next base full number i b ahead next h s p q =
    elim (cases_lt 255 number) [
      | inl above ↦
          let same : next ≡ number = q above in
          let large : 255 < number_in base full = s.large above in
          record { count = omega (arith, s.count); small = λ below. absurd (omega arith); large = λ _. large }
      | inr below ↦
          let is : next ≡ number * base + digit_worth b = p below in
          let spells : number_in base full ≡ number_after base (number * base + digit_worth b) ahead = s.small below in
          let spells_next : number_in base full ≡ number_after base next ahead =
          spells ∙ ap (λ n. number_after base n ahead) (sym is) in
          let grows : next ≤ number_after base next ahead = number_grows base next ahead h in
          record { count = omega (arith, s.count); small = λ _. spells_next; large = λ above. omega arith }
    ]

-- no digit is ahead
pub front_end : (base : ℕ) (full : List ℕ) (number i : ℕ) → FrontState base full number i []
    → HasFront base full number i
front_end base full number i s = (s.small, s.large, omega (arith, s.count))

-- the front where the next byte passes
pub front_pass : (test : ℕ → Bool) (bytes : List ℕ) (i : ℕ) → i < length bytes → test (get_or bytes i 0) ≡ true
    → front_of test (drop i bytes) ≡ get_or bytes i 0 ∷ front_of test (drop (i + 1) bytes)
front_pass test bytes i h e = ap (front_of test) (drop_more bytes i 0 h) ∙ rw e refl

-- the front where the next byte fails
pub front_fail : (test : ℕ → Bool) (bytes : List ℕ) (i : ℕ) → i < length bytes → test (get_or bytes i 0) ≡ false
    → front_of test (drop i bytes) ≡ []
front_fail test bytes i h e = ap (front_of test) (drop_more bytes i 0 h) ∙ rw e refl

-- a list is its front that passes, and a rest that doesn't begin so
pub record FrontSplit (test : ℕ → Bool) (xs front : List ℕ) : Type 0 where
  pub rest : List ℕ
  pub is : xs ≡ front ++ rest
  pub stops : StartsNot test rest
  pub passes : AllPass test front

-- one byte more in front of such a list
front_split_cons : (test : ℕ → Bool) (x : ℕ) (xs : List ℕ) (v : Bool) → test x ≡ v
    → FrontSplit test xs (front_of test xs) → FrontSplit test (x ∷ xs) (cond v (x ∷ front_of test xs) [])
front_split_cons test x xs true e s =
    record { rest = s.rest; is = ap (λ r. x ∷ r) s.is; stops = s.stops; passes = (e, s.passes) }
front_split_cons test x xs false e s = record { rest = x ∷ xs; is = refl; stops = e; passes = tt }

-- each list is its front and such a rest
pub front_split : (test : ℕ → Bool) (xs : List ℕ) → FrontSplit test xs (front_of test xs)
front_split test [] = record { rest = []; is = refl; stops = tt; passes = tt }
front_split test (x ∷ xs) = front_split_cons test x xs (test x) refl (front_split test xs)

-- digits before a rest that doesn't begin so are the front
pub front_is : (test : ℕ → Bool) (ds rest : List ℕ) → AllPass test ds → StartsNot test rest → front_of test (ds ++ rest)
    ≡ ds
front_is test [] [] p s = refl
front_is test [] (b ∷ bs) p s = rw s refl
front_is test (d ∷ ds) rest p s = rw p.0 (ap (λ r. d ∷ r) (front_is test ds rest p.1 s))
