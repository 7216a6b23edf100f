-- Words without a space and without a newline, and what cutting a text at those bytes gives.
use Rattle.std.proofs.Common.{◌≡◌, ◌<◌, ◌≤◌, ℕ, zero, suc, ◌/◌, ◌%◌, ◌^◌, Bool, true, false, ◌&&◌, ◌==◌, not}
use Rattle.std.proofs.Common.{List, [], ◌∷◌, ◌++◌, decimal, refl, ap}
use Rattle.std.proofs.Common.{subst, ◌∙◌, arith, append_assoc, append-nil}
use Rattle.std.proofs.lemmas.Bool.{ne_eqb}
use Rattle.std.proofs.lemmas.Bool.Decides.{nat_tests}
use Rattle.std.proofs.lemmas.List.Elements.{All-from_recursion}
use Rattle.std.proofs.lemmas.List.Splits.{slice_split_at, slice_split_none}
use Rattle.std.specs.List.{AllByRecursion, slice_split}
use Rattle.pcc_base.proofs.Lists.{all-append, all-weaker}
use Rattle.pcc_base.specs.Ascii.{newline, space, digit_zero}
use Rattle.pcc_base.specs.Names.{IsDigit, IsName, IsNameByte}
use Rattle.map_text.specs.Reading.{words_of}
use Rattle.map_text.specs.Words.{each_spaced, hexadecimal, hexadecimal_digit, spaced}
use Rattle.map_text.proofs.Fields.{decimal-digits}
use Rattle.map_text.proofs.LocalNames.{no-name-byte, name-bytes}

-- ---- words

-- the byte isn't in the word
abbrev pub Avoids : ℕ → List ℕ → Type 0
Avoids byte word = AllByRecursion (λ b. (b == byte) ≡ false) word

abbrev pub IsPlain : List ℕ → Type 0
IsPlain word = Avoids space word × Avoids newline word

abbrev pub avoids : ℕ → List ℕ → Bool
avoids byte [] = true
avoids byte (b ∷ bs) = not (b == byte) && avoids byte bs

avoids-tested : (byte : ℕ) (word : List ℕ) → avoids byte word ≡ true → Avoids byte word
avoids-tested byte [] e = tt
avoids-tested byte (b ∷ bs) e = go (b == byte) (avoids byte bs) refl (avoids-tested byte bs) e
  where
    go : (t r : Bool) → (b == byte) ≡ t → (r ≡ true → Avoids byte bs) → (not t && r) ≡ true
        → Avoids byte (b ∷ bs)
    go false r is others e = (is, others e)
    go true r is others e = absurd (cc)

-- a word of letters and digits
pub plain-tested : (word : List ℕ) → avoids space word ≡ true → avoids newline word ≡ true → IsPlain word
plain-tested word e f = (avoids-tested space word e, avoids-tested newline word f)

pub plain-append : (v w : List ℕ) → IsPlain v → IsPlain w → IsPlain (v ++ w)
plain-append v w p q = (
  all-append (λ b. (b == space) ≡ false) v w p.0 q.0,
  all-append (λ b. (b == newline) ≡ false) v w p.1 q.1,
)

-- a byte that is no digit isn't among digits
pub digits-avoid : (byte n : ℕ) → (IsDigit byte → ⊥) → n < 2 ^ 64 → Avoids byte (decimal n)
digits-avoid byte n other small =
    all-weaker IsDigit (λ b. (b == byte) ≡ false) (decimal n)
    (λ b is. ne_eqb b byte (λ e. other (subst IsDigit e is))) (decimal-digits n small)

pub decimal-plain : (n : ℕ) → n < 2 ^ 32 → IsPlain (decimal n)
decimal-plain n small = (
  digits-avoid space n (λ h. omega arith) (omega arith),
  digits-avoid newline n (λ h. omega arith) (omega arith),
)

-- a byte below the digits isn't in a name
pub name-avoids : (byte : ℕ) (name : List ℕ) → byte < digit_zero → IsName name → Avoids byte name
name-avoids byte name low is =
    all-weaker IsNameByte (λ b. (b == byte) ≡ false) name
    (λ b ok. ne_eqb b byte (λ e. no-name-byte byte low (subst IsNameByte e ok))) (name-bytes name is)

pub name-plain : (name : List ℕ) → IsName name → IsPlain name
name-plain name is = (name-avoids space name (omega arith) is, name-avoids newline name (omega arith) is)

digit-high : (d : ℕ) → d < 16 → digit_zero ≤ hexadecimal_digit d
digit-high d small = grind (arith, nat_tests)

hexadecimal-avoids : (byte k n : ℕ) → byte < digit_zero → Avoids byte (hexadecimal k n)
hexadecimal-avoids byte zero n low = tt
hexadecimal-avoids byte (suc k) n low =
    let high = digit-high (n % 16) (omega arith) in
    all-append (λ b. (b == byte) ≡ false) (hexadecimal k (n / 16)) (hexadecimal_digit (n % 16) ∷ [])
    (hexadecimal-avoids byte k (n / 16) low)
    (ne_eqb (hexadecimal_digit (n % 16)) byte (λ e. omega (arith, high, e, low)), tt)

pub hexadecimal-plain : (k n : ℕ) → IsPlain (hexadecimal k n)
hexadecimal-plain k n = (
  hexadecimal-avoids space k n (omega arith),
  hexadecimal-avoids newline k n (omega arith),
)

-- ---- cutting

-- a line's words are given back
pub words-back : (word : List ℕ) (words : List (List ℕ)) → AllByRecursion IsPlain (word ∷ words)
    → words_of (spaced (word ∷ words)) ≡ word ∷ words
words-back word [] plain =
    ap words_of (append-nil word)
    ∙ slice_split_none (λ b. b == space) word (All-from_recursion (λ b. (b == space) ≡ false) word plain.0.0)
words-back word (next ∷ words) plain =
    slice_split_at (λ b. b == space) word space (next ++ each_spaced words)
    (All-from_recursion (λ b. (b == space) ≡ false) word plain.0.0) refl
    ∙ ap (λ (ws : List (List ℕ)). word ∷ ws) (words-back next words plain.1)

each-avoids : (words : List (List ℕ)) → AllByRecursion IsPlain words → Avoids newline (each_spaced words)
each-avoids [] plain = tt
each-avoids (word ∷ words) plain =
    (refl, all-append (λ b. (b == newline) ≡ false) word (each_spaced words) plain.0.1 (each-avoids words plain.1))

-- no newline stands in a line's words
pub spaced-avoids : (words : List (List ℕ)) → AllByRecursion IsPlain words → Avoids newline (spaced words)
spaced-avoids [] plain = tt
spaced-avoids (word ∷ words) plain =
    all-append (λ b. (b == newline) ≡ false) word (each_spaced words) plain.0.1 (each-avoids words plain.1)

-- a line is given back, whatever is behind its newline
pub line-back : (line rest : List ℕ) → Avoids newline line
    → slice_split (λ b. b == newline) ((line ++ newline ∷ []) ++ rest) ≡ line ∷ slice_split (λ b. b == newline) rest
line-back line rest avoids =
    ap (slice_split (λ b. b == newline)) (append_assoc line (newline ∷ []) rest)
    ∙ slice_split_at (λ b. b == newline) line newline rest
    (All-from_recursion (λ b. (b == newline) ≡ false) line avoids) refl
