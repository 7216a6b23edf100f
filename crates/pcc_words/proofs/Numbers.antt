-- The number that a text has, as `parse` reads it.
use Rattle.std.proofs.Common.{◌≡◌, ◌<◌, ◌≤◌, ◌^◌, ℕ, Bool, true, false, List, Some, None, refl, arith}
use Rattle.std.specs.Str.Parse.{IsNumeral, digits_value, without_leading_plus}
use Rattle.clap.specs.ValueTests.{is_unsigned_in}
use Rattle.clap.specs.declared.builder.value_parser.ValueParser.TheVariants.{Unsigned}
use Rattle.clap.proofs.ValueTestLemmas.{accepts-Accepts, Accepts-accepts}
use Rattle.pcc_words.specs.App.{u32_max, u64_max}
use Rattle.pcc_words.specs.Asked.{number_of}

-- the text has a number of so many bits
abbrev pub HasNumber : ℕ → List ℕ → Type 0
HasNumber bits text =
    IsNumeral 10 (without_leading_plus text) × (digits_value 10 (without_leading_plus text) < 2 ^ bits)

-- a number of 64 bits, and of 32 bits
pub number_is : (text : List ℕ) → HasNumber 64 text
    → number_of u64_max text ≡ Some (digits_value 10 (without_leading_plus text))
number_is text h =
    rw (Accepts-accepts false (Unsigned 0 u64_max) text (h.0, h.1, omega arith, omega (arith, h.1))) refl

pub word_is : (text : List ℕ) → HasNumber 32 text
    → number_of u32_max text ≡ Some (digits_value 10 (without_leading_plus text))
word_is text h =
    rw (Accepts-accepts false (Unsigned 0 u32_max) text (h.0, omega (arith, h.1), omega arith, omega (arith, h.1)))
    refl

-- none
pub no_number : (text : List ℕ) → (HasNumber 64 text → ⊥) → number_of u64_max text ≡ None
no_number text other = go (is_unsigned_in 0 u64_max text) refl
  where
    go : (b : Bool) → is_unsigned_in 0 u64_max text ≡ b → number_of u64_max text ≡ None
    go true e =
        let h = accepts-Accepts false (Unsigned 0 u64_max) text e in
        absurd (other (h.0, h.1))
    go false e = rw e refl

pub no_word : (text : List ℕ) → (HasNumber 32 text → ⊥) → number_of u32_max text ≡ None
no_word text other = go (is_unsigned_in 0 u32_max text) refl
  where
    go : (b : Bool) → is_unsigned_in 0 u32_max text ≡ b → number_of u32_max text ≡ None
    go true e =
        let h = accepts-Accepts false (Unsigned 0 u32_max) text e in
        absurd (other (h.0, omega (arith, h.3)))
    go false e = rw e refl
