-- What the source language and graphs alike make of numbers, of arrays by their names, and of arrays' elements.
use Rattle.std.specs.Prelude.{ℕ, ◌-◌, ◌/◌, ◌%◌, ◌^◌, ◌==◌, Bool, true, false, ◌&&◌, ℤ, pos, negsuc, List, Option, None}
use Rattle.std.specs.Prelude.{if◌then◌else◌, slice_get, slice_set}
use Rattle.std.specs.Int.{w32, cast_signed, cast_unsigned}
use Rattle.std.specs.Ordering.{int_eq}
use Rattle.pcc_base.specs.Outcome.{ArrayName, Null, Static, InFrame, Unknown}

-- A zero divisor traps, and so does the quotient that doesn't fit.
abbrev pub no_quotient : ℤ → ℤ → Bool
no_quotient a b = if int_eq b (pos 0) then true else int_eq a (negsuc 0x7fffffff) && int_eq b (negsuc 0)

-- a shift count is taken modulo 32: the remainder that is not negative
abbrev pub shift_count : ℤ → ℕ
shift_count (pos n) = n % 32
shift_count (negsuc n) = 31 - n % 32

-- an arithmetic shift to the right rounds down
abbrev pub shifted_right : ℤ → ℕ → ℤ
shifted_right (pos n) k = pos (n / 2 ^ k)
shifted_right (negsuc n) k = negsuc (n / 2 ^ k)

-- ---- numbers without sign: each is held as the signed number with the same bits

-- the number from 0 with the bits of a number of 32 bits
abbrev pub unsigned : ℤ → ℕ
unsigned n = cast_unsigned w32 n

-- the signed number with the bits of a number from 0 that has 32
abbrev pub with_bits : ℕ → ℤ
with_bits n = cast_signed w32 n

-- a shift to the right that fills with zero bits
abbrev pub shifted_unsigned : ℤ → ℕ → ℤ
shifted_unsigned n k = with_bits (unsigned n / 2 ^ k)

-- only a zero divisor traps
abbrev pub no_unsigned_quotient : ℤ → ℤ → Bool
no_unsigned_quotient a b = int_eq b (pos 0)

abbrev pub unsigned_quotient : ℤ → ℤ → ℤ
unsigned_quotient a b = with_bits (unsigned a / unsigned b)

abbrev pub unsigned_remainder : ℤ → ℤ → ℤ
unsigned_remainder a b = with_bits (unsigned a % unsigned b)

-- ---- arrays

abbrev pub same_array : ArrayName → ArrayName → Bool
same_array Null Null = true
same_array (Static k) (Static l) = k == l
same_array (InFrame k depth) (InFrame l other) = k == l && depth == other
same_array Unknown Unknown = true
same_array _ _ = false

-- the element at an index, where there is one
abbrev pub element_at : List ℤ → ℤ → Option ℤ
element_at elements (pos i) = slice_get elements i
element_at elements (negsuc i) = None

abbrev pub with_element : List ℤ → ℤ → ℤ → List ℤ
with_element elements (pos i) value = slice_set elements i value
with_element elements (negsuc i) value = elements
