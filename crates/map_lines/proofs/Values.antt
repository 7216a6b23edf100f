-- What a map reads in the place of a variable is what the variable holds.
use Rattle.std.proofs.Common.{◌≡◌, ℕ, zero, suc, ◌+◌, ◌-◌, ◌<◌, ◌≤◌, ◌%◌, ◌^◌, ℤ, pos, negsuc, List, Option, Some, None}
use Rattle.std.proofs.Common.{refl}
use Rattle.std.proofs.Common.{sym, ap, subst, ◌∙◌, arith, inl, inr}
use Rattle.std.specs.Prelude.{FitsSigned}
use Rattle.std.specs.Int.{w8, w32, cast_signed, cast_unsigned}
use Rattle.std.proofs.Math.Facts.{to_z-of_z, Fits-of_z}
use Rattle.std.proofs.lemmas.Bool.{cases_lt, lt-ltb, le-ltb}
use Rattle.std.proofs.lemmas.Option.{none-some, same_Some}
use Rattle.byteorder.specs.Endian.{twos_complement}
use Rattle.pcc_base.specs.declared.run.Width.{Width}
use Rattle.pcc_base.specs.declared.run.Width.TheVariants.{One, Two}
use Rattle.pcc_base.specs.Outcome.{ArrayName, Null, IsKnown, Value, Number, Array}
use Rattle.ia32_insn.specs.Registers.{register}
use Rattle.ia32_insn.specs.declared.register_names.Reg32.TheVariants.{Ebp}
use Rattle.ia32_insn.specs.Places.{Place, InWord, InByte, InSlot}
use Rattle.ia32_asm.proofs.Words.{twos_complement-word}
use Rattle.ia32_insn.specs.State as machine
use Rattle.ia32_insn.specs.Meaning.{byte_of, word_of}
use Rattle.flow_graph.specs.Running.{array_or_unknown, number_or_unknown, part_value}
use Rattle.flow_graph.specs.States as graph
use Rattle.flow_graph.specs.States.{Activation, active_of, array_from, number_of, value_at}
use Rattle.ia32_rows.specs.Placements.{Code}
use Rattle.ia32_rows.specs.Shows.{IsArrayAt, IsByte, IsWord, StandsIn}
use Rattle.ia32_rows.specs.Contains.{IsPlaceIn}
use Rattle.ia32_laws.specs.Supports.{HoldsWidth}
use Rattle.map_text.specs.Maps.{Map}
use Rattle.map_text.specs.Marks.{Frame, array_named, array_value, number_at, number_in, signed_value, slot_address}
use Rattle.map_text.specs.Marks.{value_named}
use Rattle.map_lines.proofs.Memory.{AreReadable, load-number}
use Rattle.map_lines.proofs.VisitsVariables.{HasRoleWidth, OfArray, OfIndex, OfNumber, Role, role_name, role_part}

-- ---- numbers

twos_complement-byte : (b : ℕ) → b < 2 ^ 8 → twos_complement 1 b ≡ cast_signed w8 b
twos_complement-byte b h =
    elim (cases_lt b (2 ^ 7)) [
      | inl p ↦ rw (lt-ltb b (2 ^ 7) p) refl
      | inr q ↦ rw (le-ltb b (2 ^ 7) q, lt-ltb b (2 ^ 8) h) refl
    ]

byte-number : (n : ℤ) (b : ℕ) → FitsSigned w8 n → b ≡ cast_unsigned w8 n → twos_complement 1 b ≡ n
byte-number n b fits is =
    let small : b < 2 ^ 8 = omega (arith, is, Fits-of_z fits) in
    twos_complement-byte b small ∙ ap (cast_signed w8) is ∙ to_z-of_z fits

word-number : (n : ℤ) (w : ℕ) → FitsSigned w32 n → w ≡ cast_unsigned w32 n → twos_complement 4 w ≡ n
word-number n w fits is =
    let small : w < 2 ^ 32 = omega (arith, is, Fits-of_z fits) in
    twos_complement-word w small ∙ ap (cast_signed w32) is ∙ to_z-of_z fits

-- ---- places

-- a variable of the current call stands in a place
pub record IsReadAt (code : Code) (g : graph.State) (frames : List ℕ) (s : machine.State) (frame v : ℕ) (width : Width)
    (place : Place) : Type 0 where
  pub readable : AreReadable s.memory
  pub small : word_of Ebp s < 2 ^ 32
  pub room : frame ≤ word_of Ebp s
  pub inside : IsPlaceIn frame place
  pub holds : HoldsWidth (Some width) place
  pub stands : (value : Value) → value_at g v ≡ Some value
      → StandsIn code (active_of g) frames s (word_of Ebp s) (Some width) value place

-- the address of a slot in the frame doesn't wrap
slot-at : (s : machine.State) (frame slot : ℕ) → 20 ≤ slot → slot ≤ frame → frame ≤ word_of Ebp s
    → word_of Ebp s < 2 ^ 32 → slot_address s slot ≡ word_of Ebp s - slot
slot-at s frame slot low high room small = unwrapped (register Ebp s.registers) frame slot low high room small
  where
    unwrapped : (e f k : ℕ) → 20 ≤ k → k ≤ f → f ≤ e → e < 2 ^ 32 → (e + 2 ^ 32 - k) % 2 ^ 32 ≡ e - k
    unwrapped e f k a b c d = omega arith

-- the word that is read of it
word-in : (code : Code) (g : graph.State) (frames : List ℕ) (s : machine.State) (frame v : ℕ) (place : Place)
    (value : Value) → IsReadAt code g frames s frame v Two place → value_at g v ≡ Some value
    → (word : ℕ) × (number_in Two place s ≡ Some word) × IsWord code (active_of g) frames value word
word-in code g frames s frame v (InWord r) value h e = (word_of r s, refl, h.stands value e)
word-in code g frames s frame v (InByte r) value h e = absurd h.holds
word-in code g frames s frame v (InSlot k) value h e =
    let stands = h.stands value e in
    let address = slot-at s frame k h.inside.low h.inside.high h.room h.small in (
      stands.0,
      ap (λ (a : ℕ). number_at 4 a s.memory) address
          ∙ load-number 4 (word_of Ebp s - k) stands.0 s h.readable stands.1,
      stands.2,
    )

-- or the byte
byte-in : (code : Code) (g : graph.State) (frames : List ℕ) (s : machine.State) (frame v : ℕ) (place : Place)
    (value : Value) → IsReadAt code g frames s frame v One place → value_at g v ≡ Some value
    → (byte : ℕ) × (number_in One place s ≡ Some byte) × IsByte value byte
byte-in code g frames s frame v (InWord r) value h e = absurd h.holds
byte-in code g frames s frame v (InByte r) value h e = (byte_of r s, refl, h.stands value e)
byte-in code g frames s frame v (InSlot k) value h e =
    let stands = h.stands value e in
    let address = slot-at s frame k h.inside.low h.inside.high h.room h.small in (
      stands.0,
      ap (λ (a : ℕ). number_at 1 a s.memory) address
          ∙ load-number 1 (word_of Ebp s - k) stands.0 s h.readable stands.1,
      stands.2,
    )

-- ---- values

-- a known number is one that the variable holds,
known-number : (o : Option Value) → IsKnown (number_or_unknown (number_of o)) → (n : ℤ) × (o ≡ Some (Number n))
known-number None known = absurd known
known-number (Some (Number n)) known = (n, refl)
known-number (Some (Array a)) known = absurd known

-- and a known array too, where none is the number 0
known-array : (o : Option Value) → IsKnown (Array (array_or_unknown (array_from o)))
    → (value : Value) × (array : ArrayName) × (o ≡ Some value) × (array_from (Some value) ≡ Some array)
known-array None known = absurd known
known-array (Some (Number (pos zero))) known = (Number (pos 0), Null, refl, refl)
known-array (Some (Number (pos (suc n)))) known = absurd known
known-array (Some (Number (negsuc n))) known = absurd known
known-array (Some (Array a)) known = (Array a, a, refl, refl)

-- its word is the array's address
array-word : (code : Code) (active : List Activation) (frames : List ℕ) (value : Value) (array : ArrayName) (word : ℕ)
    → array_from (Some value) ≡ Some array → IsWord code active frames value word
    → IsArrayAt code active frames array word
array-word code active frames (Number (pos zero)) array word is at =
    subst (λ (a : ArrayName). IsArrayAt code active frames a word) (same_Some Null array is) at.1
array-word code active frames (Number (pos (suc n))) array word is at = absurd (none-some array is)
array-word code active frames (Number (negsuc n)) array word is at = absurd (none-some array is)
array-word code active frames (Array a) array word is at =
    subst (λ (b : ArrayName). IsArrayAt code active frames b word) (same_Some a array is) at

-- a known number is read
number-shown : (code : Code) (g : graph.State) (frames : List ℕ) (s : machine.State) (frame v : ℕ) (width : Width)
    (place : Place) → IsReadAt code g frames s frame v width place
    → IsKnown (number_or_unknown (number_of (value_at g v)))
    → signed_value width (number_in width place s) ≡ number_or_unknown (number_of (value_at g v))
number-shown code g frames s frame v One place h known =
    let n = known-number (value_at g v) known in
    let b = byte-in code g frames s frame v place (Number n.0) h n.1 in
    ap (signed_value One) b.1 ∙ ap Number (byte-number n.0 b.0 b.2.0 b.2.1)
    ∙ sym (ap (λ (o : Option Value). number_or_unknown (number_of o)) n.1)
number-shown code g frames s frame v Two place h known =
    let n = known-number (value_at g v) known in
    let w = word-in code g frames s frame v place (Number n.0) h n.1 in
    ap (signed_value Two) w.1 ∙ ap Number (word-number n.0 w.0 w.2.0 w.2.1)
    ∙ sym (ap (λ (o : Option Value). number_or_unknown (number_of o)) n.1)

-- and a known array, where it is found by its address
array-shown : (m : Map) (found : List Frame) (code : Code) (g : graph.State) (frames : List ℕ) (s : machine.State)
    (frame v : ℕ) (width : Width) (place : Place) → width ≡ Two → IsReadAt code g frames s frame v width place
    → ((array : ArrayName) (word : ℕ) → IsArrayAt code (active_of g) frames array word
    → array_named m found word ≡ array)
    → IsKnown (Array (array_or_unknown (array_from (value_at g v))))
    → array_value m found (number_in width place s) ≡ Array (array_or_unknown (array_from (value_at g v)))
array-shown m found code g frames s frame v width place wide h arrays known =
    let a = known-array (value_at g v) known in
    let w = word-in code g frames s frame v place a.0
    (subst (λ (x : Width). IsReadAt code g frames s frame v x place) wide h) a.2 in
    ap (λ (x : Width). array_value m found (number_in x place s)) wide
    ∙ ap (array_value m found) w.1
    ∙ ap Array (arrays a.1 w.0 (array-word code (active_of g) frames a.0 a.1 w.0 a.3 w.2))
    ∙ sym (ap (λ (o : Option ArrayName). Array (array_or_unknown o)) a.3)
    ∙ sym (ap (λ (o : Option Value). Array (array_or_unknown (array_from o))) a.2)

-- so is each part of a local
pub role-shown : (role : Role) (name : List ℕ) (m : Map) (found : List Frame) (code : Code) (g : graph.State)
    (frames : List ℕ) (s : machine.State) (frame v : ℕ) (width : Width) (place : Place) → HasRoleWidth role width
    → IsReadAt code g frames s frame v width place
    → ((array : ArrayName) (word : ℕ) → IsArrayAt code (active_of g) frames array word
    → array_named m found word ≡ array)
    → IsKnown (part_value g (role_part role v))
    → value_named m found s place width (role_name role name) ≡ Some (part_value g (role_part role v))
role-shown OfNumber name m found code g frames s frame v width place wide h arrays known =
    ap Some (number-shown code g frames s frame v width place h known)
role-shown OfIndex name m found code g frames s frame v width place wide h arrays known =
    ap Some (number-shown code g frames s frame v width place h known)
role-shown OfArray name m found code g frames s frame v width place wide h arrays known =
    ap Some (array-shown m found code g frames s frame v width place wide h arrays known)
