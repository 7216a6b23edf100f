-- Where the bytes of a static object, and of one of its elements, stand among those of all.
use Rattle.std.proofs.Common.{◌≡◌, ℕ, zero, suc, ◌+◌, ◌*◌, ℤ, List, [], ◌∷◌, ◌++◌, length, Some, refl, sym}
use Rattle.std.proofs.Common.{ap, ◌∙◌, arith, length-append, append_assoc}
use Rattle.std.specs.Prelude.{flat_map, slice_get}
use Rattle.std.specs.Int.{w32, cast_unsigned}
use Rattle.std.proofs.Math.Nat.{mul-suc}
use Rattle.std.proofs.lemmas.Option.{none-some, same_Some}
use Rattle.byteorder.specs.Endian.{little_bytes}
use Rattle.byteorder.specs.Numbers.{length-bytes_low_first}
use Rattle.pcc_base.specs.Objects.{Object}
use Rattle.ia32_insn.specs.Items.{elements_size, object_addresses, object_bytes}
use Rattle.ia32_insn.proofs.Objects.{length-object}

-- ---- elements

-- the bytes of one element, and of some
abbrev pub one_element : ℕ → ℤ → List ℕ
one_element width z = little_bytes width (cast_unsigned w32 z)

abbrev pub all_elements : ℕ → List ℤ → List ℕ
all_elements width zs = flat_map (λ (z : ℤ). little_bytes width (cast_unsigned w32 z)) zs

one-more : (w n : ℕ) → w + w * n ≡ w * suc n
one-more w n = omega (arith, mul-suc w n)

-- The bytes of an element stand behind those of the ones before it.
pub record ElementIn (width : ℕ) (zs : List ℤ) (i : ℕ) (z : ℤ) : Type 0 where
  pub front : List ℕ
  pub back : List ℕ
  pub whole : all_elements width zs ≡ front ++ (one_element width z ++ back)
  pub long : length front ≡ width * i

pub element-in : (width : ℕ) (zs : List ℤ) (i : ℕ) (z : ℤ) → slice_get zs i ≡ Some z → ElementIn width zs i z
element-in width [] i z e = absurd (none-some z e)
element-in width (y ∷ zs) zero z e =
    record {
      front = [];
      back = all_elements width zs;
      whole = ap (λ (x : ℤ). one_element width x ++ all_elements width zs) (same_Some y z e);
      long = none-before width;
    }
  where
    none-before : (w : ℕ) → 0 ≡ w * 0
    none-before w = omega arith
element-in width (y ∷ zs) (suc i) z e =
    let rest = element-in width zs i z e in
    record {
      front = one_element width y ++ rest.front;
      back = rest.back;
      whole = ap (λ (l : List ℕ). one_element width y ++ l) rest.whole
          ∙ sym (append_assoc (one_element width y) rest.front (one_element width z ++ rest.back));
      long = length-append (one_element width y) rest.front
          ∙ ap (λ (n : ℕ). n + length rest.front) (length-bytes_low_first 0 width (cast_unsigned w32 y))
          ∙ ap (λ (n : ℕ). width + n) rest.long ∙ one-more width i;
    }

-- ---- objects

abbrev pub all_objects : List Object → List ℕ
all_objects objects = flat_map object_bytes objects

-- The bytes of an object stand behind those of the ones before it, and so does its address, behind its number of
-- elements.
pub record ObjectIn (start : ℕ) (objects : List Object) (k : ℕ) (o : Object) : Type 0 where
  pub address : ℕ
  pub named : slice_get (object_addresses start objects) k ≡ Some address
  pub front : List ℕ
  pub back : List ℕ
  pub whole : all_objects objects ≡ front ++ (object_bytes o ++ back)
  pub place : start + length front + 4 ≡ address

pub object-in : (start : ℕ) (objects : List Object) (k : ℕ) (o : Object) → slice_get objects k ≡ Some o
    → ObjectIn start objects k o
object-in start [] k o e = absurd (none-some o e)
object-in start (p ∷ objects) zero o e =
    record {
      address = start + 4;
      named = refl;
      front = [];
      back = all_objects objects;
      whole = ap (λ (x : Object). object_bytes x ++ all_objects objects) (same_Some p o e);
      place = none-before start;
    }
  where
    none-before : (n : ℕ) → n + 0 + 4 ≡ n + 4
    none-before n = omega arith
object-in start (p ∷ objects) (suc k) o e =
    let rest = object-in (start + 4 + elements_size p) objects k o e in
    record {
      address = rest.address;
      named = rest.named;
      front = object_bytes p ++ rest.front;
      back = rest.back;
      whole = ap (λ (l : List ℕ). object_bytes p ++ l) rest.whole
          ∙ sym (append_assoc (object_bytes p) rest.front (object_bytes o ++ rest.back));
      place = counted start (length (object_bytes p)) (elements_size p) (length rest.front)
          (length (object_bytes p ++ rest.front)) rest.address
          (length-append (object_bytes p) rest.front) (length-object p) rest.place;
    }
  where
    counted : (s m n f l a : ℕ) → l ≡ m + f → m ≡ 4 + n → s + 4 + n + f + 4 ≡ a → s + l + 4 ≡ a
    counted s m n f l a e g h = omega arith
