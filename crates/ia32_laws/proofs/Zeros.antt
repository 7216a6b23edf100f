-- The elements of an array whose words are 0 stand.
use Rattle.std.proofs.Common.{◌≡◌, ◌⊎◌, ℕ, zero, suc, ◌+◌, ◌-◌, ◌*◌, ◌/◌, ◌%◌, ◌^◌, ◌<◌, ◌≤◌, ℤ, pos}
use Rattle.std.proofs.Common.{Some, Ok, inl, inr, refl, sym, ap, subst, ◌∙◌, arith, replicate}
use Rattle.std.specs.Prelude.{slice_get}
use Rattle.std.specs.Int.{w32, cast_unsigned}
use Rattle.std.proofs.Math.ListN.{length-replicate}
use Rattle.std.proofs.Math.Nat.{mul-suc}
use Rattle.std.proofs.lemmas.Nat.{mul-le}
use Rattle.std.proofs.lemmas.Option.{none-some, same_Some, slice_get_within}
use Rattle.ia32_insn.specs.State as machine
use Rattle.ia32_insn.specs.Meaning.{load}
use Rattle.flow_graph.specs.Graphs.{IsArray}
use Rattle.flow_graph.specs.States.{first_array}
use Rattle.ia32_rows.specs.Shows.{ElementsStand}
use Rattle.ia32_laws.specs.Supports.{size_of}

-- an element of a list of one value is that
repeated : {X : Type 0} → (n : ℕ) (x y : X) (i : ℕ) → slice_get (replicate n x) i ≡ Some y → x ≡ y
repeated zero x y i e = absurd (none-some y e)
repeated (suc n) x y zero e = same_Some x y e
repeated (suc n) x y (suc i) e = repeated n x y i e

-- 0 in so many bytes
zero-part : (w : ℕ) → (w ≡ 1) ⊎ (w ≡ 2) ⊎ (w ≡ 4) → (0 < w) × (0 ≡ cast_unsigned w32 (pos 0) % 2 ^ (8 * w))
zero-part w (inl e) = subst (λ (k : ℕ). (0 < k) × (0 ≡ cast_unsigned w32 (pos 0) % 2 ^ (8 * k))) (sym e)
    (omega arith, refl)
zero-part w (inr (inl e)) = subst (λ (k : ℕ). (0 < k) × (0 ≡ cast_unsigned w32 (pos 0) % 2 ^ (8 * k))) (sym e)
    (omega arith, refl)
zero-part w (inr (inr e)) = subst (λ (k : ℕ). (0 < k) × (0 ≡ cast_unsigned w32 (pos 0) % 2 ^ (8 * k))) (sym e)
    (omega arith, refl)

-- an element ends within its array's words
element-ends-within : (w i count : ℕ) → i < count → w * i + w ≤ (w * count + 3) / 4 * 4
element-ends-within w i count lt =
    words (w * i + w) (w * count) (omega (arith, mul-suc w i, mul-le w (suc i) w count (omega arith) lt))
  where
    words : (m n : ℕ) → m ≤ n → m ≤ (n + 3) / 4 * 4
    words m n h = omega arith

pub zeros-stand : (s : machine.State) (address : ℕ) (array : ℕ × ℕ) → IsArray array
    → load 4 (address - 4) s ≡ Ok array.1
    → ((n b : ℕ) → address ≤ b → b + n ≤ address + size_of array → 0 < n → load n b s ≡ Ok 0)
    → ElementsStand s address array.0 (first_array array)
zeros-stand s address array is count zeros =
    let part = zero-part array.0 is.0 in (
      count ∙ ap (λ (n : ℕ). Ok n) (sym (length-replicate array.1 (pos 0))),
      λ i z e.
          let lt : i < array.1 = subst (λ (n : ℕ). i < n) (length-replicate array.1 (pos 0))
          (slice_get_within (first_array array) i z e) in (
            0,
            zeros array.0 (address + array.0 * i) (from address (array.0 * i))
                (to address (array.0 * i) array.0 (size_of array) (element-ends-within array.0 i array.1 lt)) part.0,
            subst (λ (x : ℤ). 0 ≡ cast_unsigned w32 x % 2 ^ (8 * array.0)) (repeated array.1 (pos 0) z i e) part.1,
          ),
    )
  where
    from : (a m : ℕ) → a ≤ a + m
    from a m = omega arith

    to : (a m w z : ℕ) → m + w ≤ z → a + m + w ≤ a + z
    to a m w z h = omega arith
