-- Where a store may go: what callers know of it.
use Rattle.std.specs.Prelude.{◌≡◌, ℕ, ◌+◌, ◌<◌, ◌≤◌, true, false, ◌&&◌, List, [], ◌∷◌, length, Some, refl}
use Rattle.std.proofs.Common.{inl, inr, arith}
use Rattle.std.proofs.lemmas.Bool.{cases_Bool, and_parts, and_from, leb-true, le-leb, both_ways}
use Rattle.byteorder.specs.Endian.{little_bytes}
use Rattle.ia32_insn.specs.State.{Area, has_bytes, may_store, with_bytes, stored}

-- an area that has n bytes has the first of them
has_bytes-fewer : (area : Area) (address n k : ℕ) → k ≤ n → has_bytes area address n ≡ true → has_bytes area address k
    ≡ true
has_bytes-fewer area address n k h e =
    let parts = and_parts _ _ e in
    let room = leb-true _ _ parts.1 in
    let less : address + k ≤ area.address + length area.bytes = omega (arith, room) in
    and_from _ _ parts.0 (le-leb (address + k) (area.address + length area.bytes) less)

-- where n bytes may be stored, so may as many or fewer from the same address on
pub stored-within : (n address : ℕ) (bytes : List ℕ) (memory : List Area) → length bytes ≤ n
    → may_store n address memory ≡ true
    → (after : List Area) × (stored address bytes memory ≡ Some after)
stored-within n address bytes [] h e = absurd (cc)
stored-within n address bytes (area ∷ areas) h e =
    elim (cases_Bool (area.writable && has_bytes area address (length bytes))) [
      | inl t ↦ (with_bytes address bytes area ∷ areas, rw t refl)
      | inr f ↦ (let wider : (area.writable && has_bytes area address n) ≡ false = not_wider f in
          let rest : may_store n address areas ≡ true = rw wider at e in
          let after = stored-within n address bytes areas h rest in
          (area ∷ after.0, rw (f, after.1) refl))
    ]
  where
    not_wider : (area.writable && has_bytes area address (length bytes)) ≡ false
        → (area.writable && has_bytes area address n) ≡ false
    not_wider f =
        elim (cases_Bool (area.writable && has_bytes area address n)) [
          | inl t ↦ absurd (both_ways _ f (and_from _ _ (and_parts _ _ t).0
              (has_bytes-fewer area address n (length bytes) h (and_parts _ _ t).1)))
          | inr g ↦ g
        ]

-- where some bytes may be stored, so may one
pub stored-byte : (n address byte : ℕ) (memory : List Area) → 1 ≤ n → may_store n address memory ≡ true
    → (after : List Area) × (stored address (byte ∷ []) memory ≡ Some after)
stored-byte n address byte memory h e = stored-within n address (byte ∷ []) memory h e

-- a byte alone
pub little_bytes-byte : (byte : ℕ) → byte < 256 → little_bytes 1 byte ≡ byte ∷ []
little_bytes-byte byte h = grind arith
