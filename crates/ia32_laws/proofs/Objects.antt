-- Where static objects stand in the data.
use Rattle.std.proofs.Common.{◌≡◌, ◌≢◌, ◌⊎◌, ℕ, zero, suc, ◌+◌, ◌*◌, ◌<◌, ◌≤◌, List, [], ◌∷◌, length}
use Rattle.std.proofs.Common.{Some}
use Rattle.std.proofs.Common.{inl, inr, refl, ap, ◌∙◌, arith, length-append}
use Rattle.std.specs.Prelude.{flat_map, slice_get}
use Rattle.std.proofs.lemmas.Option.{none-some, same_Some}
use Rattle.pcc_base.specs.Bytes.{zeros}
use Rattle.pcc_base.specs.Objects.{Object}
use Rattle.ia32_insn.specs.Items.{data_bytes, elements_size, object_addresses, object_bytes}
use Rattle.ia32_insn.proofs.Objects.{length-object, elements-within}

-- ---- addresses

-- the bytes of the objects
abbrev all_bytes : List Object → ℕ
all_bytes objects = length (flat_map object_bytes objects)

one-more : (o : Object) (objects : List Object) → all_bytes (o ∷ objects) ≡ 4 + elements_size o + all_bytes objects
one-more o objects = length-append (object_bytes o) (flat_map object_bytes objects)
    ∙ ap (λ (n : ℕ). n + all_bytes objects) (length-object o)

-- an object stands among them
objects-within : (start : ℕ) (objects : List Object) (k address : ℕ) (o : Object) → slice_get objects k ≡ Some o
    → slice_get (object_addresses start objects) k ≡ Some address
    → (start + 4 ≤ address) × (address + elements_size o ≤ start + all_bytes objects)
objects-within start [] k address o e f = absurd (none-some o e)
objects-within start (p ∷ objects) zero address o e f =
    let whole = one-more p objects in
    let same : elements_size p ≡ elements_size o = ap elements_size (same_Some p o e) in
    let at : start + 4 ≡ address = same_Some (start + 4) address f in (
      omega (arith, at),
      counted start address (elements_size p) (elements_size o) (all_bytes objects)
          (all_bytes (p ∷ objects)) whole same at,
    )
  where
    counted : (s a m n r w : ℕ) → w ≡ 4 + m + r → m ≡ n → s + 4 ≡ a → a + n ≤ s + w
    counted s a m n r w e f g = omega arith
objects-within start (p ∷ objects) (suc k) address o e f =
    let rest = objects-within (start + 4 + elements_size p) objects k address o e f in
    counted start address (elements_size p) (elements_size o) (all_bytes objects) (all_bytes (p ∷ objects))
    (one-more p objects) rest.0 rest.1
  where
    counted : (s a m n r w : ℕ) → w ≡ 4 + m + r → s + 4 + m + 4 ≤ a → a + n ≤ s + 4 + m + r
        → (s + 4 ≤ a) × (a + n ≤ s + w)
    counted s a m n r w e f g = (omega arith, omega arith)

-- an object stands behind the one before it
objects-behind : (start : ℕ) (objects : List Object) (k l address other : ℕ) (o p : Object) → k < l
    → slice_get objects k ≡ Some o → slice_get (object_addresses start objects) k ≡ Some address
    → slice_get objects l ≡ Some p → slice_get (object_addresses start objects) l ≡ Some other
    → address + elements_size o + 4 ≤ other
objects-behind start [] k l address other o p lt e f g h = absurd (none-some o e)
objects-behind start (q ∷ objects) k zero address other o p lt e f g h = absurd (omega arith)
objects-behind start (q ∷ objects) zero (suc l) address other o p lt e f g h =
    let behind = objects-within (start + 4 + elements_size q) objects l other p g h in
    counted start address other (elements_size q) (elements_size o) (ap elements_size (same_Some q o e))
    (same_Some (start + 4) address f) behind.0
  where
    counted : (s a b m n : ℕ) → m ≡ n → s + 4 ≡ a → s + 4 + m + 4 ≤ b → a + n + 4 ≤ b
    counted s a b m n e f g = omega arith
objects-behind start (q ∷ objects) (suc k) (suc l) address other o p lt e f g h =
    objects-behind (start + 4 + elements_size q) objects k l address other o p (omega (arith, lt)) e f g h

-- ---- the data

-- The data from an address on: the depth word, and then the objects. Each object's number of elements and its elements
-- are behind the depth word and in the data,
pub object-in : (start : ℕ) (objects : List Object) (k address : ℕ) (o : Object) → slice_get objects k ≡ Some o
    → slice_get (object_addresses (start + 4) objects) k ≡ Some address
    → (start + 8 ≤ address) × (address + o.width * length o.elements ≤ start + length (data_bytes objects))
unfolding zeros
object-in start objects k address o e f =
    let inside = objects-within (start + 4) objects k address o e f in
    counted start address (o.width * length o.elements) (elements_size o) (all_bytes objects)
    (length (data_bytes objects)) (length-append (zeros 4) (flat_map object_bytes objects)) (elements-within o) inside.0
    inside.1
  where
    counted : (s a n m r w : ℕ) → w ≡ 4 + r → n ≤ m → s + 4 + 4 ≤ a → a + m ≤ s + 4 + r → (s + 8 ≤ a) × (a + n ≤ s + w)
    counted s a n m r w e f g h = (omega arith, omega arith)

-- and apart from those of another
pub objects-apart : (start : ℕ) (objects : List Object) (k l address other : ℕ) (o p : Object) → k ≢ l
    → slice_get objects k ≡ Some o → slice_get (object_addresses (start + 4) objects) k ≡ Some address
    → slice_get objects l ≡ Some p → slice_get (object_addresses (start + 4) objects) l ≡ Some other
    → (address + o.width * length o.elements + 4 ≤ other) ⊎ (other + p.width * length p.elements + 4 ≤ address)
objects-apart start objects k l address other o p distinct e f g h =
    ordered (either k l distinct)
  where
    either : (m n : ℕ) → m ≢ n → (m < n) ⊎ (n < m)
    either zero zero d = absurd (d refl)
    either zero (suc n) d = inl (omega arith)
    either (suc m) zero d = inr (omega arith)
    either (suc m) (suc n) d = more (either m n (λ same. d (ap suc same)))
      where
        more : (m < n) ⊎ (n < m) → (suc m < suc n) ⊎ (suc n < suc m)
        more (inl lt) = inl (omega arith)
        more (inr lt) = inr (omega arith)

    counted : (a b n m : ℕ) → n ≤ m → a + m + 4 ≤ b → a + n + 4 ≤ b
    counted a b n m e f = omega arith

    ordered : (k < l) ⊎ (l < k)
        → (address + o.width * length o.elements + 4 ≤ other) ⊎ (other + p.width * length p.elements + 4 ≤ address)
    ordered (inl lt) = inl (counted address other (o.width * length o.elements) (elements_size o) (elements-within o)
        (objects-behind (start + 4) objects k l address other o p lt e f g h))
    ordered (inr lt) = inr (counted other address (p.width * length p.elements) (elements_size p) (elements-within p)
        (objects-behind (start + 4) objects l k other address p o lt g h e f))

-- the depth word is in the data
pub depth-in : (objects : List Object) → 4 ≤ length (data_bytes objects)
unfolding zeros
depth-in objects = let whole = length-append (zeros 4) (flat_map object_bytes objects) in
    counted (all_bytes objects) (length (data_bytes objects)) whole
  where
    counted : (r w : ℕ) → w ≡ 4 + r → 4 ≤ w
    counted r w e = omega arith
