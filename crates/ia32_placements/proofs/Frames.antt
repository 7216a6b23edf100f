-- The frame of a legal map: its slots are apart from each other and from the frame arrays, which are apart too.
use Rattle.std.proofs.Common.{◌≡◌, ◌≢◌, ◌⊎◌, ◌<◌, ◌≤◌, ◌+◌, ◌-◌, ◌*◌, ◌%◌, ℕ, zero, suc, ℤ, pos, List, [], ◌∷◌}
use Rattle.std.proofs.Common.{length, map, take, Some, inl, inr, refl, sym, ap, subst, arith, ◌∙◌}
use Rattle.std.specs.Prelude.{neg_ℤ, slice_get}
use Rattle.std.specs.List.{range_with_len}
use Rattle.std.proofs.Math.Nat.{mul_comm}
use Rattle.std.proofs.lemmas.List.FromFn.{length-map-range_with_len}
use Rattle.std.proofs.lemmas.Option.{none-some, same_Some}
use Rattle.flow_graph.specs.Graphs.{Flow}
use Rattle.flow_graph.specs.Sizes.{array_bytes}
use Rattle.ia32_insn.specs.Places.{Place, InSlot}
use Rattle.puzzle_board.specs.Places.{PlaceMap}
use Rattle.allocator.specs.PointMaps.{FrameUse, array_below, bytes_of_arrays, slot_count, slot_of}
use Rattle.ia32_rows.specs.Rows.{AreApart}
use Rattle.ia32_rows.specs.Sites.{IsInFrame}
use Rattle.ia32_laws.specs.Supports.{AreArraysIn, IsSlotApart, size_of}
use Rattle.ia32_placements.specs.Placed.{arrays_in}
use Rattle.ia32_placements.specs.Standings.{slot_at}

-- ---- bytes of arrays

-- an array's elements and its header are within its bytes
size-fits : (array : ℕ × ℕ) → 4 + size_of array ≤ array_bytes array
size-fits array = omega (arith, mul_comm array.0 array.1)

-- the bytes of arrays are words
bytes-words : (arrays : List (ℕ × ℕ)) → bytes_of_arrays arrays % 4 ≡ 0
bytes-words [] = refl
bytes-words (array ∷ arrays) =
    counted (array_bytes array) (bytes_of_arrays arrays) (let e : array_bytes array % 4 ≡ 0 = omega arith in e)
    (bytes-words arrays)
  where
    counted : (a b : ℕ) → a % 4 ≡ 0 → b % 4 ≡ 0 → (a + b) % 4 ≡ 0
    counted a b e f = omega (arith, e, f)

-- those before an array, and its own, are within those of all
bytes-before : (arrays : List (ℕ × ℕ)) (k : ℕ) (array : ℕ × ℕ) → slice_get arrays k ≡ Some array
    → bytes_of_arrays (take k arrays) + array_bytes array ≤ bytes_of_arrays arrays
bytes-before [] k array e = absurd (none-some array e)
bytes-before (a ∷ arrays) zero array e =
    let same : array_bytes a ≡ array_bytes array = ap array_bytes (same_Some a array e) in omega (arith, same)
bytes-before (a ∷ arrays) (suc k) array e = omega (arith, bytes-before arrays k array e)

-- and within those before a later one
bytes-between : (arrays : List (ℕ × ℕ)) (k l : ℕ) (array : ℕ × ℕ) → k < l → slice_get arrays k ≡ Some array
    → bytes_of_arrays (take k arrays) + array_bytes array ≤ bytes_of_arrays (take l arrays)
bytes-between [] k l array less e = absurd (none-some array e)
bytes-between (a ∷ arrays) k zero array less e = absurd (omega (arith, less))
bytes-between (a ∷ arrays) zero (suc l) array less e =
    let same : array_bytes a ≡ array_bytes array = ap array_bytes (same_Some a array e) in omega (arith, same)
bytes-between (a ∷ arrays) (suc k) (suc l) array less e =
    omega (arith, bytes-between arrays k l array (omega (arith, less)) e)

-- ---- arrays

-- where number k stands
below-at : (f : ℕ → ℕ) (a n k below : ℕ) → slice_get (map f (range_with_len a n)) k ≡ Some below → f (a + k) ≡ below
below-at f a zero k below e = absurd (none-some below e)
below-at f a (suc n) zero below e =
    ap f (let same : a + 0 ≡ a = omega arith in same) ∙ same_Some (f a) below e
below-at f a (suc n) (suc k) below e =
    ap f (let same : a + suc k ≡ a + 1 + k = omega arith in same) ∙ below-at f (a + 1) n k below e

ordered : (k l : ℕ) → k ≢ l → (k < l) ⊎ (l < k)
ordered k l other = grind arith

module _ (flow : Flow) (places : PlaceMap) (use-of : FrameUse flow places) where
  -- the bytes of the frame that are no array's
  abbrev pub floor : ℕ
  floor = 16 + 4 * slot_count places

  below-is : (k below : ℕ) → slice_get (arrays_in flow places) k ≡ Some below → array_below flow places k ≡ below
  below-is k below e =
      ap (array_below flow places) (let same : k ≡ 0 + k = omega arith in same)
      ∙ below-at (array_below flow places) 0 (length flow.arrays) k below e

  -- an array's elements end below the slots, and its header is in the frame
  pub array-below : (k below : ℕ) (array : ℕ × ℕ) → slice_get flow.arrays k ≡ Some array
      → slice_get (arrays_in flow places) k ≡ Some below
      → (floor + size_of array ≤ below) × (below + 4 ≤ places.frame)
      × (below + 4 + bytes_of_arrays (take k flow.arrays) ≡ places.frame)
  array-below k below array e f =
      counted (bytes_of_arrays (take k flow.arrays)) (array_bytes array) (bytes_of_arrays flow.arrays) places.frame
      floor (size_of array) below (size-fits array) (bytes-before flow.arrays k array e) use-of.frame
      (below-is k below f)
    where
      counted : (front own all frame low size below : ℕ) → 4 + size ≤ own → front + own ≤ all → frame ≡ low + all
          → frame - front - 4 ≡ below
          → (low + size ≤ below) × (below + 4 ≤ frame) × (below + 4 + front ≡ frame)
      counted front own all frame low size below a b c d =
          (omega (arith, a, b, c, d), omega (arith, a, b, c, d), omega (arith, a, b, c, d))

  -- an earlier array is lower, with all its elements
  lower : (k l below other : ℕ) (one two : ℕ × ℕ) → k < l → slice_get flow.arrays k ≡ Some one
      → slice_get (arrays_in flow places) k ≡ Some below → slice_get flow.arrays l ≡ Some two
      → slice_get (arrays_in flow places) l ≡ Some other → other + 4 + size_of one ≤ below
  lower k l below other one two less e f g h =
      counted (bytes_of_arrays (take k flow.arrays)) (bytes_of_arrays (take l flow.arrays)) (array_bytes one)
      (size_of one) below other places.frame (size-fits one) (bytes-between flow.arrays k l one less e)
      (array-below k below one e f).2 (array-below l other two g h).2
    where
      counted : (front further own size below other frame : ℕ) → 4 + size ≤ own → front + own ≤ further
          → below + 4 + front ≡ frame → other + 4 + further ≡ frame → other + 4 + size ≤ below
      counted front further own size below other frame a b c d = omega (arith, a, b, c, d)

  pub are-arrays-in : AreArraysIn flow.arrays places.frame (arrays_in flow places)
  are-arrays-in = record {
    as_many = length-map-range_with_len (array_below flow places) 0 (length flow.arrays);
    inside = λ k below array e f.
        let h = array-below k below array e f in record { low = omega (arith, h.0); high = h.1 };
    apart = λ k l below other one two distinct e f g h.
        elim (ordered k l distinct) [
          | inl less ↦ inr (lower k l below other one two less e f g h)
          | inr more ↦ inl (lower l k other below two one more g h e f)
        ];
  }

  -- ---- slots

  -- a slot is so far below EBP
  pub slot-place : (v : ℕ) (offset : ℤ) → slot_of places v ≡ Some offset
      → (slot : ℕ) × (slot_at offset ≡ Some (InSlot slot)) × IsInFrame places.frame slot × (slot ≤ floor)
  slot-place v offset e =
      let (k, less, is) = use-of.within v offset e in (
        20 + 4 * k,
        ap slot_at is ∙ below-ebp (19 + 4 * k) (20 + 4 * k) (omega arith),
        record { low = omega arith; high = omega (arith, less, use-of.frame) },
        omega (arith, less),
      )
    where
      below-ebp : (n m : ℕ) → suc n ≡ m → slot_at (neg_ℤ (pos m)) ≡ Some (InSlot m)
      below-ebp n m e = subst (λ (x : ℕ). slot_at (neg_ℤ (pos x)) ≡ Some (InSlot x)) e refl

  -- the slots of two variables have no byte in common
  pub slots-apart : (v w : ℕ) (offset other : ℤ) (p q : Place) → v ≢ w → slot_of places v ≡ Some offset
      → slot_of places w ≡ Some other → slot_at offset ≡ Some p → slot_at other ≡ Some q
      → (m n : ℕ) × (InSlot m ≡ p) × (InSlot n ≡ q) × AreApart m n
  slots-apart v w offset other p q distinct e f g h =
      let (k, less, is) = use-of.within v offset e in
      let (l, more, also) = use-of.within w other f in (
        20 + 4 * k,
        20 + 4 * l,
        same_Some (InSlot (20 + 4 * k)) p (sym (ap slot_at is ∙ below-ebp (19 + 4 * k) (20 + 4 * k) (omega arith)) ∙ g),
        same_Some (InSlot (20 + 4 * l)) q
            (sym (ap slot_at also ∙ below-ebp (19 + 4 * l) (20 + 4 * l) (omega arith)) ∙ h),
        numbers-apart k l (λ same. distinct (use-of.apart v w offset e (f ∙ ap Some (also ∙ (
            sym (ap (λ (n : ℕ). neg_ℤ (pos (20 + 4 * n))) same) ∙ sym is))))),
      )
    where
      below-ebp : (n m : ℕ) → suc n ≡ m → slot_at (neg_ℤ (pos m)) ≡ Some (InSlot m)
      below-ebp n m e = subst (λ (x : ℕ). slot_at (neg_ℤ (pos x)) ≡ Some (InSlot x)) e refl

      numbers-apart : (k l : ℕ) → k ≢ l → AreApart (20 + 4 * k) (20 + 4 * l)
      numbers-apart k l other =
          elim (ordered k l other) [ inl less ↦ inl (omega (arith, less)) | inr more ↦ inr (omega (arith, more)) ]

  -- nor has a slot one of an array
  pub slot-clear : (slot k below : ℕ) (array : ℕ × ℕ) → slot ≤ floor → slice_get flow.arrays k ≡ Some array
      → slice_get (arrays_in flow places) k ≡ Some below → IsSlotApart slot array below
  slot-clear slot k below array low e f = inr (omega (arith, low, (array-below k below array e f).0))

  -- ---- the frame

  pub frame-words : places.frame % 4 ≡ 0
  frame-words =
      counted places.frame (slot_count places) (bytes_of_arrays flow.arrays) use-of.frame (bytes-words flow.arrays)
    where
      counted : (frame slots bytes : ℕ) → frame ≡ 16 + 4 * slots + bytes → bytes % 4 ≡ 0 → frame % 4 ≡ 0
      counted frame slots bytes e f = omega (arith, e, f)

  pub four-words : 16 ≤ places.frame
  four-words = omega (arith, use-of.frame)
