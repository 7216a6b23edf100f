-- A place of the caller is apart from what else is read of the caller and of those that wait for it.
use Rattle.std.proofs.Common.{ℕ, ◌+◌, ◌-◌, ◌≤◌, inl, inr, arith}
use Rattle.ia32_insn.specs.Places.{Place, InWord, InByte, InSlot}
use Rattle.flow_graph.specs.States as graph
use Rattle.flow_graph.specs.States.{flow_at}
use Rattle.ia32_rows.specs.Placements.{Code, placement_of}
use Rattle.ia32_rows.specs.Contains.{ApartFromPlace}
use Rattle.ia32_laws.specs.KeepsLaws.{data_end}
use Rattle.ia32_laws.specs.Supports.{IsPlaceFor, IsSlotApart, size_of}
use Rattle.ia32_laws.proofs.KeepsApart.{IsSomewhere}
use Rattle.ia32_laws.proofs.Zones.{frame_size}

pub place-clear : (code : Code) (h : graph.State) (base v a n : ℕ) (place : Place)
    → IsPlaceFor (flow_at code.program h.current.function) (placement_of code h.current.function) v place
    → 16 ≤ frame_size code h.current → data_end code + 0x1000 + frame_size code h.current ≤ base
    → IsSomewhere code h base a n → ApartFromPlace base place a n
place-clear code h base v a n (InWord r) for four room at = tt
place-clear code h base v a n (InByte r) for four room (inl at) =
    inr (less (data_end code) (frame_size code h.current) base a n room four at)
  where
    less : (d m e a n : ℕ) → d + 0x1000 + m ≤ e → 16 ≤ m → a + n ≤ d → a + n ≤ e - 16
    less d m e a n r f l = omega arith
place-clear code h base v a n (InByte r) for four room (inr (inl at)) =
    inl (less (data_end code) (frame_size code h.current) base a room four at)
  where
    less : (d m e a : ℕ) → d + 0x1000 + m ≤ e → 16 ≤ m → e ≤ a + 4 → e - 16 + 4 ≤ a
    less d m e a h f l = omega arith
place-clear code h base v a n (InByte r) for four room (inr (inr at)) =
    let inside = at.inside in
    inr (less (data_end code) (frame_size code h.current) base at.below (size_of at.array) a n room four inside.low
    inside.high at.high)
  where
    less : (d m e k z a n : ℕ) → d + 0x1000 + m ≤ e → 16 ≤ m → 16 + z ≤ k → k + 4 ≤ m → a + n + k ≤ e + z
        → a + n ≤ e - 16
    less d m e k z a n h f i j l = omega arith
place-clear code h base v a n (InSlot slot) for four room (inl at) =
    let inside = for.inside in
    inr (less (data_end code) (frame_size code h.current) base slot a n room inside.high at)
  where
    less : (d m e k a n : ℕ) → d + 0x1000 + m ≤ e → k ≤ m → a + n ≤ d → a + n ≤ e - k
    less d m e k a n r f l = omega arith
place-clear code h base v a n (InSlot slot) for four room (inr (inl at)) =
    let inside = for.inside in
    inl (less (data_end code) (frame_size code h.current) base slot a room inside.low inside.high at)
  where
    less : (d m e k a : ℕ) → d + 0x1000 + m ≤ e → 20 ≤ k → k ≤ m → e ≤ a + 4 → e - k + 4 ≤ a
    less d m e k a h f i l = omega arith
place-clear code h base v a n (InSlot slot) for four room (inr (inr at)) =
    let inside = for.inside in
    let array = at.inside in
    beside inside.high array.low array.high at.low at.high (for.apart at.number at.below at.array at.declared at.placed)
  where
    before : (d m e k b a : ℕ) → d + 0x1000 + m ≤ e → k ≤ m → b + 8 ≤ k → e ≤ a + b + 4 → e - k + 4 ≤ a
    before d m e k b a h f i l = omega arith

    behind : (d m e k b z a n : ℕ) → d + 0x1000 + m ≤ e → k ≤ m → k + z ≤ b → a + n + b ≤ e + z → a + n ≤ e - k
    behind d m e k b z a n h f i l = omega arith

    beside : slot ≤ frame_size code h.current → 16 + size_of at.array ≤ at.below
        → at.below + 4 ≤ frame_size code h.current → base ≤ a + at.below + 4
        → a + n + at.below ≤ base + size_of at.array → IsSlotApart slot at.array at.below
        → ApartFromPlace base (InSlot slot) a n
    beside within low high from to (inl k) =
        inl (before (data_end code) (frame_size code h.current) base slot at.below a room within k from)
    beside within low high from to (inr k) =
        inr (behind (data_end code) (frame_size code h.current) base slot at.below (size_of at.array) a n room within k
        to)
