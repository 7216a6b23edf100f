-- A call that has just begun: its variables and the elements of its arrays are 0.
use Rattle.std.proofs.Common.{◌≡◌, ◌⊎◌, ℕ, zero, suc, ◌+◌, ◌-◌, ◌<◌, ◌≤◌, ℤ, pos, List, []}
use Rattle.std.proofs.Common.{◌∷◌, Option, Some, None, Ok, inl, inr, refl, sym, ap, subst, ◌∙◌, arith}
use Rattle.std.specs.Prelude.{map, slice_get}
use Rattle.std.proofs.lemmas.Bool.{cases_eq}
use Rattle.std.proofs.lemmas.Option.{none-some, same_Some, slice_get_within}
use Rattle.pcc_base.specs.Outcome.{Value, Number}
use Rattle.pcc_base.specs.declared.run.Width.{Width}
use Rattle.pcc_base.specs.declared.run.Width.TheVariants.{One, Two}
use Rattle.pcc_base.proofs.Lists.{element-at, all-at}
use Rattle.ia32_insn.specs.Places.{Place, InSlot}
use Rattle.ia32_insn.specs.State as machine
use Rattle.ia32_insn.specs.Keeps.{AreDisjoint}
use Rattle.ia32_insn.specs.Meaning.{load}
use Rattle.flow_graph.specs.Graphs.{IsArray}
use Rattle.flow_graph.specs.States as graph
use Rattle.flow_graph.specs.States.{Activation, active_of, first_activation, first_array, flow_at}
use Rattle.flow_graph.specs.WellFormed.{IsState}
use Rattle.flow_graph.proofs.Numbers.{zero-byte, zero-word}
use Rattle.flow_graph.proofs.Values.{graph-of, op-at}
use Rattle.ia32_rows.specs.Placements.{Code, placement_of}
use Rattle.ia32_rows.specs.Shows.{AllStand, ElementsStand, FrameArraysStand, InSlotOf, StandsIn}
use Rattle.ia32_laws.specs.Supports.{AreArraysIn, HoldsWidth, IsPlaceFor}
use Rattle.ia32_laws.specs.Supports.{IsSupported, Supports, site_of, size_of}
use Rattle.ia32_laws.proofs.Zeros.{zeros-stand}
use Rattle.ia32_laws.proofs.Zones.{frame_size}
use Rattle.ia32_laws.specs.Called.{Called}
use Rattle.ia32_laws.proofs.Begun.{Begun}
use Rattle.ia32_laws.proofs.Headers.{HeadersApart}
use Rattle.ia32_laws.proofs.Data.{map-of}

-- ---- lists

-- an element of a list of one value is that
pub mapped : {X Y : Type 0} → (xs : List X) (y z : Y) (v : ℕ) → slice_get (map (λ x. y) xs) v ≡ Some z → y ≡ z
mapped [] y z v e = absurd (none-some z e)
mapped (x ∷ xs) y z zero e = same_Some y z e
mapped (x ∷ xs) y z (suc v) e = mapped xs y z v e

-- ---- variables

-- 0 stands in a slot that is 0
zero-stands : (code : Code) (active : List Activation) (frames : List ℕ) (u : machine.State) (address slot : ℕ)
    (width : Option Width) → HoldsWidth width (InSlot slot) → load 4 address u ≡ Ok 0 → load 1 address u ≡ Ok 0
    → InSlotOf code active frames u address width (Number (pos 0))
zero-stands code active frames u address slot (Some Two) holds four one = (0, four, (zero-word, refl))
zero-stands code active frames u address slot (Some One) holds four one = (0, one, (zero-byte, refl))
zero-stands code active frames u address slot None holds four one = absurd holds

-- a slot is apart from the numbers of elements
slot-apart : (frame size z d slot n : ℕ) → slot ≤ size → d + 4 ≤ size → size ≤ frame → n ≤ 4
    → (d + 8 ≤ slot) ⊎ (slot + z ≤ d) → AreDisjoint (frame - (d + 4)) 4 (frame - slot) n
slot-apart frame size z d slot n high inside room long (inl h) = inr (omega arith)
slot-apart frame size z d slot n high inside room long (inr h) = inl (omega arith)

pub fresh-stand : (code : Code) (input : List ℕ) (g : graph.State) (s u : machine.State) → (h : IsSupported code)
    → IsState code.program g → (c : Called code input g s) → frame_size code g.current ≤ c.frame
    → Begun (site_of code g.current.function) (frame_size code g.current)
    (placement_of code g.current.function).zeroed
    (flow_at code.program g.current.function).arrays (placement_of code g.current.function).arrays g.point c.frame s u
    → AllStand code (active_of g) (c.frame ∷ c.older) u c.frame g.current
    ((placement_of code g.current.function).before g.point)
fresh-stand code input g s u h state c room b v value place e at =
    let f : ℕ = g.current.function in
    let size : ℕ = frame_size code g.current in
    let lt = (state.active.0).function in
    let supports : Supports (flow_at code.program f) (placement_of code f) = h.supports f lt in
    let here : slice_get (first_activation code.program f g.current.arguments).variables v ≡ Some value =
    ap (λ (a : Activation). slice_get a.variables v) (sym c.fresh) ∙ e in
    let is : Number (pos 0) ≡ value = mapped (flow_at code.program f).widths (Number (pos 0)) value v here in
    let z : ℕ = (placement_of code f).zeroed in
    let (slot, same, deep) = supports.begins g.point v place c.begins at in
    let known = op-at code.program f g.point g.block h.program lt state.placed in
    let for : IsPlaceFor (flow_at code.program f) (placement_of code f) v (InSlot slot) =
    subst (IsPlaceFor (flow_at code.program f) (placement_of code f) v) same
    ((supports.points g.point known.op (g.block, state.placed) known.there).before v place at) in
    let inside = for.inside in
    let high = inside.high in
    let apart : (n : ℕ) → n ≤ 4 → HeadersApart c.frame (flow_at code.program f).arrays (placement_of code f).arrays
    (c.frame - slot) n = λ n long k d array p q.
    let there = supports.arrays.inside k d array p q in
    slot-apart c.frame size (size_of array) d slot n high there.high room long (for.apart k d array p q) in
    let zero : (n : ℕ) → n ≤ 4 → 0 < n → load n (c.frame - slot) u ≡ Ok 0 =
    λ n long some. b.zeros n (c.frame - slot) (above c.frame size slot high room)
    (below c.frame size z slot n deep high room long) some (apart n long) in
    subst (λ (p : Place). StandsIn code (active_of g) (c.frame ∷ c.older) u c.frame
    (slice_get (flow_at code.program f).widths v) value p) (sym same)
    (subst (λ (z : Value). InSlotOf code (active_of g) (c.frame ∷ c.older) u (c.frame - slot)
    (slice_get (flow_at code.program f).widths v) z) is
    (zero-stands code (active_of g) (c.frame ∷ c.older) u (c.frame - slot) slot
    (slice_get (flow_at code.program f).widths v) for.holds (zero 4 (omega arith) (omega arith))
    (zero 1 (omega arith) (omega arith))))
  where
    above : (frame size slot : ℕ) → slot ≤ size → size ≤ frame → frame ≤ frame - slot + size
    above frame size slot h k = omega arith

    below : (frame size z slot n : ℕ) → z + 4 ≤ slot → slot ≤ size → size ≤ frame → n ≤ 4
        → frame - slot + n + z ≤ frame
    below frame size z slot n l h k m = omega arith

-- ---- arrays

-- an element of an array is apart from the numbers of elements, its own and others
own-apart : (frame size d b n : ℕ) → d + 4 ≤ size → size ≤ frame → frame - d ≤ b → AreDisjoint (frame - (d + 4)) 4 b n
own-apart frame size d b n h room k = inl (omega arith)

other-apart : (frame size d o y z b n : ℕ) → o + 4 ≤ size → size ≤ frame → frame - d ≤ b
    → b + n + d ≤ frame + z → (d + 4 + y ≤ o) ⊎ (o + 4 + z ≤ d) → AreDisjoint (frame - (o + 4)) 4 b n
other-apart frame size d o y z b n h room low high (inl k) = inl (omega arith)
other-apart frame size d o y z b n h room low high (inr k) = inr (omega arith)

elements-apart : (frame size : ℕ) (arrays : List (ℕ × ℕ)) (belows : List ℕ) (k d b n : ℕ) (array : ℕ × ℕ)
    → AreArraysIn arrays size belows → size ≤ frame → slice_get arrays k ≡ Some array → slice_get belows k ≡ Some d
    → frame - d ≤ b → b + n + d ≤ frame + size_of array → HeadersApart frame arrays belows b n
elements-apart frame size arrays belows k d b n array inside room has placed low high l o other e f =
    elim (cases_eq k l) [
      | inl same ↦ own-apart frame size o b n (inside.inside l o other e f).high room
          (subst (λ (x : ℕ). frame - x ≤ b) (same_Some d o (sym placed ∙ ap (slice_get belows) same ∙ f)) low)
      | inr distinct ↦ other-apart frame size d o (size_of other) (size_of array) b n
          (inside.inside l o other e f).high room low high (inside.apart k l d o array other distinct has placed e f)
    ]

fresh-elements : (frame size zeroed : ℕ) (arrays : List (ℕ × ℕ)) (belows : List ℕ) (k d address : ℕ) (array : ℕ × ℕ)
    (u : machine.State) → AreArraysIn arrays size belows → size ≤ frame → IsArray array
    → slice_get arrays k ≡ Some array → slice_get belows k ≡ Some d → zeroed + size_of array ≤ d
    → address + d ≡ frame → load 4 (frame - (d + 4)) u ≡ Ok array.1
    → ((n b : ℕ) → frame ≤ b + size → b + n + zeroed ≤ frame → 0 < n → HeadersApart frame arrays belows b n
    → load n b u ≡ Ok 0)
    → ElementsStand u address array.0 (first_array array)
fresh-elements frame size zeroed arrays belows k d address array u inside room is has placed deep at count zeros =
    let there = inside.inside k d array has placed in
    let high = there.high in
    zeros-stand u address array is
    (subst (λ (a : ℕ). load 4 a u ≡ Ok array.1) (header-at frame d address at) count)
    (λ n b from to some. zeros n b (above frame size d address b at high from)
    (below frame d address b n (size_of array) at deep to) some
    (elements-apart frame size arrays belows k d b n array inside room has placed (first frame d address b at from)
    (last frame d address b n (size_of array) at to)))
  where
    header-at : (frame d address : ℕ) → address + d ≡ frame → frame - (d + 4) ≡ address - 4
    header-at frame d address h = omega arith

    above : (frame size d address b : ℕ) → address + d ≡ frame → d + 4 ≤ size → address ≤ b → frame ≤ b + size
    above frame size d address b h k l = omega arith

    below : (frame d address b n z : ℕ) → address + d ≡ frame → zeroed + z ≤ d → b + n ≤ address + z
        → b + n + zeroed ≤ frame
    below frame d address b n z h k l = omega arith

    first : (frame d address b : ℕ) → address + d ≡ frame → address ≤ b → frame - d ≤ b
    first frame d address b h k = omega arith

    last : (frame d address b n z : ℕ) → address + d ≡ frame → b + n ≤ address + z → b + n + d ≤ frame + z
    last frame d address b n z h k = omega arith

pub fresh-arrays : (code : Code) (input : List ℕ) (g : graph.State) (s u : machine.State) → (h : IsSupported code)
    → IsState code.program g → (c : Called code input g s) → frame_size code g.current ≤ c.frame
    → Begun (site_of code g.current.function) (frame_size code g.current)
    (placement_of code g.current.function).zeroed
    (flow_at code.program g.current.function).arrays (placement_of code g.current.function).arrays g.point c.frame s u
    → FrameArraysStand code u c.frame g.current
fresh-arrays code input g s u h state c room b k elements e =
    let f : ℕ = g.current.function in
    let size : ℕ = frame_size code g.current in
    let lt = (state.active.0).function in
    let arrays : List (ℕ × ℕ) = (flow_at code.program f).arrays in
    let belows : List ℕ = (placement_of code f).arrays in
    let inside = (h.supports f lt).arrays in
    let here : slice_get (first_activation code.program f g.current.arguments).arrays k ≡ Some elements =
    ap (λ (a : Activation). slice_get a.arrays k) (sym c.fresh) ∙ e in
    let (array, has, same) = map-of first_array arrays k elements here in
    let fits = all-at IsArray arrays k array ((graph-of code.program f h.program lt).keeps.1).arrays_fit has in
    let (d, placed) = element-at belows k (subst (λ (n : ℕ). k < n) (sym inside.as_many)
    (slice_get_within arrays k array has)) in
    let at : c.frame - d + d ≡ c.frame = back c.frame size d (inside.inside k d array has placed).high room in (
      array,
      d,
      c.frame - d,
      has,
      placed,
      at,
      subst (λ (zs : List ℤ). ElementsStand u (c.frame - d) array.0 zs) same
          (fresh-elements c.frame size (placement_of code f).zeroed arrays belows k d (c.frame - d) array u inside room
          fits has placed ((h.supports f lt).cleared k d array has placed) at
          (b.counts k d array has placed) b.zeros),
    )
  where
    back : (frame size d : ℕ) → d + 4 ≤ size → size ≤ frame → frame - d + d ≡ frame
    back frame size d h k = omega arith
