-- The machine follows the op that clears a frame array.
use Rattle.std.proofs.Common.{◌≡◌, ◌⊎◌, ℕ, ◌+◌, ◌-◌, ◌*◌, ◌/◌, ◌%◌, ◌<◌, ◌≤◌, ℤ, pos, List, length, Option, Some, Ok}
use Rattle.std.proofs.Common.{false, inl, inr, refl, sym, ap, subst, ◌∙◌, arith, replicate}
use Rattle.std.specs.Prelude.{slice_get, slice_index_or}
use Rattle.std.proofs.lemmas.Nat.{mul-le}
use Rattle.std.proofs.lemmas.Option.{get_or_from_slice_get, same_Some}
use Rattle.pcc_base.specs.Outcome.{InFrame}
use Rattle.pcc_base.proofs.Lists.{element-at, all-at}
use Rattle.ia32_insn.specs.declared.register_names.Reg32.TheVariants.{Eax, Ecx, Edx, Ebx, Esp, Ebp}
use Rattle.ia32_insn.specs.Places.{Place, InWord, InByte, InSlot}
use Rattle.ia32_insn.specs.State as machine
use Rattle.ia32_insn.specs.Meaning.{load, word_of}
use Rattle.flow_graph.specs.declared.op.Op.{Op}
use Rattle.flow_graph.specs.declared.op.Op.TheVariants as op
use Rattle.flow_graph.specs.Graphs.{Flow, IsArray}
use Rattle.flow_graph.specs.Meaning.{act, given, onward}
use Rattle.flow_graph.specs.States as graph
use Rattle.flow_graph.specs.States.{depth_of, flow_at, op_at, with_array}
use Rattle.flow_graph.specs.WellFormed.{AreElementsOf, IsState}
use Rattle.flow_graph.proofs.Lists.{zip-second}
use Rattle.flow_graph.proofs.Values.{graph-of}
use Rattle.ia32_rows.specs.Follows.{Follows, is_nop}
use Rattle.ia32_laws.proofs.Landing.{FollowsKept, followed}
use Rattle.ia32_rows.specs.Placements.{Code, placement_of}
use Rattle.ia32_rows.specs.Shows.{ElementsStand, Shows}
use Rattle.ia32_rows.specs.Sites.{Framed, Site}
use Rattle.ia32_rows.proofs.Sets.{unlike}
use Rattle.ia32_rows.specs.Clearing.{clear_row}
use Rattle.ia32_rows.specs.Rows.{loop_label}
use Rattle.ia32_rows.specs.Contains.{IsPlaceIn}
use Rattle.ia32_rows.proofs.Moves.{general-below}
use Rattle.ia32_laws.specs.KeepsLaws.{IsSameRegister, KeepsOutside}
use Rattle.ia32_laws.specs.KeepsOps.{RowAt}
use Rattle.ia32_laws.specs.Supports.{IsArrayIn, IsSupported, site_of, size_of}
use Rattle.ia32_laws.proofs.Ops.{op-is}
use Rattle.ia32_laws.proofs.Owned.{own-array-shows}
use Rattle.ia32_laws.proofs.Shown.{point-supported}
use Rattle.ia32_laws.proofs.Zeros.{zeros-stand}
use Rattle.ia32_laws.proofs.Zones.{shown-in-frame}
use Rattle.ia32_laws.proofs.Elements.{array-follows}
use Rattle.ia32_laws.specs.ClearsLaws.{Cleared}
use Rattle.ia32_laws.specs.ClearsOps.{ClearFollows}
use Rattle.ia32_laws.proofs.Cells.{byte-same}
use Rattle.ia32_laws.proofs.Clearing.{clear-goes}

-- an array's words are one at least
some-words : (w c : ℕ) → (w ≡ 1) ⊎ (w ≡ 2) ⊎ (w ≡ 4) → 1 ≤ c → 0 < (w * c + 3) / 4 * 4
some-words w c is some = words (w * c) (omega (arith, mul-le 1 c w c (wide is) (omega arith), some))
  where
    wide : (w ≡ 1) ⊎ (w ≡ 2) ⊎ (w ≡ 4) → 1 ≤ w
    wide (inl e) = omega arith
    wide (inr (inl e)) = omega arith
    wide (inr (inr e)) = omega arith

    words : (n : ℕ) → 1 ≤ n → 0 < (n + 3) / 4 * 4
    words n h = omega arith

whole : (n : ℕ) → (n + 3) / 4 * 4 % 4 ≡ 0
whole n = omega arith

-- what stands in a register stays
register-same : (site : Site) (frame first bytes : ℕ) (items : List _) (place : Place) (s u : machine.State)
    → IsPlaceIn frame place → Framed site frame s → Cleared site first bytes items s u → IsSameRegister place s u
register-same site frame first bytes items (InWord r) s u inside framed h =
    let low = general-below r inside in h.others r (λ e. omega (arith, e, low)) (λ e. omega (arith, e, low))
register-same site frame first bytes items (InByte r) s u inside framed h =
    byte-same r s u framed.sound.registers h.sound.registers (h.others Eax (unlike 0 6 refl) (unlike 0 7 refl))
    (h.others Ecx (unlike 1 6 refl) (unlike 1 7 refl)) (h.others Edx (unlike 2 6 refl) (unlike 2 7 refl))
    (h.others Ebx (unlike 3 6 refl) (unlike 3 7 refl))
register-same site frame first bytes items (InSlot slot) s u inside framed h = tt

-- by any label, where these are the array and its distance below EBP
pub clear-follows : (k label distance : ℕ) (array : ℕ × ℕ) (code : Code) (input : List ℕ) (g : graph.State)
    (s : machine.State) → IsSupported code → IsState code.program g → Shows code input g s
    → op_at code.program g ≡ Some (op.Clear k)
    → slice_get (flow_at code.program g.current.function).arrays k ≡ Some array
    → slice_get (placement_of code g.current.function).arrays k ≡ Some distance
    → RowAt code g (clear_row label distance (size_of array)) s
    → Follows code input s g (is_nop (Some (op.Clear k))) (act code.program g (op.Clear k))
clear-follows k label distance array code input g s supported state shown has declared placed r =
    followed code input g s (op.Clear k) false supported state has (
    subst (λ (o : Option (List ℤ)). FollowsKept code input s g false (given o (λ zs.
    onward code.program (with_array (InFrame k (depth_of g)) (replicate (length zs) (pos 0)) g)))) (sym there)
    (array-follows code input g s u o (InFrame k (depth_of g)) new r.rest supported state shown has (λ next h. h)
    c.sound c.comes c.ready r.follows c.left c.taken c.written (λ q arrives.
    own-array-shows code input g s u o k distance array elements new g.block q g.left g.taken g.written supported state
    shown has refl there declared placed outside stand arrives)))
  where
    o : Op
    o = op.Clear k

    f : ℕ
    f = g.current.function

    site : Site
    site = site_of code f

    frame : ℕ
    frame = (placement_of code f).frame

    first : ℕ
    first = word_of Ebp s - distance

    inside : IsArrayIn frame array distance
    inside = (supported.supports f state.active.0.function).arrays.inside k distance array declared placed

    is : IsArray array
    is = all-at IsArray (flow_at code.program f).arrays k array
        ((graph-of code.program f supported.program state.active.0.function).keeps.1).arrays_fit declared

    known : (zs : List ℤ) × (slice_get g.current.arrays k ≡ Some zs) × AreElementsOf array zs
    known = zip-second AreElementsOf (flow_at code.program f).arrays g.current.arrays k array state.active.0.arrays
        declared

    elements : List ℤ
    elements = known.0

    there : slice_get g.current.arrays k ≡ Some elements
    there = known.1

    new : List ℤ
    new = replicate (length elements) (pos 0)

    framed : Framed site frame s
    framed = (shown-in-frame code input g s supported state shown).framed

    cleared : (u : machine.State) × Cleared site first (size_of array) r.rest s u
    cleared = clear-goes site frame label distance (size_of array) r.rest s framed r.ready
        (some-words array.0 array.1 is.0 is.1) (whole (array.0 * array.1))
        (less (size_of array) distance inside.low) (within distance frame inside.high)
      where
        less : (z d : ℕ) → 16 + z ≤ d → z < d
        less z d h = omega arith

        within : (d m : ℕ) → d + 4 ≤ m → d ≤ m
        within d m h = omega arith

    u : machine.State
    u = cleared.0

    c : Cleared site first (size_of array) r.rest s u
    c = cleared.1

    outside : KeepsOutside code g first (size_of array) s u
    outside = record {
      esp = c.others Esp (unlike 4 6 refl) (unlike 4 7 refl);
      ebp = c.others Ebp (unlike 5 6 refl) (unlike 5 7 refl);
      loads = λ n a w apart e. c.kept n a w apart e;
      registers = λ v place behind. register-same site frame first (size_of array) r.rest place s u
          ((point-supported code g o supported state has).after v place behind).inside framed c;
    }

    -- the number of elements is in front of them
    count : load 4 (first - 4) u ≡ Ok array.1
    count =
        let (other, below, address, also, at, up, stand) =
        shown.frame_arrays 0 g.current (word_of Ebp s) refl (ap (λ (fs : List ℕ). slice_get fs 0) shown.youngest) k
        elements there in
        let same : address ≡ first =
        equal address below (word_of Ebp s) distance up (same_Some below distance (sym at ∙ placed)) in
        c.kept 4 (first - 4) array.1
        (inr (front (word_of Esp s) frame (word_of Ebp s) distance framed.esp inside.high))
        (subst (λ (a : ℕ). load 4 (a - 4) s ≡ Ok array.1) same (stand.0 ∙ ap (λ (n : ℕ). Ok n) known.2.many))
      where
        equal : (x b e d : ℕ) → x + b ≡ e → b ≡ d → x ≡ e - d
        equal x b e d h k = omega arith

        front : (x m e d : ℕ) → x + m ≡ e → d + 4 ≤ m → e - d - 4 + 4 ≤ e - d
        front x m e d h l = omega arith

    stand : ElementsStand u first array.0 new
    stand = subst (λ (n : ℕ). ElementsStand u first array.0 (replicate n (pos 0))) (sym known.2.many)
        (zeros-stand u first array is count c.zeros)

-- so does the op's own row
pub row-follows : ClearFollows
row-follows k code input g s supported state shown has r =
    let f : ℕ = g.current.function in
    let flow : Flow = flow_at code.program f in
    let lt : k < length flow.arrays = (op-is code g (op.Clear k) supported state has).fits.0 in
    let many = (supported.supports f state.active.0.function).arrays.as_many in
    let (array, declared) = element-at flow.arrays k lt in
    let (distance, placed) = element-at (placement_of code f).arrays k (omega (arith, many, lt)) in
    clear-follows k (loop_label flow g.point) distance array code input g s supported state shown has declared placed
    (subst (λ (d : ℕ). RowAt code g (clear_row (loop_label flow g.point) d (size_of array)) s)
    (get_or_from_slice_get (placement_of code f).arrays k distance 0 placed)
    (subst (λ (a : ℕ × ℕ). RowAt code g (clear_row (loop_label flow g.point)
    (slice_index_or (placement_of code f).arrays k 0) (size_of a)) s)
    (get_or_from_slice_get flow.arrays k array (0, 0) declared) r))
