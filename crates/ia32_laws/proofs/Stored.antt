-- The next state is shown where one element of an array was stored.
use Rattle.std.proofs.Common.{◌≡◌, ◌≢◌, ◌⊎◌, ℕ, suc, ◌+◌, ◌-◌, ◌*◌, ◌%◌, ◌^◌, ◌<◌, ◌≤◌, Bool, true, false, ℤ}
use Rattle.std.proofs.Common.{List, length, Option, Some, None, Ok, inl, inr, refl, sym, ap, subst, ◌∙◌, arith}
use Rattle.std.specs.Prelude.{◌==◌, option_map, slice_get, slice_set, if◌then◌else◌}
use Rattle.std.specs.Int.{w32, cast_unsigned}
use Rattle.std.proofs.Math.ListN.{length-set}
use Rattle.std.proofs.Math.Nat.{mul-suc}
use Rattle.std.proofs.lemmas.Bool.Decides.{nat_tests}
use Rattle.std.proofs.lemmas.Nat.{mul-le}
use Rattle.std.proofs.lemmas.Option.{none-some, same_Some}
use Rattle.pcc_base.specs.Outcome.{ArrayName, Null, Static, InFrame, Unknown}
use Rattle.ia32_insn.specs.State as machine
use Rattle.ia32_insn.specs.Meaning.{load}
use Rattle.ia32_insn.specs.Items.{data_start}
use Rattle.ia32_insn.specs.Keeps.{AreDisjoint}
use Rattle.flow_graph.specs.States as graph
use Rattle.flow_graph.specs.States.{Activation, Waiting, active_of, depth_of, elements_in, elements_of, waiting_place}
use Rattle.flow_graph.specs.WellFormed.{IsState}
use Rattle.flow_graph.proofs.Active.{length-active}
use Rattle.flow_graph.proofs.Changes.{are-there}
use Rattle.ia32_rows.specs.Placements.{Code}
use Rattle.ia32_rows.specs.Shows.{ElementsStand, IsArrayAt, Shows}
use Rattle.ia32_laws.specs.Supports.{IsSupported}
use Rattle.ia32_laws.specs.KeepsLaws.{ElementShows, data_end}
use Rattle.ia32_laws.proofs.Shown.{after-set}
use Rattle.ia32_laws.proofs.Regions.{IsArrayOf, IsStatic, array-above, less-or-more, static-ends}
use Rattle.ia32_laws.proofs.Changed.{array-of, array-shows, mapped-some, place-behind, waiting-active}

-- ---- which array it is

abbrev pub IsNamed : Code → graph.State → List ℕ → ℕ → ℕ → List ℤ → Type 0
IsNamed code g frames address width elements =
    ((k : ℕ) × IsStatic code g k address width elements)
    ⊎ ((c : ℕ) × (k : ℕ) × IsArrayOf code g frames c k address width elements)

pub named : (code : Code) (g : graph.State) (frames : List ℕ) (array : ArrayName) (address width : ℕ)
    (elements : List ℤ)
    → elements_of code.program g array ≡ Some (width, elements) → IsArrayAt code (active_of g) frames array address
    → IsNamed code g frames address width elements
named code g frames Null address width elements is at = absurd (none-some (width, elements) is)
named code g frames Unknown address width elements is at = absurd (none-some (width, elements) is)
named code g frames (Static k) address width elements is at =
    let there = are-there (option_map (λ (x : graph.Object). x.width) (slice_get code.program.objects k))
    (slice_get g.objects k) width elements is in
    let (object, declared, is_width) =
    mapped-some (λ (x : graph.Object). x.width) (slice_get code.program.objects k) width there.is_width in
    inl (
      k,
      record {
        has = there.is_elements;
        object = object;
        declared = declared;
        placed = at.1;
        width_is = is_width;
      },
    )
named code g frames (InFrame k depth) address width elements is at = chosen (depth == depth_of g) refl
  where
    place : ℕ
    place = waiting_place g depth

    call : Bool → Option Activation
    call youngest =
        if youngest then Some g.current else option_map (λ (w : Waiting). w.activation) (slice_get g.waiting place)

    older : (o : Option Waiting) → slice_get g.waiting place ≡ o → (depth == depth_of g) ≡ false
        → elements_in code.program k (option_map (λ (w : Waiting). w.activation) o) ≡ Some (width, elements)
        → IsNamed code g frames address width elements
    older None e test found = absurd (none-some (width, elements) found)
    older (Some w) e test found =
        inr (
          suc place,
          k,
          array-of code g frames (suc place) k depth address width w.activation elements
              (place-behind code g depth test at.youngest) (waiting-active g.waiting place w e) found at,
        )

    chosen : (test : Bool) → (depth == depth_of g) ≡ test → IsNamed code g frames address width elements
    chosen true test =
        inr (
          0,
          k,
          array-of code g frames 0 k depth address width g.current elements
              (first (length (active_of g)) (depth_of g) depth (length-active g) (alike depth (depth_of g) test)) refl
              (subst (λ (b : Bool). elements_in code.program k (call b) ≡ Some (width, elements)) test is) at,
        )
      where
        alike : (a b : ℕ) → (a == b) ≡ true → a ≡ b
        alike a b e = grind (arith, nat_tests)

        first : (a b d : ℕ) → a ≡ b → d ≡ b → a - d ≡ 0
        first a b d e f = omega arith
    chosen false test =
        older (slice_get g.waiting place) refl test
        (subst (λ (b : Bool). elements_in code.program k (call b) ≡ Some (width, elements)) test is)

-- ---- its elements before

-- the elements stand, with four bytes before them
pub record StandNow (s : machine.State) (address width : ℕ) (elements : List ℤ) : Type 0 where
  pub front : 4 ≤ address
  pub stand : ElementsStand s address width elements

pub stand-now : (code : Code) (input : List ℕ) (g : graph.State) (s : machine.State) (address width : ℕ)
    (elements : List ℤ) → IsSupported code → IsState code.program g → (shown : Shows code input g s)
    → IsNamed code g shown.frames address width elements → StandNow s address width elements
stand-now code input g s address width elements supported state shown (inl (k, h)) =
    let ends = static-ends code g k address width elements supported state h in
    let (object, there, declared, placed, stand) = shown.objects k elements h.has in
    let same : there ≡ address = same_Some there address (sym placed ∙ h.placed) in
    let wide : object.width ≡ width = ap (λ (x : graph.Object). x.width)
    (same_Some object h.object (sym declared ∙ h.declared)) ∙ h.width_is in
    record {
      front = low (data_start code.text) address ends.0;
      stand = subst (λ (w : ℕ). ElementsStand s address w elements) wide
          (subst (λ (a : ℕ). ElementsStand s a object.width elements) same stand);
    }
  where
    low : (d a : ℕ) → d + 8 ≤ a → 4 ≤ a
    low d a h = omega arith
stand-now code input g s address width elements supported state shown (inr (c, k, h)) =
    let above = array-above code input g s c k address width elements supported state shown h in
    let (array, below, there, declared, placed, at, stand) =
    shown.frame_arrays c h.activation h.frame h.is.is_active h.is.at_frame k elements h.has in
    let down : below ≡ h.below = same_Some below h.below (sym placed ∙ h.placed) in
    let same : there ≡ address = equal there below h.frame address h.below at h.at_address down in
    let wide : array.0 ≡ width = ap (λ (x : ℕ × ℕ). x.0)
    (same_Some array h.array (sym declared ∙ h.declared)) ∙ h.width_is in
    record {
      front = low (data_end code) address above;
      stand = subst (λ (w : ℕ). ElementsStand s address w elements) wide
          (subst (λ (a : ℕ). ElementsStand s a array.0 elements) same stand);
    }
  where
    low : (d a : ℕ) → d + 4 ≤ a → 4 ≤ a
    low d a h = omega arith

    equal : (x b f y c : ℕ) → x + b ≡ f → y + c ≡ f → b ≡ c → x ≡ y
    equal x b f y c h k e = omega arith

-- ---- one element

-- another element is apart from it
other-apart : (address w i j : ℕ) → j ≢ i → AreDisjoint (address + w * i) w (address + w * j) w
other-apart address w i j distinct = by (less-or-more i j)
  where
    more : (i c : ℕ) → i < c → w * i + w ≤ w * c
    more i c lt = omega (arith, mul-suc w i, mul-le w (suc i) w c (omega arith) lt)

    by : (i ≡ j) ⊎ (i < j) ⊎ (j < i) → AreDisjoint (address + w * i) w (address + w * j) w
    by (inl e) = absurd (distinct (sym e))
    by (inr (inl lt)) = inl (omega (arith, more i j lt))
    by (inr (inr lt)) = inr (omega (arith, more j i lt))

pub element-shows : ElementShows
element-shows code input g s t o array address width elements i z block point left taken written supported state shown
    has none is at within keeps stored arrives =
    array-shows code input g s t o array address width elements (slice_set elements i z) block point left taken written
    supported state shown has none is at
    (record {
      esp = keeps.esp;
      ebp = keeps.ebp;
      loads = λ n a w apart. keeps.loads n a w (inside a n apart);
      registers = keeps.registers;
    }) (
      keeps.loads 4 (address - 4) (length elements) (inr (header address width i now.front)) now.stand.0
          ∙ ap (λ (k : ℕ). Ok k) (sym (length-set elements i z)),
      λ j y e. each j y (after-set elements i j z y e),
    )
    arrives
  where
    now : StandNow s address width elements
    now = stand-now code input g s address width elements supported state shown
        (named code g shown.frames array address width elements is at)

    header : (x w i : ℕ) → 4 ≤ x → x - 4 + 4 ≤ x + w * i
    header x w i h = omega arith

    last : width * i + width ≤ width * length elements
    last = omega (arith, mul-suc width i, mul-le width (suc i) width (length elements) (omega arith) within)

    inside : (a n : ℕ) → AreDisjoint address (width * length elements) a n
        → AreDisjoint (address + width * i) width a n
    inside a n (inl h) = inl (omega (arith, last, h))
    inside a n (inr h) = inr (omega (arith, h))

    each : (j : ℕ) (y : ℤ) → ((j ≡ i) × (z ≡ y)) ⊎ ((i ≢ j) × (slice_get elements j ≡ Some y))
        → (word : ℕ) × (load width (address + width * j) t ≡ Ok word)
        × (word ≡ cast_unsigned w32 y % 2 ^ (8 * width))
    each j y (inl p) = (
      cast_unsigned w32 z % 2 ^ (8 * width),
      subst (λ (k : ℕ). load width (address + width * k) t ≡ Ok (cast_unsigned w32 z % 2 ^ (8 * width))) (sym p.0)
          stored,
      ap (λ (x : ℤ). cast_unsigned w32 x % 2 ^ (8 * width)) p.1,
    )
    each j y (inr p) =
        let one = now.stand.1 j y p.1 in (
          one.0,
          keeps.loads width (address + width * j) one.0
              (other-apart address width i j (λ e. p.0 (sym e))) one.1,
          one.2,
        )
