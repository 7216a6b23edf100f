-- The state in which `main` begins shows the program's first state, with all static objects.
use Rattle.std.proofs.Common.{◌≡◌, ℕ, zero, suc, ◌+◌, ◌-◌, ◌*◌, ◌%◌, ◌^◌, ◌<◌, ◌≤◌, ℤ, pos, List, [], ◌∷◌, length}
use Rattle.std.proofs.Common.{Some, Ok, inl, inr, refl, sym, ap, subst, ◌∙◌, arith}
use Rattle.std.specs.Prelude.{drop, map, option_map, slice_get}
use Rattle.std.specs.Int.{w32, cast_unsigned}
use Rattle.std.proofs.Math.Nat.{mul-le-mul_left, mul-suc}
use Rattle.std.proofs.lemmas.Option.{none-some, same_Some, slice_get-map, slice_get_within}
use Rattle.pcc_base.specs.Objects.{Object}
use Rattle.pcc_base.specs.Outcome.{Number}
use Rattle.pcc_base.proofs.Lists.{element-at}
use Rattle.ia32_insn.specs.declared.register_names.Reg32.TheVariants.{Esp}
use Rattle.ia32_insn.specs.State as machine
use Rattle.ia32_insn.specs.Meaning.{load, word_of}
use Rattle.ia32_insn.specs.Items.{data_bytes, data_start, object_addresses, round_up, stack_end}
use Rattle.flow_graph.specs.Graphs.{points_of}
use Rattle.flow_graph.specs.States as graph
use Rattle.flow_graph.specs.States.{Activation, entry_of, first_activation, first_state_at, flow_at}
use Rattle.flow_graph.proofs.Changes.{first-in}
use Rattle.flow_graph.proofs.Keeping.{first_is_state, functions_begin}
use Rattle.ia32_insn.proofs.Objects.{round-above}
use Rattle.ia32_rows.specs.Placements.{Code, objects_of}
use Rattle.ia32_rows.proofs.Steps.{comes-then}
use Rattle.ia32_rows.specs.Shows.{ArgumentsStand, ElementsStand, HoldsOldArrays, IsOldArray, ObjectsStand}
use Rattle.ia32_laws.specs.Supports.{IsSupported}
use Rattle.ia32_laws.proofs.Memory.{shapes-are, small-is, text-is}
use Rattle.ia32_laws.proofs.Objects.{object-in}
use Rattle.ia32_laws.proofs.Functions.{function-stands}
use Rattle.ia32_laws.specs.Called.{Called}
use Rattle.ia32_laws.proofs.Entry.{entry-comes}
use Rattle.ia32_laws.specs.StartsLaws.{MainIsCalled, MainIsShown, StartedOver, image_state}
use Rattle.ia32_laws.proofs.Data.{copied, objects-begin}
use Rattle.ia32_laws.proofs.Start.{enough, start-goes-over}
use Rattle.ia32_laws.proofs.Fresh.{mapped}

-- ---- the static objects

-- the state of the machine in which `main` of the code begins
abbrev StartedAt : Code → List ℕ → ℕ → machine.State → Type 0
StartedAt code input address t =
    StartedOver code.symbols code.text (objects_of code.program) code.program.main address input t

-- where an object's bytes are, in plain numbers: behind the depth word, and below the last word of the stack
record Inside (depth top address n : ℕ) : Type 0 where
  pub low : depth + 8 ≤ address
  pub high : address + n ≤ top

-- an element is within its object
within : (w i n : ℕ) → i < n → w * i + w ≤ w * n
within w i n lt = let more = mul-suc w i in let le = mul-le-mul_left w lt in omega (arith, more, le)

-- what is loaded from an object is as in the image
elements-kept : (code : Code) (input : List ℕ) (address at width : ℕ) (elements : List ℤ) (t : machine.State)
    → StartedAt code input address t → Inside code.symbols.depth (word_of Esp t) at (width * length elements)
    → ElementsStand (image_state code input) at width elements → ElementsStand t at width elements
elements-kept code input address at width elements t started inside (count, each) = (
  started.kept 4 (at - 4) (length elements)
      (inr (count-below (word_of Esp t) at code.symbols.depth (width * length elements) inside.low inside.high))
      (inl (count-above at code.symbols.depth inside.low)) count,
  λ i z has. one i z has (each i z has),
)
  where
    count-below : (top a depth n : ℕ) → depth + 8 ≤ a → a + n ≤ top → a - 4 + 4 ≤ top
    count-below top a depth n low high = omega arith

    count-above : (a depth : ℕ) → depth + 8 ≤ a → depth + 4 ≤ a - 4
    count-above a depth low = omega arith

    below : (top a n m w : ℕ) → a + n ≤ top → m + w ≤ n → a + m + w ≤ top
    below top a n m w high le = omega arith

    above : (depth a m : ℕ) → depth + 8 ≤ a → depth + 4 ≤ a + m
    above depth a m low = omega arith

    one : (i : ℕ) (z : ℤ) → slice_get elements i ≡ Some z
        → ((word : ℕ) × (load width (at + width * i) (image_state code input) ≡ Ok word)
        × (word ≡ cast_unsigned w32 z % 2 ^ (8 * width)))
        → (word : ℕ) × (load width (at + width * i) t ≡ Ok word) × (word ≡ cast_unsigned w32 z % 2 ^ (8 * width))
    one i z has (word, loads, is) = (
      word,
      started.kept width (at + width * i) word
          (inr (below (word_of Esp t) at (width * length elements) (width * i) width inside.high
          (within width i (length elements) (slice_get_within elements i z has))))
          (inl (above code.symbols.depth at (width * i) inside.low)) loads,
      is,
    )

-- every object is inside
inside-is : (code : Code) (input : List ℕ) (k address at : ℕ) (o : Object) (t : machine.State) → IsSupported code
    → StartedAt code input address t → slice_get code.program.objects k ≡ Some o
    → slice_get code.symbols.objects k ≡ Some at
    → Inside code.symbols.depth (word_of Esp t) at (o.width * length o.elements)
inside-is code input k address at o t h started declared named =
    let text = (h.is_code).text in
    let objects : List Object = objects_of code.program in
    let there : slice_get objects k ≡ Some (copied o) =
    slice_get-map copied code.program.objects k ∙ ap (option_map copied) declared in
    let placed : slice_get (object_addresses (data_start code.text + 4) objects) k ≡ Some at =
    ap (λ (l : List ℕ). slice_get l k) (sym text.objects_are) ∙ named in
    let inside = object-in (data_start code.text) objects k at (copied o) there placed in
    record {
      low = subst (λ (d : ℕ). d + 8 ≤ at) (sym text.depth_is) inside.0;
      high = counted (data_start code.text) (length (data_bytes objects)) (round_up 4 (length (data_bytes objects)))
          (word_of Esp t) (at + o.width * length o.elements) (round-above (length (data_bytes objects))) started.esp
          inside.1;
    }
  where
    counted : (low n r e a : ℕ) → n ≤ r → e + 4 ≡ low + (r + 0x04001000) → a ≤ low + n → a ≤ e
    counted low n r e a above esp to = omega arith

-- so all static objects stand when `main` begins
objects-kept : (code : Code) (input : List ℕ) (address : ℕ) (t : machine.State) → IsSupported code
    → StartedAt code input address t
    → ObjectsStand code t (map (λ object. object.elements) code.program.objects)
objects-kept code input address t h started k elements e =
    let (o, at, declared, named, stand) = objects-begin code input h k elements e in
    let same : o.elements ≡ elements = same_Some o.elements elements
    (sym (slice_get-map (λ (x : Object). x.elements) code.program.objects k
    ∙ ap (option_map (λ (x : Object). x.elements)) declared) ∙ e) in
    let inside : Inside code.symbols.depth (word_of Esp t) at (o.width * length elements) =
    subst (λ (l : List ℤ). Inside code.symbols.depth (word_of Esp t) at (o.width * length l)) same
    (inside-is code input k address at o t h started declared named) in
    (o, at, declared, named, elements-kept code input address at o.width elements t started inside stand)

-- ---- the state in which `main` begins

called : (code : Code) (input : List ℕ) (point address : ℕ) (t : machine.State) → IsSupported code
    → entry_of code.program code.program.main 0 ≡ Some point
    → slice_get code.symbols.functions code.program.main ≡ Some address
    → StartedAt code input address t → Called code input (first_state_at code.program input point) t
called code input point address t supported first named h =
    let sound = h.sound in
    let above : word_of Esp t - 4 + 4 ≡ word_of Esp t = counted (word_of Esp t) (data_start code.text)
    (stack_end code.text (objects_of code.program)) (enough code.text (objects_of code.program)) h.esp in
    record {
      frame = word_of Esp t - 4;
      above = above;
      older = [];
      fresh = refl;
      begins = first;
      eip = subst (λ (k : ℕ). slice_get code.symbols.functions code.program.main ≡ Some k) (sym h.eip) named;
      registers = sound.registers;
      placed = first-in point (points_of (flow_at code.program code.program.main) 0) first;
      shapes = shapes-are code.text (objects_of code.program) t.memory sound.bytes sound.memory sound.size;
      text = text-is code.text t.memory (data_start code.text) sound.bytes sound.memory;
      small = small-is code.text (data_start code.text) sound.bytes t.memory sound.memory sound.small;
      room = roomy (stack_end code.text (objects_of code.program)) (word_of Esp t - 4) (word_of Esp t) above h.esp;
      few = omega arith;
      depth = h.depth;
      chain = (
        refl,
        refl,
        h.return_address,
        subst (λ (k : ℕ). load 4 k t ≡ Ok h.return_address) (sym above) h.returns,
        h.returns_to,
      );
      arguments = λ i a at e f. no-arguments i a at e;
      old_arrays = λ i a e. olden i a e;
      objects = objects-kept code input address t supported h;
      frame_arrays = λ i a at e f. absurd (none-some a e);
      left = h.left;
      taken = h.taken;
      written = h.written;
      of_input = h.left ∙ ap (λ (k : ℕ). drop k input) (sym h.taken);
    }
  where
    counted : (e low high : ℕ) → low + 0x04001000 ≤ high → e + 4 ≡ high → e - 4 + 4 ≡ e
    counted e low high far h = omega arith

    roomy : (top frame esp : ℕ) → frame + 4 ≡ esp → esp + 4 ≡ top → top ≤ frame + 8 + 4 * 0 + 0
    roomy top frame esp k l = omega arith

    callee : Activation
    callee = first_activation code.program code.program.main []

    no-arguments : (i : ℕ) (a : Activation) (at : ℕ) → slice_get (callee ∷ []) i ≡ Some a
        → ArgumentsStand code (callee ∷ []) ((word_of Esp t - 4) ∷ []) t at a.arguments
    no-arguments zero a at e =
        subst (λ (b : Activation). ArgumentsStand code (callee ∷ []) ((word_of Esp t - 4) ∷ []) t at b.arguments)
        (same_Some callee a e) (λ k value has. absurd (none-some value has))
    no-arguments (suc i) a at e = absurd (none-some a e)

    olden : (i : ℕ) (a : Activation) → slice_get (callee ∷ []) i ≡ Some a → HoldsOldArrays (1 - i) a
    olden zero a e =
        subst (HoldsOldArrays (1 - 0)) (same_Some callee a e) (
          (λ v value has. subst (IsOldArray (1 - 0))
              (mapped (flow_at code.program code.program.main).widths (Number (pos 0)) value v has) tt),
          (λ k value has. absurd (none-some value has)),
        )
    olden (suc i) a e = absurd (none-some a e)

pub main-is-called : MainIsCalled
main-is-called code input g h e =
    let program = h.program in
    let main : ℕ = code.program.main in
    let (point, first) = functions_begin code.program main program program.main in
    let same : first_state_at code.program input point ≡ g =
    same_Some (first_state_at code.program input point) g
    (sym (ap (option_map (first_state_at code.program input)) first) ∙ e) in
    let is_code = h.is_code in
    let items = element-at code.items main
    (subst (λ (n : ℕ). main < n) (sym is_code.functions) program.main) in
    let at = function-stands code main items.0 is_code items.1 in
    let start = start-goes-over code.items code.order (objects_of code.program) main code.places code.symbols code.text
    at.address input is_code.text h.fits at.named in (
      start.0,
      (start.1).comes,
      subst (λ (s : graph.State). Called code input s start.0) same
          (called code input point at.address start.0 h first at.named start.1),
    )

pub main-is-shown : MainIsShown
main-is-shown code h ready input g bytes e =
    let c = main-is-called code input g h e in
    let state = first_is_state code.program input g h.program bytes e in
    let last = entry-comes code input g c.0 h state c.2 (ready input g c.0 e c.2) in
    (last.0, comes-then code.text (image_state code input) c.0 last.0 c.1 last.1, last.2)
