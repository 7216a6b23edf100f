-- A state that has come back from a call shows the caller's next point once the result is in its place.
use Rattle.std.proofs.Common.{◌≡◌, ℕ, zero, suc, ◌+◌, ◌-◌, ◌*◌, ◌≤◌, List, ◌∷◌, length, Some, Ok}
use Rattle.std.proofs.Common.{inl, inr, refl, sym, ap, subst, ◌∙◌, arith}
use Rattle.std.specs.Prelude.{drop, map, slice_get}
use Rattle.std.proofs.lemmas.List.{length-map}
use Rattle.std.proofs.lemmas.Option.{same_Some}
use Rattle.pcc_base.specs.Outcome.{Value}
use Rattle.ia32_insn.specs.declared.register_names.Reg32.TheVariants.{Esp, Ebp}
use Rattle.ia32_insn.specs.State as machine
use Rattle.ia32_insn.specs.Meaning.{load, word_of}
use Rattle.ia32_insn.specs.Items.{data_start, stack_end}
use Rattle.flow_graph.specs.Graphs.{Stands}
use Rattle.flow_graph.specs.States as graph
use Rattle.flow_graph.specs.States.{Activation, Waiting, active_of, depth_of, flow_at}
use Rattle.flow_graph.specs.WellFormed.{IsState}
use Rattle.ia32_rows.specs.Placements.{Code, objects_of, placement_of}
use Rattle.ia32_rows.specs.Shows.{AllStand, ArgumentsStand, FrameArraysStand, HoldsOldArrays, Shows, WaitFrom}
use Rattle.ia32_rows.specs.Shows.{IsOldArray, IsWord, stack_bytes}
use Rattle.ia32_rows.specs.Sites.{SoundAt}
use Rattle.ia32_laws.specs.MovesLaws.{ShowsBehind}
use Rattle.ia32_laws.specs.KeepsLaws.{data_end}
use Rattle.ia32_laws.specs.Supports.{IsArrayIn, IsSupported, site_of, size_of}
use Rattle.ia32_laws.proofs.KeepsApart.{IsSomewhere, element-ends, frame-array, frame-room, object-read}
use Rattle.ia32_laws.proofs.Chain.{AreAlike, chain-kept, remade, word-alike}
use Rattle.ia32_laws.proofs.Memory.{shapes-are, small-is, text-is}
use Rattle.ia32_laws.proofs.Shown.{alike-waits, elements-kept, same-waits, waits-supported}
use Rattle.ia32_laws.proofs.Zones.{frame_size}
use Rattle.ia32_laws.proofs.Chains.{Carried, chain-above, chain-carried, frames-above}
use Rattle.ia32_laws.proofs.Younger.{all-older, old-deeper, word-older}

-- the returning state, in which a call waits for the current one
abbrev pub returning : graph.State → Waiting → List Waiting → graph.State
returning g w waiting = record g { waiting = w ∷ waiting }

-- the caller's state at another point, with these variables
abbrev pub resumed : graph.State → Waiting → List Waiting → List Value → ℕ → graph.State
resumed g w waiting variables point =
    record g {
      block = w.block;
      point = point;
      current = remade variables w.activation.arrays w.activation;
      waiting = waiting;
    }

-- What is kept of memory: what the relation reads of the caller and of those that wait for it.
abbrev pub KeptBehind : Code → graph.State → ℕ → machine.State → machine.State → Type 0
KeptBehind code h base s t =
    (n b w : ℕ) → IsSomewhere code h base b n → data_start code.text + 4 ≤ b → load n b s ≡ Ok w → load n b t ≡ Ok w

-- What is known of the state behind the call.
pub record IsBehind (code : Code) (g : graph.State) (w : Waiting) (waiting : List Waiting) (variables : List Value)
    (point base : ℕ) (s t : machine.State) : Type 0 where
  pub sound : SoundAt (site_of code w.activation.function) t
  pub ebp : word_of Ebp t ≡ base
  pub esp : word_of Esp t + frame_size code w.activation ≡ base
  pub depth : load 4 code.symbols.depth t ≡ Ok (suc (length waiting))
  pub kept : KeptBehind code (resumed g w waiting variables point) base s t
  pub left : t.left ≡ s.left
  pub taken : t.taken ≡ s.taken
  pub written : t.written ≡ s.written

-- the bytes of a waiting call's frame are at the caller's frame, or above
zone-behind : (code : Code) (active : List Activation) (frames : List ℕ) (s : machine.State) (younger : Activation)
    (base : ℕ) (waiting : List Waiting) (rest : List ℕ) (i : ℕ) (a : Activation) (at : ℕ)
    → WaitFrom code active frames s younger base waiting rest
    → slice_get (younger ∷ map (λ w. w.activation) waiting) i ≡ Some a → slice_get (base ∷ rest) i ≡ Some at
    → base ≤ at
zone-behind code active frames s younger base waiting rest zero a at chain e f = own base at (same_Some base at f)
  where
    own : (x y : ℕ) → x ≡ y → x ≤ y
    own x y h = omega arith
zone-behind code active frames s younger base waiting rest (suc i) a at chain e f =
    above base (frame_size code a) at (frames-above code active frames s younger base waiting rest i a at chain e f)
  where
    above : (x m y : ℕ) → x + 8 + m ≤ y → x ≤ y
    above x m y h = omega arith

module _ (code : Code) (input : List ℕ) (g : graph.State) (s t : machine.State) (w : Waiting) (waiting : List Waiting)
    (variables : List Value) (point base : ℕ) (rest : List ℕ) where
  abbrev G : graph.State
  G = returning g w waiting

  abbrev H : graph.State
  H = resumed g w waiting variables point

  abbrev Active : List Activation
  Active = w.activation ∷ map (λ v. v.activation) waiting

  -- arrays of the caller, and of those that wait for it
  arrays-behind : IsSupported code → IsState code.program G → (shown : Shows code input G s)
      → shown.frames ≡ word_of Ebp s ∷ base ∷ rest
      → WaitFrom code (active_of G) shown.frames s w.activation base waiting rest
      → data_end code + 0x1000 ≤ word_of Esp s → word_of Esp s ≤ base
      → data_end code + 0x1000 + frame_size code w.activation ≤ base
      → data_start code.text + 4 ≤ data_end code
      → KeptBehind code H base s t → (i : ℕ) (a : Activation) (at : ℕ) → slice_get Active i ≡ Some a
      → slice_get (base ∷ rest) i ≡ Some at → FrameArraysStand code t at a
  arrays-behind h state shown frames chain room high large more kept i a at e f k elements has =
      let there : slice_get shown.frames (suc i) ≡ Some at = ap (λ (fs : List ℕ). slice_get fs (suc i)) frames ∙ f in
      let (array, distance, address, declared, placed, same, stand) = shown.frame_arrays (suc i) a at e there k elements
      has in
      let enough = frame-room code input G s (suc i) a at h state shown (record { is_active = e; at_frame = there }) in
      let one = frame-array code G shown.frames (suc i) a at k distance address array elements h state
      (record { is_active = e; at_frame = there }) has declared placed enough in
      let inside = one.inside in (
        array,
        distance,
        address,
        declared,
        placed,
        same,
        elements-kept s t address array.0 elements (λ n b x reads.
            let ends = element-ends address array.0 (length elements) b n
            (front (frame_size code a) at distance address inside.high same enough) reads in
            kept n b x (each i e f declared placed inside (spanned address distance at b n (array.0 * length elements)
            (size_of array) one.size same ends.0 ends.1))
            (over i e f address distance b inside.high same ends.0)) stand,
      )
    where
      front : (size at d x : ℕ) → d + 4 ≤ size → x + d ≡ at → size ≤ at → 4 ≤ x
      front size at d x h e k = omega arith

      spanned : (x d f b n m k : ℕ) → m ≤ k → x + d ≡ f → x ≤ b + 4 → b + n ≤ x + m
          → (f ≤ b + d + 4) × (b + n + d ≤ f + k)
      spanned x d f b n m k e h l o = (omega arith, omega arith)

      above : (x size y d b : ℕ) → x + 8 + size ≤ y → d + 4 ≤ size → y ≤ b + d + 4 → x ≤ b + 4
      above x size y d b h k l = omega arith

      each : {distance n b : ℕ} → {array : ℕ × ℕ} → (i : ℕ) → slice_get Active i ≡ Some a
          → slice_get (base ∷ rest) i ≡ Some at
          → slice_get (flow_at code.program a.function).arrays k ≡ Some array
          → slice_get (placement_of code a.function).arrays k ≡ Some distance
          → IsArrayIn (frame_size code a) array distance
          → (at ≤ b + distance + 4) × (b + n + distance ≤ at + size_of array) → IsSomewhere code H base b n
      each {distance} {n} {b} {array} zero e f declared placed inside spans =
          let same = same_Some w.activation a e in
          let here = same_Some base at f in
          inr (inr (record {
            number = k;
            below = distance;
            array = array;
            declared = subst (λ (c : Activation). slice_get (flow_at code.program c.function).arrays k ≡ Some array)
                (sym same) declared;
            placed = subst (λ (c : Activation). slice_get (placement_of code c.function).arrays k ≡ Some distance)
                (sym same) placed;
            inside = subst (λ (c : Activation). IsArrayIn (frame_size code c) array distance) (sym same) inside;
            low = subst (λ (x : ℕ). x ≤ b + distance + 4) (sym here) spans.0;
            high = subst (λ (x : ℕ). b + n + distance ≤ x + size_of array) (sym here) spans.1;
          }))
      each {distance} {n} {b} {array} (suc i) e f declared placed inside spans =
          inr (inl (above base (frame_size code a) at distance b (frames-above code (active_of G) shown.frames s
          w.activation base waiting rest i a at chain e f) inside.high spans.0))

      own-over : (low more size base at d x b : ℕ) → low + 4 ≤ more → more + 0x1000 + size ≤ base → base ≡ at
          → d + 4 ≤ size → x + d ≡ at → x ≤ b + 4 → low + 4 ≤ b
      own-over low more size base at d x b h k l m n o = omega arith

      far-over : (low more size base at other d x b : ℕ) → low + 4 ≤ more → more + 0x1000 + size ≤ base
          → base + 8 + other ≤ at → d + 4 ≤ other → x + d ≡ at → x ≤ b + 4 → low + 4 ≤ b
      far-over low more size base at other d x b h k l m n o = omega arith

      over : (i : ℕ) → slice_get Active i ≡ Some a → slice_get (base ∷ rest) i ≡ Some at → (x d b : ℕ)
          → d + 4 ≤ frame_size code a → x + d ≡ at → x ≤ b + 4 → data_start code.text + 4 ≤ b
      over zero e f x d b inside same low =
          own-over (data_start code.text) (data_end code) (frame_size code w.activation) base at d x b more large
          (same_Some base at f) (subst (λ (c : Activation). d + 4 ≤ frame_size code c)
          (sym (same_Some w.activation a e)) inside) same low
      over (suc i) e f x d b inside same low =
          far-over (data_start code.text) (data_end code) (frame_size code w.activation) base at (frame_size code a) d x
          b more large
          (frames-above code (active_of G) shown.frames s w.activation base waiting rest i a at chain e f)
          inside same low

  pub back-shows : IsSupported code → IsState code.program G → (shown : Shows code input G s)
      → shown.frames ≡ word_of Ebp s ∷ base ∷ rest
      → WaitFrom code (active_of G) shown.frames s w.activation base waiting rest
      → data_end code + 0x1000 ≤ word_of Esp s → word_of Esp s ≤ base
      → data_end code + 0x1000 + frame_size code w.activation ≤ base
      → data_start code.text + 4 ≤ data_end code
      → base ≡ word_of Ebp s + 8 + 4 * length g.current.arguments + frame_size code w.activation
      → IsBehind code g w waiting variables point base s t
      → Stands (flow_at code.program w.activation.function) point w.block
      → AllStand code (active_of H) (base ∷ rest) t base H.current
      ((placement_of code w.activation.function).after w.point)
      → ((v : ℕ) (value : Value) → slice_get variables v ≡ Some value → IsOldArray (suc (length waiting)) value)
      → ShowsBehind code input w.point H t
  back-shows h state shown frames chain room high large more higher b placed stand old =
      let sound = b.sound in
      let supported = waits-supported code waiting h (state.active.1).1 in
      record {
        frames = base ∷ rest;
        older = rest;
        youngest = ap (λ (k : ℕ). k ∷ rest) (sym b.ebp);
        registers = sound.registers;
        placed = placed;
        shapes = shapes-are code.text (objects_of code.program) t.memory sound.bytes sound.memory sound.size;
        text = text-is code.text t.memory (data_start code.text) sound.bytes sound.memory;
        small = small-is code.text (data_start code.text) sound.bytes t.memory sound.memory sound.small;
        eip = refl;
        esp = b.esp ∙ sym b.ebp;
        room = stacked (stack_end code.text (objects_of code.program)) (word_of Esp s) (word_of Ebp s)
            (frame_size code g.current) (4 * length g.current.arguments) (frame_size code w.activation)
            (stack_bytes code Active) base (word_of Esp t) shown.room shown.esp higher b.esp;
        few = (let few = shown.few in less (suc (length waiting)) few);
        depth = b.depth;
        chain = subst (λ (k : ℕ). WaitFrom code (active_of H) (base ∷ rest) t H.current k waiting rest) (sym b.ebp)
            (moved (chain-carried code (active_of G) Active shown.frames (base ∷ rest) s t w.activation base waiting
            rest shown.registers sound.registers supported
            (all-older code Active g.current shown.frames (word_of Ebp s) (base ∷ rest) (suc (length waiting)) waiting
            frames (within waiting) olds)
            (λ n a x reads. let up = chain-above code (active_of G) shown.frames s w.activation base waiting rest a n
            supported chain reads in
            b.kept n a x (inr (inl up)) (far (data_start code.text) (data_end code)
            (frame_size code w.activation) base a more large up)) chain));
        variables = subst (λ (k : ℕ). AllStand code (active_of H) (base ∷ rest) t k H.current
            ((placement_of code w.activation.function).after w.point)) (sym b.ebp) stand;
        arguments = λ i a at e f number value has. passed i a at e f number value has;
        old_arrays = olden;
        objects = λ k elements e.
            let (object, address, declared, there, is) = shown.objects k elements e in (
              object,
              address,
              declared,
              there,
              elements-kept s t address object.width elements (λ n a x reads.
                  let at = object-read code G a n h state (record {
                    number = k;
                    elements = elements;
                    has = e;
                    object = object;
                    declared = declared;
                    address = address;
                    placed = there;
                    reads = reads;
                  }) in b.kept n a x (inl at.1) at.0) is,
            );
        frame_arrays = λ i a at e f. arrays i a at e f;
        left = b.left ∙ shown.left;
        taken = b.taken ∙ shown.taken;
        written = b.written ∙ shown.written;
        of_input = b.left ∙ shown.of_input ∙ ap (λ (k : ℕ). drop k input) (sym b.taken);
      }
    where
      less : (n : ℕ) → suc n ≤ 4096 → n ≤ 4096
      less n h = omega arith

      within : (ws : List Waiting) → suc (length ws) ≤ length (w.activation ∷ map (λ v. v.activation) ws)
      within ws =
          counted (length ws) (length (map (λ (v : Waiting). v.activation) ws)) (length-map ws (λ v. v.activation))
        where
          counted : (n m : ℕ) → m ≡ n → suc n ≤ suc m
          counted n m e = omega arith

      stacked : (top esp ebp size words other rest base new : ℕ) → top ≤ esp + (8 + size + words + rest)
          → esp + size ≡ ebp → base ≡ ebp + 8 + words + other → new + other ≡ base → top ≤ new + rest
      stacked top esp ebp size words other rest base new h e k l = omega arith

      far : (low more size base a : ℕ) → low + 4 ≤ more → more + 0x1000 + size ≤ base → base ≤ a + 4 → low + 4 ≤ a
      far low more size base a h k l = omega arith

      alike : AreAlike Active (active_of H)
      alike = (
        record { function = refl; arguments = refl; arrays = λ k elements e. (elements, e) },
        alike-waits waiting waiting (same-waits waiting),
      )

      -- a younger call of the same function with the same arguments waits alike
      moved : WaitFrom code Active (base ∷ rest) t w.activation base waiting rest
          → WaitFrom code (active_of H) (base ∷ rest) t H.current base waiting rest
      moved c = chain-kept code Active (active_of H) (base ∷ rest) t t w.activation base waiting waiting rest variables
          w.activation.arrays alike (b.sound).registers (b.sound).registers
          (waits-supported code waiting h (state.active.1).1) (same-waits waiting) (λ n a x reads e. e) c

      word-alike-of : (value : Value) (x : ℕ) → IsWord code Active (base ∷ rest) value x
          → IsWord code (active_of H) (base ∷ rest) value x
      word-alike-of value x is = word-alike code Active (active_of H) (base ∷ rest) value x alike is

      olds : (i : ℕ) (a : Activation) → slice_get (map (λ v. v.activation) waiting) i ≡ Some a → (v : ℕ) (value : Value)
          → slice_get a.variables v ≡ Some value → IsOldArray (suc (length waiting)) value
      olds i a e v value f =
          let some : suc (suc (length waiting)) - suc (suc i) ≤ suc (length waiting) = omega arith in
          old-deeper (suc (suc (length waiting)) - suc (suc i)) (suc (length waiting)) value some
          ((shown.old_arrays (suc (suc i)) a e).0 v value f)

      those : (i : ℕ) (a : Activation) (at : ℕ) → slice_get Active i ≡ Some a → slice_get (base ∷ rest) i ≡ Some at
          → ArgumentsStand code (active_of H) (base ∷ rest) t at a.arguments
      those i a at e f number value has =
          let there : slice_get shown.frames (suc i) ≡ Some at = ap (λ (fs : List ℕ). slice_get fs (suc i)) frames ∙ f
          in
          let held = shown.arguments (suc i) a at e there number value has in
          let up = zone-behind code (active_of G) shown.frames s w.activation base waiting rest i a at chain e f in
          let some : suc (suc (length waiting)) - suc i ≤ suc (length waiting) = omega arith in (
            held.0,
            b.kept 4 (at + 8 + 4 * number) held.0 (inr (inl (raised base at number up)))
                (lifted (data_start code.text) (data_end code) (frame_size code w.activation) base at number more large
                up) held.1,
            word-alike-of value held.0 (word-older code Active g.current shown.frames (word_of Ebp s) (base ∷ rest)
                (suc (length waiting)) value frames (within waiting)
                (old-deeper (suc (suc (length waiting)) - suc i) (suc (length waiting)) value some
                ((shown.old_arrays (suc i) a e).1 number value has)) held.0 held.2),
          )
        where
          raised : (base at k : ℕ) → base ≤ at → base ≤ at + 8 + 4 * k + 4
          raised base at k h = omega arith

          lifted : (low more size base at k : ℕ) → low + 4 ≤ more → more + 0x1000 + size ≤ base → base ≤ at
              → low + 4 ≤ at + 8 + 4 * k
          lifted low more size base at k h l m = omega arith

      passed : (i : ℕ) (a : Activation) (at : ℕ) → slice_get (active_of H) i ≡ Some a
          → slice_get (base ∷ rest) i ≡ Some at
          → ArgumentsStand code (active_of H) (base ∷ rest) t at a.arguments
      passed zero a at e f =
          subst (λ (c : Activation). ArgumentsStand code (active_of H) (base ∷ rest) t at c.arguments)
          (same_Some H.current a e) (those zero w.activation at refl f)
      passed (suc i) a at e f = those (suc i) a at e f

      olden : (i : ℕ) (a : Activation) → slice_get (active_of H) i ≡ Some a → HoldsOldArrays (depth_of H - i) a
      olden zero a e =
          let all : suc (length waiting) ≡ suc (length waiting) - 0 = omega arith in
          let same : suc (suc (length waiting)) - 1 ≡ suc (length waiting) - 0 = omega arith in
          subst (HoldsOldArrays (suc (length waiting) - 0)) (same_Some H.current a e) (
            (λ v value f. subst (λ (k : ℕ). IsOldArray k value) all (old v value f)),
            (subst (λ (k : ℕ). HoldsOldArrays k w.activation) same (shown.old_arrays 1 w.activation refl)).1,
          )
      olden (suc i) a e =
          let same : suc (suc (length waiting)) - suc (suc i) ≡ suc (length waiting) - suc i = omega arith in
          subst (λ (k : ℕ). HoldsOldArrays k a) same (shown.old_arrays (suc (suc i)) a e)

      arrays : (i : ℕ) (a : Activation) (at : ℕ) → slice_get (active_of H) i ≡ Some a
          → slice_get (base ∷ rest) i ≡ Some at → FrameArraysStand code t at a
      arrays zero a at e f =
          subst (FrameArraysStand code t at) (same_Some H.current a e)
          (arrays-behind h state shown frames chain room high large more b.kept zero w.activation at refl f)
      arrays (suc i) a at e f =
          arrays-behind h state shown frames chain room high large more b.kept (suc i) a at e f

  -- a value that the caller holds has the same word behind the call
  pub carried-back : (frames : List ℕ) → frames ≡ word_of Ebp s ∷ base ∷ rest → (value : Value)
      → IsOldArray (suc (length waiting)) value
      → Carried code (active_of G) (active_of H) frames (base ∷ rest) value
  carried-back frames same value old word is =
      word-alike code Active (active_of H) (base ∷ rest) value word (
        record { function = refl; arguments = refl; arrays = λ k elements e. (elements, e) },
        alike-waits waiting waiting (same-waits waiting),
      ) (word-older code Active g.current frames (word_of Ebp s) (base ∷ rest) (suc (length waiting)) value same
      (counted (length waiting) (length (map (λ (v : Waiting). v.activation) waiting))
      (length-map waiting (λ v. v.activation))) old word is)
    where
      counted : (n m : ℕ) → m ≡ n → suc n ≤ suc m
      counted n m e = omega arith
