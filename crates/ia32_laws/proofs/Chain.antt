-- What stays shown of values, places and the calls that wait.
use Rattle.std.proofs.Common.{◌≡◌, ◌⊎◌, ℕ, suc, ◌+◌, ◌-◌, ◌<◌, ◌≤◌, ℤ, List, [], ◌∷◌, ◌++◌, length, take, drop}
use Rattle.std.proofs.Common.{get_or, Option, Some, None, Ok, inl, inr, refl, sym, ap, subst, ◌∙◌, arith, length-append}
use Rattle.std.specs.Prelude.{slice_get, slice_index}
use Rattle.std.specs.List.{AllByRecursion, AllZip}
use Rattle.std.proofs.lemmas.List.{get_or-append_right, get_or_append_left, length-take-le}
use Rattle.byteorder.specs.Endian.{little_bytes}
use Rattle.byteorder.specs.Numbers.{length-bytes_low_first}
use Rattle.pcc_base.specs.Outcome.{Null, Static, InFrame, Unknown, Value, Number, Array}
use Rattle.pcc_base.specs.declared.run.Width.{Width}
use Rattle.pcc_base.specs.declared.run.Width.TheVariants.{One, Two}
use Rattle.ia32_insn.specs.declared.register_names.Reg32.TheVariants.{Eax, Ecx, Edx, Ebx, Esp, Ebp, Esi, Edi}
use Rattle.ia32_insn.specs.declared.register_names.Reg8.TheVariants.{Al, Cl, Dl, Bl, Ah, Ch, Dh, Bh}
use Rattle.ia32_insn.specs.Registers.{AreRegisters, with_register}
use Rattle.ia32_insn.proofs.Registers.{little_from-same}
use Rattle.ia32_insn.specs.Places.{Place, InWord, InByte, InSlot}
use Rattle.ia32_insn.specs.State as machine
use Rattle.ia32_insn.specs.Meaning.{load, word_of, with_word}
use Rattle.flow_graph.specs.declared.op.Op.TheVariants as op
use Rattle.flow_graph.specs.States.{Activation, Waiting, flow_at}
use Rattle.ia32_rows.specs.Placements.{Code, placement_of}
use Rattle.ia32_rows.specs.Shows.{IsWord, IsByte, StandsIn, Waits, WaitFrom}
use Rattle.flow_graph.proofs.Lists.{zip-second}
use Rattle.ia32_rows.specs.Contains.{IsPlaceIn}
use Rattle.ia32_laws.specs.Supports.{IsSparedByCall, Supports}
use Rattle.ia32_laws.specs.Protected.{ChainReads, IsSame}

-- ---- active calls that are alike

-- an array of the same number is there
abbrev pub HasArrays : List (List ℤ) → List (List ℤ) → Type 0
HasArrays old new =
    (k : ℕ) (elements : List ℤ) → slice_get old k ≡ Some elements
    → (others : List ℤ) × (slice_get new k ≡ Some others)

-- a call of the same function, with the same argument words, that has arrays of the same numbers
pub record IsAlike (a b : Activation) : Type 0 where
  pub function : b.function ≡ a.function
  pub arguments : b.arguments ≡ a.arguments
  pub arrays : HasArrays a.arrays b.arrays

abbrev pub AreAlike : List Activation → List Activation → Type 0
AreAlike active others = AllZip IsAlike active others

zip-long : (xs ys : List Activation) → AreAlike xs ys → length ys ≡ length xs
zip-long [] [] h = refl
zip-long [] (y ∷ ys) h = absurd h
zip-long (x ∷ xs) [] h = absurd h
zip-long (x ∷ xs) (y ∷ ys) h = ap suc (zip-long xs ys h.1)

-- a value has the same word
pub word-alike : (code : Code) (active others : List Activation) (frames : List ℕ) (value : Value) (word : ℕ)
    → AreAlike active others → IsWord code active frames value word → IsWord code others frames value word
word-alike code active others frames (Number n) word alike h = h
word-alike code active others frames (Array Null) word alike h = h
word-alike code active others frames (Array (Static k)) word alike h = h
word-alike code active others frames (Array Unknown) word alike h = absurd h
word-alike code active others frames (Array (InFrame k depth)) word alike h =
    let long = zip-long active others alike in
    let (b, there, same) = zip-second IsAlike active others (length active - depth) h.activation alike h.of_depth in
    let (new, has) = same.arrays k h.elements h.has in
    record {
      oldest = h.oldest;
      youngest = subst (λ (n : ℕ). depth ≤ n) (sym long) h.youngest;
      activation = b;
      of_depth = subst (λ (n : ℕ). slice_get others (n - depth) ≡ Some b) (sym long) there;
      elements = new;
      has = has;
      frame = h.frame;
      at_frame = subst (λ (n : ℕ). slice_get frames (n - depth) ≡ Some h.frame) (sym long) h.at_frame;
      below = h.below;
      placed = subst (λ (f : ℕ). slice_get (placement_of code f).arrays k ≡ Some h.below) (sym same.function) h.placed;
      address = h.address;
    }

-- ---- places

-- a place contains what it contains
pub same-place : (base : ℕ) (place : Place) (s : machine.State) → IsSame base place s s
same-place base (InWord r) s = refl
same-place base (InByte r) s = refl
same-place base (InSlot slot) s = λ n w long e. e

-- a value stands in a place that contains what it did
pub stands-kept : (code : Code) (active others : List Activation) (frames : List ℕ) (s t : machine.State) (base : ℕ)
    (width : Option Width) (value : Value) (place : Place) → AreAlike active others → IsSame base place s t
    → StandsIn code active frames s base width value place → StandsIn code others frames t base width value place
stands-kept code active others frames s t base width value (InWord r) alike same h =
    word-alike code active others frames value (word_of r t) alike
    (subst (IsWord code active frames value) (sym same) h)
stands-kept code active others frames s t base width value (InByte r) alike same h =
    subst (IsByte value) (sym same) h
stands-kept code active others frames s t base (Some Two) value (InSlot slot) alike same h =
    (h.0, same 4 h.0 (inl refl) h.1, word-alike code active others frames value h.0 alike h.2)
stands-kept code active others frames s t base (Some One) value (InSlot slot) alike same h =
    (h.0, same 1 h.0 (inr refl) h.1, h.2)
stands-kept code active others frames s t base None value (InSlot slot) alike same h = absurd h

-- ---- EBX

-- the cells of EBX, where it was set
set-cell : (v i : ℕ) (xs : List ℕ) → length xs ≡ 32 → 12 ≤ i → i < 16
    → get_or (with_register Ebx v xs) i 0 ≡ get_or (little_bytes 4 v) (i - 12) 0
set-cell v i xs long low high =
    let front : length (take 12 xs) ≡ 12 = length-take-le 12 xs (omega arith) in
    let four = length-bytes_low_first 0 4 v in
    let both = length-append (take 12 xs) (little_bytes 4 v) in
    get_or_append_left (take 12 xs ++ little_bytes 4 v) (drop 16 xs) 0 i (omega arith)
    ∙ get_or-append_right (take 12 xs) (little_bytes 4 v) 12 i 0 front low

-- are the same in both states
same-cell : (v i : ℕ) (s t : machine.State) → AreRegisters s.registers → AreRegisters t.registers → 12 ≤ i → i < 16
    → slice_index (with_word Ebx v t).registers i ≡ slice_index (with_word Ebx v s).registers i
same-cell v i s t old new low high =
    set-cell v i t.registers new.cells low high ∙ sym (set-cell v i s.registers old.cells low high)

-- A place that calls spare is in EBX or a slot, and contains what it did once EBX has the same word.
pub spared-same : (v base : ℕ) (place : Place) (frame : ℕ) (s t : machine.State) → AreRegisters s.registers
    → AreRegisters t.registers → IsPlaceIn frame place → IsSparedByCall place
    → ((slot : ℕ) → place ≡ InSlot slot → IsSame base (InSlot slot) s t)
    → IsSame base place (with_word Ebx v s) (with_word Ebx v t)
spared-same v base (InWord Eax) frame s t old new inside spared slots = absurd (spared.0 refl)
spared-same v base (InWord Ecx) frame s t old new inside spared slots = absurd (spared.1 refl)
spared-same v base (InWord Edx) frame s t old new inside spared slots = absurd (spared.2 refl)
spared-same v base (InWord Ebx) frame s t old new inside spared slots =
    little_from-same 12 (with_word Ebx v t).registers (with_word Ebx v s).registers
    (λ m below. same-cell v (12 + m) s t old new (omega arith) (omega arith))
spared-same v base (InWord Esp) frame s t old new inside spared slots = absurd inside
spared-same v base (InWord Ebp) frame s t old new inside spared slots = absurd inside
spared-same v base (InWord Esi) frame s t old new inside spared slots = absurd inside
spared-same v base (InWord Edi) frame s t old new inside spared slots = absurd inside
spared-same v base (InByte Bl) frame s t old new inside spared slots =
    same-cell v 12 s t old new (omega arith) (omega arith)
spared-same v base (InByte Bh) frame s t old new inside spared slots =
    same-cell v 13 s t old new (omega arith) (omega arith)
spared-same v base (InByte Al) frame s t old new inside spared slots = absurd (no spared.0)
  where
    no : (0 < 0) ⊎ (4 ≤ 0) → ⊥
    no (inl h) = omega arith
    no (inr h) = omega arith
spared-same v base (InByte Ah) frame s t old new inside spared slots = absurd (no spared.0)
  where
    no : (1 < 0) ⊎ (4 ≤ 1) → ⊥
    no (inl h) = omega arith
    no (inr h) = omega arith
spared-same v base (InByte Cl) frame s t old new inside spared slots = absurd (no spared.1)
  where
    no : (4 < 4) ⊎ (8 ≤ 4) → ⊥
    no (inl h) = omega arith
    no (inr h) = omega arith
spared-same v base (InByte Ch) frame s t old new inside spared slots = absurd (no spared.1)
  where
    no : (5 < 4) ⊎ (8 ≤ 5) → ⊥
    no (inl h) = omega arith
    no (inr h) = omega arith
spared-same v base (InByte Dl) frame s t old new inside spared slots = absurd (no spared.2)
  where
    no : (8 < 8) ⊎ (12 ≤ 8) → ⊥
    no (inl h) = omega arith
    no (inr h) = omega arith
spared-same v base (InByte Dh) frame s t old new inside spared slots = absurd (no spared.2)
  where
    no : (9 < 8) ⊎ (12 ≤ 9) → ⊥
    no (inl h) = omega arith
    no (inr h) = omega arith
spared-same v base (InSlot slot) frame s t old new inside spared slots = slots slot refl

-- ---- calls that wait

-- a call with other variables and arrays
abbrev pub remade : List Value → List (List ℤ) → Activation → Activation
remade variables arrays a = record {
  function = a.function;
  arguments = a.arguments;
  variables = variables;
  arrays = arrays;
}

-- one that waits, with other arrays
abbrev pub wait_with : List (List ℤ) → Waiting → Waiting
wait_with arrays w = record {
  activation = remade w.activation.variables arrays w.activation;
  block = w.block;
  point = w.point;
}

pub record IsWaitAlike (w v : Waiting) : Type 0 where
  pub arrays : List (List ℤ)
  pub is : wait_with arrays w ≡ v
  pub has : HasArrays w.activation.arrays arrays

-- What is known of a program's functions and of the calls that wait: each function that waits supports its placement.
abbrev pub WaitsSupported : Code → List Waiting → Type 0
WaitsSupported code waiting =
    AllByRecursion (λ w. Supports (flow_at code.program w.activation.function)
    (placement_of code w.activation.function))
    waiting

-- the numbers in these places are as before
abbrev pub Loads : (ℕ → ℕ → Type 0) → machine.State → machine.State → Type 0
Loads K s t = (n a w : ℕ) → K a n → load n a s ≡ Ok w → load n a t ≡ Ok w

-- one link of the chain
link-kept : (code : Code) (active others : List Activation) (frames : List ℕ) (s t : machine.State)
    (younger : Activation) (frame : ℕ) (w : Waiting) (older : ℕ) (rest : List ℕ) (waiting : List Waiting)
    (variables : List Value) (arrays mine : List (List ℤ)) → AreAlike active others → AreRegisters s.registers
    → AreRegisters t.registers
    → Supports (flow_at code.program w.activation.function) (placement_of code w.activation.function)
    → Loads (ChainReads code (frame ∷ older ∷ rest) (w ∷ waiting)) s t
    → Waits code active frames s younger frame w older
    → Waits code others frames t (remade variables arrays younger) frame (wait_with mine w) older
link-kept code active others frames s t younger frame w older rest waiting variables arrays mine alike old new supports
    loads h =
    record {
      calls = record {
        placed = h.calls.placed;
        result = h.calls.result;
        words = h.calls.words;
        calls = h.calls.calls;
        passes = h.calls.passes;
      };
      link = loads 4 frame older (inl (inl (refl, refl))) h.link;
      higher = h.higher;
      return_address = h.return_address;
      returns = loads 4 (frame + 4) h.return_address (inl (inr (inl (refl, refl)))) h.returns;
      returns_to = h.returns_to;
      ebx = h.ebx;
      saved = loads 4 (frame - 4) h.ebx (inl (inr (inr (inl (refl, refl))))) h.saved;
      variables = λ v value place e other at.
          let point = supports.points w.point (op.Call h.calls.result younger.function h.calls.words)
          (w.block, h.calls.placed) h.calls.calls in
          let spared = (point.stays v place (λ f. other (sym f)) at).1 in
          let inside = (point.after v place at).inside in
          stands-kept code active others frames (with_word Ebx h.ebx s) (with_word Ebx h.ebx t) older
          (slice_get (flow_at code.program w.activation.function).widths v) value place alike
          (spared-same h.ebx older place (placement_of code w.activation.function).frame s t old new inside spared
          (λ slot is n word long. loads n (older - slot) word (inl (inr (inr (inr (record {
            variable = v;
            slot = slot;
            placed = at ∙ ap Some is;
            at_address = refl;
            long = long;
          })))))))
          (h.variables v value place e other at);
    }

-- the whole chain
pub chain-kept : (code : Code) (active others : List Activation) (frames : List ℕ) (s t : machine.State)
    (younger : Activation) (frame : ℕ) (waiting after : List Waiting) (older : List ℕ) (variables : List Value)
    (arrays : List (List ℤ)) → AreAlike active others → AreRegisters s.registers → AreRegisters t.registers
    → WaitsSupported code waiting → AllZip IsWaitAlike waiting after
    → Loads (ChainReads code (frame ∷ older) waiting) s t
    → WaitFrom code active frames s younger frame waiting older
    → WaitFrom code others frames t (remade variables arrays younger) frame after older
chain-kept code active others frames s t younger frame [] [] [] variables arrays alike old new supports same loads
    (main, none, r, returns, behind) =
    (main, none, r, loads 4 (frame + 4) r (refl, refl) returns, behind)
chain-kept code active others frames s t younger frame [] [] (k ∷ older) variables arrays alike old new supports same
    loads h = absurd h
chain-kept code active others frames s t younger frame [] (v ∷ after) older variables arrays alike old new supports same
    loads h = absurd same
chain-kept code active others frames s t younger frame (w ∷ waiting) [] older variables arrays alike old new supports
    same loads h = absurd same
chain-kept code active others frames s t younger frame (w ∷ waiting) (v ∷ after) [] variables arrays alike old new
    supports same loads h = absurd h
chain-kept code active others frames s t younger frame (w ∷ waiting) (v ∷ after) (k ∷ older) variables arrays alike old
    new supports same loads h =
    let one = same.0 in
    let link = link-kept code active others frames s t younger frame w k older waiting variables arrays one.arrays alike
    old new supports.0 loads h.0 in
    let rest = chain-kept code active others frames s t w.activation k waiting after older w.activation.variables
    one.arrays alike old new supports.1 same.1 (λ n a word reads. loads n a word (inr reads)) h.1 in
    subst (λ (u : Waiting). WaitFrom code others frames t (remade variables arrays younger) frame (u ∷ after)
    (k ∷ older)) one.is (link, rest)
