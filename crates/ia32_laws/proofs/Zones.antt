-- Where frames and what is read of them stand, above each other on the stack, and the data below them.
use Rattle.std.proofs.Common.{◌≡◌, ◌⊎◌, ℕ, zero, suc, ◌+◌, ◌-◌, ◌*◌, ◌<◌, ◌≤◌, List, [], ◌∷◌, length, Some}
use Rattle.std.proofs.Common.{Ok, Option, inl, inr, refl, sym, ap, subst, ◌∙◌, arith}
use Rattle.std.specs.Prelude.{map, max, slice_get}
use Rattle.std.proofs.Math.Nat.{le-max_left, le-max_right}
use Rattle.std.proofs.lemmas.Option.{none-some, same_Some, slice_get_within}
use Rattle.std.proofs.lemmas.List.{length-map}
use Rattle.pcc_base.specs.Objects.{Object}
use Rattle.ia32_insn.specs.declared.register_names.Reg32.TheVariants.{Esp, Ebp}
use Rattle.ia32_insn.specs.Places.{Place, InSlot}
use Rattle.ia32_insn.specs.State as machine
use Rattle.ia32_insn.specs.Meaning.{load, word_of}
use Rattle.ia32_insn.specs.Items.{data_bytes, data_start, round_up, stack_end}
use Rattle.flow_graph.specs.declared.op.Op.{Op}
use Rattle.flow_graph.specs.declared.op.Op.TheVariants as op
use Rattle.flow_graph.specs.Sizes.{most_words, words_of}
use Rattle.flow_graph.specs.States as graph
use Rattle.flow_graph.specs.States.{Activation, Waiting, active_of, flow_at}
use Rattle.flow_graph.specs.WellFormed.{AreActivations, AreWaiting, IsActivation, IsState}
use Rattle.flow_graph.specs.WellFormed.{IsWaiting}
use Rattle.ia32_rows.specs.Placements.{Code, objects_of, placement_of}
use Rattle.ia32_rows.specs.Shows.{ShowsIn, WaitFrom, stack_bytes}
use Rattle.ia32_rows.specs.Sites.{IsSound}
use Rattle.ia32_rows.proofs.Sound.{load-place}
use Rattle.ia32_laws.specs.Supports.{IsPlaceFor, IsSupported, Supports}
use Rattle.ia32_laws.specs.Protected.{ArgumentReads, ChainReads}
use Rattle.ia32_laws.specs.Protected.{SlotReads}
use Rattle.ia32_laws.specs.KeepsLaws.{InFrame, ShownInFrame, data_end}
use Rattle.ia32_laws.proofs.Memory.{areas-are, data-small, text-above}
use Rattle.ia32_laws.proofs.Chain.{WaitsSupported}
use Rattle.ia32_laws.proofs.Shown.{waits-supported}

-- ---- the bytes of the stack

-- no op passes more words than the most
pub words-most : (ops : List Op) (k : ℕ) (o : Op) → slice_get ops k ≡ Some o → words_of o ≤ most_words ops
words-most [] k o e = absurd (none-some o e)
words-most (p ∷ ops) zero o e =
    let first = le-max_left (words_of p) (most_words ops) in
    let same : words_of p ≡ words_of o = ap words_of (same_Some p o e) in
    subst (λ (n : ℕ). n ≤ max (words_of p) (most_words ops)) same first
words-most (p ∷ ops) (suc k) o e =
    below (words_of o) (most_words ops) (max (words_of p) (most_words ops)) (words-most ops k o e)
    (le-max_right (words_of p) (most_words ops))
  where
    below : (a b c : ℕ) → a ≤ b → b ≤ c → a ≤ c
    below a b c h k = omega arith

-- each call takes at most 0x4000 bytes, where its argument words count for the call that passes them
pub stack-small : (code : Code) (a : Activation) (waiting : List Waiting) → IsSupported code
    → AreActivations code.program (a ∷ map (λ w. w.activation) waiting) → AreWaiting code.program a waiting
    → stack_bytes code (a ∷ map (λ w. w.activation) waiting) + 4 * most_words (flow_at code.program a.function).ops
    ≤ 0x4000 * suc (length waiting)
stack-small code a [] h active waits =
    let none : length a.arguments ≡ 0 = ap length waits.1 in
    let bytes = h.bytes a.function active.0.function in
    counted (placement_of code a.function).frame (length a.arguments) (most_words (flow_at code.program a.function).ops)
    none bytes
  where
    counted : (f n m : ℕ) → n ≡ 0 → 8 + f + 4 * m ≤ 0x4000 → 8 + f + 4 * n + 0 + 4 * m ≤ 0x4000 * 1
    counted f n m e b = omega arith
stack-small code a (w ∷ waiting) h active waits =
    let bytes = h.bytes a.function active.0.function in
    let one = waits.0 in
    let many : length one.words ≡ length a.arguments =
    sym (length-map one.words (slice_get w.activation.variables)) ∙ ap length one.passes
    ∙ length-map a.arguments Some in
    let most = words-most (flow_at code.program w.activation.function).ops w.point
    (op.Call one.result a.function one.words) one.calls in
    let rest = stack-small code w.activation waiting h active.1 waits.1 in
    counted (placement_of code a.function).frame (length a.arguments) (most_words (flow_at code.program a.function).ops)
    (length one.words) (most_words (flow_at code.program w.activation.function).ops)
    (stack_bytes code (w.activation ∷ map (λ v. v.activation) waiting)) (length waiting) many most bytes rest
  where
    counted : (f n m k l r c : ℕ) → k ≡ n → k ≤ l → 8 + f + 4 * m ≤ 0x4000 → r + 4 * l ≤ 0x4000 * suc c
        → 8 + f + 4 * n + r + 4 * m ≤ 0x4000 * suc (suc c)
    counted f n m k l r c e h b s = omega arith

-- ---- in the frame

-- what is known of where the parts of a state stand
pub record Bounds (code : Code) (g : graph.State) (s : machine.State) : Type 0 where
  pub sound : IsSound code.text (data_start code.text) (stack_end code.text (objects_of code.program)) s
  pub esp : word_of Esp s + (placement_of code g.current.function).frame ≡ word_of Ebp s
  pub room : data_end code + 0x1000 ≤ word_of Esp s
  pub top : word_of Ebp s + 8 ≤ stack_end code.text (objects_of code.program)

-- the return address of the youngest call is in the data
pub returns-at : (code : Code) (active : List Activation) (frames : List ℕ) (s : machine.State) (younger : Activation)
    (frame : ℕ) (waiting : List Waiting) (older : List ℕ)
    → WaitFrom code active frames s younger frame waiting older → (r : ℕ) × (load 4 (frame + 4) s ≡ Ok r)
returns-at code active frames s younger frame [] [] (main, none, r, returns, behind) = (r, returns)
returns-at code active frames s younger frame [] (k ∷ older) h = absurd h
returns-at code active frames s younger frame (w ∷ waiting) [] h = absurd h
returns-at code active frames s younger frame (w ∷ waiting) (k ∷ older) h = (h.0.return_address, h.0.returns)

pub bounds : {places : ℕ → Option Place} {eip : ℕ}
    (code : Code) (input : List ℕ) (g : graph.State) (s : machine.State) → IsSupported code
    → IsState code.program g → ShowsIn code input places eip g s → Bounds code g s
bounds code input g s h state shown =
    let objects : List Object = objects_of code.program in
    let areas = areas-are code.text objects s.memory shown.shapes shown.text in
    let sound : IsSound code.text (data_start code.text) (stack_end code.text objects) s = record {
      bytes = areas.0;
      memory = areas.1;
      size = areas.2;
      above = text-above code.text;
      below = h.fits;
      small = data-small code.text (data_start code.text) areas.0 s.memory areas.1 shown.small;
      registers = shown.registers;
    } in
    let small = stack-small code g.current g.waiting h state.active state.waiting in
    let room : data_start code.text + length (data_bytes objects) + 0x1000 ≤ word_of Esp s =
    counted (data_start code.text) (length (data_bytes objects)) (word_of Esp s)
    (stack_bytes code (active_of g)) (most_words (flow_at code.program g.current.function).ops) (length g.waiting)
    shown.room small shown.few in
    let returns = returns-at code (active_of g) shown.frames s g.current (word_of Ebp s) g.waiting shown.older
    shown.chain in
    let low : data_start code.text ≤ word_of Ebp s + 4 =
    above (data_start code.text) (length (data_bytes objects)) (word_of Esp s)
    (placement_of code g.current.function).frame (word_of Ebp s) room shown.esp in
    let top = load-place code.text (data_start code.text) (stack_end code.text objects) 4
    (word_of Ebp s + 4) returns.0 s
    sound low returns.1 (omega arith) in
    record {
      sound = sound;
      esp = shown.esp;
      room = room;
      top = ended (word_of Ebp s)
          (stack_end code.text objects) top;
    }
  where
    counted : (low bytes esp stack words n : ℕ) → low + (round_up 4 bytes + 0x04001000) ≤ esp + stack
        → stack + 4 * words ≤ 0x4000 * suc n → suc n ≤ 4096 → low + bytes + 0x1000 ≤ esp
    counted low bytes esp stack words n room small few = omega arith

    above : (low bytes esp frame ebp : ℕ) → low + bytes + 0x1000 ≤ esp → esp + frame ≡ ebp → low ≤ ebp + 4
    above low bytes esp frame ebp room e = omega arith

    ended : (ebp high : ℕ) → ebp + 4 + 4 ≤ high → ebp + 8 ≤ high
    ended ebp high h = omega arith

-- so it is wherever variables stand
pub in-frame : {places : ℕ → Option Place} {eip : ℕ} (code : Code) (input : List ℕ) (g : graph.State)
    (s : machine.State) → IsSupported code → IsState code.program g → ShowsIn code input places eip g s
    → InFrame code g s
in-frame code input g s h state shown =
    let b = bounds code input g s h state shown in
    record {
      framed = record {
        sound = b.sound;
        esp = b.esp;
        room = enough (data_start code.text) (length (data_bytes (objects_of code.program))) (word_of Esp s) b.room;
        top = b.top;
      };
      room = b.room;
    }
  where
    enough : (low bytes esp : ℕ) → low + bytes + 0x1000 ≤ esp → low + 4 ≤ esp
    enough low bytes esp room = omega arith

pub shown-in-frame : ShownInFrame
shown-in-frame code input g s h state shown = in-frame code input g s h state shown

-- ---- zones

-- what is known of an active call
pub activation-at : (code : Code) (active : List Activation) (i : ℕ) (a : Activation)
    → AreActivations code.program active
    → slice_get active i ≡ Some a → (older : List ℕ) × IsActivation code.program older a
activation-at code [] i a h e = absurd (none-some a e)
activation-at code (b ∷ active) zero a h e =
    (_, subst (IsActivation code.program _) (same_Some b a e) h.0)
activation-at code (b ∷ active) (suc i) a h e = activation-at code active i a h.1 e

-- the bytes of a call's frame
abbrev pub frame_size : Code → Activation → ℕ
frame_size code a = (placement_of code a.function).frame

-- a call that waits is above the one for which it waits
zone-above : (code : Code) (active : List Activation) (frames : List ℕ) (s : machine.State) (younger : Activation)
    (frame : ℕ) (waiting : List Waiting) (older : List ℕ) (i : ℕ) (a : Activation) (f : ℕ)
    → WaitFrom code active frames s younger frame waiting older
    → slice_get (map (λ w. w.activation) waiting) i ≡ Some a → slice_get older i ≡ Some f
    → frame + 8 + 4 * length younger.arguments + frame_size code a ≤ f
zone-above code active frames s younger frame [] older i a f h e k = absurd (none-some a e)
zone-above code active frames s younger frame (w ∷ waiting) [] i a f h e k = absurd h
zone-above code active frames s younger frame (w ∷ waiting) (o ∷ older) zero a f h e k =
    let size : frame_size code w.activation ≡ frame_size code a =
    ap (λ (b : Activation). frame_size code b) (same_Some w.activation a e) in
    counted frame (4 * length younger.arguments) (frame_size code w.activation) (frame_size code a) o f h.0.higher size
    (same_Some o f k)
  where
    counted : (e n m p o f : ℕ) → o ≡ e + 8 + n + m → m ≡ p → o ≡ f → e + 8 + n + p ≤ f
    counted e n m p o f h s k = omega arith
zone-above code active frames s younger frame (w ∷ waiting) (o ∷ older) (suc i) a f h e k =
    let rest = zone-above code active frames s w.activation o waiting older i a f h.1 e k in
    counted frame (4 * length younger.arguments) (frame_size code w.activation) (4 * length w.activation.arguments)
    (frame_size code a) o f h.0.higher rest
  where
    counted : (e n m l p o f : ℕ) → o ≡ e + 8 + n + m → o + 8 + l + p ≤ f → e + 8 + n + p ≤ f
    counted e n m l p o f h s = omega arith

-- so is every older one
zones-above : (code : Code) (active : List Activation) (frames : List ℕ) (s : machine.State) (younger : Activation)
    (frame : ℕ) (waiting : List Waiting) (older : List ℕ) (i j : ℕ) (a b : Activation) (e f : ℕ)
    → WaitFrom code active frames s younger frame waiting older → i < j
    → slice_get (younger ∷ map (λ w. w.activation) waiting) i ≡ Some a → slice_get (frame ∷ older) i ≡ Some e
    → slice_get (younger ∷ map (λ w. w.activation) waiting) j ≡ Some b → slice_get (frame ∷ older) j ≡ Some f
    → e + 8 + 4 * length a.arguments + frame_size code b ≤ f
zones-above code active frames s younger frame waiting older i zero a b e f h lt g k l m = absurd (omega arith)
zones-above code active frames s younger frame waiting older zero (suc j) a b e f h lt g k l m =
    let above = zone-above code active frames s younger frame waiting older j b f h l m in
    subst (λ (c : Activation). e + 8 + 4 * length c.arguments + frame_size code b ≤ f) (same_Some younger a g)
    (subst (λ (x : ℕ). x + 8 + 4 * length younger.arguments + frame_size code b ≤ f) (same_Some frame e k) above)
zones-above code active frames s younger frame [] older (suc i) (suc j) a b e f h lt g k l m = absurd (none-some a g)
zones-above code active frames s younger frame (w ∷ waiting) [] (suc i) (suc j) a b e f h lt g k l m = absurd h
zones-above code active frames s younger frame (w ∷ waiting) (o ∷ older) (suc i) (suc j) a b e f h lt g k l m =
    zones-above code active frames s w.activation o waiting older i j a b e f h.1 (omega (arith, lt)) g k l m

-- an active call, and its frame
pub record IsCallAt (g : graph.State) (frames : List ℕ) (i : ℕ) (a : Activation) (f : ℕ) : Type 0 where
  pub is_active : slice_get (active_of g) i ≡ Some a
  pub at_frame : slice_get frames i ≡ Some f

-- an older call is above a younger one
pub calls-above : {places : ℕ → Option Place} {eip : ℕ}
    (code : Code) (input : List ℕ) (g : graph.State) (s : machine.State) (i j : ℕ) (a b : Activation)
    (e f : ℕ) → (shown : ShowsIn code input places eip g s) → i < j → IsCallAt g shown.frames i a e
    → IsCallAt g shown.frames j b f
    → e + 8 + 4 * length a.arguments + frame_size code b ≤ f
calls-above code input g s i j a b e f shown lt one two =
    zones-above code (active_of g) shown.frames s g.current
    (word_of Ebp s) g.waiting shown.older i j a b e f shown.chain
    lt one.is_active
    (subst (λ (fs : List ℕ). slice_get fs i ≡ Some e) shown.youngest one.at_frame) two.is_active
    (subst (λ (fs : List ℕ). slice_get fs j ≡ Some f) shown.youngest two.at_frame)

-- the youngest is the current one, at EBP
pub youngest-is : {places : ℕ → Option Place} {eip : ℕ}
    (code : Code) (input : List ℕ) (g : graph.State) (s : machine.State) (a : Activation) (f : ℕ)
    → (shown : ShowsIn code input places eip g s) → IsCallAt g shown.frames 0 a f
    → (g.current ≡ a) × (word_of Ebp s ≡ f)
youngest-is code input g s a f shown h = (
  same_Some g.current a h.is_active,
  same_Some (word_of Ebp s) f (subst (λ (fs : List ℕ). slice_get fs 0 ≡ Some f) shown.youngest h.at_frame),
)

-- ---- what is read of calls

-- a slot of a call that waits
pub record IsSlotOf (code : Code) (i : ℕ) (activation : Activation) (frame a n : ℕ) : Type 0 where
  pub waits : 0 < i
  pub variable : ℕ
  pub slot : ℕ
  pub place : IsPlaceFor (flow_at code.program activation.function) (placement_of code activation.function) variable
      (InSlot slot)
  pub at_address : a ≡ frame - slot
  pub long : n ≤ 4

-- it is read of an active call: from the word below its frame on, up to its last argument word, or a slot
pub record IsReadOf (code : Code) (g : graph.State) (frames : List ℕ) (a n : ℕ) : Type 0 where
  pub call : ℕ
  pub activation : Activation
  pub frame : ℕ
  pub is : IsCallAt g frames call activation frame
  pub part : ((frame ≤ a + 4) × (a + n ≤ frame + 8 + 4 * length activation.arguments))
      ⊎ IsSlotOf code call activation frame a n

-- the same over lists of calls and frames
record IsReadIn (code : Code) (active : List Activation) (frames : List ℕ) (a n : ℕ) : Type 0 where
  call : ℕ
  activation : Activation
  frame : ℕ
  is_active : slice_get active call ≡ Some activation
  at_frame : slice_get frames call ≡ Some frame
  part : ((frame ≤ a + 4) × (a + n ≤ frame + 8 + 4 * length activation.arguments))
      ⊎ IsSlotOf code call activation frame a n

-- one call more in front
read-behind : (code : Code) (active : List Activation) (frames : List ℕ) (b : Activation) (k a n : ℕ)
    → IsReadIn code active frames a n → IsReadIn code (b ∷ active) (k ∷ frames) a n
read-behind code active frames b k a n h =
    record {
      call = suc h.call;
      activation = h.activation;
      frame = h.frame;
      is_active = h.is_active;
      at_frame = h.at_frame;
      part = either h.part;
    }
  where
    either : ((h.frame ≤ a + 4) × (a + n ≤ h.frame + 8 + 4 * length h.activation.arguments))
        ⊎ IsSlotOf code h.call h.activation h.frame a n
        → ((h.frame ≤ a + 4) × (a + n ≤ h.frame + 8 + 4 * length h.activation.arguments))
        ⊎ IsSlotOf code (suc h.call) h.activation h.frame a n
    either (inl p) = inl p
    either (inr p) =
        inr (record {
          waits = omega arith;
          variable = p.variable;
          slot = p.slot;
          place = p.place;
          at_address = p.at_address;
          long = p.long;
        })

-- a word by the frame
by-frame : (code : Code) (active : List Activation) (frames : List ℕ) (b : Activation) (k a n : ℕ) → k ≤ a + 4
    → a + n ≤ k + 8 → IsReadIn code (b ∷ active) (k ∷ frames) a n
by-frame code active frames b k a n low high =
    record {
      call = 0;
      activation = b;
      frame = k;
      is_active = refl;
      at_frame = refl;
      part = inl (low, more (a + n) k (length b.arguments) high);
    }
  where
    more : (x y z : ℕ) → x ≤ y + 8 → x ≤ y + 8 + 4 * z
    more x y z h = omega arith

-- what a slot of the caller is
slot-read : (code : Code) (w : Waiting) (younger : Activation) (frame o a n : ℕ) (waiting : List Waiting)
    (older : List ℕ) → Supports (flow_at code.program w.activation.function) (placement_of code w.activation.function)
    → IsWaiting code.program w younger → SlotReads code w o a n
    → IsReadIn code (younger ∷ w.activation ∷ map (λ v. v.activation) waiting) (frame ∷ o ∷ older) a n
slot-read code w younger frame o a n waiting older supports waits h =
    let point = supports.points w.point (op.Call waits.result younger.function waits.words) (w.block, waits.placed)
    waits.calls in
    record {
      call = 1;
      activation = w.activation;
      frame = o;
      is_active = refl;
      at_frame = refl;
      part = inr (record {
        waits = omega arith;
        variable = h.variable;
        slot = h.slot;
        place = point.after h.variable (InSlot h.slot) h.placed;
        at_address = h.at_address;
        long = short n h.long;
      });
    }
  where
    short : (n : ℕ) → (n ≡ 4) ⊎ (n ≡ 1) → n ≤ 4
    short n (inl e) = omega arith
    short n (inr e) = omega arith

-- what the chain reads is read of one of its calls
chain-read : (code : Code) (frame : ℕ) (younger : Activation) (waiting : List Waiting) (older : List ℕ) (a n : ℕ)
    → WaitsSupported code waiting → AreWaiting code.program younger waiting
    → ChainReads code (frame ∷ older) waiting a n
    → IsReadIn code (younger ∷ map (λ w. w.activation) waiting) (frame ∷ older) a n
chain-read code frame younger [] older a n supports waits h =
    by-frame code [] older younger frame a n (omega (arith, h.0)) (omega (arith, h.0, h.1))
chain-read code frame younger (w ∷ waiting) [] a n supports waits h = absurd h
chain-read code frame younger (w ∷ waiting) (o ∷ older) a n supports waits (inl (inl h)) =
    by-frame code (w.activation ∷ map (λ v. v.activation) waiting) (o ∷ older) younger frame a n (omega (arith, h.0))
    (omega (arith, h.0, h.1))
chain-read code frame younger (w ∷ waiting) (o ∷ older) a n supports waits (inl (inr (inl h))) =
    by-frame code (w.activation ∷ map (λ v. v.activation) waiting) (o ∷ older) younger frame a n (omega (arith, h.0))
    (omega (arith, h.0, h.1))
chain-read code frame younger (w ∷ waiting) (o ∷ older) a n supports waits (inl (inr (inr (inl h)))) =
    by-frame code (w.activation ∷ map (λ v. v.activation) waiting) (o ∷ older) younger frame a n (omega (arith, h.0))
    (omega (arith, h.0, h.1))
chain-read code frame younger (w ∷ waiting) (o ∷ older) a n supports waits (inl (inr (inr (inr h)))) =
    slot-read code w younger frame o a n waiting older supports.0 waits.0 h
chain-read code frame younger (w ∷ waiting) (o ∷ older) a n supports waits (inr h) =
    read-behind code (w.activation ∷ map (λ v. v.activation) waiting) (o ∷ older) younger frame a n
    (chain-read code o w.activation waiting older a n supports.1 waits.1 h)

-- so the chain of a state does,
pub chain-read-of : {places : ℕ → Option Place} {eip : ℕ}
    (code : Code) (input : List ℕ) (g : graph.State) (s : machine.State) (a n : ℕ) → IsSupported code
    → IsState code.program g → (shown : ShowsIn code input places eip g s) → ChainReads code shown.frames g.waiting a n
    → IsReadOf code g shown.frames a n
chain-read-of code input g s a n supported state shown reads =
    let here : ChainReads code (word_of Ebp s ∷ shown.older) g.waiting a n =
    subst (λ (fs : List ℕ). ChainReads code fs g.waiting a n) shown.youngest reads in
    let h = chain-read code (word_of Ebp s) g.current g.waiting shown.older a n
    (waits-supported code g.waiting supported state.active.1) state.waiting here in
    record {
      call = h.call;
      activation = h.activation;
      frame = h.frame;
      is = record {
        is_active = h.is_active;
        at_frame = subst (λ (fs : List ℕ). slice_get fs h.call ≡ Some h.frame) (sym shown.youngest) h.at_frame;
      };
      part = h.part;
    }

-- and argument words are
pub argument-read-of : (code : Code) (g : graph.State) (frames : List ℕ) (a n : ℕ)
    → ArgumentReads (active_of g) frames a n → IsReadOf code g frames a n
argument-read-of code g frames a n h =
    let within = slice_get_within h.activation.arguments h.number h.value h.has in
    record {
      call = h.call;
      activation = h.activation;
      frame = h.frame;
      is = record { is_active = h.is_active; at_frame = h.at_frame };
      part = inl (
        low a h.frame h.number h.at_address,
        high a n h.frame h.number (length h.activation.arguments) h.at_address h.four within,
      );
    }
  where
    low : (a f k : ℕ) → a ≡ f + 8 + 4 * k → f ≤ a + 4
    low a f k e = omega arith

    high : (a n f k l : ℕ) → a ≡ f + 8 + 4 * k → n ≡ 4 → k < l → a + n ≤ f + 8 + 4 * l
    high a n f k l e g b = omega arith
