-- The words and bytes of values that stand in places, and that they are words and bytes.
use Rattle.std.proofs.Common.{◌≡◌, ℕ, zero, suc, ◌+◌, ◌-◌, ◌*◌, ◌^◌, ◌<◌, ◌≤◌, List, [], ◌∷◌, Option, Some}
use Rattle.std.proofs.Common.{Ok}
use Rattle.std.proofs.Common.{refl, sym, subst, arith, length}
use Rattle.std.specs.Prelude.{slice_get}
use Rattle.std.proofs.lemmas.Option.{none-some, same_Some}
use Rattle.pcc_base.specs.Outcome.{Null, Static, InFrame, Unknown, Value, Number, Array}
use Rattle.pcc_base.specs.declared.run.Width.TheVariants.{One, Two}
use Rattle.pcc_base.proofs.Lists.{element-at}
use Rattle.ia32_insn.specs.declared.register_names.Reg32.TheVariants.{Esp, Ebp}
use Rattle.ia32_insn.specs.Places.{Place, InWord, InByte, InSlot}
use Rattle.ia32_insn.specs.State as machine
use Rattle.ia32_insn.specs.Meaning.{load, word_of, byte_of}
use Rattle.ia32_insn.specs.Items.{data_start, stack_end}
use Rattle.flow_graph.specs.States as graph
use Rattle.flow_graph.specs.States.{Activation, Waiting, active_of, depth_of, flow_at, value_at}
use Rattle.flow_graph.specs.WellFormed.{AreElementsIn, IsState}
use Rattle.flow_graph.proofs.Lists.{zip-second}
use Rattle.ia32_rows.specs.Placements.{Code, objects_of}
use Rattle.ia32_rows.specs.Shows.{IsByte, IsWord, ShowsIn, StandsIn, WaitFrom}
use Rattle.ia32_rows.proofs.Sound.{load-place}
use Rattle.ia32_rows.specs.Contains.{Contains}
use Rattle.ia32_laws.specs.Supports.{HoldsWidth, IsSupported}
use Rattle.ia32_laws.specs.KeepsLaws.{data_end}
use Rattle.ia32_laws.proofs.Zones.{bounds, frame_size}
use Rattle.ia32_laws.proofs.KeepsApart.{object-at}
use Rattle.ia32_laws.proofs.Regions.{call-above}
use Rattle.ia32_laws.proofs.Words.{byte-fits, word-fits}

-- ---- words of values are below 2 ^ 32

-- the return address above each frame is loaded
frame-returns : (code : Code) (active : List Activation) (frames : List ℕ) (s : machine.State) (younger : Activation)
    (frame : ℕ) (waiting : List Waiting) (older : List ℕ) (i f : ℕ)
    → WaitFrom code active frames s younger frame waiting older → slice_get (frame ∷ older) i ≡ Some f
    → (r : ℕ) × (load 4 (f + 4) s ≡ Ok r)
frame-returns code active frames s younger frame [] [] zero f (main, none, r, returns, behind) e =
    (r, subst (λ (k : ℕ). load 4 (k + 4) s ≡ Ok r) (same_Some frame f e) returns)
frame-returns code active frames s younger frame [] [] (suc i) f h e = absurd (none-some f e)
frame-returns code active frames s younger frame [] (k ∷ older) i f h e = absurd h
frame-returns code active frames s younger frame (w ∷ waiting) [] i f h e = absurd h
frame-returns code active frames s younger frame (w ∷ waiting) (k ∷ older) zero f h e =
    let one = h.0 in
    (one.return_address, subst (λ (x : ℕ). load 4 (x + 4) s ≡ Ok one.return_address) (same_Some frame f e) one.returns)
frame-returns code active frames s younger frame (w ∷ waiting) (k ∷ older) (suc i) f h e =
    frame-returns code active frames s w.activation k waiting older i f h.1 e

pub word-small : {places : ℕ → Option Place} {eip : ℕ}
    (code : Code) (input : List ℕ) (g : graph.State) (s : machine.State) (value : Value) (w : ℕ)
    → IsSupported code → IsState code.program g → (shown : ShowsIn code input places eip g s)
    → IsWord code (active_of g) shown.frames value w → w < 2 ^ 32
word-small code input g s (Number n) w supported state shown h =
    subst (λ (k : ℕ). k < 2 ^ 32) (sym h.1) (word-fits n h.0)
word-small code input g s (Array Null) w supported state shown h = omega (arith, h)
word-small code input g s (Array Unknown) w supported state shown h = absurd h
word-small code input g s (Array (Static k)) w supported state shown h =
    let (object, declared) = element-at code.program.objects k h.0 in
    let (elements, has, same) =
    zip-second AreElementsIn code.program.objects g.objects k object state.objects declared in
    let at = object-at code g k w elements object supported state has declared h.1 in
    let b = bounds code input g s supported state shown in
    let esp = b.esp in
    let fits = supported.fits in
    counted w (object.width * length elements) (data_end code) (word_of Esp s) (frame_size code g.current)
    (word_of Ebp s)
    (stack_end code.text (objects_of code.program)) at.high b.room b.esp b.top supported.fits
  where
    counted : (w m d x z e t : ℕ) → w + m ≤ d → d + 0x1000 ≤ x → x + z ≡ e → e + 8 ≤ t → t < 0x1_0000_0000 → w < 2 ^ 32
    counted w m d x z e t h i j k l = omega arith
word-small code input g s (Array (InFrame k depth)) w supported state shown h =
    let i : ℕ = length (active_of g) - depth in
    let b = bounds code input g s supported state shown in
    let at : slice_get (word_of Ebp s ∷ shown.older) i ≡ Some h.frame =
    subst (λ (fs : List ℕ). slice_get fs i ≡ Some h.frame) shown.youngest h.at_frame in
    let returns = frame-returns code (active_of g) shown.frames s g.current
    (word_of Ebp s) g.waiting shown.older i h.frame
    shown.chain at in
    let above = call-above code input g s i h.activation h.frame shown
    (record { is_active = h.of_depth; at_frame = h.at_frame }) in
    let top = load-place code.text (data_start code.text) (stack_end code.text (objects_of code.program)) 4
    (h.frame + 4)
    returns.0 s b.sound (low (data_start code.text) _ (word_of Esp s)
    (frame_size code h.activation) h.frame b.room above)
    returns.1 (omega arith) in
    counted w h.below h.frame (stack_end code.text (objects_of code.program)) h.address top supported.fits
  where
    low : (s m x z f : ℕ) → s + m + 0x1000 ≤ x → x + z ≤ f → s ≤ f + 4
    low s m x z f h k = omega arith

    counted : (w b f t : ℕ) → w + b ≡ f → f + 4 + 4 ≤ t → t < 0x1_0000_0000 → w < 2 ^ 32
    counted w b f t h i j = omega arith

-- ---- in places

-- the word of a value in a place
pub word-in : {places : ℕ → Option Place} {eip : ℕ}
    (code : Code) (input : List ℕ) (g : graph.State) (s : machine.State) (place : Place) (value : Value)
    → (shown : ShowsIn code input places eip g s) → HoldsWidth (Some Two) place
    → StandsIn code (active_of g) shown.frames s (word_of Ebp s) (Some Two) value place
    → (w : ℕ) × Contains s Two place w × IsWord code (active_of g) shown.frames value w
word-in code input g s (InWord r) value shown for h = (word_of r s, refl, h)
word-in code input g s (InByte r) value shown for h = absurd for
word-in code input g s (InSlot slot) value shown for h = (h.0, h.1, h.2)

-- the byte of a value in a place
pub byte-in : (code : Code) (g : graph.State) (frames : List ℕ) (s : machine.State) (place : Place) (value : Value)
    → HoldsWidth (Some One) place
    → StandsIn code (active_of g) frames s (word_of Ebp s) (Some One) value place
    → (b : ℕ) × Contains s One place b × IsByte value b
byte-in code g frames s (InWord r) value for h = absurd for
byte-in code g frames s (InByte r) value for h = (byte_of r s, refl, h)
byte-in code g frames s (InSlot slot) value for h = (h.0, h.1, h.2)

-- is a byte
pub byte-small : (value : Value) (b : ℕ) → IsByte value b → b < 256
byte-small (Number n) b h = subst (λ (k : ℕ). k < 256) (sym h.1) (byte-fits n h.0)
byte-small (Array a) b h = absurd h
