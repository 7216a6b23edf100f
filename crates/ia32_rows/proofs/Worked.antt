-- The examples of what the relation refuses, and of calls that wait.
use Rattle.std.proofs.Common.{◌≡◌, ℕ, ◌<◌, List, [], ◌∷◌, Option, Some, None, sym, ap, subst, ◌∙◌, arith}
use Rattle.std.specs.Prelude.{slice_get}
use Rattle.std.proofs.lemmas.Option.{none-some}
use Rattle.pcc_base.specs.Bytes.{AreBytes}
use Rattle.ia32_insn.specs.declared.register_names.Reg32.TheVariants.{Ebp}
use Rattle.ia32_insn.specs.State as machine
use Rattle.ia32_insn.specs.Meaning.{word_of}
use Rattle.flow_graph.specs.States as graph
use Rattle.flow_graph.specs.States.{Activation, Waiting, active_of}
use Rattle.ia32_rows.specs.Placements.{Code}
use Rattle.ia32_rows.specs.Shows.{WaitFrom}
use Rattle.ia32_rows.specs.ShowsWorked.{InputsAreBytes, NoneAboveTheStack, NoneBeyondTheArrays, NoneBeyondTheObjects}
use Rattle.ia32_rows.specs.ShowsWorked.{OldestIsMain, WaitingCalls, WaitsForCurrent}

-- 2^32 is no byte
no-bytes : AreBytes (0x1_0000_0000 ∷ []) → ⊥
no-bytes h = let one : 0x1_0000_0000 < 256 = h 0 0 (omega arith) in omega (arith, one)

pub inputs-are-bytes : InputsAreBytes
inputs-are-bytes = (no-bytes, λ program g is h. no-bytes (subst AreBytes is h.left))

pub none-above : NoneAboveTheStack
none-above code active frames k depth word above h = let within = h.youngest in omega arith

pub none-beyond-arrays : NoneBeyondTheArrays
none-beyond-arrays code a frames k word none h =
    let is : Some a ≡ Some h.activation = h.of_depth in
    let same : a ≡ h.activation = ap (λ (o : Option Activation). from_option a o) is in
    none-some h.elements (sym none ∙ ap (λ (b : Activation). slice_get b.arrays k) same ∙ h.has)
  where
    from_option : Activation → Option Activation → Activation
    from_option b None = b
    from_option b (Some c) = c

pub none-beyond-objects : NoneBeyondTheObjects
none-beyond-objects code active frames k word beyond h = let within = h.0 in omega arith

-- the first of the calls that wait
first-waits : (code : Code) (g : graph.State) (s : machine.State) (active : List Activation) (frames : List ℕ)
    (w : Waiting)
    (waiting : List Waiting) (older : List ℕ)
    → WaitFrom code active frames s g.current (word_of Ebp s) (w ∷ waiting) older
    → WaitsForCurrent code g s w
first-waits code g s active frames w waiting [] h = absurd h
first-waits code g s active frames w waiting (o ∷ older) h =
    let one = h.0 in
    record {
      result = one.calls.result;
      words = one.calls.words;
      calls = one.calls.calls;
      return_address = one.return_address;
      returns = one.returns;
      returns_to = one.returns_to;
      ebx = one.ebx;
      saved = one.saved;
    }

pub waiting-calls : WaitingCalls
waiting-calls code input g s w waiting shown is =
    let C : List Waiting → Type 0 = λ (ws : List Waiting).
    WaitFrom code (active_of g) shown.frames s g.current (word_of Ebp s) ws shown.older in
    first-waits code g s (active_of g) shown.frames w waiting shown.older (subst C is shown.chain)

-- what no call waits for is main
main-oldest : (code : Code) (g : graph.State) (s : machine.State) (active : List Activation) (frames : List ℕ)
    (older : List ℕ)
    → WaitFrom code active frames s g.current (word_of Ebp s) [] older
    → (g.current.function ≡ code.program.main) × (g.current.arguments ≡ [])
main-oldest code g s active frames [] h = (h.0, h.1)
main-oldest code g s active frames (o ∷ older) h = absurd h

pub oldest-is-main : OldestIsMain
oldest-is-main code input g s shown is =
    let C : List Waiting → Type 0 = λ (ws : List Waiting).
    WaitFrom code (active_of g) shown.frames s g.current (word_of Ebp s) ws shown.older in
    main-oldest code g s (active_of g) shown.frames shown.older (subst C is shown.chain)
