-- The frames that a map finds at a mark are those of the active calls.
use Rattle.std.proofs.Common.{◌≡◌, ℕ, suc, ◌+◌, List, [], ◌∷◌, length, map, Option, Some, Ok, refl, sym, ap, subst, ◌∙◌}
use Rattle.std.proofs.lemmas.List.{length-map}
use Rattle.c_tree.specs.Program.{Program}
use Rattle.ia32_insn.specs.Registers.{register}
use Rattle.ia32_insn.specs.declared.register_names.Reg32.TheVariants.{Ebp}
use Rattle.ia32_insn.specs.State as machine
use Rattle.ia32_insn.specs.Meaning.{load, word_of}
use Rattle.ia32_insn.specs.Items.{data_start, stack_end}
use Rattle.flow_graph.specs.States as graph
use Rattle.flow_graph.specs.States.{Activation, Waiting, active_of}
use Rattle.flow_graph.specs.WellFormed.{AreActivations, IsState}
use Rattle.ia32_rows.specs.Placements.{Code, objects_of}
use Rattle.ia32_rows.specs.Shows.{Shows, WaitFrom}
use Rattle.ia32_laws.proofs.Zones.{bounds}
use Rattle.map_text.specs.Maps.{Map}
use Rattle.map_text.specs.Marks.{Frame, MarkAt, caller_of, depth_of, frames_from, frames_of, word_at}
use Rattle.map_lines.specs.VisitsLaws.{frames_at}
use Rattle.map_lines.proofs.Found.{functions-told}
use Rattle.map_lines.proofs.Memory.{AreReadable, depth-read, load-number, sound-readable}
use Rattle.map_lines.proofs.Tells.{Tells}

-- from a frame on they are those of the calls that wait
chain-frames : (program : Program) (code : Code) (m : Map) (active : List Activation) (frames : List ℕ)
    (s : machine.State) (younger : Activation) (frame : ℕ) (waiting : List Waiting) (older : List ℕ)
    → Tells program code m → AreReadable s.memory
    → AreActivations code.program (younger ∷ map (λ w. w.activation) waiting)
    → WaitFrom code active frames s younger frame waiting older
    → frames_from m s.memory (suc (length waiting)) (Some frame) (Some younger.function)
    ≡ frames_at (younger ∷ map (λ w. w.activation) waiting) (frame ∷ older)
chain-frames program code m active frames s younger frame [] [] h readable keeps chain = refl
chain-frames program code m active frames s younger frame [] (o ∷ older) h readable keeps chain = absurd chain
chain-frames program code m active frames s younger frame (w ∷ waiting) [] h readable keeps chain = absurd chain
chain-frames program code m active frames s younger frame (w ∷ waiting) (o ∷ older) h readable keeps chain =
    let one = chain.0 in
    let n : ℕ = suc (length waiting) in
    let caller : Option ℕ = caller_of m (word_at (frame + 4) s.memory) in
    let link : word_at frame s.memory ≡ Some o = load-number 4 frame o s readable one.link in
    let back : caller ≡ Some w.activation.function =
    ap (caller_of m) (load-number 4 (frame + 4) one.return_address s readable one.returns)
    ∙ functions-told program code m w younger one.return_address h keeps.1.0.function one.calls one.returns_to in
    let rest = chain-frames program code m active frames s w.activation o waiting older h readable keeps.1 chain.1 in
    let mine : ℕ → Frame = λ d. record { address = frame; function = Some younger.function; depth = suc (suc d) } in
    let others : List Frame = frames_at (w.activation ∷ map (λ v. v.activation) waiting) (o ∷ older) in
    ap (λ (fs : List Frame). mine (length waiting) ∷ fs)
    (ap (λ (x : Option ℕ). frames_from m s.memory n x caller) link
    ∙ ap (λ (x : Option ℕ). frames_from m s.memory n (Some o) x) back ∙ rest)
    ∙ ap (λ (d : ℕ). mine d ∷ others) (sym (length-map waiting (λ (v : Waiting). v.activation)))

pub frames-told : (program : Program) (code : Code) (m : Map) (mark : MarkAt) (input : List ℕ) (g : graph.State)
    (s : machine.State) → Tells program code m → IsState code.program g → (shown : Shows code input g s)
    → mark.function ≡ g.current.function → frames_of m mark s ≡ frames_at (active_of g) shown.frames
frames-told program code m mark input g s h state shown same =
    let supported = h.is_selected.supported in
    let b = bounds code input g s supported state shown in
    let load-depth : load 4 (data_start code.text) s ≡ Ok (graph.depth_of g) =
    subst (λ (a : ℕ). load 4 a s ≡ Ok (graph.depth_of g)) supported.is_code.text.depth_is shown.depth in
    let depth : depth_of s.memory ≡ suc (length g.waiting) =
    depth-read code.text (data_start code.text) (stack_end code.text (objects_of code.program)) (graph.depth_of g) s
    b.sound load-depth in
    let readable = sound-readable code.text (data_start code.text) (stack_end code.text (objects_of code.program)) s
    b.sound in
    let ebp : Option ℕ = Some (register Ebp s.registers) in
    ap (λ (n : ℕ). frames_from m s.memory n ebp (Some mark.function)) depth
    ∙ ap (λ (f : ℕ). frames_from m s.memory (suc (length g.waiting)) ebp (Some f)) same
    ∙ chain-frames program code m (active_of g) shown.frames s g.current (word_of Ebp s) g.waiting shown.older h
    readable state.active shown.chain
    ∙ ap (frames_at (active_of g)) (sym shown.youngest)
