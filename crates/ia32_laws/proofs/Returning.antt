-- A return comes back to its caller, or to the end.
use Rattle.std.proofs.Common.{◌≡◌, ℕ, ◌+◌, ◌%◌, ◌^◌, ◌<◌, ◌≤◌, ℤ, false, List, [], ◌∷◌, ◌++◌, length, Option, Some}
use Rattle.std.proofs.Common.{None, Ok, inl, refl, sym, ap, subst, ◌∙◌, arith, length-append}
use Rattle.std.specs.Int.{w32, cast_unsigned}
use Rattle.pcc_base.specs.Outcome.{Ended}
use Rattle.ia32_insn.specs.declared.register_names.Reg32.TheVariants.{Eax, Ebp}
use Rattle.ia32_insn.specs.declared.item.Item.{Item}
use Rattle.ia32_insn.specs.State as machine
use Rattle.ia32_insn.specs.Items.{data_start, stack_end, text_start}
use Rattle.ia32_insn.specs.Meaning as moved
use Rattle.ia32_insn.specs.Meaning.{load, word_of}
use Rattle.ia32_insn.specs.Runs.{Steps}
use Rattle.flow_graph.specs.declared.op.Op.{Op}
use Rattle.flow_graph.specs.declared.op.Op.TheVariants as op
use Rattle.flow_graph.specs.Meaning.{Moved, Stuck, given, low_byte, result_to, returns_to, back_to}
use Rattle.flow_graph.specs.States as graph
use Rattle.flow_graph.specs.States.{Waiting, active_of, flow_at, number_at, op_at, op_of, value_at}
use Rattle.flow_graph.specs.WellFormed.{IsState}
use Rattle.flow_graph.proofs.Values.{number-is}
use Rattle.ia32_laws.proofs.Landing.{FollowsKept, followed}
use Rattle.ia32_rows.specs.Placements.{Code, objects_of}
use Rattle.ia32_rows.specs.Shows.{Shows, StartReturns, WaitFrom}
use Rattle.ia32_rows.specs.Sites.{Site, StandsFrom}
use Rattle.ia32_rows.proofs.Steps.{comes-then}
use Rattle.ia32_rows.specs.CallsLaws.{Returned}
use Rattle.ia32_rows.proofs.Ending.{ending-halts}
use Rattle.ia32_rows.specs.Rows.{return_row}
use Rattle.ia32_laws.specs.Supports.{IsSupported, site_of}
use Rattle.ia32_laws.proofs.Memory.{text-above}
use Rattle.ia32_laws.proofs.Ops.{at-before, has-number, op-is}
use Rattle.ia32_laws.proofs.Words.{word-fits}
use Rattle.ia32_laws.proofs.Zones.{frame_size, shown-in-frame}
use Rattle.ia32_laws.proofs.Leaving.{BringsEbx, leave-whole, return-whole}
use Rattle.ia32_laws.specs.Returns.{ReturnFollows, StandsBehind}
use Rattle.ia32_laws.proofs.Resuming.{IsResult, Waited, resume-follows}
use Rattle.ia32_laws.proofs.EntriesCalling.{given-some}

-- ---- addresses

-- what stands in the text is at an address of 32 bits
address-fits : (code : Code) (f : ℕ) (items : List Item) (address : ℕ) → IsSupported code
    → StandsFrom (site_of code f) items address → address < 2 ^ 32
address-fits code f items address h stands =
    let here = stands.here in
    counted address (length here.done) (length (stands.bytes ++ here.rest)) (length code.text) (data_start code.text)
    (stack_end code.text (objects_of code.program)) here.place
    (ap length here.whole ∙ length-append here.done (stands.bytes ++ here.rest)) (text-above code.text)
    (below (data_start code.text) _) h.fits
  where
    below : (low m : ℕ) → low ≤ low + m
    below low m = omega arith

    counted : (e d r n low high : ℕ) → e ≡ text_start + d → n ≡ d + r → text_start + n ≤ low → low ≤ high
        → high < 0x1_0000_0000 → e < 2 ^ 32
    counted e d r n low high h i j k l = omega arith

-- so is the address behind the start's call
start-fits : (code : Code) (address : ℕ) → IsSupported code → StartReturns code address → address < 2 ^ 32
start-fits code address h (before, after, places, start, end, (done, rest, whole, place), is) =
    counted address (length done) (length before) (length after) (length ((before ++ after) ++ rest))
    (length (before ++ after)) (length rest) (length code.text) (data_start code.text)
    (stack_end code.text (objects_of code.program)) (ap length whole ∙ length-append done ((before ++ after) ++ rest))
    (length-append (before ++ after) rest) (length-append before after) is (text-above code.text)
    (below (data_start code.text) _) h.fits
  where
    below : (low m : ℕ) → low ≤ low + m
    below low m = omega arith

    counted : (e d b a x y r n low high : ℕ) → n ≡ d + x → x ≡ y + r → y ≡ b + a → e ≡ text_start + b
        → text_start + n ≤ low → low ≤ high → high < 0x1_0000_0000 → e < 2 ^ 32
    counted e d b a x y r n low high f g i j k l m = omega arith

-- ---- where it leads

-- a return to any address, with a word in EAX
abbrev Leaves : Code → graph.State → ℕ → machine.State → Type 0
Leaves code g x s =
    (r : ℕ) → load 4 (word_of Ebp s + 4) s ≡ Ok r → r < 2 ^ 32
    → (u : machine.State) × Returned (site_of code g.current.function) x r s u × BringsEbx s u

-- this many calls wait
abbrev waited : graph.State → List Waiting → graph.State
waited g ws = record g { waiting = ws }

finish : (code : Code) (input : List ℕ) (g : graph.State) (s : machine.State) (n : Option ℤ) (x : ℕ)
    (ws : List Waiting) (older : List ℕ) → IsSupported code → IsState code.program (waited g ws)
    → (shown : Shows code input (waited g ws) s) → shown.older ≡ older → StandsBehind code (waited g ws)
    → WaitFrom code (active_of (waited g ws)) shown.frames s g.current (word_of Ebp s) ws older
    → IsResult n x → Leaves code g x s
    → FollowsKept code input s (waited g ws) false (returns_to code.program (waited g ws) ws n)
finish code input g s None x [] [] h state shown same behind (main, none, r, returns, back) is leaves = tt
finish code input g s (Some n) x [] [] h state shown same behind (main, none, r, returns, back) is leaves =
    let p = leaves r returns (start-fits code r h back) in
    let u : machine.State = p.0 in
    let site : Site = site_of code g.current.function in
    let end = ending-halts code.symbols code.text (objects_of code.program) code.program.main site.low site.high x u
    (p.1).sound (subst (StartReturns code) (sym (p.1).eip) back) (p.1).eax in
    let t : machine.State = end.0 in
    let byte : x % 256 ≡ low_byte n = ap (λ (w : ℕ). w % 256) is.1 in
    let halts : Steps t (moved.Halts (Ended (low_byte n))) =
    subst (λ (k : ℕ). Steps t (moved.Halts (Ended k))) byte (end.1).halts in (
      t,
      comes-then code.text s u t (p.1).comes (end.1).comes,
      (end.1).clear,
      halts,
      (end.1).taken ∙ (p.1).taken ∙ shown.taken,
      (end.1).written ∙ (p.1).written ∙ shown.written,
    )
finish code input g s n x [] (k ∷ older) h state shown same behind chain is leaves = absurd chain
finish code input g s n x (w ∷ ws) [] h state shown same behind chain is leaves = absurd chain
finish code input g s n x (w ∷ ws) (k ∷ rest) h state shown same behind chain is leaves =
    let link = chain.0 in
    let all : Waited code input g s w ws k rest = record {
      supported = h;
      state = state;
      shown = shown;
      frames = shown.youngest ∙ ap (λ (o : List ℕ). word_of Ebp s ∷ o) same;
      link = link;
      chain = chain.1;
    } in
    let calls = link.calls in
    let at = behind w ws calls.result calls.words link.return_address refl calls.calls link.returns_to in
    let p = leaves link.return_address link.returns
    (address-fits code w.activation.function _ link.return_address h at.stands) in
    subst (λ (o : Option Op). FollowsKept code input s (waited g (w ∷ ws)) false
    (result_to code.program (back_to g w ws) n o)) (sym calls.calls)
    (resume-follows code input g s p.0 w ws k rest n x link.return_address all p.1 p.2 is at)

-- ---- the law

pub return-follows : ReturnFollows
return-follows None code input g s h state shown has at behind =
    followed code input g s (op.Return None) false h state has (
    finish code input g s None (word_of Eax s) g.waiting shown.older h state shown refl behind shown.chain tt
    (λ r held fits. leave-whole (site_of code g.current.function) (frame_size code g.current) (word_of Eax s) r at.rest
    s (shown-in-frame code input g s h state shown).framed
    ((h.supports g.current.function (state.active.0).function).four_words) refl held fits at.ready))
return-follows (Some a) code input g s h state shown has at behind =
    followed code input g s (op.Return (Some a)) false h state has (
    given-some (FollowsKept code input s g false) (number_at g a)
    (λ n. returns_to code.program g g.waiting (Some n)) tt (λ n e.
    let known = op-is code g (op.Return (Some a)) h state has in
    let held = has-number code input g s (op.Return (Some a)) a n h state shown has (inl refl) (known.fits).0
    (number-is (value_at g a) n e) in
    let row = at-before code g s a held.place (λ p. return_row p) held.at at in
    finish code input g s (Some n) (cast_unsigned w32 n) g.waiting shown.older h state shown refl behind shown.chain
    (held.fits, refl)
    (λ r there fits. return-whole (site_of code g.current.function) (frame_size code g.current) held.place
    (cast_unsigned w32 n) r row.rest s (shown-in-frame code input g s h state shown).framed
    ((h.supports g.current.function (state.active.0).function).four_words) held.holds held.inside held.contains
    (word-fits n held.fits) there fits row.ready)))
