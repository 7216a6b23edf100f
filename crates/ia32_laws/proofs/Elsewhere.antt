-- States with another EIP, and where the next point of a block stands.
use Rattle.std.proofs.Common.{◌≡◌, ℕ, ◌+◌, ◌-◌, ◌^◌, ◌<◌, ◌≤◌, List, [], ◌∷◌, ◌++◌}
use Rattle.std.proofs.Common.{length, Option, Some, None, inl, inr, refl, ap, ◌∙◌, arith}
use Rattle.std.proofs.Common.{length-append}
use Rattle.std.specs.Prelude.{slice_get}
use Rattle.std.proofs.Math.Nat.{mod-eq_of_lt}
use Rattle.std.proofs.lemmas.Option.{none-some, same_Some}
use Rattle.pcc_base.specs.Outcome.{Value}
use Rattle.pcc_base.specs.declared.run.Width.{Width}
use Rattle.pcc_base.specs.declared.run.Width.TheVariants.{One, Two}
use Rattle.ia32_insn.specs.declared.register_names.Reg32.TheVariants.{Ebp}
use Rattle.ia32_insn.specs.Places.{Place, InWord, InByte, InSlot}
use Rattle.ia32_insn.specs.declared.item.Item.{Item}
use Rattle.ia32_insn.specs.State as machine
use Rattle.ia32_insn.specs.State.{at_address}
use Rattle.ia32_insn.specs.Meaning.{word_of}
use Rattle.ia32_insn.specs.Items.{data_memory, data_start, text_start}
use Rattle.flow_graph.specs.Graphs.{IsIn, following}
use Rattle.flow_graph.specs.States as graph
use Rattle.flow_graph.specs.States.{Activation, active_of, depth_of, flow_at, op_at, point_after, with_value}
use Rattle.flow_graph.proofs.Points.{choose}
use Rattle.ia32_rows.specs.Placements.{Code, objects_of}
use Rattle.ia32_rows.specs.Shows.{StandsIn}
use Rattle.ia32_rows.specs.Sites.{ReadyAt}
use Rattle.ia32_rows.proofs.Sound.{load-same}
use Rattle.ia32_rows.specs.Contains.{IsPlaceIn, Untouched}
use Rattle.ia32_rows.proofs.Moves.{byte-below, general-below}
use Rattle.ia32_laws.specs.Supports.{IsSupported, site_of}
use Rattle.ia32_laws.specs.Protected.{IsSame, KeepsShown}
use Rattle.ia32_laws.proofs.Memory.{text-above}

-- ---- the stack

-- ESP and EBP are in no place
pub stack-untouched : (frame k : ℕ) (p : Place) → IsPlaceIn frame p → 16 ≤ k → k < 24 → Untouched p k
stack-untouched frame k (InWord r) placed low high =
    let b = general-below r placed in (inr (omega arith), inl (omega arith), inl (omega arith))
stack-untouched frame k (InByte r) placed low high =
    let b = byte-below r in ((λ e. omega (arith, e)), inl (omega arith), inl (omega arith))
stack-untouched frame k (InSlot slot) placed low high = (tt, inl (omega arith), inl (omega arith))

-- ---- at another address

-- all that is kept is kept with another EIP
pub keeps-at : (code : Code) (g : graph.State) (frames : List ℕ) (set : Option ℕ) (address : ℕ) (s u : machine.State)
    → KeepsShown code g frames set s u → KeepsShown code g frames set s (at_address address u)
keeps-at code g frames set address s u keeps =
    record {
      esp = keeps.esp;
      ebp = keeps.ebp;
      protected = λ n a w reads e. load-same n a w u (at_address address u) refl (keeps.protected n a w reads e);
      others = λ v place distinct behind. elsewhere place (keeps.others v place distinct behind);
    }
  where
    elsewhere : (place : Place) → IsSame (word_of Ebp s) place s u
        → IsSame (word_of Ebp s) place s (at_address address u)
    elsewhere (InWord r) h = h
    elsewhere (InByte r) h = h
    elsewhere (InSlot slot) h = λ n w long e.
        load-same n (word_of Ebp s - slot) w u (at_address address u) refl (h n w long e)

-- and a value stands where it did
pub stands-at : (code : Code) (active : List Activation) (frames : List ℕ) (address : ℕ) (u : machine.State) (base : ℕ)
    (width : Option Width) (value : Value) (place : Place) → StandsIn code active frames u base width value place
    → StandsIn code active frames (at_address address u) base width value place
stands-at code active frames address u base width value (InWord r) h = h
stands-at code active frames address u base width value (InByte r) h = h
stands-at code active frames address u base (Some Two) value (InSlot slot) h =
    (h.0, load-same 4 (base - slot) h.0 u (at_address address u) refl h.1, h.2)
stands-at code active frames address u base (Some One) value (InSlot slot) h =
    (h.0, load-same 1 (base - slot) h.0 u (at_address address u) refl h.1, h.2)
stands-at code active frames address u base None value (InSlot slot) h = absurd h

-- ---- points and addresses

-- the next point is in the block
pub following-in : (p q : ℕ) (ps : List ℕ) → following p ps ≡ Some q → IsIn q ps
following-in p q [] e = absurd (none-some q e)
following-in p q (r ∷ rs) e =
    let P : Option ℕ → Type 0 = λ (o : Option ℕ). o ≡ Some q → IsIn q (r ∷ rs) in
    let by : P (following p (r ∷ rs)) = choose r p P (slice_get rs 0) (following p rs) (λ same k. inr (first-in rs k))
    (λ k. inr (following-in p q rs k)) in
    by e
  where
    first-in : (xs : List ℕ) → slice_get xs 0 ≡ Some q → IsIn q xs
    first-in [] k = absurd (none-some q k)
    first-in (x ∷ xs) k = inl (same_Some x q k)

-- what is ready is at an address of 32 bits
pub at-own-address : (code : Code) (f : ℕ) (items : List Item) (s : machine.State) → IsSupported code
    → ReadyAt (site_of code f) items s → at_address s.eip s ≡ s
at-own-address code f items s supported ready =
    let here = ready.here in
    let whole : length code.text ≡ length here.done + length (ready.bytes ++ here.rest) =
    ap length here.whole ∙ length-append here.done (ready.bytes ++ here.rest) in
    let above = text-above code.text in
    let small : s.eip < 2 ^ 32 = counted s.eip (length here.done) (length (ready.bytes ++ here.rest))
    (length code.text) (data_start code.text) (data_memory (objects_of code.program)) here.place whole above
    supported.fits in
    ap (λ (e : ℕ). let t : machine.State = record s { eip = e } in t) (mod-eq_of_lt small)
  where
    counted : (e d r n low m : ℕ) → e ≡ text_start + d → n ≡ d + r → text_start + n ≤ low → low + m < 0x1_0000_0000
        → e < 2 ^ 32
    counted e d r n low m h i j k = omega arith
