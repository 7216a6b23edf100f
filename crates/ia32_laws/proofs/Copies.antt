-- The machine follows a copy of a word.
use Rattle.std.proofs.Common.{◌≡◌, ℕ, false, ◌-◌, ◌%◌, List, Option, Some}
use Rattle.std.proofs.Common.{None}
use Rattle.std.proofs.Common.{refl, sym, subst, inl, arith}
use Rattle.std.proofs.Math.Nat.{mod-eq_of_lt}
use Rattle.pcc_base.specs.Outcome.{Value}
use Rattle.pcc_base.specs.declared.run.Width.{Width}
use Rattle.pcc_base.specs.declared.run.Width.TheVariants.{One, Two}
use Rattle.ia32_insn.specs.declared.register_names.Reg32.TheVariants.{Ebp}
use Rattle.ia32_insn.specs.Places.{Place, InWord, InByte, InSlot}
use Rattle.ia32_insn.specs.State as machine
use Rattle.ia32_insn.specs.Meaning.{word_of}
use Rattle.flow_graph.specs.declared.op.Op.TheVariants as op
use Rattle.flow_graph.specs.Meaning.{Moved, Stuck, given, sets}
use Rattle.flow_graph.specs.States as graph
use Rattle.flow_graph.specs.States.{Activation, Waiting, active_of, depth_of, flow_at, value_at}
use Rattle.flow_graph.specs.WellFormed.{IsState}
use Rattle.ia32_laws.proofs.Landing.{FollowsKept, followed}
use Rattle.ia32_rows.specs.Placements.{Code, placement_of}
use Rattle.ia32_rows.specs.Shows.{IsByte, IsOldArray, Shows, StandsIn}
use Rattle.ia32_rows.specs.Sites.{Framed, Site}
use Rattle.ia32_rows.specs.Rows.{copy_row}
use Rattle.ia32_rows.specs.Contains.{Contains, IsPlaceIn}
use Rattle.ia32_rows.proofs.Moves.{copy-puts, copy_byte-puts}
use Rattle.ia32_rows.proofs.Bytes.{copy_to_slot-puts}
use Rattle.ia32_rows.specs.Laws.{Puts}
use Rattle.ia32_laws.specs.Supports.{HoldsWidth, IsSupported, site_of}
use Rattle.ia32_laws.specs.KeepsOps.{CopyFollows, before_at}
use Rattle.ia32_laws.proofs.Shown.{point-supported}
use Rattle.ia32_laws.proofs.Zones.{shown-in-frame}
use Rattle.ia32_laws.proofs.Puts.{IsLow, puts-follow}
use Rattle.ia32_laws.proofs.Small.{byte-in, byte-small, word-in, word-small}
use Rattle.ia32_laws.proofs.Ops.{at-after, at-before, holds-word, op-is}

-- ---- the copy

-- a step with the value of a variable, where there is one
given-value : (P : Moved → Type 0) (o : Option Value) (go : Value → Moved) → P Stuck
    → ((value : Value) → o ≡ Some value → P (go value)) → P (given o go)
given-value P None go none some = none
given-value P (Some value) go none some = some value refl

-- what a copy to a place has to find there
record IsCopied (site : Site) (frame : ℕ) (from to : Place) (s : machine.State) (Low : ℕ → Type 0) : Type 0 where
  word : ℕ
  low : Low word
  puts : (u : machine.State) × Puts site frame (copy_row from to) to word s u

-- a byte to a place for one
byte-copied : (site : Site) (frame : ℕ) (from to : Place) (s : machine.State) (value : Value) (b : ℕ)
    → Framed site frame s → HoldsWidth (Some One) to → IsPlaceIn frame to → IsPlaceIn frame from
    → Contains s One from b → IsByte value b → IsCopied site frame from to s (λ w. IsByte value (w % 256))
byte-copied site frame from (InWord r) s value b framed for to_placed placed contains is = absurd for
byte-copied site frame from (InByte r) s value b framed for to_placed placed contains is =
    record {
      word = b;
      low = subst (IsByte value) (sym (mod-eq_of_lt (byte-small value b is))) is;
      puts = copy_byte-puts site frame r from b s framed placed contains (byte-small value b is);
    }
byte-copied site frame from (InSlot slot) s value b framed for to_placed placed contains is =
    let (w, same, u, puts) = copy_to_slot-puts site frame slot from b s framed to_placed placed contains
    (byte-small value b is) in
    record { word = w; low = subst (IsByte value) (sym same) is; puts = (u, puts) }

-- a variable's value by the width of both
copied : (code : Code) (input : List ℕ) (g : graph.State) (s : machine.State) (from to : Place) (value : Value)
    (width : Width) → IsSupported code → IsState code.program g → (shown : Shows code input g s)
    → Framed (site_of code g.current.function) (placement_of code g.current.function).frame s
    → HoldsWidth (Some width) to → HoldsWidth (Some width) from
    → IsPlaceIn (placement_of code g.current.function).frame to
    → IsPlaceIn (placement_of code g.current.function).frame from
    → StandsIn code (active_of g) shown.frames s (word_of Ebp s) (Some width) value from
    → IsCopied (site_of code g.current.function) (placement_of code g.current.function).frame from to s
    (λ w. IsLow code (active_of g) shown.frames (Some width) value w)
copied code input g s from to value Two supported state shown framed for_to for_from to_placed placed stands =
    let (w, contains, word) = word-in code input g s from value shown for_from stands in
    record {
      word = w;
      low = word;
      puts = copy-puts (site_of code g.current.function) (placement_of code g.current.function).frame to from w s framed
          (holds-word to for_to) to_placed (holds-word from for_from) placed contains
          (word-small code input g s value w supported state shown word);
    }
copied code input g s from to value One supported state shown framed for_to for_from to_placed placed stands =
    let (b, contains, byte) = byte-in code g shown.frames s from value for_from stands in
    byte-copied (site_of code g.current.function) (placement_of code g.current.function).frame from to s value b framed
    for_to to_placed placed contains byte

pub copy-follows : CopyFollows
copy-follows d a code input g s supported state shown has r =
    followed code input g s (op.Copy d a) false supported state has (
    given-value (FollowsKept code input s g false) (value_at g a) (sets code.program g d) tt (λ value e.
    let here = point-supported code g (op.Copy d a) supported state has in
    let fits = (op-is code g (op.Copy d a) supported state has).fits in
    let width : Width = fits.0.0 in
    let (to, at) = here.written d refl in
    let (from, before) = here.read a (inl refl) in
    let for_to = here.after d to at in
    let for_from = here.before a from before in
    let one : HoldsWidth (Some width) to = subst (λ (w : Option Width). HoldsWidth w to) fits.0.1 for_to.holds in
    let two : HoldsWidth (Some width) from =
    subst (λ (w : Option Width). HoldsWidth w from) fits.0.2 for_from.holds in
    let stands = subst (λ (w : Option Width).
    StandsIn code (active_of g) shown.frames s (word_of Ebp s) w value from) fits.0.2
    (shown.variables a value from e before) in
    let framed = (shown-in-frame code input g s supported state shown).framed in
    let c = copied code input g s from to value width supported state shown framed one two for_to.inside for_from.inside
    stands in
    let all : depth_of g - 0 ≡ depth_of g = omega arith in
    puts-follow code input g s (op.Copy d a) d c.word value to (copy_row from to) supported state shown has refl
    (λ next h. h)
    (at-before code g s a from (λ p. copy_row p to) before
    (at-after code g s d to (λ p. copy_row (before_at code g a) p) at r)) at c.puts
    (subst (λ (v : Option Width). IsLow code (active_of g) shown.frames v value c.word) (sym fits.0.1) c.low)
    (subst (λ (k : ℕ). IsOldArray k value) all ((shown.old_arrays 0 g.current refl).0 a value e))))
