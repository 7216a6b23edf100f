-- Plain instructions in a frame: reads and writes of the words below EBP, and work on the scratch registers.
use Rattle.std.proofs.Common.{◌≡◌, ◌≢◌, ℕ, zero, suc, ◌+◌, ◌-◌, ◌%◌, ◌^◌, ◌<◌, ◌≤◌, ℤ, List, ◌∷◌, Option, Some, Ok}
use Rattle.std.proofs.Common.{refl, sym, ap, subst, ◌∙◌, arith}
use Rattle.std.specs.Prelude.{Result}
use Rattle.std.specs.Int.{w32, cast_unsigned}
use Rattle.pcc_base.specs.Outcome.{End}
use Rattle.ia32_insn.specs.declared.register_names.Reg32.{Reg32}
use Rattle.ia32_insn.specs.declared.register_names.Reg32.TheVariants.{Esp, Ebp}
use Rattle.ia32_insn.specs.Registers.{number32, register}
use Rattle.ia32_insn.specs.declared.operand.Rm32.TheVariants as rm
use Rattle.ia32_insn.specs.declared.insn.AluOp.{AluOp}
use Rattle.ia32_insn.specs.declared.insn.Insn.{Insn}
use Rattle.ia32_insn.specs.declared.insn.Insn.TheVariants as insn
use Rattle.ia32_insn.specs.declared.item.Item.{Item}
use Rattle.ia32_insn.specs.declared.item.Item.TheVariants as item
use Rattle.ia32_insn.specs.declared.flags.Flags.{Flags}
use Rattle.ia32_insn.specs.State.{State, at_address}
use Rattle.ia32_insn.specs.Arithmetic.{alu_value, alu_flags}
use Rattle.ia32_insn.specs.Meaning.{and_then, address_of, load, store, word_of, with_word, with_flags, operate, effect}
use Rattle.ia32_insn.specs.Meaning.{target}
use Rattle.ia32_insn.specs.Keeps.{AreDisjoint}
use Rattle.ia32_rows.specs.Placements.{below}
use Rattle.ia32_rows.proofs.Sound.{store-in, load-same, sound-with_word, sound-at, sound-with_flags, word-same}
use Rattle.ia32_rows.proofs.Sound.{word-other, word-below}
use Rattle.ia32_rows.proofs.Spelled.{IsCommon}
use Rattle.ia32_rows.proofs.Steps.{comes-then, plain-goes}
use Rattle.ia32_rows.specs.Sites.{Site, ReadyAt, Framed, Went}

pub went-then : (site : Site) (frame : ℕ) (one two : List Item) (K : ℕ → ℕ → Type 0) (first out : List ℕ)
    (s t u : State) → Went site frame one K first s t → Went site frame two K out t u → Went site frame two K out s u
went-then site frame one two K first out s t u a b =
    record {
      comes = comes-then site.text s t u a.comes b.comes;
      ready = b.ready;
      framed = b.framed;
      ebp = b.ebp ∙ a.ebp;
      esp = b.esp ∙ a.esp;
      left = b.left ∙ a.left;
      taken = b.taken ∙ a.taken;
      written = b.written;
      kept = λ n c w k e. b.kept n c w k (a.kept n c w k e);
    }

-- the address so far below EBP
pub below-address : (distance : ℕ) (s : State) → 0 < distance → distance ≤ word_of Ebp s → word_of Ebp s < 0x1_0000_0000
    → address_of (below distance) s ≡ word_of Ebp s - distance
below-address zero s some h fits = absurd (omega arith)
below-address (suc n) s some h fits =
    let e : ℕ = word_of Ebp s in
    let m : (e + 0 + (0x1_0000_0000 - suc n)) % 0x1_0000_0000 ≡ e - suc n = omega arith in m

-- a register and the flags changed
abbrev pub with_result : Reg32 → ℕ → Option Flags → State → State
with_result r v flags s = with_flags flags (with_word r v s)

-- a change of a register other than ESP and EBP
pub register-went : (site : Site) (frame : ℕ) (items : List Item) (K : ℕ → ℕ → Type 0) (i : Insn) (r : Reg32) (v : ℕ)
    (flags : Option Flags) (s : State) → Framed site frame s → ReadyAt site (item.Plain i ∷ items) s → IsCommon i
    → number32 Ebp ≢ number32 r → number32 Esp ≢ number32 r
    → ((after : ℕ) → effect i after s ≡ Ok (with_result r v flags s)) → ((after : ℕ) → target i after s ≡ Ok after)
    → (address : ℕ) × Went site frame items K s.written s (at_address address (with_result r v flags s))
register-went site frame items K i r v flags s framed ready common b p e k =
    let t : State = with_result r v flags s in
    let went = plain-goes site.symbols site.places site.text site.low site.high i items s t framed.sound ready common e
    k in
    let ebp : word_of Ebp t ≡ word_of Ebp s = word-other site.text site.low site.high Ebp r v s framed.sound b in
    let esp : word_of Esp t ≡ word_of Esp s = word-other site.text site.low site.high Esp r v s framed.sound p in (
      went.0,
      record {
        comes = went.1;
        ready = went.2;
        framed = record {
          sound = sound-at site.text site.low site.high went.0 t
              (sound-with_flags site.text site.low site.high flags (with_word r v s)
              (sound-with_word site.text site.low site.high r v s framed.sound));
          esp = ap (λ (k : ℕ). k + frame) esp
              ∙ framed.esp ∙ sym ebp;
          room = subst (λ (k : ℕ). site.low + 4 ≤ k) (sym esp) framed.room;
          top =
              subst (λ (k : ℕ). k + 8 ≤ site.high) (sym ebp) framed.top;
        };
        ebp = ebp;
        esp = esp;
        left = refl;
        taken = refl;
        written = refl;
        kept = λ n c w held l. load-same n c w s (at_address went.0 t) refl l;
      },
    )

-- the words of registers after one of them was changed
pub record Changed (r : Reg32) (v : ℕ) (s u : State) : Type 0 where
  pub value : word_of r u ≡ v
  pub others : (q : Reg32) → number32 q ≢ number32 r → word_of q u ≡ word_of q s

pub changed-word : (site : Site) (frame address : ℕ) (r : Reg32) (v : ℕ) (flags : Option Flags) (s : State)
    → Framed site frame s → v < 2 ^ 32 → Changed r v s (at_address address (with_result r v flags s))
changed-word site frame address r v flags s framed fits =
    record {
      value = word-same site.text site.low site.high r v s framed.sound fits;
      others =
          λ q other. word-other site.text site.low site.high q r v s framed.sound other;
    }

-- a word of the frame to a register
pub load-went : (site : Site) (frame : ℕ) (items : List Item) (K : ℕ → ℕ → Type 0) (r : Reg32) (distance v : ℕ)
    (s : State) → Framed site frame s → ReadyAt site (item.Plain (insn.MovLoad r (below distance)) ∷ items) s
    → number32 Ebp ≢ number32 r → number32 Esp ≢ number32 r → 0 < distance → distance ≤ frame
    → load 4 (word_of Ebp s - distance) s ≡ Ok v → v < 2 ^ 32
    → (u : State) × Went site frame items K s.written s u × Changed r v s u
load-went site frame items K r distance v s framed ready b p some within held fits =
    let esp = framed.esp in
    let at = below-address distance s some (omega arith) (word-below site.text site.low site.high Ebp s framed.sound) in
    let loaded : load 4 (address_of (below distance) s) s ≡ Ok v = ap (λ (a : ℕ). load 4 a s) at ∙ held in
    let went = register-went site frame items K (insn.MovLoad r (below distance)) r v s.flags s framed ready tt b p
    (λ after. ap (λ (x : Result ℕ End). and_then x
    (λ value. let q : Result State End = Ok (with_word r value s) in q)) loaded) (λ after. refl) in
    (at_address went.0 (with_result r v s.flags s), went.1, changed-word site frame went.0 r v s.flags s framed fits)

-- a number to a register
pub number-went : (site : Site) (frame : ℕ) (items : List Item) (K : ℕ → ℕ → Type 0) (r : Reg32) (z : ℤ) (s : State)
    → Framed site frame s → ReadyAt site (item.Plain (insn.MovImm (rm.Reg r) z) ∷ items) s
    → number32 Ebp ≢ number32 r → number32 Esp ≢ number32 r → cast_unsigned w32 z < 2 ^ 32
    → (u : State) × Went site frame items K s.written s u × Changed r (cast_unsigned w32 z) s u
number-went site frame items K r z s framed ready b p fits =
    let went = register-went site frame items K (insn.MovImm (rm.Reg r) z) r (cast_unsigned w32 z) s.flags s framed
    ready tt b p (λ after. refl) (λ after. refl) in (
      at_address went.0 (with_result r (cast_unsigned w32 z) s.flags s),
      went.1,
      changed-word site frame went.0 r (cast_unsigned w32 z) s.flags s framed fits,
    )

-- an instruction that writes a word to the frame
pub word-went : (site : Site) (frame : ℕ) (items : List Item) (K : ℕ → ℕ → Type 0) (i : Insn) (distance v : ℕ)
    (s : State) → Framed site frame s → ReadyAt site (item.Plain i ∷ items) s → IsCommon i → 4 ≤ distance
    → distance ≤ frame → v < 2 ^ 32 → ((n b : ℕ) → K b n → AreDisjoint (word_of Ebp s - distance) 4 b n)
    → ((after : ℕ) → effect i after s ≡ store 4 (address_of (below distance) s) v s)
    → ((after : ℕ) → target i after s ≡ Ok after)
    → (u : State) × Went site frame items K s.written s u × (load 4 (word_of Ebp s - distance) u ≡ Ok v)
word-went site frame items K i distance v s framed ready common some within fits apart e k =
    let esp = framed.esp in
    let room = framed.room in
    let top = framed.top in
    let at = below-address distance s (omega arith) (omega arith)
    (word-below site.text site.low site.high Ebp s framed.sound) in
    let stored = store-in site.text site.low site.high (word_of Ebp s - distance) v s framed.sound (omega arith)
    (omega arith) fits in
    let t : State = stored.0 in
    let rest = stored.1.rest in
    let does : store 4 (address_of (below distance) s) v s ≡ Ok t = ap (λ (a : ℕ). store 4 a v s) at ∙ stored.1.is in
    let went = plain-goes site.symbols site.places site.text site.low site.high i items s t framed.sound ready common
    (λ after. e after ∙ does) k in
    let word : (q : Reg32) → word_of q t ≡ word_of q s =
    λ q. ap (λ (registers : List ℕ). register q registers) rest.registers in (
      at_address went.0 t,
      record {
        comes = went.1;
        ready = went.2;
        framed = record {
          sound = sound-at site.text site.low site.high went.0 t stored.1.sound;
          esp =
              ap (λ (k : ℕ). k + frame) (word Esp) ∙ framed.esp ∙ sym (word Ebp);
          room =
              subst (λ (k : ℕ). site.low + 4 ≤ k) (sym (word Esp)) framed.room;
          top =
              subst (λ (k : ℕ). k + 8 ≤ site.high) (sym (word Ebp)) framed.top;
        };
        ebp = word Ebp;
        esp = word Esp;
        left = rest.left;
        taken = rest.taken;
        written = rest.written;
        kept = λ n c w k l. load-same n c w t (at_address went.0 t) refl (stored.1.apart n c w (apart n c k) l);
      },
      load-same 4 (word_of Ebp s - distance) v t (at_address went.0 t) refl stored.1.same,
    )

-- a register to a word of the frame
pub store-went : (site : Site) (frame : ℕ) (items : List Item) (K : ℕ → ℕ → Type 0) (r : Reg32) (distance v : ℕ)
    (s : State) → Framed site frame s → ReadyAt site (item.Plain (insn.Mov (rm.Mem (below distance)) r) ∷ items) s
    → 4 ≤ distance → distance ≤ frame → word_of r s ≡ v
    → ((n b : ℕ) → K b n → AreDisjoint (word_of Ebp s - distance) 4 b n)
    → (u : State) × Went site frame items K s.written s u × (load 4 (word_of Ebp s - distance) u ≡ Ok v)
store-went site frame items K r distance v s framed ready some within held apart =
    let fits : v < 2 ^ 32 = subst (λ (k : ℕ). k < 2 ^ 32) held
    (word-below site.text site.low site.high r s framed.sound) in
    word-went site frame items K (insn.Mov (rm.Mem (below distance)) r) distance v s framed ready tt some within fits
    apart (λ after. ap (λ (w : ℕ). store 4 (address_of (below distance) s) w s) held) (λ after. refl)

-- a number to a word of the frame
pub number-stored : (site : Site) (frame : ℕ) (items : List Item) (K : ℕ → ℕ → Type 0) (z : ℤ) (distance : ℕ)
    (s : State) → Framed site frame s → ReadyAt site (item.Plain (insn.MovImm (rm.Mem (below distance)) z) ∷ items) s
    → 4 ≤ distance → distance ≤ frame → cast_unsigned w32 z < 2 ^ 32
    → ((n b : ℕ) → K b n → AreDisjoint (word_of Ebp s - distance) 4 b n)
    → (u : State) × Went site frame items K s.written s u
    × (load 4 (word_of Ebp s - distance) u ≡ Ok (cast_unsigned w32 z))
number-stored site frame items K z distance s framed ready some within fits apart =
    word-went site frame items K (insn.MovImm (rm.Mem (below distance)) z) distance (cast_unsigned w32 z) s framed
    ready tt some within fits apart (λ after. refl) (λ after. refl)

-- what an operation of a number on a register does, as each but CMP does it
abbrev pub Operates : AluOp → Reg32 → State → Type 0
Operates op r s =
    (b : ℕ) → operate op (rm.Reg r) b s
    ≡ Ok (with_result r (alu_value op (word_of r s) b) (Some (alu_flags op (word_of r s) b)) s)

-- an operation of a word of the frame on a register
pub operation-went : (site : Site) (frame : ℕ) (items : List Item) (K : ℕ → ℕ → Type 0) (op : AluOp) (r : Reg32)
    (distance a b : ℕ) (s : State) → Framed site frame s
    → ReadyAt site (item.Plain (insn.AluLoad op r (below distance)) ∷ items) s → number32 Ebp ≢ number32 r
    → number32 Esp ≢ number32 r → 0 < distance → distance ≤ frame → Operates op r s → word_of r s ≡ a
    → load 4 (word_of Ebp s - distance) s ≡ Ok b → alu_value op a b < 2 ^ 32
    → (u : State) × Went site frame items K s.written s u × Changed r (alu_value op a b) s u
operation-went site frame items K op r distance a b s framed ready not_ebp not_esp some within does first held fits =
    let esp = framed.esp in
    let v : ℕ = alu_value op (word_of r s) b in
    let flags : Option Flags = Some (alu_flags op (word_of r s) b) in
    let is : v ≡ alu_value op a b = ap (λ (x : ℕ). alu_value op x b) first in
    let at = below-address distance s some (omega arith) (word-below site.text site.low site.high Ebp s framed.sound) in
    let loaded : load 4 (address_of (below distance) s) s ≡ Ok b = ap (λ (k : ℕ). load 4 k s) at ∙ held in
    let went = register-went site frame items K (insn.AluLoad op r (below distance)) r v flags s framed ready tt not_ebp
    not_esp (λ after. ap (λ (x : Result ℕ End). and_then x (λ value. operate op (rm.Reg r) value s)) loaded
    ∙ does b) (λ after. refl) in
    let changed = changed-word site frame went.0 r v flags s framed (subst (λ (k : ℕ). k < 2 ^ 32) (sym is) fits) in (
      at_address went.0 (with_result r v flags s),
      went.1,
      record { value = changed.value ∙ is; others = changed.others },
    )

-- places that pass a stricter test are kept too
pub went-stricter : (site : Site) (frame : ℕ) (items : List Item) (K L : ℕ → ℕ → Type 0) (out : List ℕ) (s u : State)
    → ((b n : ℕ) → L b n → K b n) → Went site frame items K out s u → Went site frame items L out s u
went-stricter site frame items K L out s u f h =
    record {
      comes = h.comes;
      ready = h.ready;
      framed = h.framed;
      ebp = h.ebp;
      esp = h.esp;
      left = h.left;
      taken =
          h.taken;
      written = h.written;
      kept = λ n b w k e. h.kept n b w (f b n k) e;
    }
