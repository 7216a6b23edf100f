-- What single instructions make of a sound state.
use Rattle.std.proofs.Common.{◌≡◌, ℕ, ◌-◌, ◌^◌, ◌<◌, ◌≤◌, ℤ, List, Option, Some, Ok, refl, ap, ◌∙◌, arith}
use Rattle.std.specs.Prelude.{Result}
use Rattle.std.specs.Int.{w32, cast_unsigned}
use Rattle.byteorder.specs.Endian.{little_bytes}
use Rattle.pcc_base.specs.Outcome.{End}
use Rattle.ia32_insn.specs.declared.register_names.Reg32.{Reg32}
use Rattle.ia32_insn.specs.declared.register_names.Reg32.TheVariants.{Ebp}
use Rattle.ia32_insn.specs.declared.register_names.Reg8.{Reg8}
use Rattle.ia32_insn.specs.Registers.{byte_place}
use Rattle.ia32_insn.proofs.Registers.{AreRegisters-set}
use Rattle.ia32_insn.specs.declared.operand.Rm32.TheVariants as rm
use Rattle.ia32_insn.specs.declared.operand.Rm8.TheVariants as rm8
use Rattle.ia32_insn.specs.declared.insn.AluOp.{AluOp}
use Rattle.ia32_insn.specs.declared.insn.Insn.TheVariants as insn
use Rattle.ia32_insn.specs.declared.flags.Flags.{Flags}
use Rattle.ia32_insn.specs.State.{State, Area, stored, at_address}
use Rattle.ia32_insn.specs.Arithmetic.{alu_value, alu_flags, extended8}
use Rattle.ia32_insn.specs.Meaning.{and_then, or_end, denied, address_of, load, store, word_of, with_word, byte_of}
use Rattle.ia32_insn.specs.Meaning.{with_byte, operate}
use Rattle.ia32_insn.proofs.Access.{and_then-ok, or_end-ok, ok-once}
use Rattle.ia32_rows.specs.Placements.{below}
use Rattle.ia32_rows.specs.Sites.{Site, SoundAt, Framed}
use Rattle.ia32_rows.proofs.Sound.{Stored, store-in, load-same, sound-with_word, sound-with_flags, word-below}
use Rattle.ia32_rows.proofs.Frames.{with_result, below-address}
use Rattle.ia32_rows.specs.Effects.{Makes}

-- a register gets a word, and the flags are set
pub result-makes : (site : Site) (r : Reg32) (v : ℕ) (flags : Option Flags) (s : State) → SoundAt site s
    → SoundAt site (with_result r v flags s)
result-makes site r v flags s sound =
    sound-with_flags site.text site.low site.high flags (with_word r v s)
    (sound-with_word site.text site.low site.high r v s sound)

-- a byte of a register
byte-sound : (site : Site) (r : Reg8) (v : ℕ) (s : State) → SoundAt site s → v < 256 → SoundAt site (with_byte r v s)
byte-sound site r v s h fits =
    record {
      bytes = h.bytes;
      memory = h.memory;
      size = h.size;
      above = h.above;
      below = h.below;
      small = h.small;
      registers = AreRegisters-set (byte_place r) v s.registers fits h.registers;
    }

-- MOV between registers
pub move-makes : (site : Site) (r q : Reg32) (s : State) → SoundAt site s
    → Makes site (insn.Mov (rm.Reg r) q) s (with_word r (word_of q s) s)
move-makes site r q s sound =
    record {
      straight = tt;
      does = λ address. refl;
      sound =
          sound-with_word site.text site.low site.high r (word_of q s) s sound;
    }

-- MOV of a number to a register
pub number-makes : (site : Site) (r : Reg32) (z : ℤ) (s : State) → SoundAt site s
    → Makes site (insn.MovImm (rm.Reg r) z) s (with_word r (cast_unsigned w32 z) s)
number-makes site r z s sound =
    record {
      straight = tt;
      does = λ address. refl;
      sound =
          sound-with_word site.text site.low site.high r (cast_unsigned w32 z) s sound;
    }

-- MOVSX of a byte of a register
pub extend-makes : (site : Site) (r : Reg32) (q : Reg8) (s : State) → SoundAt site s
    → Makes site (insn.MovSx8 r (rm8.Reg q)) s (with_word r (extended8 (byte_of q s)) s)
extend-makes site r q s sound =
    record {
      straight = tt;
      does = λ address. refl;
      sound =
          sound-with_word site.text site.low site.high r (extended8 (byte_of q s)) s sound;
    }

-- MOV between bytes of registers, and of a number to one
pub byte-makes : (site : Site) (r q : Reg8) (s : State) → SoundAt site s
    → Makes site (insn.Mov8 (rm8.Reg r) q) s (with_byte r (byte_of q s) s)
byte-makes site r q s sound =
    record {
      straight = tt;
      does = λ address. refl;
      sound =
          byte-sound site r (byte_of q s) s sound (sound.registers.below (byte_place q));
    }

pub byte_number-makes : (site : Site) (r : Reg8) (n : ℕ) (s : State) → SoundAt site s → n < 256
    → Makes site (insn.Mov8Imm r n) s (with_byte r n s)
byte_number-makes site r n s sound fits =
    record { straight = tt; does = λ address. refl; sound = byte-sound site r n s sound fits }

-- an operation with a register on a register, as each but CMP does it
pub operation-makes : (site : Site) (op : AluOp) (r q : Reg32) (s : State) → SoundAt site s
    → ((address : ℕ) → operate op (rm.Reg r) (word_of q s) (at_address address s)
    ≡ Ok (at_address address (with_result r (alu_value op (word_of r s) (word_of q s))
    (Some (alu_flags op (word_of r s) (word_of q s))) s)))
    → Makes site (insn.Alu op (rm.Reg r) q) s
    (with_result r (alu_value op (word_of r s) (word_of q s)) (Some (alu_flags op (word_of r s) (word_of q s))) s)
operation-makes site op r q s sound does =
    record {
      straight = tt;
      does = does;
      sound = result-makes site r (alu_value op (word_of r s) (word_of q s))
          (Some (alu_flags op (word_of r s) (word_of q s))) s sound;
    }

-- ---- memory

-- a word of the frame, at its address
pub below-loaded : (site : Site) (frame k n v : ℕ) (s : State) → Framed site frame s → 0 < k → k ≤ frame
    → load n (word_of Ebp s - k) s ≡ Ok v → load n (address_of (below k) s) s ≡ Ok v
below-loaded site frame k n v s framed some within held =
    let esp = framed.esp in
    let at = below-address k s some (omega arith) (word-below site.text site.low site.high Ebp s framed.sound) in
    ap (λ (a : ℕ). load n a s) at ∙ held

-- MOV of a word of the frame to a register
pub load-makes : (site : Site) (frame : ℕ) (r : Reg32) (k v : ℕ) (s : State) → Framed site frame s → 0 < k → k ≤ frame
    → load 4 (word_of Ebp s - k) s ≡ Ok v → Makes site (insn.MovLoad r (below k)) s (with_word r v s)
load-makes site frame r k v s framed some within held =
    let loaded = below-loaded site frame k 4 v s framed some within held in
    record {
      straight = tt;
      does = λ address. ap (λ (x : Result ℕ End). and_then x
          (λ value. let q : Result State End = Ok (with_word r value (at_address address s)) in q))
          (load-same 4 (address_of (below k) s) v s (at_address address s) refl loaded);
      sound = sound-with_word site.text site.low site.high r v s framed.sound;
    }

-- MOV of a byte of the frame to a byte of a register
pub load_byte-makes : (site : Site) (frame : ℕ) (r : Reg8) (k v : ℕ) (s : State) → Framed site frame s → 0 < k
    → k ≤ frame → load 1 (word_of Ebp s - k) s ≡ Ok v → v < 256
    → Makes site (insn.Mov8Load r (below k)) s (with_byte r v s)
load_byte-makes site frame r k v s framed some within held fits =
    let loaded = below-loaded site frame k 1 v s framed some within held in
    record {
      straight = tt;
      does = λ address. ap (λ (x : Result ℕ End). and_then x
          (λ value. let q : Result State End = Ok (with_byte r value (at_address address s)) in q))
          (load-same 1 (address_of (below k) s) v s (at_address address s) refl loaded);
      sound = byte-sound site r v s framed.sound fits;
    }

-- an operation with a word of the frame on a register
pub operation_load-makes : (site : Site) (frame : ℕ) (op : AluOp) (r : Reg32) (k v : ℕ) (s : State)
    → Framed site frame s → 0 < k → k ≤ frame → load 4 (word_of Ebp s - k) s ≡ Ok v
    → ((address : ℕ) → operate op (rm.Reg r) v (at_address address s)
    ≡ Ok (at_address address (with_result r (alu_value op (word_of r s) v)
    (Some (alu_flags op (word_of r s) v)) s)))
    → Makes site (insn.AluLoad op r (below k)) s
    (with_result r (alu_value op (word_of r s) v) (Some (alu_flags op (word_of r s) v)) s)
operation_load-makes site frame op r k v s framed some within held does =
    let loaded = below-loaded site frame k 4 v s framed some within held in
    record {
      straight = tt;
      does = λ address. ap (λ (x : Result ℕ End). and_then x
          (λ value. operate op (rm.Reg r) value (at_address address s)))
          (load-same 4 (address_of (below k) s) v s (at_address address s) refl loaded) ∙ does address;
      sound = result-makes site r (alu_value op (word_of r s) v) (Some (alu_flags op (word_of r s) v)) s framed.sound;
    }

-- a store is the same whatever EIP is
pub store-at : (n a v address : ℕ) (s t : State) → store n a v s ≡ Ok t → store n a v (at_address address s)
    ≡ Ok (at_address address t)
store-at n a v address s t e =
    let new : List ℕ = little_bytes n v in
    let read = and_then-ok (or_end (stored a new s.memory) (denied a s))
    (λ memory. let r : Result State End = Ok (record s { memory = memory }) in r) t e in
    let found : stored a new s.memory ≡ Some read.0 = or_end-ok (stored a new s.memory) (denied a s) read.0 read.1 in
    let is : record s { memory = read.0 } ≡ t = ok-once (record s { memory = read.0 }) t read.2 in
    ap (λ (o : Option (List Area)). and_then (or_end o (denied a (at_address address s)))
    (λ memory. let r : Result State End = Ok (record (at_address address s) { memory = memory }) in r)) found
    ∙ ap (λ (u : State). let r : Result State End = Ok (at_address address u) in r) is

-- what is stored at a place of the frame
pub stored-below : (site : Site) (frame k v : ℕ) (s : State) → Framed site frame s → 4 ≤ k → k ≤ frame → v < 2 ^ 32
    → (t : State) × Stored site.text site.low site.high (word_of Ebp s - k) v s t
    × ((address : ℕ) → store 4 (address_of (below k) s) v (at_address address s) ≡ Ok (at_address address t))
stored-below site frame k v s framed some within fits =
    let esp = framed.esp in
    let room = framed.room in
    let top = framed.top in
    let at = below-address k s (omega arith) (omega arith)
    (word-below site.text site.low site.high Ebp s framed.sound) in
    let m = store-in site.text site.low site.high (word_of Ebp s - k) v s framed.sound (omega arith) (omega arith)
    fits in (
      m.0,
      m.1,
      λ address. store-at 4 (address_of (below k) s) v address s m.0
          (ap (λ (a : ℕ). store 4 a v s) at ∙ m.1.is),
    )

-- MOV of a register to a word of the frame
pub store-makes : (site : Site) (frame : ℕ) (r : Reg32) (k : ℕ) (s : State) → Framed site frame s → 4 ≤ k → k ≤ frame
    → (t : State) × Stored site.text site.low site.high (word_of Ebp s - k) (word_of r s) s t
    × Makes site (insn.Mov (rm.Mem (below k)) r) s t
store-makes site frame r k s framed some within =
    let m = stored-below site frame k (word_of r s) s framed some within
    (word-below site.text site.low site.high r s framed.sound) in
    (m.0, m.1, record { straight = tt; does = m.2; sound = m.1.sound })

-- MOV of a number to a word of the frame
pub store_number-makes : (site : Site) (frame : ℕ) (z : ℤ) (k : ℕ) (s : State) → Framed site frame s → 4 ≤ k
    → k ≤ frame → cast_unsigned w32 z < 2 ^ 32
    → (t : State) × Stored site.text site.low site.high (word_of Ebp s - k) (cast_unsigned w32 z) s t
    × Makes site (insn.MovImm (rm.Mem (below k)) z) s t
store_number-makes site frame z k s framed some within fits =
    let m = stored-below site frame k (cast_unsigned w32 z) s framed some within fits in
    (m.0, m.1, record { straight = tt; does = m.2; sound = m.1.sound })
