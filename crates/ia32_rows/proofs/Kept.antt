-- What changes of a register, of a byte of one, and of a word in memory keep, and that places apart from the change
-- contain what they did.
use Rattle.std.proofs.Common.{◌≡◌, ◌≢◌, ℕ, ◌+◌, ◌-◌, ◌*◌, ◌<◌, ◌≤◌, List, Option, Ok, refl, sym, ap, subst, ◌∙◌}
use Rattle.std.proofs.Common.{arith}
use Rattle.std.specs.Prelude.{◌⊎◌, ⊤, slice_index}
use Rattle.std.proofs.lemmas.List.{get_or-set_other}
use Rattle.pcc_base.specs.declared.run.Width.{Width}
use Rattle.pcc_base.specs.declared.run.Width.TheVariants.{One, Two}
use Rattle.ia32_insn.specs.declared.register_names.Reg32.{Reg32}
use Rattle.ia32_insn.specs.declared.register_names.Reg32.TheVariants.{Esp, Ebp}
use Rattle.ia32_insn.specs.declared.register_names.Reg8.{Reg8}
use Rattle.ia32_insn.specs.Registers.{number32, byte_place, word_place}
use Rattle.ia32_insn.proofs.Registers.{number32_below, little_from-same, get_or-with_four}
use Rattle.ia32_insn.specs.Places.{Place, InWord, InByte, InSlot}
use Rattle.ia32_insn.specs.declared.flags.Flags.{Flags}
use Rattle.ia32_insn.specs.State.{State}
use Rattle.ia32_insn.specs.Meaning.{load, word_of, with_byte, with_flags}
use Rattle.ia32_insn.specs.Keeps.{AreDisjoint}
use Rattle.ia32_rows.specs.Sites.{Site, SoundAt, Framed, Anywhere}
use Rattle.ia32_rows.proofs.Sound.{Stored, load-same}
use Rattle.ia32_rows.proofs.Frames.{with_result}
use Rattle.ia32_rows.specs.Effects.{Keeps, OutsideWord}
use Rattle.ia32_rows.specs.Contains.{Contains}

-- ---- one change after another

pub keeps-same : (R : ℕ → Type 0) (K : ℕ → ℕ → Type 0) (s : State) → Keeps R K s s
keeps-same R K s =
    record { cells = λ k r. refl; loads = λ n a w k e. e; left = refl; taken = refl; written = refl }

pub keeps-then : (R : ℕ → Type 0) (K : ℕ → ℕ → Type 0) (s t u : State) → Keeps R K s t → Keeps R K t u → Keeps R K s u
keeps-then R K s t u a b =
    record {
      cells = λ k r. b.cells k r ∙ a.cells k r;
      loads = λ n p w k e. b.loads n p w k (a.loads n p w k e);
      left = b.left ∙ a.left;
      taken = b.taken ∙ a.taken;
      written = b.written ∙ a.written;
    }

-- stricter tests keep no more
pub keeps-stricter : (R Q : ℕ → Type 0) (K L : ℕ → ℕ → Type 0) (s t : State) → ((k : ℕ) → Q k → R k)
    → ((a n : ℕ) → L a n → K a n) → Keeps R K s t → Keeps Q L s t
keeps-stricter R Q K L s t f g h =
    record {
      cells = λ k q. h.cells k (f k q);
      loads = λ n a w l e. h.loads n a w (g a n l) e;
      left = h.left;
      taken = h.taken;
      written = h.written;
    }

-- ---- single changes

-- a register
pub result-keeps : (site : Site) (r : Reg32) (v : ℕ) (flags : Option Flags) (s : State) → SoundAt site s
    → Keeps (OutsideWord r) Anywhere s (with_result r v flags s)
result-keeps site r v flags s sound =
    let below = number32_below r in
    let cells = sound.registers.cells in
    record {
      cells = λ k outside. get_or-with_four (word_place r) v k s.registers (omega (arith, cells)) outside;
      loads = λ n a w k e. load-same n a w s (with_result r v flags s) refl e;
      left = refl;
      taken = refl;
      written = refl;
    }

-- a byte of a register
pub byte-keeps : (r : Reg8) (v : ℕ) (s : State) → Keeps (λ k. k ≢ byte_place r) Anywhere s (with_byte r v s)
byte-keeps r v s =
    record {
      cells = λ k other. get_or-set_other s.registers (byte_place r) k v 0 other;
      loads = λ n a w k e. load-same n a w s (with_byte r v s) refl e;
      left = refl;
      taken = refl;
      written = refl;
    }

-- a word in memory
pub stored-keeps : (R : ℕ → Type 0) (site : Site) (a v : ℕ) (s t : State)
    → Stored site.text site.low site.high a v s t → Keeps R (λ b n. AreDisjoint a 4 b n) s t
stored-keeps R site a v s t h =
    record {
      cells = λ k r. ap (λ (cells : List ℕ). slice_index cells k) h.rest.registers;
      loads = λ n b w k e. h.apart n b w k e;
      left = h.rest.left;
      taken = h.rest.taken;
      written = h.rest.written;
    }

-- flags
pub flags-keep : (R : ℕ → Type 0) (K : ℕ → ℕ → Type 0) (flags : Option Flags) (s : State)
    → Keeps R K s (with_flags flags s)
flags-keep R K flags s =
    record {
      cells = λ k r. refl;
      loads = λ n a w k e. load-same n a w s (with_flags flags s) refl e;
      left = refl;
      taken = refl;
      written = refl;
    }

-- ---- words

-- the cells of a register are kept
abbrev pub HasCells : (ℕ → Type 0) → Reg32 → Type 0
HasCells R r = (m : ℕ) → m < 4 → R (4 * number32 r + m)

-- and so is its word
pub word-kept : (R : ℕ → Type 0) (K : ℕ → ℕ → Type 0) (r : Reg32) (s t : State) → Keeps R K s t → HasCells R r
    → word_of r t ≡ word_of r s
word-kept R K r s t h has =
    little_from-same (word_place r) t.registers s.registers (λ m below. h.cells (4 * number32 r + m) (has m below))

-- another register has none of a register's cells
pub other-cells : (q r : Reg32) → number32 q ≢ number32 r → HasCells (OutsideWord r) q
other-cells q r other m below = apart (number32 q) (number32 r) m other below
  where
    apart : (a b m : ℕ) → a ≢ b → m < 4 → (4 * a + m < 4 * b) ⊎ (4 * b + 4 ≤ 4 * a + m)
    apart a b m other below = grind (arith, other)

-- a state within a function stays one where ESP and EBP are kept
pub framed-kept : (R : ℕ → Type 0) (K : ℕ → ℕ → Type 0) (site : Site) (frame : ℕ) (s t : State) → Framed site frame s
    → Keeps R K s t → SoundAt site t → HasCells R Esp → HasCells R Ebp → Framed site frame t
framed-kept R K site frame s t framed keeps sound has_esp has_ebp =
    let esp = word-kept R K Esp s t keeps has_esp in
    let ebp = word-kept R K Ebp s t keeps has_ebp in
    record {
      sound = sound;
      esp = ap (λ (k : ℕ). k + frame) esp ∙ framed.esp ∙ sym ebp;
      room = subst (λ (k : ℕ). site.low + 4 ≤ k) (sym esp) framed.room;
      top = subst (λ (k : ℕ). k + 8 ≤ site.high) (sym ebp) framed.top;
    }

-- ---- places

-- the cells of a place are kept
abbrev pub PlaceHasCells : (ℕ → Type 0) → Place → Type 0
PlaceHasCells R (InWord r) = HasCells R r
PlaceHasCells R (InByte r) = R (byte_place r)
PlaceHasCells R (InSlot k) = ⊤

-- and so is its memory, where EBP is this
abbrev pub PlaceHasMemory : (ℕ → ℕ → Type 0) → ℕ → Place → Type 0
PlaceHasMemory K base (InWord r) = ⊤
PlaceHasMemory K base (InByte r) = ⊤
PlaceHasMemory K base (InSlot k) = K (base - k) 4 × K (base - k) 1

-- then it contains what it did
pub contains-kept : (R : ℕ → Type 0) (K : ℕ → ℕ → Type 0) (s t : State) (width : Width) (p : Place) (w : ℕ)
    → Keeps R K s t → HasCells R Ebp → PlaceHasCells R p → PlaceHasMemory K (word_of Ebp s) p → Contains s width p w
    → Contains t width p w
contains-kept R K s t Two (InWord r) w h ebp cells memory c = word-kept R K r s t h cells ∙ c
contains-kept R K s t Two (InByte r) w h ebp cells memory c = absurd c
contains-kept R K s t Two (InSlot k) w h ebp cells memory c =
    let same : word_of Ebp t ≡ word_of Ebp s = word-kept R K Ebp s t h ebp in
    subst (λ (e : ℕ). load 4 (e - k) t ≡ Ok w) (sym same) (h.loads 4 (word_of Ebp s - k) w memory.0 c)
contains-kept R K s t One (InWord r) w h ebp cells memory c = absurd c
contains-kept R K s t One (InByte r) w h ebp cells memory c = h.cells (byte_place r) cells ∙ c
contains-kept R K s t One (InSlot k) w h ebp cells memory c =
    let same : word_of Ebp t ≡ word_of Ebp s = word-kept R K Ebp s t h ebp in
    subst (λ (e : ℕ). load 1 (e - k) t ≡ Ok w) (sym same) (h.loads 1 (word_of Ebp s - k) w memory.1 c)
