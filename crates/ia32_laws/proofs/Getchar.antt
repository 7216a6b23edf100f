-- The routine `getchar`, and the row that calls it.
use Rattle.std.proofs.Common.{◌≡◌, ℕ, ◌+◌, ◌-◌, ◌^◌, ◌<◌, ◌≤◌, Bool, List, [], ◌∷◌, pos}
use Rattle.std.proofs.Common.{Some, Ok, Err, inl, refl, sym, ap, subst, ◌∙◌, arith}
use Rattle.std.specs.Prelude.{Result, if◌then◌else◌}
use Rattle.std.specs.Int.Bits.{bit_or, or_zero_l, or_zero_r}
use Rattle.pcc_base.specs.Outcome.{End}
use Rattle.ia32_insn.specs.declared.register_names.Reg32.TheVariants.{Eax, Ecx, Edx, Ebx, Esp, Ebp}
use Rattle.ia32_insn.specs.Registers.{register}
use Rattle.ia32_insn.specs.declared.operand.Rm32.TheVariants as rm
use Rattle.ia32_insn.specs.declared.insn.AluOp.TheVariants as alu
use Rattle.ia32_insn.specs.declared.insn.Insn.TheVariants as insn
use Rattle.ia32_insn.specs.declared.item.Item.{Item}
use Rattle.ia32_insn.specs.State.{State, at_address}
use Rattle.ia32_insn.specs.Arithmetic.{alu_flags, difference}
use Rattle.ia32_insn.specs.Keeps.{AreDisjoint}
use Rattle.ia32_insn.specs.Meaning.{and_then, call_of, denied, effect, load, make_call, read_call, system_call}
use Rattle.ia32_insn.specs.Meaning.{take_byte}
use Rattle.ia32_insn.specs.Meaning.{with_word, word_of}
use Rattle.ia32_insn.specs.Items.{getchar_items, plain}
use Rattle.ia32_rows.specs.Paths.{Comes}
use Rattle.ia32_rows.specs.Sites.{ReadyAt, Site, SoundAt}
use Rattle.ia32_rows.proofs.Sets.{Sets, disjoint-part, set-goes, unlike}
use Rattle.ia32_rows.proofs.Sound.{load-same, sound-at, sound-with_word, word-below, word-other, word-same}
use Rattle.ia32_rows.proofs.Steps.{comes-then, plain-goes}
use Rattle.ia32_rows.proofs.Frames.{with_result}
use Rattle.ia32_rows.proofs.Pushes.{Popped, Pushed, one_fits, pop-goes, push-goes, push-makes, pushed-at, ret-goes}
use Rattle.ia32_laws.proofs.ByteStores.{byte-stores}
use Rattle.ia32_rows.proofs.Putchar.{four-lower as lower-one}

-- ---- the byte

-- PUSH of the number 0
push-zero : (site : Site) (items : List Item) (s : State) → SoundAt site s
    → ReadyAt site (plain (insn.PushImm (pos 0)) ∷ items) s → site.low + 4 ≤ word_of Esp s → word_of Esp s ≤ site.high
    → (u : State) × Comes site.text s u × ReadyAt site items u × Pushed site 0 s u
push-zero site items s sound ready room top =
    let made = push-makes site 0 s sound room top (omega arith) in
    let went = plain-goes site.symbols site.places site.text site.low site.high (insn.PushImm (pos 0)) items s made.0
    sound ready tt (λ after. made.1) (λ after. refl) in
    (at_address went.0 made.0, went.1, went.2, pushed-at site went.0 0 s made.0 made.2)

-- `read` was called: EAX tells how many bytes came, and the word at the address has them. The input is this.
record Took (site : Site) (items : List Item) (a n y : ℕ) (left : List ℕ) (taken : ℕ) (s u : State) : Type 0 where
  pub comes : Comes site.text s u
  pub ready : ReadyAt site items u
  pub sound : SoundAt site u
  pub eax : word_of Eax u ≡ n
  pub esp : word_of Esp u ≡ word_of Esp s
  pub ebp : word_of Ebp u ≡ word_of Ebp s
  pub word : load 4 a u ≡ Ok y
  pub kept : (k b w : ℕ) → AreDisjoint a 4 b k → load k b s ≡ Ok w → load k b u ≡ Ok w
  pub left_is : u.left ≡ left
  pub taken_is : u.taken ≡ taken
  pub written : u.written ≡ s.written

-- the system call is a read of one byte
read-does : (a : ℕ) (s : State) → word_of Eax s ≡ 3 → word_of Ebx s ≡ 0 → word_of Ecx s ≡ a → word_of Edx s ≡ 1
    → system_call s ≡ read_call 1 a s
read-does a s eax ebx ecx edx =
    ap (λ (k : ℕ). make_call (call_of k (word_of Ebx s)) s) eax
    ∙ ap (λ (k : ℕ). make_call (call_of 3 k) s) ebx
    ∙ ap (λ (k : ℕ). read_call (word_of Edx s) k s) ecx
    ∙ ap (λ (k : ℕ). read_call k a s) edx

-- where the input is at its end
takes-none : (site : Site) (items : List Item) (a : ℕ) (s : State) → SoundAt site s
    → ReadyAt site (plain (insn.Int 0x80) ∷ items) s → word_of Eax s ≡ 3 → word_of Ebx s ≡ 0 → word_of Ecx s ≡ a
    → word_of Edx s ≡ 1 → load 4 a s ≡ Ok 0 → site.low ≤ a → a + 4 ≤ site.high → s.left ≡ []
    → (u : State) × Took site items a 0 0 s.left s.taken s u
takes-none site items a s sound ready eax ebx ecx edx held low high none =
    let may = (byte-stores site a 0 s sound low high held (omega arith)).1.may in
    let t : State = with_word Eax 0 s in
    let does : effect (insn.Int 0x80) 0 s ≡ Ok t =
    read-does a s eax ebx ecx edx
    ∙ ap (λ (b : Bool). if b then take_byte a s.left s else Err (denied a s)) may
    ∙ ap (λ (l : List ℕ). take_byte a l s) none in
    let went = plain-goes site.symbols site.places site.text site.low site.high (insn.Int 0x80) items s t sound ready tt
    (λ after. does) (λ after. refl) in
    let u : State = at_address went.0 t in (
      u,
      record {
        comes = went.1;
        ready = went.2;
        sound = sound-at site.text site.low site.high went.0 t
            (sound-with_word site.text site.low site.high Eax 0 s sound);
        eax = word-same site.text site.low site.high Eax 0 s sound (omega arith);
        esp = word-other site.text site.low site.high Esp Eax 0 s sound (unlike 4 0 refl);
        ebp = word-other site.text site.low site.high Ebp Eax 0 s sound (unlike 5 0 refl);
        word = load-same 4 a 0 s u refl held;
        kept = λ k b w apart e. load-same k b w s u refl e;
        left_is = refl;
        taken_is = refl;
        written = refl;
      },
    )

-- and where it has a byte
takes-one : (site : Site) (items : List Item) (a y : ℕ) (rest : List ℕ) (s : State) → SoundAt site s
    → ReadyAt site (plain (insn.Int 0x80) ∷ items) s → word_of Eax s ≡ 3 → word_of Ebx s ≡ 0 → word_of Ecx s ≡ a
    → word_of Edx s ≡ 1 → load 4 a s ≡ Ok 0 → site.low ≤ a → a + 4 ≤ site.high → s.left ≡ y ∷ rest → y < 256
    → (u : State) × Took site items a 1 y rest (s.taken + 1) s u
takes-one site items a y rest s sound ready eax ebx ecx edx held low high some small =
    let stored = byte-stores site a y s sound low high held small in
    let v : State = stored.0 in
    let h = stored.1 in
    let m : State = record v { left = rest; taken = v.taken + 1 } in
    let m_sound : SoundAt site m = record {
      bytes = h.sound.bytes;
      memory = h.sound.memory;
      size = h.sound.size;
      above = h.sound.above;
      below = h.sound.below;
      small = h.sound.small;
      registers = h.sound.registers;
    } in
    let t : State = with_word Eax 1 m in
    let does : effect (insn.Int 0x80) 0 s ≡ Ok t =
    read-does a s eax ebx ecx edx
    ∙ ap (λ (b : Bool). if b then take_byte a s.left s else Err (denied a s)) h.may
    ∙ ap (λ (l : List ℕ). take_byte a l s) some
    ∙ ap (λ (x : Result State End). and_then x (λ w. let q : Result State End =
    Ok (with_word Eax 1 (record w { left = rest; taken = w.taken + 1 })) in q)) h.is in
    let went = plain-goes site.symbols site.places site.text site.low site.high (insn.Int 0x80) items s t sound ready tt
    (λ after. does) (λ after. refl) in
    let u : State = at_address went.0 t in (
      u,
      record {
        comes = went.1;
        ready = went.2;
        sound = sound-at site.text site.low site.high went.0 t
            (sound-with_word site.text site.low site.high Eax 1 m m_sound);
        eax = word-same site.text site.low site.high Eax 1 m m_sound one_fits;
        esp = word-other site.text site.low site.high Esp Eax 1 m m_sound (unlike 4 0 refl)
            ∙ ap (λ (cells : List ℕ). register Esp cells) h.rest.registers;
        ebp = word-other site.text site.low site.high Ebp Eax 1 m m_sound (unlike 5 0 refl)
            ∙ ap (λ (cells : List ℕ). register Ebp cells) h.rest.registers;
        word = load-same 4 a y v u refl h.same;
        kept = λ k b w apart e. load-same k b w v u refl (h.apart k b w apart e);
        left_is = refl;
        taken_is = ap (λ (k : ℕ). k + 1) h.rest.taken;
        written = h.rest.written;
      },
    )

-- ---- the routine

-- the items from the system call on
abbrev reading : List Item
reading =
    plain (insn.Int 0x80)
    ∷ plain (insn.AluImm alu.Sub (rm.Reg Eax) (pos 1))
    ∷ plain (insn.Pop Ecx)
    ∷ plain (insn.Alu alu.Or (rm.Reg Eax) Ecx)
    ∷ plain (insn.Pop Ebx)
    ∷ plain insn.Ret
    ∷ []

abbrev answering : List Item
answering =
    plain (insn.AluImm alu.Sub (rm.Reg Eax) (pos 1))
    ∷ plain (insn.Pop Ecx)
    ∷ plain (insn.Alu alu.Or (rm.Reg Eax) Ecx)
    ∷ plain (insn.Pop Ebx)
    ∷ plain insn.Ret
    ∷ []

-- the routine is about to call the system: two words were pushed, and four registers set
record Asks (site : Site) (s u : State) : Type 0 where
  pub comes : Comes site.text s u
  pub ready : ReadyAt site reading u
  pub sound : SoundAt site u
  pub eax : word_of Eax u ≡ 3
  pub ebx : word_of Ebx u ≡ 0
  pub ecx : word_of Ecx u ≡ word_of Esp s - 8
  pub edx : word_of Edx u ≡ 1
  pub esp : word_of Esp u ≡ word_of Esp s - 8
  pub ebp : word_of Ebp u ≡ word_of Ebp s
  pub zero : load 4 (word_of Esp s - 8) u ≡ Ok 0
  pub old_ebx : load 4 (word_of Esp s - 4) u ≡ Ok (word_of Ebx s)
  pub kept : (n b w : ℕ) → AreDisjoint (word_of Esp s - 8) 8 b n → load n b s ≡ Ok w → load n b u ≡ Ok w
  pub left : u.left ≡ s.left
  pub taken : u.taken ≡ s.taken
  pub written : u.written ≡ s.written

-- the four registers of the system call are set
record SetFour (site : Site) (b u : State) : Type 0 where
  pub comes : Comes site.text b u
  pub ready : ReadyAt site reading u
  pub sound : SoundAt site u
  pub eax : word_of Eax u ≡ 3
  pub ebx : word_of Ebx u ≡ 0
  pub ecx : word_of Ecx u ≡ word_of Esp b
  pub edx : word_of Edx u ≡ 1
  pub esp : word_of Esp u ≡ word_of Esp b
  pub ebp : word_of Ebp u ≡ word_of Ebp b
  pub memory : u.memory ≡ b.memory
  pub left : u.left ≡ b.left
  pub taken : u.taken ≡ b.taken
  pub written : u.written ≡ b.written

set-four : (site : Site) (b c d f u : State) → Comes site.text b c → Sets site Eax 3 b.written b c → Comes site.text c d
    → Sets site Ebx 0 c.written c d → Comes site.text d f → Sets site Ecx (word_of Esp d) d.written d f
    → Comes site.text f u → Sets site Edx 1 f.written f u → ReadyAt site reading u → SetFour site b u
set-four site b c d f u p w q x r y t z ready =
    record {
      comes = comes-then site.text b c u p (comes-then site.text c d u q (comes-then site.text d f u r t));
      ready = ready;
      sound = z.sound;
      eax = z.others Eax (unlike 0 2 refl) ∙ y.others Eax (unlike 0 1 refl) ∙ x.others Eax (unlike 0 3 refl) ∙ w.value;
      ebx = z.others Ebx (unlike 3 2 refl) ∙ y.others Ebx (unlike 3 1 refl) ∙ x.value;
      ecx = z.others Ecx (unlike 1 2 refl) ∙ y.value ∙ x.others Esp (unlike 4 3 refl) ∙ w.others Esp (unlike 4 0 refl);
      edx = z.value;
      esp = z.others Esp (unlike 4 2 refl) ∙ y.others Esp (unlike 4 1 refl) ∙ x.others Esp (unlike 4 3 refl)
          ∙ w.others Esp (unlike 4 0 refl);
      ebp = z.others Ebp (unlike 5 2 refl) ∙ y.others Ebp (unlike 5 1 refl) ∙ x.others Ebp (unlike 5 3 refl)
          ∙ w.others Ebp (unlike 5 0 refl);
      memory = z.memory ∙ y.memory ∙ x.memory ∙ w.memory;
      left = z.left ∙ y.left ∙ x.left ∙ w.left;
      taken = z.taken ∙ y.taken ∙ x.taken ∙ w.taken;
      written = z.written ∙ y.written ∙ x.written ∙ w.written;
    }

abbrev setting_one : List Item
setting_one = plain (insn.MovImm (rm.Reg Edx) (pos 1)) ∷ reading

abbrev setting_two : List Item
setting_two = plain (insn.Mov (rm.Reg Ecx) Esp) ∷ setting_one

abbrev setting_three : List Item
setting_three = plain (insn.MovImm (rm.Reg Ebx) (pos 0)) ∷ setting_two

abbrev setting_four : List Item
setting_four = plain (insn.MovImm (rm.Reg Eax) (pos 3)) ∷ setting_three

three-fits : 3 < 2 ^ 32
three-fits = omega arith

zero-fits : 0 < 2 ^ 32
zero-fits = omega arith

sets-last : (site : Site) (b c d f : State) → Comes site.text b c → Sets site Eax 3 b.written b c → Comes site.text c d
    → Sets site Ebx 0 c.written c d → Comes site.text d f → Sets site Ecx (word_of Esp d) d.written d f
    → ReadyAt site setting_one f → (u : State) × SetFour site b u
sets-last site b c d f p w q x r y ready =
    let z = set-goes site reading (insn.MovImm (rm.Reg Edx) (pos 1)) Edx 1 f.flags f y.sound ready tt one_fits
    (λ after. refl) (λ after. refl) in
    (z.0, set-four site b c d f z.0 p w q x r y z.1 z.3 z.2)

sets-ecx : (site : Site) (b c d : State) → Comes site.text b c → Sets site Eax 3 b.written b c → Comes site.text c d
    → Sets site Ebx 0 c.written c d → ReadyAt site setting_two d → (u : State) × SetFour site b u
sets-ecx site b c d p w q x ready =
    let y = set-goes site setting_one (insn.Mov (rm.Reg Ecx) Esp) Ecx (word_of Esp d) d.flags d x.sound ready tt
    (word-below site.text site.low site.high Esp d x.sound) (λ after. refl) (λ after. refl) in
    sets-last site b c d y.0 p w q x y.1 y.3 y.2

sets-ebx : (site : Site) (b c : State) → Comes site.text b c → Sets site Eax 3 b.written b c
    → ReadyAt site setting_three c → (u : State) × SetFour site b u
sets-ebx site b c p w ready =
    let x = set-goes site setting_two (insn.MovImm (rm.Reg Ebx) (pos 0)) Ebx 0 c.flags c w.sound ready tt zero-fits
    (λ after. refl) (λ after. refl) in
    sets-ecx site b c x.0 p w x.1 x.3 x.2

sets-all : (site : Site) (b : State) → SoundAt site b → ReadyAt site setting_four b → (u : State) × SetFour site b u
sets-all site b sound ready =
    let w = set-goes site setting_three (insn.MovImm (rm.Reg Eax) (pos 3)) Eax 3 b.flags b sound ready tt three-fits
    (λ after. refl) (λ after. refl) in
    sets-ebx site b w.0 w.1 w.3 w.2

lower-two : (a b e : ℕ) → a + 4 ≡ e → b + 4 ≡ a → b ≡ e - 8
lower-two a b e p q = omega arith

first-part : (low e a n b : ℕ) → low + 8 ≤ e → a + 4 ≡ e → AreDisjoint (e - 8) 8 b n → AreDisjoint a 4 b n
first-part low e a n b h p k = disjoint-part (e - 8) 8 a 4 b n (omega arith) (omega arith) k

second-part : (low e a c n b : ℕ) → low + 8 ≤ e → a + 4 ≡ e → c + 4 ≡ a → AreDisjoint (e - 8) 8 b n
    → AreDisjoint c 4 b n
second-part low e a c n b h p q k = disjoint-part (e - 8) 8 c 4 b n (omega arith) (omega arith) k

above-second : (e a c : ℕ) → a + 4 ≡ e → c + 4 ≡ a → AreDisjoint c 4 (e - 4) 4
above-second e a c p q = inl (omega arith)

asked : (site : Site) (s a b u : State) → Comes site.text s a → Pushed site (word_of Ebx s) s a → Comes site.text a b
    → Pushed site 0 a b → SetFour site b u → site.low + 8 ≤ word_of Esp s → Asks site s u
asked site s a b u comes p along q r room =
    let at_a = lower-one (word_of Esp a) (word_of Esp s) p.esp in
    let at_b = lower-two (word_of Esp a) (word_of Esp b) (word_of Esp s) p.esp q.esp in
    record {
      comes = comes-then site.text s a u comes (comes-then site.text a b u along r.comes);
      ready = r.ready;
      sound = r.sound;
      eax = r.eax;
      ebx = r.ebx;
      ecx = r.ecx ∙ at_b;
      edx = r.edx;
      esp = r.esp ∙ at_b;
      ebp = r.ebp ∙ q.others Ebp (unlike 5 4 refl) ∙ p.others Ebp (unlike 5 4 refl);
      zero = load-same 4 (word_of Esp s - 8) 0 b u r.memory (subst (λ (k : ℕ). load 4 k b ≡ Ok 0) at_b q.word);
      old_ebx = load-same 4 (word_of Esp s - 4) (word_of Ebx s) b u r.memory
          (q.apart 4 (word_of Esp s - 4) (word_of Ebx s)
          (above-second (word_of Esp s) (word_of Esp a) (word_of Esp b) p.esp q.esp)
          (subst (λ (k : ℕ). load 4 k a ≡ Ok (word_of Ebx s)) at_a p.word));
      kept = λ n k v apart h. load-same n k v b u r.memory
          (q.apart n k v
          (second-part site.low (word_of Esp s) (word_of Esp a) (word_of Esp b) n k room p.esp q.esp apart)
          (p.apart n k v (first-part site.low (word_of Esp s) (word_of Esp a) n k room p.esp apart) h));
      left = r.left ∙ q.left ∙ p.left;
      taken = r.taken ∙ q.taken ∙ p.taken;
      written = r.written ∙ q.written ∙ p.written;
    }

pushes-zero : (site : Site) (s a : State) → Comes site.text s a → Pushed site (word_of Ebx s) s a
    → ReadyAt site (plain (insn.PushImm (pos 0)) ∷ setting_four) a → site.low + 8 ≤ word_of Esp s
    → word_of Esp s + 4 ≤ site.high → (u : State) × Asks site s u
pushes-zero site s a comes p ready room top =
    let q = push-zero site setting_four a p.sound ready (enough site.low (word_of Esp s) (word_of Esp a) room p.esp)
    (within (word_of Esp s) (word_of Esp a) site.high top p.esp) in
    let r = sets-all site q.0 q.3.sound q.2 in
    (r.0, asked site s a q.0 r.0 comes p q.1 q.3 r.1 room)
  where
    enough : (low e a : ℕ) → low + 8 ≤ e → a + 4 ≡ e → low + 4 ≤ a
    enough low e a h p = omega arith

    within : (e a h : ℕ) → e + 4 ≤ h → a + 4 ≡ e → a ≤ h
    within e a h p q = omega arith

asks : (site : Site) (s : State) → SoundAt site s → ReadyAt site getchar_items s → site.low + 8 ≤ word_of Esp s
    → word_of Esp s + 4 ≤ site.high → (u : State) × Asks site s u
asks site s sound ready room top =
    let p = push-goes site (plain (insn.PushImm (pos 0)) ∷ setting_four) Ebx s sound ready
    (enough site.low (word_of Esp s) room) (within (word_of Esp s) site.high top) in
    pushes-zero site s p.0 p.1 p.3 p.2 room top
  where
    enough : (low e : ℕ) → low + 8 ≤ e → low + 4 ≤ e
    enough low e h = omega arith

    within : (e h : ℕ) → e + 4 ≤ h → e ≤ h
    within e h p = omega arith

-- the state behind the routine
pub record Got (site : Site) (r address : ℕ) (left : List ℕ) (taken : ℕ) (s u : State) : Type 0 where
  pub comes : Comes site.text s u
  pub sound : SoundAt site u
  pub eip : u.eip ≡ address
  pub eax : word_of Eax u ≡ r
  pub ebx : word_of Ebx u ≡ word_of Ebx s
  pub esp : word_of Esp u ≡ word_of Esp s + 4
  pub ebp : word_of Ebp u ≡ word_of Ebp s
  pub kept : (n b w : ℕ) → AreDisjoint (word_of Esp s - 8) 8 b n → load n b s ≡ Ok w → load n b u ≡ Ok w
  pub left_is : u.left ≡ left
  pub taken_is : u.taken ≡ taken
  pub written : u.written ≡ s.written

abbrev ending_three : List Item
ending_three = plain (insn.Pop Ebx) ∷ plain insn.Ret ∷ []

abbrev ending_four : List Item
ending_four = plain (insn.Alu alu.Or (rm.Reg Eax) Ecx) ∷ ending_three

-- the result is in EAX
record Ored (site : Site) (r : ℕ) (u g : State) : Type 0 where
  pub comes : Comes site.text u g
  pub ready : ReadyAt site ending_three g
  pub sound : SoundAt site g
  pub eax : word_of Eax g ≡ r
  pub esp : word_of Esp g ≡ word_of Esp u + 4
  pub ebp : word_of Ebp g ≡ word_of Ebp u
  pub memory : g.memory ≡ u.memory
  pub left : g.left ≡ u.left
  pub taken : g.taken ≡ u.taken
  pub written : g.written ≡ u.written

ored : (site : Site) (m y r : ℕ) (u b d g : State) → Comes site.text u b → Sets site Eax m u.written u b
    → Comes site.text b d → Popped site Ecx y b d → Comes site.text d g → Sets site Eax r d.written d g
    → ReadyAt site ending_three g → Ored site r u g
ored site m y r u b d g p a q c t f ready =
    record {
      comes = comes-then site.text u b g p (comes-then site.text b d g q t);
      ready = ready;
      sound = f.sound;
      eax = f.value;
      esp = f.others Esp (unlike 4 0 refl) ∙ c.esp ∙ ap (λ (k : ℕ). k + 4) (a.others Esp (unlike 4 0 refl));
      ebp = f.others Ebp (unlike 5 0 refl) ∙ c.others Ebp (unlike 5 1 refl) (unlike 5 4 refl)
          ∙ a.others Ebp (unlike 5 0 refl);
      memory = f.memory ∙ c.memory ∙ a.memory;
      left = f.left ∙ c.left ∙ a.left;
      taken = f.taken ∙ c.taken ∙ a.taken;
      written = f.written ∙ c.written ∙ a.written;
    }

ors-last : (site : Site) (m y r : ℕ) (u b d : State) → Comes site.text u b → Sets site Eax m u.written u b
    → Comes site.text b d → Popped site Ecx y b d → ReadyAt site ending_four d → bit_or m y ≡ r → r < 2 ^ 32
    → (g : State) × Ored site r u g
ors-last site m y r u b d p a q c ready is fits =
    let eax : word_of Eax d ≡ m = c.others Eax (unlike 0 1 refl) (unlike 0 4 refl) ∙ a.value in
    let whole : bit_or (word_of Eax d) (word_of Ecx d) ≡ r =
    ap (λ (v : ℕ). bit_or v (word_of Ecx d)) eax ∙ ap (bit_or m) c.value ∙ is in
    let f = set-goes site ending_three (insn.Alu alu.Or (rm.Reg Eax) Ecx) Eax r
    (Some (alu_flags alu.Or (word_of Eax d) (word_of Ecx d))) d c.sound ready tt fits
    (λ after. ap (λ (v : ℕ). let q : Result State End =
    Ok (with_result Eax v (Some (alu_flags alu.Or (word_of Eax d) (word_of Ecx d))) d) in q) whole) (λ after. refl) in
    (f.0, ored site m y r u b d f.0 p a q c f.1 f.3 f.2)

ors-pop : (site : Site) (m y r : ℕ) (u b : State) → Comes site.text u b → Sets site Eax m u.written u b
    → ReadyAt site (plain (insn.Pop Ecx) ∷ ending_four) b → load 4 (word_of Esp u) u ≡ Ok y → y < 2 ^ 32
    → word_of Esp u + 4 ≤ site.high → bit_or m y ≡ r → r < 2 ^ 32 → (g : State) × Ored site r u g
ors-pop site m y r u b p a ready held small top is fits =
    let esp : word_of Esp b ≡ word_of Esp u = a.others Esp (unlike 4 0 refl) in
    let c = pop-goes site ending_four Ecx y b a.sound ready (unlike 4 1 refl)
    (load-same 4 (word_of Esp b) y u b a.memory (subst (λ (j : ℕ). load 4 j u ≡ Ok y) (sym esp) held)) small
    (subst (λ (j : ℕ). j + 4 ≤ site.high) (sym esp) top) in
    ors-last site m y r u b c.0 p a c.1 c.3 c.2 is fits

ors : (site : Site) (n y r : ℕ) (u : State) → SoundAt site u → ReadyAt site answering u → word_of Eax u ≡ n
    → load 4 (word_of Esp u) u ≡ Ok y → y < 2 ^ 32 → word_of Esp u + 4 ≤ site.high → bit_or (difference n 1) y ≡ r
    → r < 2 ^ 32 → difference n 1 < 2 ^ 32 → (g : State) × Ored site r u g
ors site n y r u sound ready eax held small top is fits also =
    let a = set-goes site (plain (insn.Pop Ecx) ∷ ending_four) (insn.AluImm alu.Sub (rm.Reg Eax) (pos 1)) Eax
    (difference n 1) (Some (alu_flags alu.Sub (word_of Eax u) 1)) u sound ready tt also
    (λ after. ap (λ (v : ℕ). let q : Result State End =
    Ok (with_result Eax v (Some (alu_flags alu.Sub (word_of Eax u) 1)) u) in q)
    (ap (λ (v : ℕ). difference v 1) eax)) (λ after. refl) in
    ors-pop site (difference n 1) y r u a.0 a.1 a.3 a.2 held small top is fits

-- EBX is as it was, and the routine is left
record Finished (site : Site) (x address : ℕ) (g v : State) : Type 0 where
  pub comes : Comes site.text g v
  pub sound : SoundAt site v
  pub eip : v.eip ≡ address
  pub eax : word_of Eax v ≡ word_of Eax g
  pub ebx : word_of Ebx v ≡ x
  pub esp : word_of Esp v ≡ word_of Esp g + 4 + 4
  pub ebp : word_of Ebp v ≡ word_of Ebp g
  pub memory : v.memory ≡ g.memory
  pub left : v.left ≡ g.left
  pub taken : v.taken ≡ g.taken
  pub written : v.written ≡ g.written

finishes-last : (site : Site) (x address : ℕ) (g i : State) → Comes site.text g i → Popped site Ebx x g i
    → ReadyAt site (plain insn.Ret ∷ []) i → load 4 (word_of Esp g + 4) g ≡ Ok address → address < 2 ^ 32
    → word_of Esp g + 8 ≤ site.high → (v : State) × Finished site x address g v
finishes-last site x address g i p h ready held fits top =
    let t = ret-goes site [] address i h.sound ready
    (load-same 4 (word_of Esp i) address g i h.memory (subst (λ (j : ℕ). load 4 j g ≡ Ok address) (sym h.esp) held))
    fits (within (word_of Esp i) (word_of Esp g) site.high h.esp top) in (
      t.0,
      record {
        comes = comes-then site.text g i t.0 p t.1;
        sound = t.3.sound;
        eip = t.2;
        eax = t.3.others Eax (unlike 0 4 refl) ∙ h.others Eax (unlike 0 3 refl) (unlike 0 4 refl);
        ebx = t.3.others Ebx (unlike 3 4 refl) ∙ h.value;
        esp = t.3.value ∙ ap (λ (k : ℕ). k + 4) h.esp;
        ebp = t.3.others Ebp (unlike 5 4 refl) ∙ h.others Ebp (unlike 5 3 refl) (unlike 5 4 refl);
        memory = t.3.memory ∙ h.memory;
        left = t.3.left ∙ h.left;
        taken = t.3.taken ∙ h.taken;
        written = t.3.written ∙ h.written;
      },
    )
  where
    within : (i g h : ℕ) → i ≡ g + 4 → g + 8 ≤ h → i + 4 ≤ h
    within i g h p q = omega arith

finishes : (site : Site) (x address : ℕ) (g : State) → SoundAt site g → ReadyAt site ending_three g
    → load 4 (word_of Esp g) g ≡ Ok x → x < 2 ^ 32 → load 4 (word_of Esp g + 4) g ≡ Ok address → address < 2 ^ 32
    → word_of Esp g + 8 ≤ site.high → (v : State) × Finished site x address g v
finishes site x address g sound ready old small held fits top =
    let h = pop-goes site (plain insn.Ret ∷ []) Ebx x g sound ready (unlike 4 3 refl) old small
    (within (word_of Esp g) site.high top) in
    finishes-last site x address g h.0 h.1 h.3 h.2 held fits top
  where
    within : (g h : ℕ) → g + 8 ≤ h → g + 4 ≤ h
    within g h p = omega arith

-- put together
got : (site : Site) (n y r address : ℕ) (left : List ℕ) (taken : ℕ) (s m u g v : State) → Asks site s m
    → Took site answering (word_of Esp s - 8) n y left taken m u → Ored site r u g
    → Finished site (word_of Ebx s) address g v → site.low + 8 ≤ word_of Esp s → Got site r address left taken s v
got site n y r address left taken s m u g v p k o f room =
    record {
      comes = comes-then site.text s m v p.comes (comes-then site.text m u v k.comes
          (comes-then site.text u g v o.comes f.comes));
      sound = f.sound;
      eip = f.eip;
      eax = f.eax ∙ o.eax;
      ebx = f.ebx;
      esp = above (word_of Esp v) (word_of Esp g) (word_of Esp u) (word_of Esp m) (word_of Esp s) site.low f.esp o.esp
          k.esp p.esp room;
      ebp = f.ebp ∙ o.ebp ∙ k.ebp ∙ p.ebp;
      kept = λ j b w apart x. load-same j b w u v (f.memory ∙ o.memory)
          (k.kept j b w (half (word_of Esp s) b j apart) (p.kept j b w apart x));
      left_is = f.left ∙ o.left ∙ k.left_is;
      taken_is = f.taken ∙ o.taken ∙ k.taken_is;
      written = f.written ∙ o.written ∙ k.written ∙ p.written;
    }
  where
    above : (v g u m e low : ℕ) → v ≡ g + 4 + 4 → g ≡ u + 4 → u ≡ m → m ≡ e - 8 → low + 8 ≤ e → v ≡ e + 4
    above v g u m e low a b c d h = omega arith

    half : (e b n : ℕ) → AreDisjoint (e - 8) 8 b n → AreDisjoint (e - 8) 4 b n
    half e b n h = disjoint-part (e - 8) 8 (e - 8) 4 b n (omega arith) (omega arith) h

-- from what `read` left
finishes-read : (site : Site) (n y r address : ℕ) (left : List ℕ) (taken : ℕ) (s m u g : State) → SoundAt site s
    → Asks site s m → Took site answering (word_of Esp s - 8) n y left taken m u → Ored site r u g
    → load 4 (word_of Esp s) s ≡ Ok address → address < 2 ^ 32 → site.low + 8 ≤ word_of Esp s
    → word_of Esp s + 4 ≤ site.high → (t : State) × Got site r address left taken s t
finishes-read site n y r address left taken s m u g sound p k o held fits room top =
    let at : word_of Esp g ≡ word_of Esp s - 4 =
    fourth (word_of Esp g) (word_of Esp u) (word_of Esp m) (word_of Esp s) site.low o.esp k.esp p.esp room in
    let f = finishes site (word_of Ebx s) address g o.sound o.ready
    (load-same 4 (word_of Esp g) (word_of Ebx s) u g o.memory
    (subst (λ (j : ℕ). load 4 j u ≡ Ok (word_of Ebx s)) (sym at)
    (k.kept 4 (word_of Esp s - 4) (word_of Ebx s) (next site.low (word_of Esp s) room) p.old_ebx)))
    (word-below site.text site.low site.high Ebx s sound)
    (load-same 4 (word_of Esp g + 4) address u g o.memory
    (subst (λ (j : ℕ). load 4 j u ≡ Ok address) (whole (word_of Esp g) (word_of Esp s) site.low at room)
    (k.kept 4 (word_of Esp s) address (over site.low (word_of Esp s) room)
    (p.kept 4 (word_of Esp s) address (all site.low (word_of Esp s) room) held)))) fits
    (within (word_of Esp g) (word_of Esp s) site.low site.high at room top) in
    (f.0, got site n y r address left taken s m u g f.0 p k o f.1 room)
  where
    fourth : (g u m e low : ℕ) → g ≡ u + 4 → u ≡ m → m ≡ e - 8 → low + 8 ≤ e → g ≡ e - 4
    fourth g u m e low a b c h = omega arith

    next : (low e : ℕ) → low + 8 ≤ e → AreDisjoint (e - 8) 4 (e - 4) 4
    next low e h = inl (omega arith)

    over : (low e : ℕ) → low + 8 ≤ e → AreDisjoint (e - 8) 4 e 4
    over low e h = inl (omega arith)

    all : (low e : ℕ) → low + 8 ≤ e → AreDisjoint (e - 8) 8 e 4
    all low e h = inl (omega arith)

    whole : (g e low : ℕ) → g ≡ e - 4 → low + 8 ≤ e → e ≡ g + 4
    whole g e low p h = omega arith

    within : (g e low h : ℕ) → g ≡ e - 4 → low + 8 ≤ e → e + 4 ≤ h → g + 8 ≤ h
    within g e low h p q r = omega arith

answers : (site : Site) (n y r address : ℕ) (left : List ℕ) (taken : ℕ) (s m u : State) → SoundAt site s → Asks site s m
    → Took site answering (word_of Esp s - 8) n y left taken m u → y < 256 → bit_or (difference n 1) y ≡ r → r < 2 ^ 32
    → difference n 1 < 2 ^ 32 → load 4 (word_of Esp s) s ≡ Ok address → address < 2 ^ 32
    → site.low + 8 ≤ word_of Esp s → word_of Esp s + 4 ≤ site.high → (t : State) × Got site r address left taken s t
answers site n y r address left taken s m u sound p k small is fits also held back_fits room top =
    let at : word_of Esp u ≡ word_of Esp s - 8 = k.esp ∙ p.esp in
    let o = ors site n y r u k.sound k.ready k.eax (subst (λ (j : ℕ). load 4 j u ≡ Ok y) (sym at) k.word) (wide y small)
    (within (word_of Esp u) (word_of Esp s) site.low site.high at room top) is fits also in
    finishes-read site n y r address left taken s m u o.0 sound p k o.1 held back_fits room top
  where
    wide : (y : ℕ) → y < 256 → y < 2 ^ 32
    wide y h = omega arith

    within : (u e low h : ℕ) → u ≡ e - 8 → low + 8 ≤ e → e + 4 ≤ h → u + 4 ≤ h
    within u e low h p q r = omega arith

-- at the end of the input it gives -1
pub gets-none : (site : Site) (address : ℕ) (s : State) → SoundAt site s → ReadyAt site getchar_items s
    → site.low + 8 ≤ word_of Esp s → word_of Esp s + 4 ≤ site.high → load 4 (word_of Esp s) s ≡ Ok address
    → address < 2 ^ 32 → s.left ≡ [] → (t : State) × Got site 0xffffffff address s.left s.taken s t
gets-none site address s sound ready room top held fits none =
    let p = asks site s sound ready room top in
    let m : State = p.0 in
    let k = takes-none site answering (word_of Esp s - 8) m p.1.sound p.1.ready p.1.eax p.1.ebx p.1.ecx p.1.edx p.1.zero
    (omega (arith, room)) (omega (arith, room, top)) (p.1.left ∙ none) in
    let g = answers site 0 0 0xffffffff address m.left m.taken s m k.0 sound p.1 k.1 (omega arith)
    (or_zero_r 0xffffffff) (omega arith) (omega arith) held fits room top in (
      g.0,
      subst (λ (l : List ℕ). Got site 0xffffffff address l s.taken s g.0) p.1.left
          (subst (λ (n : ℕ). Got site 0xffffffff address m.left n s g.0) p.1.taken g.1),
    )

-- and else the next byte
pub gets-one : (site : Site) (address y : ℕ) (rest : List ℕ) (s : State) → SoundAt site s → ReadyAt site getchar_items s
    → site.low + 8 ≤ word_of Esp s → word_of Esp s + 4 ≤ site.high → load 4 (word_of Esp s) s ≡ Ok address
    → address < 2 ^ 32 → s.left ≡ y ∷ rest → y < 256 → (t : State) × Got site y address rest (s.taken + 1) s t
gets-one site address y rest s sound ready room top held fits some small =
    let p = asks site s sound ready room top in
    let m : State = p.0 in
    let k = takes-one site answering (word_of Esp s - 8) y rest m p.1.sound p.1.ready p.1.eax p.1.ebx p.1.ecx p.1.edx
    p.1.zero (omega (arith, room)) (omega (arith, room, top)) (p.1.left ∙ some) small in
    let g = answers site 1 y y address rest (m.taken + 1) s m k.0 sound p.1 k.1 small (or_zero_l y)
    (omega (arith, small)) (omega arith) held fits room top in
    (g.0, subst (λ (n : ℕ). Got site y address rest (n + 1) s g.0) p.1.taken g.1)
