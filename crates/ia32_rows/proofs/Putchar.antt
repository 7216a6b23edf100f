-- The routine `putchar`, and what stands behind a call of it.
use Rattle.std.proofs.Common.{◌≡◌, ℕ, ◌+◌, ◌-◌, ◌%◌, ◌^◌, ◌<◌, ◌≤◌, List, [], ◌∷◌, ◌++◌, length, pos, Ok, refl, sym, ap}
use Rattle.std.proofs.Common.{subst, ◌∙◌, inl, arith}
use Rattle.std.specs.Prelude.{Result}
use Rattle.pcc_base.specs.Outcome.{End}
use Rattle.ia32_insn.specs.declared.register_names.Reg32.TheVariants.{Eax, Ecx, Edx, Ebx, Esp, Ebp}
use Rattle.ia32_insn.specs.declared.operand.Rm32.TheVariants as rm
use Rattle.ia32_insn.specs.declared.operand.Rm8.TheVariants as rm8
use Rattle.ia32_insn.specs.declared.insn.Insn.TheVariants as insn
use Rattle.ia32_insn.specs.declared.item.Item.{Item}
use Rattle.ia32_insn.specs.declared.item.Item.TheVariants as item
use Rattle.ia32_insn.specs.declared.item.Stub.TheVariants as stub
use Rattle.ia32_insn.specs.State.{State}
use Rattle.ia32_insn.specs.Meaning.{and_then, address_of, load, word_of, with_word}
use Rattle.ia32_insn.specs.Keeps.{AreDisjoint}
use Rattle.ia32_insn.specs.Items.{near, plain, putchar_items}
use Rattle.ia32_rows.proofs.Sound.{load-same, word-below}
use Rattle.ia32_rows.proofs.Steps.{IsAt, Comes, comes-then}
use Rattle.ia32_rows.proofs.Sets.{ready-from, disjoint-part, unlike, Sets, set-goes}
use Rattle.ia32_rows.proofs.Pushes.{one_fits, Pushed, push-goes}
use Rattle.ia32_rows.proofs.Pushes.{call-goes, pop-goes, ret-goes}
use Rattle.ia32_rows.proofs.Interrupts.{write-goes}
use Rattle.ia32_rows.specs.Sites.{Site, SoundAt, ReadyAt, StandsFrom}

-- ---- numbers

-- an address so far above a register's word
no_wrap : (e d : ℕ) → e + d < 0x1_0000_0000 → (e + 0 + d) % 0x1_0000_0000 ≡ e + d
no_wrap e d h = omega arith

pub near-address : (distance : ℕ) (s : State) → word_of Esp s + distance < 0x1_0000_0000
    → address_of (near Esp distance) s ≡ word_of Esp s + distance
near-address distance s h = no_wrap (word_of Esp s) distance h

four_fits : 4 < 2 ^ 32
four_fits = omega arith

-- four bytes lower, and eight bytes higher
pub four-lower : (a e : ℕ) → a + 4 ≡ e → a ≡ e - 4
four-lower a e h = omega arith

four-higher : (a e : ℕ) → a + 4 ≡ e → a + 8 ≡ e + 4
four-higher a e h = omega arith

still-lower : (a b e : ℕ) → a ≡ b → b + 4 ≡ e → a + 4 ≡ e
still-lower a b e h k = omega arith

less-than : (a b c : ℕ) → a ≤ b → b < c → a < c
less-than a b c h k = omega arith

no-more : (a b : ℕ) → a + 8 ≤ b → a ≤ b
no-more a b h = omega arith

above : (low e d : ℕ) → low + 4 ≤ e → low ≤ e + d
above low e d h = omega arith

higher-below : (a e h : ℕ) → a + 4 ≡ e → e + 8 ≤ h → a + 8 ≤ h
higher-below a e h p q = omega arith

-- ---- the routine

-- the items of the routine from its system call on
abbrev writing : List Item
writing =
    plain (insn.Int 0x80)
    ∷ plain (insn.MovZx8 Eax (rm8.Mem (near Esp 8)))
    ∷ plain (insn.Pop Ebx)
    ∷ plain insn.Ret
    ∷ []

-- the four registers of the system call are set
record Readied (site : Site) (s u : State) : Type 0 where
  pub comes : Comes site.text s u
  pub ready : ReadyAt site writing u
  pub sound : SoundAt site u
  pub eax : word_of Eax u ≡ 4
  pub ebx : word_of Ebx u ≡ 1
  pub ecx : word_of Ecx u ≡ word_of Esp s + 8
  pub edx : word_of Edx u ≡ 1
  pub esp : word_of Esp u ≡ word_of Esp s
  pub ebp : word_of Ebp u ≡ word_of Ebp s
  pub memory : u.memory ≡ s.memory
  pub left : u.left ≡ s.left
  pub taken : u.taken ≡ s.taken
  pub written : u.written ≡ s.written

abbrev setting_two : List Item
setting_two = plain (insn.Lea Ecx (near Esp 8)) ∷ plain (insn.MovImm (rm.Reg Edx) (pos 1)) ∷ writing

abbrev setting_four : List Item
setting_four = plain (insn.MovImm (rm.Reg Eax) (pos 4)) ∷ plain (insn.MovImm (rm.Reg Ebx) (pos 1)) ∷ setting_two

-- two registers in turn keep the others
readied : (site : Site) (s b c d u : State) → Comes site.text s b → Sets site Eax 4 s.written s b → Comes site.text b c
    → Sets site Ebx 1 b.written b c
    → Comes site.text c d → Sets site Ecx (word_of Esp s + 8) c.written c d → Comes site.text d u
    → Sets site Edx 1 d.written d u → ReadyAt site writing u → Readied site s u
readied site s b c d u p q r v w x y z ready =
    record {
      comes = comes-then site.text s b u p (comes-then site.text b c u r (comes-then site.text c d u w y));
      ready = ready;
      sound = z.sound;
      eax = z.others Eax (unlike 0 2 refl) ∙ x.others Eax (unlike 0 1 refl) ∙ v.others Eax (unlike 0 3 refl) ∙ q.value;
      ebx = z.others Ebx (unlike 3 2 refl) ∙ x.others Ebx (unlike 3 1 refl) ∙ v.value;
      ecx = z.others Ecx (unlike 1 2 refl) ∙ x.value;
      edx = z.value;
      esp = z.others Esp (unlike 4 2 refl) ∙ x.others Esp (unlike 4 1 refl) ∙ v.others Esp (unlike 4 3 refl)
          ∙ q.others Esp (unlike 4 0 refl);
      ebp = z.others Ebp (unlike 5 2 refl) ∙ x.others Ebp (unlike 5 1 refl) ∙ v.others Ebp (unlike 5 3 refl)
          ∙ q.others Ebp (unlike 5 0 refl);
      memory = z.memory ∙ x.memory ∙ v.memory ∙ q.memory;
      left = z.left ∙ x.left ∙ v.left ∙ q.left;
      taken = z.taken ∙ x.taken ∙ v.taken ∙ q.taken;
      written = z.written ∙ x.written ∙ v.written ∙ q.written;
    }

-- the argument's address to ECX, and one byte to EDX
readies-two : (site : Site) (s b : State) → Comes site.text s b → Sets site Eax 4 s.written s b
    → ((c : State) × Comes site.text b c × ReadyAt site setting_two c × Sets site Ebx 1 b.written b c)
    → word_of Esp s + 8 < 0x1_0000_0000 → (u : State) × Readied site s u
readies-two site s b p q (c, r, ready, v) fits =
    let esp : word_of Esp c ≡ word_of Esp s = v.others Esp (unlike 4 3 refl) ∙ q.others Esp (unlike 4 0 refl) in
    let there : address_of (near Esp 8) c ≡ word_of Esp s + 8 =
    near-address 8 c (subst (λ (k : ℕ). k + 8 < 0x1_0000_0000) (sym esp) fits) ∙ ap (λ (k : ℕ). k + 8) esp in
    let w = set-goes site (plain (insn.MovImm (rm.Reg Edx) (pos 1)) ∷ writing) (insn.Lea Ecx (near Esp 8)) Ecx
    (word_of Esp s + 8) c.flags c v.sound ready tt fits
    (λ after. ap (λ (k : ℕ). let o : Result State End = Ok (with_word Ecx k c) in o) there) (λ after. refl) in
    let d : State = w.0 in
    let y = set-goes site writing (insn.MovImm (rm.Reg Edx) (pos 1)) Edx 1 d.flags d w.3.sound w.2 tt one_fits
    (λ after. refl) (λ after. refl) in
    (y.0, readied site s b c d y.0 p q r v w.1 w.3 y.1 y.3 y.2)

readies : (site : Site) (s : State) → SoundAt site s → ReadyAt site setting_four s → word_of Esp s + 8 < 0x1_0000_0000
    → (u : State) × Readied site s u
readies site s sound ready fits =
    let p = set-goes site (plain (insn.MovImm (rm.Reg Ebx) (pos 1)) ∷ setting_two) (insn.MovImm (rm.Reg Eax) (pos 4))
    Eax 4 s.flags s sound ready tt four_fits (λ after. refl) (λ after. refl) in
    let b : State = p.0 in
    readies-two site s b p.1 p.3 (set-goes site setting_two (insn.MovImm (rm.Reg Ebx) (pos 1)) Ebx 1 b.flags b p.3.sound
    p.2 tt one_fits (λ after. refl) (λ after. refl)) fits

-- the state in which the routine calls the system
record Prepared (site : Site) (s u : State) : Type 0 where
  pub comes : Comes site.text s u
  pub ready : ReadyAt site writing u
  pub sound : SoundAt site u
  pub eax : word_of Eax u ≡ 4
  pub ebx : word_of Ebx u ≡ 1
  pub ecx : word_of Ecx u ≡ word_of Esp s + 4
  pub edx : word_of Edx u ≡ 1
  pub esp : word_of Esp u + 4 ≡ word_of Esp s
  pub ebp : word_of Ebp u ≡ word_of Ebp s
  pub old_ebx : load 4 (word_of Esp u) u ≡ Ok (word_of Ebx s)
  pub kept : (n b w : ℕ) → AreDisjoint (word_of Esp s - 4) 4 b n → load n b s ≡ Ok w → load n b u ≡ Ok w
  pub left : u.left ≡ s.left
  pub taken : u.taken ≡ s.taken
  pub written : u.written ≡ s.written

prepared : (site : Site) (s a u : State) → Comes site.text s a → Pushed site (word_of Ebx s) s a → Readied site a u
    → Prepared site s u
prepared site s a u comes p r =
    let lower : word_of Esp a ≡ word_of Esp s - 4 = four-lower (word_of Esp a) (word_of Esp s) p.esp in
    record {
      comes = comes-then site.text s a u comes r.comes;
      ready = r.ready;
      sound = r.sound;
      eax = r.eax;
      ebx = r.ebx;
      ecx = r.ecx ∙ four-higher (word_of Esp a) (word_of Esp s) p.esp;
      edx = r.edx;
      esp = still-lower (word_of Esp u) (word_of Esp a) (word_of Esp s) r.esp p.esp;
      ebp = r.ebp ∙ p.others Ebp (unlike 5 4 refl);
      old_ebx = load-same 4 (word_of Esp u) (word_of Ebx s) a u r.memory
          (subst (λ (k : ℕ). load 4 k a ≡ Ok (word_of Ebx s)) (sym r.esp) p.word);
      kept = λ n x y k e. load-same n x y a u r.memory
          (p.apart n x y (subst (λ (m : ℕ). AreDisjoint m 4 x n) (sym lower) k) e);
      left = r.left ∙ p.left;
      taken = r.taken ∙ p.taken;
      written = r.written ∙ p.written;
    }

prepares-behind : (site : Site) (s : State) → word_of Esp s + 8 ≤ site.high
    → ((a : State) × Comes site.text s a × ReadyAt site setting_four a × Pushed site (word_of Ebx s) s a) → (u : State)
    × Prepared site s u
prepares-behind site s top (a, comes, ready, p) =
    let r = readies site a p.sound ready (less-than (word_of Esp a + 8) site.high 0x1_0000_0000
    (higher-below (word_of Esp a) (word_of Esp s) site.high p.esp top) p.sound.below) in
    (r.0, prepared site s a r.0 comes p r.1)

prepares : (site : Site) (s : State) → SoundAt site s → ReadyAt site putchar_items s → site.low + 4 ≤ word_of Esp s
    → word_of Esp s + 8 ≤ site.high → (u : State) × Prepared site s u
prepares site s sound ready room top = prepares-behind site s top
    (push-goes site setting_four Ebx s sound ready room (no-more (word_of Esp s) site.high top))

-- the state behind the routine
pub record Answered (site : Site) (y address : ℕ) (s u : State) : Type 0 where
  pub comes : Comes site.text s u
  pub sound : SoundAt site u
  pub eip : u.eip ≡ address
  pub eax : word_of Eax u ≡ y
  pub esp : word_of Esp u ≡ word_of Esp s + 4
  pub ebp : word_of Ebp u ≡ word_of Ebp s
  pub ebx : word_of Ebx u ≡ word_of Ebx s
  pub kept : (n b w : ℕ) → AreDisjoint (word_of Esp s - 4) 4 b n → load n b s ≡ Ok w → load n b u ≡ Ok w
  pub left : u.left ≡ s.left
  pub taken : u.taken ≡ s.taken
  pub written : u.written ≡ s.written ++ y ∷ []

-- the items behind the system call
abbrev answering : List Item
answering = plain (insn.MovZx8 Eax (rm8.Mem (near Esp 8))) ∷ plain (insn.Pop Ebx) ∷ plain insn.Ret ∷ []

-- the state in which the routine returns
record Answering (site : Site) (y : ℕ) (s u : State) : Type 0 where
  pub comes : Comes site.text s u
  pub ready : ReadyAt site (plain insn.Ret ∷ []) u
  pub sound : SoundAt site u
  pub eax : word_of Eax u ≡ y
  pub esp : word_of Esp u ≡ word_of Esp s
  pub ebp : word_of Ebp u ≡ word_of Ebp s
  pub ebx : word_of Ebx u ≡ word_of Ebx s
  pub kept : (n b w : ℕ) → AreDisjoint (word_of Esp s - 4) 4 b n → load n b s ≡ Ok w → load n b u ≡ Ok w
  pub left : u.left ≡ s.left
  pub taken : u.taken ≡ s.taken
  pub written : u.written ≡ s.written ++ y ∷ []

-- places at an address or above stand apart from the four bytes below it
behind : (low e n b : ℕ) → low + 4 ≤ e → e ≤ b → AreDisjoint (e - 4) 4 b n
behind low e n b room h = inl (omega arith)

next-one : (e h : ℕ) → e + 8 ≤ h → e + 4 + 1 ≤ h
next-one e h k = omega arith

next-four : (e h : ℕ) → e + 8 ≤ h → e + 4 ≤ h
next-four e h k = omega arith

no-less : (e : ℕ) → e ≤ e + 4
no-less e = omega arith

itself : (e : ℕ) → e ≤ e
itself e = omega arith

popped-fits : (a b e h : ℕ) → a ≡ b → b + 4 ≡ e → e + 8 ≤ h → a + 4 ≤ h
popped-fits a b e h p q r = omega arith

popped-back : (a b c e : ℕ) → a ≡ b + 4 → b ≡ c → c + 4 ≡ e → a ≡ e
popped-back a b c e p q r = omega arith

-- the result is read and EBX is as before
answering-pop : (site : Site) (y : ℕ) (s a b c : State) → word_of Esp s + 8 ≤ site.high → SoundAt site s
    → Prepared site s a → Comes site.text a b → Sets site Eax 1 (a.written ++ y ∷ []) a b
    → Comes site.text b c → Sets site Eax y b.written b c → ReadyAt site (plain (insn.Pop Ebx) ∷ plain insn.Ret ∷ []) c
    → (u : State) × Answering site y s u
answering-pop site y s a b c top sound p q r v w ready =
    let esp : word_of Esp c ≡ word_of Esp a = w.others Esp (unlike 4 0 refl) ∙ r.others Esp (unlike 4 0 refl) in
    let memory : c.memory ≡ a.memory = w.memory ∙ r.memory in
    let old : load 4 (word_of Esp c) c ≡ Ok (word_of Ebx s) =
    load-same 4 (word_of Esp c) (word_of Ebx s) a c memory
    (subst (λ (k : ℕ). load 4 k a ≡ Ok (word_of Ebx s)) (sym esp) p.old_ebx) in
    let x = pop-goes site (plain insn.Ret ∷ []) Ebx (word_of Ebx s) c w.sound ready (unlike 4 3 refl) old
    (word-below site.text site.low site.high Ebx s sound)
    (popped-fits (word_of Esp c) (word_of Esp a) (word_of Esp s) site.high esp p.esp top) in
    let u : State = x.0 in (
      u,
      record {
        comes = comes-then site.text s a u p.comes (comes-then site.text a b u q (comes-then site.text b c u v x.1));
        ready = x.2;
        sound = x.3.sound;
        eax = x.3.others Eax (unlike 0 3 refl) (unlike 0 4 refl) ∙ w.value;
        esp = popped-back (word_of Esp u) (word_of Esp c) (word_of Esp a) (word_of Esp s) x.3.esp esp p.esp;
        ebp = x.3.others Ebp (unlike 5 3 refl) (unlike 5 4 refl) ∙ w.others Ebp (unlike 5 0 refl)
            ∙ r.others Ebp (unlike 5 0 refl) ∙ p.ebp;
        ebx = x.3.value;
        kept = λ n k z apart e. load-same n k z a u (x.3.memory ∙ memory) (p.kept n k z apart e);
        left = x.3.left ∙ w.left ∙ r.left ∙ p.left;
        taken = x.3.taken ∙ w.taken ∙ r.taken ∙ p.taken;
        written = x.3.written ∙ w.written ∙ r.written ∙ ap (λ (l : List ℕ). l ++ y ∷ []) p.written;
      },
    )

answering-read : (site : Site) (y : ℕ) (s a : State) → word_of Esp s + 8 ≤ site.high → SoundAt site s
    → Prepared site s a → load 1 (word_of Esp s + 4) a ≡ Ok y → y < 2 ^ 32
    → ((b : State) × Comes site.text a b × ReadyAt site answering b × Sets site Eax 1 (a.written ++ y ∷ []) a b)
    → (u : State) × Answering site y s u
answering-read site y s a top sound p byte small (b, q, ready, r) =
    let esp : word_of Esp b ≡ word_of Esp a = r.others Esp (unlike 4 0 refl) in
    let at : word_of Esp b + 8 ≡ word_of Esp s + 4 = ap (λ (k : ℕ). k + 8) esp
    ∙ four-higher (word_of Esp a) (word_of Esp s) p.esp in
    let room : word_of Esp b + 8 < 0x1_0000_0000 =
    less-than (word_of Esp b + 8) site.high 0x1_0000_0000
    (subst (λ (k : ℕ). k ≤ site.high) (sym at) (next-four (word_of Esp s) site.high top)) sound.below in
    let there : address_of (near Esp 8) b ≡ word_of Esp s + 4 = near-address 8 b room ∙ at in
    let read : load 1 (address_of (near Esp 8) b) b ≡ Ok y = ap (λ (k : ℕ). load 1 k b) there
    ∙ load-same 1 (word_of Esp s + 4) y a b r.memory byte in
    let v = set-goes site (plain (insn.Pop Ebx) ∷ plain insn.Ret ∷ []) (insn.MovZx8 Eax (rm8.Mem (near Esp 8))) Eax y
    b.flags b r.sound ready tt small (λ after.
    ap (λ (x : Result ℕ End). and_then x (λ value. let o : Result State End = Ok (with_word Eax value b) in o))
    read) (λ after. refl) in
    answering-pop site y s a b v.0 top sound p q r v.1 v.3 v.2

answers-behind : (site : Site) (y : ℕ) (s : State) → SoundAt site s → site.low + 4 ≤ word_of Esp s
    → word_of Esp s + 8 ≤ site.high → load 1 (word_of Esp s + 4) s ≡ Ok y → y < 2 ^ 32
    → ((a : State) × Prepared site s a) → (u : State) × Answering site y s u
answers-behind site y s sound room top byte small (a, p) =
    let e : ℕ = word_of Esp s in
    let held : load 1 (e + 4) a ≡ Ok y = p.kept 1 (e + 4) y (behind site.low e 1 (e + 4) room (no-less e)) byte in
    answering-read site y s a top sound p held small
    (write-goes site answering y (e + 4) a p.sound p.ready p.eax p.ebx p.ecx p.edx held (above site.low e 4 room)
    (next-one e site.high top))

answers-back : (site : Site) (y address : ℕ) (s : State) → site.low + 4 ≤ word_of Esp s → word_of Esp s + 8 ≤ site.high
    → load 4 (word_of Esp s) s ≡ Ok address → address < 2 ^ 32 → ((d : State) × Answering site y s d) → (u : State)
    × Answered site y address s u
answers-back site y address s room top held fits (d, p) =
    let e : ℕ = word_of Esp s in
    let there : load 4 (word_of Esp d) d ≡ Ok address =
    subst (λ (k : ℕ). load 4 k d ≡ Ok address) (sym p.esp)
    (p.kept 4 e address (behind site.low e 4 e room (itself e)) held) in
    let w = ret-goes site [] address d p.sound p.ready there fits
    (subst (λ (k : ℕ). k + 4 ≤ site.high) (sym p.esp) (next-four e site.high top)) in
    let u : State = w.0 in (
      u,
      record {
        comes = comes-then site.text s d u p.comes w.1;
        sound = w.3.sound;
        eip = w.2;
        eax = w.3.others Eax (unlike 0 4 refl) ∙ p.eax;
        esp = w.3.value ∙ ap (λ (k : ℕ). k + 4) p.esp;
        ebp = w.3.others Ebp (unlike 5 4 refl) ∙ p.ebp;
        ebx = w.3.others Ebx (unlike 3 4 refl) ∙ p.ebx;
        kept = λ n x z k h. load-same n x z d u w.3.memory (p.kept n x z k h);
        left = w.3.left ∙ p.left;
        taken = w.3.taken ∙ p.taken;
        written = w.3.written ∙ p.written;
      },
    )

-- the byte above the return address is written, and is the result
pub putchar-answers : (site : Site) (y address : ℕ) (s : State) → SoundAt site s → ReadyAt site putchar_items s
    → site.low + 4 ≤ word_of Esp s → word_of Esp s + 8 ≤ site.high
    → load 4 (word_of Esp s) s ≡ Ok address → address < 2 ^ 32 → load 1 (word_of Esp s + 4) s ≡ Ok y → y < 2 ^ 32
    → (u : State) × Answered site y address s u
putchar-answers site y address s sound ready room top held fits byte small =
    answers-back site y address s room top held fits
    (answers-behind site y s sound room top byte small (prepares site s sound ready room top))

-- ---- the row

-- the state behind the call, where the argument still stands on the stack
pub record Called (site : Site) (back : List Item) (x : ℕ) (s u : State) : Type 0 where
  pub comes : Comes site.text s u
  pub ready : ReadyAt site back u
  pub sound : SoundAt site u
  pub eax : word_of Eax u ≡ x % 256
  pub esp : word_of Esp u + 4 ≡ word_of Esp s
  pub ebp : word_of Ebp u ≡ word_of Ebp s
  pub ebx : word_of Ebx u ≡ word_of Ebx s
  pub argument : load 4 (word_of Esp u) u ≡ Ok x
  pub kept : (n b w : ℕ) → AreDisjoint (word_of Esp s - 12) 12 b n → load n b s ≡ Ok w → load n b u ≡ Ok w
  pub left : u.left ≡ s.left
  pub taken : u.taken ≡ s.taken
  pub written : u.written ≡ s.written ++ (x % 256) ∷ []

byte-fits : (x : ℕ) → x % 256 < 2 ^ 32
byte-fits x = omega arith

-- three words below an address, one below the other
first-word : (e a n b : ℕ) → 12 ≤ e → a + 4 ≡ e → AreDisjoint (e - 12) 12 b n → AreDisjoint a 4 b n
first-word e a n b h p k = disjoint-part (e - 12) 12 a 4 b n (omega arith) (omega arith) k

second-word : (e a c n b : ℕ) → 12 ≤ e → a + 4 ≡ e → c + 4 ≡ a → AreDisjoint (e - 12) 12 b n → AreDisjoint c 4 b n
second-word e a c n b h p q k = disjoint-part (e - 12) 12 c 4 b n (omega arith) (omega arith) k

third-word : (e a c n b : ℕ) → 12 ≤ e → a + 4 ≡ e → c + 4 ≡ a → AreDisjoint (e - 12) 12 b n → AreDisjoint (c - 4) 4 b n
third-word e a c n b h p q k = disjoint-part (e - 12) 12 (c - 4) 4 b n (omega arith) (omega arith) k

twelve : (low e : ℕ) → low + 12 ≤ e → 12 ≤ e
twelve low e h = omega arith

room-two : (low e a : ℕ) → low + 12 ≤ e → a + 4 ≡ e → low + 4 ≤ a
room-two low e a h p = omega arith

room-three : (low e a c : ℕ) → low + 12 ≤ e → a + 4 ≡ e → c + 4 ≡ a → low + 4 ≤ c
room-three low e a c h p q = omega arith

top-two : (e a h : ℕ) → a + 4 ≡ e → e ≤ h → a ≤ h
top-two e a h p k = omega arith

top-three : (e a c h : ℕ) → a + 4 ≡ e → c + 4 ≡ a → e ≤ h → c + 8 ≤ h
top-three e a c h p q k = omega arith

word-above : (c a n : ℕ) → c + 4 ≡ a → AreDisjoint c 4 a n
word-above c a n p = inl (omega arith)

back-above : (u c a e : ℕ) → u ≡ c + 4 → c + 4 ≡ a → a + 4 ≡ e → u + 4 ≡ e
back-above u c a e p q r = omega arith

-- from the routine's answer
called : (site : Site) (back : List Item) (x address : ℕ) (s a c u : State) → word_of Esp s ≤ site.high
    → site.low + 12 ≤ word_of Esp s → Comes site.text s a → Pushed site x s a → Comes site.text a c
    → Pushed site address a c
    → StandsFrom site back address → Answered site (x % 256) address c u → Called site back x s u
called site back x address s a c u top room p q r v follows w =
    let e : ℕ = word_of Esp s in
    let some = twelve site.low e room in
    let esp : word_of Esp u ≡ word_of Esp a = w.esp ∙ v.esp in
    let argument_c : load 4 (word_of Esp a) c ≡ Ok x =
    v.apart 4 (word_of Esp a) x (word-above (word_of Esp c) (word_of Esp a) 4 v.esp) q.word in
    let argument_u : load 4 (word_of Esp a) u ≡ Ok x =
    w.kept 4 (word_of Esp a) x (behind site.low (word_of Esp c) 4 (word_of Esp a)
    (room-three site.low e (word_of Esp a) (word_of Esp c) room q.esp v.esp)
    (subst (λ (k : ℕ). word_of Esp c ≤ k) v.esp (no-less (word_of Esp c)))) argument_c in
    record {
      comes = comes-then site.text s a u p (comes-then site.text a c u r w.comes);
      ready = ready-from site back address u follows w.eip;
      sound = w.sound;
      eax = w.eax;
      esp = back-above (word_of Esp u) (word_of Esp c) (word_of Esp a) e w.esp v.esp q.esp;
      ebp = w.ebp ∙ v.others Ebp (unlike 5 4 refl) ∙ q.others Ebp (unlike 5 4 refl);
      ebx = w.ebx ∙ v.others Ebx (unlike 3 4 refl) ∙ q.others Ebx (unlike 3 4 refl);
      argument = subst (λ (k : ℕ). load 4 k u ≡ Ok x) (sym esp) argument_u;
      kept = λ n b z k h. w.kept n b z (third-word e (word_of Esp a) (word_of Esp c) n b some q.esp v.esp k)
          (v.apart n b z (second-word e (word_of Esp a) (word_of Esp c) n b some q.esp v.esp k)
          (q.apart n b z (first-word e (word_of Esp a) n b some q.esp k) h));
      left = w.left ∙ v.left ∙ q.left;
      taken = w.taken ∙ v.taken ∙ q.taken;
      written = w.written ∙ ap (λ (l : List ℕ). l ++ (x % 256) ∷ []) (v.written ∙ q.written);
    }

called-by : (site : Site) (back : List Item) (x address : ℕ) (s a c : State) → word_of Esp s ≤ site.high
    → site.low + 12 ≤ word_of Esp s → StandsFrom site putchar_items site.symbols.putchar → Comes site.text s a
    → Pushed site x s a
    → Comes site.text a c → c.eip ≡ site.symbols.putchar → Pushed site address a c → StandsFrom site back address
    → address < 2 ^ 32 → (u : State) × Called site back x s u
called-by site back x address s a c top room routine p q r at v follows fits =
    let e : ℕ = word_of Esp s in
    let ready : ReadyAt site putchar_items c = ready-from site putchar_items site.symbols.putchar c routine at in
    let byte : load 1 (word_of Esp c + 4) c ≡ Ok (x % 256) =
    subst (λ (k : ℕ). load 1 k c ≡ Ok (x % 256)) (sym v.esp)
    (v.apart 1 (word_of Esp a) (x % 256) (word-above (word_of Esp c) (word_of Esp a) 1 v.esp) q.byte) in
    let w = putchar-answers site (x % 256) address c v.sound ready
    (room-three site.low e (word_of Esp a) (word_of Esp c) room q.esp v.esp)
    (top-three e (word_of Esp a) (word_of Esp c) site.high q.esp v.esp top) v.word fits byte (byte-fits x) in
    (w.0, called site back x address s a c w.0 top room p q r v follows w.1)

-- what was pushed is passed to the routine
pub calls-behind : (site : Site) (back : List Item) (x : ℕ) (s : State) → word_of Esp s ≤ site.high
    → site.low + 12 ≤ word_of Esp s → StandsFrom site putchar_items site.symbols.putchar
    → ((a : State) × Comes site.text s a × ReadyAt site (item.CallStub stub.Putchar ∷ back) a × Pushed site x s a)
    → (u : State) × Called site back x s u
calls-behind site back x s top room routine (a, p, ready, q) =
    let e : ℕ = word_of Esp s in
    let first : List ℕ = ready.stand.0 in
    let rest : List ℕ = ready.stand.1 in
    let whole : IsAt site.text a.eip (first ++ rest) = subst (IsAt site.text a.eip) ready.stand.2 ready.here in
    let r = call-goes site back site.symbols.putchar first rest a q.sound whole ready.stand.3 ready.stand.4
    (room-two site.low e (word_of Esp a) room q.esp) (top-two e (word_of Esp a) site.high q.esp top) in
    called-by site back x (a.eip + length first) s a r.0 top room routine p q r.1 r.2 r.3 r.4 r.5
