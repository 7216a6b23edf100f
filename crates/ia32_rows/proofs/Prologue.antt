-- The prologue: the caller's registers are saved, the frame is made, and words further below become 0.
use Rattle.std.proofs.Common.{◌≡◌, ℕ, ◌+◌, ◌-◌, ◌*◌, ◌/◌, ◌%◌, ◌^◌, ◌<◌, ◌≤◌, List, ◌∷◌, ◌++◌, pos, Ok, refl, sym, ap}
use Rattle.std.proofs.Common.{subst, ◌∙◌, inl, arith, [], nat_lt}
use Rattle.std.specs.Prelude.{Result, Bool, true, false, if◌then◌else◌}
use Rattle.std.proofs.lemmas.Bool.Decides.{nat_tests}
use Rattle.pcc_base.specs.Outcome.{End}
use Rattle.ia32_insn.specs.declared.register_names.Reg32.{Reg32}
use Rattle.ia32_insn.specs.declared.register_names.Reg32.TheVariants.{Ebx, Esp, Ebp, Esi, Edi}
use Rattle.ia32_insn.specs.declared.operand.Rm32.TheVariants as rm
use Rattle.ia32_insn.specs.declared.insn.Insn.TheVariants as insn
use Rattle.ia32_insn.specs.declared.item.Item.{Item}
use Rattle.ia32_insn.specs.State.{State}
use Rattle.ia32_insn.specs.Meaning.{load, word_of, with_word}
use Rattle.ia32_insn.specs.Keeps.{AreDisjoint}
use Rattle.ia32_insn.specs.Items.{plain}
use Rattle.ia32_rows.specs.Placements.{below}
use Rattle.ia32_rows.specs.Passing.{zeroing}
use Rattle.ia32_rows.proofs.Sound.{load-same, word-below}
use Rattle.ia32_rows.proofs.Steps.{Comes, comes-then}
use Rattle.ia32_rows.proofs.Filling.{fill-goes, zeros-load}
use Rattle.ia32_rows.proofs.Frames.{below-address}
use Rattle.ia32_rows.specs.Filling.{fill, Filled}
use Rattle.ia32_rows.specs.CallsLaws.{Entered, PrologueGoes}
use Rattle.ia32_rows.proofs.Sets.{disjoint-part, unlike, Sets, set-goes}
use Rattle.ia32_rows.proofs.Pushes.{Pushed, push-goes}
use Rattle.ia32_rows.specs.Sites.{Site, SoundAt, ReadyAt}

-- ---- the caller's registers

-- a place under another
under : (a b n : ℕ) → a + 4 ≤ b → AreDisjoint a 4 b n
under a b n h = inl h

two-under : (a b c : ℕ) → a + 4 ≡ b → b + 4 ≡ c → a + 4 ≤ c
two-under a b c p q = omega arith

three-under : (a b c d : ℕ) → a + 4 ≡ b → b + 4 ≡ c → c + 4 ≡ d → a + 4 ≤ d
three-under a b c d p q r = omega arith

just-under : (a b : ℕ) → a + 4 ≡ b → a + 4 ≤ b
just-under a b p = omega arith

less-four : (a b : ℕ) → a + 4 ≡ b → b - 4 ≡ a
less-four a b p = omega arith

less-eight : (a b c : ℕ) → a + 4 ≡ b → b + 4 ≡ c → c - 8 ≡ a
less-eight a b c p q = omega arith

less-twelve : (a b c d : ℕ) → a + 4 ≡ b → b + 4 ≡ c → c + 4 ≡ d → d - 12 ≡ a
less-twelve a b c d p q r = omega arith

-- four words under an address, one under the other
first-place : (e a n b : ℕ) → 16 ≤ e → a + 4 ≡ e → AreDisjoint (e - 16) 16 b n → AreDisjoint a 4 b n
first-place e a n b h p k = disjoint-part (e - 16) 16 a 4 b n (omega arith) (omega arith) k

second-place : (e a c n b : ℕ) → 16 ≤ e → a + 4 ≡ e → c + 4 ≡ a → AreDisjoint (e - 16) 16 b n → AreDisjoint c 4 b n
second-place e a c n b h p q k = disjoint-part (e - 16) 16 c 4 b n (omega arith) (omega arith) k

third-place : (e a c d n b : ℕ) → 16 ≤ e → a + 4 ≡ e → c + 4 ≡ a → d + 4 ≡ c → AreDisjoint (e - 16) 16 b n
    → AreDisjoint d 4 b n
third-place e a c d n b h p q r k = disjoint-part (e - 16) 16 d 4 b n (omega arith) (omega arith) k

fourth-place : (e a c d f n b : ℕ) → 16 ≤ e → a + 4 ≡ e → c + 4 ≡ a → d + 4 ≡ c → f + 4 ≡ d
    → AreDisjoint (e - 16) 16 b n → AreDisjoint f 4 b n
fourth-place e a c d f n b h p q r v k = disjoint-part (e - 16) 16 f 4 b n (omega arith) (omega arith) k

-- the state in which the registers are saved
record Saved (site : Site) (t f : State) : Type 0 where
  pub comes : Comes site.text t f
  pub sound : SoundAt site f
  pub ebp : word_of Ebp f + 4 ≡ word_of Esp t
  pub old_ebp : load 4 (word_of Ebp f) f ≡ Ok (word_of Ebp t)
  pub old_ebx : load 4 (word_of Ebp f - 4) f ≡ Ok (word_of Ebx t)
  pub old_esi : load 4 (word_of Ebp f - 8) f ≡ Ok (word_of Esi t)
  pub old_edi : load 4 (word_of Ebp f - 12) f ≡ Ok (word_of Edi t)
  pub kept : (n b w : ℕ) → AreDisjoint (word_of Esp t - 16) 16 b n → load n b t ≡ Ok w → load n b f ≡ Ok w
  pub left : f.left ≡ t.left
  pub taken : f.taken ≡ t.taken
  pub written : f.written ≡ t.written

saved : (site : Site) (t a b c d f : State) → 16 ≤ word_of Esp t → Comes site.text t a → Pushed site (word_of Ebp t) t a
    → Comes site.text a b → Sets site Ebp (word_of Esp a) a.written a b → Comes site.text b c
    → Pushed site (word_of Ebx b) b c
    → Comes site.text c d → Pushed site (word_of Esi c) c d → Comes site.text d f → Pushed site (word_of Edi d) d f
    → Saved site t f
saved site t a b c d f room pa qa pb qb pc qc pd qd pf qf =
    let A : ℕ = word_of Esp a in
    let C : ℕ = word_of Esp c in
    let D : ℕ = word_of Esp d in
    let F : ℕ = word_of Esp f in
    let E : ℕ = word_of Ebp f in
    let base : E ≡ A = qf.others Ebp (unlike 5 4 refl) ∙ qd.others Ebp (unlike 5 4 refl)
    ∙ qc.others Ebp (unlike 5 4 refl) ∙ qb.value in
    let ca : C + 4 ≡ A = qc.esp ∙ qb.others Esp (unlike 4 5 refl) in
    let dc : D + 4 ≡ C = qd.esp in
    let fd : F + 4 ≡ D = qf.esp in
    let ebx : word_of Ebx b ≡ word_of Ebx t = qb.others Ebx (unlike 3 5 refl) ∙ qa.others Ebx (unlike 3 4 refl) in
    let esi : word_of Esi c ≡ word_of Esi t = qc.others Esi (unlike 6 4 refl) ∙ qb.others Esi (unlike 6 5 refl)
    ∙ qa.others Esi (unlike 6 4 refl) in
    let edi : word_of Edi d ≡ word_of Edi t = qd.others Edi (unlike 7 4 refl) ∙ qc.others Edi (unlike 7 4 refl)
    ∙ qb.others Edi (unlike 7 5 refl) ∙ qa.others Edi (unlike 7 4 refl) in
    let first : load 4 A f ≡ Ok (word_of Ebp t) =
    qf.apart 4 A (word_of Ebp t) (under F A 4 (three-under F D C A fd dc ca))
    (qd.apart 4 A (word_of Ebp t) (under D A 4 (two-under D C A dc ca))
    (qc.apart 4 A (word_of Ebp t) (under C A 4 (just-under C A ca))
    (load-same 4 A (word_of Ebp t) a b qb.memory qa.word))) in
    let second : load 4 C f ≡ Ok (word_of Ebx t) =
    subst (λ (k : ℕ). load 4 C f ≡ Ok k) ebx
    (qf.apart 4 C (word_of Ebx b) (under F C 4 (two-under F D C fd dc))
    (qd.apart 4 C (word_of Ebx b) (under D C 4 (just-under D C dc)) qc.word)) in
    let third : load 4 D f ≡ Ok (word_of Esi t) =
    subst (λ (k : ℕ). load 4 D f ≡ Ok k) esi
    (qf.apart 4 D (word_of Esi c) (under F D 4 (just-under F D fd)) qd.word) in
    let fourth : load 4 F f ≡ Ok (word_of Edi t) = subst (λ (k : ℕ). load 4 F f ≡ Ok k) edi qf.word in
    record {
      comes = comes-then site.text t a f pa (comes-then site.text a b f pb
          (comes-then site.text b c f pc (comes-then site.text c d f pd pf)));
      sound = qf.sound;
      ebp = ap (λ (k : ℕ). k + 4) base ∙ qa.esp;
      old_ebp = subst (λ (k : ℕ). load 4 k f ≡ Ok (word_of Ebp t)) (sym base) first;
      old_ebx = subst (λ (k : ℕ). load 4 k f ≡ Ok (word_of Ebx t)) (sym (ap (λ (k : ℕ). k - 4) base ∙ less-four C A ca))
          second;
      old_esi = subst (λ (k : ℕ). load 4 k f ≡ Ok (word_of Esi t))
          (sym (ap (λ (k : ℕ). k - 8) base ∙ less-eight D C A dc ca)) third;
      old_edi = subst (λ (k : ℕ). load 4 k f ≡ Ok (word_of Edi t))
          (sym (ap (λ (k : ℕ). k - 12) base ∙ less-twelve F D C A fd dc ca)) fourth;
      kept = λ n x w k h.
          qf.apart n x w (fourth-place (word_of Esp t) A C D F n x room qa.esp ca dc fd k)
          (qd.apart n x w (third-place (word_of Esp t) A C D n x room qa.esp ca dc k)
          (qc.apart n x w (second-place (word_of Esp t) A C n x room qa.esp ca k)
          (load-same n x w a b qb.memory (qa.apart n x w (first-place (word_of Esp t) A n x room qa.esp k) h))));
      left = qf.left ∙ qd.left ∙ qc.left ∙ qb.left ∙ qa.left;
      taken = qf.taken ∙ qd.taken ∙ qc.taken ∙ qb.taken ∙ qa.taken;
      written = qf.written ∙ qd.written ∙ qc.written ∙ qb.written ∙ qa.written;
    }

room-first : (low e f : ℕ) → low + f + 64 ≤ e → low + 4 ≤ e
room-first low e f h = omega arith

room-second : (low e f a c : ℕ) → low + f + 64 ≤ e → a + 4 ≡ e → c ≡ a → low + 4 ≤ c
room-second low e f a c h p q = omega arith

room-third : (low e f a c d : ℕ) → low + f + 64 ≤ e → a + 4 ≡ e → c ≡ a → d + 4 ≡ c → low + 4 ≤ d
room-third low e f a c d h p q r = omega arith

room-fourth : (low e f a c d g : ℕ) → low + f + 64 ≤ e → a + 4 ≡ e → c ≡ a → d + 4 ≡ c → g + 4 ≡ d → low + 4 ≤ g
room-fourth low e f a c d g h p q r v = omega arith

top-first : (e h : ℕ) → e + 4 ≤ h → e ≤ h
top-first e h k = omega arith

top-second : (e h a c : ℕ) → e + 4 ≤ h → a + 4 ≡ e → c ≡ a → c ≤ h
top-second e h a c k p q = omega arith

top-lower : (a c h : ℕ) → a + 4 ≡ c → c ≤ h → a ≤ h
top-lower a c h p q = omega arith

sixteen : (low e f : ℕ) → low + f + 64 ≤ e → 16 ≤ e
sixteen low e f h = omega arith

-- the items behind the pushes
abbrev making : ℕ → ℕ → ℕ → List Item → List Item
making frame zeroed label back = plain (insn.Lea Esp (below frame)) ∷ (zeroing frame zeroed label ++ back)

-- the last two registers, behind EBX
saves-two : (site : Site) (frame : ℕ) (items : List Item) (t a b : State) → site.low + frame + 64 ≤ word_of Esp t
    → word_of Esp t + 4 ≤ site.high → Comes site.text t a → Pushed site (word_of Ebp t) t a → Comes site.text a b
    → Sets site Ebp (word_of Esp a) a.written a b
    → ((c : State) × Comes site.text b c × ReadyAt site
    (plain (insn.Push (rm.Reg Esi)) ∷ plain (insn.Push (rm.Reg Edi)) ∷ items) c × Pushed site (word_of Ebx b) b c)
    → (f : State) × Saved site t f × ReadyAt site items f
saves-two site frame items t a b room top pa qa pb qb (c, pc, ready, qc) =
    let e : ℕ = word_of Esp t in
    let ba : word_of Esp b ≡ word_of Esp a = qb.others Esp (unlike 4 5 refl) in
    let c_top : word_of Esp c ≤ site.high = top-lower (word_of Esp c) (word_of Esp b) site.high qc.esp
    (top-second e site.high (word_of Esp a) (word_of Esp b) top qa.esp ba) in
    let p = push-goes site (plain (insn.Push (rm.Reg Edi)) ∷ items) Esi c qc.sound ready
    (room-third site.low e frame (word_of Esp a) (word_of Esp b) (word_of Esp c) room qa.esp ba qc.esp) c_top in
    let d : State = p.0 in
    let q = push-goes site items Edi d p.3.sound p.2
    (room-fourth site.low e frame (word_of Esp a) (word_of Esp b) (word_of Esp c) (word_of Esp d) room qa.esp ba
    qc.esp p.3.esp) (top-lower (word_of Esp d) (word_of Esp c) site.high p.3.esp c_top) in
    (q.0, saved site t a b c d q.0 (sixteen site.low e frame room) pa qa pb qb pc qc p.1 p.3 q.1 q.3, q.2)

saves-ebp : (site : Site) (frame : ℕ) (items : List Item) (t : State) → site.low + frame + 64 ≤ word_of Esp t
    → word_of Esp t + 4 ≤ site.high
    → ((a : State) × Comes site.text t a × ReadyAt site
    (plain (insn.Mov (rm.Reg Ebp) Esp) ∷ plain (insn.Push (rm.Reg Ebx)) ∷ plain (insn.Push (rm.Reg Esi))
    ∷ plain (insn.Push (rm.Reg Edi)) ∷ items) a × Pushed site (word_of Ebp t) t a)
    → (f : State) × Saved site t f × ReadyAt site items f
saves-ebp site frame items t room top (a, pa, ready, qa) =
    let e : ℕ = word_of Esp t in
    let two : List Item = plain (insn.Push (rm.Reg Esi)) ∷ plain (insn.Push (rm.Reg Edi)) ∷ items in
    let one : List Item = plain (insn.Push (rm.Reg Ebx)) ∷ two in
    let p = set-goes site one (insn.Mov (rm.Reg Ebp) Esp) Ebp (word_of Esp a) a.flags a qa.sound ready tt
    (word-below site.text site.low site.high Esp a qa.sound) (λ after. refl) (λ after. refl) in
    let b : State = p.0 in
    let ba : word_of Esp b ≡ word_of Esp a = p.3.others Esp (unlike 4 5 refl) in
    saves-two site frame items t a b room top pa qa p.1 p.3
    (push-goes site two Ebx b p.3.sound p.2 (room-second site.low e frame (word_of Esp a) (word_of Esp b) room
    qa.esp ba) (top-second e site.high (word_of Esp a) (word_of Esp b) top qa.esp ba))

-- ---- the whole

frame-some : (f : ℕ) → 16 ≤ f → 0 < f
frame-some f h = omega arith

frame-within : (low e f b : ℕ) → low + f + 64 ≤ e → b + 4 ≡ e → f ≤ b
frame-within low e f b h p = omega arith

frame-high : (e b h : ℕ) → e + 4 ≤ h → b + 4 ≡ e → b ≤ h
frame-high e b h k p = omega arith

difference-below : (e f n : ℕ) → e < n → e - f < n
difference-below e f n h = omega arith

esp-below : (p e f b : ℕ) → p ≡ b - f → f ≤ b → e ≡ b → p + f ≡ e
esp-below p e f b h k l = omega arith

esp-room : (low e f b p : ℕ) → low + f + 64 ≤ e → b + 4 ≡ e → p ≡ b - f → low + 4 ≤ p
esp-room low e f b p h k l = omega arith

frame-top : (e b c h : ℕ) → e + 4 ≤ h → b + 4 ≡ e → c ≡ b → c + 8 ≤ h
frame-top e b c h k p q = omega arith

zero_fits : 0 < 2 ^ 32
zero_fits = omega arith

-- how many words of a frame become 0
abbrev words_below : ℕ → ℕ → ℕ
words_below frame zeroed = (frame - zeroed) / 4

words-some : (f z : ℕ) → f % 4 ≡ 0 → z % 4 ≡ 0 → z < f → 0 < words_below f z
words-some f z words also less = omega arith

words-end : (low e f z b : ℕ) → low + f + 64 ≤ e → b + 4 ≡ e → f % 4 ≡ 0 → z % 4 ≡ 0 → z < f
    → b - f + 4 * words_below f z ≡ b - z
words-end low e f z b h p words also less = omega arith

words-low : (low e f b : ℕ) → low + f + 64 ≤ e → b + 4 ≡ e → low ≤ b - f
words-low low e f b h p = omega arith

words-high : (b z h : ℕ) → b ≤ h → b - z ≤ h
words-high b z h p = omega arith

-- the saved words are part of the frame and of the word above it, and so are the words that become 0
saved-part : (low e f n b : ℕ) → low + f + 64 ≤ e → 16 ≤ f → AreDisjoint (e - (f + 4)) (f + 4) b n
    → AreDisjoint (e - 16) 16 b n
saved-part low e f n b h p d = disjoint-part (e - (f + 4)) (f + 4) (e - 16) 16 b n (omega arith) (omega arith) d

words-part : (low e f m base n b : ℕ) → low + f + 64 ≤ e → base + 4 ≡ e → 4 * m ≤ f
    → AreDisjoint (e - (f + 4)) (f + 4) b n → AreDisjoint (base - f) (4 * m) b n
words-part low e f m base n b h p few k =
    disjoint-part (e - (f + 4)) (f + 4) (base - f) (4 * m) b n (omega arith) (omega arith) k

words-few : (f z : ℕ) → 4 * words_below f z ≤ f
words-few f z = omega arith

-- a saved word is above them
saved-above : (base f m z c : ℕ) → base - f + 4 * m ≡ base - z → 12 ≤ z → c ≤ 12
    → AreDisjoint (base - f) (4 * m) (base - c) 4
saved-above base f m z c e low h = inl (omega arith)

minus-none : (b : ℕ) → b - 0 ≡ b
minus-none b = omega arith

few-none : 0 ≤ 12
few-none = omega arith

few-four : 4 ≤ 12
few-four = omega arith

few-eight : 8 ≤ 12
few-eight = omega arith

few-twelve : 12 ≤ 12
few-twelve = omega arith

-- The frame is made: saved words are kept, and words below them are 0.
record Made (site : Site) (frame zeroed : ℕ) (f u : State) : Type 0 where
  pub comes : Comes site.text f u
  pub sound : SoundAt site u
  pub ebp : word_of Ebp u ≡ word_of Ebp f
  pub esp : word_of Esp u ≡ word_of Ebp f - frame
  pub saved : (c v : ℕ) → c ≤ 12 → load 4 (word_of Ebp f - c) f ≡ Ok v → load 4 (word_of Ebp f - c) u ≡ Ok v
  pub zeros : (n a : ℕ) → word_of Ebp f - frame ≤ a → a + n ≤ word_of Ebp f - zeroed → 0 < n → load n a u ≡ Ok 0
  pub kept : (n b w : ℕ)
      → ((k : ℕ) → 4 * k ≤ frame → AreDisjoint (word_of Ebp f - frame) (4 * k) b n) → load n b f ≡ Ok w
      → load n b u ≡ Ok w
  pub left : u.left ≡ f.left
  pub taken : u.taken ≡ f.taken
  pub written : u.written ≡ f.written

entered : (site : Site) (frame zeroed : ℕ) (back : List Item) (t f u : State)
    → site.low + frame + 64 ≤ word_of Esp t → word_of Esp t + 4 ≤ site.high → 16 ≤ frame
    → Saved site t f → ReadyAt site back u → Made site frame zeroed f u → Entered site frame zeroed back t u
entered site frame zeroed back t f u room top some p ready r =
    let e : ℕ = word_of Esp t in
    let base : ℕ = word_of Ebp f in
    let first : load 4 (base - 0) f ≡ Ok (word_of Ebp t) =
    subst (λ (k : ℕ). load 4 k f ≡ Ok (word_of Ebp t)) (sym (minus-none base)) p.old_ebp in
    record {
      comes = comes-then site.text t f u p.comes r.comes;
      ready = ready;
      framed = record {
        sound = r.sound;
        esp = esp-below (word_of Esp u) (word_of Ebp u) frame base r.esp (frame-within site.low e frame base room p.ebp)
            r.ebp;
        room = esp-room site.low e frame base (word_of Esp u) room p.ebp r.esp;
        top = frame-top e base (word_of Ebp u) site.high top p.ebp r.ebp;
      };
      ebp = ap (λ (k : ℕ). k + 4) r.ebp ∙ p.ebp;
      old_ebp = subst (λ (k : ℕ). load 4 k u ≡ Ok (word_of Ebp t)) (minus-none (word_of Ebp u))
          (still 0 (word_of Ebp t) few-none first);
      old_ebx = still 4 (word_of Ebx t) few-four p.old_ebx;
      old_esi = still 8 (word_of Esi t) few-eight p.old_esi;
      old_edi = still 12 (word_of Edi t) few-twelve p.old_edi;
      zeros = λ n a from to more.
          r.zeros n a (subst (λ (k : ℕ). k ≤ a) r.esp from)
          (subst (λ (k : ℕ). a + n ≤ k) (ap (λ (k : ℕ). k - zeroed) r.ebp) to) more;
      kept = λ n b w k held.
          r.kept n b w (λ m few. words-part site.low e frame m base n b room p.ebp few k)
          (p.kept n b w (saved-part site.low e frame n b room some k) held);
      left = r.left ∙ p.left;
      taken = r.taken ∙ p.taken;
      written = r.written ∙ p.written;
    }
  where
    still : (c v : ℕ) → c ≤ 12 → load 4 (word_of Ebp f - c) f ≡ Ok v → load 4 (word_of Ebp u - c) u ≡ Ok v
    still c v few held = subst (λ (k : ℕ). load 4 (k - c) u ≡ Ok v) (sym r.ebp) (r.saved c v few held)

-- LEA of an address below EBP
pub lea-goes : (site : Site) (items : List Item) (r : Reg32) (d : ℕ) (s : State) → SoundAt site s
    → ReadyAt site (plain (insn.Lea r (below d)) ∷ items) s → 0 < d → d ≤ word_of Ebp s
    → (u : State) × Comes site.text s u × ReadyAt site items u × Sets site r (word_of Ebp s - d) s.written s u
lea-goes site items r d s sound ready some within =
    let fits = word-below site.text site.low site.high Ebp s sound in
    let at = below-address d s some within fits in
    set-goes site items (insn.Lea r (below d)) r (word_of Ebp s - d) s.flags s sound ready tt
    (difference-below (word_of Ebp s) d 0x1_0000_0000 fits)
    (λ after. ap (λ (k : ℕ). let o : Result State End = Ok (with_word r k s) in o) at) (λ after. refl)

-- no word becomes 0
bare : (site : Site) (frame zeroed : ℕ) (f g : State) → frame ≤ zeroed → Comes site.text f g
    → Sets site Esp (word_of Ebp f - frame) f.written f g → Made site frame zeroed f g
bare site frame zeroed f g low pg qg =
    record {
      comes = pg;
      sound = qg.sound;
      ebp = qg.others Ebp (unlike 5 4 refl);
      esp = qg.value;
      saved = λ c v few held. load-same 4 (word_of Ebp f - c) v f g qg.memory held;
      zeros = λ n a from to more. absurd (none (word_of Ebp f) frame zeroed n a low from to more);
      kept = λ n b w apart held. load-same n b w f g qg.memory held;
      left = qg.left;
      taken = qg.taken;
      written = qg.written;
    }
  where
    none : (b f z n a : ℕ) → f ≤ z → b - f ≤ a → a + n ≤ b - z → 0 < n → ⊥
    none b f z n a h i k l = omega arith

-- words become 0 by the loop
filled : (site : Site) (frame zeroed : ℕ) (f g h i u : State) → site.low + frame + 64 ≤ word_of Ebp f + 4
    → word_of Ebp f ≤ site.high → frame % 4 ≡ 0 → zeroed % 4 ≡ 0 → 12 ≤ zeroed → zeroed < frame → Comes site.text f g
    → Sets site Esp (word_of Ebp f - frame) f.written f g → Comes site.text g h → Sets site Esi 0 g.written g h
    → Comes site.text h i → Sets site Edi (word_of Ebp h - zeroed) h.written h i → Comes site.text i u
    → Filled site Edi (word_of Ebp f - frame) (words_below frame zeroed) 0 i u → Made site frame zeroed f u
filled site frame zeroed f g h i u room top words also low less pg qg ph qh pi qi pu r =
    let base : ℕ = word_of Ebp f in
    let end : base - frame + 4 * words_below frame zeroed ≡ base - zeroed =
    words-end site.low (base + 4) frame zeroed base room refl words also less in
    let memory = qi.memory ∙ qh.memory ∙ qg.memory in
    record {
      comes = comes-then site.text f g u pg (comes-then site.text g h u ph (comes-then site.text h i u pi pu));
      sound = r.sound;
      ebp = r.others Ebp (unlike 5 7 refl) ∙ qi.others Ebp (unlike 5 7 refl) ∙ qh.others Ebp (unlike 5 6 refl)
          ∙ qg.others Ebp (unlike 5 4 refl);
      esp = r.others Esp (unlike 4 7 refl) ∙ qi.others Esp (unlike 4 7 refl) ∙ qh.others Esp (unlike 4 6 refl)
          ∙ qg.value;
      saved = λ c v few held.
          r.kept 4 (base - c) v (saved-above base frame (words_below frame zeroed) zeroed c end low few)
          (load-same 4 (base - c) v f i memory held);
      zeros = λ n a from to more.
          zeros-load site (base - frame) (words_below frame zeroed) n a u r.sound
          (words-low site.low (base + 4) frame base room refl)
          (subst (λ (k : ℕ). k ≤ site.high) (sym end) (words-high base zeroed site.high top)) r.words from
          (subst (λ (k : ℕ). a + n ≤ k) (sym end) to) more;
      kept = λ n b w apart held.
          r.kept n b w (apart (words_below frame zeroed) (words-few frame zeroed)) (load-same n b w f i memory held);
      left = r.left ∙ qi.left ∙ qh.left ∙ qg.left;
      taken = r.taken ∙ qi.taken ∙ qh.taken ∙ qg.taken;
      written = r.written ∙ qi.written ∙ qh.written ∙ qg.written;
    }

zeroed-within : (f z b c : ℕ) → z < f → f ≤ b → c ≡ b → z ≤ c
zeroed-within f z b c h k p = omega arith

some-zeroed : (z : ℕ) → 12 ≤ z → 0 < z
some-zeroed z h = omega arith

-- whether a number is below another is what the test says
test-less : (a b : ℕ) → nat_lt a b ≡ true → a < b
test-less a b h = grind (arith, nat_tests, h)

test-more : (a b : ℕ) → nat_lt a b ≡ false → b ≤ a
test-more a b h = grind (arith, nat_tests, h)

makes-frame : (site : Site) (frame zeroed label : ℕ) (back : List Item) (t : State)
    → site.low + frame + 64 ≤ word_of Esp t → word_of Esp t + 4 ≤ site.high → 16 ≤ frame → frame % 4 ≡ 0
    → 12 ≤ zeroed → zeroed % 4 ≡ 0
    → ((f : State) × Saved site t f × ReadyAt site (making frame zeroed label back) f)
    → (u : State) × Entered site frame zeroed back t u
makes-frame site frame zeroed label back t room top some words low also (f, p, ready) =
    chosen (nat_lt zeroed frame) refl q.2
  where
    e : ℕ
    e = word_of Esp t

    base : ℕ
    base = word_of Ebp f

    within : frame ≤ base
    within = frame-within site.low e frame base room p.ebp

    lower : site.low + frame + 64 ≤ base + 4
    lower = subst (λ (k : ℕ). site.low + frame + 64 ≤ k) (sym p.ebp) room

    higher : base ≤ site.high
    higher = frame-high e base site.high top p.ebp

    q : (g : State) × Comes site.text f g × ReadyAt site (zeroing frame zeroed label ++ back) g
        × Sets site Esp (word_of Ebp f - frame) f.written f g
    q = lea-goes site (zeroing frame zeroed label ++ back) Esp frame f p.sound ready (frame-some frame some) within

    loops : List Item
    loops =
        plain (insn.MovImm (rm.Reg Esi) (pos 0)) ∷ plain (insn.Lea Edi (below zeroed)) ∷ fill Edi Esi Esp label

    chosen : (b : Bool) → nat_lt zeroed frame ≡ b → ReadyAt site ((if b then loops else []) ++ back) q.0
        → (u : State) × Entered site frame zeroed back t u
    chosen false is there = (
      q.0,
      entered site frame zeroed back t f q.0 room top some p there
          (bare site frame zeroed f q.0 (test-more zeroed frame is) q.1 q.3),
    )
    chosen true is there =
        let less = test-less zeroed frame is in
        let g : State = q.0 in
        let three : List Item = fill Edi Esi Esp label ++ back in
        let two : List Item = plain (insn.Lea Edi (below zeroed)) ∷ three in
        let r = set-goes site two (insn.MovImm (rm.Reg Esi) (pos 0)) Esi 0 g.flags g q.3.sound there tt zero_fits
        (λ after. refl) (λ after. refl) in
        let h : State = r.0 in
        let same : word_of Ebp h ≡ base = r.3.others Ebp (unlike 5 6 refl) ∙ q.3.others Ebp (unlike 5 4 refl) in
        let v = lea-goes site three Edi zeroed h r.3.sound r.2 (some-zeroed zeroed low)
        (zeroed-within frame zeroed base (word_of Ebp h) less within same) in
        let i : State = v.0 in
        let edi : word_of Edi i ≡ base - zeroed = v.3.value ∙ ap (λ (k : ℕ). k - zeroed) same in
        let esp : word_of Esp i ≡ base - frame =
        v.3.others Esp (unlike 4 7 refl) ∙ r.3.others Esp (unlike 4 6 refl) ∙ q.3.value in
        let esi : word_of Esi i ≡ 0 = v.3.others Esi (unlike 6 7 refl) ∙ r.3.value in
        let end : base - frame + 4 * words_below frame zeroed ≡ base - zeroed =
        words-end site.low (base + 4) frame zeroed base lower refl words also less in
        let w = fill-goes site Edi Esi Esp label (base - frame) (words_below frame zeroed) back i (unlike 6 7 refl)
        (unlike 4 7 refl) v.3.sound v.2 (words-some frame zeroed words also less)
        (words-low site.low (base + 4) frame base lower refl)
        (subst (λ (k : ℕ). k ≤ site.high) (sym end) (words-high base zeroed site.high higher))
        (edi ∙ sym end) esp in
        let full : Filled site Edi (base - frame) (words_below frame zeroed) 0 i w.0 =
        subst (λ (k : ℕ). Filled site Edi (base - frame) (words_below frame zeroed) k i w.0) esi w.3 in (
          w.0,
          entered site frame zeroed back t f w.0 room top some p w.2
              (filled site frame zeroed f g h i w.0 lower higher words also low less q.1 q.3 r.1 r.3 v.1 v.3 w.1 full),
        )

-- the prologue makes the frame, with the caller's registers in its first words, and 0 in all that are so far below them
pub prologue-goes : PrologueGoes
prologue-goes site frame zeroed label back t sound ready room top some words low also =
    let e : ℕ = word_of Esp t in
    let items : List Item = making frame zeroed label back in
    let one : List Item = plain (insn.Mov (rm.Reg Ebp) Esp) ∷ plain (insn.Push (rm.Reg Ebx))
    ∷ plain (insn.Push (rm.Reg Esi)) ∷ plain (insn.Push (rm.Reg Edi)) ∷ items in
    makes-frame site frame zeroed label back t room top some words low also
    (saves-ebp site frame items t room top (push-goes site one Ebp t sound ready (room-first site.low e frame room)
    (top-first e site.high top)))
