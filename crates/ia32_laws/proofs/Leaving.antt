-- A return from a frame of any placement.
use Rattle.std.proofs.Common.{◌≡◌, ◌≢◌, ℕ, ◌+◌, ◌-◌, ◌/◌, ◌%◌, ◌^◌, ◌<◌, ◌≤◌, Bool, true, false, List, [], ◌∷◌, ◌++◌}
use Rattle.std.proofs.Common.{Ok, drop, take}
use Rattle.std.proofs.Common.{refl, sym, ap, subst, ◌∙◌, arith, append_assoc}
use Rattle.std.specs.Prelude.{Result, ◌==◌, if◌then◌else◌}
use Rattle.byteorder.specs.Endian.{little_bytes}
use Rattle.pcc_base.specs.Outcome.{End}
use Rattle.pcc_base.specs.declared.run.Width.TheVariants.{Two}
use Rattle.ia32_insn.specs.declared.register_names.Reg32.{Reg32}
use Rattle.ia32_insn.specs.declared.register_names.Reg32.TheVariants.{Eax, Ebx, Esp, Ebp, Esi, Edi}
use Rattle.ia32_insn.specs.Registers.{number32, register, word_place}
use Rattle.ia32_insn.specs.Places.{Place, InWord, InByte, InSlot}
use Rattle.ia32_insn.specs.declared.operand.Rm32.TheVariants as rm
use Rattle.ia32_insn.specs.declared.insn.Insn.TheVariants as insn
use Rattle.ia32_insn.specs.declared.item.Item.{Item}
use Rattle.ia32_insn.specs.State.{State, at_address}
use Rattle.ia32_insn.specs.Meaning.{and_then, load, with_word, word_of}
use Rattle.ia32_insn.specs.Items.{plain}
use Rattle.ia32_insn.proofs.Access.{ok-once}
use Rattle.ia32_rows.specs.Paths.{Comes}
use Rattle.ia32_rows.specs.Placements.{below}
use Rattle.ia32_rows.specs.Sites.{Framed, ReadyAt, Site, SoundAt}
use Rattle.ia32_rows.proofs.Sets.{Sets, set-goes, unlike}
use Rattle.ia32_rows.proofs.Sound.{load-in, load-same, sound-at, sound-with_word, word-other, word-same}
use Rattle.ia32_rows.proofs.Steps.{comes-not, comes-then, plain-goes}
use Rattle.ia32_rows.specs.CallsLaws.{HasWordFrom, Returned}
use Rattle.ia32_rows.proofs.Pushes.{leave-goes, ret-goes}
use Rattle.ia32_rows.specs.Rows.{leave, read, return_row}
use Rattle.ia32_rows.specs.Contains.{Contains, HoldsWord, IsPlaceIn}
use Rattle.ia32_rows.proofs.Instructions.{below-loaded}
use Rattle.ia32_rows.proofs.Moves.{alike, same-word}
use Rattle.ia32_laws.specs.ActivationsLaws.{LeaveComes, ReturnComes}

-- a register has the word so far below EBP; the other registers, memory, the input and the output are as before
record Loads (site : Site) (frame : ℕ) (items : List Item) (r : Reg32) (d : ℕ) (s u : State) : Type 0 where
  pub comes : Comes site.text s u
  pub ready : ReadyAt site items u
  pub framed : Framed site frame u
  pub value : HasWordFrom r (word_of Ebp s - d) s u
  pub any : (w : ℕ) → load 4 (word_of Ebp s - d) s ≡ Ok w → word_of r u ≡ w % 2 ^ 32
  pub others : (q : Reg32) → number32 q ≢ number32 r → word_of q u ≡ word_of q s
  pub memory : u.memory ≡ s.memory
  pub left : u.left ≡ s.left
  pub taken : u.taken ≡ s.taken
  pub written : u.written ≡ s.written

-- a register holds the low 32 bits of a number
same-bytes : (v : ℕ) → little_bytes 4 (v % 2 ^ 32) ≡ little_bytes 4 v
same-bytes v =
    let a : v % 2 ^ 32 % 256 ≡ v % 256 = omega arith in
    let b : v % 2 ^ 32 / 256 % 256 ≡ v / 256 % 256 = omega arith in
    let c : v % 2 ^ 32 / 0x10000 % 256 ≡ v / 0x10000 % 256 = omega arith in
    let d : v % 2 ^ 32 / 0x01000000 % 256 ≡ v / 0x01000000 % 256 = omega arith in
    listed (v % 2 ^ 32 % 256) (v % 2 ^ 32 / 256 % 256) (v % 2 ^ 32 / 0x10000 % 256) (v % 2 ^ 32 / 0x01000000 % 256)
    (v % 256) (v / 256 % 256) (v / 0x10000 % 256) (v / 0x01000000 % 256) a b c d
  where
    listed : (a b c d e f g h : ℕ) → a ≡ e → b ≡ f → c ≡ g → d ≡ h → a ∷ b ∷ c ∷ d ∷ [] ≡ e ∷ f ∷ g ∷ h ∷ []
    listed a b c d e f g h i j k l = cc

pub word-mod : (site : Site) (r : Reg32) (v : ℕ) (s : State) → SoundAt site s → word_of r (with_word r v s) ≡ v % 2 ^ 32
word-mod site r v s sound =
    ap (λ (bytes : List ℕ). register r (take (word_place r) s.registers ++ bytes
    ++ drop (word_place r + 4) s.registers)) (sym (same-bytes v))
    ∙ word-same site.text site.low site.high r (v % 2 ^ 32) s sound (omega arith)

loads : (site : Site) (frame : ℕ) (items : List Item) (r : Reg32) (d : ℕ) (s : State) → Framed site frame s
    → number32 Esp ≢ number32 r → number32 Ebp ≢ number32 r → 4 ≤ d → d ≤ frame
    → ReadyAt site (plain (insn.MovLoad r (below d)) ∷ items) s → (u : State) × Loads site frame items r d s u
loads site frame items r d s framed other another some within ready =
    let e : ℕ = word_of Ebp s in
    let esp = framed.esp in
    let room = framed.room in
    let top = framed.top in
    let sound = framed.sound in
    let found = load-in site.text site.low site.high 4 (e - d) s sound
    (from-low site.low (word_of Esp s) frame e d room esp within) (to-high e d site.high top some) in
    let loaded = below-loaded site frame d 4 found.0 s framed (omega (arith, some)) within found.1 in
    let t : State = with_word r found.0 s in
    let went = plain-goes site.symbols site.places site.text site.low site.high (insn.MovLoad r (below d)) items s t
    sound ready tt (λ after. ap (λ (x : Result ℕ End). and_then x
    (λ value. let q : Result State End = Ok (with_word r value s) in q)) loaded) (λ after. refl) in
    let u : State = at_address went.0 t in
    let same_esp : word_of Esp u ≡ word_of Esp s =
    word-other site.text site.low site.high Esp r found.0 s sound other in
    let same_ebp : word_of Ebp u ≡ e = word-other site.text site.low site.high Ebp r found.0 s sound another in (
      u,
      record {
        comes = went.1;
        ready = went.2;
        framed = record {
          sound = sound-at site.text site.low site.high went.0 t
              (sound-with_word site.text site.low site.high r found.0 s sound);
          esp = ap (λ (k : ℕ). k + frame) same_esp ∙ esp ∙ sym same_ebp;
          room = subst (λ (k : ℕ). site.low + 4 ≤ k) (sym same_esp) room;
          top = subst (λ (k : ℕ). k + 8 ≤ site.high) (sym same_ebp) top;
        };
        value = λ w held fits. subst (λ (v : ℕ). word_of r (with_word r v s) ≡ w) (ok-once w found.0
            (sym held ∙ found.1)) (word-same site.text site.low site.high r w s sound fits);
        any = λ w held. word-mod site r found.0 s sound
            ∙ ap (λ (v : ℕ). v % 2 ^ 32) (ok-once found.0 w (sym found.1 ∙ held));
        others = λ q apart. word-other site.text site.low site.high q r found.0 s sound apart;
        memory = refl;
        left = refl;
        taken = refl;
        written = refl;
      },
    )
  where
    from-low : (low esp frame e d : ℕ) → low + 4 ≤ esp → esp + frame ≡ e → d ≤ frame → low ≤ e - d
    from-low low esp frame e d a b c = omega arith

    to-high : (e d h : ℕ) → e + 8 ≤ h → 4 ≤ d → e - d + 4 ≤ h
    to-high e d h a b = omega arith

-- what stands so far below EBP stands there still
held-still : (d w : ℕ) (s u : State) → word_of Ebp u ≡ word_of Ebp s → u.memory ≡ s.memory
    → load 4 (word_of Ebp s - d) s ≡ Ok w → load 4 (word_of Ebp u - d) u ≡ Ok w
held-still d w s u ebp memory held =
    load-same 4 (word_of Ebp u - d) w s u memory (subst (λ (k : ℕ). load 4 (k - d) s ≡ Ok w) (sym ebp) held)

-- also of a number that a word can't hold, EBX gets the low 32 bits
abbrev pub BringsEbx : State → State → Type 0
BringsEbx s u = (w : ℕ) → load 4 (word_of Ebp s - 4) s ≡ Ok w → word_of Ebx u ≡ w % 2 ^ 32

pub leave-whole : (site : Site) (frame x address : ℕ) (back : List Item) (s : State) → Framed site frame s
    → 16 ≤ frame → word_of Eax s ≡ x → load 4 (word_of Ebp s + 4) s ≡ Ok address → address < 2 ^ 32
    → ReadyAt site (leave ++ back) s → (u : State) × Returned site x address s u × BringsEbx s u
leave-whole site frame x address back s framed room is held fits ready =
    let end : List Item = plain insn.Leave ∷ plain insn.Ret ∷ back in
    let three : List Item = plain (insn.MovLoad Edi (below 12)) ∷ end in
    let two : List Item = plain (insn.MovLoad Esi (below 8)) ∷ three in
    let p = loads site frame two Ebx 4 s framed (unlike 4 3 refl) (unlike 5 3 refl) (omega arith)
    (omega (arith, room)) ready in
    let a : State = p.0 in
    let ebp_a : word_of Ebp a ≡ word_of Ebp s = p.1.others Ebp (unlike 5 3 refl) in
    let q = loads site frame three Esi 8 a p.1.framed (unlike 4 6 refl) (unlike 5 6 refl) (omega arith)
    (omega (arith, room)) p.1.ready in
    let b : State = q.0 in
    let ebp_b : word_of Ebp b ≡ word_of Ebp s = q.1.others Ebp (unlike 5 6 refl) ∙ ebp_a in
    let r = loads site frame end Edi 12 b q.1.framed (unlike 4 7 refl) (unlike 5 7 refl) (omega arith)
    (omega (arith, room)) q.1.ready in
    let c : State = r.0 in
    let ebp_c : word_of Ebp c ≡ word_of Ebp s = r.1.others Ebp (unlike 5 7 refl) ∙ ebp_b in
    let memory_c : c.memory ≡ s.memory = r.1.memory ∙ q.1.memory ∙ p.1.memory in
    let e : ℕ = word_of Ebp c in
    let top = r.1.framed.top in
    let found = load-in site.text site.low site.high 4 e c r.1.framed.sound
    (from-low site.low (word_of Esp c) frame e r.1.framed.room r.1.framed.esp) (omega (arith, top)) in
    let l = leave-goes site (plain insn.Ret ∷ back) found.0 c r.1.framed.sound r.1.ready found.1 (omega (arith, top)) in
    let d : State = l.0 in
    let at : word_of Ebp s + 4 ≡ word_of Esp d = ap (λ (k : ℕ). k + 4) (sym ebp_c) ∙ sym l.3.esp in
    let there : load 4 (word_of Esp d) d ≡ Ok address =
    load-same 4 (word_of Esp d) address s d (l.3.memory ∙ memory_c)
    (subst (λ (k : ℕ). load 4 k s ≡ Ok address) at held) in
    let t = ret-goes site back address d l.3.sound l.2 there fits
    (ends (word_of Esp d) e site.high l.3.esp top) in
    let u : State = t.0 in (
      u,
      record {
        comes = comes-then site.text s a u p.1.comes (comes-then site.text a b u q.1.comes
            (comes-then site.text b c u r.1.comes (comes-then site.text c d u l.1 t.1)));
        sound = t.3.sound;
        eip = t.2;
        eax = t.3.others Eax (unlike 0 4 refl) ∙ l.3.others Eax (unlike 0 5 refl) (unlike 0 4 refl)
            ∙ r.1.others Eax (unlike 0 7 refl) ∙ q.1.others Eax (unlike 0 6 refl) ∙ p.1.others Eax (unlike 0 3 refl)
            ∙ is;
        esp = returned (word_of Esp u) (word_of Esp d) (word_of Ebp s) t.3.value (sym at);
        ebp = λ w old small. t.3.others Ebp (unlike 5 4 refl)
            ∙ left-word (word_of Ebp d) found.0 w l.3.ebp
            (ok-once found.0 w (sym found.1 ∙ at-frame w s c ebp_c memory_c old)) small;
        ebx = λ w old small. t.3.others Ebx (unlike 3 4 refl) ∙ l.3.others Ebx (unlike 3 5 refl) (unlike 3 4 refl)
            ∙ r.1.others Ebx (unlike 3 7 refl) ∙ q.1.others Ebx (unlike 3 6 refl) ∙ p.1.value w old small;
        esi = λ w old small. t.3.others Esi (unlike 6 4 refl) ∙ l.3.others Esi (unlike 6 5 refl) (unlike 6 4 refl)
            ∙ r.1.others Esi (unlike 6 7 refl) ∙ q.1.value w (held-still 8 w s a ebp_a p.1.memory old) small;
        edi = λ w old small. t.3.others Edi (unlike 7 4 refl) ∙ l.3.others Edi (unlike 7 5 refl) (unlike 7 4 refl)
            ∙ r.1.value w (held-still 12 w s b ebp_b (q.1.memory ∙ p.1.memory) old) small;
        memory = t.3.memory ∙ l.3.memory ∙ memory_c;
        left = t.3.left ∙ l.3.left ∙ r.1.left ∙ q.1.left ∙ p.1.left;
        taken = t.3.taken ∙ l.3.taken ∙ r.1.taken ∙ q.1.taken ∙ p.1.taken;
        written = t.3.written ∙ l.3.written ∙ r.1.written ∙ q.1.written ∙ p.1.written;
      },
      λ w old. t.3.others Ebx (unlike 3 4 refl) ∙ l.3.others Ebx (unlike 3 5 refl) (unlike 3 4 refl)
          ∙ r.1.others Ebx (unlike 3 7 refl) ∙ q.1.others Ebx (unlike 3 6 refl) ∙ p.1.any w old,
    )
  where
    from-low : (low esp frame e : ℕ) → low + 4 ≤ esp → esp + frame ≡ e → low ≤ e
    from-low low esp frame e a b = omega arith

    ends : (a e h : ℕ) → a ≡ e + 4 → e + 8 ≤ h → a + 4 ≤ h
    ends a e h p q = omega arith

    returned : (a b e : ℕ) → a ≡ b + 4 → b ≡ e + 4 → a ≡ e + 8
    returned a b e p q = omega arith

    at-frame : (w : ℕ) (v t : State) → word_of Ebp t ≡ word_of Ebp v → t.memory ≡ v.memory
        → load 4 (word_of Ebp v) v ≡ Ok w → load 4 (word_of Ebp t) t ≡ Ok w
    at-frame w v t same memory old =
        load-same 4 (word_of Ebp t) w v t memory (subst (λ (k : ℕ). load 4 k v ≡ Ok w) (sym same) old)

    left-word : (ebp found w : ℕ) → (found < 2 ^ 32 → ebp ≡ found) → found ≡ w → w < 2 ^ 32 → ebp ≡ w
    left-word ebp found w h same small = h (subst (λ (k : ℕ). k < 2 ^ 32) (sym same) small) ∙ same

pub leave-comes : LeaveComes
leave-comes site frame x address back s framed room is held fits ready =
    let p = leave-whole site frame x address back s framed room is held fits ready in (p.0, p.1)

-- what was returned by a state that was come to is returned by the first
returned-since : (site : Site) (x address : ℕ) (s m u : State) → Comes site.text s m → word_of Ebp m ≡ word_of Ebp s
    → m.memory ≡ s.memory → m.left ≡ s.left
    → m.taken ≡ s.taken → m.written ≡ s.written → Returned site x address m u → Returned site x address s u
returned-since site x address s m u comes ebp memory left taken written r =
    record {
      comes = comes-then site.text s m u comes r.comes;
      sound = r.sound;
      eip = r.eip;
      eax = r.eax;
      esp = r.esp ∙ ap (λ (k : ℕ). k + 8) ebp;
      ebp = λ w old small. r.ebp w (subst (λ (k : ℕ). load 4 k m ≡ Ok w) (sym ebp)
          (load-same 4 (word_of Ebp s) w s m memory old)) small;
      ebx = λ w old small. r.ebx w (moved 4 w old) small;
      esi = λ w old small. r.esi w (moved 8 w old) small;
      edi = λ w old small. r.edi w (moved 12 w old) small;
      memory = r.memory ∙ memory;
      left = r.left ∙ left;
      taken = r.taken ∙ taken;
      written = r.written ∙ written;
    }
  where
    moved : (d w : ℕ) → load 4 (word_of Ebp s - d) s ≡ Ok w → load 4 (word_of Ebp m - d) m ≡ Ok w
    moved d w old =
        subst (λ (k : ℕ). load 4 (k - d) m ≡ Ok w) (sym ebp) (load-same 4 (word_of Ebp s - d) w s m memory old)

-- the word of a place is in EAX, and all else is as before
record InEax (site : Site) (frame : ℕ) (items : List Item) (x : ℕ) (s m : State) : Type 0 where
  pub comes : Comes site.text s m
  pub ready : ReadyAt site items m
  pub framed : Framed site frame m
  pub eax : word_of Eax m ≡ x
  pub ebp : word_of Ebp m ≡ word_of Ebp s
  pub memory : m.memory ≡ s.memory
  pub left : m.left ≡ s.left
  pub taken : m.taken ≡ s.taken
  pub written : m.written ≡ s.written

-- where EAX was set
by-set : (site : Site) (frame : ℕ) (items : List Item) (x : ℕ) (s : State) → Framed site frame s
    → ((u : State) × Comes site.text s u × ReadyAt site items u × Sets site Eax x s.written s u)
    → (m : State) × InEax site frame items x s m
by-set site frame items x s framed (u, comes, ready, sets) =
    let esp : word_of Esp u ≡ word_of Esp s = sets.others Esp (unlike 4 0 refl) in
    let ebp : word_of Ebp u ≡ word_of Ebp s = sets.others Ebp (unlike 5 0 refl) in (
      u,
      record {
        comes = comes;
        ready = ready;
        framed = record {
          sound = sets.sound;
          esp = ap (λ (k : ℕ). k + frame) esp ∙ framed.esp ∙ sym ebp;
          room = subst (λ (k : ℕ). site.low + 4 ≤ k) (sym esp) framed.room;
          top = subst (λ (k : ℕ). k + 8 ≤ site.high) (sym ebp) framed.top;
        };
        eax = sets.value;
        ebp = ebp;
        memory = sets.memory;
        left = sets.left;
        taken = sets.taken;
        written = sets.written;
      },
    )

reads : (site : Site) (frame : ℕ) (place : Place) (x : ℕ) (items : List Item) (s : State) → Framed site frame s
    → HoldsWord place → IsPlaceIn frame place → Contains s Two place x → x < 2 ^ 32
    → ReadyAt site (read Eax place ++ items) s → (m : State) × InEax site frame items x s m
reads site frame (InWord r) x items s framed holds inside contains small ready =
    chosen (number32 r == number32 Eax) refl ready
  where
    chosen : (b : Bool) → (number32 r == number32 Eax) ≡ b
        → ReadyAt site ((if b then [] else plain (insn.Mov (rm.Reg Eax) r) ∷ []) ++ items) s
        → (m : State) × InEax site frame items x s m
    chosen true e here = (
      s,
      record {
        comes = comes-not site.text s;
        ready = here;
        framed = framed;
        eax = sym (same-word r Eax s (alike (number32 r) (number32 Eax) e)) ∙ contains;
        ebp = refl;
        memory = refl;
        left = refl;
        taken = refl;
        written = refl;
      },
    )
    chosen false e here =
        by-set site frame items x s framed (set-goes site items (insn.Mov (rm.Reg Eax) r) Eax x s.flags s framed.sound
        here tt small (λ after. ap (λ (v : ℕ). let q : Result State End = Ok (with_word Eax v s) in q) contains)
        (λ after. refl))
reads site frame (InByte r) x items s framed holds inside contains small ready = absurd holds
reads site frame (InSlot k) x items s framed holds inside contains small ready =
    let low = inside.low in
    let loaded = below-loaded site frame k 4 x s framed (omega (arith, low)) inside.high contains in
    by-set site frame items x s framed (set-goes site items (insn.MovLoad Eax (below k)) Eax x s.flags s framed.sound
    ready tt small (λ after. ap (λ (y : Result ℕ End). and_then y
    (λ value. let q : Result State End = Ok (with_word Eax value s) in q)) loaded) (λ after. refl))

pub return-whole : (site : Site) (frame : ℕ) (place : Place) (x address : ℕ) (back : List Item) (s : State)
    → Framed site frame s → 16 ≤ frame → HoldsWord place → IsPlaceIn frame place → Contains s Two place x → x < 2 ^ 32
    → load 4 (word_of Ebp s + 4) s ≡ Ok address → address < 2 ^ 32 → ReadyAt site (return_row place ++ back) s
    → (u : State) × Returned site x address s u × BringsEbx s u
return-whole site frame place x address back s framed four holds inside contains small held fits ready =
    let rest : List Item = leave ++ back in
    let m = reads site frame place x rest s framed holds inside contains small
    (subst (λ (xs : List Item). ReadyAt site xs s) (append_assoc (read Eax place) leave back) ready) in
    let n : State = m.0 in
    let g = m.1 in
    let last = leave-whole site frame x address back n g.framed four g.eax
    (subst (λ (k : ℕ). load 4 (k + 4) n ≡ Ok address) (sym g.ebp)
    (load-same 4 (word_of Ebp s + 4) address s n g.memory held)) fits g.ready in (
      last.0,
      returned-since site x address s n last.0 g.comes g.ebp g.memory g.left g.taken g.written last.1,
      λ w old. last.2 w (subst (λ (k : ℕ). load 4 (k - 4) n ≡ Ok w) (sym g.ebp)
          (load-same 4 (word_of Ebp s - 4) w s n g.memory old)),
    )

pub return-comes : ReturnComes
return-comes site frame place x address back s framed four holds inside contains small held fits ready =
    let p = return-whole site frame place x address back s framed four holds inside contains small held fits ready in
    (p.0, p.1)
