-- What one instruction does to a sound state: a change of a register, pushes, pops, calls, returns and leaves.
use Rattle.std.proofs.Common.{◌≡◌, ◌≢◌, ℕ, ◌+◌, ◌-◌, ◌%◌, ◌^◌, ◌<◌, ◌≤◌, List, ◌∷◌, ◌++◌, length, Ok, refl, sym}
use Rattle.std.proofs.Common.{ap, subst, ◌∙◌, arith}
use Rattle.std.specs.Prelude.{Result}
use Rattle.std.specs.Int.{w32, cast_unsigned}
use Rattle.std.proofs.Math.Nat.{mod-eq_of_lt}
use Rattle.pcc_base.specs.Outcome.{End}
use Rattle.ia32_insn.specs.declared.register_names.Reg32.{Reg32}
use Rattle.ia32_insn.specs.declared.register_names.Reg32.TheVariants.{Esp, Ebp}
use Rattle.ia32_insn.specs.Registers.{number32, register}
use Rattle.ia32_insn.specs.declared.operand.Rm32.TheVariants as rm
use Rattle.ia32_insn.specs.declared.insn.Insn.TheVariants as insn
use Rattle.ia32_insn.specs.declared.item.Item.{Item}
use Rattle.ia32_insn.specs.declared.item.Item.TheVariants as item
use Rattle.ia32_insn.specs.State.{State, at_address}
use Rattle.ia32_insn.specs.Arithmetic.{sum, difference}
use Rattle.ia32_insn.specs.Meaning.{and_then, load, store, push, pop, word_of, with_word, effect}
use Rattle.ia32_insn.specs.Keeps.{AreDisjoint}
use Rattle.ia32_insn.specs.Items.{ItemsAt, LeadsTo}
use Rattle.ia32_rows.proofs.Sound.{store-in, load-same, sound-with_word, sound-at, word-same}
use Rattle.ia32_rows.proofs.Sound.{word-other, word-below}
use Rattle.ia32_rows.proofs.Steps.{IsAt, Comes, at-front, at-back, after-fits, step-goes, plain-goes}
use Rattle.ia32_rows.proofs.Sets.{Sets, set-word}
use Rattle.ia32_rows.specs.Sites.{Site, SoundAt, ReadyAt, StandsFrom}

pub one_fits : 1 < 2 ^ 32
one_fits = omega arith

-- ---- a word onto the stack

-- the word stands at ESP, which is four bytes lower; other places, the other registers, the input and the output are as
-- before
pub record Pushed (site : Site) (v : ℕ) (s u : State) : Type 0 where
  pub sound : SoundAt site u
  pub esp : word_of Esp u + 4 ≡ word_of Esp s
  pub others : (q : Reg32) → number32 q ≢ number32 Esp → word_of q u ≡ word_of q s
  pub word : load 4 (word_of Esp u) u ≡ Ok v
  pub byte : load 1 (word_of Esp u) u ≡ Ok (v % 256)
  pub apart : (n b w : ℕ) → AreDisjoint (word_of Esp u) 4 b n → load n b s ≡ Ok w → load n b u ≡ Ok w
  pub left : u.left ≡ s.left
  pub taken : u.taken ≡ s.taken
  pub written : u.written ≡ s.written

pub pushed-at : (site : Site) (address v : ℕ) (s t : State) → Pushed site v s t → Pushed site v s (at_address address t)
pushed-at site address v s t h =
    record {
      sound = sound-at site.text site.low site.high address t h.sound;
      esp = h.esp;
      others = h.others;
      word = load-same 4 (word_of Esp t) v t (at_address address t) refl h.word;
      byte = load-same 1 (word_of Esp t) (v % 256) t (at_address address t) refl h.byte;
      apart = λ n b w k e. load-same n b w t (at_address address t) refl (h.apart n b w k e);
      left = h.left;
      taken = h.taken;
      written = h.written;
    }

pub push-makes : (site : Site) (v : ℕ) (s : State) → SoundAt site s → site.low + 4 ≤ word_of Esp s
    → word_of Esp s ≤ site.high → v < 2 ^ 32 → (t : State) × (push v s ≡ Ok t) × Pushed site v s t
push-makes site v s sound room top fits =
    let below = word-below site.text site.low site.high Esp s sound in
    let a : ℕ = word_of Esp s - 4 in
    let at : difference (word_of Esp s) 4 ≡ a = omega arith in
    let stored = store-in site.text site.low site.high a v s sound (omega arith) (omega arith) fits in
    let m : State = stored.0 in
    let rest = stored.1.rest in
    let t : State = with_word Esp a m in
    let does : push v s ≡ Ok t =
    ap (λ (k : ℕ). and_then (store 4 k v s) (λ u. let r : Result State End = Ok (with_word Esp k u) in r)) at
    ∙ ap (λ (x : Result State End). and_then x (λ u. let r : Result State End = Ok (with_word Esp a u) in r))
    stored.1.is in
    let is : word_of Esp t ≡ a = word-same site.text site.low site.high Esp a m stored.1.sound (omega arith) in (
      t,
      does,
      record {
        sound = sound-with_word site.text site.low site.high Esp a m stored.1.sound;
        esp = omega (arith, is);
        others = λ q other. word-other site.text site.low site.high q Esp a m stored.1.sound other
            ∙ ap (λ (registers : List ℕ). register q registers) rest.registers;
        word = load-same 4 (word_of Esp t) v m t refl (subst (λ (k : ℕ). load 4 k m ≡ Ok v) (sym is) stored.1.same);
        byte = load-same 1 (word_of Esp t) (v % 256) m t refl
            (subst (λ (k : ℕ). load 1 k m ≡ Ok (v % 256)) (sym is) stored.1.byte);
        apart = λ n b w k e. load-same n b w m t refl
            (stored.1.apart n b w (subst (λ (c : ℕ). AreDisjoint c 4 b n) is k) e);
        left = rest.left;
        taken = rest.taken;
        written = rest.written;
      },
    )

-- PUSH of a register
pub push-goes : (site : Site) (items : List Item) (q : Reg32) (s : State) → SoundAt site s
    → ReadyAt site (item.Plain (insn.Push (rm.Reg q)) ∷ items) s → site.low + 4 ≤ word_of Esp s
    → word_of Esp s ≤ site.high
    → (u : State) × Comes site.text s u × ReadyAt site items u × Pushed site (word_of q s) s u
push-goes site items q s sound ready room top =
    let made = push-makes site (word_of q s) s sound room top (word-below site.text site.low site.high q s sound) in
    let went = plain-goes site.symbols site.places site.text site.low site.high (insn.Push (rm.Reg q)) items s made.0
    sound ready tt (λ after. made.1) (λ after. refl) in
    (at_address went.0 made.0, went.1, went.2, pushed-at site went.0 (word_of q s) s made.0 made.2)

-- CALL: the address of what follows goes onto the stack
pub call-goes : (site : Site) (back : List Item) (address : ℕ) (first rest : List ℕ) (s : State) → SoundAt site s
    → IsAt site.text s.eip (first ++ rest) → LeadsTo insn.Call s.eip address first
    → ItemsAt site.symbols site.places (s.eip + length first) back rest → site.low + 4 ≤ word_of Esp s
    → word_of Esp s ≤ site.high
    → (u : State) × Comes site.text s u × (u.eip ≡ address) × Pushed site (s.eip + length first) s u
    × StandsFrom site back (s.eip + length first) × (s.eip + length first < 2 ^ 32)
call-goes site back address first rest s sound here leads stand room top =
    let distance = leads.0 in
    let front = at-front site.text s.eip first rest here in
    let after : ℕ = s.eip + length first in
    let fits : after < 2 ^ 32 = after-fits site.text site.low site.high s.eip first s sound front in
    let small : after % 2 ^ 32 ≡ after = mod-eq_of_lt fits in
    let made = push-makes site after s sound room top fits in
    let t : State = made.0 in
    let goes : ℕ = after + cast_unsigned w32 distance in (
      at_address goes t,
      step-goes site.text site.low site.high (insn.Call distance) first s t goes sound front leads.1 tt
          (ap (λ (k : ℕ). push k s) small ∙ made.1) refl,
      leads.2,
      pushed-at site goes after s t made.2,
      record { bytes = rest; here = at-back site.text s.eip first rest here; stand = stand },
      fits,
    )

-- ---- a word off the stack

-- a register has the word at ESP, which is four bytes higher; the other registers, memory, the input and the output are
-- as before
pub record Popped (site : Site) (r : Reg32) (v : ℕ) (s u : State) : Type 0 where
  pub sound : SoundAt site u
  pub value : word_of r u ≡ v
  pub esp : word_of Esp u ≡ word_of Esp s + 4
  pub others : (q : Reg32) → number32 q ≢ number32 r → number32 q ≢ number32 Esp → word_of q u ≡ word_of q s
  pub memory : u.memory ≡ s.memory
  pub left : u.left ≡ s.left
  pub taken : u.taken ≡ s.taken
  pub written : u.written ≡ s.written

pub pop-makes : (site : Site) (v : ℕ) (s : State) → SoundAt site s → load 4 (word_of Esp s) s ≡ Ok v
    → word_of Esp s + 4 ≤ site.high → pop s ≡ Ok (v, with_word Esp (word_of Esp s + 4) s)
pop-makes site v s sound held top =
    let below = sound.below in
    let at : sum (word_of Esp s) 4 ≡ word_of Esp s + 4 = omega arith in
    ap (λ (x : Result ℕ End). and_then x (λ value. let r : Result (ℕ × State) End =
    Ok (value, with_word Esp (sum (word_of Esp s) 4) s) in r)) held
    ∙ ap (λ (k : ℕ). let r : Result (ℕ × State) End = Ok (v, with_word Esp k s) in r) at

-- POP to a register other than ESP
pub pop-goes : (site : Site) (items : List Item) (r : Reg32) (v : ℕ) (s : State) → SoundAt site s
    → ReadyAt site (item.Plain (insn.Pop r) ∷ items) s → number32 Esp ≢ number32 r
    → load 4 (word_of Esp s) s ≡ Ok v → v < 2 ^ 32 → word_of Esp s + 4 ≤ site.high
    → (u : State) × Comes site.text s u × ReadyAt site items u × Popped site r v s u
pop-goes site items r v s sound ready other held fits top =
    let below = sound.below in
    let m : State = with_word Esp (word_of Esp s + 4) s in
    let t : State = with_word r v m in
    let m_sound = sound-with_word site.text site.low site.high Esp (word_of Esp s + 4) s sound in
    let does : (after : ℕ) → effect (insn.Pop r) after s ≡ Ok t =
    λ after. ap (λ (x : Result (ℕ × State) End).
    and_then x (λ popped. let q : Result State End = Ok (with_word r popped.0 popped.1) in q))
    (pop-makes site v s sound held top) in
    let went = plain-goes site.symbols site.places site.text site.low site.high (insn.Pop r) items s t sound ready tt
    does (λ after. refl) in (
      at_address went.0 t,
      went.1,
      went.2,
      record {
        sound = sound-at site.text site.low site.high went.0 t
            (sound-with_word site.text site.low site.high r v m m_sound);
        value = word-same site.text site.low site.high r v m m_sound fits;
        esp = word-other site.text site.low site.high Esp r v m m_sound other
            ∙ word-same site.text site.low site.high Esp (word_of Esp s + 4) s sound (omega arith);
        others = λ q one two. word-other site.text site.low site.high q r v m m_sound one
            ∙ word-other site.text site.low site.high q Esp (word_of Esp s + 4) s sound two;
        memory = refl;
        left = refl;
        taken = refl;
        written = refl;
      },
    )

-- RET to the address at ESP
pub ret-goes : (site : Site) (items : List Item) (address : ℕ) (s : State) → SoundAt site s
    → ReadyAt site (item.Plain insn.Ret ∷ items) s → load 4 (word_of Esp s) s ≡ Ok address → address < 2 ^ 32
    → word_of Esp s + 4 ≤ site.high
    → (u : State) × Comes site.text s u × (u.eip ≡ address) × Sets site Esp (word_of Esp s + 4) s.written s u
ret-goes site items address s sound ready held fits top =
    let below = sound.below in
    let first : List ℕ = ready.stand.0 in
    let rest : List ℕ = ready.stand.1 in
    let front = at-front site.text s.eip first rest (subst (IsAt site.text s.eip) ready.stand.2 ready.here) in
    let t : State = with_word Esp (word_of Esp s + 4) s in
    let does : effect insn.Ret (s.eip + length first) s ≡ Ok t =
    ap (λ (x : Result (ℕ × State) End). and_then x (λ popped. let q : Result State End = Ok popped.1 in q))
    (pop-makes site address s sound held top) in (
      at_address address t,
      step-goes site.text site.low site.high insn.Ret first s t address sound front ready.stand.3 tt does held,
      mod-eq_of_lt fits,
      set-word site address Esp (word_of Esp s + 4) s.flags s sound (omega arith),
    )

-- ESP is four bytes above EBP, which has the word that stood there; the other registers, memory, the input and the
-- output are as before
pub record Leaves (site : Site) (v : ℕ) (s u : State) : Type 0 where
  pub sound : SoundAt site u
  pub esp : word_of Esp u ≡ word_of Ebp s + 4
  pub ebp : v < 2 ^ 32 → word_of Ebp u ≡ v
  pub others : (q : Reg32) → number32 q ≢ number32 Ebp → number32 q ≢ number32 Esp → word_of q u ≡ word_of q s
  pub memory : u.memory ≡ s.memory
  pub left : u.left ≡ s.left
  pub taken : u.taken ≡ s.taken
  pub written : u.written ≡ s.written

-- LEAVE
pub leave-goes : (site : Site) (items : List Item) (v : ℕ) (s : State) → SoundAt site s
    → ReadyAt site (item.Plain insn.Leave ∷ items) s → load 4 (word_of Ebp s) s ≡ Ok v → word_of Ebp s + 4 ≤ site.high
    → (u : State) × Comes site.text s u × ReadyAt site items u × Leaves site v s u
leave-goes site items v s sound ready held top =
    let below = sound.below in
    let e : ℕ = word_of Ebp s + 4 in
    let at : sum (word_of Ebp s) 4 ≡ e = omega arith in
    let m : State = with_word Esp e s in
    let t : State = with_word Ebp v m in
    let m_sound = sound-with_word site.text site.low site.high Esp e s sound in
    let does : (after : ℕ) → effect insn.Leave after s ≡ Ok t =
    λ after. ap (λ (x : Result ℕ End). and_then x
    (λ value. let q : Result State End = Ok (with_word Ebp value (with_word Esp (sum (word_of Ebp s) 4) s)) in q))
    held
    ∙ ap (λ (k : ℕ). let q : Result State End = Ok (with_word Ebp v (with_word Esp k s)) in q) at in
    let went = plain-goes site.symbols site.places site.text site.low site.high insn.Leave items s t sound ready tt does
    (λ after. refl) in (
      at_address went.0 t,
      went.1,
      went.2,
      record {
        sound = sound-at site.text site.low site.high went.0 t
            (sound-with_word site.text site.low site.high Ebp v m m_sound);
        esp = word-other site.text site.low site.high Esp Ebp v m m_sound (λ n. omega arith)
            ∙ word-same site.text site.low site.high Esp e s sound (omega arith);
        ebp = λ fits. word-same site.text site.low site.high Ebp v m m_sound fits;
        others = λ q one two. word-other site.text site.low site.high q Ebp v m m_sound one
            ∙ word-other site.text site.low site.high q Esp e s sound two;
        memory = refl;
        left = refl;
        taken = refl;
        written = refl;
      },
    )
