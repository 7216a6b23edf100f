-- Words move between registers and places.
use Rattle.std.proofs.Common.{◌≡◌, ◌≢◌, ℕ, ◌-◌, ◌*◌, ◌%◌, ◌^◌, ◌<◌, ◌≤◌, Bool, true, false, List, [], ◌∷◌}
use Rattle.std.proofs.Common.{Ok, refl, sym, ap, subst, ◌∙◌, inl, arith, drop}
use Rattle.std.specs.Prelude.{◌==◌, ⊤, if◌then◌else◌, slice_index}
use Rattle.std.specs.Int.{w32, cast_unsigned}
use Rattle.std.proofs.lemmas.Bool.Decides.{nat_tests}
use Rattle.std.proofs.lemmas.Int.{ints}
use Rattle.std.proofs.lemmas.List.{get_or-set_same}
use Rattle.std.proofs.Math.Nat.{mod-eq_of_lt}
use Rattle.byteorder.specs.Endian.{little_number}
use Rattle.ia32_insn.specs.declared.register_names.Reg32.{Reg32}
use Rattle.ia32_insn.specs.declared.register_names.Reg32.TheVariants.{Eax, Ecx, Edx, Ebx, Esp, Ebp, Esi, Edi}
use Rattle.ia32_insn.specs.declared.register_names.Reg8.{Reg8}
use Rattle.ia32_insn.specs.declared.register_names.Reg8.TheVariants.{Al, Cl, Dl, Bl, Ah, Ch, Dh, Bh}
use Rattle.ia32_insn.specs.Registers.{number32, byte_place}
use Rattle.ia32_insn.specs.Places.{Place, InWord, InByte, InSlot, IsGeneral}
use Rattle.ia32_insn.specs.declared.operand.Rm32.TheVariants as rm
use Rattle.ia32_insn.specs.declared.operand.Rm8.TheVariants as rm8
use Rattle.ia32_insn.specs.declared.insn.Insn.{Insn}
use Rattle.ia32_insn.specs.declared.insn.Insn.TheVariants as insn
use Rattle.ia32_insn.specs.declared.item.Item.{Item}
use Rattle.ia32_insn.specs.State.{State}
use Rattle.ia32_insn.specs.Arithmetic.{extended8}
use Rattle.ia32_insn.specs.Meaning.{load, word_of, with_word, with_byte}
use Rattle.ia32_insn.specs.Items.{plain}
use Rattle.ia32_rows.specs.Placements.{below}
use Rattle.ia32_rows.specs.Sites.{Site, SoundAt, Framed, Anywhere}
use Rattle.ia32_rows.proofs.Sound.{Stored, word-same, word-below}
use Rattle.ia32_rows.specs.Rows.{read, write}
use Rattle.ia32_rows.specs.Effects.{Makes, Keeps, OutsideWord}
use Rattle.ia32_rows.specs.Contains.{OutsidePlace, Untouched, ApartFromPlace}
use Rattle.ia32_rows.specs.Laws.{IsWorking, Gives, ReadGives, ExtendGives, Puts, WritePuts, NumberPuts, CopyPuts}
use Rattle.ia32_rows.specs.Laws.{CopyBytePuts}
use Rattle.ia32_rows.proofs.Kept.{keeps-same, keeps-then, keeps-stricter, result-keeps, byte-keeps}
use Rattle.ia32_rows.proofs.Kept.{stored-keeps, word-kept, other-cells, framed-kept}
use Rattle.ia32_rows.proofs.Straight.{leads-join}
use Rattle.ia32_rows.proofs.Instructions.{move-makes, number-makes, byte_number-makes, load-makes, load_byte-makes}
use Rattle.ia32_rows.proofs.Instructions.{extend-makes, byte-makes, store-makes, store_number-makes}
pub use Rattle.ia32_rows.proofs.Sets.{unlike}

-- ---- numbers of registers

-- what the test of two numbers says
pub alike : (m n : ℕ) → (m == n) ≡ true → m ≡ n
alike m n e = grind (arith, nat_tests)

-- registers of one number have one word
pub same-word : (r q : Reg32) (s : State) → number32 r ≡ number32 q → word_of r s ≡ word_of q s
same-word r q s e = ap (λ (n : ℕ). little_number 4 (drop (4 * n) s.registers)) e

-- the registers for variables have the numbers up to 3
pub general-below : (r : Reg32) → IsGeneral r → number32 r < 4
general-below Eax h = omega arith
general-below Ecx h = omega arith
general-below Edx h = omega arith
general-below Ebx h = omega arith
general-below Esp h = absurd h
general-below Ebp h = absurd h
general-below Esi h = absurd h
general-below Edi h = absurd h

pub general-works : (r : Reg32) → IsGeneral r → IsWorking r
general-works r h = let b = general-below r h in ((λ e. omega arith), (λ e. omega arith))

-- and their bytes are in their cells
pub byte-below : (r : Reg8) → byte_place r < 16
byte-below Al = omega arith
byte-below Cl = omega arith
byte-below Dl = omega arith
byte-below Bl = omega arith
byte-below Ah = omega arith
byte-below Ch = omega arith
byte-below Dh = omega arith
byte-below Bh = omega arith

-- ---- a register

-- nothing changed
gives-nothing : (site : Site) (frame : ℕ) (t : Reg32) (w : ℕ) (s : State) → Framed site frame s → word_of t s ≡ w
    → (u : State) × Gives site frame [] t w s u
gives-nothing site frame t w s framed is =
    (s, record { leads = refl; value = is; framed = framed; keeps = keeps-same (OutsideWord t) Anywhere s })

-- one instruction that gives a register a word
pub gives-word : (site : Site) (frame : ℕ) (i : Insn) (t : Reg32) (w : ℕ) (s : State) → Framed site frame s
    → IsWorking t → w < 2 ^ 32 → Makes site i s (with_word t w s) → (u : State)
    × Gives site frame (plain i ∷ []) t w s u
gives-word site frame i t w s framed works fits makes =
    let u : State = with_word t w s in
    let keeps : Keeps (OutsideWord t) Anywhere s u = result-keeps site t w s.flags s framed.sound in (
      u,
      record {
        leads = (u, makes, refl);
        value = word-same site.text site.low site.high t w s framed.sound fits;
        framed = framed-kept (OutsideWord t) Anywhere site frame s u framed keeps makes.sound
            (other-cells Esp t works.0) (other-cells Ebp t works.1);
        keeps = keeps;
      },
    )

pub read-gives : ReadGives
read-gives site frame t (InWord r) w s framed works holds placed contains fits =
    chosen (number32 r == number32 t) refl
  where
    chosen : (b : Bool) → (number32 r == number32 t) ≡ b
        → (u : State) × Gives site frame (if b then [] else plain (insn.Mov (rm.Reg t) r) ∷ []) t w s u
    chosen true e =
        gives-nothing site frame t w s framed (sym (same-word r t s (alike (number32 r) (number32 t) e)) ∙ contains)
    chosen false e =
        gives-word site frame (insn.Mov (rm.Reg t) r) t w s framed works fits
        (subst (λ (v : ℕ). Makes site (insn.Mov (rm.Reg t) r) s (with_word t v s)) contains
        (move-makes site t r s framed.sound))
read-gives site frame t (InByte r) w s framed works holds placed contains fits = absurd holds
read-gives site frame t (InSlot k) w s framed works holds placed contains fits =
    let low = placed.low in
    gives-word site frame (insn.MovLoad t (below k)) t w s framed works fits
    (load-makes site frame t k w s framed (omega arith) placed.high contains)

-- a byte with its sign is a word
pub extended-fits : (b : ℕ) → b < 256 → extended8 b < 2 ^ 32
extended-fits b h = grind (arith, ints)

pub extend-gives : ExtendGives
extend-gives site frame t r b s framed works contains small =
    gives-word site frame (insn.MovSx8 t (rm8.Reg r)) t (extended8 b) s framed works (extended-fits b small)
    (subst (λ (v : ℕ). Makes site (insn.MovSx8 t (rm8.Reg r)) s (with_word t (extended8 v) s)) contains
    (extend-makes site t r s framed.sound))

-- ---- a place

-- ESP and EBP are no place's
untouched-stack : (frame : ℕ) (p : Place) (k : ℕ) → 16 ≤ k → k < 24 → OutsidePlace p k → Untouched p k
untouched-stack frame p k low high outside = (outside, inl (omega arith), inl (omega arith))

-- an instruction that changes one word of memory, and no register
pub puts-memory : (site : Site) (frame : ℕ) (i : Insn) (k w : ℕ) (s t : State) → Framed site frame s
    → load 4 (word_of Ebp s - k) t ≡ Ok w → load 1 (word_of Ebp s - k) t ≡ Ok (w % 256)
    → Keeps (λ c. ⊤) (ApartFromPlace (word_of Ebp s) (InSlot k)) s t → Makes site i s t
    → Puts site frame (plain i ∷ []) (InSlot k) w s t
puts-memory site frame i k w s t framed word byte keeps makes =
    let K : ℕ → ℕ → Type 0 = ApartFromPlace (word_of Ebp s) (InSlot k) in
    let ebp : word_of Ebp t ≡ word_of Ebp s = word-kept (λ c. ⊤) K Ebp s t keeps (λ m below. tt) in
    record {
      leads = (t, makes, refl);
      holds = (
        subst (λ (e : ℕ). load 4 (e - k) t ≡ Ok w) (sym ebp) word,
        subst (λ (e : ℕ). load 1 (e - k) t ≡ Ok (w % 256)) (sym ebp) byte,
      );
      framed = framed-kept (λ c. ⊤) K site frame s t framed keeps makes.sound (λ m below. tt) (λ m below. tt);
      keeps = keeps-stricter (λ c. ⊤) (Untouched (InSlot k)) K K s t (λ c q. tt) (λ a n l. l) keeps;
    }

-- one that stores it
puts-slot : (site : Site) (frame : ℕ) (i : Insn) (k w : ℕ) (s : State) → Framed site frame s
    → ((t : State) × Stored site.text site.low site.high (word_of Ebp s - k) w s t × Makes site i s t)
    → (u : State) × Puts site frame (plain i ∷ []) (InSlot k) w s u
puts-slot site frame i k w s framed (t, stored, makes) = (
  t,
  puts-memory site frame i k w s t framed stored.same stored.byte
      (stored-keeps (λ c. ⊤) site (word_of Ebp s - k) w s t stored) makes,
)

-- what gives a register of a variable a word puts it there
pub puts-word : (site : Site) (frame : ℕ) (items : List Item) (r : Reg32) (w : ℕ) (s : State)
    → ((u : State) × Gives site frame items r w s u) → (u : State) × Puts site frame items (InWord r) w s u
puts-word site frame items r w s (u, g) = (
  u,
  record {
    leads = g.leads;
    holds = g.value;
    framed = g.framed;
    keeps =
        keeps-stricter (OutsideWord r) (Untouched (InWord r)) Anywhere (ApartFromPlace (word_of Ebp s) (InWord r)) s u
        (λ k q. q.0) (λ a n l. tt) g.keeps;
  },
)

-- a byte of a register
puts-byte : (site : Site) (frame : ℕ) (r : Reg8) (v : ℕ) (s : State) → Framed site frame s → v < 256
    → SoundAt site (with_byte r v s)
    → (slice_index (with_byte r v s).registers (byte_place r) ≡ v) × Framed site frame (with_byte r v s)
puts-byte site frame r v s framed fits sound =
    let b = byte-below r in
    let cells = framed.sound.registers.cells in (
      get_or-set_same s.registers (byte_place r) v 0 (omega (arith, cells)),
      framed-kept (λ k. k ≢ byte_place r) Anywhere site frame s (with_byte r v s) framed (byte-keeps r v s) sound
          (λ m below e. omega (arith, e)) (λ m below e. omega (arith, e)),
    )

pub write-puts : WritePuts
write-puts site frame (InWord r) t w s framed room placed is = chosen (number32 r == number32 t) refl
  where
    chosen : (b : Bool) → (number32 r == number32 t) ≡ b
        → (u : State) × Puts site frame (if b then [] else plain (insn.Mov (rm.Reg r) t) ∷ []) (InWord r) w s u
    chosen true e =
        puts-word site frame [] r w s
        (gives-nothing site frame r w s framed (same-word r t s (alike (number32 r) (number32 t) e) ∙ is))
    chosen false e =
        puts-word site frame (plain (insn.Mov (rm.Reg r) t) ∷ []) r w s
        (gives-word site frame (insn.Mov (rm.Reg r) t) r w s framed (general-works r placed)
        (subst (λ (v : ℕ). v < 2 ^ 32) is (word-below site.text site.low site.high t s framed.sound))
        (subst (λ (v : ℕ). Makes site (insn.Mov (rm.Reg r) t) s (with_word r v s)) is
        (move-makes site r t s framed.sound)))
write-puts site frame (InByte r) t w s framed room placed is =
    let K : ℕ → ℕ → Type 0 = ApartFromPlace (word_of Ebp s) (InByte r) in
    let first = store-makes site frame t 16 s framed (omega arith) (omega arith) in
    let m : State = first.0 in
    let stored = first.1 in
    let kept : Keeps (λ c. ⊤) K s m = stored-keeps (λ c. ⊤) site (word_of Ebp s - 16) (word_of t s) s m stored in
    let ebp : word_of Ebp m ≡ word_of Ebp s = word-kept (λ c. ⊤) K Ebp s m kept (λ j below. tt) in
    let framed_m : Framed site frame m = framed-kept (λ c. ⊤) K site frame s m framed kept first.2.sound
    (λ j below. tt) (λ j below. tt) in
    let byte : load 1 (word_of Ebp m - 16) m ≡ Ok (w % 256) =
    subst (λ (e : ℕ). load 1 (e - 16) m ≡ Ok (w % 256)) (sym ebp)
    (subst (λ (v : ℕ). load 1 (word_of Ebp s - 16) m ≡ Ok (v % 256)) is stored.byte) in
    let second = load_byte-makes site frame r 16 (w % 256) m framed_m (omega arith) (omega arith) byte (omega arith) in
    let u : State = with_byte r (w % 256) m in
    let put = puts-byte site frame r (w % 256) m framed_m (omega arith) second.sound in (
      u,
      record {
        leads = (m, first.2, (u, second, refl));
        holds = put.0;
        framed = put.1;
        keeps = keeps-then (Untouched (InByte r)) K s m u
            (keeps-stricter (λ c. ⊤) (Untouched (InByte r)) K K s m (λ c q. tt) (λ a n l. l) kept)
            (keeps-stricter (λ k. k ≢ byte_place r) (Untouched (InByte r)) Anywhere K m u (λ k q. q.0) (λ a n l. tt)
            (byte-keeps r (w % 256) m));
      },
    )
write-puts site frame (InSlot k) t w s framed room placed is =
    let low = placed.low in
    let m = store-makes site frame t k s framed (omega arith) placed.high in
    puts-slot site frame (insn.Mov (rm.Mem (below k)) t) k w s framed
    (m.0, subst (λ (v : ℕ). Stored site.text site.low site.high (word_of Ebp s - k) v s m.0) is m.1, m.2)

-- ---- numbers and copies

pub number-puts : NumberPuts
number-puts site frame (InWord r) z s framed placed fits =
    puts-word site frame (plain (insn.MovImm (rm.Reg r) z) ∷ []) r (cast_unsigned w32 z) s
    (gives-word site frame (insn.MovImm (rm.Reg r) z) r (cast_unsigned w32 z) s framed (general-works r placed) fits
    (number-makes site r z s framed.sound))
number-puts site frame (InByte r) z s framed placed fits =
    let v : ℕ = cast_unsigned w32 z % 256 in
    let small : v < 256 = omega arith in
    let makes = byte_number-makes site r v s framed.sound small in
    let u : State = with_byte r v s in
    let put = puts-byte site frame r v s framed small makes.sound in (
      u,
      record {
        leads = (u, makes, refl);
        holds = put.0;
        framed = put.1;
        keeps = keeps-stricter (λ k. k ≢ byte_place r) (Untouched (InByte r)) Anywhere
            (ApartFromPlace (word_of Ebp s) (InByte r)) s u (λ k q. q.0) (λ a n l. tt) (byte-keeps r v s);
      },
    )
number-puts site frame (InSlot k) z s framed placed fits =
    let low = placed.low in
    puts-slot site frame (insn.MovImm (rm.Mem (below k)) z) k (cast_unsigned w32 z) s framed
    (store_number-makes site frame z k s framed (omega arith) placed.high fits)

-- one instruction that gives a byte of a register a byte
puts-one : (site : Site) (frame : ℕ) (i : Insn) (r : Reg8) (v : ℕ) (s : State) → Framed site frame s → v < 256
    → Makes site i s (with_byte r v s) → (u : State) × Puts site frame (plain i ∷ []) (InByte r) v s u
puts-one site frame i r v s framed small makes =
    let u : State = with_byte r v s in
    let put = puts-byte site frame r v s framed small makes.sound in (
      u,
      record {
        leads = (u, makes, refl);
        holds = put.0 ∙ sym (mod-eq_of_lt small);
        framed = put.1;
        keeps = keeps-stricter (λ k. k ≢ byte_place r) (Untouched (InByte r)) Anywhere
            (ApartFromPlace (word_of Ebp s) (InByte r)) s u (λ k q. q.0) (λ a n l. tt) (byte-keeps r v s);
      },
    )

pub copy_byte-puts : CopyBytePuts
copy_byte-puts site frame r (InWord q) b s framed placed contains small = absurd contains
copy_byte-puts site frame r (InByte q) b s framed placed contains small =
    puts-one site frame (insn.Mov8 (rm8.Reg r) q) r b s framed small
    (subst (λ (v : ℕ). Makes site (insn.Mov8 (rm8.Reg r) q) s (with_byte r v s)) contains
    (byte-makes site r q s framed.sound))
copy_byte-puts site frame r (InSlot k) b s framed placed contains small =
    let low = placed.low in
    puts-one site frame (insn.Mov8Load r (below k)) r b s framed small
    (load_byte-makes site frame r k b s framed (omega arith) placed.high contains small)

pub copy-puts : CopyPuts
copy-puts site frame p (InByte r) w s framed to to_placed from placed contains fits = absurd from
copy-puts site frame (InByte r) q w s framed to to_placed from placed contains fits = absurd to
copy-puts site frame (InWord d) (InWord r) w s framed to to_placed from placed contains fits =
    puts-word site frame (plain (insn.Mov (rm.Reg d) r) ∷ []) d w s
    (gives-word site frame (insn.Mov (rm.Reg d) r) d w s framed (general-works d to_placed) fits
    (subst (λ (v : ℕ). Makes site (insn.Mov (rm.Reg d) r) s (with_word d v s)) contains
    (move-makes site d r s framed.sound)))
copy-puts site frame (InWord d) (InSlot k) w s framed to to_placed from placed contains fits =
    puts-word site frame (read d (InSlot k)) d w s
    (read-gives site frame d (InSlot k) w s framed (general-works d to_placed) tt placed contains fits)
copy-puts site frame (InSlot k) (InWord r) w s framed to to_placed from placed contains fits =
    let low = to_placed.low in
    let high = to_placed.high in
    write-puts site frame (InSlot k) r w s framed (omega arith) to_placed contains
copy-puts site frame (InSlot k) (InSlot b) w s framed to to_placed from placed contains fits =
    let low = to_placed.low in
    let high = to_placed.high in
    let one = read-gives site frame Esi (InSlot b) w s framed ((λ e. omega arith), (λ e. omega arith)) tt placed
    contains
    fits in
    let m : State = one.0 in
    let two = write-puts site frame (InSlot k) Esi w m one.1.framed (omega arith) to_placed one.1.value in
    let u : State = two.0 in
    let K : ℕ → ℕ → Type 0 = ApartFromPlace (word_of Ebp s) (InSlot k) in
    let ebp : word_of Ebp m ≡ word_of Ebp s = word-kept (OutsideWord Esi) Anywhere Ebp s m one.1.keeps
    (other-cells Ebp Esi (λ e. omega arith)) in (
      u,
      record {
        leads = leads-join site (read Esi (InSlot b)) (write (InSlot k) Esi) s m u one.1.leads two.1.leads;
        holds = two.1.holds;
        framed = two.1.framed;
        keeps = keeps-then (Untouched (InSlot k)) K s m u
            (keeps-stricter (OutsideWord Esi) (Untouched (InSlot k)) Anywhere K s m (λ c q. q.1) (λ a n l. tt)
            one.1.keeps)
            (subst (λ (e : ℕ). Keeps (Untouched (InSlot k)) (ApartFromPlace e (InSlot k)) m u) ebp two.1.keeps);
      },
    )
