-- Pieces of straight code that keep cells of registers and all of memory, and a row that ends with one.
use Rattle.std.proofs.Common.{◌≡◌, ◌≢◌, ◌⊎◌, ℕ, ◌+◌, ◌*◌, ◌%◌, ◌<◌, ◌≤◌, List, [], ◌∷◌, ◌++◌}
use Rattle.std.proofs.Common.{Option, drop, get_or, refl, ap, subst, ◌∙◌, inl, inr, arith}
use Rattle.std.specs.Prelude.{⊤}
use Rattle.std.proofs.lemmas.List.{get_or-drop}
use Rattle.byteorder.specs.Endian.{little_from}
use Rattle.ia32_insn.specs.declared.register_names.Reg32.{Reg32}
use Rattle.ia32_insn.specs.declared.register_names.Reg32.TheVariants.{Eax, Ecx, Edx, Ebx, Esp, Ebp, Esi, Edi}
use Rattle.ia32_insn.specs.declared.register_names.Reg8.{Reg8}
use Rattle.ia32_insn.specs.declared.register_names.Reg8.TheVariants.{Al, Cl, Dl, Bl, Ah, Ch, Dh, Bh}
use Rattle.ia32_insn.specs.Registers.{AreRegisters, number8, number32, byte_place}
use Rattle.ia32_insn.specs.Places.{Place, IsGeneral}
use Rattle.ia32_insn.specs.declared.flags.Flags.{Flags}
use Rattle.ia32_insn.specs.declared.insn.Insn.{Insn}
use Rattle.ia32_insn.specs.declared.item.Item.{Item}
use Rattle.ia32_insn.specs.State.{State}
use Rattle.ia32_insn.specs.Meaning.{byte_of, word_of}
use Rattle.ia32_insn.specs.Items.{plain}
use Rattle.ia32_rows.specs.Sites.{Anywhere, Framed, Site}
use Rattle.ia32_rows.proofs.Frames.{with_result}
use Rattle.ia32_rows.specs.Rows.{write}
use Rattle.ia32_rows.specs.Effects.{Keeps, Leads, Makes, OutsideWord}
use Rattle.ia32_rows.specs.Contains.{ApartFromPlace, IsPlaceIn, Untouched}
use Rattle.ia32_rows.specs.Laws.{Gives, IsWorking, Puts}
use Rattle.ia32_rows.proofs.Kept.{HasCells, framed-kept, keeps-stricter, keeps-then, other-cells, result-keeps}
use Rattle.ia32_rows.proofs.Kept.{word-kept}
use Rattle.ia32_rows.proofs.Moves.{write-puts}
use Rattle.ia32_rows.proofs.Straight.{leads-join}
pub use Rattle.ia32_rows.proofs.Sums.{target-within, target-works}
use Rattle.ia32_rows.specs.Rows.{low_byte}
use Rattle.ia32_laws.specs.CoresLaws.{PutsBeside}
use Rattle.ia32_laws.proofs.Spared.{first-byte}

-- ---- pieces

-- straight code that keeps the cells that pass the test, and all of memory
pub record Goes (R : ℕ → Type 0) (site : Site) (frame : ℕ) (items : List Item) (s u : State) : Type 0 where
  pub leads : Leads site items s u
  pub framed : Framed site frame u
  pub keeps : Keeps R Anywhere s u

pub goes-of : (site : Site) (frame : ℕ) (items : List Item) (t : Reg32) (w : ℕ) (s u : State)
    → Gives site frame items t w s u → Goes (OutsideWord t) site frame items s u
goes-of site frame items t w s u g = record { leads = g.leads; framed = g.framed; keeps = g.keeps }

-- a stricter test
pub goes-stricter : (R Q : ℕ → Type 0) (site : Site) (frame : ℕ) (items : List Item) (s u : State)
    → ((k : ℕ) → Q k → R k) → Goes R site frame items s u → Goes Q site frame items s u
goes-stricter R Q site frame items s u f g =
    record {
      leads = g.leads;
      framed = g.framed;
      keeps = keeps-stricter R Q Anywhere Anywhere s u f (λ a n k. k) g.keeps;
    }

-- one piece after another
pub goes-then : (R : ℕ → Type 0) (site : Site) (frame : ℕ) (xs ys : List Item) (s m u : State)
    → Goes R site frame xs s m → Goes R site frame ys m u → Goes R site frame (xs ++ ys) s u
goes-then R site frame xs ys s m u g h =
    record {
      leads = leads-join site xs ys s m u g.leads h.leads;
      framed = h.framed;
      keeps = keeps-then R Anywhere s m u g.keeps h.keeps;
    }

-- one instruction that leaves a word in a register, with any flags
pub result-goes : (site : Site) (frame : ℕ) (i : Insn) (t : Reg32) (v : ℕ) (flags : Option Flags) (s : State)
    → Framed site frame s → IsWorking t → Makes site i s (with_result t v flags s)
    → Goes (OutsideWord t) site frame (plain i ∷ []) s (with_result t v flags s)
result-goes site frame i t v flags s framed works makes =
    let u : State = with_result t v flags s in
    let keeps : Keeps (OutsideWord t) Anywhere s u = result-keeps site t v flags s framed.sound in
    record {
      leads = (u, makes, refl);
      framed = framed-kept (OutsideWord t) Anywhere site frame s u framed keeps makes.sound
          (other-cells Esp t works.0) (other-cells Ebp t works.1);
      keeps = keeps;
    }

-- ---- the end of a row

-- the register's word to the result's place
pub then-written : (R Q : ℕ → Type 0) (site : Site) (frame : ℕ) (items : List Item) (p : Place) (t : Reg32) (w : ℕ)
    (s n : State) → Goes R site frame items s n → HasCells R Ebp → ((k : ℕ) → Untouched p k → Q k → R k)
    → 16 ≤ frame → IsPlaceIn frame p → word_of t n ≡ w
    → (u : State) × PutsBeside Q site frame (items ++ write p t) p w s u
then-written R Q site frame items p t w s n goes has within room to is =
    let last = write-puts site frame p t w n goes.framed room to is in
    let u : State = last.0 in
    let K : ℕ → ℕ → Type 0 = ApartFromPlace (word_of Ebp s) p in
    let S : ℕ → Type 0 = λ k. Untouched p k × Q k in
    let ebp : word_of Ebp n ≡ word_of Ebp s = word-kept R Anywhere Ebp s n goes.keeps has in (
      u,
      record {
        leads = leads-join site items (write p t) s n u goes.leads last.1.leads;
        holds = last.1.holds;
        framed = last.1.framed;
        keeps = keeps-then S K s n u
            (keeps-stricter R S Anywhere K s n (λ k h. within k h.0 h.1) (λ a n l. tt) goes.keeps)
            (keeps-stricter (Untouched p) S K K n u (λ k h. h.0) (λ a n l. l)
            (subst (λ (e : ℕ). Keeps (Untouched p) (ApartFromPlace e p) n u) ebp last.1.keeps));
      },
    )

-- a row that takes no other cells
pub puts-plain : (site : Site) (frame : ℕ) (items : List Item) (p : Place) (w : ℕ) (s u : State)
    → PutsBeside (λ k. ⊤) site frame items p w s u → Puts site frame items p w s u
puts-plain site frame items p w s u h =
    record {
      leads = h.leads;
      holds = h.holds;
      framed = h.framed;
      keeps = keeps-stricter (λ k. Untouched p k × ⊤) (Untouched p) (ApartFromPlace (word_of Ebp s) p)
          (ApartFromPlace (word_of Ebp s) p) s u (λ k q. (q, tt)) (λ a n l. l) h.keeps;
    }

-- ---- bytes

-- the lowest byte of a register is the lowest of its word
pub low-byte-is : (r : Reg32) (s : State) → AreRegisters s.registers → IsGeneral r
    → byte_of (low_byte r) s ≡ word_of r s % 256
low-byte-is Eax s h general = first-byte 0 s.registers (h.below 0)
low-byte-is Ecx s h general = first-byte 4 s.registers (h.below 4)
low-byte-is Edx s h general = first-byte 8 s.registers (h.below 8)
low-byte-is Ebx s h general = first-byte 12 s.registers (h.below 12)
low-byte-is Esp s h general = absurd general
low-byte-is Ebp s h general = absurd general
low-byte-is Esi s h general = absurd general
low-byte-is Edi s h general = absurd general

-- where a byte of a register stands
pub byte-at : (r : Reg8) → (byte_place r ≡ 4 * (number8 r % 4)) ⊎ (byte_place r ≡ 4 * (number8 r % 4) + 1)
byte-at Al = inl refl
byte-at Cl = inl refl
byte-at Dl = inl refl
byte-at Bl = inl refl
byte-at Ah = inr refl
byte-at Ch = inr refl
byte-at Dh = inr refl
byte-at Bh = inr refl

-- it is outside every other register
pub byte-outside : (t : Reg32) (r : Reg8) → number8 r % 4 ≢ number32 t → OutsideWord t (byte_place r)
byte-outside t r other = apart (byte_place r) (number8 r % 4) (number32 t) (byte-at r) other
  where
    apart : (b n m : ℕ) → (b ≡ 4 * n) ⊎ (b ≡ 4 * n + 1) → n ≢ m → (b < 4 * m) ⊎ (4 * m + 4 ≤ b)
    apart b n m (inl e) other = grind (arith, other)
    apart b n m (inr e) other = grind (arith, other)
