-- CMP of two places, and rows that end with a condition.
use Rattle.std.proofs.Common.{◌≡◌, ℕ, [], ◌∷◌}
use Rattle.std.proofs.Common.{Some, Ok, refl, ap, subst, arith}
use Rattle.std.specs.Prelude.{Result}
use Rattle.pcc_base.specs.Outcome.{End}
use Rattle.pcc_base.specs.declared.run.Width.TheVariants.{Two}
use Rattle.ia32_insn.specs.declared.register_names.Reg32.{Reg32}
use Rattle.ia32_insn.specs.declared.register_names.Reg32.TheVariants.{Ebp, Esi}
use Rattle.ia32_insn.specs.Places.{Place, InWord, InByte, InSlot}
use Rattle.ia32_insn.specs.declared.operand.Rm32.TheVariants as rm
use Rattle.ia32_insn.specs.declared.insn.AluOp.TheVariants as alu
use Rattle.ia32_insn.specs.declared.insn.Insn.{Insn}
use Rattle.ia32_insn.specs.declared.insn.Insn.TheVariants as insn
use Rattle.ia32_insn.specs.State.{State, at_address}
use Rattle.ia32_insn.specs.Arithmetic.{alu_flags}
use Rattle.ia32_insn.specs.Meaning.{address_of, and_then, effect, operate as operates_on, with_flags, word_of}
use Rattle.ia32_insn.specs.Items.{plain}
use Rattle.ia32_rows.specs.Placements.{below}
use Rattle.ia32_rows.specs.Sites.{Anywhere, Framed, Site, SoundAt}
use Rattle.ia32_rows.proofs.Sound.{load-same, sound-with_flags}
use Rattle.ia32_rows.specs.Rows.{operate, read}
use Rattle.ia32_rows.specs.Effects.{IsStraight, Makes, OutsideWord}
use Rattle.ia32_rows.specs.Contains.{Contains, HoldsWord, IsPlaceIn}
use Rattle.ia32_rows.proofs.Kept.{contains-kept, keeps-then, other-cells}
use Rattle.ia32_rows.proofs.Instructions.{below-loaded}
use Rattle.ia32_rows.proofs.Moves.{read-gives}
use Rattle.ia32_rows.proofs.Straight.{leads-join}
use Rattle.ia32_rows.proofs.Sums.{esi-works}
use Rattle.ia32_laws.specs.CoresLaws.{Compares, PlacesCompare}

-- ---- one instruction

-- the state with the flags of CMP
abbrev pub with_compared : ℕ → ℕ → State → State
with_compared x y s = with_flags (Some (alu_flags alu.Cmp x y)) s

-- flags alone change
compared-is : (site : Site) (frame : ℕ) (i : Insn) (x y : ℕ) (s : State) → Framed site frame s
    → Makes site i s (with_compared x y s)
    → (u : State) × Compares site frame (plain i ∷ []) x y s u
compared-is site frame i x y s framed makes =
    let u : State = with_compared x y s in (
      u,
      record {
        leads = (u, makes, refl);
        framed = record { sound = makes.sound; esp = framed.esp; room = framed.room; top = framed.top };
        flags = refl;
        keeps = record {
          cells = λ k r. refl;
          loads = λ n a w k e. load-same n a w s u refl e;
          left = refl;
          taken = refl;
          written = refl;
        };
      },
    )

compared-makes : (site : Site) (i : Insn) (x y : ℕ) (s : State) → SoundAt site s → IsStraight i
    → ((address : ℕ) → effect i 0 (at_address address s) ≡ Ok (at_address address (with_compared x y s)))
    → Makes site i s (with_compared x y s)
compared-makes site i x y s sound straight does =
    record {
      straight = straight;
      does = does;
      sound = sound-with_flags site.text site.low site.high (Some (alu_flags alu.Cmp x y)) s sound;
    }

-- a register and a place
register-compares : (site : Site) (frame : ℕ) (t : Reg32) (p : Place) (x y : ℕ) (s : State) → Framed site frame s
    → HoldsWord p → IsPlaceIn frame p → word_of t s ≡ x → Contains s Two p y
    → (u : State) × Compares site frame (operate alu.Cmp t p) x y s u
register-compares site frame t (InWord r) x y s framed holds placed is contains =
    let i : Insn = insn.Alu alu.Cmp (rm.Reg t) r in
    compared-is site frame i x y s framed
    (subst (λ (a : ℕ). Makes site i s (with_compared a y s)) is
    (subst (λ (b : ℕ). Makes site i s (with_compared (word_of t s) b s)) contains
    (compared-makes site i (word_of t s) (word_of r s) s framed.sound tt (λ address. refl))))
register-compares site frame t (InByte r) x y s framed holds placed is contains = absurd holds
register-compares site frame t (InSlot k) x y s framed holds placed is contains =
    let low = placed.low in
    let i : Insn = insn.AluLoad alu.Cmp t (below k) in
    let loaded = below-loaded site frame k 4 y s framed (omega arith) placed.high contains in
    compared-is site frame i x y s framed
    (subst (λ (a : ℕ). Makes site i s (with_compared a y s)) is
    (compared-makes site i (word_of t s) y s framed.sound tt
    (λ address. ap (λ (v : Result ℕ End). and_then v
    (λ value. operates_on alu.Cmp (rm.Reg t) value (at_address address s)))
    (load-same 4 (address_of (below k) s) y s (at_address address s) refl loaded))))

-- a place in memory and a register
memory-compares : (site : Site) (frame k : ℕ) (r : Reg32) (x y : ℕ) (s : State) → Framed site frame s
    → IsPlaceIn frame (InSlot k) → Contains s Two (InSlot k) x → word_of r s ≡ y
    → (u : State) × Compares site frame (plain (insn.Alu alu.Cmp (rm.Mem (below k)) r) ∷ []) x y s u
memory-compares site frame k r x y s framed placed contains is =
    let low = placed.low in
    let i : Insn = insn.Alu alu.Cmp (rm.Mem (below k)) r in
    let loaded = below-loaded site frame k 4 x s framed (omega arith) placed.high contains in
    compared-is site frame i x y s framed
    (subst (λ (b : ℕ). Makes site i s (with_compared x b s)) is
    (compared-makes site i x (word_of r s) s framed.sound tt
    (λ address. ap (λ (v : Result ℕ End). and_then v
    (λ a. let done : Result State End = Ok (with_compared a (word_of r s) (at_address address s)) in done))
    (load-same 4 (address_of (below k) s) x s (at_address address s) refl loaded))))

-- ---- two places

pub places-compare : PlacesCompare
places-compare site frame (InWord q) r x y s framed a a_placed b b_placed one two fits =
    register-compares site frame q r x y s framed b b_placed one two
places-compare site frame (InByte q) r x y s framed a a_placed b b_placed one two fits = absurd a
places-compare site frame (InSlot k) (InByte r) x y s framed a a_placed b b_placed one two fits = absurd b
places-compare site frame (InSlot k) (InWord r) x y s framed a a_placed b b_placed one two fits =
    memory-compares site frame k r x y s framed a_placed one two
places-compare site frame (InSlot k) (InSlot j) x y s framed a a_placed b b_placed one two fits =
    let first = read-gives site frame Esi (InSlot k) x s framed esi-works a a_placed one fits in
    let m : State = first.0 in
    let there : Contains m Two (InSlot j) y = contains-kept (OutsideWord Esi) Anywhere s m Two (InSlot j) y
    first.1.keeps (other-cells Ebp Esi (λ e. omega arith)) tt (tt, tt) two in
    let second = register-compares site frame Esi (InSlot j) x y m first.1.framed b b_placed first.1.value there in
    let u : State = second.0 in (
      u,
      record {
        leads = leads-join site (read Esi (InSlot k)) (operate alu.Cmp Esi (InSlot j)) s m u first.1.leads
            second.1.leads;
        framed = second.1.framed;
        flags = second.1.flags;
        keeps = keeps-then (OutsideWord Esi) Anywhere s m u first.1.keeps second.1.keeps;
      },
    )
