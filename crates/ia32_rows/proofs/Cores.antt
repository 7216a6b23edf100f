-- Rows over slots: a number, a copy, and an operation on two words.
use Rattle.std.proofs.Common.{◌≡◌, ℕ, ◌-◌, ◌^◌, ◌<◌, ℤ, List, ◌∷◌, Ok, sym, ap, subst, arith}
use Rattle.std.specs.Int.{w32, cast_unsigned}
use Rattle.ia32_insn.specs.declared.register_names.Reg32.{Reg32}
use Rattle.ia32_insn.specs.declared.register_names.Reg32.TheVariants.{Ebp, Esi}
use Rattle.ia32_insn.specs.declared.operand.Rm32.TheVariants as rm
use Rattle.ia32_insn.specs.declared.insn.AluOp.{AluOp}
use Rattle.ia32_insn.specs.declared.insn.Insn.TheVariants as insn
use Rattle.ia32_insn.specs.declared.item.Item.{Item}
use Rattle.ia32_insn.specs.declared.item.Item.TheVariants as item
use Rattle.ia32_insn.specs.State.{State}
use Rattle.ia32_insn.specs.Arithmetic.{alu_value}
use Rattle.ia32_insn.specs.Meaning.{load, word_of}
use Rattle.ia32_insn.specs.Keeps.{AreDisjoint}
use Rattle.ia32_rows.specs.Placements.{below}
use Rattle.ia32_rows.proofs.Frames.{went-then, went-stricter, load-went, store-went, number-stored, operation-went}
use Rattle.ia32_rows.proofs.Frames.{Operates}
use Rattle.ia32_rows.specs.Sites.{Site, ReadyAt, Framed, Went, IsInFrame, Anywhere, ApartFrom}

-- a row that wrote a word to a slot
pub record Wrote (site : Site) (frame : ℕ) (items : List Item) (slot word : ℕ) (out : List ℕ) (s u : State) : Type 0
  where
    pub went : Went site frame items (ApartFrom slot) out s u
    pub same : load 4 slot u ≡ Ok word

-- a register's word to a slot, after the machine came to that
pub write-ends : (site : Site) (frame : ℕ) (items : List Item) (r : Reg32) (distance v : ℕ) (out : List ℕ) (s t : State)
    → IsInFrame frame distance → Went site frame (item.Plain (insn.Mov (rm.Mem (below distance)) r) ∷ items) Anywhere
    out s t → word_of r t ≡ v
    → (u : State) × Wrote site frame items (word_of Ebp s - distance) v out s u
write-ends site frame items r distance v out s t inside went value =
    let low = inside.low in
    let slot : ℕ = word_of Ebp s - distance in
    let same : word_of Ebp t - distance ≡ slot = ap (λ (k : ℕ). k - distance) went.ebp in
    let stored = store-went site frame items (ApartFrom slot) r distance v t went.framed went.ready (omega arith)
    inside.high value (λ n b k. subst (λ (a : ℕ). AreDisjoint a 4 b n) (sym same) k) in
    let first = went-stricter site frame (item.Plain (insn.Mov (rm.Mem (below distance)) r) ∷ items) Anywhere
    (ApartFrom slot) out s t (λ b n k. tt) went in
    let second = subst (λ (o : List ℕ). Went site frame items (ApartFrom slot) o t stored.0) went.written stored.1 in (
      stored.0,
      record {
        went = went-then site frame (item.Plain (insn.Mov (rm.Mem (below distance)) r) ∷ items) items (ApartFrom slot)
            out out s t stored.0 first second;
        same = subst (λ (a : ℕ). load 4 a stored.0 ≡ Ok v) same stored.2;
      },
    )

pub const-row : (site : Site) (frame : ℕ) (back : List Item) (n : ℤ) (d : ℕ) (s : State) → Framed site frame s
    → ReadyAt site (item.Plain (insn.MovImm (rm.Mem (below d)) n) ∷ back) s → IsInFrame frame d
    → cast_unsigned w32 n < 2 ^ 32
    → (u : State) × Wrote site frame back (word_of Ebp s - d) (cast_unsigned w32 n) s.written s u
const-row site frame back n d s framed ready inside fits =
    let low = inside.low in
    let slot : ℕ = word_of Ebp s - d in
    let stored = number-stored site frame back (ApartFrom slot) n d s framed ready (omega arith) inside.high fits
    (λ n b k. k) in
    (stored.0, record { went = stored.1; same = stored.2 })

pub copy-row : (site : Site) (frame : ℕ) (back : List Item) (a d x : ℕ) (s : State) → Framed site frame s
    → ReadyAt site (item.Plain (insn.MovLoad Esi (below a)) ∷ item.Plain (insn.Mov (rm.Mem (below d)) Esi) ∷ back) s
    → IsInFrame frame a → IsInFrame frame d → load 4 (word_of Ebp s - a) s ≡ Ok x → x < 2 ^ 32 → (u : State)
    × Wrote site frame back (word_of Ebp s - d) x s.written s u
copy-row site frame back a d x s framed ready source inside held fits =
    let rest : List Item = item.Plain (insn.Mov (rm.Mem (below d)) Esi) ∷ back in
    let low = source.low in
    let one = load-went site frame rest Anywhere Esi a x s framed ready (λ e. omega arith) (λ e. omega arith)
    (omega arith) source.high held fits in
    write-ends site frame back Esi d x s.written s one.0 inside one.1 one.2.value

pub operation-row : (site : Site) (frame : ℕ) (back : List Item) (op : AluOp) (a b d x y : ℕ) (s : State)
    → Framed site frame s
    → ReadyAt site (item.Plain (insn.MovLoad Esi (below a)) ∷ item.Plain (insn.AluLoad op Esi (below b))
    ∷ item.Plain (insn.Mov (rm.Mem (below d)) Esi) ∷ back) s
    → IsInFrame frame a → IsInFrame frame b → IsInFrame frame d → load 4 (word_of Ebp s - a) s ≡ Ok x
    → load 4 (word_of Ebp s - b) s ≡ Ok y → x < 2 ^ 32 → alu_value op x y < 2 ^ 32
    → ((t : State) → Operates op Esi t)
    → (u : State) × Wrote site frame back (word_of Ebp s - d) (alu_value op x y) s.written s u
operation-row site frame back op a b d x y s framed ready first second inside held other x_fits fits does =
    let two : List Item = item.Plain (insn.Mov (rm.Mem (below d)) Esi) ∷ back in
    let one : List Item = item.Plain (insn.AluLoad op Esi (below b)) ∷ two in
    let a_low = first.low in
    let b_low = second.low in
    let p = load-went site frame one Anywhere Esi a x s framed ready (λ e. omega arith) (λ e. omega arith) (omega arith)
    first.high held x_fits in
    let t : State = p.0 in
    let there : load 4 (word_of Ebp t - b) t ≡ Ok y =
    subst (λ (k : ℕ). load 4 (k - b) t ≡ Ok y) (sym p.1.ebp) (p.1.kept 4 (word_of Ebp s - b) y tt other) in
    let q = operation-went site frame two Anywhere op Esi b x y t p.1.framed p.1.ready (λ e. omega arith)
    (λ e. omega arith) (omega arith) second.high (does t) p.2.value there fits in
    let all = went-then site frame one two Anywhere s.written t.written s t q.0 p.1 q.1 in
    write-ends site frame back Esi d (alu_value op x y) s.written s q.0 inside
    (subst (λ (o : List ℕ). Went site frame two Anywhere o s q.0) p.1.written all) q.2.value
