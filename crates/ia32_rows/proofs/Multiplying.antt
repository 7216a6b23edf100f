-- Rows of products.
use Rattle.std.proofs.Common.{◌≡◌, ℕ, ◌%◌, ◌^◌, ◌<◌, ◌≤◌, true, false, None}
use Rattle.std.proofs.Common.{Ok, refl, ap, subst, arith}
use Rattle.std.specs.Prelude.{Result}
use Rattle.std.proofs.Math.Nat.{mul_comm}
use Rattle.pcc_base.specs.Outcome.{End}
use Rattle.pcc_base.specs.declared.run.Width.TheVariants.{Two}
use Rattle.ia32_insn.specs.declared.register_names.Reg32.{Reg32}
use Rattle.ia32_insn.specs.Places.{Place, InWord, InByte, InSlot}
use Rattle.ia32_insn.specs.declared.operand.Rm32.TheVariants as rm
use Rattle.ia32_insn.specs.declared.insn.Insn.TheVariants as insn
use Rattle.ia32_insn.specs.State.{State, at_address}
use Rattle.ia32_insn.specs.Arithmetic.{product}
use Rattle.ia32_insn.specs.Meaning.{and_then, address_of, word_of, with_flags, with_word}
use Rattle.ia32_rows.specs.Placements.{below}
use Rattle.ia32_rows.specs.Sites.{Site, Framed}
use Rattle.ia32_rows.proofs.Frames.{with_result}
use Rattle.ia32_rows.proofs.Sound.{load-same, word-below}
use Rattle.ia32_rows.specs.Rows.{is_in, multiply, product_of, target_of}
use Rattle.ia32_rows.specs.Effects.{Makes}
use Rattle.ia32_rows.specs.Contains.{Contains, HoldsWord, IsPlaceIn}
use Rattle.ia32_rows.specs.Laws.{Gives, IsWorking, Puts}
use Rattle.ia32_rows.specs.Products.{ProductPuts}
use Rattle.ia32_rows.proofs.Instructions.{below-loaded, result-makes}
use Rattle.ia32_rows.proofs.Sums.{either-puts, working-puts}
use Rattle.ia32_rows.proofs.Unary.{gives-flagged}

-- a product in a register
multiply-gives : (site : Site) (frame : ℕ) (t : Reg32) (p : Place) (x y : ℕ) (s : State) → Framed site frame s
    → IsWorking t → HoldsWord p → IsPlaceIn frame p → word_of t s ≡ x → Contains s Two p y
    → (u : State) × Gives site frame (multiply t p) t (product x y) s u
multiply-gives site frame t (InWord r) x y s framed works holds placed is contains =
    let made : Makes site (insn.IMul t (rm.Reg r)) s (with_result t (product (word_of t s) (word_of r s)) None s) =
    record {
      straight = tt;
      does = λ address. refl;
      sound = result-makes site t (product (word_of t s) (word_of r s)) None s framed.sound;
    } in
    gives-flagged site frame (insn.IMul t (rm.Reg r)) t (product x y) None s framed works (omega arith)
    (subst (λ (a : ℕ). Makes site (insn.IMul t (rm.Reg r)) s (with_result t (product a y) None s)) is
    (subst (λ (b : ℕ). Makes site (insn.IMul t (rm.Reg r)) s (with_result t (product (word_of t s) b) None s)) contains
    made))
multiply-gives site frame t (InByte r) x y s framed works holds placed is contains = absurd holds
multiply-gives site frame t (InSlot k) x y s framed works holds placed is contains =
    let low = placed.low in
    let loaded = below-loaded site frame k 4 y s framed (omega arith) placed.high contains in
    let made : Makes site (insn.IMul t (rm.Mem (below k))) s (with_result t (product (word_of t s) y) None s) = record {
      straight = tt;
      does = λ address. ap (λ (z : Result ℕ End). and_then z
          (λ value. let q : Result State End = Ok (with_flags None (with_word t (product (word_of t s) value)
          (at_address address s))) in q))
          (load-same 4 (address_of (below k) s) y s (at_address address s) refl loaded);
      sound = result-makes site t (product (word_of t s) y) None s framed.sound;
    } in
    gives-flagged site frame (insn.IMul t (rm.Mem (below k))) t (product x y) None s framed works (omega arith)
    (subst (λ (a : ℕ). Makes site (insn.IMul t (rm.Mem (below k))) s (with_result t (product a y) None s)) is made)

-- a word in this register is one
fits-there : (site : Site) (frame : ℕ) (t : Reg32) (r : Place) (y : ℕ) (s : State) → Framed site frame s → HoldsWord r
    → is_in t r ≡ true → Contains s Two r y → y < 2 ^ 32
fits-there site frame t (InWord q) y s framed holds e contains =
    subst (λ (v : ℕ). v < 2 ^ 32) contains (word-below site.text site.low site.high q s framed.sound)
fits-there site frame t (InByte q) y s framed holds e contains = absurd holds
fits-there site frame t (InSlot k) y s framed holds e contains = absurd (let no : false ≡ true = e in cc)

-- the product of two words, as they stand
ordered-puts : (site : Site) (frame : ℕ) (p q r : Place) (x y : ℕ) (s : State) → Framed site frame s → 16 ≤ frame
    → IsPlaceIn frame p → HoldsWord q → IsPlaceIn frame q → HoldsWord r → IsPlaceIn frame r → Contains s Two q x
    → Contains s Two r y → x < 2 ^ 32 → (u : State) × Puts site frame (product_of p q r) p (product x y) s u
ordered-puts site frame p q r x y s framed room to a a_placed b b_placed one two fits =
    working-puts site frame multiply p q r x y (product x y) s framed room
    (λ t m framed_m works is there. multiply-gives site frame t r x y m framed_m works b b_placed is there)
    to a a_placed b b_placed one two fits

pub product-puts : ProductPuts
product-puts site frame p q r x y s framed room to a a_placed b b_placed one two fits =
    either-puts site frame (product_of p r q) (product_of p q r) p (product x y) s (is_in (target_of p) r)
    (λ e. subst (λ (n : ℕ). (u : State) × Puts site frame (product_of p r q) p (n % 2 ^ 32) s u) (mul_comm y x)
    (ordered-puts site frame p r q y x s framed room to b b_placed a a_placed two one
    (fits-there site frame (target_of p) r y s framed b e two)))
    (λ e. ordered-puts site frame p q r x y s framed room to a a_placed b b_placed one two fits)
