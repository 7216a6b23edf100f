-- Lines that are added one after another.
use Rattle.std.proofs.Common.{◌≡◌, ℕ, suc, ◌+◌, List, [], ◌∷◌, ◌++◌, sym, ap, ◌∙◌, arith, append_assoc, subst}
use Rattle.std.proofs.Common.{Option, Some, None, pos}
use Rattle.flow_graph.specs.declared.op.Op.TheVariants as op
use Rattle.std.specs.Prelude.{Bool}
use Rattle.std.proofs.lemmas.List.{append-nil}
use Rattle.lower_builder.specs.Built.{Built, Adds}
use Rattle.lower_lines.specs.Lines.{Line, Start, Emit}
use Rattle.lower_lines.specs.Parts.{Wanted, Own, Part, if_stays, operand, standing, target, truth}
use Rattle.lower_lines.specs.Variables.{Context, Spot, own}
use Rattle.lower_builder.specs.Views.{AddsOperand, AddsPart, truth_end}

-- blocks alone
pub taken : (s t : Built) (k : ℕ) → t.lines ≡ s.lines → t.next ≡ s.next + k → Adds s t k []
taken s t k lines next = record { lines = lines ∙ sym (append-nil s.lines); next = next }

-- lines behind others; they begin with the first block that those don't take
pub two : {s t u : Built} {m n : ℕ} {xs : List Line} (ys : ℕ → List Line) → Adds s t m xs → Adds t u n (ys t.next)
    → Adds s u (m + n) (xs ++ ys (s.next + m))
two {s} {t} {u} {m} {n} {xs} ys a b =
    let sum : s.next + m + n ≡ s.next + (m + n) = omega arith in
    record {
      lines = b.lines ∙ ap (λ (ls : List Line). ls ++ ys t.next) a.lines ∙ append_assoc s.lines xs (ys t.next)
          ∙ ap (λ (k : ℕ). s.lines ++ (xs ++ ys k)) a.next;
      next = b.next ∙ ap (λ (k : ℕ). k + n) a.next ∙ sum;
    }

-- as many blocks
pub counted : {s t : Built} {m n : ℕ} {xs : List Line} → m ≡ n → Adds s t m xs → Adds s t n xs
counted {s} {t} {m} {n} {xs} e a = subst (λ (k : ℕ). Adds s t k xs) e a

-- the same lines
pub lined : {s t : Built} {m : ℕ} {xs ys : List Line} → xs ≡ ys → Adds s t m xs → Adds s t m ys
lined {s} {t} {m} {xs} {ys} e a = subst (λ (zs : List Line). Adds s t m zs) e a

-- nothing at all
pub nothing : (s : Built) → Adds s s 0 []
nothing s = let none : s.next ≡ s.next + 0 = omega arith in record { lines = sym (append-nil s.lines); next = none }

-- three blocks, a test, and what makes a truth value of it
pub truth-whole : (c : Context) (level : ℕ) (w : Wanted) (test : ℕ → ℕ → ℕ → List Line) (n : ℕ) {s t u v : Built}
    (block second : ℕ) → block ≡ s.next → second ≡ block + 1 → t.lines ≡ s.lines → t.next ≡ s.next + 3
    → Adds t u n (test t.next block second) → Adds u v 0 (truth_end c block level w)
    → Adds s v (3 + n) (truth c s.next level w test)
truth-whole c level w test n {s} {t} {u} {v} block second first next lines taken' a b =
    let plain : 3 + (n + 0) ≡ 3 + n = omega arith in
    let behind : second ≡ suc s.next = omega (arith, first, next) in
    let E = truth_end c block level w in
    let whole : Adds s v (3 + (n + 0)) ([] ++ (test (s.next + 3) block second ++ E)) =
    two {xs = []} (λ k. test k block second ++ E) (taken s t 3 lines taken')
    (two {xs = test t.next block second} (λ k. E) a b) in
    counted plain (lined (ap (λ (k : ℕ). test (s.next + 3) k second ++ truth_end c k level w) first
    ∙ ap (λ (k : ℕ). test (s.next + 3) s.next k ++ truth_end c s.next level w) behind) whole)

-- both ways to a truth value, and what is behind them
pub end-whole : (c : Context) (level : ℕ) (w : Wanted) (block second behind : ℕ) (x : Spot) {s t u v : Built}
    → second ≡ block + 1 → behind ≡ block + 2 → x ≡ target c level w
    → Adds s t 0 (Start block ∷ Emit (op.Const x.number (pos 1)) ∷ Emit (op.Jump behind) ∷ [])
    → Adds t u 0 (Start second ∷ Emit (op.Const x.number (pos 0)) ∷ Emit (op.Jump behind) ∷ [])
    → Adds u v 0 (Start behind ∷ []) → Adds s v 0 (truth_end c block level w)
end-whole c level w block second behind x {s} {t} {u} {v} next last to a b d =
    let after : second ≡ suc block = omega (arith, next) in
    let shape : ℕ → ℕ → Spot → List Line = λ i j y. Start block ∷ Emit (op.Const y.number (pos 1)) ∷ Emit (op.Jump j)
    ∷ Start i ∷ Emit (op.Const y.number (pos 0)) ∷ Emit (op.Jump j) ∷ Start j ∷ [] in
    let none : 0 + (0 + 0) ≡ 0 = omega arith in
    counted none (lined (ap (λ i. shape i behind x) after ∙ ap (λ j. shape (suc block) j x) last
    ∙ ap (shape (suc block) (block + 2)) to)
    (two (λ n. Start second ∷ Emit (op.Const x.number (pos 0)) ∷ Emit (op.Jump behind) ∷ Start behind ∷ []) a
    (two (λ n. Start behind ∷ []) b d)))

-- ---- operands

pub operand-none : (c : Context) (stays : Bool) (a : Part) (level : ℕ) {s t : Built} → if_stays stays a.stands ≡ None
    → AddsPart a level Own s t → AddsOperand (operand c stays a) level s t
operand-none c stays a level {s} {t} e h =
    subst (λ (o : Option Spot). AddsOperand (standing c a o) level s t) (sym e) h

pub operand-none-spot : (c : Context) (stays : Bool) (a : Part) (level : ℕ) → if_stays stays a.stands ≡ None
    → own c level ≡ (operand c stays a).spot level
operand-none-spot c stays a level e = ap (λ (o : Option Spot). (standing c a o).spot level) (sym e)

pub operand-some : (c : Context) (stays : Bool) (a : Part) (level : ℕ) (spot : Spot) (s : Built)
    → if_stays stays a.stands ≡ Some spot → AddsOperand (operand c stays a) level s s
operand-some c stays a level spot s e =
    subst (λ (o : Option Spot). AddsOperand (standing c a o) level s s) (sym e) (nothing s)

pub operand-some-spot : (c : Context) (stays : Bool) (a : Part) (level : ℕ) (spot : Spot)
    → if_stays stays a.stands ≡ Some spot → spot ≡ (operand c stays a).spot level
operand-some-spot c stays a level spot e = ap (λ (o : Option Spot). (standing c a o).spot level) (sym e)
