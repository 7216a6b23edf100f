-- Lines that are added one after another.
use Rattle.std.proofs.Common.{◌≡◌, ℕ, ◌+◌, List, [], ◌∷◌, ◌++◌, ap, ◌∙◌, arith, append_assoc, subst}
use Rattle.std.proofs.Common.{pos}
use Rattle.std.specs.Prelude.{ℤ}
use Rattle.c_tree.specs.declared.types.IntegerType.{IntegerType}
use Rattle.flow_graph.specs.declared.op.Op.TheVariants as op
use Rattle.lower_builder.specs.Built.{Built, Adds}
use Rattle.lower_lines.specs.Lines.{Line, Emit}
use Rattle.lower_lines.specs.Statements.{text_count}
use Rattle.lower_lines.specs.Variables.{Context, ForArray, ForNumber, ForScratch, temporary}
use Rattle.lower_expressions.specs.Copies.{copy_lines, text_lines}

-- lines that take no blocks keep the first one that isn't taken
pub same-next : {s t : Built} {xs : List Line} → Adds s t 0 xs → t.next ≡ s.next
same-next {s} {t} {xs} a = let plain : s.next + 0 ≡ s.next = omega arith in a.next ∙ plain

-- lines behind some that take no blocks
pub next-to : {s t u : Built} {n : ℕ} {xs : List Line} (ys : ℕ → List Line) → Adds s t 0 xs → Adds t u n (ys t.next)
    → Adds s u n (xs ++ ys s.next)
next-to {s} {t} {u} {n} {xs} ys a b = record {
  lines = b.lines ∙ ap (λ (ls : List Line). ls ++ ys t.next) a.lines ∙ append_assoc s.lines xs (ys t.next)
      ∙ ap (λ (k : ℕ). s.lines ++ (xs ++ ys k)) (same-next a);
  next = b.next ∙ ap (λ (k : ℕ). k + n) (same-next a);
}

-- lines that take no blocks, behind others
pub behind : {s t u : Built} {n : ℕ} {xs : List Line} (ys : List Line) → Adds s t n xs → Adds t u 0 ys
    → Adds s u n (xs ++ ys)
behind {s} {t} {u} {n} {xs} ys a b = record {
  lines = b.lines ∙ ap (λ (ls : List Line). ls ++ ys) a.lines ∙ append_assoc s.lines xs ys;
  next = same-next b ∙ a.next;
}

-- ---- strings

pub three-numbers : (x y z : ℕ) (n m : ℤ) (a b d : ℕ) {s t u v : Built} → m ≡ n → a ≡ x → b ≡ y → d ≡ z
    → Adds s t 0 (Emit (op.Const a (pos 0)) ∷ []) → Adds t u 0 (Emit (op.Const b m) ∷ [])
    → Adds u v 0 (Emit (op.Const d (pos 1)) ∷ [])
    → Adds s v 0 (Emit (op.Const x (pos 0)) ∷ Emit (op.Const y n) ∷ Emit (op.Const z (pos 1)) ∷ [])
three-numbers x y z n m a b d {s} {t} {u} {v} en ea eb ed p q r =
    let C : ℕ → ℕ → ℕ → List Line = λ i j k. Emit (op.Const i (pos 0)) ∷ Emit (op.Const j n)
    ∷ Emit (op.Const k (pos 1)) ∷ [] in
    let whole : Adds s v 0 (C a b d) = behind (Emit (op.Const d (pos 1)) ∷ []) (behind (Emit (op.Const b n) ∷ []) p
    (subst (λ (k : ℤ). Adds t u 0 (Emit (op.Const b k) ∷ [])) en q)) r in
    subst (λ (ls : List Line). Adds s v 0 ls) (ap (λ i. C i b d) ea ∙ ap (λ j. C x j d) eb ∙ ap (λ k. C x y k) ed)
    whole

pub text-whole : (c : Context) (k : ℕ) (t : IntegerType) (object : ℕ) (n m : ℤ) (from : ℕ) {s u v w : Built}
    → m ≡ n → n ≡ pos (text_count c k object) → from ≡ temporary c 1 ForArray
    → Adds s u 0 (Emit (op.Static from object) ∷ [])
    → Adds u v 0 (Emit (op.Const (temporary c 0 ForNumber) (pos 0)) ∷ Emit (op.Const (temporary c 1 ForNumber) m)
    ∷ Emit (op.Const (temporary c 0 ForScratch) (pos 1)) ∷ [])
    → Adds v w 2 (copy_lines c t v.next) → Adds s w 2 (text_lines c k t object s.next)
text-whole c k t object n m from {s} {u} {v} {w} en is at p q r =
    let C : ℤ → List Line = λ z. Emit (op.Const (temporary c 0 ForNumber) (pos 0))
    ∷ Emit (op.Const (temporary c 1 ForNumber) z) ∷ Emit (op.Const (temporary c 0 ForScratch) (pos 1)) ∷ [] in
    let whole : Adds s w 2 (Emit (op.Static from object) ∷ (C n ++ copy_lines c t s.next)) =
    next-to (λ i. C n ++ copy_lines c t i) p (next-to (λ i. copy_lines c t i)
    (subst (λ (z : ℤ). Adds u v 0 (C z)) en q) r) in
    subst (λ (ls : List Line). Adds s w 2 ls)
    (ap (λ z. Emit (op.Static from object) ∷ (C z ++ copy_lines c t s.next)) is
    ∙ ap (λ i. Emit (op.Static i object) ∷ (C (pos (text_count c k object)) ++ copy_lines c t s.next)) at) whole
