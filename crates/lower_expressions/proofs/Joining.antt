-- The lines of `?:`, and of assignments to static objects and calls, from those of their parts.
use Rattle.std.proofs.Common.{◌≡◌, ℕ, zero, suc, ◌+◌, List, [], ◌∷◌, ◌++◌, refl, sym, ap, ◌∙◌, arith, subst}
use Rattle.std.proofs.Common.{append_assoc}
use Rattle.std.proofs.Common.{true, false, Option, Some, None, drop}
use Rattle.std.specs.Prelude.{Bool, ◌&&◌}
use Rattle.c_tree.specs.declared.expression.Expression as built
use Rattle.c_tree.specs.declared.types.IntegerType.{IntegerType}
use Rattle.c_tree.specs.declared.types.ValueType.{ValueType}
use Rattle.c_tree.specs.declared.types.ValueType.TheVariants.{Void, Integer, Pointer}
use Rattle.c_tree.specs.Erased.{expression_of}
use Rattle.c_tree.specs.Program.{Local}
use Rattle.flow_graph.specs.declared.op.Op.TheVariants as op
use Rattle.lower_builder.specs.Built.{Built, Adds}
use Rattle.lower_lines.specs.Expressions.{AtObject, all_passed}
use Rattle.lower_lines.specs.Expressions.{assign_part, assigned_object, conditional_part, joined, joins}
use Rattle.lower_lines.specs.Expressions.{own_blocks, part_of, parts_of, test_blocks_of}
use Rattle.lower_lines.specs.Lines.{Line, Start, Emit}
use Rattle.lower_lines.specs.Parts.{Wanted, Tests, Part, as_pointer, bits_of, converted_lines, if_stays, in_type}
use Rattle.lower_lines.specs.Parts.{operand}
use Rattle.lower_lines.specs.Variables.{Context, Spot}
use Rattle.lower_builder.specs.MoveViews.{plain}
use Rattle.lower_builder.specs.Views.{AddsOperand, AddsPart}
use Rattle.lower_builder.proofs.Joined.{counted, lined, taken, two}
use Rattle.lower_expressions.specs.Kinds.{number_type}
use Rattle.lower_builder.specs.Arguments.{passed_type}
use Rattle.lower_expressions.specs.Rows.{arguments_list, parameter_type, passed_as}
use Rattle.lower_expressions.proofs.Naming.{object-assigned}
use Rattle.lower_expressions.specs.Passing.{passed_from}
use Rattle.lower_expressions.proofs.Alike.{IsAlike}

-- ---- `?:`

-- behind the test; `b` begins with the first block that `a` doesn't take
pub conditional-at : (t a b : Part) (level : ℕ) (w : Wanted) (k first second behind : ℕ)
    {s s1 s2 s3 s4 s5 : Built} → s1.lines ≡ s.lines → s1.next ≡ s.next + k
    → AddsPart t level (Tests first second) s1 s2
    → Adds s2 s3 (a.blocks (plain w)) (Start first ∷ (a.lines s2.next level w ++ joined behind w))
    → Adds s3 s4 (b.blocks (plain w)) (Start second ∷ (b.lines s3.next level w ++ joined behind w))
    → Adds s4 s5 0 (joins behind w)
    → Adds s s5 (k + (test_blocks_of t + (a.blocks (plain w) + b.blocks (plain w))))
    (t.lines (s.next + k) level (Tests first second)
    ++ (Start first ∷ (a.lines (s.next + k + test_blocks_of t) level w ++ (joined behind w
    ++ (Start second ∷ (b.lines (s.next + k + test_blocks_of t + a.blocks (plain w)) level w
    ++ (joined behind w ++ joins behind w)))))))
conditional-at t a b level w k first second behind {s} {s1} {s2} {s3} {s4} {s5} lines next ht ha hb js =
    let J = joined behind w in
    let E = joins behind w in
    let count : b.blocks (plain w) + 0 ≡ b.blocks (plain w) = omega arith in
    let B : ℕ → List Line = λ n. Start second ∷ (b.lines n level w ++ (J ++ E)) in
    let e3 : Adds s3 s5 (b.blocks (plain w)) (B s3.next) =
    counted count (lined (ap (λ (ls : List Line). Start second ∷ ls) (append_assoc (b.lines s3.next level w) J E))
    (two (λ n. E) hb js)) in
    let A : ℕ → List Line = λ n. Start first ∷ (a.lines n level w ++ (J ++ B (n + a.blocks (plain w)))) in
    let e2 : Adds s2 s5 (a.blocks (plain w) + b.blocks (plain w)) (A s2.next) =
    lined (ap (λ (ls : List Line). Start first ∷ ls)
    (append_assoc (a.lines s2.next level w) J (B (s2.next + a.blocks (plain w))))) (two B ha e3) in
    two (λ n. t.lines n level (Tests first second) ++ A (n + test_blocks_of t)) (taken _ _ _ lines next)
    (two A ht e2)

pub conditional-whole : (c : Context) (of : ValueType) (t a b : Part) (level : ℕ) (w : Wanted)
    (k first second behind : ℕ) {s s1 s2 s3 s4 s5 : Built} → IsAlike (in_type c of a)
    → k ≡ own_blocks w → own_blocks w ≡ own_blocks (plain w) → first ≡ s.next → second ≡ first + 1
    → behind ≡ first + 2 → s1.lines ≡ s.lines → s1.next ≡ s.next + k
    → AddsPart t level (Tests first second) s1 s2
    → Adds s2 s3 ((in_type c of a).blocks (plain w))
    (Start first ∷ ((in_type c of a).lines s2.next level w ++ joined behind w))
    → Adds s3 s4 ((in_type c of b).blocks (plain w))
    (Start second ∷ ((in_type c of b).lines s3.next level w ++ joined behind w))
    → Adds s4 s5 0 (joins behind w)
    → AddsPart (conditional_part c of t a b) level w s s5
conditional-whole c of t a b level w k first second behind {s} {s1} {s2} {s3} {s4} {s5} alike own same is-first
    is-second is-behind lines next ht ha hb js =
    let x = in_type c of a in
    let y = in_type c of b in
    let n = s.next in
    let second' : second ≡ suc n = omega (arith, is-first, is-second) in
    let behind' : behind ≡ n + 2 = omega (arith, is-first, is-behind) in
    let shape : (k first second behind taken' : ℕ) → List Line = λ k first second behind taken'.
    t.lines (n + k) level (Tests first second) ++ (Start first ∷ (x.lines (n + k + test_blocks_of t) level w
    ++ (joined behind w ++ (Start second ∷ (y.lines (n + k + test_blocks_of t + taken') level w
    ++ (joined behind w ++ joins behind w)))))) in
    let whole = conditional-at t x y level w k first second behind lines next ht ha hb js in
    let count : k + (test_blocks_of t + (x.blocks (plain w) + y.blocks (plain w)))
    ≡ own_blocks (plain w) + test_blocks_of t + x.blocks (plain w) + y.blocks (plain w) =
    omega (arith, own, same) in
    counted count (lined (ap (λ i. shape i first second behind (x.blocks (plain w))) own
    ∙ ap (λ i. shape (own_blocks w) i second behind (x.blocks (plain w))) is-first
    ∙ ap (λ i. shape (own_blocks w) n i behind (x.blocks (plain w))) second'
    ∙ ap (λ i. shape (own_blocks w) n (suc n) i (x.blocks (plain w))) behind'
    ∙ ap (shape (own_blocks w) n (suc n) (n + 2)) (sym (alike.same w))) whole)

-- ---- assignments to static objects

pub assign-object : (c : Context) (of : ValueType) (t : IntegerType) (k : ℕ) (a : Part) (level : ℕ) (w : Wanted)
    (x : Spot) {s u v : Built} → t ≡ number_type of → AddsOperand (operand c true a) level s u
    → x ≡ (operand c true a).spot level
    → Adds u v 0 (Emit (op.Put (bits_of t) k x.number) ∷ converted_lines c u.next level w t x.number)
    → AddsPart (assign_part c of (AtObject k) a) level w s v
assign-object c of t k a level w x {s} {u} {v} te h e m =
    let X = operand c true a in
    let M : ℕ → Spot → List Line = λ n y. Emit (op.Put (bits_of t) k y.number)
    ∷ converted_lines c n level w t y.number in
    let m' : Adds u v 0 (M u.next (X.spot level)) = lined (ap (M u.next) e) m in
    let count : X.blocks + 0 ≡ X.blocks = omega arith in
    let whole : AddsPart (assigned_object c t k a) level w s v = counted count (two (λ n. M n (X.spot level)) h m') in
    subst (λ (p : Part). AddsPart p level w s v) (ap (λ i. assigned_object c i k a) te ∙ sym (object-assigned c of k a))
    whole

-- ---- where a local is used where it stands

pub stays-both : (s t : Bool) (o : Option Spot) → if_stays s (if_stays t o) ≡ if_stays (s && t) o
stays-both true true o = refl
stays-both true false o = refl
stays-both false true o = refl
stays-both false false o = refl

-- ---- arguments

-- the arguments from a place on are the one there, and those behind it
pub passed-there : (c : Context) (ls : List Local) (es : List built.Expression) (i : ℕ) (e : built.Expression)
    → drop i es ≡ e ∷ drop (i + 1) es
    → passed_from c ls es i
    ≡ passed_as c (parameter_type ls i) (part_of c (expression_of e)) ∷ passed_from c ls es (i + 1)
passed-there c ls es i e there =
    let one : suc i ≡ i + 1 = omega arith in
    ap (λ (xs : List built.Expression). all_passed c (drop i ls) (parts_of c (arguments_list xs))) there
    ∙ split ls i (part_of c (expression_of e)) (parts_of c (arguments_list (drop (i + 1) es)))
    ∙ ap (λ n. passed_as c (parameter_type ls i) (part_of c (expression_of e))
    ∷ all_passed c (drop n ls) (parts_of c (arguments_list (drop (i + 1) es)))) one
  where
    split : (ls : List Local) (i : ℕ) (a : Part) (rest : List Part) → all_passed c (drop i ls) (a ∷ rest)
        ≡ passed_as c (parameter_type ls i) a ∷ all_passed c (drop (suc i) ls) rest
    split [] zero a rest = refl
    split [] (suc i) a rest = refl
    split (l ∷ ls) zero a rest = refl
    split (l ∷ ls) (suc i) a rest = split ls i a rest

pub passed-is : (c : Context) (p : Option ValueType) (a : Part) → (passed_as c p a).of ≡ passed_type p a.of
passed-is c None a = refl
passed-is c (Some Void) a = refl
passed-is c (Some (Integer t)) a = refl
passed-is c (Some (Pointer t)) a = pointer a.of refl
  where
    pointer : (of : ValueType) → a.of ≡ of → (as_pointer c t of a).of ≡ passed_type (Some (Pointer t)) of
    pointer Void e = refl
    pointer (Integer u) e = refl
    pointer (Pointer u) e = e
