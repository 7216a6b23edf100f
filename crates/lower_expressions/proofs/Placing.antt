-- Places: what is found of them, and what is done there.
use Rattle.std.proofs.Common.{◌≡◌, ℕ, suc, ◌+◌, List, [], ◌∷◌, ◌++◌, refl, sym, ap, ◌∙◌, arith, subst}
use Rattle.std.proofs.Common.{true, false, Option, Some, None}
use Rattle.std.specs.Prelude.{Bool, ◌&&◌}
use Rattle.std.proofs.lemmas.Option.{none-some}
use Rattle.c_tree.specs.declared.expression.StepOp.{StepOp}
use Rattle.c_tree.specs.declared.types.IntegerType.{IntegerType}
use Rattle.c_tree.specs.declared.types.ValueType.{ValueType}
use Rattle.c_tree.specs.declared.types.ValueType.TheVariants.{Void, Integer, Pointer}
use Rattle.c_tree.specs.Program.{int, Expression, Constant, Start, Read, Address, Unary, Binary, And, Or, Conditional}
use Rattle.c_tree.specs.Program.{Cast, Assign, Update, Step, Comma, Call, Putchar, Getchar, Exit, LocalPlace}
use Rattle.c_tree.specs.Program.{StaticPlace, Target, Element}
use Rattle.flow_graph.specs.declared.op.Op.TheVariants as op
use Rattle.lower_builder.specs.Built.{Built, Adds}
use Rattle.lower_lines.specs.Expressions.{Addressed, Located, AtLocal, AtObject, AtAddress}
use Rattle.lower_lines.specs.Expressions.{element_of, part_of, read_part, step_part, target_of}
use Rattle.lower_lines.specs.Lines.{Line, Emit}
use Rattle.lower_lines.specs.Parts.{Wanted, Own, Part, bits_of, if_stays, made, operand, standing}
use Rattle.lower_lines.specs.Variables.{Context, Spot}
use Rattle.lower_builder.specs.Spots.{spot_of}
use Rattle.lower_builder.specs.declared.spot.Spot as memory
use Rattle.lower_builder.specs.Views.{AddsOperand, AddsPart}
use Rattle.lower_builder.proofs.Joined.{counted, lined, two}
use Rattle.lower_expressions.specs.Finding.{Finds, InLocal, InObject, AtElement}
use Rattle.lower_expressions.specs.Rows.{element_at, element_lines, stepping}
use Rattle.lower_expressions.specs.declared.found.Found.TheVariants as found
use Rattle.lower_expressions.proofs.Known.{stands-known}
use Rattle.lower_expressions.proofs.Naming.{local-free, next-to}

-- ---- what was found

pub found-local : (located : Located) (stays : Bool) (level v : ℕ) {s t : Built}
    → Finds located stays level s t (found.Local v) → (located ≡ AtLocal v) × Adds s t 0 []
found-local (AtLocal k) stays level v (h, e) = (ap AtLocal (sym (same v k e)), h)
  where
    same : (m n : ℕ) → InLocal m ≡ InLocal n → m ≡ n
    same m n e = cc
found-local (AtObject k) stays level v (h, e) = absurd (cc)
found-local (AtAddress t a) stays level v (h, e) = absurd (cc)

pub found-object : (located : Located) (stays : Bool) (level k : ℕ) {s t : Built}
    → Finds located stays level s t (found.Object k) → (located ≡ AtObject k) × Adds s t 0 []
found-object (AtLocal v) stays level k (h, e) = absurd (cc)
found-object (AtObject j) stays level k (h, e) = (ap AtObject (sym (same k j e)), h)
  where
    same : (m n : ℕ) → InObject m ≡ InObject n → m ≡ n
    same m n e = cc
found-object (AtAddress t a) stays level k (h, e) = absurd (cc)

pub found-element : (located : Located) (stays : Bool) (level : ℕ) (i : IntegerType) (at : memory.Spot) {s t : Built}
    → Finds located stays level s t (found.Element i at)
    → (a : Addressed) × (located ≡ AtAddress i a) × Adds s t a.blocks (a.lines stays s.next level)
    × (spot_of at ≡ a.spot stays level)
found-element (AtLocal v) stays level i at (h, e) = absurd (cc)
found-element (AtObject k) stays level i at (h, e) = absurd (cc)
found-element (AtAddress t a) stays level i at (h, e) = (
  a,
  ap (λ j. AtAddress j a) (sym (same i t (spot_of at) (a.spot stays level) e)),
  h,
  spots i t (spot_of at) (a.spot stays level) e,
)
  where
    same : (i j : IntegerType) (x y : Spot) → AtElement i x ≡ AtElement j y → i ≡ j
    same i j x y e = cc

    spots : (i j : IntegerType) (x y : Spot) → AtElement i x ≡ AtElement j y → x ≡ y
    spots i j x y e = cc

pub after-nothing : {s t u : Built} {n : ℕ} (ys : ℕ → List Line) → Adds s t 0 [] → Adds t u n (ys t.next)
    → Adds s u n (ys s.next)
after-nothing ys h k = next-to ys h k

-- ---- reading

read-element-is : (c : Context) (of : ValueType) (t : IntegerType) (a : Addressed)
    → read_part c of (AtAddress t a) ≡ read_part c int (AtAddress t a)
read-element-is c Void t a = refl
read-element-is c (Integer u) t a = refl
read-element-is c (Pointer u) t a = refl

pub read-element : (c : Context) (of : ValueType) (t : IntegerType) (a : Addressed) (level : ℕ) (w : Wanted) (at : Spot)
    {s u v : Built} → Adds s u a.blocks (a.lines true s.next level) → at ≡ a.spot true level
    → Adds u v 0 (made c u.next level w (Integer t)
    (λ to. Emit (op.Load (bits_of t) to.number at.array at.number) ∷ []))
    → AddsPart (read_part c of (AtAddress t a)) level w s v
read-element c of t a level w at {s} {u} {v} h e m =
    let M : ℕ → Spot → List Line = λ n x. made c n level w (Integer t)
    (λ to. Emit (op.Load (bits_of t) to.number x.array x.number) ∷ []) in
    let m' : Adds u v 0 (M u.next (a.spot true level)) = lined (ap (M u.next) e) m in
    let count : a.blocks + 0 ≡ a.blocks = omega arith in
    subst (λ (p : Part). AddsPart p level w s v) (sym (read-element-is c of t a))
    (counted count (two (λ n. M n (a.spot true level)) h m'))

-- ---- stepping

pub step-element : (c : Context) (of : ValueType) (o : StepOp) (t : IntegerType) (to : Addressed) (level : ℕ)
    (w : Wanted)
    (at : Spot) {s u v : Built} → Adds s u to.blocks (to.lines true s.next level) → at ≡ to.spot true level
    → Adds u v 0 (stepping c o u.next level w t at) → AddsPart (step_part c of o (AtAddress t to)) level w s v
step-element c of o t to level w at {s} {u} {v} h e m =
    let M : ℕ → Spot → List Line = λ n p. stepping c o n level w t p in
    let m' : Adds u v 0 (M u.next (to.spot true level)) = lined (ap (M u.next) e) m in
    let count : to.blocks + 0 ≡ to.blocks = omega arith in
    counted count (two (λ n. M n (to.spot true level)) h m')

-- ---- finding

-- a part that stands somewhere takes no block
pub free : (c : Context) (e : Expression) (spot : Spot) → (part_of c e).stands ≡ Some spot
    → (part_of c e).blocks Own ≡ 0
free c (Constant t n) spot e = refl
free c (Start t array) spot e = refl
free c (Read of (LocalPlace v)) spot e = local-free c of v
free c (Read of (StaticPlace k)) spot e = absurd (none-some spot (sym (stands-known c (Read of (StaticPlace k))) ∙ e))
free c (Read of (Target t a)) spot e = absurd (none-some spot (sym (stands-known c (Read of (Target t a))) ∙ e))
free c (Read of (Element t a i)) spot e = absurd (none-some spot (sym (stands-known c (Read of (Element t a i))) ∙ e))
free c (Address t (LocalPlace v)) spot e = refl
free c (Address t (StaticPlace k)) spot e = refl
free c (Address t (Target u a)) spot e = absurd (none-some spot e)
free c (Address t (Element u a i)) spot e = absurd (none-some spot e)
free c (Unary t o a) spot e = absurd (none-some spot (sym (stands-known c (Unary t o a)) ∙ e))
free c (Binary of o a b) spot e = absurd (none-some spot e)
free c (And a b) spot e = absurd (none-some spot e)
free c (Or a b) spot e = absurd (none-some spot e)
free c (Conditional of t a b) spot e = absurd (none-some spot e)
free c (Cast to a) spot e = absurd (none-some spot e)
free c (Assign of place a) spot e = absurd (none-some spot (sym (stands-known c (Assign of place a)) ∙ e))
free c (Update of o place a) spot e = absurd (none-some spot (sym (stands-known c (Update of o place a)) ∙ e))
free c (Step of o place) spot e = absurd (none-some spot (sym (stands-known c (Step of o place)) ∙ e))
free c (Comma a b) spot e = absurd (none-some spot e)
free c (Call of f arguments) spot e = absurd (none-some spot e)
free c (Putchar a) spot e = absurd (none-some spot e)
free c Getchar spot e = refl
free c (Exit a) spot e = absurd (none-some spot e)

operand-blocks : (c : Context) (stays : Bool) (e : Expression) → (operand c stays (part_of c e)).blocks
    ≡ (part_of c e).blocks Own
operand-blocks c stays e = chosen (if_stays stays (part_of c e).stands) (given stays)
  where
    given : (stays : Bool) (spot : Spot) → if_stays stays (part_of c e).stands ≡ Some spot
        → (part_of c e).stands ≡ Some spot
    given true spot e = e
    given false spot e = absurd (none-some spot e)

    chosen : (o : Option Spot) → ((spot : Spot) → o ≡ Some spot → (part_of c e).stands ≡ Some spot)
        → (standing c (part_of c e) o).blocks ≡ (part_of c e).blocks Own
    chosen None h = refl
    chosen (Some spot) h = sym (free c e spot (h spot refl))

pub target-found : (c : Context) (stays : Bool) (level : ℕ) (e : Expression) {s t : Built}
    → AddsOperand (operand c stays (part_of c e)) level s t
    → Adds s t (target_of c (part_of c e)).blocks ((target_of c (part_of c e)).lines stays s.next level)
target-found c stays level e h = counted (operand-blocks c stays e) h

pub element-found : (c : Context) (element : IntegerType) (of : ValueType) (a b : Part) (stays simple : Bool)
    (level above : ℕ) (kept : Option Spot) (x y : Spot) {s t u v : Built} → above ≡ level + 1 → simple ≡ b.simple
    → kept ≡ if_stays (stays && simple) a.stands
    → AddsOperand (operand c simple a) level s t → x ≡ (operand c simple a).spot level
    → AddsOperand (operand c true b) above t u → y ≡ (operand c true b).spot above
    → Adds u v 0 (element_lines c level of kept x y)
    → Adds s v (element_of c element of a b).blocks ((element_of c element of a b).lines stays s.next level)
element-found c element of a b stays simple level above kept x y {s} {t} {u} {v} up se ke h xe k ye m =
    let up' : above ≡ suc level = omega (arith, up) in
    let X = operand c b.simple a in
    let Y = operand c true b in
    let h' : AddsOperand X level s t = subst (λ (z : Bool). AddsOperand (operand c z a) level s t) se h in
    let k' : AddsOperand Y (suc level) t u = subst (λ (n : ℕ). AddsOperand Y n t u) up' k in
    let xe' : x ≡ X.spot level = xe ∙ ap (λ (z : Bool). (operand c z a).spot level) se in
    let ye' : y ≡ Y.spot (suc level) = ye ∙ ap Y.spot up' in
    let ke' : kept ≡ if_stays (stays && b.simple) a.stands =
    ke ∙ ap (λ (z : Bool). if_stays (stays && z) a.stands) se in
    let E : Option Spot → Spot → Spot → List Line = element_lines c level of in
    let K = if_stays (stays && b.simple) a.stands in
    let m' : Adds u v 0 (E K (X.spot level) (Y.spot (suc level))) =
    lined (ap (λ i. E i x y) ke' ∙ ap (λ i. E K i y) xe' ∙ ap (E K (X.spot level)) ye') m in
    let count : X.blocks + (Y.blocks + 0) ≡ X.blocks + Y.blocks = omega arith in
    by-type of (counted count (two (λ n. Y.lines n (suc level) ++ E K (X.spot level) (Y.spot (suc level))) h'
    (two (λ n. E K (X.spot level) (Y.spot (suc level))) k' m')))
  where
    by-type : (of : ValueType) → Adds s v ((operand c b.simple a).blocks + (operand c true b).blocks)
        ((operand c b.simple a).lines s.next level ++ ((operand c true b).lines (s.next + (operand c b.simple a).blocks)
        (suc level) ++ element_lines c level of (if_stays (stays && b.simple) a.stands)
        ((operand c b.simple a).spot level) ((operand c true b).spot (suc level))))
        → Adds s v (element_of c element of a b).blocks ((element_of c element of a b).lines stays s.next level)
    by-type Void h = h
    by-type (Integer t) h = h
    by-type (Pointer t) h = h

pub element-spot : (c : Context) (element : IntegerType) (of : ValueType) (a b : Part) (stays simple : Bool)
    (level : ℕ) (kept : Option Spot) (x at : Spot) → simple ≡ b.simple
    → kept ≡ if_stays (stays && simple) a.stands → x ≡ (operand c simple a).spot level
    → at ≡ element_at c level of kept x → at ≡ (element_of c element of a b).spot stays level
element-spot c element of a b stays simple level kept x at se ke xe e =
    let X = operand c b.simple a in
    let xe' : x ≡ X.spot level = xe ∙ ap (λ (z : Bool). (operand c z a).spot level) se in
    let ke' : kept ≡ if_stays (stays && b.simple) a.stands =
    ke ∙ ap (λ (z : Bool). if_stays (stays && z) a.stands) se in
    let K = if_stays (stays && b.simple) a.stands in
    by-type of (e ∙ ap (λ i. element_at c level of i x) ke' ∙ ap (element_at c level of K) xe')
  where
    by-type : (of : ValueType) → at ≡ element_at c level of (if_stays (stays && b.simple) a.stands)
        ((operand c b.simple a).spot level) → at ≡ (element_of c element of a b).spot stays level
    by-type Void h = h
    by-type (Integer t) h = h
    by-type (Pointer t) h = h
