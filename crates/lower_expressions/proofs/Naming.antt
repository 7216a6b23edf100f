-- Names that are assigned what an operator gives, from the lines of its operands and of what is done with them.
use Rattle.std.proofs.Common.{◌≡◌, ℕ, suc, ◌+◌, List, ◌∷◌, ◌++◌, refl, sym, ap, ◌∙◌, arith, append_assoc, subst}
use Rattle.std.proofs.Common.{true, false, None}
use Rattle.std.specs.Prelude.{Bool}
use Rattle.c_tree.specs.declared.expression.BinaryOp.{BinaryOp}
use Rattle.c_tree.specs.declared.types.IntegerType.{IntegerType}
use Rattle.c_tree.specs.declared.types.IntegerType.TheVariants.{Char, Short, Int, UnsignedInt}
use Rattle.c_tree.specs.declared.types.ValueType.{ValueType}
use Rattle.c_tree.specs.declared.types.ValueType.TheVariants.{Void, Integer, Pointer}
use Rattle.c_tree.specs.Program.{int}
use Rattle.flow_graph.specs.declared.op.Op.TheVariants as op
use Rattle.lower_builder.specs.Built.{Built, Adds}
use Rattle.lower_lines.specs.Expressions.{AtLocal, AtObject, assign_part, assigned_local, assigned_object}
use Rattle.lower_lines.specs.Expressions.{binary_part, local_part}
use Rattle.lower_lines.specs.Expressions.{object_part, read_part, result_type, stepped_after, stored_lines, update_part}
use Rattle.lower_lines.specs.Lines.{Line, Emit}
use Rattle.lower_lines.specs.Operators.{applied, applied_blocks}
use Rattle.lower_lines.specs.Parts.{Wanted, Dropped, Own, ToLocal, Part, bits_of, converted_lines, converting}
use Rattle.lower_lines.specs.Parts.{delivered, if_stays, made, operand, tested_blocks}
use Rattle.lower_lines.specs.Variables.{Context, Spot, local_spot, own}
use Rattle.lower_builder.specs.MoveViews.{plain}
use Rattle.lower_builder.specs.Views.{AddsOperand, AddsPart}
use Rattle.lower_builder.proofs.Joined.{counted, lined, operand-none, operand-none-spot, two}
use Rattle.lower_expressions.specs.Kinds.{number_type}
use Rattle.lower_expressions.specs.Rows.{applied_part}
use Rattle.lower_expressions.proofs.Known.{local-of}
pub use Rattle.lower_expressions.proofs.Chained.{next-to}

grouped : (n k l m : ℕ) (X Y : List Line) (A S : ℕ → List Line)
    → (X ++ Y) ++ (A (n + (k + l)) ++ S (n + (k + l) + m)) ≡ (X ++ (Y ++ A (n + k + l))) ++ S (n + (k + l + m))
grouped n k l m X Y A S =
    let e : n + (k + l) ≡ n + k + l = omega arith in
    let f : n + (k + l) + m ≡ n + (k + l + m) = omega arith in
    ap (λ i. (X ++ Y) ++ (A i ++ S (n + (k + l) + m))) e
    ∙ ap (λ i. (X ++ Y) ++ (A (n + k + l) ++ S i)) f
    ∙ sym (append_assoc (X ++ Y) (A (n + k + l)) (S (n + (k + l + m))))
    ∙ ap (λ (ls : List Line). ls ++ S (n + (k + l + m))) (append_assoc X Y (A (n + k + l)))

module _ (c : Context) (o : BinaryOp) (a b : Part) (level : ℕ) (w : Wanted) where
  abbrev x : ℕ
  x = (operand c b.simple a).blocks

  abbrev y : ℕ
  y = (operand c true b).blocks

  abbrev xs : ℕ → List Line
  xs n = (operand c b.simple a).lines n level

  abbrev ys : ℕ → List Line
  ys n = (operand c true b).lines n (suc level)

  abbrev at : Wanted → ℕ → List Line
  at v n = applied c n level v o a.of b.of ((operand c b.simple a).spot level) ((operand c true b).spot (suc level))

  abbrev many : Wanted → ℕ
  many v = applied_blocks v o a.of b.of

  abbrev given : ValueType → Part
  given of = applied_part c of o a.of b.of ((operand c b.simple a).spot level) ((operand c true b).spot (suc level))

  -- behind the operands, for any value of a part
  abbrev Behind : Built → Built → Type 0
  Behind s u = Adds s u (x + y) (xs s.next ++ ys (s.next + x))

  pub operands-behind : {s t u : Built} → AddsOperand (operand c b.simple a) level s t
      → AddsOperand (operand c true b) (suc level) t u → Behind s u
  operands-behind {s} {t} {u} h k = two (λ n. ys n) h k

  -- a value that goes to a local by itself, which is then read again
  stored-behind : (of : ValueType) (to : Wanted) (v : ℕ) {s u z : Built} → Behind s u
      → Adds u z (many to + tested_blocks (plain w) of) (at to u.next ++ stored_lines c (u.next + many to) level w of v)
      → Adds s z (x + y + many to + tested_blocks (plain w) of)
      ((xs s.next ++ (ys (s.next + x) ++ at to (s.next + x + y)))
      ++ stored_lines c (s.next + (x + y + many to)) level w of v)
  stored-behind of to v {s} {u} {z} h k =
      let S : ℕ → List Line = λ n. stored_lines c n level w of v in
      let m = many to in
      let p = tested_blocks (plain w) of in
      let count : x + y + (m + p) ≡ x + y + m + p = omega arith in
      counted count (lined (grouped s.next x y m (xs s.next) (ys (s.next + x)) (at to) S)
      (two (λ n. at to n ++ S (n + m)) h k))

  pub assigned-behind : (of : ValueType) (v : ℕ) {s u z : Built} → Behind s u
      → AddsPart (assigned_local c of v (given (result_type of))) level w u z
      → AddsPart (assigned_local c of v (binary_part c (result_type of) o a b)) level w s z
  assigned-behind Void v h k = stored-behind Void Dropped v h k
  assigned-behind (Integer Char) v {s} {u} {z} h k =
      let S : ℕ → List Line = λ n. Emit (op.Low (local_spot c v).number (own c level).number)
      ∷ stored_lines c n level w (Integer Char) v in
      let m = many Own in
      counted (omega arith) (lined (grouped s.next x y m (xs s.next) (ys (s.next + x)) (at Own) S)
      (two (λ n. at Own n ++ S (n + m)) h k))
  assigned-behind (Integer Short) v {s} {u} {z} h k =
      let M : ℕ → List Line = λ n. made c n level (ToLocal v) (Integer Short)
      (λ to. converting c level Short to.number (own c level).number) in
      let S : ℕ → List Line = λ n. stored_lines c n level w (Integer Short) v in
      let m = many Own in
      let p = tested_blocks (plain w) (Integer Short) in
      let count : x + y + (m + p) ≡ x + y + m + p = omega arith in
      let n1 = s.next + (x + y) + m in
      let n2 = s.next + (x + y + m) in
      let n3 : s.next + x + y + m ≡ n2 = omega arith in
      counted count (lined (ap (λ (ls : List Line). (xs s.next ++ ys (s.next + x)) ++ ls)
      (append_assoc (at Own (s.next + (x + y))) (M n1) (S n1))
      ∙ grouped s.next x y m (xs s.next) (ys (s.next + x)) (at Own) (λ n. M n ++ S n)
      ∙ sym (append_assoc (xs s.next ++ (ys (s.next + x) ++ at Own (s.next + x + y))) (M n2) (S n2)))
      (two (λ n. (at Own n ++ M (n + m)) ++ S (n + m)) h k))
  assigned-behind (Integer Int) v h k = stored-behind int (ToLocal v) v h k
  assigned-behind (Integer UnsignedInt) v h k = stored-behind (Integer UnsignedInt) (ToLocal v) v h k
  assigned-behind (Pointer t) v h k = stored-behind (Pointer t) (ToLocal v) v h k

  pub object-behind : (t : IntegerType) (k : ℕ) {s u z : Built} → Behind s u
      → AddsPart (assigned_object c t k (given int)) level w u z
      → AddsPart (assigned_object c t k (binary_part c int o a b)) level w s z
  object-behind t k {s} {u} {z} h i =
      let S : ℕ → List Line = λ n. Emit (op.Put (bits_of t) k (own c level).number)
      ∷ converted_lines c n level w t (own c level).number in
      let m = many Own in
      counted (omega arith) (lined (grouped s.next x y m (xs s.next) (ys (s.next + x)) (at Own) S)
      (two (λ n. at Own n ++ S (n + m)) h i))

-- a static object that is no array is a number
pub object-is : (c : Context) (of : ValueType) (k : ℕ) (o : BinaryOp) (a : Part) → update_part c of o (AtObject k) a
    ≡ assigned_object c (number_type of) k (binary_part c int o (object_part c (number_type of) k) a)
object-is c Void k o a = refl
object-is c (Integer t) k o a = refl
object-is c (Pointer t) k o a = refl

pub object-assigned : (c : Context) (of : ValueType) (k : ℕ) (a : Part)
    → assign_part c of (AtObject k) a ≡ assigned_object c (number_type of) k a
object-assigned c Void k a = refl
object-assigned c (Integer t) k a = refl
object-assigned c (Pointer t) k a = refl

pub object-read : (c : Context) (of : ValueType) (k : ℕ)
    → read_part c of (AtObject k) ≡ object_part c (number_type of) k
object-read c Void k = refl
object-read c (Integer t) k = refl
object-read c (Pointer t) k = refl

-- a local's value takes no block
pub local-free : (c : Context) (of : ValueType) (v : ℕ) → (local_part c of v).blocks Own ≡ 0
local-free c Void v = refl
local-free c (Integer Char) v = refl
local-free c (Integer Short) v = refl
local-free c (Integer Int) v = refl
local-free c (Integer UnsignedInt) v = refl
local-free c (Pointer t) v = refl

-- a static object's value takes no block
pub object-free : (c : Context) (of : ValueType) (k : ℕ) → (read_part c of (AtObject k)).blocks Own ≡ 0
object-free c Void k = refl
object-free c (Integer t) k = refl
object-free c (Pointer t) k = refl

pub object-read-adds : (c : Context) (of : ValueType) (k level : ℕ) (w : Wanted) (t : IntegerType) {s u : Built}
    → t ≡ number_type of → AddsPart (object_part c t k) level w s u → AddsPart (read_part c of (AtObject k)) level w s u
object-read-adds c of k level w t {s} {u} e h =
    subst (λ (p : Part). AddsPart p level w s u) (ap (λ i. object_part c i k) e ∙ sym (object-read c of k)) h

none-either : (b : Bool) → if_stays b None ≡ None
none-either true = refl
none-either false = refl

-- an assignment with an operator to a local
pub local-assigned : (c : Context) (of : ValueType) (v : ℕ) (o : BinaryOp) (level n : ℕ) (w : Wanted) (a : Part)
    (stays : Bool) (q : ValueType) (X Y : Spot) {s t u z : Built} → n ≡ suc level → stays ≡ a.simple → q ≡ a.of
    → AddsOperand (operand c stays (local_part c of v)) level s t
    → X ≡ (operand c stays (local_part c of v)).spot level
    → AddsOperand (operand c true a) n t u → Y ≡ (operand c true a).spot n
    → AddsPart (assigned_local c of v (applied_part c (result_type of) o of q X Y)) level w u z
    → AddsPart (update_part c of o (AtLocal v) a) level w s z
local-assigned c of v o level n w a stays q X Y {s} {t} {u} {z} up se qe h xe k ye m =
    let p = local_part c of v in
    let h' : AddsOperand (operand c a.simple p) level s t =
    subst (λ (b : Bool). AddsOperand (operand c b p) level s t) se h in
    let k' : AddsOperand (operand c true a) (suc level) t u =
    subst (λ (i : ℕ). AddsOperand (operand c true a) i t u) up k in
    let xe' : X ≡ (operand c a.simple p).spot level = xe ∙ ap (λ (b : Bool). (operand c b p).spot level) se in
    let ye' : Y ≡ (operand c true a).spot (suc level) = ye ∙ ap (operand c true a).spot up in
    let F : ValueType → ValueType → Spot → Spot → Part =
    λ r q x y. assigned_local c of v (applied_part c (result_type of) o r q x y) in
    let same : F of q X Y ≡ F p.of a.of ((operand c a.simple p).spot level) ((operand c true a).spot (suc level)) =
    ap (λ r. F r q X Y) (sym (local-of c of v)) ∙ ap (λ r. F p.of r X Y) qe ∙ ap (λ x. F p.of a.of x Y) xe'
    ∙ ap (F p.of a.of ((operand c a.simple p).spot level)) ye' in
    assigned-behind c o p a level w of v (operands-behind c o p a level w h' k')
    (subst (λ (i : Part). AddsPart i level w u z) same m)

-- and to a static object
pub object-updated : (c : Context) (of : ValueType) (k : ℕ) (o : BinaryOp) (level n : ℕ) (w : Wanted) (a : Part)
    (t : IntegerType) (q : ValueType) (X Y : Spot) {s r u z : Built} → t ≡ number_type of → n ≡ suc level → q ≡ a.of
    → AddsPart (object_part c t k) level Own s r → X ≡ own c level
    → AddsOperand (operand c true a) n r u → Y ≡ (operand c true a).spot n
    → AddsPart (assigned_object c t k (applied_part c int o (Integer t) q X Y)) level w u z
    → AddsPart (update_part c of o (AtObject k) a) level w s z
object-updated c of k o level n w a t q X Y {s} {r} {u} {z} te up qe h xe l ye m =
    let p = object_part c t k in
    let h' : AddsOperand (operand c a.simple p) level s r = operand-none c a.simple p level (none-either a.simple) h in
    let l' : AddsOperand (operand c true a) (suc level) r u =
    subst (λ (i : ℕ). AddsOperand (operand c true a) i r u) up l in
    let xe' : X ≡ (operand c a.simple p).spot level =
    xe ∙ operand-none-spot c a.simple p level (none-either a.simple) in
    let ye' : Y ≡ (operand c true a).spot (suc level) = ye ∙ ap (operand c true a).spot up in
    let F : ValueType → Spot → Spot → Part = λ q x y. assigned_object c t k (applied_part c int o (Integer t) q x y) in
    let same : F q X Y ≡ F a.of ((operand c a.simple p).spot level) ((operand c true a).spot (suc level)) =
    ap (λ r. F r X Y) qe ∙ ap (λ x. F a.of x Y) xe' ∙ ap (F a.of ((operand c a.simple p).spot level)) ye' in
    let whole : AddsPart (assigned_object c t k (binary_part c int o p a)) level w s z =
    object-behind c o p a level w t k (operands-behind c o p a level w h' l')
    (subst (λ (i : Part). AddsPart i level w u z) same m) in
    subst (λ (i : Part). AddsPart i level w s z)
    (ap (λ j. assigned_object c j k (binary_part c int o (object_part c j k) a))
    te ∙ sym (object-is c of k o a)) whole

-- the old value, the step, and the old value delivered
pub after-whole : (c : Context) (of : ValueType) (name update : Part) (level above : ℕ) (w : Wanted) (p : Spot)
    {s t u v : Built} → above ≡ level + 1 → name.blocks Own ≡ 0 → p ≡ own c level → AddsPart name level Own s t
    → AddsPart update above Dropped t u → Adds u v (tested_blocks (plain w) of) (delivered c u.next level w of p)
    → Adds s v (update.blocks Dropped + tested_blocks (plain w) of) (stepped_after c of name update s.next level w)
after-whole c of name update level above w p {s} {t} {u} {v} up none e h k d =
    let up' : above ≡ suc level = omega (arith, up) in
    let k' : AddsPart update (suc level) Dropped t u = subst (λ (n : ℕ). AddsPart update n Dropped t u) up' k in
    let D : ℕ → List Line = λ n. delivered c n level w of (own c level) in
    let d' : Adds u v (tested_blocks (plain w) of) (D u.next) = lined (ap (delivered c u.next level w of) e) d in
    let b = update.blocks Dropped in
    let q = tested_blocks (plain w) of in
    let count : name.blocks Own + (b + q) ≡ b + q = omega (arith, none) in
    let first : s.next + name.blocks Own ≡ s.next = omega (arith, none) in
    counted count (lined
    (ap (λ n. name.lines s.next level Own ++ (update.lines n (suc level) Dropped ++ D (n + b))) first)
    (two (λ n. update.lines n (suc level) Dropped ++ D (n + b)) h (two D k' d')))
