-- Statements and declared items are numbered from 0, in the order of the text.
use Rattle.std.proofs.Common.{arith, ◌≡◌, refl, sym, ap, subst, ◌∙◌, ℕ, suc, ◌+◌, Bool, true, false, List, [], ◌∷◌}
use Rattle.std.proofs.Common.{◌++◌, length, map}
use Rattle.std.specs.Prelude.{Option, Some, None}
use Rattle.std.specs.List.{range_with_len}
use Rattle.pcc_base.specs.declared.fault.Fault.{Fault}
use Rattle.c_syntax.specs.declared.expression.Identifier.{Identifier}
use Rattle.c_syntax.specs.Declarations.{ItemTree, DeclarationTree, ValueTree}
use Rattle.c_syntax.specs.Statements as trees
use Rattle.c_syntax.specs.Statements.{Stmt, Stmts, NoStmt, OneStmt}
use Rattle.c_tree.specs.Program as tree
use Rattle.c_tree.specs.Program.{Item, First, Statement, Statements, Done, Next, Expression, value_type}
use Rattle.c_tree.specs.WellTyped.{item_number, first_numbers, statement_numbers, statements_numbers}
use Rattle.c_typing.specs.Types.{Position, InBlock, InFor, Specified, specified, is_static, Declared}
use Rattle.c_typing.specs.Checked.{Checked, Fits, Fails, Contents, Zeros, Note, or_fails, fits, noted, also, if_fits}
use Rattle.c_typing.specs.Checked.{pair, both}
use Rattle.c_typing.specs.Checked.{three, value_in}
use Rattle.c_typing.specs.Declarators.{ObjectType, IntegerObject, PointerObject, ArrayObject, object_declared}
use Rattle.c_typing.specs.Declarators.{object_allowed, type_faults}
use Rattle.pcc_base.specs.declared.span.Span.{Span}
use Rattle.pcc_base.specs.declared.fault.FaultKind.TheVariants.{TypeRule}
use Rattle.c_tree.specs.declared.types.ValueType.TheVariants.{Integer, Pointer}
use Rattle.c_typing.specs.Library.{Entity, At}
use Rattle.c_typing.specs.Expressions.{first_word, typed_expression, typed_if_any}
use Rattle.c_typing.specs.Rows.{selected}
use Rattle.c_typing.specs.Names.{Scope, entered, numbered}
use Rattle.c_typing.specs.Statements.{bound_item, after_item, after_items, after_specified, after_declaration, stored}
use Rattle.c_typing.specs.Statements.{local_item, object_item, scope_faults, sized_item, typed_item, typed_items}
use Rattle.c_typing.specs.Statements.{typed_declaration}
use Rattle.c_typing.specs.Statements.{alone, as_one, one, for_loop, row_before, typed_statement, typed_statements}
use Rattle.c_typing.specs.Statements.{after_statement, after_statements, condition, condition_if_any, first_part, jump}
use Rattle.c_typing.specs.Statements.{in_loop, in_switch, Around, given_labels, typed_labels, returned}
use Rattle.c_typing.specs.Initialisers.{scalar_initialiser, array_initialiser, contents_for}

-- these numbers lead from one on to another
abbrev pub From : ℕ → List ℕ → ℕ → Type 0
From n [] m = n ≡ m
From n (x ∷ xs) m = (x ≡ n) × From (suc n) xs m

pub from_on : (n k m : ℕ) (xs ys : List ℕ) → From n xs k → From k ys m → From n (xs ++ ys) m
from_on n k m [] ys h g = subst (λ i. From i ys m) (sym h) g
from_on n k m (x ∷ xs) ys h g = (h.0, from_on (suc n) k m xs ys h.1 g)

next_is : (n : ℕ) → suc n ≡ n + 1
next_is n = omega arith

pub range_of : (n m : ℕ) (xs : List ℕ) → From n xs m → xs ≡ range_with_len n (length xs)
range_of n m [] h = refl
range_of n m (x ∷ xs) h =
    ap (λ y. y ∷ xs) h.0 ∙ ap (λ ys. n ∷ ys) (range_of (suc n) m xs h.1
    ∙ ap (λ i. range_with_len i (length xs)) (next_is n))

-- what holds of a tree where there is one
abbrev pub IfFits : {A : Type 0} → (A → Type 0) → Checked A → Type 0
IfFits P (Fits a notes) = P a
IfFits P (Fails f fs) = Unit {0}

pub holds_noted : {A : Type 0} (P : A → Type 0) (ns : List Note) (c : Checked A) → IfFits P c → IfFits P (noted ns c)
holds_noted P ns (Fits a notes) h = h
holds_noted P ns (Fails f fs) h = h

pub holds_if : {A B : Type 0} (P : A → Type 0) (Q : B → Type 0) (c : Checked A) (f : A → Checked B) → IfFits P c
    → ((a : A) → P a → IfFits Q (f a)) → IfFits Q (if_fits c f)
holds_if P Q (Fits a ns) f h k = holds_noted Q ns (f a) (k a h)
holds_if P Q (Fails g gs) f h k = tt

pub holds_pair : {A B : Type 0} (P : A → Type 0) (Q : B → Type 0) (c : Checked A) (d : Checked B) → IfFits P c
    → IfFits Q d → IfFits (λ (p : A × B). P p.0 × Q p.1) (pair c d)
holds_pair P Q (Fits a ns) (Fits b ms) h k = (h, k)
holds_pair P Q (Fits a ns) (Fails g gs) h k = tt
holds_pair P Q (Fails f fs) d h k = tt

pub holds_both : {A B C : Type 0} (P : A → Type 0) (Q : B → Type 0) (R : C → Type 0) (c : Checked A) (d : Checked B)
    (f : A → B → Checked C) → IfFits P c → IfFits Q d → ((a : A) (b : B) → P a → Q b → IfFits R (f a b))
    → IfFits R (both c d f)
holds_both P Q R c d f h k on =
    holds_if (λ p. P p.0 × Q p.1) R (pair c d) (λ p. f p.0 p.1) (holds_pair P Q c d h k) (λ p x. on p.0 p.1 x.0 x.1)

abbrev pub Always : {A : Type 0} → A → Type 0
Always a = Unit {0}

pub always : {A : Type 0} (c : Checked A) → IfFits Always c
always (Fits a ns) = tt
always (Fails f fs) = tt

pub holds_also : {A : Type 0} (P : A → Type 0) (fs : List Fault) (c : Checked A) → IfFits P c → IfFits P (also fs c)
holds_also P [] c h = h
holds_also P (f ∷ fs) c h = tt

-- ---- declared items

stored_none : (e : Entity) (type : ObjectType) (c : Checked Contents) (n : ℕ)
    → IfFits (λ (is : List Item). From n (map item_number is) n) (stored e type [] c)
stored_none e type (Fits a ns) n = refl
stored_none e type (Fails f fs) n = tt

abbrev ItemsFrom : ℕ → ℕ → List Item → Type 0
ItemsFrom n m is = From n (map item_number is) m

local_one : (s t : Scope) (type : ObjectType) (v : Option ValueTree)
    → IfFits (ItemsFrom s.next (suc s.next)) (local_item s t type v)
local_one s t (IntegerObject of) v =
    holds_if Always (ItemsFrom s.next (suc s.next)) (scalar_initialiser t (Integer of) v)
    (λ e. fits (tree.Scalar s.next (length s.locals) e ∷ [])) (always (scalar_initialiser t (Integer of) v))
    (λ a x. (refl, refl))
local_one s t (PointerObject of) v =
    holds_if Always (ItemsFrom s.next (suc s.next)) (scalar_initialiser t (Pointer of) v)
    (λ e. fits (tree.Scalar s.next (length s.locals) e ∷ [])) (always (scalar_initialiser t (Pointer of) v))
    (λ a x. (refl, refl))
local_one s t (ArrayObject element count) v =
    holds_if Always (ItemsFrom s.next (suc s.next)) (array_initialiser t element count v)
    (λ first. fits (tree.Array s.next (length s.arrays) element first ∷ []))
    (always (array_initialiser t element count v)) (λ a x. (refl, refl))

object_from : (static : Bool) (s t : Scope) (name : Identifier) (v : Option ValueTree) (type : ObjectType)
    → IfFits (ItemsFrom s.next (bound_item static name (Some type) s).next) (object_item static s t name v type)
object_from true s t name v (IntegerObject of) =
    stored_none (At name.at) (IntegerObject of) (contents_for t (IntegerObject of) Zeros v) s.next
object_from true s t name v (PointerObject of) =
    stored_none (At name.at) (PointerObject of) (contents_for t (PointerObject of) Zeros v) s.next
object_from true s t name v (ArrayObject element count) =
    stored_none (At name.at) (ArrayObject element count) (contents_for t (ArrayObject element count) Zeros v) s.next
object_from false s t name v (IntegerObject of) = local_one s t (IntegerObject of) v
object_from false s t name v (PointerObject of) = local_one s t (PointerObject of) v
object_from false s t name v (ArrayObject element count) = local_one s t (ArrayObject element count) v

allowed_from : (static : Bool) (s t : Scope) (name : Identifier) (v : Option ValueTree) (fs : List Fault)
    (ns : List Note) (x : Checked ObjectType)
    → IfFits (ItemsFrom s.next (bound_item static name (value_in (noted ns x)) s).next)
    (noted ns (also fs (if_fits x (object_item static s t name v))))
allowed_from static s t name v fs ns (Fits type ms) =
    let P = ItemsFrom s.next (bound_item static name (Some type) s).next in
    let c = object_item static s t name v type in
    holds_noted P ns (also fs (noted ms c)) (holds_also P fs (noted ms c)
    (holds_noted P ms c (object_from static s t name v type)))
allowed_from static s t name v fs ns (Fails g gs) =
    let P = ItemsFrom s.next s.next in
    let c : Checked (List Item) = Fails g gs in
    holds_noted P ns (also fs c) (holds_also P fs c tt)

declared_from : (static : Bool) (s t : Scope) (name : Identifier) (v : Option ValueTree) (fs : List Fault)
    (c : Checked Declared)
    → IfFits (ItemsFrom s.next (bound_item static name (value_in (if_fits c (object_allowed static name.at))) s).next)
    (if_fits c (λ d. also fs (if_fits (object_allowed static name.at d) (object_item static s t name v))))
declared_from static s t name v fs (Fits d ns) =
    allowed_from static s t name v fs ns (object_allowed static name.at d)
declared_from static s t name v fs (Fails g gs) = tt

item_from : (said : Specified) (i : ItemTree) (s : Scope)
    → IfFits (ItemsFrom s.next (after_item said i s).next) (typed_item said i s)
item_from said i s =
    holds_also (ItemsFrom s.next (after_item said i s).next) (type_faults (is_static said.storage) said i.declarator)
    (sized_item said i s)
    (declared_from (is_static said.storage) s (after_item said i s) i.declarator.name i.initialiser
    (scope_faults s i.declarator.name) (object_declared s said i.declarator i.initialiser))

pub items_on : (n k m : ℕ) (xs ys : List Item) → ItemsFrom n k xs → ItemsFrom k m ys → ItemsFrom n m (xs ++ ys)
items_on n k m [] ys h g = subst (λ i. ItemsFrom i m ys) (sym h) g
items_on n k m (x ∷ xs) ys h g = (h.0, items_on (suc n) k m xs ys h.1 g)

items_from : (said : Specified) (is : List ItemTree) (s : Scope)
    → IfFits (ItemsFrom s.next (after_items said is s).next) (typed_items said is s)
items_from said [] s = refl
items_from said (i ∷ is) s =
    let k = (after_item said i s).next in
    let m = (after_items said is (after_item said i s)).next in
    holds_both (ItemsFrom s.next k) (ItemsFrom k m) (ItemsFrom s.next m) (typed_item said i s)
    (typed_items said is (after_item said i s)) (λ xs ys. fits (xs ++ ys)) (item_from said i s)
    (items_from said is (after_item said i s)) (λ xs ys h g. items_on s.next k m xs ys h g)

specified_from : (o : Option Specified) (at : Span) (is : List ItemTree) (s : Scope)
    → IfFits (ItemsFrom s.next (after_specified o is s).next)
    (if_fits (or_fails o TypeRule at) (λ said. typed_items said is s))
specified_from None at is s = tt
specified_from (Some said) at is s =
    holds_noted (ItemsFrom s.next (after_items said is s).next) [] (typed_items said is s) (items_from said is s)

declaration_from : (position : Position) (d : DeclarationTree) (s : Scope)
    → IfFits (ItemsFrom s.next (after_declaration position d s).next) (typed_declaration position d s)
declaration_from position d s = specified_from (specified position d.specifiers) (first_word d.specifiers) d.items s

-- ---- statements

abbrev pub list_numbers : List Statement → List ℕ
list_numbers [] = []
list_numbers (st ∷ sts) = statement_numbers st ++ list_numbers sts

abbrev ListFrom : ℕ → ℕ → List Statement → Type 0
ListFrom n m sts = From n (list_numbers sts) m

abbrev OneFrom : ℕ → ℕ → Statement → Type 0
OneFrom n m st = From n (statement_numbers st) m

abbrev RowFrom : ℕ → ℕ → Statements → Type 0
RowFrom n m sts = From n (statements_numbers sts) m

from_nil : (n m : ℕ) (xs : List ℕ) → From n (xs ++ []) m → From n xs m
from_nil n m [] h = h
from_nil n m (x ∷ xs) h = (h.0, from_nil (suc n) m xs h.1)

pub one_from : (n m : ℕ) (c : Checked Statement) → IfFits (OneFrom n m) c → IfFits (ListFrom n m) (one c)
one_from n m c h =
    holds_if (OneFrom n m) (ListFrom n m) c (λ st. fits (st ∷ [])) h
    (λ st x. from_on n m m (statement_numbers st) [] x refl)

-- the numbers of a list split where it does
pub from_split : (n m : ℕ) (xs ys : List ℕ) → From n (xs ++ ys) m → (k : ℕ) × From n xs k × From k ys m
from_split n m [] ys h = (n, refl, h)
from_split n m (x ∷ xs) ys h = let r = from_split (suc n) m xs ys h.1 in (r.0, (h.0, r.1), r.2)

pub row_from : (n k m : ℕ) (sts : List Statement) (rest : Statements) → ListFrom n k sts → RowFrom k m rest
    → RowFrom n m (row_before sts rest)
row_from n k m [] rest h g = subst (λ i. RowFrom i m rest) (sym h) g
row_from n k m (st ∷ sts) rest h g =
    let r = from_split n k (statement_numbers st) (list_numbers sts) h in
    from_on n r.0 m (statement_numbers st) (statements_numbers (row_before sts rest)) r.1
    (row_from r.0 k m sts rest r.2 g)

pub as_one_from : (n m : ℕ) (sts : List Statement) → ListFrom n m sts → OneFrom n m (as_one sts)
as_one_from n m [] h = h
as_one_from n m (st ∷ []) h = from_nil n m (statement_numbers st) h
as_one_from n m (st ∷ (other ∷ sts)) h = row_from n m m (st ∷ (other ∷ sts)) Done h refl

pub alone_from : (n m : ℕ) (c : Checked (List Statement)) → IfFits (ListFrom n m) c → IfFits (OneFrom n m) (alone c)
alone_from n m c h =
    holds_if (ListFrom n m) (OneFrom n m) c (λ sts. fits (as_one sts)) h (λ sts x. as_one_from n m sts x)

-- a statement of this number, before whose last part others may be numbered
with_test : {A : Type 0} (n m : ℕ) (c : Checked A) (d : Checked Statement) (f : A → Statement → Statement)
    → IfFits (OneFrom (suc n) m) d → ((a : A) (st : Statement) → OneFrom (suc n) m st → OneFrom n m (f a st))
    → IfFits (ListFrom n m) (one (both c d (λ a st. fits (f a st))))
with_test n m c d f h on =
    one_from n m (both c d (λ a st. fits (f a st)))
    (holds_both Always (OneFrom (suc n) m) (OneFrom n m) c d (λ a st. fits (f a st)) (always c) h
    (λ a st x y. on a st y))

-- declared items are statements with their numbers
declares_from : (n m : ℕ) (items : List Item) → ItemsFrom n m items → ListFrom n m (map tree.Declare items)
declares_from n m [] h = h
declares_from n m (i ∷ is) h = (h.0, declares_from (suc n) m is h.1)

for_from : (n k m : ℕ) (a : Checked First) (b : Checked (Option Expression)) (c : Checked (Option Expression))
    (d : Checked Statement) → IfFits (λ f. From (suc n) (first_numbers f) k) a → IfFits (OneFrom k m) d
    → IfFits (ListFrom n m) (for_loop n a b c d)
for_from n k m a b c d h g =
    holds_both (λ p. From (suc n) (first_numbers p.0) k × Always p.1) (λ q. Always q.0 × OneFrom k m q.1)
    (ListFrom n m) (pair a b) (pair c d) (λ x y. fits (tree.For n x.0 x.1 y.0 y.1 ∷ []))
    (holds_pair (λ f. From (suc n) (first_numbers f) k) Always a b h (always b))
    (holds_pair Always (OneFrom k m) c d (always c) g)
    (λ x y u v. from_on n m m (n ∷ (first_numbers x.0 ++ statement_numbers y.1)) []
    (refl, from_on (suc n) k m (first_numbers x.0) (statement_numbers y.1) u.0 v.1) refl)

first_from : (n : ℕ) (o : Option Expression) → From n (first_numbers (first_part o)) n
first_from n None = refl
first_from n (Some e) = refl

jump_from : (n : ℕ) (may : Bool) (at : Span) (st : Statement) → OneFrom n (suc n) st
    → IfFits (ListFrom n (suc n)) (one (jump may at st))
jump_from n true at st h = one_from n (suc n) (fits st) h
jump_from n false at st h = tt

mutual
  pub statement_from : (w : Around) (st : Stmt) (s : Scope)
      → IfFits (ListFrom s.next (after_statement st s).next) (typed_statement w st s)
  statement_from w (trees.Declared d) s =
      holds_if (ItemsFrom s.next (after_declaration InBlock d s).next)
      (ListFrom s.next (after_declaration InBlock d s).next) (typed_declaration InBlock d s)
      (λ items. fits (map tree.Declare items)) (declaration_from InBlock d s)
      (λ items h. declares_from s.next (after_declaration InBlock d s).next items h)
  statement_from w (trees.Labelled labels st) s = statement_from w st s
  statement_from w (trees.Block o items c) s =
      let m = (after_statements items (entered s)).next in
      one_from s.next m (if_fits (typed_statements w items (entered s)) (λ body. fits (tree.Block body)))
      (holds_if (RowFrom s.next m) (OneFrom s.next m) (typed_statements w items (entered s))
      (λ body. fits (tree.Block body)) (statements_from w items (entered s)) (λ body h. h))
  statement_from w (trees.Simple None semicolon) s =
      one_from s.next (suc s.next) (fits (tree.Empty s.next)) (refl, refl)
  statement_from w (trees.Simple (Some e) semicolon) s =
      one_from s.next (suc s.next) (if_fits (typed_expression s e) (λ x. fits (tree.Evaluate s.next x)))
      (holds_if Always (OneFrom s.next (suc s.next)) (typed_expression s e) (λ x. fits (tree.Evaluate s.next x))
      (always (typed_expression s e)) (λ a x. (refl, refl)))
  statement_from w (trees.If at o e c st) s =
      let m = (after_statement st (numbered s)).next in
      with_test s.next m (condition s at e) (alone (typed_statement w st (numbered s)))
      (λ x a. tree.If s.next x a (tree.Block Done))
      (alone_from (suc s.next) m (typed_statement w st (numbered s)) (statement_from w st (numbered s)))
      (λ x a h. (refl, from_on (suc s.next) m m (statement_numbers a) [] h refl))
  statement_from w (trees.IfElse at o e c st otherwise other) s =
      let k = (after_statement st (numbered s)).next in
      let m = (after_statement other (after_statement st (numbered s))).next in
      let first = alone (typed_statement w st (numbered s)) in
      let second = alone (typed_statement w other (after_statement st (numbered s))) in
      one_from s.next m (three (condition s at e) first second (λ x a b. fits (tree.If s.next x a b)))
      (holds_both Always (λ p. OneFrom (suc s.next) k p.0 × OneFrom k m p.1) (OneFrom s.next m) (condition s at e)
      (pair first second) (λ x p. fits (tree.If s.next x p.0 p.1)) (always (condition s at e))
      (holds_pair (OneFrom (suc s.next) k) (OneFrom k m) first second
      (alone_from (suc s.next) k (typed_statement w st (numbered s)) (statement_from w st (numbered s)))
      (alone_from k m (typed_statement w other (after_statement st (numbered s)))
      (statement_from w other (after_statement st (numbered s)))))
      (λ x p u v. (refl, from_on (suc s.next) k m (statement_numbers p.0) (statement_numbers p.1) v.0 v.1)))
  statement_from w (trees.Switch at o e c begin items end) s =
      let m = (after_statements items (entered (numbered s))).next in
      let value = if_fits (typed_expression s e) (λ x. selected (value_type x) at x) in
      let labels = typed_labels [] (given_labels s 0 items) in
      let body = typed_statements (in_switch w) items (entered (numbered s)) in
      one_from s.next m (three value labels body (λ x ls b. fits (tree.Switch s.next x ls b)))
      (holds_both Always (λ p. Always p.0 × RowFrom (suc s.next) m p.1) (OneFrom s.next m) value (pair labels body)
      (λ x p. fits (tree.Switch s.next x p.0 p.1)) (always value)
      (holds_pair Always (RowFrom (suc s.next) m) labels body (always labels)
      (statements_from (in_switch w) items (entered (numbered s)))) (λ x p u v. (refl, v.1)))
  statement_from w (trees.While at o e c st) s =
      let m = (after_statement st (numbered s)).next in
      with_test s.next m (condition s at e) (alone (typed_statement (in_loop w) st (numbered s))) (tree.While s.next)
      (alone_from (suc s.next) m (typed_statement (in_loop w) st (numbered s))
      (statement_from (in_loop w) st (numbered s))) (λ x a h. (refl, h))
  statement_from w (trees.Do at st until o e c semicolon) s =
      let m = (after_statement st (numbered s)).next in
      let body = alone (typed_statement (in_loop w) st (numbered s)) in
      one_from s.next m (both body (condition s until e) (λ a x. fits (tree.Do s.next a x)))
      (holds_both (OneFrom (suc s.next) m) Always (OneFrom s.next m) body (condition s until e)
      (λ a x. fits (tree.Do s.next a x))
      (alone_from (suc s.next) m (typed_statement (in_loop w) st (numbered s))
      (statement_from (in_loop w) st (numbered s))) (always (condition s until e)) (λ a x h g. (refl, h)))
  statement_from w (trees.For at o start first e second step c st) s =
      let m = (after_statement st (numbered s)).next in
      for_from s.next (suc s.next) m (if_fits (typed_if_any s start) (λ x. fits (first_part x)))
      (condition_if_any s at e) (typed_if_any s step) (alone (typed_statement (in_loop w) st (numbered s)))
      (holds_if Always (λ f. From (suc s.next) (first_numbers f) (suc s.next)) (typed_if_any s start)
      (λ x. fits (first_part x)) (always (typed_if_any s start)) (λ x u. first_from (suc s.next) x))
      (alone_from (suc s.next) m (typed_statement (in_loop w) st (numbered s))
      (statement_from (in_loop w) st (numbered s)))
  statement_from w (trees.ForDeclaration at o start e second step c st) s =
      let outside = entered (numbered s) in
      let inside = after_declaration InFor start outside in
      let m = (after_statement st inside).next in
      for_from s.next inside.next m (if_fits (typed_declaration InFor start outside) (λ items.
      fits (tree.Declared items))) (condition_if_any inside at e) (typed_if_any inside step)
      (alone (typed_statement (in_loop w) st inside))
      (holds_if (ItemsFrom (suc s.next) inside.next) (λ f. From (suc s.next) (first_numbers f) inside.next)
      (typed_declaration InFor start outside) (λ items. fits (tree.Declared items))
      (declaration_from InFor start outside) (λ items h. h))
      (alone_from inside.next m (typed_statement (in_loop w) st inside) (statement_from (in_loop w) st inside))
  statement_from w (trees.Break at semicolon) s = jump_from s.next w.breaks at (tree.Break s.next) (refl, refl)
  statement_from w (trees.Continue at semicolon) s =
      jump_from s.next w.continues at (tree.Continue s.next) (refl, refl)
  statement_from w (trees.Return at e semicolon) s =
      one_from s.next (suc s.next) (if_fits (typed_if_any s e) (λ x. if_fits (returned w.result at x) (λ y.
      fits (tree.Return s.next y))))
      (holds_if Always (OneFrom s.next (suc s.next)) (typed_if_any s e) (λ x. if_fits (returned w.result at x) (λ y.
      fits (tree.Return s.next y))) (always (typed_if_any s e)) (λ x u.
      holds_if Always (OneFrom s.next (suc s.next)) (returned w.result at x) (λ y. fits (tree.Return s.next y))
      (always (returned w.result at x)) (λ y v. (refl, refl))))

  pub statements_from : (w : Around) (sts : Stmts) (s : Scope)
      → IfFits (RowFrom s.next (after_statements sts s).next) (typed_statements w sts s)
  statements_from w NoStmt s = refl
  statements_from w (OneStmt st others) s =
      let k = (after_statement st s).next in
      let m = (after_statements others (after_statement st s)).next in
      holds_both (ListFrom s.next k) (RowFrom k m) (RowFrom s.next m) (typed_statement w st s)
      (typed_statements w others (after_statement st s)) (λ sts rest. fits (row_before sts rest))
      (statement_from w st s) (statements_from w others (after_statement st s))
      (λ sts rest h g. row_from s.next k m sts rest h g)
