-- What comes of judging initialisers, declared items and statements defines no function.
use Rattle.std.proofs.Common.{refl, ℕ, zero, suc, Bool, true, false, List, [], ◌∷◌, ◌++◌, length, map}
use Rattle.std.specs.Prelude.{ℤ, Option, Some, None, nat_le, option_map}
use Rattle.std.specs.List.{AllByRecursion, list_any}
use Rattle.pcc_base.specs.declared.span.Span.{Span}
use Rattle.pcc_base.specs.declared.fault.FaultKind.TheVariants as kinds
use Rattle.pcc_base.specs.declared.fault.FaultKind.TheVariants.{TypeRule, CaseLabel}
use Rattle.c_syntax.specs.declared.expression.Identifier.{Identifier}
use Rattle.c_syntax.specs.declared.expression.TextPiece.{TextPiece}
use Rattle.c_syntax.specs.Expressions.{Expr, Exprs}
use Rattle.c_syntax.specs.Declarations.{ItemTree, DeclarationTree, ValueTree}
use Rattle.c_syntax.specs.Statements as trees
use Rattle.c_syntax.specs.Statements.{LabelTree, Stmt, Stmts, NoStmt, OneStmt}
use Rattle.c_tree.specs.declared.statement.Label.{Label}
use Rattle.c_tree.specs.declared.types.IntegerType.{IntegerType}
use Rattle.c_tree.specs.declared.types.ValueType.{ValueType}
use Rattle.c_tree.specs.declared.types.ValueType.TheVariants.{Void, Integer, Pointer}
use Rattle.c_tree.specs.Program as tree
use Rattle.c_tree.specs.Program.{value_type, Expression, Initialiser, Elements, Text, Item, First, Statement, Done}
use Rattle.c_tree.specs.Store.{converted}
use Rattle.c_typing.specs.Library.{Entity, At}
use Rattle.c_typing.specs.Types.{Position, InBlock, InFor, Specified, specified, is_static}
use Rattle.c_typing.specs.Checked.{Contents, Zeros, Values, Checked, Fits, Fails, fits, fails, also, if_fits, pair}
use Rattle.c_typing.specs.Checked.{both, three}
use Rattle.c_typing.specs.Constants.{constant_value}
use Rattle.c_typing.specs.Names.{Scope, entered, numbered}
use Rattle.c_typing.specs.Rows.{assigned, tested, selected}
use Rattle.c_typing.specs.Declarators.{ArrayValues, Letters, Listed, NoValues, array_values, ObjectType, IntegerObject}
use Rattle.c_typing.specs.Declarators.{PointerObject, ArrayObject, object_declared, object_allowed}
use Rattle.c_typing.specs.Declarators.{type_faults}
use Rattle.c_typing.specs.Expressions.{Given, given, first_piece, first_token, first_word, text_bytes, text_values}
use Rattle.c_typing.specs.Expressions.{text_note, text_entity, typed_expression, typed_if_any, specifiers_at}
use Rattle.c_typing.specs.Names.{object_number}
use Rattle.c_typing.specs.Initialisers.{values_for, scalar_values, letters_for, no_values, first_of, scalar_initialiser}
use Rattle.c_typing.specs.Initialisers.{elements_for, array_initialiser, constant_for, constants_for, constants_in}
use Rattle.c_typing.specs.Initialisers.{contents_for}
use Rattle.c_typing.specs.Statements.{stored, local_item, object_item, scope_faults, typed_item, typed_items}
use Rattle.c_typing.specs.Statements.{typed_declaration, after_item, after_declaration, after_statement, GivenLabel}
use Rattle.c_typing.specs.Statements.{case_value, given_label, labels_before, given_labels, same_label, one_label}
use Rattle.c_typing.specs.Statements.{with_value, typed_labels, Around, in_loop, in_switch, jump, returned, condition}
use Rattle.c_typing.specs.Statements.{condition_if_any, first_part, row_before, as_one, alone, one, for_loop}
use Rattle.c_typing.specs.Statements.{typed_statement, typed_statements}
use Rattle.c_typing.specs.Statements.{sized_item}
use Rattle.c_check.proofs.Quiet.{Quiet, quiet_if, quiet_pair, quiet_both, quiet_three, quiet_also, quiet_choice}
use Rattle.c_check.proofs.Quiet.{quiet_or, assigned_quiet, tested_quiet, selected_quiet, AreQuiet}
use Rattle.c_check.proofs.Quiet.{expression_quiet, given_quiet, if_any_quiet, declared_quiet, allowed_quiet}

-- ---- initialisers

values_quiet : {A : Type 0} (row : Span → Expression → Checked A) → ((at : Span) (e : Expression) → Quiet (row at e))
    → (room : ℕ) (gs : List Given) → AreQuiet gs → Quiet (values_for row room gs)
values_quiet row q room [] h = refl
values_quiet row q zero (g ∷ gs) h =
    quiet_both (if_fits g.value (λ e. fails kinds.Initialiser g.at)) (values_for row zero gs) (λ x xs. fits (x ∷ xs))
    (quiet_if g.value (λ e. fails kinds.Initialiser g.at) h.0 (λ e. refl)) (values_quiet row q zero gs h.1)
    (λ x xs. refl)
values_quiet row q (suc room) (g ∷ gs) h =
    quiet_both (if_fits g.value (row g.at)) (values_for row room gs) (λ x xs. fits (x ∷ xs))
    (quiet_if g.value (row g.at) h.0 (q g.at)) (values_quiet row q room gs h.1) (λ x xs. refl)

letters_quiet : {A : Type 0} (count : ℕ) (pieces : List TextPiece) (value : A) → Quiet (letters_for count pieces value)
letters_quiet count pieces value =
    quiet_choice (nat_le (length (text_bytes pieces)) count) (Fits value (text_note pieces ∷ []))
    (fails kinds.Initialiser (first_piece pieces)) refl refl

none_quiet : (A : Type 0) (s : Scope) (e : Expr) → Quiet {A = A} (no_values s e)
none_quiet A s e =
    quiet_if (typed_expression s e) (λ x. fails kinds.Initialiser (first_token e)) (expression_quiet s e) (λ x. refl)

scalar_quiet : (s : Scope) (of : ValueType) (v : Option ValueTree) → Quiet (scalar_initialiser s of v)
scalar_quiet s of None = refl
scalar_quiet s of (Some v) =
    let gs = given s (scalar_values v.value) in
    quiet_if (values_for (assigned of) 1 gs) (λ es. fits (first_of es))
    (values_quiet (assigned of) (assigned_quiet of) 1 gs (given_quiet s (scalar_values v.value))) (λ es. refl)

elements_quiet : (s : Scope) (element : IntegerType) (count : ℕ) (v : ArrayValues)
    → Quiet (elements_for s element count v)
elements_quiet s element count (Letters pieces) =
    letters_quiet count pieces (Text (object_number s (text_entity pieces)))
elements_quiet s element count (Listed es) =
    quiet_if (values_for (assigned (Integer element)) count (given s es)) (λ xs. fits (Elements xs))
    (values_quiet (assigned (Integer element)) (assigned_quiet (Integer element)) count (given s es) (given_quiet s es))
    (λ xs. refl)
elements_quiet s element count (NoValues e) = none_quiet Initialiser s e

array_quiet : (s : Scope) (element : IntegerType) (count : ℕ) (v : Option ValueTree)
    → Quiet (array_initialiser s element count v)
array_quiet s element count None = refl
array_quiet s element count (Some v) = elements_quiet s element count (array_values element v.value)

constant_quiet : (of : IntegerType) (at : Span) (e : Expression) → Quiet (constant_for of at e)
constant_quiet of at e = quiet_or (option_map (converted of) (constant_value e)) kinds.Initialiser at

constants_quiet : (s : Scope) (of : IntegerType) (room : ℕ) (es : Exprs) → Quiet (constants_for s of room es)
constants_quiet s of room es =
    quiet_if (values_for (constant_for of) room (given s es)) (λ ns. fits (Values ns))
    (values_quiet (constant_for of) (constant_quiet of) room (given s es) (given_quiet s es)) (λ ns. refl)

constants_in_quiet : (s : Scope) (element : IntegerType) (count : ℕ) (v : ArrayValues)
    → Quiet (constants_in s element count v)
constants_in_quiet s element count (Letters pieces) = letters_quiet count pieces (Values (text_values pieces))
constants_in_quiet s element count (Listed es) = constants_quiet s element count es
constants_in_quiet s element count (NoValues e) = none_quiet Contents s e

pub contents_quiet : (s : Scope) (type : ObjectType) (otherwise : Contents) (v : Option ValueTree)
    → Quiet (contents_for s type otherwise v)
contents_quiet s type otherwise None = refl
contents_quiet s (IntegerObject of) otherwise (Some v) = constants_quiet s of 1 (scalar_values v.value)
contents_quiet s (PointerObject of) otherwise (Some v) = constants_quiet s of 1 (scalar_values v.value)
contents_quiet s (ArrayObject element count) otherwise (Some v) =
    constants_in_quiet s element count (array_values element v.value)

-- ---- declared items

pub stored_quiet : {A : Type 0} (e : Entity) (type : ObjectType) (value : A) (c : Checked Contents) → Quiet c
    → Quiet (stored e type value c)
stored_quiet e type value (Fits contents notes) h = h
stored_quiet e type value (Fails f fs) h = refl

local_quiet : (s inside : Scope) (type : ObjectType) (v : Option ValueTree) → Quiet (local_item s inside type v)
local_quiet s inside (IntegerObject of) v =
    quiet_if (scalar_initialiser inside (Integer of) v) (λ e. fits (tree.Scalar s.next (length s.locals) e ∷ []))
    (scalar_quiet inside (Integer of) v) (λ e. refl)
local_quiet s inside (PointerObject of) v =
    quiet_if (scalar_initialiser inside (Pointer of) v) (λ e. fits (tree.Scalar s.next (length s.locals) e ∷ []))
    (scalar_quiet inside (Pointer of) v) (λ e. refl)
local_quiet s inside (ArrayObject element count) v =
    quiet_if (array_initialiser inside element count v) (λ first.
    fits (tree.Array s.next (length s.arrays) element first ∷ [])) (array_quiet inside element count v) (λ e. refl)

object_quiet : (static : Bool) (s inside : Scope) (name : Identifier) (v : Option ValueTree) (type : ObjectType)
    → Quiet (object_item static s inside name v type)
object_quiet true s inside name v type =
    stored_quiet (At name.at) type [] (contents_for inside type Zeros v) (contents_quiet inside type Zeros v)
object_quiet false s inside name v type = local_quiet s inside type v

item_quiet : (said : Specified) (i : ItemTree) (s : Scope) → Quiet (typed_item said i s)
item_quiet said i s =
    let static = is_static said.storage in
    let name = i.declarator.name in
    let make = object_item static s (after_item said i s) name i.initialiser in
    quiet_also (type_faults static said i.declarator) (sized_item said i s)
    (quiet_if (object_declared s said i.declarator i.initialiser) (λ declared.
    also (scope_faults s name) (if_fits (object_allowed static name.at declared) make))
    (declared_quiet s said i.declarator i.initialiser) (λ declared.
    quiet_also (scope_faults s name) (if_fits (object_allowed static name.at declared) make)
    (quiet_if (object_allowed static name.at declared) make (allowed_quiet static name.at declared)
    (object_quiet static s (after_item said i s) name i.initialiser))))

items_quiet : (said : Specified) (is : List ItemTree) (s : Scope) → Quiet (typed_items said is s)
items_quiet said [] s = refl
items_quiet said (i ∷ is) s =
    quiet_both (typed_item said i s) (typed_items said is (after_item said i s)) (λ xs ys. fits (xs ++ ys))
    (item_quiet said i s) (items_quiet said is (after_item said i s)) (λ xs ys. refl)

declaration_quiet : (position : Position) (d : DeclarationTree) (s : Scope) → Quiet (typed_declaration position d s)
declaration_quiet position d s =
    quiet_if (specifiers_at position d.specifiers) (λ said. typed_items said d.items s)
    (quiet_or (specified position d.specifiers) TypeRule (first_word d.specifiers))
    (λ said. items_quiet said d.items s)

-- ---- labels of a switch

case_quiet : (at : Span) (v : Option ℤ) → Quiet (case_value at v)
case_quiet at None = refl
case_quiet at (Some n) = refl

abbrev AreQuietLabels : List GivenLabel → Type 0
AreQuietLabels gs = AllByRecursion (λ (g : GivenLabel). Quiet g.value) gs

label_quiet : (s : Scope) (k : ℕ) (l : LabelTree) → Quiet (given_label s k l).value
label_quiet s k (trees.Case at e colon) =
    quiet_if (typed_expression s e) (λ x. case_value at (constant_value x)) (expression_quiet s e)
    (λ x. case_quiet at (constant_value x))
label_quiet s k (trees.Default at colon) = refl

map_quiet : (s : Scope) (k : ℕ) (ls : List LabelTree) (gs : List GivenLabel) → AreQuietLabels gs
    → AreQuietLabels (map (given_label s k) ls ++ gs)
map_quiet s k [] gs h = h
map_quiet s k (l ∷ ls) gs h = (label_quiet s k l, map_quiet s k ls gs h)

given_labels_quiet : (s : Scope) (k : ℕ) (items : Stmts) → AreQuietLabels (given_labels s k items)
given_labels_quiet s k NoStmt = tt
given_labels_quiet s k (OneStmt st others) =
    map_quiet s k (labels_before st) (given_labels s (suc k) others) (given_labels_quiet s (suc k) others)

one_quiet : (earlier : List (Option ℤ)) (at : Span) (before : ℕ) (v : Option ℤ) → Quiet (one_label earlier at before v)
one_quiet earlier at before v =
    let l : Label = record { value = v; before = before } in
    quiet_choice (list_any (same_label v) earlier) (fails CaseLabel at) (fits l) refl refl

labels_quiet : (earlier : List (Option ℤ)) (gs : List GivenLabel) → AreQuietLabels gs → Quiet (typed_labels earlier gs)
labels_quiet earlier [] h = refl
labels_quiet earlier (g ∷ gs) h =
    quiet_both (if_fits g.value (one_label earlier g.at g.before)) (typed_labels (with_value g.value earlier) gs)
    (λ l ls. fits (l ∷ ls))
    (quiet_if g.value (one_label earlier g.at g.before) h.0 (one_quiet earlier g.at g.before))
    (labels_quiet (with_value g.value earlier) gs h.1) (λ l ls. refl)

-- ---- statements

jump_quiet : (may : Bool) (at : Span) (st : Statement) → Quiet (jump may at st)
jump_quiet true at st = refl
jump_quiet false at st = refl

returned_quiet : (t : ValueType) (at : Span) (o : Option Expression) → Quiet (returned t at o)
returned_quiet Void at None = refl
returned_quiet Void at (Some e) = refl
returned_quiet (Integer t) at None = refl
returned_quiet (Integer t) at (Some e) =
    quiet_if (assigned (Integer t) at e) (λ x. fits (Some x)) (assigned_quiet (Integer t) at e) (λ x. refl)
returned_quiet (Pointer t) at None = refl
returned_quiet (Pointer t) at (Some e) =
    quiet_if (assigned (Pointer t) at e) (λ x. fits (Some x)) (assigned_quiet (Pointer t) at e) (λ x. refl)

condition_quiet : (s : Scope) (at : Span) (e : Expr) → Quiet (condition s at e)
condition_quiet s at e = quiet_if (typed_expression s e) (tested at) (expression_quiet s e) (tested_quiet at)

condition_if_any_quiet : (s : Scope) (at : Span) (o : Option Expr) → Quiet (condition_if_any s at o)
condition_if_any_quiet s at None = refl
condition_if_any_quiet s at (Some e) =
    quiet_if (condition s at e) (λ x. fits (Some x)) (condition_quiet s at e) (λ x. refl)

alone_quiet : (c : Checked (List Statement)) → Quiet c → Quiet (alone c)
alone_quiet c h = quiet_if c (λ sts. fits (as_one sts)) h (λ sts. refl)

list_quiet : (c : Checked Statement) → Quiet c → Quiet (one c)
list_quiet c h = quiet_if c (λ st. fits (st ∷ [])) h (λ st. refl)

for_quiet : (n : ℕ) (a : Checked First) (b c : Checked (Option Expression)) (d : Checked Statement) → Quiet a
    → Quiet b → Quiet c → Quiet d → Quiet (for_loop n a b c d)
for_quiet n a b c d h i j k =
    quiet_both (pair a b) (pair c d) (λ x y. fits (tree.For n x.0 x.1 y.0 y.1 ∷ [])) (quiet_pair a b h i)
    (quiet_pair c d j k) (λ x y. refl)

mutual
  statement_quiet : (w : Around) (st : Stmt) (s : Scope) → Quiet (typed_statement w st s)
  statement_quiet w (trees.Declared d) s =
      quiet_if (typed_declaration InBlock d s) (λ items. fits (map tree.Declare items)) (declaration_quiet InBlock d s)
      (λ items. refl)
  statement_quiet w (trees.Labelled labels st) s = statement_quiet w st s
  statement_quiet w (trees.Block o items c) s =
      let body = typed_statements w items (entered s) in
      list_quiet (if_fits body (λ b. fits (tree.Block b)))
      (quiet_if body (λ b. fits (tree.Block b)) (statements_quiet w items (entered s)) (λ b. refl))
  statement_quiet w (trees.Simple None semicolon) s = refl
  statement_quiet w (trees.Simple (Some e) semicolon) s =
      list_quiet (if_fits (typed_expression s e) (λ x. fits (tree.Evaluate s.next x)))
      (quiet_if (typed_expression s e) (λ x. fits (tree.Evaluate s.next x)) (expression_quiet s e) (λ x. refl))
  statement_quiet w (trees.If at o e c st) s =
      let a = typed_statement w st (numbered s) in
      list_quiet (both (condition s at e) (alone a) (λ x b. fits (tree.If s.next x b (tree.Block Done))))
      (quiet_both (condition s at e) (alone a) (λ x b. fits (tree.If s.next x b (tree.Block Done)))
      (condition_quiet s at e) (alone_quiet a (statement_quiet w st (numbered s))) (λ x b. refl))
  statement_quiet w (trees.IfElse at o e c st otherwise other) s =
      let t = after_statement st (numbered s) in
      let a = typed_statement w st (numbered s) in
      let b = typed_statement w other t in
      list_quiet (three (condition s at e) (alone a) (alone b) (λ x y z. fits (tree.If s.next x y z)))
      (quiet_three (condition s at e) (alone a) (alone b) (λ x y z. fits (tree.If s.next x y z))
      (condition_quiet s at e) (alone_quiet a (statement_quiet w st (numbered s)))
      (alone_quiet b (statement_quiet w other t)) (λ x y z. refl))
  statement_quiet w (trees.Switch at o e c begin items end) s =
      let inside = entered (numbered s) in
      let value = if_fits (typed_expression s e) (λ x. selected (value_type x) at x) in
      let labels = typed_labels [] (given_labels s 0 items) in
      let body = typed_statements (in_switch w) items inside in
      list_quiet (three value labels body (λ x ls b. fits (tree.Switch s.next x ls b)))
      (quiet_three value labels body (λ x ls b. fits (tree.Switch s.next x ls b))
      (quiet_if (typed_expression s e) (λ x. selected (value_type x) at x) (expression_quiet s e)
      (λ x. selected_quiet (value_type x) at x)) (labels_quiet [] (given_labels s 0 items) (given_labels_quiet s 0
      items))
      (statements_quiet (in_switch w) items inside) (λ x ls b. refl))
  statement_quiet w (trees.While at o e c st) s =
      let a = typed_statement (in_loop w) st (numbered s) in
      list_quiet (both (condition s at e) (alone a) (λ x b. fits (tree.While s.next x b)))
      (quiet_both (condition s at e) (alone a) (λ x b. fits (tree.While s.next x b)) (condition_quiet s at e)
      (alone_quiet a (statement_quiet (in_loop w) st (numbered s))) (λ x b. refl))
  statement_quiet w (trees.Do at st until o e c semicolon) s =
      let a = typed_statement (in_loop w) st (numbered s) in
      list_quiet (both (alone a) (condition s until e) (λ b x. fits (tree.Do s.next b x)))
      (quiet_both (alone a) (condition s until e) (λ b x. fits (tree.Do s.next b x))
      (alone_quiet a (statement_quiet (in_loop w) st (numbered s))) (condition_quiet s until e) (λ b x. refl))
  statement_quiet w (trees.For at o start first e second step c st) s =
      let a = typed_statement (in_loop w) st (numbered s) in
      for_quiet s.next (if_fits (typed_if_any s start) (λ x. fits (first_part x))) (condition_if_any s at e)
      (typed_if_any s step) (alone a)
      (quiet_if (typed_if_any s start) (λ x. fits (first_part x)) (if_any_quiet s start) (λ x. refl))
      (condition_if_any_quiet s at e) (if_any_quiet s step)
      (alone_quiet a (statement_quiet (in_loop w) st (numbered s)))
  statement_quiet w (trees.ForDeclaration at o start e second step c st) s =
      let outside = entered (numbered s) in
      let inside = after_declaration InFor start outside in
      let a = typed_statement (in_loop w) st inside in
      let first = typed_declaration InFor start outside in
      for_quiet s.next (if_fits first (λ items. fits (tree.Declared items))) (condition_if_any inside at e)
      (typed_if_any inside step) (alone a)
      (quiet_if first (λ items. fits (tree.Declared items)) (declaration_quiet InFor start outside) (λ items. refl))
      (condition_if_any_quiet inside at e) (if_any_quiet inside step)
      (alone_quiet a (statement_quiet (in_loop w) st inside))
  statement_quiet w (trees.Break at semicolon) s =
      list_quiet (jump w.breaks at (tree.Break s.next)) (jump_quiet w.breaks at (tree.Break s.next))
  statement_quiet w (trees.Continue at semicolon) s =
      list_quiet (jump w.continues at (tree.Continue s.next)) (jump_quiet w.continues at (tree.Continue s.next))
  statement_quiet w (trees.Return at e semicolon) s =
      let make : Option Expression → Checked Statement =
      λ x. if_fits (returned w.result at x) (λ y. fits (tree.Return s.next y)) in
      list_quiet (if_fits (typed_if_any s e) make)
      (quiet_if (typed_if_any s e) make (if_any_quiet s e) (λ x.
      quiet_if (returned w.result at x) (λ y. fits (tree.Return s.next y)) (returned_quiet w.result at x) (λ y. refl)))

  pub statements_quiet : (w : Around) (sts : Stmts) (s : Scope) → Quiet (typed_statements w sts s)
  statements_quiet w NoStmt s = refl
  statements_quiet w (OneStmt st others) s =
      let t = after_statement st s in
      quiet_both (typed_statement w st s) (typed_statements w others t) (λ sts rest. fits (row_before sts rest))
      (statement_quiet w st s) (statements_quiet w others t) (λ sts rest. refl)
