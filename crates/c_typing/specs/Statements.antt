-- Declared items and statements of a function's body (C99 6.7 and 6.8).
use Rattle.std.specs.Prelude.{ℕ, suc, ℤ, List, [], ◌∷◌, ◌++◌, length, map, Bool, true, false, Option, Some, None}
use Rattle.std.specs.Prelude.{if◌then◌else◌}
use Rattle.std.specs.List.{list_any}
use Rattle.std.specs.Ordering.{int_eq}
use Rattle.pcc_base.specs.declared.span.Span.{Span}
use Rattle.pcc_base.specs.declared.fault.Fault.{Fault}
use Rattle.pcc_base.specs.declared.fault.FaultKind.TheVariants.{Redeclared, TypeRule, Jump, CaseLabel}
use Rattle.c_syntax.specs.declared.expression.Identifier.{Identifier}
use Rattle.c_syntax.specs.Expressions.{Expr}
use Rattle.c_syntax.specs.Declarations.{ItemTree, DeclarationTree, ValueTree}
use Rattle.c_syntax.specs.Statements as trees
use Rattle.c_syntax.specs.Statements.{LabelTree, Stmt, Stmts, NoStmt, OneStmt}
use Rattle.c_tree.specs.declared.statement.Label.{Label}
use Rattle.c_tree.specs.declared.types.IntegerType.{IntegerType}
use Rattle.c_tree.specs.declared.types.ValueType.{ValueType}
use Rattle.c_tree.specs.declared.types.ValueType.TheVariants.{Void, Integer, Pointer}
use Rattle.c_tree.specs.Program as tree
use Rattle.c_tree.specs.Program.{value_type, Expression, Item, First, Statement, Statements, Done, Next}
use Rattle.c_typing.specs.Faults.{fault}
use Rattle.c_typing.specs.Library.{Entity, At}
use Rattle.c_typing.specs.Types.{Position, InBlock, InFor, Specified, specified, is_static}
use Rattle.c_typing.specs.Checked.{Contents, Zeros, Stores, Checked, Fits, Fails, fits, fails, also, if_fits}
use Rattle.c_typing.specs.Checked.{both, three, four}
use Rattle.c_typing.specs.Constants.{constant_value}
use Rattle.c_typing.specs.Declarators.{ObjectType, IntegerObject, PointerObject, ArrayObject, object_declared}
use Rattle.c_typing.specs.Declarators.{object_allowed, object_type, type_faults}
use Rattle.c_typing.specs.Expressions.{specifiers_at, typed_expression, typed_if_any}
use Rattle.c_typing.specs.Initialisers.{scalar_initialiser, array_initialiser, contents_for}
use Rattle.c_typing.specs.Names.{Object, ObjectArray, Scope, entered, left, is_declared_here, bound, with_local}
use Rattle.c_typing.specs.Names.{with_array, numbered}
use Rattle.c_typing.specs.Rows.{assigned, tested, selected}

-- ---- declared items of a block or a `for`

-- a name of static storage
abbrev pub bound_object : Identifier → Entity → ObjectType → Scope → Scope
bound_object name e (IntegerObject of) s = bound name.name (Object e of) s
bound_object name e (PointerObject of) s = s
bound_object name e (ArrayObject element count) s = bound name.name (ObjectArray e element) s

-- a local or array of the function; its item takes a number
abbrev pub bound_local : Identifier → ObjectType → Scope → Scope
bound_local name (IntegerObject of) s = with_local name.name (Integer of) (numbered s)
bound_local name (PointerObject of) s = with_local name.name (Pointer of) (numbered s)
bound_local name (ArrayObject element count) s = with_array name.name element count (numbered s)

abbrev pub bound_item : Bool → Identifier → Option ObjectType → Scope → Scope
bound_item static name None s = s
bound_item static name (Some type) s =
    if static then bound_object name (At name.at) type s else bound_local name type s

-- A name is seen behind its declarator, in its own initialiser already (C99 6.2.1p7).
abbrev pub after_item : Specified → ItemTree → Scope → Scope
after_item said i s =
    bound_item (is_static said.storage) i.declarator.name
    (object_type (is_static said.storage) s said i.declarator i.initialiser) s

abbrev pub after_items : Specified → List ItemTree → Scope → Scope
after_items said [] s = s
after_items said (i ∷ is) s = after_items said is (after_item said i s)

abbrev pub after_specified : Option Specified → List ItemTree → Scope → Scope
after_specified None items s = s
after_specified (Some said) items s = after_items said items s

abbrev pub after_declaration : Position → DeclarationTree → Scope → Scope
after_declaration position d s = after_specified (specified position d.specifiers) d.items s

abbrev pub elements_of : ObjectType → IntegerType
elements_of (IntegerObject of) = of
elements_of (PointerObject of) = of
elements_of (ArrayObject element count) = element

abbrev pub size_of : ObjectType → ℕ
size_of (IntegerObject of) = 1
size_of (PointerObject of) = 1
size_of (ArrayObject element count) = count

-- an object is declared, before what stands in its initialiser
abbrev pub stored : {A : Type 0} → Entity → ObjectType → A → Checked Contents → Checked A
stored e type value (Fits contents notes) =
    Fits value (Stores (record {
      entity = e;
      element = elements_of type;
      count = size_of type;
      contents = contents;
    }) ∷ notes)
stored e type value (Fails first others) = Fails first others

-- the item of a local, whose numbers are those before it; a static object is no item
abbrev pub local_item : Scope → Scope → ObjectType → Option ValueTree → Checked (List Item)
local_item s inside (IntegerObject of) value =
    if_fits (scalar_initialiser inside (Integer of) value) (λ e. fits (tree.Scalar s.next (length s.locals) e ∷ []))
local_item s inside (PointerObject of) value =
    if_fits (scalar_initialiser inside (Pointer of) value) (λ e. fits (tree.Scalar s.next (length s.locals) e ∷ []))
local_item s inside (ArrayObject element count) value =
    if_fits (array_initialiser inside element count value) (λ first.
    fits (tree.Array s.next (length s.arrays) element first ∷ []))

abbrev pub object_item : Bool → Scope → Scope → Identifier → Option ValueTree → ObjectType → Checked (List Item)
object_item static s inside name value type =
    if static then stored (At name.at) type [] (contents_for inside type Zeros value)
    else local_item s inside type value

-- within a scope a name is declared once (C99 6.7p3)
abbrev pub scope_faults : Scope → Identifier → List Fault
scope_faults s name = if is_declared_here s name.name then fault Redeclared name.at ∷ [] else []

-- an item, but for what its specifiers and `*` forbid whatever its size is
abbrev pub sized_item : Specified → ItemTree → Scope → Checked (List Item)
sized_item said i s =
    let static = is_static said.storage in
    let name = i.declarator.name in
    if_fits (object_declared s said i.declarator i.initialiser) (λ declared.
    also (scope_faults s name) (if_fits (object_allowed static name.at declared)
    (object_item static s (after_item said i s) name i.initialiser)))

-- a function is none that may stand here, and fails at its name beside what the scope says of it
abbrev pub typed_item : Specified → ItemTree → Scope → Checked (List Item)
typed_item said i s = also (type_faults (is_static said.storage) said i.declarator) (sized_item said i s)

abbrev pub typed_items : Specified → List ItemTree → Scope → Checked (List Item)
typed_items said [] s = fits []
typed_items said (i ∷ is) s =
    both (typed_item said i s) (typed_items said is (after_item said i s)) (λ xs ys. fits (xs ++ ys))

abbrev pub typed_declaration : Position → DeclarationTree → Scope → Checked (List Item)
typed_declaration position d s =
    if_fits (specifiers_at position d.specifiers) (λ said. typed_items said d.items s)

-- ---- the scope behind a statement

abbrev mutual
  pub after_statement : Stmt → Scope → Scope
  after_statement (trees.Declared d) s = after_declaration InBlock d s
  after_statement (trees.Labelled labels st) s = after_statement st s
  after_statement (trees.Block o items c) s = left s (after_statements items (entered s))
  after_statement (trees.Simple e semicolon) s = numbered s
  after_statement (trees.If at o e c st) s = after_statement st (numbered s)
  after_statement (trees.IfElse at o e c st otherwise other) s =
      after_statement other (after_statement st (numbered s))
  after_statement (trees.Switch at o e c begin items end) s = left s (after_statements items (entered (numbered s)))
  after_statement (trees.While at o e c st) s = after_statement st (numbered s)
  after_statement (trees.Do at st until o e c semicolon) s = after_statement st (numbered s)
  after_statement (trees.For at o start first e second step c st) s = after_statement st (numbered s)
  after_statement (trees.ForDeclaration at o start e second step c st) s =
      left s (after_statement st (after_declaration InFor start (entered (numbered s))))
  after_statement (trees.Break at semicolon) s = numbered s
  after_statement (trees.Continue at semicolon) s = numbered s
  after_statement (trees.Return at e semicolon) s = numbered s

  pub after_statements : Stmts → Scope → Scope
  after_statements NoStmt s = s
  after_statements (OneStmt st others) s = after_statements others (after_statement st s)

-- ---- labels of a switch (C99 6.8.4.2p3)

-- a label with its word, its value or none for `default`, and the number of statements before it
pub record GivenLabel : Type 0 where
  pub at : Span
  pub value : Checked (Option ℤ)
  pub before : ℕ

abbrev pub case_value : Span → Option ℤ → Checked (Option ℤ)
case_value at None = fails CaseLabel at
case_value at (Some n) = fits (Some n)

abbrev pub given_label : Scope → ℕ → LabelTree → GivenLabel
given_label s before (trees.Case at e colon) = record {
  at = at;
  value = if_fits (typed_expression s e) (λ x. case_value at (constant_value x));
  before = before;
}
given_label s before (trees.Default at colon) = record { at = at; value = fits None; before = before }

abbrev pub labels_before : Stmt → List LabelTree
labels_before (trees.Labelled labels st) = labels
labels_before st = []

abbrev pub given_labels : Scope → ℕ → Stmts → List GivenLabel
given_labels s before NoStmt = []
given_labels s before (OneStmt st others) =
    map (given_label s before) (labels_before st) ++ given_labels s (suc before) others

abbrev pub same_label : Option ℤ → Option ℤ → Bool
same_label None None = true
same_label (Some m) (Some n) = int_eq m n
same_label _ _ = false

abbrev pub one_label : List (Option ℤ) → Span → ℕ → Option ℤ → Checked Label
one_label earlier at before value =
    if list_any (same_label value) earlier then fails CaseLabel at
    else fits (record { value = value; before = before })

abbrev pub with_value : Checked (Option ℤ) → List (Option ℤ) → List (Option ℤ)
with_value (Fits value notes) earlier = value ∷ earlier
with_value (Fails first others) earlier = earlier

-- no value and no `default` stands twice
abbrev pub typed_labels : List (Option ℤ) → List GivenLabel → Checked (List Label)
typed_labels earlier [] = fits []
typed_labels earlier (g ∷ gs) =
    both (if_fits g.value (one_label earlier g.at g.before)) (typed_labels (with_value g.value earlier) gs)
    (λ l ls. fits (l ∷ ls))

-- ---- statements

-- what is around a statement: the function's result, and whether `break` and `continue` may stand there
pub record Around : Type 0 where
  pub result : ValueType
  pub breaks : Bool
  pub continues : Bool

abbrev pub in_loop : Around → Around
in_loop w = record w { breaks = true; continues = true }

abbrev pub in_switch : Around → Around
in_switch w = record w { breaks = true }

abbrev pub jump : Bool → Span → Statement → Checked Statement
jump may at st = if may then fits st else fails Jump at

-- a value is returned exactly where the function isn't void (C99 6.8.6.4p1)
abbrev pub returned : ValueType → Span → Option Expression → Checked (Option Expression)
returned Void at None = fits None
returned Void at (Some e) = fails TypeRule at
returned (Integer t) at None = fails TypeRule at
returned (Integer t) at (Some e) = if_fits (assigned (Integer t) at e) (λ x. fits (Some x))
returned (Pointer t) at None = fails TypeRule at
returned (Pointer t) at (Some e) = if_fits (assigned (Pointer t) at e) (λ x. fits (Some x))

abbrev pub condition : Scope → Span → Expr → Checked Expression
condition s at e = if_fits (typed_expression s e) (tested at)

abbrev pub condition_if_any : Scope → Span → Option Expr → Checked (Option Expression)
condition_if_any s at None = fits None
condition_if_any s at (Some e) = if_fits (condition s at e) (λ x. fits (Some x))

abbrev pub first_part : Option Expression → First
first_part None = tree.Nothing
first_part (Some e) = tree.Evaluated e

-- a declared item is a statement of its block
abbrev pub row_before : List Statement → Statements → Statements
row_before [] rest = rest
row_before (st ∷ sts) rest = Next st (row_before sts rest)

-- one statement; by the grammar a declaration, which may be several, stands in a block alone
abbrev pub as_one : List Statement → Statement
as_one [] = tree.Block Done
as_one (st ∷ []) = st
as_one (st ∷ (other ∷ sts)) = tree.Block (row_before (st ∷ (other ∷ sts)) Done)

abbrev pub alone : Checked (List Statement) → Checked Statement
alone part = if_fits part (λ sts. fits (as_one sts))

abbrev pub one : Checked Statement → Checked (List Statement)
one part = if_fits part (λ st. fits (st ∷ []))

-- the parts of a `for` (C99 6.8.5.3)
abbrev pub for_loop : ℕ → Checked First → Checked (Option Expression) → Checked (Option Expression) → Checked Statement
    → Checked (List Statement)
for_loop n first test step body =
    four first test step body (λ f t a st. fits (tree.For n f t a st ∷ []))

abbrev mutual
  -- the statements that a statement, or a declaration in a block, is
  pub typed_statement : Around → Stmt → Scope → Checked (List Statement)
  typed_statement w (trees.Declared d) s =
      if_fits (typed_declaration InBlock d s) (λ items. fits (map tree.Declare items))
  typed_statement w (trees.Labelled labels st) s = typed_statement w st s
  -- C99 6.8.2
  typed_statement w (trees.Block o items c) s =
      one (if_fits (typed_statements w items (entered s)) (λ body. fits (tree.Block body)))
  -- C99 6.8.3
  typed_statement w (trees.Simple None semicolon) s = one (fits (tree.Empty s.next))
  typed_statement w (trees.Simple (Some e) semicolon) s =
      one (if_fits (typed_expression s e) (λ x. fits (tree.Evaluate s.next x)))
  -- C99 6.8.4: an `else` that isn't there is an empty block
  typed_statement w (trees.If at o e c st) s =
      one (both (condition s at e) (alone (typed_statement w st (numbered s))) (λ x a.
      fits (tree.If s.next x a (tree.Block Done))))
  typed_statement w (trees.IfElse at o e c st otherwise other) s =
      one (three (condition s at e) (alone (typed_statement w st (numbered s)))
      (alone (typed_statement w other (after_statement st (numbered s)))) (λ x a b. fits (tree.If s.next x a b)))
  typed_statement w (trees.Switch at o e c begin items end) s =
      one (three (if_fits (typed_expression s e) (λ x. selected (value_type x) at x))
      (typed_labels [] (given_labels s 0 items)) (typed_statements (in_switch w) items (entered (numbered s)))
      (λ x labels body. fits (tree.Switch s.next x labels body)))
  -- C99 6.8.5; the condition of a `do` is judged at its `while`
  typed_statement w (trees.While at o e c st) s =
      one (both (condition s at e) (alone (typed_statement (in_loop w) st (numbered s))) (λ x a.
      fits (tree.While s.next x a)))
  typed_statement w (trees.Do at st until o e c semicolon) s =
      one (both (alone (typed_statement (in_loop w) st (numbered s))) (condition s until e) (λ a x.
      fits (tree.Do s.next a x)))
  typed_statement w (trees.For at o start first e second step c st) s =
      for_loop s.next (if_fits (typed_if_any s start) (λ x. fits (first_part x))) (condition_if_any s at e)
      (typed_if_any s step) (alone (typed_statement (in_loop w) st (numbered s)))
  typed_statement w (trees.ForDeclaration at o start e second step c st) s =
      let outside = entered (numbered s) in
      let inside = after_declaration InFor start outside in
      for_loop s.next (if_fits (typed_declaration InFor start outside) (λ items. fits (tree.Declared items)))
      (condition_if_any inside at e) (typed_if_any inside step) (alone (typed_statement (in_loop w) st inside))
  -- C99 6.8.6
  typed_statement w (trees.Break at semicolon) s = one (jump w.breaks at (tree.Break s.next))
  typed_statement w (trees.Continue at semicolon) s = one (jump w.continues at (tree.Continue s.next))
  typed_statement w (trees.Return at e semicolon) s =
      one (if_fits (typed_if_any s e) (λ x. if_fits (returned w.result at x) (λ y. fits (tree.Return s.next y))))

  pub typed_statements : Around → Stmts → Scope → Checked Statements
  typed_statements w NoStmt s = fits Done
  typed_statements w (OneStmt st others) s =
      both (typed_statement w st s) (typed_statements w others (after_statement st s)) (λ sts rest.
      fits (row_before sts rest))
