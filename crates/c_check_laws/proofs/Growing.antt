-- Behind a part of a function's body there are the locals and arrays that were there before, and maybe more: locals are
-- scalars, and arrays have elements.
use Rattle.std.proofs.Common.{arith, ◌≡◌, refl, sym, ap, ◌∙◌, ℕ, zero, suc, ◌≤◌, pos, negsuc, Bool, true, false, List}
use Rattle.std.proofs.Common.{[]}
use Rattle.std.proofs.Common.{◌∷◌, ◌++◌}
use Rattle.std.specs.Prelude.{ℤ, Option, Some, None, IfSome}
use Rattle.std.specs.List.{AllByRecursion}
use Rattle.std.proofs.lemmas.List.{append-nil, append_assoc}
use Rattle.pcc_base.specs.declared.span.Span.{Span}
use Rattle.pcc_base.proofs.Lists.{all-append}
use Rattle.c_syntax.specs.declared.expression.Identifier.{Identifier}
use Rattle.c_syntax.specs.declared.expression.TextPiece.{TextPiece}
use Rattle.c_syntax.specs.Expressions.{Expr, NoExpr, OneExpr}
use Rattle.c_syntax.specs.Declarations as parts
use Rattle.c_syntax.specs.Declarations.{ItemTree, DeclarationTree, PartTree, InitialiserTree, Single, Braces}
use Rattle.c_syntax.specs.Declarations.{ValueTree}
use Rattle.c_syntax.specs.DeclarationTokens.{IsInitialiser, IsMaybeValue, IsItem, IsDeclaration, AreItems as AreSome}
use Rattle.c_syntax.specs.Statements as trees
use Rattle.c_syntax.specs.Statements.{Stmt, Stmts, NoStmt, OneStmt}
use Rattle.c_syntax.specs.StatementTokens.{IsStmt, AreItems, AreCases}
use Rattle.c_tree.specs.declared.types.IntegerType.{IntegerType}
use Rattle.c_tree.specs.declared.types.IntegerType.TheVariants.{Char, Short, Int, UnsignedInt}
use Rattle.c_tree.specs.declared.types.ValueType.{ValueType}
use Rattle.c_tree.specs.declared.types.ValueType.TheVariants.{Void, Integer, Pointer}
use Rattle.c_tree.specs.Program as tree
use Rattle.c_tree.specs.WellTyped.{IsScalar}
use Rattle.c_typing.specs.Library.{At}
use Rattle.c_typing.specs.Types.{Position, InBlock, InFor, Specified, specified, is_static, pointed, Declared}
use Rattle.c_typing.specs.Types.{DeclaredValue, DeclaredArray, DeclaredFunction}
use Rattle.c_typing.specs.Checked.{Checked, Fits, Fails, fits, if_fits, value_in}
use Rattle.c_typing.specs.Constants.{constant_value}
use Rattle.c_typing.specs.Declarators.{ArrayValues, Listed, NoValues, text_of, only_text, letters_or, array_values}
use Rattle.c_typing.specs.Declarators.{char_values, other_values, count_of, count_given, count_by_value, at_least_one}
use Rattle.c_typing.specs.Declarators.{size_or}
use Rattle.c_typing.specs.Declarators.{part_type, object_declared, ObjectType, IntegerObject, PointerObject}
use Rattle.c_typing.specs.Declarators.{ArrayObject}
use Rattle.c_typing.specs.Declarators.{object_allowed, object_type}
use Rattle.c_typing.specs.Expressions.{typed_expression}
use Rattle.c_typing.specs.Names.{Scope, entered, left, numbered}
use Rattle.c_typing.specs.Statements.{bound_object, bound_item, after_item, after_items, after_specified}
use Rattle.c_typing.specs.Statements.{after_declaration, after_statement, after_statements}
use Rattle.c_typing.proofs.CountUp.{IfFits, holds_if, Always, always}

-- ---- sizes of arrays

at_least : (o : Span) (v : Option ℤ) → IfFits (λ n. 1 ≤ n) (at_least_one o v)
at_least o None = tt
at_least o (Some (negsuc n)) = tt
at_least o (Some (pos zero)) = tt
at_least o (Some (pos (suc n))) = omega arith

size_counts : (s : Scope) (o : Span) (given : Option ℕ) (size : Option Expr) → IfSome given (λ n. 1 ≤ n)
    → IfFits (λ n. 1 ≤ n) (size_or s o given size)
size_counts s o None None h = tt
size_counts s o (Some n) None h = h
size_counts s o given (Some e) h =
    holds_if Always (λ n. 1 ≤ n) (typed_expression s e) (λ x. at_least_one o (constant_value x))
    (always (typed_expression s e)) (λ x u. at_least o (constant_value x))

one_more : (n : ℕ) → 1 ≤ suc n
one_more n = omega arith

letters_count : (o : Option (List TextPiece)) (other : ArrayValues) → IfSome (count_given other) (λ n. 1 ≤ n)
    → IfSome (count_given (letters_or o other)) (λ n. 1 ≤ n)
letters_count None other h = h
letters_count (Some pieces) other h = one_more _

char_count : (v : InitialiserTree) → IsInitialiser v → IfSome (count_given (char_values v)) (λ n. 1 ≤ n)
char_count (Single e) h = letters_count (text_of e) (NoValues e) tt
char_count (Braces o NoExpr commas trailing c) h = absurd h
char_count (Braces o (OneExpr e es) commas trailing c) h =
    letters_count (only_text (OneExpr e es)) (Listed (OneExpr e es)) (one_more (count_of es))

other_count : (v : InitialiserTree) → IsInitialiser v → IfSome (count_given (other_values v)) (λ n. 1 ≤ n)
other_count (Single e) h = tt
other_count (Braces o NoExpr commas trailing c) h = absurd h
other_count (Braces o (OneExpr e es) commas trailing c) h = one_more (count_of es)

values_count : (t : IntegerType) (v : InitialiserTree) → IsInitialiser v
    → IfSome (count_given (array_values t v)) (λ n. 1 ≤ n)
values_count Char v h = char_count v h
values_count Short v h = other_count v h
values_count Int v h = other_count v h
values_count UnsignedInt v h = other_count v h

value_count : (of : Option ValueType) (v : Option ValueTree) → IsMaybeValue v
    → IfSome (count_by_value of v) (λ n. 1 ≤ n)
value_count (Some (Integer t)) (Some v) h = values_count t v.value h
value_count (Some (Pointer t)) (Some v) h = other_count v.value h
value_count (Some Void) (Some v) h = other_count v.value h
value_count None (Some v) h = other_count v.value h
value_count None None h = tt
value_count (Some (Integer t)) None h = tt
value_count (Some (Pointer t)) None h = tt
value_count (Some Void) None h = tt

-- an array has elements
abbrev pub Counts : Declared → Type 0
Counts (DeclaredValue of) = Unit {0}
Counts (DeclaredArray of n) = 1 ≤ n
Counts (DeclaredFunction result parameters) = Unit {0}

pub part_counts : (s : Scope) (of : Option ValueType) (v : Option ValueTree) (p : PartTree)
    → IsMaybeValue v → IfFits Counts (part_type s of v p)
part_counts s of v parts.Plain h = tt
part_counts s of v (parts.Array a) h =
    holds_if (λ n. 1 ≤ n) Counts (size_or s a.opening (count_by_value of v) a.size) (λ count.
    fits (DeclaredArray of count)) (size_counts s a.opening (count_by_value of v) a.size (value_count of v h))
    (λ n k. k)
part_counts s of v (parts.Function ps) h = tt

abbrev pub ObjectCounts : ObjectType → Type 0
ObjectCounts (IntegerObject of) = Unit {0}
ObjectCounts (PointerObject of) = Unit {0}
ObjectCounts (ArrayObject element n) = 1 ≤ n

pub allowed_counts : (static : Bool) (at : Span) (d : Declared) → Counts d
    → IfFits ObjectCounts (object_allowed static at d)
allowed_counts static at (DeclaredValue None) h = tt
allowed_counts static at (DeclaredValue (Some Void)) h = tt
allowed_counts static at (DeclaredValue (Some (Integer t))) h = tt
allowed_counts true at (DeclaredValue (Some (Pointer t))) h = tt
allowed_counts false at (DeclaredValue (Some (Pointer t))) h = tt
allowed_counts static at (DeclaredArray None n) h = tt
allowed_counts static at (DeclaredArray (Some Void) n) h = tt
allowed_counts static at (DeclaredArray (Some (Integer t)) n) h = h
allowed_counts static at (DeclaredArray (Some (Pointer t)) n) h = tt
allowed_counts static at (DeclaredFunction result ps) h = tt

pub some_value : {A : Type 0} (P : A → Type 0) (c : Checked A) → IfFits P c → IfSome (value_in c) P
some_value P (Fits a ns) h = h
some_value P (Fails f fs) h = tt

type_counts : (static : Bool) (s : Scope) (said : Specified) (i : ItemTree) → IsItem i
    → IfSome (object_type static s said i.declarator i.initialiser) ObjectCounts
type_counts static s said i h =
    let d = i.declarator in
    let c = object_declared s said d i.initialiser in
    some_value ObjectCounts (if_fits c (object_allowed static d.name.at))
    (holds_if Counts ObjectCounts c (object_allowed static d.name.at)
    (part_counts s (pointed said.base d.pointer) i.initialiser d.part h.1)
    (λ x k. allowed_counts static d.name.at x k))

-- ---- scopes

-- the second scope stands behind the first one, in a function's body
pub record Grows (s t : Scope) : Type 0 where
  pub numbers : t.numbers ≡ s.numbers
  pub outer : t.outer ≡ s.outer
  pub more_locals : List tree.Local
  pub locals : t.locals ≡ s.locals ++ more_locals
  pub scalars : AllByRecursion (λ (l : tree.Local). IsScalar l.of) more_locals
  pub more_arrays : List tree.LocalArray
  pub arrays : t.arrays ≡ s.arrays ++ more_arrays
  pub counts : AllByRecursion (λ (a : tree.LocalArray). 1 ≤ a.count) more_arrays

pub grows_same : (s t : Scope) → t.numbers ≡ s.numbers → t.outer ≡ s.outer → t.locals ≡ s.locals
    → t.arrays ≡ s.arrays → Grows s t
grows_same s t n o l a = record {
  numbers = n;
  outer = o;
  more_locals = [];
  locals = l ∙ sym (append-nil s.locals);
  scalars = tt;
  more_arrays = [];
  arrays = a ∙ sym (append-nil s.arrays);
  counts = tt;
}

pub grows_itself : (s : Scope) → Grows s s
grows_itself s = grows_same s s refl refl refl refl

pub grows_on : (s t u : Scope) → Grows s t → Grows t u → Grows s u
grows_on s t u g h = record {
  numbers = h.numbers ∙ g.numbers;
  outer = h.outer ∙ g.outer;
  more_locals = g.more_locals ++ h.more_locals;
  locals = h.locals ∙ ap (λ xs. xs ++ h.more_locals) g.locals
      ∙ append_assoc s.locals g.more_locals h.more_locals;
  scalars = all-append (λ (l : tree.Local). IsScalar l.of) g.more_locals h.more_locals g.scalars h.scalars;
  more_arrays = g.more_arrays ++ h.more_arrays;
  arrays = h.arrays ∙ ap (λ xs. xs ++ h.more_arrays) g.arrays
      ∙ append_assoc s.arrays g.more_arrays h.more_arrays;
  counts = all-append (λ (a : tree.LocalArray). 1 ≤ a.count) g.more_arrays h.more_arrays g.counts h.counts;
}

pub grows_entered : (s : Scope) → Grows s (entered s)
grows_entered s = grows_same s (entered s) refl refl refl refl

pub grows_numbered : (s : Scope) → Grows s (numbered s)
grows_numbered s = grows_same s (numbered s) refl refl refl refl

pub grows_left : (s outside inside : Scope) → Grows s inside → Grows s (left outside inside)
grows_left s outside inside g = record {
  numbers = g.numbers;
  outer = g.outer;
  more_locals = g.more_locals;
  locals = g.locals;
  scalars = g.scalars;
  more_arrays = g.more_arrays;
  arrays = g.arrays;
  counts = g.counts;
}

abbrev new_local : Identifier → ValueType → tree.Local
new_local name of = record { name = name.name; of = of }

abbrev new_array : Identifier → IntegerType → ℕ → tree.LocalArray
new_array name element n = record { name = name.name; element = element; count = n }

grows_bound : (static : Bool) (name : Identifier) (type : ObjectType) (s : Scope) → ObjectCounts type
    → Grows s (bound_item static name (Some type) s)
grows_bound true name (IntegerObject of) s h =
    grows_same s (bound_object name (At name.at) (IntegerObject of) s) refl refl refl refl
grows_bound true name (PointerObject of) s h = grows_itself s
grows_bound true name (ArrayObject element n) s h =
    grows_same s (bound_object name (At name.at) (ArrayObject element n) s) refl refl refl refl
grows_bound false name (IntegerObject of) s h = record {
  numbers = refl;
  outer = refl;
  more_locals = new_local name (Integer of) ∷ [];
  locals = refl;
  scalars = (tt, tt);
  more_arrays = [];
  arrays = sym (append-nil s.arrays);
  counts = tt;
}
grows_bound false name (PointerObject of) s h = record {
  numbers = refl;
  outer = refl;
  more_locals = new_local name (Pointer of) ∷ [];
  locals = refl;
  scalars = (tt, tt);
  more_arrays = [];
  arrays = sym (append-nil s.arrays);
  counts = tt;
}
grows_bound false name (ArrayObject element n) s h = record {
  numbers = refl;
  outer = refl;
  more_locals = [];
  locals = sym (append-nil s.locals);
  scalars = tt;
  more_arrays = new_array name element n ∷ [];
  arrays = refl;
  counts = (h, tt);
}

grows_if_bound : (static : Bool) (name : Identifier) (o : Option ObjectType) (s : Scope) → IfSome o ObjectCounts
    → Grows s (bound_item static name o s)
grows_if_bound static name None s h = grows_itself s
grows_if_bound static name (Some type) s h = grows_bound static name type s h

pub grows_item : (said : Specified) (i : ItemTree) → IsItem i → (s : Scope) → Grows s (after_item said i s)
grows_item said i h s =
    let static = is_static said.storage in
    grows_if_bound static i.declarator.name (object_type static s said i.declarator i.initialiser) s
    (type_counts static s said i h)

pub grows_items : (said : Specified) (is : List ItemTree) → AllByRecursion IsItem is → (s : Scope)
    → Grows s (after_items said is s)
grows_items said [] h s = grows_itself s
grows_items said (i ∷ is) h s =
    let t = after_item said i s in
    grows_on s t (after_items said is t) (grows_item said i h.0 s) (grows_items said is h.1 t)

grows_specified : (o : Option Specified) (is : List ItemTree) → AllByRecursion IsItem is → (s : Scope)
    → Grows s (after_specified o is s)
grows_specified None is h s = grows_itself s
grows_specified (Some said) is h s = grows_items said is h s

-- the items of a declaration
pub are_items : (is : List ItemTree) → AreSome is → AllByRecursion IsItem is
are_items [] h = absurd h
are_items (i ∷ is) h = h

pub grows_declaration : (position : Position) (d : DeclarationTree) → IsDeclaration d → (s : Scope)
    → Grows s (after_declaration position d s)
grows_declaration position d h s =
    grows_specified (specified position d.specifiers) d.items (are_items d.items h.1) s

-- each statement is one of the grammar
abbrev pub Each : Stmts → Type 0
Each NoStmt = Unit {0}
Each (OneStmt st others) = IsStmt st × Each others

pub items_each : (sts : Stmts) → AreItems sts → Each sts
items_each NoStmt h = tt
items_each (OneStmt st others) h = (h.0, items_each others h.2)

pub cases_each : (sts : Stmts) → AreCases sts → Each sts
cases_each NoStmt h = tt
cases_each (OneStmt st others) h = (h.0, cases_each others h.2)

mutual
  pub grows_statement : (st : Stmt) → IsStmt st → (s : Scope) → Grows s (after_statement st s)
  grows_statement (trees.Declared d) h s = grows_declaration InBlock d h s
  grows_statement (trees.Labelled labels st) h s = grows_statement st h.1 s
  grows_statement (trees.Block o items c) h s =
      let t = after_statements items (entered s) in
      grows_left s s t (grows_on s (entered s) t (grows_entered s) (grows_statements items (items_each items h)
      (entered s)))
  grows_statement (trees.Simple e semicolon) h s = grows_numbered s
  grows_statement (trees.If at o e c st) h s =
      grows_on s (numbered s) (after_statement st (numbered s)) (grows_numbered s) (grows_statement st h.1 (numbered s))
  grows_statement (trees.IfElse at o e c st otherwise other) h s =
      let t = after_statement st (numbered s) in
      grows_on s t (after_statement other t)
      (grows_on s (numbered s) t (grows_numbered s) (grows_statement st h.1 (numbered s))) (grows_statement other h.4 t)
  grows_statement (trees.Switch at o e c begin items end) h s =
      let n = entered (numbered s) in
      let t = after_statements items n in
      grows_left s s t (grows_on s n t (grows_same s n refl refl refl refl)
      (grows_statements items (cases_each items h.1) n))
  grows_statement (trees.While at o e c st) h s =
      grows_on s (numbered s) (after_statement st (numbered s)) (grows_numbered s) (grows_statement st h.1 (numbered s))
  grows_statement (trees.Do at st until o e c semicolon) h s =
      grows_on s (numbered s) (after_statement st (numbered s)) (grows_numbered s) (grows_statement st h.0 (numbered s))
  grows_statement (trees.For at o start first e second step c st) h s =
      grows_on s (numbered s) (after_statement st (numbered s)) (grows_numbered s) (grows_statement st h.3 (numbered s))
  grows_statement (trees.ForDeclaration at o start e second step c st) h s =
      let n = entered (numbered s) in
      let t = after_declaration InFor start n in
      let u = after_statement st t in
      grows_left s s u (grows_on s t u (grows_on s n t (grows_same s n refl refl refl refl)
      (grows_declaration InFor start h.0 n)) (grows_statement st h.3 t))
  grows_statement (trees.Break at semicolon) h s = grows_numbered s
  grows_statement (trees.Continue at semicolon) h s = grows_numbered s
  grows_statement (trees.Return at e semicolon) h s = grows_numbered s

  pub grows_statements : (sts : Stmts) → Each sts → (s : Scope) → Grows s (after_statements sts s)
  grows_statements NoStmt h s = grows_itself s
  grows_statements (OneStmt st others) h s =
      let t = after_statement st s in
      grows_on s t (after_statements others t) (grows_statement st h.0 s) (grows_statements others h.1 t)
