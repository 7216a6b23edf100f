-- Expressions have the same faults and notes whatever numbers things have, and trees that differ in numbers alone.
use Rattle.std.proofs.Common.{arith, ◌≡◌, refl, ap, subst, ◌∙◌, List, [], ◌∷◌, length}
use Rattle.std.specs.Prelude.{Option, Some, None, ◌&&◌, ◌==◌, if◌then◌else◌, suc}
use Rattle.pcc_base.specs.declared.span.Span.{Span}
use Rattle.pcc_base.specs.declared.fault.Fault.{Fault}
use Rattle.pcc_base.specs.declared.fault.FaultKind.TheVariants.{Undeclared, TypeRule, ArgumentCount, PointerUse}
use Rattle.c_syntax.specs.declared.expression.Identifier.{Identifier as Ident}
use Rattle.c_syntax.specs.Expressions as trees
use Rattle.c_syntax.specs.Expressions.{Expr, Exprs, NoExpr, OneExpr}
use Rattle.c_tree.specs.declared.types.ValueType.{ValueType}
use Rattle.c_tree.specs.Program as tree
use Rattle.c_tree.specs.Program.{Expression, Arguments, NoMore, Argument}
use Rattle.c_typing.specs.Faults.{fault}
use Rattle.c_typing.specs.Library.{Entity, Library, Shared, OfFile, At}
use Rattle.c_typing.specs.Library as library
use Rattle.c_typing.specs.Types.{is_pointer}
use Rattle.c_typing.specs.Checked.{Checked, Fits, Fails, fits, also, if_fits, pair}
use Rattle.c_typing.specs.Names.{Numbers, Meaning, Local, LocalArray, Object, ObjectArray, Function, Signature, Scope}
use Rattle.c_typing.specs.Names.{meaning_of}
use Rattle.c_typing.specs.Rows.{assigned, unary_row, step_row, place_named, cast_row, binary_row, index_row}
use Rattle.c_typing.specs.Rows.{conditional_row, assignment_row}
use Rattle.c_typing.specs.Expressions.{type_name, named, Given, arguments_for, has_type}
use Rattle.c_typing.specs.Expressions.{have_types, count_faults, library_call, call_of, function_call, not_called}
use Rattle.c_typing.specs.Expressions.{called}
use Rattle.c_typing.specs.Expressions.{postfix_op, prefix_op, typed_expression, given, typed_if_any}
use Rattle.c_typing.proofs.Bare.{bare, bare_arguments}
use Rattle.c_typing.proofs.Agree.{Agree, Both, faults_agree, agree_itself, agree_if_fits, agree_pair, agree_also}
use Rattle.c_typing.proofs.Agree.{agree_both}
use Rattle.c_typing.proofs.RowsAgree.{Twins, assigned_agree, step_agree, unary_agree, cast_agree, binary_agree}
use Rattle.c_typing.proofs.RowsAgree.{index_agree, conditional_agree, assignment_agree}

-- the same scope with other numbers
abbrev pub renumbered : Numbers → Scope → Scope
renumbered m s = record s { numbers = m }

-- the same arguments but for numbers
abbrev pub TwinArguments : Arguments → Arguments → Type 0
TwinArguments x y = bare_arguments x ≡ bare_arguments y

-- lists of expressions that stand at the same places and agree
abbrev pub GivenAgree : List Given → List Given → Type 0
GivenAgree [] [] = Unit {0}
GivenAgree [] (h ∷ hs) = ⊥
GivenAgree (g ∷ gs) [] = ⊥
GivenAgree (g ∷ gs) (h ∷ hs) = (g.at ≡ h.at) × Agree Twins g.value h.value × GivenAgree gs hs

-- ---- calls

argument_twins : (e f : Expression) (es fs : Arguments) → Twins e f → TwinArguments es fs
    → TwinArguments (Argument e es) (Argument f fs)
argument_twins e f es fs h k = ap (λ x. Argument x (bare_arguments es)) h ∙ ap (Argument (bare f)) k

assigned_at : (t : ValueType) (a b : Span) (x y : Expression) → a ≡ b → Twins x y
    → Agree Twins (assigned t a x) (assigned t b y)
assigned_at t a b x y e h = subst (λ c. Agree Twins (assigned t a x) (assigned t c y)) e (assigned_agree t a x y h)

pub arguments_agree : (types : List ValueType) (gs hs : List Given) → GivenAgree gs hs
    → Agree TwinArguments (arguments_for types gs) (arguments_for types hs)
arguments_agree types [] [] h = (refl, refl)
arguments_agree types [] (g ∷ gs) h = absurd h
arguments_agree types (g ∷ gs) [] h = absurd h
arguments_agree [] (g ∷ gs) (k ∷ ks) h =
    agree_both Twins TwinArguments TwinArguments g.value k.value (arguments_for [] gs) (arguments_for [] ks)
    (λ e es. fits (Argument e es)) (λ e es. fits (Argument e es)) h.1 (arguments_agree [] gs ks h.2)
    (λ e f es fs a b. (argument_twins e f es fs a b, refl))
arguments_agree (t ∷ ts) (g ∷ gs) (k ∷ ks) h =
    agree_both Twins TwinArguments TwinArguments (if_fits g.value (assigned t g.at)) (if_fits k.value (assigned t k.at))
    (arguments_for ts gs) (arguments_for ts ks) (λ e es. fits (Argument e es)) (λ e es. fits (Argument e es))
    (agree_if_fits Twins Twins g.value k.value (assigned t g.at) (assigned t k.at) h.1
    (λ x y r. assigned_at t g.at k.at x y h.0 r))
    (arguments_agree ts gs ks h.2) (λ e f es fs a b. (argument_twins e f es fs a b, refl))

has_type_same : (c d : Checked Expression) → Agree Twins c d → has_type c ≡ has_type d
has_type_same (Fits a ns) (Fits b ms) h = refl
has_type_same (Fits a ns) (Fails g gs) h = absurd h
has_type_same (Fails f fs) (Fits b ms) h = absurd h
has_type_same (Fails f fs) (Fails g gs) h = refl

have_types_same : (gs hs : List Given) → GivenAgree gs hs → have_types gs ≡ have_types hs
have_types_same [] [] h = refl
have_types_same [] (k ∷ ks) h = absurd h
have_types_same (g ∷ gs) [] h = absurd h
have_types_same (g ∷ gs) (k ∷ ks) h =
    ap (λ b. b && have_types gs) (has_type_same g.value k.value h.1)
    ∙ ap (λ b. has_type k.value && b) (have_types_same gs ks h.2)

lengths_same : (gs hs : List Given) → GivenAgree gs hs → length gs ≡ length hs
lengths_same [] [] h = refl
lengths_same [] (k ∷ ks) h = absurd h
lengths_same (g ∷ gs) [] h = absurd h
lengths_same (g ∷ gs) (k ∷ ks) h = ap suc (lengths_same gs ks h.2)

count_same : (at : Span) (types : List ValueType) (gs hs : List Given) → GivenAgree gs hs
    → count_faults at types gs ≡ count_faults at types hs
count_same at types gs hs h =
    ap (λ b. if b then (if length types == length gs then [] else fault ArgumentCount at ∷ []) else [])
    (have_types_same gs hs h)
    ∙ ap (λ n. if have_types hs then (if length types == n then [] else fault ArgumentCount at ∷ []) else [])
    (lengths_same gs hs h)

abbrev first_or : Expression → Arguments → Expression
first_or d NoMore = d
first_or d (Argument e es) = e

library_agree : (at : Span) (f : library.LibraryFunction) (x y : Arguments) → TwinArguments x y
    → Agree Twins (library_call at f x) (library_call at f y)
library_agree at library.Putchar NoMore NoMore h = (refl, refl)
library_agree at library.Putchar NoMore (Argument e es) h = grind arith
library_agree at library.Putchar (Argument e es) NoMore h = grind arith
library_agree at library.Putchar (Argument e es) (Argument f fs) h =
    (ap (λ z. tree.Putchar (first_or (bare e) z)) h, refl)
library_agree at library.Getchar x y h = (refl, refl)
library_agree at library.Exit NoMore NoMore h = (refl, refl)
library_agree at library.Exit NoMore (Argument e es) h = grind arith
library_agree at library.Exit (Argument e es) NoMore h = grind arith
library_agree at library.Exit (Argument e es) (Argument f fs) h =
    (ap (λ z. tree.Exit (first_or (bare e) z)) h, refl)

call_agree : (m : Numbers) (s : Scope) (at : Span) (e : Entity) (of : ValueType) (x y : Arguments) → TwinArguments x y
    → Agree Twins (call_of (renumbered m s) at e of x) (call_of s at e of y)
call_agree m s at (Library f) of x y h = library_agree at f x y h
call_agree m s at (Shared name) of x y h = (ap (tree.Call of 0) h, refl)
call_agree m s at (OfFile file name) of x y h = (ap (tree.Call of 0) h, refl)
call_agree m s at (At place) of x y h = (ap (tree.Call of 0) h, refl)

function_agree : (m : Numbers) (s : Scope) (at : Span) (e : Entity) (g : Signature) (gs hs : List Given)
    → GivenAgree gs hs → Agree Twins (function_call (renumbered m s) at e g gs) (function_call s at e g hs)
function_agree m s at e g gs hs h =
    subst (λ fs. Agree Twins (function_call (renumbered m s) at e g gs)
    (also fs (if_fits (arguments_for g.parameters hs) (call_of s at e g.result))))
    (count_same at g.parameters gs hs h)
    (agree_also Twins (count_faults at g.parameters gs)
    (if_fits (arguments_for g.parameters gs) (call_of (renumbered m s) at e g.result))
    (if_fits (arguments_for g.parameters hs) (call_of s at e g.result))
    (agree_if_fits TwinArguments Twins (arguments_for g.parameters gs) (arguments_for g.parameters hs)
    (call_of (renumbered m s) at e g.result) (call_of s at e g.result) (arguments_agree g.parameters gs hs h)
    (λ x y r. call_agree m s at e g.result x y r)))

not_called_agree : (f : Fault) (gs hs : List Given) → GivenAgree gs hs → Agree Twins (not_called f gs) (not_called f hs)
not_called_agree f gs hs h =
    (refl, faults_agree TwinArguments (arguments_for [] gs) (arguments_for [] hs) (arguments_agree [] gs hs h))

called_agree : (m : Numbers) (s : Scope) (f : Ident) (gs hs : List Given) (o : Option Meaning) → GivenAgree gs hs
    → Agree Twins (called (renumbered m s) f gs o) (called s f hs o)
called_agree m s f gs hs None h = not_called_agree (fault Undeclared f.at) gs hs h
called_agree m s f gs hs (Some (Local v of)) h =
    not_called_agree (fault (if is_pointer of then PointerUse else TypeRule) f.at) gs hs h
called_agree m s f gs hs (Some (LocalArray k element)) h = not_called_agree (fault PointerUse f.at) gs hs h
called_agree m s f gs hs (Some (Object e of)) h = not_called_agree (fault TypeRule f.at) gs hs h
called_agree m s f gs hs (Some (ObjectArray e element)) h = not_called_agree (fault PointerUse f.at) gs hs h
called_agree m s f gs hs (Some (Function e g)) h = function_agree m s f.at e g gs hs h

-- ---- expressions

name_agree : (m : Numbers) (s : Scope) (x : Ident) (o : Option Meaning)
    → Agree Twins (named (renumbered m s) x o) (named s x o)
name_agree m s x None = (refl, refl)
name_agree m s x (Some (Local v of)) = (refl, refl)
name_agree m s x (Some (LocalArray k element)) = (refl, refl)
name_agree m s x (Some (Object e of)) = (refl, refl)
name_agree m s x (Some (ObjectArray e element)) = (refl, refl)
name_agree m s x (Some (Function e g)) = (refl, refl)

mutual
  pub typed_agree : (m : Numbers) (s : Scope) (e : Expr)
      → Agree Twins (typed_expression (renumbered m s) e) (typed_expression s e)
  typed_agree m s (trees.Identifier x) = name_agree m s x (meaning_of s.names x.name)
  typed_agree m s (trees.Number value at) = (refl, refl)
  typed_agree m s (trees.Text pieces) = (refl, refl)
  typed_agree m s (trees.Parenthesised o e c) = typed_agree m s e
  typed_agree m s (trees.Call f o arguments commas c) =
      called_agree m s f (given (renumbered m s) arguments) (given s arguments) (meaning_of s.names f.name)
      (given_agree m s arguments)
  typed_agree m s (trees.Index b o i c) =
      agree_both Twins Twins Twins (typed_expression (renumbered m s) b) (typed_expression s b)
      (typed_expression (renumbered m s) i) (typed_expression s i) (index_row o) (index_row o) (typed_agree m s b)
      (typed_agree m s i) (λ x y u v h k. index_agree o x u y v h k)
  typed_agree m s (trees.Postfix b op at) =
      agree_if_fits Twins Twins (typed_expression (renumbered m s) b) (typed_expression s b)
      (λ e. step_row (postfix_op op) at (place_named e)) (λ e. step_row (postfix_op op) at (place_named e))
      (typed_agree m s b) (λ x y h. step_agree (postfix_op op) at x y h)
  typed_agree m s (trees.Prefix op at e) =
      agree_if_fits Twins Twins (typed_expression (renumbered m s) e) (typed_expression s e)
      (λ x. step_row (prefix_op op) at (place_named x)) (λ x. step_row (prefix_op op) at (place_named x))
      (typed_agree m s e) (λ x y h. step_agree (prefix_op op) at x y h)
  typed_agree m s (trees.Unary op at e) =
      agree_if_fits Twins Twins (typed_expression (renumbered m s) e) (typed_expression s e) (unary_row op at)
      (unary_row op at) (typed_agree m s e) (λ x y h. unary_agree op at x y h)
  typed_agree m s (trees.Cast o specifiers pointer c e) =
      agree_both (λ t u. t ≡ u) Twins Twins (type_name o specifiers pointer) (type_name o specifiers pointer)
      (typed_expression (renumbered m s) e) (typed_expression s e) (cast_row o) (cast_row o)
      (agree_itself (λ t u. t ≡ u) (λ t. refl) (type_name o specifiers pointer)) (typed_agree m s e)
      (λ t u x y h k. subst (λ v. Agree Twins (cast_row o t x) (cast_row o v y)) h (cast_agree o t x y k))
  typed_agree m s (trees.Binary op l at r) =
      agree_both Twins Twins Twins (typed_expression (renumbered m s) l) (typed_expression s l)
      (typed_expression (renumbered m s) r) (typed_expression s r) (binary_row op at) (binary_row op at)
      (typed_agree m s l) (typed_agree m s r) (λ x y u v h k. binary_agree op at x u y v h k)
  typed_agree m s (trees.Conditional t q a k b) =
      agree_both Twins (Both Twins Twins) Twins (typed_expression (renumbered m s) t) (typed_expression s t)
      (pair (typed_expression (renumbered m s) a) (typed_expression (renumbered m s) b))
      (pair (typed_expression s a) (typed_expression s b)) (λ x p. conditional_row q x p.0 p.1)
      (λ x p. conditional_row q x p.0 p.1) (typed_agree m s t)
      (agree_pair Twins Twins (typed_expression (renumbered m s) a) (typed_expression s a)
      (typed_expression (renumbered m s) b) (typed_expression s b) (typed_agree m s a) (typed_agree m s b))
      (λ x y u v h k. conditional_agree q x u.0 u.1 y v.0 v.1 h k.0 k.1)
  typed_agree m s (trees.Assignment op l at r) =
      agree_both Twins Twins Twins (typed_expression (renumbered m s) l) (typed_expression s l)
      (typed_expression (renumbered m s) r) (typed_expression s r) (λ x e. assignment_row op at (place_named x) e)
      (λ x e. assignment_row op at (place_named x) e) (typed_agree m s l) (typed_agree m s r)
      (λ x y u v h k. assignment_agree op at x u y v h k)

  pub given_agree : (m : Numbers) (s : Scope) (es : Exprs) → GivenAgree (given (renumbered m s) es) (given s es)
  given_agree m s NoExpr = tt
  given_agree m s (OneExpr e es) = (refl, typed_agree m s e, given_agree m s es)

-- two expressions that are both there or not, and agree
abbrev pub TwinOptions : Option Expression → Option Expression → Type 0
TwinOptions None None = Unit {0}
TwinOptions None (Some y) = ⊥
TwinOptions (Some x) None = ⊥
TwinOptions (Some x) (Some y) = Twins x y

pub if_any_agree : (m : Numbers) (s : Scope) (o : Option Expr)
    → Agree TwinOptions (typed_if_any (renumbered m s) o) (typed_if_any s o)
if_any_agree m s None = (tt, refl)
if_any_agree m s (Some e) =
    agree_if_fits Twins TwinOptions (typed_expression (renumbered m s) e) (typed_expression s e) (λ x. fits (Some x))
    (λ x. fits (Some x)) (typed_agree m s e) (λ x y h. (h, refl))
