-- Declarators, initialisers and declared items have the same faults and notes whatever numbers things have.
use Rattle.std.proofs.Common.{◌≡◌, refl, sym, ap, subst, ◌∙◌, ℕ, zero, suc, Bool, true, false, List, [], ◌∷◌, length}
use Rattle.std.specs.Prelude.{nat_le, Option, Some, None, if◌then◌else◌, ◌++◌, option_map}
use Rattle.pcc_base.specs.declared.span.Span.{Span}
use Rattle.pcc_base.specs.declared.fault.FaultKind.TheVariants as kinds
use Rattle.c_syntax.specs.declared.expression.Identifier.{Identifier}
use Rattle.c_syntax.specs.declared.expression.TextPiece.{TextPiece}
use Rattle.c_syntax.specs.Expressions.{Expr, Exprs}
use Rattle.c_syntax.specs.Declarations.{ArrayTree, ParameterTree, PartTree, Plain, Array, Function, DeclaratorTree}
use Rattle.c_syntax.specs.Declarations.{ValueTree, ItemTree, DeclarationTree}
use Rattle.c_tree.specs.declared.types.IntegerType.{IntegerType}
use Rattle.c_tree.specs.declared.types.ValueType.{ValueType}
use Rattle.c_tree.specs.declared.types.ValueType.TheVariants.{Integer, Pointer}
use Rattle.c_tree.specs.Store.{converted}
use Rattle.c_tree.specs.Program as tree
use Rattle.c_tree.specs.Program.{Expression, Item, Initialiser, Elements, Text}
use Rattle.c_typing.specs.Types.{Position, InParameters, Specified, specified, is_static, pointed, Declared}
use Rattle.c_typing.specs.Types.{DeclaredArray}
use Rattle.c_typing.specs.Checked.{Checked, Fits, Fails, Contents, Zeros, Values, Stores, fits, fails, also, if_fits}
use Rattle.c_typing.specs.Checked.{or_fails, faults_in, value_in}
use Rattle.c_typing.specs.Constants.{constant_value}
use Rattle.c_typing.specs.Declarators.{ArrayValues, Letters, Listed, NoValues, array_values, at_least_one, size_or}
use Rattle.c_typing.specs.Declarators.{count_by_value, part_type, object_declared, ObjectType, IntegerObject}
use Rattle.c_typing.specs.Declarators.{PointerObject, ArrayObject, object_allowed, object_type, type_faults}
use Rattle.c_typing.specs.Declarators.{parameter_with, parameter_size, parameter_faults}
use Rattle.c_typing.specs.Declarators.{typed_parameter, with_named, with_parameter, with_parameters, typed_each}
use Rattle.c_typing.specs.Declarators.{typed_parameters, parameters_meant}
use Rattle.c_typing.specs.Expressions.{Given, arguments_for, given, first_piece, first_token, text_bytes, text_note, specifiers_at}
use Rattle.c_typing.specs.Expressions.{text_entity, text_values}
use Rattle.c_typing.specs.Expressions.{typed_expression}
use Rattle.c_typing.specs.Initialisers.{values_for, scalar_values, letters_for, no_values, first_of, scalar_initialiser}
use Rattle.c_typing.specs.Initialisers.{elements_for, array_initialiser, constant_for, constants_for, constants_in}
use Rattle.c_typing.specs.Initialisers.{contents_for, first_token_of, function_initialiser}
use Rattle.c_typing.specs.Library.{Entity, At}
use Rattle.c_typing.specs.Names.{Numbers, Scope, object_number}
use Rattle.c_typing.specs.Rows.{assigned}
use Rattle.c_typing.specs.Statements.{bound_item, after_item, after_items, after_specified}
use Rattle.c_typing.specs.Statements.{after_declaration, elements_of, size_of, stored, local_item, object_item}
use Rattle.c_typing.specs.Statements.{scope_faults, sized_item, typed_item, typed_items, typed_declaration}
use Rattle.c_typing.proofs.Agree.{Agree, Any, Same, values_agree, agree_if_fits, agree_also, agree_both, same_itself}
use Rattle.c_typing.proofs.Agree.{agree_same, agree_any}
use Rattle.c_typing.proofs.RowsAgree.{Twins, twin_constant, assigned_agree}
use Rattle.c_typing.proofs.ExpressionsAgree.{renumbered, GivenAgree, TwinArguments, typed_agree, given_agree}
use Rattle.c_typing.proofs.ExpressionsAgree.{arguments_agree}

-- ---- declarators

at_least_same : (o : Span) (x y : Expression) → Twins x y
    → Agree Same (at_least_one o (constant_value x)) (at_least_one o (constant_value y))
at_least_same o x y h =
    subst (λ n. Agree Same (at_least_one o (constant_value x)) (at_least_one o n)) (twin_constant x y h)
    (same_itself (at_least_one o (constant_value x)))

pub size_agree : (m : Numbers) (s : Scope) (o : Span) (count : Option ℕ) (e : Option Expr)
    → Agree Same (size_or (renumbered m s) o count e) (size_or s o count e)
size_agree m s o count None = same_itself (or_fails count kinds.ArraySize o)
size_agree m s o count (Some e) =
    agree_if_fits Twins Same (typed_expression (renumbered m s) e) (typed_expression s e)
    (λ x. at_least_one o (constant_value x)) (λ x. at_least_one o (constant_value x)) (typed_agree m s e)
    (at_least_same o)

part_agree : (m : Numbers) (s : Scope) (of : Option ValueType) (v : Option ValueTree) (p : PartTree)
    → Agree Same (part_type (renumbered m s) of v p) (part_type s of v p)
part_agree m s of v Plain = (refl, refl)
part_agree m s of v (Array a) =
    agree_same Same (size_or (renumbered m s) a.opening (count_by_value of v) a.size)
    (size_or s a.opening (count_by_value of v) a.size) (λ count. fits (DeclaredArray of count)) same_itself
    (size_agree m s a.opening (count_by_value of v) a.size)
part_agree m s of v (Function ps) = (refl, refl)

pub declared_agree : (m : Numbers) (s : Scope) (said : Specified) (d : DeclaratorTree) (v : Option ValueTree)
    → Agree Same (object_declared (renumbered m s) said d v) (object_declared s said d v)
declared_agree m s said d v = part_agree m s (pointed said.base d.pointer) v d.part

pub object_type_same : (static : Bool) (m : Numbers) (s : Scope) (said : Specified) (d : DeclaratorTree)
    (v : Option ValueTree) → object_type static (renumbered m s) said d v ≡ object_type static s said d v
object_type_same static m s said d v =
    values_agree (if_fits (object_declared (renumbered m s) said d v) (object_allowed static d.name.at))
    (if_fits (object_declared s said d v) (object_allowed static d.name.at))
    (agree_same Same (object_declared (renumbered m s) said d v) (object_declared s said d v)
    (object_allowed static d.name.at) same_itself (declared_agree m s said d v))

-- ---- parameters

parameter_size_agree : (m : Numbers) (s : Scope) (a : Option ArrayTree)
    → Agree Same (parameter_size (renumbered m s) a) (parameter_size s a)
parameter_size_agree m s None = (refl, refl)
parameter_size_agree m s (Some a) = size_agree m s a.opening (Some 1) a.size

abbrev behind_size : Scope → Bool → ParameterTree → Specified → ℕ → Checked ValueType
behind_size s definition p said size = also (parameter_faults s definition p p.name) (parameter_with said.base p)

faults_same : (m : Numbers) (s : Scope) (definition : Bool) (p : ParameterTree) (o : Option Identifier)
    → parameter_faults (renumbered m s) definition p o ≡ parameter_faults s definition p o
faults_same m s definition p None = refl
faults_same m s definition p (Some name) = refl

behind_same : (m : Numbers) (s : Scope) (definition : Bool) (p : ParameterTree) (said : Specified) (size : ℕ)
    → behind_size (renumbered m s) definition p said size ≡ behind_size s definition p said size
behind_same m s definition p said size =
    ap (λ fs. also fs (parameter_with said.base p)) (faults_same m s definition p p.name)

-- a parameter with such specifiers
abbrev specified_parameter : Scope → Bool → ParameterTree → Specified → Checked ValueType
specified_parameter s definition p said =
    also (faults_in (parameter_with said.base p)) (if_fits (parameter_size s p.array) (behind_size s definition p said))

specified_agree : (m : Numbers) (s : Scope) (definition : Bool) (p : ParameterTree) (said : Specified)
    → Agree Same (specified_parameter (renumbered m s) definition p said) (specified_parameter s definition p said)
specified_agree m s definition p said =
    agree_also Same (faults_in (parameter_with said.base p))
    (if_fits (parameter_size (renumbered m s) p.array) (behind_size (renumbered m s) definition p said))
    (if_fits (parameter_size s p.array) (behind_size s definition p said))
    (agree_if_fits Same Same (parameter_size (renumbered m s) p.array) (parameter_size s p.array)
    (behind_size (renumbered m s) definition p said) (behind_size s definition p said)
    (parameter_size_agree m s p.array) (λ size count k.
    subst (λ x. Agree Same (behind_size (renumbered m s) definition p said size) x)
    (behind_same m s definition p said size ∙ ap (behind_size s definition p said) k)
    (same_itself (behind_size (renumbered m s) definition p said size))))

pub parameter_agree : (m : Numbers) (s : Scope) (definition : Bool) (p : ParameterTree)
    → Agree Same (typed_parameter (renumbered m s) definition p) (typed_parameter s definition p)
parameter_agree m s definition p =
    agree_if_fits Same Same (specifiers_at InParameters p.specifiers) (specifiers_at InParameters p.specifiers)
    (specified_parameter (renumbered m s) definition p) (specified_parameter s definition p)
    (same_itself (specifiers_at InParameters p.specifiers)) (λ said other e.
    subst (λ x. Agree Same (specified_parameter (renumbered m s) definition p said) (specified_parameter s definition p x))
    e (specified_agree m s definition p said))

with_named_same : (m : Numbers) (s : Scope) (o : Option Identifier) (t : Option ValueType)
    → with_named (renumbered m s) o t ≡ renumbered m (with_named s o t)
with_named_same m s None None = refl
with_named_same m s None (Some t) = refl
with_named_same m s (Some name) None = refl
with_named_same m s (Some name) (Some t) = refl

with_parameter_same : (m : Numbers) (s : Scope) (p : ParameterTree)
    → with_parameter (renumbered m s) p ≡ renumbered m (with_parameter s p)
with_parameter_same m s p =
    ap (with_named (renumbered m s) p.name)
    (values_agree (typed_parameter (renumbered m s) false p) (typed_parameter s false p) (parameter_agree m s false p))
    ∙ with_named_same m s p.name (value_in (typed_parameter s false p))

pub with_parameters_same : (m : Numbers) (s : Scope) (ps : List ParameterTree)
    → with_parameters (renumbered m s) ps ≡ renumbered m (with_parameters s ps)
with_parameters_same m s [] = refl
with_parameters_same m s (p ∷ ps) =
    ap (λ t. with_parameters t ps) (with_parameter_same m s p) ∙ with_parameters_same m (with_parameter s p) ps

each_agree : (m : Numbers) (s : Scope) (definition : Bool) (ps : List ParameterTree)
    → Agree Same (typed_each (renumbered m s) definition ps) (typed_each s definition ps)
each_agree m s definition [] = (refl, refl)
each_agree m s definition (p ∷ ps) =
    agree_both Same Same Same (typed_parameter (renumbered m s) definition p) (typed_parameter s definition p)
    (typed_each (with_parameter (renumbered m s) p) definition ps) (typed_each (with_parameter s p) definition ps)
    (λ t ts. fits (t ∷ ts)) (λ t ts. fits (t ∷ ts)) (parameter_agree m s definition p)
    (subst (λ t. Agree Same (typed_each t definition ps) (typed_each (with_parameter s p) definition ps))
    (sym (with_parameter_same m s p)) (each_agree m (with_parameter s p) definition ps))
    (λ t u ts us h k. (ap (λ x. x ∷ ts) h ∙ ap (λ xs. u ∷ xs) k, refl))

pub parameters_agree : (m : Numbers) (s : Scope) (definition : Bool) (ps : List ParameterTree)
    → Agree Same (typed_parameters (renumbered m s) definition ps) (typed_parameters s definition ps)
parameters_agree m s definition ps = each_agree m s definition (parameters_meant ps)

-- ---- initialisers

listed_agree : {A B : Type 0} (R : A → B → Type 0) (L : List A → List B → Type 0) (row : Span → Expression → Checked A)
    (other : Span → Expression → Checked B) → L [] []
    → ((a : A) (b : B) (xs : List A) (ys : List B) → R a b → L xs ys → L (a ∷ xs) (b ∷ ys))
    → ((at : Span) (x y : Expression) → Twins x y → Agree R (row at x) (other at y))
    → (room : ℕ) (gs hs : List Given) → GivenAgree gs hs → Agree L (values_for row room gs) (values_for other room hs)
listed_agree R L row other nil more on room [] [] h = (nil, refl)
listed_agree R L row other nil more on room [] (k ∷ ks) h = absurd h
listed_agree R L row other nil more on room (g ∷ gs) [] h = absurd h
listed_agree {A} {B} R L row other nil more on zero (g ∷ gs) (k ∷ ks) h =
    agree_both R L L (if_fits {B = A} g.value (λ e. fails kinds.Initialiser g.at))
    (if_fits {B = B} k.value (λ e. fails kinds.Initialiser k.at)) (values_for row zero gs) (values_for other zero ks)
    (λ x xs. fits (x ∷ xs)) (λ x xs. fits (x ∷ xs))
    (agree_if_fits Twins R g.value k.value (λ e. fails kinds.Initialiser g.at) (λ e. fails kinds.Initialiser k.at) h.1
    (λ x y r. (ap (λ at. record { kind = kinds.Initialiser; at = at }) h.0, refl)))
    (listed_agree R L row other nil more on zero gs ks h.2) (λ a b xs ys r l. (more a b xs ys r l, refl))
listed_agree R L row other nil more on (suc room) (g ∷ gs) (k ∷ ks) h =
    agree_both R L L (if_fits g.value (row g.at)) (if_fits k.value (other k.at)) (values_for row room gs)
    (values_for other room ks) (λ x xs. fits (x ∷ xs)) (λ x xs. fits (x ∷ xs))
    (agree_if_fits Twins R g.value k.value (row g.at) (other k.at) h.1
    (λ x y r. subst (λ at. Agree R (row g.at x) (other at y)) h.0 (on g.at x y r)))
    (listed_agree R L row other nil more on room gs ks h.2) (λ a b xs ys r l. (more a b xs ys r l, refl))

abbrev AnyRow : {A B : Type 0} → List A → List B → Type 0
AnyRow a b = Unit {0}

values_any : (of : ValueType) (room : ℕ) (gs hs : List Given) → GivenAgree gs hs
    → Agree AnyRow (values_for (assigned of) room gs) (values_for (assigned of) room hs)
values_any of room gs hs h =
    listed_agree Twins AnyRow (assigned of) (assigned of) tt (λ a b xs ys r l. tt) (assigned_agree of) room gs hs h

constant_agree : (of : IntegerType) (at : Span) (x y : Expression) → Twins x y
    → Agree Same (constant_for of at x) (constant_for of at y)
constant_agree of at x y h =
    subst (λ n. Agree Same (constant_for of at x) (or_fails (option_map (converted of) n) kinds.Initialiser at))
    (twin_constant x y h) (same_itself (constant_for of at x))

constants_agree : (m : Numbers) (s : Scope) (of : IntegerType) (room : ℕ) (es : Exprs)
    → Agree Same (constants_for (renumbered m s) of room es) (constants_for s of room es)
constants_agree m s of room es =
    agree_same Same (values_for (constant_for of) room (given (renumbered m s) es))
    (values_for (constant_for of) room (given s es)) (λ ns. fits (Values ns)) same_itself
    (listed_agree Same Same (constant_for of) (constant_for of) refl
    (λ a b xs ys r l. ap (λ x. x ∷ xs) r ∙ ap (λ z. b ∷ z) l) (constant_agree of) room (given (renumbered m s) es)
    (given s es) (given_agree m s es))

letters_by : {A B : Type 0} (fit : Bool) (pieces : List TextPiece) (a : A) (b : B)
    → Agree {A = A} {B = B} Any
    (if fit then Fits a (text_note pieces ∷ []) else fails kinds.Initialiser (first_piece pieces))
    (if fit then Fits b (text_note pieces ∷ []) else fails kinds.Initialiser (first_piece pieces))
letters_by true pieces a b = (tt, refl)
letters_by false pieces a b = (refl, refl)

letters_agree : {A B : Type 0} (count : ℕ) (pieces : List TextPiece) (a : A) (b : B)
    → Agree Any (letters_for count pieces a) (letters_for count pieces b)
letters_agree count pieces a b = letters_by (nat_le (length (text_bytes pieces)) count) pieces a b

no_values_agree : {A B : Type 0} (R : A → B → Type 0) (m : Numbers) (s : Scope) (e : Expr)
    → Agree R (no_values (renumbered m s) e) (no_values s e)
no_values_agree {A} {B} R m s e =
    agree_if_fits Twins R (typed_expression (renumbered m s) e) (typed_expression s e)
    (λ x. fails kinds.Initialiser (first_token e)) (λ x. fails kinds.Initialiser (first_token e)) (typed_agree m s e)
    (λ x y h. (refl, refl))

scalar_agree : (m : Numbers) (s : Scope) (of : ValueType) (v : Option ValueTree)
    → Agree Any (scalar_initialiser (renumbered m s) of v) (scalar_initialiser s of v)
scalar_agree m s of None = (tt, refl)
scalar_agree m s of (Some v) =
    agree_any AnyRow (values_for (assigned of) 1 (given (renumbered m s) (scalar_values v.value)))
    (values_for (assigned of) 1 (given s (scalar_values v.value))) first_of first_of
    (values_any of 1 (given (renumbered m s) (scalar_values v.value)) (given s (scalar_values v.value))
    (given_agree m s (scalar_values v.value)))

elements_agree : (m : Numbers) (s : Scope) (element : IntegerType) (count : ℕ) (v : ArrayValues)
    → Agree Any (elements_for (renumbered m s) element count v) (elements_for s element count v)
elements_agree m s element count (Letters pieces) =
    letters_agree count pieces (Text (object_number (renumbered m s) (text_entity pieces)))
    (Text (object_number s (text_entity pieces)))
elements_agree m s element count (Listed es) =
    agree_any AnyRow (values_for (assigned (Integer element)) count (given (renumbered m s) es))
    (values_for (assigned (Integer element)) count (given s es)) Elements Elements
    (values_any (Integer element) count (given (renumbered m s) es) (given s es) (given_agree m s es))
elements_agree m s element count (NoValues e) = no_values_agree Any m s e

array_agree : (m : Numbers) (s : Scope) (element : IntegerType) (count : ℕ) (v : Option ValueTree)
    → Agree Any (array_initialiser (renumbered m s) element count v) (array_initialiser s element count v)
array_agree m s element count None = (tt, refl)
array_agree m s element count (Some v) = elements_agree m s element count (array_values element v.value)

constants_in_agree : (m : Numbers) (s : Scope) (element : IntegerType) (count : ℕ) (v : ArrayValues)
    → Agree Same (constants_in (renumbered m s) element count v) (constants_in s element count v)
constants_in_agree m s element count (Letters pieces) =
    same_itself (letters_for count pieces (Values (text_values pieces)))
constants_in_agree m s element count (Listed es) = constants_agree m s element count es
constants_in_agree m s element count (NoValues e) = no_values_agree Same m s e

pub contents_agree : (m : Numbers) (s : Scope) (type : ObjectType) (otherwise : Contents) (v : Option ValueTree)
    → Agree Same (contents_for (renumbered m s) type otherwise v) (contents_for s type otherwise v)
contents_agree m s type otherwise None = (refl, refl)
contents_agree m s (IntegerObject of) otherwise (Some v) = constants_agree m s of 1 (scalar_values v.value)
contents_agree m s (PointerObject of) otherwise (Some v) = constants_agree m s of 1 (scalar_values v.value)
contents_agree m s (ArrayObject element count) otherwise (Some v) =
    constants_in_agree m s element count (array_values element v.value)

-- ---- declared items

pub stored_agree : {A B : Type 0} (e : Entity) (type : ObjectType) (a : A) (b : B) (c d : Checked Contents)
    → Agree Same c d → Agree Any (stored e type a c) (stored e type b d)
stored_agree e type a b (Fits x ns) (Fits y ms) h = (
  tt,
  ap (λ z. Stores (record { entity = e; element = elements_of type; count = size_of type; contents = z }) ∷ ns)
      h.0 ∙ ap (λ zs. Stores (record { entity = e; element = elements_of type; count = size_of type; contents = y })
      ∷ zs)
      h.1,
)
stored_agree e type a b (Fits x ns) (Fails g gs) h = absurd h
stored_agree e type a b (Fails f fs) (Fits y ms) h = absurd h
stored_agree e type a b (Fails f fs) (Fails g gs) h = h

local_agree : (m : Numbers) (s t : Scope) (type : ObjectType) (v : Option ValueTree)
    → Agree Any (local_item (renumbered m s) (renumbered m t) type v) (local_item s t type v)
local_agree m s t (IntegerObject of) v =
    agree_any Any (scalar_initialiser (renumbered m t) (Integer of) v) (scalar_initialiser t (Integer of) v)
    (λ e. tree.Scalar s.next (length s.locals) e ∷ []) (λ e. tree.Scalar s.next (length s.locals) e ∷ [])
    (scalar_agree m t (Integer of) v)
local_agree m s t (PointerObject of) v =
    agree_any Any (scalar_initialiser (renumbered m t) (Pointer of) v) (scalar_initialiser t (Pointer of) v)
    (λ e. tree.Scalar s.next (length s.locals) e ∷ []) (λ e. tree.Scalar s.next (length s.locals) e ∷ [])
    (scalar_agree m t (Pointer of) v)
local_agree m s t (ArrayObject element count) v =
    agree_any Any (array_initialiser (renumbered m t) element count v) (array_initialiser t element count v)
    (λ first. tree.Array s.next (length s.arrays) element first ∷ [])
    (λ first. tree.Array s.next (length s.arrays) element first ∷ []) (array_agree m t element count v)

object_item_agree : (static : Bool) (m : Numbers) (s t : Scope) (name : Identifier) (v : Option ValueTree)
    (type : ObjectType)
    → Agree Any (object_item static (renumbered m s) (renumbered m t) name v type) (object_item static s t name v type)
object_item_agree true m s t name v type =
    stored_agree {A = List Item} {B = List Item} (At name.at) type [] [] (contents_for (renumbered m t) type Zeros v)
    (contents_for t type Zeros v) (contents_agree m t type Zeros v)
object_item_agree false m s t name v type = local_agree m s t type v

bound_same : (static : Bool) (m : Numbers) (name : Identifier) (type : Option ObjectType) (s : Scope)
    → bound_item static name type (renumbered m s) ≡ renumbered m (bound_item static name type s)
bound_same static m name None s = refl
bound_same true m name (Some (IntegerObject of)) s = refl
bound_same true m name (Some (PointerObject of)) s = refl
bound_same true m name (Some (ArrayObject element count)) s = refl
bound_same false m name (Some (IntegerObject of)) s = refl
bound_same false m name (Some (PointerObject of)) s = refl
bound_same false m name (Some (ArrayObject element count)) s = refl

pub after_item_same : (m : Numbers) (said : Specified) (i : ItemTree) (s : Scope)
    → after_item said i (renumbered m s) ≡ renumbered m (after_item said i s)
after_item_same m said i s =
    ap (λ type. bound_item (is_static said.storage) i.declarator.name type (renumbered m s))
    (object_type_same (is_static said.storage) m s said i.declarator i.initialiser)
    ∙ bound_same (is_static said.storage) m i.declarator.name
    (object_type (is_static said.storage) s said i.declarator i.initialiser) s

pub after_items_same : (m : Numbers) (said : Specified) (is : List ItemTree) (s : Scope)
    → after_items said is (renumbered m s) ≡ renumbered m (after_items said is s)
after_items_same m said [] s = refl
after_items_same m said (i ∷ is) s =
    ap (after_items said is) (after_item_same m said i s) ∙ after_items_same m said is (after_item said i s)

after_specified_same : (m : Numbers) (o : Option Specified) (is : List ItemTree) (s : Scope)
    → after_specified o is (renumbered m s) ≡ renumbered m (after_specified o is s)
after_specified_same m None is s = refl
after_specified_same m (Some said) is s = after_items_same m said is s

pub after_declaration_same : (m : Numbers) (position : Position) (d : DeclarationTree) (s : Scope)
    → after_declaration position d (renumbered m s) ≡ renumbered m (after_declaration position d s)
after_declaration_same m position d s = after_specified_same m (specified position d.specifiers) d.items s

-- an item behind its declarator, in a scope and the one behind the declarator
abbrev behind_declarator : Specified → ItemTree → Scope → Scope → Declared → Checked (List Item)
behind_declarator said i s t declared =
    also (scope_faults s i.declarator.name)
    (if_fits (object_allowed (is_static said.storage) i.declarator.name.at declared)
    (object_item (is_static said.storage) s t i.declarator.name i.initialiser))

behind_agree : (m : Numbers) (said : Specified) (i : ItemTree) (s t : Scope) (declared : Declared)
    → Agree Any (behind_declarator said i (renumbered m s) (renumbered m t) declared)
    (behind_declarator said i s t declared)
behind_agree m said i s t declared =
    let static = is_static said.storage in
    let name = i.declarator.name in
    agree_also Any (scope_faults s name)
    (if_fits (object_allowed static name.at declared)
    (object_item static (renumbered m s) (renumbered m t) name i.initialiser))
    (if_fits (object_allowed static name.at declared) (object_item static s t name i.initialiser))
    (agree_if_fits Same Any (object_allowed static name.at declared) (object_allowed static name.at declared)
    (object_item static (renumbered m s) (renumbered m t) name i.initialiser)
    (object_item static s t name i.initialiser) (same_itself (object_allowed static name.at declared))
    (λ a b e. subst (λ z. Agree Any (object_item static (renumbered m s) (renumbered m t) name i.initialiser a)
    (object_item static s t name i.initialiser z)) e (object_item_agree static m s t name i.initialiser a)))

sized_agree : (m : Numbers) (said : Specified) (i : ItemTree) (s : Scope)
    → Agree Any (sized_item said i (renumbered m s)) (sized_item said i s)
sized_agree m said i s =
    agree_if_fits Same Any (object_declared (renumbered m s) said i.declarator i.initialiser)
    (object_declared s said i.declarator i.initialiser)
    (behind_declarator said i (renumbered m s) (after_item said i (renumbered m s)))
    (behind_declarator said i s (after_item said i s)) (declared_agree m s said i.declarator i.initialiser)
    (λ a b e. subst (λ t. Agree Any (behind_declarator said i (renumbered m s) t a)
    (behind_declarator said i s (after_item said i s) b)) (sym (after_item_same m said i s))
    (subst (λ z. Agree Any (behind_declarator said i (renumbered m s) (renumbered m (after_item said i s)) a)
    (behind_declarator said i s (after_item said i s) z)) e (behind_agree m said i s (after_item said i s) a)))

-- ---- initialisers of functions

pub function_agree : {A : Type 0} (m : Numbers) (s : Scope) (v : Option ValueTree) (value : A)
    → Agree Any (function_initialiser (renumbered m s) v value) (function_initialiser s v value)
function_agree m s None value = (tt, refl)
function_agree {A} m s (Some v) value =
    let es = scalar_values v.value in
    agree_if_fits {C = A} {D = A} TwinArguments Any (arguments_for [] (given (renumbered m s) es))
    (arguments_for [] (given s es)) (λ x. fails kinds.TypeRule (first_token_of v.value))
    (λ x. fails kinds.TypeRule (first_token_of v.value))
    (arguments_agree [] (given (renumbered m s) es) (given s es) (given_agree m s es)) (λ x y h. (refl, refl))

pub item_agree : (m : Numbers) (said : Specified) (i : ItemTree) (s : Scope)
    → Agree Any (typed_item said i (renumbered m s)) (typed_item said i s)
item_agree m said i s =
    agree_also Any (type_faults (is_static said.storage) said i.declarator) (sized_item said i (renumbered m s))
    (sized_item said i s) (sized_agree m said i s)

pub items_agree : (m : Numbers) (said : Specified) (is : List ItemTree) (s : Scope)
    → Agree Any (typed_items said is (renumbered m s)) (typed_items said is s)
items_agree m said [] s = (tt, refl)
items_agree m said (i ∷ is) s =
    agree_both Any Any Any (typed_item said i (renumbered m s)) (typed_item said i s)
    (typed_items said is (after_item said i (renumbered m s))) (typed_items said is (after_item said i s))
    (λ xs ys. fits (xs ++ ys)) (λ xs ys. fits (xs ++ ys)) (item_agree m said i s)
    (subst (λ t. Agree Any (typed_items said is t) (typed_items said is (after_item said i s)))
    (sym (after_item_same m said i s)) (items_agree m said is (after_item said i s)))
    (λ a b xs ys r l. (tt, refl))

pub declaration_agree : (m : Numbers) (position : Position) (d : DeclarationTree) (s : Scope)
    → Agree Any (typed_declaration position d (renumbered m s)) (typed_declaration position d s)
declaration_agree m position d s =
    agree_if_fits Same Any (specifiers_at position d.specifiers) (specifiers_at position d.specifiers)
    (λ said. typed_items said d.items (renumbered m s)) (λ said. typed_items said d.items s)
    (same_itself (specifiers_at position d.specifiers))
    (λ a b e. subst (λ said. Agree Any (typed_items a d.items (renumbered m s)) (typed_items said d.items s)) e
    (items_agree m a d.items s))
