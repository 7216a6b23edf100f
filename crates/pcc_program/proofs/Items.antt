-- Each part of a declared item has a token of its own, and its constants are signed numbers of 32 bits.
use Rattle.std.proofs.Common.{arith, ◌≡◌, ℕ, zero, suc, ◌+◌, ◌≤◌, Bool, true, false}
use Rattle.std.proofs.Common.{List, [], ◌∷◌, ◌++◌, length}
use Rattle.std.specs.Prelude.{Option, Some, None, IfSome, if◌then◌else◌, sum_by}
use Rattle.std.specs.List.{AllByRecursion}
use Rattle.std.proofs.lemmas.List.Sums.{sum_by-cons}
use Rattle.std.proofs.lemmas.List.Elements.{All-from_recursion}
use Rattle.pcc_base.specs.declared.span.Span.{Span}
use Rattle.pcc_base.specs.declared.fault.FaultKind.TheVariants as kinds
use Rattle.pcc_base.proofs.Lists.{all-append}
use Rattle.c_syntax.specs.declared.expression.Identifier.{Identifier}
use Rattle.c_syntax.specs.declared.expression.TextPiece.{TextPiece}
use Rattle.c_syntax.specs.Expressions.{NoExpr, OneExpr}
use Rattle.c_syntax.specs.ExpressionTokens.{expr_tokens, exprs_tokens, specifiers_tokens, pointer_tokens}
use Rattle.c_syntax.specs.Declarations.{InitialiserTree, Single, Braces, ValueTree, ItemTree, DeclarationTree}
use Rattle.c_syntax.specs.DeclarationTokens.{initialiser_tokens, value_tokens, item_tokens, declaration_tokens}
use Rattle.c_syntax.specs.DeclarationTokens.{followed, separated, AreApart, AreItems, IsItem, IsDeclaration}
use Rattle.c_syntax.specs.DeclarationTokens.{declarator_tokens, part_tokens, maybe_comma_tokens, IsInitialiser}
use Rattle.c_syntax.specs.DeclarationTokens.{IsMaybeValue}
use Rattle.c_tree.specs.declared.types.IntegerType.{IntegerType}
use Rattle.c_tree.specs.declared.types.IntegerType.TheVariants.{Char, Short, Int, UnsignedInt}
use Rattle.c_tree.specs.declared.types.ValueType.{ValueType}
use Rattle.c_tree.specs.declared.types.ValueType.TheVariants.{Integer, Pointer}
use Rattle.c_tree.specs.Program as tree
use Rattle.c_tree.specs.Program.{Expression, Item, Initialiser, Elements, Text}
use Rattle.c_tree.specs.Sizes.{expression_size, option_size, initialiser_size, item_size}
use Rattle.c_typing.specs.Types.{Position, Specified, is_static}
use Rattle.c_typing.specs.Library.{Entity, At}
use Rattle.c_typing.specs.Checked.{Checked, Fits, Fails, Contents, Zeros, Note, fits, fails, also, if_fits, both}
use Rattle.c_typing.specs.Declarators.{ArrayValues, Letters, Listed, NoValues, array_values, letters_or, text_of}
use Rattle.c_typing.specs.Declarators.{only_text, object_declared, object_allowed, ObjectType, IntegerObject}
use Rattle.c_typing.specs.Declarators.{PointerObject, ArrayObject}
use Rattle.c_typing.specs.Declarators.{type_faults}
use Rattle.c_typing.specs.Expressions.{Given, given, first_token}
use Rattle.c_typing.specs.Expressions.{typed_expression, specifiers_at}
use Rattle.c_typing.specs.Initialisers.{values_for, scalar_values, first_of}
use Rattle.c_typing.specs.Initialisers.{scalar_initialiser, elements_for, array_initialiser, contents_for}
use Rattle.c_typing.specs.Names.{Scope}
use Rattle.c_typing.specs.Rows.{assigned}
use Rattle.c_typing.specs.Statements.{after_item, stored, local_item, object_item, scope_faults, typed_item}
use Rattle.c_typing.specs.Statements.{typed_items, typed_declaration}
use Rattle.c_typing.specs.Statements.{sized_item}
use Rattle.c_typing.proofs.CountUp.{IfFits, holds_if, holds_both, holds_also, Always, always}
use Rattle.c_check_laws.proofs.Ranged.{HasInts}
use Rattle.lower_lines.specs.Words.{HasWords, InitialiserHasWords, ItemHasWords}
use Rattle.pcc_program.proofs.Expressions.{Fine, GivenFine, cut, assigned_fine, expression_fine, given_fine}

pub holds_map : {A : Type 0} (P Q : A → Type 0) (c : Checked A) → IfFits P c → ((a : A) → P a → Q a) → IfFits Q c
holds_map P Q (Fits a ns) h on = on a h
holds_map P Q (Fails f fs) h on = tt

given_weaker : (m n : ℕ) (gs : List Given) → m ≤ n → GivenFine m gs → GivenFine n gs
given_weaker m n [] l h = tt
given_weaker m n (g ∷ gs) l (i, k, le, f, others) = (i, k, omega (arith, l, le), f, others)

-- ---- initialisers

abbrev ValuesFine : ℕ → List Expression → Type 0
ValuesFine n es = (sum_by expression_size es ≤ n) × AllByRecursion HasWords es

value_on : (m k n : ℕ) (e : Expression) (es : List Expression) → m + k ≤ n → Fine m e → ValuesFine k es
    → ValuesFine n (e ∷ es)
value_on m k n e es l h g =
    let s = h.0 in let t = g.0 in let c = sum_by-cons expression_size e es in (omega (arith, l, s, t, c), (h.1, g.1))

values_fine : (n : ℕ) (of : ValueType) (room : ℕ) (gs : List Given) → GivenFine n gs
    → IfFits (ValuesFine n) (values_for (assigned of) room gs)
values_fine n of zero [] h = (omega arith, tt)
values_fine n of (suc room) [] h = (omega arith, tt)
values_fine n of zero (g ∷ gs) (m, k, l, f, others) =
    let c : Checked Expression = if_fits g.value (λ e. fails kinds.Initialiser g.at) in
    holds_both (Fine m) (ValuesFine k) (ValuesFine n) c (values_for (assigned of) zero gs) (λ x xs. fits (x ∷ xs))
    (holds_if Always (Fine m) g.value (λ e. fails kinds.Initialiser g.at) (always g.value) (λ e u. tt))
    (values_fine k of zero gs others) (λ x xs u v. value_on m k n x xs l u v)
values_fine n of (suc room) (g ∷ gs) (m, k, l, f, others) =
    holds_both (Fine m) (ValuesFine k) (ValuesFine n) (if_fits g.value (assigned of g.at))
    (values_for (assigned of) room gs) (λ x xs. fits (x ∷ xs))
    (holds_if (Fine m) (Fine m) g.value (assigned of g.at) f (λ e x. assigned_fine m of g.at e x))
    (values_fine k of room gs others) (λ x xs u v. value_on m k n x xs l u v)

scalar_given : (s : Scope) (v : InitialiserTree) → IsInitialiser v → HasInts (initialiser_tokens v)
    → GivenFine (length (initialiser_tokens v)) (given s (scalar_values v))
scalar_given s (Single e) is h = (length (expr_tokens e), 0, omega arith, expression_fine s e is.0 h, tt)
scalar_given s (Braces o NoExpr commas trailing c) is h = absurd is
scalar_given s (Braces o (OneExpr e es) commas trailing c) is h =
    let T = exprs_tokens (OneExpr e es) commas in
    let p = cut T (maybe_comma_tokens trailing ++ _ ∷ []) h.1 in
    let l = p.2 in
    given_weaker (length T) _ (given s (OneExpr e es)) (omega (arith, l))
    (given_fine s (OneExpr e es) commas is.0 is.1 p.0)

abbrev pub OptionFine : ℕ → Option Expression → Type 0
OptionFine n o = (option_size o ≤ n) × IfSome o HasWords

first_fine : (n : ℕ) (es : List Expression) → ValuesFine n es → OptionFine n (first_of es)
first_fine n [] h = (omega arith, tt)
first_fine n (e ∷ es) h = let c = sum_by-cons expression_size e es in let s = h.0 in (omega (arith, c, s), h.1.0)

scalar_fine : (s : Scope) (of : ValueType) (v : Option ValueTree) → IsMaybeValue v → HasInts (value_tokens v)
    → IfFits (OptionFine (length (value_tokens v))) (scalar_initialiser s of v)
scalar_fine s of None is h = (omega arith, tt)
scalar_fine s of (Some v) is h =
    let n = length (initialiser_tokens v.value) in
    holds_if (ValuesFine n) (OptionFine (suc n)) (values_for (assigned of) 1 (given s (scalar_values v.value)))
    (λ es. fits (first_of es)) (values_fine n of 1 (given s (scalar_values v.value)) (scalar_given s v.value is h.1))
    (λ es u. let f = first_fine n es u in let l = f.0 in (omega (arith, l), f.1))

abbrev InitialiserFine : ℕ → Initialiser → Type 0
InitialiserFine n i = (initialiser_size i ≤ n) × InitialiserHasWords i

abbrev ValuesGiven : ℕ → Scope → ArrayValues → Type 0
ValuesGiven n s (Letters pieces) = Unit {0}
ValuesGiven n s (Listed es) = GivenFine n (given s es)
ValuesGiven n s (NoValues e) = Unit {0}

letters_given : (n : ℕ) (s : Scope) (o : Option (List TextPiece)) (other : ArrayValues) → ValuesGiven n s other
    → ValuesGiven n s (letters_or o other)
letters_given n s None other h = h
letters_given n s (Some pieces) other h = tt

array_given : (s : Scope) (element : IntegerType) (v : InitialiserTree) → IsInitialiser v
    → HasInts (initialiser_tokens v) → ValuesGiven (length (initialiser_tokens v)) s (array_values element v)
array_given s Char (Single e) is h = letters_given _ s (text_of e) (NoValues e) tt
array_given s Short (Single e) is h = tt
array_given s Int (Single e) is h = tt
array_given s UnsignedInt (Single e) is h = tt
array_given s Char (Braces o es commas trailing c) is h =
    letters_given _ s (only_text es) (Listed es) (scalar_given s (Braces o es commas trailing c) is h)
array_given s Short (Braces o es commas trailing c) is h = scalar_given s (Braces o es commas trailing c) is h
array_given s Int (Braces o es commas trailing c) is h = scalar_given s (Braces o es commas trailing c) is h
array_given s UnsignedInt (Braces o es commas trailing c) is h =
    scalar_given s (Braces o es commas trailing c) is h

letters_fine : (n : ℕ) (b : Bool) (k : ℕ) (note : Note) (at : Span)
    → IfFits (InitialiserFine n) (if b then Fits (Text k) (note ∷ []) else fails kinds.Initialiser at)
letters_fine n true k note at = (omega arith, tt)
letters_fine n false k note at = tt

elements_fine : (n : ℕ) (s : Scope) (element : IntegerType) (count : ℕ) (a : ArrayValues) → ValuesGiven n s a
    → IfFits (InitialiserFine n) (elements_for s element count a)
elements_fine n s element count (Letters pieces) h = letters_fine n _ _ _ _
elements_fine n s element count (Listed es) h =
    holds_if (ValuesFine n) (InitialiserFine n) (values_for (assigned (Integer element)) count (given s es))
    (λ xs. fits (Elements xs)) (values_fine n (Integer element) count (given s es) h)
    (λ xs u. (u.0, All-from_recursion HasWords xs u.1))
elements_fine n s element count (NoValues e) h =
    holds_if Always (InitialiserFine n) (typed_expression s e) (λ x. fails kinds.Initialiser (first_token e))
    (always (typed_expression s e)) (λ x u. tt)

array_fine : (s : Scope) (element : IntegerType) (count : ℕ) (v : Option ValueTree) → IsMaybeValue v
    → HasInts (value_tokens v)
    → IfFits (InitialiserFine (length (value_tokens v))) (array_initialiser s element count v)
array_fine s element count None is h = (omega arith, All-from_recursion HasWords [] tt)
array_fine s element count (Some v) is h =
    let n = length (initialiser_tokens v.value) in
    holds_map (InitialiserFine n) (InitialiserFine (suc n))
    (elements_for s element count (array_values element v.value))
    (elements_fine n s element count (array_values element v.value) (array_given s element v.value is h.1))
    (λ i u. let l = u.0 in (omega (arith, l), u.1))

-- ---- items

abbrev pub items_total : List Item → ℕ
items_total [] = 0
items_total (i ∷ is) = item_size i + items_total is

abbrev pub ItemsFine : ℕ → List Item → Type 0
ItemsFine n is = (items_total is ≤ n) × AllByRecursion ItemHasWords is

stored_fine : (n : ℕ) (e : Entity) (type : ObjectType) (c : Checked Contents)
    → IfFits (ItemsFine n) (stored e type [] c)
stored_fine n e type (Fits a ns) = (omega arith, tt)
stored_fine n e type (Fails f fs) = tt

scalar_item : (n number local : ℕ) (c : Checked (Option Expression)) (m : ℕ) → suc m ≤ n → IfFits (OptionFine m) c
    → IfFits (ItemsFine n) (if_fits c (λ e. fits (tree.Scalar number local e ∷ [])))
scalar_item n number local c m l h =
    holds_if (OptionFine m) (ItemsFine n) c (λ e. fits (tree.Scalar number local e ∷ [])) h
    (λ e u. let s = u.0 in (omega (arith, l, s), (u.1, tt)))

local_fine : (n : ℕ) (s t : Scope) (type : ObjectType) (v : Option ValueTree) → IsMaybeValue v
    → HasInts (value_tokens v) → suc (length (value_tokens v)) ≤ n → IfFits (ItemsFine n) (local_item s t type v)
local_fine n s t (IntegerObject of) v is h l =
    scalar_item n s.next (length s.locals) (scalar_initialiser t (Integer of) v) (length (value_tokens v)) l
    (scalar_fine t (Integer of) v is h)
local_fine n s t (PointerObject of) v is h l =
    scalar_item n s.next (length s.locals) (scalar_initialiser t (Pointer of) v) (length (value_tokens v)) l
    (scalar_fine t (Pointer of) v is h)
local_fine n s t (ArrayObject element count) v is h l =
    holds_if (InitialiserFine (length (value_tokens v))) (ItemsFine n) (array_initialiser t element count v)
    (λ first. fits (tree.Array s.next (length s.arrays) element first ∷ [])) (array_fine t element count v is h)
    (λ e u. let i = u.0 in (omega (arith, l, i), (u.1, tt)))

object_fine : (n : ℕ) (static : Bool) (s t : Scope) (name : Identifier) (v : Option ValueTree) (type : ObjectType)
    → IsMaybeValue v → HasInts (value_tokens v) → suc (length (value_tokens v)) ≤ n
    → IfFits (ItemsFine n) (object_item static s t name v type)
object_fine n true s t name v type is h l = stored_fine n (At name.at) type (contents_for t type Zeros v)
object_fine n false s t name v type is h l = local_fine n s t type v is h l

item_fine : (said : Specified) (i : ItemTree) (s : Scope) → IsItem i → HasInts (item_tokens i)
    → IfFits (ItemsFine (length (item_tokens i))) (typed_item said i s)
item_fine said i s is h =
    let D = declarator_tokens i.declarator in
    let V = value_tokens i.initialiser in
    let p = cut D V h in
    let q = cut (pointer_tokens i.declarator.pointer) (_ ∷ part_tokens i.declarator.part) p.0 in
    let l = p.2 in
    let k = q.2 in
    let n = length (item_tokens i) in
    let static = is_static said.storage in
    let name = i.declarator.name in
    holds_also (ItemsFine n) (type_faults static said i.declarator) (sized_item said i s)
    (holds_if Always (ItemsFine n) (object_declared s said i.declarator i.initialiser) (λ declared.
    also (scope_faults s name) (if_fits (object_allowed static name.at declared)
    (object_item static s (after_item said i s) name i.initialiser)))
    (always (object_declared s said i.declarator i.initialiser)) (λ declared u.
    holds_also (ItemsFine n) (scope_faults s name) (if_fits (object_allowed static name.at declared)
    (object_item static s (after_item said i s) name i.initialiser))
    (holds_if Always (ItemsFine n) (object_allowed static name.at declared)
    (object_item static s (after_item said i s) name i.initialiser) (always (object_allowed static name.at declared))
    (λ type w. object_fine n static s (after_item said i s) name i.initialiser type is.1 p.1 (omega (arith, l, k))))))

items_append : (xs ys : List Item) → items_total (xs ++ ys) ≡ items_total xs + items_total ys
items_append [] ys = omega arith
items_append (x ∷ xs) ys = let h = items_append xs ys in omega (arith, h)

items_both : (m k n : ℕ) (c d : Checked (List Item)) → m + k ≤ n → IfFits (ItemsFine m) c → IfFits (ItemsFine k) d
    → IfFits (ItemsFine n) (both c d (λ xs ys. fits (xs ++ ys)))
items_both m k n c d l h g =
    holds_both (ItemsFine m) (ItemsFine k) (ItemsFine n) c d (λ xs ys. fits (xs ++ ys)) h g (λ xs ys u v.
    let a = u.0 in let b = v.0 in let e = items_append xs ys in
    (omega (arith, l, a, b, e), all-append ItemHasWords xs ys u.1 v.1))

followed_fine : (said : Specified) (is : List ItemTree) (commas : List Span) (s : Scope) → AllByRecursion IsItem is
    → length commas ≡ length is → HasInts (followed item_tokens is commas)
    → IfFits (ItemsFine (length (followed item_tokens is commas))) (typed_items said is s)
followed_fine said [] commas s are e h = (omega arith, tt)
followed_fine said (i ∷ is) [] s are e h = absurd (omega (arith, e))
followed_fine said (i ∷ is) (at ∷ commas) s are e h =
    let T = item_tokens i in
    let U = followed item_tokens is commas in
    let p = cut T U h.1 in
    let l = p.2 in
    items_both (length T) (length U) _ (typed_item said i s) (typed_items said is (after_item said i s))
    (omega (arith, l)) (item_fine said i s are.0 p.0)
    (followed_fine said is commas (after_item said i s) are.1 (omega (arith, e)) p.1)

separated_fine : (said : Specified) (is : List ItemTree) (commas : List Span) (s : Scope) → AreItems is
    → AreApart is commas → HasInts (separated item_tokens is commas)
    → IfFits (ItemsFine (length (separated item_tokens is commas))) (typed_items said is s)
separated_fine said [] commas s are e h = absurd are
separated_fine said (i ∷ is) commas s are e h =
    let T = item_tokens i in
    let U = followed item_tokens is commas in
    let p = cut T U h in
    let l = p.2 in
    items_both (length T) (length U) _ (typed_item said i s) (typed_items said is (after_item said i s))
    (omega (arith, l)) (item_fine said i s are.0 p.0)
    (followed_fine said is commas (after_item said i s) are.1 e p.1)

pub declaration_fine : (position : Position) (d : DeclarationTree) (s : Scope) → IsDeclaration d
    → HasInts (declaration_tokens d)
    → IfFits (ItemsFine (length (declaration_tokens d))) (typed_declaration position d s)
declaration_fine position d s is h =
    let S = specifiers_tokens d.specifiers in
    let T = separated item_tokens d.items d.commas in
    let p = cut S (T ++ _ ∷ []) h in
    let q = cut T (_ ∷ []) p.1 in
    let l = p.2 in
    let k = q.2 in
    let n = length (declaration_tokens d) in
    holds_if Always (ItemsFine n) (specifiers_at position d.specifiers) (λ said. typed_items said d.items s)
    (always (specifiers_at position d.specifiers)) (λ said u.
    holds_map (ItemsFine (length T)) (ItemsFine n) (typed_items said d.items s)
    (separated_fine said d.items d.commas s is.1 is.2 q.0)
    (λ items v. let a = v.0 in (omega (arith, l, k, a), v.1)))
