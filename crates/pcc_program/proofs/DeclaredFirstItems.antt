-- Declared items that fit name only locals that are declared before them, or by them, and those are seen behind them.
use Rattle.std.proofs.Common.{◌≡◌, refl, sym, subst, inl, inr, ℕ, zero, suc, Bool, true, false, List, [], ◌∷◌, ◌++◌}
use Rattle.std.proofs.Common.{length}
use Rattle.std.specs.Prelude.{Option, Some, None, IfSome, nat_le, if◌then◌else◌}
use Rattle.std.specs.List.{AllByRecursion}
use Rattle.pcc_base.specs.declared.span.Span.{Span}
use Rattle.pcc_base.specs.declared.fault.Fault.{Fault}
use Rattle.pcc_base.specs.declared.fault.FaultKind.TheVariants as kinds
use Rattle.pcc_base.specs.declared.fault.FaultKind.TheVariants.{TypeRule}
use Rattle.c_syntax.specs.declared.expression.Identifier.{Identifier}
use Rattle.c_syntax.specs.Declarations.{ItemTree, DeclarationTree, ValueTree}
use Rattle.c_tree.specs.declared.types.IntegerType.{IntegerType}
use Rattle.c_tree.specs.declared.types.ValueType.{ValueType}
use Rattle.c_tree.specs.declared.types.ValueType.TheVariants.{Integer, Pointer}
use Rattle.c_tree.specs.Program as tree
use Rattle.c_tree.specs.Program.{Expression, Item, Initialiser, Elements, Text}
use Rattle.c_typing.specs.Library.{Entity, At}
use Rattle.c_typing.specs.Types.{Position, Specified, specified, is_static, Declared}
use Rattle.c_typing.specs.Checked.{Checked, Fits, Fails, Contents, Zeros, Note, fits, fails, noted, also, if_fits, pair}
use Rattle.c_typing.specs.Checked.{both, value_in, or_fails}
use Rattle.c_typing.specs.Declarators.{ArrayValues, Letters, Listed, NoValues, array_values, ObjectType}
use Rattle.c_typing.specs.Declarators.{IntegerObject, PointerObject, ArrayObject, object_declared, object_allowed}
use Rattle.c_typing.specs.Declarators.{type_faults}
use Rattle.c_typing.specs.Expressions.{first_word, first_token, first_piece, text_note, text_bytes, text_entity, Given}
use Rattle.c_typing.specs.Expressions.{given, typed_expression}
use Rattle.c_typing.specs.Initialisers.{values_for, scalar_values, first_of, scalar_initialiser}
use Rattle.c_typing.specs.Initialisers.{elements_for, array_initialiser, contents_for}
use Rattle.c_typing.specs.Names.{Scope, object_number}
use Rattle.c_typing.specs.Rows.{assigned}
use Rattle.c_typing.specs.Statements.{bound_item, after_item, after_items, after_specified, after_declaration, stored}
use Rattle.c_typing.specs.Statements.{object_item, scope_faults, typed_item, typed_items, typed_declaration}
use Rattle.c_typing.specs.Statements.{sized_item}
use Rattle.c_typing.proofs.CountUp.{IfFits, holds_noted, holds_if, holds_both, holds_also}
use Rattle.flow_graph.specs.Graphs.{IsIn}
use Rattle.lower_laws.specs.Declared.{NamesOnly, InitialiserNamesOnly, ItemsNameOnly, known_after, known_behind}
use Rattle.pcc_program.proofs.DeclaredFirstExpressions.{Knows, GivenNames, sees_on, assigned_names, expression_names}
use Rattle.pcc_program.proofs.DeclaredFirstExpressions.{given_names}

-- ---- two parts, of which the first may say something of what is around the second

pub pair_then : {A B : Type 0} (P : A → Type 0) (Q : A → B → Type 0) (c : Checked A) (d : Checked B) → IfFits P c
    → ((a : A) → P a → IfFits (Q a) d) → IfFits (λ (p : A × B). P p.0 × Q p.0 p.1) (pair c d)
pair_then P Q (Fits a ns) (Fits b ms) h k = (h, k a h)
pair_then P Q (Fits a ns) (Fails g gs) h k = tt
pair_then P Q (Fails f fs) d h k = tt

pub both_then : {A B C : Type 0} (P : A → Type 0) (Q : A → B → Type 0) (R : C → Type 0) (c : Checked A) (d : Checked B)
    (f : A → B → Checked C) → IfFits P c → ((a : A) → P a → IfFits (Q a) d)
    → ((a : A) (b : B) → P a → Q a b → IfFits R (f a b)) → IfFits R (both c d f)
both_then P Q R c d f h k on =
    holds_if (λ p. P p.0 × Q p.0 p.1) R (pair c d) (λ p. f p.0 p.1) (pair_then P Q c d h k)
    (λ p x. on p.0 p.1 x.0 x.1)

-- ---- what initialises an object

module _ (known : List ℕ) where
  abbrev N : Expression → Type 0
  N e = NamesOnly known e

  abbrev Ns : List Expression → Type 0
  Ns es = AllByRecursion N es

  values_names : (to : ValueType) (room : ℕ) (gs : List Given) → GivenNames known gs
      → IfFits Ns (values_for (assigned to) room gs)
  values_names to room [] h = tt
  values_names to zero (g ∷ gs) h =
      holds_both N Ns Ns (if_fits g.value (λ e. fails kinds.Initialiser g.at)) (values_for (assigned to) zero gs)
      (λ x xs. fits (x ∷ xs)) (holds_if N N g.value (λ e. fails kinds.Initialiser g.at) h.0 (λ e x. tt))
      (values_names to zero gs h.1) (λ x xs u v. (u, v))
  values_names to (suc room) (g ∷ gs) h =
      holds_both N Ns Ns (if_fits g.value (assigned to g.at)) (values_for (assigned to) room gs)
      (λ x xs. fits (x ∷ xs))
      (holds_if N N g.value (assigned to g.at) h.0 (λ e x. assigned_names known to g.at e x))
      (values_names to room gs h.1) (λ x xs u v. (u, v))

  first_names : (es : List Expression) → Ns es → IfSome (first_of es) N
  first_names [] h = tt
  first_names (e ∷ es) h = h.0

  abbrev MaybeNames : Option Expression → Type 0
  MaybeNames o = IfSome o N

  scalar_names : (s : Scope) → Knows known s → (of : ValueType) (v : Option ValueTree)
      → IfFits MaybeNames (scalar_initialiser s of v)
  scalar_names s k of None = tt
  scalar_names s k of (Some v) =
      let gs = given s (scalar_values v.value) in
      holds_if Ns MaybeNames (values_for (assigned of) 1 gs) (λ es. fits (first_of es))
      (values_names of 1 gs (given_names known s k (scalar_values v.value))) (λ es h. first_names es h)

  abbrev I : Initialiser → Type 0
  I i = InitialiserNamesOnly known i

  letters_by : (b : Bool) (object : ℕ) (note : Note) (at : Span)
      → IfFits I (if b then Fits (Text object) (note ∷ []) else fails kinds.Initialiser at)
  letters_by true object note at = tt
  letters_by false object note at = tt

  elements_names : (s : Scope) → Knows known s → (element : IntegerType) (n : ℕ) (values : ArrayValues)
      → IfFits I (elements_for s element n values)
  elements_names s k element n (Letters pieces) =
      letters_by (nat_le (length (text_bytes pieces)) n) (object_number s (text_entity pieces)) (text_note pieces)
      (first_piece pieces)
  elements_names s k element n (Listed es) =
      holds_if Ns I (values_for (assigned (Integer element)) n (given s es)) (λ xs. fits (Elements xs))
      (values_names (Integer element) n (given s es) (given_names known s k es)) (λ xs h. h)
  elements_names s k element n (NoValues e) =
      holds_if N I (typed_expression s e) (λ x. fails kinds.Initialiser (first_token e)) (expression_names known s k e)
      (λ x h. tt)

  array_names : (s : Scope) → Knows known s → (element : IntegerType) (n : ℕ) (v : Option ValueTree)
      → IfFits I (array_initialiser s element n v)
  array_names s k element n None = tt
  array_names s k element n (Some v) = elements_names s k element n (array_values element v.value)

-- ---- declared items

-- items name only what is known, and in the scope behind them what they declare is known too
abbrev pub Behind : List ℕ → Scope → List Item → Type 0
Behind known t is = ItemsNameOnly known is × Knows (known_behind known is) t

module _ (known : List ℕ) where
  stored_behind : (t : Scope) → Knows known t → (e : Entity) (type : ObjectType) (c : Checked Contents)
      → IfFits (Behind known t) (stored e type [] c)
  stored_behind t k e type (Fits a ns) = (tt, k)
  stored_behind t k e type (Fails f fs) = tt

  scalar_behind : (s t : Scope) (of : ValueType) (v : Option ValueTree) → Knows (length s.locals ∷ known) t
      → IfFits (Behind known t)
      (if_fits (scalar_initialiser t of v) (λ e. fits (tree.Scalar s.next (length s.locals) e ∷ [])))
  scalar_behind s t of v k =
      holds_if (MaybeNames (length s.locals ∷ known)) (Behind known t) (scalar_initialiser t of v)
      (λ e. fits (tree.Scalar s.next (length s.locals) e ∷ [])) (scalar_names (length s.locals ∷ known) t k of v)
      (λ e h. ((h, tt), k))

  array_behind : (s t : Scope) (element : IntegerType) (n : ℕ) (v : Option ValueTree) → Knows known t
      → IfFits (Behind known t)
      (if_fits (array_initialiser t element n v) (λ i. fits (tree.Array s.next (length s.arrays) element i ∷ [])))
  array_behind s t element n v k =
      holds_if (InitialiserNamesOnly known) (Behind known t) (array_initialiser t element n v)
      (λ i. fits (tree.Array s.next (length s.arrays) element i ∷ [])) (array_names known t k element n v)
      (λ i h. ((h, tt), k))

  -- one local more is known
  more : (s : Scope) (v : ℕ) → Knows known s → Knows (v ∷ known) s
  more s v k = sees_on (λ u. IsIn u known) (λ u. IsIn u (v ∷ known)) (λ u h. inr h) s.names k

  object_at : (static : Bool) (s : Scope) (name : Identifier) (v : Option ValueTree) (type : ObjectType)
      → Knows known s → IfFits (Behind known (bound_item static name (Some type) s))
      (object_item static s (bound_item static name (Some type) s) name v type)
  object_at true s name v (IntegerObject of) k =
      let t = bound_item true name (Some (IntegerObject of)) s in
      stored_behind t (tt, k) (At name.at) (IntegerObject of) (contents_for t (IntegerObject of) Zeros v)
  object_at true s name v (PointerObject of) k =
      stored_behind s k (At name.at) (PointerObject of) (contents_for s (PointerObject of) Zeros v)
  object_at true s name v (ArrayObject element n) k =
      let t = bound_item true name (Some (ArrayObject element n)) s in
      stored_behind t (tt, k) (At name.at) (ArrayObject element n) (contents_for t (ArrayObject element n) Zeros v)
  object_at false s name v (IntegerObject of) k =
      scalar_behind s (bound_item false name (Some (IntegerObject of)) s) (Integer of) v
      (inl refl, more s (length s.locals) k)
  object_at false s name v (PointerObject of) k =
      scalar_behind s (bound_item false name (Some (PointerObject of)) s) (Pointer of) v
      (inl refl, more s (length s.locals) k)
  object_at false s name v (ArrayObject element n) k =
      array_behind s (bound_item false name (Some (ArrayObject element n)) s) element n v (tt, k)

  object_behind : (static : Bool) (s t : Scope) (name : Identifier) (v : Option ValueTree) (type : ObjectType)
      → t ≡ bound_item static name (Some type) s → Knows known s
      → IfFits (Behind known t) (object_item static s t name v type)
  object_behind static s t name v type e k =
      subst (λ u. IfFits (Behind known u) (object_item static s u name v type)) (sym e)
      (object_at static s name v type k)

  allowed_behind : (static : Bool) (s t : Scope) (name : Identifier) (v : Option ValueTree) (fs : List Fault)
      (ns : List Note) (x : Checked ObjectType) → t ≡ bound_item static name (value_in (noted ns x)) s → Knows known s
      → IfFits (Behind known t) (also fs (if_fits x (object_item static s t name v)))
  allowed_behind static s t name v fs ns (Fits type ms) e k =
      let c = object_item static s t name v type in
      holds_also (Behind known t) fs (noted ms c)
      (holds_noted (Behind known t) ms c (object_behind static s t name v type e k))
  allowed_behind static s t name v fs ns (Fails g gs) e k =
      let c : Checked (List Item) = Fails g gs in
      holds_also (Behind known t) fs c tt

  declared_behind : (static : Bool) (s t : Scope) (name : Identifier) (v : Option ValueTree) (fs : List Fault)
      (c : Checked Declared) → t ≡ bound_item static name (value_in (if_fits c (object_allowed static name.at))) s
      → Knows known s → IfFits (Behind known t)
      (if_fits c (λ d. also fs (if_fits (object_allowed static name.at d) (object_item static s t name v))))
  declared_behind static s t name v fs (Fits d ns) e k =
      let x = object_allowed static name.at d in
      holds_noted (Behind known t) ns (also fs (if_fits x (object_item static s t name v)))
      (allowed_behind static s t name v fs ns x e k)
  declared_behind static s t name v fs (Fails g gs) e k = tt

  item_behind : (said : Specified) (i : ItemTree) (s : Scope) → Knows known s
      → IfFits (Behind known (after_item said i s)) (typed_item said i s)
  item_behind said i s k =
      holds_also (Behind known (after_item said i s)) (type_faults (is_static said.storage) said i.declarator)
      (sized_item said i s)
      (declared_behind (is_static said.storage) s (after_item said i s) i.declarator.name i.initialiser
      (scope_faults s i.declarator.name) (object_declared s said i.declarator i.initialiser) refl k)

items_on : (known : List ℕ) (t : Scope) (xs ys : List Item) → ItemsNameOnly known xs
    → Behind (known_behind known xs) t ys → Behind known t (xs ++ ys)
items_on known t [] ys h g = g
items_on known t (x ∷ xs) ys h g = let r = items_on (known_after known x) t xs ys h.1 g in ((h.0, r.0), r.1)

items_behind : (known : List ℕ) (said : Specified) (is : List ItemTree) (s : Scope) → Knows known s
    → IfFits (Behind known (after_items said is s)) (typed_items said is s)
items_behind known said [] s k = (tt, k)
items_behind known said (i ∷ is) s k =
    let t = after_item said i s in
    let u = after_items said is t in
    both_then (Behind known t) (λ xs. Behind (known_behind known xs) u) (Behind known u) (typed_item said i s)
    (typed_items said is t) (λ xs ys. fits (xs ++ ys)) (item_behind known said i s k)
    (λ xs h. items_behind (known_behind known xs) said is t h.1) (λ xs ys h g. items_on known u xs ys h.0 g)

specified_behind : (known : List ℕ) (o : Option Specified) (at : Span) (is : List ItemTree) (s : Scope) → Knows known s
    → IfFits (Behind known (after_specified o is s)) (if_fits (or_fails o TypeRule at) (λ said. typed_items said is s))
specified_behind known None at is s k = tt
specified_behind known (Some said) at is s k =
    holds_noted (Behind known (after_items said is s)) [] (typed_items said is s) (items_behind known said is s k)

pub declaration_behind : (known : List ℕ) (position : Position) (d : DeclarationTree) (s : Scope) → Knows known s
    → IfFits (Behind known (after_declaration position d s)) (typed_declaration position d s)
declaration_behind known position d s k =
    specified_behind known (specified position d.specifiers) (first_word d.specifiers) d.items s k
