-- Functions of files that fit are well typed, and each one matches its note.
use Rattle.std.proofs.Common.{arith, ◌≡◌, refl, sym, ap, subst, ◌∙◌, ℕ, ◌≤◌, Bool, true, false, List, [], ◌∷◌}
use Rattle.std.proofs.Common.{◌++◌, length}
use Rattle.std.specs.Prelude.{Option, Some, None, IfSome, codes, take, is_some, ◌⊎◌, if◌then◌else◌}
use Rattle.std.proofs.Common.{inl, inr}
use Rattle.std.specs.List.{AllByRecursion}
use Rattle.std.proofs.lemmas.List.{append-nil, take_at, length-append}
use Rattle.pcc_base.specs.declared.span.Span.{Span}
use Rattle.pcc_base.specs.declared.fault.FaultKind.TheVariants.{TypeRule}
use Rattle.pcc_base.proofs.Lists.{all-append, all-left, all-right, all-weaker}
use Rattle.c_syntax.specs.declared.expression.Identifier.{Identifier}
use Rattle.c_syntax.specs.Declarations as parts
use Rattle.c_syntax.specs.Declarations.{ItemTree, DeclarationTree, DeclaratorTree, ParameterTree, PartTree, ValueTree}
use Rattle.c_syntax.specs.Grammar.{IsExternal}
use Rattle.c_syntax.specs.Statements as trees
use Rattle.c_syntax.specs.Statements.{Stmt, Stmts, NoStmt, OneStmt, ExternalTree, FunctionTree, DeclaredTree}
use Rattle.c_syntax.specs.StatementTokens.{IsStmt}
use Rattle.c_tree.specs.declared.types.IntegerType.{IntegerType}
use Rattle.c_tree.specs.declared.types.ValueType.{ValueType}
use Rattle.c_tree.specs.declared.types.ValueType.TheVariants.{Void, Integer, Pointer}
use Rattle.c_tree.specs.Program as tree
use Rattle.c_tree.specs.WellTyped.{IsResult, IsScalar, IsTypedFunction, AreStatements, parameters_of}
use Rattle.c_typing.specs.Library.{Entity, Library, Shared, OfFile, At, Putchar, Getchar, Exit, same_name, external}
use Rattle.c_typing.specs.Types.{Outside, Specified, specified, Storage, Unsaid, Auto, Register, Static, Extern}
use Rattle.c_typing.specs.Types.{pointed}
use Rattle.c_typing.specs.Types.{Declared, DeclaredValue, DeclaredArray, DeclaredFunction}
use Rattle.c_typing.specs.Checked.{Checked, Fits, Fails, Contents, Note, Uses, Stores, Defines, fits, noted, also}
use Rattle.c_typing.specs.Checked.{if_fits}
use Rattle.c_typing.specs.Checked.{both, value_in, or_fails}
use Rattle.c_typing.specs.Declarators.{ObjectType, IntegerObject, PointerObject, ArrayObject, object_declared}
use Rattle.c_typing.specs.Declarators.{object_allowed, parameters_meant, typed_parameters}
use Rattle.c_typing.specs.Declarators.{type_faults}
use Rattle.c_typing.specs.Expressions.{first_word}
use Rattle.c_typing.specs.Initialisers.{contents_for}
use Rattle.c_typing.specs.Initialisers.{function_initialiser}
use Rattle.c_typing.specs.Names.{Meaning, Local, LocalArray, Object, ObjectArray, Function, Signature, Scope, Outer}
use Rattle.c_typing.specs.Names.{Binding}
use Rattle.c_typing.specs.Names.{binding_of, meaning_in, meaning_of, entered, left, as_before, is_function, linked}
use Rattle.c_typing.specs.Names.{next_file, library_names}
use Rattle.c_typing.specs.Statements.{bound_object, elements_of, size_of, stored, typed_statements, after_statements}
use Rattle.c_typing.specs.Files.{outer_of, redeclared_faults, with_outer, result_allowed, signature_of}
use Rattle.c_typing.specs.Files.{function_declared, function_signature, bound_function, after_function}
use Rattle.c_typing.specs.Files.{without_value, bound_allowed, bound_outer, after_object, typed_object, typed_prototype}
use Rattle.c_typing.specs.Files.{after_outer_item, typed_outer_item, after_outer_items, typed_outer_items}
use Rattle.c_typing.specs.Files.{parameters_in}
use Rattle.c_typing.specs.Files.{body_of, at_body, function_with, defined, in_function, typed_definition}
use Rattle.c_typing.specs.Files.{after_definition}
use Rattle.c_typing.specs.Files.{after_said, after_external, typed_external, after_unit, typed_unit, typed_units}
use Rattle.c_typing.specs.Files.{library_faults, result_faults, sized_object}
use Rattle.c_typing.proofs.CountUp.{IfFits, holds_also, holds_if}
use Rattle.c_check_laws.proofs.Setting.{Setting, Holds, IsAt, IsQuiet, IsKept, Kept, Sound}
use Rattle.c_check_laws.proofs.Setting.{sound_if}
use Rattle.c_check_laws.proofs.Setting.{sound_also}
use Rattle.c_check_laws.proofs.ExpressionsSound.{Sees, IsMeant, Any}
use Rattle.c_check_laws.proofs.Growing.{Grows, grows_on, grows_statements, Each, items_each}
use Rattle.c_check_laws.proofs.ItemsSound.{Within, all_by, declared_sound, allowed_sound, contents_sound}
use Rattle.c_typing.proofs.FilesCountUp.{by_initialiser}
use Rattle.c_check_laws.proofs.StatementsSound.{statements_sound}
use Rattle.c_check_laws.proofs.ParametersSound.{types_of, Hides, hides_more, hides_same, each_is, grows_parameters}
use Rattle.c_check_laws.proofs.ParametersSound.{sees_parameters, any_where, each_any}

-- ---- notes

abbrev pub DefinesNone : Note → Type 0
DefinesNone (Uses e at) = Unit {0}
DefinesNone (Stores x) = Unit {0}
DefinesNone (Defines e d) = ⊥

quiet_none : (n : Note) → IsQuiet n → DefinesNone n
quiet_none (Uses e at) h = tt
quiet_none (Stores x) h = tt
quiet_none (Defines e d) h = absurd h

-- the type of a function as it is declared
abbrev pub declared_type : tree.Function → Declared
declared_type f = DeclaredFunction (Some f.result) (types_of (parameters_of f))

-- these functions are those that are defined, in order, with these types
abbrev pub Matches : List tree.Function → List Note → Type 0
Matches fs [] = fs ≡ []
Matches fs (Uses e at ∷ ns) = Matches fs ns
Matches fs (Stores x ∷ ns) = Matches fs ns
Matches [] (Defines e d ∷ ns) = ⊥
Matches (f ∷ fs) (Defines e d ∷ ns) = (d ≡ declared_type f) × Matches fs ns

matches_more : (ns : List Note) → AllByRecursion DefinesNone ns → (fs : List tree.Function) (ms : List Note)
    → Matches fs ms → Matches fs (ns ++ ms)
matches_more [] h fs ms k = k
matches_more (Uses e at ∷ ns) h fs ms k = matches_more ns h.1 fs ms k
matches_more (Stores x ∷ ns) h fs ms k = matches_more ns h.1 fs ms k
matches_more (Defines e d ∷ ns) h fs ms k = absurd h.0

pub matches_on : (fs gs : List tree.Function) (ns ms : List Note) → Matches fs ns → Matches gs ms
    → Matches (fs ++ gs) (ns ++ ms)
matches_on fs gs [] ms h k = subst (λ (xs : List tree.Function). Matches (xs ++ gs) ms) (sym h) k
matches_on fs gs (Uses e at ∷ ns) ms h k = matches_on fs gs ns ms h k
matches_on fs gs (Stores x ∷ ns) ms h k = matches_on fs gs ns ms h k
matches_on [] gs (Defines e d ∷ ns) ms h k = absurd h
matches_on (f ∷ fs) gs (Defines e d ∷ ns) ms h k = (h.0, matches_on fs gs ns ms h.1 k)

matches_none : (ns : List Note) → AllByRecursion DefinesNone ns → Matches [] ns
matches_none [] h = refl
matches_none (Uses e at ∷ ns) h = matches_none ns h.1
matches_none (Stores x ∷ ns) h = matches_none ns h.1
matches_none (Defines e d ∷ ns) h = absurd h.0

quiet_nones : (ns : List Note) → AllByRecursion IsQuiet ns → AllByRecursion DefinesNone ns
quiet_nones ns h = all-weaker IsQuiet DefinesNone ns quiet_none h

-- ---- signatures

result_is : (at : Span) (o : Option ValueType) → IfFits (λ t. IsResult t × (o ≡ Some t)) (result_allowed at o)
result_is at None = tt
result_is at (Some Void) = (tt, refl)
result_is at (Some (Integer t)) = (tt, refl)
result_is at (Some (Pointer t)) = tt

pub also_none : {A : Type 0} (P : A → Type 0) (fs : List _) (c : Checked A) → (fs ≡ [] → IfFits P c) → IfFits P (also
    fs c)
also_none P [] c h = h refl
also_none P (f ∷ fs) c h = tt

pub none_first : {A : Type 0} (xs ys : List A) → xs ++ ys ≡ [] → xs ≡ []
none_first [] ys e = refl
none_first (x ∷ xs) ys e = grind arith

abbrev pub function_type : Signature → Declared
function_type g = DeclaredFunction (Some g.result) g.parameters

-- a signature has a result that functions may have, such parameters, and goes against no earlier declaration
abbrev pub SignatureIs : Scope → Specified → Identifier → Bool → (List ValueType → Type 0) → Signature → Type 0
SignatureIs s said name whole F g = IsResult g.result × F g.parameters
    × (redeclared_faults s name (outer_of s said name whole (function_type g)) ≡ [])

declared_is : (s : Scope) (said : Specified) (name : Identifier) (whole : Bool) (result : Option ValueType)
    (F : List ValueType → Type 0) (ts : List ValueType) → F ts
    → IfFits (SignatureIs s said name whole F) (function_declared s said name whole result ts)
declared_is s said name whole result F ts h =
    let o = outer_of s said name whole (DeclaredFunction result ts) in
    let P = SignatureIs s said name whole F in
    also_none P (redeclared_faults s name o ++ library_faults name o) (signature_of name.at result ts) (λ e.
    holds_if (λ t. IsResult t × (result ≡ Some t)) P (result_allowed name.at result)
    (λ t. fits (record { result = t; parameters = ts })) (result_is name.at result) (λ t p. (
      p.0,
      h,
      ap (λ r. redeclared_faults s name (outer_of s said name whole (DeclaredFunction r ts))) (sym p.1)
          ∙ none_first (redeclared_faults s name o) (library_faults name o) e,
    )))

pub signature_is : (s : Scope) (said : Specified) (d : DeclaratorTree) (whole : Bool) (ps : List ParameterTree)
    (F : List ValueType → Type 0) → IfFits F (typed_parameters (entered s) whole ps)
    → IfFits (SignatureIs s said d.name whole F) (function_signature s said d whole ps)
signature_is s said d whole ps F h =
    let make = function_declared s said d.name whole (pointed said.base d.pointer) in
    holds_also (SignatureIs s said d.name whole F) (result_faults said d)
    (if_fits (typed_parameters (entered s) whole ps) make)
    (holds_if F (SignatureIs s said d.name whole F) (typed_parameters (entered s) whole ps) make h
    (λ ts k. declared_is s said d.name whole (pointed said.base d.pointer) F ts k))

-- where a body begins
abbrev pub cleared : Scope → Scope
cleared s = record (entered s) { locals = []; arrays = [] }

hides_outside : (s : Scope) (said : Specified) (name : Identifier) (whole : Bool) (o : Option Signature)
    → Hides (entered s) (cleared (bound_function said name whole o s))
hides_outside s said name whole None = hides_same (entered s) (cleared s) refl refl
hides_outside s said name whole (Some g) =
    hides_more (entered s) (cleared (bound_function said name whole (Some g) s)) s.depth _ refl refl refl refl

parameters_are : (s : Scope) (said : Specified) (d : DeclaratorTree) (ps : List ParameterTree)
    → IfFits (λ ts. types_of (at_body ps (after_function said d true ps s)).locals ≡ ts)
    (typed_parameters (entered s) true ps)
parameters_are s said d ps =
    each_is (parameters_meant ps) (entered s) (cleared (after_function said d true ps s))
    (hides_outside s said d.name true (value_in (function_signature s said d true ps)))

-- ---- entities outside functions

abbrev pub NotAt : Entity → Type 0
NotAt (Library f) = Unit {0}
NotAt (Shared name) = Unit {0}
NotAt (OfFile file name) = Unit {0}
NotAt (At place) = ⊥

external_by : (a b c : Bool) (name : List ℕ) → NotAt (if a then Library Putchar
    else if b then Library Getchar else if c then Library Exit else Shared name)
external_by true b c name = tt
external_by false true c name = tt
external_by false false true name = tt
external_by false false false name = tt

pub external_not : (name : List ℕ) → NotAt (external name)
external_not name =
    external_by (same_name name (codes "putchar")) (same_name name (codes "getchar")) (same_name name (codes "exit"))
    name

pub meaning_where : (P : Meaning → Type 0) (bs : List Binding) (name : List ℕ)
    → AllByRecursion (λ (b : Binding). P b.meaning) bs → IfSome (meaning_of bs name) P
meaning_where P [] name h = tt
meaning_where P (b ∷ bs) name h = by_test (same_name b.name name) (meaning_where P bs name h.1)
  where
    by_test : (t : Bool) → IfSome (meaning_in (binding_of bs name)) P
        → IfSome (meaning_in (if t then Some b else binding_of bs name)) P
    by_test true k = h.0
    by_test false k = k

-- what an object of this type is declared as
abbrev pub IsObjectOf : Declared → IntegerType → ℕ → Type 0
IsObjectOf (DeclaredValue (Some (Integer u))) t n = (t ≡ u) × (n ≡ 1)
IsObjectOf (DeclaredArray (Some (Integer u)) m) t n = (t ≡ u) × (n ≡ m)
IsObjectOf _ t n = ⊥

allowed_of : (at : Span) (d : Declared)
    → IfFits (λ type. IsObjectOf d (elements_of type) (size_of type)) (object_allowed true at d)
allowed_of at (DeclaredValue None) = tt
allowed_of at (DeclaredValue (Some Void)) = tt
allowed_of at (DeclaredValue (Some (Integer t))) = (refl, refl)
allowed_of at (DeclaredValue (Some (Pointer t))) = tt
allowed_of at (DeclaredArray None n) = tt
allowed_of at (DeclaredArray (Some Void) n) = tt
allowed_of at (DeclaredArray (Some (Integer t)) n) = (refl, refl)
allowed_of at (DeclaredArray (Some (Pointer t)) n) = tt
allowed_of at (DeclaredFunction result ps) = tt

no_function : tree.Function
no_function = record { name = []; result = Void; parameters = 0; locals = []; arrays = []; body = tree.Done }

take_first : (xs ys zs : List tree.Local) → zs ≡ xs ++ ys → take (length xs) zs ≡ xs
take_first xs ys zs e = ap (take (length xs)) e ∙ take_at xs ys (length xs) refl

no_longer : (xs ys zs : List tree.Local) → zs ≡ xs ++ ys → length xs ≤ length zs
no_longer xs ys zs e = let l = length-append xs ys in let k = ap length e in omega (arith, l, k)

pub each_of_body : (body : Stmt) → IsStmt body → Each (body_of body)
each_of_body (trees.Block o items c) h = items_each items h
each_of_body (trees.Declared d) h = (h, tt)
each_of_body (trees.Labelled labels st) h = (h, tt)
each_of_body (trees.Simple e semicolon) h = (h, tt)
each_of_body (trees.If at o e c st) h = (h, tt)
each_of_body (trees.IfElse at o e c st otherwise other) h = (h, tt)
each_of_body (trees.Switch at o e c begin items end) h = (h, tt)
each_of_body (trees.While at o e c st) h = (h, tt)
each_of_body (trees.Do at st until o e c semicolon) h = (h, tt)
each_of_body (trees.For at o start first e second step c st) h = (h, tt)
each_of_body (trees.ForDeclaration at o start e second step c st) h = (h, tt)
each_of_body (trees.Break at semicolon) h = (h, tt)
each_of_body (trees.Continue at semicolon) h = (h, tt)
each_of_body (trees.Return at e semicolon) h = (h, tt)

-- the scope behind all files
abbrev pub after_units : List (List ExternalTree) → Scope → Scope
after_units [] s = s
after_units (u ∷ us) s = after_units us (next_file (after_unit u s))

-- In a setting, where D holds of each declaration outside functions: a function's declaration is known.
module _ (w : Setting) (D : Outer → Type 0)
    (link : (o : Outer) (g : Signature) → D o → NotAt o.entity → o.type ≡ function_type g → w.called o.entity g) where
  -- what names mean outside functions
  abbrev pub IsOutside : Meaning → Type 0
  IsOutside (Local v of) = ⊥
  IsOutside (LocalArray k element) = ⊥
  IsOutside (Object e of) = w.stored e of 1 × NotAt e
  IsOutside (ObjectArray e element) = ((n : ℕ) × w.stored e element n) × NotAt e
  IsOutside (Function e g) = w.called e g × NotAt e

  pub record Knows (s : Scope) : Type 0 where
    pub numbers : s.numbers ≡ w.numbers
    pub names : AllByRecursion (λ (b : Binding). IsOutside b.meaning) s.names

  meant_of : (f : tree.Function) (m : Meaning) → IsOutside m → IsMeant w f m
  meant_of f (Local v of) h = absurd h
  meant_of f (LocalArray k element) h = absurd h
  meant_of f (Object e of) h = h.0
  meant_of f (ObjectArray e element) h = h.0
  meant_of f (Function e g) h = h.0

  sees_of : (f : tree.Function) (s t : Scope) → t.numbers ≡ s.numbers → t.names ≡ s.names → Knows s → Holds w
      → Sees w f t
  sees_of f s t n e k h = record {
    holds = h;
    numbers = n ∙ k.numbers;
    names = subst (AllByRecursion (λ (b : Binding). IsMeant w f b.meaning)) (sym e)
        (all-weaker (λ (b : Binding). IsOutside b.meaning) (λ (b : Binding). IsMeant w f b.meaning) s.names
        (λ b m. meant_of f b.meaning m) k.names);
  }

  before_not : (name : List ℕ) (o : Option Meaning) → IfSome o IsOutside → NotAt (as_before name o)
  before_not name None h = external_not name
  before_not name (Some (Local v of)) h = absurd h
  before_not name (Some (LocalArray k element)) h = absurd h
  before_not name (Some (Object e of)) h = h.1
  before_not name (Some (ObjectArray e element)) h = h.1
  before_not name (Some (Function e g)) h = h.1

  if_before : (b : Bool) (name : List ℕ) (o : Option Meaning) → IfSome o IsOutside
      → NotAt (if b then as_before name o else external name)
  if_before true name o h = before_not name o h
  if_before false name o h = external_not name

  linked_not : (s : Scope) → Knows s → (storage : Storage) (type : Declared) (name : List ℕ)
      → NotAt (linked s storage type name)
  linked_not s k Static type name = tt
  linked_not s k Extern type name =
      before_not name (meaning_of s.names name) (meaning_where IsOutside s.names name k.names)
  linked_not s k Unsaid type name =
      if_before (is_function type) name (meaning_of s.names name) (meaning_where IsOutside s.names name k.names)
  linked_not s k Auto type name = external_not name
  linked_not s k Register type name = external_not name

  -- a note has a declaration, outside functions
  abbrev pub Backed : Note → Type 0
  Backed (Uses e at) = Unit {0}
  Backed (Stores x) = IsAt x.entity
      ⊎ ((o : Outer) × D o × (o.entity ≡ x.entity) × IsObjectOf o.type x.element x.count × NotAt x.entity)
  Backed (Defines e d) = (o : Outer) × D o × (o.entity ≡ e) × (o.type ≡ d) × NotAt e

  quiet_backed : (n : Note) → IsQuiet n → Backed n
  quiet_backed (Uses e at) h = tt
  quiet_backed (Stores x) h = inl h
  quiet_backed (Defines e d) h = absurd h

  quiet_all : (ns : List Note) → AllByRecursion IsQuiet ns → AllByRecursion Backed ns
  quiet_all ns h = all-weaker IsQuiet Backed ns quiet_backed h

  -- Functions match their notes; where X holds and the program keeps the notes, these have declarations, and P holds.
  abbrev pub Whole : Type 0 → (List tree.Function → Type 0) → Checked (List tree.Function) → Type 0
  Whole X P (Fits fs ns) = Matches fs ns × (X → Kept w ns → AllByRecursion Backed ns × P fs)
  Whole X P (Fails f fs) = Unit {0}

  -- functions that are right, and what is seen behind them
  abbrev pub Right : Scope → List tree.Function → Type 0
  Right t fs = (Holds w → AllByRecursion (IsTypedFunction w.program) fs) × Knows t

  whole_quiet : (X : Type 0) (P : List tree.Function → Type 0) (ns : List Note) (c : Checked (List tree.Function))
      → AllByRecursion IsQuiet ns → Whole X P c → Whole X P (noted ns c)
  whole_quiet X P ns (Fits fs ms) q h = (
    matches_more ns (quiet_nones ns q) fs ms h.0,
    λ x kept.
        let r = h.1 x (all-right (IsKept w) ns ms kept) in (all-append Backed ns ms (quiet_all ns q) r.0, r.1),
  )
  whole_quiet X P ns (Fails f fs) q h = tt

  whole_also : (X : Type 0) (P : List tree.Function → Type 0) (fs : List _) (c : Checked (List tree.Function))
      → Whole X P c → Whole X P (also fs c)
  whole_also X P [] c h = h
  whole_also X P (f ∷ fs) c h = tt

  pub whole_then : (X : Type 0) (t u : Scope) (c d : Checked (List tree.Function)) → Whole X (Right t) c
      → Whole (Knows t) (Right u) d → Whole X (Right u) (both c d (λ fs gs. fits (fs ++ gs)))
  whole_then X t u (Fits fs ns) (Fits gs ms) h k =
      subst (λ ks. Whole X (Right u) (Fits (fs ++ gs) ks)) (sym (append-nil (ns ++ ms))) (
        matches_on fs gs ns ms h.0 k.0,
        λ x kept.
            let a = h.1 x (all-left (IsKept w) ns ms kept) in
            let b = k.1 a.1.1 (all-right (IsKept w) ns ms kept) in (
              all-append Backed ns ms a.0 b.0,
              (λ z. all-append (IsTypedFunction w.program) fs gs (a.1.0 z) (b.1.0 z), b.1.1),
            ),
      )
  whole_then X t u (Fits fs ns) (Fails g gs) h k = tt
  whole_then X t u (Fails f fs) d h k = tt

  -- ---- objects

  bound_knows : (name : Identifier) (e : Entity) (type : ObjectType) (s : Scope) → Knows s
      → w.stored e (elements_of type) (size_of type) → NotAt e → Knows (bound_object name e type s)
  bound_knows name e (IntegerObject of) s k h n =
      record { numbers = k.numbers; names = ((h, n), k.names) }
  bound_knows name e (PointerObject of) s k h n = k
  bound_knows name e (ArrayObject element count) s k h n =
      record { numbers = k.numbers; names = (((count, h), n), k.names) }

  outer_bound : (name : Identifier) (e : Entity) (type : ObjectType) (s : Scope)
      → (bound_object name e type s).outer ≡ s.outer
  outer_bound name e (IntegerObject of) s = refl
  outer_bound name e (PointerObject of) s = refl
  outer_bound name e (ArrayObject element count) s = refl

  stored_whole : (s t : Scope) (name : Identifier) (o : Outer) (type : ObjectType) (c : Checked Contents)
      → (Knows s → NotAt o.entity) → D o → IsObjectOf o.type (elements_of type) (size_of type)
      → Sound w (Knows s) Any c → t ≡ bound_object name o.entity type (with_outer o s)
      → Whole (Knows s) (Right t) (stored o.entity type [] c)
  stored_whole s t name o type (Fits contents ns) n d h q e = (
    matches_none ns (quiet_nones ns q.0),
    λ k kept. (
      (inr (o, d, refl, h, n k), quiet_all ns q.0),
      (
        λ z. tt,
        subst Knows (sym e) (bound_knows name o.entity type (with_outer o s)
            (record { numbers = k.numbers; names = k.names }) kept.0.0 (n k)),
      ),
    ),
  )
  stored_whole s t name o type (Fails f fs) n d h q e = tt

  outer_first : (s t : Scope) (name : Identifier) (o : Outer) (type : ObjectType)
      → t ≡ bound_object name o.entity type (with_outer o s) → AllByRecursion D t.outer → D o
  outer_first s t name o type e h =
      (subst (AllByRecursion D) (ap (λ (u : Scope). u.outer) e ∙ outer_bound name o.entity type (with_outer o s)) h).0

  object_by_type : (s t : Scope) (name : Identifier) (o : Outer) (x : Checked ObjectType)
      (make : ObjectType → Checked Contents) → (Knows s → NotAt o.entity)
      → IfFits (λ type. IsObjectOf o.type (elements_of type) (size_of type)) x → Sound w (Knows s) Any x
      → ((type : ObjectType) → Sound w (Knows s) Any (make type))
      → t ≡ bound_allowed name o (value_in x) (with_outer o s) → AllByRecursion D t.outer
      → Whole (Knows s) (Right t) (if_fits x (λ type. stored o.entity type [] (make type)))
  object_by_type s t name o (Fits type ms) make n h q m e k =
      whole_quiet (Knows s) (Right t) ms (stored o.entity type [] (make type)) q.0
      (stored_whole s t name o type (make type) n (outer_first s t name o type e k) h (m type) e)
  object_by_type s t name o (Fails f fs) make n h q m e k = tt

  object_by : (said : Specified) (s t : Scope) (name : Identifier) (whole : Bool) (c : Checked Declared)
      (make : ObjectType → Checked Contents) → Sound w (Knows s) Any c
      → ((type : ObjectType) → Sound w (Knows s) Any (make type))
      → t ≡ bound_outer said name whole (value_in c) s → AllByRecursion D t.outer
      → Whole (Knows s) (Right t) (if_fits c (λ type.
      also (redeclared_faults s name (outer_of s said name whole type)) (if_fits (object_allowed true name.at type)
      (λ allowed. stored (outer_of s said name whole type).entity allowed [] (make allowed)))))
  object_by said s t name whole (Fits type ns) make q m e k =
      let o = outer_of s said name whole type in
      let c = if_fits (object_allowed true name.at type) (λ allowed. stored o.entity allowed [] (make allowed)) in
      whole_quiet (Knows s) (Right t) ns (also (redeclared_faults s name o) c) q.0
      (whole_also (Knows s) (Right t) (redeclared_faults s name o) c
      (object_by_type s t name o (object_allowed true name.at type) make
      (λ y. linked_not s y said.storage type name.name) (allowed_of name.at type)
      (allowed_sound w no_function (Knows s) true name.at type) m e k))
  object_by said s t name whole (Fails f fs) make q m e k = tt

  object_whole : (said : Specified) (i : ItemTree) (s : Scope) → AllByRecursion D (after_object said i s).outer
      → Whole (Knows s) (Right (after_object said i s)) (typed_object said i s)
  object_whole said i s k =
      let t = after_object said i s in
      whole_also (Knows s) (Right t) (type_faults true said i.declarator) (sized_object said i s)
      (object_by said s t i.declarator.name (is_some i.initialiser) (object_declared s said i.declarator i.initialiser)
      (λ allowed. contents_for t allowed (without_value said) i.initialiser)
      (any_where w no_function (Knows s) (Sees w no_function s) Any
      (object_declared s said i.declarator i.initialiser) (declared_sound w no_function s said i))
      (λ type. any_where w no_function (Knows s) (Sees w no_function t) Any
      (contents_for t type (without_value said) i.initialiser)
      (contents_sound w no_function t type (without_value said) i.initialiser)) refl k)

  -- ---- functions

  signature_quiet : (X : Type 0) (s : Scope) (said : Specified) (d : DeclaratorTree) (whole : Bool)
      (ps : List ParameterTree) → Sound w X Any (function_signature s said d whole ps)
  signature_quiet X s said d whole ps =
      let result = pointed said.base d.pointer in
      sound_also w X Any (result_faults said d)
      (if_fits (typed_parameters (entered s) whole ps) (function_declared s said d.name whole result)) (λ e.
      sound_if w X Any Any (typed_parameters (entered s) whole ps) (function_declared s said d.name whole result)
      (each_any w no_function X (entered s) whole (parameters_meant ps)) (λ ts z.
      let o = outer_of s said d.name whole (DeclaredFunction result ts) in
      let Y = X × Any ts in
      sound_also w Y Any (redeclared_faults s d.name o ++ library_faults d.name o)
      (signature_of d.name.at result ts) (λ e.
      sound_if w Y Any Any (result_allowed d.name.at result) (λ t. fits (record { result = t; parameters = ts }))
      (result_any Y d.name.at result) (λ t z. (tt, λ x k. tt)))))
    where
      result_any : (Y : Type 0) (at : Span) (o : Option ValueType) → Sound w Y Any (result_allowed at o)
      result_any Y at None = tt
      result_any Y at (Some Void) = (tt, λ x k. tt)
      result_any Y at (Some (Integer t)) = (tt, λ x k. tt)
      result_any Y at (Some (Pointer t)) = tt

  function_knows : (said : Specified) (name : Identifier) (whole : Bool) (g : Signature) (s : Scope)
      → AllByRecursion D (bound_function said name whole (Some g) s).outer → Knows s
      → Knows (bound_function said name whole (Some g) s)
  function_knows said name whole g s h k =
      let o = outer_of s said name whole (function_type g) in
      record {
        numbers = k.numbers;
        names = (
          (
            link o g h.0 (linked_not s k said.storage (function_type g) name.name) refl,
            linked_not s k said.storage (function_type g) name.name,
          ),
          k.names,
        );
      }

  prototype_by : (said : Specified) (name : Identifier) (v : Option ValueTree) (s t : Scope) (c : Checked Signature)
      → Sound w (Knows s) Any c → t ≡ bound_function said name false (value_in c) s → AllByRecursion D t.outer
      → Whole (Knows s) (Right t) (if_fits c (λ g. function_initialiser t v []))
  prototype_by said name v s t (Fits g ns) q e h =
      whole_quiet (Knows s) (Right t) ns (function_initialiser t v []) q.0
      (by_initialiser (Whole (Knows s) (Right t)) t v [] (
        refl,
        λ k kept. (
          tt,
          (
            λ z. tt,
            subst Knows (sym e) (function_knows said name false g s
                (subst (λ (u : Scope). AllByRecursion D u.outer) e h) k),
          ),
        ),
      ) (λ f fs. tt))
  prototype_by said name v s t (Fails f fs) q e h = tt

  prototype_whole : (said : Specified) (i : ItemTree) (ps : List ParameterTree) (s : Scope)
      → AllByRecursion D (after_function said i.declarator false ps s).outer
      → Whole (Knows s) (Right (after_function said i.declarator false ps s)) (typed_prototype said i ps s)
  prototype_whole said i ps s h =
      let t = after_function said i.declarator false ps s in
      prototype_by said i.declarator.name i.initialiser s t (function_signature s said i.declarator false ps)
      (signature_quiet (Knows s) s said i.declarator false ps) refl h

  all_moved : (P : Outer → Type 0) (xs ys : List Outer) → xs ≡ ys → AllByRecursion P xs → AllByRecursion P ys
  all_moved P xs ys e h = subst (AllByRecursion P) e h

  -- a function of these locals and arrays
  typed_function : (d : DeclaratorTree) (g : Signature) (start first last : Scope) (body : tree.Statements)
      → IsResult g.result → Grows start first → Grows first last → start.locals ≡ [] → start.arrays ≡ []
      → AreStatements w.program (function_with d.name g first last body) false false body
      → IsTypedFunction w.program (function_with d.name g first last body)
  typed_function d g start first last body r a b l k h =
      let c = grows_on start first last a b in
      record {
        result = r;
        parameters = no_longer first.locals b.more_locals last.locals b.locals;
        locals = all_by (λ (x : tree.Local). IsScalar x.of) last.locals
            (subst (AllByRecursion (λ (x : tree.Local). IsScalar x.of))
            (sym (c.locals ∙ ap (λ xs. xs ++ c.more_locals) l)) c.scalars);
        arrays = all_by (λ (x : tree.LocalArray). 1 ≤ x.count) last.arrays
            (subst (AllByRecursion (λ (x : tree.LocalArray). 1 ≤ x.count))
            (sym (c.arrays ∙ ap (λ xs. xs ++ c.more_arrays) k)) c.counts);
        body = h;
      }

  -- what is known of the statements of each function that has these locals and arrays
  abbrev BodyIs : Signature → Scope → Scope → Checked tree.Statements → Type 0
  BodyIs g first last c = (f : tree.Function) → f.result ≡ g.result → Within f last
      → Sound w (Sees w f first) (λ b. AreStatements w.program f false false b × Sees w f last) c

  body_by : (said : Specified) (d : DeclaratorTree) (g : Signature) (s outside first last : Scope)
      (c : Checked tree.Statements) → BodyIs g first last c
      → outside ≡ bound_function said d.name true (Some g) s → AllByRecursion D outside.outer
      → Grows (cleared outside) first → Grows first last
      → ((f : tree.Function) → Within f first → Knows outside → Holds w → Sees w f first)
      → SignatureIs s said d.name true (λ ts. types_of first.locals ≡ ts) g
      → Whole (Knows s) (Right (left outside last)) (if_fits c (λ statements.
      defined said d.name s g (function_with d.name g first last statements)))
  body_by said d g s outside first last (Fits body ns) h e k a b sees sig =
      let f = function_with d.name g first last body in
      let o = outer_of s said d.name true (function_type g) in
      let within : Within f last = record {
        more_locals = [];
        locals = sym (append-nil last.locals);
        more_arrays = [];
        arrays = sym (append-nil last.arrays);
      } in
      let first_within : Within f first = record {
        more_locals = b.more_locals;
        locals = b.locals;
        more_arrays = b.more_arrays;
        arrays = b.arrays;
      } in
      let q = h f refl within in
      let here = subst (λ (u : Scope). AllByRecursion D u.outer) e k in
      let same : function_type g ≡ declared_type f = ap (DeclaredFunction (Some g.result))
      (sym sig.1 ∙ sym (ap types_of (take_first first.locals b.more_locals last.locals b.locals))) in
      let note = Defines o.entity (function_type g) in (
        matches_more ns (quiet_nones ns q.0) (f ∷ []) (note ∷ []) (same, refl),
        λ y kept.
            let known = subst Knows (sym e) (function_knows said d.name true g s here y) in
            let back : Backed note = (
              o,
              here.0,
              refl,
              refl,
              linked_not s y said.storage (function_type g)
                  d.name.name,
            ) in (
              all-append Backed ns (note ∷ []) (quiet_all ns q.0) (back, tt),
              (
                λ z. (
                  typed_function d g (cleared outside) first last body sig.0 a b refl refl
                      (q.1 (sees f first_within known z) (all-left (IsKept w) ns (note ∷ []) kept)).0,
                  tt,
                ),
                record { numbers = b.numbers ∙ a.numbers ∙ known.numbers; names = known.names },
              ),
            ),
      )
  body_by said d g s outside first last (Fails f fs) h e k a b sees sig = tt

  definition_by : (said : Specified) (d : DeclaratorTree) (s outside first last : Scope) (c : Checked Signature)
      (body : Signature → Checked tree.Statements) → Sound w (Knows s) Any c
      → ((g : Signature) → BodyIs g first last (body g))
      → outside ≡ bound_function said d.name true (value_in c) s → AllByRecursion D outside.outer
      → Grows (cleared outside) first → Grows first last
      → ((f : tree.Function) → Within f first → Knows outside → Holds w → Sees w f first)
      → IfFits (SignatureIs s said d.name true (λ ts. types_of first.locals ≡ ts)) c
      → Whole (Knows s) (Right (left outside last)) (if_fits c (λ g. if_fits (body g) (λ statements.
      defined said d.name s g (function_with d.name g first last statements))))
  definition_by said d s outside first last (Fits g ns) body q h e k a b sees sig =
      whole_quiet (Knows s) (Right (left outside last)) ns (if_fits (body g) (λ statements.
      defined said d.name s g (function_with d.name g first last statements))) q.0
      (body_by said d g s outside first last (body g) (h g) e k a b sees sig)
  definition_by said d s outside first last (Fails f fs) body q h e k a b sees sig = tt

  definition_whole : (said : Specified) (d : DeclaratorTree) (body : Stmt) → IsStmt body → (s : Scope)
      → AllByRecursion D (after_definition said d body s).outer
      → Whole (Knows s) (Right (after_definition said d body s)) (typed_definition said d body s)
  definition_whole said d body is s h =
      let ps = parameters_in d.part in
      let outside = after_function said d true ps s in
      let first = at_body ps outside in
      let last = after_statements (body_of body) first in
      let a = grows_parameters (parameters_meant ps) (cleared outside) in
      let b = grows_statements (body_of body) (each_of_body body is) first in
      let c = function_signature s said d true ps in
      definition_by said d s outside first last c
      (λ g. typed_statements (in_function g.result) (body_of body) first) (signature_quiet (Knows s) s said d true ps)
      (λ g f r within. statements_sound w f (in_function g.result) r (body_of body) (each_of_body body is) first within)
      refl (subst (AllByRecursion D) (b.outer ∙ a.outer) h) a b
      (λ f within known z. sees_parameters w f (parameters_meant ps) (cleared outside) within
      (sees_of f outside (cleared outside) refl refl known z))
      (signature_is s said d true ps (λ ts. types_of first.locals ≡ ts) (parameters_are s said d ps))

  -- ---- files

  -- the declarations before, among those behind
  outer_item_before : (said : Specified) (i : ItemTree) (p : PartTree) (s : Scope)
      → AllByRecursion D (after_outer_item said i p s).outer → AllByRecursion D s.outer
  outer_item_before said i p s h = by_part p h
    where
      by_allowed : (name : Identifier) (o : Outer) (type : Option ObjectType) (t : Scope)
          → AllByRecursion D (bound_allowed name o type t).outer → AllByRecursion D t.outer
      by_allowed name o None t k = k
      by_allowed name o (Some type) t k = subst (AllByRecursion D) (outer_bound name o.entity type t) k

      by_type : (name : Identifier) (whole : Bool) (o : Option Declared)
          → AllByRecursion D (bound_outer said name whole o s).outer → AllByRecursion D s.outer
      by_type name whole None k = k
      by_type name whole (Some type) k =
          (by_allowed name (outer_of s said name whole type) (value_in (object_allowed true name.at type))
          (with_outer (outer_of s said name whole type) s) k).1

      by_signature : (name : Identifier) (whole : Bool) (o : Option Signature)
          → AllByRecursion D (bound_function said name whole o s).outer → AllByRecursion D s.outer
      by_signature name whole None k = k
      by_signature name whole (Some g) k = k.1

      by_part : (p : PartTree) → AllByRecursion D (after_outer_item said i p s).outer → AllByRecursion D s.outer
      by_part parts.Plain k =
          by_type i.declarator.name (is_some i.initialiser)
          (value_in (object_declared s said i.declarator i.initialiser)) k
      by_part (parts.Array a) k =
          by_type i.declarator.name (is_some i.initialiser)
          (value_in (object_declared s said i.declarator i.initialiser)) k
      by_part (parts.Function ps) k =
          by_signature i.declarator.name false
          (value_in (function_signature s said i.declarator false ps.parameters)) k

  outer_items_before : (said : Specified) (is : List ItemTree) (s : Scope)
      → AllByRecursion D (after_outer_items said is s).outer → AllByRecursion D s.outer
  outer_items_before said [] s h = h
  outer_items_before said (i ∷ is) s h =
      outer_item_before said i i.declarator.part s
      (outer_items_before said is (after_outer_item said i i.declarator.part s) h)

  outer_item_whole : (said : Specified) (i : ItemTree) (p : PartTree) (s : Scope)
      → AllByRecursion D (after_outer_item said i p s).outer
      → Whole (Knows s) (Right (after_outer_item said i p s)) (typed_outer_item said i p s)
  outer_item_whole said i parts.Plain s h = object_whole said i s h
  outer_item_whole said i (parts.Array a) s h = object_whole said i s h
  outer_item_whole said i (parts.Function ps) s h = prototype_whole said i ps.parameters s h

  outer_items_whole : (said : Specified) (is : List ItemTree) (s : Scope)
      → AllByRecursion D (after_outer_items said is s).outer
      → Whole (Knows s) (Right (after_outer_items said is s)) (typed_outer_items said is s)
  outer_items_whole said [] s h = (refl, λ k kept. (tt, (λ z. tt, k)))
  outer_items_whole said (i ∷ is) s h =
      let t = after_outer_item said i i.declarator.part s in
      whole_then (Knows s) t (after_outer_items said is t) (typed_outer_item said i i.declarator.part s)
      (typed_outer_items said is t)
      (outer_item_whole said i i.declarator.part s (outer_items_before said is t h))
      (outer_items_whole said is t h)

  definition_before : (said : Specified) (d : DeclaratorTree) (body : Stmt) → IsStmt body → (s : Scope)
      → AllByRecursion D (after_definition said d body s).outer → AllByRecursion D s.outer
  definition_before said d body is s h =
      let ps = parameters_in d.part in
      let outside = after_function said d true ps s in
      let first = at_body ps outside in
      let a = grows_parameters (parameters_meant ps) (cleared outside) in
      let b = grows_statements (body_of body) (each_of_body body is) first in
      by_signature (value_in (function_signature s said d true ps)) (subst (AllByRecursion D) (b.outer ∙ a.outer) h)
    where
      by_signature : (o : Option Signature) → AllByRecursion D (bound_function said d.name true o s).outer
          → AllByRecursion D s.outer
      by_signature None k = k
      by_signature (Some g) k = k.1

  external_before : (e : ExternalTree) → IsExternal e → (s : Scope) → AllByRecursion D (after_external e s).outer
      → AllByRecursion D s.outer
  external_before (FunctionTree specifiers d body) is s h = by_said (specified Outside specifiers) h
    where
      by_said : (o : Option Specified) → AllByRecursion D (after_said o (FunctionTree specifiers d body) s).outer
          → AllByRecursion D s.outer
      by_said None k = k
      by_said (Some said) k = definition_before said d body is.3 s k
  external_before (DeclaredTree d) is s h = by_said (specified Outside d.specifiers) h
    where
      by_said : (o : Option Specified) → AllByRecursion D (after_said o (DeclaredTree d) s).outer
          → AllByRecursion D s.outer
      by_said None k = k
      by_said (Some said) k = outer_items_before said d.items s k

  external_whole : (e : ExternalTree) → IsExternal e → (s : Scope) → AllByRecursion D (after_external e s).outer
      → Whole (Knows s) (Right (after_external e s)) (typed_external e s)
  external_whole (FunctionTree specifiers d body) is s h = by_said (specified Outside specifiers) h
    where
      by_said : (o : Option Specified) → AllByRecursion D (after_said o (FunctionTree specifiers d body) s).outer
          → Whole (Knows s) (Right (after_said o (FunctionTree specifiers d body) s))
          (if_fits (or_fails o TypeRule (first_word specifiers)) (λ said. typed_definition said d body s))
      by_said None k = tt
      by_said (Some said) k =
          whole_quiet (Knows s) (Right (after_definition said d body s)) [] (typed_definition said d body s) tt
          (definition_whole said d body is.3 s k)
  external_whole (DeclaredTree d) is s h = by_said (specified Outside d.specifiers) h
    where
      by_said : (o : Option Specified) → AllByRecursion D (after_said o (DeclaredTree d) s).outer
          → Whole (Knows s) (Right (after_said o (DeclaredTree d) s))
          (if_fits (or_fails o TypeRule (first_word d.specifiers)) (λ said. typed_outer_items said d.items s))
      by_said None k = tt
      by_said (Some said) k =
          whole_quiet (Knows s) (Right (after_outer_items said d.items s)) [] (typed_outer_items said d.items s) tt
          (outer_items_whole said d.items s k)

  unit_before : (es : List ExternalTree) → AllByRecursion IsExternal es → (s : Scope)
      → AllByRecursion D (after_unit es s).outer → AllByRecursion D s.outer
  unit_before [] is s h = h
  unit_before (e ∷ es) is s h = external_before e is.0 s (unit_before es is.1 (after_external e s) h)

  unit_whole : (es : List ExternalTree) → AllByRecursion IsExternal es → (s : Scope)
      → AllByRecursion D (after_unit es s).outer → Whole (Knows s) (Right (after_unit es s)) (typed_unit es s)
  unit_whole [] is s h = (refl, λ k kept. (tt, (λ z. tt, k)))
  unit_whole (e ∷ es) is s h =
      let t = after_external e s in
      whole_then (Knows s) t (after_unit es t) (typed_external e s) (typed_unit es t)
      (external_whole e is.0 s (unit_before es is.1 t h)) (unit_whole es is.1 t h)

  -- the next file sees the library alone
  next_knows : (s : Scope) → AllByRecursion (λ (b : Binding). IsOutside b.meaning) library_names → Knows s
      → Knows (next_file s)
  next_knows s h k = record { numbers = k.numbers; names = h }

  next_whole : (s t : Scope) (c : Checked (List tree.Function)) (P : List tree.Function → Type 0) → (Knows s → Knows t)
      → Whole (Knows t) P c → Whole (Knows s) P c
  next_whole s t (Fits fs ns) P f h = (h.0, λ k kept. h.1 (f k) kept)
  next_whole s t (Fails x xs) P f h = tt

  pub units_before : (us : List (List ExternalTree)) → AllByRecursion (AllByRecursion IsExternal) us → (s : Scope)
      → AllByRecursion D (after_units us s).outer → AllByRecursion D s.outer
  units_before [] is s h = h
  units_before (u ∷ us) is s h = unit_before u is.0 s (units_before us is.1 (next_file (after_unit u s)) h)

  -- all files
  pub units_whole : (us : List (List ExternalTree)) → AllByRecursion (AllByRecursion IsExternal) us → (s : Scope)
      → AllByRecursion D (after_units us s).outer
      → AllByRecursion (λ (b : Binding). IsOutside b.meaning) library_names
      → Whole (Knows s) (Right (after_units us s)) (typed_units us s)
  units_whole [] is s h l = (refl, λ k kept. (tt, (λ z. tt, k)))
  units_whole (u ∷ us) is s h l =
      let t = after_unit u s in
      let n = next_file t in
      whole_then (Knows s) t (after_units us n) (typed_unit u s) (typed_units us n)
      (unit_whole u is.0 s (units_before us is.1 n h))
      (next_whole t n (typed_units us n) (Right (after_units us n)) (next_knows t l) (units_whole us is.1 n h l))
