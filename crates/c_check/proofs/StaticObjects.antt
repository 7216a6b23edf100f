-- Objects outside functions, of parts that are answered, and the scope behind each.
use Rattle.std.proofs.Common.{◌≡◌, refl, sym, ap, ◌∙◌, subst, ℕ, ◌+◌, ◌<◌, List, [], length, map, drop}
use Rattle.std.proofs.Common.{get_or, Bool, true, Option, Some, None, is_some, option_map}
use Rattle.pcc_base.specs.declared.fault.Fault.{Fault}
use Rattle.c_syntax.specs.declared.expression.Identifier.{Identifier}
use Rattle.c_syntax.specs.declared.expression.Specifier.{Specifier}
use Rattle.c_syntax.specs.declared.declaration.Item.{Item as RawItem}
use Rattle.c_syntax.specs.declared.declaration.InitialiserPart.{InitialiserPart}
use Rattle.c_syntax.specs.Declarations.{DeclarationTree, ItemTree, ValueTree, item_of, value_of}
use Rattle.c_syntax.specs.Statements.{DeclaredTree}
use Rattle.c_tree.specs.Program.{Function as Defined}
use Rattle.c_typing.specs.Checked.{Checked, Contents, Fits, Fails, Note, also, if_fits, value_in}
use Rattle.c_typing.specs.Declarators.{ObjectType as Objects, object_allowed, object_declared}
use Rattle.c_typing.specs.Expressions.{specifiers_at}
use Rattle.c_typing.specs.Files.{after_object, after_outer_item, after_outer_items, bound_allowed, bound_outer}
use Rattle.c_typing.specs.Files.{outer_of, redeclared_faults, typed_external, sized_object, typed_outer_item}
use Rattle.c_typing.specs.Files.{typed_outer_items, with_outer, without_value}
use Rattle.c_typing.specs.Initialisers.{contents_for}
use Rattle.c_typing.specs.Library.{Entity}
use Rattle.c_typing.specs.Names.{Outer, Scope}
use Rattle.c_typing.specs.Statements.{bound_object, stored}
use Rattle.c_typing.specs.Types as types
use Rattle.c_check_names.specs.declared.meaning.Declared.{Declared}
use Rattle.c_check_names.specs.Views.{declared_of}
use Rattle.c_check_expressions.specs.declared.judged.Judged.{Judged}
use Rattle.c_check_expressions.specs.declared.judged.Judged.TheVariants as answers
use Rattle.c_check_expressions.specs.Said.{IsSaid}
use Rattle.c_check_declarations.specs.declared.objects.ObjectType.{ObjectType}
use Rattle.c_check_declarations.specs.DeclaratorAnswers.{IsDeclared, IsObject, IsSpecified, value_answered}
use Rattle.c_check_declarations.specs.Together.{listed, with_fault}
use Rattle.c_check_declarations.specs.Views.{object_of}
use Rattle.c_check_declarations.proofs.Lists.{rejoined}
use Rattle.c_check_declarations.proofs.Rows.{also_said, answered_is, fails_said, then_said}
use Rattle.c_check_declarations.specs.ItemAnswers.{IsAnything}
use Rattle.c_check.specs.OutsideAnswers.{AreNone}
use Rattle.c_check.specs.Objects.{bound_if_any}
use Rattle.c_check_declarations.proofs.Itemised.{next_item}

-- ---- an object of an allowed type

stored_none : {A : Type 0} (e : Entity) (type : Objects) (c : Checked Contents) (j : Judged A)
    (before after : List Note) → IsSaid IsAnything (stored {A = Unit {0}} e type tt c) j before after
    → IsSaid AreNone (stored {A = List Defined} e type [] c) j before after
stored_none e type (Fits x ns) (answers.Fits a) before after h = (refl, h.1)
stored_none e type (Fits x ns) (answers.Fails f) before after h = absurd h.0
stored_none e type (Fails g gs) (answers.Fits a) before after h = absurd h.0
stored_none e type (Fails g gs) (answers.Fails f) before after h = h

abbrev pub object_row : types.Specified → Entity → Scope → Option ValueTree → Objects → Checked (List Defined)
object_row said e inside value type = stored e type [] (contents_for inside type (without_value said) value)

pub allowed_said : {A : Type 0} (said : types.Specified) (e : Entity) (type : Objects) (inside t : Scope)
    (w : Contents) (value : Option ValueTree) (j : Judged A) (before after : List Note) → t ≡ inside
    → w ≡ without_value said
    → IsSaid IsAnything (stored {A = Unit {0}} e type tt (contents_for t type w value)) j before after
    → IsSaid AreNone (object_row said e inside value type) j before after
allowed_said said e type inside t w value j before after h k said_of =
    subst (λ (x : Scope). IsSaid AreNone (object_row said e x value type) j before after) h
    (subst (λ (x : Contents). IsSaid AreNone (stored {A = List Defined} e type [] (contents_for t type x value)) j
    before after) k
    (stored_none e type (contents_for t type w value) j before after said_of))

pub if_allowed_said : {A : Type 0} (said : types.Specified) (name : Identifier) (e : Entity) (s : Scope)
    (value : Option ValueTree) (part : Judged ObjectType) (of : ObjectType) (j : Judged A) (now after : List Note)
    → part ≡ answers.Fits of
    → IsSaid AreNone (object_row said e (bound_object name e (object_of of) s) value (object_of of)) j now after
    → (c : Checked Objects) (before : List Note) → IsSaid IsObject c part before now
    → IsSaid AreNone (if_fits c (object_row said e
    (bound_if_any name e (option_map object_of (value_answered part)) s) value)) j before after
if_allowed_said said name e s value part of j now after is row c before h =
    let inside = bound_object name e (object_of of) s in
    subst (λ (p : Judged ObjectType). IsSaid AreNone (if_fits c (object_row said e
    (bound_if_any name e (option_map object_of (value_answered p)) s) value)) j before after) (sym is)
    (then_said IsObject AreNone (object_row said e inside value) c of j before now after
    (subst (λ (p : Judged ObjectType). IsSaid IsObject c p before now) is h)
    (λ x same. subst (λ (y : Objects). IsSaid AreNone (object_row said e inside value y) j now after) same row))

-- ---- an object of a declared type

pub is_same_some : (o : Option InitialiserPart) → is_some (value_of o) ≡ is_some o
is_same_some None = refl
is_same_some (Some i) = refl

same_bound : (name : Identifier) (o : Outer) (type : Option Objects) (s : Scope)
    → bound_if_any name o.entity type s ≡ bound_allowed name o type s
same_bound name o None s = refl
same_bound name o (Some type) s = refl

-- the scope behind a name whose type was judged
behind_name : (s t : Scope) (name : Identifier) (o means : Outer) (e : Entity) (type : types.Declared)
    (of : Judged ObjectType) (notes : List Note) → o ≡ means → e ≡ o.entity → t ≡ with_outer o s
    → IsSaid IsObject (object_allowed true name.at type) of notes notes
    → bound_if_any name e (option_map object_of (value_answered of)) t
    ≡ bound_allowed name means (value_in (object_allowed true name.at type)) (with_outer means s)
behind_name s t name o means e type of notes is h k said =
    ap (λ (x : Entity). bound_if_any name x (option_map object_of (value_answered of)) t) h
    ∙ ap (bound_if_any name o.entity (option_map object_of (value_answered of))) k
    ∙ ap (λ (x : Option Objects). bound_if_any name o.entity x (with_outer o s))
    (sym (answered_is object_of (object_allowed true name.at type) of said.0))
    ∙ same_bound name o (value_in (object_allowed true name.at type)) (with_outer o s)
    ∙ ap (λ (x : Outer). bound_allowed name x (value_in (object_allowed true name.at type)) (with_outer x s)) is

pub declared_scope : (s t u : Scope) (said : types.Specified) (name : Identifier) (whole : Bool) (o : Outer)
    (e : Entity) (type : types.Declared) (of : Judged ObjectType) (notes : List Note)
    → o ≡ outer_of s said name whole type → e ≡ o.entity → t ≡ with_outer o s
    → IsSaid IsObject (object_allowed true name.at type) of notes notes
    → u ≡ bound_if_any name e (option_map object_of (value_answered of)) t
    → u ≡ bound_outer said name whole (Some type) s
declared_scope s t u said name whole o e type of notes is h k allowed l =
    l ∙ behind_name s t name o (outer_of s said name whole type) e type of notes is h k allowed

pub declared_said : {A : Type 0} (s t : Scope) (said : types.Specified) (name : Identifier) (whole : Bool)
    (value : Option ValueTree) (o : Outer) (e : Entity) (type : types.Declared) (of : Judged ObjectType)
    (f : Option Fault) (part all : Judged A) (before after : List Note)
    → o ≡ outer_of s said name whole type → e ≡ o.entity → t ≡ with_outer o s
    → IsSaid IsObject (object_allowed true name.at type) of before before
    → listed f ≡ redeclared_faults s name o → all ≡ with_fault f part
    → ((c : Checked Objects) (b : List Note) → IsSaid IsObject c of b before → IsSaid AreNone (if_fits c
    (object_row said e (bound_if_any name e (option_map object_of (value_answered of)) t) value)) part b after)
    → IsSaid AreNone (also (redeclared_faults s name (outer_of s said name whole type))
    (if_fits (object_allowed true name.at type) (object_row said (outer_of s said name whole type).entity
    (bound_outer said name whole (Some type) s) value))) all before after
declared_said s t said name whole value o e type of f part all before after is h k allowed faults both row =
    let means = outer_of s said name whole type in
    let c = object_allowed true name.at type in
    let inside = bound_outer said name whole (Some type) s in
    let there = if_fits c (object_row said means.entity inside value) in
    subst (λ (w : Judged _). IsSaid AreNone (also (redeclared_faults s name means) there) w before after) (sym both)
    (subst (λ (xs : List Fault). IsSaid AreNone (also xs there) (with_fault f part) before after)
    (faults ∙ ap (redeclared_faults s name) is)
    (also_said AreNone f there part before after
    (subst (λ (x : Entity). IsSaid AreNone (if_fits c (object_row said x inside value)) part before after)
    (h ∙ ap (λ (x : Outer). x.entity) is)
    (subst (λ (x : Scope). IsSaid AreNone (if_fits c (object_row said e x value)) part before after)
    (behind_name s t name o means e type of before is h k allowed) (row c before allowed)))))

-- ---- an item that is an object

-- the item of a declared type, with the scope behind it
abbrev pub item_row : types.Specified → Scope → ItemTree → Option types.Declared → types.Declared
    → Checked (List Defined)
item_row said s i t type =
    let name = i.declarator.name in
    let o = outer_of s said name (is_some i.initialiser) type in
    also (redeclared_faults s name o) (if_fits (object_allowed true name.at type)
    (object_row said o.entity (bound_outer said name (is_some i.initialiser) t s) i.initialiser))

pub object_fails : (A : Type 0) (s : Scope) (said : types.Specified) (i : ItemTree) (j : Judged Declared) (f : Fault)
    (before after : List Note)
    → IsSaid IsDeclared (object_declared s said i.declarator i.initialiser) j before after → j ≡ answers.Fails f
    → IsSaid (AreNone {A = A}) (sized_object said i s) (answers.Fails f) before after
object_fails A s said i j f before after h is =
    let c = object_declared s said i.declarator i.initialiser in
    fails_said IsDeclared (AreNone {A = A}) (item_row said s i (value_in c)) c f before after after
    (subst (λ (k : Judged Declared). IsSaid IsDeclared c k before after) is h)

pub object_fails_scope : (s : Scope) (said : types.Specified) (i : ItemTree) (j : Judged Declared) (f : Fault)
    (before after : List Note)
    → IsSaid IsDeclared (object_declared s said i.declarator i.initialiser) j before after → j ≡ answers.Fails f
    → s ≡ after_object said i s
object_fails_scope s said i j f before after h is =
    let c = object_declared s said i.declarator i.initialiser in
    let stands = subst (λ (k : Judged Declared). IsSaid IsDeclared c k before after) is h in
    ap (λ (t : Option types.Declared). bound_outer said i.declarator.name (is_some i.initialiser) t s)
    (sym (answered_is declared_of c (answers.Fails f) stands.0))

pub object_fits : {A : Type 0} (s : Scope) (said : types.Specified) (i : ItemTree) (j : Judged Declared) (d : Declared)
    (part : Judged A) (before between after : List Note)
    → IsSaid IsDeclared (object_declared s said i.declarator i.initialiser) j before between → j ≡ answers.Fits d
    → IsSaid AreNone (item_row said s i (Some (declared_of d)) (declared_of d)) part between after
    → IsSaid AreNone (sized_object said i s) part before after
object_fits s said i j d part before between after h is row =
    let c = object_declared s said i.declarator i.initialiser in
    let stands = subst (λ (k : Judged Declared). IsSaid IsDeclared c k before between) is h in
    then_said IsDeclared AreNone (item_row said s i (value_in c)) c d part before between after stands
    (λ x same. subst (λ (y : types.Declared). IsSaid AreNone (item_row said s i (value_in c) y) part between after)
    same
    (subst (λ (t : Option types.Declared). IsSaid AreNone (item_row said s i t (declared_of d)) part between after)
    (sym (answered_is declared_of c (answers.Fits d) stands.0)) row))

pub object_fits_scope : (s t : Scope) (said : types.Specified) (i : ItemTree) (j : Judged Declared) (d : Declared)
    (before between : List Note)
    → IsSaid IsDeclared (object_declared s said i.declarator i.initialiser) j before between → j ≡ answers.Fits d
    → t ≡ bound_outer said i.declarator.name (is_some i.initialiser) (Some (declared_of d)) s
    → t ≡ after_object said i s
object_fits_scope s t said i j d before between h is l =
    let c = object_declared s said i.declarator i.initialiser in
    let stands = subst (λ (k : Judged Declared). IsSaid IsDeclared c k before between) is h in
    l ∙ ap (λ (o : Option types.Declared). bound_outer said i.declarator.name (is_some i.initialiser) o s)
    (sym (answered_is declared_of c (answers.Fits d) stands.0))

-- ---- lists of items

abbrev pub one_item : types.Specified → ItemTree → Scope → Checked (List Defined)
one_item said i s = typed_outer_item said i i.declarator.part s

abbrev pub behind_item : types.Specified → ItemTree → Scope → Scope
behind_item said i s = after_outer_item said i i.declarator.part s

-- one more item is judged, and then declared
pub next_typed : (s t : Scope) (said : types.Specified) (is : List RawItem) (n : ℕ) (i : RawItem)
    → n < length is → i ≡ get_or is n i → t ≡ behind_item said (item_of i) s
    → typed_outer_items said (map item_of (drop n is)) s
    ≡ rejoined (one_item said (item_of i) s) (typed_outer_items said (map item_of (drop (n + 1) is)) t)
next_typed s t said is n i lt same h =
    ap (λ xs. typed_outer_items said (map item_of xs) s) (next_item is n i lt same)
    ∙ ap (λ u. rejoined (one_item said (item_of i) s) (typed_outer_items said (map item_of (drop (n + 1) is)) u))
    (sym h)

pub next_scope : (s t : Scope) (said : types.Specified) (is : List RawItem) (n : ℕ) (i : RawItem)
    → n < length is → i ≡ get_or is n i → t ≡ behind_item said (item_of i) s
    → after_outer_items said (map item_of (drop (n + 1) is)) t ≡ after_outer_items said (map item_of (drop n is)) s
next_scope s t said is n i lt same h =
    ap (λ u. after_outer_items said (map item_of (drop (n + 1) is)) u) h
    ∙ ap (λ xs. after_outer_items said (map item_of xs) s) (sym (next_item is n i lt same))

-- ---- declarations

pub declaration_fails : (A : Type 0) (s : Scope) (d : DeclarationTree) (ss : List Specifier) (f : Fault)
    (notes : List Note) → ss ≡ d.specifiers
    → ((notes : List Note) → IsSaid IsSpecified (specifiers_at types.Outside ss) (answers.Fails f) notes notes)
    → IsSaid (AreNone {A = A}) (typed_external (DeclaredTree d) s) (answers.Fails f) notes notes
declaration_fails A s d ss f notes h k =
    fails_said IsSpecified (AreNone {A = A}) (λ said. typed_outer_items said d.items s)
    (specifiers_at types.Outside d.specifiers) f notes notes notes
    (subst (λ (xs : List Specifier). IsSaid IsSpecified (specifiers_at types.Outside xs) (answers.Fails f) notes notes)
    h (k notes))
