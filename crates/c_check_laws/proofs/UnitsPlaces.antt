-- What stands at places is noted once, where tokens stand at different places.
use Rattle.std.proofs.Common.{arith, ◌≡◌, refl, sym, ap, subst, ◌∙◌, ℕ, zero, suc, Bool, true, false, List, [], ◌∷◌}
use Rattle.std.proofs.Common.{◌++◌}
use Rattle.std.proofs.Common.{length, inl, inr}
use Rattle.std.specs.Prelude.{Option, Some, None, IfSome, is_some, if◌then◌else◌, flat_map, All, AllPairs}
use Rattle.std.specs.List.{AllByRecursion}
use Rattle.pcc_base.specs.declared.span.Span.{Span}
use Rattle.pcc_base.specs.declared.fault.FaultKind.TheVariants.{TypeRule}
use Rattle.c_lex.specs.declared.token.Token.{Token}
use Rattle.c_syntax.specs.declared.expression.Identifier.{Identifier}
use Rattle.c_syntax.specs.ExpressionTokens.{specifiers_tokens}
use Rattle.c_syntax.specs.Declarations as parts
use Rattle.c_syntax.specs.Declarations.{ItemTree, DeclaratorTree, PartTree, ParameterTree}
use Rattle.c_syntax.specs.DeclarationTokens.{declarator_tokens, value_tokens, item_tokens, followed, separated, IsItem}
use Rattle.c_syntax.specs.DeclarationTokens.{AreApart}
use Rattle.c_syntax.specs.Grammar.{external_tokens, unit_tokens, IsBlock, IsExternal}
use Rattle.c_syntax.specs.Statements as trees
use Rattle.c_syntax.specs.Statements.{Stmt, Stmts, NoStmt, OneStmt, ExternalTree, FunctionTree, DeclaredTree}
use Rattle.c_syntax.specs.StatementTokens.{stmt_tokens, stmts_tokens, IsStmt}
use Rattle.c_tree.specs.Program as tree
use Rattle.c_typing.specs.Library.{Entity, Library, Shared, OfFile, At, external}
use Rattle.c_typing.specs.Types.{Outside, Specified, specified, Storage, Unsaid, Auto, Register, Static, Extern}
use Rattle.c_typing.specs.Types.{Declared}
use Rattle.c_typing.specs.Checked.{Contents, Checked, Fits, Fails, Stored, Note, Uses, Stores, Defines, fits, also}
use Rattle.c_typing.specs.Checked.{if_fits}
use Rattle.c_typing.specs.Checked.{value_in, or_fails, notes_in}
use Rattle.c_typing.specs.Declarators.{ObjectType, IntegerObject, PointerObject, ArrayObject, object_declared}
use Rattle.c_typing.specs.Declarators.{object_allowed}
use Rattle.c_typing.specs.Declarators.{type_faults}
use Rattle.c_typing.specs.Expressions.{first_word}
use Rattle.c_typing.specs.Initialisers.{contents_for}
use Rattle.c_typing.specs.Initialisers.{function_initialiser}
use Rattle.c_typing.specs.Names.{Meaning, Local, LocalArray, Object, ObjectArray, Function, Signature, Scope, Outer}
use Rattle.c_typing.specs.Names.{Binding}
use Rattle.c_typing.specs.Names.{meaning_of, as_before, is_function, linked, next_file, first_scope, Numbers}
use Rattle.c_typing.specs.Statements.{stored, typed_statements, after_statements, Around}
use Rattle.c_typing.specs.Files.{outer_of, redeclared_faults, with_outer, function_signature, bound_function}
use Rattle.c_typing.specs.Files.{after_function, without_value, bound_allowed, bound_outer}
use Rattle.c_typing.specs.Files.{after_object}
use Rattle.c_typing.specs.Files.{typed_object, typed_prototype, after_outer_item, typed_outer_item, after_outer_items}
use Rattle.c_typing.specs.Files.{typed_outer_items, parameters_in, body_of, at_body, function_with, defined}
use Rattle.c_typing.specs.Files.{in_function}
use Rattle.c_typing.specs.Files.{typed_definition, after_said, after_external, typed_external}
use Rattle.c_typing.specs.Files.{after_unit, typed_unit, typed_units}
use Rattle.c_typing.specs.Files.{sized_object}
use Rattle.c_check_laws.proofs.Setting.{IsAt}
use Rattle.c_check_laws.proofs.Growing.{are_items, items_each}
use Rattle.c_check_laws.proofs.FilesSound.{NotAt, external_not, meaning_where}
use Rattle.c_check_laws.proofs.Entities.{IsIn, in_all}
use Rattle.c_check_laws.proofs.ProgramSound.{ArePlaced}
use Rattle.c_check_laws.proofs.Plain.{declared_plain, allowed_plain, signature_plain, specifiers_plain}
use Rattle.c_check_laws.proofs.Places.{place_of, places, Sub, Placed, inside, behind, placed_bare, placed_after, placed_both}
use Rattle.c_check_laws.proofs.Places.{placed_also}
use Rattle.c_check_laws.proofs.FilesPlaces.{contents_placed, few_commas, one_less, statements_placed}
use Rattle.c_tree.specs.declared.types.IntegerType.{IntegerType}
use Rattle.c_typing.specs.Checked.{Elsewhere, Zeros}
use Rattle.c_typing.specs.Laws.{HasIntIfAny}
use Rattle.c_typing.specs.Statements.{elements_of}
use Rattle.c_typing.specs.Types.{is_extern, pointed}
use Rattle.c_typing.proofs.CountUp.{IfFits}
use Rattle.c_check_laws.proofs.Growing.{Counts, part_counts, ObjectCounts, allowed_counts}
use Rattle.c_typing.proofs.FilesCountUp.{by_initialiser}
use Rattle.c_check_laws.proofs.Places.{placed_knowing, AreRight}
use Rattle.c_check_laws.proofs.FilesPlaces.{contents_right, some_size}
use Rattle.c_check_laws.proofs.Ranged.{HasInts, Fitting}

-- ---- names outside functions have no place

abbrev IsFree : Meaning → Type 0
IsFree (Local v of) = Unit {0}
IsFree (LocalArray k element) = Unit {0}
IsFree (Object e of) = NotAt e
IsFree (ObjectArray e element) = NotAt e
IsFree (Function e g) = NotAt e

abbrev AllFree : Scope → Type 0
AllFree s = AllByRecursion (λ (b : Binding). IsFree b.meaning) s.names

free_before : (name : List ℕ) (o : Option Meaning) → IfSome o IsFree → NotAt (as_before name o)
free_before name None h = external_not name
free_before name (Some (Local v of)) h = external_not name
free_before name (Some (LocalArray k element)) h = external_not name
free_before name (Some (Object e of)) h = h
free_before name (Some (ObjectArray e element)) h = h
free_before name (Some (Function e g)) h = h

free_if : (b : Bool) (name : List ℕ) (o : Option Meaning) → IfSome o IsFree
    → NotAt (if b then as_before name o else external name)
free_if true name o h = free_before name o h
free_if false name o h = external_not name

free_linked : (s : Scope) → AllFree s → (storage : Storage) (type : Declared) (name : List ℕ)
    → NotAt (linked s storage type name)
free_linked s h Static type name = tt
free_linked s h Extern type name =
    free_before name (meaning_of s.names name) (meaning_where IsFree s.names name h)
free_linked s h Unsaid type name =
    free_if (is_function type) name (meaning_of s.names name) (meaning_where IsFree s.names name h)
free_linked s h Auto type name = external_not name
free_linked s h Register type name = external_not name

free_allowed : (name : Identifier) (o : Outer) (type : Option ObjectType) (s : Scope) → NotAt o.entity → AllFree s
    → AllFree (bound_allowed name o type s)
free_allowed name o None s n h = h
free_allowed name o (Some (IntegerObject of)) s n h = (n, h)
free_allowed name o (Some (PointerObject of)) s n h = h
free_allowed name o (Some (ArrayObject element count)) s n h = (n, h)

free_outer : (said : Specified) (name : Identifier) (whole : Bool) (o : Option Declared) (s : Scope) → AllFree s
    → AllFree (bound_outer said name whole o s)
free_outer said name whole None s h = h
free_outer said name whole (Some type) s h =
    let o = outer_of s said name whole type in
    free_allowed name o (value_in (object_allowed true name.at type)) (with_outer o s)
    (free_linked s h said.storage type name.name) h

free_function : (said : Specified) (name : Identifier) (whole : Bool) (o : Option Signature) (s : Scope) → AllFree s
    → AllFree (bound_function said name whole o s)
free_function said name whole None s h = h
free_function said name whole (Some g) s h = (free_linked s h said.storage _ name.name, h)

free_item : (said : Specified) (i : ItemTree) (p : PartTree) (s : Scope) → AllFree s
    → AllFree (after_outer_item said i p s)
free_item said i parts.Plain s h =
    free_outer said i.declarator.name (is_some i.initialiser)
    (value_in (object_declared s said i.declarator i.initialiser)) s h
free_item said i (parts.Array a) s h =
    free_outer said i.declarator.name (is_some i.initialiser)
    (value_in (object_declared s said i.declarator i.initialiser)) s h
free_item said i (parts.Function ps) s h =
    free_function said i.declarator.name false
    (value_in (function_signature s said i.declarator false ps.parameters)) s h

free_items : (said : Specified) (is : List ItemTree) (s : Scope) → AllFree s → AllFree (after_outer_items said is s)
free_items said [] s h = h
free_items said (i ∷ is) s h =
    free_items said is (after_outer_item said i i.declarator.part s) (free_item said i i.declarator.part s h)

free_external : (e : ExternalTree) (s : Scope) → AllFree s → AllFree (after_external e s)
free_external (FunctionTree specifiers d body) s h = by_said (specified Outside specifiers)
  where
    by_said : (o : Option Specified) → AllFree (after_said o (FunctionTree specifiers d body) s)
    by_said None = h
    by_said (Some said) =
        free_function said d.name true (value_in (function_signature s said d true (parameters_in d.part))) s h
free_external (DeclaredTree d) s h = by_said (specified Outside d.specifiers)
  where
    by_said : (o : Option Specified) → AllFree (after_said o (DeclaredTree d) s)
    by_said None = h
    by_said (Some said) = free_items said d.items s h

free_unit : (es : List ExternalTree) (s : Scope) → AllFree s → AllFree (after_unit es s)
free_unit [] s h = h
free_unit (e ∷ es) s h = free_unit es (after_external e s) (free_external e s h)

-- ---- files

place_none : (e : Entity) (ps : List Span) → NotAt e → place_of e ps ≡ ps
place_none (Library f) ps h = refl
place_none (Shared name) ps h = refl
place_none (OfFile file name) ps h = refl
place_none (At place) ps h = absurd h

stored_free : {A : Type 0} (e : Entity) (type : ObjectType) (value : A) (c : Checked Contents) (T : List Token)
    → NotAt e → ObjectCounts type → Placed T c → (HasInts T → IfFits (Fitting (elements_of type)) c)
    → Placed T (stored e type value c)
stored_free e type value (Fits contents ns) T n k h r =
    (subst (λ ps. Sub ps T) (sym (place_none e (places ns) n)) h.0, λ z. ((some_size type k, r z), h.1 z))
stored_free e type value (Fails f fs) T n k h r = tt

without_fits : (t : IntegerType) (said : Specified) → Fitting t (without_value said)
without_fits t said = by_storage (is_extern said.storage)
  where
    by_storage : (b : Bool) → Fitting t (if b then Elsewhere else Zeros)
    by_storage true = tt
    by_storage false = tt

object_placed : (said : Specified) (i : ItemTree) → IsItem i → (s : Scope) → AllFree s
    → Placed (item_tokens i) (typed_object said i s)
object_placed said i h s free =
    let d = i.declarator in
    let T = value_tokens i.initialiser in
    let t = after_object said i s in
    behind (declarator_tokens d) T (typed_object said i s)
    (placed_also T (type_faults true said d) (sized_object said i s) (placed_knowing Counts T (object_declared s said d i.initialiser) (λ type.
    let o = outer_of s said d.name (is_some i.initialiser) type in
    also (redeclared_faults s d.name o) (if_fits (object_allowed true d.name.at type) (λ allowed.
    stored o.entity allowed [] (contents_for t allowed (without_value said) i.initialiser))))
    (declared_plain s said d i.initialiser)
    (part_counts s (pointed said.base d.pointer) i.initialiser d.part h.1) (λ type n.
    let o = outer_of s said d.name (is_some i.initialiser) type in
    placed_also T (redeclared_faults s d.name o) (if_fits (object_allowed true d.name.at type) (λ allowed.
    stored o.entity allowed [] (contents_for t allowed (without_value said) i.initialiser)))
    (placed_knowing ObjectCounts T (object_allowed true d.name.at type) (λ allowed.
    stored o.entity allowed [] (contents_for t allowed (without_value said) i.initialiser))
    (allowed_plain true d.name.at type) (allowed_counts true d.name.at type n) (λ allowed k.
    stored_free o.entity allowed [] (contents_for t allowed (without_value said) i.initialiser) T
    (free_linked s free said.storage type d.name.name) k
    (contents_placed t allowed (without_value said) i.initialiser h.1)
    (contents_right t allowed (without_value said) i.initialiser h.1 (without_fits (elements_of allowed) said)))))))

prototype_placed : (said : Specified) (i : ItemTree) (ps : List ParameterTree) (s : Scope) (T : List Token)
    → Placed T (typed_prototype said i ps s)
prototype_placed said i ps s T =
    let t = after_function said i.declarator false ps s in
    placed_after T (function_signature s said i.declarator false ps) (λ g. function_initialiser t i.initialiser [])
    (signature_plain s said i.declarator false ps)
    (λ g. by_initialiser (Placed T) t i.initialiser [] (tt, λ z. tt) (λ f fs. tt))

outer_item_placed : (said : Specified) (i : ItemTree) → IsItem i → (p : PartTree) (s : Scope) → AllFree s
    → Placed (item_tokens i) (typed_outer_item said i p s)
outer_item_placed said i h parts.Plain s free = object_placed said i h s free
outer_item_placed said i h (parts.Array a) s free = object_placed said i h s free
outer_item_placed said i h (parts.Function ps) s free = prototype_placed said i ps.parameters s (item_tokens i)

followed_placed : (said : Specified) (is : List ItemTree) → AllByRecursion IsItem is → (commas : List Span)
    → length commas ≡ length is → (s : Scope) → AllFree s
    → Placed (followed item_tokens is commas) (typed_outer_items said is s)
followed_placed said [] h commas e s free = (tt, λ z. tt)
followed_placed said (i ∷ is) h [] e s free = absurd (few_commas (length is) e)
followed_placed said (i ∷ is) h (at ∷ commas) e s free =
    let t = after_outer_item said i i.declarator.part s in
    behind (_ ∷ []) (item_tokens i ++ followed item_tokens is commas) (typed_outer_items said (i ∷ is) s)
    (placed_both (item_tokens i) (followed item_tokens is commas) (typed_outer_item said i i.declarator.part s)
    (typed_outer_items said is t) (λ xs ys. fits (xs ++ ys)) (outer_item_placed said i h.0 i.declarator.part s free)
    (followed_placed said is h.1 commas (one_less (length commas) (length is) e) t
    (free_item said i i.declarator.part s free)) (λ xs ys. refl))

outer_items_placed : (said : Specified) (is : List ItemTree) → AllByRecursion IsItem is → (commas : List Span)
    → AreApart is commas → (s : Scope) → AllFree s
    → Placed (separated item_tokens is commas) (typed_outer_items said is s)
outer_items_placed said [] h commas e s free = (tt, λ z. tt)
outer_items_placed said (i ∷ is) h commas e s free =
    let t = after_outer_item said i i.declarator.part s in
    placed_both (item_tokens i) (followed item_tokens is commas) (typed_outer_item said i i.declarator.part s)
    (typed_outer_items said is t) (λ xs ys. fits (xs ++ ys)) (outer_item_placed said i h.0 i.declarator.part s free)
    (followed_placed said is h.1 commas e t (free_item said i i.declarator.part s free)) (λ xs ys. refl)

body_placed : (w : Around) (body : Stmt) → IsStmt body → IsBlock body → (s : Scope)
    → Placed (stmt_tokens body) (typed_statements w (body_of body) s)
body_placed w (trees.Block o items c) h b s =
    inside (_ ∷ []) (stmts_tokens items) (_ ∷ []) (typed_statements w items s)
    (statements_placed w items (items_each items h) s)
body_placed w (trees.Declared d) h b s = absurd b
body_placed w (trees.Labelled labels st) h b s = absurd b
body_placed w (trees.Simple e semicolon) h b s = absurd b
body_placed w (trees.If at o e c st) h b s = absurd b
body_placed w (trees.IfElse at o e c st otherwise other) h b s = absurd b
body_placed w (trees.Switch at o e c begin items end) h b s = absurd b
body_placed w (trees.While at o e c st) h b s = absurd b
body_placed w (trees.Do at st until o e c semicolon) h b s = absurd b
body_placed w (trees.For at o start first e second step c st) h b s = absurd b
body_placed w (trees.ForDeclaration at o start e second step c st) h b s = absurd b
body_placed w (trees.Break at semicolon) h b s = absurd b
body_placed w (trees.Continue at semicolon) h b s = absurd b
body_placed w (trees.Return at e semicolon) h b s = absurd b

definition_placed : (said : Specified) (d : DeclaratorTree) (body : Stmt) → IsStmt body → IsBlock body → (s : Scope)
    → Placed (stmt_tokens body) (typed_definition said d body s)
definition_placed said d body h b s =
    let ps = parameters_in d.part in
    let first = at_body ps (after_function said d true ps s) in
    let last = after_statements (body_of body) first in
    let T = stmt_tokens body in
    placed_after T (function_signature s said d true ps) (λ g.
    if_fits (typed_statements (in_function g.result) (body_of body) first) (λ statements.
    defined said d.name s g (function_with d.name g first last statements)))
    (signature_plain s said d true ps) (λ g.
    placed_bare T (typed_statements (in_function g.result) (body_of body) first) (λ statements.
    defined said d.name s g (function_with d.name g first last statements))
    (body_placed (in_function g.result) body h b first) (λ statements. (refl, (tt, tt))))

external_placed : (e : ExternalTree) → IsExternal e → (s : Scope) → AllFree s
    → Placed (external_tokens e) (typed_external e s)
external_placed (FunctionTree specifiers d body) h s free =
    let T = stmt_tokens body in
    let r = typed_external (FunctionTree specifiers d body) s in
    behind (specifiers_tokens specifiers) (declarator_tokens d ++ T) r (behind (declarator_tokens d) T r
    (placed_after T (or_fails (specified Outside specifiers) TypeRule (first_word specifiers))
    (λ said. typed_definition said d body s) (specifiers_plain Outside specifiers)
    (λ said. definition_placed said d body h.3 h.4 s)))
external_placed (DeclaredTree d) h s free =
    let T = separated item_tokens d.items d.commas in
    inside (specifiers_tokens d.specifiers) T (_ ∷ []) (typed_external (DeclaredTree d) s)
    (placed_after T (or_fails (specified Outside d.specifiers) TypeRule (first_word d.specifiers))
    (λ said. typed_outer_items said d.items s) (specifiers_plain Outside d.specifiers)
    (λ said. outer_items_placed said d.items (are_items d.items h.1) d.commas h.2 s free))

unit_placed : (es : List ExternalTree) → AllByRecursion IsExternal es → (s : Scope) → AllFree s
    → Placed (unit_tokens es) (typed_unit es s)
unit_placed [] h s free = (tt, λ z. tt)
unit_placed (e ∷ es) h s free =
    placed_both (external_tokens e) (unit_tokens es) (typed_external e s) (typed_unit es (after_external e s))
    (λ fs gs. fits (fs ++ gs)) (external_placed e h.0 s free)
    (unit_placed es h.1 (after_external e s) (free_external e s free)) (λ fs gs. refl)

units_placed : (us : List (List ExternalTree)) → AllByRecursion (AllByRecursion IsExternal) us → (s : Scope)
    → AllFree s → Placed (flat_map unit_tokens us) (typed_units us s)
units_placed [] h s free = (tt, λ z. tt)
units_placed (u ∷ us) h s free =
    let n = next_file (after_unit u s) in
    placed_both (unit_tokens u) (flat_map unit_tokens us) (typed_unit u s) (typed_units us n)
    (λ fs gs. fits (fs ++ gs)) (unit_placed u h.0 s free) (units_placed us h.1 n (tt, (tt, (tt, tt)))) (λ fs gs. refl)

-- ---- each place once

abbrev Distinct : List Span → Type 0
Distinct [] = Unit {0}
Distinct (p ∷ ps) = AllByRecursion (λ q. p ≡ q → ⊥) ps × Distinct ps

abbrev TokensApart : List Token → Type 0
TokensApart [] = Unit {0}
TokensApart (t ∷ ts) = AllByRecursion (λ (u : Token). t.at ≡ u.at → ⊥) ts × TokensApart ts

by_places : {A : Type 0} (P : A → Type 0) (xs : List A) → All P xs → AllByRecursion P xs
by_places P [] h = tt
by_places P (x ∷ xs) h = (h zero x (omega arith), by_places P xs (λ k d l. h (suc k) d (omega (arith, l))))

tokens_apart : (ts : List Token) → AllPairs (λ (a b : Token). a.at ≡ b.at → ⊥) ts → TokensApart ts
tokens_apart [] h = tt
tokens_apart (t ∷ ts) h = (
  by_places (λ (u : Token). t.at ≡ u.at → ⊥) ts (λ k d l. h zero (suc k) d (omega arith) (omega (arith, l))),
  tokens_apart ts (λ i j d less l. h (suc i) (suc j) d (omega (arith, less)) (omega (arith, l))),
)

sub_all : (x : Span) (ps : List Span) (ts : List Token) → Sub ps ts
    → AllByRecursion (λ (u : Token). x ≡ u.at → ⊥) ts → AllByRecursion (λ p. x ≡ p → ⊥) ps
sub_all x [] ts h k = tt
sub_all x (p ∷ ps) [] h k = absurd h
sub_all x (p ∷ ps) (t ∷ ts) (inl e) k = (λ q. k.0 (q ∙ e.0), sub_all x ps ts e.1 k.1)
sub_all x (p ∷ ps) (t ∷ ts) (inr h) k = sub_all x (p ∷ ps) ts h k.1

distinct : (ps : List Span) (ts : List Token) → Sub ps ts → TokensApart ts → Distinct ps
distinct [] ts h k = tt
distinct (p ∷ ps) [] h k = absurd h
distinct (p ∷ ps) (t ∷ ts) (inl e) k =
    (subst (λ x. AllByRecursion (λ q. x ≡ q → ⊥) ps) (sym e.0) (sub_all t.at ps ts e.1 k.0), distinct ps ts e.1 k.1)
distinct (p ∷ ps) (t ∷ ts) (inr h) k = distinct (p ∷ ps) ts h k.1

place_at : (e : Entity) → IsAt e → (p : Span) × (e ≡ At p)
place_at (Library f) h = absurd h
place_at (Shared name) h = absurd h
place_at (OfFile file name) h = absurd h
place_at (At p) h = (p, refl)

place_later : (p : Span) (e : Entity) (ps : List Span) → IsIn p ps → IsIn p (place_of e ps)
place_later p (Library f) ps h = h
place_later p (Shared name) ps h = h
place_later p (OfFile file name) ps h = h
place_later p (At q) ps h = inr h

in_places : (y : Stored) (p : Span) (ns : List Note) → IsIn (Stores y) ns → y.entity ≡ At p → IsIn p (places ns)
in_places y p [] i e = absurd i
in_places y p (Uses x at ∷ ns) (inl q) e = grind arith
in_places y p (Uses x at ∷ ns) (inr i) e = in_places y p ns i e
in_places y p (Stores z ∷ ns) (inl q) e =
    subst (λ x. IsIn p (place_of x (places ns))) (sym e ∙ ap entity_or q) (inl refl)
  where
    entity_or : Note → Entity
    entity_or (Uses x at) = x
    entity_or (Stores x) = x.entity
    entity_or (Defines x d) = x
in_places y p (Stores z ∷ ns) (inr i) e = place_later p z.entity (places ns) (in_places y p ns i e)
in_places y p (Defines x d ∷ ns) (inl q) e = grind arith
in_places y p (Defines x d ∷ ns) (inr i) e = in_places y p ns i e

rest_distinct : (e : Entity) (ps : List Span) → Distinct (place_of e ps) → Distinct ps
rest_distinct (Library f) ps h = h
rest_distinct (Shared name) ps h = h
rest_distinct (OfFile file name) ps h = h
rest_distinct (At q) ps h = h.1

-- no later object stands at the place of the first one
first_apart : (z y : Stored) (ns : List Note) (p : Span) → Distinct (place_of z.entity (places ns))
    → IsIn (Stores y) ns → z.entity ≡ At p → y.entity ≡ At p → ⊥
first_apart z y ns p h i e k =
    let d = subst (λ x. Distinct (place_of x (places ns))) e h in
    in_all (λ q. p ≡ q → ⊥) p (places ns) d.0 (in_places y p ns i k) refl

stored_in : (x y : Stored) → Stores x ≡ Stores y → x ≡ y
stored_in x y e = ap stored_or e
  where
    stored_or : Note → Stored
    stored_or (Uses f at) = x
    stored_or (Stores z) = z
    stored_or (Defines f d) = x

placed_of : (ns : List Note) → Distinct (places ns) → ArePlaced ns
placed_of [] h x y i j a e = absurd i
placed_of (Uses f at ∷ ns) h x y (inl q) j a e = grind arith
placed_of (Uses f at ∷ ns) h x y (inr i) (inl q) a e = grind arith
placed_of (Uses f at ∷ ns) h x y (inr i) (inr j) a e = placed_of ns h x y i j a e
placed_of (Stores z ∷ ns) h x y (inl q) (inl r) a e =
    let s = stored_in x z q ∙ sym (stored_in y z r) in
    (ap (λ (v : Stored). v.element) s, ap (λ (v : Stored). v.count) s)
placed_of (Stores z ∷ ns) h x y (inl q) (inr j) a e =
    let p = place_at x.entity a in
    absurd (first_apart z y ns p.0 h j (sym (ap (λ (v : Stored). v.entity) (stored_in x z q)) ∙ p.1) (sym e ∙ p.1))
placed_of (Stores z ∷ ns) h x y (inr i) (inl r) a e =
    let p = place_at x.entity a in
    absurd (first_apart z x ns p.0 h i (sym (ap (λ (v : Stored). v.entity) (stored_in y z r)) ∙ sym e ∙ p.1) p.1)
placed_of (Stores z ∷ ns) h x y (inr i) (inr j) a e = placed_of ns (rest_distinct z.entity (places ns) h) x y i j a e
placed_of (Defines f d ∷ ns) h x y (inl q) j a e = grind arith
placed_of (Defines f d ∷ ns) h x y (inr i) (inl q) a e = grind arith
placed_of (Defines f d ∷ ns) h x y (inr i) (inr j) a e = placed_of ns h x y i j a e

placed_in : (T : List Token) (c : Checked (List tree.Function)) → Placed T c → TokensApart T → ArePlaced (notes_in c)
placed_in T (Fits fs ns) h k = placed_of ns (distinct (places ns) T h.0 k)
placed_in T (Fails f fs) h k = placed_of [] tt

-- what files note at one place is one object
pub units_are_placed : (us : List (List ExternalTree)) → AllByRecursion (AllByRecursion IsExternal) us
    → AllPairs (λ (a b : Token). a.at ≡ b.at → ⊥) (flat_map unit_tokens us) → (m : Numbers)
    → ArePlaced (notes_in (typed_units us (first_scope m)))
units_are_placed us h k m =
    let T = flat_map unit_tokens us in
    placed_in T (typed_units us (first_scope m)) (units_placed us h (first_scope m) (tt, (tt, (tt, tt))))
    (tokens_apart T k)

right_in : (T : List Token) (c : Checked (List tree.Function)) → Placed T c → HasInts T → AreRight (notes_in c)
right_in T (Fits fs ns) h z = h.1 z
right_in T (Fails f fs) h z = tt

-- objects of files have elements, and their values fit them
pub units_are_right : (us : List (List ExternalTree)) → AllByRecursion (AllByRecursion IsExternal) us
    → All (λ (t : Token). HasIntIfAny t.kind) (flat_map unit_tokens us) → (m : Numbers)
    → AreRight (notes_in (typed_units us (first_scope m)))
units_are_right us h k m =
    let T = flat_map unit_tokens us in
    right_in T (typed_units us (first_scope m)) (units_placed us h (first_scope m) (tt, (tt, (tt, tt))))
    (by_places (λ (t : Token). HasIntIfAny t.kind) T k)
