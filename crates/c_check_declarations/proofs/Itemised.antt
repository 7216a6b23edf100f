-- Items of parts that are answered, and the scope behind each.
use Rattle.std.proofs.Common.{◌≡◌, sym, ap, ◌∙◌, subst, ℕ, suc, ◌+◌, ◌<◌, arith, List, ◌∷◌, length, map, drop}
use Rattle.std.proofs.Common.{Result, Ok, Err, OnOk, get_or, Bool, Option, option_map}
use Rattle.std.proofs.Math.Seq.{drop-cons}
use Rattle.pcc_base.specs.declared.fault.Fault.{Fault}
use Rattle.c_syntax.specs.declared.expression.Specifier.{Specifier}
use Rattle.c_syntax.specs.declared.declaration.Item.{Item as RawItem}
use Rattle.c_syntax.specs.Declarations.{DeclarationTree, ItemTree, item_of}
use Rattle.c_tree.specs.Program.{Item}
use Rattle.c_tree.specs.declared.statement.Item.{Item as BuiltItem}
use Rattle.c_typing.specs.Checked.{Checked, Note, also, if_fits, value_in}
use Rattle.c_typing.specs.Declarators.{ObjectType as Objects, object_allowed, object_declared, object_type}
use Rattle.c_typing.specs.Expressions.{specifiers_at}
use Rattle.c_typing.specs.Names.{Scope}
use Rattle.c_typing.specs.Statements.{after_item, after_items, bound_item, object_item, scope_faults, typed_declaration}
use Rattle.c_typing.specs.Statements.{sized_item, typed_item, typed_items}
use Rattle.c_typing.specs.Types as types
use Rattle.c_typing.specs.Types.{is_static}
use Rattle.c_check_names.specs.declared.meaning.Declared.{Declared}
use Rattle.c_check_names.specs.Views.{declared_of}
use Rattle.c_check_expressions.specs.declared.judged.Judged.{Judged}
use Rattle.c_check_expressions.specs.declared.judged.Judged.TheVariants as answers
use Rattle.c_check_expressions.specs.Said.{IsSaid}
use Rattle.c_check_declarations.specs.declared.objects.ObjectType.{ObjectType}
use Rattle.c_check_declarations.specs.DeclaratorAnswers.{IsDeclared, IsObject, IsSpecified, value_answered}
use Rattle.c_check_declarations.specs.Together.{listed, with_fault}
use Rattle.c_check_declarations.specs.Views.{object_of}
use Rattle.c_check_declarations.proofs.Lists.{rejoined}
use Rattle.c_check_declarations.proofs.Rows.{also_said, answered_is, fails_said, then_said}
use Rattle.c_check_declarations.proofs.Scoped.{value_fails, value_then}
use Rattle.c_check_declarations.specs.ItemAnswers.{AreItem, AreItems}

-- where a run ends well, what is known of it
pub on_ok : {A E : Type 0} (r : Result A E) (P Q : Type 0) → (P → Q) → OnOk r P → OnOk r Q
on_ok (Ok a) P Q f h = f h
on_ok (Err e) P Q f h = tt

-- ---- an item whose declarator was judged

pub declared_said : (row : Option Objects → Objects → Checked (List Item)) (o : Option Fault) (fs : List Fault)
    (c : Checked Objects) (of : Judged ObjectType) (part whole : Judged (Option BuiltItem)) (before after : List Note)
    → listed o ≡ fs → IsSaid IsObject c of before before → whole ≡ with_fault o part
    → ((c : Checked Objects) (b : List Note) → IsSaid IsObject c of b before
    → IsSaid AreItem (if_fits c (row (option_map object_of (value_answered of)))) part b after)
    → IsSaid AreItem (also fs (if_fits c (row (value_in c)))) whole before after
declared_said row o fs c of part whole before after faults said both stands =
    subst (λ (w : Judged (Option BuiltItem)). IsSaid AreItem (also fs (if_fits c (row (value_in c)))) w before after)
    (sym both)
    (subst (λ (xs : List Fault). IsSaid AreItem (also xs (if_fits c (row (value_in c)))) (with_fault o part) before
    after) faults
    (also_said AreItem o (if_fits c (row (value_in c))) part before after
    (subst (λ (t : Option Objects). IsSaid AreItem (if_fits c (row t)) part before after)
    (sym (answered_is object_of c of said.0)) (stands c before said))))

pub declared_scope : (behind : Option Objects → Scope) (c : Checked Objects) (of : Judged ObjectType) (t : Scope)
    (notes : List Note) → IsSaid IsObject c of notes notes → t ≡ behind (option_map object_of (value_answered of))
    → t ≡ behind (value_in c)
declared_scope behind c of t notes said h = h ∙ ap behind (sym (answered_is object_of c of said.0))

-- ---- an item

-- the item of a declared type, seen as an object in its own initialiser
abbrev pub item_row : Bool → Scope → ItemTree → Option Objects → types.Declared → Checked (List Item)
item_row b s i t x = also (scope_faults s i.declarator.name) (if_fits (object_allowed b i.declarator.name.at x)
    (object_item b s (bound_item b i.declarator.name t s) i.declarator.name i.initialiser))

pub item_fails : (s : Scope) (said : types.Specified) (i : ItemTree) (j : Judged Declared) (f : Fault)
    (before after : List Note)
    → IsSaid IsDeclared (object_declared s said i.declarator i.initialiser) j before after → j ≡ answers.Fails f
    → IsSaid AreItem (sized_item said i s) (answers.Fails f) before after
item_fails s said i j f before after h is =
    fails_said IsDeclared AreItem
    (item_row (is_static said.storage) s i (object_type (is_static said.storage) s said i.declarator i.initialiser))
    (object_declared s said i.declarator i.initialiser) f before after after
    (subst (λ (k : Judged Declared). IsSaid IsDeclared (object_declared s said i.declarator i.initialiser) k before
    after) is h)

pub item_fails_scope : (s : Scope) (said : types.Specified) (i : ItemTree) (j : Judged Declared) (f : Fault)
    (before after : List Note)
    → IsSaid IsDeclared (object_declared s said i.declarator i.initialiser) j before after → j ≡ answers.Fails f
    → s ≡ after_item said i s
item_fails_scope s said i j f before after h is =
    let stands = subst (λ (k : Judged Declared). IsSaid IsDeclared (object_declared s said i.declarator i.initialiser)
    k before after) is h in
    sym (ap (λ (t : Option Objects). bound_item (is_static said.storage) i.declarator.name t s)
    (value_fails IsDeclared (object_allowed (is_static said.storage) i.declarator.name.at)
    (object_declared s said i.declarator i.initialiser) f stands.0))

pub item_fits : (s : Scope) (said : types.Specified) (i : ItemTree) (b : Bool) (j : Judged Declared) (d : Declared)
    (part : Judged (Option BuiltItem)) (before between after : List Note)
    → IsSaid IsDeclared (object_declared s said i.declarator i.initialiser) j before between → j ≡ answers.Fits d
    → b ≡ is_static said.storage
    → IsSaid AreItem (item_row b s i (value_in (object_allowed b i.declarator.name.at (declared_of d))) (declared_of d))
    part between after
    → IsSaid AreItem (sized_item said i s) part before after
item_fits s said i b j d part before between after h is static row =
    let stands = subst (λ (k : Judged Declared). IsSaid IsDeclared (object_declared s said i.declarator i.initialiser)
    k before between) is h in
    let b2 = is_static said.storage in
    let c = object_declared s said i.declarator i.initialiser in
    then_said IsDeclared AreItem (item_row b2 s i (object_type b2 s said i.declarator i.initialiser)) c d part
    before between after stands
    (λ x same. subst (λ (y : types.Declared). IsSaid AreItem
    (item_row b2 s i (object_type b2 s said i.declarator i.initialiser) y) part between after) same
    (subst (λ (t : Option Objects). IsSaid AreItem (item_row b2 s i t (declared_of d)) part between after)
    (sym (value_then declared_of (object_allowed b2 i.declarator.name.at) c d stands.0))
    (subst (λ (q : Bool). IsSaid AreItem (item_row q s i (value_in (object_allowed q i.declarator.name.at
    (declared_of d))) (declared_of d)) part between after) static row)))

pub item_fits_scope : (s t : Scope) (said : types.Specified) (i : ItemTree) (b : Bool) (j : Judged Declared)
    (d : Declared) (before between : List Note)
    → IsSaid IsDeclared (object_declared s said i.declarator i.initialiser) j before between → j ≡ answers.Fits d
    → b ≡ is_static said.storage
    → t ≡ bound_item b i.declarator.name (value_in (object_allowed b i.declarator.name.at (declared_of d))) s
    → t ≡ after_item said i s
item_fits_scope s t said i b j d before between h is static row =
    let stands = subst (λ (k : Judged Declared). IsSaid IsDeclared (object_declared s said i.declarator i.initialiser)
    k before between) is h in
    row ∙ ap (λ (q : Bool). bound_item q i.declarator.name (value_in (object_allowed q i.declarator.name.at
    (declared_of d))) s) static
    ∙ ap (λ (o : Option Objects). bound_item (is_static said.storage) i.declarator.name o s)
    (sym (value_then declared_of (object_allowed (is_static said.storage) i.declarator.name.at)
    (object_declared s said i.declarator i.initialiser) d stands.0))

-- ---- lists of items

pub next_item : (is : List RawItem) (n : ℕ) (i : RawItem) → n < length is → i ≡ get_or is n i
    → drop n is ≡ i ∷ drop (n + 1) is
next_item is n i lt same =
    let e : suc n ≡ n + 1 = omega arith in
    drop-cons is n i lt ∙ ap (λ q. q ∷ drop (suc n) is) (sym same) ∙ ap (λ k. i ∷ drop k is) e

-- one more item is judged, and then declared
pub next_typed : (s t : Scope) (said : types.Specified) (is : List RawItem) (n : ℕ) (i : RawItem)
    → n < length is → i ≡ get_or is n i → t ≡ after_item said (item_of i) s
    → typed_items said (map item_of (drop n is)) s
    ≡ rejoined (typed_item said (item_of i) s) (typed_items said (map item_of (drop (n + 1) is)) t)
next_typed s t said is n i lt same h =
    ap (λ xs. typed_items said (map item_of xs) s) (next_item is n i lt same)
    ∙ ap (λ u. rejoined (typed_item said (item_of i) s) (typed_items said (map item_of (drop (n + 1) is)) u)) (sym h)

pub next_scope : (s t : Scope) (said : types.Specified) (is : List RawItem) (n : ℕ) (i : RawItem)
    → n < length is → i ≡ get_or is n i → t ≡ after_item said (item_of i) s
    → after_items said (map item_of (drop (n + 1) is)) t ≡ after_items said (map item_of (drop n is)) s
next_scope s t said is n i lt same h = ap (λ u. after_items said (map item_of (drop (n + 1) is)) u) h
    ∙ ap (λ xs. after_items said (map item_of xs) s) (sym (next_item is n i lt same))

-- ---- declarations

pub declaration_fails : (s : Scope) (position : types.Position) (d : DeclarationTree) (ss : List Specifier) (f : Fault)
    (notes : List Note) → ss ≡ d.specifiers
    → ((notes : List Note) → IsSaid IsSpecified (specifiers_at position ss) (answers.Fails f) notes notes)
    → IsSaid AreItems (typed_declaration position d s) (answers.Fails f) notes notes
declaration_fails s position d ss f notes h k =
    fails_said IsSpecified AreItems (λ said. typed_items said d.items s) (specifiers_at position d.specifiers) f
    notes notes notes
    (subst (λ (xs : List Specifier). IsSaid IsSpecified (specifiers_at position xs) (answers.Fails f) notes notes) h
    (k notes))
