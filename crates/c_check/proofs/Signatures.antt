-- Signatures of parts that are answered, and the scope behind a function that is declared.
use Rattle.std.proofs.Common.{◌≡◌, refl, sym, ap, ◌∙◌, subst, List, [], ◌∷◌, ◌++◌, Vec, Bool, false}
use Rattle.std.proofs.Common.{Option, Some, None, option_map}
use Rattle.std.specs.declared.alloc.Global.{Global}
use Rattle.pcc_base.specs.declared.fault.Fault.{Fault}
use Rattle.c_syntax.specs.declared.expression.Identifier.{Identifier}
use Rattle.pcc_base.specs.declared.fault.FaultKind.TheVariants.{TypeRule}
use Rattle.pcc_base.specs.declared.span.Span.{Span}
use Rattle.c_syntax.specs.Declarations.{DeclaratorTree, ItemTree, ParameterTree, ValueTree}
use Rattle.c_syntax.specs.Expressions.{Exprs}
use Rattle.c_tree.specs.declared.types.ValueType.{ValueType}
use Rattle.c_tree.specs.declared.expression.Expression.{Expression as Built}
use Rattle.c_tree.specs.Program.{Arguments, Function as Defined}
use Rattle.c_typing.specs.Checked.{Checked, Note, also, fails, faults_in, if_fits}
use Rattle.c_typing.specs.Declarators.{typed_parameters}
use Rattle.c_typing.specs.Files.{after_function, bound_function, function_declared, function_signature, library_faults}
use Rattle.c_typing.specs.Files.{main_faults, outer_of, redeclared_faults, result_allowed, signature_of}
use Rattle.c_typing.specs.Files.{typed_prototype, with_outer}
use Rattle.c_typing.specs.Expressions.{arguments_for, given}
use Rattle.c_typing.specs.Initialisers.{first_token_of, function_initialiser, scalar_values}
use Rattle.c_typing.specs.Library.{Entity}
use Rattle.c_typing.specs.Names.{Function, Outer, Scope, bound, entered, linked}
use Rattle.c_typing.specs.Names as names
use Rattle.c_typing.specs.Types.{DeclaredFunction, Specified, pointed}
use Rattle.c_check_names.specs.declared.meaning.Signature.{Signature}
use Rattle.c_check_names.specs.Views as views
use Rattle.c_check_expressions.specs.declared.judged.Judged.{Judged}
use Rattle.c_check_expressions.specs.declared.judged.Judged.TheVariants as answers
use Rattle.c_check_expressions.specs.Arguments.{AreArguments}
use Rattle.c_check_expressions.specs.Said.{IsSaid}
use Rattle.c_check_declarations.specs.DeclaratorAnswers.{AreSame, value_answered}
use Rattle.c_check_declarations.specs.Together.{listed, with_fault}
use Rattle.c_check_declarations.proofs.Rows.{answered_is, fails_said, faults_said, then_said}
use Rattle.c_check.specs.OutsideAnswers.{AreNone, IsSignature}

-- ---- several faults of one part

also_both : {X : Type 0} (o : Option Fault) (fs : List Fault) (c : Checked X)
    → also (listed o ++ fs) c ≡ also (listed o) (also fs c)
also_both None fs c = refl
also_both (Some f) [] c = refl
also_both (Some f) (g ∷ gs) c = refl

pub two_said : {X A : Type 0} (R : X → A → Type 0) (a b : Option Fault) (fs gs : List Fault) (x : Checked X)
    (part one two : Judged A) (before after : List Note) → listed a ≡ fs → listed b ≡ gs
    → one ≡ with_fault b part → two ≡ with_fault a one → IsSaid R x part before after
    → IsSaid R (also (fs ++ gs) x) two before after
two_said R a b fs gs x part one two before after h k m n said =
    subst (λ (ys : List Fault). IsSaid R (also (ys ++ gs) x) two before after) h
    (subst (λ (y : Checked _). IsSaid R y two before after) (sym (also_both a gs x))
    (faults_said R a (listed a) (also gs x) one two before after refl n
    (faults_said R b gs x part one before after k m said)))

-- ---- a signature

pub declared_said : (s : Scope) (said : Specified) (name : Identifier) (whole : Bool) (of : Option ValueType)
    (ps copy : List ValueType) (o : Outer) (r l : Option Fault) (part one two : Judged Signature)
    → copy ≡ ps → o ≡ outer_of s said name whole (DeclaredFunction of copy) → listed r ≡ redeclared_faults s name o
    → listed l ≡ library_faults name o → one ≡ with_fault l part → two ≡ with_fault r one
    → ((notes : List Note) → IsSaid IsSignature (signature_of name.at of ps) part notes notes) → (notes : List Note)
    → IsSaid IsSignature (function_declared s said name whole of ps) two notes notes
declared_said s said name whole of ps copy o r l part one two same is h k a b row notes =
    let e = is ∙ ap (λ (qs : List ValueType). outer_of s said name whole (DeclaredFunction of qs)) same in
    let means = outer_of s said name whole (DeclaredFunction of ps) in
    two_said IsSignature r l (redeclared_faults s name means) (library_faults name means)
    (signature_of name.at of ps) part one two notes notes (h ∙ ap (redeclared_faults s name) e)
    (k ∙ ap (library_faults name) e) a b (row notes)

-- of parameters that fail, and of those that fit
pub signature_fails : (s : Scope) (said : Specified) (name : Identifier) (of : Option ValueType) (whole : Bool)
    (ps : List ParameterTree) (j : Judged (Vec ValueType Global)) (f : Fault) (before after : List Note)
    → IsSaid AreSame (typed_parameters (entered s) whole ps) j before after → j ≡ answers.Fails f
    → IsSaid IsSignature (if_fits (typed_parameters (entered s) whole ps) (function_declared s said name whole of))
    (answers.Fails f) before after
signature_fails s said name of whole ps j f before after h is =
    fails_said AreSame IsSignature (function_declared s said name whole of)
    (typed_parameters (entered s) whole ps) f before after after
    (subst (λ (k : Judged (Vec ValueType Global)). IsSaid AreSame (typed_parameters (entered s) whole ps) k before
    after) is h)

pub signature_fits : (s t : Scope) (said : Specified) (name : Identifier) (of : Option ValueType) (whole : Bool)
    (ps : List ParameterTree) (j : Judged (Vec ValueType Global)) (types : Vec ValueType Global)
    (part : Judged Signature) (before after : List Note)
    → IsSaid AreSame (typed_parameters (entered s) whole ps) j before after → j ≡ answers.Fits types → t ≡ s
    → ((notes : List Note) → IsSaid IsSignature (function_declared t said name whole of types.items) part notes notes)
    → IsSaid IsSignature (if_fits (typed_parameters (entered s) whole ps) (function_declared s said name whole of)) part
    before after
signature_fits s t said name of whole ps j types part before after h is same row =
    then_said AreSame IsSignature (function_declared s said name whole of)
    (typed_parameters (entered s) whole ps) types part before after after
    (subst (λ (k : Judged (Vec ValueType Global)). IsSaid AreSame (typed_parameters (entered s) whole ps) k before
    after) is h)
    (λ x items. subst (λ (y : List ValueType). IsSaid IsSignature (function_declared s said name whole of y) part after
    after) items
    (subst (λ (u : Scope). IsSaid IsSignature (function_declared u said name whole of types.items) part after after)
    same (row after)))

-- with what specifiers and `*` forbid
pub signature_said : (s : Scope) (said : Specified) (d : DeclaratorTree) (whole : Bool) (ps : List ParameterTree)
    (of : Option ValueType) (m r : Option Fault) (part one two : Judged Signature) (before after : List Note)
    → of ≡ pointed said.base d.pointer → listed m ≡ main_faults said d.name
    → listed r ≡ faults_in (result_allowed d.name.at of) → one ≡ with_fault r part → two ≡ with_fault m one
    → IsSaid IsSignature (if_fits (typed_parameters (entered s) whole ps) (function_declared s said d.name whole of))
    part before after
    → IsSaid IsSignature (function_signature s said d whole ps) two before after
signature_said s said d whole ps of m r part one two before after base h k a b row =
    let rule : Option ValueType → Checked names.Signature = λ t.
    also (main_faults said d.name ++ faults_in (result_allowed d.name.at t))
    (if_fits (typed_parameters (entered s) whole ps) (function_declared s said d.name whole t)) in
    subst (λ (t : Option ValueType). IsSaid IsSignature (rule t) two before after) base
    (two_said IsSignature m r (main_faults said d.name) (faults_in (result_allowed d.name.at of))
    (if_fits (typed_parameters (entered s) whole ps) (function_declared s said d.name whole of)) part one two before
    after h k a b row)

-- ---- a function is declared

pub declared_entity : (s : Scope) (said : Specified) (name : Identifier) (whole : Bool) (g copy : names.Signature)
    (o : Outer) (e : Entity) → copy ≡ g
    → o ≡ outer_of s said name whole (DeclaredFunction (Some copy.result) copy.parameters) → e ≡ o.entity
    → e ≡ linked s said.storage (DeclaredFunction (Some g.result) g.parameters) name.name
declared_entity s said name whole g copy o e same is h = h ∙ ap (λ (x : Outer). x.entity) is
    ∙ ap (λ (x : names.Signature). linked s said.storage (DeclaredFunction (Some x.result) x.parameters) name.name)
    same

pub declared_scope : (s t u : Scope) (said : Specified) (name : Identifier) (whole : Bool)
    (g copy other : names.Signature) (o : Outer) (e : Entity) → copy ≡ g → other ≡ g
    → o ≡ outer_of s said name whole (DeclaredFunction (Some copy.result) copy.parameters) → e ≡ o.entity
    → t ≡ with_outer o s → u ≡ bound name.name (Function e other) t
    → u ≡ bound_function said name whole (Some g) s
declared_scope s t u said name whole g copy other o e same seen is h k l = l
    ∙ ap (λ (x : Entity). bound name.name (Function x other) t) h
    ∙ ap (λ (x : names.Signature). bound name.name (Function o.entity x) t) seen
    ∙ ap (bound name.name (Function o.entity g)) k
    ∙ ap (λ (x : Outer). bound name.name (Function x.entity g) (with_outer x s)) (is
    ∙ ap (λ (x : names.Signature). outer_of s said name whole (DeclaredFunction (Some x.result) x.parameters)) same)

-- what is answered of a signature says what is declared
function_scope : (s : Scope) (said : Specified) (d : DeclaratorTree) (ps : List ParameterTree) (j : Judged Signature)
    (before after : List Note) → IsSaid IsSignature (function_signature s said d false ps) j before after
    → bound_function said d.name false (option_map views.signature_of (value_answered j)) s
    ≡ after_function said d false ps s
function_scope s said d ps j before after h = ap (λ (o : Option names.Signature). bound_function said d.name false o s)
    (sym (answered_is views.signature_of (function_signature s said d false ps) j h.0))

pub prototype_fails_scope : (s t : Scope) (said : Specified) (d : DeclaratorTree) (ps : List ParameterTree)
    (j : Judged Signature) (f : Fault) (before after : List Note)
    → IsSaid IsSignature (function_signature s said d false ps) j before after → j ≡ answers.Fails f → t ≡ s
    → t ≡ after_function said d false ps s
prototype_fails_scope s t said d ps j f before after h is same = same
    ∙ ap (λ (k : Judged Signature). bound_function said d.name false
    (option_map views.signature_of (value_answered k)) s) (sym is)
    ∙ function_scope s said d ps j before after h

pub prototype_fits_scope : (s t u : Scope) (said : Specified) (d : DeclaratorTree) (ps : List ParameterTree)
    (j : Judged Signature) (g : Signature) (before after : List Note)
    → IsSaid IsSignature (function_signature s said d false ps) j before after → j ≡ answers.Fits g → t ≡ s
    → u ≡ bound_function said d.name false (Some (views.signature_of g)) t → u ≡ after_function said d false ps s
prototype_fits_scope s t u said d ps j g before after h is same k = k
    ∙ ap (bound_function said d.name false (Some (views.signature_of g))) same
    ∙ ap (λ (k : Judged Signature). bound_function said d.name false
    (option_map views.signature_of (value_answered k)) s) (sym is)
    ∙ function_scope s said d ps j before after h

-- ---- prototypes

-- a prototype with its initialiser, whose values are judged behind its name
abbrev pub prototype_row : Specified → ItemTree → List ParameterTree → Scope → names.Signature → Checked (List Defined)
prototype_row said i ps s g = function_initialiser (after_function said i.declarator false ps s) i.initialiser []

pub prototype_fails : (A : Type 0) (said : Specified) (i : ItemTree) (ps : List ParameterTree) (s : Scope)
    (j : Judged Signature) (f : Fault) (before after : List Note)
    → IsSaid IsSignature (function_signature s said i.declarator false ps) j before after → j ≡ answers.Fails f
    → IsSaid (AreNone {A = A}) (typed_prototype said i ps s) (answers.Fails f) before after
prototype_fails A said i ps s j f before after h is =
    let c = function_signature s said i.declarator false ps in
    fails_said IsSignature (AreNone {A = A}) (prototype_row said i ps s) c f before after after
    (subst (λ (k : Judged Signature). IsSaid IsSignature c k before after) is h)

pub prototype_fits : {A : Type 0} (said : Specified) (i : ItemTree) (ps : List ParameterTree) (s u : Scope)
    (j : Judged Signature) (g : Signature) (part : Judged A) (before between after : List Note)
    → IsSaid IsSignature (function_signature s said i.declarator false ps) j before between → j ≡ answers.Fits g
    → u ≡ after_function said i.declarator false ps s
    → IsSaid AreNone (function_initialiser {A = List Defined} u i.initialiser []) part between after
    → IsSaid AreNone (typed_prototype said i ps s) part before after
prototype_fits said i ps s u j g part before between after h is behind row =
    let c = function_signature s said i.declarator false ps in
    then_said IsSignature AreNone (prototype_row said i ps s) c g part before between after
    (subst (λ (k : Judged Signature). IsSaid IsSignature c k before between) is h)
    (λ x same. subst (λ (t : Scope). IsSaid AreNone (function_initialiser {A = List Defined} t i.initialiser []) part
    between after) behind row)

-- where values stand, they are judged behind the function's name, and its first token fails where all have types
pub initialiser_said : {A : Type 0} (s : Scope) (v : Option ValueTree) (w : ValueTree) (es : Exprs) (at : Span)
    (values : Judged (Vec Built Global)) (part : Judged A) (before after : List Note) → v ≡ Some w
    → es ≡ scalar_values w.value → at ≡ first_token_of w.value
    → IsSaid AreArguments (arguments_for [] (given s es)) values before after
    → ((c : Checked Arguments) (before after : List Note) → IsSaid AreArguments c values before after
    → IsSaid AreNone (if_fits c (λ x. fails {A = List Defined} TypeRule at)) part before after)
    → IsSaid AreNone (function_initialiser {A = List Defined} s v []) part before after
initialiser_said s v w es at values part before after is same place h row =
    let given_values = arguments_for [] (given s (scalar_values w.value)) in
    subst (λ (o : Option ValueTree). IsSaid AreNone (function_initialiser {A = List Defined} s o []) part before after)
    (sym is)
    (subst (λ (p : Span). IsSaid AreNone (if_fits given_values (λ x. fails {A = List Defined} TypeRule p)) part before
    after) place
    (row given_values before after
    (subst (λ (xs : Exprs). IsSaid AreArguments (arguments_for [] (given s xs)) values before after) same h)))
