-- Bodies of functions, of parts that are answered, and the scope behind them.
use Rattle.std.proofs.Common.{◌≡◌, refl, sym, ap, ◌∙◌, subst, ℕ, List, [], ◌∷◌, ◌++◌, length, Vec, true, Option, Some}
use Rattle.std.proofs.Common.{Result, Ok, Err, OnOk}
use Rattle.std.proofs.lemmas.List.{append-nil}
use Rattle.std.specs.declared.alloc.Global.{Global}
use Rattle.pcc_base.specs.declared.fault.Fault.{Fault}
use Rattle.c_syntax.specs.declared.expression.Identifier.{Identifier}
use Rattle.c_syntax.specs.Declarations.{DeclaratorTree, ParameterTree}
use Rattle.c_syntax.specs.Statements.{Stmt}
use Rattle.c_tree.specs.declared.program.Function.{Function as Built}
use Rattle.c_tree.specs.declared.statement.Statement.{Statement}
use Rattle.c_tree.specs.Program as tree
use Rattle.c_typing.specs.Checked.{Checked, Defines, Fits, Fails, Note, fits, if_fits, noted}
use Rattle.c_typing.specs.Declarators.{parameters_meant, with_parameters}
use Rattle.c_typing.specs.Files.{after_definition, after_function, at_body, body_of, bound_function}
use Rattle.c_typing.specs.Files.{function_signature, function_with, in_function, parameters_in, typed_definition}
use Rattle.c_typing.specs.Library.{Entity}
use Rattle.c_typing.specs.Names.{Binding, Scope, Signature, entered, left, linked}
use Rattle.c_typing.specs.Statements.{after_statements, typed_statements}
use Rattle.c_typing.specs.Types.{DeclaredFunction, Specified}
use Rattle.c_check_names.specs.declared.meaning.Signature.{Signature as BuiltSignature}
use Rattle.c_check_names.specs.Views as views
use Rattle.c_check_expressions.specs.declared.judged.Judged.{Judged}
use Rattle.c_check_expressions.specs.declared.judged.Judged.TheVariants as answers
use Rattle.c_check_expressions.specs.Said.{IsSaid}
use Rattle.c_check_declarations.proofs.Rows.{answered_is, fails_said, then_said}
use Rattle.c_check.specs.OutsideAnswers.{IsSignature}
use Rattle.c_check_statements.specs.Answers.{AreStatements}
use Rattle.c_check.specs.FileAnswers.{AreFunction, IsFunction}
use Rattle.c_check.proofs.Behind.{sees_body}

-- what holds holds where a run ends well
pub holds_ok : {A E : Type 0} (r : Result A E) (P : Type 0) → P → OnOk r P
holds_ok (Ok a) P h = h
holds_ok (Err e) P h = tt

-- ---- the scope of a body

pub begun : (s t u v : Scope) (ps : List ParameterTree) → t ≡ record s { locals = []; arrays = [] } → u ≡ entered t
    → v ≡ with_parameters u (parameters_meant ps) → v ≡ at_body ps s
begun s t u v ps h k l = l ∙ ap (λ (x : Scope). with_parameters x (parameters_meant ps)) (k ∙ ap entered h)

pub left_body : (s t u v : Scope) (ps : List ParameterTree) (body : Stmt) → t ≡ at_body ps s
    → u ≡ after_statements (body_of body) t
    → ((more : List Binding) → u.names ≡ more ++ s.names → v ≡ left s u)
    → v ≡ left s (after_statements (body_of body) (at_body ps s))
left_body s t u v ps body h k close =
    let e = k ∙ ap (after_statements (body_of body)) h in
    let seen = sees_body ps body s in
    close seen.more (ap (λ (x : Scope). x.names) e ∙ seen.is) ∙ ap (left s) e

-- ---- the function of a body

pub made : (name : List ℕ) (count : ℕ) (locals : List tree.Local) (arrays : List tree.LocalArray)
    (body : tree.Statements) (i : Identifier) (g : Signature) (first last : Scope) → name ≡ i.name
    → count ≡ length first.locals → locals ≡ last.locals → arrays ≡ last.arrays
    → record {
      name = name;
      result = g.result;
      parameters = count;
      locals = locals;
      arrays = arrays;
      body = body;
    } ≡ function_with i g first last body
made name count locals arrays body i g first last h k l m =
    let made_of : List ℕ → ℕ → List tree.Local → List tree.LocalArray → tree.Function = λ n c ls ms. record {
      name = n;
      result = g.result;
      parameters = c;
      locals = ls;
      arrays = ms;
      body = body;
    } in
    ap (λ x. made_of x count locals arrays) h ∙ ap (λ x. made_of i.name x locals arrays) k
    ∙ ap (λ x. made_of i.name (length first.locals) x arrays) l
    ∙ ap (made_of i.name (length first.locals) last.locals) m

pub function_said : (c : Checked tree.Statements) (part : Judged (Vec Statement Global))
    (v : Vec Statement Global) (row : tree.Statements → tree.Function) (f : Built) (before after : List Note)
    → part ≡ answers.Fits v → ((x : tree.Statements) → AreStatements x v → IsFunction (row x) f)
    → IsSaid AreStatements c part before after
    → IsSaid IsFunction (if_fits c (λ x. fits (row x))) (answers.Fits f) before after
function_said c part v row f before after is stands h =
    then_said AreStatements IsFunction (λ x. fits (row x)) c v (answers.Fits f) before after after
    (subst (λ (p : Judged (Vec Statement Global)). IsSaid AreStatements c p before after) is h)
    (λ x same. (stands x same, sym (append-nil after)))

pub function_fails : (c : Checked tree.Statements) (part : Judged (Vec Statement Global)) (g : Fault)
    (row : tree.Statements → Checked tree.Function) (before after : List Note) → part ≡ answers.Fails g
    → IsSaid AreStatements c part before after → IsSaid IsFunction (if_fits c row) (answers.Fails g) before after
function_fails c part g row before after is h =
    fails_said AreStatements IsFunction row c g before after after
    (subst (λ (p : Judged (Vec Statement Global)). IsSaid AreStatements c p before after) is h)

-- what a body gives in the scope where it begins
abbrev pub body_row : Identifier → Signature → Stmt → Scope → Scope → Checked tree.Function
body_row name g body first last = if_fits (typed_statements (in_function g.result) (body_of body) first)
    (λ statements. fits (function_with name g first last statements))

pub within_said : (name : Identifier) (g : Signature) (s t u : Scope) (ps : List ParameterTree) (body : Stmt)
    (count : ℕ) (part : Judged (Vec Statement Global)) (j : Judged Built) (before after : List Note)
    → t ≡ at_body ps s → count ≡ length t.locals
    → IsSaid AreStatements (typed_statements (in_function g.result) (body_of body) t) part before after
    → u ≡ after_statements (body_of body) t
    → ((first : Scope) → count ≡ length first.locals → (c : Checked tree.Statements) (b a : List Note)
    → IsSaid AreStatements c part b a
    → IsSaid IsFunction (if_fits c (λ statements. fits (function_with name g first u statements))) j b a)
    → IsSaid IsFunction (body_row name g body (at_body ps s) (after_statements (body_of body) (at_body ps s))) j
    before after
within_said name g s t u ps body count part j before after h k said l stands =
    subst (λ (x : Scope). IsSaid IsFunction (body_row name g body x (after_statements (body_of body) x)) j before
    after) h
    (subst (λ (y : Scope). IsSaid IsFunction (body_row name g body t y) j before after) l
    (stands t k (typed_statements (in_function g.result) (body_of body) t) before after said))

-- ---- a definition

fits_then : {X Y Z : Type 0} (c : Checked X) (f : X → Y) (row : Y → Checked Z)
    → if_fits (if_fits c (λ x. fits (f x))) row ≡ if_fits c (λ x. row (f x))
fits_then (Fits x ns) f row = ap (λ ms. noted ms (row (f x))) (append-nil ns)
fits_then (Fails g gs) f row = refl

abbrev pub definition_row : Identifier → Signature → Entity → Stmt → Scope → Checked (List tree.Function)
definition_row name g e body first =
    if_fits (typed_statements (in_function g.result) (body_of body) first) (λ statements.
    Fits (function_with name g first (after_statements (body_of body) first) statements ∷ [])
    (Defines e (DeclaredFunction (Some g.result) g.parameters) ∷ []))

pub defined_said : (said : Specified) (name : Identifier) (g : Signature) (s t : Scope) (ps : List ParameterTree)
    (body : Stmt) (e : Entity) (part : Judged Built) (j : Judged (Option Built)) (before between after : List Note)
    → e ≡ linked s said.storage (DeclaredFunction (Some g.result) g.parameters) name.name
    → t ≡ bound_function said name true (Some g) s
    → IsSaid IsFunction (body_row name g body (at_body ps t) (after_statements (body_of body) (at_body ps t))) part
    before between
    → ((c : Checked tree.Function) (b : List Note) → IsSaid IsFunction c part b between → IsSaid AreFunction
    (if_fits c (λ f. Fits (f ∷ []) (Defines e (DeclaredFunction (Some g.result) g.parameters) ∷ []))) j b after)
    → IsSaid AreFunction (definition_row name g
    (linked s said.storage (DeclaredFunction (Some g.result) g.parameters) name.name) body
    (at_body ps (bound_function said name true (Some g) s))) j before after
defined_said said name g s t ps body e part j before between after h k within row =
    let first = at_body ps t in
    let last = after_statements (body_of body) first in
    let c = typed_statements (in_function g.result) (body_of body) first in
    let type = DeclaredFunction (Some g.result) g.parameters in
    let put : tree.Function → Checked (List tree.Function) = λ f. Fits (f ∷ []) (Defines e type ∷ []) in
    subst (λ (x : Entity). IsSaid AreFunction (definition_row name g x body
    (at_body ps (bound_function said name true (Some g) s))) j before after) h
    (subst (λ (x : Scope). IsSaid AreFunction (definition_row name g e body (at_body ps x)) j before after) k
    (subst (λ (y : Checked (List tree.Function)). IsSaid AreFunction y j before after)
    (fits_then c (function_with name g first last) put)
    (row (body_row name g body first last) before within)))

pub defined_scope : (said : Specified) (name : Identifier) (g : Signature) (s t u : Scope) (ps : List ParameterTree)
    (body : Stmt) → t ≡ bound_function said name true (Some g) s
    → u ≡ left t (after_statements (body_of body) (at_body ps t))
    → u ≡ left (bound_function said name true (Some g) s)
    (after_statements (body_of body) (at_body ps (bound_function said name true (Some g) s)))
defined_scope said name g s t u ps body h k =
    k ∙ ap (λ (x : Scope). left x (after_statements (body_of body) (at_body ps x))) h

pub noted_said : (c : Checked tree.Function) (part : Judged Built) (f : Built) (e : Entity) (g : Signature)
    (before now after : List Note) → part ≡ answers.Fits f
    → after ≡ now ++ Defines e (DeclaredFunction (Some g.result) g.parameters) ∷ []
    → IsSaid IsFunction c part before now
    → IsSaid AreFunction (if_fits c (λ x. Fits (x ∷ [])
    (Defines e (DeclaredFunction (Some g.result) g.parameters) ∷ []))) (answers.Fits (Some f)) before after
noted_said c part f e g before now after is grown h =
    then_said IsFunction AreFunction (λ x. Fits (x ∷ []) (Defines e (DeclaredFunction (Some g.result) g.parameters)
    ∷ [])) c f (answers.Fits (Some f)) before now after
    (subst (λ (p : Judged Built). IsSaid IsFunction c p before now) is h)
    (λ x same. (ap (λ y. y ∷ []) same, grown))

pub noted_fails : (c : Checked tree.Function) (part : Judged Built) (f : Fault)
    (row : tree.Function → Checked (List tree.Function)) (before now : List Note) → part ≡ answers.Fails f
    → IsSaid IsFunction c part before now → IsSaid AreFunction (if_fits c row) (answers.Fails f) before now
noted_fails c part f row before now is h = fails_said IsFunction AreFunction row c f before now now
    (subst (λ (p : Judged Built). IsSaid IsFunction c p before now) is h)

-- ---- a definition whose signature was judged

abbrev pub typed_with : Specified → DeclaratorTree → Stmt → List ParameterTree → Scope
    → Checked (List tree.Function)
typed_with said d body ps s = if_fits (function_signature s said d true ps) (λ g. definition_row d.name g
    (linked s said.storage (DeclaredFunction (Some g.result) g.parameters) d.name.name) body
    (at_body ps (after_function said d true ps s)))

abbrev pub after_with : Specified → DeclaratorTree → Stmt → List ParameterTree → Scope → Scope
after_with said d body ps s =
    let outside = after_function said d true ps s in
    left outside (after_statements (body_of body) (at_body ps outside))

pub definition_fails : (said : Specified) (d : DeclaratorTree) (body : Stmt) (ps : List ParameterTree) (s : Scope)
    (j : Judged BuiltSignature) (f : Fault) (before after last : List Note) → ps ≡ parameters_in d.part
    → IsSaid IsSignature (function_signature s said d true ps) j before after → j ≡ answers.Fails f
    → IsSaid AreFunction (typed_definition said d body s) (answers.Fails f) before last
definition_fails said d body ps s j f before after last same h is =
    subst (λ (qs : List ParameterTree). IsSaid AreFunction (typed_with said d body qs s) (answers.Fails f) before
    last) same
    (fails_said IsSignature AreFunction (λ g. definition_row d.name g
    (linked s said.storage (DeclaredFunction (Some g.result) g.parameters) d.name.name) body
    (at_body ps (after_function said d true ps s))) (function_signature s said d true ps) f before after last
    (subst (λ (k : Judged BuiltSignature). IsSaid IsSignature (function_signature s said d true ps) k before after) is
    h))

pub definition_fails_scope : (said : Specified) (d : DeclaratorTree) (body : Stmt) (ps : List ParameterTree)
    (s t u : Scope) (j : Judged BuiltSignature) (f : Fault) (before after : List Note) → ps ≡ parameters_in d.part
    → IsSaid IsSignature (function_signature s said d true ps) j before after → j ≡ answers.Fails f → t ≡ s
    → u ≡ left t (after_statements (body_of body) (at_body ps t)) → u ≡ after_definition said d body s
definition_fails_scope said d body ps s t u j f before after same h is k l =
    let c = function_signature s said d true ps in
    let stands = subst (λ (x : Judged BuiltSignature). IsSaid IsSignature c x before after) is h in
    l ∙ ap (λ (x : Scope). left x (after_statements (body_of body) (at_body ps x))) (k
    ∙ ap (λ (o : Option Signature). bound_function said d.name true o s)
    (sym (answered_is views.signature_of c (answers.Fails f) stands.0)))
    ∙ ap (λ (qs : List ParameterTree). after_with said d body qs s) same

-- what is seen behind a function whose signature fits
behind_function : (said : Specified) (d : DeclaratorTree) (ps : List ParameterTree) (s : Scope) (g : BuiltSignature)
    (before after : List Note) → IsSaid IsSignature (function_signature s said d true ps) (answers.Fits g) before after
    → bound_function said d.name true (Some (views.signature_of g)) s ≡ after_function said d true ps s
behind_function said d ps s g before after h = ap (λ (o : Option Signature). bound_function said d.name true o s)
    (sym (answered_is views.signature_of (function_signature s said d true ps) (answers.Fits g) h.0))

pub definition_fits : (said : Specified) (d : DeclaratorTree) (body : Stmt) (ps : List ParameterTree) (s t : Scope)
    (j : Judged BuiltSignature) (g : BuiltSignature) (part : Judged (Option Built)) (before between after : List Note)
    → ps ≡ parameters_in d.part → IsSaid IsSignature (function_signature s said d true ps) j before between
    → j ≡ answers.Fits g → t ≡ s
    → IsSaid AreFunction (definition_row d.name (views.signature_of g) (linked t said.storage
    (DeclaredFunction (Some g.result) (views.signature_of g).parameters) d.name.name) body
    (at_body ps (bound_function said d.name true (Some (views.signature_of g)) t))) part between after
    → IsSaid AreFunction (typed_definition said d body s) part before after
definition_fits said d body ps s t j g part before between after same h is k row =
    let c = function_signature s said d true ps in
    let stands = subst (λ (x : Judged BuiltSignature). IsSaid IsSignature c x before between) is h in
    let row_in : Scope → Signature → Checked (List tree.Function) = λ outside x. definition_row d.name x
    (linked s said.storage (DeclaredFunction (Some x.result) x.parameters) d.name.name) body (at_body ps outside) in
    subst (λ (qs : List ParameterTree). IsSaid AreFunction (typed_with said d body qs s) part before after) same
    (then_said IsSignature AreFunction (row_in (after_function said d true ps s)) c g part before between after stands
    (λ x signed. subst (λ (y : Signature). IsSaid AreFunction (row_in (after_function said d true ps s) y) part between
    after) signed
    (subst (λ (o : Scope). IsSaid AreFunction (row_in o (views.signature_of g)) part between after)
    (behind_function said d ps s g before between stands)
    (subst (λ (u : Scope). IsSaid AreFunction (definition_row d.name (views.signature_of g) (linked u said.storage
    (DeclaredFunction (Some g.result) (views.signature_of g).parameters) d.name.name) body
    (at_body ps (bound_function said d.name true (Some (views.signature_of g)) u))) part between after) k row))))

pub definition_fits_scope : (said : Specified) (d : DeclaratorTree) (body : Stmt) (ps : List ParameterTree)
    (s t u : Scope) (j : Judged BuiltSignature) (g : BuiltSignature) (before after : List Note)
    → ps ≡ parameters_in d.part → IsSaid IsSignature (function_signature s said d true ps) j before after
    → j ≡ answers.Fits g → t ≡ s
    → u ≡ left (bound_function said d.name true (Some (views.signature_of g)) t) (after_statements (body_of body)
    (at_body ps (bound_function said d.name true (Some (views.signature_of g)) t)))
    → u ≡ after_definition said d body s
definition_fits_scope said d body ps s t u j g before after same h is k l =
    let c = function_signature s said d true ps in
    let stands = subst (λ (x : Judged BuiltSignature). IsSaid IsSignature c x before after) is h in
    l ∙ ap (λ (x : Scope). left x (after_statements (body_of body) (at_body ps x)))
    (ap (bound_function said d.name true (Some (views.signature_of g))) k
    ∙ behind_function said d ps s g before after stands)
    ∙ ap (λ (qs : List ParameterTree). after_with said d body qs s) same
