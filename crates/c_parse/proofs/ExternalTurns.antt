-- What the turns of the loop over external declarations read in all.
use Rattle.std.proofs.Common.{◌≡◌, ◌<◌, ◌==◌, true, false, List, [], ◌∷◌, ◌++◌, map, length, Bool, Some, None, is_some, refl, subst, ◌∙◌}
use Rattle.std.proofs.Common.{arith}
use Rattle.std.proofs.lemmas.Bool.{eqb-true}
use Rattle.pcc_base.specs.declared.span.Span.{Span}
use Rattle.c_lex.specs.declared.token.Token.{Token}
use Rattle.c_syntax.specs.declared.unit.External.{External}
use Rattle.c_lex.specs.declared.token.Punct.TheVariants as marks
use Rattle.c_syntax.specs.declared.expression.Specifier.{Specifier}
use Rattle.c_syntax.specs.Declarations.{DeclaratorTree}
use Rattle.c_syntax.specs.Statements.{ExternalTree, DeclaredTree, external_of}
use Rattle.c_grammar.specs.Chains.{Done, Fails, Goes, Takes, Reads, Found, Faults, then_read}
use Rattle.c_grammar.proofs.Chains.{Continues, continues_goes, continues_done, continues_fails}
use Rattle.c_grammar.specs.Taking.{take_mark}
use Rattle.c_grammar.specs.DeclarationReading.{read_declarator, declaration_behind}
use Rattle.c_grammar.specs.StatementReading.{Below, external_behind, external_from, has_parameters, read_external}
use Rattle.c_grammar.specs.StatementReading.{unit_step}
use Rattle.c_parse_expressions.specs.Readings.{Refused}
use Rattle.c_parse_expressions.specs.declared.parse_error.ParseError.{ParseError}
use Rattle.c_parse_expressions.specs.declared.parse_error.ParseError.TheVariants.{Fault, NoMemory}
use Rattle.c_parse_expressions.proofs.Refused.{refused_so, refused_then}
use Rattle.c_parse.specs.DeclarationParts.{AreSpecifiers}
use Rattle.c_parse.proofs.Listing.{map_push}

goes_at : (b : Below) (a : List ExternalTree) (ts : List Token) (e : ExternalTree) (us : List Token) → (length ts == 0)
    ≡ false → read_external b ts ≡ Found e us → unit_step b a ts ≡ Goes (a ++ e ∷ []) us
goes_at b a [] e us some r = absurd (let wrong : true ≡ false = some in cc)
goes_at b a (t ∷ ts) e us some r = rw r refl

fails_at : (b : Below) (a : List ExternalTree) (ts : List Token) (deep : Bool) (us : List Token) → (length ts == 0) ≡ false
    → read_external b ts ≡ Faults deep us → unit_step b a ts ≡ Fails deep us
fails_at b a [] deep us some r = absurd (let wrong : true ≡ false = some in cc)
fails_at b a (t ∷ ts) deep us some r = rw r refl

empty_is : (ts : List Token) → (length ts == 0) ≡ true → ts ≡ []
empty_is [] e = refl
empty_is (t ∷ ts) e = absurd (omega (arith, eqb-true (length (t ∷ ts)) 0 e))

-- one external declaration more
pub unit_more : (b : Below) (out : Reads (List ExternalTree)) (xs ys : List External) (x : External)
    (ts us : List Token) →
    Continues (unit_step b) (map external_of xs) ts out → (length ts == 0) ≡ false → read_external b ts
    ≡ Found (external_of x) us → ys ≡ xs ++ x ∷ [] → length us < length ts →
    Continues (unit_step b) (map external_of ys) us out
unit_more b out xs ys x ts us before some r g less =
    (let goes = goes_at b (map external_of xs) ts (external_of x) us some r in
    let k : map external_of xs ++ external_of x ∷ [] ≡ map external_of ys = rw (g, map_push external_of xs x) refl in
    subst (λ (a : List ExternalTree). Continues (unit_step b) a us out) k
    (continues_goes (unit_step b) _ _ ts us out before goes less))

-- an external declaration that is refused
pub unit_refused : (b : Below) (a : List ExternalTree) (ts : List Token) (out : Reads (List ExternalTree)) (e : ParseError)
    →
    Continues (unit_step b) a ts out → (length ts == 0) ≡ false → Refused (read_external b ts) e → Refused out e
unit_refused b a ts out (Fault deep at) before some r = (
  r.0,
  continues_fails (unit_step b) a ts out deep r.0 before (fails_at b a ts deep r.0 some r.1),
  r.2,
)
unit_refused b a ts out NoMemory before some r = tt

-- the end of the tokens
pub unit_last : (b : Below) (a : List ExternalTree) (ts : List Token) (out : Reads (List ExternalTree))
    → Continues (unit_step b) a ts out → (length ts == 0) ≡ true → out ≡ Found a ts
unit_last b a ts out before e =
    (let done : unit_step b a ts ≡ Done = rw (empty_is ts e) refl in continues_done (unit_step b) a ts out before done)

-- ---- a declaration behind its first declarator, where no function goes on

no_parameters : (b : Below) (ss : List Specifier) (d : DeclaratorTree) (function : Bool) (brace : Takes Span)
    (ts : List Token) → function ≡ false
    → external_from b ss d function brace ts
    ≡ then_read (declaration_behind b.exprs ss d ts) (λ x us. Found (DeclaredTree x) us)
no_parameters b ss d true brace ts e = absurd (let no : true ≡ false = e in cc)
no_parameters b ss d false None ts e = refl
no_parameters b ss d false (Some brace) ts e = refl

no_brace : (b : Below) (ss : List Specifier) (d : DeclaratorTree) (function : Bool) (brace : Takes Span)
    (ts : List Token) → is_some brace ≡ false
    → external_from b ss d function brace ts
    ≡ then_read (declaration_behind b.exprs ss d ts) (λ x us. Found (DeclaredTree x) us)
no_brace b ss d true None ts e = refl
no_brace b ss d false None ts e = refl
no_brace b ss d function (Some brace) ts e = absurd (let no : true ≡ false = e in cc)

external_is : (b : Below) (ts mid us : List Token) (items : List Specifier) (d : DeclaratorTree)
    → AreSpecifiers ts mid items → read_declarator b.exprs mid ≡ Found d us
    → read_external b ts ≡ external_behind b items d us
external_is b ts mid us items d specifiers reads = rw (specifiers.2, specifiers.3, reads) refl

-- the declarator is no function's
pub unlike_function : (b : Below) (ts mid us : List Token) (items : List Specifier) (d : DeclaratorTree) (e : ParseError)
    → AreSpecifiers ts mid items → read_declarator b.exprs mid ≡ Found d us → has_parameters d.part ≡ false
    → Refused (declaration_behind b.exprs items d us) e → Refused (read_external b ts) e
unlike_function b ts mid us items d e specifiers reads plain r =
    refused_so _ _ e (external_is b ts mid us items d specifiers reads
    ∙ no_parameters b items d (has_parameters d.part) (take_mark marks.LeftBrace us) us plain)
    (refused_then _ _ e r)

-- no block comes
pub without_block : (b : Below) (ts mid us : List Token) (items : List Specifier) (d : DeclaratorTree) (e : ParseError)
    → AreSpecifiers ts mid items → read_declarator b.exprs mid ≡ Found d us
    → is_some (take_mark marks.LeftBrace us) ≡ false
    → Refused (declaration_behind b.exprs items d us) e → Refused (read_external b ts) e
without_block b ts mid us items d e specifiers reads none r =
    refused_so _ _ e (external_is b ts mid us items d specifiers reads
    ∙ no_brace b items d (has_parameters d.part) (take_mark marks.LeftBrace us) us none)
    (refused_then _ _ e r)
