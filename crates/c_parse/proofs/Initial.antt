-- What is read of an initial value, and what the turns over values in braces read in all.
use Rattle.std.proofs.Common.{◌≡◌, ◌<◌, ◌-◌, ℕ, List, length, true, Some, None, refl, ap, sym, ◌∙◌}
use Rattle.pcc_base.specs.declared.span.Span.{Span}
use Rattle.c_lex.specs.declared.token.Token.{Token}
use Rattle.c_lex.specs.declared.token.Punct.TheVariants as marks
use Rattle.c_syntax.specs.Marks.{mark}
use Rattle.c_syntax.specs.Declarations.{InitialiserTree}
use Rattle.c_grammar.specs.Chains.{Goes, Done, Reads, Found, then_read}
use Rattle.c_grammar.proofs.Chains.{Continues, continues_goes, continues_done}
use Rattle.c_grammar.specs.Taking.{take_mark}
use Rattle.c_grammar.specs.Reading.{Readers, Values, readers}
use Rattle.c_grammar.specs.DeclarationReading.{Braced, brace_step, read_initialiser, value_from}
use Rattle.c_parse_expressions.specs.Readings.{Refused}
use Rattle.c_parse_expressions.specs.ExpressionReadings.{below}
use Rattle.c_parse_expressions.specs.declared.parse_error.ParseError.{ParseError}
use Rattle.c_parse_expressions.specs.declared.parse_error.ParseError.TheVariants.{Fault}
use Rattle.c_parse_expressions.proofs.Refused.{refused_then, refused_so}
use Rattle.c_parse.proofs.Below.{no_room, has_room, refused_deep}

-- an initial value below a node of height 1
pub value_low : (height : ℕ) (ts us : List Token) (equal : Span) (e : ParseError) → height ≡ 1
    → take_mark marks.Equal ts ≡ Some (equal, us) → e ≡ Fault true (Some equal)
    → Refused (value_from (below height) (take_mark marks.Equal ts) ts) e
value_low height ts us equal e h taken is =
    refused_so _ (value_from (below height) (Some (equal, us)) ts) e
    (ap (λ taken. value_from (below height) taken ts) taken)
    (refused_deep _ _ _ _ e (no_room height (mark marks.Equal equal) us _ h) is)

value_is : (height lower : ℕ) (ts us : List Token) (equal : Span) → lower ≡ height - 1 → 0 < lower
    → take_mark marks.Equal ts ≡ Some (equal, us)
    → value_from (below height) (take_mark marks.Equal ts) ts
    ≡ then_read (read_initialiser (readers lower) us)
    (λ v vs. Found (Some (record { equal = equal; value = v })) vs)
value_is height lower ts us equal e h taken =
    ap (λ taken. value_from (below height) taken ts) taken
    ∙ (ap (λ n. value_from (readers n) (Some (equal, us)) ts) (sym e)
    ∙ (let roomy = has_room lower (mark marks.Equal equal) us (read_initialiser (readers lower) us) h in rw roomy refl))

-- one that is refused
pub value_refused : (height lower : ℕ) (ts us : List Token) (equal : Span) (e : ParseError) → lower ≡ height - 1
    → 0 < lower → take_mark marks.Equal ts ≡ Some (equal, us) → Refused (read_initialiser (readers lower) us) e
    → Refused (value_from (below height) (take_mark marks.Equal ts) ts) e
value_refused height lower ts us equal e l h taken r =
    refused_so _ _ e (value_is height lower ts us equal l h taken) (refused_then _ _ e r)

-- one that is read
pub value_read : (height lower : ℕ) (ts us vs : List Token) (equal : Span) (v : InitialiserTree) → lower ≡ height - 1
    → 0 < lower → take_mark marks.Equal ts ≡ Some (equal, us) → read_initialiser (readers lower) us ≡ Found v vs
    → value_from (below height) (take_mark marks.Equal ts) ts ≡ Found (Some (record { equal = equal; value = v })) vs
value_read height lower ts us vs equal v l h taken r =
    value_is height lower ts us equal l h taken ∙ (rw r refl)

-- ---- values in braces

-- the comma that is the last
pub braces_trailing : (b : Readers) (a : Braced) (v : Values) (comma : Span) (ts us : List Token) (out : Reads Braced)
    → Continues (brace_step b) a ts out → brace_step b a ts ≡ Goes (v, Some comma) us → length us < length ts
    → out ≡ Found (v, Some comma) us
braces_trailing b a v comma ts us out before goes less =
    continues_done (brace_step b) (v, Some comma) us out
    (continues_goes (brace_step b) a (v, Some comma) ts us out before goes less) refl

-- no comma
pub braces_last : (b : Readers) (was v : Values) (ts us : List Token) (out : Reads Braced)
    → Continues (brace_step b) (was, None) ts out → brace_step b (was, None) ts ≡ Done → v ≡ was → us ≡ ts
    → out ≡ Found (v, None) us
braces_last b was v ts us out before done same stays =
    continues_done (brace_step b) (was, None) ts out before done ∙ (rw (same, stays) refl)
