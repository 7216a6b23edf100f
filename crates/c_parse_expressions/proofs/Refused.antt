-- Where a reader fails, and what the turns of a loop read in all.
use Rattle.std.proofs.Common.{◌≡◌, Bool, List, Option, refl, ◌∙◌, sym, subst}
use Rattle.pcc_base.specs.declared.span.Span.{Span}
use Rattle.c_lex.specs.declared.token.Token.{Token}
use Rattle.c_grammar.specs.Chains.{Step, Done, Reads, Found, Faults, then_read, then_step}
use Rattle.c_grammar.proofs.Chains.{Continues, continues_done, continues_fails}
use Rattle.c_parse_expressions.specs.Places.{front_place}
use Rattle.c_parse_expressions.specs.Readings.{Refused, RefusedStep}
use Rattle.c_parse_expressions.specs.declared.parse_error.ParseError.{ParseError}
use Rattle.c_parse_expressions.specs.declared.parse_error.ParseError.TheVariants.{Fault, NoMemory}

-- a loop whose step is refused
pub refused_turn : {A : Type 0} (step : A → List Token → Step A) (a : A) (ts : List Token) (out : Reads A)
    (e : ParseError) → Continues step a ts out → RefusedStep (step a ts) e → Refused out e
refused_turn step a ts out (Fault deep at) c r = (r.0, continues_fails step a ts out deep r.0 c r.1, r.2)
refused_turn step a ts out NoMemory c r = tt

-- a loop whose step finds the end
pub last_turn : {A : Type 0} (step : A → List Token → Step A) (a b : A) (ts us : List Token) (out : Reads A)
    → Continues step a ts out → step a ts ≡ Done → b ≡ a → us ≡ ts → out ≡ Found b us
last_turn step a b ts us out c d e f = continues_done step a ts out c d ∙ (rw (e, f) refl)

-- where a first part is refused, so is the whole
pub refused_then : {A B : Type 0} (reads : Reads A) (f : A → List Token → Reads B) (e : ParseError) → Refused reads e
    → Refused (then_read reads f) e
refused_then reads f (Fault deep at) r = (r.0, rw r.1 refl, r.2)
refused_then reads f NoMemory r = tt

-- and so is the turn
pub refused_step : {A B : Type 0} (reads : Reads A) (f : A → List Token → Step B) (e : ParseError) → Refused reads e
    → RefusedStep (then_step reads f) e
refused_step reads f (Fault deep at) r = (r.0, rw r.1 refl, r.2)
refused_step reads f NoMemory r = tt

-- what is read otherwise
pub refused_so : {A : Type 0} (reads other : Reads A) (e : ParseError) → reads ≡ other → Refused other e
    → Refused reads e
refused_so reads other e same r = subst (λ x. Refused x e) (sym same) r

-- a fault before these tokens
pub refused_before : {A : Type 0} (reads : Reads A) (deep : Bool) (us : List Token) (at : Option Span) (e : ParseError)
    → reads ≡ Faults deep us → front_place us ≡ at → e ≡ Fault deep at → Refused reads e
refused_before reads deep us at e n p f =
    (let h : Refused reads (Fault deep at) = (us, n, p) in subst (λ x. Refused reads x) (sym f) h)
