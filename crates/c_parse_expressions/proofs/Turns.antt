-- What is read where no height is left, and one reader in place of another.
use Rattle.std.proofs.Common.{◌≡◌, ℕ, ◌-◌, ◌≤◌, List, [], ◌∷◌, Bool, true, false, Some, None, Ok, Err, Result}
use Rattle.std.proofs.Common.{is_some, refl, sym, ap, ◌∙◌, ◌<◌, length, subst, arith}
use Rattle.pcc_base.specs.declared.span.Span.{Span}
use Rattle.c_lex.specs.declared.token.Token.{Token}
use Rattle.c_lex.specs.declared.token.Punct.TheVariants as marks
use Rattle.c_syntax.specs.Expressions.{Expr}
use Rattle.c_grammar.specs.Chains.{Takes, Reads, Found, Faults, chained}
use Rattle.c_grammar.specs.Taking.{take_mark}
use Rattle.c_grammar.specs.Reading.{Readers, readers, no_reader, read_cast, cast_inside}
use Rattle.c_grammar.proofs.Reading.{readers-none, cast_reads}
use Rattle.c_grammar.specs.Reading.{Values, read_arguments, arguments_from, value_step}
use Rattle.c_grammar.proofs.Chains.{Continues, continues_start}
use Rattle.c_parse_expressions.specs.Places.{front_begins}
use Rattle.c_parse_expressions.specs.Readings.{Refused}
use Rattle.c_parse_expressions.specs.Fronts.{BeginsWithSpecifier}
use Rattle.c_parse_expressions.specs.declared.found.Found.{Found as Tree}
use Rattle.c_parse_expressions.specs.declared.parse_error.ParseError.{ParseError}
use Rattle.c_parse_expressions.specs.declared.expression.Rule.{Rule}
use Rattle.c_parse_expressions.specs.declared.expression.Rule.TheVariants as rules_of
use Rattle.c_parse_expressions.specs.ExpressionReadings.{IsReading, reader_of, below}

-- one reader in place of another
pub same_reading : (height : ℕ) (r s : List Token → Reads Expr) (old new : List Token) (result : Result Tree ParseError)
    → r old ≡ s old → IsReading height s old new result → IsReading height r old new result
same_reading height r s old new (Ok f) e p = (e ∙ p.0, p.1, p.2)
same_reading height r s old new (Err x) e p = subst (λ (y : Reads Expr). Refused y x) (sym e) p

none_at_zero : (rule : Rule) (ts : List Token) → reader_of rule (readers 0) ts ≡ no_reader ts
none_at_zero rules_of.Expression ts = rw readers-none refl
none_at_zero rules_of.Assignment ts = rw readers-none refl
none_at_zero rules_of.Conditional ts = rw readers-none refl
none_at_zero (rules_of.Binary k) ts = rw readers-none refl
none_at_zero rules_of.Cast ts = rw readers-none refl
none_at_zero rules_of.Unary ts = rw readers-none refl

-- below a node of height 1 nothing is read
pub none_below : (rule : Rule) (height : ℕ) (ts : List Token) → height ≡ 1 → reader_of rule (below height) ts ≡ no_reader ts
none_below rule height ts e = (let z : height - 1 ≡ 0 = omega arith in rw z (none_at_zero rule ts))

-- the fault where an expression has to come and none may be so low
pub no_reader_faults : (ts : List Token) → no_reader ts ≡ Faults (front_begins ts) ts
no_reader_faults [] = refl
no_reader_faults (t ∷ ts) = refl

arguments_without : (b : Readers) (close : Takes Span) (ts : List Token) (deep : Bool) (us : List Token)
    → is_some close ≡ false → b.assignment ts ≡ Faults deep us → arguments_from b close ts ≡ Faults deep us
arguments_without b None ts deep us e n = rw n refl
arguments_without b (Some close) ts deep us e n = absurd (let no : true ≡ false = e in cc)

-- no arguments are read where no height is left for them and none are closed
pub no_arguments : (height : ℕ) (ts : List Token) → height ≡ 1 → is_some (take_mark marks.RightParen ts) ≡ false
    → read_arguments (below height) ts ≡ Faults (front_begins ts) ts
no_arguments height ts e f = arguments_without (below height) (take_mark marks.RightParen ts) ts _ _ f
    (none_below rules_of.Assignment height ts e ∙ no_reader_faults ts)

begun_with : (b : Readers) (close : Takes Span) (ts us : List Token) (x : Expr) → is_some close ≡ false
    → b.assignment ts ≡ Found x us → Continues (value_step b) (x ∷ [], []) us (arguments_from b close ts)
begun_with b (Some close) ts us x e r = absurd (let no : true ≡ false = e in cc)
begun_with b None ts us x e r =
    (let k : chained (value_step b) (x ∷ [], []) us ≡ arguments_from b None ts = rw r refl in
    subst (λ out. Continues (value_step b) (x ∷ [], []) us out) k (continues_start (value_step b) (x ∷ [], []) us))

-- the first argument, where no `)` comes at once
pub arguments_begun : (b : Readers) (ts us : List Token) (x : Expr) (vs : Values)
    → is_some (take_mark marks.RightParen ts) ≡ false → b.assignment ts ≡ Found x us → vs ≡ (x ∷ [], [])
    → Continues (value_step b) vs us (read_arguments b ts)
arguments_begun b ts us x vs e r v =
    subst (λ ws. Continues (value_step b) ws us (read_arguments b ts)) (sym v)
    (begun_with b (take_mark marks.RightParen ts) ts us x e r)

-- the readers for what stands below a node
pub below_is : (height lower : ℕ) → lower ≡ height - 1 → below height ≡ readers lower
below_is height lower e = ap readers (sym e)

pub at_most : (m n : ℕ) → m < n → m ≤ n
at_most m n less = omega arith

-- a cast, behind its `(`
pub cast_is : (height : ℕ) (b : Readers) (ts us : List Token) (o : Span) → take_mark marks.LeftParen ts ≡ Some (o, us)
    → BeginsWithSpecifier us → read_cast height b ts ≡ cast_inside b o us
cast_is height b ts us o f s = cast_reads height b ts us s.2 o s.0 s.1 f s.3

-- what is read behind a first token
pub reading_behind : (height : ℕ) (r s : List Token → Reads Expr) (old mid new : List Token)
    (result : Result Tree ParseError) → r old ≡ s mid → length mid < length old → IsReading height s mid new result
    → IsReading height r old new result
reading_behind height r s old mid new (Ok f) e l p = (e ∙ p.0, omega (arith, l, p.1), p.2)
reading_behind height r s old mid new (Err x) e l p = subst (λ (y : Reads Expr). Refused y x) (sym e) p
