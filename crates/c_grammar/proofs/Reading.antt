-- Reading an expression from the front of a list of tokens, where its height may be at most so much.
use Rattle.std.proofs.Common.{◌≡◌, ℕ, zero, suc, ◌-◌, ◌<◌, List, ◌∷◌, Some, refl, ap, ◌∙◌, arith}
use Rattle.pcc_base.specs.declared.span.Span.{Span}
use Rattle.c_lex.specs.declared.token.Token.{Token}
use Rattle.c_lex.specs.declared.token.Punct.TheVariants as marks
use Rattle.c_syntax.specs.declared.expression.Specifier.{Specifier}
use Rattle.c_grammar.specs.Taking.{take_mark, take_specifiers}
use Rattle.c_grammar.specs.Chains.{Takes}
use Rattle.c_grammar.specs.Reading.{Readers, cast_from, cast_inside, cast_with, no_readers, read_assignment, read_binary, read_cast}
use Rattle.c_grammar.specs.Reading.{read_conditional, read_expression, read_infix, read_unary, readers, readers_over}

pub readers-none : readers 0 ≡ no_readers
unfolding readers
readers-none = refl

pub readers-suc : (height : ℕ) → readers (suc height) ≡ readers_over (suc height) (readers height)
unfolding readers
readers-suc height = refl

above_zero : (height : ℕ) → 0 < height → readers height ≡ readers_over height (readers (height - 1))
unfolding readers
above_zero zero h = absurd (omega arith)
above_zero (suc n) h = (let e : suc n - 1 ≡ n = omega arith in rw e refl)

-- the readers for a height above 0
pub readers_above : (height : ℕ) → 0 < height → readers height ≡ readers_over height (readers (height - 1))
readers_above = above_zero

level_above : (height : ℕ) (below : Readers) (k : ℕ) (ts : List Token) → 0 < k → read_binary height below k ts
    ≡ read_infix k height (read_binary height below (k - 1)) (below.binary (k - 1)) ts
level_above height below zero ts h = absurd (omega arith)
level_above height below (suc k) ts h = (let e : suc k - 1 ≡ k = omega arith in rw e refl)

-- a level above 0
pub read_binary_above : (height : ℕ) (below : Readers) (k : ℕ) (ts : List Token) → 0 < k → read_binary height below k ts
    ≡ read_infix k height (read_binary height below (k - 1)) (below.binary (k - 1)) ts
read_binary_above = level_above

-- ---- a reader for a height above 0

pub expression_above : (height : ℕ) (ts : List Token) → 0 < height → (readers height).expression ts
    ≡ read_expression height (readers (height - 1)) ts
expression_above height ts h = rw (readers_above height h) refl

pub assignment_above : (height : ℕ) (ts : List Token) → 0 < height → (readers height).assignment ts
    ≡ read_assignment height (readers (height - 1)) ts
assignment_above height ts h = rw (readers_above height h) refl

pub conditional_above : (height : ℕ) (ts : List Token) → 0 < height → (readers height).conditional ts
    ≡ read_conditional height (readers (height - 1)) ts
conditional_above height ts h = rw (readers_above height h) refl

pub binary_above : (height k : ℕ) (ts : List Token) → 0 < height → (readers height).binary k ts
    ≡ read_binary height (readers (height - 1)) k ts
binary_above height k ts h = rw (readers_above height h) refl

pub cast_above : (height : ℕ) (ts : List Token) → 0 < height → (readers height).cast ts
    ≡ read_cast height (readers (height - 1)) ts
cast_above height ts h = rw (readers_above height h) refl

pub unary_above : (height : ℕ) (ts : List Token) → 0 < height → (readers height).unary ts
    ≡ read_unary height (readers (height - 1)) ts
unary_above height ts h = rw (readers_above height h) refl

-- a cast, behind its `(` and with its specifiers
pub cast_reads : (height : ℕ) (below : Readers) (ts us vs : List Token) (o : Span) (s : Specifier) (ss : List Specifier)
    → take_mark marks.LeftParen ts ≡ Some (o, us) → take_specifiers us ≡ (s ∷ ss, vs) → read_cast height below ts
    ≡ cast_inside below o us
cast_reads height below ts us vs o s ss e f =
    ap (λ (t : Takes Span). cast_from height below t ts) e
    ∙ ap (λ (r : List Specifier × List Token). cast_with height below o r.0 us ts) f
