-- The levels of operators: one that has no operator here is passed over.
use Rattle.std.proofs.Common.{◌≡◌, ◌<◌, ◌≤◌, ◌+◌, ◌-◌, ℕ, zero, suc, List, None, ◌∙◌, ap, subst, arith}
use Rattle.c_lex.specs.declared.token.Token.{Token}
use Rattle.c_syntax.specs.Expressions.{Expr}
use Rattle.c_grammar.specs.Chains.{Done, Reads, Found, chained, then_read}
use Rattle.c_grammar.specs.Taking.{take_binary}
use Rattle.c_grammar.specs.Reading.{Readers, read_binary, infix_step, infix_from}
use Rattle.c_grammar.proofs.Chains.{continues_from, continues_done}
use Rattle.c_grammar.proofs.Reading.{read_binary_above}
use Rattle.c_parse_expressions.specs.Readings.{Refused}
use Rattle.c_parse_expressions.specs.declared.parse_error.ParseError.{ParseError}
use Rattle.c_parse_expressions.proofs.Refused.{refused_then}

-- a level more, where no operator of it comes
level_passed : (height : ℕ) (b : Readers) (k : ℕ) (ts us : List Token) (e : Expr)
    → read_binary height b k ts ≡ Found e us → take_binary (suc k) us ≡ None
    → read_binary height b (suc k) ts ≡ Found e us
level_passed height b k ts us e reads none =
    let done : infix_step (suc k) height (b.binary k) e us ≡ Done = ap (infix_from height (b.binary k) e) none in
    continues_done (infix_step (suc k) height (b.binary k)) e us _
    (continues_from (infix_step (suc k) height (b.binary k)) (read_binary height b k ts) e us reads) done

-- and several levels more
pub levels_passed : (height : ℕ) (b : Readers) (d m n : ℕ) (ts us : List Token) (e : Expr) → n ≡ m + d
    → read_binary height b m ts ≡ Found e us → ((k : ℕ) → m < k → k ≤ n → take_binary k us ≡ None)
    → read_binary height b n ts ≡ Found e us
levels_passed height b zero m n ts us e is reads none =
    let same : m ≡ n = omega arith in subst (λ x. read_binary height b x ts ≡ Found e us) same reads
levels_passed height b (suc d) m n ts us e is reads none =
    levels_passed height b d (suc m) n ts us e (omega arith)
    (level_passed height b m ts us e reads (none (suc m) (omega arith) (omega arith)))
    (λ k low high. none k (omega arith) high)

-- a level above those that are passed over: its operators come
pub level_reads : (height : ℕ) (b : Readers) (was k : ℕ) (ts us : List Token) (e : Expr) → was < k
    → read_binary height b was ts ≡ Found e us → ((j : ℕ) → was < j → j < k → take_binary j us ≡ None)
    → read_binary height b k ts ≡ chained (infix_step k height (b.binary (k - 1))) e us
level_reads height b was k ts us e less reads none =
    let before : read_binary height b (k - 1) ts ≡ Found e us =
    levels_passed height b (k - 1 - was) was (k - 1) ts us e (omega arith) reads
    (λ j low high. none j low (omega arith)) in
    read_binary_above height b k ts (omega arith)
    ∙ ap (λ (r : Reads Expr). then_read r (chained (infix_step k height (b.binary (k - 1))))) before

-- where a level is refused, so is the next
level_refused : (height : ℕ) (b : Readers) (k : ℕ) (ts : List Token) (e : ParseError)
    → Refused (read_binary height b k ts) e → Refused (read_binary height b (suc k) ts) e
level_refused height b k ts e r =
    refused_then (read_binary height b k ts) (chained (infix_step (suc k) height (b.binary k))) e r

-- and each above
pub levels_refused : (height : ℕ) (b : Readers) (d m n : ℕ) (ts : List Token) (e : ParseError) → n ≡ m + d
    → Refused (read_binary height b m ts) e → Refused (read_binary height b n ts) e
levels_refused height b zero m n ts e is r =
    let same : m ≡ n = omega arith in subst (λ x. Refused (read_binary height b x ts) e) same r
levels_refused height b (suc d) m n ts e is r =
    levels_refused height b d (suc m) n ts e (omega arith) (level_refused height b m ts e r)
