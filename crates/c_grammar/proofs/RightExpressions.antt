-- What was taken of an expression before a fault begins a tree of the rule, of at most that height.
use Rattle.std.proofs.Common.{◌≡◌, ℕ, zero, suc, ◌+◌, ◌≤◌, ◌<◌, inl, inr, pos, Bool, true, false, List, [], ◌∷◌, ◌++◌}
use Rattle.std.proofs.Common.{length}
use Rattle.std.proofs.Common.{Some, None, ltb, leb, if◌then◌else◌, refl, ap, sym, ◌∙◌, subst, arith}
use Rattle.std.proofs.lemmas.Bool.{ltb-true, leb-true}
use Rattle.std.proofs.lemmas.List.{append-nil}
use Rattle.pcc_base.specs.declared.span.Span.{Span}
use Rattle.c_lex.specs.declared.token.Token.{Token}
use Rattle.c_lex.specs.declared.token.TokenKind.{TokenKind}
use Rattle.c_lex.specs.declared.token.TokenKind.TheVariants as kinds
use Rattle.c_lex.specs.declared.token.Punct.TheVariants as marks
use Rattle.c_syntax.specs.declared.operator.BinaryOp.{BinaryOp}
use Rattle.c_syntax.specs.declared.operator.UnaryOp.{UnaryOp}
use Rattle.c_syntax.specs.declared.operator.StepOp.{StepOp}
use Rattle.c_syntax.specs.declared.operator.AssignOp.{AssignOp}
use Rattle.c_syntax.specs.declared.expression.Identifier.{Identifier as Ident}
use Rattle.c_syntax.specs.declared.expression.Specifier.{Specifier}
use Rattle.c_syntax.specs.Marks.{ident, mark, binary_mark, unary_mark, step_mark, assign_mark}
use Rattle.c_syntax.specs.Expressions.{Expr, exprs_of, Number, Parenthesised, Call, Index, Prefix, Unary, Cast, Binary}
use Rattle.c_syntax.specs.Expressions.{Conditional, Assignment}
use Rattle.c_syntax.specs.ExpressionTokens.{expr_tokens, exprs_tokens, specifiers_tokens, pointer_tokens}
use Rattle.c_syntax.specs.ExpressionTokens.{expr_height, exprs_height, looseness, IsExpr, AreValues, Separate}
use Rattle.c_syntax.specs.ExpressionTokens.{IsSpecifiers, binary_level}
use Rattle.c_grammar.specs.Taking.{is_mark, take_mark, take_unary, take_step, take_assign, take_binary}
use Rattle.c_grammar.specs.Taking.{take_specifiers, take_pointer}
use Rattle.c_grammar.specs.Chains.{Takes, Reads, Found, Faults, chained}
use Rattle.c_grammar.specs.Reading.{Reader, Readers, Values, readers, no_reader, readers_over, value_at}
use Rattle.c_grammar.specs.Reading.{value_step}
use Rattle.c_grammar.specs.Reading.{arguments_from, read_arguments, call_from, parenthesised_from, primary_at}
use Rattle.c_grammar.specs.Reading.{read_primary, postfix_from, suffix_from, suffix_step, read_postfix, unary_from}
use Rattle.c_grammar.specs.Reading.{prefix_from, read_unary, cast_behind, cast_inside, cast_with, cast_from}
use Rattle.c_grammar.specs.Reading.{read_cast}
use Rattle.c_grammar.specs.Reading.{infix_from, infix_step, read_infix, read_binary, conditional_from}
use Rattle.c_grammar.specs.Reading.{read_conditional, assignment_from, read_assignment, read_expression}
use Rattle.c_grammar.proofs.Reading.{readers-none, readers-suc}
use Rattle.c_grammar.proofs.Sound.{HoldsTaken, mark_is, mark_taken, unary_taken, step_taken}
use Rattle.c_grammar.proofs.Sound.{assign_taken, binary_taken, specifiers_taken, pointer_taken, Sound, SoundReader}
use Rattle.c_grammar.proofs.Sound.{SoundReaders, SoundValues, SoundArguments, looser, values_push, sound_value}
use Rattle.c_grammar.proofs.Sound.{first_value, sound_arguments, sound_primary, sound_suffix, sound_binary}
use Rattle.c_grammar.proofs.Sound.{sound_conditional, sound_assignment, sound, sound_turn}
use Rattle.c_grammar.proofs.Complete.{height_above}
use Rattle.c_grammar.proofs.Right.{s_here, s_all, s_cons, s_left, s_app, s_eq, s_to, Begun, Starts, here}
use Rattle.c_grammar.proofs.Right.{Falls, FallsStep, falls_map, falls_then, step_falls_then, falls_above}
use Rattle.c_grammar.proofs.Right.{step_falls_above, falls_if, falls_mark, step_falls_mark, falls_chain}

-- a tree of a rule, so high at most
abbrev pub IsLow : ℕ → ℕ → Expr → Type 0
IsLow c h t = IsExpr t × (looseness t ≤ c) × (expr_height t ≤ h)

abbrev pub ExprBegun : ℕ → ℕ → List Token → List Token → Type 0
ExprBegun c h ts us = Begun expr_tokens (IsLow c h) ts us

abbrev pub ExprStarts : ℕ → ℕ → List Token → List Token → Type 0
ExprStarts c h ts us = Starts expr_tokens (IsLow c h) ts us

abbrev pub RightReader : ℕ → ℕ → Reader → Type 0
RightReader c h reader = (ts : List Token) → Falls (ExprStarts c h ts) (reader ts)

pub record RightReaders (h : ℕ) (b : Readers) : Type 0 where
  pub height : b.height ≡ h
  pub expression : RightReader 16 h b.expression
  pub assignment : RightReader 15 h b.assignment
  pub conditional : RightReader 14 h b.conditional
  pub binary : (k : ℕ) → k ≤ 10 → RightReader (k + 3) h (b.binary k)
  pub cast : RightReader 3 h b.cast
  pub unary : RightReader 2 h b.unary

-- the least tree
abbrev pub one : Expr
one = Number (pos 1) here

-- nothing was taken
pub none : (c n : ℕ) (ts us : List Token) → ts ≡ us → ExprBegun c (suc n) ts us
none c n ts us e = (one, s_here e, (tt, omega arith, omega arith))

-- where something may be so high
pub begun : (c h : ℕ) (ts us : List Token) → 1 ≤ h → ExprStarts c h ts us → ExprBegun c h ts us
begun c h ts us some (inl e) = (one, s_here e, (tt, omega arith, some))
begun c h ts us some (inr g) = g

looser_begun : (c d h : ℕ) (ts us : List Token) → c ≤ d → ExprBegun c h ts us → ExprBegun d h ts us
looser_begun c d h ts us le (t, swap, (is, loose, low)) = (t, swap, (is, omega (arith, le, loose), low))

looser_falls : (c d h : ℕ) (ts : List Token) (r : Reads Expr) → c ≤ d → Falls (ExprBegun c h ts) r
    → Falls (ExprBegun d h ts) r
looser_falls c d h ts r le f = falls_map (ExprBegun c h ts) (ExprBegun d h ts) r
    (λ us g. looser_begun c d h ts us le g) f

-- what is read so far stands before the rest
so_far : (c h : ℕ) (ts : List Token) (t : Expr) (us vs : List Token) → Sound c h ts t us → us ≡ vs
    → ExprBegun c h ts vs
so_far c h ts t us vs s e = (t, s_all (s.tokens ∙ ap (λ zs. expr_tokens t ++ zs) e), (s.is, s.loose, s.low))

-- ---- values with commas

abbrev pub AreLow : ℕ → Values → Type 0
AreLow h values = AreValues (exprs_of values.0) × Separate (exprs_of values.0) values.1
    × (exprs_height (exprs_of values.0) ≤ h)

abbrev pub SomeLow : ℕ → Values → Type 0
SomeLow h values = AreLow h values × (1 ≤ length values.0)

abbrev pub values_tokens : Values → List Token
values_tokens values = exprs_tokens (exprs_of values.0) values.1

abbrev pub SomeBegun : ℕ → List Token → List Token → Type 0
SomeBegun h ts us = Begun values_tokens (SomeLow h) ts us

pub values_some : (es : List Expr) → 1 ≤ length es → 1 ≤ exprs_height (exprs_of es)
values_some [] some = absurd (omega arith)
values_some (e ∷ es) some = omega (arith, height_above e)

-- one more value begins behind a comma
pub push_begun : (h : ℕ) (ts : List Token) (es : List Expr) (commas : List Span) (us vs zs : List Token) (at : Span)
    → SoundValues h ts (es, commas) us → us ≡ mark marks.Comma at ∷ vs → ExprBegun 15 h vs zs → SomeBegun h ts zs
push_begun h ts es commas us vs zs at s f (e, swap, (is, loose, low)) =
    (let full : List Token = exprs_tokens (exprs_of es) commas in
    let tail : List Token = expr_tokens e ++ [] in
    let old : SoundValues h (full ++ mark marks.Comma at ∷ tail) (es, commas) (mark marks.Comma at ∷ tail) =
    record { tokens = refl; are = s.are; apart = s.apart; low = s.low; some = s.some } in
    let next : Sound 15 h tail e [] = record { tokens = refl; is = is; loose = loose; low = low } in
    let g = values_push h (full ++ mark marks.Comma at ∷ tail) es commas (mark marks.Comma at ∷ tail) tail [] at e old
    refl next in (
      (es ++ e ∷ [], commas ++ at ∷ []),
      s_to (g.tokens ∙ append-nil (exprs_tokens (exprs_of (es ++ e ∷ [])) (commas ++ at ∷ [])))
          (s_eq s.tokens (s_left full (s_eq f (s_cons (s_app [] swap))))),
      ((g.are, g.apart, g.low), g.some),
    ))

pub value_falls : (n : ℕ) (b : Readers) → SoundReaders n b → RightReaders n b → (ts : List Token) (a : Values)
    (us : List Token) → SoundValues n ts a us → FallsStep (SomeBegun n ts) (value_step b a us)
value_falls n b sb r ts a us s = under (take_mark marks.Comma us) (mark_taken marks.Comma us)
  where
    under : (o : Takes Span) → HoldsTaken (λ at vs. us ≡ mark marks.Comma at ∷ vs) o
        → FallsStep (SomeBegun n ts) (value_at b a o)
    under None h = tt
    under (Some (at, vs)) h =
        step_falls_then (Sound 15 n vs) (ExprStarts 15 n vs) (SomeBegun n ts) (b.assignment vs) _ (sb.assignment vs)
        (r.assignment vs)
        (λ zs g. push_begun n ts a.0 a.1 us vs zs at s h
        (begun 15 n vs zs (omega (arith, values_some a.0 s.some, s.low)) g)) (λ e ws g. tt)

pub values_so_far : (h : ℕ) (ts : List Token) (a : Values) (us : List Token) → SoundValues h ts a us → SomeBegun h ts us
values_so_far h ts a us s = (a, s_all s.tokens, ((s.are, s.apart, s.low), s.some))

abbrev ValuesBegun : ℕ → List Token → List Token → Type 0
ValuesBegun h ts us = Begun values_tokens (AreLow h) ts us

right_arguments : (n : ℕ) (b : Readers) → SoundReaders n b → RightReaders n b → (ts : List Token)
    → Falls (ValuesBegun n ts) (read_arguments b ts)
right_arguments n b sb r ts = under (take_mark marks.RightParen ts)
  where
    first : (us : List Token) → ExprStarts 15 n ts us → ValuesBegun n ts us
    first us (inl e) = (([], []), s_here e, (tt, refl, omega arith))
    first us (inr (e, swap, (is, loose, low))) =
        ((e ∷ [], []), s_app [] swap, ((is, loose, tt), refl, omega (arith, low)))

    under : (o : Takes Span) → Falls (ValuesBegun n ts) (arguments_from b o ts)
    under (Some close) = tt
    under None =
        falls_then (Sound 15 n ts) (ExprStarts 15 n ts) (ValuesBegun n ts) (b.assignment ts) _ (sb.assignment ts)
        (r.assignment ts) first (λ e us s.
        falls_map (SomeBegun n ts) (ValuesBegun n ts) (chained (value_step b) (e ∷ [], []) us)
        (λ vs (values, swap, (low, some)). (values, swap, low))
        (falls_chain (SoundValues n ts) (SomeBegun n ts) (value_step b) (λ a vs g. sound_value n b sb ts a vs g)
        (λ a vs g. value_falls n b sb r ts a vs g) (λ a vs g. values_so_far n ts a vs g) (length us) (e ∷ [], []) us
        (first_value n ts e us s)))

-- ---- primary

right_call : (n : ℕ) (b : Readers) → SoundReaders n b → RightReaders n b → (f : Ident) (ts : List Token)
    → Falls (ExprBegun 0 (suc n) (ident f.name f.at ∷ ts)) (call_from b f (take_mark marks.LeftParen ts) ts)
right_call n b sb r f ts = under (take_mark marks.LeftParen ts) (mark_taken marks.LeftParen ts)
  where
    under : (o : Takes Span) → HoldsTaken (λ at us. ts ≡ mark marks.LeftParen at ∷ us) o
        → Falls (ExprBegun 0 (suc n) (ident f.name f.at ∷ ts)) (call_from b f o ts)
    under None h = tt
    under (Some (o, us)) h =
        falls_then (SoundArguments n us) (ValuesBegun n us) (ExprBegun 0 (suc n) (ident f.name f.at ∷ ts))
        (read_arguments b us) _ (sound_arguments n b sb us) (right_arguments n b sb r us)
        (λ vs (values, swap, (are, apart, low)). (
          Call f o (exprs_of values.0) values.1 here,
          s_cons (s_eq h (s_cons (s_app (mark marks.RightParen here ∷ []) swap))),
          ((are, apart), omega arith, omega (arith, low)),
        ))
        (λ values vs s.
        falls_mark (ExprBegun 0 (suc n) (ident f.name f.at ∷ ts)) marks.RightParen vs _ (
          Call f o (exprs_of values.0) values.1 here,
          s_cons (s_eq h (s_cons (s_eq s.tokens (s_left (values_tokens values) (s_here refl))))),
          ((s.are, s.apart), omega arith, omega (arith, s.low)),
        )
        (λ c ws g. tt))

right_parens : (n : ℕ) (b : Readers) → SoundReaders n b → RightReaders n b → (o : Span) (ts : List Token)
    → Falls (ExprBegun 0 (suc n) (mark marks.LeftParen o ∷ ts)) (parenthesised_from b o ts)
right_parens n b sb r o ts =
    falls_above (Sound 16 n ts) (ExprStarts 16 n ts) (ExprBegun 0 (suc n) (mark marks.LeftParen o ∷ ts)) 0 b.height
    (mark marks.LeftParen o) ts (b.expression ts) _ (none 0 n _ _ refl) (sb.expression ts) (r.expression ts)
    (λ us some g. inside us (begun 16 n ts us (omega (arith, some, r.height)) g))
    (λ e us some s.
    falls_mark (ExprBegun 0 (suc n) (mark marks.LeftParen o ∷ ts)) marks.RightParen us _ (
      Parenthesised o e here,
      s_cons (s_eq s.tokens (s_left (expr_tokens e) (s_here refl))),
      (s.is, omega arith, omega (arith, s.low)),
    )
    (λ c vs k. tt))
  where
    inside : (us : List Token) → ExprBegun 16 n ts us → ExprBegun 0 (suc n) (mark marks.LeftParen o ∷ ts) us
    inside us (e, swap, (is, loose, low)) = (
      Parenthesised o e here,
      s_cons (s_app (mark marks.RightParen here ∷ []) swap),
      (is, omega arith, omega (arith, low)),
    )

right_at : (n : ℕ) (b : Readers) → SoundReaders n b → RightReaders n b → (kind : TokenKind) (at : Span)
    (ts : List Token)
    → (let x : Token = record { kind = kind; at = at } in
    Falls (ExprBegun 0 (suc n) (x ∷ ts)) (primary_at b kind at ts))
right_at n b sb r (kinds.Ident name) at ts = right_call n b sb r (record { name = name; at = at }) ts
right_at n b sb r (kinds.Number value true) at ts = none 0 n _ _ refl
right_at n b sb r (kinds.Number value false) at ts = tt
right_at n b sb r (kinds.Text bytes) at ts = tt
right_at n b sb r (kinds.Mark m) at ts =
    falls_if (ExprBegun 0 (suc n) (mark m at ∷ ts)) (is_mark marks.LeftParen (kinds.Mark m)) false (mark m at ∷ ts)
    (parenthesised_from b at ts)
    (λ e.
    (let P : TokenKind → Type 0 = λ k. (let x : Token = record { kind = k; at = at } in
    Falls (ExprBegun 0 (suc n) (x ∷ ts)) (parenthesised_from b at ts)) in
    subst P (sym (mark_is marks.LeftParen (kinds.Mark m) e)) (right_parens n b sb r at ts)))
    (none 0 n _ _ refl)
right_at n b sb r (kinds.Word w) at ts = none 0 n _ _ refl

right_primary : (n : ℕ) (b : Readers) → SoundReaders n b → RightReaders n b → (ts : List Token)
    → Falls (ExprBegun 0 (suc n) ts) (read_primary b ts)
right_primary n b sb r [] = none 0 n _ _ refl
right_primary n b sb r (t ∷ ts) = right_at n b sb r t.kind t.at ts

-- ---- postfix

right_suffix : (n : ℕ) (b : Readers) → SoundReaders n b → RightReaders n b → (ts : List Token) (base : Expr)
    (us : List Token) → Sound 1 (suc n) ts base us → FallsStep (ExprBegun 1 (suc n) ts) (suffix_step (suc n) b base us)
right_suffix n b sb r ts base us s = under (take_mark marks.LeftBracket us) (mark_taken marks.LeftBracket us)
  where
    steps : (o : Takes (StepOp × Span)) → HoldsTaken (λ a vs. us ≡ mark (step_mark a.0) a.1 ∷ vs) o
        → FallsStep (ExprBegun 1 (suc n) ts) (postfix_from (suc n) base o)
    steps None h = tt
    steps (Some (op, vs)) h =
        step_falls_above (λ (_ : StepOp × Span) ws. vs ≡ ws) (λ ws. ⊥) (ExprBegun 1 (suc n) ts) (expr_height base)
        (suc n) (mark (step_mark op.0) op.1) vs (Found op vs) _ (so_far 1 (suc n) ts base us _ s h) refl tt
        (λ ws e f. absurd f) (λ x ws e k. tt)

    indexed : (o : Span) (vs : List Token) → us ≡ mark marks.LeftBracket o ∷ vs → (ws : List Token)
        → expr_height base < suc n → ExprBegun 16 n vs ws → ExprBegun 1 (suc n) ts ws
    indexed o vs h ws e (i, swap, (is, loose, low)) = (
      Index base o i here,
      s_eq s.tokens (s_left (expr_tokens base) (s_eq h (s_cons (s_app (mark marks.RightBracket here ∷ []) swap)))),
      ((s.is, s.loose, is), omega arith, omega (arith, e, low)),
    )

    under : (o : Takes Span) → HoldsTaken (λ at vs. us ≡ mark marks.LeftBracket at ∷ vs) o
        → FallsStep (ExprBegun 1 (suc n) ts) (suffix_from (suc n) b base o us)
    under None h = steps (take_step us) (step_taken us)
    under (Some (o, vs)) h =
        step_falls_above (Sound 16 n vs) (ExprStarts 16 n vs) (ExprBegun 1 (suc n) ts) (expr_height base) (suc n)
        (mark marks.LeftBracket o) vs (b.expression vs) _ (so_far 1 (suc n) ts base us _ s h) (sb.expression vs)
        (r.expression vs)
        (λ ws e g. indexed o vs h ws e (begun 16 n vs ws (omega (arith, e, height_above base)) g)) (λ i ws e g.
        step_falls_mark (ExprBegun 1 (suc n) ts) marks.RightBracket ws _
        (indexed o vs h ws e (so_far 16 n vs i ws ws g refl)) (λ c xs k. tt))

right_postfix : (n : ℕ) (b : Readers) → SoundReaders n b → RightReaders n b → (ts : List Token)
    → Falls (ExprBegun 1 (suc n) ts) (read_postfix (suc n) b ts)
right_postfix n b sb r ts =
    falls_then (Sound 0 (suc n) ts) (ExprBegun 0 (suc n) ts) (ExprBegun 1 (suc n) ts) (read_primary b ts) _
    (sound_primary n b sb ts) (right_primary n b sb r ts) (λ us g. looser_begun 0 1 (suc n) ts us (omega arith) g)
    (λ e us s.
    falls_chain (Sound 1 (suc n) ts) (ExprBegun 1 (suc n) ts) (suffix_step (suc n) b)
    (λ a vs g. sound_suffix n b sb ts a vs g) (λ a vs g. right_suffix n b sb r ts a vs g)
    (λ a vs g. so_far 1 (suc n) ts a vs vs g refl) (length us) e us (looser 0 1 (suc n) ts e us (omega arith) s))

-- ---- unary and cast

right_unary : (n : ℕ) (b : Readers) → SoundReaders n b → RightReaders n b → (ts : List Token)
    → Falls (ExprBegun 2 (suc n) ts) (read_unary (suc n) b ts)
right_unary n b sb r ts = steps (take_step ts) (step_taken ts)
  where
    unaries : (o : Takes (UnaryOp × Span)) → HoldsTaken (λ a us. ts ≡ mark (unary_mark a.0) a.1 ∷ us) o
        → Falls (ExprBegun 2 (suc n) ts) (unary_from (suc n) b o ts)
    unaries None h = looser_falls 1 2 (suc n) ts (read_postfix (suc n) b ts) (omega arith) (right_postfix n b sb r ts)
    unaries (Some (op, us)) h =
        falls_above (Sound 3 n us) (ExprStarts 3 n us) (ExprBegun 2 (suc n) ts) 0 b.height
        (mark (unary_mark op.0) op.1) us (b.cast us) _ (none 2 n _ _ h) (sb.cast us) (r.cast us)
        (λ vs some g. inside vs (begun 3 n us vs (omega (arith, some, r.height)) g)) (λ e vs some s. tt)
      where
        inside : (vs : List Token) → ExprBegun 3 n us vs → ExprBegun 2 (suc n) ts vs
        inside vs (e, swap, (is, loose, low)) =
            (Unary op.0 op.1 e, s_eq h (s_cons swap), ((is, loose), omega arith, omega (arith, low)))

    steps : (o : Takes (StepOp × Span)) → HoldsTaken (λ a us. ts ≡ mark (step_mark a.0) a.1 ∷ us) o
        → Falls (ExprBegun 2 (suc n) ts) (prefix_from (suc n) b o ts)
    steps None h = unaries (take_unary ts) (unary_taken ts)
    steps (Some (op, us)) h =
        falls_above (Sound 2 n us) (ExprStarts 2 n us) (ExprBegun 2 (suc n) ts) 0 b.height
        (mark (step_mark op.0) op.1) us (b.unary us) _ (none 2 n _ _ h) (sb.unary us) (r.unary us)
        (λ vs some g. inside vs (begun 2 n us vs (omega (arith, some, r.height)) g)) (λ e vs some s. tt)
      where
        inside : (vs : List Token) → ExprBegun 2 n us vs → ExprBegun 2 (suc n) ts vs
        inside vs (e, swap, (is, loose, low)) =
            (Prefix op.0 op.1 e, s_eq h (s_cons swap), ((is, loose), omega arith, omega (arith, low)))

right_cast : (n : ℕ) (b : Readers) → SoundReaders n b → RightReaders n b → (ts : List Token)
    → Falls (ExprBegun 3 (suc n) ts) (read_cast (suc n) b ts)
right_cast n b sb r ts = under (take_mark marks.LeftParen ts) (mark_taken marks.LeftParen ts)
  where
    plain : Falls (ExprBegun 3 (suc n) ts) (read_unary (suc n) b ts)
    plain = looser_falls 2 3 (suc n) ts (read_unary (suc n) b ts) (omega arith) (right_unary n b sb r ts)

    -- the operand begins behind a `)`
    ends : (o : Span) (us : List Token) (ss : List Specifier) (vs : List Token) → ts ≡ mark marks.LeftParen o ∷ us
        → us ≡ specifiers_tokens ss ++ vs → IsSpecifiers ss → (c : Span) (ws : List Token)
        → (take_pointer vs).1 ≡ mark marks.RightParen c ∷ ws → (xs : List Token) → ExprBegun 3 n ws xs
        → ExprBegun 3 (suc n) ts xs
    ends o us ss vs h g some c ws k xs (e, swap, (is, loose, low)) = (
      Cast o ss (take_pointer vs).0 c e,
      s_eq h (s_cons (s_eq g (s_left (specifiers_tokens ss)
          (s_eq (pointer_taken vs) (s_left (pointer_tokens (take_pointer vs).0) (s_eq k (s_cons swap))))))),
      ((some, is, loose), omega arith, omega (arith, low)),
    )

    behind : (o : Span) (us : List Token) (ss : List Specifier) (vs : List Token) → 1 ≤ n → ts
        ≡ mark marks.LeftParen o ∷ us → us ≡ specifiers_tokens ss ++ vs → IsSpecifiers ss
        → Falls (ExprBegun 3 (suc n) ts) (cast_behind b o ss (take_pointer vs))
    behind o us ss vs high h g some =
        falls_mark (ExprBegun 3 (suc n) ts) marks.RightParen (take_pointer vs).1 _ (
          Cast o ss (take_pointer vs).0 here one,
          s_eq h (s_cons (s_eq g (s_left (specifiers_tokens ss)
              (s_eq (pointer_taken vs) (s_left (pointer_tokens (take_pointer vs).0) (s_here refl)))))),
          ((some, tt, omega arith), omega arith, omega (arith, high)),
        )
        (λ c ws k.
        falls_then (Sound 3 n ws) (ExprStarts 3 n ws) (ExprBegun 3 (suc n) ts) (b.cast ws) _ (sb.cast ws) (r.cast ws)
        (λ xs m. ends o us ss vs h g some c ws k xs (begun 3 n ws xs high m)) (λ e xs m. tt))

    inside : (o : Span) (us : List Token) → ts ≡ mark marks.LeftParen o ∷ us → IsSpecifiers (take_specifiers us).0
        → Falls (ExprBegun 3 (suc n) ts) (cast_inside b o us)
    inside o us h some = by (ltb 0 b.height) refl
      where
        by : (x : Bool) → ltb 0 b.height ≡ x → Falls (ExprBegun 3 (suc n) ts) (if x then
            cast_behind b o (take_specifiers us).0 (take_pointer (take_specifiers us).1) else Faults true
            (mark marks.LeftParen o ∷ us))
        by true e = (let l : 0 < b.height = ltb-true 0 b.height e in
            behind o us (take_specifiers us).0 (take_specifiers us).1 (omega (arith, l, r.height)) h
            (specifiers_taken us) some)
        by false e = none 3 n _ _ h

    with_specifiers : (o : Span) (us : List Token) (ss : List Specifier) → ts ≡ mark marks.LeftParen o ∷ us
        → (take_specifiers us).0 ≡ ss → Falls (ExprBegun 3 (suc n) ts) (cast_with (suc n) b o ss us ts)
    with_specifiers o us [] h e = plain
    with_specifiers o us (s ∷ ss) h e = inside o us h (subst IsSpecifiers (sym e) tt)

    under : (o : Takes Span) → HoldsTaken (λ at us. ts ≡ mark marks.LeftParen at ∷ us) o
        → Falls (ExprBegun 3 (suc n) ts) (cast_from (suc n) b o ts)
    under None h = plain
    under (Some (o, us)) h = with_specifiers o us (take_specifiers us).0 h refl

-- ---- operators between operands

right_infix : (k n c : ℕ) (operand right : Reader) → c + 1 ≡ k + 3 → SoundReader c (suc n) operand
    → ((ts : List Token) → Falls (ExprBegun c (suc n) ts) (operand ts)) → SoundReader c n right → RightReader c n right
    → (ts : List Token) → Falls (ExprBegun (k + 3) (suc n) ts) (read_infix k (suc n) operand right ts)
right_infix k n c operand right sum so ro sr rr ts =
    falls_then (Sound c (suc n) ts) (ExprBegun c (suc n) ts) (ExprBegun (k + 3) (suc n) ts) (operand ts) _ (so ts)
    (ro ts) (λ us g. looser_begun c (k + 3) (suc n) ts us (omega arith) g) (λ e us s.
    falls_chain (Sound (k + 3) (suc n) ts) (ExprBegun (k + 3) (suc n) ts) (infix_step k (suc n) right)
    (λ a vs g. sound_turn k n c right sum sr ts a vs g) (λ a vs g. turn a vs g)
    (λ a vs g. so_far (k + 3) (suc n) ts a vs vs g refl) (length us) e us
    (looser c (k + 3) (suc n) ts e us (omega arith) s))
  where
    turn : (l : Expr) (us : List Token) → Sound (k + 3) (suc n) ts l us
        → FallsStep (ExprBegun (k + 3) (suc n) ts) (infix_step k (suc n) right l us)
    turn l us s = under (take_binary k us) (binary_taken k us)
      where
        under : (o : Takes (BinaryOp × Span)) → HoldsTaken
            (λ a vs. (us ≡ mark (binary_mark a.0) a.1 ∷ vs) × (binary_level a.0 ≡ k)) o
            → FallsStep (ExprBegun (k + 3) (suc n) ts) (infix_from (suc n) right l o)
        under None h = tt
        under (Some (op, vs)) h =
            step_falls_above (Sound c n vs) (ExprStarts c n vs) (ExprBegun (k + 3) (suc n) ts) (expr_height l) (suc n)
            (mark (binary_mark op.0) op.1) vs (right vs) _ (so_far (k + 3) (suc n) ts l us _ s h.0) (sr vs) (rr vs)
            (λ ws e g. joined ws e (begun c n vs ws (omega (arith, e, height_above l)) g)) (λ x ws e g. tt)
          where
            joined : (ws : List Token) → expr_height l < suc n → ExprBegun c n vs ws → ExprBegun (k + 3) (suc n) ts ws
            joined ws e (x, swap, (is, loose, low)) = (
              Binary op.0 l op.1 x,
              s_eq s.tokens (s_left (expr_tokens l) (s_eq h.0 (s_cons swap))),
              (
                (s.is, omega (arith, s.loose, h.1), is, omega (arith, loose, h.1, sum)),
                omega (arith, h.1),
                omega (arith, e, low),
              ),
            )

right_binary : (n : ℕ) (b : Readers) → SoundReaders n b → RightReaders n b → (k : ℕ) → k ≤ 10 → (ts : List Token)
    → Falls (ExprBegun (k + 3) (suc n) ts) (read_binary (suc n) b k ts)
right_binary n b sb r zero h ts = right_cast n b sb r ts
right_binary n b sb r (suc k) h ts = right_infix (suc k) n (k + 3) (read_binary (suc n) b k) (b.binary k) (omega arith)
    (sound_binary n b sb k (omega arith)) (right_binary n b sb r k (omega arith)) (sb.binary k (omega arith))
    (r.binary k (omega arith)) ts

right_conditional : (n : ℕ) (b : Readers) → SoundReaders n b → RightReaders n b → (ts : List Token)
    → Falls (ExprBegun 14 (suc n) ts) (read_conditional (suc n) b ts)
right_conditional n b sb r ts =
    falls_then (Sound 13 (suc n) ts) (ExprBegun 13 (suc n) ts) (ExprBegun 14 (suc n) ts) (read_binary (suc n) b 10 ts) _
    (sound_binary n b sb 10 (omega arith) ts) (right_binary n b sb r 10 (omega arith) ts)
    (λ us g. looser_begun 13 14 (suc n) ts us (omega arith) g)
    (λ c us s. under c us s (take_mark marks.Question us) (mark_taken marks.Question us))
  where
    under : (c : Expr) (us : List Token) → Sound 13 (suc n) ts c us → (o : Takes Span)
        → HoldsTaken (λ at vs. us ≡ mark marks.Question at ∷ vs) o
        → Falls (ExprBegun 14 (suc n) ts) (conditional_from (suc n) b c o us)
    under c us s None h = tt
    under c us s (Some (q, vs)) h =
        falls_above (Sound 16 n vs) (ExprStarts 16 n vs) (ExprBegun 14 (suc n) ts) (expr_height c) (suc n)
        (mark marks.Question q) vs (b.expression vs) _
        (looser_begun 13 14 (suc n) ts _ (omega arith) (so_far 13 (suc n) ts c us _ s h)) (sb.expression vs)
        (r.expression vs) (λ ws e g. first ws e (begun 16 n vs ws (omega (arith, e, height_above c)) g)) (λ f ws e g.
        falls_mark (ExprBegun 14 (suc n) ts) marks.Colon ws _
        (first ws e (so_far 16 n vs f ws ws g refl)) (λ k xs i.
        falls_then (Sound 14 n xs) (ExprStarts 14 n xs) (ExprBegun 14 (suc n) ts) (b.conditional xs) _
        (sb.conditional xs) (r.conditional xs)
        (λ ys j. second f ws e g k xs i ys (begun 14 n xs ys (omega (arith, e, height_above c)) j)) (λ z ys j. tt)))
      where
        first : (ws : List Token) → expr_height c < suc n → ExprBegun 16 n vs ws → ExprBegun 14 (suc n) ts ws
        first ws e (f, swap, (is, loose, low)) = (
          Conditional c q f here one,
          s_eq s.tokens (s_left (expr_tokens c) (s_eq h (s_cons
              (s_app (mark marks.Colon here ∷ expr_tokens one) swap)))),
          ((s.is, s.loose, is, tt, omega arith), omega arith, omega (arith, e, low, height_above c)),
        )

        second : (f : Expr) (ws : List Token) → expr_height c < suc n → Sound 16 n vs f ws → (k : Span)
            (xs : List Token) → ws ≡ mark marks.Colon k ∷ xs → (ys : List Token) → ExprBegun 14 n xs ys
            → ExprBegun 14 (suc n) ts ys
        second f ws e g k xs i ys (z, swap, (is, loose, low)) = (
          Conditional c q f k z,
          s_eq s.tokens (s_left (expr_tokens c) (s_eq h (s_cons
              (s_eq g.tokens (s_left (expr_tokens f) (s_eq i (s_cons swap))))))),
          ((s.is, s.loose, g.is, is, loose), omega arith, omega (arith, e, g.low, low)),
        )

right_assignment : (n : ℕ) (b : Readers) → SoundReaders n b → RightReaders n b → (ts : List Token)
    → Falls (ExprBegun 15 (suc n) ts) (read_assignment (suc n) b ts)
right_assignment n b sb r ts =
    falls_then (Sound 14 (suc n) ts) (ExprBegun 14 (suc n) ts) (ExprBegun 15 (suc n) ts) (read_conditional (suc n) b ts)
    _ (sound_conditional n b sb ts) (right_conditional n b sb r ts)
    (λ us g. looser_begun 14 15 (suc n) ts us (omega arith) g)
    (λ l us s. under l us s (take_assign us) (assign_taken us))
  where
    under : (l : Expr) (us : List Token) → Sound 14 (suc n) ts l us → (o : Takes (AssignOp × Span))
        → HoldsTaken (λ a vs. us ≡ mark (assign_mark a.0) a.1 ∷ vs) o
        → Falls (ExprBegun 15 (suc n) ts) (assignment_from (suc n) b l o us)
    under l us s None h = tt
    under l us s (Some (op, vs)) h =
        falls_if (ExprBegun 15 (suc n) ts) (leb (looseness l) 2) false _ _ (λ u.
        falls_above (Sound 15 n vs) (ExprStarts 15 n vs) (ExprBegun 15 (suc n) ts) (expr_height l) (suc n)
        (mark (assign_mark op.0) op.1) vs (b.assignment vs) _ now (sb.assignment vs) (r.assignment vs)
        (λ ws e g. joined (leb-true (looseness l) 2 u) ws e (begun 15 n vs ws (omega (arith, e, height_above l)) g))
        (λ x ws e g. tt)) now
      where
        now : ExprBegun 15 (suc n) ts (mark (assign_mark op.0) op.1 ∷ vs)
        now = looser_begun 14 15 (suc n) ts _ (omega arith) (so_far 14 (suc n) ts l us _ s h)

        joined : looseness l ≤ 2 → (ws : List Token) → expr_height l < suc n → ExprBegun 15 n vs ws
            → ExprBegun 15 (suc n) ts ws
        joined tight ws e (x, swap, (is, loose, low)) = (
          Assignment op.0 l op.1 x,
          s_eq s.tokens (s_left (expr_tokens l) (s_eq h (s_cons swap))),
          ((s.is, tight, is, loose), omega arith, omega (arith, e, low)),
        )

right_expression : (n : ℕ) (b : Readers) → SoundReaders n b → RightReaders n b → (ts : List Token)
    → Falls (ExprBegun 16 (suc n) ts) (read_expression (suc n) b ts)
right_expression n b sb r ts = right_infix 13 n 15 (read_assignment (suc n) b) b.assignment refl
    (sound_assignment n b sb) (right_assignment n b sb r) sb.assignment r.assignment ts

-- ---- by height

no_reader_falls : (c h : ℕ) → RightReader c h no_reader
no_reader_falls c h [] = inl refl
no_reader_falls c h (t ∷ ts) = inl refl

starts : (c h : ℕ) (ts : List Token) (r : Reads Expr) → Falls (ExprBegun c h ts) r → Falls (ExprStarts c h ts) r
starts c h ts r f = falls_map (ExprBegun c h ts) (ExprStarts c h ts) r (λ us g. inr g) f

-- what the readers for a height take before a fault begins a tree
pub right : (height : ℕ) → RightReaders height (readers height)
right zero = (let P : Readers → Type 0 = λ r. RightReaders 0 r in
    subst P (sym readers-none) (record {
      height = refl;
      expression = no_reader_falls 16 0;
      assignment = no_reader_falls 15 0;
      conditional = no_reader_falls 14 0;
      binary = λ k h ts. no_reader_falls (k + 3) 0 ts;
      cast = no_reader_falls 3 0;
      unary = no_reader_falls 2 0;
    }))
right (suc n) =
    (let sb = sound n in
    let r = right n in
    let b : Readers = readers n in
    let all : RightReaders (suc n) (readers_over (suc n) b) = record {
      height = refl;
      expression = λ ts. starts 16 (suc n) ts (read_expression (suc n) b ts) (right_expression n b sb r ts);
      assignment = λ ts. starts 15 (suc n) ts (read_assignment (suc n) b ts) (right_assignment n b sb r ts);
      conditional = λ ts. starts 14 (suc n) ts (read_conditional (suc n) b ts) (right_conditional n b sb r ts);
      binary = λ k h ts. starts (k + 3) (suc n) ts (read_binary (suc n) b k ts) (right_binary n b sb r k h ts);
      cast = λ ts. starts 3 (suc n) ts (read_cast (suc n) b ts) (right_cast n b sb r ts);
      unary = λ ts. starts 2 (suc n) ts (read_unary (suc n) b ts) (right_unary n b sb r ts);
    } in
    let P : Readers → Type 0 = λ x. RightReaders (suc n) x in
    subst P (sym (readers-suc n)) all)
