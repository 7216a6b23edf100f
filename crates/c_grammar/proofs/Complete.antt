-- Every tree of a rule is read, whatever follows that goes on with no tree of that rule.
use Rattle.std.proofs.Common.{◌≡◌, ℕ, zero, suc, ◌+◌, ◌≤◌, ◌<◌, max, true, List, [], ◌∷◌, ◌++◌, length, length-append}
use Rattle.std.proofs.Common.{Option, Some, None, ltb, leb, refl, ap, sym, ◌∙◌, subst, inl, inr, arith, append_assoc}
use Rattle.std.proofs.Common.{◌⊎◌}
use Rattle.std.proofs.lemmas.Bool.{lt-ltb, le-leb}
use Rattle.std.proofs.lemmas.List.{append-nil}
use Rattle.pcc_base.specs.declared.span.Span.{Span}
use Rattle.c_lex.specs.declared.token.Token.{Token}
use Rattle.c_lex.specs.declared.token.TokenKind.{TokenKind}
use Rattle.c_lex.specs.declared.token.TokenKind.TheVariants as kinds
use Rattle.c_lex.specs.declared.token.Punct.{Punct}
use Rattle.c_lex.specs.declared.token.Punct.TheVariants as marks
use Rattle.c_syntax.specs.declared.operator.BinaryOp.{BinaryOp}
use Rattle.c_syntax.specs.declared.operator.BinaryOp.TheVariants as binary
use Rattle.c_syntax.specs.declared.operator.SpecifierWord.{SpecifierWord}
use Rattle.c_syntax.specs.declared.operator.SpecifierWord.TheVariants as specifier
use Rattle.c_syntax.specs.declared.expression.Specifier.{Specifier}
use Rattle.c_syntax.specs.Marks.{mark, binary_mark, step_mark, assign_mark, specifier_word}
use Rattle.c_syntax.specs.Expressions.{Star, Expr, Exprs, exprs_of, Identifier, Number, Text, Parenthesised, Call}
use Rattle.c_syntax.specs.Expressions.{Index, Postfix, Prefix, Unary, Cast, Binary, Conditional, Assignment, NoExpr}
use Rattle.c_syntax.specs.Expressions.{OneExpr}
use Rattle.c_syntax.specs.ExpressionTokens.{expr_tokens, exprs_tokens, more_tokens, specifiers_tokens, consts_tokens}
use Rattle.c_syntax.specs.ExpressionTokens.{pointer_tokens, expr_height, exprs_height, looseness, IsExpr, AreValues}
use Rattle.c_syntax.specs.ExpressionTokens.{Separate, Follow, binary_level}
use Rattle.c_grammar.specs.Chains.{Goes, Reads, Found, chained}
use Rattle.c_grammar.proofs.Chains.{Continues, continues_start, continues_from, continues_goes, continues_done}
use Rattle.c_grammar.specs.Taking.{specifier_of_word, take_mark, take_specifiers, take_consts, take_pointer}
use Rattle.c_grammar.specs.Reading.{Reader, Readers, Values, readers, readers_over, value_step, suffix_step, infix_step}
use Rattle.c_grammar.specs.Reading.{read_arguments, read_primary, read_postfix, read_unary, read_cast, read_infix}
use Rattle.c_grammar.specs.Reading.{read_binary, read_conditional, read_assignment, read_expression}
use Rattle.c_grammar.proofs.Reading.{cast_reads, readers-none, readers-suc}
use Rattle.c_grammar.proofs.Stops.{mark_joins, joins, Stops, stops_tighter, stops_mark, stops_step, stops_assign}
use Rattle.c_grammar.proofs.Stops.{stops_binary, takes_step, takes_unary, takes_assign, takes_binary, takes_texts}
use Rattle.c_grammar.proofs.Stops.{unary_no_step, binary_joins, assign_joins, step_joins, step_no_bracket}
use Rattle.c_grammar.proofs.Heads.{expression_no_mark, postfix_no_step, postfix_no_unary}
use Rattle.c_grammar.proofs.NoCasts.{no_cast}

-- a reader finds the trees that are at most so loose and so high
abbrev pub Finds : ℕ → ℕ → Reader → Type 0
Finds c h reader =
    (t : Expr) (rest : List Token) → IsExpr t → looseness t ≤ c → expr_height t ≤ h → Stops c rest
    → reader (expr_tokens t ++ rest) ≡ Found t rest

-- readers of all rules for one height
pub record Complete (h : ℕ) (b : Readers) : Type 0 where
  pub height : b.height ≡ h
  pub expression : Finds 16 h b.expression
  pub assignment : Finds 15 h b.assignment
  pub conditional : Finds 14 h b.conditional
  pub binary : (k : ℕ) → k ≤ 10 → (c : ℕ) → c ≡ k + 3 → Finds c h (b.binary k)
  pub cast : Finds 3 h b.cast
  pub unary : Finds 2 h b.unary

-- there is room for a node's parts
pub has_room : (h : ℕ) (b : Readers) → Complete h b → 1 ≤ h → ltb 0 b.height ≡ true
has_room h b cb some = lt-ltb 0 b.height (omega (arith, cb.height))

-- ---- numbers

level_top : (op : BinaryOp) → binary_level op ≤ 13
level_top binary.Multiply = omega arith
level_top _ = omega arith

level_bottom : (op : BinaryOp) → 1 ≤ binary_level op
level_bottom binary.Multiply = omega arith
level_bottom _ = omega arith

-- no tree is looser than an expression
pub loosest : (t : Expr) → looseness t ≤ 16
loosest (Binary op l at r) = omega (arith, level_top op)
loosest _ = omega arith

-- a node is above 0
pub height_above : (t : Expr) → 1 ≤ expr_height t
height_above (Identifier name) = omega arith
height_above _ = omega arith

joins_apart : (n : Punct) → 2 < mark_joins n → 3 < mark_joins n
joins_apart marks.LeftParen h = absurd (omega arith)
joins_apart _ h = omega arith

joins_apart_kind : (kind : TokenKind) → 2 < joins kind → 3 < joins kind
joins_apart_kind (kinds.Mark n) h = joins_apart n h
joins_apart_kind (kinds.Text bytes) h = absurd (omega arith)
joins_apart_kind _ h = omega arith

-- what ends a unary expression ends a cast
stops_cast : (ts : List Token) → Stops 2 ts → Stops 3 ts
stops_cast [] s = tt
stops_cast (t ∷ ts) s = joins_apart_kind t.kind s

either : (m n : ℕ) → (m ≡ n) ⊎ (m ≡ n → ⊥)
either zero zero = inl refl
either zero (suc n) = inr (λ e. omega arith)
either (suc m) zero = inr (λ e. omega arith)
either (suc m) (suc n) = elim (either m n) [ inl e ↦ inl (ap suc e) | inr d ↦ inr (λ e. d (omega arith)) ]

-- ---- lists

behind_one : (t : Token) (xs rest : List Token) → length rest < length (t ∷ (xs ++ rest))
behind_one t xs rest = omega (arith, length-append xs rest)

abbrev pub list_of : Exprs → List Expr
list_of NoExpr = []
list_of (OneExpr e es) = e ∷ list_of es

pub exprs_of_list : (es : Exprs) → exprs_of (list_of es) ≡ es
exprs_of_list NoExpr = refl
exprs_of_list (OneExpr e es) = ap (OneExpr e) (exprs_of_list es)

-- ---- specifiers and pointers

abbrev pub NoSpecifier : List Token → Type 0
NoSpecifier ts = take_specifiers ts ≡ ([], ts)

takes_specifier : (w : SpecifierWord) → specifier_of_word (specifier_word w) ≡ Some w
takes_specifier specifier.Auto = refl
takes_specifier specifier.Register = refl
takes_specifier specifier.Static = refl
takes_specifier specifier.Extern = refl
takes_specifier specifier.Const = refl
takes_specifier specifier.Void = refl
takes_specifier specifier.Char = refl
takes_specifier specifier.Short = refl
takes_specifier specifier.Int = refl
takes_specifier specifier.Signed = refl

pub takes_specifiers : (ss : List Specifier) (us : List Token) → NoSpecifier us
    → take_specifiers (specifiers_tokens ss ++ us) ≡ (ss, us)
takes_specifiers [] us free = free
takes_specifiers (s ∷ ss) us free = rw (takes_specifier s.word, takes_specifiers ss us free) refl

abbrev pub NoConst : List Token → Type 0
NoConst ts = take_consts ts ≡ ([], ts)

takes_consts : (ats : List Span) (us : List Token) → NoConst us → take_consts (consts_tokens ats ++ us) ≡ (ats, us)
takes_consts [] us free = free
takes_consts (at ∷ ats) us free = rw (takes_consts ats us free) refl

pub takes_pointer : (p : Option Star) (us : List Token) → NoConst us → take_mark marks.Star us ≡ None
    → take_pointer (pointer_tokens p ++ us) ≡ (p, us)
takes_pointer None us free none = rw none refl
takes_pointer (Some p) us free none = rw (takes_consts p.consts us free) refl

pub pointer_no_specifier : (p : Option Star) (us : List Token) → NoSpecifier us → NoSpecifier (pointer_tokens p ++ us)
pointer_no_specifier None us free = free
pointer_no_specifier (Some p) us free = refl

-- ---- primary

-- values behind values, each with a comma before it
values_continue : (n : ℕ) (b : Readers) → Complete n b
    → (es : Exprs) (commas : List Span) (a : Values) (rest : List Token) (out : Reads Values) →
    AreValues es → Follow es commas → exprs_height es ≤ n → Stops 15 rest
    → Continues (value_step b) a (more_tokens es commas ++ rest) out →
    Continues (value_step b) (a.0 ++ list_of es, a.1 ++ commas) rest out
values_continue n b cb NoExpr commas a rest out are follow low stops c =
    (let e : (a.0 ++ [], a.1 ++ commas) ≡ a = ap (λ cs. (a.0 ++ [], a.1 ++ cs)) follow
    ∙ (ap (λ xs. (xs, a.1 ++ [])) (append-nil a.0) ∙ ap (λ cs. (a.0, cs)) (append-nil a.1)) in
    let P : Values → Type 0 = λ v. Continues (value_step b) v rest out in
    subst P (sym e) c)
values_continue n b cb (OneExpr e es) [] a rest out are follow low stops c = absurd follow
values_continue n b cb (OneExpr e es) (at ∷ commas) a rest out are follow low stops c =
    (let more : List Token = more_tokens es commas ++ rest in
    let group : (expr_tokens e ++ more_tokens es commas) ++ rest ≡ expr_tokens e ++ more =
    append_assoc (expr_tokens e) (more_tokens es commas) rest in
    let read : b.assignment (expr_tokens e ++ more) ≡ Found e more =
    cb.assignment e more are.0 are.1 (omega arith) (stops_more es commas rest stops) in
    let goes : value_step b a (more_tokens (OneExpr e es) (at ∷ commas) ++ rest)
    ≡ Goes (a.0 ++ e ∷ [], a.1 ++ at ∷ []) more = rw (group, read) refl in
    let less : length more < length (more_tokens (OneExpr e es) (at ∷ commas) ++ rest) =
    rw group (behind_one (mark marks.Comma at) (expr_tokens e) more) in
    let next = continues_goes _ _ _ _ _ _ c goes less in
    let all = values_continue n b cb es commas (a.0 ++ e ∷ [], a.1 ++ at ∷ []) rest out are.2 follow (omega arith) stops
    next in
    let same : ((a.0 ++ e ∷ []) ++ list_of es, (a.1 ++ at ∷ []) ++ commas)
    ≡ (a.0 ++ e ∷ list_of es, a.1 ++ at ∷ commas) =
    rw (append_assoc a.0 (e ∷ []) (list_of es), append_assoc a.1 (at ∷ []) commas) refl in
    let P : Values → Type 0 = λ v. Continues (value_step b) v rest out in
    subst P same all)
  where
    stops_more : (es : Exprs) (commas : List Span) (rest : List Token) → Stops 15 rest
        → Stops 15 (more_tokens es commas ++ rest)
    stops_more NoExpr commas rest stops = stops
    stops_more (OneExpr e es) [] rest stops = stops
    stops_more (OneExpr e es) (at ∷ commas) rest stops = omega arith

-- the arguments of a call, before its `)`
arguments_read : (n : ℕ) (b : Readers) → Complete n b → (es : Exprs) (commas : List Span) (c : Span) (rest : List Token)
    →
    AreValues es → Separate es commas → exprs_height es ≤ n →
    read_arguments b (exprs_tokens es commas ++ mark marks.RightParen c ∷ rest)
    ≡ Found (list_of es, commas) (mark marks.RightParen c ∷ rest)
arguments_read n b cb NoExpr commas c rest are apart low = rw apart refl
arguments_read n b cb (OneExpr e es) commas c rest are apart low =
    (let close : List Token = mark marks.RightParen c ∷ rest in
    let more : List Token = more_tokens es commas ++ close in
    let group : (expr_tokens e ++ more_tokens es commas) ++ close ≡ expr_tokens e ++ more =
    append_assoc (expr_tokens e) (more_tokens es commas) close in
    let read : b.assignment (expr_tokens e ++ more) ≡ Found e more =
    cb.assignment e more are.0 are.1 (omega arith) (first_stops es commas close (omega arith)) in
    let begun : Continues (value_step b) (e ∷ [], []) more (chained (value_step b) (e ∷ [], []) more) =
    continues_start (value_step b) (e ∷ [], []) more in
    let all = values_continue n b cb es commas (e ∷ [], []) close _ are.2 apart (omega arith) (omega arith) begun in
    let end : chained (value_step b) (e ∷ [], []) more ≡ Found (e ∷ list_of es, commas) close =
    continues_done _ _ _ _ all refl in
    rw (group, expression_no_mark marks.RightParen e more are.0 refl, read) end)
  where
    first_stops : (es : Exprs) (commas : List Span) (rest : List Token) → Stops 15 rest
        → Stops 15 (more_tokens es commas ++ rest)
    first_stops NoExpr commas rest stops = stops
    first_stops (OneExpr e es) [] rest stops = stops
    first_stops (OneExpr e es) (at ∷ commas) rest stops = omega arith

pub finds_primary : (n : ℕ) (b : Readers) → Complete n b → Finds 0 (suc n) (read_primary b)
finds_primary n b cb (Identifier name) rest is loose low stops =
    rw (stops_mark marks.LeftParen 0 rest stops (omega arith)) refl
finds_primary n b cb (Number value at) rest is loose low stops = refl
finds_primary n b cb (Text []) rest is loose low stops = absurd is
finds_primary n b cb (Text (p ∷ ps)) rest is loose low stops = rw (takes_texts ps rest stops) refl
finds_primary n b cb (Parenthesised o e c) rest is loose low stops =
    (let close : List Token = mark marks.RightParen c ∷ rest in
    let group : (expr_tokens e ++ mark marks.RightParen c ∷ []) ++ rest ≡ expr_tokens e ++ close =
    append_assoc (expr_tokens e) (mark marks.RightParen c ∷ []) rest in
    rw (
      has_room n b cb (omega (arith, height_above e)),
      group,
      cb.expression e close is (loosest e) (omega arith) (omega arith),
    ) refl)
finds_primary n b cb (Call f o arguments commas c) rest is loose low stops =
    (let close : List Token = mark marks.RightParen c ∷ rest in
    let group : (exprs_tokens arguments commas ++ mark marks.RightParen c ∷ []) ++ rest
    ≡ exprs_tokens arguments commas ++ close =
    append_assoc (exprs_tokens arguments commas) (mark marks.RightParen c ∷ []) rest in
    rw (group, arguments_read n b cb arguments commas c rest is.0 is.1 (omega arith), exprs_of_list arguments) refl)
finds_primary n b cb (Index base o e c) rest is loose low stops = absurd (omega arith)
finds_primary n b cb (Postfix base op at) rest is loose low stops = absurd (omega arith)
finds_primary n b cb (Prefix op at e) rest is loose low stops = absurd (omega arith)
finds_primary n b cb (Unary op at e) rest is loose low stops = absurd (omega arith)
finds_primary n b cb (Cast o specifiers pointer c e) rest is loose low stops = absurd (omega arith)
finds_primary n b cb (Binary op l at r) rest is loose low stops = absurd (omega arith)
finds_primary n b cb (Conditional c q f k s) rest is loose low stops = absurd (omega arith)
finds_primary n b cb (Assignment op l at r) rest is loose low stops = absurd (omega arith)

-- ---- postfix

abbrev Suffixes : ℕ → Readers → Expr → List Token → Type 0
Suffixes n b t rest = Continues (suffix_step (suc n) b) t rest (read_postfix (suc n) b (expr_tokens t ++ rest))

-- a primary expression, from which suffixes go on
primary_first : (n : ℕ) (b : Readers) → Complete n b → (t : Expr) (rest : List Token) → IsExpr t → looseness t ≤ 0
    → expr_height t ≤ suc n → Stops 0 rest → Suffixes n b t rest
primary_first n b cb t rest is loose low stops =
    continues_from (suffix_step (suc n) b) (read_primary b (expr_tokens t ++ rest)) t rest
    (finds_primary n b cb t rest is loose low stops)

suffixes : (n : ℕ) (b : Readers) → Complete n b → (t : Expr) (rest : List Token) → IsExpr t → looseness t ≤ 1
    → expr_height t ≤ suc n → Stops 0 rest → Suffixes n b t rest
suffixes n b cb (Index base o e c) rest is loose low stops =
    (let more : List Token = mark marks.LeftBracket o ∷ (expr_tokens e ++ mark marks.RightBracket c ∷ []) in
    let close : List Token = mark marks.RightBracket c ∷ rest in
    let group : (expr_tokens e ++ mark marks.RightBracket c ∷ []) ++ rest ≡ expr_tokens e ++ close =
    append_assoc (expr_tokens e) (mark marks.RightBracket c ∷ []) rest in
    let before : Suffixes n b base (more ++ rest) =
    suffixes n b cb base (more ++ rest) is.0 is.1 (omega arith) (omega arith) in
    let lower : ltb (expr_height base) (suc n) ≡ true = lt-ltb (expr_height base) (suc n) (omega arith) in
    let read : b.expression (expr_tokens e ++ close) ≡ Found e close =
    cb.expression e close is.2 (loosest e) (omega arith) (omega arith) in
    let goes : suffix_step (suc n) b base (more ++ rest) ≡ Goes (Index base o e c) rest =
    rw (lower, group, read) refl in
    let less : length rest < length (more ++ rest) =
    omega (arith, length-append (expr_tokens e ++ mark marks.RightBracket c ∷ []) rest) in
    let P : List Token → Type 0 = λ ts. Continues (suffix_step (suc n) b) (Index base o e c) rest
    (read_postfix (suc n) b ts) in
    subst P (sym (append_assoc (expr_tokens base) more rest)) (continues_goes _ _ _ _ _ _ before goes less))
suffixes n b cb (Postfix base op at) rest is loose low stops =
    (let more : List Token = mark (step_mark op) at ∷ [] in
    let before : Suffixes n b base (more ++ rest) =
    suffixes n b cb base (more ++ rest) is.0 is.1 (omega arith) (omega (arith, step_joins op)) in
    let lower : ltb (expr_height base) (suc n) ≡ true = lt-ltb (expr_height base) (suc n) (omega arith) in
    let goes : suffix_step (suc n) b base (more ++ rest) ≡ Goes (Postfix base op at) rest =
    rw (step_no_bracket op at rest, takes_step op at rest, lower) refl in
    let less : length rest < length (more ++ rest) = omega arith in
    let P : List Token → Type 0 = λ ts. Continues (suffix_step (suc n) b) (Postfix base op at) rest
    (read_postfix (suc n) b ts) in
    subst P (sym (append_assoc (expr_tokens base) more rest)) (continues_goes _ _ _ _ _ _ before goes less))
suffixes n b cb (Identifier name) rest is loose low stops =
    primary_first n b cb (Identifier name) rest is (omega arith) low stops
suffixes n b cb (Number value at) rest is loose low stops =
    primary_first n b cb (Number value at) rest is (omega arith) low stops
suffixes n b cb (Text pieces) rest is loose low stops =
    primary_first n b cb (Text pieces) rest is (omega arith) low stops
suffixes n b cb (Parenthesised o e c) rest is loose low stops =
    primary_first n b cb (Parenthesised o e c) rest is (omega arith) low stops
suffixes n b cb (Call f o arguments commas c) rest is loose low stops =
    primary_first n b cb (Call f o arguments commas c) rest is (omega arith) low stops
suffixes n b cb (Prefix op at e) rest is loose low stops = absurd (omega arith)
suffixes n b cb (Unary op at e) rest is loose low stops = absurd (omega arith)
suffixes n b cb (Cast o specifiers pointer c e) rest is loose low stops = absurd (omega arith)
suffixes n b cb (Binary op l at r) rest is loose low stops = absurd (omega arith)
suffixes n b cb (Conditional c q f k s) rest is loose low stops = absurd (omega arith)
suffixes n b cb (Assignment op l at r) rest is loose low stops = absurd (omega arith)

pub finds_postfix : (n : ℕ) (b : Readers) → Complete n b → Finds 1 (suc n) (read_postfix (suc n) b)
finds_postfix n b cb t rest is loose low stops =
    continues_done _ _ _ _ (suffixes n b cb t rest is loose low (stops_tighter 1 0 rest stops (omega arith)))
    (rw (stops_mark marks.LeftBracket 1 rest stops (omega arith), stops_step 1 rest stops (omega arith)) refl)

-- ---- unary and cast

unary_tight : (n : ℕ) (b : Readers) → Complete n b → (t : Expr) (rest : List Token) → IsExpr t → looseness t ≤ 1
    → expr_height t ≤ suc n → Stops 1 rest → read_unary (suc n) b (expr_tokens t ++ rest) ≡ Found t rest
unary_tight n b cb t rest is loose low stops =
    rw (postfix_no_step t rest is loose, postfix_no_unary t rest is loose)
    (finds_postfix n b cb t rest is loose low stops)

pub finds_unary : (n : ℕ) (b : Readers) → Complete n b → Finds 2 (suc n) (read_unary (suc n) b)
finds_unary n b cb (Prefix op at e) rest is loose low stops =
    rw (
      takes_step op at (expr_tokens e ++ rest),
      has_room n b cb (omega (arith, height_above e)),
      cb.unary e rest is.0 is.1 (omega arith) stops,
    ) refl
finds_unary n b cb (Unary op at e) rest is loose low stops =
    rw (
      unary_no_step op at (expr_tokens e ++ rest),
      takes_unary op at (expr_tokens e ++ rest),
      has_room n b cb (omega (arith, height_above e)),
      cb.cast e rest is.0 is.1 (omega arith) (stops_cast rest stops),
    ) refl
finds_unary n b cb (Identifier name) rest is loose low stops =
    unary_tight n b cb (Identifier name) rest is (omega arith) low (stops_tighter 2 1 rest stops (omega arith))
finds_unary n b cb (Number value at) rest is loose low stops =
    unary_tight n b cb (Number value at) rest is (omega arith) low (stops_tighter 2 1 rest stops (omega arith))
finds_unary n b cb (Text pieces) rest is loose low stops =
    unary_tight n b cb (Text pieces) rest is (omega arith) low (stops_tighter 2 1 rest stops (omega arith))
finds_unary n b cb (Parenthesised o e c) rest is loose low stops =
    unary_tight n b cb (Parenthesised o e c) rest is (omega arith) low (stops_tighter 2 1 rest stops (omega arith))
finds_unary n b cb (Call f o arguments commas c) rest is loose low stops =
    unary_tight n b cb (Call f o arguments commas c) rest is (omega arith) low
    (stops_tighter 2 1 rest stops (omega arith))
finds_unary n b cb (Index base o e c) rest is loose low stops =
    unary_tight n b cb (Index base o e c) rest is (omega arith) low (stops_tighter 2 1 rest stops (omega arith))
finds_unary n b cb (Postfix base op at) rest is loose low stops =
    unary_tight n b cb (Postfix base op at) rest is (omega arith) low (stops_tighter 2 1 rest stops (omega arith))
finds_unary n b cb (Cast o specifiers pointer c e) rest is loose low stops = absurd (omega arith)
finds_unary n b cb (Binary op l at r) rest is loose low stops = absurd (omega (arith, level_bottom op))
finds_unary n b cb (Conditional c q f k s) rest is loose low stops = absurd (omega arith)
finds_unary n b cb (Assignment op l at r) rest is loose low stops = absurd (omega arith)

-- no cast, so a unary expression
cast_tight : (n : ℕ) (b : Readers) → Complete n b → (t : Expr) (rest : List Token) → IsExpr t → looseness t ≤ 2
    → expr_height t ≤ suc n → Stops 3 rest → read_cast (suc n) b (expr_tokens t ++ rest) ≡ Found t rest
cast_tight n b cb t rest is loose low stops = no_cast (suc n) b t rest is loose
    ∙ finds_unary n b cb t rest is loose low (stops_tighter 3 2 rest stops (omega arith))

pub finds_cast : (n : ℕ) (b : Readers) → Complete n b → Finds 3 (suc n) (read_cast (suc n) b)
finds_cast n b cb (Cast o [] pointer c e) rest is loose low stops = absurd is.0
finds_cast n b cb (Cast o (s ∷ ss) pointer c e) rest is loose low stops =
    (let close : List Token = mark marks.RightParen c ∷ (expr_tokens e ++ rest) in
    let group : (specifiers_tokens (s ∷ ss) ++ (pointer_tokens pointer ++ mark marks.RightParen c ∷ expr_tokens e))
    ++ rest ≡ specifiers_tokens (s ∷ ss) ++ (pointer_tokens pointer ++ close) =
    append_assoc (specifiers_tokens (s ∷ ss)) (pointer_tokens pointer ++ mark marks.RightParen c ∷ expr_tokens e) rest
    ∙ ap (λ ts. specifiers_tokens (s ∷ ss) ++ ts)
    (append_assoc (pointer_tokens pointer) (mark marks.RightParen c ∷ expr_tokens e) rest) in
    let words_read : take_specifiers (specifiers_tokens (s ∷ ss) ++ (pointer_tokens pointer ++ close))
    ≡ (s ∷ ss, pointer_tokens pointer ++ close) =
    takes_specifiers (s ∷ ss) (pointer_tokens pointer ++ close) (pointer_no_specifier pointer close refl) in
    let pointer_read : take_pointer (pointer_tokens pointer ++ close) ≡ (pointer, close) =
    takes_pointer pointer close refl refl in
    let operand_read : b.cast (expr_tokens e ++ rest) ≡ Found e rest = cb.cast e rest is.1 is.2 (omega arith) stops in
    let inside : take_specifiers ((specifiers_tokens (s ∷ ss) ++ (pointer_tokens pointer
    ++ mark marks.RightParen c ∷ expr_tokens e)) ++ rest) ≡ (s ∷ ss, pointer_tokens pointer ++ close) =
    ap take_specifiers group ∙ words_read in
    cast_reads (suc n) b (expr_tokens (Cast o (s ∷ ss) pointer c e) ++ rest) _ (pointer_tokens pointer ++ close) o s ss
    refl inside ∙ rw (has_room n b cb (omega (arith, height_above e)), inside, pointer_read, operand_read) refl)
finds_cast n b cb (Identifier name) rest is loose low stops =
    cast_tight n b cb (Identifier name) rest is (omega arith) low stops
finds_cast n b cb (Number value at) rest is loose low stops =
    cast_tight n b cb (Number value at) rest is (omega arith) low stops
finds_cast n b cb (Text pieces) rest is loose low stops =
    cast_tight n b cb (Text pieces) rest is (omega arith) low stops
finds_cast n b cb (Parenthesised o e c) rest is loose low stops =
    cast_tight n b cb (Parenthesised o e c) rest is (omega arith) low stops
finds_cast n b cb (Call f o arguments commas c) rest is loose low stops =
    cast_tight n b cb (Call f o arguments commas c) rest is (omega arith) low stops
finds_cast n b cb (Index base o e c) rest is loose low stops =
    cast_tight n b cb (Index base o e c) rest is (omega arith) low stops
finds_cast n b cb (Postfix base op at) rest is loose low stops =
    cast_tight n b cb (Postfix base op at) rest is (omega arith) low stops
finds_cast n b cb (Prefix op at e) rest is loose low stops =
    cast_tight n b cb (Prefix op at e) rest is (omega arith) low stops
finds_cast n b cb (Unary op at e) rest is loose low stops =
    cast_tight n b cb (Unary op at e) rest is (omega arith) low stops
finds_cast n b cb (Binary op l at r) rest is loose low stops = absurd (omega (arith, level_bottom op))
finds_cast n b cb (Conditional c q f k s) rest is loose low stops = absurd (omega arith)
finds_cast n b cb (Assignment op l at r) rest is loose low stops = absurd (omega arith)

-- ---- operators between operands

abbrev Infixes : ℕ → ℕ → Reader → Reader → Expr → List Token → Type 0
Infixes k n operand right t rest = Continues (infix_step k (suc n) right) t rest
    (read_infix k (suc n) operand right (expr_tokens t ++ rest))

-- one operator more, behind what its left operand reads
infix_one : (k n c : ℕ) (operand right : Reader) → c + 1 ≡ k + 3 → Finds c n right
    → (op : BinaryOp) (l : Expr) (at : Span) (r : Expr) (rest : List Token) →
    IsExpr r → looseness r < binary_level op + 3 → binary_level op ≡ k
    → suc (max (expr_height l) (expr_height r)) ≤ suc n → Stops c rest →
    Infixes k n operand right l (mark (binary_mark op) at ∷ expr_tokens r ++ rest)
    → Infixes k n operand right (Binary op l at r) rest
infix_one k n c operand right sum found op l at r rest is loose level low stops before =
    (let more : List Token = mark (binary_mark op) at ∷ expr_tokens r in
    let lower : ltb (expr_height l) (suc n) ≡ true = lt-ltb (expr_height l) (suc n) (omega arith) in
    let read : right (expr_tokens r ++ rest) ≡ Found r rest = found r rest is (omega arith) (omega arith) stops in
    let goes : infix_step k (suc n) right l (more ++ rest) ≡ Goes (Binary op l at r) rest =
    rw (takes_binary op k at (expr_tokens r ++ rest) level, lower, read) refl in
    let less : length rest < length (more ++ rest) = behind_one (mark (binary_mark op) at) (expr_tokens r) rest in
    let P : List Token → Type 0 = λ ts. Continues (infix_step k (suc n) right) (Binary op l at r) rest
    (read_infix k (suc n) operand right ts) in
    subst P (sym (append_assoc (expr_tokens l) more rest)) (continues_goes _ _ _ _ _ _ before goes less))

-- an operand, from which operators go on
infix_first : (k n c : ℕ) (operand right : Reader) → Finds c (suc n) operand → (t : Expr) (rest : List Token) → IsExpr t
    → looseness t ≤ c → expr_height t ≤ suc n → Stops c rest → Infixes k n operand right t rest
infix_first k n c operand right found t rest is loose low stops =
    continues_from (infix_step k (suc n) right) (operand (expr_tokens t ++ rest)) t rest
    (found t rest is loose low stops)

split : (m c s : ℕ) → m ≤ s → c + 1 ≡ s → (m ≤ c) ⊎ (m ≡ s)
split m c s h e = elim (either m s) [ inl f ↦ inr f | inr d ↦ inl (omega arith) ]

infixes : (k n c : ℕ) (operand right : Reader) → 1 ≤ k → (k ≡ 11 → ⊥) → (k ≡ 12 → ⊥) → c + 1 ≡ k + 3
    → Finds c (suc n) operand → Finds c n right →
    (t : Expr) (rest : List Token) → IsExpr t → looseness t ≤ k + 3 → expr_height t ≤ suc n → Stops c rest
    → (looseness t ≤ c) ⊎ (looseness t ≡ k + 3) → Infixes k n operand right t rest
infixes k n c operand right low_k no11 no12 sum found found_right (Binary op l at r) rest is loose low stops
    (inr level) =
    infix_one k n c operand right sum found_right op l at r rest is.2 is.3 (omega arith) low stops
    (infixes k n c operand right low_k no11 no12 sum found found_right l
    (mark (binary_mark op) at ∷ expr_tokens r ++ rest) is.0 (omega (arith, is.1)) (omega arith)
    (omega (arith, binary_joins op)) (split (looseness l) c (k + 3) (omega (arith, is.1)) sum))
infixes k n c operand right low_k no11 no12 sum found found_right t rest is loose low stops (inl tight) =
    infix_first k n c operand right found t rest is tight low stops
infixes k n c operand right low_k no11 no12 sum found found_right t rest is loose low stops (inr level) =
    absurd (omega arith)

-- a level finds its trees where the next tighter one does
pub finds_infix : (k n c d : ℕ) (operand right : Reader) → 1 ≤ k → (k ≡ 11 → ⊥) → (k ≡ 12 → ⊥) → d ≡ k + 3 → c + 1 ≡ d
    → Finds c (suc n) operand → Finds c n right → Finds d (suc n) (read_infix k (suc n) operand right)
finds_infix k n c d operand right low_k no11 no12 e f found found_right t rest is loose low stops =
    (let sum : c + 1 ≡ k + 3 = omega arith in
    let all : Infixes k n operand right t rest =
    infixes k n c operand right low_k no11 no12 sum found found_right t rest is (omega arith) low
    (stops_tighter d c rest stops (omega arith)) (split (looseness t) c (k + 3) (omega arith) sum) in
    continues_done _ _ _ _ all (rw (stops_binary k d rest stops (omega arith)) refl))

pub finds_binary : (n : ℕ) (b : Readers) → Complete n b → (k : ℕ) → k ≤ 10 → (c : ℕ) → c ≡ k + 3
    → Finds c (suc n) (read_binary (suc n) b k)
finds_binary n b cb zero h c e = (let P : ℕ → Type 0 = λ m. Finds m (suc n) (read_cast (suc n) b) in let three : 3 ≡ c =
    omega arith in subst P three (finds_cast n b cb))
finds_binary n b cb (suc k) h c e =
    finds_infix (suc k) n (k + 3) c (read_binary (suc n) b k) (b.binary k) (omega arith)
    (λ (x : suc k ≡ 11). omega arith) (λ (x : suc k ≡ 12). omega arith) e (omega arith)
    (finds_binary n b cb k (omega arith) (k + 3) refl) (cb.binary k (omega arith) (k + 3) refl)

-- ---- conditional, assignment and expression

conditional_tight : (n : ℕ) (b : Readers) → Complete n b → (t : Expr) (rest : List Token) → IsExpr t → looseness t ≤ 13
    → expr_height t ≤ suc n → Stops 14 rest → read_conditional (suc n) b (expr_tokens t ++ rest) ≡ Found t rest
conditional_tight n b cb t rest is loose low stops =
    rw (
      finds_binary n b cb 10 (omega arith) 13 refl t rest is loose low (stops_tighter 14 13 rest stops (omega arith)),
      stops_mark marks.Question 14 rest stops (omega arith),
    ) refl

pub finds_conditional : (n : ℕ) (b : Readers) → Complete n b → Finds 14 (suc n) (read_conditional (suc n) b)
finds_conditional n b cb (Conditional c q f k s) rest is loose low stops =
    (let tail : List Token = mark marks.Colon k ∷ (expr_tokens s ++ rest) in
    let more : List Token = mark marks.Question q ∷ (expr_tokens f ++ mark marks.Colon k ∷ expr_tokens s) in
    let group : (expr_tokens c ++ more) ++ rest ≡ expr_tokens c ++ (more ++ rest) =
    append_assoc (expr_tokens c) more rest in
    let inner : (expr_tokens f ++ mark marks.Colon k ∷ expr_tokens s) ++ rest ≡ expr_tokens f ++ tail =
    append_assoc (expr_tokens f) (mark marks.Colon k ∷ expr_tokens s) rest in
    let first : read_binary (suc n) b 10 (expr_tokens c ++ (more ++ rest)) ≡ Found c (more ++ rest) =
    finds_binary n b cb 10 (omega arith) 13 refl c (more ++ rest) is.0 is.1 (omega arith) (omega arith) in
    let lower : ltb (expr_height c) (suc n) ≡ true = lt-ltb (expr_height c) (suc n) (omega arith) in
    let second : b.expression (expr_tokens f ++ tail) ≡ Found f tail =
    cb.expression f tail is.2 (loosest f) (omega arith) (omega arith) in
    let third : b.conditional (expr_tokens s ++ rest) ≡ Found s rest =
    cb.conditional s rest is.3 is.4 (omega arith) stops in
    rw (group, first, lower, inner, second, third) refl)
finds_conditional n b cb (Assignment op l at r) rest is loose low stops = absurd (omega arith)
finds_conditional n b cb (Binary op l at r) rest is loose low stops =
    conditional_tight n b cb (Binary op l at r) rest is (no_comma op loose) low stops
  where
    no_comma : (op : BinaryOp) → binary_level op + 3 ≤ 14 → binary_level op + 3 ≤ 13
    no_comma binary.Comma h = absurd (omega arith)
    no_comma _ h = omega arith
finds_conditional n b cb t rest is loose low stops = conditional_tight n b cb t rest is (omega arith) low stops

assignment_tight : (n : ℕ) (b : Readers) → Complete n b → (t : Expr) (rest : List Token) → IsExpr t → looseness t ≤ 14
    → expr_height t ≤ suc n → Stops 15 rest → read_assignment (suc n) b (expr_tokens t ++ rest) ≡ Found t rest
assignment_tight n b cb t rest is loose low stops =
    rw (
      finds_conditional n b cb t rest is loose low (stops_tighter 15 14 rest stops (omega arith)),
      stops_assign 15 rest stops (omega arith),
    ) refl

pub finds_assignment : (n : ℕ) (b : Readers) → Complete n b → Finds 15 (suc n) (read_assignment (suc n) b)
finds_assignment n b cb (Assignment op l at r) rest is loose low stops =
    (let more : List Token = mark (assign_mark op) at ∷ expr_tokens r in
    let group : (expr_tokens l ++ more) ++ rest ≡ expr_tokens l ++ (more ++ rest) =
    append_assoc (expr_tokens l) more rest in
    let first : read_conditional (suc n) b (expr_tokens l ++ (more ++ rest)) ≡ Found l (more ++ rest) =
    finds_conditional n b cb l (more ++ rest) is.0 (omega (arith, is.1)) (omega arith)
    (omega (arith, assign_joins op)) in
    let tight : leb (looseness l) 2 ≡ true = le-leb (looseness l) 2 is.1 in
    let lower : ltb (expr_height l) (suc n) ≡ true = lt-ltb (expr_height l) (suc n) (omega arith) in
    let second : b.assignment (expr_tokens r ++ rest) ≡ Found r rest =
    cb.assignment r rest is.2 is.3 (omega arith) stops in
    rw (group, first, takes_assign op at (expr_tokens r ++ rest), tight, lower, second) refl)
finds_assignment n b cb (Binary op l at r) rest is loose low stops =
    assignment_tight n b cb (Binary op l at r) rest is (no_comma op loose) low stops
  where
    no_comma : (op : BinaryOp) → binary_level op + 3 ≤ 15 → binary_level op + 3 ≤ 14
    no_comma binary.Comma h = absurd (omega arith)
    no_comma _ h = omega arith
finds_assignment n b cb t rest is loose low stops = assignment_tight n b cb t rest is (omega arith) low stops

pub finds_expression : (n : ℕ) (b : Readers) → Complete n b → Finds 16 (suc n) (read_expression (suc n) b)
finds_expression n b cb =
    finds_infix 13 n 15 16 (read_assignment (suc n) b) b.assignment (omega arith) (λ (x : 13 ≡ 11). omega arith)
    (λ (x : 13 ≡ 12). omega arith) refl refl (finds_assignment n b cb) cb.assignment

-- ---- by height

no_trees : (c : ℕ) (reader : Reader) → Finds c 0 reader
no_trees c reader t rest is loose low stops = absurd (omega (arith, height_above t))

-- the readers for a height find every tree that is at most so high
pub complete : (height : ℕ) → Complete height (readers height)
complete zero =
    record {
      height = ap (λ (r : Readers). r.height) readers-none;
      expression = no_trees 16 (readers 0).expression;
      assignment = no_trees 15 (readers 0).assignment;
      conditional = no_trees 14 (readers 0).conditional;
      binary = λ k h c e. no_trees c ((readers 0).binary k);
      cast = no_trees 3 (readers 0).cast;
      unary = no_trees 2 (readers 0).unary;
    }
complete (suc n) =
    (let cb = complete n in
    let b : Readers = readers n in
    let all : Complete (suc n) (readers_over (suc n) b) = record {
      height = refl;
      expression = finds_expression n b cb;
      assignment = finds_assignment n b cb;
      conditional = finds_conditional n b cb;
      binary = finds_binary n b cb;
      cast = finds_cast n b cb;
      unary = finds_unary n b cb;
    } in
    let P : Readers → Type 0 = λ r. Complete (suc n) r in
    subst P (sym (readers-suc n)) all)
