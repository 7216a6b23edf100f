-- With which tokens an expression begins.
use Rattle.std.proofs.Common.{◌≡◌, ℕ, ◌≤◌, true, false, List, [], ◌∷◌, ◌++◌, None, refl, ap, sym, ◌∙◌, subst, arith}
use Rattle.std.proofs.Common.{append_assoc}
use Rattle.pcc_base.specs.declared.span.Span.{Span}
use Rattle.pcc_base.specs.declared.keyword.Keyword.{Keyword}
use Rattle.c_lex.specs.declared.token.Token.{Token}
use Rattle.c_lex.specs.declared.token.TokenKind.{TokenKind}
use Rattle.c_lex.specs.declared.token.TokenKind.TheVariants as kinds
use Rattle.c_lex.specs.declared.token.Punct.{Punct}
use Rattle.c_lex.specs.declared.token.Punct.TheVariants as marks
use Rattle.c_syntax.specs.declared.operator.UnaryOp.{UnaryOp}
use Rattle.c_syntax.specs.declared.operator.UnaryOp.TheVariants as unary
use Rattle.c_syntax.specs.declared.operator.StepOp.{StepOp}
use Rattle.c_syntax.specs.declared.operator.StepOp.TheVariants as step
use Rattle.c_syntax.specs.Marks.{mark, unary_mark, step_mark}
use Rattle.c_syntax.specs.Expressions.{Expr, Identifier, Number, Text, Parenthesised, Call, Index, Postfix, Prefix}
use Rattle.c_syntax.specs.Expressions.{Unary, Cast, Binary, Conditional, Assignment}
use Rattle.c_syntax.specs.ExpressionTokens.{expr_tokens, looseness, IsExpr}
use denote.Enum.Bare.{false_same}
use Rattle.c_lex.specs.contracts.token.Punct.{the_type as the_marks}
use Rattle.c_grammar.specs.Taking.{is_mark, is_word, take_word, of_mark, unary_of_mark, step_of_mark, specifier_of}
use Rattle.c_grammar.specs.Taking.{take_mark, take_step, take_unary, take_specifiers}
use Rattle.c_grammar.specs.Reading.{Readers, read_cast, read_unary}
use Rattle.c_grammar.specs.Heads.{begins, begins_primary, mark_begins, mark_begins_primary}

-- the first token of an expression
pub record Head (t : Expr) : Type 0 where
  pub first : Token
  pub others : List Token
  pub is : expr_tokens t ≡ first ∷ others
  pub begins_it : begins first.kind ≡ true
  pub tight : looseness t ≤ 1 → begins_primary first.kind ≡ true

step_begins : (op : StepOp) → mark_begins (step_mark op) ≡ true
step_begins step.Increment = refl
step_begins step.Decrement = refl

unary_begins : (op : UnaryOp) → mark_begins (unary_mark op) ≡ true
unary_begins unary.AddressOf = refl
unary_begins unary.Dereference = refl
unary_begins unary.Plus = refl
unary_begins unary.Minus = refl
unary_begins unary.Complement = refl
unary_begins unary.Not = refl

-- the first token of what begins with an expression
longer : (b t : Expr) (more : List Token) → Head b → expr_tokens t ≡ expr_tokens b ++ more
    → (looseness t ≤ 1 → looseness b ≤ 1) → Head t
longer b t more h e le =
    record {
      first = h.first;
      others = h.others ++ more;
      is = e ∙ (rw h.is refl);
      begins_it = h.begins_it;
      tight = λ l. h.tight (le l);
    }

pub head_of : (t : Expr) → IsExpr t → Head t
head_of (Identifier name) is = record { first = _; others = []; is = refl; begins_it = refl; tight = λ l. refl }
head_of (Number value at) is = record { first = _; others = []; is = refl; begins_it = refl; tight = λ l. refl }
head_of (Text []) is = absurd is
head_of (Text (p ∷ ps)) is = record { first = _; others = _; is = refl; begins_it = refl; tight = λ l. refl }
head_of (Parenthesised o e c) is = record {
  first = mark marks.LeftParen o;
  others = _;
  is = refl;
  begins_it = refl;
  tight = λ l. refl;
}
head_of (Call f o arguments commas c) is =
    record { first = _; others = _; is = refl; begins_it = refl; tight = λ l. refl }
head_of (Index b o e c) is = longer b (Index b o e c) _ (head_of b is.0) refl (λ l. is.1)
head_of (Postfix b op at) is = longer b (Postfix b op at) _ (head_of b is.0) refl (λ l. is.1)
head_of (Prefix op at e) is = record {
  first = mark (step_mark op) at;
  others = _;
  is = refl;
  begins_it =
      step_begins op;
  tight = λ l. absurd (omega arith);
}
head_of (Unary op at e) is = record {
  first = mark (unary_mark op) at;
  others = _;
  is = refl;
  begins_it =
      unary_begins op;
  tight = λ l. absurd (omega arith);
}
head_of (Cast o specifiers pointer c e) is =
    record {
      first = mark marks.LeftParen o;
      others = _;
      is = refl;
      begins_it = refl;
      tight =
          λ l. absurd (omega arith);
    }
head_of (Binary op l at r) is = longer l (Binary op l at r) _ (head_of l is.0) refl (λ le. absurd (omega arith))
head_of (Conditional c q f k s) is = longer c (Conditional c q f k s) _ (head_of c is.0) refl
    (λ le. absurd (omega arith))
head_of (Assignment op l at r) is = longer l (Assignment op l at r) _ (head_of l is.0) refl (λ le. absurd (omega arith))

-- ---- what such a token is not

no_step_mark : (n : Punct) → mark_begins_primary n ≡ true → step_of_mark n ≡ None
no_step_mark marks.PlusPlus h = absurd (let no : false ≡ true = h in cc)
no_step_mark marks.MinusMinus h = absurd (let no : false ≡ true = h in cc)
no_step_mark _ h = refl

no_unary_mark : (n : Punct) → mark_begins_primary n ≡ true → unary_of_mark n ≡ None
no_unary_mark marks.And h = absurd (let no : false ≡ true = h in cc)
no_unary_mark marks.Star h = absurd (let no : false ≡ true = h in cc)
no_unary_mark marks.Plus h = absurd (let no : false ≡ true = h in cc)
no_unary_mark marks.Minus h = absurd (let no : false ≡ true = h in cc)
no_unary_mark marks.Tilde h = absurd (let no : false ≡ true = h in cc)
no_unary_mark marks.Bang h = absurd (let no : false ≡ true = h in cc)
no_unary_mark _ h = refl

no_step : (kind : TokenKind) → begins_primary kind ≡ true → of_mark step_of_mark kind ≡ None
no_step (kinds.Mark n) h = no_step_mark n h
no_step _ h = refl

no_unary : (kind : TokenKind) → begins_primary kind ≡ true → of_mark unary_of_mark kind ≡ None
no_unary (kinds.Mark n) h = no_unary_mark n h
no_unary _ h = refl

pub no_specifier : (kind : TokenKind) → begins kind ≡ true → specifier_of kind ≡ None
no_specifier (kinds.Word w) h = absurd (let no : false ≡ true = h in cc)
no_specifier _ h = refl

no_mark : (m : Punct) (kind : TokenKind) → mark_begins m ≡ false → begins kind ≡ true → is_mark m kind ≡ false
no_mark m (kinds.Mark n) h b = false_same the_marks tt m n
    (λ (e : m ≡ n). absurd (let wrong : false ≡ true = sym h ∙ (ap mark_begins e ∙ b) in cc))
no_mark m (kinds.Word w) h b = refl
no_mark m (kinds.Ident name) h b = refl
no_mark m (kinds.Number value u) h b = refl
no_mark m (kinds.Text bytes) h b = refl

no_word : (w : Keyword) (kind : TokenKind) → begins kind ≡ true → is_word w kind ≡ false
no_word w (kinds.Word v) b = absurd (let wrong : false ≡ true = b in cc)
no_word w _ b = refl

-- an expression begins with no mark that begins none, and with no word
pub expression_no_mark : (m : Punct) (t : Expr) (rest : List Token) → IsExpr t → mark_begins m ≡ false
    → take_mark m (expr_tokens t ++ rest) ≡ None
expression_no_mark m t rest is e = (let h = head_of t is in rw (h.is, no_mark m h.first.kind e h.begins_it) refl)

pub expression_no_word : (w : Keyword) (t : Expr) (rest : List Token) → IsExpr t → take_word w (expr_tokens t ++ rest)
    ≡ None
expression_no_word w t rest is = (let h = head_of t is in rw (h.is, no_word w h.first.kind h.begins_it) refl)

-- a postfix expression begins with no operator
pub postfix_no_step : (t : Expr) (rest : List Token) → IsExpr t → looseness t ≤ 1 → take_step (expr_tokens t ++ rest)
    ≡ None
postfix_no_step t rest is le = (let h = head_of t is in rw (h.is, no_step h.first.kind (h.tight le)) refl)

pub postfix_no_unary : (t : Expr) (rest : List Token) → IsExpr t → looseness t ≤ 1 → take_unary (expr_tokens t ++ rest)
    ≡ None
postfix_no_unary t rest is le = (let h = head_of t is in rw (h.is, no_unary h.first.kind (h.tight le)) refl)

-- no specifier begins an expression
pub expression_no_specifiers : (t : Expr) (rest : List Token) → IsExpr t → take_specifiers (expr_tokens t ++ rest)
    ≡ ([], expr_tokens t ++ rest)
expression_no_specifiers t rest is = (let h = head_of t is in rw (h.is, no_specifier h.first.kind h.begins_it) refl)

-- ---- what is no cast

pub no_opening : (height : ℕ) (below : Readers) (ts : List Token) → take_mark marks.LeftParen ts ≡ None
    → read_cast height below ts ≡ read_unary height below ts
no_opening height below ts e = rw e refl

pub unary_no_paren : (op : UnaryOp) (at : Span) (ts : List Token) → take_mark marks.LeftParen (mark (unary_mark op) at ∷ ts)
    ≡ None
unary_no_paren unary.AddressOf at ts = refl
unary_no_paren unary.Dereference at ts = refl
unary_no_paren unary.Plus at ts = refl
unary_no_paren unary.Minus at ts = refl
unary_no_paren unary.Complement at ts = refl
unary_no_paren unary.Not at ts = refl

pub step_no_paren : (op : StepOp) (at : Span) (ts : List Token) → take_mark marks.LeftParen (mark (step_mark op) at ∷ ts)
    ≡ None
step_no_paren step.Increment at ts = refl
step_no_paren step.Decrement at ts = refl

-- what is read as a cast is read as a unary expression, where it is one
abbrev IsNoCast : ℕ → Readers → List Token → Type 0
IsNoCast height below ts = read_cast height below ts ≡ read_unary height below ts

pub no_cast : (height : ℕ) (below : Readers) (t : Expr) (rest : List Token) → IsExpr t → looseness t ≤ 2
    → IsNoCast height below (expr_tokens t ++ rest)
no_cast height below (Identifier name) rest is le = refl
no_cast height below (Number value at) rest is le = refl
no_cast height below (Text []) rest is le = absurd is
no_cast height below (Text (p ∷ ps)) rest is le = refl
no_cast height below (Parenthesised o e c) rest is le =
    (let g : (expr_tokens e ++ mark marks.RightParen c ∷ []) ++ rest ≡ expr_tokens e ++ mark marks.RightParen c ∷ rest =
    append_assoc (expr_tokens e) (mark marks.RightParen c ∷ []) rest in
    rw (g, expression_no_specifiers e (mark marks.RightParen c ∷ rest) is) refl)
no_cast height below (Call f o arguments commas c) rest is le = refl
no_cast height below (Index b o e c) rest is le =
    (let more : List Token = mark marks.LeftBracket o ∷ expr_tokens e ++ mark marks.RightBracket c ∷ [] in
    let P : List Token → Type 0 = λ ts. IsNoCast height below ts in
    subst P (sym (append_assoc (expr_tokens b) more rest))
    (no_cast height below b (more ++ rest) is.0 (omega (arith, is.1))))
no_cast height below (Postfix b op at) rest is le =
    (let more : List Token = mark (step_mark op) at ∷ [] in
    let P : List Token → Type 0 = λ ts. IsNoCast height below ts in
    subst P (sym (append_assoc (expr_tokens b) more rest))
    (no_cast height below b (more ++ rest) is.0 (omega (arith, is.1))))
no_cast height below (Prefix op at e) rest is le =
    no_opening height below (mark (step_mark op) at ∷ (expr_tokens e ++ rest))
    (step_no_paren op at (expr_tokens e ++ rest))
no_cast height below (Unary op at e) rest is le =
    no_opening height below (mark (unary_mark op) at ∷ (expr_tokens e ++ rest))
    (unary_no_paren op at (expr_tokens e ++ rest))
no_cast height below (Cast o specifiers pointer c e) rest is le = absurd (omega arith)
no_cast height below (Binary op l at r) rest is le = absurd (omega arith)
no_cast height below (Conditional c q f k s) rest is le = absurd (omega arith)
no_cast height below (Assignment op l at r) rest is le = absurd (omega arith)
