-- The readings of expressions look one token ahead.
use Rattle.std.proofs.Common.{◌≡◌, ℕ, zero, suc, Bool, true, false, List, [], ◌∷◌, ◌++◌, Some, ltb, leb}
use Rattle.std.proofs.Common.{if◌then◌else◌, refl, ap, subst}
use denote.Enum.Bare.{same_true}
use Rattle.pcc_base.specs.declared.span.Span.{Span}
use Rattle.c_lex.specs.declared.token.Token.{Token}
use Rattle.c_lex.specs.declared.token.TokenKind.{TokenKind}
use Rattle.c_lex.specs.declared.token.TokenKind.TheVariants as kinds
use Rattle.c_lex.specs.declared.token.Punct.TheVariants as marks
use Rattle.c_lex.specs.contracts.token.Punct.{the_type as the_marks}
use Rattle.c_syntax.specs.declared.operator.AssignOp.{AssignOp}
use Rattle.c_syntax.specs.declared.expression.Identifier.{Identifier as Ident}
use Rattle.c_syntax.specs.declared.expression.Specifier.{Specifier}
use Rattle.c_syntax.specs.declared.expression.TextPiece.{TextPiece}
use Rattle.c_syntax.specs.Marks.{mark, word}
use Rattle.c_syntax.specs.Expressions.{Expr, exprs_of, Identifier, Number, Text, Parenthesised, Call, Index}
use Rattle.c_syntax.specs.Expressions.{Postfix, Prefix, Unary, Cast, Binary, Conditional, Assignment}
use Rattle.c_syntax.specs.ExpressionTokens.{expr_height, looseness}
use Rattle.c_grammar.specs.Heads.{begins}
use Rattle.c_grammar.specs.Taking.{is_mark, take_mark, take_unary, take_step, take_assign, take_binary, take_texts}
use Rattle.c_grammar.specs.Taking.{take_specifiers, take_pointer}
use Rattle.c_grammar.specs.Chains.{Reads, Found, Faults, then_read, above, chained}
use Rattle.c_grammar.specs.Taking.{read_mark}
use Rattle.c_grammar.specs.Reading.{Reader, Readers, Values, value_at, value_step, arguments_from, read_arguments}
use Rattle.c_grammar.specs.Reading.{call_from, parenthesised_from, read_primary, postfix_from}
use Rattle.c_grammar.specs.Reading.{suffix_from, suffix_step, read_postfix, unary_from, prefix_from, read_unary}
use Rattle.c_grammar.specs.Reading.{cast_behind, cast_inside, cast_with, cast_from, read_cast, infix_from}
use Rattle.c_grammar.specs.Reading.{infix_step}
use Rattle.c_grammar.specs.Reading.{read_infix, read_binary, conditional_from, read_conditional, assignment_from}
use Rattle.c_grammar.specs.Reading.{read_assignment, read_expression, no_reader, readers}
use Rattle.c_grammar.specs.Laws.{Kept, Ahead}
use Rattle.c_grammar.proofs.Ahead.{found_ahead, faults_ahead, ahead_then, ahead_same, token_alike}
use Rattle.c_grammar.proofs.Ahead.{nothing_alike}
use Rattle.c_grammar.proofs.Ahead.{Behind, Reading, Stuck, behind_kept, behind_above, ahead_choice}
use Rattle.c_grammar.proofs.Ahead.{ahead_unless}
use Rattle.c_grammar.proofs.Ahead.{row_of, ahead_by_row, AheadStep, step_then, step_done, step_choice}
use Rattle.c_grammar.proofs.Ahead.{ahead_chained}
use Rattle.c_grammar.proofs.AheadTokens.{mark_single, unary_single, step_single, assign_single, binary_single}
use Rattle.c_grammar.proofs.AheadTokens.{spell_unary, spell_step, spell_assign, spell_binary, mark_ahead}
use Rattle.c_grammar.proofs.AheadTokens.{specifiers_row, texts_ahead, specifiers_ahead, pointer_ahead}

pub record AreAhead (b : Readers) : Type 0 where
  pub expression : Ahead b.expression
  pub assignment : Ahead b.assignment
  pub conditional : Ahead b.conditional
  pub binary : (k : ℕ) → Ahead (b.binary k)
  pub cast : Ahead b.cast
  pub unary : Ahead b.unary

-- ---- primary

pub value_ahead : (b : Readers) → AreAhead b → (so_far : Values) → AheadStep (value_step b so_far)
value_ahead b p so_far = step_choice (mark marks.Comma) (take_mark marks.Comma) (mark_single marks.Comma)
    (λ o ts. value_at b so_far o)
    (λ comma us. then_read (b.assignment us) (λ e vs. Found (so_far.0 ++ e ∷ [], so_far.1 ++ comma ∷ []) vs))
    step_done (λ comma us ts. step_then (b.assignment us) _ _ (λ e vs. refl))
    (λ comma. Reading (ahead_then b.assignment _ p.assignment
    (λ e. found_ahead (so_far.0 ++ e ∷ [], so_far.1 ++ comma ∷ []))))

pub arguments_ahead : (b : Readers) → AreAhead b → Ahead (read_arguments b)
arguments_ahead b p =
    (let none : Values = ([], []) in
    ahead_unless (mark marks.RightParen) (take_mark marks.RightParen) (mark_single marks.RightParen)
    (arguments_from b) (λ ts. Found none ts)
    (ahead_then b.assignment (λ e us. chained (value_step b) (e ∷ [], []) us) p.assignment
    (λ e. ahead_chained (value_step b) (value_ahead b p) (e ∷ [], [])))
    (found_ahead none) (λ close us ts. refl))

call_ahead : (b : Readers) → AreAhead b → (f : Ident) → Ahead (λ ts. call_from b f (take_mark marks.LeftParen ts) ts)
call_ahead b p f = ahead_choice (mark marks.LeftParen) (take_mark marks.LeftParen) (mark_single marks.LeftParen)
    (call_from b f) (found_ahead (Identifier f))
    (λ o. Reading (ahead_then (read_arguments b) _ (arguments_ahead b p)
    (λ values. ahead_then (read_mark marks.RightParen)
    (λ c ws. Found (Call f o (exprs_of values.0) values.1 c) ws) (mark_ahead marks.RightParen)
    (λ c. found_ahead (Call f o (exprs_of values.0) values.1 c)))))

parenthesis_ahead : (o : Span) (e : Expr)
    → Ahead (λ us. then_read (read_mark marks.RightParen us) (λ c vs. Found (Parenthesised o e c) vs))
parenthesis_ahead o e = ahead_then (read_mark marks.RightParen) (λ c vs. Found (Parenthesised o e c) vs)
    (mark_ahead marks.RightParen) (λ c. found_ahead (Parenthesised o e c))

parenthesised_behind : (b : Readers) → AreAhead b → (o : Span)
    → Behind Expr (mark marks.LeftParen o) (λ us. parenthesised_from b o us)
parenthesised_behind b p o = behind_above 0 b.height (mark marks.LeftParen o) b.expression _ p.expression
    (parenthesis_ahead o)

primary_kept : (b : Readers) → AreAhead b → (kind : TokenKind) (at : Span) (us : List Token)
    → (let t : Token = record { kind = kind; at = at } in Kept (read_primary b) (t ∷ us) (read_primary b (t ∷ us)))
primary_kept b p (kinds.Ident name) at us =
    behind_kept (read_primary b) (record { kind = kinds.Ident name; at = at }) us
    (Reading (call_ahead b p (record { name = name; at = at })))
primary_kept b p (kinds.Number value true) at us =
    behind_kept (read_primary b) (record { kind = kinds.Number value true; at = at }) us (Stuck false (λ xs. refl))
primary_kept b p (kinds.Number value false) at us =
    behind_kept (read_primary b) (record { kind = kinds.Number value false; at = at }) us
    (Reading (found_ahead (Number value at)))
primary_kept b p (kinds.Text bytes) at us =
    (let t : TextPiece = record { bytes = bytes; at = at } in
    behind_kept (read_primary b) (record { kind = kinds.Text bytes; at = at }) us
    (Reading (ahead_then (row_of take_texts) (λ more xs. Found (Text (t ∷ more)) xs) texts_ahead
    (λ more. found_ahead (Text (t ∷ more))))))
primary_kept b p (kinds.Mark m) at us = by (is_mark marks.LeftParen (kinds.Mark m)) refl
  where
    by : (x : Bool) → is_mark marks.LeftParen (kinds.Mark m) ≡ x
        → Kept (read_primary b) (mark m at ∷ us) (read_primary b (mark m at ∷ us))
    by true e = subst (λ n. Kept (read_primary b) (mark n at ∷ us) (read_primary b (mark n at ∷ us)))
        (same_true the_marks tt marks.LeftParen m e)
        (behind_kept (read_primary b) (mark marks.LeftParen at) us (parenthesised_behind b p at))
    by false e = behind_kept (read_primary b) (mark m at) us
        (Stuck false (λ xs. ap (λ x. if x then parenthesised_from b at xs else Faults false (mark m at ∷ xs)) e))
primary_kept b p (kinds.Word w) at us = behind_kept (read_primary b) (word w at) us (Stuck false (λ xs. refl))

pub primary_ahead : (b : Readers) → AreAhead b → Ahead (read_primary b)
primary_ahead b p [] = nothing_alike (read_primary b) (λ xs. Faults false xs) refl (faults_ahead false [])
primary_ahead b p (t ∷ us) = primary_kept b p t.kind t.at us

-- ---- postfix

pub suffix_ahead : (height : ℕ) (b : Readers) → AreAhead b → (base : Expr) → AheadStep (suffix_step height b base)
suffix_ahead height b p base =
    step_choice (mark marks.LeftBracket) (take_mark marks.LeftBracket) (mark_single marks.LeftBracket)
    (suffix_from height b base)
    (λ o us. then_read (above (expr_height base) height (mark marks.LeftBracket o) us (b.expression us))
    (λ e vs. then_read (read_mark marks.RightBracket vs) (λ c ws. Found (Index base o e c) ws)))
    (step_choice spell_step take_step step_single (λ o ts. postfix_from height base o)
    (λ op us. then_read (above (expr_height base) height (spell_step op) us (Found op us))
    (λ _ vs. Found (Postfix base op.0 op.1) vs))
    step_done (λ op us ts. step_then (above (expr_height base) height (spell_step op) us (Found op us)) _ _
    (λ _ vs. refl))
    (λ op. behind_above (expr_height base) height (spell_step op) (λ us. Found op us) _ (found_ahead op)
    (λ _. found_ahead (Postfix base op.0 op.1))))
    (λ o us ts. step_then (above (expr_height base) height (mark marks.LeftBracket o) us (b.expression us)) _ _
    (λ e vs. step_then (read_mark marks.RightBracket vs) _ _ (λ c ws. refl)))
    (λ o. behind_above (expr_height base) height (mark marks.LeftBracket o) b.expression _ p.expression
    (λ e. ahead_then (read_mark marks.RightBracket) (λ c ws. Found (Index base o e c) ws)
    (mark_ahead marks.RightBracket) (λ c. found_ahead (Index base o e c))))

suffixes_ahead : (height : ℕ) (b : Readers) → AreAhead b → (e : Expr) → Ahead (chained (suffix_step height b) e)
suffixes_ahead height b p e = ahead_chained (suffix_step height b) (suffix_ahead height b p) e

pub postfix_ahead : (height : ℕ) (b : Readers) → AreAhead b → Ahead (read_postfix height b)
postfix_ahead height b p = ahead_then (read_primary b) (λ e us. chained (suffix_step height b) e us)
    (primary_ahead b p) (suffixes_ahead height b p)

-- ---- unary and cast

pub unary_ahead : (height : ℕ) (b : Readers) → AreAhead b → Ahead (read_unary height b)
unary_ahead height b p = ahead_choice spell_step take_step step_single (prefix_from height b)
    (ahead_choice spell_unary take_unary unary_single (unary_from height b) (postfix_ahead height b p)
    (λ op. behind_above 0 b.height (spell_unary op) b.cast _ p.cast (λ e. found_ahead (Unary op.0 op.1 e))))
    (λ op. behind_above 0 b.height (spell_step op) b.unary _ p.unary (λ e. found_ahead (Prefix op.0 op.1 e)))

cast_behind_ahead : (b : Readers) → AreAhead b → (o : Span)
    → Ahead (λ us. cast_behind b o (take_specifiers us).0 (take_pointer (take_specifiers us).1))
cast_behind_ahead b p o =
    ahead_then (row_of take_specifiers) (λ ss us. cast_behind b o ss (take_pointer us)) specifiers_ahead
    (λ ss. ahead_then (row_of take_pointer) (λ star us. cast_behind b o ss (star, us)) pointer_ahead
    (λ star. ahead_then (read_mark marks.RightParen)
    (λ c us. then_read (b.cast us) (λ e vs. Found (Cast o ss star c e) vs)) (mark_ahead marks.RightParen)
    (λ c. ahead_then b.cast (λ e vs. Found (Cast o ss star c e) vs) p.cast (λ e. found_ahead (Cast o ss star c e)))))

abbrev parens_if : Readers → Span → Bool → List Token → Reads Expr
parens_if b o x us = then_read (if x then b.expression us else Faults true (mark marks.LeftParen o ∷ us))
    (λ e vs. then_read (read_mark marks.RightParen vs) (λ c ws. Found (Parenthesised o e c) ws))

abbrev casts_if : Readers → Span → Bool → List Token → Reads Expr
casts_if b o x us = if x then cast_behind b o (take_specifiers us).0 (take_pointer (take_specifiers us).1)
    else Faults true (mark marks.LeftParen o ∷ us)

-- behind the `(`, where there is room: whether it is a cast is seen at the next token
opened_behind : (height : ℕ) (b : Readers) → AreAhead b → (o : Span) → Behind Expr (mark marks.LeftParen o)
    (λ us. cast_from height b (Some (o, us)) (mark marks.LeftParen o ∷ us))
opened_behind height b p o = by (ltb 0 b.height) refl
  where
    low : ltb 0 b.height ≡ false → (us : List Token) (ss : List Specifier)
        → cast_with height b o ss us (mark marks.LeftParen o ∷ us) ≡ Faults true (mark marks.LeftParen o ∷ us)
    low e us [] = ap (λ x. then_read (parens_if b o x us) (λ a vs. chained (suffix_step height b) a vs)) e
    low e us (s ∷ ss) = ap (λ x. casts_if b o x us) e

    by : (x : Bool) → ltb 0 b.height ≡ x → Behind Expr (mark marks.LeftParen o)
        (λ us. cast_from height b (Some (o, us)) (mark marks.LeftParen o ∷ us))
    by true e = Reading (ahead_by_row take_specifiers specifiers_row
        (λ ss us. cast_with height b o ss us (mark marks.LeftParen o ∷ us)) (λ us. cast_inside b o us)
        (ahead_then (parenthesised_from b o) (λ a vs. chained (suffix_step height b) a vs)
        (ahead_same (parenthesised_from b o) (parens_if b o true) (λ xs. ap (λ x. parens_if b o x xs) e)
        (ahead_then b.expression _ p.expression (parenthesis_ahead o)))
        (suffixes_ahead height b p))
        (ahead_same (cast_inside b o) (casts_if b o true) (λ xs. ap (λ x. casts_if b o x xs) e)
        (cast_behind_ahead b p o))
        (λ s ss ts. refl))
    by false e = Stuck true (λ xs. low e xs (take_specifiers xs).0)

pub cast_ahead : (height : ℕ) (b : Readers) → AreAhead b → Ahead (read_cast height b)
cast_ahead height b p = ahead_choice (mark marks.LeftParen) (take_mark marks.LeftParen) (mark_single marks.LeftParen)
    (cast_from height b) (unary_ahead height b p) (opened_behind height b p)

-- ---- operators between operands

pub infix_ahead : (level height : ℕ) (right : Reader) → Ahead right → (left : Expr)
    → AheadStep (infix_step level height right left)
infix_ahead level height right p left = step_choice spell_binary (take_binary level) (binary_single level)
    (λ o ts. infix_from height right left o)
    (λ op us. then_read (above (expr_height left) height (spell_binary op) us (right us))
    (λ e vs. Found (Binary op.0 left op.1 e) vs))
    step_done (λ op us ts. step_then (above (expr_height left) height (spell_binary op) us (right us)) _ _
    (λ e vs. refl))
    (λ op. behind_above (expr_height left) height (spell_binary op) right _ p
    (λ e. found_ahead (Binary op.0 left op.1 e)))

pub read_infix_ahead : (level height : ℕ) (operand right : Reader) → Ahead operand → Ahead right
    → Ahead (read_infix level height operand right)
read_infix_ahead level height operand right po pr =
    ahead_then operand (λ e us. chained (infix_step level height right) e us) po
    (λ e. ahead_chained (infix_step level height right) (infix_ahead level height right pr) e)

pub binary_ahead : (height : ℕ) (b : Readers) → AreAhead b → (k : ℕ) → Ahead (read_binary height b k)
binary_ahead height b p zero = cast_ahead height b p
binary_ahead height b p (suc k) = read_infix_ahead (suc k) height (read_binary height b k) (b.binary k)
    (binary_ahead height b p k) (p.binary k)

-- ---- conditional, assignment and expression

pub conditional_ahead : (height : ℕ) (b : Readers) → AreAhead b → Ahead (read_conditional height b)
conditional_ahead height b p = ahead_then (read_binary height b 10)
    (λ c us. conditional_from height b c (take_mark marks.Question us) us) (binary_ahead height b p 10)
    (λ c. ahead_choice (mark marks.Question) (take_mark marks.Question) (mark_single marks.Question)
    (conditional_from height b c) (found_ahead c)
    (λ q. behind_above (expr_height c) height (mark marks.Question q) b.expression _ p.expression
    (λ f. ahead_then (read_mark marks.Colon)
    (λ k ws. then_read (b.conditional ws) (λ s xs. Found (Conditional c q f k s) xs)) (mark_ahead marks.Colon)
    (λ k. ahead_then b.conditional (λ s xs. Found (Conditional c q f k s) xs) p.conditional
    (λ s. found_ahead (Conditional c q f k s))))))

assigned_behind : (height : ℕ) (b : Readers) → AreAhead b → (l : Expr) (op : AssignOp × Span)
    → Behind Expr (spell_assign op) (λ us. assignment_from height b l (Some (op, us)) (spell_assign op ∷ us))
assigned_behind height b p l op = by (leb (looseness l) 2)
  where
    by : (x : Bool) → Behind Expr (spell_assign op) (λ us. if x then then_read
        (above (expr_height l) height (spell_assign op) us (b.assignment us))
        (λ r vs. Found (Assignment op.0 l op.1 r) vs) else Faults false (spell_assign op ∷ us))
    by true = behind_above (expr_height l) height (spell_assign op) b.assignment _ p.assignment
        (λ r. found_ahead (Assignment op.0 l op.1 r))
    by false = Stuck false (λ xs. refl)

pub assignment_ahead : (height : ℕ) (b : Readers) → AreAhead b → Ahead (read_assignment height b)
assignment_ahead height b p = ahead_then (read_conditional height b)
    (λ l us. assignment_from height b l (take_assign us) us) (conditional_ahead height b p)
    (λ l. ahead_choice spell_assign take_assign assign_single (assignment_from height b l) (found_ahead l)
    (assigned_behind height b p l))

pub expression_ahead : (height : ℕ) (b : Readers) → AreAhead b → Ahead (read_expression height b)
expression_ahead height b p = read_infix_ahead 13 height (read_assignment height b) b.assignment
    (assignment_ahead height b p) p.assignment

-- ---- by height

pub no_reader_ahead : Ahead no_reader
no_reader_ahead [] = nothing_alike no_reader (λ xs. Faults false xs) refl (faults_ahead false [])
no_reader_ahead (t ∷ us) = token_alike no_reader (λ xs. Faults (begins t.kind) xs) t us (λ xs. refl)
    (faults_ahead (begins t.kind) (t ∷ us))

pub readers_ahead : (height : ℕ) → AreAhead (readers height)
unfolding readers
readers_ahead zero = record {
  expression = no_reader_ahead;
  assignment = no_reader_ahead;
  conditional = no_reader_ahead;
  binary = λ k. no_reader_ahead;
  cast = no_reader_ahead;
  unary = no_reader_ahead;
}
readers_ahead (suc n) =
    (let p = readers_ahead n in
    record {
      expression = expression_ahead (suc n) (readers n) p;
      assignment = assignment_ahead (suc n) (readers n) p;
      conditional = conditional_ahead (suc n) (readers n) p;
      binary = binary_ahead (suc n) (readers n) p;
      cast = cast_ahead (suc n) (readers n) p;
      unary = unary_ahead (suc n) (readers n) p;
    })
