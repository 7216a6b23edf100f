-- Reading an expression from the front of a list of tokens, where its height may be at most so much.
use Rattle.std.specs.Prelude.{ℕ, zero, suc, true, false, List, [], ◌∷◌, ◌++◌, Option, Some, None, nat_le}
use Rattle.std.specs.Prelude.{if◌then◌else◌}
use Rattle.pcc_base.specs.declared.span.Span.{Span}
use Rattle.c_lex.specs.declared.token.Token.{Token}
use Rattle.c_lex.specs.declared.token.TokenKind.{TokenKind}
use Rattle.c_lex.specs.declared.token.TokenKind.TheVariants as kinds
use Rattle.c_lex.specs.declared.token.Punct.TheVariants as marks
use Rattle.c_syntax.specs.declared.operator.BinaryOp.{BinaryOp}
use Rattle.c_syntax.specs.declared.operator.UnaryOp.{UnaryOp}
use Rattle.c_syntax.specs.declared.operator.StepOp.{StepOp}
use Rattle.c_syntax.specs.declared.operator.AssignOp.{AssignOp}
use Rattle.c_syntax.specs.declared.expression.Identifier.{Identifier as Ident}
use Rattle.c_syntax.specs.declared.expression.Specifier.{Specifier}
use Rattle.c_syntax.specs.declared.expression.TextPiece.{TextPiece}
use Rattle.c_syntax.specs.Marks.{mark, word, binary_mark, unary_mark, step_mark, assign_mark}
use Rattle.c_syntax.specs.Expressions.{Star, Expr, exprs_of, Identifier, Number, Text, Parenthesised, Call, Index}
use Rattle.c_syntax.specs.Expressions.{Postfix, Prefix, Unary, Cast, Binary, Conditional, Assignment}
use Rattle.c_syntax.specs.ExpressionTokens.{expr_height, looseness}
use Rattle.c_grammar.specs.Chains.{Step, Done, Goes, Takes, Reads, Found, Faults, then_read, then_step, above}
use Rattle.c_grammar.specs.Chains.{room, chained}
use Rattle.c_grammar.specs.Heads.{begins}
use Rattle.c_grammar.specs.Taking.{is_mark, take_mark, take_unary, take_step, take_assign, take_binary, take_texts}
use Rattle.c_grammar.specs.Taking.{read_mark}
use Rattle.c_grammar.specs.Taking.{take_specifiers, take_pointer}

abbrev pub Reader : Type 0
Reader = List Token → Reads Expr

-- readers of the rules, for trees of at most this height
pub record Readers : Type 0 where
  pub height : ℕ
  pub expression : Reader
  pub assignment : Reader
  pub conditional : Reader
  pub binary : ℕ → Reader
  pub cast : Reader
  pub unary : Reader

-- several values, and the commas between them
abbrev pub Values : Type 0
Values = List Expr × List Span

-- ---- primary

-- one more value behind a comma
abbrev pub value_at : Readers → Values → Takes Span → Step Values
value_at below so_far None = Done
value_at below so_far (Some (comma, ts)) =
    then_step (below.assignment ts) (λ e us. Goes (so_far.0 ++ e ∷ [], so_far.1 ++ comma ∷ []) us)

abbrev pub value_step : Readers → Values → List Token → Step Values
value_step below so_far ts = value_at below so_far (take_mark marks.Comma ts)

abbrev pub arguments_from : Readers → Takes Span → List Token → Reads Values
arguments_from below (Some close) ts = Found ([], []) ts
arguments_from below None ts = then_read (below.assignment ts) (λ e us. chained (value_step below) (e ∷ [], []) us)

abbrev pub read_arguments : Readers → List Token → Reads Values
read_arguments below ts = arguments_from below (take_mark marks.RightParen ts) ts

abbrev pub call_from : Readers → Ident → Takes Span → List Token → Reads Expr
call_from below f None ts = Found (Identifier f) ts
call_from below f (Some (o, us)) ts =
    then_read (read_arguments below us) (λ values vs.
    then_read (read_mark marks.RightParen vs) (λ c ws. Found (Call f o (exprs_of values.0) values.1 c) ws))

abbrev pub parenthesised_from : Readers → Span → List Token → Reads Expr
parenthesised_from below o ts =
    then_read (room below.height (mark marks.LeftParen o) ts (below.expression ts))
    (λ e us. then_read (read_mark marks.RightParen us) (λ c vs. Found (Parenthesised o e c) vs))

abbrev pub text_from : TextPiece → List TextPiece × List Token → Reads Expr
text_from first others = Found (Text (first ∷ others.0)) others.1

abbrev pub primary_at : Readers → TokenKind → Span → List Token → Reads Expr
primary_at below (kinds.Ident name) at ts =
    call_from below (record { name = name; at = at }) (take_mark marks.LeftParen ts) ts
primary_at below (kinds.Number value true) at ts = Faults false (record { kind = kinds.Number value true; at = at } ∷ ts)
primary_at below (kinds.Number value false) at ts = Found (Number value at) ts
primary_at below (kinds.Text bytes) at ts = text_from (record { bytes = bytes; at = at }) (take_texts ts)
primary_at below (kinds.Mark m) at ts = if is_mark marks.LeftParen (kinds.Mark m) then parenthesised_from below at ts
    else Faults false (mark m at ∷ ts)
primary_at below (kinds.Word w) at ts = Faults false (word w at ∷ ts)

abbrev pub read_primary : Readers → List Token → Reads Expr
read_primary below [] = Faults false []
read_primary below (t ∷ ts) = primary_at below t.kind t.at ts

-- ---- postfix

abbrev pub index_from : ℕ → Readers → Expr → Span → List Token → Step Expr
index_from height below base o ts =
    then_step (above (expr_height base) height (mark marks.LeftBracket o) ts (below.expression ts))
    (λ e us. then_step (read_mark marks.RightBracket us) (λ c vs. Goes (Index base o e c) vs))

abbrev pub postfix_from : ℕ → Expr → Takes (StepOp × Span) → Step Expr
postfix_from height base None = Done
postfix_from height base (Some (op, ts)) =
    then_step (above (expr_height base) height (mark (step_mark op.0) op.1) ts (Found op ts))
    (λ _ us. Goes (Postfix base op.0 op.1) us)

abbrev pub suffix_from : ℕ → Readers → Expr → Takes Span → List Token → Step Expr
suffix_from height below base (Some (o, us)) ts = index_from height below base o us
suffix_from height below base None ts = postfix_from height base (take_step ts)

abbrev pub suffix_step : ℕ → Readers → Expr → List Token → Step Expr
suffix_step height below base ts = suffix_from height below base (take_mark marks.LeftBracket ts) ts

abbrev pub read_postfix : ℕ → Readers → List Token → Reads Expr
read_postfix height below ts = then_read (read_primary below ts) (λ e us. chained (suffix_step height below) e us)

-- ---- unary and cast

abbrev pub unary_from : ℕ → Readers → Takes (UnaryOp × Span) → List Token → Reads Expr
unary_from height below (Some (op, us)) ts =
    then_read (room below.height (mark (unary_mark op.0) op.1) us (below.cast us))
    (λ e vs. Found (Unary op.0 op.1 e) vs)
unary_from height below None ts = read_postfix height below ts

abbrev pub prefix_from : ℕ → Readers → Takes (StepOp × Span) → List Token → Reads Expr
prefix_from height below (Some (op, us)) ts =
    then_read (room below.height (mark (step_mark op.0) op.1) us (below.unary us))
    (λ e vs. Found (Prefix op.0 op.1 e) vs)
prefix_from height below None ts = unary_from height below (take_unary ts) ts

abbrev pub read_unary : ℕ → Readers → List Token → Reads Expr
read_unary height below ts = prefix_from height below (take_step ts) ts

abbrev pub cast_behind : Readers → Span → List Specifier → Option Star × List Token → Reads Expr
cast_behind below o specifiers pointer =
    then_read (read_mark marks.RightParen pointer.1)
    (λ c vs. then_read (below.cast vs) (λ e ws. Found (Cast o specifiers pointer.0 c e) ws))

-- behind the `(`
abbrev pub cast_inside : Readers → Span → List Token → Reads Expr
cast_inside below o us = room below.height (mark marks.LeftParen o) us
    (cast_behind below o (take_specifiers us).0 (take_pointer (take_specifiers us).1))

abbrev pub cast_with : ℕ → Readers → Span → List Specifier → List Token → List Token → Reads Expr
cast_with height below o [] us ts = read_unary height below ts
cast_with height below o (s ∷ ss) us ts = cast_inside below o us

abbrev pub cast_from : ℕ → Readers → Takes Span → List Token → Reads Expr
cast_from height below None ts = read_unary height below ts
cast_from height below (Some (o, us)) ts = cast_with height below o (take_specifiers us).0 us ts

abbrev pub read_cast : ℕ → Readers → List Token → Reads Expr
read_cast height below ts = cast_from height below (take_mark marks.LeftParen ts) ts

-- ---- operators between operands

abbrev pub infix_from : ℕ → Reader → Expr → Takes (BinaryOp × Span) → Step Expr
infix_from height right left None = Done
infix_from height right left (Some (op, ts)) =
    then_step (above (expr_height left) height (mark (binary_mark op.0) op.1) ts (right ts))
    (λ e us. Goes (Binary op.0 left op.1 e) us)

-- one more operator of a level, and its right operand
abbrev pub infix_step : ℕ → ℕ → Reader → Expr → List Token → Step Expr
infix_step level height right left ts = infix_from height right left (take_binary level ts)

-- operands with operators of one level between them
abbrev pub read_infix : ℕ → ℕ → Reader → Reader → List Token → Reads Expr
read_infix level height operand right ts = then_read (operand ts) (λ e us. chained (infix_step level height right) e us)

abbrev pub read_binary : ℕ → Readers → ℕ → List Token → Reads Expr
read_binary height below zero ts = read_cast height below ts
read_binary height below (suc k) ts = read_infix (suc k) height (read_binary height below k) (below.binary k) ts

-- ---- conditional, assignment and expression

abbrev pub conditional_from : ℕ → Readers → Expr → Takes Span → List Token → Reads Expr
conditional_from height below c None ts = Found c ts
conditional_from height below c (Some (q, us)) ts =
    then_read (above (expr_height c) height (mark marks.Question q) us (below.expression us))
    (λ f vs. then_read (read_mark marks.Colon vs)
    (λ k ws. then_read (below.conditional ws) (λ s xs. Found (Conditional c q f k s) xs)))

abbrev pub read_conditional : ℕ → Readers → List Token → Reads Expr
read_conditional height below ts =
    then_read (read_binary height below 10 ts)
    (λ c us. conditional_from height below c (take_mark marks.Question us) us)

abbrev pub assignment_from : ℕ → Readers → Expr → Takes (AssignOp × Span) → List Token → Reads Expr
assignment_from height below l None ts = Found l ts
assignment_from height below l (Some (op, us)) ts =
    if nat_le (looseness l) 2 then then_read
    (above (expr_height l) height (mark (assign_mark op.0) op.1) us (below.assignment us))
    (λ r vs. Found (Assignment op.0 l op.1 r) vs) else Faults false (mark (assign_mark op.0) op.1 ∷ us)

abbrev pub read_assignment : ℕ → Readers → List Token → Reads Expr
read_assignment height below ts =
    then_read (read_conditional height below ts) (λ l us. assignment_from height below l (take_assign us) us)

abbrev pub read_expression : ℕ → Readers → List Token → Reads Expr
read_expression height below ts = read_infix 13 height (read_assignment height below) below.assignment ts

-- ---- by height

-- the fault where an expression has to come, and none may be so low: it is too deep, where one begins there
abbrev pub no_reader : Reader
no_reader [] = Faults false []
no_reader (t ∷ ts) = Faults (begins t.kind) (t ∷ ts)

abbrev no_binary : ℕ → Reader
no_binary k ts = no_reader ts

abbrev pub no_readers : Readers
no_readers = record {
  height = 0;
  expression = no_reader;
  assignment = no_reader;
  conditional = no_reader;
  binary = no_binary;
  cast = no_reader;
  unary = no_reader;
}

-- the readers for a height, by those for one less
abbrev pub readers_over : ℕ → Readers → Readers
readers_over height below =
    record {
      height = height;
      expression = read_expression height below;
      assignment = read_assignment height below;
      conditional = read_conditional height below;
      binary = read_binary height below;
      cast = read_cast height below;
      unary = read_unary height below;
    }

unfoldable pub readers : ℕ → Readers
readers zero = no_readers
readers (suc height) = readers_over (suc height) (readers height)
