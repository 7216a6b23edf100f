-- Where the reading of a rule ends: the next token goes on with no tree of that rule.
use Rattle.std.proofs.Common.{◌≡◌, ℕ, ◌+◌, ◌≤◌, ◌<◌, false, List, [], ◌∷◌, ◌++◌, Option, Some, None, MatchOption, eqb}
use Rattle.std.proofs.Common.{refl, subst, arith}
use Rattle.std.proofs.lemmas.Bool.Decides.{nat_tests}
use denote.Enum.Bare.{false_same}
use Rattle.pcc_base.specs.declared.span.Span.{Span}
use Rattle.c_lex.specs.declared.token.Token.{Token}
use Rattle.c_lex.specs.declared.token.TokenKind.{TokenKind}
use Rattle.c_lex.specs.declared.token.TokenKind.TheVariants as kinds
use Rattle.c_lex.specs.declared.token.Punct.{Punct}
use Rattle.c_lex.specs.declared.token.Punct.TheVariants as marks
use Rattle.c_lex.specs.contracts.token.Punct.{the_type as the_marks}
use Rattle.c_syntax.specs.declared.operator.BinaryOp.{BinaryOp}
use Rattle.c_syntax.specs.declared.operator.BinaryOp.TheVariants as binary
use Rattle.c_syntax.specs.declared.operator.UnaryOp.{UnaryOp}
use Rattle.c_syntax.specs.declared.operator.UnaryOp.TheVariants as unary
use Rattle.c_syntax.specs.declared.operator.StepOp.{StepOp}
use Rattle.c_syntax.specs.declared.operator.StepOp.TheVariants as step
use Rattle.c_syntax.specs.declared.operator.AssignOp.{AssignOp}
use Rattle.c_syntax.specs.declared.operator.AssignOp.TheVariants as assign
use Rattle.c_syntax.specs.declared.expression.TextPiece.{TextPiece}
use Rattle.c_syntax.specs.Marks.{mark, binary_mark, unary_mark, step_mark, assign_mark}
use Rattle.c_syntax.specs.ExpressionTokens.{binary_level, text_tokens}
use Rattle.c_grammar.specs.Taking.{is_mark, of_mark, binary_of_mark, step_of_mark, assign_of_mark, at_level, take_mark}
use Rattle.c_grammar.specs.Taking.{take_step, take_unary, take_assign, take_binary, take_texts, texts_from}

-- how loose a rule is that goes on with a mark behind its first part; 17 where none does
abbrev pub mark_joins : Punct → ℕ
mark_joins marks.LeftParen = 0
mark_joins marks.LeftBracket = 1
mark_joins marks.PlusPlus = 1
mark_joins marks.MinusMinus = 1
mark_joins marks.Star = 4
mark_joins marks.Slash = 4
mark_joins marks.Percent = 4
mark_joins marks.Plus = 5
mark_joins marks.Minus = 5
mark_joins marks.ShiftLeft = 6
mark_joins marks.ShiftRight = 6
mark_joins marks.Less = 7
mark_joins marks.Greater = 7
mark_joins marks.LessEqual = 7
mark_joins marks.GreaterEqual = 7
mark_joins marks.EqualEqual = 8
mark_joins marks.BangEqual = 8
mark_joins marks.And = 9
mark_joins marks.Caret = 10
mark_joins marks.Or = 11
mark_joins marks.AndAnd = 12
mark_joins marks.OrOr = 13
mark_joins marks.Question = 14
mark_joins marks.Equal = 15
mark_joins marks.StarEqual = 15
mark_joins marks.SlashEqual = 15
mark_joins marks.PercentEqual = 15
mark_joins marks.PlusEqual = 15
mark_joins marks.MinusEqual = 15
mark_joins marks.ShiftLeftEqual = 15
mark_joins marks.ShiftRightEqual = 15
mark_joins marks.AndEqual = 15
mark_joins marks.CaretEqual = 15
mark_joins marks.OrEqual = 15
mark_joins marks.Comma = 16
mark_joins _ = 17

abbrev pub joins : TokenKind → ℕ
joins (kinds.Text bytes) = 0
joins (kinds.Mark m) = mark_joins m
joins _ = 17

-- the next token goes on with no tree of a rule that is at most so loose
abbrev pub Stops : ℕ → List Token → Type 0
Stops c [] = Unit {0}
Stops c (t ∷ ts) = c < joins t.kind

pub stops_tighter : (c d : ℕ) (ts : List Token) → Stops c ts → d ≤ c → Stops d ts
stops_tighter c d [] s h = tt
stops_tighter c d (t ∷ ts) s h = omega arith

-- ---- what is not taken there

not_mark : (m : Punct) (c : ℕ) (kind : TokenKind) → c < joins kind → mark_joins m ≤ c → is_mark m kind ≡ false
not_mark m c (kinds.Mark n) s h =
    false_same the_marks tt m n (λ (e : m ≡ n).
    absurd (let P : Punct → Type 0 = λ x. mark_joins x ≤ c in let g : mark_joins n ≤ c = subst P e h in
    omega arith))
not_mark m c (kinds.Text bytes) s h = refl
not_mark m c (kinds.Word w) s h = refl
not_mark m c (kinds.Ident name) s h = refl
not_mark m c (kinds.Number z u) s h = refl

pub stops_mark : (m : Punct) (c : ℕ) (ts : List Token) → Stops c ts → mark_joins m ≤ c → take_mark m ts ≡ None
stops_mark m c [] s h = refl
stops_mark m c (t ∷ ts) s h = rw (not_mark m c t.kind s h) refl

no_step_mark : (n : Punct) → 1 < mark_joins n → step_of_mark n ≡ None
no_step_mark marks.PlusPlus s = absurd (omega arith)
no_step_mark marks.MinusMinus s = absurd (omega arith)
no_step_mark _ s = refl

no_step : (kind : TokenKind) → 1 < joins kind → of_mark step_of_mark kind ≡ None
no_step (kinds.Mark n) s = no_step_mark n s
no_step _ s = refl

pub stops_step : (c : ℕ) (ts : List Token) → Stops c ts → 1 ≤ c → take_step ts ≡ None
stops_step c [] s h = refl
stops_step c (t ∷ ts) s h = (let l : 1 < joins t.kind = omega arith in rw (no_step t.kind l) refl)

no_assign_mark : (n : Punct) → 15 < mark_joins n → assign_of_mark n ≡ None
no_assign_mark marks.Equal s = absurd (omega arith)
no_assign_mark marks.StarEqual s = absurd (omega arith)
no_assign_mark marks.SlashEqual s = absurd (omega arith)
no_assign_mark marks.PercentEqual s = absurd (omega arith)
no_assign_mark marks.PlusEqual s = absurd (omega arith)
no_assign_mark marks.MinusEqual s = absurd (omega arith)
no_assign_mark marks.ShiftLeftEqual s = absurd (omega arith)
no_assign_mark marks.ShiftRightEqual s = absurd (omega arith)
no_assign_mark marks.AndEqual s = absurd (omega arith)
no_assign_mark marks.CaretEqual s = absurd (omega arith)
no_assign_mark marks.OrEqual s = absurd (omega arith)
no_assign_mark _ s = refl

no_assign : (kind : TokenKind) → 15 < joins kind → of_mark assign_of_mark kind ≡ None
no_assign (kinds.Mark n) s = no_assign_mark n s
no_assign _ s = refl

pub stops_assign : (c : ℕ) (ts : List Token) → Stops c ts → 15 ≤ c → take_assign ts ≡ None
stops_assign c [] s h = refl
stops_assign c (t ∷ ts) s h = (let l : 15 < joins t.kind = omega arith in rw (no_assign t.kind l) refl)

-- each operator joins at its level
joins_level : (n : Punct) → MatchOption (binary_of_mark n) (Unit {0}) (λ op. mark_joins n ≡ binary_level op + 3)
joins_level marks.Star = refl
joins_level marks.Slash = refl
joins_level marks.Percent = refl
joins_level marks.Plus = refl
joins_level marks.Minus = refl
joins_level marks.ShiftLeft = refl
joins_level marks.ShiftRight = refl
joins_level marks.Less = refl
joins_level marks.Greater = refl
joins_level marks.LessEqual = refl
joins_level marks.GreaterEqual = refl
joins_level marks.EqualEqual = refl
joins_level marks.BangEqual = refl
joins_level marks.And = refl
joins_level marks.Caret = refl
joins_level marks.Or = refl
joins_level marks.AndAnd = refl
joins_level marks.OrOr = refl
joins_level marks.Comma = refl
joins_level _ = tt

other_level : (m n : ℕ) → (m ≡ n → ⊥) → eqb m n ≡ false
other_level m n h = grind (arith, nat_tests)

no_level : (k c j : ℕ) (o : Option BinaryOp) → MatchOption o (Unit {0}) (λ op. j ≡ binary_level op + 3) → c < j
    → k + 3 ≤ c → at_level k o ≡ None
no_level k c j None m s h = refl
no_level k c j (Some op) m s h = (let e : eqb (binary_level op) k ≡ false =
    other_level (binary_level op) k (λ (f : binary_level op ≡ k). omega arith) in rw e refl)

no_binary : (k c : ℕ) (kind : TokenKind) → c < joins kind → k + 3 ≤ c → at_level k (of_mark binary_of_mark kind) ≡ None
no_binary k c (kinds.Mark n) s h = no_level k c (mark_joins n) (binary_of_mark n) (joins_level n) s h
no_binary k c (kinds.Text bytes) s h = refl
no_binary k c (kinds.Word w) s h = refl
no_binary k c (kinds.Ident name) s h = refl
no_binary k c (kinds.Number z u) s h = refl

pub stops_binary : (k c : ℕ) (ts : List Token) → Stops c ts → k + 3 ≤ c → take_binary k ts ≡ None
stops_binary k c [] s h = refl
stops_binary k c (t ∷ ts) s h = rw (no_binary k c t.kind s h) refl

no_text : (c : ℕ) (t : Token) (ts : List Token) (r : List TextPiece × List Token) → c < joins t.kind
    → texts_from t.kind t ts r ≡ ([], t ∷ ts)
no_text c t ts r s = by_kind t.kind s
  where
    by_kind : (kind : TokenKind) → c < joins kind → texts_from kind t ts r ≡ ([], t ∷ ts)
    by_kind (kinds.Text bytes) s = absurd (omega arith)
    by_kind _ s = refl

pub stops_texts : (c : ℕ) (ts : List Token) → Stops c ts → take_texts ts ≡ ([], ts)
stops_texts c [] s = refl
stops_texts c (t ∷ ts) s = no_text c t ts (take_texts ts) s

-- ---- what is taken

pub takes_step : (op : StepOp) (at : Span) (ts : List Token) → take_step (mark (step_mark op) at ∷ ts)
    ≡ Some ((op, at), ts)
takes_step step.Increment at ts = refl
takes_step step.Decrement at ts = refl

pub takes_unary : (op : UnaryOp) (at : Span) (ts : List Token) → take_unary (mark (unary_mark op) at ∷ ts)
    ≡ Some ((op, at), ts)
takes_unary unary.AddressOf at ts = refl
takes_unary unary.Dereference at ts = refl
takes_unary unary.Plus at ts = refl
takes_unary unary.Minus at ts = refl
takes_unary unary.Complement at ts = refl
takes_unary unary.Not at ts = refl

-- no operator of the one kind is one of the other
pub unary_no_step : (op : UnaryOp) (at : Span) (ts : List Token) → take_step (mark (unary_mark op) at ∷ ts) ≡ None
unary_no_step unary.AddressOf at ts = refl
unary_no_step unary.Dereference at ts = refl
unary_no_step unary.Plus at ts = refl
unary_no_step unary.Minus at ts = refl
unary_no_step unary.Complement at ts = refl
unary_no_step unary.Not at ts = refl

pub takes_assign : (op : AssignOp) (at : Span) (ts : List Token) → take_assign (mark (assign_mark op) at ∷ ts)
    ≡ Some ((op, at), ts)
takes_assign assign.Assign at ts = refl
takes_assign assign.Multiply at ts = refl
takes_assign assign.Divide at ts = refl
takes_assign assign.Remainder at ts = refl
takes_assign assign.Add at ts = refl
takes_assign assign.Subtract at ts = refl
takes_assign assign.ShiftLeft at ts = refl
takes_assign assign.ShiftRight at ts = refl
takes_assign assign.BitAnd at ts = refl
takes_assign assign.BitXor at ts = refl
takes_assign assign.BitOr at ts = refl

level_taken : (op : BinaryOp) → at_level (binary_level op) (binary_of_mark (binary_mark op)) ≡ Some op
level_taken binary.Multiply = refl
level_taken binary.Divide = refl
level_taken binary.Remainder = refl
level_taken binary.Add = refl
level_taken binary.Subtract = refl
level_taken binary.ShiftLeft = refl
level_taken binary.ShiftRight = refl
level_taken binary.Less = refl
level_taken binary.Greater = refl
level_taken binary.LessEqual = refl
level_taken binary.GreaterEqual = refl
level_taken binary.Equal = refl
level_taken binary.NotEqual = refl
level_taken binary.BitAnd = refl
level_taken binary.BitXor = refl
level_taken binary.BitOr = refl
level_taken binary.LogicalAnd = refl
level_taken binary.LogicalOr = refl
level_taken binary.Comma = refl

pub takes_binary : (op : BinaryOp) (k : ℕ) (at : Span) (ts : List Token) → binary_level op ≡ k
    → take_binary k (mark (binary_mark op) at ∷ ts) ≡ Some ((op, at), ts)
takes_binary op k at ts e = subst (λ (n : ℕ). take_binary n (mark (binary_mark op) at ∷ ts) ≡ Some ((op, at), ts)) e
    (rw (level_taken op) refl)

-- where operators join
pub binary_joins : (op : BinaryOp) → mark_joins (binary_mark op) ≡ binary_level op + 3
binary_joins binary.Multiply = refl
binary_joins binary.Divide = refl
binary_joins binary.Remainder = refl
binary_joins binary.Add = refl
binary_joins binary.Subtract = refl
binary_joins binary.ShiftLeft = refl
binary_joins binary.ShiftRight = refl
binary_joins binary.Less = refl
binary_joins binary.Greater = refl
binary_joins binary.LessEqual = refl
binary_joins binary.GreaterEqual = refl
binary_joins binary.Equal = refl
binary_joins binary.NotEqual = refl
binary_joins binary.BitAnd = refl
binary_joins binary.BitXor = refl
binary_joins binary.BitOr = refl
binary_joins binary.LogicalAnd = refl
binary_joins binary.LogicalOr = refl
binary_joins binary.Comma = refl

pub assign_joins : (op : AssignOp) → mark_joins (assign_mark op) ≡ 15
assign_joins assign.Assign = refl
assign_joins assign.Multiply = refl
assign_joins assign.Divide = refl
assign_joins assign.Remainder = refl
assign_joins assign.Add = refl
assign_joins assign.Subtract = refl
assign_joins assign.ShiftLeft = refl
assign_joins assign.ShiftRight = refl
assign_joins assign.BitAnd = refl
assign_joins assign.BitXor = refl
assign_joins assign.BitOr = refl

pub step_joins : (op : StepOp) → mark_joins (step_mark op) ≡ 1
step_joins step.Increment = refl
step_joins step.Decrement = refl

-- string literals, one behind the other
pub takes_texts : (ps : List TextPiece) (rest : List Token) → Stops 0 rest → take_texts (text_tokens ps ++ rest)
    ≡ (ps, rest)
takes_texts [] rest s = stops_texts 0 rest s
takes_texts (p ∷ ps) rest s = rw (takes_texts ps rest s) refl

-- a step is no bracket
pub step_no_bracket : (op : StepOp) (at : Span) (ts : List Token)
    → take_mark marks.LeftBracket (mark (step_mark op) at ∷ ts) ≡ None
step_no_bracket step.Increment at ts = refl
step_no_bracket step.Decrement at ts = refl
