-- With three levels more, expressions that were found are found, and faults of height move on.
use Rattle.std.proofs.Common.{◌≡◌, ℕ, zero, suc, ◌+◌, ◌≤◌, ◌<◌, Bool, true, false, List, [], ◌∷◌, length}
use Rattle.std.proofs.Common.{Some, None, leb, if◌then◌else◌, refl, ap, sym, subst, arith}
use Rattle.pcc_base.specs.declared.span.Span.{Span}
use Rattle.c_lex.specs.declared.token.Token.{Token}
use Rattle.c_lex.specs.declared.token.TokenKind.{TokenKind}
use Rattle.c_lex.specs.declared.token.TokenKind.TheVariants as kinds
use Rattle.c_lex.specs.declared.token.Punct.{Punct}
use Rattle.c_lex.specs.declared.token.Punct.TheVariants as marks
use Rattle.c_syntax.specs.declared.operator.BinaryOp.{BinaryOp}
use Rattle.c_syntax.specs.declared.operator.UnaryOp.{UnaryOp}
use Rattle.c_syntax.specs.declared.operator.UnaryOp.TheVariants as unary
use Rattle.c_syntax.specs.declared.operator.StepOp.{StepOp}
use Rattle.c_syntax.specs.declared.operator.StepOp.TheVariants as step
use Rattle.c_syntax.specs.declared.operator.AssignOp.{AssignOp}
use Rattle.c_syntax.specs.declared.expression.Identifier.{Identifier as Ident}
use Rattle.c_syntax.specs.declared.expression.Specifier.{Specifier}
use Rattle.c_syntax.specs.Marks.{mark, binary_mark, unary_mark, step_mark, assign_mark}
use Rattle.c_syntax.specs.declared.expression.TextPiece.{TextPiece}
use Rattle.c_syntax.specs.Expressions.{Expr, Number, Parenthesised}
use Rattle.c_syntax.specs.ExpressionTokens.{text_tokens, specifiers_tokens, pointer_tokens, expr_height}
use Rattle.c_syntax.specs.ExpressionTokens.{looseness, binary_level}
use Rattle.c_grammar.specs.Heads.{begins}
use Rattle.c_grammar.specs.Taking.{is_mark, take_mark, take_unary, take_step, take_assign, take_binary, take_texts}
use Rattle.c_grammar.specs.Taking.{take_specifiers, take_pointer}
use Rattle.c_grammar.specs.Chains.{Takes, Reads, Found, Faults, above, then_read}
use Rattle.c_grammar.specs.Chains.{chained}
use Rattle.c_grammar.specs.Taking.{read_mark}
use Rattle.c_grammar.specs.Laws.{Past, RisesTo}
use Rattle.c_grammar.specs.Reading.{Reader, Readers, Values, readers, no_reader, readers_over, value_at, value_step}
use Rattle.c_grammar.specs.Reading.{arguments_from, read_arguments, call_from, parenthesised_from, primary_at, text_from}
use Rattle.c_grammar.specs.Reading.{read_primary, postfix_from, suffix_from, suffix_step, read_postfix, unary_from}
use Rattle.c_grammar.specs.Reading.{prefix_from, read_unary, cast_behind, cast_inside, cast_with, cast_from, read_cast}
use Rattle.c_grammar.specs.Reading.{infix_from, infix_step, read_infix, read_binary, conditional_from}
use Rattle.c_grammar.specs.Reading.{read_conditional, assignment_from, read_assignment, read_expression}
use Rattle.c_grammar.proofs.Sound.{Holds, HoldsTaken, HoldsStep, step_above, step_then, Sound, SoundReader, SoundReaders}
use Rattle.c_grammar.proofs.Sound.{sound, sound_primary, sound_binary, sound_conditional, sound_assignment, mark_taken}
use Rattle.c_grammar.proofs.Sound.{unary_taken, step_taken, assign_taken, binary_taken, texts_taken, specifiers_taken}
use Rattle.c_grammar.proofs.Sound.{pointer_taken, mark_read}
use Rattle.c_grammar.proofs.Rising.{Rises, TurnRises, then_low, then_rises, step_rises, found, faults, goes}
use Rattle.c_grammar.proofs.Rising.{turn_done, longer, behind, behind_row, turn, turn_behind, mark_rises, past_above}
use Rattle.c_grammar.proofs.Rising.{above_rises, chain_low, chain_rises, past_then}

-- readers of what is at most n high, and those of what is at most k high, where each rises
pub record Rise (W : Type 0) (n k : ℕ) (b c : Readers) : Type 0 where
  pub less : W → n < k
  pub higher : W → b.height < c.height
  pub sound : W → SoundReaders n b
  pub expression : (ts : List Token) → Rises W ts (b.expression ts) (c.expression ts)
  pub assignment : (ts : List Token) → Rises W ts (b.assignment ts) (c.assignment ts)
  pub conditional : (ts : List Token) → Rises W ts (b.conditional ts) (c.conditional ts)
  pub binary : (j : ℕ) → j ≤ 10 → (ts : List Token) → Rises W ts (b.binary j ts) (c.binary j ts)
  pub cast : (ts : List Token) → Rises W ts (b.cast ts) (c.cast ts)
  pub unary : (ts : List Token) → Rises W ts (b.unary ts) (c.unary ts)

pub rises_weaker : {A V W : Type 0} {ts : List Token} {o q : Reads A} → (V → W) → Rises W ts o q → Rises V ts o q
rises_weaker f r = record { rises = λ v. r.rises (f v); onward = r.onward }

pub weaker : {V W : Type 0} {n k : ℕ} {b c : Readers} → (V → W) → Rise W n k b c → Rise V n k b c
weaker f r = record {
  less = λ v. r.less (f v);
  higher = λ v. r.higher (f v);
  sound = λ v. r.sound (f v);
  expression = λ ts. rises_weaker f (r.expression ts);
  assignment = λ ts. rises_weaker f (r.assignment ts);
  conditional = λ ts. rises_weaker f (r.conditional ts);
  binary = λ j h ts. rises_weaker f (r.binary j h ts);
  cast = λ ts. rises_weaker f (r.cast ts);
  unary = λ ts. rises_weaker f (r.unary ts);
}

-- what was read is no higher than this
abbrev Low : ℕ → Expr → List Token → Type 0
Low h e us = expr_height e ≤ h

low : (c h : ℕ) (ts : List Token) (r : Reads Expr) → Holds (Sound c h ts) r → Holds (Low h) r
low c h ts (Faults deep us) s = tt
low c h ts (Found t us) s = s.low

-- behind a token that makes a node with room below it
pub room_rises : {A W : Type 0} {n k : ℕ} {b c : Readers} {o q : Reads A} → Rise W n k b c → (t : Token) (ts : List Token)
    → Rises W ts o q → Rises W (t ∷ ts) (above 0 b.height t ts o) (above 0 c.height t ts q)
room_rises {b = b} {c = c} r t ts s = above_rises 0 b.height c.height t ts (λ w. omega arith) r.higher s

-- ---- primary

pub value_rises : {W : Type 0} {n k : ℕ} {b c : Readers} → Rise W n k b c → (a : Values) (us : List Token)
    → TurnRises W us (value_step b a us) (value_step c a us)
value_rises {W} {n} {k} {b} {c} r a us = under (take_mark marks.Comma us) (mark_taken marks.Comma us)
  where
    under : (o : Takes Span) → HoldsTaken (λ at vs. us ≡ mark marks.Comma at ∷ vs) o
        → TurnRises W us (value_at b a o) (value_at c a o)
    under None h = turn_done us
    under (Some (at, vs)) h = turn_behind us h (step_rises (r.assignment vs) (λ e ws. goes _ ws))

arguments_rises : {W : Type 0} {n k : ℕ} {b c : Readers} → Rise W n k b c → (ts : List Token)
    → Rises W ts (read_arguments b ts) (read_arguments c ts)
arguments_rises {W} {n} {k} {b} {c} r ts = under (take_mark marks.RightParen ts)
  where
    under : (o : Takes Span) → Rises W ts (arguments_from b o ts) (arguments_from c o ts)
    under (Some close) = found _ ts
    under None = then_rises (r.assignment ts) (λ e us.
        chain_rises (value_step b) (value_step c) (value_rises r) (length us) (e ∷ [], []) us)

call_rises : {W : Type 0} {n k : ℕ} {b c : Readers} → Rise W n k b c → (f : Ident) (ts : List Token)
    → Rises W ts (call_from b f (take_mark marks.LeftParen ts) ts) (call_from c f (take_mark marks.LeftParen ts) ts)
call_rises {W} {n} {k} {b} {c} r f ts = under (take_mark marks.LeftParen ts) (mark_taken marks.LeftParen ts)
  where
    under : (o : Takes Span) → HoldsTaken (λ at us. ts ≡ mark marks.LeftParen at ∷ us) o
        → Rises W ts (call_from b f o ts) (call_from c f o ts)
    under None h = found _ ts
    under (Some (o, us)) h = behind ts h (then_rises (arguments_rises r us) (λ values vs.
        then_rises (mark_rises marks.RightParen vs) (λ c ws. found _ ws)))

parens_rises : {W : Type 0} {n k : ℕ} {b c : Readers} → Rise W n k b c → (o : Span) (ts : List Token)
    → Rises W (mark marks.LeftParen o ∷ ts) (parenthesised_from b o ts) (parenthesised_from c o ts)
parens_rises r o ts = then_rises (room_rises r (mark marks.LeftParen o) ts (r.expression ts)) (λ e us.
    then_rises (mark_rises marks.RightParen us) (λ c vs. found _ vs))

if_rises : {A W : Type 0} {o q : Reads A} (ts us : List Token) (x : Bool) → length ts ≡ length us → Rises W us o q
    → Rises W ts (if x then o else Faults false ts) (if x then q else Faults false ts)
if_rises ts us true e r = longer ts (omega (arith, e)) r
if_rises ts us false e r = faults ts

texts_rises : (first : TextPiece) (ts : List Token)
    → Rises ⊥ ts (text_from first (take_texts ts)) (text_from first (take_texts ts))
texts_rises first ts = behind_row ts (text_tokens (take_texts ts).0) (texts_taken ts) (found _ (take_texts ts).1)

at_rises : {W : Type 0} {n k : ℕ} {b c : Readers} → Rise W n k b c → (kind : TokenKind) (at : Span) (ts : List Token)
    → (let x : Token = record { kind = kind; at = at } in
    Rises W (x ∷ ts) (primary_at b kind at ts) (primary_at c kind at ts))
at_rises r (kinds.Ident name) at ts = longer _ (omega arith) (call_rises r (record { name = name; at = at }) ts)
at_rises r (kinds.Number value true) at ts = faults _
at_rises r (kinds.Number value false) at ts = longer _ (omega arith) (found _ ts)
at_rises r (kinds.Text bytes) at ts =
    longer _ (omega arith) (behind_row ts (text_tokens (take_texts ts).0) (texts_taken ts) (found _ (take_texts ts).1))
at_rises r (kinds.Mark m) at ts = if_rises (mark m at ∷ ts) (mark marks.LeftParen at ∷ ts)
    (is_mark marks.LeftParen (kinds.Mark m)) refl (parens_rises r at ts)
at_rises r (kinds.Word w) at ts = faults _

primary_rises : {W : Type 0} {n k : ℕ} {b c : Readers} → Rise W n k b c → (ts : List Token)
    → Rises W ts (read_primary b ts) (read_primary c ts)
primary_rises r [] = faults []
primary_rises r (t ∷ ts) = at_rises r t.kind t.at ts

-- ---- postfix

suffix_rises : {W : Type 0} {n k : ℕ} {b c : Readers} → Rise W n k b c → (base : Expr) (us : List Token)
    → (W → expr_height base ≤ suc n)
    → TurnRises W us (suffix_step (suc n) b base us) (suffix_step (suc k) c base us)
suffix_rises {W} {n} {k} {b} {c} r base us h =
    under (take_mark marks.LeftBracket us) (mark_taken marks.LeftBracket us)
  where
    less : W → suc n < suc k
    less w = omega (arith, r.less w)

    steps : (o : Takes (StepOp × Span)) → HoldsTaken (λ a vs. us ≡ mark (step_mark a.0) a.1 ∷ vs) o
        → TurnRises W us (postfix_from (suc n) base o) (postfix_from (suc k) base o)
    steps None e = turn_done us
    steps (Some (op, vs)) e =
        (let t : Token = mark (step_mark op.0) op.1 in
        let f : length us ≡ suc (length vs) = ap length e in
        turn us (omega (arith, f)) (step_rises
        (above_rises (expr_height base) (suc n) (suc k) t vs h less (found op vs)) (λ _ ws. goes _ ws)))

    under : (o : Takes Span) → HoldsTaken (λ at vs. us ≡ mark marks.LeftBracket at ∷ vs) o
        → TurnRises W us (suffix_from (suc n) b base o us) (suffix_from (suc k) c base o us)
    under None e = steps (take_step us) (step_taken us)
    under (Some (o, vs)) e =
        (let t : Token = mark marks.LeftBracket o in
        let f : length us ≡ suc (length vs) = ap length e in
        turn us (omega (arith, f)) (step_rises
        (above_rises (expr_height base) (suc n) (suc k) t vs h less (r.expression vs)) (λ i ws.
        step_rises (mark_rises marks.RightBracket ws) (λ c xs. goes _ xs))))

low_suffix : (n : ℕ) (b : Readers) → SoundReaders n b → (base : Expr) (us : List Token)
    → HoldsStep (Low (suc n)) (suffix_step (suc n) b base us)
low_suffix n b sb base us = under (take_mark marks.LeftBracket us)
  where
    steps : (o : Takes (StepOp × Span)) → HoldsStep (Low (suc n)) (postfix_from (suc n) base o)
    steps None = tt
    steps (Some (op, vs)) =
        step_above (λ (_ : StepOp × Span) ws. vs ≡ ws) (Low (suc n)) (expr_height base) (suc n) _ vs (Found op vs) _
        refl (λ _ ws e k. omega (arith, e))

    under : (o : Takes Span) → HoldsStep (Low (suc n)) (suffix_from (suc n) b base o us)
    under None = steps (take_step us)
    under (Some (o, vs)) =
        step_above (Low n) (Low (suc n)) (expr_height base) (suc n) _ vs (b.expression vs) _
        (low 16 n vs (b.expression vs) (sb.expression vs)) (λ i ws e g.
        step_then (λ c xs. ws ≡ mark marks.RightBracket c ∷ xs) (Low (suc n)) (read_mark marks.RightBracket ws) _
        (mark_read marks.RightBracket ws) (λ c xs m. omega (arith, g, e)))

postfix_rises : {W : Type 0} {n k : ℕ} {b c : Readers} → Rise W n k b c → (ts : List Token)
    → Rises W ts (read_postfix (suc n) b ts) (read_postfix (suc k) c ts)
postfix_rises {W} {n} {k} {b} {c} r ts =
    then_low (Low (suc n)) (λ w. low 0 (suc n) ts (read_primary b ts) (sound_primary n b (r.sound w) ts))
    (primary_rises r ts) (λ e us.
    chain_low (Low (suc n)) (suffix_step (suc n) b) (suffix_step (suc k) c)
    (λ w a vs i. low_suffix n b (r.sound w.0) a vs) (λ a vs. suffix_rises (weaker (λ v. v.0.0) r) a vs (λ v. v.1))
    (length us) e us (λ w. w.1))

-- ---- unary and cast

unary_rises : {W : Type 0} {n k : ℕ} {b c : Readers} → Rise W n k b c → (ts : List Token)
    → Rises W ts (read_unary (suc n) b ts) (read_unary (suc k) c ts)
unary_rises {W} {n} {k} {b} {c} r ts = steps (take_step ts) (step_taken ts)
  where
    unaries : (o : Takes (UnaryOp × Span)) → HoldsTaken (λ a us. ts ≡ mark (unary_mark a.0) a.1 ∷ us) o
        → Rises W ts (unary_from (suc n) b o ts) (unary_from (suc k) c o ts)
    unaries None h = postfix_rises r ts
    unaries (Some (op, us)) h =
        (let t : Token = mark (unary_mark op.0) op.1 in
        let f : length ts ≡ suc (length us) = ap length h in
        longer ts (omega (arith, f)) (then_rises (room_rises r t us (r.cast us)) (λ e vs. found _ vs)))

    steps : (o : Takes (StepOp × Span)) → HoldsTaken (λ a us. ts ≡ mark (step_mark a.0) a.1 ∷ us) o
        → Rises W ts (prefix_from (suc n) b o ts) (prefix_from (suc k) c o ts)
    steps None h = unaries (take_unary ts) (unary_taken ts)
    steps (Some (op, us)) h =
        (let t : Token = mark (step_mark op.0) op.1 in
        let f : length ts ≡ suc (length us) = ap length h in
        longer ts (omega (arith, f)) (then_rises (room_rises r t us (r.unary us)) (λ e vs. found _ vs)))

cast_behind_rises : {W : Type 0} {n k : ℕ} {b c : Readers} → Rise W n k b c → (o : Span) (us : List Token)
    → Rises W us (cast_behind b o (take_specifiers us).0 (take_pointer (take_specifiers us).1))
    (cast_behind c o (take_specifiers us).0 (take_pointer (take_specifiers us).1))
cast_behind_rises r o us =
    (let vs : List Token = (take_specifiers us).1 in
    behind_row us (specifiers_tokens (take_specifiers us).0) (specifiers_taken us)
    (behind_row vs (pointer_tokens (take_pointer vs).0) (pointer_taken vs)
    (then_rises (mark_rises marks.RightParen (take_pointer vs).1) (λ c ws.
    then_rises (r.cast ws) (λ e xs. found _ xs)))))

cast_rises : {W : Type 0} {n k : ℕ} {b c : Readers} → Rise W n k b c → (ts : List Token)
    → Rises W ts (read_cast (suc n) b ts) (read_cast (suc k) c ts)
cast_rises {W} {n} {k} {b} {c} r ts = under (take_mark marks.LeftParen ts) (mark_taken marks.LeftParen ts)
  where
    with_specifiers : (o : Span) (us : List Token) (ss : List Specifier) → ts ≡ mark marks.LeftParen o ∷ us
        → Rises W ts (cast_with (suc n) b o ss us ts) (cast_with (suc k) c o ss us ts)
    with_specifiers o us [] h = unary_rises r ts
    with_specifiers o us (s ∷ ss) h =
        (let f : length ts ≡ suc (length us) = ap length h in
        longer ts (omega (arith, f)) (room_rises r (mark marks.LeftParen o) us (cast_behind_rises r o us)))

    under : (o : Takes Span) → HoldsTaken (λ at us. ts ≡ mark marks.LeftParen at ∷ us) o
        → Rises W ts (cast_from (suc n) b o ts) (cast_from (suc k) c o ts)
    under None h = unary_rises r ts
    under (Some (o, us)) h = with_specifiers o us (take_specifiers us).0 h

-- ---- operators between operands

infix_turn : {W : Type 0} (n k level : ℕ) (right right_more : Reader) → (W → n < k)
    → ((ts : List Token) → Rises W ts (right ts) (right_more ts)) → (l : Expr) (us : List Token)
    → (W → expr_height l ≤ n) → TurnRises W us (infix_step level n right l us) (infix_step level k right_more l us)
infix_turn {W} n k level right right_more less r l us low = under (take_binary level us) (binary_taken level us)
  where
    under : (o : Takes (BinaryOp × Span)) → HoldsTaken
        (λ a vs. (us ≡ mark (binary_mark a.0) a.1 ∷ vs) × (binary_level a.0 ≡ level)) o
        → TurnRises W us (infix_from n right l o) (infix_from k right_more l o)
    under None h = turn_done us
    under (Some (op, vs)) h =
        (let t : Token = mark (binary_mark op.0) op.1 in
        let f : length us ≡ suc (length vs) = ap length h.0 in
        turn us (omega (arith, f))
        (step_rises (above_rises (expr_height l) n k t vs low less (r vs)) (λ e ws. goes _ ws)))

low_infix : (n level c : ℕ) (right : Reader) → SoundReader c n right → (l : Expr) (us : List Token)
    → HoldsStep (Low (suc n)) (infix_step level (suc n) right l us)
low_infix n level c right s l us = under (take_binary level us)
  where
    under : (o : Takes (BinaryOp × Span)) → HoldsStep (Low (suc n)) (infix_from (suc n) right l o)
    under None = tt
    under (Some (op, vs)) =
        step_above (Low n) (Low (suc n)) (expr_height l) (suc n) _ vs (right vs) _ (low c n vs (right vs) (s vs))
        (λ e ws h g. omega (arith, g, h))

infix_rises : {W : Type 0} (n k level c : ℕ) (operand operand_more right right_more : Reader) → (W → n < k)
    → (W → SoundReader c n right) → ((ts : List Token) → Rises W ts (right ts) (right_more ts)) → (ts : List Token)
    → (W → Holds (Low (suc n)) (operand ts)) → Rises W ts (operand ts) (operand_more ts)
    → Rises W ts (read_infix level (suc n) operand right ts) (read_infix level (suc k) operand_more right_more ts)
infix_rises n k level c operand operand_more right right_more less sr r ts lo ro =
    then_low (Low (suc n)) lo ro (λ e us.
    chain_low (Low (suc n)) (infix_step level (suc n) right) (infix_step level (suc k) right_more)
    (λ w l vs i. low_infix n level c right (sr w.0) l vs)
    (λ l vs. infix_turn (suc n) (suc k) level right right_more (λ w. omega (arith, less w.0.0))
    (λ ws. rises_weaker (λ w. w.0.0) (r ws)) l vs (λ w. w.1)) (length us) e us (λ w. w.1))

binary_rises : {W : Type 0} {n k : ℕ} {b c : Readers} → Rise W n k b c → (j : ℕ) → j ≤ 10 → (ts : List Token)
    → Rises W ts (read_binary (suc n) b j ts) (read_binary (suc k) c j ts)
binary_rises r zero h ts = cast_rises r ts
binary_rises {W} {n} {k} {b} {c} r (suc j) h ts =
    (let le : j ≤ 10 = omega (arith, h) in
    infix_rises n k (suc j) (j + 3) (read_binary (suc n) b j) (read_binary (suc k) c j) (b.binary j) (c.binary j) r.less
    (λ w. (r.sound w).binary j le) (r.binary j le) ts
    (λ w. low (j + 3) (suc n) ts (read_binary (suc n) b j ts) (sound_binary n b (r.sound w) j le ts))
    (binary_rises r j le ts))

-- ---- conditional, assignment and expression

conditional_behind : {W : Type 0} {n k : ℕ} {b c : Readers} → Rise W n k b c → (e : Expr) (us : List Token)
    → (W → expr_height e ≤ suc n) → Rises W us (conditional_from (suc n) b e (take_mark marks.Question us) us)
    (conditional_from (suc k) c e (take_mark marks.Question us) us)
conditional_behind {W} {n} {k} {b} {c} r e us low = under (take_mark marks.Question us) (mark_taken marks.Question us)
  where
    under : (o : Takes Span) → HoldsTaken (λ at vs. us ≡ mark marks.Question at ∷ vs) o
        → Rises W us (conditional_from (suc n) b e o us) (conditional_from (suc k) c e o us)
    under None h = found e us
    under (Some (q, vs)) h =
        (let t : Token = mark marks.Question q in
        let f : length us ≡ suc (length vs) = ap length h in
        longer us (omega (arith, f)) (then_rises
        (above_rises (expr_height e) (suc n) (suc k) t vs low (λ w. omega (arith, r.less w)) (r.expression vs))
        (λ x ws. then_rises (mark_rises marks.Colon ws) (λ y xs.
        then_rises (r.conditional xs) (λ z ys. found _ ys)))))

conditional_rises : {W : Type 0} {n k : ℕ} {b c : Readers} → Rise W n k b c → (ts : List Token)
    → Rises W ts (read_conditional (suc n) b ts) (read_conditional (suc k) c ts)
conditional_rises {W} {n} {k} {b} {c} r ts =
    then_low (Low (suc n))
    (λ w. low 13 (suc n) ts (read_binary (suc n) b 10 ts) (sound_binary n b (r.sound w) 10 (omega arith) ts))
    (binary_rises r 10 (omega arith) ts) (λ e us. conditional_behind (weaker (λ w. w.0) r) e us (λ w. w.1))

assignment_behind : {W : Type 0} {n k : ℕ} {b c : Readers} → Rise W n k b c → (e : Expr) (us : List Token)
    → (W → expr_height e ≤ suc n) → Rises W us (assignment_from (suc n) b e (take_assign us) us)
    (assignment_from (suc k) c e (take_assign us) us)
assignment_behind {W} {n} {k} {b} {c} r e us low = under (take_assign us) (assign_taken us)
  where
    under : (o : Takes (AssignOp × Span)) → HoldsTaken (λ a vs. us ≡ mark (assign_mark a.0) a.1 ∷ vs) o
        → Rises W us (assignment_from (suc n) b e o us) (assignment_from (suc k) c e o us)
    under None h = found e us
    under (Some (op, vs)) h =
        (let t : Token = mark (assign_mark op.0) op.1 in
        let f : length us ≡ suc (length vs) = ap length h in
        longer us (omega (arith, f)) (if_rises (t ∷ vs) (t ∷ vs) (leb (looseness e) 2) refl (then_rises
        (above_rises (expr_height e) (suc n) (suc k) t vs low (λ w. omega (arith, r.less w)) (r.assignment vs))
        (λ x ws. found _ ws))))

assignment_rises : {W : Type 0} {n k : ℕ} {b c : Readers} → Rise W n k b c → (ts : List Token)
    → Rises W ts (read_assignment (suc n) b ts) (read_assignment (suc k) c ts)
assignment_rises {W} {n} {k} {b} {c} r ts =
    then_low (Low (suc n))
    (λ w. low 14 (suc n) ts (read_conditional (suc n) b ts) (sound_conditional n b (r.sound w) ts))
    (conditional_rises r ts) (λ e us. assignment_behind (weaker (λ w. w.0) r) e us (λ w. w.1))

expression_rises : {W : Type 0} {n k : ℕ} {b c : Readers} → Rise W n k b c → (ts : List Token)
    → Rises W ts (read_expression (suc n) b ts) (read_expression (suc k) c ts)
expression_rises {W} {n} {k} {b} {c} r ts =
    infix_rises n k 13 15 (read_assignment (suc n) b) (read_assignment (suc k) c) b.assignment c.assignment r.less
    (λ w. (r.sound w).assignment) r.assignment ts
    (λ w. low 15 (suc n) ts (read_assignment (suc n) b ts) (sound_assignment n b (r.sound w) ts))
    (assignment_rises r ts)

-- ---- by height

over_rises : {W : Type 0} {n k : ℕ} {b c : Readers} → Rise W n k b c → (W → SoundReaders (suc n) (readers_over (suc n) b))
    → Rise W (suc n) (suc k) (readers_over (suc n) b) (readers_over (suc k) c)
over_rises r s = record {
  less = λ w. omega (arith, r.less w);
  higher = λ w. omega (arith, r.less w);
  sound = s;
  expression = expression_rises r;
  assignment = assignment_rises r;
  conditional = conditional_rises r;
  binary = binary_rises r;
  cast = cast_rises r;
  unary = unary_rises r;
}

none_onward : (ts xs : List Token) → length ts < length xs → Past xs (no_reader ts)
none_onward [] xs l = l
none_onward (t ∷ ts) xs l = l

none_rises : (ts : List Token) → Rises ⊥ ts (no_reader ts) (no_reader ts)
none_rises ts = record { rises = λ w. absurd w; onward = none_onward ts }

-- each reader leaves no more tokens than there were
pub readers_onward : (k : ℕ) → Rise ⊥ k k (readers k) (readers k)
unfolding readers
readers_onward zero = record {
  less = λ w. absurd w;
  higher = λ w. absurd w;
  sound = λ w. absurd w;
  expression = none_rises;
  assignment = none_rises;
  conditional = none_rises;
  binary = λ j h. none_rises;
  cast = none_rises;
  unary = none_rises;
}
readers_onward (suc k) = over_rises (readers_onward k) (λ w. absurd w)

-- ---- from no height

-- a fault of no height, with more behind it
pub fault_then : {A : Type 0} {B : Type 0} (deep : Bool) (ts : List Token) (o : Reads A) (f : A → List Token → Reads B)
    → ((a : A) (us xs : List Token) → length us < length xs → Past xs (f a us)) → RisesTo (Faults deep ts) o
    → RisesTo (Faults deep ts) (then_read o f)
fault_then true ts o f p e = past_then ts o f e (λ a us l. p a us ts l)
fault_then false ts o f p e = ap (λ x. then_read x f) e

starts_then : (ts : List Token) (o : Reads Expr) (f : Expr → List Token → Reads Expr)
    → ((a : Expr) (us xs : List Token) → length us < length xs → Past xs (f a us)) → RisesTo (no_reader ts) o
    → RisesTo (no_reader ts) (then_read o f)
starts_then [] o f p e = fault_then false [] o f p e
starts_then (t ∷ ts) o f p e = fault_then (begins t.kind) (t ∷ ts) o f p e

-- a token that makes a node is taken where there is room below it
pub room_starts : {A B : Type 0} (height : ℕ) → 0 < height → (t : Token) (ts : List Token) (o : Reads A)
    (f : A → List Token → Reads B) → ((xs : List Token) → length ts < length xs → Past xs o)
    → ((a : A) (us xs : List Token) → length us < length xs → Past xs (f a us))
    → Past (t ∷ ts) (then_read (above 0 height t ts o) f)
room_starts height some t ts o f p g =
    past_then (t ∷ ts) (above 0 height t ts o) f (past_above (t ∷ ts) 0 height t ts o some (p (t ∷ ts) (omega arith)))
    (λ a us l. g a us (t ∷ ts) l)

postfix_past : (k : ℕ) (c : Readers) → Rise ⊥ k k c c → (xs : List Token) (o : Reads Expr) → Past xs o
    → Past xs (then_read o (λ e us. chained (suffix_step (suc k) c) e us))
postfix_past k c r xs o p =
    past_then xs o (λ e us. chained (suffix_step (suc k) c) e us) p (λ e us l.
    (let all = chain_rises (suffix_step (suc k) c) (suffix_step (suc k) c)
    (λ a vs. suffix_rises r a vs (λ w. absurd w)) (length us) e us in
    all.onward xs l))

unary_starts : (k : ℕ) (c : Readers) → Rise ⊥ k k c c → 0 < c.height → (ts : List Token)
    → RisesTo (no_reader ts) (read_unary (suc k) c ts)
unary_starts k c r some [] = refl
unary_starts k c r some (t ∷ ts) = by t.kind t.at
  where
    parens : (at : Span) → Past (mark marks.LeftParen at ∷ ts) (parenthesised_from c at ts)
    parens at =
        room_starts c.height some (mark marks.LeftParen at) ts (c.expression ts) _ (r.expression ts).onward
        (λ e us. (then_rises {W = ⊥} (mark_rises marks.RightParen us) (λ x vs. found (Parenthesised at e x) vs)).onward)

    prefixed : (op : UnaryOp) (at : Span)
        → Past (mark (unary_mark op) at ∷ ts) (unary_from (suc k) c (Some ((op, at), ts)) (mark (unary_mark op) at ∷ ts))
    prefixed op at = room_starts c.height some (mark (unary_mark op) at) ts (c.cast ts) _ (r.cast ts).onward
        (λ e us xs l. l)

    stepped : (op : StepOp) (at : Span)
        → Past (mark (step_mark op) at ∷ ts) (prefix_from (suc k) c (Some ((op, at), ts)) (mark (step_mark op) at ∷ ts))
    stepped op at = room_starts c.height some (mark (step_mark op) at) ts (c.unary ts) _ (r.unary ts).onward
        (λ e us xs l. l)

    marked : (m : Punct) (at : Span) → RisesTo (no_reader (mark m at ∷ ts)) (read_unary (suc k) c (mark m at ∷ ts))
    marked marks.LeftParen at = postfix_past k c r (mark marks.LeftParen at ∷ ts) (parenthesised_from c at ts) (parens at)
    marked marks.PlusPlus at = stepped step.Increment at
    marked marks.MinusMinus at = stepped step.Decrement at
    marked marks.And at = prefixed unary.AddressOf at
    marked marks.Star at = prefixed unary.Dereference at
    marked marks.Plus at = prefixed unary.Plus at
    marked marks.Minus at = prefixed unary.Minus at
    marked marks.Tilde at = prefixed unary.Complement at
    marked marks.Bang at = prefixed unary.Not at
    marked _ at = refl

    by : (kind : TokenKind) (at : Span) → (let x : Token = record { kind = kind; at = at } in
        RisesTo (no_reader (x ∷ ts)) (read_unary (suc k) c (x ∷ ts)))
    by (kinds.Ident name) at =
        (let f : Ident = record { name = name; at = at } in
        let x : Token = record { kind = kinds.Ident name; at = at } in
        postfix_past k c r (x ∷ ts) (call_from c f (take_mark marks.LeftParen ts) ts)
        ((call_rises r f ts).onward (x ∷ ts) (omega arith)))
    by (kinds.Number value true) at = refl
    by (kinds.Number value false) at =
        (let x : Token = record { kind = kinds.Number value false; at = at } in
        postfix_past k c r (x ∷ ts) (Found (Number value at) ts) (omega arith))
    by (kinds.Text bytes) at =
        (let x : Token = record { kind = kinds.Text bytes; at = at } in
        let first : TextPiece = record { bytes = bytes; at = at } in
        postfix_past k c r (x ∷ ts) (text_from first (take_texts ts)) ((texts_rises first ts).onward (x ∷ ts) (omega arith)))
    by (kinds.Mark m) at = marked m at
    by (kinds.Word w) at = refl

cast_starts : (k : ℕ) (c : Readers) → Rise ⊥ k k c c → 0 < c.height → (ts : List Token)
    → RisesTo (no_reader ts) (read_cast (suc k) c ts)
cast_starts k c r some ts = under (take_mark marks.LeftParen ts) (mark_taken marks.LeftParen ts)
  where
    with_specifiers : (o : Span) (us : List Token) (ss : List Specifier) → ts ≡ mark marks.LeftParen o ∷ us
        → RisesTo (no_reader ts) (cast_with (suc k) c o ss us ts)
    with_specifiers o us [] h = unary_starts k c r some ts
    with_specifiers o us (s ∷ ss) h =
        (let t : Token = mark marks.LeftParen o in
        subst (λ zs. RisesTo (no_reader zs) (cast_inside c o us)) (sym h)
        (past_above (t ∷ us) 0 c.height t us _ some ((cast_behind_rises r o us).onward (t ∷ us) (omega arith))))

    under : (o : Takes Span) → HoldsTaken (λ at us. ts ≡ mark marks.LeftParen at ∷ us) o
        → RisesTo (no_reader ts) (cast_from (suc k) c o ts)
    under None h = unary_starts k c r some ts
    under (Some (o, us)) h = with_specifiers o us (take_specifiers us).0 h

infix_past : (level k : ℕ) (right : Reader) → ((ts : List Token) → Rises ⊥ ts (right ts) (right ts)) → (e : Expr)
    (us xs : List Token) → length us < length xs → Past xs (chained (infix_step level k right) e us)
infix_past level k right r e us =
    (chain_rises {W = ⊥} (infix_step level k right) (infix_step level k right)
    (λ l vs. infix_turn k k level right right (λ w. absurd w) r l vs (λ w. absurd w)) (length us) e us).onward

binary_starts : (k : ℕ) (c : Readers) → Rise ⊥ k k c c → 0 < c.height → (j : ℕ) → j ≤ 10 → (ts : List Token)
    → RisesTo (no_reader ts) (read_binary (suc k) c j ts)
binary_starts k c r some zero h ts = cast_starts k c r some ts
binary_starts k c r some (suc j) h ts =
    (let le : j ≤ 10 = omega (arith, h) in
    starts_then ts (read_binary (suc k) c j ts) _ (infix_past (suc j) (suc k) (c.binary j) (r.binary j le))
    (binary_starts k c r some j le ts))

conditional_starts : (k : ℕ) (c : Readers) → Rise ⊥ k k c c → 0 < c.height → (ts : List Token)
    → RisesTo (no_reader ts) (read_conditional (suc k) c ts)
conditional_starts k c r some ts =
    starts_then ts (read_binary (suc k) c 10 ts) _ (λ e us. (conditional_behind r e us (λ w. absurd w)).onward)
    (binary_starts k c r some 10 (omega arith) ts)

assignment_starts : (k : ℕ) (c : Readers) → Rise ⊥ k k c c → 0 < c.height → (ts : List Token)
    → RisesTo (no_reader ts) (read_assignment (suc k) c ts)
assignment_starts k c r some ts =
    starts_then ts (read_conditional (suc k) c ts) _ (λ e us. (assignment_behind r e us (λ w. absurd w)).onward)
    (conditional_starts k c r some ts)

expression_starts : (k : ℕ) (c : Readers) → Rise ⊥ k k c c → 0 < c.height → (ts : List Token)
    → RisesTo (no_reader ts) (read_expression (suc k) c ts)
expression_starts k c r some ts =
    starts_then ts (read_assignment (suc k) c ts) _ (infix_past 13 (suc k) c.assignment r.assignment)
    (assignment_starts k c r some ts)

pub height_of : (k : ℕ) → (readers k).height ≡ k
unfolding readers
height_of zero = refl
height_of (suc k) = refl

-- two levels more are enough for expressions
pub readers_rise : (n k : ℕ) → n + 2 ≤ k → Rise (Unit {0}) n k (readers n) (readers k)
unfolding readers
readers_rise zero zero l = absurd (omega (arith, l))
readers_rise zero (suc k) l =
    (let r = readers_onward k in
    let c : Readers = readers k in
    let some : 0 < c.height = omega (arith, l, height_of k) in
    record {
      less = λ w. omega arith;
      higher = λ w. omega arith;
      sound = λ w. sound 0;
      expression = λ ts. record { rises = λ w. expression_starts k c r some ts; onward = (expression_rises r ts).onward };
      assignment = λ ts. record { rises = λ w. assignment_starts k c r some ts; onward = (assignment_rises r ts).onward };
      conditional = λ ts.
          record { rises = λ w. conditional_starts k c r some ts; onward = (conditional_rises r ts).onward };
      binary = λ j h ts.
          record { rises = λ w. binary_starts k c r some j h ts; onward = (binary_rises r j h ts).onward };
      cast = λ ts. record { rises = λ w. cast_starts k c r some ts; onward = (cast_rises r ts).onward };
      unary = λ ts. record { rises = λ w. unary_starts k c r some ts; onward = (unary_rises r ts).onward };
    })
readers_rise (suc n) zero l = absurd (omega (arith, l))
readers_rise (suc n) (suc k) l = over_rises (readers_rise n k (omega (arith, l))) (λ w. sound (suc n))
