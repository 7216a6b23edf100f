-- With three levels more, statements and units that were found are found, and faults of height move on.
use Rattle.std.proofs.Common.{◌≡◌, ℕ, zero, suc, ◌+◌, ◌≤◌, ◌<◌, Bool, true, false, List, [], ◌∷◌, length}
use Rattle.std.proofs.Common.{Some, None, ltb, if◌then◌else◌, refl, ap, sym, subst, arith}
use Rattle.std.proofs.lemmas.Bool.{ltb-true}
use Rattle.pcc_base.specs.declared.span.Span.{Span}
use Rattle.pcc_base.specs.declared.keyword.Keyword.{Keyword}
use Rattle.pcc_base.specs.declared.keyword.Keyword.TheVariants as words
use Rattle.c_lex.specs.declared.token.Token.{Token}
use Rattle.c_lex.specs.declared.token.TokenKind.{TokenKind}
use Rattle.c_lex.specs.declared.token.TokenKind.TheVariants as kinds
use Rattle.c_lex.specs.declared.token.Punct.{Punct}
use Rattle.c_lex.specs.declared.token.Punct.TheVariants as marks
use Rattle.c_syntax.specs.declared.operator.SpecifierWord.{SpecifierWord}
use Rattle.c_syntax.specs.declared.operator.SpecifierWord.TheVariants as specifier
use Rattle.c_syntax.specs.declared.expression.Specifier.{Specifier}
use Rattle.c_syntax.specs.Marks.{mark, word}
use Rattle.c_syntax.specs.ExpressionTokens.{specifiers_tokens}
use Rattle.c_syntax.specs.Declarations.{DeclaratorTree, DeclarationTree}
use Rattle.c_syntax.specs.Statements.{LabelTree, Stmt, Declared, Simple, Switch, While, Do, stmts_of, ExternalTree}
use Rattle.c_syntax.specs.Statements.{FunctionTree, DeclaredTree}
use Rattle.c_grammar.specs.Heads.{begins}
use Rattle.c_grammar.specs.Taking.{take_mark, take_word, take_specifiers}
use Rattle.c_grammar.specs.Chains.{Takes, Reads, Found, Faults, then_read, room}
use Rattle.c_grammar.specs.Taking.{read_mark, read_word}
use Rattle.c_grammar.specs.Laws.{Past, RisesTo}
use Rattle.c_grammar.specs.Reading.{Reader, Readers, readers, no_reader}
use Rattle.c_grammar.specs.DeclarationReading.{maybe_from, declaration_behind, declaration_with}
use Rattle.c_grammar.specs.DeclarationReading.{read_declaration}
use Rattle.c_grammar.specs.StatementReading.{StmtReader, Below, Condition, read_condition, until_at, until_step}
use Rattle.c_grammar.specs.StatementReading.{read_until, default_at, label_at, label_step, read_labels, read_labelled}
use Rattle.c_grammar.specs.StatementReading.{item_with, read_block_item, block_behind, else_from, if_behind}
use Rattle.c_grammar.specs.StatementReading.{while_behind, do_behind, read_for_rest, for_with, for_behind}
use Rattle.c_grammar.specs.StatementReading.{switch_behind, break_behind, continue_behind, return_behind, read_simple}
use Rattle.c_grammar.specs.StatementReading.{or_return, or_continue, or_break, or_switch, or_for, or_do, or_while}
use Rattle.c_grammar.specs.StatementReading.{or_if, or_block, read_statement, no_item, nothing_below, below_over}
use Rattle.c_grammar.specs.StatementReading.{below_of, has_parameters, external_from, external_behind, external_with}
use Rattle.c_grammar.specs.StatementReading.{read_external, unit_step, read_unit}
use Rattle.c_grammar.proofs.Reading.{readers-none}
use Rattle.c_grammar.proofs.Chains.{above_low}
use Rattle.c_grammar.proofs.StatementReading.{below_of-none, below_of-suc}
use Rattle.c_grammar.proofs.Sound.{Holds, HoldsTaken, mark_taken, word_taken, specifiers_taken}
use Rattle.c_grammar.proofs.Rising.{Rises, TurnRises, then_low, then_rises, step_rises, found, faults, goes}
use Rattle.c_grammar.proofs.Rising.{turn_done, longer, behind, behind_row, turn, turn_behind, mark_rises, word_rises}
use Rattle.c_grammar.proofs.Rising.{chain_rises, past_then}
use Rattle.c_grammar.proofs.RisingExpressions.{Rise, rises_weaker, readers_onward, readers_rise, fault_then, room_starts}
use Rattle.c_grammar.proofs.RisingExpressions.{height_of}
use Rattle.c_grammar.proofs.RisingDeclarations.{maybe_rises, declarator_rises, declaration_behind_rises}
use Rattle.c_grammar.proofs.RisingDeclarations.{declaration_with_rises, declaration_rises}

-- what is asked where there is room below a node
abbrev Roomy : Type 0 → Below → Type 0
Roomy W b = W × (0 < b.exprs.height)

-- Readers of what is at most n high, and those of what is at most k high, where each rises. Where no height is left, an
-- item or a block alone may have to come.
pub record RiseBelow (W : Type 0) (n k : ℕ) (b c : Below) : Type 0 where
  pub exprs : Rise W n k b.exprs c.exprs
  pub declaration : (ts : List Token) → Rises (Roomy W b) ts (b.declaration ts) (c.declaration ts)
  pub statement : (ts : List Token) → Rises (Roomy W b) ts (b.statement ts) (c.statement ts)
  pub item : (ts : List Token) → Rises W ts (b.item ts) (c.item ts)
  pub labelled : (ts : List Token) → Rises (Roomy W b) ts (b.labelled ts) (c.labelled ts)
  pub block : (o : Span) (ts : List Token) → Rises W (mark marks.LeftBrace o ∷ ts)
      (b.statement (mark marks.LeftBrace o ∷ ts)) (c.statement (mark marks.LeftBrace o ∷ ts))

-- ---- room

room_holds : {A : Type 0} (height : ℕ) (t : Token) (ts : List Token) (r : Reads A)
    → Holds (λ a us. 0 < height) (room height t ts r)
room_holds {A} height t ts r = by (ltb 0 height) refl
  where
    all : (r : Reads A) → 0 < height → Holds (λ a us. 0 < height) r
    all (Found a us) h = h
    all (Faults deep us) h = tt

    by : (x : Bool) → ltb 0 height ≡ x → Holds (λ a us. 0 < height) (if x then r else Faults true (t ∷ ts))
    by true e = all r (ltb-true 0 height e)
    by false e = tt

-- what stands behind the token is asked where there is room alone
room_open : {A W : Type 0} {o q : Reads A} (h g : ℕ) (t : Token) (ts : List Token) → (W → h < g)
    → Rises (W × (0 < h)) ts o q → Rises W (t ∷ ts) (room h t ts o) (room g t ts q)
room_open {A} {W} {o} {q} h g t ts less all =
    record {
      rises = λ w.
          (let l : 0 < g = omega (arith, less w) in
          subst (λ x. RisesTo (room h t ts o) x) (sym (above_low 0 g t ts q l)) (by w (ltb 0 h) refl));
      onward = λ xs l. on xs l (ltb 0 g);
    }
  where
    by : W → (x : Bool) → ltb 0 h ≡ x → RisesTo (if x then o else Faults true (t ∷ ts)) q
    by w true e = all.rises (w, ltb-true 0 h e)
    by w false e = all.onward (t ∷ ts) (omega arith)

    on : (xs : List Token) → length (t ∷ ts) < length xs → (x : Bool) → Past xs (if x then q else Faults true (t ∷ ts))
    on xs l true = all.onward xs (omega (arith, l))
    on xs l false = l

room_then : {A B W : Type 0} {n k : ℕ} {b c : Below} {o q : Reads A} {f g : A → List Token → Reads B}
    → RiseBelow W n k b c → (t : Token) (ts : List Token) → Rises (Roomy W b) ts o q
    → ((a : A) (us : List Token) → Rises (Roomy W b) us (f a us) (g a us))
    → Rises W (t ∷ ts) (then_read (room b.exprs.height t ts o) f) (then_read (room c.exprs.height t ts q) g)
room_then {b = b} {c = c} {o = o} r t ts s next =
    then_low (λ a us. 0 < b.exprs.height) (λ w. room_holds b.exprs.height t ts o)
    (room_open b.exprs.height c.exprs.height t ts r.exprs.higher s) next

-- an expression where there is room
expression_in : {W : Type 0} {n k : ℕ} {b c : Below} → RiseBelow W n k b c → (ts : List Token)
    → Rises (Roomy W b) ts (b.exprs.expression ts) (c.exprs.expression ts)
expression_in r ts = rises_weaker (λ v. v.0) (r.exprs.expression ts)

-- ---- parts

condition_rises : {W : Type 0} {n k : ℕ} {b c : Below} → RiseBelow W n k b c → (ts : List Token)
    → Rises (Roomy W b) ts (read_condition b ts) (read_condition c ts)
condition_rises r ts = then_rises (mark_rises marks.LeftParen ts) (λ o us.
    then_rises (expression_in r us) (λ e vs.
    then_rises (mark_rises marks.RightParen vs) (λ x ws. found _ ws)))

until_rises : {W : Type 0} (read more : StmtReader) → ((ts : List Token) → Rises W ts (read ts) (more ts))
    → (ts : List Token) → Rises W ts (read_until read ts) (read_until more ts)
until_rises {W} read more r ts =
    chain_rises (until_step read) (until_step more) (λ a us. turns a us (take_mark marks.RightBrace us)) (length ts) [] ts
  where
    turns : (a : List Stmt) (us : List Token) (o : Takes Span)
        → TurnRises W us (until_at read a o us) (until_at more a o us)
    turns a us (Some close) = turn_done us
    turns a us None = turn us (omega arith) (step_rises (r us) (λ s vs. goes _ vs))

labels_rises : {W : Type 0} (read more : Reader) → ((ts : List Token) → Rises W ts (read ts) (more ts))
    → (ts : List Token) → Rises W ts (read_labels read ts) (read_labels more ts)
labels_rises {W} read more r ts =
    chain_rises (label_step read) (label_step more)
    (λ a us. turns a us (take_word words.Case us) (word_taken words.Case us)) (length ts) [] ts
  where
    defaults : (a : List LabelTree) (us : List Token) (o : Takes Span)
        → HoldsTaken (λ at vs. us ≡ word words.Default at ∷ vs) o → TurnRises W us (default_at a o) (default_at a o)
    defaults a us None h = turn_done us
    defaults a us (Some (at, vs)) h = turn_behind us h (step_rises (mark_rises marks.Colon vs) (λ x ws. goes _ ws))

    turns : (a : List LabelTree) (us : List Token) (o : Takes Span)
        → HoldsTaken (λ at vs. us ≡ word words.Case at ∷ vs) o
        → TurnRises W us (label_at read a o us) (label_at more a o us)
    turns a us None h = defaults a us (take_word words.Default us) (word_taken words.Default us)
    turns a us (Some (at, vs)) h = turn_behind us h (step_rises (r vs) (λ e ws.
        step_rises (mark_rises marks.Colon ws) (λ x xs. goes _ xs)))

labelled_rises : {W : Type 0} (read more : Reader) (s t : StmtReader)
    → ((ts : List Token) → Rises W ts (read ts) (more ts)) → ((ts : List Token) → Rises W ts (s ts) (t ts))
    → (ts : List Token) → Rises W ts (read_labelled read s ts) (read_labelled more t ts)
labelled_rises read more s t r q ts = then_rises (labels_rises read more r ts) (λ ls us.
    then_rises (q us) (λ x vs. found _ vs))

item_rises : {W : Type 0} (d e : List Token → Reads DeclarationTree) (s t : StmtReader)
    → ((ts : List Token) → Rises W ts (d ts) (e ts)) → ((ts : List Token) → Rises W ts (s ts) (t ts))
    → (ts : List Token) → Rises W ts (read_block_item d s ts) (read_block_item e t ts)
item_rises {W} d e s t r q ts = under (take_specifiers ts).0
  where
    under : (ss : List Specifier) → Rises W ts (item_with d s ss ts) (item_with e t ss ts)
    under [] = q ts
    under (x ∷ ss) = then_rises (r ts) (λ y us. found _ us)

-- ---- statements, behind their first word

block_rises : {W : Type 0} {n k : ℕ} {b c : Below} → RiseBelow W n k b c → (o : Span) (ts : List Token)
    → Rises W ts (block_behind b o ts) (block_behind c o ts)
block_rises {b = b} {c = c} r o ts = then_rises (until_rises b.item c.item r.item ts) (λ ss us.
    then_rises (mark_rises marks.RightBrace us) (λ x vs. found _ vs))

if_after : {W : Type 0} {n k : ℕ} {b c : Below} → RiseBelow W n k b c → (at : Span) (x : Condition) (us : List Token)
    → Rises (Roomy W b) us
    (then_read (b.statement us) (λ s vs. else_from b at x s (take_word words.Else vs) vs))
    (then_read (c.statement us) (λ s vs. else_from c at x s (take_word words.Else vs) vs))
if_after {W} {n} {k} {b} {c} r at x us =
    then_rises (r.statement us) (λ s vs. under s vs (take_word words.Else vs) (word_taken words.Else vs))
  where
    under : (s : Stmt) (vs : List Token) (o : Takes Span) → HoldsTaken (λ y ws. vs ≡ word words.Else y ∷ ws) o
        → Rises (Roomy W b) vs (else_from b at x s o vs) (else_from c at x s o vs)
    under s vs None h = found _ vs
    under s vs (Some (y, ws)) h = behind vs h (then_rises (r.statement ws) (λ t xs. found _ xs))

for_rest_rises : {W : Type 0} {n k : ℕ} {b c : Below} → RiseBelow W n k b c → (ts : List Token)
    → Rises (Roomy W b) ts (read_for_rest b ts) (read_for_rest c ts)
for_rest_rises {b = b} {c = c} r ts =
    then_rises (maybe_rises b.exprs.expression c.exprs.expression (expression_in r) marks.Semicolon ts) (λ x us.
    then_rises (mark_rises marks.Semicolon us) (λ second vs.
    then_rises (maybe_rises b.exprs.expression c.exprs.expression (expression_in r) marks.RightParen vs) (λ step ws.
    then_rises (mark_rises marks.RightParen ws) (λ close xs.
    then_rises (r.statement xs) (λ s ys. found _ ys)))))

for_after : {W : Type 0} {n k : ℕ} {b c : Below} → RiseBelow W n k b c → (at o : Span) (us : List Token)
    → Rises (Roomy W b) us (for_with b at o (take_specifiers us).0 us) (for_with c at o (take_specifiers us).0 us)
for_after {W} {n} {k} {b} {c} r at o us = under (take_specifiers us).0
  where
    under : (ss : List Specifier) → Rises (Roomy W b) us (for_with b at o ss us) (for_with c at o ss us)
    under [] =
        then_rises (maybe_rises b.exprs.expression c.exprs.expression (expression_in r) marks.Semicolon us) (λ x vs.
        then_rises (mark_rises marks.Semicolon vs) (λ first ws.
        then_rises (for_rest_rises r ws) (λ y xs. found _ xs)))
    under (s ∷ ss) = then_rises (r.declaration us) (λ d vs. then_rises (for_rest_rises r vs) (λ y ws. found _ ws))

if_rises : {W : Type 0} {n k : ℕ} {b c : Below} → RiseBelow W n k b c → (at : Span) (ts : List Token)
    → Rises W (word words.If at ∷ ts) (if_behind b at ts) (if_behind c at ts)
if_rises r at ts = room_then r (word words.If at) ts (condition_rises r ts) (λ x us. if_after r at x us)

while_after : {W : Type 0} {n k : ℕ} {b c : Below} → RiseBelow W n k b c → (at : Span) (x : Condition) (us : List Token)
    → Rises (Roomy W b) us (then_read (b.statement us) (λ s vs. Found (While at x.0 x.1 x.2 s) vs))
    (then_read (c.statement us) (λ s vs. Found (While at x.0 x.1 x.2 s) vs))
while_after r at x us = then_rises (r.statement us) (λ s vs. found _ vs)

do_after : {W : Type 0} {n k : ℕ} {b c : Below} → RiseBelow W n k b c → (at : Span) (s : Stmt) (us : List Token)
    → Rises (Roomy W b) us
    (then_read (read_word words.While us) (λ until vs. then_read (read_condition b vs)
    (λ k ws. then_read (read_mark marks.Semicolon ws) (λ semicolon xs. Found (Do at s until k.0 k.1 k.2 semicolon) xs))))
    (then_read (read_word words.While us) (λ until vs. then_read (read_condition c vs)
    (λ k ws. then_read (read_mark marks.Semicolon ws) (λ semicolon xs. Found (Do at s until k.0 k.1 k.2 semicolon) xs))))
do_after r at s us = then_rises (word_rises words.While us) (λ until vs.
    then_rises (condition_rises r vs) (λ x ws.
    then_rises (mark_rises marks.Semicolon ws) (λ semicolon xs. found _ xs)))

switch_after : {W : Type 0} {n k : ℕ} {b c : Below} → RiseBelow W n k b c → (at : Span) (x : Condition) (us : List Token)
    → Rises (Roomy W b) us
    (then_read (read_mark marks.LeftBrace us) (λ begin vs. then_read (read_until b.labelled vs)
    (λ ss ws. then_read (read_mark marks.RightBrace ws)
    (λ end xs. Found (Switch at x.0 x.1 x.2 begin (stmts_of ss) end) xs))))
    (then_read (read_mark marks.LeftBrace us) (λ begin vs. then_read (read_until c.labelled vs)
    (λ ss ws. then_read (read_mark marks.RightBrace ws)
    (λ end xs. Found (Switch at x.0 x.1 x.2 begin (stmts_of ss) end) xs))))
switch_after {b = b} {c = c} r at x us = then_rises (mark_rises marks.LeftBrace us) (λ begin vs.
    then_rises (until_rises b.labelled c.labelled r.labelled vs) (λ ss ws.
    then_rises (mark_rises marks.RightBrace ws) (λ end xs. found _ xs)))

while_rises : {W : Type 0} {n k : ℕ} {b c : Below} → RiseBelow W n k b c → (at : Span) (ts : List Token)
    → Rises W (word words.While at ∷ ts) (while_behind b at ts) (while_behind c at ts)
while_rises r at ts = room_then r (word words.While at) ts (condition_rises r ts) (λ x us. while_after r at x us)

do_rises : {W : Type 0} {n k : ℕ} {b c : Below} → RiseBelow W n k b c → (at : Span) (ts : List Token)
    → Rises W (word words.Do at ∷ ts) (do_behind b at ts) (do_behind c at ts)
do_rises r at ts = room_then r (word words.Do at) ts (r.statement ts) (λ s us. do_after r at s us)

for_rises : {W : Type 0} {n k : ℕ} {b c : Below} → RiseBelow W n k b c → (at : Span) (ts : List Token)
    → Rises W (word words.For at ∷ ts) (for_behind b at ts) (for_behind c at ts)
for_rises r at ts = room_then r (word words.For at) ts (mark_rises marks.LeftParen ts) (λ o us. for_after r at o us)

switch_rises : {W : Type 0} {n k : ℕ} {b c : Below} → RiseBelow W n k b c → (at : Span) (ts : List Token)
    → Rises W (word words.Switch at ∷ ts) (switch_behind b at ts) (switch_behind c at ts)
switch_rises r at ts = room_then r (word words.Switch at) ts (condition_rises r ts) (λ x us. switch_after r at x us)

break_rises : {W : Type 0} (at : Span) (ts : List Token) → Rises W ts (break_behind at ts) (break_behind at ts)
break_rises at ts = then_rises (mark_rises marks.Semicolon ts) (λ semicolon us. found _ us)

continue_rises : {W : Type 0} (at : Span) (ts : List Token) → Rises W ts (continue_behind at ts) (continue_behind at ts)
continue_rises at ts = then_rises (mark_rises marks.Semicolon ts) (λ semicolon us. found _ us)

return_rises : {W : Type 0} {n k : ℕ} {b c : Below} → RiseBelow W n k b c → (at : Span) (ts : List Token)
    → Rises W ts (return_behind b at ts) (return_behind c at ts)
return_rises {b = b} {c = c} r at ts =
    then_rises (maybe_rises b.exprs.expression c.exprs.expression r.exprs.expression marks.Semicolon ts) (λ e us.
    then_rises (mark_rises marks.Semicolon us) (λ semicolon vs. found _ vs))

simple_rises : {W : Type 0} {n k : ℕ} {b c : Below} → RiseBelow W n k b c → (ts : List Token)
    → Rises W ts (read_simple b ts) (read_simple c ts)
simple_rises {b = b} {c = c} r ts =
    then_rises (maybe_rises b.exprs.expression c.exprs.expression r.exprs.expression marks.Semicolon ts) (λ e us.
    then_rises (mark_rises marks.Semicolon us) (λ semicolon vs. found _ vs))

-- ---- which statement

statement_rises : {W : Type 0} {n k : ℕ} {b c : Below} → RiseBelow W n k b c → (ts : List Token)
    → Rises W ts (read_statement b ts) (read_statement c ts)
statement_rises {W} {n} {k} {b} {c} r ts = blocks (take_mark marks.LeftBrace ts) (mark_taken marks.LeftBrace ts)
  where
    all : (t : Token) (us : List Token) (o q : Reads Stmt) → ts ≡ t ∷ us → Rises W (t ∷ us) o q → Rises W ts o q
    all t us o q h s = (let f : length ts ≡ suc (length us) = ap length h in longer ts (omega (arith, f)) s)

    returns : (o : Takes Span) → HoldsTaken (λ at us. ts ≡ word words.Return at ∷ us) o
        → Rises W ts (or_return b o ts) (or_return c o ts)
    returns None h = simple_rises r ts
    returns (Some (at, us)) h = behind ts h (return_rises r at us)

    continues : (o : Takes Span) → HoldsTaken (λ at us. ts ≡ word words.Continue at ∷ us) o
        → Rises W ts (or_continue b o ts) (or_continue c o ts)
    continues None h = returns (take_word words.Return ts) (word_taken words.Return ts)
    continues (Some (at, us)) h = behind ts h (continue_rises at us)

    breaks : (o : Takes Span) → HoldsTaken (λ at us. ts ≡ word words.Break at ∷ us) o
        → Rises W ts (or_break b o ts) (or_break c o ts)
    breaks None h = continues (take_word words.Continue ts) (word_taken words.Continue ts)
    breaks (Some (at, us)) h = behind ts h (break_rises at us)

    switches : (o : Takes Span) → HoldsTaken (λ at us. ts ≡ word words.Switch at ∷ us) o
        → Rises W ts (or_switch b o ts) (or_switch c o ts)
    switches None h = breaks (take_word words.Break ts) (word_taken words.Break ts)
    switches (Some (at, us)) h = all _ us _ _ h (switch_rises r at us)

    fors : (o : Takes Span) → HoldsTaken (λ at us. ts ≡ word words.For at ∷ us) o
        → Rises W ts (or_for b o ts) (or_for c o ts)
    fors None h = switches (take_word words.Switch ts) (word_taken words.Switch ts)
    fors (Some (at, us)) h = all _ us _ _ h (for_rises r at us)

    dos : (o : Takes Span) → HoldsTaken (λ at us. ts ≡ word words.Do at ∷ us) o
        → Rises W ts (or_do b o ts) (or_do c o ts)
    dos None h = fors (take_word words.For ts) (word_taken words.For ts)
    dos (Some (at, us)) h = all _ us _ _ h (do_rises r at us)

    whiles : (o : Takes Span) → HoldsTaken (λ at us. ts ≡ word words.While at ∷ us) o
        → Rises W ts (or_while b o ts) (or_while c o ts)
    whiles None h = dos (take_word words.Do ts) (word_taken words.Do ts)
    whiles (Some (at, us)) h = all _ us _ _ h (while_rises r at us)

    ifs : (o : Takes Span) → HoldsTaken (λ at us. ts ≡ word words.If at ∷ us) o
        → Rises W ts (or_if b o ts) (or_if c o ts)
    ifs None h = whiles (take_word words.While ts) (word_taken words.While ts)
    ifs (Some (at, us)) h = all _ us _ _ h (if_rises r at us)

    blocks : (o : Takes Span) → HoldsTaken (λ at us. ts ≡ mark marks.LeftBrace at ∷ us) o
        → Rises W ts (or_block b o ts) (or_block c o ts)
    blocks None h = ifs (take_word words.If ts) (word_taken words.If ts)
    blocks (Some (o, us)) h = behind ts h (block_rises r o us)

-- ---- by height

over_rises : {W : Type 0} {n k : ℕ} {b c : Below} → RiseBelow W n k b c
    → Rise W (suc n) (suc k) (readers (suc n)) (readers (suc k))
    → RiseBelow W (suc n) (suc k) (below_over (suc n) b) (below_over (suc k) c)
over_rises {n = n} {k = k} {b = b} {c = c} r s = record {
  exprs = s;
  declaration = λ ts. rises_weaker (λ v. v.0) (declaration_rises r.exprs ts);
  statement = λ ts. rises_weaker (λ v. v.0) (statement_rises r ts);
  item = item_rises (read_declaration b.exprs) (read_declaration c.exprs) (read_statement b) (read_statement c)
      (declaration_rises r.exprs) (statement_rises r);
  labelled = λ ts. rises_weaker (λ v. v.0) (labelled_rises (readers (suc n)).conditional (readers (suc k)).conditional
      (read_statement b) (read_statement c) s.conditional (statement_rises r) ts);
  block = λ o ts. statement_rises r (mark marks.LeftBrace o ∷ ts);
}

no_item_onward : (A : Type 0) (ts xs : List Token) → length ts < length xs → Past {A = A} xs (no_item ts)
no_item_onward A [] xs l = l
no_item_onward A (t ∷ ts) xs l = l

no_item_rises : {A V : Type 0} → (V → ⊥) → (ts : List Token) → Rises {A = A} V ts (no_item ts) (no_item ts)
no_item_rises {A} never ts = record { rises = λ w. absurd (never w); onward = no_item_onward A ts }

none_onward : RiseBelow ⊥ 0 0 nothing_below nothing_below
none_onward = record {
  exprs = (let P : Readers → Type 0 = λ r. Rise ⊥ 0 0 r r in subst P readers-none (readers_onward 0));
  declaration = no_item_rises (λ v. v.0);
  statement = no_item_rises (λ v. v.0);
  item = no_item_rises (λ v. v);
  labelled = no_item_rises (λ v. v.0);
  block = λ o ts. no_item_rises (λ v. v) (mark marks.LeftBrace o ∷ ts);
}

-- each reader leaves no more tokens than there were
pub below_onward : (k : ℕ) → RiseBelow ⊥ k k (below_of k) (below_of k)
below_onward zero = (let P : Below → Type 0 = λ b. RiseBelow ⊥ 0 0 b b in subst P (sym below_of-none) none_onward)
below_onward (suc k) =
    (let P : Below → Type 0 = λ b. RiseBelow ⊥ (suc k) (suc k) b b in
    subst P (sym (below_of-suc k)) (over_rises (below_onward k) (readers_onward (suc k))))

-- ---- from no height

abbrev Simply : Below → Takes Span → List Token → Reads Stmt
Simply c o ts = then_read (maybe_from c.exprs.expression o ts)
    (λ e us. then_read (read_mark marks.Semicolon us) (λ semicolon vs. Found (Simple e semicolon) vs))

-- an expression, where no statement of another kind begins
simple_starts : (c : Below) (deep : Bool) (ts : List Token) → RisesTo (Faults deep ts) (c.exprs.expression ts)
    → RisesTo (Faults deep ts) (Simply c None ts)
simple_starts c deep ts h =
    fault_then deep ts (maybe_from c.exprs.expression None ts) _
    (λ e us. (then_rises {W = ⊥} (mark_rises marks.Semicolon us) (λ semicolon vs. found (Simple e semicolon) vs)).onward)
    (fault_then deep ts (c.exprs.expression ts) _ (λ e us xs l. l) h)

specified : (k : ℕ) (c : Below) → RiseBelow ⊥ k k c c → (t : Token) (s : Specifier) (ts : List Token)
    → Past (t ∷ ts) (then_read (declaration_with c.exprs (s ∷ (take_specifiers ts).0) (take_specifiers ts).1)
    (λ d us. Found (Declared d) us))
specified k c r t s ts =
    (let ss : List Specifier = s ∷ (take_specifiers ts).0 in
    let all = behind_row ts (specifiers_tokens (take_specifiers ts).0) (specifiers_taken ts)
    (declaration_with_rises r.exprs ss (take_specifiers ts).1) in
    past_then (t ∷ ts) (declaration_with c.exprs ss (take_specifiers ts).1) _ (all.onward (t ∷ ts) (omega arith))
    (λ d us l. l))

item_starts : (k : ℕ) (c : Below) → RiseBelow ⊥ k k c c → 0 < c.exprs.height
    → ((ts : List Token) → RisesTo (no_reader ts) (c.exprs.expression ts)) → (ts : List Token)
    → RisesTo (no_item ts) (read_block_item (read_declaration c.exprs) (read_statement c) ts)
item_starts k c r some starts [] = simple_starts c false [] (starts [])
item_starts k c r some starts (t ∷ ts) = by t.kind t.at
  where
    Starts : Token → Type 0
    Starts x = RisesTo (no_item (x ∷ ts)) (read_block_item (read_declaration c.exprs) (read_statement c) (x ∷ ts))

    spec : (w : Keyword) (s : SpecifierWord) (at : Span)
        → Past (word w at ∷ ts) (then_read (declaration_with c.exprs
        ((let x : Specifier = record { word = s; at = at } in x) ∷ (take_specifiers ts).0) (take_specifiers ts).1)
        (λ d us. Found (Declared d) us))
    spec w s at = specified k c r (word w at) (record { word = s; at = at }) ts

    worded : (w : Keyword) (at : Span) → Starts (word w at)
    worded words.If at = room_starts c.exprs.height some (word words.If at) ts (read_condition c ts) _
        (condition_rises r ts).onward (λ x us. (if_after r at x us).onward)
    worded words.While at = room_starts c.exprs.height some (word words.While at) ts (read_condition c ts) _
        (condition_rises r ts).onward (λ x us. (while_after r at x us).onward)
    worded words.Do at = room_starts c.exprs.height some (word words.Do at) ts (c.statement ts) _
        (r.statement ts).onward (λ s us. (do_after r at s us).onward)
    worded words.For at = room_starts c.exprs.height some (word words.For at) ts (read_mark marks.LeftParen ts) _
        (mark_rises {W = ⊥} marks.LeftParen ts).onward (λ o us. (for_after r at o us).onward)
    worded words.Switch at = room_starts c.exprs.height some (word words.Switch at) ts (read_condition c ts) _
        (condition_rises r ts).onward (λ x us. (switch_after r at x us).onward)
    worded words.Break at = (break_rises {W = ⊥} at ts).onward (word words.Break at ∷ ts) (omega arith)
    worded words.Continue at = (continue_rises {W = ⊥} at ts).onward (word words.Continue at ∷ ts) (omega arith)
    worded words.Return at = (return_rises r at ts).onward (word words.Return at ∷ ts) (omega arith)
    worded words.Auto at = spec words.Auto specifier.Auto at
    worded words.Register at = spec words.Register specifier.Register at
    worded words.Static at = spec words.Static specifier.Static at
    worded words.Extern at = spec words.Extern specifier.Extern at
    worded words.Const at = spec words.Const specifier.Const at
    worded words.Void at = spec words.Void specifier.Void at
    worded words.Char at = spec words.Char specifier.Char at
    worded words.Short at = spec words.Short specifier.Short at
    worded words.Int at = spec words.Int specifier.Int at
    worded words.Signed at = spec words.Signed specifier.Signed at
    worded w at = simple_starts c false (word w at ∷ ts) (starts (word w at ∷ ts))

    marked : (m : Punct) (at : Span) → Starts (mark m at)
    marked marks.LeftBrace at = (block_rises r at ts).onward (mark marks.LeftBrace at ∷ ts) (omega arith)
    marked marks.Semicolon at = omega arith
    marked m at = simple_starts c (begins (kinds.Mark m)) (mark m at ∷ ts) (starts (mark m at ∷ ts))

    by : (kind : TokenKind) (at : Span) → (let x : Token = record { kind = kind; at = at } in Starts x)
    by (kinds.Ident name) at =
        (let x : Token = record { kind = kinds.Ident name; at = at } in
        simple_starts c true (x ∷ ts) (starts (x ∷ ts)))
    by (kinds.Number value true) at =
        (let x : Token = record { kind = kinds.Number value true; at = at } in
        simple_starts c false (x ∷ ts) (starts (x ∷ ts)))
    by (kinds.Number value false) at =
        (let x : Token = record { kind = kinds.Number value false; at = at } in
        simple_starts c true (x ∷ ts) (starts (x ∷ ts)))
    by (kinds.Text bytes) at =
        (let x : Token = record { kind = kinds.Text bytes; at = at } in
        simple_starts c true (x ∷ ts) (starts (x ∷ ts)))
    by (kinds.Mark m) at = marked m at
    by (kinds.Word w) at = worded w at

exprs_of : (k : ℕ) → (below_of k).exprs ≡ readers k
exprs_of zero = (let P : Below → Type 0 = λ b. b.exprs ≡ readers 0 in subst P (sym below_of-none) (sym readers-none))
exprs_of (suc k) =
    (let P : Below → Type 0 = λ b. b.exprs ≡ readers (suc k) in subst P (sym (below_of-suc k)) refl)

none_rises : (k : ℕ) → 2 ≤ k
    → RiseBelow (Unit {0}) 0 (suc k) nothing_below (below_over (suc k) (below_of k))
none_rises k le = record {
  exprs = (let P : Readers → Type 0 = λ b. Rise (Unit {0}) 0 (suc k) b (readers (suc k)) in
      subst P readers-none (readers_rise 0 (suc k) (omega (arith, le))));
  declaration = λ ts. record { rises = λ v. none v.1; onward = (declaration_rises r.exprs ts).onward };
  statement = λ ts. record { rises = λ v. none v.1; onward = (statement_rises r ts).onward };
  item = λ ts. record {
    rises = λ v. item_starts k c r some starts ts;
    onward = (item_rises (read_declaration c.exprs) (read_declaration c.exprs) (read_statement c) (read_statement c)
        (declaration_rises r.exprs) (statement_rises r) ts).onward;
  };
  labelled = λ ts. record {
    rises = λ v. none v.1;
    onward = (labelled_rises (readers (suc k)).conditional (readers (suc k)).conditional (read_statement c)
        (read_statement c) (readers_onward (suc k)).conditional (statement_rises r) ts).onward;
  };
  block = λ o ts. record {
    rises = λ v. (block_rises r o ts).onward (mark marks.LeftBrace o ∷ ts) (omega arith);
    onward = (statement_rises r (mark marks.LeftBrace o ∷ ts)).onward;
  };
}
  where
    c : Below
    c = below_of k

    r : RiseBelow ⊥ k k c c
    r = below_onward k

    none : {A : Type 0} → 0 < 0 → A
    none l = absurd (omega (arith, l))

    some : 0 < c.exprs.height
    some = (let P : Readers → Type 0 = λ b. 0 < b.height in
        subst P (sym (exprs_of k)) (omega (arith, le, height_of k)))

    starts : (ts : List Token) → RisesTo (no_reader ts) (c.exprs.expression ts)
    starts ts = (let P : Readers → Type 0 = λ b. RisesTo (no_reader ts) (b.expression ts) in
        let Q : Readers → Type 0 = λ b. RisesTo (b.expression ts) ((readers k).expression ts) in
        subst P (sym (exprs_of k)) (subst Q readers-none (((readers_rise 0 k le).expression ts).rises tt)))

-- three levels more
pub below_rise : (n k : ℕ) → n + 3 ≤ k → RiseBelow (Unit {0}) n k (below_of n) (below_of k)
below_rise n zero l = absurd (omega (arith, l))
below_rise zero (suc k) l =
    (let P : Below → Type 0 = λ b. RiseBelow (Unit {0}) 0 (suc k) b (below_of (suc k)) in
    let Q : Below → Type 0 = λ b. RiseBelow (Unit {0}) 0 (suc k) nothing_below b in
    subst P (sym below_of-none) (subst Q (sym (below_of-suc k)) (none_rises k (omega (arith, l)))))
below_rise (suc n) (suc k) l =
    (let P : Below → Type 0 = λ b. RiseBelow (Unit {0}) (suc n) (suc k) b (below_of (suc k)) in
    let Q : Below → Type 0 = λ b. RiseBelow (Unit {0}) (suc n) (suc k) (below_over (suc n) (below_of n)) b in
    subst P (sym (below_of-suc n)) (subst Q (sym (below_of-suc k))
    (over_rises (below_rise n k (omega (arith, l))) (readers_rise (suc n) (suc k) (omega (arith, l))))))

-- ---- units

external_behind_rises : {W : Type 0} {n k : ℕ} {b c : Below} → RiseBelow W n k b c → (ss : List Specifier)
    (d : DeclaratorTree) (ts : List Token) → Rises W ts (external_behind b ss d ts) (external_behind c ss d ts)
external_behind_rises {W} {n} {k} {b} {c} r ss d ts =
    under (has_parameters d.part) (take_mark marks.LeftBrace ts) (mark_taken marks.LeftBrace ts)
  where
    declared : Rises W ts (then_read (declaration_behind b.exprs ss d ts) (λ x us. Found (DeclaredTree x) us))
        (then_read (declaration_behind c.exprs ss d ts) (λ x us. Found (DeclaredTree x) us))
    declared = then_rises (declaration_behind_rises r.exprs ss d ts) (λ x us. found (DeclaredTree x) us)

    under : (x : Bool) (o : Takes Span) → HoldsTaken (λ at us. ts ≡ mark marks.LeftBrace at ∷ us) o
        → Rises W ts (external_from b ss d x o ts) (external_from c ss d x o ts)
    under false o h = declared
    under true None h = declared
    under true (Some (o, us)) h =
        (let P : List Token → Type 0 = λ zs. Rises W zs
        (then_read (b.statement zs) (λ s vs. Found (FunctionTree ss d s) vs))
        (then_read (c.statement zs) (λ s vs. Found (FunctionTree ss d s) vs)) in
        subst P (sym h) (then_rises (r.block o us) (λ s vs. found (FunctionTree ss d s) vs)))

external_rises : {W : Type 0} {n k : ℕ} {b c : Below} → RiseBelow W n k b c → (ts : List Token)
    → Rises W ts (read_external b ts) (read_external c ts)
external_rises {W} {n} {k} {b} {c} r ts =
    behind_row ts (specifiers_tokens (take_specifiers ts).0) (specifiers_taken ts)
    (under (take_specifiers ts).0 (take_specifiers ts).1)
  where
    under : (ss : List Specifier) (us : List Token) → Rises W us (external_with b ss us) (external_with c ss us)
    under [] us = faults us
    under (s ∷ ss) us =
        then_rises (declarator_rises r.exprs us) (λ d vs. external_behind_rises r (s ∷ ss) d vs)

unit_turn : {W : Type 0} {n k : ℕ} {b c : Below} → RiseBelow W n k b c → (a : List ExternalTree) (ts : List Token)
    → TurnRises W ts (unit_step b a ts) (unit_step c a ts)
unit_turn r a [] = turn_done []
unit_turn r a (t ∷ ts) = turn (t ∷ ts) (omega arith) (step_rises (external_rises r (t ∷ ts)) (λ e us. goes _ us))

-- With three levels more what was read of a unit is read, a fault that is not of height stays, and one of height moves
-- on.
pub unit_rises : (n k : ℕ) (ts : List Token) → n + 3 ≤ k
    → RisesTo (read_unit (below_of n) ts) (read_unit (below_of k) ts)
unit_rises n k ts l =
    (let all = chain_rises (unit_step (below_of n)) (unit_step (below_of k)) (unit_turn (below_rise n k l)) (length ts) []
    ts in
    all.rises tt)
