-- The readings of statements and units look one token ahead.
use Rattle.std.proofs.Common.{ℕ, zero, suc, Bool, true, false, List, [], ◌∷◌, ◌++◌, Option, Some, None, refl, subst}
use Rattle.pcc_base.specs.declared.span.Span.{Span}
use Rattle.pcc_base.specs.declared.keyword.Keyword.TheVariants as words
use Rattle.c_lex.specs.declared.token.Token.{Token}
use Rattle.c_lex.specs.declared.token.Punct.TheVariants as marks
use Rattle.c_syntax.specs.declared.expression.Specifier.{Specifier}
use Rattle.c_syntax.specs.Expressions.{Expr}
use Rattle.c_syntax.specs.Declarations.{DeclaratorTree, DeclarationTree}
use Rattle.c_syntax.specs.Statements.{LabelTree, Case, Default, Stmt, Declared, Labelled, Block, Simple, If, IfElse}
use Rattle.c_syntax.specs.Statements.{Switch, While, Do, For, ForDeclaration, Break, Continue, Return, stmts_of}
use Rattle.c_syntax.specs.Statements.{ExternalTree, FunctionTree, DeclaredTree}
use Rattle.c_syntax.specs.Marks.{mark, word}
use Rattle.c_grammar.specs.Taking.{take_mark, take_word, take_specifiers}
use Rattle.c_grammar.specs.Chains.{Done, Takes, Reads, Found, Faults, then_read}
use Rattle.c_grammar.specs.Taking.{read_mark, read_word}
use Rattle.c_grammar.specs.Heads.{begins_item}
use Rattle.c_grammar.specs.Reading.{Reader, readers}
use Rattle.c_grammar.specs.DeclarationReading.{maybe_before, read_declarator, declaration_behind, read_declaration}
use Rattle.c_grammar.specs.StatementReading.{StmtReader, Below, Condition, read_condition, until_at, until_step}
use Rattle.c_grammar.specs.StatementReading.{read_until}
use Rattle.c_grammar.specs.StatementReading.{default_at, label_at, label_step, read_labels, read_labelled}
use Rattle.c_grammar.specs.StatementReading.{item_with}
use Rattle.c_grammar.specs.StatementReading.{read_block_item, block_behind, else_from, if_behind, while_behind}
use Rattle.c_grammar.specs.StatementReading.{do_behind}
use Rattle.c_grammar.specs.StatementReading.{read_for_rest, for_with, for_behind, switch_behind, break_behind}
use Rattle.c_grammar.specs.StatementReading.{continue_behind, return_behind, read_simple, or_return, or_continue}
use Rattle.c_grammar.specs.StatementReading.{or_break}
use Rattle.c_grammar.specs.StatementReading.{or_switch, or_for, or_do, or_while, or_if, or_block, read_statement}
use Rattle.c_grammar.specs.StatementReading.{no_item}
use Rattle.c_grammar.specs.StatementReading.{below_of, has_parameters, external_from, external_behind}
use Rattle.c_grammar.specs.StatementReading.{external_with}
use Rattle.c_grammar.specs.StatementReading.{read_external, unit_step, read_unit}
use Rattle.c_grammar.specs.Laws.{Ahead}
use Rattle.c_grammar.proofs.Reading.{readers-none}
use Rattle.c_grammar.proofs.Ahead.{found_ahead, faults_ahead, ahead_then, token_alike, nothing_alike, Behind}
use Rattle.c_grammar.proofs.Ahead.{Reading}
use Rattle.c_grammar.proofs.Ahead.{behind_above, ahead_choice, ahead_unless, row_of, ahead_by_row, Eaten, Eats}
use Rattle.c_grammar.proofs.Ahead.{eats_first, eats_last}
use Rattle.c_grammar.proofs.Ahead.{eats_choice, AheadStep, step_of, step_then, step_done, step_same, step_token}
use Rattle.c_grammar.proofs.Ahead.{step_nothing, step_choice, step_until, step_reads, ahead_chained}
use Rattle.c_grammar.proofs.AheadTokens.{mark_single, word_single, mark_ahead, mark_eats, word_ahead}
use Rattle.c_grammar.proofs.AheadTokens.{specifiers_row}
use Rattle.c_grammar.proofs.AheadTokens.{specifiers_ahead}
use Rattle.c_grammar.proofs.AheadExpressions.{AreAhead, readers_ahead}
use Rattle.c_grammar.proofs.AheadDeclarations.{maybe_ahead, declarator_ahead, declaration_behind_ahead}
use Rattle.c_grammar.proofs.AheadDeclarations.{declaration_behind_eats, declaration_ahead, declaration_eats}

-- the readers of what stands below a node; and what stands in a row of several takes a token
pub record AreBelowAhead (b : Below) : Type 0 where
  pub exprs : AreAhead b.exprs
  pub declaration : Ahead b.declaration
  pub statement : Ahead b.statement
  pub item : Ahead b.item
  pub labelled : Ahead b.labelled
  pub statement_eats : Eats b.statement
  pub item_eats : Eats b.item
  pub labelled_eats : Eats b.labelled

-- ---- parts

pub condition_ahead : (b : Below) → AreBelowAhead b → Ahead (read_condition b)
condition_ahead b p = ahead_then (read_mark marks.LeftParen) _ (mark_ahead marks.LeftParen)
    (λ o. ahead_then b.exprs.expression
    (λ e vs. then_read (read_mark marks.RightParen vs) (λ c ws. Found (o, e, c) ws)) p.exprs.expression
    (λ e. ahead_then (read_mark marks.RightParen) (λ c ws. Found (o, e, c) ws) (mark_ahead marks.RightParen)
    (λ c. found_ahead (o, e, c))))

until_ahead : (read : StmtReader) → Ahead read → Eats read → (so_far : List Stmt)
    → AheadStep (until_step read so_far)
until_ahead read p h so_far =
    step_until (mark marks.RightBrace) (take_mark marks.RightBrace) (mark_single marks.RightBrace)
    (until_at read so_far)
    (step_same (λ ts. until_at read so_far None ts)
    (λ ts. step_of (then_read (read ts) (λ s us. Found (so_far ++ s ∷ []) us)))
    (λ ts. step_then (read ts) _ _ (λ s us. refl))
    (step_reads (λ ts. then_read (read ts) (λ s us. Found (so_far ++ s ∷ []) us))
    (ahead_then read _ p (λ s. found_ahead (so_far ++ s ∷ [])))
    (eats_first read _ h (λ s. found_ahead (so_far ++ s ∷ [])))))
    (λ k us ts. refl)

pub read_until_ahead : (read : StmtReader) → Ahead read → Eats read → Ahead (read_until read)
read_until_ahead read p h = ahead_chained (until_step read) (until_ahead read p h) []

default_ahead : (so_far : List LabelTree) → AheadStep (λ ts. default_at so_far (take_word words.Default ts))
default_ahead so_far = step_choice (word words.Default) (take_word words.Default) (word_single words.Default)
    (λ o ts. default_at so_far o)
    (λ at us. then_read (read_mark marks.Colon us) (λ c vs. Found (so_far ++ Default at c ∷ []) vs))
    step_done (λ at us ts. step_then (read_mark marks.Colon us) _ _ (λ c vs. refl))
    (λ at. Reading (ahead_then (read_mark marks.Colon) (λ c vs. Found (so_far ++ Default at c ∷ []) vs)
    (mark_ahead marks.Colon) (λ c. found_ahead (so_far ++ Default at c ∷ []))))

label_ahead : (read : Reader) → Ahead read → (so_far : List LabelTree) → AheadStep (label_step read so_far)
label_ahead read p so_far = step_choice (word words.Case) (take_word words.Case) (word_single words.Case)
    (label_at read so_far)
    (λ at us. then_read (read us)
    (λ e vs. then_read (read_mark marks.Colon vs) (λ c ws. Found (so_far ++ Case at e c ∷ []) ws)))
    (default_ahead so_far)
    (λ at us ts. step_then (read us) _ _ (λ e vs. step_then (read_mark marks.Colon vs) _ _ (λ c ws. refl)))
    (λ at. Reading (ahead_then read _ p
    (λ e. ahead_then (read_mark marks.Colon) (λ c ws. Found (so_far ++ Case at e c ∷ []) ws) (mark_ahead marks.Colon)
    (λ c. found_ahead (so_far ++ Case at e c ∷ [])))))

pub labels_ahead : (read : Reader) → Ahead read → Ahead (read_labels read)
labels_ahead read p = ahead_chained (label_step read) (label_ahead read p) []

pub labelled_ahead : (read : Reader) (statement : StmtReader) → Ahead read → Ahead statement
    → Ahead (read_labelled read statement)
labelled_ahead read statement p q = ahead_then (read_labels read) _ (labels_ahead read p)
    (λ ls. ahead_then statement (λ s vs. Found (Labelled ls s) vs) q (λ s. found_ahead (Labelled ls s)))

labelled_eats : (read : Reader) (statement : StmtReader) → Ahead read → Eats statement
    → Eats (read_labelled read statement)
labelled_eats read statement p h = eats_last (read_labels read) _ (labels_ahead read p)
    (λ ls. eats_first statement (λ s vs. Found (Labelled ls s) vs) h (λ s. found_ahead (Labelled ls s)))

pub block_item_ahead : (declaration : List Token → Reads DeclarationTree) (statement : StmtReader)
    → Ahead declaration → Ahead statement → Ahead (read_block_item declaration statement)
block_item_ahead declaration statement p q = ahead_by_row take_specifiers specifiers_row
    (item_with declaration statement) (λ ts. then_read (declaration ts) (λ d us. Found (Declared d) us))
    q (ahead_then declaration (λ d us. Found (Declared d) us) p (λ d. found_ahead (Declared d))) (λ s ss ts. refl)

block_item_eats : (declaration : List Token → Reads DeclarationTree) (statement : StmtReader)
    → Eats declaration → Eats statement → Eats (read_block_item declaration statement)
block_item_eats declaration statement p q ts = by (take_specifiers ts).0
  where
    by : (ss : List Specifier) → Eaten ts (item_with declaration statement ss ts)
    by [] = q ts
    by (s ∷ ss) = eats_first declaration (λ d us. Found (Declared d) us) p (λ d. found_ahead (Declared d)) ts

-- ---- statements, behind their first word

block_ahead : (b : Below) → AreBelowAhead b → (o : Span) → Ahead (block_behind b o)
block_ahead b p o = ahead_then (read_until b.item) _ (read_until_ahead b.item p.item p.item_eats)
    (λ ss. ahead_then (read_mark marks.RightBrace) (λ c vs. Found (Block o (stmts_of ss) c) vs)
    (mark_ahead marks.RightBrace) (λ c. found_ahead (Block o (stmts_of ss) c)))

else_ahead : (b : Below) → AreBelowAhead b → (at : Span) (k : Condition) (s : Stmt)
    → Ahead (λ ts. else_from b at k s (take_word words.Else ts) ts)
else_ahead b p at k s = ahead_choice (word words.Else) (take_word words.Else) (word_single words.Else)
    (else_from b at k s) (found_ahead (If at k.0 k.1 k.2 s))
    (λ otherwise. Reading (ahead_then b.statement (λ t vs. Found (IfElse at k.0 k.1 k.2 s otherwise t) vs) p.statement
    (λ t. found_ahead (IfElse at k.0 k.1 k.2 s otherwise t))))

if_ahead : (b : Below) → AreBelowAhead b → (at : Span) → Behind Stmt (word words.If at) (λ us. if_behind b at us)
if_ahead b p at = behind_above 0 b.exprs.height (word words.If at) (read_condition b) _ (condition_ahead b p)
    (λ k. ahead_then b.statement (λ s vs. else_from b at k s (take_word words.Else vs) vs) p.statement
    (else_ahead b p at k))

while_ahead : (b : Below) → AreBelowAhead b → (at : Span)
    → Behind Stmt (word words.While at) (λ us. while_behind b at us)
while_ahead b p at = behind_above 0 b.exprs.height (word words.While at) (read_condition b) _ (condition_ahead b p)
    (λ k. ahead_then b.statement (λ s vs. Found (While at k.0 k.1 k.2 s) vs) p.statement
    (λ s. found_ahead (While at k.0 k.1 k.2 s)))

do_ahead : (b : Below) → AreBelowAhead b → (at : Span) → Behind Stmt (word words.Do at) (λ us. do_behind b at us)
do_ahead b p at = behind_above 0 b.exprs.height (word words.Do at) b.statement _ p.statement
    (λ s. ahead_then (read_word words.While)
    (λ until vs. then_read (read_condition b vs)
    (λ k ws. then_read (read_mark marks.Semicolon ws)
    (λ semicolon xs. Found (Do at s until k.0 k.1 k.2 semicolon) xs))) (word_ahead words.While)
    (λ until. ahead_then (read_condition b)
    (λ k ws. then_read (read_mark marks.Semicolon ws)
    (λ semicolon xs. Found (Do at s until k.0 k.1 k.2 semicolon) xs)) (condition_ahead b p)
    (λ k. ahead_then (read_mark marks.Semicolon) (λ semicolon xs. Found (Do at s until k.0 k.1 k.2 semicolon) xs)
    (mark_ahead marks.Semicolon) (λ semicolon. found_ahead (Do at s until k.0 k.1 k.2 semicolon)))))

for_rest_ahead : (b : Below) → AreBelowAhead b → Ahead (read_for_rest b)
for_rest_ahead b p = ahead_then (maybe_before b.exprs.expression marks.Semicolon) _
    (maybe_ahead b.exprs.expression p.exprs.expression marks.Semicolon)
    (λ k. ahead_then (read_mark marks.Semicolon)
    (λ second vs. then_read (maybe_before b.exprs.expression marks.RightParen vs)
    (λ step ws. then_read (read_mark marks.RightParen ws)
    (λ c xs. then_read (b.statement xs) (λ s ys. Found (k, second, step, c, s) ys)))) (mark_ahead marks.Semicolon)
    (λ second. ahead_then (maybe_before b.exprs.expression marks.RightParen)
    (λ step ws. then_read (read_mark marks.RightParen ws)
    (λ c xs. then_read (b.statement xs) (λ s ys. Found (k, second, step, c, s) ys)))
    (maybe_ahead b.exprs.expression p.exprs.expression marks.RightParen)
    (λ step. ahead_then (read_mark marks.RightParen)
    (λ c xs. then_read (b.statement xs) (λ s ys. Found (k, second, step, c, s) ys)) (mark_ahead marks.RightParen)
    (λ c. ahead_then b.statement (λ s ys. Found (k, second, step, c, s) ys) p.statement
    (λ s. found_ahead (k, second, step, c, s))))))

abbrev start_from : Below → Span → Span → Option Expr → Span → List Token → Reads Stmt
start_from b at o start first ts =
    then_read (read_for_rest b ts) (λ r us. Found (For at o start first r.0 r.1 r.2 r.3 r.4) us)

for_start_ahead : (b : Below) → AreBelowAhead b → (at o : Span) → Ahead (for_with b at o [])
for_start_ahead b p at o = ahead_then (maybe_before b.exprs.expression marks.Semicolon) _
    (maybe_ahead b.exprs.expression p.exprs.expression marks.Semicolon)
    (λ start. ahead_then (read_mark marks.Semicolon) (start_from b at o start) (mark_ahead marks.Semicolon)
    (λ first. ahead_then (read_for_rest b) (λ r us. Found (For at o start first r.0 r.1 r.2 r.3 r.4) us)
    (for_rest_ahead b p) (λ r. found_ahead (For at o start first r.0 r.1 r.2 r.3 r.4))))

abbrev declared_from : Below → Span → Span → List Token → Reads Stmt
declared_from b at o ts = then_read (b.declaration ts)
    (λ d us. then_read (read_for_rest b us) (λ r vs. Found (ForDeclaration at o d r.0 r.1 r.2 r.3 r.4) vs))

for_declared_ahead : (b : Below) → AreBelowAhead b → (at o : Span) → Ahead (declared_from b at o)
for_declared_ahead b p at o = ahead_then b.declaration _ p.declaration
    (λ d. ahead_then (read_for_rest b) (λ r vs. Found (ForDeclaration at o d r.0 r.1 r.2 r.3 r.4) vs)
    (for_rest_ahead b p) (λ r. found_ahead (ForDeclaration at o d r.0 r.1 r.2 r.3 r.4)))

for_ahead : (b : Below) → AreBelowAhead b → (at : Span) → Behind Stmt (word words.For at) (λ us. for_behind b at us)
for_ahead b p at =
    behind_above 0 b.exprs.height (word words.For at) (read_mark marks.LeftParen) _ (mark_ahead marks.LeftParen)
    (λ o. ahead_by_row take_specifiers specifiers_row (for_with b at o) (declared_from b at o)
    (for_start_ahead b p at o) (for_declared_ahead b p at o) (λ s ss ts. refl))

switch_ahead : (b : Below) → AreBelowAhead b → (at : Span)
    → Behind Stmt (word words.Switch at) (λ us. switch_behind b at us)
switch_ahead b p at = behind_above 0 b.exprs.height (word words.Switch at) (read_condition b) _ (condition_ahead b p)
    (λ k. ahead_then (read_mark marks.LeftBrace)
    (λ begin vs. then_read (read_until b.labelled vs)
    (λ ss ws. then_read (read_mark marks.RightBrace ws)
    (λ end xs. Found (Switch at k.0 k.1 k.2 begin (stmts_of ss) end) xs))) (mark_ahead marks.LeftBrace)
    (λ begin. ahead_then (read_until b.labelled)
    (λ ss ws. then_read (read_mark marks.RightBrace ws)
    (λ end xs. Found (Switch at k.0 k.1 k.2 begin (stmts_of ss) end) xs))
    (read_until_ahead b.labelled p.labelled p.labelled_eats)
    (λ ss. ahead_then (read_mark marks.RightBrace)
    (λ end xs. Found (Switch at k.0 k.1 k.2 begin (stmts_of ss) end) xs) (mark_ahead marks.RightBrace)
    (λ end. found_ahead (Switch at k.0 k.1 k.2 begin (stmts_of ss) end)))))

break_ahead : (at : Span) → Ahead (break_behind at)
break_ahead at = ahead_then (read_mark marks.Semicolon) (λ semicolon us. Found (Break at semicolon) us)
    (mark_ahead marks.Semicolon) (λ semicolon. found_ahead (Break at semicolon))

continue_ahead : (at : Span) → Ahead (continue_behind at)
continue_ahead at = ahead_then (read_mark marks.Semicolon) (λ semicolon us. Found (Continue at semicolon) us)
    (mark_ahead marks.Semicolon) (λ semicolon. found_ahead (Continue at semicolon))

return_ahead : (b : Below) → AreBelowAhead b → (at : Span) → Ahead (return_behind b at)
return_ahead b p at = ahead_then (maybe_before b.exprs.expression marks.Semicolon) _
    (maybe_ahead b.exprs.expression p.exprs.expression marks.Semicolon)
    (λ e. ahead_then (read_mark marks.Semicolon) (λ semicolon vs. Found (Return at e semicolon) vs)
    (mark_ahead marks.Semicolon) (λ semicolon. found_ahead (Return at e semicolon)))

simple_ahead : (b : Below) → AreBelowAhead b → Ahead (read_simple b)
simple_ahead b p = ahead_then (maybe_before b.exprs.expression marks.Semicolon) _
    (maybe_ahead b.exprs.expression p.exprs.expression marks.Semicolon)
    (λ e. ahead_then (read_mark marks.Semicolon) (λ semicolon vs. Found (Simple e semicolon) vs)
    (mark_ahead marks.Semicolon) (λ semicolon. found_ahead (Simple e semicolon)))

simple_eats : (b : Below) → AreBelowAhead b → Eats (read_simple b)
simple_eats b p = eats_last (maybe_before b.exprs.expression marks.Semicolon) _
    (maybe_ahead b.exprs.expression p.exprs.expression marks.Semicolon)
    (λ e. eats_first (read_mark marks.Semicolon) (λ semicolon vs. Found (Simple e semicolon) vs)
    (mark_eats marks.Semicolon) (λ semicolon. found_ahead (Simple e semicolon)))

-- ---- which statement

pub statement_ahead : (b : Below) → AreBelowAhead b → Ahead (read_statement b)
statement_ahead b p =
    ahead_choice (mark marks.LeftBrace) (take_mark marks.LeftBrace) (mark_single marks.LeftBrace) (or_block b)
    (ahead_choice (word words.If) (take_word words.If) (word_single words.If) (or_if b)
    (ahead_choice (word words.While) (take_word words.While) (word_single words.While) (or_while b)
    (ahead_choice (word words.Do) (take_word words.Do) (word_single words.Do) (or_do b)
    (ahead_choice (word words.For) (take_word words.For) (word_single words.For) (or_for b)
    (ahead_choice (word words.Switch) (take_word words.Switch) (word_single words.Switch) (or_switch b)
    (ahead_choice (word words.Break) (take_word words.Break) (word_single words.Break) (or_break b)
    (ahead_choice (word words.Continue) (take_word words.Continue) (word_single words.Continue) (or_continue b)
    (ahead_choice (word words.Return) (take_word words.Return) (word_single words.Return) (or_return b)
    (simple_ahead b p)
    (λ at. Reading (return_ahead b p at)))
    (λ at. Reading (continue_ahead at)))
    (λ at. Reading (break_ahead at)))
    (switch_ahead b p))
    (for_ahead b p))
    (do_ahead b p))
    (while_ahead b p))
    (if_ahead b p))
    (λ o. Reading (block_ahead b p o))

pub statement_eats : (b : Below) → AreBelowAhead b → Eats (read_statement b)
statement_eats b p =
    eats_choice (mark marks.LeftBrace) (take_mark marks.LeftBrace) (mark_single marks.LeftBrace) (or_block b)
    (eats_choice (word words.If) (take_word words.If) (word_single words.If) (or_if b)
    (eats_choice (word words.While) (take_word words.While) (word_single words.While) (or_while b)
    (eats_choice (word words.Do) (take_word words.Do) (word_single words.Do) (or_do b)
    (eats_choice (word words.For) (take_word words.For) (word_single words.For) (or_for b)
    (eats_choice (word words.Switch) (take_word words.Switch) (word_single words.Switch) (or_switch b)
    (eats_choice (word words.Break) (take_word words.Break) (word_single words.Break) (or_break b)
    (eats_choice (word words.Continue) (take_word words.Continue) (word_single words.Continue) (or_continue b)
    (eats_choice (word words.Return) (take_word words.Return) (word_single words.Return) (or_return b)
    (simple_eats b p)
    (λ at. Reading (return_ahead b p at)))
    (λ at. Reading (continue_ahead at)))
    (λ at. Reading (break_ahead at)))
    (switch_ahead b p))
    (for_ahead b p))
    (do_ahead b p))
    (while_ahead b p))
    (if_ahead b p))
    (λ o. Reading (block_ahead b p o))

-- ---- by height

no_item_ahead : (A : Type 0) → Ahead {A = A} no_item
no_item_ahead A [] = nothing_alike no_item (λ xs. Faults false xs) refl (faults_ahead false [])
no_item_ahead A (t ∷ us) = token_alike no_item (λ xs. Faults (begins_item t.kind) xs) t us (λ xs. refl)
    (faults_ahead (begins_item t.kind) (t ∷ us))

no_item_eats : (A : Type 0) → Eats {A = A} no_item
no_item_eats A [] = tt
no_item_eats A (t ∷ us) = tt

pub below_ahead : (height : ℕ) → AreBelowAhead (below_of height)
unfolding below_of
below_ahead zero = record {
  exprs = subst AreAhead readers-none (readers_ahead 0);
  declaration = no_item_ahead _;
  statement = no_item_ahead _;
  item = no_item_ahead _;
  labelled = no_item_ahead _;
  statement_eats = no_item_eats _;
  item_eats = no_item_eats _;
  labelled_eats = no_item_eats _;
}
below_ahead (suc n) =
    (let b = below_of n in
    let p = below_ahead n in
    let e = readers_ahead (suc n) in
    let d = declaration_ahead b.exprs p.exprs in
    let s = statement_ahead b p in
    let eats = statement_eats b p in
    record {
      exprs = e;
      declaration = d;
      statement = s;
      item = block_item_ahead (read_declaration b.exprs) (read_statement b) d s;
      labelled = labelled_ahead (readers (suc n)).conditional (read_statement b) e.conditional s;
      statement_eats = eats;
      item_eats = block_item_eats (read_declaration b.exprs) (read_statement b) (declaration_eats b.exprs p.exprs) eats;
      labelled_eats = labelled_eats (readers (suc n)).conditional (read_statement b) e.conditional eats;
    })

-- ---- units

external_behind_ahead : (b : Below) → AreBelowAhead b → (ss : List Specifier) (d : DeclaratorTree)
    → Ahead (external_behind b ss d)
external_behind_ahead b p ss d = by (has_parameters d.part)
  where
    declared : Ahead (λ ts. then_read (declaration_behind b.exprs ss d ts) (λ x us. Found (DeclaredTree x) us))
    declared = ahead_then (declaration_behind b.exprs ss d) (λ x us. Found (DeclaredTree x) us)
        (declaration_behind_ahead b.exprs p.exprs ss d) (λ x. found_ahead (DeclaredTree x))

    by : (x : Bool) → Ahead (λ ts. external_from b ss d x (take_mark marks.LeftBrace ts) ts)
    by true = ahead_unless (mark marks.LeftBrace) (take_mark marks.LeftBrace) (mark_single marks.LeftBrace)
        (external_from b ss d true) (λ ts. then_read (b.statement ts) (λ s us. Found (FunctionTree ss d s) us)) declared
        (ahead_then b.statement (λ s us. Found (FunctionTree ss d s) us) p.statement
        (λ s. found_ahead (FunctionTree ss d s)))
        (λ o us ts. refl)
    by false = declared

external_behind_eats : (b : Below) → AreBelowAhead b → (ss : List Specifier) (d : DeclaratorTree)
    → Eats (external_behind b ss d)
external_behind_eats b p ss d ts = by (has_parameters d.part) (take_mark marks.LeftBrace ts)
  where
    declared : Eaten ts (then_read (declaration_behind b.exprs ss d ts) (λ x us. Found (DeclaredTree x) us))
    declared = eats_first (declaration_behind b.exprs ss d) (λ x us. Found (DeclaredTree x) us)
        (declaration_behind_eats b.exprs p.exprs ss d) (λ x. found_ahead (DeclaredTree x)) ts

    by : (x : Bool) (o : Takes Span) → Eaten ts (external_from b ss d x o ts)
    by true (Some (o, us)) = eats_first b.statement (λ s us. Found (FunctionTree ss d s) us) p.statement_eats
        (λ s. found_ahead (FunctionTree ss d s)) ts
    by true None = declared
    by false o = declared

external_with_ahead : (b : Below) → AreBelowAhead b → (ss : List Specifier) → Ahead (external_with b ss)
external_with_ahead b p [] = faults_ahead false
external_with_ahead b p (s ∷ ss) = ahead_then (read_declarator b.exprs) (λ d vs. external_behind b (s ∷ ss) d vs)
    (declarator_ahead b.exprs p.exprs) (external_behind_ahead b p (s ∷ ss))

external_with_eats : (b : Below) → AreBelowAhead b → (ss : List Specifier) → Eats (external_with b ss)
external_with_eats b p [] ts = tt
external_with_eats b p (s ∷ ss) ts = eats_last (read_declarator b.exprs) (λ d vs. external_behind b (s ∷ ss) d vs)
    (declarator_ahead b.exprs p.exprs) (external_behind_eats b p (s ∷ ss)) ts

pub external_ahead : (b : Below) → AreBelowAhead b → Ahead (read_external b)
external_ahead b p =
    ahead_then (row_of take_specifiers) (external_with b) specifiers_ahead (external_with_ahead b p)

pub external_eats : (b : Below) → AreBelowAhead b → Eats (read_external b)
external_eats b p = eats_last (row_of take_specifiers) (external_with b) specifiers_ahead (external_with_eats b p)

abbrev one_more : Below → List ExternalTree → List Token → Reads (List ExternalTree)
one_more b so_far ts = then_read (read_external b ts) (λ e us. Found (so_far ++ e ∷ []) us)

unit_step_ahead : (b : Below) → AreBelowAhead b → (so_far : List ExternalTree) → AheadStep (unit_step b so_far)
unit_step_ahead b p so_far [] = step_nothing (unit_step b so_far) (λ ts. Done) refl (step_done [])
unit_step_ahead b p so_far (t ∷ us) =
    step_token (unit_step b so_far) (λ ts. step_of (one_more b so_far ts)) t us
    (λ xs. step_then (read_external b (t ∷ xs)) _ _ (λ e vs. refl))
    (step_reads (one_more b so_far)
    (ahead_then (read_external b) _ (external_ahead b p) (λ e. found_ahead (so_far ++ e ∷ [])))
    (eats_first (read_external b) _ (external_eats b p) (λ e. found_ahead (so_far ++ e ∷ []))) (t ∷ us))

pub read_unit_ahead : (b : Below) → AreBelowAhead b → Ahead (read_unit b)
read_unit_ahead b p = ahead_chained (unit_step b) (unit_step_ahead b p) []

-- the reader of units, for each height
pub unit_ahead : (n : ℕ) → Ahead (read_unit (below_of n))
unit_ahead n = read_unit_ahead (below_of n) (below_ahead n)
