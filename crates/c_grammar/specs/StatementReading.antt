-- Reading statements and units from the front of a list of tokens, where a height may be at most so much.
use Rattle.std.specs.Prelude.{ℕ, zero, suc, Bool, true, false, List, [], ◌∷◌, ◌++◌, Option, Some, None}
use Rattle.pcc_base.specs.declared.span.Span.{Span}
use Rattle.pcc_base.specs.declared.keyword.Keyword.TheVariants as words
use Rattle.c_lex.specs.declared.token.Token.{Token}
use Rattle.c_lex.specs.declared.token.Punct.TheVariants as marks
use Rattle.c_syntax.specs.declared.expression.Specifier.{Specifier}
use Rattle.c_syntax.specs.Expressions.{Expr}
use Rattle.c_syntax.specs.Declarations.{PartTree, Function, DeclaratorTree, DeclarationTree}
use Rattle.c_syntax.specs.Statements.{LabelTree, Case, Default, Stmt, Declared, Labelled, Block, Simple, If, IfElse}
use Rattle.c_syntax.specs.Statements.{Switch, While, Do, For, ForDeclaration, Break, Continue, Return, stmts_of}
use Rattle.c_syntax.specs.Statements.{ExternalTree, FunctionTree, DeclaredTree}
use Rattle.c_syntax.specs.Marks.{word}
use Rattle.c_grammar.specs.Chains.{Step, Done, Goes, Takes, Reads, Found, Faults, then_read, then_step, room, chained}
use Rattle.c_grammar.specs.Heads.{begins_item}
use Rattle.c_grammar.specs.Taking.{take_mark, take_word, take_specifiers}
use Rattle.c_grammar.specs.Taking.{read_mark, read_word}
use Rattle.c_grammar.specs.Reading.{Reader, Readers, readers, no_readers}
use Rattle.c_grammar.specs.DeclarationReading.{maybe_before, read_declarator, declaration_behind, read_declaration}

abbrev pub StmtReader : Type 0
StmtReader = List Token → Reads Stmt

-- the readers of what stands below a node
pub record Below : Type 0 where
  pub exprs : Readers
  pub declaration : List Token → Reads DeclarationTree
  pub statement : StmtReader
  pub item : StmtReader
  pub labelled : StmtReader

-- ---- parts

abbrev pub Condition : Type 0
Condition = Span × Expr × Span

-- '(' expression ')'
abbrev pub read_condition : Below → List Token → Reads Condition
read_condition b ts =
    then_read (read_mark marks.LeftParen ts) (λ o us.
    then_read (b.exprs.expression us) (λ e vs.
    then_read (read_mark marks.RightParen vs) (λ c ws. Found (o, e, c) ws)))

abbrev pub until_at : StmtReader → List Stmt → Takes Span → List Token → Step (List Stmt)
until_at read so_far (Some close) ts = Done
until_at read so_far None ts = then_step (read ts) (λ s us. Goes (so_far ++ s ∷ []) us)

abbrev pub until_step : StmtReader → List Stmt → List Token → Step (List Stmt)
until_step read so_far ts = until_at read so_far (take_mark marks.RightBrace ts) ts

-- statements up to a `}`
abbrev pub read_until : StmtReader → List Token → Reads (List Stmt)
read_until read ts = chained (until_step read) [] ts

abbrev pub default_at : List LabelTree → Takes Span → Step (List LabelTree)
default_at so_far None = Done
default_at so_far (Some (at, us)) = then_step (read_mark marks.Colon us) (λ c vs. Goes (so_far ++ Default at c ∷ []) vs)

abbrev pub label_at : Reader → List LabelTree → Takes Span → List Token → Step (List LabelTree)
label_at read so_far (Some (at, us)) ts =
    then_step (read us) (λ e vs. then_step (read_mark marks.Colon vs) (λ c ws. Goes (so_far ++ Case at e c ∷ []) ws))
label_at read so_far None ts = default_at so_far (take_word words.Default ts)

abbrev pub label_step : Reader → List LabelTree → List Token → Step (List LabelTree)
label_step read so_far ts = label_at read so_far (take_word words.Case ts) ts

-- label*
abbrev pub read_labels : Reader → List Token → Reads (List LabelTree)
read_labels read ts = chained (label_step read) [] ts

-- label* statement
abbrev pub read_labelled : Reader → StmtReader → List Token → Reads Stmt
read_labelled read statement ts = then_read (read_labels read ts)
    (λ ls us. then_read (statement us) (λ s vs. Found (Labelled ls s) vs))

abbrev pub item_with : (List Token → Reads DeclarationTree) → StmtReader → List Specifier → List Token → Reads Stmt
item_with declaration statement [] ts = statement ts
item_with declaration statement (s ∷ ss) ts = then_read (declaration ts) (λ d us. Found (Declared d) us)

-- declaration | statement
abbrev pub read_block_item : (List Token → Reads DeclarationTree) → StmtReader → List Token → Reads Stmt
read_block_item declaration statement ts = item_with declaration statement (take_specifiers ts).0 ts

-- ---- statements, behind their first word

abbrev pub block_behind : Below → Span → List Token → Reads Stmt
block_behind b o ts = then_read (read_until b.item ts)
    (λ ss us. then_read (read_mark marks.RightBrace us) (λ c vs. Found (Block o (stmts_of ss) c) vs))

abbrev pub else_from : Below → Span → Condition → Stmt → Takes Span → List Token → Reads Stmt
else_from b at k s None ts = Found (If at k.0 k.1 k.2 s) ts
else_from b at k s (Some (otherwise, us)) ts =
    then_read (b.statement us) (λ t vs. Found (IfElse at k.0 k.1 k.2 s otherwise t) vs)

abbrev pub if_behind : Below → Span → List Token → Reads Stmt
if_behind b at ts = then_read (room b.exprs.height (word words.If at) ts (read_condition b ts))
    (λ k us. then_read (b.statement us) (λ s vs. else_from b at k s (take_word words.Else vs) vs))

abbrev pub while_behind : Below → Span → List Token → Reads Stmt
while_behind b at ts = then_read (room b.exprs.height (word words.While at) ts (read_condition b ts))
    (λ k us. then_read (b.statement us) (λ s vs. Found (While at k.0 k.1 k.2 s) vs))

abbrev pub do_behind : Below → Span → List Token → Reads Stmt
do_behind b at ts =
    then_read (room b.exprs.height (word words.Do at) ts (b.statement ts)) (λ s us. then_read (read_word words.While us)
    (λ until vs. then_read (read_condition b vs)
    (λ k ws. then_read (read_mark marks.Semicolon ws)
    (λ semicolon xs. Found (Do at s until k.0 k.1 k.2 semicolon) xs))))

abbrev pub ForRest : Type 0
ForRest = Option Expr × Span × Option Expr × Span × Stmt

-- expression? ';' expression? ')' statement
abbrev pub read_for_rest : Below → List Token → Reads ForRest
read_for_rest b ts =
    then_read (maybe_before b.exprs.expression marks.Semicolon ts)
    (λ k us. then_read (read_mark marks.Semicolon us)
    (λ second vs. then_read (maybe_before b.exprs.expression marks.RightParen vs)
    (λ step ws. then_read (read_mark marks.RightParen ws)
    (λ c xs. then_read (b.statement xs) (λ s ys. Found (k, second, step, c, s) ys)))))

abbrev pub for_with : Below → Span → Span → List Specifier → List Token → Reads Stmt
for_with b at o [] ts =
    then_read (maybe_before b.exprs.expression marks.Semicolon ts)
    (λ start us. then_read (read_mark marks.Semicolon us)
    (λ first vs. then_read (read_for_rest b vs) (λ r ws. Found (For at o start first r.0 r.1 r.2 r.3 r.4) ws)))
for_with b at o (s ∷ ss) ts = then_read (b.declaration ts)
    (λ d us. then_read (read_for_rest b us) (λ r vs. Found (ForDeclaration at o d r.0 r.1 r.2 r.3 r.4) vs))

abbrev pub for_behind : Below → Span → List Token → Reads Stmt
for_behind b at ts = then_read (room b.exprs.height (word words.For at) ts (read_mark marks.LeftParen ts))
    (λ o us. for_with b at o (take_specifiers us).0 us)

abbrev pub switch_behind : Below → Span → List Token → Reads Stmt
switch_behind b at ts =
    then_read (room b.exprs.height (word words.Switch at) ts (read_condition b ts))
    (λ k us. then_read (read_mark marks.LeftBrace us)
    (λ begin vs. then_read (read_until b.labelled vs)
    (λ ss ws. then_read (read_mark marks.RightBrace ws)
    (λ end xs. Found (Switch at k.0 k.1 k.2 begin (stmts_of ss) end) xs))))

abbrev pub break_behind : Span → List Token → Reads Stmt
break_behind at ts = then_read (read_mark marks.Semicolon ts) (λ semicolon us. Found (Break at semicolon) us)

abbrev pub continue_behind : Span → List Token → Reads Stmt
continue_behind at ts = then_read (read_mark marks.Semicolon ts) (λ semicolon us. Found (Continue at semicolon) us)

abbrev pub return_behind : Below → Span → List Token → Reads Stmt
return_behind b at ts =
    then_read (maybe_before b.exprs.expression marks.Semicolon ts)
    (λ e us. then_read (read_mark marks.Semicolon us) (λ semicolon vs. Found (Return at e semicolon) vs))

abbrev pub read_simple : Below → List Token → Reads Stmt
read_simple b ts =
    then_read (maybe_before b.exprs.expression marks.Semicolon ts)
    (λ e us. then_read (read_mark marks.Semicolon us) (λ semicolon vs. Found (Simple e semicolon) vs))

-- ---- which statement

abbrev pub or_return : Below → Takes Span → List Token → Reads Stmt
or_return b (Some (at, us)) ts = return_behind b at us
or_return b None ts = read_simple b ts

abbrev pub or_continue : Below → Takes Span → List Token → Reads Stmt
or_continue b (Some (at, us)) ts = continue_behind at us
or_continue b None ts = or_return b (take_word words.Return ts) ts

abbrev pub or_break : Below → Takes Span → List Token → Reads Stmt
or_break b (Some (at, us)) ts = break_behind at us
or_break b None ts = or_continue b (take_word words.Continue ts) ts

abbrev pub or_switch : Below → Takes Span → List Token → Reads Stmt
or_switch b (Some (at, us)) ts = switch_behind b at us
or_switch b None ts = or_break b (take_word words.Break ts) ts

abbrev pub or_for : Below → Takes Span → List Token → Reads Stmt
or_for b (Some (at, us)) ts = for_behind b at us
or_for b None ts = or_switch b (take_word words.Switch ts) ts

abbrev pub or_do : Below → Takes Span → List Token → Reads Stmt
or_do b (Some (at, us)) ts = do_behind b at us
or_do b None ts = or_for b (take_word words.For ts) ts

abbrev pub or_while : Below → Takes Span → List Token → Reads Stmt
or_while b (Some (at, us)) ts = while_behind b at us
or_while b None ts = or_do b (take_word words.Do ts) ts

abbrev pub or_if : Below → Takes Span → List Token → Reads Stmt
or_if b (Some (at, us)) ts = if_behind b at us
or_if b None ts = or_while b (take_word words.While ts) ts

abbrev pub or_block : Below → Takes Span → List Token → Reads Stmt
or_block b (Some (o, us)) ts = block_behind b o us
or_block b None ts = or_if b (take_word words.If ts) ts

abbrev pub read_statement : Below → List Token → Reads Stmt
read_statement b ts = or_block b (take_mark marks.LeftBrace ts) ts

-- ---- by height

-- the fault where a declaration or a statement has to come, and none may be so low: it is too deep, where one begins there
abbrev pub no_item : {A : Type 0} → List Token → Reads A
no_item [] = Faults false []
no_item (t ∷ ts) = Faults (begins_item t.kind) (t ∷ ts)

abbrev pub nothing_below : Below
nothing_below = record {
  exprs = no_readers;
  declaration = no_item;
  statement = no_item;
  item = no_item;
  labelled = no_item;
}

-- the readers for a height, by those for one less
abbrev pub below_over : ℕ → Below → Below
below_over height b =
    record {
      exprs = readers height;
      declaration = read_declaration b.exprs;
      statement = read_statement b;
      item = read_block_item (read_declaration b.exprs) (read_statement b);
      labelled = read_labelled (readers height).conditional (read_statement b);
    }

-- the readers of what is at most so high
unfoldable pub below_of : ℕ → Below
below_of zero = nothing_below
below_of (suc height) = below_over (suc height) (below_of height)

-- ---- units

abbrev pub has_parameters : PartTree → Bool
has_parameters (Function p) = true
has_parameters _ = false

abbrev pub external_from : Below → List Specifier → DeclaratorTree → Bool → Takes Span → List Token → Reads ExternalTree
external_from b ss d true (Some open_brace) ts = then_read (b.statement ts) (λ s us. Found (FunctionTree ss d s) us)
external_from b ss d _ _ ts = then_read (declaration_behind b.exprs ss d ts) (λ x us. Found (DeclaredTree x) us)

abbrev pub external_behind : Below → List Specifier → DeclaratorTree → List Token → Reads ExternalTree
external_behind b ss d ts = external_from b ss d (has_parameters d.part) (take_mark marks.LeftBrace ts) ts

abbrev pub external_with : Below → List Specifier → List Token → Reads ExternalTree
external_with b [] us = Faults false us
external_with b (s ∷ ss) us = then_read (read_declarator b.exprs us) (λ d vs. external_behind b (s ∷ ss) d vs)

abbrev pub read_external : Below → List Token → Reads ExternalTree
read_external b ts = external_with b (take_specifiers ts).0 (take_specifiers ts).1

abbrev pub unit_step : Below → List ExternalTree → List Token → Step (List ExternalTree)
unit_step b so_far [] = Done
unit_step b so_far (t ∷ ts) = then_step (read_external b (t ∷ ts)) (λ e us. Goes (so_far ++ e ∷ []) us)

-- external*
abbrev pub read_unit : Below → List Token → Reads (List ExternalTree)
read_unit b ts = chained (unit_step b) [] ts
