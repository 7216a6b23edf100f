-- What the parser's functions answer for a part of a statement, by the readers of the grammar.
use Rattle.std.specs.Global.{Box}
use Rattle.std.specs.Prelude.{◌≡◌, ℕ, ◌-◌, ◌<◌, Bool, false, List, [], ◌∷◌, ◌++◌, length, map, Option, Some, None}
use Rattle.std.specs.Prelude.{Result, Ok, Err}
use Rattle.pcc_base.specs.declared.span.Span.{Span}
use Rattle.pcc_base.specs.declared.keyword.Keyword.TheVariants as words
use Rattle.c_lex.specs.declared.token.Token.{Token}
use Rattle.c_lex.specs.declared.token.Punct.{Punct}
use Rattle.c_lex.specs.declared.token.Punct.TheVariants as marks
use Rattle.c_syntax.specs.declared.expression.Specifier.{Specifier}
use Rattle.c_syntax.specs.declared.statement.Label.{Label}
use Rattle.c_syntax.specs.declared.statement.Statement.{Statement}
use Rattle.c_syntax.specs.Expressions.{Expr, expr_of}
use Rattle.c_syntax.specs.Declarations.{DeclarationTree, declaration_of, maybe_expr_of}
use Rattle.c_syntax.specs.Statements.{LabelTree, label_of, Stmt, For, ForDeclaration, stmt_of}
use Rattle.c_grammar.specs.Chains.{Done, Goes, Reads, Found, then_read}
use Rattle.c_grammar.specs.Heads.{begins_item}
use Rattle.c_grammar.specs.Taking.{read_mark, read_word, take_specifiers}
use Rattle.c_grammar.specs.Reading.{Reader, readers}
use Rattle.c_grammar.specs.DeclarationReading.{maybe_before}
use Rattle.c_grammar.specs.StatementReading as reading
use Rattle.c_grammar.specs.StatementReading.{StmtReader, Below, below_of, label_step, read_condition, read_until}
use Rattle.c_parse_expressions.specs.Readings.{RefusedStep}
use Rattle.c_parse_expressions.specs.declared.parse_error.ParseError.{ParseError}
use Rattle.c_parse.specs.declared.statement_parts.Condition.{Condition}
use Rattle.c_parse.specs.declared.statement_parts.Clause.{Clause}
use Rattle.c_parse.specs.declared.statement_parts.DoTail.{DoTail}
use Rattle.c_parse.specs.declared.statement_parts.ForTests.{ForTests}
use Rattle.c_parse.specs.declared.statement_parts.ForStart.{ForStart}
use Rattle.c_parse.specs.declared.statement_parts.ForStart.TheVariants as starts
use Rattle.c_parse.specs.declared.statement_parts.ForHead.{ForHead}
use Rattle.c_parse.specs.declared.statement_parts.SwitchHead.{SwitchHead}
use Rattle.c_parse.specs.declared.statement_parts.LabelList.{LabelList}
use Rattle.c_parse.specs.declared.statement_parts.StatementList.{StatementList}

-- the readers of what is at most so high: `below_of`, field by field
abbrev pub fields_of : ℕ → Below
fields_of n =
    record {
      exprs = readers n;
      declaration = (below_of n).declaration;
      statement = (below_of n).statement;
      item = (below_of n).item;
      labelled = (below_of n).labelled;
    }

-- the readers of what stands below a node of this height
abbrev pub below_node : ℕ → Below
below_node height = fields_of (height - 1)

-- whether a declaration or a statement may begin with the next token
abbrev pub front_begins_item : List Token → Bool
front_begins_item [] = false
front_begins_item (t ∷ ts) = begins_item t.kind

-- ---- parts of the rules, as the grammar's readers read them

-- expression? and a mark behind it
abbrev pub ClauseTree : Type 0
ClauseTree = Option Expr × Span

abbrev pub read_clause : Below → Punct → List Token → Reads ClauseTree
read_clause b m ts = then_read (maybe_before b.exprs.expression m ts)
    (λ e us. then_read (read_mark m us) (λ at vs. Found (e, at) vs))

abbrev pub DoTailTree : Type 0
DoTailTree = Span × reading.Condition × Span

-- 'while' '(' expression ')' ';'
abbrev pub read_do_tail : Below → List Token → Reads DoTailTree
read_do_tail b ts =
    then_read (read_word words.While ts) (λ until us.
    then_read (read_condition b us) (λ k vs.
    then_read (read_mark marks.Semicolon vs) (λ semicolon ws. Found (until, k, semicolon) ws)))

abbrev pub ForTestsTree : Type 0
ForTestsTree = ClauseTree × ClauseTree

-- expression? ';' expression? ')'
abbrev pub read_for_tests : Below → List Token → Reads ForTestsTree
read_for_tests b ts = then_read (read_clause b marks.Semicolon ts)
    (λ k us. then_read (read_clause b marks.RightParen us) (λ step vs. Found (k, step) vs))

pub data ForStartTree : Type 0 where
  Expressed : (clause : ClauseTree) → ForStartTree
  Declares : (declaration : DeclarationTree) → ForStartTree

abbrev pub start_with : Below → List Specifier → List Token → Reads ForStartTree
start_with b [] ts = then_read (read_clause b marks.Semicolon ts) (λ k us. Found (Expressed k) us)
start_with b (s ∷ ss) ts = then_read (b.declaration ts) (λ d us. Found (Declares d) us)

-- expression? ';' | declaration
abbrev pub read_for_start : Below → List Token → Reads ForStartTree
read_for_start b ts = start_with b (take_specifiers ts).0 ts

abbrev pub ForHeadTree : Type 0
ForHeadTree = Span × ForStartTree × ForTestsTree

-- '(' (expression? ';' | declaration) expression? ';' expression? ')'
abbrev pub read_for_head : Below → List Token → Reads ForHeadTree
read_for_head b ts =
    then_read (read_mark marks.LeftParen ts) (λ o us.
    then_read (read_for_start b us) (λ start vs.
    then_read (read_for_tests b vs) (λ tests ws. Found (o, start, tests) ws)))

abbrev pub for_of : Span → Span → ForStartTree → ForTestsTree → Stmt → Stmt
for_of at o (Expressed k) t s = For at o k.0 k.1 t.0.0 t.0.1 t.1.0 t.1.1 s
for_of at o (Declares d) t s = ForDeclaration at o d t.0.0 t.0.1 t.1.0 t.1.1 s

abbrev pub SwitchHeadTree : Type 0
SwitchHeadTree = reading.Condition × Span

-- '(' expression ')' '{'
abbrev pub read_switch_head : Below → List Token → Reads SwitchHeadTree
read_switch_head b ts = then_read (read_condition b ts)
    (λ k us. then_read (read_mark marks.LeftBrace us) (λ begin vs. Found (k, begin) vs))

abbrev pub ClosedTree : Type 0
ClosedTree = List Stmt × Span

-- statements and the `}` behind them
abbrev pub read_closed : StmtReader → List Token → Reads ClosedTree
read_closed read ts = then_read (read_until read ts)
    (λ ss us. then_read (read_mark marks.RightBrace us) (λ c vs. Found (ss, c) vs))

-- ---- what the parts stand for

abbrev pub boxed_of : Box Statement → Stmt
boxed_of b = stmt_of b.value

abbrev pub condition_of : Condition → reading.Condition
condition_of c = (c.opening, expr_of c.value.value, c.close)

abbrev pub clause_of : Clause → ClauseTree
clause_of c = (maybe_expr_of c.value, c.mark)

abbrev pub tail_of : DoTail → DoTailTree
tail_of t = (t.until, condition_of t.condition, t.semicolon)

abbrev pub tests_of : ForTests → ForTestsTree
tests_of t = (clause_of t.condition, clause_of t.step)

abbrev pub start_of : ForStart → ForStartTree
start_of (starts.Expressed k) = Expressed (clause_of k)
start_of (starts.Declared d) = Declares (declaration_of d)

abbrev pub for_head_of : ForHead → ForHeadTree
for_head_of h = (h.opening, start_of h.start, tests_of h.tests)

abbrev pub switch_head_of : SwitchHead → SwitchHeadTree
switch_head_of h = (condition_of h.value, h.begin)

abbrev pub labels_of : LabelList → List LabelTree
labels_of l = map label_of l.labels.items

abbrev pub statements_of : StatementList → List Stmt
statements_of l = map stmt_of l.statements.items

abbrev pub closed_of : StatementList → ClosedTree
closed_of l = (statements_of l, l.close)

-- one label more, or the end of the labels
abbrev pub IsLabelTurn : Reader → List Token → List Token → Result (Option Label) ParseError → Type 0
IsLabelTurn read old new (Ok (Some l)) =
    ((so_far : List LabelTree) → label_step read so_far old ≡ Goes (so_far ++ label_of l ∷ []) new)
    × (length new < length old)
IsLabelTurn read old new (Ok None) = ((so_far : List LabelTree) → label_step read so_far old ≡ Done) × (new ≡ old)
IsLabelTurn read old new (Err e) = (so_far : List LabelTree) → RefusedStep (label_step read so_far old) e
