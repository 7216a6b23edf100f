-- Every statement and every unit is read.
use Rattle.std.specs.List.{AllByRecursion}
use Rattle.std.proofs.Common.{◌≡◌, ℕ, zero, suc, ◌+◌, ◌≤◌, ◌<◌, Bool, true, false, List, [], ◌∷◌, ◌++◌, length}
use Rattle.std.proofs.Common.{length-append, ltb, Option, Some, None, refl, ap, sym, ◌∙◌, subst, arith, append_assoc}
use Rattle.std.proofs.lemmas.List.{append-nil}
use Rattle.pcc_base.specs.declared.span.Span.{Span}
use Rattle.pcc_base.specs.declared.keyword.Keyword.TheVariants as words
use Rattle.c_lex.specs.declared.token.Token.{Token}
use Rattle.c_lex.specs.declared.token.Punct.TheVariants as marks
use Rattle.c_syntax.specs.declared.operator.SpecifierWord.{SpecifierWord}
use Rattle.c_syntax.specs.declared.operator.SpecifierWord.TheVariants as specifier
use Rattle.c_syntax.specs.declared.expression.Specifier.{Specifier}
use Rattle.c_syntax.specs.Marks.{mark, word, specifier_word}
use Rattle.c_syntax.specs.Expressions.{Expr}
use Rattle.c_syntax.specs.ExpressionTokens.{expr_tokens, expr_height, IsExpr, IsSpecifiers, specifiers_tokens}
use Rattle.c_syntax.specs.Declarations.{DeclarationTree, DeclaratorTree, PartTree, Plain, Array, Function}
use Rattle.c_syntax.specs.DeclarationTokens.{maybe_expr_tokens, maybe_expr_height, declaration_tokens}
use Rattle.c_syntax.specs.DeclarationTokens.{declaration_height, declarator_tokens, IsDeclaration, greatest, separated}
use Rattle.c_syntax.specs.DeclarationTokens.{item_tokens}
use Rattle.c_syntax.specs.Statements.{LabelTree, Case, Default, Stmt, Declared, Labelled, Block, Simple, If, IfElse}
use Rattle.c_syntax.specs.Statements.{Switch, While, Do, For, ForDeclaration, Break, Continue, Return, Stmts, NoStmt}
use Rattle.c_syntax.specs.Statements.{OneStmt, stmts_of, ExternalTree, FunctionTree, DeclaredTree}
use Rattle.c_syntax.specs.StatementTokens.{labels_tokens, in_parens, stmt_tokens, stmts_tokens, label_height}
use Rattle.c_syntax.specs.StatementTokens.{stmt_height, stmts_height, ends_open, IsMaybeExpr, IsLabel, IsPlain}
use Rattle.c_syntax.specs.StatementTokens.{IsBlockItem, IsCase, IsStmt, AreItems, AreCases}
use Rattle.c_syntax.specs.Grammar.{external_tokens, unit_tokens, external_height, HasParameters, IsBlock, IsExternal}
use Rattle.c_syntax.specs.Grammar.{Tree}
use Rattle.c_grammar.specs.Chains.{Done, Goes, Takes, Reads, Found, then_read}
use Rattle.c_grammar.proofs.Chains.{Continues, continues_start, continues_goes, continues_done}
use Rattle.c_grammar.specs.Taking.{take_mark, take_word, take_specifiers}
use Rattle.c_grammar.specs.Reading.{Readers, readers}
use Rattle.c_grammar.proofs.Reading.{readers-none}
use Rattle.c_grammar.proofs.Heads.{expression_no_mark, expression_no_word, expression_no_specifiers}
use Rattle.c_grammar.proofs.Complete.{Complete, complete, has_room, height_above, loosest, takes_specifiers}
use Rattle.c_grammar.specs.DeclarationReading.{maybe_before, read_declarator, declaration_behind, read_declaration}
use Rattle.c_grammar.proofs.DeclarationComplete.{MaybeFits, maybe_read, declaration_read, declarator_read}
use Rattle.c_grammar.proofs.DeclarationComplete.{declarator_no_specifier}
use Rattle.c_grammar.specs.StatementReading.{StmtReader, Below, below_of, below_over, read_condition, until_step}
use Rattle.c_grammar.specs.StatementReading.{read_until, label_step, read_labels, read_labelled, read_block_item}
use Rattle.c_grammar.specs.StatementReading.{read_for_rest, for_behind, read_statement, external_from, read_external}
use Rattle.c_grammar.specs.StatementReading.{unit_step, read_unit, has_parameters}
use Rattle.c_grammar.proofs.StatementReading.{below_of-suc, below_of-none}

-- a reader finds the statements that are at most so high
abbrev pub FindsStmt : ℕ → StmtReader → Type 0
FindsStmt h read =
    (s : Stmt) (rest : List Token) → IsStmt s → IsPlain s → stmt_height s ≤ h
    → (ends_open s ≡ true → take_word words.Else rest ≡ None) → read (stmt_tokens s ++ rest) ≡ Found s rest

abbrev pub FindsItem : ℕ → StmtReader → Type 0
FindsItem h read =
    (s : Stmt) (rest : List Token) → IsStmt s → IsBlockItem s → stmt_height s ≤ h → take_word words.Else rest ≡ None
    → read (stmt_tokens s ++ rest) ≡ Found s rest

abbrev pub FindsCase : ℕ → StmtReader → Type 0
FindsCase h read =
    (s : Stmt) (rest : List Token) → IsStmt s → IsCase s → stmt_height s ≤ h → take_word words.Else rest ≡ None
    → read (stmt_tokens s ++ rest) ≡ Found s rest

abbrev pub FindsDeclaration : ℕ → (List Token → Reads DeclarationTree) → Type 0
FindsDeclaration h read = (d : DeclarationTree) (rest : List Token) → IsDeclaration d → declaration_height d ≤ h
    → read (declaration_tokens d ++ rest) ≡ Found d rest

-- the readers of what stands below a node
pub record CompleteBelow (h : ℕ) (b : Below) : Type 0 where
  pub exprs : Complete h b.exprs
  pub declaration : FindsDeclaration h b.declaration
  pub statement : FindsStmt h b.statement
  pub item : FindsItem h b.item
  pub labelled : FindsCase h b.labelled

-- ---- with what statements begin

-- a statement begins with none of these
pub record Begins (ts : List Token) : Type 0 where
  pub no_else : take_word words.Else ts ≡ None
  pub no_case : take_word words.Case ts ≡ None
  pub no_default : take_word words.Default ts ≡ None
  pub no_close : take_mark marks.RightBrace ts ≡ None

stmt_begins : (s : Stmt) (rest : List Token) → IsStmt s → IsPlain s → Begins (stmt_tokens s ++ rest)
stmt_begins (Declared d) rest is plain = absurd plain
stmt_begins (Labelled before s) rest is plain = absurd plain
stmt_begins (Simple (Some e) semicolon) rest is plain =
    (let P : List Token → Type 0 = λ ts. Begins ts in
    subst P (sym (append_assoc (expr_tokens e) (mark marks.Semicolon semicolon ∷ []) rest))
    (expr_begins e (mark marks.Semicolon semicolon ∷ rest) is))
  where
    expr_begins : (e : Expr) (ts : List Token) → IsExpr e → Begins (expr_tokens e ++ ts)
    expr_begins e ts is = record {
      no_else = expression_no_word words.Else e ts is;
      no_case =
          expression_no_word words.Case e ts is;
      no_default = expression_no_word words.Default e ts is;
      no_close =
          expression_no_mark marks.RightBrace e ts is refl;
    }
stmt_begins (Simple None semicolon) rest is plain =
    record { no_else = refl; no_case = refl; no_default = refl; no_close = refl }
stmt_begins (Block o items c) rest is plain =
    record { no_else = refl; no_case = refl; no_default = refl; no_close = refl }
stmt_begins (If at o e c s) rest is plain =
    record { no_else = refl; no_case = refl; no_default = refl; no_close = refl }
stmt_begins (IfElse at o e c s otherwise t) rest is plain =
    record { no_else = refl; no_case = refl; no_default = refl; no_close = refl }
stmt_begins (Switch at o e c begin items end) rest is plain =
    record { no_else = refl; no_case = refl; no_default = refl; no_close = refl }
stmt_begins (While at o e c s) rest is plain =
    record { no_else = refl; no_case = refl; no_default = refl; no_close = refl }
stmt_begins (Do at s until o e c semicolon) rest is plain =
    record { no_else = refl; no_case = refl; no_default = refl; no_close = refl }
stmt_begins (For at o start first condition second step c s) rest is plain =
    record { no_else = refl; no_case = refl; no_default = refl; no_close = refl }
stmt_begins (ForDeclaration at o start condition second step c s) rest is plain =
    record { no_else = refl; no_case = refl; no_default = refl; no_close = refl }
stmt_begins (Break at semicolon) rest is plain =
    record { no_else = refl; no_case = refl; no_default = refl; no_close = refl }
stmt_begins (Continue at semicolon) rest is plain =
    record { no_else = refl; no_case = refl; no_default = refl; no_close = refl }
stmt_begins (Return at e semicolon) rest is plain =
    record { no_else = refl; no_case = refl; no_default = refl; no_close = refl }

-- no specifier begins a statement
stmt_no_specifier : (s : Stmt) (rest : List Token) → IsStmt s → IsPlain s → (take_specifiers (stmt_tokens s ++ rest)).0
    ≡ []
stmt_no_specifier (Declared d) rest is plain = absurd plain
stmt_no_specifier (Labelled before s) rest is plain = absurd plain
stmt_no_specifier (Simple (Some e) semicolon) rest is plain =
    rw (
      append_assoc (expr_tokens e) (mark marks.Semicolon semicolon ∷ []) rest,
      expression_no_specifiers e (mark marks.Semicolon semicolon ∷ rest) is,
    ) refl
stmt_no_specifier (Simple None semicolon) rest is plain = refl
stmt_no_specifier (Block o items c) rest is plain = refl
stmt_no_specifier (If at o e c s) rest is plain = refl
stmt_no_specifier (IfElse at o e c s otherwise t) rest is plain = refl
stmt_no_specifier (Switch at o e c begin items end) rest is plain = refl
stmt_no_specifier (While at o e c s) rest is plain = refl
stmt_no_specifier (Do at s until o e c semicolon) rest is plain = refl
stmt_no_specifier (For at o start first condition second step c s) rest is plain = refl
stmt_no_specifier (ForDeclaration at o start condition second step c s) rest is plain = refl
stmt_no_specifier (Break at semicolon) rest is plain = refl
stmt_no_specifier (Continue at semicolon) rest is plain = refl
stmt_no_specifier (Return at e semicolon) rest is plain = refl

-- a specifier ends what stands before it
pub record Follows (ts : List Token) : Type 0 where
  pub no_else : take_word words.Else ts ≡ None
  pub no_close : take_mark marks.RightBrace ts ≡ None

word_follows : (w : SpecifierWord) (at : Span) (ts : List Token) → Follows (word (specifier_word w) at ∷ ts)
word_follows specifier.Auto at ts = record { no_else = refl; no_close = refl }
word_follows specifier.Register at ts = record { no_else = refl; no_close = refl }
word_follows specifier.Static at ts = record { no_else = refl; no_close = refl }
word_follows specifier.Extern at ts = record { no_else = refl; no_close = refl }
word_follows specifier.Const at ts = record { no_else = refl; no_close = refl }
word_follows specifier.Void at ts = record { no_else = refl; no_close = refl }
word_follows specifier.Char at ts = record { no_else = refl; no_close = refl }
word_follows specifier.Short at ts = record { no_else = refl; no_close = refl }
word_follows specifier.Int at ts = record { no_else = refl; no_close = refl }
word_follows specifier.Signed at ts = record { no_else = refl; no_close = refl }

specifiers_follow : (ss : List Specifier) (more rest : List Token) → IsSpecifiers ss
    → Follows ((specifiers_tokens ss ++ more) ++ rest)
specifiers_follow [] more rest is = absurd is
specifiers_follow (s ∷ ss) more rest is = word_follows s.word s.at ((specifiers_tokens ss ++ more) ++ rest)

item_follows : (s : Stmt) (rest : List Token) → IsStmt s → IsBlockItem s → Follows (stmt_tokens s ++ rest)
item_follows (Declared d) rest is item = specifiers_follow d.specifiers
    (separated item_tokens d.items d.commas ++ mark marks.Semicolon d.semicolon ∷ []) rest is.0
item_follows (Labelled before s) rest is item = absurd item
item_follows (Simple e semicolon) rest is item =
    (let h = stmt_begins (Simple e semicolon) rest is tt in record { no_else = h.no_else; no_close = h.no_close })
item_follows (Block o items c) rest is item = record { no_else = refl; no_close = refl }
item_follows (If at o e c s) rest is item = record { no_else = refl; no_close = refl }
item_follows (IfElse at o e c s otherwise t) rest is item = record { no_else = refl; no_close = refl }
item_follows (Switch at o e c begin items end) rest is item = record { no_else = refl; no_close = refl }
item_follows (While at o e c s) rest is item = record { no_else = refl; no_close = refl }
item_follows (Do at s until o e c semicolon) rest is item = record { no_else = refl; no_close = refl }
item_follows (For at o start first condition second step c s) rest is item = record { no_else = refl; no_close = refl }
item_follows (ForDeclaration at o start condition second step c s) rest is item =
    record { no_else = refl; no_close = refl }
item_follows (Break at semicolon) rest is item = record { no_else = refl; no_close = refl }
item_follows (Continue at semicolon) rest is item = record { no_else = refl; no_close = refl }
item_follows (Return at e semicolon) rest is item = record { no_else = refl; no_close = refl }

case_follows : (s : Stmt) (rest : List Token) → IsStmt s → IsCase s → Follows (stmt_tokens s ++ rest)
case_follows (Labelled [] s) rest is case =
    (let h = stmt_begins s rest is.1 is.2 in record { no_else = h.no_else; no_close = h.no_close })
case_follows (Labelled (Case at e colon ∷ ls) s) rest is case = record { no_else = refl; no_close = refl }
case_follows (Labelled (Default at colon ∷ ls) s) rest is case = record { no_else = refl; no_close = refl }
case_follows _ rest is case = absurd case

-- ---- parts

condition_read : (n : ℕ) (b : Below) → CompleteBelow n b → (o : Span) (e : Expr) (c : Span) (behind rest : List Token)
    → IsExpr e → expr_height e ≤ n →
    read_condition b (in_parens o e c behind ++ rest) ≡ Found (o, e, c) (behind ++ rest)
condition_read n b cb o e c behind rest is low =
    rw (
      append_assoc (expr_tokens e) (mark marks.RightParen c ∷ behind) rest,
      cb.exprs.expression e (mark marks.RightParen c ∷ (behind ++ rest)) is (loosest e) low (omega arith),
    ) refl

maybe_fits : (n : ℕ) (e : Option Expr) → IsMaybeExpr e → maybe_expr_height e ≤ n → MaybeFits 16 n e
maybe_fits n None is low = tt
maybe_fits n (Some e) is low = (is, loosest e, low)

-- expression? ';'
before_semicolon : (n : ℕ) (b : Below) → CompleteBelow n b → (e : Option Expr) (at : Span) (rest : List Token)
    → IsMaybeExpr e → maybe_expr_height e ≤ n →
    maybe_before b.exprs.expression marks.Semicolon (maybe_expr_tokens e ++ mark marks.Semicolon at ∷ rest)
    ≡ Found e (mark marks.Semicolon at ∷ rest)
before_semicolon n b cb e at rest is low =
    maybe_read marks.Semicolon 16 n b.exprs.expression cb.exprs.expression refl (omega arith) e at rest
    (maybe_fits n e is low) (omega arith)

before_close : (n : ℕ) (b : Below) → CompleteBelow n b → (e : Option Expr) (at : Span) (rest : List Token)
    → IsMaybeExpr e → maybe_expr_height e ≤ n →
    maybe_before b.exprs.expression marks.RightParen (maybe_expr_tokens e ++ mark marks.RightParen at ∷ rest)
    ≡ Found e (mark marks.RightParen at ∷ rest)
before_close n b cb e at rest is low = maybe_read marks.RightParen 16 n b.exprs.expression cb.exprs.expression refl
    (omega arith) e at rest (maybe_fits n e is low) (omega arith)

-- expression? ';' expression? ')' statement
abbrev for_rest_tokens : Option Expr → Span → Option Expr → Span → List Token → List Token
for_rest_tokens condition second step c behind =
    maybe_expr_tokens condition ++ mark marks.Semicolon second
    ∷ (maybe_expr_tokens step ++ mark marks.RightParen c ∷ behind)

for_rest_read : (n : ℕ) (b : Below) → CompleteBelow n b
    → (condition : Option Expr) (second : Span) (step : Option Expr) (c : Span) (s : Stmt) (rest : List Token) →
    IsMaybeExpr condition → maybe_expr_height condition ≤ n → IsMaybeExpr step → maybe_expr_height step ≤ n → IsStmt s
    → IsPlain s → stmt_height s ≤ n → (ends_open s ≡ true → take_word words.Else rest ≡ None) →
    read_for_rest b (for_rest_tokens condition second step c (stmt_tokens s) ++ rest)
    ≡ Found (condition, second, step, c, s) rest
for_rest_read n b cb condition second step c s rest is1 low1 is2 low2 is plain low open_else =
    (let tail : List Token = mark marks.RightParen c ∷ (stmt_tokens s ++ rest) in
    let more : List Token = maybe_expr_tokens step ++ mark marks.RightParen c ∷ stmt_tokens s in
    let group : for_rest_tokens condition second step c (stmt_tokens s) ++ rest
    ≡ maybe_expr_tokens condition ++ mark marks.Semicolon second ∷ (more ++ rest) =
    append_assoc (maybe_expr_tokens condition) (mark marks.Semicolon second ∷ more) rest in
    let inner : more ++ rest ≡ maybe_expr_tokens step ++ tail =
    append_assoc (maybe_expr_tokens step) (mark marks.RightParen c ∷ stmt_tokens s) rest in
    rw (
      group,
      before_semicolon n b cb condition second (more ++ rest) is1 low1,
      inner,
      before_close n b cb step c (stmt_tokens s ++ rest) is2 low2,
      cb.statement s rest is plain low open_else,
    ) refl)

-- ---- rows of statements

-- statements up to a `}`
abbrev stmt_list : Stmts → List Stmt
stmt_list NoStmt = []
stmt_list (OneStmt s ss) = s ∷ stmt_list ss

stmts_of_list : (ss : Stmts) → stmts_of (stmt_list ss) ≡ ss
stmts_of_list NoStmt = refl
stmts_of_list (OneStmt s ss) = ap (OneStmt s) (stmts_of_list ss)

-- rows of statements of one kind
abbrev AllStmts : (Stmt → Type 0) → Stmts → Type 0
AllStmts P NoStmt = Unit {0}
AllStmts P (OneStmt s ss) = IsStmt s × P s × AllStmts P ss

all_items : (ss : Stmts) → AreItems ss → AllStmts IsBlockItem ss
all_items NoStmt are = tt
all_items (OneStmt s ss) are = (are.0, are.1, all_items ss are.2)

all_cases : (ss : Stmts) → AreCases ss → AllStmts IsCase ss
all_cases NoStmt are = tt
all_cases (OneStmt s ss) are = (are.0, are.1, all_cases ss are.2)

first_specifier : (ss : List Specifier) (more : List Token) → IsSpecifiers ss
    → 1 ≤ length (specifiers_tokens ss ++ more)
first_specifier [] more is = absurd is
first_specifier (s ∷ ss) more is = omega arith

-- a statement has tokens
nonempty : (s : Stmt) → IsStmt s → 1 ≤ length (stmt_tokens s)
nonempty (Declared d) is = first_specifier d.specifiers
    (separated item_tokens d.items d.commas ++ mark marks.Semicolon d.semicolon ∷ []) is.0
nonempty (Labelled before s) is = omega (arith, length-append (labels_tokens before) (stmt_tokens s), nonempty s is.1)
nonempty (Simple e semicolon) is = omega (
  arith,
  length-append (maybe_expr_tokens e) (mark marks.Semicolon semicolon ∷ []),
)
nonempty (Block o items c) is = omega arith
nonempty (If at o e c s) is = omega arith
nonempty (IfElse at o e c s otherwise t) is = omega arith
nonempty (Switch at o e c begin items end) is = omega arith
nonempty (While at o e c s) is = omega arith
nonempty (Do at s until o e c semicolon) is = omega arith
nonempty (For at o start first condition second step c s) is = omega arith
nonempty (ForDeclaration at o start condition second step c s) is = omega arith
nonempty (Break at semicolon) is = omega arith
nonempty (Continue at semicolon) is = omega arith
nonempty (Return at e semicolon) is = omega arith

row_follows : (P : Stmt → Type 0) → ((s : Stmt) (rest : List Token) → IsStmt s → P s → Follows (stmt_tokens s ++ rest))
    → (ss : Stmts) (c : Span) (rest : List Token) → AllStmts P ss
    → take_word words.Else (stmts_tokens ss ++ mark marks.RightBrace c ∷ rest) ≡ None
row_follows P follows NoStmt c rest are = refl
row_follows P follows (OneStmt s ss) c rest are =
    ap (take_word words.Else) (append_assoc (stmt_tokens s) (stmts_tokens ss) (mark marks.RightBrace c ∷ rest))
    ∙ (follows s (stmts_tokens ss ++ mark marks.RightBrace c ∷ rest) are.0 are.1).no_else

row_continue : (read : StmtReader) (P : Stmt → Type 0) (n : ℕ) →
    ((s : Stmt) (rest : List Token) → IsStmt s → P s → stmt_height s ≤ n → take_word words.Else rest ≡ None
    → read (stmt_tokens s ++ rest) ≡ Found s rest) →
    ((s : Stmt) (rest : List Token) → IsStmt s → P s → Follows (stmt_tokens s ++ rest)) →
    (ss : Stmts) (c : Span) (rest : List Token) (a : List Stmt) (out : Reads (List Stmt)) → AllStmts P ss
    → stmts_height ss ≤ n →
    Continues (until_step read) a (stmts_tokens ss ++ mark marks.RightBrace c ∷ rest) out
    → Continues (until_step read) (a ++ stmt_list ss) (mark marks.RightBrace c ∷ rest) out
row_continue read P n finds follows NoStmt c rest a out are low before =
    (let Q : List Stmt → Type 0 = λ x. Continues (until_step read) x (mark marks.RightBrace c ∷ rest) out in
    subst Q (sym (append-nil a)) before)
row_continue read P n finds follows (OneStmt s ss) c rest a out are low before =
    (let close : List Token = mark marks.RightBrace c ∷ rest in
    let more : List Token = stmts_tokens ss ++ close in
    let group : (stmt_tokens s ++ stmts_tokens ss) ++ close ≡ stmt_tokens s ++ more =
    append_assoc (stmt_tokens s) (stmts_tokens ss) close in
    let one : read (stmt_tokens s ++ more) ≡ Found s more =
    finds s more are.0 are.1 (omega arith) (row_follows P follows ss c rest are.2) in
    let none : take_mark marks.RightBrace (stmt_tokens s ++ more) ≡ None = (follows s more are.0 are.1).no_close in
    let goes : until_step read a (stmt_tokens s ++ more) ≡ Goes (a ++ s ∷ []) more = rw (none, one) refl in
    let less : length more < length (stmt_tokens s ++ more) =
    omega (arith, length-append (stmt_tokens s) more, nonempty s are.0) in
    let Q : List Token → Type 0 = λ ts. Continues (until_step read) a ts out in
    let next = continues_goes (until_step read) a (a ++ s ∷ []) (stmt_tokens s ++ more) more out (subst Q group before)
    goes less in
    let all = row_continue read P n finds follows ss c rest (a ++ s ∷ []) out are.2 (omega arith) next in
    let R : List Stmt → Type 0 = λ x. Continues (until_step read) x close out in
    subst R (append_assoc a (s ∷ []) (stmt_list ss)) all)

-- statements of one kind up to a `}`
row_read : (read : StmtReader) (P : Stmt → Type 0) (n : ℕ) →
    ((s : Stmt) (rest : List Token) → IsStmt s → P s → stmt_height s ≤ n → take_word words.Else rest ≡ None
    → read (stmt_tokens s ++ rest) ≡ Found s rest) →
    ((s : Stmt) (rest : List Token) → IsStmt s → P s → Follows (stmt_tokens s ++ rest)) →
    (ss : Stmts) (c : Span) (rest : List Token) → AllStmts P ss → stmts_height ss ≤ n →
    read_until read (stmts_tokens ss ++ mark marks.RightBrace c ∷ rest)
    ≡ Found (stmt_list ss) (mark marks.RightBrace c ∷ rest)
row_read read P n finds follows ss c rest are low =
    continues_done _ _ _ _ (row_continue read P n finds follows ss c rest [] _ are low
    (continues_start (until_step read) [] (stmts_tokens ss ++ mark marks.RightBrace c ∷ rest))) refl

items_read : (n : ℕ) (b : Below) → CompleteBelow n b → (ss : Stmts) (c : Span) (rest : List Token) → AreItems ss
    → stmts_height ss ≤ n →
    read_until b.item ((stmts_tokens ss ++ mark marks.RightBrace c ∷ []) ++ rest)
    ≡ Found (stmt_list ss) (mark marks.RightBrace c ∷ rest)
items_read n b cb ss c rest are low =
    ap (read_until b.item) (append_assoc (stmts_tokens ss) (mark marks.RightBrace c ∷ []) rest)
    ∙ row_read b.item IsBlockItem n cb.item item_follows ss c rest (all_items ss are) low

cases_read : (n : ℕ) (b : Below) → CompleteBelow n b → (ss : Stmts) (c : Span) (rest : List Token) → AreCases ss
    → stmts_height ss ≤ n →
    read_until b.labelled ((stmts_tokens ss ++ mark marks.RightBrace c ∷ []) ++ rest)
    ≡ Found (stmt_list ss) (mark marks.RightBrace c ∷ rest)
cases_read n b cb ss c rest are low =
    ap (read_until b.labelled) (append_assoc (stmts_tokens ss) (mark marks.RightBrace c ∷ []) rest)
    ∙ row_read b.labelled IsCase n cb.labelled case_follows ss c rest (all_cases ss are) low

-- a statement is a node
stmt_above : (s : Stmt) → 1 ≤ stmt_height s
stmt_above (Labelled before s) = omega (arith, stmt_above s)
stmt_above (Declared d) = omega arith
stmt_above _ = omega arith

-- there is room below a node above such a part
room_below : (n part : ℕ) (b : Below) → CompleteBelow n b → 1 ≤ part → part ≤ n → ltb 0 b.exprs.height ≡ true
room_below n part b cb some low = has_room n b.exprs cb.exprs (omega arith)

-- ---- statements

simple_read : (n : ℕ) (b : Below) → CompleteBelow n b → (e : Expr) (semicolon : Span) (rest : List Token) → IsExpr e
    → expr_height e ≤ n → read_statement b ((expr_tokens e ++ mark marks.Semicolon semicolon ∷ []) ++ rest)
    ≡ Found (Simple (Some e) semicolon) rest
simple_read n b cb e semicolon rest is low =
    (let ts : List Token = mark marks.Semicolon semicolon ∷ rest in
    let group : (expr_tokens e ++ mark marks.Semicolon semicolon ∷ []) ++ rest ≡ expr_tokens e ++ ts =
    append_assoc (expr_tokens e) (mark marks.Semicolon semicolon ∷ []) rest in
    rw (
      group,
      expression_no_mark marks.LeftBrace e ts is refl,
      expression_no_word words.If e ts is,
      expression_no_word words.While e ts is,
      expression_no_word words.Do e ts is,
      expression_no_word words.For e ts is,
      expression_no_word words.Switch e ts is,
      expression_no_word words.Break e ts is,
      expression_no_word words.Continue e ts is,
      expression_no_word words.Return e ts is,
      before_semicolon n b cb (Some e) semicolon rest is low,
    ) refl)

for_read : (n : ℕ) (b : Below) → CompleteBelow n b
    → (at o : Span) (start : Option Expr) (first : Span) (condition : Option Expr) (second : Span) (step : Option Expr)
    (c : Span) (s : Stmt) (rest : List Token) →
    IsStmt (For at o start first condition second step c s)
    → stmt_height (For at o start first condition second step c s) ≤ suc n
    → (ends_open s ≡ true → take_word words.Else rest ≡ None) →
    for_behind b at (mark marks.LeftParen o ∷
    ((maybe_expr_tokens start ++ mark marks.Semicolon first
    ∷ for_rest_tokens condition second step c (stmt_tokens s)) ++ rest))
    ≡ Found (For at o start first condition second step c s) rest
for_read n b cb at o start first condition second step c s rest is low open_else =
    (let more : List Token = for_rest_tokens condition second step c (stmt_tokens s) in
    let group : (maybe_expr_tokens start ++ mark marks.Semicolon first ∷ more) ++ rest
    ≡ maybe_expr_tokens start ++ mark marks.Semicolon first ∷ (more ++ rest) =
    append_assoc (maybe_expr_tokens start) (mark marks.Semicolon first ∷ more) rest in
    let no_words : (take_specifiers (maybe_expr_tokens start ++ mark marks.Semicolon first ∷ (more ++ rest))).0 ≡ [] =
    start_no_specifier start (more ++ rest) is.0 in
    let tail = for_rest_read n b cb condition second step c s rest is.1 (omega arith) is.2 (omega arith) is.3 is.4
    (omega arith) open_else in
    rw (
      room_below n (stmt_height s) b cb (stmt_above s) (omega arith),
      group,
      no_words,
      before_semicolon n b cb start first (more ++ rest) is.0 (omega arith),
      tail,
    ) refl)
  where
    start_no_specifier : (start : Option Expr) (ts : List Token) → IsMaybeExpr start
        → (take_specifiers (maybe_expr_tokens start ++ mark marks.Semicolon first ∷ ts)).0 ≡ []
    start_no_specifier None ts is = refl
    start_no_specifier (Some e) ts is = rw (expression_no_specifiers e (mark marks.Semicolon first ∷ ts) is) refl

for_declaration_reads : (b : Below) (at o : Span) (s : Specifier) (ss : List Specifier) (ts us : List Token)
    (d : DeclarationTree) (vs : List Token) (condition : Option Expr) (second : Span) (step : Option Expr) (c : Span)
    (body : Stmt) (rest : List Token) → ltb 0 b.exprs.height ≡ true →
    take_specifiers ts ≡ (s ∷ ss, us) → b.declaration ts ≡ Found d vs → read_for_rest b vs
    ≡ Found (condition, second, step, c, body) rest →
    for_behind b at (mark marks.LeftParen o ∷ ts) ≡ Found (ForDeclaration at o d condition second step c body) rest
for_declaration_reads b at o s ss ts us d vs condition second step c body rest room e f g = rw (room, e, f, g) refl

-- the specifiers of a declaration
specifiers_of : (d : DeclarationTree) (rest : List Token) (n : ℕ) → IsDeclaration d → declaration_height d ≤ suc n
    → (s : Specifier) × (ss : List Specifier) × (us : List Token)
    × (take_specifiers (declaration_tokens d ++ rest) ≡ (s ∷ ss, us))
specifiers_of d rest n is low = by_specifiers d.specifiers is.0
    ((declaration_read n (readers n) (complete n) d rest is low).words_read)
  where
    by_specifiers : (ss : List Specifier) → IsSpecifiers ss → {us : List Token}
        → take_specifiers (declaration_tokens d ++ rest) ≡ (ss, us) → (s : Specifier) × (ss : List Specifier)
        × (us : List Token) × (take_specifiers (declaration_tokens d ++ rest) ≡ (s ∷ ss, us))
    by_specifiers [] is {us} e = absurd is
    by_specifiers (s ∷ ss) is {us} e = (s, ss, us, e)

declaration_above : (d : DeclarationTree) → 1 ≤ declaration_height d
declaration_above d = omega arith

for_declaration_read : (n : ℕ) (b : Below) → CompleteBelow n b
    → (at o : Span) (d : DeclarationTree) (condition : Option Expr) (second : Span) (step : Option Expr) (c : Span)
    (s : Stmt) (rest : List Token) →
    IsStmt (ForDeclaration at o d condition second step c s)
    → stmt_height (ForDeclaration at o d condition second step c s) ≤ suc n
    → (ends_open s ≡ true → take_word words.Else rest ≡ None) →
    for_behind b at (mark marks.LeftParen o ∷
    ((declaration_tokens d ++ for_rest_tokens condition second step c (stmt_tokens s)) ++ rest))
    ≡ Found (ForDeclaration at o d condition second step c s) rest
for_declaration_read n b cb at o d condition second step c s rest is low open_else =
    (let more : List Token = for_rest_tokens condition second step c (stmt_tokens s) in
    let group : (declaration_tokens d ++ more) ++ rest ≡ declaration_tokens d ++ (more ++ rest) =
    append_assoc (declaration_tokens d) more rest in
    let front = specifiers_of d (more ++ rest) n is.0 (omega arith) in
    let tail = for_rest_read n b cb condition second step c s rest is.1 (omega arith) is.2 (omega arith) is.3 is.4
    (omega arith) open_else in
    let read : b.declaration (declaration_tokens d ++ (more ++ rest)) ≡ Found d (more ++ rest) =
    cb.declaration d (more ++ rest) is.0 (omega arith) in
    ap (λ ts. for_behind b at (mark marks.LeftParen o ∷ ts)) group
    ∙ for_declaration_reads b at o front.0 front.1 (declaration_tokens d ++ (more ++ rest)) front.2 d (more ++ rest)
    condition second step c s rest (room_below n (stmt_height s) b cb (stmt_above s) (omega arith)) front.3 read tail)

pub finds_statement : (n : ℕ) (b : Below) → CompleteBelow n b → FindsStmt (suc n) (read_statement b)
finds_statement n b cb (Declared d) rest is plain low open_else = absurd plain
finds_statement n b cb (Labelled before s) rest is plain low open_else = absurd plain
finds_statement n b cb (Block o items c) rest is plain low open_else =
    rw (items_read n b cb items c rest is (omega arith), stmts_of_list items) refl
finds_statement n b cb (Simple None semicolon) rest is plain low open_else = refl
finds_statement n b cb (Simple (Some e) semicolon) rest is plain low open_else =
    simple_read n b cb e semicolon rest is (omega arith)
finds_statement n b cb (If at o e c s) rest is plain low open_else =
    rw (
      room_below n (expr_height e) b cb (height_above e) (omega arith),
      condition_read n b cb o e c (stmt_tokens s) rest is.0 (omega arith),
      cb.statement s rest is.1 is.2 (omega arith) (λ x. open_else refl),
      open_else refl,
    ) refl
finds_statement n b cb (IfElse at o e c s otherwise t) rest is plain low open_else =
    (let more : List Token = word words.Else otherwise ∷ stmt_tokens t in
    let group : (stmt_tokens s ++ more) ++ rest ≡ stmt_tokens s ++ (more ++ rest) =
    append_assoc (stmt_tokens s) more rest in
    rw (
      room_below n (expr_height e) b cb (height_above e) (omega arith),
      condition_read n b cb o e c (stmt_tokens s ++ more) rest is.0 (omega arith),
      group,
      cb.statement s (more ++ rest) is.1 is.2 (omega arith)
          (λ (x : ends_open s ≡ true). absurd (let wrong : false ≡ true = sym is.3 ∙ x in cc)),
      cb.statement t rest is.4 is.5 (omega arith) open_else,
    ) refl)
finds_statement n b cb (Switch at o e c begin items end) rest is plain low open_else =
    rw (
      room_below n (expr_height e) b cb (height_above e) (omega arith),
      condition_read n b cb o e c (mark marks.LeftBrace begin
          ∷ (stmts_tokens items ++ mark marks.RightBrace end ∷ [])) rest is.0 (omega arith),
      cases_read n b cb items end rest is.1 (omega arith),
      stmts_of_list items,
    ) refl
finds_statement n b cb (While at o e c s) rest is plain low open_else =
    rw (
      room_below n (expr_height e) b cb (height_above e) (omega arith),
      condition_read n b cb o e c (stmt_tokens s) rest is.0 (omega arith),
      cb.statement s rest is.1 is.2 (omega arith) open_else,
    ) refl
finds_statement n b cb (Do at s until o e c semicolon) rest is plain low open_else =
    (let more : List Token = word words.While until ∷ in_parens o e c (mark marks.Semicolon semicolon ∷ []) in
    let group : (stmt_tokens s ++ more) ++ rest ≡ stmt_tokens s ++ (more ++ rest) =
    append_assoc (stmt_tokens s) more rest in
    rw (
      room_below n (expr_height e) b cb (height_above e) (omega arith),
      group,
      cb.statement s (more ++ rest) is.0 is.1 (omega arith) (λ (x : ends_open s ≡ true). refl),
      condition_read n b cb o e c (mark marks.Semicolon semicolon ∷ []) rest is.2 (omega arith),
    ) refl)
finds_statement n b cb (For at o start first condition second step c s) rest is plain low open_else =
    for_read n b cb at o start first condition second step c s rest is low open_else
finds_statement n b cb (ForDeclaration at o start condition second step c s) rest is plain low open_else =
    for_declaration_read n b cb at o start condition second step c s rest is low open_else
finds_statement n b cb (Break at semicolon) rest is plain low open_else = refl
finds_statement n b cb (Continue at semicolon) rest is plain low open_else = refl
finds_statement n b cb (Return at e semicolon) rest is plain low open_else =
    (let group : (maybe_expr_tokens e ++ mark marks.Semicolon semicolon ∷ []) ++ rest
    ≡ maybe_expr_tokens e ++ mark marks.Semicolon semicolon ∷ rest =
    append_assoc (maybe_expr_tokens e) (mark marks.Semicolon semicolon ∷ []) rest in
    rw (group, before_semicolon n b cb e semicolon rest is (omega arith)) refl)

-- ---- block items and labels

-- no declaration, so a statement
plain_item : (n : ℕ) (b : Below) → CompleteBelow n b → (declaration : List Token → Reads DeclarationTree)
    → (s : Stmt) (rest : List Token) → IsStmt s → IsPlain s → stmt_height s ≤ suc n → take_word words.Else rest ≡ None →
    read_block_item declaration (read_statement b) (stmt_tokens s ++ rest) ≡ Found s rest
plain_item n b cb declaration s rest is plain low no_else =
    rw (stmt_no_specifier s rest is plain) (finds_statement n b cb s rest is plain low (λ x. no_else))

declared_item : (declaration : List Token → Reads DeclarationTree) (statement : StmtReader) (ts : List Token)
    (s : Specifier) (ss : List Specifier) (us : List Token) (d : DeclarationTree) (rest : List Token)
    → take_specifiers ts ≡ (s ∷ ss, us) → declaration ts ≡ Found d rest → read_block_item declaration statement ts
    ≡ Found (Declared d) rest
declared_item declaration statement ts s ss us d rest e f = rw (e, f) refl

finds_item : (n : ℕ) (b : Below) → CompleteBelow n b
    → FindsItem (suc n) (read_block_item (read_declaration b.exprs) (read_statement b))
finds_item n b cb (Declared d) rest is item low no_else =
    (let front = specifiers_of d rest n is low in
    declared_item (read_declaration b.exprs) (read_statement b) (declaration_tokens d ++ rest) front.0 front.1 front.2 d
    rest front.3 (declaration_read n b.exprs cb.exprs d rest is low).all_read)
finds_item n b cb (Labelled before s) rest is item low no_else = absurd item
finds_item n b cb (Block o items c) rest is item low no_else =
    plain_item n b cb (read_declaration b.exprs) (Block o items c) rest is tt low no_else
finds_item n b cb (Simple e semicolon) rest is item low no_else =
    plain_item n b cb (read_declaration b.exprs) (Simple e semicolon) rest is tt low no_else
finds_item n b cb (If at o e c s) rest is item low no_else =
    plain_item n b cb (read_declaration b.exprs) (If at o e c s) rest is tt low no_else
finds_item n b cb (IfElse at o e c s otherwise t) rest is item low no_else =
    plain_item n b cb (read_declaration b.exprs) (IfElse at o e c s otherwise t) rest is tt low no_else
finds_item n b cb (Switch at o e c begin items end) rest is item low no_else =
    plain_item n b cb (read_declaration b.exprs) (Switch at o e c begin items end) rest is tt low no_else
finds_item n b cb (While at o e c s) rest is item low no_else =
    plain_item n b cb (read_declaration b.exprs) (While at o e c s) rest is tt low no_else
finds_item n b cb (Do at s until o e c semicolon) rest is item low no_else =
    plain_item n b cb (read_declaration b.exprs) (Do at s until o e c semicolon) rest is tt low no_else
finds_item n b cb (For at o start first condition second step c s) rest is item low no_else =
    plain_item n b cb (read_declaration b.exprs) (For at o start first condition second step c s) rest is tt low no_else
finds_item n b cb (ForDeclaration at o start condition second step c s) rest is item low no_else =
    plain_item n b cb (read_declaration b.exprs) (ForDeclaration at o start condition second step c s) rest is tt low
    no_else
finds_item n b cb (Break at semicolon) rest is item low no_else =
    plain_item n b cb (read_declaration b.exprs) (Break at semicolon) rest is tt low no_else
finds_item n b cb (Continue at semicolon) rest is item low no_else =
    plain_item n b cb (read_declaration b.exprs) (Continue at semicolon) rest is tt low no_else
finds_item n b cb (Return at e semicolon) rest is item low no_else =
    plain_item n b cb (read_declaration b.exprs) (Return at e semicolon) rest is tt low no_else

labels_continue : (h : ℕ) (b : Readers) → Complete h b
    → (ls : List LabelTree) (a : List LabelTree) (ts : List Token) (out : Reads (List LabelTree))
    → AllByRecursion IsLabel ls → greatest label_height ls ≤ h →
    Continues (label_step b.conditional) a (labels_tokens ls ++ ts) out
    → Continues (label_step b.conditional) (a ++ ls) ts out
labels_continue h b cb [] a ts out are low before =
    (let Q : List LabelTree → Type 0 = λ x. Continues (label_step b.conditional) x ts out in
    subst Q (sym (append-nil a)) before)
labels_continue h b cb (Case at e colon ∷ ls) a ts out are low before =
    (let more : List Token = labels_tokens ls ++ ts in
    let front : List Token = expr_tokens e ++ mark marks.Colon colon ∷ [] in
    let group : (front ++ labels_tokens ls) ++ ts ≡ expr_tokens e ++ mark marks.Colon colon ∷ more =
    append_assoc front (labels_tokens ls) ts ∙ append_assoc (expr_tokens e) (mark marks.Colon colon ∷ []) more in
    let read : b.conditional (expr_tokens e ++ mark marks.Colon colon ∷ more)
    ≡ Found e (mark marks.Colon colon ∷ more) =
    cb.conditional e (mark marks.Colon colon ∷ more) are.0.0 are.0.1 (omega arith) (omega arith) in
    let goes : label_step b.conditional a (labels_tokens (Case at e colon ∷ ls) ++ ts)
    ≡ Goes (a ++ Case at e colon ∷ []) more = rw (group, read) refl in
    let less : length more < length (labels_tokens (Case at e colon ∷ ls) ++ ts) =
    rw group (omega (arith, length-append (expr_tokens e) (mark marks.Colon colon ∷ more))) in
    let next = continues_goes _ _ _ _ _ _ before goes less in
    let all = labels_continue h b cb ls (a ++ Case at e colon ∷ []) ts out are.1 (omega arith) next in
    let Q : List LabelTree → Type 0 = λ x. Continues (label_step b.conditional) x ts out in
    subst Q (append_assoc a (Case at e colon ∷ []) ls) all)
labels_continue h b cb (Default at colon ∷ ls) a ts out are low before =
    (let more : List Token = labels_tokens ls ++ ts in
    let goes : label_step b.conditional a (labels_tokens (Default at colon ∷ ls) ++ ts)
    ≡ Goes (a ++ Default at colon ∷ []) more = refl in
    let less : length more < length (labels_tokens (Default at colon ∷ ls) ++ ts) = omega arith in
    let next = continues_goes _ _ _ _ _ _ before goes less in
    let all = labels_continue h b cb ls (a ++ Default at colon ∷ []) ts out are.1 (omega arith) next in
    let Q : List LabelTree → Type 0 = λ x. Continues (label_step b.conditional) x ts out in
    subst Q (append_assoc a (Default at colon ∷ []) ls) all)

finds_labelled : (n : ℕ) (b : Below) → CompleteBelow n b → (r : Readers) → Complete (suc n) r
    → FindsCase (suc n) (read_labelled r.conditional (read_statement b))
finds_labelled n b cb r cr (Labelled before s) rest is case low no_else =
    (let ts : List Token = stmt_tokens s ++ rest in
    let group : (labels_tokens before ++ stmt_tokens s) ++ rest ≡ labels_tokens before ++ ts =
    append_assoc (labels_tokens before) (stmt_tokens s) rest in
    let begins = stmt_begins s rest is.1 is.2 in
    let done : label_step r.conditional before ts ≡ Done = rw (begins.no_case, begins.no_default) refl in
    let all = labels_continue (suc n) r cr before [] ts _ is.0 (omega arith)
    (continues_start (label_step r.conditional) [] (labels_tokens before ++ ts)) in
    let read : read_labels r.conditional (labels_tokens before ++ ts) ≡ Found before ts =
    continues_done _ _ _ _ all done in
    rw (group, read, finds_statement n b cb s rest is.1 is.2 (omega arith) (λ x. no_else)) refl)
finds_labelled n b cb r cr _ rest is case low no_else = absurd case

-- ---- by height

-- the readers for a height find everything that is at most so high
pub complete_below : (height : ℕ) → CompleteBelow height (below_of height)
complete_below zero =
    record {
      exprs = (let P : Readers → Type 0 = λ r. Complete 0 r in let e : readers 0 ≡ (below_of 0).exprs = readers-none
          ∙ sym (ap (λ (x : Below). x.exprs) below_of-none) in subst P e (complete 0));
      declaration = λ d rest is low. absurd (omega arith);
      statement = λ s rest is plain low open_else. absurd (omega (arith, stmt_above s));
      item = λ s rest is item low no_else. absurd (omega (arith, stmt_above s));
      labelled = λ s rest is case low no_else. absurd (omega (arith, stmt_above s));
    }
complete_below (suc n) =
    (let cb = complete_below n in
    let b : Below = below_of n in
    let all : CompleteBelow (suc n) (below_over (suc n) b) = record {
      exprs = complete (suc n);
      declaration = λ d rest is low. (declaration_read n b.exprs cb.exprs d rest is low).all_read;
      statement = finds_statement n b cb;
      item = finds_item n b cb;
      labelled = finds_labelled n b cb (readers (suc n)) (complete (suc n));
    } in
    let P : Below → Type 0 = λ x. CompleteBelow (suc n) x in
    subst P (sym (below_of-suc n)) all)

-- ---- units

-- without a body it is a declaration
external_without : (b : Below) (ss : List Specifier) (first : DeclaratorTree) (x : Bool) (brace : Takes Span)
    (vs : List Token) → brace ≡ None → external_from b ss first x brace vs
    ≡ then_read (declaration_behind b.exprs ss first vs) (λ d us. Found (DeclaredTree d) us)
external_without b ss first true None vs none = refl
external_without b ss first false None vs none = refl
external_without b ss first x (Some brace) vs none = absurd (let wrong : Some brace ≡ None = none in cc)

external_declared : (b : Below) (ts : List Token) (ss : List Specifier) (us : List Token) (first : DeclaratorTree)
    (vs : List Token) (d : DeclarationTree) (rest : List Token) → IsSpecifiers ss →
    take_specifiers ts ≡ (ss, us) → read_declarator b.exprs us ≡ Found first vs → take_mark marks.LeftBrace vs ≡ None
    → declaration_behind b.exprs ss first vs ≡ Found d rest → read_external b ts ≡ Found (DeclaredTree d) rest
external_declared b ts [] us first vs d rest is e f g h = absurd is
external_declared b ts (s ∷ ss) us first vs d rest is e f g h =
    rw (e, f) (external_without b (s ∷ ss) first (has_parameters first.part) (take_mark marks.LeftBrace vs) vs g
    ∙ ap (λ (r : Reads DeclarationTree). then_read r (λ x us. Found (DeclaredTree x) us)) h)

external_function : (b : Below) (ts : List Token) (ss : List Specifier) (us : List Token) (d : DeclaratorTree)
    (vs : List Token) (o : Span) (ws : List Token) (s : Stmt) (rest : List Token) → IsSpecifiers ss
    → has_parameters d.part ≡ true →
    take_specifiers ts ≡ (ss, us) → read_declarator b.exprs us ≡ Found d vs → take_mark marks.LeftBrace vs
    ≡ Some (o, ws) → b.statement vs ≡ Found s rest → read_external b ts ≡ Found (FunctionTree ss d s) rest
external_function b ts [] us d vs o ws s rest is p e f g h = absurd is
external_function b ts (x ∷ ss) us d vs o ws s rest is p e f g h = rw (e, f, p, g, h) refl

parameters_true : (part : PartTree) → HasParameters part → has_parameters part ≡ true
parameters_true (Function p) has = refl
parameters_true Plain has = absurd has
parameters_true (Array a) has = absurd has

-- what is known of a block
body_read : (n : ℕ) (b : Below) → CompleteBelow n b → (s : Stmt) (rest : List Token) → IsStmt s → IsBlock s
    → stmt_height s ≤ n →
    (b.statement (stmt_tokens s ++ rest) ≡ Found s rest)
    × ((o : Span) × (ws : List Token) × (take_mark marks.LeftBrace (stmt_tokens s ++ rest) ≡ Some (o, ws)))
    × (take_mark marks.LeftBracket (stmt_tokens s ++ rest) ≡ None)
    × (take_mark marks.LeftParen (stmt_tokens s ++ rest) ≡ None)
body_read n b cb (Block o items c) rest is block low = (
  cb.statement (Block o items c) rest is tt low (λ (x : false ≡ true). absurd (let wrong : false ≡ true = x in cc)),
  (o, (stmts_tokens items ++ mark marks.RightBrace c ∷ []) ++ rest, refl),
  refl,
  refl,
)
body_read n b cb _ rest is block low = absurd block

external_read : (n : ℕ) (b : Below) → CompleteBelow n b → (e : ExternalTree) (rest : List Token) → IsExternal e
    → external_height e ≤ suc n → read_external b (external_tokens e ++ rest) ≡ Found e rest
external_read n b cb (DeclaredTree d) rest is low =
    (let r = declaration_read n b.exprs cb.exprs d rest is low in
    external_declared b (declaration_tokens d ++ rest) d.specifiers r.behind_specifiers r.first r.behind_first d rest
    is.0 r.words_read r.declarator_is r.no_body r.behind_is)
external_read n b cb (FunctionTree ss d s) rest is low =
    (let body : List Token = stmt_tokens s ++ rest in
    let behind : List Token = declarator_tokens d ++ body in
    let group : (specifiers_tokens ss ++ (declarator_tokens d ++ stmt_tokens s)) ++ rest
    ≡ specifiers_tokens ss ++ behind =
    append_assoc (specifiers_tokens ss) (declarator_tokens d ++ stmt_tokens s) rest
    ∙ ap (λ ts. specifiers_tokens ss ++ ts) (append_assoc (declarator_tokens d) (stmt_tokens s) rest) in
    let block = body_read n b cb s rest is.3 is.4 (omega arith) in
    external_function b (external_tokens (FunctionTree ss d s) ++ rest) ss behind d body block.1.0 block.1.1 s rest is.0
    (parameters_true d.part is.2)
    (ap take_specifiers group ∙ takes_specifiers ss behind (declarator_no_specifier d body))
    (declarator_read n b.exprs cb.exprs d body is.1 (omega arith) block.2 block.3) block.1.2 block.0)

external_nonempty : (e : ExternalTree) → IsExternal e → 1 ≤ length (external_tokens e)
external_nonempty (DeclaredTree d) is = first_specifier d.specifiers
    (separated item_tokens d.items d.commas ++ mark marks.Semicolon d.semicolon ∷ []) is.0
external_nonempty (FunctionTree ss d s) is = first_specifier ss (declarator_tokens d ++ stmt_tokens s) is.0

pub unit_goes : (b : Below) (a : List ExternalTree) (ts : List Token) (e : ExternalTree) (us : List Token)
    → 1 ≤ length ts → read_external b ts ≡ Found e us → unit_step b a ts ≡ Goes (a ++ e ∷ []) us
unit_goes b a [] e us some read = absurd (omega arith)
unit_goes b a (t ∷ ts) e us some read = rw read refl

unit_continue : (n : ℕ) (b : Below) → CompleteBelow n b → (es a : List ExternalTree) (out : Reads (List ExternalTree))
    → AllByRecursion IsExternal es → greatest external_height es ≤ suc n →
    Continues (unit_step b) a (unit_tokens es) out → Continues (unit_step b) (a ++ es) [] out
unit_continue n b cb [] a out are low before =
    (let Q : List ExternalTree → Type 0 = λ x. Continues (unit_step b) x [] out in subst Q (sym (append-nil a)) before)
unit_continue n b cb (e ∷ es) a out are low before =
    (let some : 1 ≤ length (external_tokens e ++ unit_tokens es) =
    omega (arith, length-append (external_tokens e) (unit_tokens es), external_nonempty e are.0) in
    let goes = unit_goes b a (external_tokens e ++ unit_tokens es) e (unit_tokens es) some
    (external_read n b cb e (unit_tokens es) are.0 (omega arith)) in
    let less : length (unit_tokens es) < length (external_tokens e ++ unit_tokens es) =
    omega (arith, length-append (external_tokens e) (unit_tokens es), external_nonempty e are.0) in
    let all = unit_continue n b cb es (a ++ e ∷ []) out are.1 (omega arith)
    (continues_goes _ _ _ _ _ _ before goes less) in
    let Q : List ExternalTree → Type 0 = λ x. Continues (unit_step b) x [] out in
    subst Q (append_assoc a (e ∷ []) es) all)

-- a unit is read whole
pub unit_read : (n : ℕ) (es : List ExternalTree) → AllByRecursion IsExternal es → greatest external_height es ≤ suc n
    → read_unit (below_of n) (unit_tokens es) ≡ Found es []
unit_read n es are low =
    continues_done _ _ _ _ (unit_continue n (below_of n) (complete_below n) es [] _ are low
    (continues_start (unit_step (below_of n)) [] (unit_tokens es))) refl

-- ---- one tree

pub tree_read : (n : ℕ) (tokens : List Token) (h : ℕ) (t : List ExternalTree) → Tree tokens h t → h ≤ suc n
    → read_unit (below_of n) tokens ≡ Found t []
tree_read n tokens h t tree low = ap (read_unit (below_of n)) tree.tokens_are
    ∙ unit_read n t tree.is (omega (arith, tree.height_is))

read_once : {A : Type 0} (t u : A) (x : Reads A) → x ≡ Found t [] → x ≡ Found u [] → t ≡ u
read_once {A} t u x e f = found_once t u [] [] (sym e ∙ f)
  where
    found_once : (t u : A) (ts us : List Token) → Found t ts ≡ Found u us → t ≡ u
    found_once t u ts us g = cc

-- a list of tokens has one raw tree at most
pub one_tree : (tokens : List Token) (g h : ℕ) (t u : List ExternalTree) → Tree tokens g t → Tree tokens h u → (g ≡ h)
    × (t ≡ u)
one_tree tokens g h t u a b =
    (let e = tree_read (g + h) tokens g t a (omega arith) in
    let f = tree_read (g + h) tokens h u b (omega arith) in
    let same : t ≡ u = read_once t u (read_unit (below_of (g + h)) tokens) e f in
    (a.height_is ∙ (ap (greatest external_height) same ∙ sym b.height_is), same))
