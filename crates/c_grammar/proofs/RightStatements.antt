-- What was taken of a statement or of a unit before a fault begins one, of at most that height.
use Rattle.std.specs.List.{AllByRecursion}
use Rattle.std.proofs.Common.{◌≡◌, ℕ, zero, suc, ◌≤◌, max, inl, inr, Bool, true, false, List, [], ◌∷◌, ◌++◌, length}
use Rattle.std.proofs.Common.{Option, Some}
use Rattle.std.proofs.Common.{None, if◌then◌else◌, refl, ap, sym, ◌∙◌, subst, arith}
use Rattle.pcc_base.specs.declared.span.Span.{Span}
use Rattle.pcc_base.specs.declared.keyword.Keyword.TheVariants as words
use Rattle.pcc_base.proofs.Lists.{all-push}
use Rattle.c_lex.specs.declared.token.Token.{Token}
use Rattle.c_lex.specs.declared.token.Punct.{Punct}
use Rattle.c_lex.specs.declared.token.Punct.TheVariants as marks
use Rattle.c_syntax.specs.declared.expression.Specifier.{Specifier}
use Rattle.c_syntax.specs.Marks.{mark, word}
use Rattle.c_syntax.specs.Expressions.{Expr}
use Rattle.c_syntax.specs.ExpressionTokens.{expr_tokens, expr_height, IsExpr, IsSpecifiers, specifiers_tokens}
use Rattle.c_syntax.specs.Declarations.{DeclaratorTree}
use Rattle.c_syntax.specs.DeclarationTokens.{maybe_expr_tokens, maybe_expr_height, declaration_tokens}
use Rattle.c_syntax.specs.DeclarationTokens.{declarator_tokens, greatest}
use Rattle.c_syntax.specs.Statements.{LabelTree, Case, Default, Stmt, Declared, Labelled, Block, Simple, If, IfElse}
use Rattle.c_syntax.specs.Statements.{Switch, While, Do, For, ForDeclaration, Break, Continue, Return, stmts_of}
use Rattle.c_syntax.specs.Statements.{ExternalTree, FunctionTree, DeclaredTree}
use Rattle.c_syntax.specs.StatementTokens.{labels_tokens, in_parens, stmt_tokens, stmts_tokens, label_height}
use Rattle.c_syntax.specs.StatementTokens.{stmt_height, stmts_height, ends_open, IsMaybeExpr, IsLabel}
use Rattle.c_syntax.specs.StatementTokens.{IsPlain, IsBlockItem, IsCase, IsStmt}
use Rattle.c_syntax.specs.Grammar.{external_tokens, unit_tokens, external_height, IsExternal}
use Rattle.c_grammar.specs.Faults.{Begins}
use Rattle.c_grammar.specs.Chains.{Takes, Reads, Found, Faults, then_read}
use Rattle.c_grammar.specs.Taking.{is_mark, take_mark, take_word, take_specifiers}
use Rattle.c_grammar.specs.Taking.{read_mark}
use Rattle.c_grammar.specs.Reading.{Reader, Readers, readers}
use Rattle.c_grammar.proofs.Reading.{readers-none}
use Rattle.c_grammar.specs.DeclarationReading.{maybe_before, read_declarator, declaration_behind, read_declaration}
use Rattle.c_grammar.specs.StatementReading.{StmtReader, Below, no_item, nothing_below, below_of, below_over}
use Rattle.c_grammar.specs.StatementReading.{Condition, read_condition}
use Rattle.c_grammar.specs.StatementReading.{until_at, until_step, read_until, default_at, label_at, label_step}
use Rattle.c_grammar.specs.StatementReading.{read_labels, read_labelled, item_with, read_block_item, block_behind}
use Rattle.c_grammar.specs.StatementReading.{else_from, if_behind, while_behind, do_behind, ForRest, read_for_rest}
use Rattle.c_grammar.specs.StatementReading.{for_with, for_behind, switch_behind, or_return, or_continue, or_break}
use Rattle.c_grammar.specs.StatementReading.{or_switch, or_for, or_do, or_while, or_if, or_block, read_statement}
use Rattle.c_grammar.specs.StatementReading.{has_parameters, external_from, external_with, read_external}
use Rattle.c_grammar.specs.StatementReading.{unit_step}
use Rattle.c_grammar.specs.StatementReading.{read_unit}
use Rattle.c_grammar.proofs.StatementReading.{below_of-suc, below_of-none}
use Rattle.c_grammar.proofs.Sound.{HoldsTaken, mark_taken, word_taken, mark_read, specifiers_taken}
use Rattle.c_grammar.proofs.Sound.{Sound, SoundReader, SoundReaders, sound}
use Rattle.c_grammar.proofs.SoundDeclarations.{One, SoundMaybe, sound_maybe, IsLowDeclarator, sound_declarator}
use Rattle.c_grammar.proofs.SoundDeclarations.{IsLowDeclaration}
use Rattle.c_grammar.proofs.SoundStatements.{SoundStmt, SoundStatements, SoundBelow, SoundCondition}
use Rattle.c_grammar.proofs.SoundStatements.{sound_condition}
use Rattle.c_grammar.proofs.SoundStatements.{behind_parens, maybe_is, AllStmts, SoundRow, row_tokens, row_height}
use Rattle.c_grammar.proofs.SoundStatements.{row_all, row_keeps, sound_row, items_are, cases_are, not_open}
use Rattle.c_grammar.proofs.SoundStatements.{rest_tokens, plain_item}
use Rattle.c_grammar.proofs.SoundStatements.{SoundLabels, labels_push, labels_low, label_keeps, sound_labels}
use Rattle.c_grammar.proofs.SoundStatements.{sound_below, IsLowExternal, has_part, block_alone, sound_external}
use Rattle.c_grammar.proofs.SoundStatements.{SoundUnit, unit_push, unit_low, sound_unit_step}
use Rattle.c_grammar.proofs.Right.{Swap, s_here, s_all, s_cons, s_left, s_app, s_eq, s_to, Begun, Starts, here}
use Rattle.c_grammar.proofs.Right.{Falls}
use Rattle.c_grammar.proofs.Right.{FallsStep, falls_map, falls_then, step_falls_then, falls_mark, falls_word}
use Rattle.c_grammar.proofs.Right.{step_falls_mark, falls_chain, falls_room, falls_last, mark_falls}
use Rattle.c_grammar.proofs.RightExpressions.{ExprBegun, ExprStarts, RightReader, RightReaders, one, begun, right}
use Rattle.c_grammar.proofs.RightDeclarations.{MaybeBegun, right_maybe, DeclaratorBegun, right_declarator}
use Rattle.c_grammar.proofs.RightDeclarations.{DeclarationBegun, declared_begun, no_declaration}
use Rattle.c_grammar.proofs.RightDeclarations.{right_declaration_behind, right_declaration}

-- ---- statements of a kind, so high at most

abbrev StmtLow : (Stmt → Type 0) → ℕ → Stmt → Type 0
StmtLow K h s = IsStmt s × K s × (stmt_height s ≤ h)

abbrev StmtBegun : (Stmt → Type 0) → ℕ → List Token → List Token → Type 0
StmtBegun K h ts us = Begun stmt_tokens (StmtLow K h) ts us

abbrev StmtStarts : (Stmt → Type 0) → ℕ → List Token → List Token → Type 0
StmtStarts K h ts us = Starts stmt_tokens (StmtLow K h) ts us

abbrev RightStatements : (Stmt → Type 0) → ℕ → StmtReader → Type 0
RightStatements K h read = (ts : List Token) → Falls (StmtStarts K h ts) (read ts)

record RightBelow (h : ℕ) (b : Below) : Type 0 where
  exprs : RightReaders h b.exprs
  declaration : (ts : List Token) → Falls (Starts declaration_tokens (IsLowDeclaration h) ts) (b.declaration ts)
  statement : RightStatements IsPlain h b.statement
  item : RightStatements IsBlockItem h b.item
  labelled : RightStatements IsCase h b.labelled

-- the least statement
abbrev empty : Stmt
empty = Simple None here

abbrev semicolon : List Token
semicolon = mark marks.Semicolon here ∷ []

-- nothing was taken
no_stmt : (n : ℕ) (ts us : List Token) → ts ≡ us → StmtBegun IsPlain (suc n) ts us
no_stmt n ts us e = (empty, s_here e, (tt, tt, omega arith))

begun_stmt : (h : ℕ) (ts us : List Token) → 1 ≤ h → StmtStarts IsPlain h ts us → StmtBegun IsPlain h ts us
begun_stmt h ts us some (inl e) = (empty, s_here e, (tt, tt, some))
begun_stmt h ts us some (inr g) = g

begun_declaration : (h : ℕ) (ts us : List Token) → 1 ≤ h → Starts declaration_tokens (IsLowDeclaration h) ts us
    → DeclarationBegun h ts us
begun_declaration zero ts us some g = absurd (omega arith)
begun_declaration (suc n) ts us some (inl e) = no_declaration n ts us e
begun_declaration (suc n) ts us some (inr g) = g

-- ---- conditions

abbrev ConditionLow : ℕ → Condition → Type 0
ConditionLow h k = IsExpr k.1 × (expr_height k.1 ≤ h)

abbrev condition_tokens : Condition → List Token
condition_tokens k = in_parens k.0 k.1 k.2 []

abbrev ConditionBegun : ℕ → List Token → List Token → Type 0
ConditionBegun h ts us = Begun condition_tokens (ConditionLow h) ts us

-- what stands behind parentheses
s_parens : (o : Span) (e : Expr) (c : Span) {ts us w : List Token} → Swap ts us w
    → Swap (in_parens o e c ts) us (in_parens o e c w)
s_parens o e c s = s_cons (s_left (expr_tokens e) (s_cons s))

-- and where the parentheses begin
s_behind : (k : Condition) (ys : List Token) {ts us : List Token} → Swap ts us (condition_tokens k)
    → Swap ts us (in_parens k.0 k.1 k.2 ys)
s_behind k ys s = s_to (sym (behind_parens k.0 k.1 k.2 [] ys)) (s_app ys s)

right_condition : (n : ℕ) (b : Below) → SoundBelow n b → RightBelow n b → 1 ≤ n → (ts : List Token)
    → Falls (ConditionBegun n ts) (read_condition b ts)
right_condition n b sb r some ts =
    falls_mark (ConditionBegun n ts) marks.LeftParen ts _ ((here, one, here), s_here refl, (tt, some)) (λ o us f.
    falls_then (Sound 16 n us) (ExprStarts 16 n us) (ConditionBegun n ts) (b.exprs.expression us) _
    (sb.exprs.expression us) (r.exprs.expression us) (λ vs g. inside o us f vs (begun 16 n us vs some g)) (λ e vs s.
    falls_mark (ConditionBegun n ts) marks.RightParen vs _
    ((o, e, here), s_eq f (s_cons (s_eq s.tokens (s_left (expr_tokens e) (s_here refl)))), (s.is, s.low))
    (λ c ws k. tt)))
  where
    inside : (o : Span) (us : List Token) → ts ≡ mark marks.LeftParen o ∷ us → (vs : List Token)
        → ExprBegun 16 n us vs → ConditionBegun n ts vs
    inside o us f vs (e, swap, (is, loose, low)) =
        ((o, e, here), s_eq f (s_cons (s_app (mark marks.RightParen here ∷ []) swap)), (is, low))

-- ---- rows of statements

abbrev RowLow : (Stmt → Type 0) → ℕ → List Stmt → Type 0
RowLow K h ss = AllStmts K ss × (stmts_height (stmts_of ss) ≤ h)

abbrev row : List Stmt → List Token
row ss = stmts_tokens (stmts_of ss)

abbrev RowBegun : (Stmt → Type 0) → ℕ → List Token → List Token → Type 0
RowBegun K h ts us = Begun row (RowLow K h) ts us

right_row : (K : Stmt → Type 0) (h : ℕ) (read : StmtReader) → SoundStatements K h read → RightStatements K h read
    → (ts : List Token) → Falls (RowBegun K h ts) (read_until read ts)
right_row K h read reads rights ts =
    falls_chain (SoundRow K h ts) (RowBegun K h ts) (until_step read) (λ a us s. row_keeps K h read reads ts a us s)
    (λ a us s. turn a us s (take_mark marks.RightBrace us)) (λ a us s. (a, s_all s.tokens, (s.all, s.low))) (length ts)
    [] ts (record { tokens = refl; all = tt; low = omega arith })
  where
    next : (a : List Stmt) (us : List Token) → SoundRow K h ts a us → (vs : List Token) → StmtStarts K h us vs
        → RowBegun K h ts vs
    next a us s vs (inl e) = (a, s_all (s.tokens ∙ ap (λ zs. row a ++ zs) e), (s.all, s.low))
    next a us s vs (inr (x, swap, (is, kind, low))) = (
      a ++ x ∷ [],
      s_to (sym (row_tokens a x)) (s_eq s.tokens (s_left (row a) swap)),
      (row_all K a x s.all is kind, omega (arith, row_height a x, s.low, low)),
    )

    turn : (a : List Stmt) (us : List Token) → SoundRow K h ts a us → (o : Takes Span)
        → FallsStep (RowBegun K h ts) (until_at read a o us)
    turn a us s (Some close) = tt
    turn a us s None = step_falls_then (SoundStmt K h us) (StmtStarts K h us) (RowBegun K h ts) (read us) _ (reads us)
        (rights us) (λ vs g. next a us s vs g) (λ x vs g. tt)

-- ---- statements

abbrev PlainBegun : ℕ → List Token → List Token → Type 0
PlainBegun n ts us = StmtBegun IsPlain (suc n) ts us

right_block : (n : ℕ) (b : Below) → SoundBelow n b → RightBelow n b → (o : Span) (ts : List Token)
    → Falls (PlainBegun n (mark marks.LeftBrace o ∷ ts)) (block_behind b o ts)
right_block n b sb r o ts =
    falls_then (SoundRow IsBlockItem n ts) (RowBegun IsBlockItem n ts) (PlainBegun n (mark marks.LeftBrace o ∷ ts))
    (read_until b.item ts) _ (sound_row IsBlockItem n b.item sb.item ts)
    (right_row IsBlockItem n b.item sb.item r.item ts) (λ us (ss, swap, (all, low)). (
      Block o (stmts_of ss) here,
      s_cons (s_app (mark marks.RightBrace here ∷ []) swap),
      (items_are ss all, tt, omega (arith, low)),
    ))
    (λ ss us s.
    falls_mark (PlainBegun n (mark marks.LeftBrace o ∷ ts)) marks.RightBrace us _ (
      Block o (stmts_of ss) here,
      s_cons (s_eq s.tokens (s_left (row ss) (s_here refl))),
      (items_are ss s.all, tt, omega (arith, s.low)),
    )
    (λ c vs g. tt))

-- what is behind a condition
right_if : (n : ℕ) (b : Below) → SoundBelow n b → RightBelow n b → (at : Span) (ts : List Token)
    → Falls (PlainBegun n (word words.If at ∷ ts)) (if_behind b at ts)
right_if n b sb r at ts =
    falls_room (SoundCondition n ts) (ConditionBegun n ts) (PlainBegun n (word words.If at ∷ ts)) 0 b.exprs.height
    (word words.If at) ts (read_condition b ts) _ (no_stmt n _ _ refl) (sound_condition n b sb ts)
    (λ some. right_condition n b sb r (omega (arith, some, r.exprs.height)) ts)
    (λ us some g. start us (omega (arith, some, r.exprs.height)) g) (λ k us some f.
    falls_then (SoundStmt IsPlain n us) (StmtStarts IsPlain n us) (PlainBegun n (word words.If at ∷ ts))
    (b.statement us) _ (sb.statement us) (r.statement us)
    (λ vs g. body k us f vs (begun_stmt n us vs (omega (arith, some, r.exprs.height)) g))
    (λ s vs g. under k us f (omega (arith, some, r.exprs.height)) s vs g (take_word words.Else vs) refl
    (word_taken words.Else vs)))
  where
    start : (us : List Token) → 1 ≤ n → ConditionBegun n ts us → PlainBegun n (word words.If at ∷ ts) us
    start us some (k, swap, (is, low)) =
        (If at k.0 k.1 k.2 empty, s_cons (s_behind k semicolon swap), ((is, tt, tt), tt, omega (arith, low, some)))

    body : (k : Condition) (us : List Token) → SoundCondition n ts k us → (vs : List Token) → StmtBegun IsPlain n us vs
        → PlainBegun n (word words.If at ∷ ts) vs
    body k us f vs (s, swap, (is, plain, low)) = (
      If at k.0 k.1 k.2 s,
      s_cons (s_eq f.tokens (s_parens k.0 k.1 k.2 swap)),
      ((f.is, is, plain), tt, omega (arith, f.low, low)),
    )

    other : (k : Condition) (us : List Token) → SoundCondition n ts k us → (s : Stmt) (vs : List Token)
        → SoundStmt IsPlain n us s vs → (otherwise : Span) (ws : List Token)
        → take_word words.Else vs ≡ Some (otherwise, ws) → vs ≡ word words.Else otherwise ∷ ws → (xs : List Token)
        → StmtBegun IsPlain n ws xs → PlainBegun n (word words.If at ∷ ts) xs
    other k us f s vs g otherwise ws e h xs (t, swap, (is, plain, low)) = (
      IfElse at k.0 k.1 k.2 s otherwise t,
      s_cons (s_eq f.tokens (s_parens k.0 k.1 k.2
          (s_eq g.tokens (s_left (stmt_tokens s) (s_eq h (s_cons swap)))))),
      (
        (
          f.is,
          g.is,
          g.kind,
          not_open (ends_open s) (take_word words.Else vs) (otherwise, ws) e g.no_else,
          is,
          plain,
        ),
        tt,
        omega (arith, f.low, g.low, low),
      ),
    )

    under : (k : Condition) (us : List Token) → SoundCondition n ts k us → 1 ≤ n → (s : Stmt) (vs : List Token)
        → SoundStmt IsPlain n us s vs → (o : Takes Span) → take_word words.Else vs ≡ o
        → HoldsTaken (λ at ws. vs ≡ word words.Else at ∷ ws) o
        → Falls (PlainBegun n (word words.If at ∷ ts)) (else_from b at k s o vs)
    under k us f some s vs g None e h = tt
    under k us f some s vs g (Some (otherwise, ws)) e h =
        falls_last (StmtStarts IsPlain n ws) (PlainBegun n (word words.If at ∷ ts)) (b.statement ws) _ (r.statement ws)
        (λ xs j. other k us f s vs g otherwise ws e h xs (begun_stmt n ws xs some j))

right_while : (n : ℕ) (b : Below) → SoundBelow n b → RightBelow n b → (at : Span) (ts : List Token)
    → Falls (PlainBegun n (word words.While at ∷ ts)) (while_behind b at ts)
right_while n b sb r at ts =
    falls_room (SoundCondition n ts) (ConditionBegun n ts) (PlainBegun n (word words.While at ∷ ts)) 0 b.exprs.height
    (word words.While at) ts (read_condition b ts) _ (no_stmt n _ _ refl) (sound_condition n b sb ts)
    (λ some. right_condition n b sb r (omega (arith, some, r.exprs.height)) ts)
    (λ us some g. start us (omega (arith, some, r.exprs.height)) g) (λ k us some f.
    falls_last (StmtStarts IsPlain n us) (PlainBegun n (word words.While at ∷ ts)) (b.statement us) _ (r.statement us)
    (λ vs g. body k us f vs (begun_stmt n us vs (omega (arith, some, r.exprs.height)) g)))
  where
    start : (us : List Token) → 1 ≤ n → ConditionBegun n ts us → PlainBegun n (word words.While at ∷ ts) us
    start us some (k, swap, (is, low)) =
        (While at k.0 k.1 k.2 empty, s_cons (s_behind k semicolon swap), ((is, tt, tt), tt, omega (arith, low, some)))

    body : (k : Condition) (us : List Token) → SoundCondition n ts k us → (vs : List Token) → StmtBegun IsPlain n us vs
        → PlainBegun n (word words.While at ∷ ts) vs
    body k us f vs (s, swap, (is, plain, low)) = (
      While at k.0 k.1 k.2 s,
      s_cons (s_eq f.tokens (s_parens k.0 k.1 k.2 swap)),
      ((f.is, is, plain), tt, omega (arith, f.low, low)),
    )

right_do : (n : ℕ) (b : Below) → SoundBelow n b → RightBelow n b → (at : Span) (ts : List Token)
    → Falls (PlainBegun n (word words.Do at ∷ ts)) (do_behind b at ts)
right_do n b sb r at ts =
    falls_room (SoundStmt IsPlain n ts) (StmtStarts IsPlain n ts) (PlainBegun n (word words.Do at ∷ ts)) 0
    b.exprs.height (word words.Do at) ts (b.statement ts) _ (no_stmt n _ _ refl) (sb.statement ts)
    (λ some. r.statement ts)
    (λ us some g. start us (omega (arith, some, r.exprs.height))
    (begun_stmt n ts us (omega (arith, some, r.exprs.height)) g)) (λ s us some g.
    falls_word (PlainBegun n (word words.Do at ∷ ts)) words.While us _ (
      Do at s here here one here here,
      s_cons (s_eq g.tokens (s_left (stmt_tokens s) (s_here refl))),
      ((g.is, g.kind, tt), tt, omega (arith, g.low, some, r.exprs.height)),
    )
    (λ until vs h.
    falls_then (SoundCondition n vs) (ConditionBegun n vs) (PlainBegun n (word words.Do at ∷ ts)) (read_condition b vs)
    _ (sound_condition n b sb vs) (right_condition n b sb r (omega (arith, some, r.exprs.height)) vs)
    (λ ws (k, swap, (is, low)). (
      Do at s until k.0 k.1 k.2 here,
      s_cons (s_eq g.tokens (s_left (stmt_tokens s) (s_eq h (s_cons (s_behind k semicolon swap))))),
      ((g.is, g.kind, is), tt, omega (arith, g.low, low)),
    ))
    (λ k ws f.
    falls_mark (PlainBegun n (word words.Do at ∷ ts)) marks.Semicolon ws _ (
      Do at s until k.0 k.1 k.2 here,
      s_cons (s_eq g.tokens (s_left (stmt_tokens s) (s_eq h (s_cons
          (s_eq f.tokens (s_parens k.0 k.1 k.2 (s_here refl))))))),
      ((g.is, g.kind, f.is), tt, omega (arith, g.low, f.low)),
    )
    (λ c xs m. tt))))
  where
    start : (us : List Token) → 1 ≤ n → StmtBegun IsPlain n ts us → PlainBegun n (word words.Do at ∷ ts) us
    start us some (s, swap, (is, plain, low)) = (
      Do at s here here one here here,
      s_cons (s_app (word words.While here ∷ in_parens here one here semicolon) swap),
      ((is, plain, tt), tt, omega (arith, low, some)),
    )

-- ---- `for`

abbrev RestLow : ℕ → ForRest → Type 0
RestLow h r = IsMaybeExpr r.0 × IsMaybeExpr r.2 × IsStmt r.4 × IsPlain r.4
    × (max (maybe_expr_height r.0) (max (maybe_expr_height r.2) (stmt_height r.4)) ≤ h)

abbrev RestBegun : ℕ → List Token → List Token → Type 0
RestBegun h ts us = Begun rest_tokens (RestLow h) ts us

right_rest : (n : ℕ) (b : Below) → SoundBelow n b → RightBelow n b → 1 ≤ n → (ts : List Token)
    → Falls (RestBegun n ts) (read_for_rest b ts)
right_rest n b sb r some ts =
    falls_then (SoundMaybe 16 n ts) (MaybeBegun 16 n ts) (RestBegun n ts)
    (maybe_before b.exprs.expression marks.Semicolon ts) _
    (sound_maybe 16 n b.exprs.expression sb.exprs.expression marks.Semicolon ts)
    (right_maybe 16 n b.exprs.expression r.exprs.expression marks.Semicolon ts) (λ us (k, swap, (fits, low)). (
      (k, here, None, here, empty),
      s_app (mark marks.Semicolon here ∷ mark marks.RightParen here ∷ semicolon) swap,
      (maybe_is k fits, tt, tt, tt, omega (arith, low, some)),
    ))
    (λ k us f.
    falls_mark (RestBegun n ts) marks.Semicolon us _ (
      (k, here, None, here, empty),
      s_eq f.tokens (s_left (maybe_expr_tokens k) (s_here refl)),
      (maybe_is k f.fits, tt, tt, tt, omega (arith, f.low, some)),
    )
    (λ second vs g.
    falls_then (SoundMaybe 16 n vs) (MaybeBegun 16 n vs) (RestBegun n ts)
    (maybe_before b.exprs.expression marks.RightParen vs) _
    (sound_maybe 16 n b.exprs.expression sb.exprs.expression marks.RightParen vs)
    (right_maybe 16 n b.exprs.expression r.exprs.expression marks.RightParen vs) (λ ws (step, swap, (fits, low)). (
      (k, second, step, here, empty),
      s_eq f.tokens (s_left (maybe_expr_tokens k) (s_eq g (s_cons
          (s_app (mark marks.RightParen here ∷ semicolon) swap)))),
      (maybe_is k f.fits, maybe_is step fits, tt, tt, omega (arith, f.low, low, some)),
    ))
    (λ step ws h.
    falls_mark (RestBegun n ts) marks.RightParen ws _ (
      (k, second, step, here, empty),
      s_eq f.tokens (s_left (maybe_expr_tokens k) (s_eq g (s_cons
          (s_eq h.tokens (s_left (maybe_expr_tokens step) (s_here refl)))))),
      (maybe_is k f.fits, maybe_is step h.fits, tt, tt, omega (arith, f.low, h.low, some)),
    )
    (λ c xs i.
    falls_last (StmtStarts IsPlain n xs) (RestBegun n ts) (b.statement xs) _ (r.statement xs)
    (λ ys j. body k us f second vs g step ws h c xs i ys (begun_stmt n xs ys some j))))))
  where
    body : (k : Option Expr) (us : List Token) → SoundMaybe 16 n ts k us → (second : Span) (vs : List Token)
        → us ≡ mark marks.Semicolon second ∷ vs → (step : Option Expr) (ws : List Token) → SoundMaybe 16 n vs step ws
        → (c : Span) (xs : List Token) → ws ≡ mark marks.RightParen c ∷ xs → (ys : List Token)
        → StmtBegun IsPlain n xs ys → RestBegun n ts ys
    body k us f second vs g step ws h c xs i ys (s, swap, (is, plain, low)) = (
      (k, second, step, c, s),
      s_eq f.tokens (s_left (maybe_expr_tokens k) (s_eq g (s_cons
          (s_eq h.tokens (s_left (maybe_expr_tokens step) (s_eq i (s_cons swap))))))),
      (maybe_is k f.fits, maybe_is step h.fits, is, plain, omega (arith, f.low, h.low, low)),
    )

right_for : (n : ℕ) (b : Below) → SoundBelow n b → RightBelow n b → (at : Span) (ts : List Token)
    → Falls (PlainBegun n (word words.For at ∷ ts)) (for_behind b at ts)
right_for n b sb r at ts =
    falls_room (λ o us. ts ≡ mark marks.LeftParen o ∷ us) (λ us. ts ≡ us) (PlainBegun n (word words.For at ∷ ts)) 0
    b.exprs.height (word words.For at) ts (read_mark marks.LeftParen ts) _ (no_stmt n _ _ refl)
    (mark_read marks.LeftParen ts) (λ some. mark_falls marks.LeftParen ts) (λ us some e. (
      For at here None here None here None here empty,
      s_cons (s_here e),
      ((tt, tt, tt, tt, tt), tt, omega (arith, some, r.exprs.height)),
    ))
    (λ o us some f. under (omega (arith, some, r.exprs.height)) o us f (take_specifiers us).0)
  where
    under : 1 ≤ n → (o : Span) (us : List Token) → ts ≡ mark marks.LeftParen o ∷ us → (ss : List Specifier)
        → Falls (PlainBegun n (word words.For at ∷ ts)) (for_with b at o ss us)
    under some o us f [] =
        falls_then (SoundMaybe 16 n us) (MaybeBegun 16 n us) (PlainBegun n (word words.For at ∷ ts))
        (maybe_before b.exprs.expression marks.Semicolon us) _
        (sound_maybe 16 n b.exprs.expression sb.exprs.expression marks.Semicolon us)
        (right_maybe 16 n b.exprs.expression r.exprs.expression marks.Semicolon us)
        (λ vs (start, swap, (fits, low)). (
          For at o start here None here None here empty,
          s_cons (s_eq f (s_cons (s_app (mark marks.Semicolon here ∷ mark marks.Semicolon here
              ∷ mark marks.RightParen here ∷ semicolon) swap))),
          ((maybe_is start fits, tt, tt, tt, tt), tt, omega (arith, low, some)),
        ))
        (λ start vs g.
        falls_mark (PlainBegun n (word words.For at ∷ ts)) marks.Semicolon vs _ (
          For at o start here None here None here empty,
          s_cons (s_eq f (s_cons (s_eq g.tokens (s_left (maybe_expr_tokens start) (s_here refl))))),
          ((maybe_is start g.fits, tt, tt, tt, tt), tt, omega (arith, g.low, some)),
        )
        (λ first ws h.
        falls_last (RestBegun n ws) (PlainBegun n (word words.For at ∷ ts)) (read_for_rest b ws) _
        (right_rest n b sb r some ws) (λ xs (x, swap, (is_condition, is_step, is, plain, low)). (
          For at o start first x.0 x.1 x.2 x.3 x.4,
          s_cons (s_eq f (s_cons (s_eq g.tokens (s_left (maybe_expr_tokens start) (s_eq h (s_cons swap)))))),
          ((maybe_is start g.fits, is_condition, is_step, is, plain), tt, omega (arith, g.low, low)),
        ))))
    under some o us f (s ∷ ss) =
        falls_then (One declaration_tokens (IsLowDeclaration n) us)
        (Starts declaration_tokens (IsLowDeclaration n) us) (PlainBegun n (word words.For at ∷ ts))
        (b.declaration us) _ (sb.declaration us) (r.declaration us)
        (λ vs g. declares vs (begun_declaration n us vs some g)) (λ d vs g.
        falls_last (RestBegun n vs) (PlainBegun n (word words.For at ∷ ts)) (read_for_rest b vs) _
        (right_rest n b sb r some vs) (λ xs (x, swap, (is_condition, is_step, is, plain, low)). (
          ForDeclaration at o d x.0 x.1 x.2 x.3 x.4,
          s_cons (s_eq f (s_cons (s_eq g.0 (s_left (declaration_tokens d) swap)))),
          ((g.1.0, is_condition, is_step, is, plain), tt, omega (arith, g.1.1, low)),
        )))
      where
        declares : (vs : List Token) → DeclarationBegun n us vs → PlainBegun n (word words.For at ∷ ts) vs
        declares vs (d, swap, (is, low)) = (
          ForDeclaration at o d None here None here empty,
          s_cons (s_eq f (s_cons (s_app (mark marks.Semicolon here ∷ mark marks.RightParen here ∷ semicolon) swap))),
          ((is, tt, tt, tt, tt), tt, omega (arith, low, some)),
        )

right_switch : (n : ℕ) (b : Below) → SoundBelow n b → RightBelow n b → (at : Span) (ts : List Token)
    → Falls (PlainBegun n (word words.Switch at ∷ ts)) (switch_behind b at ts)
right_switch n b sb r at ts =
    falls_room (SoundCondition n ts) (ConditionBegun n ts) (PlainBegun n (word words.Switch at ∷ ts)) 0 b.exprs.height
    (word words.Switch at) ts (read_condition b ts) _ (no_stmt n _ _ refl) (sound_condition n b sb ts)
    (λ some. right_condition n b sb r (omega (arith, some, r.exprs.height)) ts) (λ us some (k, swap, (is, low)). (
      Switch at k.0 k.1 k.2 here (stmts_of []) here,
      s_cons (s_behind k (mark marks.LeftBrace here ∷ mark marks.RightBrace here ∷ []) swap),
      ((is, tt), tt, omega (arith, low)),
    ))
    (λ k us some f.
    falls_mark (PlainBegun n (word words.Switch at ∷ ts)) marks.LeftBrace us _ (
      Switch at k.0 k.1 k.2 here (stmts_of []) here,
      s_cons (s_eq f.tokens (s_parens k.0 k.1 k.2 (s_here refl))),
      ((f.is, tt), tt, omega (arith, f.low)),
    )
    (λ begin vs g.
    falls_then (SoundRow IsCase n vs) (RowBegun IsCase n vs) (PlainBegun n (word words.Switch at ∷ ts))
    (read_until b.labelled vs) _ (sound_row IsCase n b.labelled sb.labelled vs)
    (right_row IsCase n b.labelled sb.labelled r.labelled vs) (λ ws (ss, swap, (all, low)). (
      Switch at k.0 k.1 k.2 begin (stmts_of ss) here,
      s_cons (s_eq f.tokens (s_parens k.0 k.1 k.2 (s_eq g (s_cons
          (s_app (mark marks.RightBrace here ∷ []) swap))))),
      ((f.is, cases_are ss all), tt, omega (arith, f.low, low)),
    ))
    (λ ss ws s.
    falls_mark (PlainBegun n (word words.Switch at ∷ ts)) marks.RightBrace ws _ (
      Switch at k.0 k.1 k.2 begin (stmts_of ss) here,
      s_cons (s_eq f.tokens (s_parens k.0 k.1 k.2 (s_eq g (s_cons
          (s_eq s.tokens (s_left (row ss) (s_here refl))))))),
      ((f.is, cases_are ss s.all), tt, omega (arith, f.low, s.low)),
    )
    (λ end xs h. tt))))

right_value : (n : ℕ) (b : Below) → SoundBelow n b → RightBelow n b → (ts us : List Token)
    (make : Option Expr → Span → Stmt)
    → ((e : Option Expr) (vs : List Token) → Swap us vs (maybe_expr_tokens e ++ semicolon) → IsMaybeExpr e
    → maybe_expr_height e ≤ n → PlainBegun n ts vs)
    → Falls (PlainBegun n ts) (then_read (maybe_before b.exprs.expression marks.Semicolon us)
    (λ e vs. then_read (read_mark marks.Semicolon vs) (λ c ws. Found (make e c) ws)))
right_value n b sb r ts us make made =
    falls_then (SoundMaybe 16 n us) (MaybeBegun 16 n us) (PlainBegun n ts)
    (maybe_before b.exprs.expression marks.Semicolon us) _
    (sound_maybe 16 n b.exprs.expression sb.exprs.expression marks.Semicolon us)
    (right_maybe 16 n b.exprs.expression r.exprs.expression marks.Semicolon us)
    (λ vs (e, swap, (fits, low)). made e vs (s_app semicolon swap) (maybe_is e fits) low) (λ e vs f.
    falls_mark (PlainBegun n ts) marks.Semicolon vs _
    (made e vs (s_eq f.tokens (s_left (maybe_expr_tokens e) (s_here refl))) (maybe_is e f.fits) f.low)
    (λ c ws g. tt))

right_statement : (n : ℕ) (b : Below) → SoundBelow n b → RightBelow n b → (ts : List Token)
    → Falls (PlainBegun n ts) (read_statement b ts)
right_statement n b sb r ts = blocks (take_mark marks.LeftBrace ts) (mark_taken marks.LeftBrace ts)
  where
    move : (us : List Token) (x : Reads Stmt) → ts ≡ us → Falls (PlainBegun n us) x → Falls (PlainBegun n ts) x
    move us x e h = subst (λ xs. Falls (PlainBegun n xs) x) (sym e) h

    returns : (o : Takes Span) → HoldsTaken (λ at us. ts ≡ word words.Return at ∷ us) o
        → Falls (PlainBegun n ts) (or_return b o ts)
    returns (Some (at, us)) h = right_value n b sb r ts us (λ e c. Return at e c)
        (λ e vs swap is low. (Return at e here, s_eq h (s_cons swap), (is, tt, omega (arith, low))))
    returns None h = right_value n b sb r ts ts (λ e c. Simple e c)
        (λ e vs swap is low. (Simple e here, swap, (is, tt, omega (arith, low))))

    continues : (o : Takes Span) → HoldsTaken (λ at us. ts ≡ word words.Continue at ∷ us) o
        → Falls (PlainBegun n ts) (or_continue b o ts)
    continues (Some (at, us)) h = falls_mark (PlainBegun n ts) marks.Semicolon us _
        (Continue at here, s_eq h (s_cons (s_here refl)), (tt, tt, omega arith)) (λ c vs g. tt)
    continues None h = returns (take_word words.Return ts) (word_taken words.Return ts)

    breaks : (o : Takes Span) → HoldsTaken (λ at us. ts ≡ word words.Break at ∷ us) o
        → Falls (PlainBegun n ts) (or_break b o ts)
    breaks (Some (at, us)) h = falls_mark (PlainBegun n ts) marks.Semicolon us _
        (Break at here, s_eq h (s_cons (s_here refl)), (tt, tt, omega arith)) (λ c vs g. tt)
    breaks None h = continues (take_word words.Continue ts) (word_taken words.Continue ts)

    switches : (o : Takes Span) → HoldsTaken (λ at us. ts ≡ word words.Switch at ∷ us) o
        → Falls (PlainBegun n ts) (or_switch b o ts)
    switches (Some (at, us)) h = move (word words.Switch at ∷ us) (switch_behind b at us) h
        (right_switch n b sb r at us)
    switches None h = breaks (take_word words.Break ts) (word_taken words.Break ts)

    fors : (o : Takes Span) → HoldsTaken (λ at us. ts ≡ word words.For at ∷ us) o
        → Falls (PlainBegun n ts) (or_for b o ts)
    fors (Some (at, us)) h = move (word words.For at ∷ us) (for_behind b at us) h (right_for n b sb r at us)
    fors None h = switches (take_word words.Switch ts) (word_taken words.Switch ts)

    dos : (o : Takes Span) → HoldsTaken (λ at us. ts ≡ word words.Do at ∷ us) o
        → Falls (PlainBegun n ts) (or_do b o ts)
    dos (Some (at, us)) h = move (word words.Do at ∷ us) (do_behind b at us) h (right_do n b sb r at us)
    dos None h = fors (take_word words.For ts) (word_taken words.For ts)

    whiles : (o : Takes Span) → HoldsTaken (λ at us. ts ≡ word words.While at ∷ us) o
        → Falls (PlainBegun n ts) (or_while b o ts)
    whiles (Some (at, us)) h = move (word words.While at ∷ us) (while_behind b at us) h (right_while n b sb r at us)
    whiles None h = dos (take_word words.Do ts) (word_taken words.Do ts)

    ifs : (o : Takes Span) → HoldsTaken (λ at us. ts ≡ word words.If at ∷ us) o
        → Falls (PlainBegun n ts) (or_if b o ts)
    ifs (Some (at, us)) h = move (word words.If at ∷ us) (if_behind b at us) h (right_if n b sb r at us)
    ifs None h = whiles (take_word words.While ts) (word_taken words.While ts)

    blocks : (o : Takes Span) → HoldsTaken (λ at us. ts ≡ mark marks.LeftBrace at ∷ us) o
        → Falls (PlainBegun n ts) (or_block b o ts)
    blocks (Some (o, us)) h = move (mark marks.LeftBrace o ∷ us) (block_behind b o us) h (right_block n b sb r o us)
    blocks None h = ifs (take_word words.If ts) (word_taken words.If ts)

-- ---- block items and labels

right_item : (n : ℕ) (b : Below) → SoundBelow n b → RightBelow n b → (ts : List Token)
    → Falls (StmtBegun IsBlockItem (suc n) ts) (read_block_item (read_declaration b.exprs) (read_statement b) ts)
right_item n b sb r ts = under (take_specifiers ts).0
  where
    plain_begun : (us : List Token) → PlainBegun n ts us → StmtBegun IsBlockItem (suc n) ts us
    plain_begun us (s, swap, (is, plain, low)) = (s, swap, (is, plain_item s plain, low))

    declares : (us : List Token) → DeclarationBegun (suc n) ts us → StmtBegun IsBlockItem (suc n) ts us
    declares us (d, swap, (is, low)) = (Declared d, swap, (is, tt, low))

    under : (ss : List Specifier) → Falls (StmtBegun IsBlockItem (suc n) ts)
        (item_with (read_declaration b.exprs) (read_statement b) ss ts)
    under [] = falls_map (PlainBegun n ts) (StmtBegun IsBlockItem (suc n) ts) (read_statement b ts) plain_begun
        (right_statement n b sb r ts)
    under (s ∷ ss) = falls_last (DeclarationBegun (suc n) ts) (StmtBegun IsBlockItem (suc n) ts)
        (read_declaration b.exprs ts) _ (right_declaration n b.exprs sb.exprs r.exprs ts) declares

abbrev LabelsLow : ℕ → List LabelTree → Type 0
LabelsLow h ls = AllByRecursion IsLabel ls × (greatest label_height ls ≤ h)

abbrev LabelsBegun : ℕ → List Token → List Token → Type 0
LabelsBegun h ts us = Begun labels_tokens (LabelsLow h) ts us

right_labels : (h : ℕ) (read : Reader) → 1 ≤ h → SoundReader 14 h read → RightReader 14 h read → (ts : List Token)
    → Falls (LabelsBegun h ts) (read_labels read ts)
right_labels h read high reads rights ts =
    falls_chain (SoundLabels h ts) (LabelsBegun h ts) (label_step read)
    (λ a us s. label_keeps h read reads ts a us s)
    (λ a us s. cases a us s (take_word words.Case us) (word_taken words.Case us))
    (λ a us s. (a, s_all s.tokens, (s.all, s.low))) (length ts) [] ts
    (record { tokens = refl; all = tt; low = omega arith })
  where
    defaults : (a : List LabelTree) (us : List Token) → SoundLabels h ts a us → (o : Takes Span)
        → HoldsTaken (λ at vs. us ≡ word words.Default at ∷ vs) o → FallsStep (LabelsBegun h ts) (default_at a o)
    defaults a us s None f = tt
    defaults a us s (Some (at, vs)) f =
        step_falls_mark (LabelsBegun h ts) marks.Colon vs _ (
          a ++ Default at here ∷ [],
          s_to (sym (labels_push a (Default at here))) (s_eq s.tokens (s_left (labels_tokens a)
              (s_eq f (s_cons (s_here refl))))),
          (all-push IsLabel a (Default at here) s.all tt, omega (arith, labels_low a (Default at here), s.low)),
        )
        (λ c ws g. tt)

    valued : (a : List LabelTree) (us : List Token) → SoundLabels h ts a us → (at : Span) (vs : List Token)
        → us ≡ word words.Case at ∷ vs → (ws : List Token) → ExprBegun 14 h vs ws → LabelsBegun h ts ws
    valued a us s at vs f ws (e, swap, (is, loose, low)) = (
      a ++ Case at e here ∷ [],
      s_to (sym (labels_push a (Case at e here))) (s_eq s.tokens (s_left (labels_tokens a)
          (s_eq f (s_cons (s_app (mark marks.Colon here ∷ []) swap))))),
      (all-push IsLabel a (Case at e here) s.all (is, loose), omega (arith, labels_low a (Case at e here), s.low, low)),
    )

    cases : (a : List LabelTree) (us : List Token) → SoundLabels h ts a us → (o : Takes Span)
        → HoldsTaken (λ at vs. us ≡ word words.Case at ∷ vs) o → FallsStep (LabelsBegun h ts) (label_at read a o us)
    cases a us s None f = defaults a us s (take_word words.Default us) (word_taken words.Default us)
    cases a us s (Some (at, vs)) f =
        step_falls_then (Sound 14 h vs) (ExprStarts 14 h vs) (LabelsBegun h ts) (read vs) _ (reads vs) (rights vs)
        (λ ws g. valued a us s at vs f ws (begun 14 h vs ws high g)) (λ e ws g.
        step_falls_mark (LabelsBegun h ts) marks.Colon ws _
        (valued a us s at vs f ws (e, s_all g.tokens, (g.is, g.loose, g.low))) (λ c xs i. tt))

right_labelled : (n : ℕ) (b : Below) → SoundBelow n b → RightBelow n b → (x : Readers) → SoundReaders (suc n) x
    → RightReaders (suc n) x → (ts : List Token)
    → Falls (StmtBegun IsCase (suc n) ts) (read_labelled x.conditional (read_statement b) ts)
right_labelled n b sb r x sx rx ts =
    falls_then (SoundLabels (suc n) ts) (LabelsBegun (suc n) ts) (StmtBegun IsCase (suc n) ts)
    (read_labels x.conditional ts) _ (sound_labels (suc n) x.conditional sx.conditional ts)
    (right_labels (suc n) x.conditional (omega arith) sx.conditional rx.conditional ts)
    (λ us (ls, swap, (all, low)). (Labelled ls empty, s_app semicolon swap, ((all, tt, tt), tt, omega (arith, low))))
    (λ ls us f.
    falls_last (PlainBegun n us) (StmtBegun IsCase (suc n) ts) (read_statement b us) _ (right_statement n b sb r us)
    (λ vs (s, swap, (is, plain, low)). (
      Labelled ls s,
      s_eq f.tokens (s_left (labels_tokens ls) swap),
      ((f.all, is, plain), tt, omega (arith, f.low, low)),
    )))

-- ---- by height

no_item_falls : {A : Type 0} (tokens : A → List Token) (P : A → Type 0) (ts : List Token)
    → Falls {A = A} (Starts tokens P ts) (no_item ts)
no_item_falls tokens P [] = inl refl
no_item_falls tokens P (t ∷ ts) = inl refl

none_right : RightBelow 0 nothing_below
none_right =
    record {
      exprs = (let P : Readers → Type 0 = λ x. RightReaders 0 x in subst P readers-none (right 0));
      declaration = λ ts. no_item_falls _ _ ts;
      statement = λ ts. no_item_falls _ _ ts;
      item = λ ts. no_item_falls _ _ ts;
      labelled = λ ts. no_item_falls _ _ ts;
    }

starts : {A : Type 0} (tokens : A → List Token) (P : A → Type 0) (ts : List Token) (r : Reads A)
    → Falls (Begun tokens P ts) r → Falls (Starts tokens P ts) r
starts tokens P ts r f = falls_map (Begun tokens P ts) (Starts tokens P ts) r (λ us g. inr g) f

right_below : (height : ℕ) → RightBelow height (below_of height)
right_below zero =
    (let P : Below → Type 0 = λ x. RightBelow 0 x in
    subst P (sym below_of-none) none_right)
right_below (suc n) =
    (let sb = sound_below n in
    let r = right_below n in
    let b : Below = below_of n in
    let all : RightBelow (suc n) (below_over (suc n) b) = record {
      exprs = right (suc n);
      declaration = λ ts. starts declaration_tokens (IsLowDeclaration (suc n)) ts (read_declaration b.exprs ts)
          (right_declaration n b.exprs sb.exprs r.exprs ts);
      statement = λ ts. starts stmt_tokens (StmtLow IsPlain (suc n)) ts (read_statement b ts)
          (right_statement n b sb r ts);
      item = λ ts. starts stmt_tokens (StmtLow IsBlockItem (suc n)) ts
          (read_block_item (read_declaration b.exprs) (read_statement b) ts) (right_item n b sb r ts);
      labelled = λ ts. starts stmt_tokens (StmtLow IsCase (suc n)) ts
          (read_labelled (readers (suc n)).conditional (read_statement b) ts)
          (right_labelled n b sb r (readers (suc n)) (sound (suc n)) (right (suc n)) ts);
    } in
    let P : Below → Type 0 = λ x. RightBelow (suc n) x in
    subst P (sym (below_of-suc n)) all)

-- ---- units

abbrev ExternalBegun : ℕ → List Token → List Token → Type 0
ExternalBegun h ts us = Begun external_tokens (IsLowExternal h) ts us

external_of : (h : ℕ) (ts us : List Token) → DeclarationBegun h ts us → ExternalBegun h ts us
external_of h ts us (d, swap, p) = (DeclaredTree d, swap, p)

-- a mark that comes first, whatever is behind it
first_mark : (m : Punct) (x : Token) (us vs : List Token) (p : Span × List Token) → take_mark m (x ∷ us) ≡ Some p
    → take_mark m (x ∷ vs) ≡ Some (x.at, vs)
first_mark m x us vs p e = by (is_mark m x.kind) e
  where
    front : Bool → List Token → Takes Span
    front c xs = if c then Some (x.at, xs) else None

    by : (c : Bool) → front c us ≡ Some p → front c vs ≡ Some (x.at, vs)
    by true f = refl
    by false f = absurd (let wrong : None ≡ Some p = f in cc)

right_external : (n : ℕ) (b : Below) → SoundBelow n b → RightBelow n b → (ts : List Token)
    → Falls (ExternalBegun (suc n) ts) (read_external b ts)
right_external n b sb r ts = under (take_specifiers ts).0 (take_specifiers ts).1 (specifiers_taken ts)
  where
    declared : (ss : List Specifier) (us : List Token) → IsSpecifiers ss → ts ≡ specifiers_tokens ss ++ us
        → (d : DeclaratorTree) (vs : List Token) → One declarator_tokens (IsLowDeclarator n) us d vs
        → Falls (ExternalBegun (suc n) ts)
        (then_read (declaration_behind b.exprs ss d vs) (λ x ws. Found (DeclaredTree x) ws))
    declared ss us is h d vs g =
        falls_last (DeclarationBegun (suc n) ts) (ExternalBegun (suc n) ts) (declaration_behind b.exprs ss d vs) _
        (right_declaration_behind n b.exprs sb.exprs r.exprs ts ss us d vs is h g)
        (λ ws k. external_of (suc n) ts ws k)

    -- a declaration, where the block doesn't begin
    no_block : (ss : List Specifier) (us : List Token) → IsSpecifiers ss → ts ≡ specifiers_tokens ss ++ us
        → (d : DeclaratorTree) (vs : List Token) → One declarator_tokens (IsLowDeclarator n) us d vs
        → (zs : List Token) → vs ≡ zs → ExternalBegun (suc n) ts zs
    no_block ss us is h d vs g zs e = external_of (suc n) ts zs (declared_begun n ts ss us zs is h
        (d, s_all (g.0 ∙ ap (λ xs. declarator_tokens d ++ xs) e), g.1))

    in_block : (ss : List Specifier) (us : List Token) → IsSpecifiers ss → ts ≡ specifiers_tokens ss ++ us
        → (d : DeclaratorTree) (vs : List Token) → One declarator_tokens (IsLowDeclarator n) us d vs
        → has_parameters d.part ≡ true → (p : Span × List Token) → take_mark marks.LeftBrace vs ≡ Some p
        → (zs : List Token) (s : Stmt) → StmtLow IsPlain n s → (before after : List Token) → vs ≡ before ++ zs
        → stmt_tokens s ≡ before ++ after → ExternalBegun (suc n) ts zs
    in_block ss us is h d vs g e p f zs s low [] after same are = no_block ss us is h d vs g zs same
    in_block ss us is h d vs g e p f zs s (is_stmt, plain, low) (x ∷ xs) after same are =
        (let first : take_mark marks.LeftBrace (x ∷ (xs ++ zs)) ≡ Some p =
        ap (take_mark marks.LeftBrace) (sym same) ∙ f in
        let again : take_mark marks.LeftBrace (stmt_tokens s ++ []) ≡ Some (x.at, (xs ++ after) ++ []) =
        ap (λ ys. take_mark marks.LeftBrace (ys ++ [])) are
        ∙ first_mark marks.LeftBrace x (xs ++ zs) ((xs ++ after) ++ []) p first in (
          FunctionTree ss d s,
          s_eq h (s_left (specifiers_tokens ss) (s_eq g.0 (s_left (declarator_tokens d)
              (record { before = x ∷ xs; same = same; after = after; is = are })))),
          (
            (is, g.1.0, has_part d.part e, is_stmt, block_alone s [] (x.at, (xs ++ after) ++ []) is_stmt plain again),
            omega (arith, g.1.1, low),
          ),
        ))

    block_begun : (ss : List Specifier) (us : List Token) → IsSpecifiers ss → ts ≡ specifiers_tokens ss ++ us
        → (d : DeclaratorTree) (vs : List Token) → One declarator_tokens (IsLowDeclarator n) us d vs
        → has_parameters d.part ≡ true → (p : Span × List Token) → take_mark marks.LeftBrace vs ≡ Some p
        → (zs : List Token) → StmtStarts IsPlain n vs zs → ExternalBegun (suc n) ts zs
    block_begun ss us is h d vs g e p f zs (inl same) = no_block ss us is h d vs g zs same
    block_begun ss us is h d vs g e p f zs (inr (s, swap, low)) =
        in_block ss us is h d vs g e p f zs s low swap.before swap.after swap.same swap.is

    by_part : (ss : List Specifier) (us : List Token) → IsSpecifiers ss → ts ≡ specifiers_tokens ss ++ us
        → (d : DeclaratorTree) (vs : List Token) → One declarator_tokens (IsLowDeclarator n) us d vs → (x : Bool)
        → has_parameters d.part ≡ x → (o : Takes Span) → take_mark marks.LeftBrace vs ≡ o
        → Falls (ExternalBegun (suc n) ts) (external_from b ss d x o vs)
    by_part ss us is h d vs g false e o f = declared ss us is h d vs g
    by_part ss us is h d vs g true e None f = declared ss us is h d vs g
    by_part ss us is h d vs g true e (Some p) f =
        falls_last (StmtStarts IsPlain n vs) (ExternalBegun (suc n) ts) (b.statement vs) _ (r.statement vs)
        (λ zs k. block_begun ss us is h d vs g e p f zs k)

    under : (ss : List Specifier) (us : List Token) → ts ≡ specifiers_tokens ss ++ us
        → Falls (ExternalBegun (suc n) ts) (external_with b ss us)
    under [] us h = external_of (suc n) ts us (no_declaration n ts us h)
    under (s ∷ ss) us h =
        falls_then (One declarator_tokens (IsLowDeclarator n) us) (DeclaratorBegun n us) (ExternalBegun (suc n) ts)
        (read_declarator b.exprs us) _ (sound_declarator n b.exprs sb.exprs us)
        (right_declarator n b.exprs sb.exprs r.exprs us)
        (λ vs g. external_of (suc n) ts vs (declared_begun n ts (s ∷ ss) us vs tt h g)) (λ d vs g.
        by_part (s ∷ ss) us tt h d vs g (has_parameters d.part) refl (take_mark marks.LeftBrace vs) refl)

abbrev UnitLow : ℕ → List ExternalTree → Type 0
UnitLow h es = AllByRecursion IsExternal es × (greatest external_height es ≤ h)

abbrev UnitBegun : ℕ → List Token → List Token → Type 0
UnitBegun h ts us = Begun unit_tokens (UnitLow h) ts us

unit_falls : (n : ℕ) (b : Below) → SoundBelow n b → RightBelow n b → (ts : List Token) (a : List ExternalTree)
    (us : List Token) → SoundUnit (suc n) ts a us → FallsStep (UnitBegun (suc n) ts) (unit_step b a us)
unit_falls n b sb r ts a [] s = tt
unit_falls n b sb r ts a (t ∷ us) s =
    step_falls_then (One external_tokens (IsLowExternal (suc n)) (t ∷ us)) (ExternalBegun (suc n) (t ∷ us))
    (UnitBegun (suc n) ts) (read_external b (t ∷ us)) _ (sound_external n b sb (t ∷ us))
    (right_external n b sb r (t ∷ us)) (λ vs (e, swap, (is, low)). (
      a ++ e ∷ [],
      s_to (sym (unit_push a e)) (s_eq s.tokens (s_left (unit_tokens a) swap)),
      (all-push IsExternal a e s.all is, omega (arith, unit_low a e, s.low, low)),
    ))
    (λ e vs g. tt)

unit_right : (n : ℕ) (ts : List Token) → Falls (UnitBegun (suc n) ts) (read_unit (below_of n) ts)
unit_right n ts = falls_chain (SoundUnit (suc n) ts) (UnitBegun (suc n) ts) (unit_step (below_of n))
    (λ a us s. sound_unit_step n (below_of n) (sound_below n) ts a us s)
    (λ a us s. unit_falls n (below_of n) (sound_below n) (right_below n) ts a us s)
    (λ a us s. (a, s_all s.tokens, (s.all, s.low))) (length ts) [] ts
    (record { tokens = refl; all = tt; low = omega arith })

-- the tokens before a fault begin a program
pub begins_program : (n : ℕ) (ts : List Token) (deep : Bool) (us : List Token)
    → read_unit (below_of n) ts ≡ Faults deep us
    → (before : List Token) × (ts ≡ before ++ us) × Begins (suc n) before
begins_program n ts deep us e =
    of_begun (subst (λ x. Falls (UnitBegun (suc n) ts) x) e (unit_right n ts))
  where
    of_begun : UnitBegun (suc n) ts us → (before : List Token) × (ts ≡ before ++ us) × Begins (suc n) before
    of_begun (es, swap, (all, low)) = (
      swap.before,
      swap.same,
      (
        swap.after,
        greatest external_height es,
        es,
        low,
        record { is = all; tokens_are = sym swap.is; height_is = refl },
      ),
    )
