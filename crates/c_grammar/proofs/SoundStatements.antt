-- What is read of statements and of a unit is a tree of the rule, of exactly the tokens taken.
use Rattle.std.specs.List.{AllByRecursion}
use Rattle.std.proofs.Common.{◌≡◌, ℕ, zero, suc, ◌≤◌, max, Bool, true, false, List, [], ◌∷◌, ◌++◌, length, Option, Some}
use Rattle.std.proofs.Common.{None, refl, ap, sym, ◌∙◌, subst, arith, append_assoc}
use Rattle.std.proofs.lemmas.List.{append-nil}
use Rattle.pcc_base.specs.declared.span.Span.{Span}
use Rattle.pcc_base.specs.declared.keyword.Keyword.TheVariants as words
use Rattle.pcc_base.proofs.Lists.{all-push}
use Rattle.c_lex.specs.declared.token.Token.{Token}
use Rattle.c_lex.specs.declared.token.Punct.TheVariants as marks
use Rattle.c_syntax.specs.declared.expression.Specifier.{Specifier}
use Rattle.c_syntax.specs.Marks.{mark, word}
use Rattle.c_syntax.specs.Expressions.{Expr}
use Rattle.c_syntax.specs.ExpressionTokens.{expr_tokens, expr_height, IsExpr, IsSpecifiers, specifiers_tokens}
use Rattle.c_syntax.specs.Declarations.{DeclaratorTree, PartTree, Plain, Array, Function}
use Rattle.c_syntax.specs.DeclarationTokens.{maybe_expr_tokens, maybe_expr_height, declaration_tokens}
use Rattle.c_syntax.specs.DeclarationTokens.{declarator_tokens, greatest}
use Rattle.c_syntax.specs.Statements.{LabelTree, Case, Default, Stmt, Declared, Labelled, Block, Simple, If, IfElse}
use Rattle.c_syntax.specs.Statements.{Switch, While, Do, For, ForDeclaration, Break, Continue, Return, stmts_of}
use Rattle.c_syntax.specs.Statements.{ExternalTree, DeclaredTree}
use Rattle.c_syntax.specs.StatementTokens.{label_tokens, labels_tokens, in_parens, stmt_tokens, stmts_tokens}
use Rattle.c_syntax.specs.StatementTokens.{label_height, stmt_height, stmts_height, ends_open, IsMaybeExpr, IsLabel}
use Rattle.c_syntax.specs.StatementTokens.{IsPlain, IsBlockItem, IsCase, IsStmt, AreItems, AreCases}
use Rattle.c_syntax.specs.Grammar.{external_tokens, unit_tokens, external_height, HasParameters, IsBlock, IsExternal}
use Rattle.c_syntax.specs.Grammar.{Tree}
use Rattle.c_grammar.specs.Chains.{Takes, Reads, Found, Faults, then_read}
use Rattle.c_grammar.specs.Taking.{take_mark, take_word, take_specifiers}
use Rattle.c_grammar.specs.Taking.{read_mark, read_word}
use Rattle.c_grammar.specs.Reading.{Reader, Readers, readers}
use Rattle.c_grammar.proofs.Reading.{readers-none}
use Rattle.c_grammar.proofs.Heads.{expression_no_mark}
use Rattle.c_grammar.proofs.Sound.{Holds, HoldsTaken, HoldsStep, holds_then, holds_above, step_then, holds_chain, mark_taken, word_taken}
use Rattle.c_grammar.proofs.Sound.{mark_read, word_read}
use Rattle.c_grammar.proofs.Sound.{specifiers_taken, Sound, SoundReader, SoundReaders, sound}
use Rattle.c_grammar.proofs.SoundDeclarations.{One, MaybeIs, SoundMaybe, sound_maybe, IsLowDeclarator, sound_declarator}
use Rattle.c_grammar.proofs.SoundDeclarations.{IsLowDeclaration, sound_declaration_behind, sound_declaration}
use Rattle.c_grammar.specs.DeclarationReading.{maybe_before, read_declarator, declaration_behind, read_declaration}
use Rattle.c_grammar.specs.StatementReading.{StmtReader, Below, no_item, nothing_below, below_of, below_over, Condition, read_condition}
use Rattle.c_grammar.specs.StatementReading.{until_at, until_step, read_until, default_at, label_at, label_step}
use Rattle.c_grammar.specs.StatementReading.{read_labels, read_labelled, item_with, read_block_item, block_behind}
use Rattle.c_grammar.specs.StatementReading.{else_from, if_behind, while_behind, do_behind, ForRest, read_for_rest}
use Rattle.c_grammar.specs.StatementReading.{for_with, for_behind, switch_behind, or_return, or_continue, or_break}
use Rattle.c_grammar.specs.StatementReading.{or_switch, or_for, or_do, or_while, or_if, or_block, read_statement}
use Rattle.c_grammar.specs.StatementReading.{has_parameters, external_from, external_with, read_external, unit_step}
use Rattle.c_grammar.specs.StatementReading.{read_unit}
use Rattle.c_grammar.proofs.StatementReading.{below_of-suc, below_of-none}

-- a statement of a kind, so high at most; where it ends in an open `if`, no `else` comes next
pub record SoundStmt (K : Stmt → Type 0) (h : ℕ) (ts : List Token) (s : Stmt) (us : List Token) : Type 0 where
  pub tokens : ts ≡ stmt_tokens s ++ us
  pub is : IsStmt s
  pub kind : K s
  pub low : stmt_height s ≤ h
  pub no_else : ends_open s ≡ true → take_word words.Else us ≡ None

abbrev pub SoundStatements : (Stmt → Type 0) → ℕ → StmtReader → Type 0
SoundStatements K h read = (ts : List Token) → Holds (SoundStmt K h ts) (read ts)

pub record SoundBelow (h : ℕ) (b : Below) : Type 0 where
  pub exprs : SoundReaders h b.exprs
  pub declaration : (ts : List Token) → Holds (One declaration_tokens (IsLowDeclaration h) ts) (b.declaration ts)
  pub statement : SoundStatements IsPlain h b.statement
  pub item : SoundStatements IsBlockItem h b.item
  pub labelled : SoundStatements IsCase h b.labelled

never : {A : Type 0} → false ≡ true → A
never {A} e = absurd (let wrong : false ≡ true = e in cc)

-- ---- parts

pub record SoundCondition (h : ℕ) (ts : List Token) (k : Condition) (us : List Token) : Type 0 where
  pub tokens : ts ≡ in_parens k.0 k.1 k.2 us
  pub is : IsExpr k.1
  pub low : expr_height k.1 ≤ h

pub sound_condition : (n : ℕ) (b : Below) → SoundBelow n b → (ts : List Token)
    → Holds (SoundCondition n ts) (read_condition b ts)
sound_condition n b sb ts =
    holds_then (λ o us. ts ≡ mark marks.LeftParen o ∷ us) (SoundCondition n ts) (read_mark marks.LeftParen ts) _
    (mark_read marks.LeftParen ts) (λ o us f.
    holds_then (Sound 16 n us) (SoundCondition n ts) (b.exprs.expression us) _ (sb.exprs.expression us) (λ e vs s.
    holds_then (λ c ws. vs ≡ mark marks.RightParen c ∷ ws) (SoundCondition n ts) (read_mark marks.RightParen vs) _
    (mark_read marks.RightParen vs) (λ c ws g.
    record {
      tokens = f ∙ ap (λ zs. mark marks.LeftParen o ∷ zs) (s.tokens ∙ ap (λ zs. expr_tokens e ++ zs) g);
      is =
          s.is;
      low = s.low;
    })))

-- what stands behind parentheses
pub behind_parens : (o : Span) (e : Expr) (c : Span) (xs ys : List Token) → in_parens o e c (xs ++ ys)
    ≡ in_parens o e c xs ++ ys
behind_parens o e c xs ys = ap (λ zs. mark marks.LeftParen o ∷ zs)
    (sym (append_assoc (expr_tokens e) (mark marks.RightParen c ∷ xs) ys))

pub maybe_is : (e : Option Expr) → MaybeIs 16 e → IsMaybeExpr e
maybe_is None is = tt
maybe_is (Some e) is = is.0

-- ---- rows of statements

abbrev pub AllStmts : (Stmt → Type 0) → List Stmt → Type 0
AllStmts K [] = Unit {0}
AllStmts K (s ∷ ss) = IsStmt s × K s × AllStmts K ss

pub record SoundRow (K : Stmt → Type 0) (h : ℕ) (ts : List Token) (ss : List Stmt) (us : List Token) : Type 0 where
  pub tokens : ts ≡ stmts_tokens (stmts_of ss) ++ us
  pub all : AllStmts K ss
  pub low : stmts_height (stmts_of ss) ≤ h

pub row_tokens : (ss : List Stmt) (s : Stmt) → stmts_tokens (stmts_of (ss ++ s ∷ []))
    ≡ stmts_tokens (stmts_of ss) ++ stmt_tokens s
row_tokens [] s = append-nil (stmt_tokens s)
row_tokens (x ∷ xs) s = ap (λ zs. stmt_tokens x ++ zs) (row_tokens xs s)
    ∙ sym (append_assoc (stmt_tokens x) (stmts_tokens (stmts_of xs)) (stmt_tokens s))

pub row_height : (ss : List Stmt) (s : Stmt) → stmts_height (stmts_of (ss ++ s ∷ []))
    ≡ max (stmts_height (stmts_of ss)) (stmt_height s)
row_height [] s = omega arith
row_height (x ∷ xs) s = omega (arith, row_height xs s)

pub row_all : (K : Stmt → Type 0) (ss : List Stmt) (s : Stmt) → AllStmts K ss → IsStmt s → K s → AllStmts K (ss ++ s ∷ [])
row_all K [] s all is k = (is, k, tt)
row_all K (x ∷ xs) s all is k = (all.0, all.1, row_all K xs s all.2 is k)

-- one more statement
pub row_keeps : (K : Stmt → Type 0) (h : ℕ) (read : StmtReader) → SoundStatements K h read → (ts : List Token)
    (a : List Stmt) (us : List Token) → SoundRow K h ts a us → HoldsStep (SoundRow K h ts) (until_step read a us)
row_keeps K h read reads ts a us s = turn (take_mark marks.RightBrace us)
  where
    turn : (o : Takes Span) → HoldsStep (SoundRow K h ts) (until_at read a o us)
    turn (Some close) = tt
    turn None =
        step_then (SoundStmt K h us) (SoundRow K h ts) (read us) _ (reads us) (λ x vs g.
        record {
          tokens = s.tokens ∙ (ap (λ zs. stmts_tokens (stmts_of a) ++ zs) g.tokens
              ∙ (sym (append_assoc (stmts_tokens (stmts_of a)) (stmt_tokens x) vs)
              ∙ ap (λ zs. zs ++ vs) (sym (row_tokens a x))));
          all = row_all K a x s.all g.is g.kind;
          low = omega (arith, row_height a x, s.low, g.low);
        })

pub sound_row : (K : Stmt → Type 0) (h : ℕ) (read : StmtReader) → SoundStatements K h read → (ts : List Token)
    → Holds (SoundRow K h ts) (read_until read ts)
sound_row K h read reads ts = holds_chain (SoundRow K h ts) (until_step read)
    (λ a us s. row_keeps K h read reads ts a us s) (length ts) []
    ts (record { tokens = refl; all = tt; low = omega arith })

pub items_are : (ss : List Stmt) → AllStmts IsBlockItem ss → AreItems (stmts_of ss)
items_are [] all = tt
items_are (s ∷ ss) all = (all.0, all.1, items_are ss all.2)

pub cases_are : (ss : List Stmt) → AllStmts IsCase ss → AreCases (stmts_of ss)
cases_are [] all = tt
cases_are (s ∷ ss) all = (all.0, all.1, cases_are ss all.2)

-- ---- statements

abbrev pub PlainStmt : ℕ → List Token → Stmt → List Token → Type 0
PlainStmt n ts s us = SoundStmt IsPlain (suc n) ts s us

pub sound_block : (n : ℕ) (b : Below) → SoundBelow n b → (o : Span) (ts : List Token)
    → Holds (PlainStmt n (mark marks.LeftBrace o ∷ ts)) (block_behind b o ts)
sound_block n b sb o ts =
    holds_then (SoundRow IsBlockItem n ts) (PlainStmt n (mark marks.LeftBrace o ∷ ts)) (read_until b.item ts) _
    (sound_row IsBlockItem n b.item sb.item ts) (λ ss us s.
    holds_then (λ c vs. us ≡ mark marks.RightBrace c ∷ vs) (PlainStmt n (mark marks.LeftBrace o ∷ ts))
    (read_mark marks.RightBrace us) _ (mark_read marks.RightBrace us) (λ c vs g.
    record {
      tokens = ap (λ zs. mark marks.LeftBrace o ∷ zs)
          (s.tokens ∙ (ap (λ zs. stmts_tokens (stmts_of ss) ++ zs) g
          ∙ sym (append_assoc (stmts_tokens (stmts_of ss)) (mark marks.RightBrace c ∷ []) vs)));
      is = items_are ss s.all;
      kind = tt;
      low = omega (arith, s.low);
      no_else = λ e. never e;
    }))

-- where an `else` comes next, no statement before it ends in an open `if`
pub not_open : (x : Bool) (r : Takes Span) (p : Span × List Token) → r ≡ Some p → (x ≡ true → r ≡ None) → x ≡ false
not_open false r p e h = refl
not_open true r p e h = absurd (let wrong : Some p ≡ None = sym e ∙ h refl in cc)

pub sound_if : (n : ℕ) (b : Below) → SoundBelow n b → (at : Span) (ts : List Token)
    → Holds (PlainStmt n (word words.If at ∷ ts)) (if_behind b at ts)
sound_if n b sb at ts =
    holds_above (SoundCondition n ts) (PlainStmt n (word words.If at ∷ ts)) 0 b.exprs.height _ ts
    (read_condition b ts) _ (sound_condition n b sb ts) (λ k us some f.
    holds_then (SoundStmt IsPlain n us) (PlainStmt n (word words.If at ∷ ts)) (b.statement us) _ (sb.statement us)
    (λ s vs g. under k us f s vs g (take_word words.Else vs) refl (word_taken words.Else vs)))
  where
    under : (k : Condition) (us : List Token) → SoundCondition n ts k us → (s : Stmt) (vs : List Token)
        → SoundStmt IsPlain n us s vs → (o : Takes Span) → take_word words.Else vs ≡ o
        → HoldsTaken (λ at ws. vs ≡ word words.Else at ∷ ws) o →
        Holds (PlainStmt n (word words.If at ∷ ts)) (else_from b at k s o vs)
    under k us f s vs g None e h =
        record {
          tokens = ap (λ zs. word words.If at ∷ zs)
              (f.tokens ∙ (ap (in_parens k.0 k.1 k.2) g.tokens ∙ behind_parens k.0 k.1 k.2 (stmt_tokens s) vs));
          is = (f.is, g.is, g.kind);
          kind = tt;
          low = omega (arith, f.low, g.low);
          no_else = λ x. e;
        }
    under k us f s vs g (Some (otherwise, ws)) e h =
        holds_then (SoundStmt IsPlain n ws) (PlainStmt n (word words.If at ∷ ts)) (b.statement ws) _ (sb.statement ws)
        (λ t xs m.
        (let more : List Token = word words.Else otherwise ∷ stmt_tokens t in
        record {
          tokens = ap (λ zs. word words.If at ∷ zs)
              (f.tokens ∙ (ap (in_parens k.0 k.1 k.2)
              (g.tokens ∙ (ap (λ zs. stmt_tokens s ++ zs) (h ∙ ap (λ zs. word words.Else otherwise ∷ zs) m.tokens)
              ∙ sym (append_assoc (stmt_tokens s) more xs)))
              ∙ behind_parens k.0 k.1 k.2 (stmt_tokens s ++ more) xs));
          is = (
            f.is,
            g.is,
            g.kind,
            not_open (ends_open s) (take_word words.Else vs) (otherwise, ws) e g.no_else,
            m.is,
            m.kind,
          );
          kind = tt;
          low = omega (arith, f.low, g.low, m.low);
          no_else = m.no_else;
        }))

pub sound_while : (n : ℕ) (b : Below) → SoundBelow n b → (at : Span) (ts : List Token)
    → Holds (PlainStmt n (word words.While at ∷ ts)) (while_behind b at ts)
sound_while n b sb at ts =
    holds_above (SoundCondition n ts) (PlainStmt n (word words.While at ∷ ts)) 0 b.exprs.height _ ts
    (read_condition b ts) _ (sound_condition n b sb ts) (λ k us some f.
    holds_then (SoundStmt IsPlain n us) (PlainStmt n (word words.While at ∷ ts)) (b.statement us) _ (sb.statement us)
    (λ s vs g.
    record {
      tokens = ap (λ zs. word words.While at ∷ zs)
          (f.tokens ∙ (ap (in_parens k.0 k.1 k.2) g.tokens ∙ behind_parens k.0 k.1 k.2 (stmt_tokens s) vs));
      is = (f.is, g.is, g.kind);
      kind = tt;
      low = omega (arith, f.low, g.low);
      no_else = g.no_else;
    }))

pub sound_do : (n : ℕ) (b : Below) → SoundBelow n b → (at : Span) (ts : List Token)
    → Holds (PlainStmt n (word words.Do at ∷ ts)) (do_behind b at ts)
sound_do n b sb at ts =
    holds_above (SoundStmt IsPlain n ts) (PlainStmt n (word words.Do at ∷ ts)) 0 b.exprs.height _ ts (b.statement ts) _
    (sb.statement ts) (λ s us some g.
    holds_then (λ until vs. us ≡ word words.While until ∷ vs) (PlainStmt n (word words.Do at ∷ ts))
    (read_word words.While us) _ (word_read words.While us) (λ until vs h.
    holds_then (SoundCondition n vs) (PlainStmt n (word words.Do at ∷ ts)) (read_condition b vs) _
    (sound_condition n b sb vs) (λ k ws f.
    holds_then (λ c xs. ws ≡ mark marks.Semicolon c ∷ xs) (PlainStmt n (word words.Do at ∷ ts))
    (read_mark marks.Semicolon ws) _ (mark_read marks.Semicolon ws) (λ c xs m.
    (let more : List Token = word words.While until ∷ in_parens k.0 k.1 k.2 (mark marks.Semicolon c ∷ []) in
    record {
      tokens = ap (λ zs. word words.Do at ∷ zs)
          (g.tokens ∙ (ap (λ zs. stmt_tokens s ++ zs)
          (h ∙ ap (λ zs. word words.While until ∷ zs)
          (f.tokens ∙ (ap (in_parens k.0 k.1 k.2) m ∙ behind_parens k.0 k.1 k.2 (mark marks.Semicolon c ∷ []) xs)))
          ∙ sym (append_assoc (stmt_tokens s) more xs)));
      is = (g.is, g.kind, f.is);
      kind = tt;
      low = omega (arith, f.low, g.low);
      no_else = λ e. never e;
    })))))

-- the rest of a `for`
abbrev pub rest_tokens : ForRest → List Token
rest_tokens r = maybe_expr_tokens r.0 ++ mark marks.Semicolon r.1
    ∷ (maybe_expr_tokens r.2 ++ mark marks.RightParen r.3 ∷ stmt_tokens r.4)

pub record SoundRest (h : ℕ) (ts : List Token) (r : ForRest) (us : List Token) : Type 0 where
  pub tokens : ts ≡ rest_tokens r ++ us
  pub is_condition : IsMaybeExpr r.0
  pub is_step : IsMaybeExpr r.2
  pub is : IsStmt r.4
  pub plain : IsPlain r.4
  pub low : max (maybe_expr_height r.0) (max (maybe_expr_height r.2) (stmt_height r.4)) ≤ h
  pub no_else : ends_open r.4 ≡ true → take_word words.Else us ≡ None

pub sound_rest : (n : ℕ) (b : Below) → SoundBelow n b → (ts : List Token) → Holds (SoundRest n ts) (read_for_rest b ts)
sound_rest n b sb ts =
    holds_then (SoundMaybe 16 n ts) (SoundRest n ts) (maybe_before b.exprs.expression marks.Semicolon ts) _
    (sound_maybe 16 n b.exprs.expression sb.exprs.expression marks.Semicolon ts) (λ k us f.
    holds_then (λ at vs. us ≡ mark marks.Semicolon at ∷ vs) (SoundRest n ts) (read_mark marks.Semicolon us) _
    (mark_read marks.Semicolon us) (λ second vs g.
    holds_then (SoundMaybe 16 n vs) (SoundRest n ts) (maybe_before b.exprs.expression marks.RightParen vs) _
    (sound_maybe 16 n b.exprs.expression sb.exprs.expression marks.RightParen vs) (λ step ws h.
    holds_then (λ at xs. ws ≡ mark marks.RightParen at ∷ xs) (SoundRest n ts) (read_mark marks.RightParen ws) _
    (mark_read marks.RightParen ws) (λ c xs i.
    holds_then (SoundStmt IsPlain n xs) (SoundRest n ts) (b.statement xs) _ (sb.statement xs) (λ s ys j.
    (let tail : List Token = mark marks.RightParen c ∷ stmt_tokens s in
    record {
      tokens = f.tokens ∙ (ap (λ zs. maybe_expr_tokens k ++ zs)
          (g ∙ ap (λ zs. mark marks.Semicolon second ∷ zs)
          (h.tokens ∙ (ap (λ zs. maybe_expr_tokens step ++ zs) (i ∙ ap (λ zs. mark marks.RightParen c ∷ zs) j.tokens)
          ∙ sym (append_assoc (maybe_expr_tokens step) tail ys))))
          ∙ sym (append_assoc (maybe_expr_tokens k) (mark marks.Semicolon second ∷ (maybe_expr_tokens step ++ tail))
          ys));
      is_condition = maybe_is k f.fits;
      is_step = maybe_is step h.fits;
      is = j.is;
      plain = j.kind;
      low = omega (arith, f.low, h.low, j.low);
      no_else = j.no_else;
    }))))))

pub sound_for : (n : ℕ) (b : Below) → SoundBelow n b → (at : Span) (ts : List Token)
    → Holds (PlainStmt n (word words.For at ∷ ts)) (for_behind b at ts)
sound_for n b sb at ts =
    holds_above (λ o us. ts ≡ mark marks.LeftParen o ∷ us) (PlainStmt n (word words.For at ∷ ts)) 0 b.exprs.height _ ts
    (read_mark marks.LeftParen ts) _ (mark_read marks.LeftParen ts)
    (λ o us some f. under o us f (take_specifiers us).0)
  where
    under : (o : Span) (us : List Token) → ts ≡ mark marks.LeftParen o ∷ us → (ss : List Specifier)
        → Holds (PlainStmt n (word words.For at ∷ ts)) (for_with b at o ss us)
    under o us f [] =
        holds_then (SoundMaybe 16 n us) (PlainStmt n (word words.For at ∷ ts))
        (maybe_before b.exprs.expression marks.Semicolon us) _
        (sound_maybe 16 n b.exprs.expression sb.exprs.expression marks.Semicolon us) (λ start vs g.
        holds_then (λ c ws. vs ≡ mark marks.Semicolon c ∷ ws) (PlainStmt n (word words.For at ∷ ts))
        (read_mark marks.Semicolon vs) _ (mark_read marks.Semicolon vs) (λ first ws h.
        holds_then (SoundRest n ws) (PlainStmt n (word words.For at ∷ ts)) (read_for_rest b ws) _ (sound_rest n b sb ws)
        (λ r xs i.
        record {
          tokens = ap (λ zs. word words.For at ∷ zs)
              (f ∙ ap (λ zs. mark marks.LeftParen o ∷ zs)
              (g.tokens ∙ (ap (λ zs. maybe_expr_tokens start ++ zs)
              (h ∙ ap (λ zs. mark marks.Semicolon first ∷ zs) i.tokens)
              ∙ sym (append_assoc (maybe_expr_tokens start) (mark marks.Semicolon first ∷ rest_tokens r) xs))));
          is = (maybe_is start g.fits, i.is_condition, i.is_step, i.is, i.plain);
          kind = tt;
          low = omega (arith, g.low, i.low);
          no_else = i.no_else;
        })))
    under o us f (s ∷ ss) =
        holds_then (One declaration_tokens (IsLowDeclaration n) us) (PlainStmt n (word words.For at ∷ ts))
        (b.declaration us) _ (sb.declaration us) (λ d vs g.
        holds_then (SoundRest n vs) (PlainStmt n (word words.For at ∷ ts)) (read_for_rest b vs) _ (sound_rest n b sb vs)
        (λ r ws i.
        record {
          tokens = ap (λ zs. word words.For at ∷ zs)
              (f ∙ ap (λ zs. mark marks.LeftParen o ∷ zs)
              (g.0 ∙ (ap (λ zs. declaration_tokens d ++ zs) i.tokens
              ∙ sym (append_assoc (declaration_tokens d) (rest_tokens r) ws))));
          is = (g.1.0, i.is_condition, i.is_step, i.is, i.plain);
          kind = tt;
          low = omega (arith, g.1.1, i.low);
          no_else = i.no_else;
        }))

pub sound_switch : (n : ℕ) (b : Below) → SoundBelow n b → (at : Span) (ts : List Token)
    → Holds (PlainStmt n (word words.Switch at ∷ ts)) (switch_behind b at ts)
sound_switch n b sb at ts =
    holds_above (SoundCondition n ts) (PlainStmt n (word words.Switch at ∷ ts)) 0 b.exprs.height _ ts
    (read_condition b ts) _ (sound_condition n b sb ts) (λ k us some f.
    holds_then (λ o vs. us ≡ mark marks.LeftBrace o ∷ vs) (PlainStmt n (word words.Switch at ∷ ts))
    (read_mark marks.LeftBrace us) _ (mark_read marks.LeftBrace us) (λ begin vs g.
    holds_then (SoundRow IsCase n vs) (PlainStmt n (word words.Switch at ∷ ts)) (read_until b.labelled vs) _
    (sound_row IsCase n b.labelled sb.labelled vs) (λ ss ws s.
    holds_then (λ c xs. ws ≡ mark marks.RightBrace c ∷ xs) (PlainStmt n (word words.Switch at ∷ ts))
    (read_mark marks.RightBrace ws) _ (mark_read marks.RightBrace ws) (λ end xs h.
    (let tail : List Token = mark marks.LeftBrace begin
    ∷ (stmts_tokens (stmts_of ss) ++ mark marks.RightBrace end ∷ []) in
    record {
      tokens = ap (λ zs. word words.Switch at ∷ zs)
          (f.tokens ∙ (ap (in_parens k.0 k.1 k.2)
          (g ∙ ap (λ zs. mark marks.LeftBrace begin ∷ zs)
          (s.tokens ∙ (ap (λ zs. stmts_tokens (stmts_of ss) ++ zs) h
          ∙ sym (append_assoc (stmts_tokens (stmts_of ss)) (mark marks.RightBrace end ∷ []) xs))))
          ∙ behind_parens k.0 k.1 k.2 tail xs));
      is = (f.is, cases_are ss s.all);
      kind = tt;
      low = omega (arith, f.low, s.low);
      no_else = λ e. never e;
    })))))

pub sound_value : (n : ℕ) (b : Below) → SoundBelow n b → (ts us : List Token) (make : Option Expr → Span → Stmt)
    → ((e : Option Expr) (c : Span) (vs : List Token) → us ≡ maybe_expr_tokens e ++ mark marks.Semicolon c ∷ vs
    → IsMaybeExpr e → maybe_expr_height e ≤ n → PlainStmt n ts (make e c) vs) →
    Holds (PlainStmt n ts) (then_read (maybe_before b.exprs.expression marks.Semicolon us)
    (λ e vs. then_read (read_mark marks.Semicolon vs) (λ c ws. Found (make e c) ws)))
sound_value n b sb ts us make made =
    holds_then (SoundMaybe 16 n us) (PlainStmt n ts) (maybe_before b.exprs.expression marks.Semicolon us) _
    (sound_maybe 16 n b.exprs.expression sb.exprs.expression marks.Semicolon us) (λ e vs f.
    holds_then (λ c ws. vs ≡ mark marks.Semicolon c ∷ ws) (PlainStmt n ts) (read_mark marks.Semicolon vs) _
    (mark_read marks.Semicolon vs) (λ c ws g.
    made e c ws (f.tokens ∙ ap (λ zs. maybe_expr_tokens e ++ zs) g) (maybe_is e f.fits) f.low))

pub sound_statement : (n : ℕ) (b : Below) → SoundBelow n b → SoundStatements IsPlain (suc n) (read_statement b)
sound_statement n b sb ts = blocks (take_mark marks.LeftBrace ts) (mark_taken marks.LeftBrace ts)
  where
    move : (us : List Token) (r : Reads Stmt) → ts ≡ us → Holds (PlainStmt n us) r → Holds (PlainStmt n ts) r
    move us r e h = subst (λ xs. Holds (PlainStmt n xs) r) (sym e) h

    returns : (o : Takes Span) → HoldsTaken (λ at us. ts ≡ word words.Return at ∷ us) o
        → Holds (PlainStmt n ts) (or_return b o ts)
    returns (Some (at, us)) h = sound_value n b sb ts us (λ e c. Return at e c) (λ e c vs f is low.
        record {
          tokens = h ∙ ap (λ zs. word words.Return at ∷ zs)
              (f ∙ sym (append_assoc (maybe_expr_tokens e) (mark marks.Semicolon c ∷ []) vs));
          is = is;
          kind = tt;
          low =
              omega arith;
          no_else = λ x. never x;
        })
    returns None h = sound_value n b sb ts ts (λ e c. Simple e c) (λ e c vs f is low.
        record {
          tokens = f ∙ sym (append_assoc (maybe_expr_tokens e) (mark marks.Semicolon c ∷ []) vs);
          is = is;
          kind =
              tt;
          low = omega arith;
          no_else = λ x. never x;
        })

    continues : (o : Takes Span) → HoldsTaken (λ at us. ts ≡ word words.Continue at ∷ us) o
        → Holds (PlainStmt n ts) (or_continue b o ts)
    continues (Some (at, us)) h = holds_then (λ c vs. us ≡ mark marks.Semicolon c ∷ vs) (PlainStmt n ts)
        (read_mark marks.Semicolon us) _ (mark_read marks.Semicolon us) (λ c vs g.
        record {
          tokens = h ∙ ap (λ zs. word words.Continue at ∷ zs) g;
          is = tt;
          kind = tt;
          low = omega arith;
          no_else =
              λ x. never x;
        })
    continues None h = returns (take_word words.Return ts) (word_taken words.Return ts)

    breaks : (o : Takes Span) → HoldsTaken (λ at us. ts ≡ word words.Break at ∷ us) o
        → Holds (PlainStmt n ts) (or_break b o ts)
    breaks (Some (at, us)) h = holds_then (λ c vs. us ≡ mark marks.Semicolon c ∷ vs) (PlainStmt n ts)
        (read_mark marks.Semicolon us) _ (mark_read marks.Semicolon us) (λ c vs g.
        record {
          tokens = h ∙ ap (λ zs. word words.Break at ∷ zs) g;
          is = tt;
          kind = tt;
          low = omega arith;
          no_else =
              λ x. never x;
        })
    breaks None h = continues (take_word words.Continue ts) (word_taken words.Continue ts)

    switches : (o : Takes Span) → HoldsTaken (λ at us. ts ≡ word words.Switch at ∷ us) o
        → Holds (PlainStmt n ts) (or_switch b o ts)
    switches (Some (at, us)) h = move (word words.Switch at ∷ us) (switch_behind b at us) h (sound_switch n b sb at us)
    switches None h = breaks (take_word words.Break ts) (word_taken words.Break ts)

    fors : (o : Takes Span) → HoldsTaken (λ at us. ts ≡ word words.For at ∷ us) o → Holds (PlainStmt n ts) (or_for b o ts)
    fors (Some (at, us)) h = move (word words.For at ∷ us) (for_behind b at us) h (sound_for n b sb at us)
    fors None h = switches (take_word words.Switch ts) (word_taken words.Switch ts)

    dos : (o : Takes Span) → HoldsTaken (λ at us. ts ≡ word words.Do at ∷ us) o → Holds (PlainStmt n ts) (or_do b o ts)
    dos (Some (at, us)) h = move (word words.Do at ∷ us) (do_behind b at us) h (sound_do n b sb at us)
    dos None h = fors (take_word words.For ts) (word_taken words.For ts)

    whiles : (o : Takes Span) → HoldsTaken (λ at us. ts ≡ word words.While at ∷ us) o
        → Holds (PlainStmt n ts) (or_while b o ts)
    whiles (Some (at, us)) h = move (word words.While at ∷ us) (while_behind b at us) h (sound_while n b sb at us)
    whiles None h = dos (take_word words.Do ts) (word_taken words.Do ts)

    ifs : (o : Takes Span) → HoldsTaken (λ at us. ts ≡ word words.If at ∷ us) o → Holds (PlainStmt n ts) (or_if b o ts)
    ifs (Some (at, us)) h = move (word words.If at ∷ us) (if_behind b at us) h (sound_if n b sb at us)
    ifs None h = whiles (take_word words.While ts) (word_taken words.While ts)

    blocks : (o : Takes Span) → HoldsTaken (λ at us. ts ≡ mark marks.LeftBrace at ∷ us) o
        → Holds (PlainStmt n ts) (or_block b o ts)
    blocks (Some (o, us)) h = move (mark marks.LeftBrace o ∷ us) (block_behind b o us) h (sound_block n b sb o us)
    blocks None h = ifs (take_word words.If ts) (word_taken words.If ts)

-- ---- block items and labels

pub plain_item : (s : Stmt) → IsPlain s → IsBlockItem s
plain_item (Labelled before s) plain = absurd plain
plain_item (Declared d) plain = tt
plain_item _ plain = tt

as_item : (h : ℕ) (ts : List Token) (r : Reads Stmt) → Holds (SoundStmt IsPlain h ts) r
    → Holds (SoundStmt IsBlockItem h ts) r
as_item h ts (Faults deep us) s = tt
as_item h ts (Found x us) s = record {
  tokens = s.tokens;
  is = s.is;
  kind = plain_item x s.kind;
  low = s.low;
  no_else = s.no_else;
}

pub sound_item : (n : ℕ) (b : Below) → SoundBelow n b
    → SoundStatements IsBlockItem (suc n) (read_block_item (read_declaration b.exprs) (read_statement b))
sound_item n b sb ts = under (take_specifiers ts).0
  where
    under : (ss : List Specifier) → Holds (SoundStmt IsBlockItem (suc n) ts)
        (item_with (read_declaration b.exprs) (read_statement b) ss ts)
    under [] = as_item (suc n) ts (read_statement b ts) (sound_statement n b sb ts)
    under (s ∷ ss) = holds_then (One declaration_tokens (IsLowDeclaration (suc n)) ts)
        (SoundStmt IsBlockItem (suc n) ts) (read_declaration b.exprs ts) _ (sound_declaration n b.exprs sb.exprs ts)
        (λ d us g.
        record { tokens = g.0; is = g.1.0; kind = tt; low = g.1.1; no_else = λ x. never x })

pub record SoundLabels (h : ℕ) (ts : List Token) (ls : List LabelTree) (us : List Token) : Type 0 where
  pub tokens : ts ≡ labels_tokens ls ++ us
  pub all : AllByRecursion IsLabel ls
  pub low : greatest label_height ls ≤ h

pub labels_push : (ls : List LabelTree) (l : LabelTree) → labels_tokens (ls ++ l ∷ []) ≡ labels_tokens ls ++ label_tokens l
labels_push [] l = append-nil (label_tokens l)
labels_push (x ∷ xs) l = ap (λ zs. label_tokens x ++ zs) (labels_push xs l)
    ∙ sym (append_assoc (label_tokens x) (labels_tokens xs) (label_tokens l))

pub labels_low : (ls : List LabelTree) (l : LabelTree) → greatest label_height (ls ++ l ∷ [])
    ≡ max (greatest label_height ls) (label_height l)
labels_low [] l = omega arith
labels_low (x ∷ xs) l = omega (arith, labels_low xs l)

one_label : (h : ℕ) (ts : List Token) (ls : List LabelTree) (us : List Token) (l : LabelTree) (vs : List Token)
    → SoundLabels h ts ls us → us ≡ label_tokens l ++ vs → IsLabel l → label_height l ≤ h
    → SoundLabels h ts (ls ++ l ∷ []) vs
one_label h ts ls us l vs s f is low =
    record {
      tokens = s.tokens ∙ (ap (λ zs. labels_tokens ls ++ zs) f
          ∙ (sym (append_assoc (labels_tokens ls) (label_tokens l) vs) ∙ ap (λ zs. zs ++ vs) (sym (labels_push ls l))));
      all = all-push IsLabel ls l s.all is;
      low = omega (arith, labels_low ls l, s.low, low);
    }

-- one more label
pub label_keeps : (h : ℕ) (read : Reader) → SoundReader 14 h read → (ts : List Token) (a : List LabelTree)
    (us : List Token) → SoundLabels h ts a us → HoldsStep (SoundLabels h ts) (label_step read a us)
label_keeps h read reads ts a us s = cases (take_word words.Case us) (word_taken words.Case us)
  where
    defaults : (o : Takes Span) → HoldsTaken (λ at vs. us ≡ word words.Default at ∷ vs) o
        → HoldsStep (SoundLabels h ts) (default_at a o)
    defaults None f = tt
    defaults (Some (at, vs)) f =
        step_then (λ c ws. vs ≡ mark marks.Colon c ∷ ws) (SoundLabels h ts) (read_mark marks.Colon vs) _
        (mark_read marks.Colon vs) (λ c ws g.
        one_label h ts a us (Default at c) ws s (f ∙ ap (λ zs. word words.Default at ∷ zs) g) tt (omega arith))

    cases : (o : Takes Span) → HoldsTaken (λ at vs. us ≡ word words.Case at ∷ vs) o
        → HoldsStep (SoundLabels h ts) (label_at read a o us)
    cases None f = defaults (take_word words.Default us) (word_taken words.Default us)
    cases (Some (at, vs)) f =
        step_then (Sound 14 h vs) (SoundLabels h ts) (read vs) _ (reads vs) (λ e ws g.
        step_then (λ c xs. ws ≡ mark marks.Colon c ∷ xs) (SoundLabels h ts) (read_mark marks.Colon ws) _
        (mark_read marks.Colon ws) (λ c xs i.
        one_label h ts a us (Case at e c) xs s (f
        ∙ ap (λ zs. word words.Case at ∷ zs) (g.tokens
        ∙ (ap (λ zs. expr_tokens e ++ zs) i ∙ sym (append_assoc (expr_tokens e) (mark marks.Colon c ∷ []) xs))))
        (g.is, g.loose) g.low))

pub sound_labels : (h : ℕ) (read : Reader) → SoundReader 14 h read → (ts : List Token)
    → Holds (SoundLabels h ts) (read_labels read ts)
sound_labels h read reads ts = holds_chain (SoundLabels h ts) (label_step read)
    (λ a us s. label_keeps h read reads ts a us s) (length ts) [] ts
    (record { tokens = refl; all = tt; low = omega arith })

pub sound_labelled : (n : ℕ) (b : Below) → SoundBelow n b → (r : Readers) → SoundReaders (suc n) r
    → SoundStatements IsCase (suc n) (read_labelled r.conditional (read_statement b))
sound_labelled n b sb r sr ts =
    holds_then (SoundLabels (suc n) ts) (SoundStmt IsCase (suc n) ts) (read_labels r.conditional ts) _
    (sound_labels (suc n) r.conditional sr.conditional ts) (λ ls us f.
    holds_then (SoundStmt IsPlain (suc n) us) (SoundStmt IsCase (suc n) ts) (read_statement b us) _
    (sound_statement n b sb us) (λ s vs g.
    record {
      tokens = f.tokens ∙ (ap (λ zs. labels_tokens ls ++ zs) g.tokens
          ∙ sym (append_assoc (labels_tokens ls) (stmt_tokens s) vs));
      is = (f.all, g.is, g.kind);
      kind = tt;
      low = omega (arith, f.low, g.low);
      no_else = g.no_else;
    }))

-- ---- by height

no_item_holds : {A : Type 0} (P : A → List Token → Type 0) (ts : List Token) → Holds P (no_item ts)
no_item_holds P [] = tt
no_item_holds P (t ∷ ts) = tt

none_sound : SoundBelow 0 nothing_below
none_sound =
    record {
      exprs = (let P : Readers → Type 0 = λ r. SoundReaders 0 r in subst P readers-none (sound 0));
      declaration = λ ts. no_item_holds _ ts;
      statement = λ ts. no_item_holds _ ts;
      item = λ ts. no_item_holds _ ts;
      labelled = λ ts. no_item_holds _ ts;
    }

pub sound_below : (height : ℕ) → SoundBelow height (below_of height)
sound_below zero =
    (let P : Below → Type 0 = λ x. SoundBelow 0 x in
    subst P (sym below_of-none) none_sound)
sound_below (suc n) =
    (let sb = sound_below n in
    let b : Below = below_of n in
    let all : SoundBelow (suc n) (below_over (suc n) b) = record {
      exprs = sound (suc n);
      declaration = sound_declaration n b.exprs sb.exprs;
      statement = sound_statement n b sb;
      item = sound_item n b sb;
      labelled = sound_labelled n b sb (readers (suc n)) (sound (suc n));
    } in
    let P : Below → Type 0 = λ x. SoundBelow (suc n) x in
    subst P (sym (below_of-suc n)) all)

-- ---- units

abbrev pub IsLowExternal : ℕ → ExternalTree → Type 0
IsLowExternal h e = IsExternal e × (external_height e ≤ h)

pub has_part : (part : PartTree) → has_parameters part ≡ true → HasParameters part
has_part (Function p) e = tt
has_part Plain e = never e
has_part (Array a) e = never e

-- a statement that begins with `{` is a block
pub block_alone : (s : Stmt) (us : List Token) (x : Span × List Token) → IsStmt s → IsPlain s
    → take_mark marks.LeftBrace (stmt_tokens s ++ us) ≡ Some x → IsBlock s
block_alone (Block o items c) us x is plain e = tt
block_alone (Declared d) us x is plain e = absurd plain
block_alone (Labelled before s) us x is plain e = absurd plain
block_alone (Simple None semicolon) us x is plain e = absurd (let wrong : None ≡ Some x = e in cc)
block_alone (Simple (Some v) semicolon) us x is plain e =
    absurd (let none : take_mark marks.LeftBrace (stmt_tokens (Simple (Some v) semicolon) ++ us) ≡ None =
    ap (take_mark marks.LeftBrace) (append_assoc (expr_tokens v) (mark marks.Semicolon semicolon ∷ []) us)
    ∙ expression_no_mark marks.LeftBrace v (mark marks.Semicolon semicolon ∷ us) is refl in
    let wrong : None ≡ Some x = sym none ∙ e in cc)
block_alone (If at o c k s) us x is plain e = absurd (let wrong : None ≡ Some x = e in cc)
block_alone (IfElse at o c k s otherwise t) us x is plain e = absurd (let wrong : None ≡ Some x = e in cc)
block_alone (Switch at o c k begin items end) us x is plain e = absurd (let wrong : None ≡ Some x = e in cc)
block_alone (While at o c k s) us x is plain e = absurd (let wrong : None ≡ Some x = e in cc)
block_alone (Do at s until o c k semicolon) us x is plain e = absurd (let wrong : None ≡ Some x = e in cc)
block_alone (For at o start first condition second step c s) us x is plain e =
    absurd (let wrong : None ≡ Some x = e in cc)
block_alone (ForDeclaration at o start condition second step c s) us x is plain e =
    absurd (let wrong : None ≡ Some x = e in cc)
block_alone (Break at semicolon) us x is plain e = absurd (let wrong : None ≡ Some x = e in cc)
block_alone (Continue at semicolon) us x is plain e = absurd (let wrong : None ≡ Some x = e in cc)
block_alone (Return at v semicolon) us x is plain e = absurd (let wrong : None ≡ Some x = e in cc)

pub sound_external : (n : ℕ) (b : Below) → SoundBelow n b → (ts : List Token)
    → Holds (One external_tokens (IsLowExternal (suc n)) ts) (read_external b ts)
sound_external n b sb ts = under (take_specifiers ts).0 (take_specifiers ts).1 (specifiers_taken ts)
  where
    declared : (ss : List Specifier) (us : List Token) → IsSpecifiers ss → ts ≡ specifiers_tokens ss ++ us
        → (d : DeclaratorTree) (vs : List Token) → One declarator_tokens (IsLowDeclarator n) us d vs →
        Holds (One external_tokens (IsLowExternal (suc n)) ts)
        (then_read (declaration_behind b.exprs ss d vs) (λ x ws. Found (DeclaredTree x) ws))
    declared ss us is h d vs g =
        holds_then (One declaration_tokens (IsLowDeclaration (suc n)) ts)
        (One external_tokens (IsLowExternal (suc n)) ts) (declaration_behind b.exprs ss d vs) _
        (sound_declaration_behind n b.exprs sb.exprs ts ss us d vs is h g) (λ x ws k. (k.0, k.1))

    by_part : (ss : List Specifier) (us : List Token) → IsSpecifiers ss → ts ≡ specifiers_tokens ss ++ us
        → (d : DeclaratorTree) (vs : List Token) → One declarator_tokens (IsLowDeclarator n) us d vs → (x : Bool)
        → has_parameters d.part ≡ x → (o : Takes Span) → take_mark marks.LeftBrace vs ≡ o →
        Holds (One external_tokens (IsLowExternal (suc n)) ts) (external_from b ss d x o vs)
    by_part ss us is h d vs g false e o f = declared ss us is h d vs g
    by_part ss us is h d vs g true e None f = declared ss us is h d vs g
    by_part ss us is h d vs g true e (Some (o, ws)) f =
        holds_then (SoundStmt IsPlain n vs) (One external_tokens (IsLowExternal (suc n)) ts) (b.statement vs) _
        (sb.statement vs) (λ s xs k. (
          h ∙ (ap (λ zs. specifiers_tokens ss ++ zs)
              (g.0 ∙ (ap (λ zs. declarator_tokens d ++ zs) k.tokens
              ∙ sym (append_assoc (declarator_tokens d) (stmt_tokens s) xs)))
              ∙ sym (append_assoc (specifiers_tokens ss) (declarator_tokens d ++ stmt_tokens s) xs)),
          (
            (
              is,
              g.1.0,
              has_part d.part e,
              k.is,
              block_alone s xs (o, ws) k.is k.kind
                  (ap (take_mark marks.LeftBrace) (sym k.tokens) ∙ f),
            ),
            omega (arith, g.1.1, k.low),
          ),
        ))

    under : (ss : List Specifier) (us : List Token) → ts ≡ specifiers_tokens ss ++ us
        → Holds (One external_tokens (IsLowExternal (suc n)) ts) (external_with b ss us)
    under [] us h = tt
    under (s ∷ ss) us h =
        holds_then (One declarator_tokens (IsLowDeclarator n) us) (One external_tokens (IsLowExternal (suc n)) ts)
        (read_declarator b.exprs us) _ (sound_declarator n b.exprs sb.exprs us) (λ d vs g.
        by_part (s ∷ ss) us tt h d vs g (has_parameters d.part) refl (take_mark marks.LeftBrace vs) refl)

pub record SoundUnit (h : ℕ) (ts : List Token) (es : List ExternalTree) (us : List Token) : Type 0 where
  pub tokens : ts ≡ unit_tokens es ++ us
  pub all : AllByRecursion IsExternal es
  pub low : greatest external_height es ≤ h

pub unit_push : (es : List ExternalTree) (e : ExternalTree) → unit_tokens (es ++ e ∷ [])
    ≡ unit_tokens es ++ external_tokens e
unit_push [] e = append-nil (external_tokens e)
unit_push (x ∷ xs) e = ap (λ zs. external_tokens x ++ zs) (unit_push xs e)
    ∙ sym (append_assoc (external_tokens x) (unit_tokens xs) (external_tokens e))

pub unit_low : (es : List ExternalTree) (e : ExternalTree) → greatest external_height (es ++ e ∷ [])
    ≡ max (greatest external_height es) (external_height e)
unit_low [] e = omega arith
unit_low (x ∷ xs) e = omega (arith, unit_low xs e)

pub sound_unit_step : (n : ℕ) (b : Below) → SoundBelow n b → (ts : List Token) (a : List ExternalTree) (us : List Token)
    → SoundUnit (suc n) ts a us → HoldsStep (SoundUnit (suc n) ts) (unit_step b a us)
sound_unit_step n b sb ts a [] s = tt
sound_unit_step n b sb ts a (t ∷ us) s =
    step_then (One external_tokens (IsLowExternal (suc n)) (t ∷ us)) (SoundUnit (suc n) ts) (read_external b (t ∷ us)) _
    (sound_external n b sb (t ∷ us)) (λ e vs g.
    record {
      tokens = s.tokens ∙ (ap (λ zs. unit_tokens a ++ zs) g.0
          ∙ (sym (append_assoc (unit_tokens a) (external_tokens e) vs) ∙ ap (λ zs. zs ++ vs) (sym (unit_push a e))));
      all = all-push IsExternal a e s.all g.1.0;
      low = omega (arith, unit_low a e, s.low, g.1.1);
    })

pub sound_unit : (n : ℕ) (ts : List Token) → Holds (SoundUnit (suc n) ts) (read_unit (below_of n) ts)
sound_unit n ts = holds_chain (SoundUnit (suc n) ts) (unit_step (below_of n))
    (λ a us s. sound_unit_step n (below_of n) (sound_below n) ts a us s) (length ts) [] ts
    (record { tokens = refl; all = tt; low = omega arith })

-- what is read whole is a tree
pub unit_sound : (n : ℕ) (ts : List Token) (es : List ExternalTree) → read_unit (below_of n) ts ≡ Found es []
    → (h : ℕ) × (h ≤ suc n) × Tree ts h es
unit_sound n ts es e =
    (let s : SoundUnit (suc n) ts es [] = subst (λ r. Holds (SoundUnit (suc n) ts) r) e (sound_unit n ts) in (
      greatest external_height es,
      s.low,
      record
          { is = s.all; tokens_are = s.tokens ∙ append-nil (unit_tokens es); height_is = refl },
    ))
