-- Each part of a typed statement has a token of its own, and its constants are signed numbers of 32 bits.
use Rattle.std.proofs.Common.{arith, ◌≡◌, refl, ℕ, suc, ◌+◌, ◌≤◌, Bool, true, false}
use Rattle.std.proofs.Common.{w32, List, [], ◌∷◌, ◌++◌, length, length-append, map}
use Rattle.std.specs.Prelude.{ℤ, FitsSigned, Option, Some, None, IfSome, if◌then◌else◌, sum_by}
use Rattle.std.specs.List.{AllByRecursion, list_any}
use Rattle.std.proofs.lemmas.Int.{ints}
use Rattle.std.proofs.lemmas.List.Sums.{sum_by-cons}
use Rattle.std.proofs.lemmas.List.Elements.{All-from_recursion}
use Rattle.pcc_base.specs.declared.span.Span.{Span}
use Rattle.pcc_base.specs.declared.fault.FaultKind.TheVariants.{CaseLabel}
use Rattle.c_syntax.specs.Expressions.{Expr}
use Rattle.c_syntax.specs.ExpressionTokens.{expr_tokens}
use Rattle.c_syntax.specs.DeclarationTokens.{declaration_tokens, maybe_expr_tokens}
use Rattle.c_syntax.specs.Statements as trees
use Rattle.c_syntax.specs.Statements.{LabelTree, Stmt, Stmts, NoStmt, OneStmt}
use Rattle.c_syntax.specs.StatementTokens.{label_tokens, labels_tokens, stmt_tokens, stmts_tokens, IsStmt, AreItems}
use Rattle.c_syntax.specs.StatementTokens.{AreCases, IsLabel, IsMaybeExpr}
use Rattle.c_tree.specs.declared.types.ValueType.{ValueType}
use Rattle.c_tree.specs.declared.types.ValueType.TheVariants.{Void, Integer, Pointer}
use Rattle.c_tree.specs.declared.statement.Label.{Label}
use Rattle.c_tree.specs.Program as tree
use Rattle.c_tree.specs.Program.{value_type, Expression, Item, First, Statement, Statements, Done, Next}
use Rattle.c_tree.specs.Sizes.{item_size, first_size, statement_size, statements_size}
use Rattle.c_typing.specs.Types.{InBlock, InFor}
use Rattle.c_typing.specs.Constants.{constant_value}
use Rattle.c_typing.specs.Laws.{IsInt}
use Rattle.c_typing.specs.Checked.{Checked, fits, fails, if_fits, pair, both, three}
use Rattle.c_typing.specs.Expressions.{typed_expression, typed_if_any}
use Rattle.c_typing.specs.Names.{Scope, entered, numbered}
use Rattle.c_typing.specs.Rows.{assigned, is_scalar, selected, tested}
use Rattle.c_typing.specs.Statements.{after_statement, after_declaration, typed_declaration, GivenLabel, case_value}
use Rattle.c_typing.specs.Statements.{given_label, labels_before, given_labels, one_label, same_label, with_value}
use Rattle.c_typing.specs.Statements.{typed_labels, Around, in_loop, in_switch, jump, returned, condition}
use Rattle.c_typing.specs.Statements.{condition_if_any, first_part, row_before, as_one, alone, one, for_loop}
use Rattle.c_typing.specs.Statements.{typed_statement, typed_statements}
use Rattle.c_typing.proofs.CountUp.{IfFits, holds_if, holds_both, holds_pair}
use Rattle.c_check_laws.proofs.Ranges.{InRange, constant_int, fits_int}
use Rattle.c_check_laws.proofs.Ranged.{HasInts}
use Rattle.lower_lines.specs.Words.{HasWords, FirstHasWords, ItemHasWords, StatementHasWords, StatementsHaveWords}
use Rattle.pcc_program.proofs.Expressions.{Fine, choice_fine, assigned_fine, cut, int_fits, expression_fine}
use Rattle.pcc_program.proofs.Items.{holds_map, OptionFine, ItemsFine, items_total, declaration_fine}
use Rattle.c_check_laws.proofs.Declaring.{row_size}

-- ---- values of labels

in_range : (e : Expression) → HasWords e → InRange e
in_range (tree.Constant of n) h = fits_int n h
in_range (tree.Start element array) h = tt
in_range (tree.Read of place) h = tt
in_range (tree.Address element place) h = tt
in_range (tree.Unary of op e) h = in_range e h
in_range (tree.Binary of op a b) h = (in_range a h.0, in_range b h.1)
in_range (tree.And a b) h = (in_range a h.0, in_range b h.1)
in_range (tree.Or a b) h = (in_range a h.0, in_range b h.1)
in_range (tree.Conditional of t a b) h = (in_range t h.0, (in_range a h.1, in_range b h.2))
in_range (tree.Cast to e) h = in_range e h
in_range (tree.Assign of place e) h = tt
in_range (tree.Update of op place e) h = tt
in_range (tree.Step of op place) h = tt
in_range (tree.Comma a b) h = tt
in_range (tree.Call of f es) h = tt
in_range (tree.Putchar e) h = tt
in_range tree.Getchar h = tt
in_range (tree.Exit e) h = tt

abbrev Value : Option ℤ → Type 0
Value o = IfSome o (FitsSigned w32)

abbrev LabelFine : Label → Type 0
LabelFine l = IfSome l.value (FitsSigned w32)

abbrev GivenLabelFine : GivenLabel → Type 0
GivenLabelFine g = IfFits Value g.value

abbrev LabelsFine : ℕ → List Label → Type 0
LabelsFine n ls = (length ls ≤ n) × AllByRecursion LabelFine ls

case_fine : (at : Span) (o : Option ℤ) → IfSome o IsInt → IfFits Value (case_value at o)
case_fine at None h = tt
case_fine at (Some n) h = int_fits n h

given_label_fine : (s : Scope) (before : ℕ) (l : LabelTree) → IsLabel l → HasInts (label_tokens l)
    → GivenLabelFine (given_label s before l)
given_label_fine s before (trees.Case at e colon) is h =
    let T = expr_tokens e in
    holds_if (Fine (length T)) Value (typed_expression s e) (λ x. case_value at (constant_value x))
    (expression_fine s e is.0 (cut T (_ ∷ []) h.1).0)
    (λ x u. case_fine at (constant_value x) (constant_int x (in_range x u.1)))
given_label_fine s before (trees.Default at colon) is h = tt

abbrev AreGiven : List GivenLabel → Type 0
AreGiven gs = AllByRecursion GivenLabelFine gs

each_given : (s : Scope) (before : ℕ) (ls : List LabelTree) (gs : List GivenLabel) → AllByRecursion IsLabel ls
    → HasInts (labels_tokens ls) → AreGiven gs → AreGiven (map (given_label s before) ls ++ gs)
each_given s before [] gs is h g = g
each_given s before (l ∷ ls) gs is h g =
    let p = cut (label_tokens l) (labels_tokens ls) h in
    (given_label_fine s before l is.0 p.0, each_given s before ls gs is.1 p.1 g)

each_count : (s : Scope) (before : ℕ) (ls : List LabelTree) (gs : List GivenLabel)
    → length (map (given_label s before) ls ++ gs) ≡ length ls + length gs
each_count s before [] gs = omega arith
each_count s before (l ∷ ls) gs = let h = each_count s before ls gs in omega (arith, h)

before_given : (s : Scope) (before : ℕ) (st : Stmt) (gs : List GivenLabel) → IsStmt st → HasInts (stmt_tokens st)
    → AreGiven gs → AreGiven (map (given_label s before) (labels_before st) ++ gs)
before_given s before (trees.Declared d) gs is h g = g
before_given s before (trees.Labelled ls st) gs is h g =
    each_given s before ls gs is.0 (cut (labels_tokens ls) (stmt_tokens st) h).0 g
before_given s before (trees.Block o items c) gs is h g = g
before_given s before (trees.Simple e semicolon) gs is h g = g
before_given s before (trees.If at o e c st) gs is h g = g
before_given s before (trees.IfElse at o e c st otherwise other) gs is h g = g
before_given s before (trees.Switch at o e c begin items end) gs is h g = g
before_given s before (trees.While at o e c st) gs is h g = g
before_given s before (trees.Do at st until o e c semicolon) gs is h g = g
before_given s before (trees.For at o start first e second step c st) gs is h g = g
before_given s before (trees.ForDeclaration at o start e second step c st) gs is h g = g
before_given s before (trees.Break at semicolon) gs is h g = g
before_given s before (trees.Continue at semicolon) gs is h g = g
before_given s before (trees.Return at e semicolon) gs is h g = g

labels_given : (s : Scope) (before : ℕ) (sts : Stmts) → AreCases sts → HasInts (stmts_tokens sts)
    → AreGiven (given_labels s before sts)
labels_given s before NoStmt are h = tt
labels_given s before (OneStmt st others) are h =
    let p = cut (stmt_tokens st) (stmts_tokens others) h in
    before_given s before st (given_labels s (suc before) others) are.0 p.0
    (labels_given s (suc before) others are.2 p.1)

label_if_fine : (b : Bool) (at : Span) (before : ℕ) (v : Option ℤ) → Value v
    → IfFits LabelFine (if b then fails CaseLabel at else fits (record { value = v; before = before }))
label_if_fine true at before v h = tt
label_if_fine false at before v h = h

one_label_fine : (earlier : List (Option ℤ)) (at : Span) (before : ℕ) (v : Option ℤ) → Value v
    → IfFits LabelFine (one_label earlier at before v)
one_label_fine earlier at before v h = label_if_fine (list_any (same_label v) earlier) at before v h

labels_fine : (earlier : List (Option ℤ)) (gs : List GivenLabel) → AreGiven gs
    → IfFits (LabelsFine (length gs)) (typed_labels earlier gs)
labels_fine earlier [] h = (omega arith, tt)
labels_fine earlier (g ∷ gs) h =
    holds_both LabelFine (LabelsFine (length gs)) (LabelsFine (suc (length gs)))
    (if_fits g.value (one_label earlier g.at g.before)) (typed_labels (with_value g.value earlier) gs)
    (λ l ls. fits (l ∷ ls))
    (holds_if Value LabelFine g.value (one_label earlier g.at g.before) h.0
    (λ v u. one_label_fine earlier g.at g.before v u))
    (labels_fine (with_value g.value earlier) gs h.1)
    (λ l ls u v. let a = v.0 in (omega (arith, a), (u, v.1)))

-- ---- how many tokens statements have without the labels before them

abbrev own : Stmt → ℕ
own (trees.Labelled ls st) = own st
own st = length (stmt_tokens st)

abbrev pub total_own : Stmts → ℕ
total_own NoStmt = 0
total_own (OneStmt st others) = own st + total_own others

some_labels : (ls : List LabelTree) → length ls ≤ length (labels_tokens ls)
some_labels [] = omega arith
some_labels (trees.Case at e colon ∷ ls) =
    let h = some_labels ls in
    let l = length-append (label_tokens (trees.Case at e colon)) (labels_tokens ls) in
    omega (arith, h, l)
some_labels (trees.Default at colon ∷ ls) = let h = some_labels ls in omega (arith, h)

own_most : (st : Stmt) → own st + length (labels_before st) ≤ length (stmt_tokens st)
own_most (trees.Declared d) = omega arith
own_most (trees.Labelled ls st) =
    let h = own_most st in
    let k = some_labels ls in
    let l = length-append (labels_tokens ls) (stmt_tokens st) in
    omega (arith, h, k, l)
own_most (trees.Block o items c) = omega arith
own_most (trees.Simple e semicolon) = omega arith
own_most (trees.If at o e c st) = omega arith
own_most (trees.IfElse at o e c st otherwise other) = omega arith
own_most (trees.Switch at o e c begin items end) = omega arith
own_most (trees.While at o e c st) = omega arith
own_most (trees.Do at st until o e c semicolon) = omega arith
own_most (trees.For at o start first e second step c st) = omega arith
own_most (trees.ForDeclaration at o start e second step c st) = omega arith
own_most (trees.Break at semicolon) = omega arith
own_most (trees.Continue at semicolon) = omega arith
own_most (trees.Return at e semicolon) = omega arith

with_labels : (s : Scope) (before : ℕ) (sts : Stmts)
    → total_own sts + length (given_labels s before sts) ≤ length (stmts_tokens sts)
with_labels s before NoStmt = omega arith
with_labels s before (OneStmt st others) =
    let h = with_labels s (suc before) others in
    let k = own_most st in
    let m = each_count s before (labels_before st) (given_labels s (suc before) others) in
    let l = length-append (stmt_tokens st) (stmts_tokens others) in
    omega (arith, h, k, m, l)

pub total_most : (sts : Stmts) → total_own sts ≤ length (stmts_tokens sts)
total_most NoStmt = omega arith
total_most (OneStmt st others) =
    let h = total_most others in
    let k = own_most st in
    let l = length-append (stmt_tokens st) (stmts_tokens others) in
    omega (arith, h, k, l)

-- ---- statements

abbrev list_size : List Statement → ℕ
list_size [] = 0
list_size (st ∷ sts) = statement_size st + list_size sts

abbrev ListFine : ℕ → List Statement → Type 0
ListFine n sts = (list_size sts ≤ n) × AllByRecursion StatementHasWords sts

abbrev OneFine : ℕ → Statement → Type 0
OneFine n st = (statement_size st ≤ n) × StatementHasWords st

abbrev pub RowFine : ℕ → Statements → Type 0
RowFine n sts = (statements_size sts ≤ n) × StatementsHaveWords sts

one_fine : (n : ℕ) (c : Checked Statement) → IfFits (OneFine n) c → IfFits (ListFine n) (one c)
one_fine n c h =
    holds_if (OneFine n) (ListFine n) c (λ st. fits (st ∷ [])) h
    (λ st x. let a = x.0 in (omega (arith, a), (x.1, tt)))

row_words : (sts : List Statement) (rest : Statements) → AllByRecursion StatementHasWords sts
    → StatementsHaveWords rest → StatementsHaveWords (row_before sts rest)
row_words [] rest h g = g
row_words (st ∷ sts) rest h g = (h.0, row_words sts rest h.1 g)

row_fine : (m k n : ℕ) (sts : List Statement) (rest : Statements) → m + k ≤ n → ListFine m sts → RowFine k rest
    → RowFine n (row_before sts rest)
row_fine m k n sts rest l h g =
    let e = row_size sts rest in let a = h.0 in let b = g.0 in
    (omega (arith, l, e, a, b), row_words sts rest h.1 g.1)

as_one_fine : (n : ℕ) (sts : List Statement) → ListFine n sts → OneFine n (as_one sts)
as_one_fine n [] h = h
as_one_fine n (st ∷ []) h = let a = h.0 in (omega (arith, a), h.1.0)
as_one_fine n (st ∷ (other ∷ sts)) h = row_fine n 0 n (st ∷ (other ∷ sts)) Done (omega arith) h (omega arith, tt)

alone_fine : (n : ℕ) (c : Checked (List Statement)) → IfFits (ListFine n) c → IfFits (OneFine n) (alone c)
alone_fine n c h = holds_if (ListFine n) (OneFine n) c (λ sts. fits (as_one sts)) h (λ sts x. as_one_fine n sts x)

own_list : (st : Stmt) (c : Checked (List Statement)) → IfFits (ListFine (own st)) c
    → IfFits (OneFine (length (stmt_tokens st))) (alone c)
own_list st c h =
    let k = own_most st in
    alone_fine (length (stmt_tokens st)) c (holds_map (ListFine (own st)) (ListFine (length (stmt_tokens st))) c h
    (λ sts u. let a = u.0 in (omega (arith, a, k), u.1)))

condition_fine : (n : ℕ) (s : Scope) (at : Span) (e : Expr) → IfFits (Fine n) (typed_expression s e)
    → IfFits (Fine n) (condition s at e)
condition_fine n s at e h =
    holds_if (Fine n) (Fine n) (typed_expression s e) (tested at) h
    (λ x u. choice_fine n at (is_scalar (value_type x)) (value_type x ∷ []) x u)

selected_fine : (n : ℕ) (t : ValueType) (at : Span) (x : Expression) → Fine n x → IfFits (Fine n) (selected t at x)
selected_fine n Void at x h = tt
selected_fine n (Integer t) at x h = h
selected_fine n (Pointer t) at x h = tt

if_any_fine : (s : Scope) (e : Option Expr) → IsMaybeExpr e → HasInts (maybe_expr_tokens e)
    → IfFits (OptionFine (length (maybe_expr_tokens e))) (typed_if_any s e)
if_any_fine s None is h = (omega arith, tt)
if_any_fine s (Some e) is h =
    let n = length (expr_tokens e) in
    holds_if (Fine n) (OptionFine n) (typed_expression s e) (λ x. fits (Some x)) (expression_fine s e is h) (λ x u. u)

condition_any_fine : (s : Scope) (at : Span) (e : Option Expr) → IsMaybeExpr e → HasInts (maybe_expr_tokens e)
    → IfFits (OptionFine (length (maybe_expr_tokens e))) (condition_if_any s at e)
condition_any_fine s at None is h = (omega arith, tt)
condition_any_fine s at (Some e) is h =
    let n = length (expr_tokens e) in
    holds_if (Fine n) (OptionFine n) (condition s at e) (λ x. fits (Some x))
    (condition_fine n s at e (expression_fine s e is h)) (λ x u. u)

returned_fine : (n : ℕ) (t : ValueType) (at : Span) (o : Option Expression) → OptionFine n o
    → IfFits (OptionFine n) (returned t at o)
returned_fine n Void at None h = h
returned_fine n Void at (Some e) h = tt
returned_fine n (Integer t) at None h = tt
returned_fine n (Integer t) at (Some e) h =
    holds_if (Fine n) (OptionFine n) (assigned (Integer t) at e) (λ x. fits (Some x))
    (assigned_fine n (Integer t) at e h) (λ x u. u)
returned_fine n (Pointer t) at None h = tt
returned_fine n (Pointer t) at (Some e) h =
    holds_if (Fine n) (OptionFine n) (assigned (Pointer t) at e) (λ x. fits (Some x))
    (assigned_fine n (Pointer t) at e h) (λ x u. u)

jump_fine : (n : ℕ) (may : Bool) (at : Span) (st : Statement) → OneFine n st
    → IfFits (ListFine n) (one (jump may at st))
jump_fine n true at st h = one_fine n (fits st) h
jump_fine n false at st h = tt

declares_size : (items : List Item) → list_size (map tree.Declare items) ≡ items_total items
declares_size [] = refl
declares_size (item ∷ items) = let h = declares_size items in omega (arith, h)

declares_words : (items : List Item) → AllByRecursion ItemHasWords items
    → AllByRecursion StatementHasWords (map tree.Declare items)
declares_words [] h = tt
declares_words (item ∷ items) h = (h.0, declares_words items h.1)

items_sum : (items : List Item) → sum_by item_size items ≡ items_total items
items_sum [] = refl
items_sum (item ∷ items) =
    let h = items_sum items in let c = sum_by-cons item_size item items in omega (arith, h, c)

abbrev FirstFine : ℕ → First → Type 0
FirstFine n first = (first_size first ≤ n) × FirstHasWords first

first_fine : (n : ℕ) (o : Option Expression) → OptionFine n o → FirstFine n (first_part o)
first_fine n None h = h
first_fine n (Some e) h = h

for_fine : (number i j k l n : ℕ) (a : Checked First) (b : Checked (Option Expression))
    (c : Checked (Option Expression)) (d : Checked Statement) → suc (i + j + k + l) ≤ n
    → IfFits (FirstFine i) a → IfFits (OptionFine j) b
    → IfFits (OptionFine k) c → IfFits (OneFine l) d → IfFits (ListFine n) (for_loop number a b c d)
for_fine number i j k l n a b c d le h f g o =
    holds_both (λ p. FirstFine i p.0 × OptionFine j p.1) (λ q. OptionFine k q.0 × OneFine l q.1)
    (ListFine n) (pair a b) (pair c d) (λ x y. fits (tree.For number x.0 x.1 y.0 y.1 ∷ []))
    (holds_pair (FirstFine i) (OptionFine j) a b h f) (holds_pair (OptionFine k) (OneFine l) c d g o)
    (λ x y u v. let p = u.0.0 in let q = u.1.0 in let r = v.0.0 in let t = v.1.0 in
    (omega (arith, le, p, q, r, t), ((u.0.1, u.1.1, v.0.1, v.1.1), tt)))

mutual
  pub statement_fine : (w : Around) (st : Stmt) (s : Scope) → IsStmt st → HasInts (stmt_tokens st)
      → IfFits (ListFine (own st)) (typed_statement w st s)
  statement_fine w (trees.Declared d) s is h =
      let n = length (declaration_tokens d) in
      holds_if (ItemsFine n) (ListFine n) (typed_declaration InBlock d s) (λ items. fits (map tree.Declare items))
      (declaration_fine InBlock d s is h) (λ items u.
      let e = declares_size items in let a = u.0 in (omega (arith, e, a), declares_words items u.1))
  statement_fine w (trees.Labelled ls st) s is h =
      statement_fine w st s is.1 (cut (labels_tokens ls) (stmt_tokens st) h).1
  statement_fine w (trees.Block o items c) s is h =
      let T = stmts_tokens items in
      let p = cut T (_ ∷ []) h.1 in
      let l = p.2 in
      let k = total_most items in
      let n = own (trees.Block o items c) in
      one_fine n (if_fits (typed_statements w items (entered s)) (λ body. fits (tree.Block body)))
      (holds_if (RowFine (total_own items)) (OneFine n) (typed_statements w items (entered s))
      (λ body. fits (tree.Block body)) (items_fine w items (entered s) is p.0)
      (λ body u. let a = u.0 in (omega (arith, a, l, k), u.1)))
  statement_fine w (trees.Simple None semicolon) s is h =
      one_fine 1 (fits (tree.Empty s.next)) (omega arith, tt)
  statement_fine w (trees.Simple (Some e) semicolon) s is h =
      let T = expr_tokens e in
      let p = cut T (_ ∷ []) h in
      let l = p.2 in
      let n = own (trees.Simple (Some e) semicolon) in
      one_fine n (if_fits (typed_expression s e) (λ x. fits (tree.Evaluate s.next x)))
      (holds_if (Fine (length T)) (OneFine n) (typed_expression s e) (λ x. fits (tree.Evaluate s.next x))
      (expression_fine s e is p.0) (λ x u. let a = u.0 in (omega (arith, a, l), u.1)))
  statement_fine w (trees.If at o e c st) s is h =
      let T = expr_tokens e in
      let S = stmt_tokens st in
      let p = cut T (_ ∷ S) h.1.1 in
      let l = p.2 in
      let n = own (trees.If at o e c st) in
      let body = typed_statement w st (numbered s) in
      one_fine n (both (condition s at e) (alone body) (λ x a. fits (tree.If s.next x a (tree.Block Done))))
      (holds_both (Fine (length T)) (OneFine (length S)) (OneFine n) (condition s at e) (alone body)
      (λ x a. fits (tree.If s.next x a (tree.Block Done)))
      (condition_fine (length T) s at e (expression_fine s e is.0 p.0))
      (own_list st body (statement_fine w st (numbered s) is.1 p.1.1))
      (λ x a u v. let i = u.0 in let j = v.0 in (omega (arith, l, i, j), (u.1, v.1, tt))))
  statement_fine w (trees.IfElse at o e c st otherwise other) s is h =
      let T = expr_tokens e in
      let S = stmt_tokens st in
      let O = stmt_tokens other in
      let p = cut T (_ ∷ (S ++ _ ∷ O)) h.1.1 in
      let q = cut S (_ ∷ O) p.1.1 in
      let l = p.2 in
      let m = q.2 in
      let n = own (trees.IfElse at o e c st otherwise other) in
      let next = after_statement st (numbered s) in
      let first = typed_statement w st (numbered s) in
      let second = typed_statement w other next in
      one_fine n (three (condition s at e) (alone first) (alone second) (λ x a b. fits (tree.If s.next x a b)))
      (holds_both (Fine (length T)) (λ p. OneFine (length S) p.0 × OneFine (length O) p.1) (OneFine n)
      (condition s at e) (pair (alone first) (alone second)) (λ x p. fits (tree.If s.next x p.0 p.1))
      (condition_fine (length T) s at e (expression_fine s e is.0 p.0))
      (holds_pair (OneFine (length S)) (OneFine (length O)) (alone first) (alone second)
      (own_list st first (statement_fine w st (numbered s) is.1 q.0))
      (own_list other second (statement_fine w other next is.4 q.1.1)))
      (λ x p u v. let i = u.0 in let j = v.0.0 in let k = v.1.0 in
      (omega (arith, l, m, i, j, k), (u.1, v.0.1, v.1.1))))
  statement_fine w (trees.Switch at o e c begin items end) s is h =
      let T = expr_tokens e in
      let I = stmts_tokens items in
      let p = cut T (_ ∷ _ ∷ (I ++ _ ∷ [])) h.1.1 in
      let q = cut I (_ ∷ []) p.1.1.1 in
      let l = p.2 in
      let m = q.2 in
      let g = with_labels s 0 items in
      let n = own (trees.Switch at o e c begin items end) in
      let value = if_fits (typed_expression s e) (λ x. selected (value_type x) at x) in
      let labels = typed_labels [] (given_labels s 0 items) in
      let body = typed_statements (in_switch w) items (entered (numbered s)) in
      let many = length (given_labels s 0 items) in
      one_fine n (three value labels body (λ x ls b. fits (tree.Switch s.next x ls b)))
      (holds_both (Fine (length T)) (λ p. LabelsFine many p.0 × RowFine (total_own items) p.1) (OneFine n) value
      (pair labels body) (λ x p. fits (tree.Switch s.next x p.0 p.1))
      (holds_if (Fine (length T)) (Fine (length T)) (typed_expression s e) (λ x. selected (value_type x) at x)
      (expression_fine s e is.0 p.0) (λ x u. selected_fine (length T) (value_type x) at x u))
      (holds_pair (LabelsFine many) (RowFine (total_own items)) labels body
      (labels_fine [] (given_labels s 0 items) (labels_given s 0 items is.1 q.0))
      (cases_fine (in_switch w) items (entered (numbered s)) is.1 q.0))
      (λ x p u v. let i = u.0 in let j = v.0.0 in let k = v.1.0 in
      (omega (arith, l, m, g, i, j, k), (u.1, All-from_recursion LabelFine p.0 v.0.1, v.1.1))))
  statement_fine w (trees.While at o e c st) s is h =
      let T = expr_tokens e in
      let S = stmt_tokens st in
      let p = cut T (_ ∷ S) h.1.1 in
      let l = p.2 in
      let n = own (trees.While at o e c st) in
      let body = typed_statement (in_loop w) st (numbered s) in
      one_fine n (both (condition s at e) (alone body) (λ x a. fits (tree.While s.next x a)))
      (holds_both (Fine (length T)) (OneFine (length S)) (OneFine n) (condition s at e) (alone body)
      (λ x a. fits (tree.While s.next x a)) (condition_fine (length T) s at e (expression_fine s e is.0 p.0))
      (own_list st body (statement_fine (in_loop w) st (numbered s) is.1 p.1.1))
      (λ x a u v. let i = u.0 in let j = v.0 in (omega (arith, l, i, j), (u.1, v.1))))
  statement_fine w (trees.Do at st until o e c semicolon) s is h =
      let T = expr_tokens e in
      let S = stmt_tokens st in
      let p = cut S (_ ∷ _ ∷ (T ++ _ ∷ _ ∷ [])) h.1 in
      let q = cut T (_ ∷ _ ∷ []) p.1.1.1 in
      let l = p.2 in
      let m = q.2 in
      let n = own (trees.Do at st until o e c semicolon) in
      let body = typed_statement (in_loop w) st (numbered s) in
      one_fine n (both (alone body) (condition s until e) (λ a x. fits (tree.Do s.next a x)))
      (holds_both (OneFine (length S)) (Fine (length T)) (OneFine n) (alone body) (condition s until e)
      (λ a x. fits (tree.Do s.next a x)) (own_list st body (statement_fine (in_loop w) st (numbered s) is.0 p.0))
      (condition_fine (length T) s until e (expression_fine s e is.2 q.0))
      (λ a x u v. let i = u.0 in let j = v.0 in (omega (arith, l, m, i, j), (u.1, v.1))))
  statement_fine w (trees.For at o start first e second step c st) s is h =
      let A = maybe_expr_tokens start in
      let B = maybe_expr_tokens e in
      let C = maybe_expr_tokens step in
      let S = stmt_tokens st in
      let p = cut A (_ ∷ (B ++ _ ∷ (C ++ _ ∷ S))) h.1.1 in
      let q = cut B (_ ∷ (C ++ _ ∷ S)) p.1.1 in
      let r = cut C (_ ∷ S) q.1.1 in
      let i = p.2 in
      let j = q.2 in
      let k = r.2 in
      let n = own (trees.For at o start first e second step c st) in
      let body = typed_statement (in_loop w) st (numbered s) in
      for_fine s.next (length A) (length B) (length C) (length S) n
      (if_fits (typed_if_any s start) (λ x. fits (first_part x))) (condition_if_any s at e) (typed_if_any s step)
      (alone body) (omega (arith, i, j, k))
      (holds_if (OptionFine (length A)) (FirstFine (length A)) (typed_if_any s start) (λ x. fits (first_part x))
      (if_any_fine s start is.0 p.0) (λ x u. first_fine (length A) x u))
      (condition_any_fine s at e is.1 q.0) (if_any_fine s step is.2 r.0)
      (own_list st body (statement_fine (in_loop w) st (numbered s) is.3 r.1.1))
  statement_fine w (trees.ForDeclaration at o start e second step c st) s is h =
      let outside = entered (numbered s) in
      let inside = after_declaration InFor start outside in
      let A = declaration_tokens start in
      let B = maybe_expr_tokens e in
      let C = maybe_expr_tokens step in
      let S = stmt_tokens st in
      let p = cut A (B ++ _ ∷ (C ++ _ ∷ S)) h.1.1 in
      let q = cut B (_ ∷ (C ++ _ ∷ S)) p.1 in
      let r = cut C (_ ∷ S) q.1.1 in
      let i = p.2 in
      let j = q.2 in
      let k = r.2 in
      let n = own (trees.ForDeclaration at o start e second step c st) in
      let body = typed_statement (in_loop w) st inside in
      for_fine s.next (length A) (length B) (length C) (length S) n
      (if_fits (typed_declaration InFor start outside) (λ items. fits (tree.Declared items)))
      (condition_if_any inside at e) (typed_if_any inside step) (alone body) (omega (arith, i, j, k))
      (holds_if (ItemsFine (length A)) (FirstFine (length A)) (typed_declaration InFor start outside)
      (λ items. fits (tree.Declared items)) (declaration_fine InFor start outside is.0 p.0) (λ items u.
      let t = items_sum items in let a = u.0 in
      (omega (arith, t, a), All-from_recursion ItemHasWords items u.1)))
      (condition_any_fine inside at e is.1 q.0) (if_any_fine inside step is.2 r.0)
      (own_list st body (statement_fine (in_loop w) st inside is.3 r.1.1))
  statement_fine w (trees.Break at semicolon) s is h =
      jump_fine 2 w.breaks at (tree.Break s.next) (omega arith, tt)
  statement_fine w (trees.Continue at semicolon) s is h =
      jump_fine 2 w.continues at (tree.Continue s.next) (omega arith, tt)
  statement_fine w (trees.Return at e semicolon) s is h =
      let T = maybe_expr_tokens e in
      let p = cut T (_ ∷ []) h.1 in
      let l = p.2 in
      let n = own (trees.Return at e semicolon) in
      one_fine n (if_fits (typed_if_any s e) (λ x. if_fits (returned w.result at x) (λ y.
      fits (tree.Return s.next y))))
      (holds_if (OptionFine (length T)) (OneFine n) (typed_if_any s e) (λ x.
      if_fits (returned w.result at x) (λ y. fits (tree.Return s.next y))) (if_any_fine s e is p.0) (λ x u.
      holds_if (OptionFine (length T)) (OneFine n) (returned w.result at x) (λ y. fits (tree.Return s.next y))
      (returned_fine (length T) w.result at x u) (λ y v. let a = v.0 in (omega (arith, l, a), v.1))))

  pub items_fine : (w : Around) (sts : Stmts) (s : Scope) → AreItems sts → HasInts (stmts_tokens sts)
      → IfFits (RowFine (total_own sts)) (typed_statements w sts s)
  items_fine w NoStmt s are h = (omega arith, tt)
  items_fine w (OneStmt st others) s are h =
      let p = cut (stmt_tokens st) (stmts_tokens others) h in
      holds_both (ListFine (own st)) (RowFine (total_own others)) (RowFine (own st + total_own others))
      (typed_statement w st s) (typed_statements w others (after_statement st s))
      (λ sts rest. fits (row_before sts rest)) (statement_fine w st s are.0 p.0)
      (items_fine w others (after_statement st s) are.2 p.1)
      (λ sts rest u v. row_fine (own st) (total_own others) (own st + total_own others) sts rest (omega arith) u v)

  cases_fine : (w : Around) (sts : Stmts) (s : Scope) → AreCases sts → HasInts (stmts_tokens sts)
      → IfFits (RowFine (total_own sts)) (typed_statements w sts s)
  cases_fine w NoStmt s are h = (omega arith, tt)
  cases_fine w (OneStmt st others) s are h =
      let p = cut (stmt_tokens st) (stmts_tokens others) h in
      holds_both (ListFine (own st)) (RowFine (total_own others)) (RowFine (own st + total_own others))
      (typed_statement w st s) (typed_statements w others (after_statement st s))
      (λ sts rest. fits (row_before sts rest)) (statement_fine w st s are.0 p.0)
      (cases_fine w others (after_statement st s) are.2 p.1)
      (λ sts rest u v. row_fine (own st) (total_own others) (own st + total_own others) sts rest (omega arith) u v)
