-- Statements that fit name only locals that are declared before them in the text, in a block that isn't left.
use Rattle.std.proofs.Common.{◌≡◌, refl, sym, subst, ◌∙◌, ℕ, Bool, true, false, List, [], ◌∷◌, map}
use Rattle.std.specs.Prelude.{Option, Some, None, IfSome}
use Rattle.std.specs.List.{AllByRecursion}
use Rattle.pcc_base.specs.declared.span.Span.{Span}
use Rattle.c_syntax.specs.Statements as trees
use Rattle.c_syntax.specs.Statements.{Stmt, Stmts, NoStmt, OneStmt}
use Rattle.c_syntax.specs.StatementTokens.{IsStmt, IsPlain, IsCase, AreCases}
use Rattle.c_tree.specs.declared.types.ValueType.{ValueType}
use Rattle.c_tree.specs.declared.types.ValueType.TheVariants.{Void, Integer, Pointer}
use Rattle.c_tree.specs.Program as tree
use Rattle.c_tree.specs.Program.{Expression, Item, First, Statement, Statements, Done, Next, value_type}
use Rattle.c_typing.specs.Types.{InBlock, InFor}
use Rattle.c_typing.specs.Checked.{Checked, Fits, Fails, fits, if_fits, pair, both, three}
use Rattle.c_typing.specs.Expressions.{typed_expression, typed_if_any}
use Rattle.c_typing.specs.Names.{Binding, Scope, entered, numbered}
use Rattle.c_typing.specs.Rows.{assigned, selected}
use Rattle.c_typing.specs.Statements.{after_declaration, after_statement, typed_declaration}
use Rattle.c_typing.specs.Statements.{given_labels, typed_labels, Around, in_loop, in_switch, jump, returned, condition}
use Rattle.c_typing.specs.Statements.{condition_if_any, first_part, row_before, as_one, alone, one, for_loop}
use Rattle.c_typing.specs.Statements.{typed_statement, typed_statements}
use Rattle.c_typing.proofs.CountUp.{IfFits, holds_if, holds_pair, holds_both, Always, always}
use Rattle.c_check_laws.proofs.Growing.{Each, items_each, cases_each}
use Rattle.flow_graph.specs.Graphs.{IsIn}
use Rattle.lower_laws.specs.Declared.{NamesOnly, ItemsNameOnly, known_behind, known_first, FirstNamesOnly}
use Rattle.lower_laws.specs.Declared.{known_then, DeclareNothing, DeclaresFirst, DeclareFirst}
use Rattle.pcc_program.proofs.DeclaredFirstExpressions.{Knows, Sees, assigned_names, selected_names, expression_names}
use Rattle.pcc_program.proofs.DeclaredFirstExpressions.{if_any_names, condition_names, condition_if_names}
use Rattle.pcc_program.proofs.DeclaredFirstItems.{pair_then, both_then, Behind, declaration_behind}

-- ---- what is seen behind a statement that is no declaration

names_plain : (st : Stmt) → IsStmt st → IsPlain st → (s : Scope) → (after_statement st s).names ≡ s.names
names_plain (trees.Declared d) h p s = absurd p
names_plain (trees.Labelled labels st) h p s = absurd p
names_plain (trees.Block o items c) h p s = refl
names_plain (trees.Simple e semicolon) h p s = refl
names_plain (trees.If at o e c st) h p s = names_plain st h.1 h.2 (numbered s)
names_plain (trees.IfElse at o e c st otherwise other) h p s =
    names_plain other h.4 h.5 (after_statement st (numbered s)) ∙ names_plain st h.1 h.2 (numbered s)
names_plain (trees.Switch at o e c begin items end) h p s = refl
names_plain (trees.While at o e c st) h p s = names_plain st h.1 h.2 (numbered s)
names_plain (trees.Do at st until o e c semicolon) h p s = names_plain st h.0 h.1 (numbered s)
names_plain (trees.For at o start first e second step c st) h p s = names_plain st h.3 h.4 (numbered s)
names_plain (trees.ForDeclaration at o start e second step c st) h p s = refl
names_plain (trees.Break at semicolon) h p s = refl
names_plain (trees.Continue at semicolon) h p s = refl
names_plain (trees.Return at e semicolon) h p s = refl

knows_plain : (known : List ℕ) (st : Stmt) → IsStmt st → IsPlain st → (s : Scope) → Knows known s
    → Knows known (after_statement st s)
knows_plain known st h p s k =
    subst (λ (bs : List Binding). Sees (λ v. IsIn v known) bs) (sym (names_plain st h p s)) k

-- ---- the statements that a statement is

-- the statement is no declared item
abbrev pub IsNone : Statement → Type 0
IsNone st = DeclareNothing (Next st Done)

none_same : (known : List ℕ) (st : Statement) → IsNone st → known_then known st ≡ known
none_same known (tree.Declare item) h = absurd h
none_same known (tree.Empty n) h = refl
none_same known (tree.Evaluate n e) h = refl
none_same known (tree.Block body) h = refl
none_same known (tree.If n e a b) h = refl
none_same known (tree.While n e st) h = refl
none_same known (tree.Do n st e) h = refl
none_same known (tree.For n first test after st) h = refl
none_same known (tree.Switch n e labels body) h = refl
none_same known (tree.Break n) h = refl
none_same known (tree.Continue n) h = refl
none_same known (tree.Return n value) h = refl

none_on : (st : Statement) (rest : Statements) → IsNone st → DeclareNothing rest → DeclareNothing (Next st rest)
none_on (tree.Declare item) rest h g = absurd h
none_on (tree.Empty n) rest h g = g
none_on (tree.Evaluate n e) rest h g = g
none_on (tree.Block body) rest h g = g
none_on (tree.If n e a b) rest h g = g
none_on (tree.While n e st) rest h g = g
none_on (tree.Do n st e) rest h g = g
none_on (tree.For n first test after st) rest h g = g
none_on (tree.Switch n e labels body) rest h g = g
none_on (tree.Break n) rest h g = g
none_on (tree.Continue n) rest h g = g
none_on (tree.Return n value) rest h g = g

abbrev pub known_list : List ℕ → List Statement → List ℕ
known_list known [] = known
known_list known (st ∷ sts) = known_list (known_then known st) sts

abbrev pub ListNames : List ℕ → List Statement → Type 0
ListNames known [] = Unit {0}
ListNames known (st ∷ sts) = DeclaresFirst known st × ListNames (known_then known st) sts

-- a raw statement that is no declaration
abbrev pub IsStatement : Stmt → Type 0
IsStatement (trees.Declared d) = ⊥
IsStatement st = Unit {0}

plain_is : (st : Stmt) → IsPlain st → IsStatement st
plain_is (trees.Declared d) p = p
plain_is st p = tt

case_is : (st : Stmt) → IsCase st → IsStatement st
case_is (trees.Declared d) c = c
case_is st c = tt

-- Statements declare first, and in the scope behind them what they declare is known too; where the raw statement is
-- no declaration, none of them is a declared item.
pub record Are (known : List ℕ) (raw : Stmt) (t : Scope) (sts : List Statement) : Type 0 where
  pub names : ListNames known sts
  pub knows : Knows (known_list known sts) t
  pub nones : IsStatement raw → AllByRecursion IsNone sts

-- a statement that is no declared item declares first
abbrev Is : List ℕ → Statement → Type 0
Is known st = DeclaresFirst known st × IsNone st

one_are : (known : List ℕ) (raw : Stmt) (t : Scope) → Knows known t → (c : Checked Statement) → IfFits (Is known) c
    → IfFits (Are known raw t) (one c)
one_are known raw t k c h =
    holds_if (Is known) (Are known raw t) c (λ st. fits (st ∷ [])) h (λ st x. record {
      names = (x.0, tt);
      knows = subst (λ (xs : List ℕ). Knows xs t) (sym (none_same known st x.1)) k;
      nones = λ p. (x.1, tt);
    })

-- labels before a statement change nothing
labelled_are : (known : List ℕ) (raw other : Stmt) (t : Scope) → IsStatement raw → (c : Checked (List Statement))
    → IfFits (Are known raw t) c → IfFits (Are known other t) c
labelled_are known raw other t is (Fits sts ns) h = record { names = h.names; knows = h.knows; nones = λ p. h.nones is }
labelled_are known raw other t is (Fails f fs) h = tt

row_names : (known : List ℕ) (sts : List Statement) (rest : Statements) → ListNames known sts
    → DeclareFirst (known_list known sts) rest → DeclareFirst known (row_before sts rest)
row_names known [] rest h g = g
row_names known (st ∷ sts) rest h g = (h.0, row_names (known_then known st) sts rest h.1 g)

as_one_names : (known : List ℕ) (sts : List Statement) → ListNames known sts → DeclaresFirst known (as_one sts)
as_one_names known [] h = tt
as_one_names known (st ∷ []) h = h.0
as_one_names known (st ∷ (other ∷ sts)) h = row_names known (st ∷ (other ∷ sts)) Done h tt

alone_names : (known : List ℕ) (raw : Stmt) (t : Scope) (c : Checked (List Statement)) → IfFits (Are known raw t) c
    → IfFits (DeclaresFirst known) (alone c)
alone_names known raw t c h =
    holds_if (Are known raw t) (DeclaresFirst known) c (λ sts. fits (as_one sts)) h
    (λ sts x. as_one_names known sts x.names)

declares_names : (known : List ℕ) (is : List Item) → ItemsNameOnly known is → ListNames known (map tree.Declare is)
declares_names known [] h = tt
declares_names known (i ∷ is) h = (h.0, declares_names (known_then known (tree.Declare i)) is h.1)

declares_known : (known : List ℕ) (is : List Item) → known_list known (map tree.Declare is) ≡ known_behind known is
declares_known known [] = refl
declares_known known (i ∷ is) = declares_known (known_then known (tree.Declare i)) is

-- ---- the statements of a block

-- each raw statement has labels before it
abbrev pub IsRow : List ℕ → Stmts → Statements → Type 0
IsRow known raw body = DeclareFirst known body × (AreCases raw → DeclareNothing body)

nones_on : (sts : List Statement) (rest : Statements) → AllByRecursion IsNone sts → DeclareNothing rest
    → DeclareNothing (row_before sts rest)
nones_on [] rest h g = g
nones_on (st ∷ sts) rest h g = none_on st (row_before sts rest) h.0 (nones_on sts rest h.1 g)

-- ---- what stands in a statement beside other statements

jump_is : (known : List ℕ) (may : Bool) (at : Span) (st : Statement) → Is known st → IfFits (Is known) (jump may at st)
jump_is known true at st h = h
jump_is known false at st h = tt

abbrev Maybe : List ℕ → Option Expression → Type 0
Maybe known o = IfSome o (NamesOnly known)

returned_names : (known : List ℕ) (of : ValueType) (at : Span) (o : Option Expression) → Maybe known o
    → IfFits (Maybe known) (returned of at o)
returned_names known Void at None h = tt
returned_names known Void at (Some e) h = tt
returned_names known (Integer t) at None h = tt
returned_names known (Integer t) at (Some e) h =
    holds_if (NamesOnly known) (Maybe known) (assigned (Integer t) at e) (λ x. fits (Some x))
    (assigned_names known (Integer t) at e h) (λ x u. u)
returned_names known (Pointer t) at None h = tt
returned_names known (Pointer t) at (Some e) h =
    holds_if (NamesOnly known) (Maybe known) (assigned (Pointer t) at e) (λ x. fits (Some x))
    (assigned_names known (Pointer t) at e h) (λ x u. u)

-- the first part of a `for`, and the scope behind it
abbrev FirstBehind : List ℕ → Scope → First → Type 0
FirstBehind known t first = FirstNamesOnly known first × Knows (known_first known first) t

first_behind : (known : List ℕ) (s : Scope) (o : Option Expression) → Knows known s → Maybe known o
    → FirstBehind known s (first_part o)
first_behind known s None k h = (tt, k)
first_behind known s (Some e) k h = (h, k)

for_are : (known : List ℕ) (raw : Stmt) (inside t : Scope) (n : ℕ) (a : Checked First)
    (b c : Checked (Option Expression)) (d : Checked Statement) → Knows known t → IfFits (FirstBehind known inside) a
    → ((xs : List ℕ) → Knows xs inside → IfFits (Maybe xs) b) → ((xs : List ℕ) → Knows xs inside → IfFits (Maybe xs) c)
    → ((xs : List ℕ) → Knows xs inside → IfFits (DeclaresFirst xs) d) → IfFits (Are known raw t) (for_loop n a b c d)
for_are known raw inside t n a b c d k first test step body =
    let in_first : First → List ℕ = λ f. known_first known f in
    let P : First × Option Expression → Type 0 = λ p. FirstBehind known inside p.0 × Maybe (in_first p.0) p.1 in
    let Q : First × Option Expression → Option Expression × Statement → Type 0 =
    λ p q. Maybe (in_first p.0) q.0 × DeclaresFirst (in_first p.0) q.1 in
    both_then P Q (Are known raw t) (pair a b) (pair c d) (λ x y. fits (tree.For n x.0 x.1 y.0 y.1 ∷ []))
    (pair_then (FirstBehind known inside) (λ f. Maybe (in_first f)) a b first (λ f h. test (in_first f) h.1))
    (λ p h. holds_pair (Maybe (in_first p.0)) (DeclaresFirst (in_first p.0)) c d (step (in_first p.0) h.0.1)
    (body (in_first p.0) h.0.1))
    (λ x y h g. record { names = ((h.0.0, h.1, g.0, g.1), tt); knows = k; nones = λ p. (tt, tt) })

-- ---- every statement

mutual
  pub statement_are : (w : Around) (st : Stmt) → IsStmt st → (known : List ℕ) (s : Scope) → Knows known s
      → IfFits (Are known st (after_statement st s)) (typed_statement w st s)
  statement_are w (trees.Declared d) h known s k =
      let t = after_declaration InBlock d s in
      holds_if (Behind known t) (Are known (trees.Declared d) t) (typed_declaration InBlock d s)
      (λ items. fits (map tree.Declare items)) (declaration_behind known InBlock d s k) (λ is x. record {
        names = declares_names known is x.0;
        knows = subst (λ (xs : List ℕ). Knows xs t) (sym (declares_known known is)) x.1;
        nones = λ p. absurd p;
      })
  statement_are w (trees.Labelled labels st) h known s k =
      labelled_are known st (trees.Labelled labels st) (after_statement st s) (plain_is st h.2) (typed_statement w st s)
      (statement_are w st h.1 known s k)
  statement_are w (trees.Block o items c) h known s k =
      let raw = trees.Block o items c in
      let body = typed_statements w items (entered s) in
      one_are known raw (after_statement raw s) k (if_fits body (λ b. fits (tree.Block b)))
      (holds_if (IsRow known items) (Is known) body (λ b. fits (tree.Block b))
      (statements_are w items (items_each items h) known (entered s) k) (λ b x. (x.0, tt)))
  statement_are w (trees.Simple None semicolon) h known s k =
      one_are known (trees.Simple None semicolon) (numbered s) k (fits (tree.Empty s.next)) (tt, tt)
  statement_are w (trees.Simple (Some e) semicolon) h known s k =
      one_are known (trees.Simple (Some e) semicolon) (numbered s) k
      (if_fits (typed_expression s e) (λ x. fits (tree.Evaluate s.next x)))
      (holds_if (NamesOnly known) (Is known) (typed_expression s e) (λ x. fits (tree.Evaluate s.next x))
      (expression_names known s k e) (λ x u. (u, tt)))
  statement_are w (trees.If at o e c st) h known s k =
      let raw = trees.If at o e c st in
      let n = numbered s in
      let t = after_statement st n in
      let body = alone (typed_statement w st n) in
      one_are known raw t (knows_plain known st h.1 h.2 n k)
      (both (condition s at e) body (λ x a. fits (tree.If s.next x a (tree.Block Done))))
      (holds_both (NamesOnly known) (DeclaresFirst known) (Is known) (condition s at e) body
      (λ x a. fits (tree.If s.next x a (tree.Block Done))) (condition_names known s k at e)
      (alone_names known st t (typed_statement w st n) (statement_are w st h.1 known n k))
      (λ x a u v. ((u, v, tt), tt)))
  statement_are w (trees.IfElse at o e c st otherwise other) h known s k =
      let raw = trees.IfElse at o e c st otherwise other in
      let n = numbered s in
      let t = after_statement st n in
      let first = alone (typed_statement w st n) in
      let second = alone (typed_statement w other t) in
      let between = knows_plain known st h.1 h.2 n k in
      one_are known raw (after_statement other t) (knows_plain known other h.4 h.5 t between)
      (three (condition s at e) first second (λ x a b. fits (tree.If s.next x a b)))
      (holds_both (NamesOnly known) (λ p. DeclaresFirst known p.0 × DeclaresFirst known p.1) (Is known)
      (condition s at e) (pair first second) (λ x p. fits (tree.If s.next x p.0 p.1)) (condition_names known s k at e)
      (holds_pair (DeclaresFirst known) (DeclaresFirst known) first second
      (alone_names known st t (typed_statement w st n) (statement_are w st h.1 known n k))
      (alone_names known other (after_statement other t) (typed_statement w other t)
      (statement_are w other h.4 known t between))) (λ x p u v. ((u, v.0, v.1), tt)))
  statement_are w (trees.Switch at o e c begin items end) h known s k =
      let raw = trees.Switch at o e c begin items end in
      let value = if_fits (typed_expression s e) (λ x. selected (value_type x) at x) in
      let labels = typed_labels [] (given_labels s 0 items) in
      let body = typed_statements (in_switch w) items (entered (numbered s)) in
      one_are known raw (after_statement raw s) k
      (three value labels body (λ x ls b. fits (tree.Switch s.next x ls b)))
      (holds_both (NamesOnly known) (λ p. Always p.0 × IsRow known items p.1) (Is known) value (pair labels body)
      (λ x p. fits (tree.Switch s.next x p.0 p.1))
      (holds_if (NamesOnly known) (NamesOnly known) (typed_expression s e) (λ x. selected (value_type x) at x)
      (expression_names known s k e) (λ x u. selected_names known (value_type x) at x u))
      (holds_pair Always (IsRow known items) labels body (always labels)
      (statements_are (in_switch w) items (cases_each items h.1) known (entered (numbered s)) k))
      (λ x p u v. ((u, v.1.1 h.1, v.1.0), tt)))
  statement_are w (trees.While at o e c st) h known s k =
      let raw = trees.While at o e c st in
      let n = numbered s in
      let t = after_statement st n in
      let body = alone (typed_statement (in_loop w) st n) in
      one_are known raw t (knows_plain known st h.1 h.2 n k)
      (both (condition s at e) body (λ x a. fits (tree.While s.next x a)))
      (holds_both (NamesOnly known) (DeclaresFirst known) (Is known) (condition s at e) body
      (λ x a. fits (tree.While s.next x a)) (condition_names known s k at e)
      (alone_names known st t (typed_statement (in_loop w) st n) (statement_are (in_loop w) st h.1 known n k))
      (λ x a u v. ((u, v), tt)))
  statement_are w (trees.Do at st until o e c semicolon) h known s k =
      let raw = trees.Do at st until o e c semicolon in
      let n = numbered s in
      let t = after_statement st n in
      let body = alone (typed_statement (in_loop w) st n) in
      one_are known raw t (knows_plain known st h.0 h.1 n k)
      (both body (condition s until e) (λ a x. fits (tree.Do s.next a x)))
      (holds_both (DeclaresFirst known) (NamesOnly known) (Is known) body (condition s until e)
      (λ a x. fits (tree.Do s.next a x))
      (alone_names known st t (typed_statement (in_loop w) st n) (statement_are (in_loop w) st h.0 known n k))
      (condition_names known s k until e) (λ a x u v. ((u, v), tt)))
  statement_are w (trees.For at o start first e second step c st) h known s k =
      let raw = trees.For at o start first e second step c st in
      let n = numbered s in
      let t = after_statement st n in
      for_are known raw s t s.next (if_fits (typed_if_any s start) (λ x. fits (first_part x))) (condition_if_any s at e)
      (typed_if_any s step) (alone (typed_statement (in_loop w) st n)) (knows_plain known st h.3 h.4 n k)
      (holds_if (Maybe known) (FirstBehind known s) (typed_if_any s start) (λ x. fits (first_part x))
      (if_any_names known s k start) (λ x u. first_behind known s x k u))
      (λ xs l. condition_if_names xs s l at e) (λ xs l. if_any_names xs s l step)
      (λ xs l. alone_names xs st t (typed_statement (in_loop w) st n) (statement_are (in_loop w) st h.3 xs n l))
  statement_are w (trees.ForDeclaration at o start e second step c st) h known s k =
      let raw = trees.ForDeclaration at o start e second step c st in
      let n = entered (numbered s) in
      let inside = after_declaration InFor start n in
      let t = after_statement st inside in
      for_are known raw inside (after_statement raw s) s.next
      (if_fits (typed_declaration InFor start n) (λ items. fits (tree.Declared items))) (condition_if_any inside at e)
      (typed_if_any inside step) (alone (typed_statement (in_loop w) st inside)) k
      (holds_if (Behind known inside) (FirstBehind known inside) (typed_declaration InFor start n)
      (λ items. fits (tree.Declared items)) (declaration_behind known InFor start n k) (λ is x. x))
      (λ xs l. condition_if_names xs inside l at e) (λ xs l. if_any_names xs inside l step)
      (λ xs l. alone_names xs st t (typed_statement (in_loop w) st inside)
      (statement_are (in_loop w) st h.3 xs inside l))
  statement_are w (trees.Break at semicolon) h known s k =
      one_are known (trees.Break at semicolon) (numbered s) k (jump w.breaks at (tree.Break s.next))
      (jump_is known w.breaks at (tree.Break s.next) (tt, tt))
  statement_are w (trees.Continue at semicolon) h known s k =
      one_are known (trees.Continue at semicolon) (numbered s) k (jump w.continues at (tree.Continue s.next))
      (jump_is known w.continues at (tree.Continue s.next) (tt, tt))
  statement_are w (trees.Return at e semicolon) h known s k =
      one_are known (trees.Return at e semicolon) (numbered s) k
      (if_fits (typed_if_any s e) (λ x. if_fits (returned w.result at x) (λ y. fits (tree.Return s.next y))))
      (holds_if (Maybe known) (Is known) (typed_if_any s e)
      (λ x. if_fits (returned w.result at x) (λ y. fits (tree.Return s.next y))) (if_any_names known s k e) (λ x u.
      holds_if (Maybe known) (Is known) (returned w.result at x) (λ y. fits (tree.Return s.next y))
      (returned_names known w.result at x u) (λ y v. (v, tt))))

  pub statements_are : (w : Around) (sts : Stmts) → Each sts → (known : List ℕ) (s : Scope) → Knows known s
      → IfFits (IsRow known sts) (typed_statements w sts s)
  statements_are w NoStmt h known s k = (tt, λ c. tt)
  statements_are w (OneStmt st others) h known s k =
      let t = after_statement st s in
      both_then (Are known st t) (λ sts. IsRow (known_list known sts) others) (IsRow known (OneStmt st others))
      (typed_statement w st s) (typed_statements w others t) (λ sts rest. fits (row_before sts rest))
      (statement_are w st h.0 known s k) (λ sts x. statements_are w others h.1 (known_list known sts) t x.knows)
      (λ sts rest x y. (
        row_names known sts rest x.names y.0,
        λ c. nones_on sts rest (x.nones (case_is st c.1)) (y.1 c.2),
      ))
