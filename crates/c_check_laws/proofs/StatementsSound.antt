-- Statements that fit are well typed, and what is seen behind them is there.
use Rattle.std.proofs.Common.{◌≡◌, refl, sym, subst, ℕ, Bool, true, false, List, [], ◌∷◌, map}
use Rattle.std.specs.Prelude.{Option, Some, None, IfSome}
use Rattle.std.specs.List.{AllByRecursion}
use Rattle.pcc_base.specs.declared.span.Span.{Span}
use Rattle.c_syntax.specs.Expressions.{Expr}
use Rattle.c_syntax.specs.Statements as trees
use Rattle.c_syntax.specs.Statements.{Stmt, Stmts, NoStmt, OneStmt}
use Rattle.c_syntax.specs.StatementTokens.{IsStmt}
use Rattle.c_tree.specs.declared.statement.Label.{Label}
use Rattle.c_tree.specs.declared.types.ValueType.{ValueType}
use Rattle.c_tree.specs.declared.types.ValueType.TheVariants.{Void, Integer, Pointer}
use Rattle.c_tree.specs.Program as tree
use Rattle.c_tree.specs.Program.{value_type, Expression, Item, First, Statement, Statements, Done, Next}
use Rattle.c_tree.specs.WellTyped.{IsAssigned, IsCondition, IsItem, IsFirst, CanReturn, count_of, AreLabels}
use Rattle.c_tree.specs.WellTyped.{IsStatement}
use Rattle.c_tree.specs.WellTyped.{AreStatements}
use Rattle.c_typing.specs.Types.{InBlock, InFor}
use Rattle.c_typing.specs.Checked.{Checked, Fits, Fails, fits, if_fits, pair, both, three}
use Rattle.c_typing.specs.Expressions.{typed_expression, typed_if_any}
use Rattle.c_typing.specs.Names.{Scope, entered, left, numbered}
use Rattle.c_typing.specs.Rows.{assigned, tested, selected}
use Rattle.c_typing.specs.Statements.{after_declaration, after_statement, after_statements, given_labels, typed_labels}
use Rattle.c_typing.specs.Statements.{Around, in_loop, in_switch, jump, returned, condition, condition_if_any}
use Rattle.c_typing.specs.Statements.{first_part}
use Rattle.c_typing.specs.Statements.{row_before, as_one, alone, one, for_loop, typed_declaration, typed_statement}
use Rattle.c_typing.specs.Statements.{typed_statements}
use Rattle.c_typing.proofs.CountUp.{IfFits}
use Rattle.c_check_laws.proofs.Setting.{Setting, Sound, sound_fits, sound_if, sound_pair, sound_both, sound_then}
use Rattle.c_check_laws.proofs.Setting.{sound_weaker}
use Rattle.c_check_laws.proofs.RowsSound.{Good, IsSelected, assigned_sound, tested_sound, selected_sound}
use Rattle.c_check_laws.proofs.ExpressionsSound.{Sees, Any, typed_sound, if_any_sound}
use Rattle.c_check_laws.proofs.Growing.{Each, items_each, cases_each, grows_statement, grows_statements}
use Rattle.c_check_laws.proofs.ItemsSound.{Within, within_before, Items, all_by, declaration_sound}
use Rattle.c_check_laws.proofs.LabelsSound.{number_of, labels_right, cases_count, labels_sound}

module _ (w : Setting) (f : tree.Function) where
  pub condition_sound : (s : Scope) (at : Span) (e : Expr)
      → Sound w (Sees w f s) (IsCondition w.program f) (condition s at e)
  condition_sound s at e =
      sound_if w (Sees w f s) (Good w f) (IsCondition w.program f) (typed_expression s e) (tested at)
      (typed_sound w f s e) (λ x z. tested_sound w f (Sees w f s × Good w f x) at x (λ h. h.1))

  -- a condition where there is one
  abbrev MaybeCondition : Option Expression → Type 0
  MaybeCondition o = IfSome o (IsCondition w.program f)

  condition_if_sound : (s : Scope) (at : Span) (o : Option Expr)
      → Sound w (Sees w f s) MaybeCondition (condition_if_any s at o)
  condition_if_sound s at None = sound_fits w {A = Option Expression} (Sees w f s) MaybeCondition None (λ y. tt)
  condition_if_sound s at (Some e) =
      sound_if w (Sees w f s) (IsCondition w.program f) MaybeCondition (condition s at e) (λ x. fits (Some x))
      (condition_sound s at e)
      (λ x z. sound_fits w (Sees w f s × IsCondition w.program f x) MaybeCondition (Some x) (λ h. h.1))

  returned_sound : (X : Type 0) (t : ValueType) (at : Span) (o : Option Expression) → (X → IfSome o (Good w f))
      → Sound w X (CanReturn w.program f t) (returned t at o)
  returned_sound X Void at None h = sound_fits w {A = Option Expression} X (CanReturn w.program f Void) None (λ x. tt)
  returned_sound X Void at (Some e) h = tt
  returned_sound X (Integer t) at None h = tt
  returned_sound X (Integer t) at (Some e) h =
      let P = IsAssigned w.program f (Integer t) in
      let Q = CanReturn w.program f (Integer t) in
      sound_if w X P Q (assigned (Integer t) at e) (λ x. fits (Some x)) (assigned_sound w f X (Integer t) at e h)
      (λ x z. sound_fits w (X × P x) Q (Some x) (λ y. y.1))
  returned_sound X (Pointer t) at None h = tt
  returned_sound X (Pointer t) at (Some e) h =
      let P = IsAssigned w.program f (Pointer t) in
      let Q = CanReturn w.program f (Pointer t) in
      sound_if w X P Q (assigned (Pointer t) at e) (λ x. fits (Some x)) (assigned_sound w f X (Pointer t) at e h)
      (λ x z. sound_fits w (X × P x) Q (Some x) (λ y. y.1))

  -- ---- statements in order

  abbrev pub AreAll : Bool → Bool → List Statement → Type 0
  AreAll b c sts = AllByRecursion (IsStatement w.program f b c) sts

  row_right : (b c : Bool) (sts : List Statement) (rest : Statements) → AreAll b c sts
      → AreStatements w.program f b c rest → AreStatements w.program f b c (row_before sts rest)
  row_right b c [] rest h k = k
  row_right b c (st ∷ sts) rest h k = (h.0, row_right b c sts rest h.1 k)

  one_right : (b c : Bool) (sts : List Statement) → AreAll b c sts → IsStatement w.program f b c (as_one sts)
  one_right b c [] h = tt
  one_right b c (st ∷ []) h = h.0
  one_right b c (st ∷ (other ∷ sts)) h = row_right b c (st ∷ (other ∷ sts)) Done h tt

  declares_right : (b c : Bool) (items : List Item) → AllByRecursion (IsItem w.program f) items
      → AreAll b c (map tree.Declare items)
  declares_right b c [] h = tt
  declares_right b c (i ∷ is) h = (h.0, declares_right b c is h.1)

  -- statements that are right, and what is seen behind them is there
  abbrev Are : Bool → Bool → Type 0 → List Statement → Type 0
  Are b c Y sts = AreAll b c sts × Y

  abbrev Is : Bool → Bool → Type 0 → Statement → Type 0
  Is b c Y st = IsStatement w.program f b c st × Y

  one_sound : (X : Type 0) (b c : Bool) (Y : Type 0) (part : Checked Statement) → Sound w X (Is b c Y) part
      → Sound w X (Are b c Y) (one part)
  one_sound X b c Y part h =
      sound_if w X (Is b c Y) (Are b c Y) part (λ st. fits (st ∷ [])) h
      (λ st z. sound_fits w (X × Is b c Y st) (Are b c Y) (st ∷ []) (λ x. ((x.1.0, tt), x.1.1)))

  -- a part that stands alone, where more is known than around it
  alone_sound : (X Z : Type 0) (b c : Bool) (Y : Type 0) (part : Checked (List Statement))
      → Sound w Z (Are b c Y) part → (X → Z) → Sound w X (Is b c Y) (alone part)
  alone_sound X Z b c Y part h on =
      sound_if w X (Are b c Y) (Is b c Y) part (λ sts. fits (as_one sts))
      (sound_weaker w Z X (Are b c Y) (Are b c Y) part h on (λ sts x p. p))
      (λ sts z. sound_fits w (X × Are b c Y sts) (Is b c Y) (as_one sts) (λ x. (one_right b c sts x.1.0, x.1.1)))

  jump_sound : (X : Type 0) (b c : Bool) (Y : Type 0) (may : Bool) (at : Span) (st : Statement)
      → (X → may ≡ true → Is b c Y st) → Sound w X (Are b c Y) (one (jump may at st))
  jump_sound X b c Y true at st h = one_sound X b c Y (fits st) (sound_fits w X (Is b c Y) st (λ x. h x refl))
  jump_sound X b c Y false at st h = tt

  -- what is seen is the same where a statement takes a number, and in a new scope
  sees_numbered : (s : Scope) → Sees w f s → Sees w f (numbered s)
  sees_numbered s y = record { holds = y.holds; numbers = y.numbers; names = y.names }

  sees_entered : (s : Scope) → Sees w f s → Sees w f (entered s)
  sees_entered s y = record { holds = y.holds; numbers = y.numbers; names = y.names }

  sees_left : (s t : Scope) → Sees w f s → Sees w f t → Sees w f (left s t)
  sees_left s t y z = record { holds = z.holds; numbers = z.numbers; names = y.names }

  within_left : (s t : Scope) → Within f (left s t) → Within f t
  within_left s t h = record {
    more_locals = h.more_locals;
    locals = h.locals;
    more_arrays = h.more_arrays;
    arrays = h.arrays;
  }

  for_sound : (X Y Z : Type 0) (b c : Bool) (n : ℕ) (first : Checked First) (test step : Checked (Option Expression))
      (body : Checked Statement) → Sound w X (λ q. IsFirst w.program f q × Y) first
      → Sound w Y MaybeCondition test → Sound w Y (λ o. IfSome o (Good w f)) step → Sound w Y (Is true true Z) body
      → Sound w X (Are b c Z) (for_loop n first test step body)
  for_sound X Y Z b c n first test step body h i j k =
      let P : First → Type 0 = λ q. IsFirst w.program f q × Y in
      let S : Option Expression → Type 0 = λ o. IfSome o (Good w f) in
      let A : First × Option Expression → Type 0 = λ p. P p.0 × MaybeCondition p.1 in
      let B : Option Expression × Statement → Type 0 = λ p. S p.0 × Is true true Z p.1 in
      sound_then w X Y A B (Are b c Z) (pair first test) (pair step body)
      (λ x y. fits (tree.For n x.0 x.1 y.0 y.1 ∷ []))
      (sound_pair w X Y P MaybeCondition first test h i (λ q x p. p.1))
      (sound_pair w Y Y S (Is true true Z) step body j k (λ o y p. y)) (λ p x q. q.0.1)
      (λ p q. sound_fits w (X × (A p × B q)) (Are b c Z) (tree.For n p.0 p.1 q.0 q.1 ∷ [])
      (λ x. (((x.1.0.0.0, x.1.0.1, x.1.1.0, x.1.1.1.0), tt), x.1.1.1.1)))

  first_right : (o : Option Expression) → IfSome o (Good w f) → IsFirst w.program f (first_part o)
  first_right None h = tt
  first_right (Some e) h = h

  sound_with : {A : Type 0} (X : Type 0) (P Q : A → Type 0) (c : Checked A) → Sound w X P c → IfFits Q c
      → Sound w X (λ a. P a × Q a) c
  sound_with X P Q (Fits a ns) h k = (h.0, λ x kept. (h.1 x kept, k))
  sound_with X P Q (Fails g gs) h k = tt

  mutual
    pub statement_sound : (a : Around) → f.result ≡ a.result → (st : Stmt) → IsStmt st → (s : Scope)
        → Within f (after_statement st s)
        → Sound w (Sees w f s) (Are a.breaks a.continues (Sees w f (after_statement st s))) (typed_statement a st s)
    statement_sound a r (trees.Declared d) h s v =
        let t = after_declaration InBlock d s in
        sound_if w (Sees w f s) (Items w f t) (Are a.breaks a.continues (Sees w f t)) (typed_declaration InBlock d s)
        (λ items. fits (map tree.Declare items)) (declaration_sound w f InBlock d h s v)
        (λ is z. sound_fits w (Sees w f s × Items w f t is) (Are a.breaks a.continues (Sees w f t))
        (map tree.Declare is) (λ x. (declares_right a.breaks a.continues is x.1.0, x.1.1)))
    statement_sound a r (trees.Labelled labels st) h s v = statement_sound a r st h.1 s v
    statement_sound a r (trees.Block o items c) h s v =
        let n = entered s in
        let t = after_statements items n in
        let X = Sees w f s in
        let Y = Sees w f (left s t) in
        let P : Statements → Type 0 = λ b.
        AreStatements w.program f a.breaks a.continues b × Sees w f t in
        one_sound X a.breaks a.continues Y (if_fits (typed_statements a items n) (λ body. fits (tree.Block body)))
        (sound_if w X P (Is a.breaks a.continues Y) (typed_statements a items n) (λ body. fits (tree.Block body))
        (sound_weaker w (Sees w f n) X P P (typed_statements a items n)
        (statements_sound a r items (items_each items h) n (within_left s t v)) (sees_entered s) (λ b y p. p))
        (λ b z. sound_fits w (X × P b) (Is a.breaks a.continues Y) (tree.Block b)
        (λ x. (x.1.0, sees_left s t x.0 x.1.1))))
    statement_sound a r (trees.Simple None semicolon) h s v =
        let Y = Sees w f (numbered s) in
        one_sound (Sees w f s) a.breaks a.continues Y (fits (tree.Empty s.next))
        (sound_fits w (Sees w f s) (Is a.breaks a.continues Y) (tree.Empty s.next) (λ x. (tt, sees_numbered s x)))
    statement_sound a r (trees.Simple (Some e) semicolon) h s v =
        let X = Sees w f s in
        let Y = Sees w f (numbered s) in
        one_sound X a.breaks a.continues Y (if_fits (typed_expression s e) (λ x. fits (tree.Evaluate s.next x)))
        (sound_if w X (Good w f) (Is a.breaks a.continues Y) (typed_expression s e)
        (λ x. fits (tree.Evaluate s.next x)) (typed_sound w f s e)
        (λ e z. sound_fits w (X × Good w f e) (Is a.breaks a.continues Y) (tree.Evaluate s.next e)
        (λ x. (x.1, sees_numbered s x.0))))
    statement_sound a r (trees.If at o e c st) h s v =
        let n = numbered s in
        let X = Sees w f s in
        let Y = Sees w f (after_statement st n) in
        let C = IsCondition w.program f in
        let I = Is a.breaks a.continues Y in
        let body = alone (typed_statement a st n) in
        one_sound X a.breaks a.continues Y (both (condition s at e) body (λ x b.
        fits (tree.If s.next x b (tree.Block Done))))
        (sound_both w X C I I (condition s at e) body (λ x b. fits (tree.If s.next x b (tree.Block Done)))
        (condition_sound s at e)
        (alone_sound X (Sees w f n) a.breaks a.continues Y (typed_statement a st n)
        (statement_sound a r st h.1 n v) (sees_numbered s))
        (λ x b. sound_fits w (X × (C x × I b)) I (tree.If s.next x b (tree.Block Done))
        (λ y. ((y.1.0, y.1.1.0, tt), y.1.1.1))))
    statement_sound a r (trees.IfElse at o e c st otherwise other) h s v =
        let n = numbered s in
        let t = after_statement st n in
        let u = after_statement other t in
        let X = Sees w f s in
        let C = IsCondition w.program f in
        let I = Is a.breaks a.continues (Sees w f t) in
        let J = Is a.breaks a.continues (Sees w f u) in
        let first = alone (typed_statement a st n) in
        let second = alone (typed_statement a other t) in
        let B : Statement × Statement → Type 0 = λ p. I p.0 × J p.1 in
        one_sound X a.breaks a.continues (Sees w f u) (three (condition s at e) first second (λ x b d.
        fits (tree.If s.next x b d)))
        (sound_both w X C B J (condition s at e) (pair first second) (λ x p. fits (tree.If s.next x p.0 p.1))
        (condition_sound s at e)
        (sound_pair w X (Sees w f t) I J first second
        (alone_sound X (Sees w f n) a.breaks a.continues (Sees w f t) (typed_statement a st n)
        (statement_sound a r st h.1 n (within_before f t u (grows_statement other h.4 t) v)) (sees_numbered s))
        (alone_sound (Sees w f t) (Sees w f t) a.breaks a.continues (Sees w f u) (typed_statement a other t)
        (statement_sound a r other h.4 t v) (λ y. y)) (λ b y p. p.1))
        (λ x p. sound_fits w (X × (C x × B p)) J (tree.If s.next x p.0 p.1)
        (λ y. ((y.1.0, y.1.1.0.0, y.1.1.1.0), y.1.1.1.1))))
    statement_sound a r (trees.Switch at o e c begin items end) h s v =
        let n = entered (numbered s) in
        let t = after_statements items n in
        let X = Sees w f s in
        let Y = Sees w f (left s t) in
        let count = number_of items in
        let value = if_fits (typed_expression s e) (λ x. selected (value_type x) at x) in
        let labels = typed_labels [] (given_labels s 0 items) in
        let body = typed_statements (in_switch a) items n in
        let V = IsSelected w f in
        let L : List Label → Type 0 = λ ls. Any ls × AreLabels ls count in
        let S : Statements → Type 0 = λ b. AreStatements w.program f true a.continues b × Sees w f t in
        let B : Statements → Type 0 = λ b. S b × (count_of b ≡ count) in
        let R : List Label × Statements → Type 0 = λ p. L p.0 × B p.1 in
        let I = Is a.breaks a.continues Y in
        one_sound X a.breaks a.continues Y (three value labels body (λ x ls b. fits (tree.Switch s.next x ls b)))
        (sound_both w X V R I value (pair labels body) (λ x p. fits (tree.Switch s.next x p.0 p.1))
        (sound_if w X (Good w f) V (typed_expression s e) (λ x. selected (value_type x) at x) (typed_sound w f s e)
        (λ x z. selected_sound w f (X × Good w f x) at x (λ y. y.1)))
        (sound_pair w X X L B labels body
        (sound_with X Any (λ ls. AreLabels ls count) labels (labels_sound w f s items) (labels_right s items))
        (sound_with X S (λ b. count_of b ≡ count) body
        (sound_weaker w (Sees w f n) X S S body
        (statements_sound (in_switch a) r items (cases_each items h.1) n (within_left s t v))
        (λ y. sees_entered (numbered s) (sees_numbered s y)) (λ b y p. p))
        (cases_count (in_switch a) items h.1 n)) (λ ls y p. y))
        (λ x p. sound_fits w (X × (V x × R p)) I (tree.Switch s.next x p.0 p.1)
        (λ y. (
          (y.1.0.0, y.1.0.1, subst (AreLabels p.0) (sym y.1.1.1.1) y.1.1.0.1, y.1.1.1.0.0),
          sees_left s t y.0 y.1.1.1.0.1,
        ))))
    statement_sound a r (trees.While at o e c st) h s v =
        let n = numbered s in
        let X = Sees w f s in
        let Y = Sees w f (after_statement st n) in
        let C = IsCondition w.program f in
        let I = Is true true Y in
        let J = Is a.breaks a.continues Y in
        let body = alone (typed_statement (in_loop a) st n) in
        one_sound X a.breaks a.continues Y (both (condition s at e) body (λ x b. fits (tree.While s.next x b)))
        (sound_both w X C I J (condition s at e) body (λ x b. fits (tree.While s.next x b)) (condition_sound s at e)
        (alone_sound X (Sees w f n) true true Y (typed_statement (in_loop a) st n)
        (statement_sound (in_loop a) r st h.1 n v) (sees_numbered s))
        (λ x b. sound_fits w (X × (C x × I b)) J (tree.While s.next x b) (λ y. ((y.1.0, y.1.1.0), y.1.1.1))))
    statement_sound a r (trees.Do at st until o e c semicolon) h s v =
        let n = numbered s in
        let X = Sees w f s in
        let Y = Sees w f (after_statement st n) in
        let C = IsCondition w.program f in
        let I = Is true true Y in
        let J = Is a.breaks a.continues Y in
        let body = alone (typed_statement (in_loop a) st n) in
        one_sound X a.breaks a.continues Y (both body (condition s until e) (λ b x. fits (tree.Do s.next b x)))
        (sound_both w X I C J body (condition s until e) (λ b x. fits (tree.Do s.next b x))
        (alone_sound X (Sees w f n) true true Y (typed_statement (in_loop a) st n)
        (statement_sound (in_loop a) r st h.0 n v) (sees_numbered s)) (condition_sound s until e)
        (λ b x. sound_fits w (X × (I b × C x)) J (tree.Do s.next b x) (λ y. ((y.1.0.0, y.1.1), y.1.0.1))))
    statement_sound a r (trees.For at o start first e second step c st) h s v =
        let n = numbered s in
        let X = Sees w f s in
        let S : Option Expression → Type 0 = λ o. IfSome o (Good w f) in
        let Y = Sees w f (after_statement st n) in
        let F : First → Type 0 = λ q. IsFirst w.program f q × X in
        for_sound X X Y a.breaks a.continues s.next (if_fits (typed_if_any s start) (λ x. fits (first_part x)))
        (condition_if_any s at e) (typed_if_any s step) (alone (typed_statement (in_loop a) st n))
        (sound_if w X S F (typed_if_any s start) (λ x. fits (first_part x)) (if_any_sound w f s start)
        (λ x z. sound_fits w (X × S x) F (first_part x) (λ y. (first_right x y.1, y.0))))
        (condition_if_sound s at e) (if_any_sound w f s step)
        (alone_sound X (Sees w f n) true true Y (typed_statement (in_loop a) st n)
        (statement_sound (in_loop a) r st h.3 n v) (sees_numbered s))
    statement_sound a r (trees.ForDeclaration at o start e second step c st) h s v =
        let n = entered (numbered s) in
        let t = after_declaration InFor start n in
        let u = after_statement st t in
        let X = Sees w f s in
        let Y = Sees w f t in
        let Z = Sees w f u in
        let F : First → Type 0 = λ q. IsFirst w.program f q × Y in
        let first = typed_declaration InFor start n in
        let loop = for_loop s.next (if_fits first (λ items. fits (tree.Declared items))) (condition_if_any t at e)
        (typed_if_any t step) (alone (typed_statement (in_loop a) st t)) in
        sound_weaker w X X (Are a.breaks a.continues Z) (Are a.breaks a.continues (Sees w f (left s u))) loop
        (for_sound X Y Z a.breaks a.continues s.next (if_fits first (λ items. fits (tree.Declared items)))
        (condition_if_any t at e) (typed_if_any t step) (alone (typed_statement (in_loop a) st t))
        (sound_if w X (Items w f t) F first (λ items. fits (tree.Declared items))
        (sound_weaker w (Sees w f n) X (Items w f t) (Items w f t) first
        (declaration_sound w f InFor start h.0 n
        (within_before f t u (grows_statement st h.3 t) (within_left s u v)))
        (λ y. sees_entered (numbered s) (sees_numbered s y)) (λ is y p. p))
        (λ is z. sound_fits w (X × Items w f t is) F (tree.Declared is)
        (λ y. (all_by (IsItem w.program f) is y.1.0, y.1.1))))
        (condition_if_sound t at e) (if_any_sound w f t step)
        (alone_sound Y Y true true Z (typed_statement (in_loop a) st t)
        (statement_sound (in_loop a) r st h.3 t (within_left s u v)) (λ y. y))) (λ y. y)
        (λ sts y p. (p.0, sees_left s u y p.1))
    statement_sound a r (trees.Break at semicolon) h s v =
        jump_sound (Sees w f s) a.breaks a.continues (Sees w f (numbered s)) a.breaks at (tree.Break s.next)
        (λ y e. (e, sees_numbered s y))
    statement_sound a r (trees.Continue at semicolon) h s v =
        jump_sound (Sees w f s) a.breaks a.continues (Sees w f (numbered s)) a.continues at (tree.Continue s.next)
        (λ y e. (e, sees_numbered s y))
    statement_sound a r (trees.Return at e semicolon) h s v =
        let X = Sees w f s in
        let Y = Sees w f (numbered s) in
        let S : Option Expression → Type 0 = λ o. IfSome o (Good w f) in
        let R = CanReturn w.program f a.result in
        let I = Is a.breaks a.continues Y in
        one_sound X a.breaks a.continues Y (if_fits (typed_if_any s e) (λ x.
        if_fits (returned a.result at x) (λ y. fits (tree.Return s.next y))))
        (sound_if w X S I (typed_if_any s e) (λ x. if_fits (returned a.result at x) (λ y. fits (tree.Return s.next y)))
        (if_any_sound w f s e) (λ o z.
        sound_if w (X × S o) R I (returned a.result at o) (λ y. fits (tree.Return s.next y))
        (returned_sound (X × S o) a.result at o (λ x. x.1)) (λ q z.
        sound_fits w ((X × S o) × R q) I (tree.Return s.next q)
        (λ x. (subst (λ t. CanReturn w.program f t q) (sym r) x.1, sees_numbered s x.0.0)))))

    pub statements_sound : (a : Around) → f.result ≡ a.result → (sts : Stmts) → Each sts → (s : Scope)
        → Within f (after_statements sts s)
        → Sound w (Sees w f s) (λ b. AreStatements w.program f a.breaks a.continues b
        × Sees w f (after_statements sts s)) (typed_statements a sts s)
    statements_sound a r NoStmt h s v =
        sound_fits w (Sees w f s) (λ b. AreStatements w.program f a.breaks a.continues b × Sees w f s) Done
        (λ y. (tt, y))
    statements_sound a r (OneStmt st others) h s v =
        let t = after_statement st s in
        let u = after_statements others t in
        let A = Are a.breaks a.continues (Sees w f t) in
        let B : Statements → Type 0 = λ b. AreStatements w.program f a.breaks a.continues b × Sees w f u in
        sound_then w (Sees w f s) (Sees w f t) A B B (typed_statement a st s) (typed_statements a others t)
        (λ sts rest. fits (row_before sts rest))
        (statement_sound a r st h.0 s (within_before f t u (grows_statements others h.1 t) v))
        (statements_sound a r others h.1 t v) (λ sts y p. p.1)
        (λ sts rest. sound_fits w (Sees w f s × (A sts × B rest)) B (row_before sts rest)
        (λ x. (row_right a.breaks a.continues sts rest x.1.0.0 x.1.1.0, x.1.1.1)))
