-- Statements have the same faults and notes whatever numbers things have.
use Rattle.std.proofs.Common.{◌≡◌, refl, sym, ap, subst, ◌∙◌, ℕ, suc, Bool, true, false, List, [], ◌∷◌, ◌++◌, map}
use Rattle.std.specs.Prelude.{ℤ, Option, Some, None}
use Rattle.pcc_base.specs.declared.span.Span.{Span}
use Rattle.c_syntax.specs.Expressions.{Expr}
use Rattle.c_syntax.specs.Statements as trees
use Rattle.c_syntax.specs.Statements.{LabelTree, Stmt, Stmts, NoStmt, OneStmt}
use Rattle.c_tree.specs.declared.types.ValueType.{ValueType}
use Rattle.c_tree.specs.declared.types.ValueType.TheVariants.{Void, Integer, Pointer}
use Rattle.c_tree.specs.Program as tree
use Rattle.c_tree.specs.Program.{value_type, Expression, Item, First, Statement, Statements}
use Rattle.c_typing.specs.Types.{InBlock, InFor}
use Rattle.c_typing.specs.Checked.{Checked, Fits, Fails, fits, if_fits, pair, both, three}
use Rattle.c_typing.specs.Constants.{constant_value}
use Rattle.c_typing.specs.Expressions.{typed_expression, typed_if_any}
use Rattle.c_typing.specs.Names.{Numbers, Scope, entered, left, numbered}
use Rattle.c_typing.specs.Rows.{assigned, tested, selected}
use Rattle.c_typing.specs.Statements.{after_declaration, typed_declaration, after_statement, after_statements}
use Rattle.c_typing.specs.Statements.{GivenLabel, case_value, given_label, labels_before, given_labels, one_label}
use Rattle.c_typing.specs.Statements.{with_value, typed_labels, Around, in_loop, in_switch, jump, returned, condition}
use Rattle.c_typing.specs.Statements.{condition_if_any, first_part, alone, as_one, one, for_loop, row_before}
use Rattle.c_typing.specs.Statements.{typed_statement, typed_statements}
use Rattle.c_typing.proofs.Agree.{Agree, Any, Same, Both, agree_if_fits, agree_pair, agree_both, same_itself}
use Rattle.c_typing.proofs.Agree.{any_itself}
use Rattle.c_typing.proofs.Agree.{agree_any}
use Rattle.c_typing.proofs.RowsAgree.{Twins, twin_constant, assigned_agree, tested_agree, selected_agree}
use Rattle.c_typing.proofs.ExpressionsAgree.{renumbered, typed_agree, TwinOptions, if_any_agree}
use Rattle.c_typing.proofs.DeclarationsAgree.{after_declaration_same, declaration_agree}

-- ---- the scope behind a statement

mutual
  pub after_statement_same : (m : Numbers) (st : Stmt) (s : Scope)
      → after_statement st (renumbered m s) ≡ renumbered m (after_statement st s)
  after_statement_same m (trees.Declared d) s = after_declaration_same m InBlock d s
  after_statement_same m (trees.Labelled labels st) s = after_statement_same m st s
  after_statement_same m (trees.Block o items c) s =
      ap (left (renumbered m s)) (after_statements_same m items (entered s))
  after_statement_same m (trees.Simple e semicolon) s = refl
  after_statement_same m (trees.If at o e c st) s = after_statement_same m st (numbered s)
  after_statement_same m (trees.IfElse at o e c st otherwise other) s =
      ap (after_statement other) (after_statement_same m st (numbered s))
      ∙ after_statement_same m other (after_statement st (numbered s))
  after_statement_same m (trees.Switch at o e c begin items end) s =
      ap (left (renumbered m s)) (after_statements_same m items (entered (numbered s)))
  after_statement_same m (trees.While at o e c st) s = after_statement_same m st (numbered s)
  after_statement_same m (trees.Do at st until o e c semicolon) s = after_statement_same m st (numbered s)
  after_statement_same m (trees.For at o start first e second step c st) s = after_statement_same m st (numbered s)
  after_statement_same m (trees.ForDeclaration at o start e second step c st) s =
      ap (λ t. left (renumbered m s) (after_statement st t))
      (after_declaration_same m InFor start (entered (numbered s)))
      ∙ ap (left (renumbered m s)) (after_statement_same m st (after_declaration InFor start (entered (numbered s))))
  after_statement_same m (trees.Break at semicolon) s = refl
  after_statement_same m (trees.Continue at semicolon) s = refl
  after_statement_same m (trees.Return at e semicolon) s = refl

  pub after_statements_same : (m : Numbers) (sts : Stmts) (s : Scope)
      → after_statements sts (renumbered m s) ≡ renumbered m (after_statements sts s)
  after_statements_same m NoStmt s = refl
  after_statements_same m (OneStmt st others) s =
      ap (after_statements others) (after_statement_same m st s) ∙ after_statements_same m others (after_statement st s)

-- ---- labels

-- labels at the same places, before the same statements, with the same values or faults
abbrev LabelsAgree : List GivenLabel → List GivenLabel → Type 0
LabelsAgree [] [] = Unit {0}
LabelsAgree [] (h ∷ hs) = ⊥
LabelsAgree (g ∷ gs) [] = ⊥
LabelsAgree (g ∷ gs) (h ∷ hs) =
    (g.at ≡ h.at) × (g.before ≡ h.before) × Agree Same g.value h.value × LabelsAgree gs hs

case_same : (at : Span) (x y : Expression) → Twins x y
    → Agree Same (case_value at (constant_value x)) (case_value at (constant_value y))
case_same at x y h =
    subst (λ n. Agree Same (case_value at (constant_value x)) (case_value at n)) (twin_constant x y h)
    (same_itself (case_value at (constant_value x)))

labels_with : (m : Numbers) (s : Scope) (before : ℕ) (ls : List LabelTree) (gs hs : List GivenLabel) → LabelsAgree gs hs
    → LabelsAgree (map (given_label (renumbered m s) before) ls ++ gs) (map (given_label s before) ls ++ hs)
labels_with m s before [] gs hs h = h
labels_with m s before (trees.Case at e colon ∷ ls) gs hs h = (
  refl,
  refl,
  agree_if_fits Twins Same (typed_expression (renumbered m s) e) (typed_expression s e)
      (λ x. case_value at (constant_value x)) (λ x. case_value at (constant_value x)) (typed_agree m s e)
      (case_same at),
  labels_with m s before ls gs hs h,
)
labels_with m s before (trees.Default at colon ∷ ls) gs hs h =
    (refl, refl, (refl, refl), labels_with m s before ls gs hs h)

labels_agree : (m : Numbers) (s : Scope) (before : ℕ) (sts : Stmts)
    → LabelsAgree (given_labels (renumbered m s) before sts) (given_labels s before sts)
labels_agree m s before NoStmt = tt
labels_agree m s before (OneStmt st others) =
    labels_with m s before (labels_before st) (given_labels (renumbered m s) (suc before) others)
    (given_labels s (suc before) others) (labels_agree m s (suc before) others)

with_value_same : (earlier : List (Option ℤ)) (c d : Checked (Option ℤ)) → Agree Same c d
    → with_value c earlier ≡ with_value d earlier
with_value_same earlier (Fits a ns) (Fits b ms) h = ap (λ v. v ∷ earlier) h.0
with_value_same earlier (Fits a ns) (Fails g gs) h = absurd h
with_value_same earlier (Fails f fs) (Fits b ms) h = absurd h
with_value_same earlier (Fails f fs) (Fails g gs) h = refl

one_label_same : (earlier : List (Option ℤ)) (a b : Span) (i j : ℕ) (v w : Option ℤ) → a ≡ b → i ≡ j → v ≡ w
    → Agree Any (one_label earlier a i v) (one_label earlier b j w)
one_label_same earlier a b i j v w e f g =
    subst (λ c. Agree Any (one_label earlier a i v) (one_label earlier c j w)) e
    (subst (λ k. Agree Any (one_label earlier a i v) (one_label earlier a k w)) f
    (subst (λ x. Agree Any (one_label earlier a i v) (one_label earlier a i x)) g
    (any_itself (one_label earlier a i v))))

typed_labels_agree : (earlier : List (Option ℤ)) (gs hs : List GivenLabel) → LabelsAgree gs hs
    → Agree Any (typed_labels earlier gs) (typed_labels earlier hs)
typed_labels_agree earlier [] [] h = (tt, refl)
typed_labels_agree earlier [] (k ∷ ks) h = absurd h
typed_labels_agree earlier (g ∷ gs) [] h = absurd h
typed_labels_agree earlier (g ∷ gs) (k ∷ ks) h =
    agree_both Any Any Any (if_fits g.value (one_label earlier g.at g.before))
    (if_fits k.value (one_label earlier k.at k.before)) (typed_labels (with_value g.value earlier) gs)
    (typed_labels (with_value k.value earlier) ks) (λ l ls. fits (l ∷ ls)) (λ l ls. fits (l ∷ ls))
    (agree_if_fits Same Any g.value k.value (one_label earlier g.at g.before) (one_label earlier k.at k.before) h.2
    (λ v w e. one_label_same earlier g.at k.at g.before k.before v w h.0 h.1 e))
    (subst (λ x. Agree Any (typed_labels (with_value g.value earlier) gs) (typed_labels x ks))
    (with_value_same earlier g.value k.value h.2) (typed_labels_agree (with_value g.value earlier) gs ks h.3))
    (λ a b u v r l. (tt, refl))

-- ---- parts of statements

pub condition_agree : (m : Numbers) (s : Scope) (at : Span) (e : Expr)
    → Agree Twins (condition (renumbered m s) at e) (condition s at e)
condition_agree m s at e =
    agree_if_fits Twins Twins (typed_expression (renumbered m s) e) (typed_expression s e) (tested at) (tested at)
    (typed_agree m s e) (tested_agree at)

condition_if_any_agree : (m : Numbers) (s : Scope) (at : Span) (e : Option Expr)
    → Agree Any (condition_if_any (renumbered m s) at e) (condition_if_any s at e)
condition_if_any_agree m s at None = (tt, refl)
condition_if_any_agree m s at (Some e) =
    agree_any Twins (condition (renumbered m s) at e) (condition s at e) Some Some (condition_agree m s at e)

returned_agree : (result : ValueType) (at : Span) (o p : Option Expression) → TwinOptions o p
    → Agree Any (returned result at o) (returned result at p)
returned_agree Void at None None h = (tt, refl)
returned_agree Void at None (Some y) h = absurd h
returned_agree Void at (Some x) None h = absurd h
returned_agree Void at (Some x) (Some y) h = (refl, refl)
returned_agree (Integer t) at None None h = (refl, refl)
returned_agree (Integer t) at None (Some y) h = absurd h
returned_agree (Integer t) at (Some x) None h = absurd h
returned_agree (Integer t) at (Some x) (Some y) h =
    agree_any Twins (assigned (Integer t) at x) (assigned (Integer t) at y) Some Some
    (assigned_agree (Integer t) at x y h)
returned_agree (Pointer t) at None None h = (refl, refl)
returned_agree (Pointer t) at None (Some y) h = absurd h
returned_agree (Pointer t) at (Some x) None h = absurd h
returned_agree (Pointer t) at (Some x) (Some y) h =
    agree_any Twins (assigned (Pointer t) at x) (assigned (Pointer t) at y) Some Some
    (assigned_agree (Pointer t) at x y h)

jump_agree : (may : Bool) (at : Span) (x y : Statement) → Agree Any (one (jump may at x)) (one (jump may at y))
jump_agree true at x y = (tt, refl)
jump_agree false at x y = (refl, refl)

one_agree : (c d : Checked Statement) → Agree Any c d → Agree Any (one c) (one d)
one_agree c d h = agree_any Any c d (λ st. st ∷ []) (λ st. st ∷ []) h

alone_agree : (c d : Checked (List Statement)) → Agree Any c d → Agree Any (alone c) (alone d)
alone_agree c d h = agree_any Any c d as_one as_one h

-- two, three and four parts, of whose trees nothing is said
agree_two : {A B C D E F : Type 0} (R : A → B → Type 0) (S : C → D → Type 0) (c : Checked A) (d : Checked B)
    (x : Checked C) (y : Checked D) (f : A → C → E) (g : B → D → F) → Agree R c d → Agree S x y
    → Agree {A = E} {B = F} Any (both c x (λ a u. fits (f a u))) (both d y (λ b v. fits (g b v)))
agree_two R S c d x y f g h k =
    agree_both R S Any c d x y (λ a u. fits (f a u)) (λ b v. fits (g b v)) h k (λ a b u v r l. (tt, refl))

for_agree : (n : ℕ) (a b : Checked First) (c d : Checked (Option Expression)) (e f : Checked (Option Expression))
    (g h : Checked Statement) → Agree Any a b → Agree Any c d → Agree Any e f → Agree Any g h
    → Agree Any (for_loop n a c e g) (for_loop n b d f h)
for_agree n a b c d e f g h i j k l =
    agree_two (Both Any Any) (Both Any Any) (pair a c) (pair b d) (pair e g) (pair f h)
    (λ x y. tree.For n x.0 x.1 y.0 y.1 ∷ []) (λ x y. tree.For n x.0 x.1 y.0 y.1 ∷ []) (agree_pair Any Any a b c d i j)
    (agree_pair Any Any e f g h k l)

any_options : (c d : Checked (Option Expression)) → Agree TwinOptions c d → Agree Any c d
any_options (Fits a ns) (Fits b ms) h = (tt, h.1)
any_options (Fits a ns) (Fails g gs) h = absurd h
any_options (Fails f fs) (Fits b ms) h = absurd h
any_options (Fails f fs) (Fails g gs) h = h

-- the value of a switch
abbrev switched : Scope → Span → Expr → Checked Expression
switched s at e = if_fits (typed_expression s e) (λ x. selected (value_type x) at x)

-- ---- statements

mutual
  pub statement_agree : (m : Numbers) (w : Around) (st : Stmt) (s : Scope)
      → Agree Any (typed_statement w st (renumbered m s)) (typed_statement w st s)
  statement_agree m w (trees.Declared d) s =
      agree_any Any (typed_declaration InBlock d (renumbered m s)) (typed_declaration InBlock d s) (map tree.Declare)
      (map tree.Declare) (declaration_agree m InBlock d s)
  statement_agree m w (trees.Labelled labels st) s = statement_agree m w st s
  statement_agree m w (trees.Block o items c) s =
      one_agree (if_fits (typed_statements w items (entered (renumbered m s))) (λ body. fits (tree.Block body)))
      (if_fits (typed_statements w items (entered s)) (λ body. fits (tree.Block body)))
      (agree_any Any (typed_statements w items (entered (renumbered m s))) (typed_statements w items (entered s))
      tree.Block tree.Block (statements_agree m w items (entered s)))
  statement_agree m w (trees.Simple None semicolon) s = (tt, refl)
  statement_agree m w (trees.Simple (Some e) semicolon) s =
      one_agree (if_fits (typed_expression (renumbered m s) e) (λ x. fits (tree.Evaluate s.next x)))
      (if_fits (typed_expression s e) (λ x. fits (tree.Evaluate s.next x)))
      (agree_any Twins (typed_expression (renumbered m s) e) (typed_expression s e) (tree.Evaluate s.next)
      (tree.Evaluate s.next) (typed_agree m s e))
  statement_agree m w (trees.If at o e c st) s =
      one_agree (both (condition (renumbered m s) at e) (alone (typed_statement w st (numbered (renumbered m s))))
      (λ x a. fits (tree.If s.next x a (tree.Block tree.Done))))
      (both (condition s at e) (alone (typed_statement w st (numbered s))) (λ x a.
      fits (tree.If s.next x a (tree.Block tree.Done))))
      (agree_two Twins Any (condition (renumbered m s) at e) (condition s at e)
      (alone (typed_statement w st (numbered (renumbered m s)))) (alone (typed_statement w st (numbered s)))
      (λ x a. tree.If s.next x a (tree.Block tree.Done)) (λ x a. tree.If s.next x a (tree.Block tree.Done))
      (condition_agree m s at e) (alone_agree (typed_statement w st (numbered (renumbered m s)))
      (typed_statement w st (numbered s)) (statement_agree m w st (numbered s))))
  statement_agree m w (trees.IfElse at o e c st otherwise other) s =
      one_agree (three (condition (renumbered m s) at e) (alone (typed_statement w st (numbered (renumbered m s))))
      (alone (typed_statement w other (after_statement st (numbered (renumbered m s))))) (λ x a b.
      fits (tree.If s.next x a b)))
      (three (condition s at e) (alone (typed_statement w st (numbered s)))
      (alone (typed_statement w other (after_statement st (numbered s)))) (λ x a b. fits (tree.If s.next x a b)))
      (agree_two Twins (Both Any Any) (condition (renumbered m s) at e) (condition s at e)
      (pair (alone (typed_statement w st (numbered (renumbered m s))))
      (alone (typed_statement w other (after_statement st (numbered (renumbered m s))))))
      (pair (alone (typed_statement w st (numbered s)))
      (alone (typed_statement w other (after_statement st (numbered s)))))
      (λ x p. tree.If s.next x p.0 p.1) (λ x p. tree.If s.next x p.0 p.1) (condition_agree m s at e)
      (agree_pair Any Any (alone (typed_statement w st (numbered (renumbered m s))))
      (alone (typed_statement w st (numbered s)))
      (alone (typed_statement w other (after_statement st (numbered (renumbered m s)))))
      (alone (typed_statement w other (after_statement st (numbered s))))
      (alone_agree (typed_statement w st (numbered (renumbered m s))) (typed_statement w st (numbered s))
      (statement_agree m w st (numbered s)))
      (alone_agree (typed_statement w other (after_statement st (numbered (renumbered m s))))
      (typed_statement w other (after_statement st (numbered s)))
      (subst (λ t. Agree Any (typed_statement w other t)
      (typed_statement w other (after_statement st (numbered s)))) (sym (after_statement_same m st (numbered s)))
      (statement_agree m w other (after_statement st (numbered s)))))))
  statement_agree m w (trees.Switch at o e c begin items end) s =
      one_agree (three (switched (renumbered m s) at e) (typed_labels [] (given_labels (renumbered m s) 0 items))
      (typed_statements (in_switch w) items (entered (numbered (renumbered m s)))) (λ x labels body.
      fits (tree.Switch s.next x labels body)))
      (three (switched s at e) (typed_labels [] (given_labels s 0 items))
      (typed_statements (in_switch w) items (entered (numbered s))) (λ x labels body.
      fits (tree.Switch s.next x labels body)))
      (agree_two Twins (Both Any Any) (switched (renumbered m s) at e) (switched s at e)
      (pair (typed_labels [] (given_labels (renumbered m s) 0 items))
      (typed_statements (in_switch w) items (entered (numbered (renumbered m s)))))
      (pair (typed_labels [] (given_labels s 0 items))
      (typed_statements (in_switch w) items (entered (numbered s)))) (λ x p. tree.Switch s.next x p.0 p.1)
      (λ x p. tree.Switch s.next x p.0 p.1)
      (agree_if_fits Twins Twins (typed_expression (renumbered m s) e) (typed_expression s e)
      (λ x. selected (value_type x) at x) (λ x. selected (value_type x) at x) (typed_agree m s e) (selected_agree at))
      (agree_pair Any Any (typed_labels [] (given_labels (renumbered m s) 0 items))
      (typed_labels [] (given_labels s 0 items))
      (typed_statements (in_switch w) items (entered (numbered (renumbered m s))))
      (typed_statements (in_switch w) items (entered (numbered s)))
      (typed_labels_agree [] (given_labels (renumbered m s) 0 items) (given_labels s 0 items)
      (labels_agree m s 0 items)) (statements_agree m (in_switch w) items (entered (numbered s)))))
  statement_agree m w (trees.While at o e c st) s =
      one_agree (both (condition (renumbered m s) at e)
      (alone (typed_statement (in_loop w) st (numbered (renumbered m s)))) (λ x a. fits (tree.While s.next x a)))
      (both (condition s at e) (alone (typed_statement (in_loop w) st (numbered s))) (λ x a.
      fits (tree.While s.next x a)))
      (agree_two Twins Any (condition (renumbered m s) at e) (condition s at e)
      (alone (typed_statement (in_loop w) st (numbered (renumbered m s))))
      (alone (typed_statement (in_loop w) st (numbered s))) (tree.While s.next) (tree.While s.next)
      (condition_agree m s at e) (alone_agree (typed_statement (in_loop w) st (numbered (renumbered m s)))
      (typed_statement (in_loop w) st (numbered s)) (statement_agree m (in_loop w) st (numbered s))))
  statement_agree m w (trees.Do at st until o e c semicolon) s =
      one_agree (both (alone (typed_statement (in_loop w) st (numbered (renumbered m s))))
      (condition (renumbered m s) until e) (λ a x. fits (tree.Do s.next a x)))
      (both (alone (typed_statement (in_loop w) st (numbered s))) (condition s until e) (λ a x.
      fits (tree.Do s.next a x)))
      (agree_two Any Twins (alone (typed_statement (in_loop w) st (numbered (renumbered m s))))
      (alone (typed_statement (in_loop w) st (numbered s))) (condition (renumbered m s) until e) (condition s until e)
      (tree.Do s.next) (tree.Do s.next) (alone_agree (typed_statement (in_loop w) st (numbered (renumbered m s)))
      (typed_statement (in_loop w) st (numbered s)) (statement_agree m (in_loop w) st (numbered s)))
      (condition_agree m s until e))
  statement_agree m w (trees.For at o start first e second step c st) s =
      for_agree s.next (if_fits (typed_if_any (renumbered m s) start) (λ x. fits (first_part x)))
      (if_fits (typed_if_any s start) (λ x. fits (first_part x))) (condition_if_any (renumbered m s) at e)
      (condition_if_any s at e) (typed_if_any (renumbered m s) step) (typed_if_any s step)
      (alone (typed_statement (in_loop w) st (numbered (renumbered m s))))
      (alone (typed_statement (in_loop w) st (numbered s)))
      (agree_any TwinOptions (typed_if_any (renumbered m s) start) (typed_if_any s start) first_part first_part
      (if_any_agree m s start)) (condition_if_any_agree m s at e)
      (any_options (typed_if_any (renumbered m s) step) (typed_if_any s step) (if_any_agree m s step))
      (alone_agree (typed_statement (in_loop w) st (numbered (renumbered m s)))
      (typed_statement (in_loop w) st (numbered s)) (statement_agree m (in_loop w) st (numbered s)))
  statement_agree m w (trees.ForDeclaration at o start e second step c st) s =
      let outside = entered (numbered s) in
      let inside = after_declaration InFor start outside in
      subst (λ t. Agree Any
      (for_loop s.next (if_fits (typed_declaration InFor start (renumbered m outside)) (λ items.
      fits (tree.Declared items))) (condition_if_any t at e) (typed_if_any t step)
      (alone (typed_statement (in_loop w) st t)))
      (for_loop s.next (if_fits (typed_declaration InFor start outside) (λ items. fits (tree.Declared items)))
      (condition_if_any inside at e) (typed_if_any inside step) (alone (typed_statement (in_loop w) st inside))))
      (sym (after_declaration_same m InFor start outside))
      (for_agree s.next (if_fits (typed_declaration InFor start (renumbered m outside)) (λ items.
      fits (tree.Declared items)))
      (if_fits (typed_declaration InFor start outside) (λ items. fits (tree.Declared items)))
      (condition_if_any (renumbered m inside) at e) (condition_if_any inside at e)
      (typed_if_any (renumbered m inside) step) (typed_if_any inside step)
      (alone (typed_statement (in_loop w) st (renumbered m inside)))
      (alone (typed_statement (in_loop w) st inside))
      (agree_any Any (typed_declaration InFor start (renumbered m outside)) (typed_declaration InFor start outside)
      tree.Declared tree.Declared (declaration_agree m InFor start outside)) (condition_if_any_agree m inside at e)
      (any_options (typed_if_any (renumbered m inside) step) (typed_if_any inside step) (if_any_agree m inside step))
      (alone_agree (typed_statement (in_loop w) st (renumbered m inside)) (typed_statement (in_loop w) st inside)
      (statement_agree m (in_loop w) st inside)))
  statement_agree m w (trees.Break at semicolon) s = jump_agree w.breaks at (tree.Break s.next) (tree.Break s.next)
  statement_agree m w (trees.Continue at semicolon) s =
      jump_agree w.continues at (tree.Continue s.next) (tree.Continue s.next)
  statement_agree m w (trees.Return at e semicolon) s =
      one_agree (if_fits (typed_if_any (renumbered m s) e) (λ x. if_fits (returned w.result at x) (λ y.
      fits (tree.Return s.next y))))
      (if_fits (typed_if_any s e) (λ x. if_fits (returned w.result at x) (λ y. fits (tree.Return s.next y))))
      (agree_if_fits TwinOptions Any (typed_if_any (renumbered m s) e) (typed_if_any s e)
      (λ x. if_fits (returned w.result at x) (λ y. fits (tree.Return s.next y)))
      (λ x. if_fits (returned w.result at x) (λ y. fits (tree.Return s.next y))) (if_any_agree m s e) (λ x y h.
      agree_any Any (returned w.result at x) (returned w.result at y) (tree.Return s.next) (tree.Return s.next)
      (returned_agree w.result at x y h)))

  pub statements_agree : (m : Numbers) (w : Around) (sts : Stmts) (s : Scope)
      → Agree Any (typed_statements w sts (renumbered m s)) (typed_statements w sts s)
  statements_agree m w NoStmt s = (tt, refl)
  statements_agree m w (OneStmt st others) s =
      agree_two Any Any (typed_statement w st (renumbered m s)) (typed_statement w st s)
      (typed_statements w others (after_statement st (renumbered m s)))
      (typed_statements w others (after_statement st s)) row_before row_before (statement_agree m w st s)
      (subst (λ t. Agree Any (typed_statements w others t) (typed_statements w others (after_statement st s)))
      (sym (after_statement_same m st s)) (statements_agree m w others (after_statement st s)))
