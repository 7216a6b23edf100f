-- Labels of a switch stand before its statements, and no two of them are the same.
use Rattle.std.proofs.Common.{arith, ◌≡◌, refl, sym, ap, subst, ◌∙◌, ℕ, zero, suc, ◌+◌, ◌≤◌, Bool, true, false, List}
use Rattle.std.proofs.Common.{[]}
use Rattle.std.proofs.Common.{◌∷◌, length, map}
use Rattle.std.specs.Prelude.{ℤ, Option, Some, None, ◌<◌, AllPairs, if◌then◌else◌}
use Rattle.std.specs.List.{AllByRecursion, list_any}
use Rattle.std.proofs.lemmas.Bool.Decides.{Decides-int_eq}
use Rattle.pcc_base.specs.declared.span.Span.{Span}
use Rattle.pcc_base.specs.declared.fault.FaultKind.TheVariants.{CaseLabel}
use Rattle.pcc_base.proofs.Lists.{all-append}
use Rattle.c_syntax.specs.Statements as trees
use Rattle.c_syntax.specs.Statements.{LabelTree, Stmt, Stmts, NoStmt, OneStmt}
use Rattle.c_syntax.specs.StatementTokens.{IsStmt, IsPlain, IsCase, AreCases}
use Rattle.c_tree.specs.declared.statement.Label.{Label}
use Rattle.c_tree.specs.Program as tree
use Rattle.c_tree.specs.Program.{Statement, Statements, Expression, First, value_type}
use Rattle.c_tree.specs.WellTyped.{AreLabels, count_of}
use Rattle.c_typing.specs.Checked.{Checked, Fits, Fails, fits, fails, noted, if_fits, pair, both, three}
use Rattle.c_typing.specs.Constants.{constant_value}
use Rattle.c_typing.specs.Expressions.{typed_expression, typed_if_any}
use Rattle.c_typing.specs.Rows.{selected}
use Rattle.c_typing.specs.Names.{Scope, entered, numbered}
use Rattle.c_typing.specs.Types.{InFor}
use Rattle.c_typing.specs.Statements.{GivenLabel, case_value, given_label, labels_before, given_labels, same_label}
use Rattle.c_typing.specs.Statements.{one_label, with_value, typed_labels, Around, in_loop, in_switch, jump, returned}
use Rattle.c_typing.specs.Statements.{condition, condition_if_any, first_part, row_before, alone, one, for_loop}
use Rattle.c_typing.specs.Statements.{typed_declaration, typed_statement, typed_statements, after_statement}
use Rattle.c_typing.specs.Statements.{after_declaration}
use Rattle.c_typing.proofs.CountUp.{IfFits, holds_noted, holds_both, Always, always}
use Rattle.c_check_laws.proofs.Setting.{Setting, Sound, sound_fits, sound_if, sound_both}
use Rattle.c_check_laws.proofs.RowsSound.{either_false, Good}
use Rattle.c_check_laws.proofs.ExpressionsSound.{Sees, Any, typed_sound}
use Rattle.c_check_laws.proofs.ItemsSound.{all_by}

-- ---- no label stands twice

label_itself : (v : Option ℤ) → same_label v v ≡ true
label_itself None = refl
label_itself (Some n) = (Decides-int_eq n n).1 refl

-- the value is none of these
abbrev ApartFrom : List (Option ℤ) → Option ℤ → Type 0
ApartFrom earlier v = AllByRecursion (λ u. u ≡ v → ⊥) earlier

both_ways : (b : Bool) → b ≡ true → b ≡ false → ⊥
both_ways b h k = grind arith

apart_from : (earlier : List (Option ℤ)) (v : Option ℤ) → list_any (same_label v) earlier ≡ false
    → ApartFrom earlier v
apart_from [] v h = tt
apart_from (u ∷ us) v h =
    let p = either_false (same_label v u) (list_any (same_label v) us) h in (
      λ e. both_ways (same_label v u) (subst (λ x. same_label v x ≡ true) (sym e) (label_itself v)) p.0,
      apart_from us v p.1,
    )

abbrev Pairs : List Label → Type 0
Pairs [] = Unit {0}
Pairs (l ∷ ls) = AllByRecursion (λ (m : Label). l.value ≡ m.value → ⊥) ls × Pairs ls

-- labels before the n-th statement, apart from these values and from each other
abbrev Facts : ℕ → List (Option ℤ) → List Label → Type 0
Facts n earlier ls = AllByRecursion (λ (l : Label). l.before < n) ls
    × AllByRecursion (λ (l : Label). ApartFrom earlier l.value) ls × Pairs ls

abbrev IsLabelOf : List (Option ℤ) → ℕ → Option ℤ → Label → Type 0
IsLabelOf earlier before v l = (l.value ≡ v) × (l.before ≡ before) × ApartFrom earlier v

abbrev label_if : Bool → Span → ℕ → Option ℤ → Checked Label
label_if b at before v = if b then fails CaseLabel at else fits (record { value = v; before = before })

one_is : (earlier : List (Option ℤ)) (at : Span) (before : ℕ) (v : Option ℤ) (b : Bool)
    → list_any (same_label v) earlier ≡ b
    → IfFits (IsLabelOf earlier before v) (label_if b at before v)
one_is earlier at before v true h = tt
one_is earlier at before v false h = (refl, refl, apart_from earlier v h)

firsts : (v : Option ℤ) (l : Label) (earlier : List (Option ℤ)) (ls : List Label) → l.value ≡ v
    → AllByRecursion (λ (m : Label). ApartFrom (v ∷ earlier) m.value) ls
    → AllByRecursion (λ (m : Label). l.value ≡ m.value → ⊥) ls
    × AllByRecursion (λ (m : Label). ApartFrom earlier m.value) ls
firsts v l earlier [] e h = (tt, tt)
firsts v l earlier (m ∷ ms) e h =
    let r = firsts v l earlier ms e h.1 in ((λ k. h.0.0 (sym e ∙ k), r.0), (h.0.1, r.1))

label_step : (n : ℕ) (earlier : List (Option ℤ)) (at : Span) (before : ℕ) → before < n → (c : Checked (Option ℤ))
    (gs : List GivenLabel)
    → ((es : List (Option ℤ)) → IfFits (Facts n es) (typed_labels es gs))
    → IfFits (Facts n earlier) (both (if_fits c (one_label earlier at before))
    (typed_labels (with_value c earlier) gs) (λ l ls. fits (l ∷ ls)))
label_step n earlier at before less (Fits v ns) gs rest =
    holds_both (IsLabelOf earlier before v) (Facts n (v ∷ earlier)) (Facts n earlier)
    (noted ns (one_label earlier at before v)) (typed_labels (v ∷ earlier) gs) (λ l ls. fits (l ∷ ls))
    (holds_noted (IsLabelOf earlier before v) ns (one_label earlier at before v)
    (one_is earlier at before v (list_any (same_label v) earlier) refl)) (rest (v ∷ earlier))
    (λ l ls p q. let r = firsts v l earlier ls p.0 q.1 in
    ((subst (λ k. k < n) (sym p.1) less, q.0), (subst (ApartFrom earlier) (sym p.0) p.2, r.1), (r.0, q.2)))
label_step n earlier at before less (Fails f fs) gs rest = tt

labels_apart : (n : ℕ) (gs : List GivenLabel) → AllByRecursion (λ (g : GivenLabel). g.before < n) gs
    → (earlier : List (Option ℤ)) → IfFits (Facts n earlier) (typed_labels earlier gs)
labels_apart n [] h earlier = (tt, tt, tt)
labels_apart n (g ∷ gs) h earlier =
    label_step n earlier g.at g.before h.0 g.value gs (λ es. labels_apart n gs h.1 es)

pairs_by : (ls : List Label) → Pairs ls → AllPairs (λ (l : Label) (m : Label). l.value ≡ m.value → ⊥) ls
pairs_by [] h i j d less l = absurd (omega (arith, l))
pairs_by (x ∷ xs) h zero zero d less l = absurd (omega (arith, less))
pairs_by (x ∷ xs) h zero (suc j) d less l =
    all_by (λ (m : Label). x.value ≡ m.value → ⊥) xs h.0 j d (omega (arith, l))
pairs_by (x ∷ xs) h (suc i) zero d less l = absurd (omega (arith, less))
pairs_by (x ∷ xs) h (suc i) (suc j) d less l = pairs_by xs h.1 i j d (omega (arith, less)) (omega (arith, l))

-- ---- labels stand before statements

abbrev pub number_of : Stmts → ℕ
number_of NoStmt = 0
number_of (OneStmt st others) = suc (number_of others)

label_place : (s : Scope) (k : ℕ) (l : LabelTree) → (given_label s k l).before ≡ k
label_place s k (trees.Case at e colon) = refl
label_place s k (trees.Default at colon) = refl

map_before : (s : Scope) (k n : ℕ) → k < n → (ls : List LabelTree)
    → AllByRecursion (λ (g : GivenLabel). g.before < n) (map (given_label s k) ls)
map_before s k n h [] = tt
map_before s k n h (l ∷ ls) = (subst (λ i. i < n) (sym (label_place s k l)) h, map_before s k n h ls)

given_before : (s : Scope) (k n : ℕ) (items : Stmts) → k + number_of items ≤ n
    → AllByRecursion (λ (g : GivenLabel). g.before < n) (given_labels s k items)
given_before s k n NoStmt h = tt
given_before s k n (OneStmt st others) h =
    all-append (λ (g : GivenLabel). g.before < n) (map (given_label s k) (labels_before st))
    (given_labels s (suc k) others) (map_before s k n (omega (arith, h)) (labels_before st))
    (given_before s (suc k) n others (omega (arith, h)))

no_more : (n : ℕ) → 0 + n ≤ n
no_more n = omega arith

facts_labels : (n : ℕ) (ls : List Label) → Facts n [] ls → AreLabels ls n
facts_labels n ls h = record {
  inside = all_by (λ (l : Label). l.before < n) ls h.0;
  differ = pairs_by ls h.2;
}

-- the labels of a switch are right, for as many statements as it has
pub labels_right : (s : Scope) (items : Stmts)
    → IfFits (λ ls. AreLabels ls (number_of items)) (typed_labels [] (given_labels s 0 items))
labels_right s items =
    let n = number_of items in
    let c = typed_labels [] (given_labels s 0 items) in
    weaker_fits (Facts n []) (λ ls. AreLabels ls n) c
    (labels_apart n (given_labels s 0 items) (given_before s 0 n items (no_more n)) []) (λ ls h. facts_labels n ls h)
  where
    weaker_fits : {A : Type 0} (P Q : A → Type 0) (c : Checked A) → IfFits P c → ((a : A) → P a → Q a) → IfFits Q c
    weaker_fits P Q (Fits a ns) h f = f a h
    weaker_fits P Q (Fails x xs) h f = tt

-- ---- each statement of a switch is one

one_length : (c : Checked Statement) → IfFits (λ (sts : List Statement). length sts ≡ 1) (one c)
one_length (Fits a ns) = refl
one_length (Fails f fs) = tt

for_length : (n : ℕ) (a : Checked First) (b c : Checked (Option Expression)) (d : Checked Statement)
    → IfFits (λ (sts : List Statement). length sts ≡ 1) (for_loop n a b c d)
for_length n a b c d =
    holds_both Always Always (λ (sts : List Statement). length sts ≡ 1) (pair a b) (pair c d)
    (λ x y. fits (tree.For n x.0 x.1 y.0 y.1 ∷ [])) (always (pair a b)) (always (pair c d)) (λ x y u v. refl)

single : (w : Around) (st : Stmt) → IsPlain st → (s : Scope)
    → IfFits (λ (sts : List Statement). length sts ≡ 1) (typed_statement w st s)
single w (trees.Declared d) h s = absurd h
single w (trees.Labelled labels st) h s = absurd h
single w (trees.Block o items c) h s =
    one_length (if_fits (typed_statements w items (entered s)) (λ body. fits (tree.Block body)))
single w (trees.Simple None semicolon) h s = one_length (fits (tree.Empty s.next))
single w (trees.Simple (Some e) semicolon) h s =
    one_length (if_fits (typed_expression s e) (λ x. fits (tree.Evaluate s.next x)))
single w (trees.If at o e c st) h s =
    one_length (both (condition s at e) (alone (typed_statement w st (numbered s))) (λ x a.
    fits (tree.If s.next x a (tree.Block tree.Done))))
single w (trees.IfElse at o e c st otherwise other) h s =
    one_length (three (condition s at e) (alone (typed_statement w st (numbered s)))
    (alone (typed_statement w other (after_statement st (numbered s)))) (λ x a b. fits (tree.If s.next x a b)))
single w (trees.Switch at o e c begin items end) h s =
    one_length (three (if_fits (typed_expression s e) (λ x. selected (value_type x) at x))
    (typed_labels [] (given_labels s 0 items)) (typed_statements (in_switch w) items (entered (numbered s)))
    (λ x labels body. fits (tree.Switch s.next x labels body)))
single w (trees.While at o e c st) h s =
    one_length (both (condition s at e) (alone (typed_statement (in_loop w) st (numbered s))) (λ x a.
    fits (tree.While s.next x a)))
single w (trees.Do at st until o e c semicolon) h s =
    one_length (both (alone (typed_statement (in_loop w) st (numbered s))) (condition s until e) (λ a x.
    fits (tree.Do s.next a x)))
single w (trees.For at o start first e second step c st) h s =
    for_length s.next (if_fits (typed_if_any s start) (λ x. fits (first_part x))) (condition_if_any s at e)
    (typed_if_any s step) (alone (typed_statement (in_loop w) st (numbered s)))
single w (trees.ForDeclaration at o start e second step c st) h s =
    let outside = entered (numbered s) in
    let inside = after_declaration InFor start outside in
    for_length s.next (if_fits (typed_declaration InFor start outside) (λ items. fits (tree.Declared items)))
    (condition_if_any inside at e) (typed_if_any inside step) (alone (typed_statement (in_loop w) st inside))
single w (trees.Break at semicolon) h s = one_length (jump w.breaks at (tree.Break s.next))
single w (trees.Continue at semicolon) h s = one_length (jump w.continues at (tree.Continue s.next))
single w (trees.Return at e semicolon) h s =
    one_length (if_fits (typed_if_any s e) (λ x. if_fits (returned w.result at x) (λ y.
    fits (tree.Return s.next y))))

case_single : (w : Around) (st : Stmt) → IsStmt st → IsCase st → (s : Scope)
    → IfFits (λ (sts : List Statement). length sts ≡ 1) (typed_statement w st s)
case_single w (trees.Labelled labels st) h c s = single w st h.2 s
case_single w (trees.Declared d) h c s = absurd c
case_single w (trees.Block o items e) h c s = absurd c
case_single w (trees.Simple e semicolon) h c s = absurd c
case_single w (trees.If at o e k st) h c s = absurd c
case_single w (trees.IfElse at o e k st otherwise other) h c s = absurd c
case_single w (trees.Switch at o e k begin items end) h c s = absurd c
case_single w (trees.While at o e k st) h c s = absurd c
case_single w (trees.Do at st until o e k semicolon) h c s = absurd c
case_single w (trees.For at o start first e second step k st) h c s = absurd c
case_single w (trees.ForDeclaration at o start e second step k st) h c s = absurd c
case_single w (trees.Break at semicolon) h c s = absurd c
case_single w (trees.Continue at semicolon) h c s = absurd c
case_single w (trees.Return at e semicolon) h c s = absurd c

row_count : (sts : List Statement) (rest : Statements) (n : ℕ) → length sts ≡ 1 → count_of rest ≡ n
    → count_of (row_before sts rest) ≡ suc n
row_count [] rest n h k = absurd (omega (arith, h))
row_count (st ∷ []) rest n h k = ap suc k
row_count (st ∷ (other ∷ sts)) rest n h k = absurd (omega (arith, h))

-- a switch has as many statements as its tree
pub cases_count : (w : Around) (items : Stmts) → AreCases items → (s : Scope)
    → IfFits (λ b. count_of b ≡ number_of items) (typed_statements w items s)
cases_count w NoStmt h s = refl
cases_count w (OneStmt st others) h s =
    holds_both (λ (sts : List Statement). length sts ≡ 1) (λ b. count_of b ≡ number_of others)
    (λ b. count_of b ≡ suc (number_of others)) (typed_statement w st s)
    (typed_statements w others (after_statement st s)) (λ sts rest. fits (row_before sts rest))
    (case_single w st h.0 h.1 s) (cases_count w others h.2 (after_statement st s))
    (λ sts rest x y. row_count sts rest (number_of others) x y)

-- ---- labels define nothing

module _ (w : Setting) (f : tree.Function) where
  value_sound : (X : Type 0) (at : Span) (v : Option ℤ) → Sound w X Any (case_value at v)
  value_sound X at None = tt
  value_sound X at (Some n) = sound_fits w X Any (Some n) (λ x. tt)

  label_sound : (s : Scope) (k : ℕ) (l : LabelTree) → Sound w (Sees w f s) Any (given_label s k l).value
  label_sound s k (trees.Case at e colon) =
      sound_if w (Sees w f s) (Good w f) Any (typed_expression s e) (λ x. case_value at (constant_value x))
      (typed_sound w f s e) (λ x z. value_sound (Sees w f s × Good w f x) at (constant_value x))
  label_sound s k (trees.Default at colon) = sound_fits w {A = Option ℤ} (Sees w f s) Any None (λ x. tt)

  map_sound : (s : Scope) (k : ℕ) (ls : List LabelTree)
      → AllByRecursion (λ (g : GivenLabel). Sound w (Sees w f s) Any g.value) (map (given_label s k) ls)
  map_sound s k [] = tt
  map_sound s k (l ∷ ls) = (label_sound s k l, map_sound s k ls)

  given_labels_sound : (s : Scope) (k : ℕ) (items : Stmts)
      → AllByRecursion (λ (g : GivenLabel). Sound w (Sees w f s) Any g.value) (given_labels s k items)
  given_labels_sound s k NoStmt = tt
  given_labels_sound s k (OneStmt st others) =
      all-append (λ (g : GivenLabel). Sound w (Sees w f s) Any g.value) (map (given_label s k) (labels_before st))
      (given_labels s (suc k) others) (map_sound s k (labels_before st)) (given_labels_sound s (suc k) others)

  one_by : (X : Type 0) (at : Span) (before : ℕ) (v : Option ℤ) (b : Bool)
      → Sound w X Any (label_if b at before v)
  one_by X at before v true = tt
  one_by X at before v false = (tt, λ x k. tt)

  labels_by : (X : Type 0) (earlier : List (Option ℤ)) (gs : List GivenLabel)
      → AllByRecursion (λ (g : GivenLabel). Sound w X Any g.value) gs → Sound w X Any (typed_labels earlier gs)
  labels_by X earlier [] h = sound_fits w {A = List Label} X Any [] (λ x. tt)
  labels_by X earlier (g ∷ gs) h =
      sound_both w X Any Any Any (if_fits g.value (one_label earlier g.at g.before))
      (typed_labels (with_value g.value earlier) gs) (λ l ls. fits (l ∷ ls))
      (sound_if w X Any Any g.value (one_label earlier g.at g.before) h.0 (λ v z.
      one_by (X × Any v) g.at g.before v (list_any (same_label v) earlier)))
      (labels_by X (with_value g.value earlier) gs h.1)
      (λ l ls. sound_fits w (X × (Any l × Any ls)) Any (l ∷ ls) (λ x. tt))

  pub labels_sound : (s : Scope) (items : Stmts)
      → Sound w (Sees w f s) Any (typed_labels [] (given_labels s 0 items))
  labels_sound s items = labels_by (Sees w f s) [] (given_labels s 0 items) (given_labels_sound s 0 items)
