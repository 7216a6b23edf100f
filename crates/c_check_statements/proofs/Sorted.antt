-- Labels that were judged so far, and those that are left.
use Rattle.std.proofs.Common.{◌≡◌, refl, sym, ap, ◌∙◌, subst, ℕ, suc, ◌+◌, ◌<◌, ◌≤◌, ℤ, List, [], ◌∷◌, ◌++◌, length}
use Rattle.std.proofs.Common.{map, drop, get_or, arith, Bool, not, Option}
use Rattle.std.specs.Prelude.{Vec}
use Rattle.std.specs.declared.alloc.Global.{Global}
use Rattle.std.specs.List.{list_any}
use Rattle.std.proofs.Math.Seq.{drop-cons}
use Rattle.std.proofs.lemmas.List.{drop_all}
use Rattle.pcc_base.specs.declared.fault.Fault.{Fault}
use Rattle.pcc_base.specs.declared.span.Span.{Span}
use Rattle.c_syntax.specs.declared.statement.Statement.{Statement as Raw}
use Rattle.c_syntax.specs.declared.statement.Label.{Label as RawLabel}
use Rattle.c_syntax.specs.Statements.{Case, Default, LabelTree, label_of, stmt_of, stmts_of}
use Rattle.c_tree.specs.declared.statement.Label.{Label}
use Rattle.c_typing.specs.Checked.{Checked, Fits, Fails, Note, if_fits}
use Rattle.c_typing.specs.Names.{Scope}
use Rattle.c_typing.specs.Statements.{GivenLabel, given_label, given_labels, labels_before, one_label, same_label}
use Rattle.c_typing.specs.Statements.{typed_labels, with_value}
use Rattle.c_check_expressions.specs.declared.judged.Judged.{Judged}
use Rattle.c_check_expressions.specs.declared.judged.Judged.TheVariants as answers
use Rattle.c_check_expressions.specs.Parts.{Stands}
use Rattle.c_check_expressions.specs.Said.{IsSaid}
use Rattle.c_check_declarations.specs.DeclaratorAnswers.{IsSame}
use Rattle.c_check_declarations.specs.Together.{items_answered, one_behind}
use Rattle.c_check_declarations.proofs.Lists.{AreTheSame, Gathered, gathered_all, gathered_none, gathered_one, push_same}
use Rattle.c_check_declarations.proofs.Rows.{fails_said, then_said}
use Rattle.c_check_statements.specs.declared.labels.SoFar.{SoFar}
use Rattle.c_check_statements.specs.Labels.{AreLabels, AreSeen, AreSoFar}

-- what is known of the labels, but for the values that are kept
abbrev pub Left : Checked (List Label) → Checked (List Label) → Judged (Vec Label Global) → List Note → List Note
    → Type 0
Left whole rest labels before now = Gathered (AreTheSame {A = Label}) whole rest labels before now

pub to_left : (whole : Checked (List Label)) (left : List GivenLabel) (so_far : SoFar) (before now : List Note)
    (s : AreSoFar whole left so_far before now)
    → Left whole (typed_labels s.earlier left) so_far.labels before now
to_left whole left so_far before now s = record { front = s.front; said = s.said; same = s.same }

pub of_left : (whole : Checked (List Label)) (left : List GivenLabel) (so_far : SoFar) (before now : List Note)
    (earlier : List (Option ℤ)) → AreSeen earlier so_far.values.keys
    → Left whole (typed_labels earlier left) so_far.labels before now → AreSoFar whole left so_far before now
of_left whole left so_far before now earlier seen g = record {
  earlier = earlier;
  front = g.front;
  seen = seen;
  said = g.said;
  same = g.same;
}

-- no label yet
pub no_labels : (so_far : SoFar) (v : Vec Label Global) (gs : List GivenLabel) (notes : List Note)
    → so_far.values.keys ≡ [] → so_far.labels ≡ answers.Fits v → v.items ≡ []
    → AreSoFar (typed_labels [] gs) gs so_far notes notes
no_labels so_far v gs notes none is empty =
    of_left (typed_labels [] gs) gs so_far notes notes [] (λ value. ap (λ ks. list_any (same_label value) ks) none)
    (subst (λ j. Left (typed_labels [] gs) (typed_labels [] gs) j notes notes) (sym is)
    (gathered_none (AreTheSame {A = Label}) (typed_labels [] gs) v notes empty))

-- ---- one more label

kept_fits : (c : Checked (Option ℤ)) (v : Option ℤ) (earlier : List (Option ℤ))
    → Stands (IsSame {A = Option ℤ}) c (answers.Fits v)
    → with_value c earlier ≡ v ∷ earlier
kept_fits (Fits x notes) v earlier h = ap (λ y. y ∷ earlier) (sym h)
kept_fits (Fails f fs) v earlier h = absurd h

kept_fails : (c : Checked (Option ℤ)) (f : Fault) (earlier : List (Option ℤ))
    → Stands (IsSame {A = Option ℤ}) c (answers.Fails f)
    → with_value c earlier ≡ earlier
kept_fails (Fits x notes) f earlier h = absurd h
kept_fails (Fails g gs) f earlier h = refl

pub label_fails : (whole : Checked (List Label)) (g : GivenLabel) (left : List GivenLabel) (so_far new : SoFar)
    (f : Fault) (start between after : List Note) → new.values.keys ≡ so_far.values.keys
    → items_answered new.labels ≡ one_behind (items_answered so_far.labels) (answers.Fails f)
    → IsSaid (IsSame {A = Option ℤ}) g.value (answers.Fails f) between after
    → AreSoFar whole (g ∷ left) so_far start between → AreSoFar whole left new start after
label_fails whole g left so_far new f start between after kept is said s =
    of_left whole left new start after s.earlier
    (λ value. ap (λ ks. list_any (same_label value) ks) kept ∙ s.seen value)
    (subst (λ e. Left whole (typed_labels e left) new.labels start after) (kept_fails g.value f s.earlier said.0)
    (gathered_one (AreTheSame {A = Label}) (IsSame {A = Label}) push_same whole (typed_labels s.earlier (g ∷ left))
    (typed_labels (with_value g.value s.earlier) left) (if_fits g.value (one_label s.earlier g.at g.before))
    so_far.labels new.labels (answers.Fails f) start between after refl is
    (fails_said (IsSame {A = Option ℤ}) (IsSame {A = Label}) (one_label s.earlier g.at g.before) g.value f between
    after after said)
    (to_left whole (g ∷ left) so_far start between s)))

pub label_fits : (whole : Checked (List Label)) (g : GivenLabel) (left : List GivenLabel) (so_far new : SoFar)
    (value : Option ℤ) (is_new : Bool) (at : Span) (place : ℕ) (part : Judged Label) (start between after : List Note)
    → ((earlier : List (Option ℤ)) → AreSeen earlier so_far.values.keys
    → (is_new ≡ not (list_any (same_label value) earlier)) × AreSeen (value ∷ earlier) new.values.keys)
    → ((earlier : List (Option ℤ)) (notes : List Note) → is_new ≡ not (list_any (same_label value) earlier)
    → IsSaid (IsSame {A = Label}) (one_label earlier at place value) part notes notes)
    → items_answered new.labels ≡ one_behind (items_answered so_far.labels) part
    → at ≡ g.at → place ≡ g.before
    → IsSaid (IsSame {A = Option ℤ}) g.value (answers.Fits value) between after
    → AreSoFar whole (g ∷ left) so_far start between → AreSoFar whole left new start after
label_fits whole g left so_far new value is_new at place part start between after kept judged is at_is place_is said s =
    let k = kept s.earlier s.seen in
    of_left whole left new start after (value ∷ s.earlier) k.1
    (subst (λ e. Left whole (typed_labels e left) new.labels start after) (kept_fits g.value value s.earlier said.0)
    (gathered_one (AreTheSame {A = Label}) (IsSame {A = Label}) push_same whole (typed_labels s.earlier (g ∷ left))
    (typed_labels (with_value g.value s.earlier) left) (if_fits g.value (one_label s.earlier g.at g.before))
    so_far.labels new.labels part start between after refl is
    (then_said (IsSame {A = Option ℤ}) (IsSame {A = Label}) (one_label s.earlier g.at g.before) g.value value part
    between after after said (λ x same.
    subst (λ v. IsSaid (IsSame {A = Label}) (one_label s.earlier g.at g.before v) part after after) same
    (subst (λ n. IsSaid (IsSame {A = Label}) (one_label s.earlier g.at n value) part after after) place_is
    (subst (λ a. IsSaid (IsSame {A = Label}) (one_label s.earlier a place value) part after after) at_is
    (judged s.earlier after k.0)))))
    (to_left whole (g ∷ left) so_far start between s)))

-- ---- labels of one statement

next_one : {A : Type 0} (xs : List A) (i : ℕ) (x : A) → i < length xs → x ≡ get_or xs i x
    → drop i xs ≡ x ∷ drop (i + 1) xs
next_one xs i x lt same =
    let e : suc i ≡ i + 1 = omega arith in
    drop-cons xs i x lt ∙ ap (λ y. y ∷ drop (suc i) xs) (sym same) ∙ ap (λ k. x ∷ drop k xs) e

pub next_label : (s : Scope) (before : ℕ) (ls : List RawLabel) (i : ℕ) (l : RawLabel) (left : List GivenLabel)
    → i < length ls → l ≡ get_or ls i l
    → map (given_label s before) (map label_of (drop i ls)) ++ left
    ≡ given_label s before (label_of l) ∷ (map (given_label s before) (map label_of (drop (i + 1) ls)) ++ left)
next_label s before ls i l left lt same =
    ap (λ xs. map (given_label s before) (map label_of xs) ++ left) (next_one ls i l lt same)

pub no_label : (s : Scope) (before : ℕ) (ls : List RawLabel) (i : ℕ) (left : List GivenLabel) → length ls ≤ i
    → map (given_label s before) (map label_of (drop i ls)) ++ left ≡ left
no_label s before ls i left w = ap (λ xs. map (given_label s before) (map label_of xs) ++ left) (drop_all i ls w)

pub place_is : (s : Scope) (n : ℕ) (l : LabelTree) → n ≡ (given_label s n l).before
place_is s n (Case at e colon) = refl
place_is s n (Default at colon) = refl

-- ---- labels of all statements

pub next_statement : (s : Scope) (sts : List Raw) (i : ℕ) (st : Raw) → i < length sts → st ≡ get_or sts i st
    → given_labels s i (stmts_of (map stmt_of (drop i sts)))
    ≡ map (given_label s i) (labels_before (stmt_of st))
    ++ given_labels s (i + 1) (stmts_of (map stmt_of (drop (i + 1) sts)))
next_statement s sts i st lt same =
    let e : suc i ≡ i + 1 = omega arith in
    ap (λ xs. given_labels s i (stmts_of (map stmt_of xs))) (next_one sts i st lt same)
    ∙ ap (λ k. map (given_label s i) (labels_before (stmt_of st))
    ++ given_labels s k (stmts_of (map stmt_of (drop (i + 1) sts)))) e

pub all_labels : (s : Scope) (sts : List Raw) (i : ℕ) (so_far : SoFar) (whole : Checked (List Label))
    (start now : List Note) → length sts ≤ i
    → AreSoFar whole (given_labels s i (stmts_of (map stmt_of (drop i sts)))) so_far start now
    → IsSaid AreLabels whole so_far.labels start now
all_labels s sts i so_far whole start now w so =
    let none = ap (λ xs. given_labels s i (stmts_of (map stmt_of xs))) (drop_all i sts w) in
    gathered_all (AreTheSame {A = Label}) whole
    (typed_labels so.earlier (given_labels s i (stmts_of (map stmt_of (drop i sts))))) so_far.labels start now
    (ap (typed_labels so.earlier) none)
    (to_left whole (given_labels s i (stmts_of (map stmt_of (drop i sts)))) so_far start now so)
