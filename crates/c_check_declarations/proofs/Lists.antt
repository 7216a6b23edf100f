-- Lists of which each part is judged, one behind the other.
use Rattle.std.proofs.Common.{◌≡◌, refl, sym, ap, ◌∙◌, subst, List, [], ◌∷◌, ◌++◌, Vec, Option}
use Rattle.std.specs.declared.alloc.Global.{Global}
use Rattle.std.proofs.lemmas.List.{append-nil, append_assoc}
use Rattle.c_typing.specs.Faults.{least}
use Rattle.c_typing.specs.Checked.{Checked, Fits, Fails, Note, both, fits, if_fits, pair}
use Rattle.c_check_expressions.specs.declared.judged.Judged.{Judged}
use Rattle.c_check_expressions.specs.declared.judged.Judged.TheVariants as answers
use Rattle.c_check_expressions.specs.Judged.{joined_answers}
use Rattle.c_check_expressions.specs.Parts.{Stands}
use Rattle.c_check_expressions.proofs.Together.{pair_stands}
use Rattle.c_check_expressions.specs.Said.{IsSaid}
use Rattle.c_check_expressions.proofs.Answered.{grown_pair, grown_row}
use Rattle.c_check_expressions.proofs.Gathering.{fits_same}
use Rattle.c_check_declarations.specs.Together.{items_answered, appended, maybe_appended, maybe_listed, one_behind}
use Rattle.c_check_declarations.specs.Together.{some_behind}

-- what was judged so far, before the rest
abbrev pub rejoined : {X : Type 0} → Checked (List X) → Checked (List X) → Checked (List X)
rejoined front rest = both front rest (λ xs ys. fits (xs ++ ys))

-- one more behind what was judged so far
abbrev pub one_after : {X : Type 0} → Checked (List X) → Checked X → Checked (List X)
one_after front c = both front c (λ xs x. fits (xs ++ x ∷ []))

-- one before the rest
abbrev pub one_before : {X : Type 0} → Checked X → Checked (List X) → Checked (List X)
one_before c rest = both c rest (λ x xs. fits (x ∷ xs))

-- notes of three parts, in either grouping
pub notes_same : (ns ms ks : List Note) → ((((ns ++ ms) ++ []) ++ ks) ++ []) ≡ ((ns ++ ((ms ++ ks) ++ [])) ++ [])
notes_same ns ms ks = ap (λ xs. xs ++ []) (ap (λ xs. xs ++ ks) (append-nil (ns ++ ms)) ∙ append_assoc ns ms ks
    ∙ ap (λ xs. ns ++ xs) (sym (append-nil (ms ++ ks))))

next_one : {X : Type 0} (front : Checked (List X)) (c : Checked X) (rest : Checked (List X))
    → rejoined (one_after front c) rest ≡ rejoined front (one_before c rest)
next_one (Fits xs ns) (Fits x ms) (Fits ys ks) = fits_same ((xs ++ x ∷ []) ++ ys) (xs ++ x ∷ ys)
    ((((ns ++ ms) ++ []) ++ ks) ++ []) ((ns ++ ((ms ++ ks) ++ [])) ++ []) (append_assoc xs (x ∷ []) ys)
    (notes_same ns ms ks)
next_one (Fits xs ns) (Fits x ms) (Fails h hs) = refl
next_one (Fits xs ns) (Fails g gs) (Fits ys ks) = refl
next_one (Fits xs ns) (Fails g gs) (Fails h hs) = refl
next_one (Fails f fs) (Fits x ms) (Fits ys ks) = ap (λ xs. Fails f (xs ++ [])) (append-nil fs)
next_one (Fails f fs) (Fits x ms) (Fails h hs) = ap (λ xs. Fails f (xs ++ h ∷ hs)) (append-nil fs)
next_one (Fails f fs) (Fails g gs) (Fits ys ks) = ap (Fails f) (append_assoc fs (g ∷ gs) [])
next_one (Fails f fs) (Fails g gs) (Fails h hs) = ap (Fails f) (append_assoc fs (g ∷ gs) (h ∷ hs))

pub next_some : {X : Type 0} (front c rest : Checked (List X))
    → rejoined (rejoined front c) rest ≡ rejoined front (rejoined c rest)
next_some (Fits xs ns) (Fits ys ms) (Fits zs ks) = fits_same ((xs ++ ys) ++ zs) (xs ++ (ys ++ zs))
    ((((ns ++ ms) ++ []) ++ ks) ++ []) ((ns ++ ((ms ++ ks) ++ [])) ++ []) (append_assoc xs ys zs)
    (notes_same ns ms ks)
next_some (Fits xs ns) (Fits ys ms) (Fails h hs) = refl
next_some (Fits xs ns) (Fails g gs) (Fits zs ks) = refl
next_some (Fits xs ns) (Fails g gs) (Fails h hs) = refl
next_some (Fails f fs) (Fits ys ms) (Fits zs ks) = ap (λ xs. Fails f (xs ++ [])) (append-nil fs)
next_some (Fails f fs) (Fits ys ms) (Fails h hs) = ap (λ xs. Fails f (xs ++ h ∷ hs)) (append-nil fs)
next_some (Fails f fs) (Fails g gs) (Fits zs ks) = ap (Fails f) (append_assoc fs (g ∷ gs) [])
next_some (Fails f fs) (Fails g gs) (Fails h hs) = ap (Fails f) (append_assoc fs (g ∷ gs) (h ∷ hs))

pub first_rejoined : {X : Type 0} (rest : Checked (List X)) → rejoined (fits []) rest ≡ rest
first_rejoined (Fits xs ks) = ap (Fits xs) (append-nil ks)
first_rejoined (Fails h hs) = refl

module _ {X A : Type 0} (R : List X → List A → Type 0) where
  -- the values of a vector stand for those of a list
  abbrev pub AreAll : List X → Vec A Global → Type 0
  AreAll xs v = R xs v.items

  to_items : (c : Checked (List X)) (j : Judged (Vec A Global)) → Stands AreAll c j → Stands R c (items_answered j)
  to_items (Fits xs ns) (answers.Fits v) h = h
  to_items (Fits xs ns) (answers.Fails f) h = h
  to_items (Fails g gs) (answers.Fits v) h = h
  to_items (Fails g gs) (answers.Fails f) h = h

  of_items : (c : Checked (List X)) (j : Judged (Vec A Global)) → Stands R c (items_answered j) → Stands AreAll c j
  of_items (Fits xs ns) (answers.Fits v) h = h
  of_items (Fits xs ns) (answers.Fails f) h = h
  of_items (Fails g gs) (answers.Fits v) h = h
  of_items (Fails g gs) (answers.Fails f) h = h

  last_rejoined : (front : Checked (List X)) (j : Judged (Vec A Global)) (before after : List Note)
      → IsSaid AreAll front j before after → IsSaid AreAll (rejoined front (fits [])) j before after
  last_rejoined (Fits xs ns) (answers.Fits v) before after said = (
    subst (λ ys. R ys v.items) (sym (append-nil xs)) said.0,
    said.1 ∙ ap (λ ks. before ++ ks) (sym (append-nil (ns ++ []) ∙ append-nil ns)),
  )
  last_rejoined (Fits xs ns) (answers.Fails f) before after said = absurd said.0
  last_rejoined (Fails g gs) (answers.Fits v) before after said = absurd said.0
  last_rejoined (Fails g gs) (answers.Fails f) before after said =
      (ap (λ xs. least (g ∷ xs)) (append-nil gs) ∙ said.0, tt)

  -- what is known behind some parts of a list: what was judged so far and the rest are the whole
  pub record Gathered (whole rest : Checked (List X)) (so_far : Judged (Vec A Global))
      (before now : List Note) : Type 0 where
    pub front : Checked (List X)
    pub said : IsSaid AreAll front so_far before now
    pub same : rejoined front rest ≡ whole

  pub gathered_none : (whole : Checked (List X)) (v : Vec A Global) (before : List Note) → R [] v.items
      → Gathered whole whole (answers.Fits v) before before
  gathered_none whole v before h = record {
    front = fits [];
    said = (h, sym (append-nil before));
    same = first_rejoined whole;
  }

  pub gathered_all : (whole rest : Checked (List X)) (so_far : Judged (Vec A Global)) (before now : List Note)
      → rest ≡ fits [] → Gathered whole rest so_far before now → IsSaid AreAll whole so_far before now
  gathered_all whole rest so_far before now none g =
      subst (λ c. IsSaid AreAll c so_far before now) (ap (rejoined g.front) (sym none) ∙ g.same)
      (last_rejoined g.front so_far before now g.said)

module _ {X A : Type 0} (R : List X → List A → Type 0) (Q : X → A → Type 0)
    (push : (xs : List X) (x : X) (vs : List A) (a : A) → R xs vs → Q x a
    → R (xs ++ x ∷ []) (vs ++ a ∷ [])) where
  one_appended : (c : Checked (List X × X)) (j : Judged (List A × A))
      → Stands (λ p q. R p.0 q.0 × Q p.1 q.1) c j
      → Stands R (if_fits c (λ p. fits (p.0 ++ p.1 ∷ []))) (appended j)
  one_appended (Fits p ns) (answers.Fits q) h = push p.0 p.1 q.0 q.1 h.0 h.1
  one_appended (Fits p ns) (answers.Fails f) h = h
  one_appended (Fails g gs) (answers.Fits q) h = h
  one_appended (Fails g gs) (answers.Fails f) h = h

  one_said : (front : Checked (List X)) (c : Checked X) (so_far more : Judged (Vec A Global)) (part : Judged A)
      (before between after : List Note) → items_answered more ≡ one_behind (items_answered so_far) part
      → IsSaid (AreAll R) front so_far before between → IsSaid Q c part between after
      → IsSaid (AreAll R) (one_after front c) more before after
  one_said front c so_far more part before between after is h k = (
    of_items R (one_after front c) more (subst (Stands R (one_after front c)) (sym is)
        (one_appended (pair front c) (joined_answers (items_answered so_far) part)
        (pair_stands R Q front c (items_answered so_far) part (to_items R front so_far h.0) k.0))),
    grown_row (λ p. fits (p.0 ++ p.1 ∷ [])) (pair front c) before after (λ p. refl)
        (grown_pair front c before between after h.1 k.1),
  )

  -- one more part is judged
  pub gathered_one : (whole rest others : Checked (List X)) (c : Checked X) (so_far more : Judged (Vec A Global))
      (part : Judged A) (before now after : List Note) → rest ≡ one_before c others
      → items_answered more ≡ one_behind (items_answered so_far) part → IsSaid Q c part now after
      → Gathered R whole rest so_far before now → Gathered R whole others more before after
  gathered_one whole rest others c so_far more part before now after parts is k g = record {
    front = one_after g.front c;
    said = one_said g.front c so_far more part before now after is g.said k;
    same = next_one g.front c others ∙ ap (rejoined g.front) (sym parts) ∙ g.same;
  }

module _ {X A : Type 0} (R : List X → List A → Type 0) (Q : List X → Option A → Type 0)
    (push : (xs ys : List X) (vs : List A) (o : Option A) → R xs vs → Q ys o
    → R (xs ++ ys) (vs ++ maybe_listed o)) where
  some_appended : (c : Checked (List X × List X)) (j : Judged (List A × Option A))
      → Stands (λ p q. R p.0 q.0 × Q p.1 q.1) c j
      → Stands R (if_fits c (λ p. fits (p.0 ++ p.1))) (maybe_appended j)
  some_appended (Fits p ns) (answers.Fits q) h = push p.0 p.1 q.0 q.1 h.0 h.1
  some_appended (Fits p ns) (answers.Fails f) h = h
  some_appended (Fails g gs) (answers.Fits q) h = h
  some_appended (Fails g gs) (answers.Fails f) h = h

  some_said : (front c : Checked (List X)) (so_far more : Judged (Vec A Global)) (part : Judged (Option A))
      (before between after : List Note) → items_answered more ≡ some_behind (items_answered so_far) part
      → IsSaid (AreAll R) front so_far before between → IsSaid Q c part between after
      → IsSaid (AreAll R) (rejoined front c) more before after
  some_said front c so_far more part before between after is h k = (
    of_items R (rejoined front c) more (subst (Stands R (rejoined front c)) (sym is)
        (some_appended (pair front c) (joined_answers (items_answered so_far) part)
        (pair_stands R Q front c (items_answered so_far) part (to_items R front so_far h.0) k.0))),
    grown_row (λ p. fits (p.0 ++ p.1)) (pair front c) before after (λ p. refl)
        (grown_pair front c before between after h.1 k.1),
  )

  -- one more part is judged, of which there may be nothing
  pub gathered_some : (whole rest others c : Checked (List X)) (so_far more : Judged (Vec A Global))
      (part : Judged (Option A)) (before now after : List Note) → rest ≡ rejoined c others
      → items_answered more ≡ some_behind (items_answered so_far) part → IsSaid Q c part now after
      → Gathered R whole rest so_far before now → Gathered R whole others more before after
  gathered_some whole rest others c so_far more part before now after parts is k g = record {
    front = rejoined g.front c;
    said = some_said g.front c so_far more part before now after is g.said k;
    same = next_some g.front c others ∙ ap (rejoined g.front) (sym parts) ∙ g.same;
  }

-- ---- values that stand for themselves

abbrev pub AreTheSame : {A : Type 0} → List A → List A → Type 0
AreTheSame xs vs = vs ≡ xs

pub push_same : {A : Type 0} (xs : List A) (x : A) (vs : List A) (a : A) → vs ≡ xs → a ≡ x
    → (vs ++ a ∷ []) ≡ (xs ++ x ∷ [])
push_same xs x vs a h k = ap (λ ys. ys ++ a ∷ []) h ∙ ap (λ y. xs ++ y ∷ []) k
