-- Lists of parts that define no function, judged one behind the other.
use Rattle.std.proofs.Common.{◌≡◌, refl, sym, ap, ◌∙◌, subst, List, [], ◌++◌}
use Rattle.std.proofs.lemmas.List.{append-nil}
use Rattle.c_typing.specs.Checked.{Checked, Fits, Fails, Note, fits, if_fits, pair}
use Rattle.c_check_expressions.specs.declared.judged.Judged.{Judged}
use Rattle.c_check_expressions.specs.declared.judged.Judged.TheVariants as answers
use Rattle.c_check_expressions.specs.Judged.{joined_answers}
use Rattle.c_check_expressions.specs.Parts.{Stands}
use Rattle.c_check_expressions.proofs.Together.{pair_stands}
use Rattle.c_check_expressions.specs.Said.{IsSaid}
use Rattle.c_check_expressions.proofs.Answered.{grown_pair, grown_row}
use Rattle.c_check_expressions.proofs.Gathering.{fits_same}
use Rattle.c_check_declarations.proofs.Lists.{rejoined}
use Rattle.c_check.specs.OutsideAnswers.{AreNone, first_answered}
pub use Rattle.c_check_declarations.proofs.Lists.{next_some as regrouped, first_rejoined as none_before}

pub none_behind : {X : Type 0} (front : Checked (List X)) → rejoined front (fits []) ≡ front
none_behind (Fits xs ns) = fits_same (xs ++ []) xs ((ns ++ []) ++ []) ns (append-nil xs)
    (append-nil (ns ++ []) ∙ append-nil ns)
none_behind (Fails g gs) = ap (Fails g) (append-nil gs)

module _ {X A : Type 0} (R : List X → A → Type 0) where
  -- what is known behind some parts of a list: what was judged so far and the rest are the whole
  pub record Passed (whole rest : Checked (List X)) (so_far : Judged A) (before now : List Note) : Type 0 where
    pub front : Checked (List X)
    pub said : IsSaid R front so_far before now
    pub same : rejoined front rest ≡ whole

  pub passed_none : (whole : Checked (List X)) (a : A) (before : List Note) → R [] a
      → Passed whole whole (answers.Fits a) before before
  passed_none whole a before h = record {
    front = fits [];
    said = (h, sym (append-nil before));
    same = none_before whole;
  }

  pub passed_all : (whole rest : Checked (List X)) (so_far : Judged A) (before now : List Note) → rest ≡ fits []
      → Passed whole rest so_far before now → IsSaid R whole so_far before now
  passed_all whole rest so_far before now none p =
      subst (λ (c : Checked (List X)). IsSaid R c so_far before now)
      (sym (none_behind p.front) ∙ ap (rejoined p.front) (sym none) ∙ p.same) p.said

  -- one more part is judged, where what it gives is behind what was so far
  pub passed_more : (whole rest others c : Checked (List X)) (so_far more : Judged A) (before now after : List Note)
      → rest ≡ rejoined c others
      → ((front : Checked (List X)) → IsSaid R front so_far before now
      → IsSaid R (rejoined front c) more before after)
      → Passed whole rest so_far before now → Passed whole others more before after
  passed_more whole rest others c so_far more before now after parts put p = record {
    front = rejoined p.front c;
    said = put p.front p.said;
    same = regrouped p.front c others ∙ ap (rejoined p.front) (sym parts) ∙ p.same;
  }

-- ---- nothing behind nothing

none_both : {X : Type 0} (xs ys : List X) → [] ≡ xs → [] ≡ ys → [] ≡ (xs ++ ys)
none_both xs ys h k = h ∙ sym (append-nil xs) ∙ ap (λ zs. xs ++ zs) k

first_stands : {X A B : Type 0} (c : Checked (List X × List X)) (j : Judged (A × B))
    → Stands (λ p q. AreNone p.0 q.0 × AreNone p.1 q.1) c j
    → Stands AreNone (if_fits c (λ p. fits (p.0 ++ p.1))) (first_answered j)
first_stands (Fits p ns) (answers.Fits q) h = none_both p.0 p.1 h.0 h.1
first_stands (Fits p ns) (answers.Fails f) h = h
first_stands (Fails g gs) (answers.Fits q) h = h
first_stands (Fails g gs) (answers.Fails f) h = h

pub joined_said : {X A B : Type 0} (c : Checked (List X)) (so_far more : Judged A) (part : Judged B)
    (before between after : List Note) → more ≡ first_answered (joined_answers so_far part)
    → IsSaid AreNone c part between after → (front : Checked (List X)) → IsSaid AreNone front so_far before between
    → IsSaid AreNone (rejoined front c) more before after
joined_said c so_far more part before between after is k front h = (
  subst (Stands AreNone (rejoined front c)) (sym is) (first_stands (pair front c) (joined_answers so_far part)
      (pair_stands AreNone AreNone front c so_far part h.0 k.0)),
  grown_row (λ p. fits (p.0 ++ p.1)) (pair front c) before after (λ p. refl)
      (grown_pair front c before between after h.1 k.1),
)
