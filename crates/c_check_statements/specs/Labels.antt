-- Labels of a switch, and what was judged of them so far (C99 6.8.4.2p3).
use Rattle.std.specs.Prelude.{◌≡◌, ℤ, List, [], ◌++◌, ◌∷◌, Option, Vec}
use Rattle.std.specs.List.{list_any}
use Rattle.std.specs.declared.alloc.Global.{Global}
use Rattle.c_tree.specs.declared.statement.Label.{Label}
use Rattle.c_typing.specs.Checked.{Checked, Note, both, fits}
use Rattle.c_typing.specs.Statements.{GivenLabel, same_label, typed_labels}
use Rattle.c_check_expressions.specs.Said.{IsSaid}
use Rattle.c_check_statements.specs.declared.labels.SoFar.{SoFar}

abbrev pub AreLabels : List Label → Vec Label Global → Type 0
AreLabels xs v = v.items ≡ xs

-- the values that are kept are those of the labels so far, each once
abbrev pub AreSeen : List (Option ℤ) → List (Option ℤ) → Type 0
AreSeen earlier kept = (value : Option ℤ) → list_any (same_label value) kept ≡ list_any (same_label value) earlier

-- one more label behind others, and labels before others
abbrev pub label_behind : Checked (List Label) → Checked Label → Checked (List Label)
label_behind front c = both front c (λ xs x. fits (xs ++ x ∷ []))

abbrev pub labels_before_others : Checked (List Label) → Checked (List Label) → Checked (List Label)
labels_before_others front rest = both front rest (λ xs ys. fits (xs ++ ys))

-- what was judged so far, and the labels that are left, are the whole
pub record AreSoFar (whole : Checked (List Label)) (left : List GivenLabel) (so_far : SoFar)
    (before now : List Note) : Type 0 where
  pub earlier : List (Option ℤ)
  pub front : Checked (List Label)
  pub seen : AreSeen earlier so_far.values.keys
  pub said : IsSaid AreLabels front so_far.labels before now
  pub same : labels_before_others front (typed_labels earlier left) ≡ whole
