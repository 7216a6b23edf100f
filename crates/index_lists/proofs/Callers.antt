-- A node that is in no list, by the lists: what a caller of a call that wants one shows, or has of it.
use Rattle.std.proofs.Common.{ℕ, ◌≡◌, ◌≢◌, ◌∙◌, List, [], ◌∷◌, ◌++◌, Some, refl, sym, ap, subst}
use Rattle.std.proofs.Common.{append_assoc}
use Rattle.std.specs.List.{AllByRecursion, slice_get}
use Rattle.pcc_base.proofs.Lists.{all-at}
use Rattle.index_lists.specs.Lists.{Lists, IsAbsent, IsListed}
use Rattle.index_lists.proofs.Links.{all-split}

-- a node that is in no list is not among the rest of one
absent-from : (s : Lists) (node m : ℕ) (front ys : List ℕ) → (IsListed s node → ⊥)
    → slice_get s.lists m ≡ Some (front ++ ys) → IsAbsent node ys
absent-from s node m front [] f e = tt
absent-from s node m front (y ∷ ys) f e = (
  λ q. f (m, front, ys, subst (λ z. slice_get s.lists m ≡ Some (front ++ z ∷ ys)) q e),
  absent-from s node m (front ++ y ∷ []) ys f (e ∙ ap Some (sym (append_assoc front (y ∷ []) ys))),
)

-- a node that is in no list is absent from each
pub absent-all : (s : Lists) (node : ℕ) → (IsListed s node → ⊥) → (m : ℕ) (ys : List ℕ)
    → slice_get s.lists m ≡ Some ys → IsAbsent node ys
absent-all s node f m ys e = absent-from s node m [] ys f e

-- a node that is absent from each list is in none
pub unlisted : (s : Lists) (node : ℕ) → AllByRecursion (IsAbsent node) s.lists → IsListed s node → ⊥
unlisted s node h (l, before, after, e) =
    (all-split (λ x. x ≢ node) before (node ∷ after) (all-at (IsAbsent node) s.lists l _ h e)).1.0 refl
