-- Lists in ascending order, and lists of such lists.
use Rattle.std.proofs.Common.{ℕ, zero, suc, ◌≡◌, ◌<◌, List, [], ◌∷◌, ◌++◌, Result, Ok, Err, MatchResult, sym, subst}
use Rattle.std.proofs.Common.{replicate}
use Rattle.std.specs.List.{AllByRecursion, slice_set}
use Rattle.pcc_base.proofs.Lists.{all-push}
use Rattle.flow_graph.specs.Lives.{IsAscending, at_point}

-- a number that is greater than all may come last
pub ascending-push : (xs : List ℕ) (y : ℕ) → IsAscending xs → AllByRecursion (λ x. x < y) xs
    → IsAscending (xs ++ y ∷ [])
ascending-push [] y a g = (tt, tt)
ascending-push (x ∷ xs) y a g = (all-push (λ z. x < z) xs y a.0 g.0, ascending-push xs y a.1 g.1)

-- a list is in ascending order where a greater number was put last, or was refused
pub ascending-put : {A E : Type 0} (r : Result A E) (old new : List ℕ) (y : ℕ) → IsAscending old
    → AllByRecursion (λ x. x < y) old
    → MatchResult r (λ u. new ≡ old ++ y ∷ []) (λ u. new ≡ old) → IsAscending new
ascending-put (Ok u) old new y a g e = subst IsAscending (sym e) (ascending-push old y a g)
ascending-put (Err u) old new y a g e = subst IsAscending (sym e) a

-- each list is in ascending order, also one that isn't there
pub ascending-at : (lists : List (List ℕ)) (k : ℕ) → AllByRecursion IsAscending lists → IsAscending (at_point lists k)
ascending-at [] k a = tt
ascending-at (xs ∷ lists) zero a = a.0
ascending-at (xs ∷ lists) (suc k) a = ascending-at lists k a.1

-- and where one was replaced by such a list
pub ascending-set : (lists : List (List ℕ)) (k : ℕ) (xs : List ℕ) → AllByRecursion IsAscending lists → IsAscending xs
    → AllByRecursion IsAscending (slice_set lists k xs)
ascending-set [] k xs a b = tt
ascending-set (ys ∷ lists) zero xs a b = (b, a.1)
ascending-set (ys ∷ lists) (suc k) xs a b = (a.0, ascending-set lists k xs a.1 b)

-- no variables are in ascending order
pub ascending-none : (n : ℕ) → AllByRecursion IsAscending (replicate n [])
ascending-none zero = tt
ascending-none (suc n) = (tt, ascending-none n)
