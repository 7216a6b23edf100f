-- What a list is worth, from how many of each class it has.
use Rattle.std.proofs.Common.{ℕ, ◌≡◌, ◌+◌, ◌*◌, refl, sym, ◌∙◌, ap, Bool, cond, List, [], ◌∷◌, sum_by, count_by, arith}
use Rattle.std.proofs.lemmas.List.Sums.{sum_by-cons}
use Rattle.std.proofs.Math.Nat.{mul-add}

-- what the classes are worth, each as often as it comes
abbrev pub total : {A C : Type 0} → (C → C → Bool) → (A → C) → (C → ℕ) → List A → List C → ℕ
total same class_of v xs [] = 0
total same class_of v xs (c ∷ classes) =
    v c * count_by (λ x. same (class_of x) c) xs + total same class_of v xs classes

-- what the classes are worth that this one is
abbrev pub picked : {C : Type 0} → (C → C → Bool) → (C → ℕ) → C → List C → ℕ
picked same v d [] = 0
picked same v d (c ∷ classes) = v c * cond (same d c) 1 0 + picked same v d classes

total-none :
    {A C : Type 0} (same : C → C → Bool) (class_of : A → C) (v : C → ℕ) (classes : List C)
    → total same class_of v [] classes ≡ 0
total-none same class_of v [] = refl
total-none same class_of v (c ∷ classes) = omega (arith, total-none same class_of v classes)

total-cons :
    {A C : Type 0} (same : C → C → Bool) (class_of : A → C) (v : C → ℕ) (x : A) (xs : List A) (classes : List C)
    → total same class_of v (x ∷ xs) classes ≡ picked same v (class_of x) classes + total same class_of v xs classes
total-cons same class_of v x xs [] = refl
total-cons same class_of v x xs (c ∷ classes) =
    let count = sum_by-cons (λ y. cond (same (class_of y) c) 1 0) x xs in
    let here = ap (λ n. v c * n) count ∙ mul-add (v c) (cond (same (class_of x) c) 1 0)
    (count_by (λ y. same (class_of y) c) xs) in
    omega (arith, here, total-cons same class_of v x xs classes)

-- where each class is picked once, a list is worth what its classes are
pub sum_by-total :
    {A C : Type 0} (same : C → C → Bool) (class_of : A → C) (v : C → ℕ) (classes : List C)
    → ((d : C) → picked same v d classes ≡ v d) → (xs : List A)
    → sum_by (λ x. v (class_of x)) xs ≡ total same class_of v xs classes
sum_by-total same class_of v classes once [] = sym (total-none same class_of v classes)
sum_by-total same class_of v classes once (x ∷ xs) =
    omega (
      arith,
      sum_by-cons (λ y. v (class_of y)) x xs,
      total-cons same class_of v x xs classes,
      once (class_of x),
      sum_by-total same class_of v classes once xs,
    )
