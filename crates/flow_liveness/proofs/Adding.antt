-- Lists that grow at their ends.
use Rattle.std.proofs.Common.{ℕ, zero, suc, ◌≡◌, ◌≢◌, ◌<◌, ◌⊎◌, inl, inr, ◌↔◌, List, [], ◌∷◌, ◌++◌, length, Some}
use Rattle.std.proofs.Common.{refl, sym}
use Rattle.std.proofs.Common.{Result, Ok, Err, MatchResult, OnOk, replicate, subst, ap, arith, get_or, get_or-set_same}
use Rattle.std.proofs.Common.{get_or-set_other, ◌∙◌}
use Rattle.std.proofs.Math.ListN.{set, length-set}
use Rattle.std.specs.List.{AllByRecursion, slice_get}
use Rattle.std.proofs.lemmas.Bool.{cases_eq}
use Rattle.std.proofs.lemmas.Option.{same_Some}
use Rattle.pcc_base.proofs.Lists.{get-last, get-append}
use Rattle.flow_graph.specs.Graphs.{IsIn}
use Rattle.flow_liveness.specs.Lists.{Adds, Has, list_at, with_last}

-- an entry was there before, or is the one that was put last
pub last-or-before : {X : Type 0} (xs : List X) (x : X) (i : ℕ) (y : X) → slice_get (xs ++ x ∷ []) i ≡ Some y
    → (slice_get xs i ≡ Some y) ⊎ ((i ≡ length xs) × (x ≡ y))
last-or-before [] x zero y e = inr (refl, same_Some x y e)
last-or-before [] x (suc i) y e = absurd (cc)
last-or-before (z ∷ xs) x zero y e = inl e
last-or-before (z ∷ xs) x (suc i) y e =
    elim (last-or-before xs x i y e) [
      | inl old ↦ inl old
      | inr new ↦ inr (ap suc new.0, new.1)
    ]

-- what is read at a place of the list
pub has-read : {X : Type 0} (xs : List X) (i : ℕ) (x : X) → i < length xs → x ≡ get_or xs i x
    → slice_get xs i ≡ Some x
has-read [] i x h e = absurd (omega arith)
has-read (y ∷ xs) zero x h e = ap Some (sym e)
has-read (y ∷ xs) (suc i) x h e = has-read xs i x (omega arith) e

-- the same with any other value where there is none
pub has-item : {X : Type 0} (xs : List X) (i : ℕ) (d : X) → i < length xs → slice_get xs i ≡ Some (get_or xs i d)
has-item [] i d h = absurd (omega arith)
has-item (y ∷ xs) zero d h = refl
has-item (y ∷ xs) (suc i) d h = has-item xs i d (omega arith)

-- what a list has, after one more
pub has-push : {X : Type 0} (xs : List X) (x y : X) → Has (xs ++ x ∷ []) y ↔ (Has xs y ⊎ (y ≡ x))
has-push xs x y = (there, here)
  where
    there : Has (xs ++ x ∷ []) y → Has xs y ⊎ (y ≡ x)
    there (i, e) =
        elim (last-or-before xs x i y e) [ inl old ↦ inl (i, old) | inr new ↦ inr (sym new.1) ]

    here : Has xs y ⊎ (y ≡ x) → Has (xs ++ x ∷ []) y
    here (inl (i, e)) = (i, get-append xs (x ∷ []) i y e)
    here (inr e) = (length xs, subst (λ z. slice_get (xs ++ x ∷ []) (length xs) ≡ Some z) (sym e) (get-last xs x))

-- a number in a list, by its place
pub in-has : (x : ℕ) (xs : List ℕ) → IsIn x xs → Has xs x
in-has x [] h = absurd h
in-has x (y ∷ xs) (inl e) = (zero, ap Some e)
in-has x (y ∷ xs) (inr h) = let (i, e) = in-has x xs h in (suc i, e)

pub has-in : (x : ℕ) (xs : List ℕ) → Has xs x → IsIn x xs
has-in x [] (i, e) = absurd (cc)
has-in x (y ∷ xs) (zero, e) = inl (same_Some y x e)
has-in x (y ∷ xs) (suc i, e) = inr (has-in x xs (i, e))

-- what holds of each entry, by recursion
pub has-every : {X : Type 0} (P : X → Type 0) (xs : List X) → ((x : X) → Has xs x → P x) → AllByRecursion P xs
has-every P [] h = tt
has-every P (x ∷ xs) h = (h x (zero, refl), has-every P xs (λ y (i, e). h y (suc i, e)))

-- empty lists have nothing
pub has-none : {X : Type 0} (n place : ℕ) (x : X) → Has (list_at (replicate n []) place) x → ⊥
has-none zero place x (i, e) = absurd (cc)
has-none (suc n) zero x (i, e) = absurd (cc)
has-none (suc n) (suc place) x h = has-none n place x h

-- nothing was added
pub adds-none : {X : Type 0} (lists : List (List X)) (M : X → ℕ → Type 0) → ((x : X) (p : ℕ) → M x p → ⊥)
    → Adds lists lists M
adds-none lists M none = record { as_many = refl; has = λ x p. (λ h. inl h, λ h. only x p h) }
  where
    only : (x : _) (p : ℕ) → Has (list_at lists p) x ⊎ M x p → Has (list_at lists p) x
    only x p (inl h) = h
    only x p (inr m) = absurd (none x p m)

-- one entry was added
pub adds-push : {X : Type 0} (lists : List (List X)) (k : ℕ) (x : X) → k < length lists
    → Adds lists (with_last lists k x) (λ y p. (y ≡ x) × (p ≡ k))
adds-push lists k x h = record {
  as_many = length-set lists k (get_or lists k [] ++ x ∷ []);
  has = λ y p. elim (cases_eq p k) [
    | inl e ↦ subst (λ (j : ℕ). Has (get_or (set lists k (get_or lists k [] ++ x ∷ [])) j []) y
        ↔ (Has (get_or lists j []) y ⊎ ((y ≡ x) × (j ≡ k)))) (sym e) (here y)
    | inr n ↦ there y p n
  ];
}
  where
    here : (y : _) → Has (get_or (set lists k (get_or lists k [] ++ x ∷ [])) k []) y
        ↔ (Has (get_or lists k []) y ⊎ ((y ≡ x) × (k ≡ k)))
    here y =
        subst (λ zs. Has zs y ↔ (Has (get_or lists k []) y ⊎ ((y ≡ x) × (k ≡ k))))
        (sym (get_or-set_same lists k (get_or lists k [] ++ x ∷ []) [] h)) (
          (λ g. elim ((has-push (get_or lists k []) x y).0 g) [ inl a ↦ inl a | inr b ↦ inr (b, refl) ]),
          (λ g. (has-push (get_or lists k []) x y).1 (elim g [ inl a ↦ inl a | inr b ↦ inr b.0 ])),
        )

    there : (y : _) (p : ℕ) → p ≢ k → Has (get_or (set lists k (get_or lists k [] ++ x ∷ [])) p []) y
        ↔ (Has (get_or lists p []) y ⊎ ((y ≡ x) × (p ≡ k)))
    there y p n =
        subst (λ zs. Has zs y ↔ (Has (get_or lists p []) y ⊎ ((y ≡ x) × (p ≡ k))))
        (sym (get_or-set_other lists k p (get_or lists k [] ++ x ∷ []) [] n))
        ((λ g. inl g), (λ g. elim g [ inl a ↦ a | inr b ↦ absurd (n b.1) ]))

-- first these were added, and then those
pub adds-then : {X : Type 0} (a b c : List (List X)) (M N : X → ℕ → Type 0) → Adds a b M → Adds b c N
    → Adds a c (λ x p. M x p ⊎ N x p)
adds-then a b c M N f g = record { as_many = g.as_many ∙ f.as_many; has = λ x p. (there x p, here x p) }
  where
    there : (x : _) (p : ℕ) → Has (list_at c p) x → Has (list_at a p) x ⊎ (M x p ⊎ N x p)
    there x p h =
        elim ((g.has x p).0 h) [
          | inl in-b ↦ elim ((f.has x p).0 in-b) [ inl in-a ↦ inl in-a | inr m ↦ inr (inl m) ]
          | inr n ↦ inr (inr n)
        ]

    here : (x : _) (p : ℕ) → Has (list_at a p) x ⊎ (M x p ⊎ N x p) → Has (list_at c p) x
    here x p (inl in-a) = (g.has x p).1 (inl ((f.has x p).1 (inl in-a)))
    here x p (inr (inl m)) = (g.has x p).1 (inl ((f.has x p).1 (inr m)))
    here x p (inr (inr n)) = (g.has x p).1 (inr n)

-- what was added, told in other words
pub adds-same : {X : Type 0} (a b : List (List X)) (M N : X → ℕ → Type 0) → ((x : X) (p : ℕ) → M x p → N x p)
    → ((x : X) (p : ℕ) → N x p → M x p) → Adds a b M → Adds a b N
adds-same a b M N to from f = record { as_many = f.as_many; has = λ x p. (there x p, here x p) }
  where
    there : (x : _) (p : ℕ) → Has (list_at b p) x → Has (list_at a p) x ⊎ N x p
    there x p h = elim ((f.has x p).0 h) [ inl a ↦ inl a | inr m ↦ inr (to x p m) ]

    here : (x : _) (p : ℕ) → Has (list_at a p) x ⊎ N x p → Has (list_at b p) x
    here x p (inl a) = (f.has x p).1 (inl a)
    here x p (inr n) = (f.has x p).1 (inr (from x p n))

-- what holds where a call went well
pub ok-alone : {A E : Type 0} (P Q : Type 0) (r : Result A E) → MatchResult r (λ _. P) (λ _. Q) → OnOk r P
ok-alone P Q (Ok a) h = h
ok-alone P Q (Err e) h = tt
