-- Lists without one element, and no more different things than there are.
use Rattle.std.proofs.Common.{◌≡◌, ◌≢◌, ℕ, zero, suc, ◌+◌, ◌≤◌, List, [], ◌∷◌, ◌++◌, Option, Some, None}
use Rattle.std.proofs.Common.{length, map, cond, refl, sym, subst, ◌∙◌, arith}
use Rattle.std.specs.Prelude.{Bool, true, false, ◌&&◌, ◌||◌, slice_get, remove, position, MatchOption}
use Rattle.std.specs.List.{AllByRecursion, list_all, list_any, position_from}
use Rattle.std.proofs.lemmas.Iterator.Adapters.{position_from-zero}

-- ---- all elements

pub all-map : {X : Type 0} (P Q : X → Type 0) (xs : List X) → ((x : X) → P x → Q x) → AllByRecursion P xs
    → AllByRecursion Q xs
all-map P Q [] f h = tt
all-map P Q (x ∷ xs) f h = (f x h.0, all-map P Q xs f h.1)

pub all-two : {X : Type 0} (P Q R : X → Type 0) (xs : List X) → ((x : X) → P x → Q x → R x) → AllByRecursion P xs
    → AllByRecursion Q xs → AllByRecursion R xs
all-two P Q R [] f h k = tt
all-two P Q R (x ∷ xs) f h k = (f x h.0 k.0, all-two P Q R xs f h.1 k.1)

pub all-into : {X Y : Type 0} (P : X → Type 0) (Q : Y → Type 0) (g : X → Y) (xs : List X)
    → ((x : X) → P x → Q (g x)) → AllByRecursion P xs → AllByRecursion Q (map g xs)
all-into P Q g [] f h = tt
all-into P Q g (x ∷ xs) f h = (f x h.0, all-into P Q g xs f h.1)

pub all-at : {X : Type 0} (P : X → Type 0) (xs : List X) (i : ℕ) (x : X) → slice_get xs i ≡ Some x
    → AllByRecursion P xs → P x
all-at P [] i x e h = cc
all-at P (y ∷ ys) zero x e h = let same : y ≡ x = cc in subst P same h.0
all-at P (y ∷ ys) (suc i) x e h = all-at P ys i x e h.1

pub all-back : {X Y : Type 0} (Q : Y → Type 0) (g : X → Y) (xs : List X) → AllByRecursion Q (map g xs)
    → AllByRecursion (λ x. Q (g x)) xs
all-back Q g [] h = tt
all-back Q g (x ∷ xs) h = (h.0, all-back Q g xs h.1)

pub all-pairs : {X : Type 0} (P Q : X → Type 0) (xs : List X) → AllByRecursion P xs → AllByRecursion Q xs
    → AllByRecursion (λ x. P x × Q x) xs
all-pairs P Q xs h k = all-two P Q (λ x. P x × Q x) xs (λ x p q. (p, q)) h k

-- what holds at each place holds of all
pub all-from : {X : Type 0} (P : X → Type 0) (xs : List X) → ((i : ℕ) (x : X) → slice_get xs i ≡ Some x → P x)
    → AllByRecursion P xs
all-from P [] f = tt
all-from P (x ∷ xs) f = (f zero x refl, all-from P xs (λ i y e. f (suc i) y e))

pub all-append : {X : Type 0} (P : X → Type 0) (xs ys : List X) → AllByRecursion P xs → AllByRecursion P ys
    → AllByRecursion P (xs ++ ys)
all-append P [] ys h k = k
all-append P (x ∷ xs) ys h k = (h.0, all-append P xs ys h.1 k)

-- ---- all but one

pub all-removed : {X : Type 0} (P : X → Type 0) (xs : List X) (i : ℕ) (x : X) → slice_get xs i ≡ Some x
    → AllByRecursion P xs → AllByRecursion P (remove xs i)
all-removed P [] i x e h = cc
all-removed P (y ∷ ys) zero x e h = h.1
all-removed P (y ∷ ys) (suc i) x e h = (h.0, all-removed P ys i x e h.1)

pub all-restored : {X : Type 0} (P : X → Type 0) (xs : List X) (i : ℕ) (x : X) → slice_get xs i ≡ Some x → P x
    → AllByRecursion P (remove xs i) → AllByRecursion P xs
all-restored P [] i x e p h = tt
all-restored P (y ∷ ys) zero x e p h = let same : x ≡ y = cc in (subst P same p, h)
all-restored P (y ∷ ys) (suc i) x e p h = (h.0, all-restored P ys i x e p h.1)

pub length-removed : {X : Type 0} (xs : List X) (i : ℕ) (x : X) → slice_get xs i ≡ Some x
    → length (remove xs i) + 1 ≡ length xs
length-removed [] i x e = cc
length-removed (y ∷ ys) zero x e = omega arith
length-removed (y ∷ ys) (suc i) x e = let rest = length-removed ys i x e in omega arith

-- ---- tests

pub all-pass : {X : Type 0} (p : X → Bool) (xs : List X) → list_all p xs ≡ true
    → AllByRecursion (λ x. p x ≡ true) xs
all-pass p [] e = tt
all-pass p (x ∷ xs) e = chosen (p x) refl e (all-pass p xs)
  where
    chosen : (b : Bool) → p x ≡ b → (b && list_all p xs) ≡ true
        → (list_all p xs ≡ true → AllByRecursion (λ y. p y ≡ true) xs) → AllByRecursion (λ y. p y ≡ true) (x ∷ xs)
    chosen true is e more = (is, more e)
    chosen false is e more = cc

pub pass-all : {X : Type 0} (p : X → Bool) (xs : List X) → AllByRecursion (λ x. p x ≡ true) xs
    → list_all p xs ≡ true
pass-all p [] h = refl
pass-all p (x ∷ xs) h = rw h.0 (pass-all p xs h.1)

-- one that fails
pub record At {X : Type 0} (P : X → Type 0) (xs : List X) : Type 0 where
  pub index : ℕ
  pub element : X
  pub there : slice_get xs index ≡ Some element
  pub holds : P element

pub at-next : {X : Type 0} (P : X → Type 0) (x : X) (xs : List X) → At P xs → At P (x ∷ xs)
at-next P x xs h = record { index = suc h.index; element = h.element; there = h.there; holds = h.holds }

pub some-fails : {X : Type 0} (p : X → Bool) (xs : List X) → list_all p xs ≡ false → At (λ x. p x ≡ false) xs
some-fails p [] e = cc
some-fails p (x ∷ xs) e = chosen (p x) refl e (some-fails p xs)
  where
    chosen : (b : Bool) → p x ≡ b → (b && list_all p xs) ≡ false
        → (list_all p xs ≡ false → At (λ y. p y ≡ false) xs) → At (λ y. p y ≡ false) (x ∷ xs)
    chosen true is e more = at-next (λ y. p y ≡ false) x xs (more e)
    chosen false is e more = record { index = zero; element = x; there = refl; holds = is }

pub some-passes : {X : Type 0} (p : X → Bool) (xs : List X) → list_any p xs ≡ true → At (λ x. p x ≡ true) xs
some-passes p [] e = cc
some-passes p (x ∷ xs) e = chosen (p x) refl e (some-passes p xs)
  where
    chosen : (b : Bool) → p x ≡ b → (b || list_any p xs) ≡ true → (list_any p xs ≡ true → At (λ y. p y ≡ true) xs)
        → At (λ y. p y ≡ true) (x ∷ xs)
    chosen true is e more = record { index = zero; element = x; there = refl; holds = is }
    chosen false is e more = at-next (λ y. p y ≡ true) x xs (more e)

pub none-passes : {X : Type 0} (p : X → Bool) (xs : List X) → list_any p xs ≡ false
    → AllByRecursion (λ x. p x ≡ false) xs
none-passes p [] e = tt
none-passes p (x ∷ xs) e = chosen (p x) refl e (none-passes p xs)
  where
    chosen : (b : Bool) → p x ≡ b → (b || list_any p xs) ≡ false
        → (list_any p xs ≡ false → AllByRecursion (λ y. p y ≡ false) xs)
        → AllByRecursion (λ y. p y ≡ false) (x ∷ xs)
    chosen true is e more = cc
    chosen false is e more = (is, more e)

-- ---- different things

abbrev pub AreDistinct : {X : Type 0} → List X → Type 0
AreDistinct [] = Unit {0}
AreDistinct (x ∷ xs) = AllByRecursion (λ y. x ≢ y) xs × AreDistinct xs

abbrev pub IsIn : {X : Type 0} → List X → X → Type 0
IsIn ys x = (i : ℕ) × (slice_get ys i ≡ Some x)

in-removed : {X : Type 0} (ys : List X) (i j : ℕ) (x y : X) → slice_get ys i ≡ Some x → slice_get ys j ≡ Some y
    → x ≢ y → IsIn (remove ys i) y
in-removed [] i j x y e f other = cc
in-removed (z ∷ zs) zero zero x y e f other = let same : x ≡ y = cc in absurd (other same)
in-removed (z ∷ zs) zero (suc j) x y e f other = (j, f)
in-removed (z ∷ zs) (suc i) zero x y e f other = (zero, f)
in-removed (z ∷ zs) (suc i) (suc j) x y e f other = let r = in-removed zs i j x y e f other in (suc r.0, r.1)

-- of things in a list there are no more different ones than it has elements
pub length-distinct : {X : Type 0} (xs ys : List X) → AreDistinct xs → AllByRecursion (IsIn ys) xs
    → length xs ≤ length ys
length-distinct [] ys d h = omega arith
length-distinct {X} (x ∷ xs) ys d h =
    let there = h.0 in
    let rest : AllByRecursion (IsIn (remove ys there.0)) xs =
    all-two (λ y. x ≢ y) (IsIn ys) (IsIn (remove ys there.0)) xs
    (λ y other found. in-removed ys there.0 found.0 x y there.1 found.1 other) d.0 h.1 in
    let shorter = length-distinct xs (remove ys there.0) d.1 rest in
    let one = length-removed ys there.0 x there.1 in
    omega arith

-- ---- the first one

-- where the first element that passes stands
first-from : {X : Type 0} (p : X → Bool) (xs : List X) (i : ℕ)
    → MatchOption (position_from p i xs) (AllByRecursion (λ x. p x ≡ false) xs)
    (λ k. (j : ℕ) × (k ≡ i + j) × (x : X) × (slice_get xs j ≡ Some x) × (p x ≡ true))
first-from p [] i = tt
first-from {X} p (x ∷ xs) i = chosen (p x) refl (position_from p (i + 1) xs) (first-from p xs (i + 1))
  where
    later : (o : Option ℕ) → p x ≡ false
        → MatchOption o (AllByRecursion (λ y. p y ≡ false) xs)
        (λ k. (j : ℕ) × (k ≡ i + 1 + j) × (y : X) × (slice_get xs j ≡ Some y) × (p y ≡ true))
        → MatchOption o (AllByRecursion (λ y. p y ≡ false) (x ∷ xs))
        (λ k. (j : ℕ) × (k ≡ i + j) × (y : X) × (slice_get (x ∷ xs) j ≡ Some y) × (p y ≡ true))
    later None fails h = (fails, h)
    later (Some k) fails (j, at, y, there, passes) = (suc j, omega arith, y, there, passes)

    chosen : (b : Bool) → p x ≡ b → (o : Option ℕ)
        → MatchOption o (AllByRecursion (λ y. p y ≡ false) xs)
        (λ k. (j : ℕ) × (k ≡ i + 1 + j) × (y : X) × (slice_get xs j ≡ Some y) × (p y ≡ true))
        → MatchOption (cond b (Some i) o) (AllByRecursion (λ y. p y ≡ false) (x ∷ xs))
        (λ k. (j : ℕ) × (k ≡ i + j) × (y : X) × (slice_get (x ∷ xs) j ≡ Some y) × (p y ≡ true))
    chosen true is o h = (zero, omega arith, x, refl, is)
    chosen false is o h = later o is h

pub none-found : {X : Type 0} (p : X → Bool) (xs : List X) → position p xs ≡ None
    → AllByRecursion (λ x. p x ≡ false) xs
none-found {X} p xs e =
    let from : position_from p 0 xs ≡ None = sym (position_from-zero p xs) ∙ e in
    subst (λ (o : Option ℕ). MatchOption o (AllByRecursion (λ x. p x ≡ false) xs)
    (λ k. (j : ℕ) × (k ≡ 0 + j) × (x : X) × (slice_get xs j ≡ Some x) × (p x ≡ true))) from (first-from p xs 0)

pub found-at : {X : Type 0} (p : X → Bool) (xs : List X) (i : ℕ) → position p xs ≡ Some i
    → (x : X) × (slice_get xs i ≡ Some x) × (p x ≡ true)
found-at {X} p xs i e =
    let from : position_from p 0 xs ≡ Some i = sym (position_from-zero p xs) ∙ e in
    let found : (j : ℕ) × (i ≡ 0 + j) × (x : X) × (slice_get xs j ≡ Some x) × (p x ≡ true) =
    subst (λ (o : Option ℕ). MatchOption o (AllByRecursion (λ x. p x ≡ false) xs)
    (λ k. (j : ℕ) × (k ≡ 0 + j) × (x : X) × (slice_get xs j ≡ Some x) × (p x ≡ true))) from (first-from p xs 0) in
    let same : found.0 ≡ i = omega arith in
    (found.2, subst (λ (k : ℕ). slice_get xs k ≡ Some found.2) same found.3, found.4)
