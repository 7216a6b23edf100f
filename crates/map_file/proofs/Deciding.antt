-- What tests of each element of a list decide.
use Rattle.std.proofs.Common.{◌≡◌, ℕ, ◌+◌, ◌≤◌, ◌<◌, Bool, true, false, true≢false, List, [], ◌∷◌, ◌++◌}
use Rattle.std.proofs.Common.{length, map, All, HoldsAt, MatchBool, refl, sym, subst, ap, ◌∙◌, arith, get_or, take}
use Rattle.std.specs.Bool.{Decides}
use Rattle.std.specs.List.{AllByRecursion, AllWithin, flat_map}
use Rattle.std.proofs.lemmas.List.{get_or-map, length-map, take_all, take_more}
use Rattle.std.proofs.lemmas.List.Elements.{All-from_all_within, All-from_recursion, All-get_or, All-map, All-push}
use Rattle.std.proofs.lemmas.List.Elements.{recursion_from_All}

-- ---- what `all` answers

-- of what is made of elements
pub decided : {X Y : Type 0} (P : Y → Type 0) (f : X → Y) (xs : List X) (r : Bool)
    → MatchBool r (AllWithin (λ x. P (f x)) xs 0 (length xs))
    ((k : ℕ) × (k < length xs) × HoldsAt (λ x. P (f x) → ⊥) xs k)
    → Decides r (All P (map f xs))
decided P f xs true h = (λ e. All-map P f xs (All-from_all_within (λ x. P (f x)) xs h), λ all. refl)
decided P f [] false (k, inside, not) = absurd (omega (arith, inside))
decided P f (x ∷ xs) false (k, inside, not) =
    let same : get_or (map f (x ∷ xs)) k (f x) ≡ f (get_or (x ∷ xs) k x) = get_or-map f (x ∷ xs) k x (f x) inside in
    let within : k < length (map f (x ∷ xs)) = subst (λ (n : ℕ). k < n) (sym (length-map (x ∷ xs) f)) inside in
    (λ e. absurd (true≢false (sym e)), λ all. absurd (not x (subst P same (all k (f x) within))))

-- of elements
pub decided_all : {X : Type 0} (P : X → Type 0) (xs : List X) (r : Bool)
    → MatchBool r (AllWithin P xs 0 (length xs)) ((k : ℕ) × (k < length xs) × HoldsAt (λ x. P x → ⊥) xs k)
    → Decides r (All P xs)
decided_all P xs true h = (λ e. All-from_all_within P xs h, λ all. refl)
decided_all P [] false (k, inside, not) = absurd (omega (arith, inside))
decided_all P (x ∷ xs) false (k, inside, not) =
    (λ e. absurd (true≢false (sym e)), λ all. absurd (not x (all k x inside)))

-- and the same by recursion
pub decided_by : {X : Type 0} (P : X → Type 0) (xs : List X) (r : Bool) → Decides r (All P xs)
    → Decides r (AllByRecursion P xs)
decided_by P xs r d = (λ e. recursion_from_All P xs (d.0 e), λ each. d.1 (All-from_recursion P xs each))

-- ---- a loop that tests each

abbrev pub EachSoFar : {X Y : Type 0} → (X → Y) → (Y → Type 0) → List X → ℕ → Type 0
EachSoFar make P xs i = All (λ x. P (make x)) (take i xs)

-- one more is so
pub one_so : {X Y : Type 0} (make : X → Y) (P : Y → Type 0) (xs : List X) (i : ℕ) (d : X) → i < length xs
    → EachSoFar make P xs i → P (make (get_or xs i d)) → EachSoFar make P xs (i + 1)
one_so make P xs i d lt so is =
    subst (All (λ x. P (make x))) (sym (take_more xs i d lt))
    (All-push (λ x. P (make x)) (take i xs) (get_or xs i d) so is)

-- all are so
pub all_so : {X Y : Type 0} (make : X → Y) (P : Y → Type 0) (xs : List X) (i : ℕ) → length xs ≤ i
    → EachSoFar make P xs i → All P (map make xs)
all_so make P xs i past so = All-map P make xs (subst (All (λ x. P (make x))) (take_all i xs past) so)

-- what holds of each that is made holds of the one at a place
pub so_at : {X Y : Type 0} (make : X → Y) (P : Y → Type 0) (xs : List X) (i : ℕ) (x : X) → All P (map make xs)
    → i < length xs → x ≡ get_or xs i x → P (make x)
so_at make P xs i x all lt is =
    let long = length-map xs make in
    subst P (get_or-map make xs i x (make x) lt ∙ ap make (sym is))
    (All-get_or P (map make xs) i (make x) (omega (arith, lt, long)) all)

-- one isn't so
pub one_isnt : {X Y : Type 0} (make : X → Y) (P : Y → Type 0) (xs : List X) (i : ℕ) (x : X) (fine : Bool)
    → i < length xs → x ≡ get_or xs i x → fine ≡ false → Decides fine (P (make x)) → Decides false (All P (map make xs))
one_isnt make P xs i x fine lt is isnt told =
    (λ e. absurd (true≢false (sym e)), λ all. sym isnt ∙ told.1 (so_at make P xs i x all lt is))

-- one more is so
pub one_is : {X Y : Type 0} (make : X → Y) (P : Y → Type 0) (xs : List X) (i : ℕ) (x : X) (fine : Bool)
    → i < length xs → x ≡ get_or xs i x → fine ≡ true → Decides fine (P (make x)) → EachSoFar make P xs i
    → EachSoFar make P xs (i + 1)
one_is {X = X} make P xs i x fine lt is sure told so =
    one_so make P xs i x lt so (subst (λ (y : X). P (make y)) is (told.0 sure))

-- all are so
pub each_is : {X Y : Type 0} (make : X → Y) (P : Y → Type 0) (xs : List X) (i : ℕ) → length xs ≤ i
    → EachSoFar make P xs i → Decides true (All P (map make xs))
each_is make P xs i past so = (λ e. all_so make P xs i past so, λ all. refl)

-- ---- lists of lists

join-recursion : {X : Type 0} (P : X → Type 0) (xs ys : List X) → AllByRecursion P xs → AllByRecursion P ys
    → AllByRecursion P (xs ++ ys)
join-recursion P [] ys a b = b
join-recursion P (x ∷ xs) ys a b = (a.0, join-recursion P xs ys a.1 b)

part-recursion : {X : Type 0} (P : X → Type 0) (xs ys : List X) → AllByRecursion P (xs ++ ys)
    → AllByRecursion P xs × AllByRecursion P ys
part-recursion P [] ys all = (tt, all)
part-recursion P (x ∷ xs) ys all =
    let rest = part-recursion P xs ys all.1 in
    ((all.0, rest.0), rest.1)

each-recursion : {X : Type 0} (P : X → Type 0) (lists : List (List X)) → AllByRecursion (AllByRecursion P) lists
    → AllByRecursion P (flat_map (λ xs. xs) lists)
each-recursion P [] all = tt
each-recursion P (xs ∷ lists) all = join-recursion P xs (flat_map (λ xs. xs) lists) all.0 (each-recursion P lists all.1)

flat-recursion : {X : Type 0} (P : X → Type 0) (lists : List (List X))
    → AllByRecursion P (flat_map (λ xs. xs) lists) → AllByRecursion (AllByRecursion P) lists
flat-recursion P [] all = tt
flat-recursion P (xs ∷ lists) all =
    let parts = part-recursion P xs (flat_map (λ xs. xs) lists) all in
    (parts.0, flat-recursion P lists parts.1)

inside : {X : Type 0} (P : X → Type 0) (lists : List (List X)) → AllByRecursion (AllByRecursion P) lists
    → AllByRecursion (All P) lists
inside P [] all = tt
inside P (xs ∷ lists) all = (All-from_recursion P xs all.0, inside P lists all.1)

outside : {X : Type 0} (P : X → Type 0) (lists : List (List X)) → AllByRecursion (All P) lists
    → AllByRecursion (AllByRecursion P) lists
outside P [] all = tt
outside P (xs ∷ lists) all = (recursion_from_All P xs all.0, outside P lists all.1)

-- each element of each list
pub each_of : {X : Type 0} (P : X → Type 0) (lists : List (List X)) → All (All P) lists
    → All P (flat_map (λ xs. xs) lists)
each_of P lists all =
    All-from_recursion P (flat_map (λ xs. xs) lists)
    (each-recursion P lists (outside P lists (recursion_from_All (All P) lists all)))

pub each_in : {X : Type 0} (P : X → Type 0) (lists : List (List X)) → All P (flat_map (λ xs. xs) lists)
    → All (All P) lists
each_in P lists all =
    All-from_recursion (All P) lists
    (inside P lists (flat-recursion P lists (recursion_from_All P (flat_map (λ xs. xs) lists) all)))

-- what is told of each list is told of their elements
pub flat_told : {X : Type 0} (P : X → Type 0) (lists : List (List X)) (r : Bool) → Decides r (All (All P) lists)
    → Decides r (All P (flat_map (λ xs. xs) lists))
flat_told P lists r told = (λ e. each_of P lists (told.0 e), λ all. told.1 (each_in P lists all))
