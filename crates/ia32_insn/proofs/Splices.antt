-- A list with some elements replaced, and what is read of it.
use Rattle.std.specs.Prelude.{◌≡◌, ℕ, zero, suc, ◌+◌, ◌-◌, ◌≤◌, List, [], ◌∷◌, ◌++◌, length, take, drop, refl}
use Rattle.std.proofs.Common.{sym, ◌∙◌, ap, arith, length-append, length-drop, append_assoc}
use Rattle.std.proofs.lemmas.List.{length-take-le, take-append-le, drop-append-le, drop-take, drop-drop}
use Rattle.std.proofs.Math.Seq.{drop-append_seam, take-append_seam, drop-append-add}

-- the list with these elements from a place on
abbrev pub replaced : {X : Type 0} → ℕ → List X → List X → List X
replaced place ys xs = take place xs ++ ys ++ drop (place + length ys) xs

-- it is as long as before
pub length-replaced : {X : Type 0} (place : ℕ) (ys xs : List X) → place + length ys ≤ length xs
    → length (replaced place ys xs) ≡ length xs
length-replaced place ys xs h =
    let front : length (take place xs) ≡ place = length-take-le place xs (omega arith) in
    simp (length-append, length-drop) (omega (arith, front))

-- the elements themselves
pub replaced-same : {X : Type 0} (place : ℕ) (ys xs : List X) → place + length ys ≤ length xs
    → take (length ys) (drop place (replaced place ys xs)) ≡ ys
replaced-same {X = X} place ys xs h =
    let front : List X = take place xs in
    let rest : List X = drop (place + length ys) xs in
    let size : length front ≡ place = length-take-le place xs (omega arith) in
    ap (λ (l : List X). take (length ys) (drop place l)) (append_assoc front ys rest) ∙ ap
    (λ (k : ℕ). take (length ys) (drop k (front ++ (ys ++ rest)))) (sym size) ∙ ap (take (length ys))
    (drop-append_seam front (ys ++ rest)) ∙ take-append_seam ys rest

-- a shorter front of a front
take-less : {X : Type 0} (n m : ℕ) (xs : List X) → take n (take (n + m) xs) ≡ take n xs
take-less zero m xs = refl
take-less (suc n) m [] = let e : suc n + m ≡ suc (n + m) = omega arith in rw e refl
take-less (suc n) m (x ∷ xs) = let e : suc n + m ≡ suc (n + m) =
    omega arith in rw e (ap (λ (l : List _). x ∷ l) (take-less n m xs))

-- what stands before them
pub replaced-before : {X : Type 0} (place o n : ℕ) (ys xs : List X) → o + n ≤ place → place ≤ length xs
    → take n (drop o (replaced place ys xs)) ≡ take n (drop o xs)
replaced-before {X = X} place o n ys xs h within =
    let front : List X = take place xs in
    let rest : List X = ys ++ drop (place + length ys) xs in
    let size : length front ≡ place = length-take-le place xs within in
    let reach : o ≤ length front = omega (arith, size) in
    let dropped : length (drop o front) ≡ length front - o = length-drop o front in
    let e : place ≡ o + (n + (place - o - n)) = omega arith in
    let inside : drop o front ≡ take (n + (place - o - n)) (drop o xs) =
    ap (λ (k : ℕ). drop o (take k xs)) e ∙ drop-take o (n + (place - o - n)) xs in
    ap (λ (l : List X). take n (drop o l)) (append_assoc front ys (drop (place + length ys) xs)) ∙ ap (take n)
    (drop-append-le o front rest reach) ∙ take-append-le n (drop o front) rest (omega (arith, dropped, size)) ∙ ap
    (take n) inside ∙ take-less n (place - o - n) (drop o xs)

-- what stands behind them
pub replaced-after : {X : Type 0} (place o : ℕ) (ys xs : List X) → place + length ys ≤ o → place + length ys ≤ length xs
    → drop o (replaced place ys xs) ≡ drop o xs
replaced-after {X = X} place o ys xs h within =
    let front : List X = take place xs in
    let rest : List X = drop (place + length ys) xs in
    let size : length front ≡ place = length-take-le place xs (omega arith) in
    let both : length (front ++ ys) ≡ place + length ys = length-append front ys ∙ ap (λ (k : ℕ). k + length ys) size in
    let k : ℕ = o - (place + length ys) in
    let e : o ≡ length (front ++ ys) + k = omega (arith, both) in
    let f : (place + length ys) + k ≡ o = omega arith in
    ap (λ (j : ℕ). drop j ((front ++ ys) ++ rest)) e ∙ drop-append-add (front ++ ys) rest k
    ∙ drop-drop k (place + length ys) xs ∙ ap (λ (j : ℕ). drop j xs) f
