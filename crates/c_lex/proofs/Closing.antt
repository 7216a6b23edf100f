-- Whether a literal is closed, one byte on.
use Rattle.std.proofs.Common.{◌≡◌, ℕ, ◌+◌, ◌<◌, ◌==◌, Bool, List, [], ◌∷◌, length, get_or, drop, true, false}
use Rattle.std.proofs.Common.{if◌then◌else◌, refl, arith, ◌∙◌, ap}
use Rattle.std.proofs.lemmas.List.{drop_more, drop-drop, get_or-drop}
use Rattle.std.proofs.lemmas.Bool.Decides.{nat_tests}
use Rattle.pcc_base.specs.Ascii.{newline, backslash}
use Rattle.c_lex.specs.Literals.{is_closed}

-- one byte of the inside, and what follows
pub closed-cons : (quote b : ℕ) (rest : List ℕ)
    → is_closed quote (b ∷ rest)
    ≡ (if b == quote then true
    else (if b == newline then false
    else (if b == backslash then (if get_or rest 0 0 == newline then false else is_closed quote (drop 1 rest))
    else is_closed quote rest)))
closed-cons quote b [] = grind (arith, nat_tests)
closed-cons quote b (c ∷ rest) = refl

-- the same at a place of a list
pub closed_at : (quote : ℕ) (xs : List ℕ) (i : ℕ) → i < length xs
    → is_closed quote (drop i xs)
    ≡ (if get_or xs i 0 == quote then true
    else (if get_or xs i 0 == newline then false
    else (if get_or xs i 0 == backslash
    then (if get_or xs (i + 1) 0 == newline then false else is_closed quote (drop (i + 2) xs))
    else is_closed quote (drop (i + 1) xs))))
closed_at quote xs i h =
    let e : get_or (drop (i + 1) xs) 0 0 ≡ get_or xs (i + 1) 0 =
    get_or-drop (i + 1) xs 0 0 ∙ ap (λ k. get_or xs k 0) (omega arith) in
    let d : drop 1 (drop (i + 1) xs) ≡ drop (i + 2) xs = drop-drop 1 (i + 1) xs ∙ ap (λ k. drop k xs) (omega arith) in
    let b = get_or xs i 0 in
    let step : ℕ → List ℕ → Bool =
    λ c others. (if b == quote then true
    else (if b == newline then false
    else (if b == backslash then (if c == newline then false else is_closed quote others)
    else is_closed quote (drop (i + 1) xs)))) in
    ap (is_closed quote) (drop_more xs i 0 h) ∙ closed-cons quote b (drop (i + 1) xs) ∙ ap
    (λ c. step c (drop 1 (drop (i + 1) xs))) e ∙ ap (λ others. step (get_or xs (i + 1) 0) others) d

-- a backslash takes the next byte with it
pub closed_escape : (quote : ℕ) (xs : List ℕ) (i j : ℕ) → i < length xs → (get_or xs i 0 ≡ quote → ⊥)
    → get_or xs i 0 ≡ backslash → (get_or xs (i + 1) 0 ≡ newline → ⊥) → j ≡ i + 2
    → is_closed quote (drop i xs) ≡ is_closed quote (drop j xs)
closed_escape quote xs i j h q b n e = let s = closed_at quote xs i h in grind (arith, nat_tests)

-- another byte is passed over
pub closed_other : (quote : ℕ) (xs : List ℕ) (i j : ℕ) → i < length xs → (get_or xs i 0 ≡ quote → ⊥)
    → (get_or xs i 0 ≡ newline → ⊥) → (get_or xs i 0 ≡ backslash → ⊥) → j ≡ i + 1
    → is_closed quote (drop i xs) ≡ is_closed quote (drop j xs)
closed_other quote xs i j h q n b e = let s = closed_at quote xs i h in grind (arith, nat_tests)
