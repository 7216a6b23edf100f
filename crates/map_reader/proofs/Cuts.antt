-- What stands before a byte and what stands behind it, and the parts between such bytes.
use Rattle.std.proofs.Common.{◌≡◌, ℕ, ◌+◌, ◌-◌, ◌<◌, ◌≤◌, true, false, ◌==◌, List, [], ◌∷◌, ◌++◌, length, get_or, take}
use Rattle.std.proofs.Common.{drop, All, Some, None, option_map, refl, sym, ap, subst, ◌∙◌, append_assoc}
use Rattle.std.proofs.Common.{take-append-drop, arith}
use Rattle.std.specs.Borrow.{Bor}
use Rattle.std.specs.List.{slice_split}
use Rattle.std.proofs.lemmas.Bool.{cond-true, cond-false, eq-eqb, ne_eqb}
use Rattle.std.proofs.lemmas.List.{drop_more, length-drop, map-append, take_all, take_more}
use Rattle.std.proofs.lemmas.List.Elements.{All-head, All-push, All-tail}
use Rattle.std.proofs.lemmas.List.Splits.{slice_split_at, slice_split_none}
use Rattle.map_text.specs.Fields.{cut_at}
use Rattle.map_reader.specs.Views.{texts}

abbrev pub Avoids : ℕ → List ℕ → Type 0
Avoids byte xs = All (λ b. (b == byte) ≡ false) xs

-- no such byte is there
cut_none : (byte : ℕ) (xs : List ℕ) → Avoids byte xs → cut_at byte xs ≡ None
cut_none byte [] h = refl
cut_none byte (x ∷ xs) h =
    cond-false (x == byte) _ _ (All-head (λ b. (b == byte) ≡ false) x xs h)
    ∙ ap (option_map (λ (parts : List ℕ × List ℕ). (x ∷ parts.0, parts.1)))
    (cut_none byte xs (All-tail (λ b. (b == byte) ≡ false) x xs h))

-- the first such byte stands behind these
cut_behind : (byte : ℕ) (xs : List ℕ) (y : ℕ) (ys : List ℕ) → Avoids byte xs → (y == byte) ≡ true
    → cut_at byte (xs ++ y ∷ ys) ≡ Some (xs, ys)
cut_behind byte [] y ys h e = cond-true (y == byte) _ _ e
cut_behind byte (x ∷ xs) y ys h e =
    cond-false (x == byte) _ _ (All-head (λ b. (b == byte) ≡ false) x xs h)
    ∙ ap (option_map (λ (parts : List ℕ × List ℕ). (x ∷ parts.0, parts.1)))
    (cut_behind byte xs y ys (All-tail (λ b. (b == byte) ≡ false) x xs h) e)

at-place : (xs : List ℕ) (i : ℕ) → i < length xs → xs ≡ take i xs ++ get_or xs i 0 ∷ drop (i + 1) xs
at-place xs i lt = sym (take-append-drop i xs) ∙ ap (λ (zs : List ℕ). take i xs ++ zs) (drop_more xs i 0 lt)

-- a slice up to the end
rest-whole : (xs : List ℕ) (i : ℕ) → take (length xs - i) (drop i xs) ≡ drop i xs
rest-whole xs i = take_all (length xs - i) (drop i xs) (omega (arith, length-drop i xs))

-- the first such byte stands at this place
pub cut_read : (byte : ℕ) (xs : List ℕ) (i : ℕ) → i < length xs → get_or xs i 0 ≡ byte → Avoids byte (take i xs)
    → Some (take i xs, take (length xs - (i + 1)) (drop (i + 1) xs)) ≡ cut_at byte xs
cut_read byte xs i lt e h =
    ap (λ (ys : List ℕ). Some (take i xs, ys)) (rest-whole xs (i + 1))
    ∙ sym
    (ap (cut_at byte) (at-place xs i lt)
    ∙ cut_behind byte (take i xs) (get_or xs i 0) (drop (i + 1) xs) h (eq-eqb (get_or xs i 0) byte e))

-- and the parts between such bytes
pub split_read : (byte : ℕ) (xs : List ℕ) (i : ℕ) → i < length xs → get_or xs i 0 ≡ byte → Avoids byte (take i xs)
    → slice_split (λ b. b == byte) xs
    ≡ take i xs ∷ slice_split (λ b. b == byte) (take (length xs - (i + 1)) (drop (i + 1) xs))
split_read byte xs i lt e h =
    ap (slice_split (λ b. b == byte)) (at-place xs i lt)
    ∙ slice_split_at (λ b. b == byte) (take i xs) (get_or xs i 0) (drop (i + 1) xs) h (eq-eqb (get_or xs i 0) byte e)
    ∙ ap (λ (ys : List ℕ). take i xs ∷ slice_split (λ b. b == byte) ys) (sym (rest-whole xs (i + 1)))

-- one byte more that isn't such a byte
pub avoids_next : (byte : ℕ) (xs : List ℕ) (i : ℕ) → i < length xs → (get_or xs i 0 ≡ byte → ⊥)
    → Avoids byte (take i xs) → Avoids byte (take (i + 1) xs)
avoids_next byte xs i lt isnt h =
    subst (Avoids byte) (sym (take_more xs i 0 lt))
    (All-push (λ b. (b == byte) ≡ false) (take i xs) (get_or xs i 0) h (ne_eqb (get_or xs i 0) byte isnt))

-- no byte of all is such a byte
avoids-all : (byte : ℕ) (xs : List ℕ) (i : ℕ) → length xs ≤ i → Avoids byte (take i xs) → Avoids byte xs
avoids-all byte xs i past h = subst (Avoids byte) (take_all i xs past) h

pub cut_past : (byte : ℕ) (xs : List ℕ) (i : ℕ) → length xs ≤ i → Avoids byte (take i xs) → None ≡ cut_at byte xs
cut_past byte xs i past h = sym (cut_none byte xs (avoids-all byte xs i past h))

pub split_past : (byte : ℕ) (xs : List ℕ) (i : ℕ) → length xs ≤ i → Avoids byte (take i xs)
    → slice_split (λ b. b == byte) xs ≡ xs ∷ []
split_past byte xs i past h = slice_split_none (λ b. b == byte) xs (avoids-all byte xs i past h)

-- a word more, and the words behind it
pub words_next : (items : List (Bor (List ℕ))) (w : Bor (List ℕ)) (rest others all : List (List ℕ))
    → texts items ++ rest ≡ all → rest ≡ w.now ∷ others → texts (items ++ w ∷ []) ++ others ≡ all
words_next items w rest others all so e =
    ap (λ (t : List (List ℕ)). t ++ others) (map-append (λ (v : Bor (List ℕ)). v.now) items (w ∷ []))
    ∙ append_assoc (texts items) (w.now ∷ []) others
    ∙ ap (λ (t : List (List ℕ)). texts items ++ t) (sym e)
    ∙ so

-- the last word
pub words_last : (items : List (Bor (List ℕ))) (w : Bor (List ℕ)) (rest all : List (List ℕ))
    → texts items ++ rest ≡ all → rest ≡ w.now ∷ [] → texts (items ++ w ∷ []) ≡ all
words_last items w rest all so e =
    map-append (λ (v : Bor (List ℕ)). v.now) items (w ∷ [])
    ∙ ap (λ (t : List (List ℕ)). texts items ++ t) (sym e)
    ∙ so

-- nothing is left
pub no_bytes : (xs : List ℕ) → length xs ≡ 0 → xs ≡ []
no_bytes [] e = refl
no_bytes (x ∷ xs) e = absurd (omega (arith, e))

pub no_words : (words : List (Bor (List ℕ))) → length words ≡ 0 → texts words ≡ []
no_words [] e = refl
no_words (w ∷ ws) e = absurd (omega (arith, e))
