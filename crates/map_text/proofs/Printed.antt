-- Words that are put behind each other are the words of a line.
use Rattle.std.proofs.Common.{◌≡◌, ℕ, List, [], ◌∷◌, ◌++◌, codes, decimal, flat_map, map, Option, refl, sym, ap, ◌∙◌}
use Rattle.std.proofs.Common.{append_assoc, append-nil}
use Rattle.pcc_base.specs.Ascii.{space}
use Rattle.flow_graph.specs.declared.op.Op.TheVariants as op
use Rattle.map_text.specs.Words.{argument_text, each_spaced, if_any_text, op_words}

-- words behind words
pub each-append : (xs ys : List (List ℕ)) → each_spaced (xs ++ ys) ≡ each_spaced xs ++ each_spaced ys
each-append [] ys = refl
each-append (x ∷ xs) ys =
    ap (λ (t : List ℕ). space ∷ (x ++ t)) (each-append xs ys)
    ∙ ap (λ (t : List ℕ). space ∷ t) (sym (append_assoc x (each_spaced xs) (each_spaced ys)))

pub more-pushed : (old : List ℕ) (xs ys : List (List ℕ)) → (old ++ each_spaced xs) ++ each_spaced ys
    ≡ old ++ each_spaced (xs ++ ys)
more-pushed old xs ys =
    append_assoc old (each_spaced xs) (each_spaced ys) ∙ ap (λ (t : List ℕ). old ++ t) (sym (each-append xs ys))

-- a word behind a space
pub word_pushed : (old word : List ℕ) → old ++ codes " " ++ word ≡ old ++ each_spaced (word ∷ [])
word_pushed old word =
    append_assoc old (codes " ") word ∙ ap (λ (t : List ℕ). old ++ (space ∷ t)) (sym (append-nil word))

pub two_pushed : (old a b : List ℕ) → old ++ each_spaced (a ∷ []) ++ each_spaced (b ∷ [])
    ≡ old ++ each_spaced (a ∷ b ∷ [])
two_pushed old a b = more-pushed old (a ∷ []) (b ∷ [])

pub three_pushed : (old a b c : List ℕ)
    → old ++ each_spaced (a ∷ []) ++ each_spaced (b ∷ []) ++ each_spaced (c ∷ []) ≡ old ++ each_spaced (a ∷ b ∷ c ∷ [])
three_pushed old a b c =
    ap (λ (t : List ℕ). t ++ each_spaced (c ∷ [])) (two_pushed old a b) ∙ more-pushed old (a ∷ b ∷ []) (c ∷ [])

pub four_pushed : (old a b c d : List ℕ)
    → old ++ each_spaced (a ∷ []) ++ each_spaced (b ∷ []) ++ each_spaced (c ∷ []) ++ each_spaced (d ∷ [])
    ≡ old ++ each_spaced (a ∷ b ∷ c ∷ d ∷ [])
four_pushed old a b c d =
    ap (λ (t : List ℕ). t ++ each_spaced (d ∷ [])) (three_pushed old a b c)
    ∙ more-pushed old (a ∷ b ∷ c ∷ []) (d ∷ [])

pub five_pushed : (old a b c d e : List ℕ)
    → old ++ each_spaced (a ∷ []) ++ each_spaced (b ∷ []) ++ each_spaced (c ∷ []) ++ each_spaced (d ∷ [])
    ++ each_spaced (e ∷ [])
    ≡ old ++ each_spaced (a ∷ b ∷ c ∷ d ∷ e ∷ [])
five_pushed old a b c d e =
    ap (λ (t : List ℕ). t ++ each_spaced (e ∷ [])) (four_pushed old a b c d)
    ∙ more-pushed old (a ∷ b ∷ c ∷ d ∷ []) (e ∷ [])

pub six_pushed : (old a b c d e f : List ℕ)
    → old ++ each_spaced (a ∷ []) ++ each_spaced (b ∷ []) ++ each_spaced (c ∷ []) ++ each_spaced (d ∷ [])
    ++ each_spaced (e ∷ []) ++ each_spaced (f ∷ [])
    ≡ old ++ each_spaced (a ∷ b ∷ c ∷ d ∷ e ∷ f ∷ [])
six_pushed old a b c d e f =
    ap (λ (t : List ℕ). t ++ each_spaced (f ∷ [])) (five_pushed old a b c d e)
    ∙ more-pushed old (a ∷ b ∷ c ∷ d ∷ e ∷ []) (f ∷ [])

-- numbers, each behind a space
pub numbers-spaced : (xs : List ℕ) → flat_map argument_text xs ≡ each_spaced (map decimal xs)
numbers-spaced [] = refl
numbers-spaced (x ∷ xs) = ap (λ (t : List ℕ). space ∷ (decimal x ++ t)) (numbers-spaced xs)

pub call_words_pushed : (old : List ℕ) (d : Option ℕ) (f : ℕ) (xs : List ℕ)
    → old ++ each_spaced (codes "call" ∷ []) ++ each_spaced (if_any_text d ∷ []) ++ each_spaced (decimal f ∷ [])
    ++ flat_map argument_text xs
    ≡ old ++ each_spaced (op_words (op.Call d f xs))
call_words_pushed old d f xs =
    ap
    (λ (t : List ℕ).
    old ++ each_spaced (codes "call" ∷ []) ++ each_spaced (if_any_text d ∷ []) ++ each_spaced (decimal f ∷ []) ++ t)
    (numbers-spaced xs)
    ∙ ap (λ (t : List ℕ). t ++ each_spaced (map decimal xs)) (three_pushed old (codes "call") (if_any_text d) (decimal f))
    ∙ more-pushed old (codes "call" ∷ if_any_text d ∷ decimal f ∷ []) (map decimal xs)
