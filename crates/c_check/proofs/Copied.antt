-- A list that is copied one after the other.
use Rattle.std.proofs.Common.{◌≡◌, sym, ap, ◌∙◌, ℕ, suc, ◌+◌, ◌<◌, ◌≤◌, arith, List, [], ◌∷◌, ◌++◌, length, map, drop}
use Rattle.std.proofs.Common.{get_or}
use Rattle.std.proofs.Math.Seq.{drop-cons}
use Rattle.std.proofs.lemmas.List.{append-nil, append_assoc, drop_all, map-append}

pub next_one : {A : Type 0} (xs : List A) (n : ℕ) (x : A) → n < length xs → x ≡ get_or xs n x
    → drop n xs ≡ x ∷ drop (n + 1) xs
next_one xs n x lt same =
    let e : suc n ≡ n + 1 = omega arith in
    drop-cons xs n x lt ∙ ap (λ q. q ∷ drop (suc n) xs) (sym same) ∙ ap (λ k. x ∷ drop k xs) e

pub copied_more : {A B : Type 0} (f : A → B) (vs ws xs : List A) (n : ℕ) (x c : A) → n < length xs → x ≡ get_or xs n x
    → f c ≡ f x → ws ≡ vs ++ c ∷ [] → (map f vs ++ map f (drop n xs)) ≡ map f xs
    → (map f ws ++ map f (drop (n + 1) xs)) ≡ map f xs
copied_more f vs ws xs n x c lt same is grown h =
    ap (λ us. map f us ++ map f (drop (n + 1) xs)) grown
    ∙ ap (λ us. us ++ map f (drop (n + 1) xs)) (map-append f vs (c ∷ []))
    ∙ append_assoc (map f vs) (f c ∷ []) (map f (drop (n + 1) xs))
    ∙ ap (λ b. map f vs ++ b ∷ map f (drop (n + 1) xs)) is
    ∙ ap (λ us. map f vs ++ map f us) (sym (next_one xs n x lt same))
    ∙ h

pub copied_all : {A B : Type 0} (f : A → B) (vs xs : List A) (n : ℕ) → length xs ≤ n
    → (map f vs ++ map f (drop n xs)) ≡ map f xs → map f vs ≡ map f xs
copied_all f vs xs n all h = sym (append-nil (map f vs)) ∙ ap (λ us. map f vs ++ map f us) (sym (drop_all n xs all)) ∙ h
