-- Texts with an end taken off.
use Rattle.std.proofs.Common.{◌≡◌, ◌≢◌, Bool, false, List, ◌++◌, ℕ, ap, sym, ◌∙◌, bytes_eq}
use Rattle.std.proofs.lemmas.List.{append_cancel_right}
use Rattle.std.proofs.lemmas.Bool.{false≢true}
use Rattle.std.proofs.lemmas.Bool.Decides.{Decides-at, Decides-like, same_from_decides}
use Rattle.std.proofs.lemmas.Slice.Eq.{bytes_eq-Decides}

-- a text that ends in p is the name with p behind it just where its front is the name
pub bytes_eq-with_end : (front name p source : List ℕ) (r : Bool) → source ≡ front ++ p → r ≡ bytes_eq front name → r
    ≡ bytes_eq (name ++ p) source
bytes_eq-with_end front name p source r e same =
    same_from_decides r (bytes_eq (name ++ p) source)
    (Decides-at r (bytes_eq front name) same
    (Decides-like (bytes_eq front name)
    (λ h. ap (λ (x : List ℕ). x ++ p) (sym h) ∙ sym e)
    (λ h. append_cancel_right front name p (sym e ∙ sym h))
    (bytes_eq-Decides front name)))
    (bytes_eq-Decides (name ++ p) source)

-- a text that doesn't end in p is no name with p behind it
pub bytes_eq-without_end : (name p source : List ℕ) → ((front : List ℕ) → source ≢ front ++ p) → false
    ≡ bytes_eq (name ++ p) source
bytes_eq-without_end name p source other =
    same_from_decides false (bytes_eq (name ++ p) source)
    (λ h. absurd (false≢true h), λ h. absurd (other name (sym h)))
    (bytes_eq-Decides (name ++ p) source)
