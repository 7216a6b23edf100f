-- What a test of the first bytes says.
use Rattle.std.proofs.Common.{◌≡◌, ◌∙◌, ℕ, Bool, true, false, eqb, List, ◌++◌, sym}
use Rattle.std.specs.List.{starts_with}
use Rattle.std.proofs.lemmas.Bool.Decides.{Decides-eqb}
use Rattle.std.proofs.lemmas.Slice.Eq.{starts_is}

-- a failed test of the first bytes says that the rest doesn't begin so
pub starts_not : (rest needle : List ℕ) (r : Bool) → r ≡ starts_with eqb rest needle → r ≡ false → (others : List ℕ)
    → rest ≡ needle ++ others → ⊥
starts_not rest needle r is fails others e =
    let clash : true ≡ false = sym ((starts_is Decides-eqb rest needle r is).1 others e) ∙ fails in cc
