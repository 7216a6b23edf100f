-- When names are the same.
use Rattle.std.proofs.Common.{◌≡◌, ℕ, List, true, refl}
use Rattle.std.proofs.lemmas.Slice.Eq.{bytes_eq-Decides}
use Rattle.c_typing.specs.Library.{same_name}

pub same_is : (a b : List ℕ) → same_name a b ≡ true → a ≡ b
same_is a b e = (bytes_eq-Decides a b).0 e

pub same_self : (a : List ℕ) → same_name a a ≡ true
same_self a = (bytes_eq-Decides a a).1 refl
