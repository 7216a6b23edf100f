-- The arguments that are left.
use Rattle.std.proofs.Common.{◌≡◌, ◌∙◌, ℕ, zero, suc, ◌<◌, ◌≤◌, List, [], ◌∷◌, length, map, drop, sym, ap, arith}
use Rattle.std.specs.Prelude.{slice_index_or}
use Rattle.std.proofs.lemmas.List.{drop-map, drop_all}
use Rattle.c_syntax.specs.declared.expression.Expression.{Expression as Raw}
use Rattle.c_typing.specs.Names.{Scope}
use Rattle.c_check_expressions.specs.Arguments.{given_of}

pub next_given : (s : Scope) (es : List Raw) (i : ℕ) (e : Raw) → i < length es → e ≡ slice_index_or es i e
    → drop i (map (given_of s) es) ≡ given_of s e ∷ drop (suc i) (map (given_of s) es)
next_given s [] i e w h = absurd (omega (arith, w))
next_given s (x ∷ xs) zero e w h = ap (λ y. given_of s y ∷ map (given_of s) xs) (sym h)
next_given s (x ∷ xs) (suc i) e w h = next_given s xs i e (omega (arith, w)) h

pub none_given : (s : Scope) (es : List Raw) (i : ℕ) → length es ≤ i → drop i (map (given_of s) es) ≡ []
none_given s es i w = drop-map (given_of s) i es ∙ ap (map (given_of s)) (drop_all i es w)
