-- Argument words that are passed from the last one on.
use Rattle.std.proofs.Common.{◌≡◌, ◌<◌, ◌+◌, ◌-◌, ◌++◌, ℕ, List, drop, length, get_or, map, sym, ap, subst, ◌∙◌}
use Rattle.std.proofs.Common.{append_assoc, arith}
use Rattle.std.proofs.lemmas.List.{drop_more}
use Rattle.ia32_insn.specs.declared.item.Item.{Item}
use Rattle.ia32_rows.specs.Rows.{pass, pass_all}
use Rattle.ia32_emit.specs.declared.locations.Location.{Location}
use Rattle.ia32_emit.specs.Locations.{place_of}

-- the words of the places behind the first ones
abbrev pub words_behind : ℕ → List Location → List Item
words_behind k xs = pass_all (map place_of (drop k xs))

-- one word more
pub one_more : (old middle new : List Item) (xs : List Location) (done place : ℕ) (d : Location) → done < length xs
    → place + 1 ≡ length xs - done → middle ≡ old ++ words_behind (length xs - done) xs
    → new ≡ middle ++ pass (place_of (get_or xs place d)) → new ≡ old ++ words_behind place xs
one_more old middle new xs done place d within is so_far more =
    let at : words_behind place xs ≡ words_behind (place + 1) xs ++ pass (place_of (get_or xs place d)) =
    ap (λ (l : List Location). pass_all (map place_of l)) (drop_more xs place d (omega arith)) in
    let before : middle ≡ old ++ words_behind (place + 1) xs =
    subst (λ (k : ℕ). middle ≡ old ++ words_behind k xs) (sym is) so_far in
    more ∙ ap (λ (l : List Item). l ++ pass (place_of (get_or xs place d))) before
    ∙ append_assoc old (words_behind (place + 1) xs) (pass (place_of (get_or xs place d)))
    ∙ ap (λ (l : List Item). old ++ l) (sym at)
