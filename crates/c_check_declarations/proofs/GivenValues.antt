-- The values of a list.
use Rattle.std.proofs.Common.{◌≡◌, refl, sym, ap, ◌∙◌, ◌∷◌, [], List, ℕ, zero, suc, nat_lt, ◌-◌, ◌+◌, ◌<◌, ◌≤◌, arith}
use Rattle.std.proofs.Common.{true, length, map, drop}
use Rattle.std.proofs.Common.{get_or}
use Rattle.std.proofs.Math.Seq.{drop-cons}
use Rattle.std.proofs.lemmas.Bool.Decides.{nat_tests}
use Rattle.std.proofs.lemmas.List.{drop_all}
use Rattle.pcc_base.specs.declared.span.Span.{Span}
use Rattle.c_syntax.specs.declared.expression.Expression.{Expression as Raw}
use Rattle.c_tree.specs.Program.{Expression}
use Rattle.c_typing.specs.Checked.{Checked, Fits, if_fits}
use Rattle.c_typing.specs.Expressions.{Given}
use Rattle.c_typing.specs.Initialisers.{values_for}
use Rattle.c_typing.specs.Names.{Scope}
use Rattle.c_check_expressions.specs.Arguments.{given_of}
use Rattle.c_check_declarations.proofs.Lists.{one_before}
use Rattle.c_check_declarations.specs.InitialValues.{row_within}

-- the next value, where there is room for it or not
next_value : {A : Type 0} (row : Span → Expression → Checked A) (room : ℕ) (g : Given) (gs : List Given)
    → values_for row room (g ∷ gs)
    ≡ one_before (if_fits g.value (row_within (nat_lt 0 room) row g.at)) (values_for row (room - 1) gs)
next_value row zero g gs = refl
next_value row (suc room) g gs =
    let e : suc room - 1 ≡ room = omega arith in
    let t : nat_lt 0 (suc room) ≡ true = grind (arith, nat_tests) in
    ap (λ b. one_before (if_fits g.value (row_within b row g.at)) (values_for row room gs)) (sym t)
    ∙ ap (λ n. one_before (if_fits g.value (row_within (nat_lt 0 (suc room)) row g.at)) (values_for row n gs)) (sym e)

no_value_left : {A : Type 0} (row : Span → Expression → Checked A) (room : ℕ) → values_for row room [] ≡ Fits [] []
no_value_left row zero = refl
no_value_left row (suc room) = refl

next_left : (es : List Raw) (i : ℕ) (e : Raw) → i < length es → e ≡ get_or es i e → drop i es ≡ e ∷ drop (i + 1) es
next_left es i e lt is =
    let n : suc i ≡ i + 1 = omega arith in
    drop-cons es i e lt ∙ ap (λ q. q ∷ drop (suc i) es) (sym is) ∙ ap (λ k. e ∷ drop k es) n

pub next_row : {A : Type 0} (row : Span → Expression → Checked A) (s : Scope) (es : List Raw) (i : ℕ) (e : Raw)
    (room n : ℕ) → i < length es → e ≡ get_or es i e → n ≡ room - 1
    → values_for row room (map (given_of s) (drop i es))
    ≡ one_before (if_fits (given_of s e).value (row_within (nat_lt 0 room) row (given_of s e).at))
    (values_for row n (map (given_of s) (drop (i + 1) es)))
next_row row s es i e room n lt is h =
    ap (λ xs. values_for row room (map (given_of s) xs)) (next_left es i e lt is)
    ∙ next_value row room (given_of s e) (map (given_of s) (drop (i + 1) es))
    ∙ ap (λ k. one_before (if_fits (given_of s e).value (row_within (nat_lt 0 room) row (given_of s e).at))
    (values_for row k (map (given_of s) (drop (i + 1) es)))) (sym h)

pub none_left : {A : Type 0} (row : Span → Expression → Checked A) (s : Scope) (es : List Raw) (i room : ℕ)
    → length es ≤ i → values_for row room (map (given_of s) (drop i es)) ≡ Fits [] []
none_left row s es i room w = ap (λ xs. values_for row room (map (given_of s) xs)) (drop_all i es w)
    ∙ no_value_left row room
