-- Points with the moves behind them, one point at a time.
use Rattle.std.proofs.Common.{◌≡◌, ◌+◌, ℕ, zero, suc, List, [], ◌∷◌, ◌++◌, Option, Some, drop, refl, sym, ap, ◌∙◌}
use Rattle.std.proofs.Common.{append_assoc}
use Rattle.std.specs.Prelude.{slice_get}
use Rattle.ia32_insn.specs.declared.item.Item.{Item}
use Rattle.flow_graph.specs.Graphs.{Flow}
use Rattle.ia32_rows.specs.Placements.{Placement}
use Rattle.ia32_rows.specs.Rows.{moves_to, point_row, point_rows}
use Rattle.ia32_select.proofs.Loops.{drop-here}

-- the first of the elements from one on
first-from : {X : Type 0} (xs : List X) (k : ℕ) → slice_get (drop k xs) 0 ≡ slice_get xs k
first-from [] zero = refl
first-from [] (suc k) = refl
first-from (x ∷ xs) zero = refl
first-from (x ∷ xs) (suc k) = first-from xs k

-- one more point, with the moves to the next one
pub rows-more : (flow : Flow) (placement : Placement) (points : List ℕ) (i p : ℕ) (next : Option ℕ)
    (old new whole : List Item) → slice_get points i ≡ Some p → next ≡ slice_get points (i + 1)
    → old ++ point_rows flow placement (drop i points) ≡ whole
    → new ≡ old ++ (point_row flow placement p ++ moves_to placement p next)
    → new ++ point_rows flow placement (drop (i + 1) points) ≡ whole
rows-more flow placement points i p next old new whole here follows so-far e =
    let rest : List ℕ = drop (i + 1) points in
    let mine : List Item = point_row flow placement p in
    let moves : List Item = moves_to placement p next in
    let rows : List Item = point_rows flow placement rest in
    let same : next ≡ slice_get rest 0 = follows ∙ sym (first-from points (i + 1)) in
    ap (λ (l : List Item). l ++ rows) e
    ∙ (append_assoc old (mine ++ moves) rows
    ∙ (ap (λ (l : List Item). old ++ l) (append_assoc mine moves rows)
    ∙ (ap (λ (o : Option ℕ). old ++ (mine ++ (moves_to placement p o ++ rows))) same
    ∙ (ap (λ (l : List ℕ). old ++ point_rows flow placement l) (sym (drop-here points i p here)) ∙ so-far))))
