use Rattle.std.proofs.Common.{◌≡◌, ℕ, ◌+◌, List, ◌∷◌, drop, get_or, map, ap}
use Rattle.std.proofs.lemmas.List.{drop_all, drop_more}
use Rattle.puzzle_board.specs.declared.piece.Columns.TheVariants.{Low}
use Rattle.puzzle_board.specs.declared.place.Place.{Place}
use Rattle.puzzle_board.specs.declared.place.Place.TheVariants.{Cells}
use Rattle.map_text.specs.Entries.{standings_of}
use Rattle.map_file.proofs.Ascending.{all_follow, all_left, none_follows, one_follows}
use Rattle.map_file.proofs.standings.ascend.Goals as goal

abbrev variables : List (ℕ × Place) → List ℕ
variables es = map (λ s. s.variable) (standings_of es)

abbrev any_entry : ℕ × Place
any_entry = (0, Cells (record { area = 0; columns = Low }))

pub loop-variable-init : goal.loop-variable-init
loop-variable-init c = all_left (variables c.args.entries.now)

pub returns-then-variable-least : goal.returns-then-variable-least
returns-then-variable-least c =
    let xs = c.args.entries.now in
    let i = c.loop-variable.variable-index in
    let x = (get_or xs i any_entry).0 in
    let next : variables (drop i xs) ≡ x ∷ variables (drop (i + 1) xs) =
    ap variables (drop_more xs i any_entry c.loop-variable-test.true) in
    none_follows (variables xs) c.loop-variable.least x (variables (drop i xs)) (variables (drop (i + 1) xs)) next
    c.if-variable-least.true c.loop-variable.invariant

pub loop-variable-preserved : goal.loop-variable-preserved
loop-variable-preserved c =
    let xs = c.args.entries.now in
    let i = c.loop-variable.variable-index in
    let x = (get_or xs i any_entry).0 in
    let next : variables (drop i xs) ≡ x ∷ variables (drop (i + 1) xs) =
    ap variables (drop_more xs i any_entry c.loop-variable-test.true) in
    one_follows (variables xs) c.loop-variable.least x (variables (drop i xs)) (variables (drop (i + 1) xs)) next
    c.if-variable-least.false c.loop-variable.invariant

pub returns : goal.returns
returns c =
    let xs = c.args.entries.now in
    let i = c.loop-variable.variable-index in
    all_follow (variables xs) c.loop-variable.least (variables (drop i xs))
    (ap variables (drop_all i xs c.loop-variable-test.false)) c.loop-variable.invariant
