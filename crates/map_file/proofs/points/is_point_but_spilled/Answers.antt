use Rattle.std.proofs.Common.{◌<◌, ◌∙◌, ℕ, List, length, subst, sym}
use Rattle.std.specs.Bool.{Decides}
use Rattle.std.specs.List.{All}
use Rattle.puzzle_board.specs.declared.piece.Piece.{Piece}
use Rattle.puzzle_board.specs.declared.place.Place.{Place}
use Rattle.map_text.specs.Entries.{standings_of}
use Rattle.map_text.specs.Maps.{AreStandings}
use Rattle.map_text.specs.Rules.{AreInOrder, IsMapPiece}
use Rattle.map_file.specs.Views.{function_of}
use Rattle.map_file.proofs.points.is_point_but_spilled.Goals as goal

pub returns-then-not-are_pieces-clause-wrong : goal.returns-then-not-are_pieces-clause-wrong
returns-then-not-are_pieces-clause-wrong c =
    let vs = (function_of c.args.function.now).variables in
    let told = subst (λ (ps : List Piece). Decides c.are_pieces.result (All (IsMapPiece vs) ps × AreInOrder ps))
    c.as_slice.ensures.value c.are_pieces.ensures in
    λ is. sym c.if-not-are_pieces.true ∙ told.1 (is.pieces, is.in_order)

pub returns-then-not-are_standings-clause-wrong : goal.returns-then-not-are_standings-clause-wrong
returns-then-not-are_standings-clause-wrong c =
    let vs = (function_of c.args.function.now).variables in
    let told = subst (λ (es : List (ℕ × Place)). Decides c.are_standings.result (AreStandings vs (standings_of es)))
    c.as_slice-2.ensures.value c.are_standings.ensures in
    λ is. sym c.if-not-are_standings.true ∙ told.1 is.before

pub returns-then-not-after-clause-wrong : goal.returns-then-not-after-clause-wrong
returns-then-not-after-clause-wrong c =
    let vs = (function_of c.args.function.now).variables in
    let told = subst
    (λ (es : List (ℕ × Place)). Decides c.are_standings-after.result (AreStandings vs (standings_of es)))
    c.as_slice-3.ensures.value c.are_standings-after.ensures in
    λ is. sym c.if-not-after.true ∙ told.1 is.after

pub returns-clause-right : goal.returns-clause-right
returns-clause-right c = λ e once.
    let vs = (function_of c.args.function.now).variables in
    let pieces = subst (λ (ps : List Piece). Decides c.are_pieces.result (All (IsMapPiece vs) ps × AreInOrder ps))
    c.as_slice.ensures.value c.are_pieces.ensures in
    let before = subst (λ (es : List (ℕ × Place)). Decides c.are_standings.result (AreStandings vs (standings_of es)))
    c.as_slice-2.ensures.value c.are_standings.ensures in
    let after = subst
    (λ (es : List (ℕ × Place)). Decides c.are_standings-after.result (AreStandings vs (standings_of es)))
    c.as_slice-3.ensures.value c.are_standings-after.ensures in
    let spilled = subst (λ (ns : List ℕ). Decides c.are_variables.result (All (λ v. v < length vs) ns))
    c.as_slice-4.ensures.value c.are_variables.ensures in
    let both = pieces.0 c.if-not-are_pieces.false in
    record {
      number = c.is_word.ensures;
      address = c.is_word-2.ensures;
      op = c.is_op.ensures.0 c.if-not-is_op.false;
      areas = c.are_four.ensures;
      pieces = both.0;
      in_order = both.1;
      before = before.0 c.if-not-are_standings.false;
      after = after.0 c.if-not-after.false;
      spilled = spilled.0 e;
      once = once;
    }
