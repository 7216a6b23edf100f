use Rattle.std.proofs.Common.{◌∙◌, ◌++◌, ◌∷◌, [], List, ℕ, ap, decimal}
use Rattle.puzzle_solver.specs.Texts.{columns_word, kind_letter, width_digit}
use Rattle.puzzle_solver.proofs.Lines.{put-line}
use Rattle.puzzle_solver.proofs.placement_text.push_line.Goals as goal

pub returns : goal.returns
returns c =
    put-line c.args.out.now.items c.push_number.new.out.items c.push.new.self.items c.push-2.new.self.items
    c.push-3.new.self.items c.push-4.new.self.items c.push_number-2.new.out.items c.push-5.new.self.items
    c.extend_from_slice.new.self.items c.push-6.new.self.items (decimal c.args.number) (decimal c.args.spot.area)
    (columns_word c.args.spot.columns) (kind_letter c.args.piece.kind) (width_digit c.args.piece.width)
    c.in_ok-push_number.ensures c.in_ok-push.ensures.items
    (c.in_ok-push-2.ensures.items ∙ ap (λ (x : ℕ). c.push.new.self.items ++ x ∷ []) c.letter.ensures)
    (c.in_ok-push-3.ensures.items ∙ ap (λ (x : ℕ). c.push-2.new.self.items ++ x ∷ []) c.digit.ensures)
    c.in_ok-push-4.ensures.items c.in_ok-push_number-2.ensures c.in_ok-push-5.ensures.items
    (c.in_ok-extend_from_slice.ensures.items ∙ ap (λ (xs : List ℕ). c.push-5.new.self.items ++ xs)
    (c.as_bytes.ensures.value ∙ c.columns.ensures))
    c.in_ok-push-6.ensures.items
