use Rattle.std.proofs.lemmas.Result.{IfOk-weaker}
use Rattle.pcc_driver.proofs.Solving.{fresh_stands, none_answer, placed_answer}
use Rattle.pcc_driver.proofs.solve.answer_on.Goals as goal

pub solve-requires : goal.solve-requires
solve-requires g c = fresh_stands c.args.board.now c.requires.fresh

pub returns-then-solve : goal.returns-then-solve
returns-then-solve g c =
    IfOk-weaker c.print_placement.result _ _
    (λ text is. placed_answer c.args.board.now c.solve.new.board text.items c.requires.fresh
    c.if-solve.ensures.solved is)
    c.print_placement.ensures

pub returns : goal.returns
returns g c =
    none_answer c.args.board.now _ c.requires.fresh c.if-solve.ensures.unsolvable c.in_ok-from_slice.ensures.items
