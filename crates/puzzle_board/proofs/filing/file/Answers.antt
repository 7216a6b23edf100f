use Rattle.puzzle_board.proofs.Classes.{filed-in}
use Rattle.puzzle_board.proofs.filing.file.Goals as goal

pub returns-clause-filed : goal.returns-clause-filed
returns-clause-filed g c many old new f r room =
    rw c.push_back.ensures.lists
    (filed-in c.args.lists.now many old new c.args.number c.args.class f c.requires.class c.requires.in_none r room)
