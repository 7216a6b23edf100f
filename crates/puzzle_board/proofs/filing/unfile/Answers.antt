use Rattle.std.proofs.Common.{ap}
use Rattle.index_lists.specs.Lists.{Lists}
use Rattle.puzzle_board.proofs.Classes.{filed-out}
use Rattle.puzzle_board.proofs.filing.unfile.Goals as goal

pub returns-clause-filed : goal.returns-clause-filed
returns-clause-filed g c many old new f r room =
    let (l, before, after, stands) = c.requires in
    rw (c.unlink.ensures.lists l before after stands)
    (filed-out c.args.lists.now many old new c.args.number l before after f
    (c.is_lists.ensures.once l _ stands) stands r room)

pub returns-clause-nodes : goal.returns-clause-nodes
returns-clause-nodes g c =
    let (l, before, after, stands) = c.requires in
    ap (λ (s : Lists). s.nodes) (c.unlink.ensures.lists l before after stands)
