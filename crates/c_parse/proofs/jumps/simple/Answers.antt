use Rattle.std.proofs.Common.{refl, ◌∙◌}
use Rattle.c_parse.specs.StatementParts.{below_node}
use Rattle.c_parse.proofs.Parted.{simple_parted}
use Rattle.c_parse.proofs.jumps.simple.Goals as goal

pub returns : goal.returns
returns c = (
  simple_parted (below_node c.args.height.levels) c.args.cursor.now.rest.now
      ∙ (rw (c.in_ok-clause.ensures.0, c.simple_node.ensures) refl),
  c.in_ok-clause.ensures.1,
)
