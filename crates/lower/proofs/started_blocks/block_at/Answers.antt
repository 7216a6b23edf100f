use Rattle.std.proofs.Common.{rules}
use Rattle.lower.proofs.Places.{start-none, start-there}
use Rattle.lower.proofs.started_blocks.block_at.Goals as goal

pub returns-then-place-starts : goal.returns-then-place-starts
returns-then-place-starts c = start-there c.args.starts.now c.args.place

pub returns : goal.returns
returns c = search (rules, start-none)
