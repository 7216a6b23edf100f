use Rattle.std.proofs.Common.{rules}
use Rattle.elf_link.proofs.start.start_items.Goals as goal

pub returns : goal.returns
returns c = search rules
