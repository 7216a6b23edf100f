use Rattle.std.proofs.Common.{rules}
use Rattle.elf_link.proofs.addresses.Addresses.word.Goals as goal

pub returns-then-relocation : goal.returns-then-relocation
returns-then-relocation c = search rules
