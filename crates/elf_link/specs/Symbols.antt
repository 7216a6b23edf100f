-- Addresses as the definitions of code see them.
use Rattle.ia32_insn.specs.Items.{Symbols}
use Rattle.elf_link.specs.declared.addresses.Addresses.{Addresses}

-- the addresses as symbols, by which the words of a text are told
abbrev pub symbols_of : Addresses → Symbols
symbols_of a =
    record {
      functions = a.functions.items;
      objects = a.objects.items;
      depth = a.depth;
      putchar = a.putchar;
      getchar = a.getchar;
      exit = a.exit;
      check = a.check;
    }
