-- Areas 1 and 2 are EBX and ECX, which an instruction numbers the other way.
use Rattle.std.specs.Prelude.{◌≡◌, Some, None}
use Rattle.ia32_insn.specs.declared.register_names.Reg32.TheVariants.{Ecx, Ebx}
use Rattle.ia32_insn.specs.declared.register_names.Reg8.TheVariants.{Cl, Bh}
use Rattle.ia32_insn.specs.Places.{word_of_area, low_of_area, high_of_area}

abbrev pub AreasAreNamed : Type 0
AreasAreNamed =
    (word_of_area 1 ≡ Some Ebx) × (word_of_area 2 ≡ Some Ecx) × (low_of_area 2 ≡ Some Cl) × (high_of_area 1 ≡ Some Bh)
    × (word_of_area 4 ≡ None)
