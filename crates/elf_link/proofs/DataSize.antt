-- How many bytes the static data of an image have.
use Rattle.std.specs.Prelude.{◌≡◌, ℕ, ◌+◌, List, [], ◌∷◌, flat_map, length}
use Rattle.std.proofs.Common.{refl, ◌∙◌, arith}
use Rattle.std.proofs.lemmas.List.{length-append}
use Rattle.pcc_base.proofs.Zeros.{length-zeros}
use Rattle.pcc_base.specs.Bytes.{zeros}
use Rattle.ia32_insn.specs.Items.{Object, data_bytes, object_bytes}
use Rattle.ia32_insn.proofs.Objects.{length-object}
use Rattle.elf_link.specs.Parts.{objects_size}

-- the objects take what their sizes add up to
length-objects : (objects : List Object) → length (flat_map object_bytes objects) ≡ objects_size objects
length-objects [] = refl
length-objects (o ∷ objects) = length-append (object_bytes o) (flat_map object_bytes objects)
    ∙ omega (arith, length-object o, length-objects objects)

-- the data are the depth word and the objects
pub length-data : (objects : List Object) → length (data_bytes objects) ≡ 4 + objects_size objects
length-data objects = length-append (zeros 4) (flat_map object_bytes objects)
    ∙ omega (arith, length-zeros 4, length-objects objects)
