-- The values of the bytes so far stand behind the others.
use Rattle.std.proofs.Common.{◌≡◌, ◌++◌, pos, map, take}
use Rattle.c_tree.specs.Store.{converted}
use Rattle.c_tree.specs.declared.types.IntegerType.TheVariants.{Char}
use Rattle.c_check_expressions.proofs.texts.add_bytes.Given as goal

abbrev pub invariant-loop-byte : goal.invariant-loop-byte
invariant-loop-byte l = l.values.items
    ≡ l.initial.values.items ++ map (λ byte. converted Char (pos byte)) (take l.byte-index l.bytes)
