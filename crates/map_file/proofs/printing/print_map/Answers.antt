use Rattle.std.proofs.Common.{arith}
use Rattle.std.proofs.lemmas.List.{length-map}
use Rattle.map_file.specs.Numbered.{HasNumberedParts}
use Rattle.map_file.specs.Views.{array_of, block_of, function_of, variable_of}
use Rattle.map_file.proofs.Texts.{made_at}
use Rattle.map_file.proofs.printing.print_map.Goals as goal

pub print_function-requires-clause-arrays : goal.print_function-requires-clause-arrays
print_function-requires-clause-arrays c =
    let same = c.deref-function-items.ensures.value in
    let h = rw same at c.loop-number-test.true in
    let is = rw same at c.function-item.is in
    let f = c.function-item.result in
    let ok = made_at function_of HasNumberedParts c.args.map.now.functions.items c.loop-number.number f
    c.requires.parts h is in
    omega (arith, ok.arrays, length-map f.arrays.items array_of)

pub print_function-requires-clause-variables : goal.print_function-requires-clause-variables
print_function-requires-clause-variables c =
    let same = c.deref-function-items.ensures.value in
    let h = rw same at c.loop-number-test.true in
    let is = rw same at c.function-item.is in
    let f = c.function-item.result in
    let ok = made_at function_of HasNumberedParts c.args.map.now.functions.items c.loop-number.number f
    c.requires.parts h is in
    omega (arith, ok.variables, length-map f.vars.items variable_of)

pub print_function-requires-clause-blocks : goal.print_function-requires-clause-blocks
print_function-requires-clause-blocks c =
    let same = c.deref-function-items.ensures.value in
    let h = rw same at c.loop-number-test.true in
    let is = rw same at c.function-item.is in
    let f = c.function-item.result in
    let ok = made_at function_of HasNumberedParts c.args.map.now.functions.items c.loop-number.number f
    c.requires.parts h is in
    omega (arith, ok.blocks, length-map f.blocks.items block_of)
