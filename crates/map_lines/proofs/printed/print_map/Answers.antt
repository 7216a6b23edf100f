use Rattle.std.proofs.Common.{◌≡◌, ◌≤◌, ◌++◌, ℕ, List, [], get_or, length, map, Some, Vec, Global, sym, ap, ◌∙◌, subst, arith}
use Rattle.std.specs.Prelude.{slice_get, slice_index}
use Rattle.std.specs.List.{AllByRecursion, flat_map}
use Rattle.std.proofs.lemmas.List.{length-map}
use Rattle.std.proofs.lemmas.Option.{get_or_from_slice_get, slice_get-get_or}
use Rattle.c_tree.specs.declared.program.Function.{Function}
use Rattle.c_tree.specs.declared.program.StaticObject.{StaticObject}
use Rattle.c_tree.specs.Erased.{function_of, object_of, program_of}
use Rattle.map_text.specs.Words.{TitleLine, function_lines, line_text, numbered, object_lines}
use Rattle.map_lines.specs.declared.home.Home.{Home}
use Rattle.map_lines.specs.Parts.{objects_at}
use Rattle.map_lines.specs.MapOf.{function_over, map_of}
use Rattle.map_lines.specs.Printing.{address_in, graph_of, home_of}
use Rattle.map_lines.proofs.FunctionTexts.{can-at, functions-past, functions-put, made-at, map-put, small-objects}
use Rattle.map_lines.proofs.printed.print_map.Goals as goal

abbrev entries : Vec ℕ Global → List ℕ
entries v = v.items

pub print_objects-requires-clause-small : goal.print_objects-requires-clause-small
print_objects-requires-clause-small c =
    subst (λ (os : List StaticObject). AllByRecursion (λ (o : StaticObject). length o.elements.items ≤ 0xffffffff) os)
    (sym c.as_slice.ensures.value)
    (small-objects 0xffffffff c.args.program.now.objects.items c.requires.few_elements)

pub print_function-requires : goal.print_function-requires
print_function-requires c =
    let fs = c.args.program.now.functions.items in
    let i = c.loop-number.number in
    let x = c.function-item.result in
    let home = c.index-homes-number.result in
    let v = c.index-points-number.result in
    let same = c.deref-function-items.ensures.value in
    let h = rw same at c.loop-number-test.true in
    let is = rw same at c.function-item.is in
    let long = length-map fs function_of in
    let many = length-map c.args.points.now entries in
    let one : slice_get (map function_of fs) i ≡ Some (function_of x) =
    made-at function_of fs i x h ∙ ap (λ (y : Function). Some (function_of y)) (sym is) in
    let two : slice_get c.args.homes.now i ≡ Some home =
    slice_get-get_or c.args.homes.now i home (omega (arith, h, long, c.requires.as_many_homes))
    ∙ ap (λ (y : Home). Some y) (sym c.index-homes-number.is) in
    let three : slice_get (map entries c.args.points.now) i ≡ Some (entries v) =
    made-at entries c.args.points.now i v (omega (arith, h, long, many, c.requires.as_many_points))
    ∙ ap (λ (y : Vec ℕ Global). Some (entries y)) (sym c.index-points-number.is) in
    can-at (program_of c.args.program.now) c.args.homes.now c.args.objects.now (map entries c.args.points.now)
    c.requires i (function_of x) home (entries v) c.as_slice-addresses.result.now one two three
    c.as_slice-addresses.ensures.value

pub loop-number-preserved : goal.loop-number-preserved
loop-number-preserved c =
    let fs = c.args.program.now.functions.items in
    let homes = c.args.homes.now in
    let i = c.loop-number.number in
    let x = c.function-item.result in
    let home = c.index-homes-number.result in
    let v = c.index-points-number.result in
    let table = map entries c.args.points.now in
    let old = c.loop-number.out.items in
    let mine = c.as_slice-addresses.result.now in
    let same = c.deref-function-items.ensures.value in
    let h = rw same at c.loop-number-test.true in
    let is = rw same at c.function-item.is in
    let long = length-map fs function_of in
    let many = length-map c.args.points.now entries in
    let three : slice_get table i ≡ Some (entries v) =
    made-at entries c.args.points.now i v (omega (arith, h, long, many, c.requires.as_many_points))
    ∙ ap (λ (y : Vec ℕ Global). Some (entries y)) (sym c.index-points-number.is) in
    let read = get_or_from_slice_get table i (entries v) [] three ∙ sym c.as_slice-addresses.ensures.value in
    functions-put line_text _ old _ fs homes table i x home mine h
    (omega (arith, h, long, c.requires.as_many_homes)) read c.loop-number.invariant
    (c.in_ok-print_function.ensures
    ∙ ap (λ (f : Function). old ++ flat_map line_text (function_lines i
    (function_over (function_of f) (graph_of home) (home_of home) (λ p. slice_index mine p)))) is
    ∙ ap (λ (k : Home). old ++ flat_map line_text (function_lines i
    (function_over (function_of (get_or fs i x)) (graph_of k) (home_of k) (λ p. slice_index mine p))))
    c.index-homes-number.is)

pub returns : goal.returns
returns c =
    let program = program_of c.args.program.now in
    let homes = c.args.homes.now in
    let table = map entries c.args.points.now in
    let one = c.push_title.new.out.items in
    let two = c.print_objects.new.out.items in
    let done = rw c.deref-function-items.ensures.value at c.loop-number-test.false in
    map-put line_text (map_of program (map graph_of homes) (map home_of homes) c.args.objects.now (address_in table))
    one two c.loop-number.out.items _
    (c.in_ok-push_title.ensures ∙ ap (λ (t : List ℕ). t ++ line_text TitleLine) c.new-out.ensures.items)
    (c.in_ok-print_objects.ensures
    ∙ ap (λ (os : List StaticObject). one ++ flat_map line_text (numbered object_lines 0
    (objects_at (map object_of os) c.args.objects.now))) c.as_slice.ensures.value)
    (functions-past line_text _ _ c.args.program.now.functions.items c.loop-number.number _ _ _ done
    c.loop-number.invariant)
    c.in_ok-push_end.ensures
