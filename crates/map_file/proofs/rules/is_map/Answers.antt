use Rattle.std.proofs.Common.{List, arith, map, refl, subst, sym, true≢false}
use Rattle.std.specs.List.{All}
use Rattle.std.proofs.lemmas.List.{length-map}
use Rattle.map_text.specs.Maps.{IsMapObject}
use Rattle.map_text.specs.Rules.{IsMapFunction}
use Rattle.map_file.specs.Views.{function_of, map_of, object_of}
use Rattle.map_file.specs.declared.file.MapObject.{MapObject}
use Rattle.map_file.proofs.Deciding.{all_so, one_is, one_isnt}
use Rattle.map_file.proofs.rules.is_map.Goals as goal

pub returns-then-not-fine : goal.returns-then-not-fine
returns-then-not-fine c =
    let same = c.deref-function-items.ensures.value in
    let h = rw same at c.loop-function-test.true in
    let is = rw same at c.function-item.is in
    let m = map_of c.args.file.now in
    let none = one_isnt function_of (IsMapFunction m) c.args.file.now.functions.items c.loop-function.function-index
    c.function-item.result c.in_ok-fine.fine h is c.if-not-fine.true c.in_ok-fine.ensures in
    (λ e. absurd (true≢false (sym e)), λ is. none.1 is.functions)

pub loop-function-preserved : goal.loop-function-preserved
loop-function-preserved c =
    let same = c.deref-function-items.ensures.value in
    let h = rw same at c.loop-function-test.true in
    let is = rw same at c.function-item.is in
    let m = map_of c.args.file.now in
    one_is function_of (IsMapFunction m) c.args.file.now.functions.items c.loop-function.function-index
    c.function-item.result c.in_ok-fine.fine h is c.if-not-fine.false c.in_ok-fine.ensures c.loop-function.invariant

pub returns : goal.returns
returns c =
    let past = rw c.deref-function-items.ensures.value at c.loop-function-test.false in
    let m = map_of c.args.file.now in (
      λ e. record {
        objects = subst (λ (os : List MapObject). All IsMapObject (map object_of os)) c.as_slice.ensures.value
            (c.are_objects.ensures.0 c.if-not-are_objects.false);
        few_objects = omega (
          arith,
          c.len.ensures,
          c.if-len-gt-NUMBERS.false,
          length-map c.args.file.now.objects.items object_of,
        );
        functions = all_so function_of (IsMapFunction m) c.args.file.now.functions.items c.loop-function.function-index
            past c.loop-function.invariant;
        few_functions = omega (
          arith,
          c.len-else-len-gt-NUMBERS.ensures,
          c.if-len-gt-NUMBERS-2.false,
          length-map c.args.file.now.functions.items function_of,
        );
      },
      λ is. refl,
    )
