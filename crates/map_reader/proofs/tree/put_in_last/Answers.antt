use Rattle.std.proofs.Common.{◌-◌, List, ap, ◌∙◌, arith}
use Rattle.map_text.specs.Maps as maps
use Rattle.map_file.specs.declared.file.MapFunction.{MapFunction}
use Rattle.map_file.specs.Views.{function_of, map_of}
use Rattle.map_reader.specs.Parts.{function_put}
use Rattle.map_reader.specs.Views.{line_of}
use Rattle.map_reader.proofs.Trees.{last_put}
use Rattle.map_reader.proofs.tree.put_in_last.Goals as goal

pub returns : goal.returns
returns c =
    let change = function_put (line_of c.args.line) in
    ap (λ (functions : List maps.MapFunction). record (map_of c.args.map.now) { functions = functions })
    (last_put function_of change c.args.map.now.functions.items (c.len-count.result - 1) _
    c.put_in_function.new.function
    (omega (arith, c.len-count.ensures, c.if-count-eq0.false))
    (c.in_ok-put_in_function.ensures ∙ ap (λ (f : MapFunction). change (function_of f)) c.index_mut.ensures.value))
