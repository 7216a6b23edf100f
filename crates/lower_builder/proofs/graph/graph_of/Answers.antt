use Rattle.std.proofs.Common.{◌≡◌, ◌∷◌, ◌++◌, [], ℕ, length, map, take, drop, suc, ap, arith, sym, subst, ◌∙◌}
use Rattle.std.proofs.lemmas.Iterator.Adapters.{YieldsList-from_vec}
use Rattle.std.proofs.lemmas.Iterator.Consumers.{YieldsList-end, YieldsList-turn}
use Rattle.std.proofs.lemmas.List.{length_push, take_all}
use Rattle.flow_graph.specs.Graphs.{Flow}
use Rattle.lower_lines.specs.Lines.{graph_of_lines, open_after}
use Rattle.lower_builder.specs.Built.{line_of}
use Rattle.lower_builder.specs.Graphs.{AllFit, AreClosed, CanFollow, graph_behind, last_behind}
use Rattle.lower_builder.proofs.Building.{can-follow, front-more, graph-behind, last-behind, parted}
use Rattle.lower_builder.proofs.graph.graph_of.Goals as goal

pub follow-requires : goal.follow-requires
follow-requires c =
    let xs = c.args.lines.items in
    let e = YieldsList-from_vec {s = c.into_iter-line-iterator.result} xs
    c.into_iter-line-iterator.ensures.into_iter_gives.0
    (c.into_iter-line-iterator.ensures.into_iter_gives.1 ∙ c.args.lines.ok.0) in
    let t = YieldsList-turn e c.loop-line.yielded c.loop-line.line-iterator c.loop-line.yielded_by c.next.result
    c.next.new.self c.in-Some.line c.in-Some.is c.next.ensures.steps in
    let k = length c.loop-line.yielded in
    let x = c.in-Some.line in
    let whole = parted line_of xs k x t.0 t.1 in
    let before = map line_of (take k xs) in
    let follows = can-follow c.args.widths.now c.args.arrays.now c.args.blocks before (line_of x)
    (map line_of (drop (suc k) xs))
    (subst (AreClosed c.args.blocks) whole c.requires.closed)
    (subst (AllFit (graph_of_lines c.args.widths.now c.args.arrays.now c.args.blocks [])) whole c.requires.fit) in
    subst (λ (g : Flow). CanFollow g c.loop-line.last (line_of x)) (sym c.loop-line.invariant.graph)
    (subst (λ (n : ℕ). CanFollow (graph_of_lines c.args.widths.now c.args.arrays.now c.args.blocks before) n
    (line_of x))
    (sym c.loop-line.invariant.last) follows)

pub loop-line-preserved : goal.loop-line-preserved
loop-line-preserved c =
    let xs = c.args.lines.items in
    let e = YieldsList-from_vec {s = c.into_iter-line-iterator.result} xs
    c.into_iter-line-iterator.ensures.into_iter_gives.0
    (c.into_iter-line-iterator.ensures.into_iter_gives.1 ∙ c.args.lines.ok.0) in
    let t = YieldsList-turn e c.loop-line.yielded c.loop-line.line-iterator c.loop-line.yielded_by c.next.result
    c.next.new.self c.in-Some.line c.in-Some.is c.next.ensures.steps in
    let k = length c.loop-line.yielded in
    let x = c.in-Some.line in
    let whole = parted line_of xs k x t.0 t.1 in
    let before = map line_of (take k xs) in
    let graph = graph_of_lines c.args.widths.now c.args.arrays.now c.args.blocks in
    let more : before ++ line_of x ∷ [] ≡ map line_of (take (length (c.loop-line.yielded ++ x ∷ [])) xs) =
    let length-more : suc k ≡ length (c.loop-line.yielded ++ x ∷ []) =
    omega (arith, length_push c.loop-line.yielded x) in
    sym (front-more line_of xs k x t.0 t.1)
    ∙ ap (λ (n : ℕ). map line_of (take n xs)) length-more in
    record {
      graph = c.in_ok-last.ensures.graph
          ∙ ap (λ (g : Flow). graph_behind g c.loop-line.last (line_of x)) c.loop-line.invariant.graph
          ∙ ap (λ (n : ℕ). graph_behind (graph before) n (line_of x)) c.loop-line.invariant.last
          ∙ graph-behind c.args.widths.now c.args.arrays.now c.args.blocks before (line_of x)
          (map line_of (drop (suc k) xs)) (subst (AreClosed c.args.blocks) whole c.requires.closed)
          ∙ ap graph more;
      last = c.in_ok-last.ensures.last
          ∙ ap (λ (n : ℕ). last_behind n (line_of x)) c.loop-line.invariant.last
          ∙ last-behind c.args.widths.now c.args.arrays.now c.args.blocks before (line_of x)
          ∙ ap (open_after 0) more;
    }

pub returns : goal.returns
returns c =
    let xs = c.args.lines.items in
    let e = YieldsList-from_vec {s = c.into_iter-line-iterator.result} xs
    c.into_iter-line-iterator.ensures.into_iter_gives.0
    (c.into_iter-line-iterator.ensures.into_iter_gives.1 ∙ c.args.lines.ok.0) in
    let t = YieldsList-end e c.loop-line.yielded c.loop-line.line-iterator c.loop-line.yielded_by c.next.result
    c.next.new.self c.in-None.is c.next.ensures.steps in
    let k = length c.loop-line.yielded in
    let whole : take k xs ≡ xs = take_all k xs (omega (arith, t.1)) in
    c.loop-line.invariant.graph
    ∙ ap (λ ls. graph_of_lines c.args.widths.now c.args.arrays.now c.args.blocks (map line_of ls)) whole
