use Rattle.std.proofs.Common.{map, rules, tests}
use Rattle.std.proofs.lemmas.Iterator.{cases_from_all, YieldsList-from_slice}
use Rattle.flow_graph.specs.Graphs.{IsMet}
use Rattle.flow_graph.specs.Shapes.{two}
use Rattle.map_text.specs.Maps.{flow_of}
use Rattle.map_file.specs.Views.{function_of}
use Rattle.map_file.proofs.Deciding.{decided, decided_by}
use Rattle.map_file.proofs.needs.words.Goals as goal

pub returns : goal.returns
returns c =
    let flow = flow_of (function_of c.args.function.now) in
    decided_by (IsMet flow) (map two c.args.list.now) c.all.result
    (decided (IsMet flow) two c.args.list.now c.all.result
    (cases_from_all _ _ _ (λ x. IsMet flow (two x)) (λ x. IsMet flow (two x) → ⊥)
    c.all.ensures.ran (YieldsList-from_slice c.args.list.now cc) (λ x q k. search (rules, tests))
    (λ x q k. search (rules, tests))))
