use Rattle.std.proofs.Common.{◌≡◌, false, rules, tests}
use Rattle.std.proofs.lemmas.Iterator.{cases_from_all, YieldsList-from_slice}
use Rattle.flow_graph.specs.Graphs.{is_end}
use Rattle.map_text.specs.Maps.{MapPoint}
use Rattle.map_file.specs.Views.{point_of}
use Rattle.map_file.proofs.Deciding.{decided}
use Rattle.map_file.proofs.points.are_no_ends.Goals as goal

pub returns : goal.returns
returns c =
    decided (λ (p : MapPoint). is_end p.op ≡ false) point_of c.args.points.now c.all.result
    (cases_from_all _ _ _ (λ x. is_end x.op ≡ false) (λ x. is_end x.op ≡ false → ⊥) c.all.ensures.ran
    (YieldsList-from_slice c.args.points.now cc) (λ x q k. search (rules, tests)) (λ x q k. search (rules, tests)))
